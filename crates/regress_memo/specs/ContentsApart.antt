-- The contents of lookarounds are apart from the instructions around them: control enters them only
-- by the lookaround, and leaves them only at their end. So the keys of contents are not pending in
-- the search around them.
use Rattle.std.specs.Prelude.{◌≡◌, ◌<◌, ℕ, ◌+◌, Bool, true, not, nat_lt, ◌&&◌, List, [], ◌∷◌, ◌++◌, Option, Some, slice_get, if◌then◌else◌}
use Rattle.regex_meaning.specs.Laws.{Each}
use Rattle.regex_meaning.specs.Text.{Text, Direction}
use Rattle.regex_meaning.specs.CompilationRelation.{Program, Insn, EnterLoop, Loop1CharBody}
use Rattle.regress_machine.specs.Machine.{State, Thread, running, goes, scans, after_lookaround, state_with_ip, act}
use Rattle.regress_memo.specs.Liveness.{Liveness}
use Rattle.regress_memo.specs.SkippedLookarounds.{LookaroundInsn, lookaround_at}
use Rattle.regress_memo.specs.DistinctLists.{IsNew}
use Rattle.regress_memo.specs.MemoSearch.{Key, Entry, one_thread, key_record, thread_entries, threads_in, keys_in}
use Rattle.regress_memo.specs.ThreadPotentials.{each_noted}
use Rattle.regress_memo.specs.LoopDataKeyCodes.{Question}
use Rattle.regress_memo.specs.CharLoopExitThreadLists.{greedy_loop_threads, pending_loop_threads}
use Rattle.regress_memo.specs.UnboundedCharLoops.{placed}
use Rattle.regress_memo.specs.declared.successors.Successors.{Successors}
use Rattle.regress_memo.specs.declared.successors.Successors.TheVariants.{Ends, One, Two, Enter, Again, Run, LookaroundSuccessor, Same}
use Rattle.regress_memo.specs.Successors.{successors_of_insn_if_any}
use Rattle.regress_memo.specs.CheckedAnalysis.{ip_of}

-- Whether the instruction is between the lookaround at `from` and the instruction `past` after it.
abbrev pub is_in_contents : (from past ip : ℕ) → Bool
is_in_contents from past ip = nat_lt from ip && nat_lt ip past

-- Whether the instruction is outside these contents.
abbrev pub is_outside_contents : (from past ip : ℕ) → Bool
is_outside_contents from past ip = not (is_in_contents from past ip)

-- Whether an instruction is on the same side of these contents as `ip`.
abbrev pub is_on_side_of : (from past ip other : ℕ) → Bool
is_on_side_of from past ip other = if is_in_contents from past ip then is_in_contents from past other
    else is_outside_contents from past other

-- ---- Sides: sets of instructions that control does not leave

module _ (side : ℕ → Bool) (program : Program) where
  -- If the instruction is a loop head, the start of the loop's body and its exit are on the side.
  abbrev pub RepeatsOnSide : Option Insn → (begin : ℕ) → Type 0
  RepeatsOnSide (Some (EnterLoop f)) begin = (side (begin + 1) ≡ true) × (side f.exit ≡ true)
  RepeatsOnSide _ begin = Unit {0}

  -- The successors of an instruction are on the side. The body of a char loop is one of them.
  abbrev pub FlowsOnSide : Successors → (ip : ℕ) → Type 0
  FlowsOnSide Ends ip = Unit {0}
  FlowsOnSide (One n) ip = side n.to ≡ true
  FlowsOnSide (Two other) ip = (side (ip + 1) ≡ true) × (side other ≡ true)
  FlowsOnSide (Enter f) ip = (side (ip + 1) ≡ true) × (side f.exit ≡ true)
  FlowsOnSide (Again begin) ip = RepeatsOnSide (slice_get program.insns begin) begin
  FlowsOnSide (Run b) ip = (side (ip + 1) ≡ true) × (side (ip + 2) ≡ true)
  FlowsOnSide (LookaroundSuccessor l) ip = side l.past ≡ true
  FlowsOnSide Same ip = side (ip + 1) ≡ true

  -- Control does not leave the side.
  pub record StaysOnSide : Type 0 where
    pub stays : (ip : ℕ) → side ip ≡ true
        → FlowsOnSide (successors_of_insn_if_any ip (slice_get program.insns ip)) ip

  -- Control does not leave the side, and what follows a char loop is on the side only with the loop.
  pub record IsSide : Type 0 where
    pub closed : StaysOnSide
    pub loops : (ip least most : ℕ) (greedy : Bool) → slice_get program.insns ip ≡ Some (Loop1CharBody least most greedy)
        → side (ip + 2) ≡ true → side ip ≡ true

-- A side that has the contents of each lookaround on it: all instructions, or those of contents.
pub record IsArea (side : ℕ → Bool) (program : Program) : Type 0 where
  pub is_side : IsSide side program
  pub contents : (ip : ℕ) (l : LookaroundInsn) → side ip ≡ true → lookaround_at (slice_get program.insns ip) ≡ Some l
      → (inner : ℕ) → is_in_contents ip l.continuation inner ≡ true → side inner ≡ true

-- The contents of a lookaround have an instruction, and control neither leaves nor enters them.
pub record IsApart (from past : ℕ) (program : Program) : Type 0 where
  pub some : from + 1 < past
  pub inside : StaysOnSide (is_in_contents from past) program
  pub outside : StaysOnSide (is_outside_contents from past) program

-- The contents of a lookaround are apart. Other instructions satisfy this.
abbrev pub IsApartIfLookaround : Program → Successors → (ip : ℕ) → Type 0
IsApartIfLookaround program (LookaroundSuccessor l) ip = IsApart ip l.past program
IsApartIfLookaround program _ ip = Unit {0}

-- The contents of each lookaround are apart.
pub record ContentsAreApart (program : Program) : Type 0 where
  pub apart : (ip : ℕ) (l : LookaroundInsn) → lookaround_at (slice_get program.insns ip) ≡ Some l
      → IsApart ip l.continuation program

-- ---- Searches on a side

-- The threads and the records of the entries are at instructions on the side.
pub record AreOnSide (side : ℕ → Bool) (row : List Entry) : Type 0 where
  pub threads : Each (λ u. side (ip_of u) ≡ true) (threads_in row)
  pub records : Each (λ k. side k.ip ≡ true) (keys_in row)

-- A search on a side, which began with the memo table `memory`: its threads and records are on the
-- side, but not in the contents of lookarounds there. The keys that it learned are on the side.
pub record IsSearchApart (side : ℕ → Bool) (program : Program) (memory now : List Key) (row : List Entry) : Type 0 where
  pub own : AreOnSide side row
  pub apart : (ip : ℕ) (l : LookaroundInsn) → side ip ≡ true → lookaround_at (slice_get program.insns ip) ≡ Some l
      → AreOnSide (is_outside_contents ip l.continuation) row
  pub new : List Key
  pub now_is : now ≡ new ++ memory
  pub learned : Each (λ k. side k.ip ≡ true) new

module _ (side : ℕ → Bool) (program : Program) (text : Text) (d : Direction) (s : State) where
  -- What a step leaves is on the side of its instruction.
  pub record StepStaysOnSide : Type 0 where
    pub goes : (ts : List Thread) → act program text d s ≡ goes ts → Each (λ u. side (ip_of u) ≡ true) ts
    pub scans : (n : ℕ) (ts : List Thread) → act program text d s ≡ scans n ts → Each (λ u. side (ip_of u) ≡ true) ts
    pub looks : (l : LookaroundInsn) (end : Option State) → lookaround_at (slice_get program.insns s.ip) ≡ Some l
        → Each (λ u. side (ip_of u) ≡ true) (after_lookaround l.negate (state_with_ip l.continuation s) end)

-- The body of a char loop, whose keys are those of the loop, and what follows the loop.
pub record LoopStaysOnSide (side : ℕ → Bool) (ip : ℕ) : Type 0 where
  pub body : side (ip + 1) ≡ true
  pub on : side (ip + 2) ≡ true

module _ (side : ℕ → Bool) (text : Text) (d : Direction) (test : ℕ → Bool) (place : ℕ) (s : State) where
  -- The threads and keys of a char loop are on the side of its body and of what follows it.
  pub record LoopThreadsStayOnSide : Type 0 where
    pub greedy : (least : ℕ) → Each (λ u. side (ip_of u) ≡ true) (greedy_loop_threads text test d least place s)
    pub waits : (least : ℕ) → Each (λ u. side (ip_of u) ≡ true) (pending_loop_threads text test d least place s)
    pub exits : (program : Program) (a : Liveness) (questions : ℕ → List Question) (way : ℕ → Direction) (ips : List ℕ)
        (taken : Key → ℕ) (known : List Thread) (least count : ℕ)
        → AreOnSide side (each_noted known (placed program text a questions way ips taken d test s place least count))

-- ---- Laws

-- Steps stay inside contents, or outside of them.
pub record StepsStayOnSide : Type 0 where
  -- All instructions are a side, and apart contents separate two sides.
  pub all : (program : Program) → IsArea (λ ip. true) program
  pub inside : (from past : ℕ) (program : Program) → IsApart from past program
      → IsArea (is_in_contents from past) program
  pub outside : (from past : ℕ) (program : Program) → IsApart from past program
      → IsSide (is_outside_contents from past) program
  pub steps : (side : ℕ → Bool) (program : Program) → StaysOnSide side program
      → (text : Text) (d : Direction) (s : State) → side s.ip ≡ true → StepStaysOnSide side program text d s
  -- A char loop, also if its threads wait behind it.
  pub loops : (side : ℕ → Bool) (program : Program) → IsSide side program
      → (ip least most : ℕ) (greedy : Bool) → slice_get program.insns ip ≡ Some (Loop1CharBody least most greedy)
      → side (ip + 2) ≡ true → LoopStaysOnSide side ip
  pub loop_begins : (side : ℕ → Bool) (program : Program) → StaysOnSide side program
      → (ip least most : ℕ) (greedy : Bool) → slice_get program.insns ip ≡ Some (Loop1CharBody least most greedy)
      → side ip ≡ true → LoopStaysOnSide side ip
  pub loop_threads : (side : ℕ → Bool) (text : Text) (d : Direction) (test : ℕ → Bool) (place : ℕ) (s : State)
      → LoopStaysOnSide side s.ip → LoopThreadsStayOnSide side text d test place s
  pub loop_waits : (side : ℕ → Bool) (text : Text) (d : Direction) (test : ℕ → Bool) (place : ℕ) (s : State)
      → Each (λ u. side (ip_of u) ≡ true) (pending_loop_threads text test d 0 place s) → side (s.ip + 2) ≡ true

module _ (side : ℕ → Bool) (program : Program) (memory now : List Key) (rest : List Entry) where
  -- The steps of a search on a side keep it apart.
  pub record SearchStaysApart : Type 0 where
    -- Entries replace the first ones. On each side of the first ones, they are on it too.
    pub gives : (front entries : List Entry)
        → ((other : ℕ → Bool) → IsSide other program → AreOnSide other front → AreOnSide other entries)
        → IsSearchApart side program memory now (front ++ rest) → IsSearchApart side program memory now (entries ++ rest)
    pub reaches : (k : Key) (ts : List Thread) → IsSearchApart side program memory now (key_record k ts ∷ rest)
        → IsSearchApart side program memory (k ∷ now) rest
    -- The search of a lookaround's contents is finished. Its keys are on the side, and those of its
    -- records become known if it has found an end.
    pub looks : (s : State) (l : LookaroundInsn) (now' : List Key) (row : List Entry) (end : Option State)
        → lookaround_at (slice_get program.insns s.ip) ≡ Some l
        → IsSearchApart (is_in_contents s.ip l.continuation) program now now' row
        → IsSearchApart side program memory now (one_thread (running s) ∷ rest)
        → IsSearchApart side program memory (keys_in row ++ now')
        (thread_entries (after_lookaround l.negate (state_with_ip l.continuation s) end) ++ rest)

-- The keys of contents, those that became known and those of records, are not pending outside.
pub record KeysOfContentsAreNotPending : Type 0 where
  -- A search begins at the first instruction of the program or of contents.
  pub begins : (program : Program) (memory : List Key) (s : State) → s.ip ≡ 0
      → IsSearchApart (λ ip. true) program memory memory (thread_entries (running s ∷ []))
  pub contents_begin : (program : Program) → ContentsAreApart program → (memory : List Key) (ip : ℕ) (l : LookaroundInsn)
      → lookaround_at (slice_get program.insns ip) ≡ Some l → (s : State) → s.ip ≡ ip + 1
      → IsSearchApart (is_in_contents ip l.continuation) program memory memory (thread_entries (running s ∷ []))
  pub stays : (side : ℕ → Bool) (program : Program) → IsArea side program → ContentsAreApart program
      → (memory now : List Key) (rest : List Entry) → SearchStaysApart side program memory now rest
  pub new : (side : ℕ → Bool) (program : Program) (memory now : List Key) (s : State) (rest : List Entry)
      (l : LookaroundInsn) → lookaround_at (slice_get program.insns s.ip) ≡ Some l
      → IsSearchApart side program memory now (one_thread (running s) ∷ rest) → (keys : List Key)
      → Each (λ k. is_in_contents s.ip l.continuation k.ip ≡ true) keys → Each (λ k. IsNew k (keys_in rest)) keys
