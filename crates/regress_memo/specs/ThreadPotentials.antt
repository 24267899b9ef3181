-- Potentials of threads, given by a table that is checked at each instruction, and the costs of
-- memo steps.
use Rattle.std.specs.Prelude.{◌≡◌, ◌≤◌, ℕ, ◌+◌, ◌*◌, Bool, true, false, not, nat_le, nat_lt, ◌&&◌, ◌||◌, ◌==◌, List, [], ◌∷◌, ◌++◌, map, length, flat_map, Option, Some, None, slice_get}
use Rattle.std.specs.List.{sum_by}
use Rattle.regex_meaning.specs.Laws.{Each}
use Rattle.regex_meaning.specs.NumberListHelpers.{numbers_from}
use Rattle.regex_meaning.specs.Text.{Text, Direction, rightwards, leftwards}
use Rattle.regex_meaning.specs.CodeUnitOffsets.{HasRisingPlaceOffsets, units}
use Rattle.regex_meaning.specs.CompilationRelation.{Program, Insn, Goal, JustFail, Alt, Jump, EnterLoop, LoopAgain, Loop1CharBody, Lookahead, Lookbehind}
use Rattle.regress_machine.specs.Machine.{State, Thread, running, waiting, goes, scans, act}
use Rattle.regress_machine.specs.ThreadSimulation.{Simulates, AllFindNothing}
use Rattle.regress_memo.specs.Liveness.{Liveness, IsLivenessFor}
use Rattle.regress_memo.specs.MemoKeys.{IsSoundState, SamePlace, SameKey, NoGroupsAreLive, OnlyPositionsAreLive}
use Rattle.regress_memo.specs.DistinctLists.{IsNew, AreDistinct}
use Rattle.regress_memo.specs.MemoSearch.{Key, Keys, Entry, one_thread, key_record, thread_entries, threads_in, keys_in, IsBare, entry_potential, AreOnward, GoesOnward, KeyStandsFor, AreKeys}
use Rattle.regress_memo.specs.MemoSearch.{IsMemoStep}

-- ---- Potentials

-- Two tables by instruction: the potential of a running thread there, and of the threads that the
-- instruction leaves.
pub record Potentials : Type 0 where
  pub at : ℕ → ℕ
  pub left : ℕ → ℕ

module _ (w : Potentials) where
  -- The potential of a thread. A waiting thread needs one unit more, because it has to be resumed.
  abbrev pub potential_of : Thread → ℕ
  potential_of (running s) = w.at s.ip
  potential_of (waiting s) = w.at s.ip + 1

  -- The potential left by the instruction covers one thread.
  abbrev pub CoversOne : (ip next : ℕ) → Type 0
  CoversOne ip next = w.at next ≤ w.left ip

  -- The potential left by the instruction covers two threads, of which one waits.
  abbrev pub CoversTwo : (ip next other : ℕ) → Type 0
  CoversTwo ip next other = w.at next + w.at other + 1 ≤ w.left ip

  -- The potential left by the end of an iteration covers another iteration and the exit.
  abbrev pub CoversRepeat : Option Insn → (ip begin : ℕ) → Type 0
  CoversRepeat (Some (EnterLoop f)) ip begin = CoversTwo ip (begin + 1) f.exit
  CoversRepeat _ ip begin = Unit {0}

  -- The potential left by the instruction covers the threads at its successors.
  abbrev pub CoversInsn : Program → Option Insn → (ip : ℕ) → Type 0
  CoversInsn program (Some Goal) ip = Unit {0}
  CoversInsn program (Some JustFail) ip = Unit {0}
  CoversInsn program (Some (Alt secondary)) ip = CoversTwo ip (ip + 1) secondary
  CoversInsn program (Some (Jump target)) ip = CoversOne ip target
  CoversInsn program (Some (EnterLoop f)) ip = CoversTwo ip (ip + 1) f.exit
  CoversInsn program (Some (LoopAgain begin)) ip = CoversRepeat (slice_get program.insns begin) ip begin
  CoversInsn program (Some (Loop1CharBody least most greedy)) ip = Unit {0}
  CoversInsn program (Some (Lookahead negate start_group end_group continuation)) ip = CoversOne ip continuation
  CoversInsn program (Some (Lookbehind negate start_group end_group continuation)) ip = CoversOne ip continuation
  CoversInsn program None ip = Unit {0}
  CoversInsn program (Some x) ip = CoversOne ip (ip + 1)

  -- The table covers each instruction of the program.
  pub record AreCovering (program : Program) : Type 0 where
    pub enough : (ip : ℕ) → CoversInsn program (slice_get program.insns ip) ip

-- ---- Keys of positions

-- Whether two directions are equal.
abbrev pub is_same_direction : Direction → Direction → Bool
is_same_direction rightwards rightwards = true
is_same_direction leftwards leftwards = true
is_same_direction _ _ = false

-- Whether the instruction is in the list.
abbrev pub is_one_of : List ℕ → ℕ → Bool
is_one_of [] ip = false
is_one_of (i ∷ ips) ip = (i == ip) || is_one_of ips ip

-- The keys of an instruction: one for each offset up to `top` and each code below `codes`.
abbrev pub keys_of_insn_at_offsets : (ip top codes : ℕ) → List Key
keys_of_insn_at_offsets ip top codes = flat_map (λ code. map (λ at. record { ip = ip; at = at; code = code })
    (numbers_from 0 (top + 1))) (numbers_from 0 codes)

-- The keys of several instructions, each with its own number of codes.
abbrev pub keys_of_insns_at_offsets : (ips : List ℕ) (top : ℕ) (codes : ℕ → ℕ) → List Key
keys_of_insns_at_offsets ips top codes = flat_map (λ ip. keys_of_insn_at_offsets ip top (codes ip)) ips

-- The shape of a thread: whether it runs, its instruction and offset, and the code of the live data
-- of its loops.
pub record Shape : Type 0 where
  pub runs : Bool
  pub ip : ℕ
  pub pos : ℕ
  pub code : ℕ

-- The code distinguishes all live data of the loops of sound states at one position.
pub record Distinguishes (a : Liveness) (top : ℕ) (code : State → ℕ) : Type 0 where
  pub tells : (d : Direction) (s t : State) → IsSoundState a top d s → IsSoundState a top d t → SamePlace s t
      → code s ≡ code t → SameKey a s t

module _ (program : Program) (code : State → ℕ) where
  -- Whether a state of this program has the shape.
  abbrev pub stands_there : Shape → State → Bool
  stands_there x s =
      (s.ip == x.ip) && ((s.pos == x.pos) && ((code s == x.code)
      && ((length s.groups == program.groups) && ((length s.starts == program.groups)
      && (length s.loops == program.loops)))))

  -- Whether the threads have these shapes, in this order.
  abbrev pub has_shape : List Shape → List Thread → Bool
  has_shape [] [] = true
  has_shape (x ∷ xs) (running s ∷ ts) = x.runs && (stands_there x s && has_shape xs ts)
  has_shape (x ∷ xs) (waiting s ∷ ts) = not x.runs && (stands_there x s && has_shape xs ts)
  has_shape _ _ = false

  -- The keys of recording instructions, each of which is searched in one direction. The shapes of
  -- threads decide which threads a key stands for: one running thread at the key's instruction and
  -- offset, or all threads that a char loop leaves from the offset on.
  module _ (way : ℕ → Direction) (ips : List ℕ) (top : ℕ) (codes : ℕ → ℕ) (rows : Key → List Shape) (taken : Key → ℕ)
    where
      -- Whether a key stands for these threads.
      abbrev pub is_place : Direction → Key → List Thread → Bool
      is_place d k ts = nat_lt k.code (codes k.ip) && (nat_le k.at
          top && (is_one_of ips k.ip && (is_same_direction (way k.ip) d && has_shape (rows k) ts)))

      -- The keys of positions and codes.
      abbrev pub place_keys : Keys
      place_keys = record { all = keys_of_insns_at_offsets ips top codes; is_of = is_place; taken = taken }

-- ---- Char loops

-- Each thread waits above a record of the threads up to and including it.
abbrev pub each_noted : (above : List Thread) → List (Thread × Key) → List Entry
each_noted above [] = []
each_noted above (x ∷ xs) = one_thread x.0 ∷ key_record x.1 (above ++ x.0 ∷ []) ∷ each_noted (above ++ x.0 ∷ []) xs

module _ (program : Program) (text : Text) (a : Liveness) (keys : Keys) (d : Direction) where
  -- Each key is new, stands for the threads up to and including its own, and has no step below its
  -- record.
  abbrev pub AreOfEach : (memory : List Key) (above : List Thread) → List (Thread × Key) → Type 0
  AreOfEach memory above [] = Unit {0}
  AreOfEach memory above (x ∷ xs) = (KeyStandsFor program text a keys d x.1 (above ++ x.0 ∷ []) × (keys.taken x.1 ≡ 0)
      × IsNew x.1 memory) × AreOfEach memory (above ++ x.0 ∷ []) xs

-- ---- Laws

module _ (program : Program) (text : Text) (a : Liveness) (keys : Keys) (d : Direction) (memory : List Key) where
  -- The steps of an executor are memo steps.
  pub record ExecutorMemoSteps : Type 0 where
    -- A step without a record.
    pub passed : (n : ℕ) (bare : List Entry) (ts : List Thread) → IsBare bare
        → Simulates program text false d n (threads_in bare) ts → GoesOnward d ts bare
        → IsMemoStep program text a keys d memory ts bare
    -- A step with a record of what was current. That is a thread, or waiting positions of a lazy
    -- char loop of which the first one is resumed.
    pub made : (n : ℕ) (bare : List Entry) (ts : List Thread) (k : Key) → IsBare bare
        → Simulates program text false d n (threads_in bare) ts → KeyStandsFor program text a keys d k ts
        → 1 ≤ keys.taken k → keys.taken k ≤ n → IsNew k memory
        → GoesOnward d ts (bare ++ key_record k ts ∷ [])
        → IsMemoStep program text a keys d memory ts (bare ++ key_record k ts ∷ [])
    -- A char loop. Its first positions are known to fail. Each other position has a record of the
    -- positions up to it.
    pub run : (n : ℕ) (ts known : List Thread) (xs : List (Thread × Key))
        → Simulates program text false d n (known ++ map (λ x. x.0) xs) ts → 1 ≤ n → AllFindNothing program text d known
        → AreOfEach program text a keys d memory known xs → AreDistinct (map (λ x. x.1) xs)
        → GoesOnward d ts (each_noted known xs) → IsMemoStep program text a keys d memory ts (each_noted known xs)

-- The steps of each executor are memo steps.
abbrev pub StepsAreMemoSteps : Type 0
StepsAreMemoSteps = (program : Program) (text : Text) (a : Liveness) (keys : Keys) (d : Direction) (memory : List Key)
    → ExecutorMemoSteps program text a keys d memory

-- In a rightward search, no instruction and no char loop leads to a smaller offset.
pub record RightwardInsnsNeverMoveLeft : Type 0 where
  pub goes : (program : Program) (text : Text) → HasRisingPlaceOffsets text → (s : State) (ts : List Thread)
      → act program text rightwards s ≡ goes ts → AreOnward s.pos (thread_entries ts)
  pub scans : (program : Program) (text : Text) → HasRisingPlaceOffsets text → (s : State) (n : ℕ) (ts : List Thread)
      → act program text rightwards s ≡ scans n ts → AreOnward s.pos (thread_entries ts)
  -- Nor does a step with a record below its threads.
  pub noted : (from : ℕ) (ts us : List Thread) (k : Key) → AreOnward from (thread_entries ts) → k.at ≡ from
      → AreOnward from (thread_entries ts ++ key_record k us ∷ [])

-- The potential of the threads that an instruction leaves is at most its entry in the table.
pub record ThreadsLeftFitInsnPotentials : Type 0 where
  pub weighed : (program : Program) (text : Text) (w : Potentials) → AreCovering w program
      → (d : Direction) (s : State) (ts : List Thread) → act program text d s ≡ goes ts
      → sum_by (potential_of w) ts ≤ w.left s.ip
  -- There is a table that covers all programs. With it, a cost of four units covers each key.
  pub each : (program : Program) → AreCovering (record { at = λ ip. 1; left = λ ip. 3 }) program

-- The potential of a char loop that records each position, plus the costs of these keys, covers its
-- step. Each key covers a character, a thread and a record.
abbrev pub KeysCoverRecordedExits : Type 0
KeysCoverRecordedExits = (key_cost : Key → ℕ) (weight : List Thread → ℕ) (known : List Thread)
    (xs : List (Thread × Key)) (first ready more : ℕ) → first ≤ ready → more ≤ first + length xs
    → Each (λ x. weight (x.0 ∷ []) + 2 ≤ key_cost x.1) xs
    → more + sum_by (entry_potential weight) (each_noted known xs)
    ≤ ready + sum_by key_cost (keys_in (each_noted known xs))

-- If a code distinguishes the live data of loops, then instructions, offsets and codes are keys,
-- also of lists of threads. The cost of all keys is the sum over recording instructions of cost
-- times codes, times the number of offsets. If positions alone decide, one code is enough.
pub record OffsetsAndCodesAreKeys : Type 0 where
  pub are : (program : Program) (text : Text) (a : Liveness) (way : ℕ → Direction) (ips : List ℕ) (code : State → ℕ)
      (codes : ℕ → ℕ) (rows : Key → List Shape) (taken : Key → ℕ) → IsLivenessFor program text a
      → NoGroupsAreLive a → Distinguishes a (units text) code
      → AreKeys program text a (place_keys program code way ips (units text) codes rows taken)
  pub cost : (ips : List ℕ) (top : ℕ) (codes key_cost : ℕ → ℕ)
      → sum_by (λ (k : Key). key_cost k.ip) (keys_of_insns_at_offsets ips top codes)
      ≡ sum_by (λ ip. key_cost ip * codes ip) ips * (top + 1)
  pub alone : (a : Liveness) (top : ℕ) → OnlyPositionsAreLive a → Distinguishes a top (λ s. 0)
