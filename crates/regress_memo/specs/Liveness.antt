-- Liveness analysis: which parts of a state an instruction may still need. The parts are groups,
-- starts of groups, and the data of loops.
use Rattle.std.specs.Prelude.{◌≡◌, ◌≤◌, ◌<◌, ℕ, ◌+◌, ◌-◌, min, Bool, true, false, ◌||◌, ◌==◌, List, [], ◌∷◌, length, Option, Some, None, IsTrue, nat_lt, slice_get}
use Rattle.regex_meaning.specs.Text.{Text, Direction, rightwards, leftwards}
use Rattle.regex_meaning.specs.CodeUnitOffsets.{HasRisingPlaceOffsets, units}
use Rattle.regex_meaning.specs.CompilationRelation.{Program, LoopFields, Insn, Goal, JustFail, Char, CharSet, ByteSet, ByteSeq, AsciiBracket, Bracket, MatchAny, MatchAnyExceptLineTerminator, Alt}
use Rattle.regex_meaning.specs.CompilationRelation.{Jump, EnterLoop, LoopAgain, Loop1CharBody, BeginCaptureGroup}
use Rattle.regex_meaning.specs.CompilationRelation.{EndCaptureGroup, BackRef, Lookahead, Lookbehind}
use Rattle.regress_machine.specs.Machine.{Thread, LoopData, State, running, search}
use Rattle.regress_machine.specs.TextsForBytePrograms.{HasUtf8CharactersAndOffsets}
use Rattle.regress_machine.specs.InsnEffects.{is_byte_sequence_insn}
use Rattle.regress_machine.specs.ThreadSimulation.{FindsNothing}
use Rattle.regress_memo.specs.ThreadBisimulation.{AlikeThreads, AlikeAnswers}

-- The result of the analysis. Data are live if they may still be needed.
pub record Liveness : Type 0 where
  -- Whether the groups are live.
  pub groups : Bool
  -- Whether the start of a group is live.
  pub start : (ip id : ℕ) → Bool
  -- Whether the loop encloses the instruction. The data of such a loop are live.
  pub inside : (ip l : ℕ) → Bool
  -- Whether the current iteration is known to have read a character.
  pub moved : (ip l : ℕ) → Bool
  -- Whether an instruction may still need to know if the current iteration has read a character.
  pub empty : (ip l : ℕ) → Bool
  -- The iteration count is live up to this number.
  pub up_to : (l : ℕ) → ℕ
  -- Whether the iteration count is never higher than `up_to`, so that all of it is live.
  pub counted : (l : ℕ) → Bool
  -- Whether the loop's data may be written by this instruction or a later one.
  pub writes : (ip l : ℕ) → Bool

-- ---- Soundness of the analysis at each instruction

module _ (a : Liveness) where
  -- The facts are consistent along an edge from `ip` to `next`. `reads` says whether it reads a
  -- character, `begun` which groups begin, and `entered` which loops are entered.
  pub record IsConsistentEdge (reads : Bool) (begun entered : ℕ → Bool) (ip next : ℕ) : Type 0 where
    pub start : (id : ℕ) → a.start next id ≡ true → begun id ≡ false → a.start ip id ≡ true
    pub inside : (l : ℕ) → a.inside next l ≡ true → entered l ≡ false → a.inside ip l ≡ true
    pub moved : (l : ℕ) → a.moved next l ≡ true → entered l ≡ false → reads ≡ false → a.moved ip l ≡ true
    pub empty : (l : ℕ) → a.empty next l ≡ true → entered l ≡ false → reads ≡ false
        → (a.empty ip l || a.moved ip l) ≡ true
    pub fresh : (l : ℕ) → entered l ≡ true → a.moved next l ≡ false
    pub writes : (l : ℕ) → a.writes ip l ≡ false → a.writes next l ≡ false

  -- The empty set of groups or loops.
  abbrev pub none : ℕ → Bool
  none i = false

  -- An edge at which no group begins and no loop is entered.
  abbrev pub IsConsistentPlainEdge : (reads : Bool) → (ip next : ℕ) → Type 0
  IsConsistentPlainEdge reads ip next = IsConsistentEdge reads none none ip next

  -- In texts of at most `top` units, the loop cannot reach its maximum.
  pub record IsUnlimited (top : ℕ) (f : LoopFields) : Type 0 where
    pub counted : a.counted f.loop_id ≡ false
    pub beyond : top + a.up_to f.loop_id < f.max_iters

  -- How the live part of an iteration count decides whether the loop continues.
  pub data LoopCountDecidesExit (top : ℕ) (f : LoopFields) (moved : Bool) : Type 0 where
    -- All of the count is live, as for a loop with a maximum.
    by_count : a.counted f.loop_id ≡ true → LoopCountDecidesExit top f moved
    -- The count is live up to the minimum. If the minimum is 0, no part of it is live.
    by_minimum : IsUnlimited top f → f.min_iters ≤ a.up_to f.loop_id → LoopCountDecidesExit top f moved
    -- The count is live up to one less than the minimum, and no iteration is empty.
    never_empty : IsUnlimited top f → f.min_iters ≤ a.up_to f.loop_id + 1 → moved ≡ true
        → LoopCountDecidesExit top f moved

  -- The edges from the start of an iteration are consistent.
  pub record IsConsistentIterationStart (f : LoopFields) (ip begin : ℕ) : Type 0 where
    pub again : IsConsistentEdge false none (λ l. l == f.loop_id) ip (begin + 1)
    pub leave : IsConsistentPlainEdge false ip f.exit
    pub writes : a.writes ip f.loop_id ≡ true
    pub few : a.counted f.loop_id ≡ true → f.max_iters ≤ a.up_to f.loop_id + 1

  -- The facts are consistent where an iteration ends and another one may begin.
  pub record IsConsistentIterationEnd (top : ℕ) (f : LoopFields) (ip begin : ℕ) : Type 0 where
    pub enters : IsConsistentIterationStart f ip begin
    pub inside : a.inside ip f.loop_id ≡ true
    pub empty : (a.empty ip f.loop_id || a.moved ip f.loop_id) ≡ true
    pub decides : LoopCountDecidesExit top f (a.moved ip f.loop_id)

  -- `IsConsistentIterationEnd` for a loop head. Other instructions satisfy it.
  abbrev pub IsRepeated : (top : ℕ) → Option Insn → (ip begin : ℕ) → Type 0
  IsRepeated top (Some (EnterLoop f)) ip begin = IsConsistentIterationEnd top f ip begin
  IsRepeated top _ ip begin = Unit {0}

  -- The analysis is sound at a lookaround. Its contents neither need nor change the data of loops
  -- around it.
  pub record IsConsistentLookaround (ip continuation : ℕ) : Type 0 where
    pub on : IsConsistentPlainEdge false ip continuation
    pub start : (id : ℕ) → a.start (ip + 1) id ≡ true → a.start ip id ≡ true
    pub apart : (l : ℕ) → a.inside (ip + 1) l ≡ false
    pub left : (l : ℕ) → a.inside continuation l ≡ true → a.writes (ip + 1) l ≡ false
    pub writes : (l : ℕ) → a.writes ip l ≡ false → a.writes (ip + 1) l ≡ false

  -- The analysis is sound at an instruction. The instructions of the last cases read nothing and
  -- continue at the next one.
  abbrev pub IsSoundLivenessAt : (top : ℕ) → Program → Option Insn → (ip : ℕ) → Type 0
  IsSoundLivenessAt top program (Some Goal) ip = Unit {0}
  IsSoundLivenessAt top program (Some JustFail) ip = Unit {0}
  IsSoundLivenessAt top program (Some (Char c)) ip = IsConsistentPlainEdge true ip (ip + 1)
  IsSoundLivenessAt top program (Some (CharSet members)) ip = IsConsistentPlainEdge true ip (ip + 1)
  IsSoundLivenessAt top program (Some (ByteSet members)) ip = IsConsistentPlainEdge true ip (ip + 1)
  IsSoundLivenessAt top program (Some (ByteSeq bytes)) ip = IsConsistentPlainEdge (nat_lt 0 (length bytes)) ip (ip + 1)
  IsSoundLivenessAt top program (Some (AsciiBracket members)) ip = IsConsistentPlainEdge true ip (ip + 1)
  IsSoundLivenessAt top program (Some (Bracket index)) ip = IsConsistentPlainEdge true ip (ip + 1)
  IsSoundLivenessAt top program (Some MatchAny) ip = IsConsistentPlainEdge true ip (ip + 1)
  IsSoundLivenessAt top program (Some MatchAnyExceptLineTerminator) ip = IsConsistentPlainEdge true ip (ip + 1)
  IsSoundLivenessAt top program (Some (Alt secondary)) ip = IsConsistentPlainEdge false ip (ip + 1)
      × IsConsistentPlainEdge false ip secondary
  IsSoundLivenessAt top program (Some (Jump target)) ip = IsConsistentPlainEdge false ip target
  IsSoundLivenessAt top program (Some (EnterLoop f)) ip = IsConsistentIterationStart f ip ip
  IsSoundLivenessAt top program (Some (LoopAgain begin)) ip = IsRepeated top (slice_get program.insns begin) ip begin
  IsSoundLivenessAt top program (Some (Loop1CharBody min_iters max_iters greedy)) ip =
      IsConsistentPlainEdge (nat_lt 0 min_iters) ip (ip + 2)
  IsSoundLivenessAt top program (Some (BeginCaptureGroup id)) ip =
      IsConsistentEdge false (λ i. i == id) none ip (ip + 1)
  IsSoundLivenessAt top program (Some (EndCaptureGroup id)) ip = IsConsistentPlainEdge false ip (ip + 1)
      × (a.groups ≡ true → a.start ip id ≡ true)
  IsSoundLivenessAt top program (Some (BackRef group sameness)) ip = IsConsistentPlainEdge false ip (ip + 1)
      × (a.groups ≡ true)
  IsSoundLivenessAt top program (Some (Lookahead negate start_group end_group continuation)) ip =
      IsConsistentLookaround ip continuation
  IsSoundLivenessAt top program (Some (Lookbehind negate start_group end_group continuation)) ip =
      IsConsistentLookaround ip continuation
  IsSoundLivenessAt top program None ip = Unit {0}
  IsSoundLivenessAt top program (Some _) ip = IsConsistentPlainEdge false ip (ip + 1)

  -- The analysis is sound for a program in texts of at most `top` units.
  pub record IsSoundLiveness (top : ℕ) (program : Program) : Type 0 where
    pub right : (ip : ℕ) → IsSoundLivenessAt top program (slice_get program.insns ip) ip

-- ---- States that agree in all live data

-- The offset `entry` is not ahead of `pos` in the direction.
abbrev pub IsNotAheadInDirection : Direction → (entry pos : ℕ) → Type 0
IsNotAheadInDirection rightwards entry pos = entry ≤ pos
IsNotAheadInDirection leftwards entry pos = pos ≤ entry

-- The number of units from an offset to the end of the text, in the direction.
abbrev pub units_left_in_direction : (top : ℕ) → Direction → ℕ → ℕ
units_left_in_direction top rightwards at = top - at
units_left_in_direction top leftwards at = at

module _ (a : Liveness) (top : ℕ) (d : Direction) (pos ip l : ℕ) where
  -- The data of a loop that encloses the instruction are sound.
  pub record IsSound (x : LoopData) : Type 0 where
    pub passed : IsNotAheadInDirection d x.entry pos
    pub moved : a.moved ip l ≡ true → (x.entry == pos) ≡ false
    pub all : a.counted l ≡ true → x.iters ≤ a.up_to l
    -- Apart from at most `a.up_to l` iterations, each iteration has read a character.
    pub few : a.counted l ≡ false → x.iters + units_left_in_direction top d x.entry ≤ top + a.up_to l

  -- Both data are sound, and all live parts of them are equal.
  pub record Similar (x y : LoopData) : Type 0 where
    pub left : IsSound x
    pub right : IsSound y
    pub empty : a.empty ip l ≡ true → (x.entry == pos) ≡ (y.entry == pos)
    pub count : min x.iters (a.up_to l) ≡ min y.iters (a.up_to l)

  -- Both states have similar data of the loop, or neither state has the loop.
  abbrev pub SimilarAt : Option LoopData → Option LoopData → Type 0
  SimilarAt (Some x) (Some y) = Similar x y
  SimilarAt None None = Unit {0}
  SimilarAt _ _ = ⊥

-- The data that the search of a lookaround's contents does not change: the data of loops outside,
-- in both states, and starts of groups.
pub record World : Type 0 where
  pub starts : ℕ → Bool
  pub kept : ℕ → Bool
  pub left : List LoopData
  pub right : List LoopData

-- The world of a search that is not inside a lookaround.
abbrev pub outermost : World
outermost = record { starts = λ id. false; kept = λ l. false; left = []; right = [] }

module _ (a : Liveness) (top : ℕ) where
  -- The data of the loop are those of the world in both states, and will not be written.
  pub record IsKeptIn (w : World) (s t : State) (l : ℕ) : Type 0 where
    pub left : slice_get s.loops l ≡ slice_get w.left l
    pub right : slice_get t.loops l ≡ slice_get w.right l
    pub writes : a.writes s.ip l ≡ false

  -- Two states agree: they are equal in all data that an instruction may still need.
  pub record Agree (w : World) (d : Direction) (s t : State) : Type 0 where
    pub ip : s.ip ≡ t.ip
    pub pos : s.pos ≡ t.pos
    pub within : s.pos ≤ top
    pub as_many_groups : length s.groups ≡ length t.groups
    pub groups : a.groups ≡ true → s.groups ≡ t.groups
    pub as_many_starts : length s.starts ≡ length t.starts
    pub starts : (id : ℕ) → (a.start s.ip id || w.starts id) ≡ true → slice_get s.starts id ≡ slice_get t.starts id
    pub as_many_loops : length s.loops ≡ length t.loops
    pub loops : (l : ℕ) → a.inside s.ip l ≡ true → SimilarAt a top d s.pos s.ip l (slice_get s.loops l)
        (slice_get t.loops l)
    pub kept : (l : ℕ) → w.kept l ≡ true → IsKeptIn w s t l

-- ---- Laws

-- The program has byte sequences only if the text is a byte text.
abbrev pub ReadsAsBytes : Program → Text → Type 0
ReadsAsBytes program text = (ip : ℕ) (x : Insn) → slice_get program.insns ip ≡ Some x → IsTrue (is_byte_sequence_insn x)
    → HasUtf8CharactersAndOffsets text

module _ (program : Program) (text : Text) (a : Liveness) where
  -- The analysis is sound for the program in the text.
  pub record IsLivenessFor : Type 0 where
    pub is_text : HasRisingPlaceOffsets text
    pub bytes : ReadsAsBytes program text
    pub right : IsSoundLiveness a (units text) program

  -- The searches from two states that agree have the same outcome and number of steps, and equal
  -- groups if groups are live.
  abbrev pub AgreeingEndAlike : Type 0
  AgreeingEndAlike = IsLivenessFor → (turns : ℕ) (d : Direction) (s t : State) → Agree a (units text) outermost d s t
      → AlikeAnswers (Agree a (units text) outermost d) (search program text turns d (running s ∷ []))
      (search program text turns d (running t ∷ []))

  -- Like `AgreeingEndAlike`, for lists of threads, also inside a lookaround. An executor that does
  -- not write dead data has such lists.
  abbrev pub AgreeingRowsEndAlike : Type 0
  AgreeingRowsEndAlike = IsLivenessFor → (turns : ℕ) (w : World) (d : Direction) (ts us : List Thread)
      → AlikeThreads (Agree a (units text) w d) ts us
      → AlikeAnswers (Agree a (units text) w d) (search program text turns d ts) (search program text turns d us)

  -- If one of two states that agree finds nothing, neither does the other.
  abbrev pub FailureIsShared : Type 0
  FailureIsShared = IsLivenessFor → (d : Direction) (s t : State) → Agree a (units text) outermost d s t
      → FindsNothing program text d (running s) → FindsNothing program text d (running t)

-- Searches from states that agree have the same outcome and number of steps, for all programs and
-- texts.
abbrev pub LiveDataDecideSearchResult : Type 0
LiveDataDecideSearchResult = (program : Program) (text : Text) (a : Liveness) → AgreeingEndAlike program text a

-- Searches from lists of threads that agree have the same outcome.
abbrev pub LiveDataDecideThreadLists : Type 0
LiveDataDecideThreadLists = (program : Program) (text : Text) (a : Liveness) → AgreeingRowsEndAlike program text a

-- If a state finds nothing, each state that agrees with it finds nothing.
abbrev pub LiveDataDecideFailure : Type 0
LiveDataDecideFailure = (program : Program) (text : Text) (a : Liveness) → FailureIsShared program text a
