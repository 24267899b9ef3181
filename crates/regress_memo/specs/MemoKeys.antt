-- Memo keys: what has to be memoized about a state that finds nothing, and when a failure is known.
use Rattle.std.specs.Prelude.{◌≡◌, ◌≤◌, ℕ, min, true, false, List, [], ◌∷◌, ◌++◌, length, Some, slice_get, ◌==◌}
use Rattle.regex_meaning.specs.Text.{Text, Direction}
use Rattle.regex_meaning.specs.CodeUnitOffsets.{units}
use Rattle.regex_meaning.specs.CompilationRelation.{Program}
use Rattle.regress_machine.specs.Machine.{LoopData, State, Thread, running, goes, scans, Found, act, search}
use Rattle.regress_machine.specs.ThreadSimulation.{Simulates, FindsNothing}
use Rattle.regress_memo.specs.Liveness.{Liveness, IsLivenessFor, IsSound, Agree, outermost}

module _ (a : Liveness) (top : ℕ) where
  -- The data of the loops that enclose the state's instruction are sound.
  pub record IsSoundState (d : Direction) (s : State) : Type 0 where
    pub within : s.pos ≤ top
    pub loops : (l : ℕ) (x : LoopData) → a.inside s.ip l ≡ true → slice_get s.loops l ≡ Some x
        → IsSound a top d s.pos s.ip l x

-- The states have the same instruction and offset, and equal numbers of groups and loops.
pub record SamePlace (s t : State) : Type 0 where
  pub ip : s.ip ≡ t.ip
  pub pos : s.pos ≡ t.pos
  pub groups : length s.groups ≡ length t.groups
  pub starts : length s.starts ≡ length t.starts
  pub loops : length s.loops ≡ length t.loops

module _ (a : Liveness) where
  -- The states have the same place, and the live data of each enclosing loop are equal: whether the
  -- iteration has read a character, and the iteration count up to the live number.
  pub record SameKey (s t : State) : Type 0 where
    pub place : SamePlace s t
    pub empty : (l : ℕ) (x y : LoopData) → a.inside s.ip l ≡ true → a.empty s.ip l ≡ true → slice_get s.loops l ≡ Some x
        → slice_get t.loops l ≡ Some y
        → (x.entry == s.pos) ≡ (y.entry == s.pos)
    pub count : (l : ℕ) (x y : LoopData) → a.inside s.ip l ≡ true → slice_get s.loops l ≡ Some x
        → slice_get t.loops l ≡ Some y
        → min x.iters (a.up_to l) ≡ min y.iters (a.up_to l)

  -- Groups are not live, as in a program without backreferences.
  pub record NoGroupsAreLive : Type 0 where
    pub groups : a.groups ≡ false
    pub start : (ip id : ℕ) → a.start ip id ≡ false

  -- Neither groups nor data of loops are live.
  pub record OnlyPositionsAreLive : Type 0 where
    pub no_groups : NoGroupsAreLive
    pub empty : (ip l : ℕ) → a.empty ip l ≡ false
    pub up_to : (l : ℕ) → a.up_to l ≡ 0

-- ---- Laws

-- If a state finds nothing, each state with the same key finds nothing.
abbrev pub MemoKeysDecideFailure : Type 0
MemoKeysDecideFailure = (program : Program) (text : Text) (a : Liveness) → IsLivenessFor program text a
    → NoGroupsAreLive a → (d : Direction) (s t : State)
    → IsSoundState a (units text) d s → IsSoundState a (units text) d t → SameKey a s t
    → FindsNothing program text d (running s) → FindsNothing program text d (running t)

-- If no data of loops are live, the instruction and the offset are a sufficient key.
abbrev pub PositionsDecideFailure : Type 0
PositionsDecideFailure = (program : Program) (text : Text) (a : Liveness) → IsLivenessFor program text a
    → OnlyPositionsAreLive a → (d : Direction) (s t : State)
    → IsSoundState a (units text) d s → IsSoundState a (units text) d t → SamePlace s t
    → FindsNothing program text d (running s) → FindsNothing program text d (running t)

module _ (program : Program) (text : Text) where
  -- The threads above a record are all that remains of the search of its state.
  pub record IsRecordedBelow (d : Direction) (above : List Thread) (s : State) : Type 0 where
    pub simulates : Simulates program text false d 1 above (running s ∷ [])

  -- When records are made, and what they say.
  pub record RecordsOf : Type 0 where
    -- A record may be made below the threads that a step leaves.
    pub made : (d : Direction) (s : State) (ts : List Thread) → act program text d s ≡ goes ts → IsRecordedBelow d ts s
    pub made_by_run : (d : Direction) (s : State) (tries : ℕ) (ts : List Thread) → act program text d s ≡ scans tries ts
        → IsRecordedBelow d ts s
    -- A record stays right if threads that simulate the first threads above it replace them.
    pub kept : (d : Direction) (n : ℕ) (us ts rest : List Thread) (s : State) → Simulates program text false d n us ts
        → IsRecordedBelow d (ts ++ rest) s → IsRecordedBelow d (us ++ rest) s
    -- If no thread is left above a record, its state finds nothing.
    pub ended : (d : Direction) (s : State) → IsRecordedBelow d [] s → FindsNothing program text d (running s)

-- Records are right in each program and text.
abbrev pub RecordedFailuresAreRight : Type 0
RecordedFailuresAreRight = (program : Program) (text : Text) → RecordsOf program text

-- While a record is pending, its state does not recur: the new search would be a part of the
-- pending one and take as many steps.
abbrev pub NoStateRecursWhilePending : Type 0
NoStateRecursWhilePending = (program : Program) (text : Text) (a : Liveness) → IsLivenessFor program text a
    → (d : Direction) (s t : State) (rest : List Thread) (turns : ℕ) (f : Found)
    → Agree a (units text) outermost d s t → IsRecordedBelow program text d (running t ∷ rest) s
    → search program text turns d (running s ∷ []) ≡ Some f → ⊥
