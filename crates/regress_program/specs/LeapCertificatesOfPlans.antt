-- How leaps are checked against the operations of a plan.
use Rattle.std.specs.Prelude.{◌≡◌, ◌≢◌, ◌⊎◌, ◌<◌, ℕ, ◌+◌, Bool, true, false, List, Some, min, slice_get, slice_index_or, IsSomeAnd, ⊤}
use Rattle.std.specs.List.{list_all}
use Rattle.regex_meaning.specs.CompilationRelation.{Program}
use Rattle.regress_machine.specs.FirstSetTables.{AllowedNextKeys}
use Rattle.regress_program.specs.declared.leap.Leap.{Leap}
use Rattle.regress_program.specs.declared.char_class_tables.Class.{Class}
use Rattle.regress_program.specs.declared.ops.CountedLoop.{CountedLoop}
use Rattle.regress_program.specs.declared.ops.SpanOfPlanBytes.{SpanOfPlanBytes}
use Rattle.regress_program.specs.declared.ops.LookaroundAndNextOp as look
use Rattle.regress_program.specs.declared.ops.Op.{Op}
use Rattle.regress_program.specs.declared.ops.Op.TheVariants.{Goal, Fail, UnitChar, Char, Bytes, One, LineStart, LineEnd, WordEdge, Goto, Either, Enter, LoopEnd, OpenGroup, CloseGroup, ResetGroup}
use Rattle.regress_program.specs.declared.ops.Op.TheVariants.{MatchBackref, Look}
use Rattle.regress_program.specs.declared.plan.Plan.{Plan}
use Rattle.regress_program.specs.Leaps.{is_goal_key, is_passed_key, leap_to_goal}
use Rattle.regress_program.specs.PrefixesAndPrefilters.{PrefixAt}
use Rattle.regress_program.specs.Plans.{op_as_char_loop, plan_bytes_in_span}
use Rattle.regress_program.specs.RequiredPrefixAnalysis.{AreOpsOfProgram}

-- Each key of the table is a key of the goal.
abbrev pub AreAllGoalKeys : Leap → AllowedNextKeys → Type 0
AreAllGoalKeys leap table = (k : ℕ) → k < 256 → table.keys k ≡ true → is_goal_key leap k ≡ true

-- A match may read each of these bytes before the goal.
abbrev pub PassesUnits : Leap → List ℕ → Type 0
PassesUnits leap bytes = list_all (is_passed_key leap) bytes ≡ true

-- Before the goal, a match may read units of each key whose step does not reject its characters.
abbrev pub PassesReadLengths : Leap → List ℕ → Type 0
PassesReadLengths leap steps = (k : ℕ) → k < 256 → slice_index_or steps k 0 ≢ 0 → is_passed_key leap k ≡ true

-- A match may read each character of the class with this number before the goal.
abbrev pub PassesClass : Plan → Leap → (number : ℕ) → Type 0
PassesClass plan leap number = (class : Class) → slice_get plan.classes.items number ≡ Some class
    → PassesReadLengths leap class.steps

-- A match may read each byte of the byte sequence with this number before the goal.
abbrev pub PassesByteSeq : Plan → Leap → (number : ℕ) → Type 0
PassesByteSeq plan leap number = (part : SpanOfPlanBytes) → slice_get plan.parts.items number ≡ Some part
    → PassesUnits leap (plan_bytes_in_span plan part)

-- Whether an operation is on the way, according to a list with an entry for each operation.
abbrev pub is_op_on_way : List Bool → (ip : ℕ) → Bool
is_op_on_way on_way ip = slice_index_or on_way ip false

-- The unit that an operation reads first is the goal.
abbrev pub ArrivesAtGoal : Plan → Leap → (ip : ℕ) → Type 0
ArrivesAtGoal plan leap ip =
    (wide : Bool) (program : Program) → AreOpsOfProgram wide program plan
    → PrefixAt wide program ip 1 (λ ahead. (leap_to_goal leap).goal)

-- The body of a loop is on the way and, if `least` is 0, its exit is too.
abbrev pub LoopStaysOnWay : Plan → (way : ℕ → Bool) → (number : ℕ) → (least : CountedLoop → ℕ) → Type 0
LoopStaysOnWay plan way number least =
    (c : CountedLoop) → slice_get plan.counted.items number ≡ Some c → (way (c.begin + 1) ≡ true)
    × (least c ≡ 0 → way c.exit ≡ true)

-- The operation after a lookaround is on the way. For a positive lookahead, the first operation of
-- its contents may be instead.
abbrev pub LookaroundStaysOnWay : (way : ℕ → Bool) → look.LookaroundAndNextOp → (ip : ℕ) → Type 0
LookaroundStaysOnWay way l ip = (way l.past ≡ true) ⊎ ((l.forward ≡ true) × (l.negate ≡ false) × (way (ip + 1) ≡ true))

module _ (wide : Bool) (plan : Plan) (leap : Leap) (way : ℕ → Bool) where
  -- The operation reads only units that may precede the goal, and leads only to operations on the
  -- way.
  abbrev pub OpReachesGoal : Op → (ip : ℕ) → Type 0
  OpReachesGoal Goal ip = ⊥
  OpReachesGoal Fail ip = ⊤
  OpReachesGoal (UnitChar c) ip = (is_passed_key leap (min c 128) ≡ true) × (way (ip + 1) ≡ true)
  OpReachesGoal (Char c) ip = (is_passed_key leap (min c 128) ≡ true) × (way (ip + 1) ≡ true)
  OpReachesGoal (Bytes number) ip = (wide ≡ false) × PassesByteSeq plan leap number × (way (ip + 1) ≡ true)
  OpReachesGoal (One number) ip = PassesClass plan leap number × (way (ip + 1) ≡ true)
  OpReachesGoal (LineStart multiline) ip = way (ip + 1) ≡ true
  OpReachesGoal (LineEnd multiline) ip = way (ip + 1) ≡ true
  OpReachesGoal (WordEdge edge) ip = way (ip + 1) ≡ true
  OpReachesGoal (Goto target) ip = way target ≡ true
  OpReachesGoal (Either secondary) ip = (way (ip + 1) ≡ true) × (way secondary ≡ true)
  OpReachesGoal (Enter number) ip = LoopStaysOnWay plan way number (λ c. c.min)
  OpReachesGoal (LoopEnd number) ip = LoopStaysOnWay plan way number (λ c. 0)
  OpReachesGoal (OpenGroup slot) ip = way (ip + 1) ≡ true
  OpReachesGoal (CloseGroup slot) ip = way (ip + 1) ≡ true
  OpReachesGoal (ResetGroup slot) ip = way (ip + 1) ≡ true
  OpReachesGoal (MatchBackref again) ip = ⊥
  OpReachesGoal (Look l) ip = LookaroundStaysOnWay way l ip
  OpReachesGoal op ip = IsSomeAnd (op_as_char_loop op) (λ r. PassesClass plan leap r.class × (way (ip + 2) ≡ true))

  -- If the operation is on the way, it reads the goal first, or leads only to operations on the
  -- way.
  abbrev pub OpOnWayReachesGoal : Op → (ip : ℕ) → Type 0
  OpOnWayReachesGoal op ip = way ip ≡ true → ArrivesAtGoal plan leap ip ⊎ OpReachesGoal op ip

  -- Each operation on the way reads the goal first, or leads only to operations on the way.
  abbrev pub OpsOnWayReachGoal : Type 0
  OpsOnWayReachGoal = (ip : ℕ) (op : Op) → slice_get plan.ops.items ip ≡ Some op → OpOnWayReachesGoal op ip
