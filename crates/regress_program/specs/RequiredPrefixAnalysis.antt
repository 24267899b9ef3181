-- How the required prefix of a program is computed from its operations.
use Rattle.std.specs.Prelude.{◌≡◌, ◌==◌, ◌≤◌, ◌<◌, ℕ, ◌+◌, ◌-◌, ◌*◌, ◌%◌, ◌^◌, min, bit_and, bit_or, Bool, true, false, Option, Some, None, length, if◌then◌else◌, nat_lt, slice_get, ⊤}
use Rattle.regex_meaning.specs.CompilationRelation.{Program, Insn}
use Rattle.regress_machine.specs.RequiredPrefixes.{AllowedUnitsAhead}
use Rattle.regress_program.specs.declared.first_set_type.FirstSet.{FirstSet}
use Rattle.regress_program.specs.declared.char_class_tables.Class.{Class}
use Rattle.regress_program.specs.declared.required_prefix_types.Prefix.{Prefix}
use Rattle.regress_program.specs.declared.required_prefix_analysis.OpPrefixContribution.{OpPrefixContribution}
use Rattle.regress_program.specs.declared.required_prefix_analysis.OpPrefixContribution.TheVariants.{Unknown, SameAs, UnionOf, OneUnit, Units}
use Rattle.regress_program.specs.declared.ops.Op.{Op}
use Rattle.regress_program.specs.declared.ops.Op.TheVariants as op
use Rattle.regress_program.specs.declared.ops.CharLoop as run
use Rattle.regress_program.specs.declared.plan.Plan.{Plan}
use Rattle.regress_program.specs.PrefixesAndPrefilters.{units_allowed_by_prefix, PrefixAt}
use Rattle.regress_program.specs.TableKeysOfUnits.{unit_table_of_set}
use Rattle.regress_program.specs.Plans.{IsOpOf, IsClassRightForProgram, IsCharLoopOf}

-- ---- Masks

-- The lowest `count` bits of a mask, followed by the bits of another one.
abbrev pub joined_masks : (first count behind : ℕ) → ℕ
joined_masks first count behind = bit_or (bit_and first (2 ^ count - 1)) (behind * 2 ^ count % 2 ^ 16)

-- Allows what `first` allows for the first `count` units, and what `after` allows for the units
-- after them.
abbrev pub allowed_first_then_after : (count : ℕ) → AllowedUnitsAhead → AllowedUnitsAhead → AllowedUnitsAhead
allowed_first_then_after count first after ahead k = if nat_lt ahead count then first ahead k
    else after (ahead - count) k

-- Only units with this key are allowed.
abbrev pub allows_only_key : (key : ℕ) → AllowedUnitsAhead
allows_only_key key ahead k = k == key

-- Units with a key of the set are allowed.
abbrev pub units_allowed_by_first_set : FirstSet → AllowedUnitsAhead
units_allowed_by_first_set set ahead k = (unit_table_of_set set).keys k

-- The prefix allows what `before` allows, followed by `more` units that `allowed` allows. It is cut
-- off after 15 units.
pub record ExtendsPrefix (before : Prefix) (more : ℕ) (allowed : AllowedUnitsAhead) (prefix : Prefix) : Type 0 where
  pub len : prefix.len ≡ min (before.len + more) 15
  pub within : (ahead k : ℕ) → ahead < prefix.len → allowed_first_then_after before.len (units_allowed_by_prefix before)
      allowed
      ahead k ≡ true → units_allowed_by_prefix prefix ahead k ≡ true

-- The prefix allows what either of two prefixes allows.
pub record AllowsEitherPrefix (a b prefix : Prefix) : Type 0 where
  pub first : prefix.len ≤ a.len
  pub second : prefix.len ≤ b.len
  pub within_first : (ahead k : ℕ) → ahead < prefix.len → units_allowed_by_prefix a ahead k ≡ true
      → units_allowed_by_prefix prefix ahead k ≡ true
  pub within_second : (ahead k : ℕ) → ahead < prefix.len → units_allowed_by_prefix b ahead k ≡ true
      → units_allowed_by_prefix prefix ahead k ≡ true

-- ---- Required prefixes of operations

-- The operations and classes of the plan are those of the program.
pub record AreOpsOfProgram (wide : Bool) (program : Program) (plan : Plan) : Type 0 where
  pub as_many : length plan.ops.items ≡ length program.insns
  pub each : (ip : ℕ) (op : Op) (insn : Insn) → slice_get plan.ops.items ip ≡ Some op
      → slice_get program.insns ip ≡ Some insn → IsOpOf program plan op ip insn
  pub classes : (number : ℕ) (class : Class) → slice_get plan.classes.items number ≡ Some class
      → IsClassRightForProgram wide program class

-- The prefix is required at an instruction. If there is no instruction, the prefix is empty.
abbrev pub PrefixAfter : (wide : Bool) → Program → Option ℕ → (len : ℕ) → AllowedUnitsAhead → Type 0
PrefixAfter wide program None len allowed = len ≡ 0
PrefixAfter wide program (Some ip) len allowed = PrefixAt wide program ip len allowed

-- `count` of these units are required at `ip`, followed by what is required at `to`.
abbrev pub PrefixBeginsWith : (wide : Bool) → Program → (ip : ℕ) → (units : AllowedUnitsAhead) → (count : ℕ) → Option ℕ
    → Type 0
PrefixBeginsWith wide program ip units count to =
    (len : ℕ) (allowed : AllowedUnitsAhead) → PrefixAfter wide program to len allowed
    → PrefixAt wide program ip (count + len) (allowed_first_then_after count units allowed)

-- The required prefix at `ip` is computed in this way from those of its successors.
abbrev pub FollowsFromSuccessors : (wide : Bool) → Program → (ip : ℕ) → OpPrefixContribution → Type 0
FollowsFromSuccessors wide program ip Unknown = ⊤
FollowsFromSuccessors wide program ip (SameAs to) = (len : ℕ) (allowed : AllowedUnitsAhead)
    → PrefixAt wide program to len allowed → PrefixAt wide program ip len allowed
FollowsFromSuccessors wide program ip (UnionOf a b) =
    (len : ℕ) (allowed : AllowedUnitsAhead) → PrefixAt wide program a len allowed → PrefixAt wide program b len allowed
    → PrefixAt wide program ip len allowed
FollowsFromSuccessors wide program ip (OneUnit key to) =
    PrefixBeginsWith wide program ip (allows_only_key key) 1 (Some to)
FollowsFromSuccessors wide program ip (Units set count to) =
    PrefixBeginsWith wide program ip (units_allowed_by_first_set set) count to

-- The prefix is required at `from`. Unless it is full, the required prefix at `ip` follows it.
pub record IsPrefixSoFar (wide : Bool) (program : Program) (from : ℕ) (prefix : Prefix) (ip : ℕ) : Type 0 where
  pub so_far : PrefixAt wide program from prefix.len (units_allowed_by_prefix prefix)
  pub on : prefix.len < 15 → (len : ℕ) (allowed : AllowedUnitsAhead) → PrefixAt wide program ip len allowed
      → PrefixAt wide program from (prefix.len + len)
      (allowed_first_then_after prefix.len (units_allowed_by_prefix prefix) allowed)

-- Whether the operation reads nothing, and either continues at the next one or fails.
abbrev pub falls_through : Op → Bool
falls_through (op.LineStart multiline) = true
falls_through (op.WordEdge edge) = true
falls_through (op.OpenGroup slot) = true
falls_through (op.CloseGroup slot) = true
falls_through (op.ResetGroup slot) = true
falls_through _ = false

-- What the operation of the plan contributes to the required prefix, if it is at `ip` (see
-- `FollowsFromSuccessors`).
abbrev pub IsOpPrefixContributionOf : Plan → Op → (ip : ℕ) → OpPrefixContribution → Type 0
IsOpPrefixContributionOf plan op ip ahead =
    (wide : Bool) (program : Program) → AreOpsOfProgram wide program plan → slice_get plan.ops.items ip ≡ Some op
    → FollowsFromSuccessors wide program ip ahead

-- What a char loop of the plan contributes to the required prefix, if it is at `ip`.
abbrev pub IsPrefixOfCharLoop : Plan → run.CharLoop → (ip : ℕ) → OpPrefixContribution → Type 0
IsPrefixOfCharLoop plan r ip ahead =
    (wide : Bool) (program : Program) → AreOpsOfProgram wide program plan → (greedy : Bool) (insn : Insn)
    → slice_get program.insns ip ≡ Some insn
    → IsCharLoopOf program plan greedy r ip insn → FollowsFromSuccessors wide program ip ahead
