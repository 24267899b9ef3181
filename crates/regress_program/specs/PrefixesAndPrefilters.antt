-- Required prefixes: the units that may occur where a match begins, and the prefilters of a search.
use Rattle.std.specs.Prelude.{◌≡◌, ◌<◌, ◌≤◌, ℕ, ◌==◌, ◌%◌, Bool, true, false, ◌&&◌, List, length, Some, bit_and, slice_get, slice_index, ◌+◌, zero, suc, IfSome}
use Rattle.std.specs.Int.{bit_at}
use Rattle.regex_meaning.specs.CodeUnits.{Encoding}
use Rattle.regex_meaning.specs.CompilationRelation.{Program}
use Rattle.regress_machine.specs.RequiredPrefixes.{AllowedUnitsAhead, unit_is_allowed, IsRequiredPrefix}
use Rattle.regress_program.specs.declared.required_prefix_types.Prefix.{Prefix}
use Rattle.regress_program.specs.declared.required_prefix_prefilters.RequiredPrefixPrefilter.{RequiredPrefixPrefilter}
use Rattle.regress_program.specs.declared.required_prefix_prefilters.RequiredPrefixPrefilter.TheVariants as filter
use Rattle.regress_program.specs.declared.required_prefix_prefilters.MaskedUnitProbe.{MaskedUnitProbe}
use Rattle.regress_program.specs.declared.required_prefix_types.RequiredUnitAndOffset.{RequiredUnitAndOffset}
use Rattle.regress_program.specs.declared.required_prefix_types.Literal.{Literal}
use Rattle.regress_program.specs.declared.required_prefix_prefilters.FirstUnitsPrefilter.{FirstUnitsPrefilter}
use Rattle.regress_program.specs.declared.required_prefix_prefilters.LiteralPrefilter.{LiteralPrefilter}
use Rattle.regress_program.specs.declared.required_prefix_prefilters.OtherPrefilter.{OtherPrefilter}
use Rattle.regress_program.specs.declared.required_prefix_prefilters.OtherPrefilter.TheVariants as other
use Rattle.regress_program.specs.declared.up_to_three_units.UpToThreeUnits.{UpToThreeUnits}
use Rattle.regress_program.specs.ListedUnits.{ListsKeysThatPass}
use Rattle.regress_program.specs.TableKeysOfUnits.{key, is_16_bit_encoding}

-- The units that a prefix allows: bit `ahead` of the mask of their key is clear.
abbrev pub units_allowed_by_prefix : Prefix → AllowedUnitsAhead
units_allowed_by_prefix prefix ahead k = bit_at (slice_index prefix.masks k) ahead == 0

-- A thread at `ip` finds nothing unless each of the next `len` units is allowed.
abbrev pub PrefixAt : (wide : Bool) → Program → (ip len : ℕ) → AllowedUnitsAhead → Type 0
PrefixAt wide program ip len allowed = (e : Encoding) → is_16_bit_encoding e ≡ wide
    → IsRequiredPrefix e (key wide) program ip len allowed

-- The prefix is a required prefix at `ip`: a thread there finds nothing unless each of the next
-- units is allowed.
abbrev pub IsRequiredPrefixFromInsn : (wide : Bool) → Program → (ip : ℕ) → Prefix → Type 0
IsRequiredPrefixFromInsn wide program ip prefix = PrefixAt wide program ip prefix.len (units_allowed_by_prefix prefix)

-- Whether the `len` units of a list from index `at` on are allowed.
abbrev pub prefix_allows_units_at : AllowedUnitsAhead → (units : List ℕ) → (at len : ℕ) → Bool
prefix_allows_units_at allowed units at zero = true
prefix_allows_units_at allowed units at (suc len) =
    prefix_allows_units_at allowed units at len && unit_is_allowed allowed len (slice_get units (at + len))

-- No unit with a key in `from..end` is allowed `ahead` units after the start.
abbrev pub ExcludesKeys : Prefix → (from end ahead : ℕ) → Type 0
ExcludesKeys prefix from end ahead = (k : ℕ) → from ≤ k → k < end → units_allowed_by_prefix prefix ahead k ≡ false

-- This unit is the only one that is allowed at its position.
pub record IsOnlyUnitAllowedAtPosition (prefix : Prefix) (rare : RequiredUnitAndOffset) : Type 0 where
  pub inside : rare.ahead < prefix.len
  pub stands : units_allowed_by_prefix prefix rare.ahead rare.unit ≡ true
  pub only : (k : ℕ) → k < 256 → units_allowed_by_prefix prefix rare.ahead k ≡ true → k ≡ rare.unit

-- Each unit of the literal is the only one that is allowed at its position in the prefix.
pub record IsLiteralForcedByPrefix (prefix : Prefix) (literal : Literal) : Type 0 where
  pub some : 0 < literal.len
  pub inside : literal.ahead + literal.len ≤ prefix.len
  pub alone : (i : ℕ) → i < literal.len → IsOnlyUnitAllowedAtPosition prefix (record {
    unit =
        slice_index literal.units i;
    ahead = literal.ahead + i;
  })

-- Only units below 128 are allowed `ahead` units after the start.
abbrev pub AllowsOnlyAsciiAt : Prefix → (ahead : ℕ) → Type 0
AllowsOnlyAsciiAt prefix ahead = (k : ℕ) → k < 256 → units_allowed_by_prefix prefix ahead k ≡ true → k < 128

-- Only units below 128 are allowed at the start.
abbrev pub PrefixAllowsOnlyAsciiFirst : Prefix → Type 0
PrefixAllowsOnlyAsciiFirst prefix = AllowsOnlyAsciiAt prefix 0

-- ---- Prefilters

-- Whether a unit passes the probe: it has the bits that the probe requires.
abbrev pub unit_passes_probe : MaskedUnitProbe → (unit : ℕ) → Bool
unit_passes_probe probe unit = bit_and (unit % 256) probe.mask == probe.bits

-- At the position of the probe, only units below 128 that pass it are allowed.
pub record ProbePassesPrefix (prefix : Prefix) (probe : MaskedUnitProbe) : Type 0 where
  pub inside : probe.ahead < prefix.len
  pub low : AllowsOnlyAsciiAt prefix probe.ahead
  pub only : (k : ℕ) → k < 256 → units_allowed_by_prefix prefix probe.ahead k ≡ true → unit_passes_probe probe k ≡ true

-- There are four probes, each of which is right for the prefix.
pub record ProbesPassPrefix (prefix : Prefix) (probes : List MaskedUnitProbe) : Type 0 where
  pub four : length probes ≡ 4
  pub each : (i : ℕ) (probe : MaskedUnitProbe) → slice_get probes i ≡ Some probe → ProbePassesPrefix prefix probe

-- These units, at most three, are those that are allowed at the start.
abbrev pub ListsFirstUnits : Prefix → UpToThreeUnits → Type 0
ListsFirstUnits prefix few = ListsKeysThatPass (units_allowed_by_prefix prefix 0) few

-- The literal is right for the prefix, and so are the rare unit and the probes, if any.
pub record IsLiteralPrefilterOfPrefix (prefix : Prefix) (known : LiteralPrefilter) : Type 0 where
  pub literal : IsLiteralForcedByPrefix prefix known.literal
  pub rare : IfSome known.rare (IsOnlyUnitAllowedAtPosition prefix)
  pub probes : IfSome known.probes (ProbesPassPrefix prefix)

-- What is searched for where a text has many of the first units is right for the prefix. Only probes occur for texts
-- of 16-bit units.
abbrev pub IsOtherPrefilterOfPrefix : (wide : Bool) → Prefix → OtherPrefilter → Type 0
IsOtherPrefilterOfPrefix wide prefix (other.Literal literal) = (wide ≡ false) × IsLiteralForcedByPrefix prefix literal
IsOtherPrefilterOfPrefix wide prefix (other.Probes probes) = ProbesPassPrefix prefix probes
IsOtherPrefilterOfPrefix wide prefix other.Units = wide ≡ false

-- The first units are right for the prefix, and so is what else is searched for.
pub record IsFirstUnitsPrefilterOfPrefix (wide : Bool) (prefix : Prefix) (first : FirstUnitsPrefilter) : Type 0 where
  pub units : ListsFirstUnits prefix first.units
  pub otherwise : IsOtherPrefilterOfPrefix wide prefix first.otherwise

-- The prefilter is right for the prefix. Only first units and probes occur for texts of 16-bit units.
abbrev pub IsPrefilterOfPrefix : (wide : Bool) → Prefix → RequiredPrefixPrefilter → Type 0
IsPrefilterOfPrefix wide prefix filter.Absent = wide ≡ false
IsPrefilterOfPrefix wide prefix (filter.ByLiteral known) = (wide ≡ false) × IsLiteralPrefilterOfPrefix prefix known
IsPrefilterOfPrefix wide prefix (filter.ByFirstUnits first) = IsFirstUnitsPrefilterOfPrefix wide prefix first
IsPrefilterOfPrefix wide prefix (filter.Probes probes) = ProbesPassPrefix prefix probes
