-- Contracts of the readers of groups and of their names. `here` is the text before what is read,
-- and `there` the text after it.
use Rattle.std.specs.Prelude.{◌≡◌, not, ◌&&◌, ◌==◌, if◌then◌else◌, ℕ, ◌-◌, ◌^◌, ◌<◌, nat_lt, min, Bool, true, false, List, [], ◌∷◌, ◌++◌, length, codes, Option, Some, None, is_some, Result, Ok, Err}
use Rattle.std.specs.Prelude.{String, IsTrue}
use Rattle.std.specs.List.{list_any}
use Rattle.std.specs.Str.{bytes_eq}
use Rattle.std.specs.BTreeMap.{BTreeMap, get_by_text, btree_map_len}
use Rattle.regex_meaning.specs.Tree.{Flags}
use Rattle.regex_meaning.specs.ReadingStatesAndDigits.{RemainingCodePoints, group_number_of}
use Rattle.regex_meaning.specs.EscapesNamesQuantifiers.{is_name}
use Rattle.regex_meaning.specs.Grammar.{PatternDialect, lookaround_opener}
use Rattle.regex_meaning.specs.GroupOpeningScanWithoutParsing.{texts_after_parentheses, in_class_after}
use Rattle.regex_parser.specs.ParserInvariants.{AreWithinGroupLimit}
use Rattle.regex_parser.specs.ScannedGroups.{ScansGroups}
use Rattle.regex_parser.specs.declared.parser_error.ParseStopReason.{ParseStopReason}
use Rattle.regex_parser.specs.declared.group_openings_and_names.GroupKind.{GroupKind}
use Rattle.regex_parser.specs.declared.group_openings_and_names.GroupAndNameScanState.{GroupAndNameScanState}
use Rattle.regex_parser.specs.declared.group_openings_and_names.GroupKind.TheVariants.{Capture, Named, Plain, Look}

-- The text does not begin with this code point.
abbrev pub DoesNotBeginWith : (c : ℕ) → (here : RemainingCodePoints) → Type 0
DoesNotBeginWith c here = (rest : RemainingCodePoints) → here ≡ c ∷ rest → ⊥

-- The sign of a lookaround, `!` or `=`, is read, or the text begins with neither.
abbrev pub IsLookaroundPolaritySignRead : (here : RemainingCodePoints) → Option Bool → (there : RemainingCodePoints)
    → Type 0
IsLookaroundPolaritySignRead here (Some true) there = here ≡ 33 ∷ there
IsLookaroundPolaritySignRead here (Some false) there = here ≡ 61 ∷ there
IsLookaroundPolaritySignRead here None there = (there ≡ here) × DoesNotBeginWith 33 here × DoesNotBeginWith 61 here

-- The rest of what opens a group is read after its parenthesis, or the text after the parenthesis
-- opens no kind of group.
abbrev pub IsOpeningRead : (here : RemainingCodePoints) → Result GroupKind ParseStopReason
    → (there : RemainingCodePoints) → Type 0
IsOpeningRead here (Ok Capture) there = (there ≡ here) × DoesNotBeginWith 63 here
IsOpeningRead here (Ok Named) there = (here ≡ 63 ∷ 60 ∷ there) × DoesNotBeginWith 33 there × DoesNotBeginWith 61 there
IsOpeningRead here (Ok Plain) there = here ≡ 63 ∷ 58 ∷ there
IsOpeningRead here (Ok (Look negate backwards)) there = 40 ∷ here ≡ codes (lookaround_opener negate backwards) ++ there
IsOpeningRead here (Err e) there =
    (rest : RemainingCodePoints) × (here ≡ 63 ∷ rest) × DoesNotBeginWith 58 rest × DoesNotBeginWith 60 rest
    × DoesNotBeginWith 33 rest
    × DoesNotBeginWith 61 rest

-- Whether terms inside the group are in reverse order, given whether the terms outside it are.
abbrev pub is_reversed_in : GroupKind → (outside : Bool) → Bool
is_reversed_in (Look negate backwards) outside = backwards
is_reversed_in Capture outside = outside
is_reversed_in Named outside = outside
is_reversed_in Plain outside = outside

-- Whether a quantifier may follow the group in this dialect.
abbrev pub takes_quantifier : PatternDialect → Flags → GroupKind → Bool
takes_quantifier s flags (Look negate backwards) = s.may_repeat flags backwards
takes_quantifier s flags Capture = true
takes_quantifier s flags Named = true
takes_quantifier s flags Plain = true

-- ---- The scan for names

-- The text after the code point, if it is a parenthesis outside classes.
abbrev pub text_after_open_parenthesis : (in_class : Bool) → ℕ → (rest : RemainingCodePoints) → List RemainingCodePoints
text_after_open_parenthesis in_class c rest = if c == 40 && not in_class then rest ∷ [] else []

-- For each name of the profile, the map has the number that the list gives it, or none.
abbrev pub MapsNamesToGroupNumbers : {R : Type 0} → BTreeMap (String R) ℕ → List RemainingCodePoints → Type 0
MapsNamesToGroupNumbers numbers names = (name : RemainingCodePoints) → IsTrue (is_name name)
    → get_by_text numbers name ≡ group_number_of name names

-- For each nonempty text, the map has the number that the list gives it, or none. The empty text is
-- not a name.
abbrev pub MapsTextsToGroupNumbers : {R : Type 0} → BTreeMap (String R) ℕ → List RemainingCodePoints → Type 0
MapsTextsToGroupNumbers numbers names = (name : RemainingCodePoints) → 0 < length name
    → get_by_text numbers name ≡ group_number_of name names

-- The numbers with one more name, unless an earlier group has that name.
abbrev pub group_numbers_adding_absent_name : (name : RemainingCodePoints) (group : ℕ)
    (numbers : RemainingCodePoints → Option ℕ) → RemainingCodePoints → Option ℕ
group_numbers_adding_absent_name name group numbers other =
    if is_some (numbers name) then numbers other
    else if bytes_eq name other then Some group
    else numbers other

-- The number of groups with these names, limited to 2^32 - 1.
abbrev pub count_of_groups : List RemainingCodePoints → ℕ
count_of_groups names = min (length names) (2 ^ 32 - 1)

-- `count` is the number of groups, limited to 2^32 - 1. If there are no more groups than allowed,
-- the map has the number of each name.
abbrev pub AreCountedAndNumbered : {R : Type 0} → (count : ℕ) → BTreeMap (String R) ℕ → List RemainingCodePoints
    → Type 0
AreCountedAndNumbered count numbers names =
    (count ≡ min (length names) (2 ^ 32 - 1)) × (AreWithinGroupLimit names → MapsNamesToGroupNumbers numbers names)

-- `count` is the number of groups, limited to 2^32 - 1. The map has an entry if and only if a group
-- has a name. If there are no more groups than allowed, the map has the number of each name.
pub record AreGroupsCollected {R : Type 0} (count : ℕ) (numbers : BTreeMap (String R) ℕ)
    (names : List RemainingCodePoints) : Type 0 where
  pub counted : count ≡ count_of_groups names
  pub named : nat_lt 0 (btree_map_len numbers) ≡ list_any (λ name. nat_lt 0 (length name)) names
  pub numbered : AreWithinGroupLimit names → MapsTextsToGroupNumbers numbers names

-- The groups that a scan of the pattern finds are collected.
abbrev pub IsPatternScanned : {R : Type 0} → PatternDialect → (pattern : RemainingCodePoints) → (count : ℕ)
    → BTreeMap (String R) ℕ → Type 0
IsPatternScanned s pattern count numbers =
    (names : List RemainingCodePoints) × ScansGroups s (texts_after_parentheses false pattern) names
    × AreGroupsCollected count numbers names

-- These texts after parentheses open groups with these names, followed by any others.
abbrev pub OpensScannedGroups : PatternDialect → (texts names : List RemainingCodePoints) → Type 0
OpensScannedGroups s texts names =
    (later more : List RemainingCodePoints) → ScansGroups s later more → ScansGroups s (texts ++ later) (names ++ more)

-- The scan has collected the groups that these texts after parentheses open.
abbrev pub CollectsGroups : PatternDialect → (old new : GroupAndNameScanState) → (texts : List RemainingCodePoints)
    → Type 0
CollectsGroups s old new texts =
    (more : List RemainingCodePoints) × OpensScannedGroups s texts more
    × ((names : List RemainingCodePoints) → AreGroupsCollected old.groups old.numbers names
    → AreGroupsCollected new.groups new.numbers (names ++ more))

-- The scan has collected the groups that these texts after parentheses open. The rest of its state
-- is unchanged.
abbrev pub RecordsFurtherGroupsInScan : PatternDialect → (old new : GroupAndNameScanState)
    → (texts : List RemainingCodePoints) → Type 0
RecordsFurtherGroupsInScan s old new texts = (new.syntax ≡ old.syntax) × (new.in_class ≡ old.in_class)
    × CollectsGroups s old new texts

-- The scan has processed one code point and the group that it opens, if any.
abbrev pub GroupNameScanProcessesCodePoint : PatternDialect
    → (old new : GroupAndNameScanState) (c : ℕ) (rest : RemainingCodePoints) → Type 0
GroupNameScanProcessesCodePoint s old new c rest =
    (new.syntax ≡ old.syntax) × (new.in_class ≡ in_class_after old.in_class c)
    × CollectsGroups s old new (text_after_open_parenthesis old.in_class c rest)
