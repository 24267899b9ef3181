-- Contracts of the readers of classes of the whole language, in terms of the grammar. `here` is the
-- text before what is read, and `there` the text after it.
use Rattle.std.specs.Prelude.{◌≡◌, ◌↔◌, ℕ, ◌≤◌, ◌<◌, ◌%◌, Bool, true, false, ◌||◌, List, ◌∷◌, if◌then◌else◌, IsTrue, Option, Some, None, Result, Ok, Err}
use Rattle.std.specs.List.{list_any}
use Rattle.regex_meaning.specs.Tree as tree
use Rattle.regex_meaning.specs.Outcomes.{in_intervals}
use Rattle.regex_meaning.specs.Canonical.{canonical_character}
use Rattle.regex_meaning.specs.ReadingStatesAndDigits.{RemainingCodePoints}
use Rattle.regex_meaning.specs.CharacterClasses.{AreCanonicalIntervals, IsRangeDash, digit_class, space_class}
use Rattle.regex_meaning.specs.UnicodeProperties.{has_property}
use Rattle.regex_meaning.specs.EcmaClasses.{ClassMember, character, class, class_member_contains, is_in_invertible_set, word_characters, is_class_control_letter, IsSetOf, SimpleClassEscape}
use Rattle.regex_meaning.specs.EcmaClasses.{ClassAtom, ClassMembers, ClassRanges}
use Rattle.regex_parser.specs.declared.ecmascript_classes.AtomValue.{AtomValue}
use Rattle.regex_parser.specs.declared.ecmascript_classes.AtomValue.TheVariants.{Character, Letter, Property}
use Rattle.regex_parser.specs.declared.character_class_parser.CharacterClassType.{CharacterClassType}
use Rattle.regex_parser.specs.declared.character_class_parser.CharacterClassType.TheVariants.{Digits, WordCharacters, Spaces}
use Rattle.regex_pattern_front.specs.declared.codepointset.Interval.{Interval}
use Rattle.regex_parser.specs.declared.diagnosis.Cause.{Cause}
use Rattle.regex_parser.specs.declared.parser_error.ParseStopReason.{ParseStopReason}
use Rattle.regex_parser.specs.ClassReaderContracts.{is_in_any_interval}
use Rattle.regex_parser.specs.CodePointReaderContracts.{is_syntax_error}
use Rattle.regex_parser.specs.PropertyReaderContracts.{spec_property_of}

-- The set of the letter of a class escape, before it is inverted.
abbrev pub set_of_letter : tree.Flags → CharacterClassType → ℕ → Bool
set_of_letter flags Digits c = in_intervals digit_class c
set_of_letter flags WordCharacters c = word_characters flags c
set_of_letter flags Spaces c = in_intervals space_class c

-- The class member of an atom.
abbrev pub member_of_atom : tree.Flags → AtomValue → ClassMember
member_of_atom flags (Character c) = character c
member_of_atom flags (Letter e) = class (is_in_invertible_set (set_of_letter flags e.base, e.invert))
member_of_atom flags (Property p invert) = class (is_in_invertible_set (has_property (spec_property_of p), invert))

-- The new intervals contain exactly the numbers of the old ones and those of these members.
abbrev pub AddsEcmaMembers : (old new : List Interval) → List ClassMember → Type 0
AddsEcmaMembers old new members =
    (c : ℕ) → is_in_any_interval new c ≡ (is_in_any_interval old c || list_any (λ m. class_member_contains m c) members)

-- The atom that ends a range is read, or no range continues here. After a syntax error, no atom
-- follows the `-`. Nothing is stated about an allocation failure.
abbrev pub IsEcmaRangeEndRead : (flags : tree.Flags) (named_groups : Bool) (here : RemainingCodePoints)
    → Result (Option AtomValue) ParseStopReason
    → (there : RemainingCodePoints) → Type 0
IsEcmaRangeEndRead flags named_groups here (Ok (Some a)) there =
    (b : RemainingCodePoints) × (here ≡ 45 ∷ b) × ClassAtom flags named_groups b there (member_of_atom flags a)
IsEcmaRangeEndRead flags named_groups here (Ok None) there = ¬ (IsRangeDash here)
IsEcmaRangeEndRead flags named_groups here (Err e) there =
    IsTrue (is_syntax_error e)
    → (b : RemainingCodePoints) × (here ≡ 45 ∷ b) × IsRangeDash here
    × ((end : RemainingCodePoints) (m : ClassMember) → ClassAtom flags named_groups b end m → ⊥)

-- The members of an atom or a range are read, and their numbers are added. After a syntax error,
-- there is no such atom or range. Nothing is stated about an allocation failure.
abbrev pub IsEcmaMemberRead : (flags : tree.Flags) (named_groups : Bool) (here : RemainingCodePoints)
    (old : List Interval) → Result (Unit {0}) ParseStopReason
    → (new : List Interval) (there : RemainingCodePoints) → Type 0
IsEcmaMemberRead flags named_groups here old (Ok u) new there =
    (ms : List ClassMember) × ClassMembers flags named_groups here there ms × AddsEcmaMembers old new ms
IsEcmaMemberRead flags named_groups here old (Err e) new there =
    IsTrue (is_syntax_error e) → (end : RemainingCodePoints) (ms : List ClassMember)
    → ClassMembers flags named_groups here end ms → ⊥

-- The members up to the end of the class are read, and their set is returned. After a syntax error,
-- there is no ClassRanges. Nothing is stated about an allocation failure.
abbrev pub AreEcmaRangesRead : (flags : tree.Flags) (named_groups : Bool) (here : RemainingCodePoints)
    → Result tree.Intervals ParseStopReason
    → (there : RemainingCodePoints) → Type 0
AreEcmaRangesRead flags named_groups here (Ok set) there = (ms : List ClassMember)
    × ClassRanges flags named_groups here there ms × IsSetOf flags ms set
AreEcmaRangesRead flags named_groups here (Err e) there =
    IsTrue (is_syntax_error e) → (end : RemainingCodePoints) (ms : List ClassMember)
    → ClassRanges flags named_groups here end ms → ⊥

-- `c` and a ClassControlLetter are read, or the text does not begin with them.
abbrev pub IsClassControlRead : (here : RemainingCodePoints) → Option ℕ → (there : RemainingCodePoints) → Type 0
IsClassControlRead here (Some c) there = (letter : ℕ) × (here ≡ 99 ∷ letter ∷ there)
    × IsTrue (is_class_control_letter letter) × (c ≡ letter % 32)
IsClassControlRead here None there =
    (there ≡ here) × ((letter : ℕ) (rest : RemainingCodePoints) → here ≡ 99 ∷ letter ∷ rest
    → is_class_control_letter letter ≡ true → ⊥)

-- The letter of a property escape, `p` or `P`, is read, or the text does not begin with one.
-- Without `u`, no letter is read.
abbrev pub IsPropertyLetterRead : (unicode : Bool) (here : RemainingCodePoints) → Option Bool
    → (there : RemainingCodePoints) → Type 0
IsPropertyLetterRead unicode here (Some invert) there = (unicode ≡ true) × (here ≡ (if invert then 80 else 112) ∷ there)
IsPropertyLetterRead unicode here None there =
    (there ≡ here) × (unicode ≡ true → (invert : Bool) (rest : RemainingCodePoints)
    → here ≡ (if invert then 80 else 112) ∷ rest → ⊥)

-- One of the alternatives of ClassEscape before CharacterClassEscape is read, or none applies.
abbrev pub IsSimpleClassEscapeRead : (flags : tree.Flags) (here : RemainingCodePoints) → Option ℕ
    → (there : RemainingCodePoints) → Type 0
IsSimpleClassEscapeRead flags here (Some c) there = SimpleClassEscape flags here there c
IsSimpleClassEscapeRead flags here None there = (there ≡ here)
    × ((end : RemainingCodePoints) (c : ℕ) → SimpleClassEscape flags here end c → ⊥)

-- Without `u`, there is no range. With `u`, the result is an error.
abbrev pub IsNoRangeOrUnicodeError : (unicode : Bool) → Result (Option Interval) Cause → Type 0
IsNoRangeOrUnicodeError unicode (Ok found) = (unicode ≡ false) × (found ≡ None)
IsNoRangeOrUnicodeError unicode (Err cause) = unicode ≡ true

-- The range between two characters. If one of the atoms is not a character, there is no range
-- (without `u`) or an error (with `u`).
abbrev pub IsRangeOrCause : (first second : AtomValue) (unicode : Bool) → Result (Option Interval) Cause → Type 0
IsRangeOrCause (Character c) (Character d) unicode (Ok None) = ⊥
IsRangeOrCause (Character c) (Character d) unicode (Ok (Some i)) = (c ≤ d) × (i.first ≡ c) × (i.last ≡ d)
IsRangeOrCause (Character c) (Character d) unicode (Err cause) = d < c
IsRangeOrCause first second unicode found = IsNoRangeOrUnicodeError unicode found

-- `set` contains the numbers that match a number that passes the test. It is in canonical form.
pub record IsCanonicalClosure (flags : tree.Flags) (test : ℕ → Bool) (set : tree.Intervals) : Type 0 where
  pub apart : AreCanonicalIntervals set
  pub same : (c : ℕ) → IsTrue (in_intervals set c)
      ↔ ((d : ℕ) × IsTrue (test d) × (canonical_character flags.icase flags.unicode d ≡ canonical_character flags.icase
      flags.unicode c))
