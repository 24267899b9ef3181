-- Contracts of the readers of classes, in terms of the grammar. `here` is the text before what is
-- read, and `there` the text after it.
use Rattle.std.specs.Prelude.{◌≡◌, ℕ, Bool, true, false, ◌||◌, ◌&&◌, ◌==◌, List, [], ◌∷◌, map, if◌then◌else◌, IsTrue, Option, Some, None, Result, Ok, Err}
use Rattle.std.specs.List.{list_any}
use Rattle.regex_meaning.specs.Tree as tree
use Rattle.regex_meaning.specs.Text.{expand_code_point}
use Rattle.regex_meaning.specs.Outcomes.{in_intervals}
use Rattle.regex_meaning.specs.ReadingStatesAndDigits.{RemainingCodePoints, ◌∈◌}
use Rattle.regex_meaning.specs.CharacterClasses.{ClassMember, are_characters, character, class, digit_class, word_class, space_class, class_escape, closed_under_case_folding, class_member_contains}
use Rattle.regex_meaning.specs.CharacterClasses.{has_set_operation}
use Rattle.regex_meaning.specs.CharacterClasses.{AreCanonicalIntervals, IsSetOf, ClassAtom, ClassMembers, ClassRanges, single_code_point_interval, IsRangeDash}
use Rattle.regex_parser.specs.declared.character_class_parser.ClassAtomValue.{ClassAtomValue}
use Rattle.regex_parser.specs.declared.character_class_parser.ClassAtomValue.TheVariants.{Character, Escape}
use Rattle.regex_parser.specs.declared.character_class_parser.CharacterClassType.{CharacterClassType}
use Rattle.regex_parser.specs.declared.character_class_parser.CharacterClassType.TheVariants.{Digits, WordCharacters, Spaces}
use Rattle.regex_parser.specs.declared.character_class_parser.DigitWordOrSpaceEscape.{DigitWordOrSpaceEscape}
use Rattle.regex_pattern_front.specs.declared.codepointset.Interval.{Interval}
use Rattle.regex_parser.specs.declared.parser_error.ParseStopReason.{ParseStopReason}
use Rattle.regex_pattern_front.specs.Intervals.{interval_of}
use Rattle.regex_parser.specs.CodePointReaderContracts.{is_syntax_error}

-- The set of a class escape, before it is inverted.
abbrev pub uninverted_digit_word_or_space_set : CharacterClassType → tree.Intervals
uninverted_digit_word_or_space_set Digits = digit_class
uninverted_digit_word_or_space_set WordCharacters = word_class
uninverted_digit_word_or_space_set Spaces = space_class

-- The class member of a class escape.
abbrev pub class_member_of_character_class_escape : DigitWordOrSpaceEscape → ClassMember
class_member_of_character_class_escape e = class (uninverted_digit_word_or_space_set e.base) e.invert

-- The class member of one atom.
abbrev pub class_member_of_atom : ClassAtomValue → ClassMember
class_member_of_atom (Character c) = character c
class_member_of_atom (Escape e) = class_member_of_character_class_escape e

-- The class escape of a letter, if there is one.
abbrev pub class_escape_of_letter : Option ℕ → Option ClassMember
class_escape_of_letter None = None
class_escape_of_letter (Some c) = class_escape c

-- Whether the number is in one of these intervals.
abbrev pub is_in_any_interval : List Interval → ℕ → Bool
is_in_any_interval intervals c = in_intervals (map interval_of intervals) c

-- `set` contains the code points that pass the test and, with `icase`, those that fold as one that
-- passes it. It is in canonical form.
pub record IsCaseClosureOfTest (flags : tree.Flags) (test : ℕ → Bool) (set : tree.Intervals) : Type 0 where
  pub apart : AreCanonicalIntervals set
  pub same : (c : ℕ) → in_intervals set c ≡ closed_under_case_folding flags test c

-- The new intervals contain exactly the numbers of the old ones and those of these members.
abbrev pub AddsMembers : (flags : tree.Flags) (old new : List Interval) → List ClassMember → Type 0
AddsMembers flags old new members =
    (c : ℕ) → is_in_any_interval new c ≡ (is_in_any_interval old c || list_any (class_member_contains flags c) members)

-- The atom that ends a range is read, or no range continues here. After a syntax error, no atom
-- follows the `-`.
abbrev pub IsRangeEndRead : (flags : tree.Flags) (here : RemainingCodePoints)
    → Result (Option ClassAtomValue) ParseStopReason → (there : RemainingCodePoints) → Type 0
IsRangeEndRead flags here (Ok (Some a)) there = (b : RemainingCodePoints) × (here ≡ 45 ∷ b)
    × ClassAtom flags b there (class_member_of_atom a)
IsRangeEndRead flags here (Ok None) there = ¬ (IsRangeDash here)
IsRangeEndRead flags here (Err e) there =
    (b : RemainingCodePoints) × (here ≡ 45 ∷ b) × IsRangeDash here
    × ((end : RemainingCodePoints) (m : ClassMember) → ClassAtom flags b end m → ⊥)

-- The members of an atom or a range are read, and their numbers are added. After a syntax error,
-- there is no such atom or range. Nothing is stated about an allocation failure.
abbrev pub IsClassMemberRead : (flags : tree.Flags) (here : RemainingCodePoints) (old : List Interval)
    → Result (Unit {0}) ParseStopReason
    → (new : List Interval) (there : RemainingCodePoints) → Type 0
IsClassMemberRead flags here old (Ok u) new there =
    (ms : List ClassMember) × ClassMembers flags here there ms × AddsMembers flags old new ms
IsClassMemberRead flags here old (Err e) new there =
    IsTrue (is_syntax_error e) → (end : RemainingCodePoints) (ms : List ClassMember) → ClassMembers flags here end ms
    → ⊥

-- The members up to the end of the class are read, and their set is returned. After a syntax error,
-- there is no ClassRanges. Nothing is stated about an allocation failure.
abbrev pub AreClassRangesRead : (flags : tree.Flags) (here : RemainingCodePoints)
    → Result tree.Intervals ParseStopReason → (there : RemainingCodePoints) → Type 0
AreClassRangesRead flags here (Ok set) there = (ms : List ClassMember) × ClassRanges flags here there ms
    × IsSetOf flags ms set
AreClassRangesRead flags here (Err e) there =
    IsTrue (is_syntax_error e) → (end : RemainingCodePoints) (ms : List ClassMember) → ClassRanges flags here end ms → ⊥

-- Whether some code point that folds as c does passes the test.
abbrev pub some_case_variant_passes : (unicode : Bool) (test : ℕ → Bool) → ℕ → Bool
some_case_variant_passes unicode test c = list_any test (expand_code_point c true unicode)

-- All code points with the fold of this letter if one of them passes the test, and none otherwise.
abbrev pub letter_case_variants_if_any_passes : (test : ℕ → Bool) (upper : ℕ) (unicode : Bool) → tree.Intervals
letter_case_variants_if_any_passes test upper unicode =
    if some_case_variant_passes unicode test upper then map single_code_point_interval
    (expand_code_point upper true unicode) else []

-- The result is an error exactly if the class has a set operation.
abbrev pub FailsExactlyOnSetOperation : (here : RemainingCodePoints) → Result (Unit {0}) ParseStopReason → Type 0
FailsExactlyOnSetOperation here (Ok u) = has_set_operation here ≡ false
FailsExactlyOnSetOperation here (Err e) = has_set_operation here ≡ true

-- Whether the code point, with the next one, begins a nested class or a set operation.
abbrev pub begins_nested_class_or_operation : ℕ → Option ℕ → Bool
begins_nested_class_or_operation c None = c ∈ "["
begins_nested_class_or_operation c (Some d) = c ∈ "[" || (c ∈ "&-" && c == d)

-- If both atoms are characters, they are the ends of a range.
abbrev pub AreRangeEndsIfBothCharacters : (first second : ClassAtomValue) → Option (ℕ × ℕ) → Type 0
AreRangeEndsIfBothCharacters first second (Some ends) = (first ≡ Character ends.0) × (second ≡ Character ends.1)
AreRangeEndsIfBothCharacters first second None =
    are_characters (class_member_of_atom first) (class_member_of_atom second) ≡ false
