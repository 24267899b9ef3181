-- Character classes in the whole language of ECMA-262, 9th edition: 21.2.1 with annex B.1.4, and
-- the sets of code points that they denote (21.2.2).
use Rattle.std.specs.Prelude.{◌≡◌, ◌↔◌, ℕ, ◌≤◌, ◌%◌, Bool, true, false, not, ◌&&◌, ◌||◌, ◌==◌, nat_le, List, [], ◌∷◌, ◌++◌, codes, Option, Some, None, IsTrue, if◌then◌else◌}
use Rattle.std.specs.List.{list_any}
use Rattle.std.specs.Int.{is_in_range}
use Rattle.std.specs.Char.{is_ascii_digit}
use Rattle.regex_meaning.specs.Tree.{Intervals, Flags, BracketContents}
use Rattle.regex_meaning.specs.Text.{is_word_char}
use Rattle.regex_meaning.specs.Canonical.{canonical_character}
use Rattle.regex_meaning.specs.Outcomes.{in_intervals}
use Rattle.regex_meaning.specs.ReadingStatesAndDigits.{RemainingCodePoints, ◌∈◌, begins_with_characters}
use Rattle.regex_meaning.specs.CharacterClasses.{digit_class, space_class, AreCanonicalIntervals, IsRangeDash}
use Rattle.regex_meaning.specs.UnicodeProperties.{has_property, Property}
use Rattle.regex_meaning.specs.EcmaEscapesAndNames.{GrammarParameters, CharacterEscape, PropertyExpression}

-- A member of a class: a character, a range, or the set of a class escape, given as a test.
pub data ClassMember : Type 0 where
  character : ℕ → ClassMember
  range : (first last : ℕ) → ClassMember
  class : (ℕ → Bool) → ClassMember

-- Whether c is in the set of a member.
abbrev pub class_member_contains : ClassMember → ℕ → Bool
class_member_contains (character d) c = c == d
class_member_contains (range first last) c = is_in_range first last c
class_member_contains (class test) c = test c

-- ---- CharacterClassEscape, after the backslash

-- A set, and whether its complement is meant instead.
abbrev pub InvertibleSet : Type 0
InvertibleSet = (ℕ → Bool) × Bool

-- Whether the code point is in the set or, if inverted, in its complement.
abbrev pub is_in_invertible_set : InvertibleSet → ℕ → Bool
is_in_invertible_set s c = if s.1 then nat_le c 0x10_FFFF && not (s.0 c) else s.0 c

-- *WordCharacters* (21.2.2.6.1)
abbrev pub word_characters : Flags → ℕ → Bool
word_characters flags c = is_word_char (flags.icase && flags.unicode) c

-- The set of a CharacterClassEscape of one letter (21.2.2.12).
abbrev pub class_escape_set : Flags → (letter : ℕ) → Option InvertibleSet
class_escape_set flags c =
    if c ∈ "d" then Some (in_intervals digit_class, false) else if c ∈ "D" then Some (in_intervals digit_class, true)
    else if c ∈ "s" then Some (in_intervals space_class, false)
    else if c ∈ "S" then Some (in_intervals space_class, true)
    else if c ∈ "w" then Some (word_characters flags, false) else if c ∈ "W" then Some (word_characters flags, true)
    else None

-- CharacterClassEscape, and the set that it denotes, as a test
pub data CharacterClassEscape (flags : Flags) (here : RemainingCodePoints) : (there : RemainingCodePoints) → (ℕ → Bool)
    → Type 0 where
  by_letter : {letter : ℕ} {s : InvertibleSet} {there : RemainingCodePoints}
      → here ≡ letter ∷ there → class_escape_set flags letter ≡ Some s
      → CharacterClassEscape flags here there (is_in_invertible_set s)
  -- `p{ UnicodePropertyValueExpression }` and `P{ UnicodePropertyValueExpression }`, with `u`
  by_property : {a there : RemainingCodePoints} {p : Property} (invert : Bool)
      → IsTrue flags.unicode → here ≡ codes (if invert then "P" else "p") ++ a → PropertyExpression a there p
      → CharacterClassEscape flags here there (is_in_invertible_set (has_property p, invert))

-- The text begins with a CharacterClassEscape.
abbrev pub BeginsCharacterClassEscape : Flags → RemainingCodePoints → Type 0
BeginsCharacterClassEscape flags here = (there : RemainingCodePoints) × (test : ℕ → Bool)
    × CharacterClassEscape flags here there test

-- ---- Sets

-- `set` is in canonical form, and is the set of *CharacterSetMatcher* (21.2.2.8.1): the characters
-- c for which a member contains a character with the same *Canonicalize* as c.
pub record IsSetOf (flags : Flags) (members : List ClassMember) (set : Intervals) : Type 0 where
  pub apart : AreCanonicalIntervals set
  pub same : (c : ℕ) → IsTrue (in_intervals set c)
      ↔ ((d : ℕ) × IsTrue (list_any (λ m. class_member_contains m d) members)
      × (canonical_character flags.icase flags.unicode d ≡ canonical_character flags.icase flags.unicode c))

-- ---- ClassRanges

-- The parameters of the grammar, given the flags and whether a group has a name.
abbrev pub grammar_parameters : Flags → (named_groups : Bool) → GrammarParameters
grammar_parameters flags named_groups = record { unicode = flags.unicode; named_groups = named_groups }

-- ClassControlLetter (B.1.4)
abbrev pub is_class_control_letter : ℕ → Bool
is_class_control_letter c = is_ascii_digit c || c ∈ "_"

-- ClassEscape, after the backslash: the alternatives that precede CharacterClassEscape
pub data SimpleClassEscape (flags : Flags) (here : RemainingCodePoints) : (there : RemainingCodePoints) (c : ℕ)
    → Type 0 where
  -- `b`
  backspace : {there : RemainingCodePoints} → here ≡ codes "b" ++ there → SimpleClassEscape flags here there 8
  -- `-`, with `u`
  dash : {there : RemainingCodePoints} → IsTrue flags.unicode → here ≡ codes "-" ++ there
      → SimpleClassEscape flags here there 45
  -- `c ClassControlLetter`, without `u` (B.1.4)
  class_control_letter : {letter : ℕ} {there : RemainingCodePoints}
      → flags.unicode ≡ false → here ≡ codes "c" ++ letter ∷ there → IsTrue (is_class_control_letter letter)
      → SimpleClassEscape flags here there (letter % 32)

-- The text begins with one of those alternatives.
abbrev pub BeginsSimpleClassEscape : Flags → RemainingCodePoints → Type 0
BeginsSimpleClassEscape flags here = (there : RemainingCodePoints) × (c : ℕ) × SimpleClassEscape flags here there c

-- ClassEscape, after the backslash, with the member that it denotes
pub data ClassEscape (flags : Flags) (named_groups : Bool) (here : RemainingCodePoints) : (there : RemainingCodePoints)
    → ClassMember → Type 0 where
  simple_escape : {c : ℕ} {there : RemainingCodePoints}
      → SimpleClassEscape flags here there c
      → ClassEscape flags named_groups here there (character c)
  -- CharacterClassEscape
  class_escape : {there : RemainingCodePoints} {test : ℕ → Bool}
      → CharacterClassEscape flags here there test
      → ClassEscape flags named_groups here there (class test)
  -- CharacterEscape, the last alternative, which applies only if no other does
  character_escape : {c : ℕ} {there : RemainingCodePoints}
      → CharacterEscape (grammar_parameters flags named_groups) here there c
      → ¬ (BeginsSimpleClassEscape flags here) → ¬ (BeginsCharacterClassEscape flags here)
      → ClassEscape flags named_groups here there (character c)

-- The text begins with a ClassEscape.
abbrev pub BeginsClassEscape : Flags → (named_groups : Bool) → RemainingCodePoints → Type 0
BeginsClassEscape flags named_groups here = (there : RemainingCodePoints) × (m : ClassMember)
    × ClassEscape flags named_groups here there m

-- ClassAtom, with the member that it denotes
pub data ClassAtom (flags : Flags) (named_groups : Bool) (here : RemainingCodePoints) : (there : RemainingCodePoints)
    → ClassMember → Type 0 where
  -- SourceCharacter but not `\` or `]`; also `-`
  verbatim : {c : ℕ} {there : RemainingCodePoints}
      → here ≡ c ∷ there → c ∈ "\\]" ≡ false
      → ClassAtom flags named_groups here there (character c)
  -- `\ ClassEscape`
  escaped : {m : ClassMember} {a there : RemainingCodePoints}
      → here ≡ codes "\\" ++ a → ClassEscape flags named_groups a there m
      → ClassAtom flags named_groups here there m
  -- `\` before a `c`, without `u` (B.1.4). This is the last alternative.
  backslash : {a : RemainingCodePoints}
      → flags.unicode ≡ false → here ≡ codes "\\" ++ a → IsTrue (begins_with_characters "c" a)
      → ¬ (BeginsClassEscape flags named_groups a)
      → ClassAtom flags named_groups here a (character 92)

-- Both members are characters, so that they can be the ends of a range.
abbrev pub are_characters : ClassMember → ClassMember → Bool
are_characters (character c) (character d) = true
are_characters _ _ = false

-- The members of one atom, or of two atoms with a `-` between them.
pub data ClassMembers (flags : Flags) (named_groups : Bool) (here : RemainingCodePoints) : (there : RemainingCodePoints)
    → List ClassMember → Type 0 where
  -- One ClassAtom.
  alone : {m : ClassMember} {there : RemainingCodePoints}
      → ClassAtom flags named_groups here there m → ¬ (IsRangeDash there)
      → ClassMembers flags named_groups here there (m ∷ [])
  -- `ClassAtom - ClassAtom`: a range, whose first end is at most its last (early error)
  from_to : {first last : ℕ} {a b there : RemainingCodePoints}
      → ClassAtom flags named_groups here a (character first) → a ≡ codes "-" ++ b
      → ClassAtom flags named_groups b there (character last)
      → first ≤ last
      → ClassMembers flags named_groups here there (range first last ∷ [])
  -- Without `u`, a `-` beside a class escape denotes itself (*CharacterRangeOrUnion*, B.1.4). With
  -- `u`, it is an early error.
  no_range : {m n : ClassMember} {a b there : RemainingCodePoints}
      → flags.unicode ≡ false → ClassAtom flags named_groups here a m → a ≡ codes "-" ++ b
      → ClassAtom flags named_groups b there n
      → are_characters m n ≡ false
      → ClassMembers flags named_groups here there (m ∷ character 45 ∷ n ∷ [])

-- ClassRanges, up to and including the `]`, and the members of all its atoms
pub data ClassRanges (flags : Flags) (named_groups : Bool) : (here there : RemainingCodePoints) → List ClassMember
    → Type 0 where
  no_more : {here there : RemainingCodePoints} → here ≡ codes "]" ++ there
      → ClassRanges flags named_groups here there []
  more : {here a there : RemainingCodePoints} {ms others : List ClassMember}
      → ClassMembers flags named_groups here a ms → ClassRanges flags named_groups a there others
      → ClassRanges flags named_groups here there (ms ++ others)

-- CharacterClass, after the `[`
pub data CharacterClass (flags : Flags) (named_groups : Bool)
    (here : RemainingCodePoints) : (there : RemainingCodePoints) → BracketContents → Type 0 where
  plain : {there : RemainingCodePoints} {ms : List ClassMember} {set : Intervals}
      → begins_with_characters "^" here ≡ false → ClassRanges flags named_groups here there ms → IsSetOf flags ms set
      → CharacterClass flags named_groups here there (record { invert = false; intervals = set })
  inverted : {a there : RemainingCodePoints} {ms : List ClassMember} {set : Intervals}
      → here ≡ codes "^" ++ a → ClassRanges flags named_groups a there ms → IsSetOf flags ms set
      → CharacterClass flags named_groups here there (record { invert = true; intervals = set })
