-- Character classes (ECMA-262, 9th edition, 21.2.1), and the sets of code points that they denote.
use Rattle.std.specs.Prelude.{◌≡◌, ◌≢◌, ℕ, suc, ◌<◌, ◌≤◌, Bool, true, false, not, ◌&&◌, List, [], ◌∷◌, ◌++◌, ◌==◌, nat_le, codes, Option, Some, None, if◌then◌else◌}
use Rattle.std.specs.List.{list_any}
use Rattle.std.specs.Int.{is_in_range}
use Rattle.regex_meaning.specs.Tree.{Intervals, Flags, BracketContents}
use Rattle.regex_meaning.specs.Text.{expand_code_point}
use Rattle.regex_meaning.specs.Outcomes.{in_intervals}
use Rattle.regex_meaning.specs.ReadingStatesAndDigits.{RemainingCodePoints, ◌∈◌, begins_with_characters}
use Rattle.regex_meaning.specs.EscapesNamesQuantifiers.{CharacterEscape}

-- A member of a class: a character, a range, or the set of a class escape. With `invert`, the
-- complement of the set is meant.
pub data ClassMember : Type 0 where
  character : ℕ → ClassMember
  range : (first last : ℕ) → ClassMember
  class : Intervals → (invert : Bool) → ClassMember

-- The interval of one code point.
abbrev pub single_code_point_interval : ℕ → ℕ × ℕ
single_code_point_interval c = (c, c)

-- The set of `\d`.
abbrev pub digit_class : Intervals
digit_class = (0x30, 0x39) ∷ []

-- The set of `\w` before it is closed under case folding: the 63 word characters of ASCII.
abbrev pub word_class : Intervals
word_class = (0x30, 0x39) ∷ (0x41, 0x5A) ∷ single_code_point_interval 0x5F ∷ (0x61, 0x7A) ∷ []

-- The set of `\s`: WhiteSpace and LineTerminator.
abbrev pub space_class : Intervals
space_class =
    (0x09, 0x0D) ∷ single_code_point_interval 0x20 ∷ single_code_point_interval 0xA0 ∷ single_code_point_interval
    0x1680 ∷ (0x2000, 0x200A) ∷ (0x2028, 0x2029) ∷ single_code_point_interval 0x202F ∷ single_code_point_interval
    0x205F
    ∷ single_code_point_interval 0x3000 ∷ single_code_point_interval 0xFEFF ∷ []

-- CharacterClassEscape, given its letter. The profile has no `\p` and no `\P`.
abbrev pub class_escape : (letter : ℕ) → Option ClassMember
class_escape c =
    if c ∈ "d" then Some (class digit_class false) else if c ∈ "D" then Some (class digit_class true)
    else if c ∈ "w" then Some (class word_class false) else if c ∈ "W" then Some (class word_class true)
    else if c ∈ "s" then Some (class space_class false) else if c ∈ "S" then Some (class space_class true) else None

-- ---- Sets

-- Whether c passes the test or, with `icase`, any code point that folds as c does.
abbrev pub closed_under_case_folding : Flags → (ℕ → Bool) → ℕ → Bool
closed_under_case_folding flags test c = list_any test (expand_code_point c flags.icase flags.unicode)

-- Whether c is in the set of a member. The set of an inverted class escape is the complement of its
-- closed set.
abbrev pub class_member_contains : Flags → ℕ → ClassMember → Bool
class_member_contains flags c (character d) = c == d
class_member_contains flags c (range first last) = is_in_range first last c
class_member_contains flags c (class set invert) =
    let test = closed_under_case_folding flags (in_intervals set) c in if invert then nat_le c 0x10_FFFF && not test
    else test

-- No interval is empty, the intervals increase, and at least one number lies between two
-- neighbours.
abbrev pub AreCanonicalIntervals : Intervals → Type 0
AreCanonicalIntervals [] = Unit {0}
AreCanonicalIntervals (i ∷ []) = i.0 ≤ i.1
AreCanonicalIntervals (i ∷ j ∷ more) = (i.0 ≤ i.1) × (suc i.1 < j.0) × AreCanonicalIntervals (j ∷ more)

-- `set` is the union of the sets of the members, in canonical form. With `icase` it also contains
-- all code points that fold as a code point of a member does.
pub record IsSetOf (flags : Flags) (members : List ClassMember) (set : Intervals) : Type 0 where
  pub apart : AreCanonicalIntervals set
  pub same : (c : ℕ) → in_intervals set c ≡ closed_under_case_folding flags
      (λ d. list_any (class_member_contains flags d) members) c

-- ---- ClassRanges

-- ClassAtom, with the member that it denotes
pub data ClassAtom (flags : Flags) (here : RemainingCodePoints) : (there : RemainingCodePoints) → ClassMember
    → Type 0 where
  -- SourceCharacter but not `\` or `]`; also `-`
  verbatim : {c : ℕ} {there : RemainingCodePoints}
      → here ≡ c ∷ there → c ∈ "\\]" ≡ false
      → ClassAtom flags here there (character c)
  -- CharacterClassEscape
  of_class : {letter : ℕ} {m : ClassMember} {there : RemainingCodePoints}
      → here ≡ codes "\\" ++ letter ∷ there → class_escape letter ≡ Some m
      → ClassAtom flags here there m
  backspace : {there : RemainingCodePoints} → here ≡ codes "\\b" ++ there → ClassAtom flags here there (character 8)
  -- CharacterEscape
  escaped : {c : ℕ} {a there : RemainingCodePoints}
      → here ≡ codes "\\" ++ a → CharacterEscape flags.unicode a there c
      → ClassAtom flags here there (character c)

-- Both members are characters, so that they can be the ends of a range.
abbrev pub are_characters : ClassMember → ClassMember → Bool
are_characters (character c) (character d) = true
are_characters _ _ = false

-- The text begins with a `-` that is not the last character of the class.
abbrev pub IsRangeDash : RemainingCodePoints → Type 0
IsRangeDash here = (c : ℕ) × (there : RemainingCodePoints) × (here ≡ codes "-" ++ c ∷ there) × (c ≢ 93)

-- The members of one atom, or of two atoms with a `-` between them.
pub data ClassMembers (flags : Flags) (here : RemainingCodePoints) : (there : RemainingCodePoints) → List ClassMember
    → Type 0 where
  -- One ClassAtom.
  alone : {m : ClassMember} {there : RemainingCodePoints}
      → ClassAtom flags here there m → ¬ (IsRangeDash there)
      → ClassMembers flags here there (m ∷ [])
  -- `ClassAtom - ClassAtom`: a range, whose first end is at most its last (early error)
  from_to : {first last : ℕ} {a b there : RemainingCodePoints}
      → ClassAtom flags here a (character first) → a ≡ codes "-" ++ b → ClassAtom flags b there (character last)
      → first ≤ last
      → ClassMembers flags here there (range first last ∷ [])
  -- With every flag, a `-` beside a class escape denotes itself. The standard has this only without
  -- `u` (B.1.4).
  no_range : {m n : ClassMember} {a b there : RemainingCodePoints}
      → ClassAtom flags here a m → a ≡ codes "-" ++ b → ClassAtom flags b there n
      → are_characters m n ≡ false
      → ClassMembers flags here there (m ∷ character 45 ∷ n ∷ [])

-- ClassRanges, up to and including the `]`, and the members of all its atoms
pub data ClassRanges (flags : Flags) : (here there : RemainingCodePoints) → List ClassMember → Type 0 where
  no_more : {here there : RemainingCodePoints} → here ≡ codes "]" ++ there → ClassRanges flags here there []
  more : {here a there : RemainingCodePoints} {ms others : List ClassMember}
      → ClassMembers flags here a ms → ClassRanges flags a there others
      → ClassRanges flags here there (ms ++ others)

-- Whether a `[`, `&&` or `--` occurs before the end of the class.
abbrev pub has_set_operation : RemainingCodePoints → Bool
has_set_operation [] = false
has_set_operation (c ∷ []) = c ∈ "["
has_set_operation (c ∷ d ∷ rest) =
    if c ∈ "\\" then has_set_operation rest
    else if c ∈ "[" then true
    else if c ∈ "]" then false
    else if c ∈ "&-" && c == d then true
    else has_set_operation (d ∷ rest)

-- CharacterClass, after the `[`. With `v`, a class with a set operation is not accepted.
pub data CharacterClass (flags : Flags) (here : RemainingCodePoints) : (there : RemainingCodePoints) → BracketContents
    → Type 0 where
  plain : {there : RemainingCodePoints} {ms : List ClassMember} {set : Intervals}
      → begins_with_characters "^" here ≡ false → (flags.unicode_sets && has_set_operation here) ≡ false
      → ClassRanges flags here there ms → IsSetOf flags ms set
      → CharacterClass flags here there (record { invert = false; intervals = set })
  inverted : {a there : RemainingCodePoints} {ms : List ClassMember} {set : Intervals}
      → here ≡ codes "^" ++ a → (flags.unicode_sets && has_set_operation here) ≡ false
      → ClassRanges flags a there ms → IsSetOf flags ms set
      → CharacterClass flags here there (record { invert = true; intervals = set })
