-- The whole pattern language of ECMA-262, 9th edition: 21.2.1 with annex B.1.4. The productions
-- with groups are those of `Grammar`, with the dialect `ecmascript`. Where several alternatives
-- apply, B.1.4 takes the first. So the premises of an alternative say that no earlier one applies,
-- if one might.
use Rattle.std.specs.Prelude.{◌≡◌, ℕ, ◌≤◌, Bool, true, false, not, ◌&&◌, ◌||◌, List, [], ◌∷◌, ◌++◌, nat_lt, length, codes, Some, IsTrue, if◌then◌else◌}
use Rattle.std.specs.List.{list_any}
use Rattle.regex_meaning.specs.Tree.{Node, Tree, Flags, BracketContents, Intervals, char, char_set, bracket, match_any, match_any_except_line_terminator, back_ref, by_canonical_case}
use Rattle.regex_meaning.specs.Canonical.{AreCaseVariants}
use Rattle.regex_meaning.specs.ReadingStatesAndDigits.{RemainingCodePoints, PatternContext, ◌∈◌, begins_with_characters, Digits, group_number_of}
use Rattle.regex_meaning.specs.EscapesNamesQuantifiers.{BeginsQuantifier}
use Rattle.regex_meaning.specs.Grammar.{PatternDialect, ParsesBy}
use Rattle.regex_meaning.specs.UnicodeProperties.{Property, has_property}
use Rattle.regex_meaning.specs.EcmaEscapesAndNames.{GrammarParameters, CharacterEscape, BeginsCharacterEscape, PropertyExpression, GroupName}
use Rattle.regex_meaning.specs.EcmaClasses.{InvertibleSet, class, class_escape_set, is_in_invertible_set, IsSetOf, BeginsCharacterClassEscape, CharacterClass, grammar_parameters}

-- The grammar's parameter N, with which `\k` begins a reference: the flag `u` is set, or a group
-- has a name.
abbrev pub has_named_groups : PatternContext → Bool
has_named_groups w = w.flags.unicode || list_any (λ name. nat_lt 0 (length name)) w.groups

-- The parameters of the grammar for this pattern.
abbrev pub grammar_parameters_of : PatternContext → GrammarParameters
grammar_parameters_of w = grammar_parameters w.flags (has_named_groups w)

-- The node of a character with these case variants. If there are several, it is their set.
abbrev pub node_of_case_variants : (c : ℕ) → (members : List ℕ) → Node
node_of_case_variants c members = if nat_lt 1 (length members) then char_set members else char c

-- The node of a backreference.
abbrev pub reference_node : PatternContext → (group : ℕ) → Node
reference_node w n = back_ref n (by_canonical_case w.flags.icase w.flags.unicode)

-- DecimalEscape, after the backslash, if it is the number of a group. Any other number is an early
-- error with `u`, and is not a DecimalEscape without it (B.1.4).
pub data GroupNumber (w : PatternContext) (here : RemainingCodePoints) : (there : RemainingCodePoints) (n : ℕ)
    → Type 0 where
  group_number : {there : RemainingCodePoints} {n : ℕ}
      → begins_with_characters "0" here ≡ false → Digits 10 here there n → n ≤ length w.groups
      → GroupNumber w here there n

-- The text begins with the number of a group.
abbrev pub BeginsGroupNumber : PatternContext → RemainingCodePoints → Type 0
BeginsGroupNumber w here = (there : RemainingCodePoints) × (n : ℕ) × GroupNumber w here there n

-- AtomEscape, after the backslash
pub data AtomEscape (w : PatternContext) (here : RemainingCodePoints) : (there : RemainingCodePoints) → Node
    → Type 0 where
  -- DecimalEscape
  decimal_escape : {there : RemainingCodePoints} {n : ℕ}
      → GroupNumber w here there n
      → AtomEscape w here there (reference_node w n)
  -- CharacterClassEscape of one letter. The set of `\D`, `\S` or `\W` is the complement of that of
  -- the lowercase letter, because each character that matches a digit, a space or a word character
  -- is one itself.
  character_class_escape : {there : RemainingCodePoints} {letter : ℕ} {s : InvertibleSet} {set : Intervals}
      → here ≡ letter ∷ there → class_escape_set w.flags letter ≡ Some s → IsSetOf w.flags (class s.0 ∷ []) set
      → AtomEscape w here there (bracket (record { invert = s.1; intervals = set }))
  -- CharacterClassEscape of a property, with `u`. The set of `\P` contains each character that
  -- matches a character without the property.
  property_escape : {a there : RemainingCodePoints} {p : Property} {set : Intervals} (invert : Bool)
      → IsTrue w.flags.unicode → here ≡ codes (if invert then "P" else "p") ++ a → PropertyExpression a there p
      → IsSetOf w.flags (class (is_in_invertible_set (has_property p, invert)) ∷ []) set
      → AtomEscape w here there (bracket (record { invert = false; intervals = set }))
  -- CharacterEscape
  character_escape : {there : RemainingCodePoints} {c : ℕ} {members : List ℕ}
      → CharacterEscape (grammar_parameters_of w) here there c → ¬ (BeginsGroupNumber w here)
      → ¬ (BeginsCharacterClassEscape w.flags here)
      → AreCaseVariants w.flags.icase w.flags.unicode c members
      → AtomEscape w here there (node_of_case_variants c members)
  -- `k GroupName`: a group must have this name (early error)
  named_reference : {a there name : RemainingCodePoints} {n : ℕ}
      → IsTrue (has_named_groups w) → here ≡ codes "k<" ++ a → GroupName a there name
      → group_number_of name w.groups ≡ Some n
      → AtomEscape w here there (reference_node w n)

-- The alternatives of Atom (with `u`) or ExtendedAtom (B.1.4, without `u`) that contain no group
pub data SimpleAtom (w : PatternContext) (here : RemainingCodePoints) : (there : RemainingCodePoints) → Node
    → Type 0 where
  -- PatternCharacter: SourceCharacter but not SyntaxCharacter
  pattern_character : {c : ℕ} {there : RemainingCodePoints} {members : List ℕ}
      → here ≡ c ∷ there → c ∈ "^$\\.*+?()[]{}|" ≡ false → AreCaseVariants w.flags.icase w.flags.unicode c members
      → SimpleAtom w here there (node_of_case_variants c members)
  -- ExtendedPatternCharacter (B.1.4), without `u`: also a `{`, `}` or `]` that does not begin a
  -- quantifier (InvalidBracedQuantifier is an early error)
  extended_pattern_character : {c : ℕ} {there : RemainingCodePoints}
      → here ≡ c ∷ there → c ∈ "{}]" ≡ true → w.flags.unicode ≡ false → ¬ (BeginsQuantifier here)
      → SimpleAtom w here there (char c)
  -- `.`
  any_character : {there : RemainingCodePoints}
      → here ≡ codes "." ++ there
      → SimpleAtom w here there (if w.flags.dot_all then match_any else match_any_except_line_terminator)
  -- `\ AtomEscape`. `\b` and `\B` belong to Assertion, which is an earlier alternative of Term.
  atom_escape : {a there : RemainingCodePoints} {n : Node}
      → here ≡ codes "\\" ++ a → begins_with_characters "b" a ≡ false → begins_with_characters "B" a ≡ false
      → AtomEscape w a there n
      → SimpleAtom w here there n
  -- `\` before a `c`, without `u` (B.1.4), if no CharacterEscape follows
  backslash : {a : RemainingCodePoints}
      → w.flags.unicode ≡ false → here ≡ codes "\\" ++ a → IsTrue (begins_with_characters "c" a)
      → ¬ (BeginsCharacterEscape (grammar_parameters_of w) a)
      → SimpleAtom w here a (char 92)
  -- CharacterClass
  character_class : {a there : RemainingCodePoints} {contents : BracketContents}
      → here ≡ codes "[" ++ a → CharacterClass w.flags (has_named_groups w) a there contents
      → SimpleAtom w here there (bracket contents)

-- The dialect of the whole language. Without `u`, a lookahead may have a quantifier
-- (QuantifiableAssertion).
abbrev pub ecmascript : PatternDialect
ecmascript =
    record {
      simple_atom = SimpleAtom;
      group_name = λ here there name. GroupName here there name;
      may_repeat = λ flags backwards. not flags.unicode && not backwards;
    }

-- The tree of a pattern of the whole language.
abbrev pub ParsesEcmaScript : Flags → (pattern : RemainingCodePoints) → Tree → Type 0
ParsesEcmaScript = ParsesBy ecmascript
