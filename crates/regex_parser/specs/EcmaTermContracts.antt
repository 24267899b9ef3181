-- Contracts of the readers of terms without groups in the whole language. `here` is the text before
-- what is read, and `there` the text after it.
use Rattle.std.specs.Prelude.{◌≡◌, ℕ, ◌<◌, ◌≤◌, Bool, true, false, List, ◌∷◌, length, Option, Some, None, Result, Ok, Err, IsTrue, String}
use Rattle.std.specs.BTreeMap.{BTreeMap, get_by_text}
use Rattle.std.specs.Int.{is_in_range}
use Rattle.regex_meaning.specs.Tree as tree
use Rattle.regex_meaning.specs.Canonical.{AreCaseVariants}
use Rattle.regex_meaning.specs.ReadingStatesAndDigits.{RemainingCodePoints, PatternContext, Digits, ◌∈◌, group_number_of}
use Rattle.regex_meaning.specs.EcmaEscapesAndNames.{GroupName}
use Rattle.regex_meaning.specs.EcmaClasses.{CharacterClassEscape}
use Rattle.regex_meaning.specs.EcmaGrammarWithAnnexB.{AtomEscape, ecmascript, has_named_groups, node_of_case_variants, BeginsGroupNumber, reference_node}
use Rattle.regex_pattern_front.specs.declared.flags.Flags.{Flags}
use Rattle.regex_parser.specs.declared.groupless_terms.GrouplessTerm.{GrouplessTerm}
use Rattle.regex_parser.specs.declared.parser_error.ParseStopReason.{ParseStopReason}
use Rattle.regex_pattern_front.specs.declared.types.BracketContents.{BracketContents}
use Rattle.regex_parser.specs.GrouplessTermContracts.{pattern_context, NoTermIn, IsAtomOrIn}
use Rattle.regex_parser.specs.CodePointReaderContracts.{is_syntax_error}
use Rattle.regex_pattern_front.specs.AstToSpecTree.{spec_node_of, class_as_spec}

-- What the reader knows about the groups of the pattern: how many there are, whether one has a
-- name, and the number of each name that can be read.
pub record AreGroupsKnown {R : Type 0} (flags : Flags) (count : ℕ) (named : Bool) (numbers : BTreeMap (String R) ℕ)
    (groups : List RemainingCodePoints) : Type 0 where
  pub counted : count ≡ length groups
  pub names : named ≡ has_named_groups (pattern_context flags groups)
  pub numbered : (here there : RemainingCodePoints) (name : List ℕ) → GroupName here there name
      → get_by_text numbers name ≡ group_number_of name groups

-- ---- Terms

-- The text does not begin with a term.
abbrev pub NoEcmaTerm : PatternContext → (here : RemainingCodePoints) → Type 0
NoEcmaTerm = NoTermIn ecmascript

-- An atom or an assertion, from `here` to `there`.
abbrev pub IsEcmaAtomOr : (is_atom : Bool) → PatternContext → (here there : RemainingCodePoints) → tree.Node → Type 0
IsEcmaAtomOr = IsAtomOrIn ecmascript

-- A term is read. After a syntax error, the text does not begin with a term. Nothing is stated
-- about an allocation failure.
abbrev pub IsEcmaTermRead : PatternContext → (here : RemainingCodePoints) → Result GrouplessTerm ParseStopReason
    → (there : RemainingCodePoints) → Type 0
IsEcmaTermRead w here (Ok l) there = IsEcmaAtomOr l.is_atom w here there (spec_node_of l.node)
IsEcmaTermRead w here (Err e) there = IsTrue (is_syntax_error e) → NoEcmaTerm w here

-- The term of `^`, `$` or `.`, or `None` if the code point is another one.
abbrev pub IsEcmaAnchorOrDotIfAny : PatternContext → (c : ℕ) → (there : RemainingCodePoints) → Option GrouplessTerm
    → Type 0
IsEcmaAnchorOrDotIfAny w c there (Some l) = IsEcmaAtomOr l.is_atom w (c ∷ there) there (spec_node_of l.node)
IsEcmaAnchorOrDotIfAny w c there None = c ∈ "^$." ≡ false

-- The node of a character, given by its case variants.
abbrev pub IsEcmaCharacterNode : tree.Flags → (c : ℕ) → tree.Node → Type 0
IsEcmaCharacterNode flags c n = (members : List ℕ) × AreCaseVariants flags.icase flags.unicode c members
    × (n ≡ node_of_case_variants c members)

-- ---- After a backslash

-- No atom begins here, after a backslash.
abbrev pub NoAtomEscape : PatternContext → (here : RemainingCodePoints) → Type 0
NoAtomEscape w here = (end : RemainingCodePoints) (n : tree.Node) → AtomEscape w here end n → ⊥

-- An atom is read. After a syntax error, no atom begins here. Nothing is stated about an allocation
-- failure.
abbrev pub IsAtomEscapeRead : PatternContext → (here : RemainingCodePoints) → Result GrouplessTerm ParseStopReason
    → (there : RemainingCodePoints) → Type 0
IsAtomEscapeRead w here (Ok l) there = (l.is_atom ≡ true) × AtomEscape w here there (spec_node_of l.node)
IsAtomEscapeRead w here (Err e) there = IsTrue (is_syntax_error e) → NoAtomEscape w here

-- A class is read, or no class escape begins here. After a syntax error, no atom begins here.
abbrev pub IsClassEscapeRead : Flags → (here : RemainingCodePoints) → Result (Option BracketContents) ParseStopReason
    → (there : RemainingCodePoints) → Type 0
IsClassEscapeRead flags here (Ok (Some b)) there = (groups : List RemainingCodePoints)
    → AtomEscape (pattern_context flags groups) here there (tree.bracket (class_as_spec b))
IsClassEscapeRead flags here (Ok None) there =
    (there ≡ here) × ((groups : List RemainingCodePoints) (end : RemainingCodePoints) (s : ℕ → Bool)
    → CharacterClassEscape (pattern_context flags groups).flags here end s → ⊥)
IsClassEscapeRead flags here (Err e) there = IsTrue (is_syntax_error e) → (groups : List RemainingCodePoints)
    → NoAtomEscape (pattern_context flags groups) here

-- Whether the letter is a digit other than 0.
abbrev pub is_nonzero_digit : Option ℕ → Bool
is_nonzero_digit None = false
is_nonzero_digit (Some c) = is_in_range 49 57 c

-- The text does not begin with the number of a group.
abbrev pub NoGroupNumber : (count : ℕ) → (here : RemainingCodePoints) → Type 0
NoGroupNumber count here = (end : RemainingCodePoints) (n : ℕ) → Digits 10 here end n → 0 < n → n ≤ count → ⊥

-- Without `u`, there is no reference. With `u`, the result is an error.
abbrev pub IsNoReferenceOrUnicodeError : (unicode : Bool) → Result (Option ℕ) ParseStopReason → Type 0
IsNoReferenceOrUnicodeError unicode (Ok found) = (unicode ≡ false) × (found ≡ None)
IsNoReferenceOrUnicodeError unicode (Err e) = unicode ≡ true

-- The number of a group is read, or the text does not begin with one. With `u`, the latter is an
-- error.
abbrev pub IsGroupNumberRead : (count : ℕ) (unicode : Bool) (here : RemainingCodePoints)
    → Result (Option ℕ) ParseStopReason → (there : RemainingCodePoints) → Type 0
IsGroupNumberRead count unicode here (Ok (Some n)) there = Digits 10 here there n × (0 < n) × (n ≤ count)
IsGroupNumberRead count unicode here (Ok None) there = (unicode ≡ false) × (there ≡ here) × NoGroupNumber count here
IsGroupNumberRead count unicode here (Err e) there = (unicode ≡ true) × NoGroupNumber count here

-- `<name>`, for a name that has this number.
abbrev pub IsEcmaNameWithNumber : (numbers : List ℕ → Option ℕ) → (here there : RemainingCodePoints) → ℕ → Type 0
IsEcmaNameWithNumber numbers here there n = (a : RemainingCodePoints) × (name : List ℕ) × (here ≡ 60 ∷ a)
    × GroupName a there name × (numbers name ≡ Some n)

-- The number of `<name>` is read. After a syntax error, the text does not begin with the name of a
-- group. Nothing is stated about an allocation failure.
abbrev pub IsEcmaNameNumberRead : (numbers : List ℕ → Option ℕ) → (here : RemainingCodePoints)
    → Result ℕ ParseStopReason → (there : RemainingCodePoints) → Type 0
IsEcmaNameNumberRead numbers here (Ok n) there = IsEcmaNameWithNumber numbers here there n × (0 < n)
IsEcmaNameNumberRead numbers here (Err e) there =
    IsTrue (is_syntax_error e) → (end : RemainingCodePoints) (n : ℕ) → IsEcmaNameWithNumber numbers here end n → 0 < n
    → ⊥

-- A reference after its backslash is read, if there is one. After a syntax error, no atom begins
-- here.
abbrev pub IsEcmaReferenceRead : PatternContext → (here : RemainingCodePoints) → Result (Option ℕ) ParseStopReason
    → (there : RemainingCodePoints) → Type 0
IsEcmaReferenceRead w here (Ok (Some n)) there = AtomEscape w here there (reference_node w n)
IsEcmaReferenceRead w here (Ok None) there =
    (there ≡ here) × ¬ (BeginsGroupNumber w here) × (has_named_groups w ≡ true → (rest : RemainingCodePoints)
    → here ≡ 107 ∷ rest → ⊥)
IsEcmaReferenceRead w here (Err e) there = IsTrue (is_syntax_error e) → NoAtomEscape w here
