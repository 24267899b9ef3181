-- Contracts of the readers of terms without groups. `here` is the text before what is read, and
-- `there` the text after it.
use Rattle.std.specs.Prelude.{◌≡◌, ◌==◌, ◌||◌, ℕ, ◌<◌, ◌≤◌, ◌^◌, ◌⊎◌, Bool, true, false, List, ◌∷◌, ◌++◌, length, codes, Option, Some, None, Result, Ok, Err, String, IsTrue, if◌then◌else◌}
use Rattle.std.specs.Int.{is_in_range}
use Rattle.std.specs.BTreeMap.{BTreeMap}
use Rattle.regex_meaning.specs.Tree as tree
use Rattle.regex_meaning.specs.ReadingStatesAndDigits.{RemainingCodePoints, ParseState, PatternContext, ◌∈◌, Digits}
use Rattle.regex_meaning.specs.EscapesNamesQuantifiers.{GroupName, BeginsQuantifier}
use Rattle.regex_meaning.specs.Grammar.{PatternDialect, SimpleAtom as AtomLeaf, profile, Term, Assertion}
use Rattle.regex_meaning.specs.GroupOpeningScanWithoutParsing.{texts_after_parentheses}
use Rattle.regex_parser.specs.declared.diagnosis.Cause.{Cause}
use Rattle.regex_parser.specs.declared.parser_error.ParseStopReason.{ParseStopReason}
use Rattle.regex_pattern_front.specs.declared.flags.Flags.{Flags}
use Rattle.regex_pattern_front.specs.declared.ir.AnchorType.{AnchorType}
use Rattle.regex_pattern_front.specs.declared.ir.AnchorType.TheVariants.{StartOfLine, EndOfLine}
use Rattle.regex_parser.specs.declared.groupless_terms.GrouplessTerm.{GrouplessTerm}
use Rattle.regex_parser.specs.declared.groupless_terms.GrouplessTermReader.{GrouplessTermReader}
use Rattle.regex_parser.specs.GroupReaderContracts.{MapsNamesToGroupNumbers}
use Rattle.regex_parser.specs.ParserInvariants.{parse_state}
use Rattle.regex_parser.specs.CodePointReaderContracts.{is_syntax_error}
use Rattle.regex_pattern_front.specs.AstToSpecTree.{spec_node_of, spec_flags_of}

-- Both readers are for the same pattern.
abbrev pub IsReaderOfSame : (new old : GrouplessTermReader) → Type 0
IsReaderOfSame new old = (new.flags ≡ old.flags) × (new.numbers ≡ old.numbers) × (new.syntax ≡ old.syntax)
    × (new.groups ≡ old.groups)

-- The context of a pattern with these flags and groups.
abbrev pub pattern_context : Flags → List RemainingCodePoints → PatternContext
pattern_context flags groups = record { flags = spec_flags_of flags; groups = groups }

-- What the parser may know about the groups: the map has their numbers, and there are not too many.
abbrev pub NamesAreNumberedWithinGroupLimit : {R : Type 0} → BTreeMap (String R) ℕ → List RemainingCodePoints → Type 0
NamesAreNumberedWithinGroupLimit numbers groups = MapsNamesToGroupNumbers numbers groups × (length groups ≤ 65535)

-- The text does not begin with an atom without groups.
abbrev pub NoSimpleAtom : PatternContext → (here : RemainingCodePoints) → Type 0
NoSimpleAtom w here = (end : RemainingCodePoints) (n : tree.Node) → AtomLeaf w here end n → ⊥

-- The text does not begin with a term of the dialect.
abbrev pub NoTermIn : PatternDialect → PatternContext → (here : RemainingCodePoints) → Type 0
NoTermIn s w here =
    (in_lookbehind : Bool) (opened : List RemainingCodePoints) (q : ParseState) (n : tree.Node)
    → Term s w in_lookbehind (parse_state here opened) q n → ⊥

-- The text does not begin with a term.
abbrev pub NoTerm : PatternContext → (here : RemainingCodePoints) → Type 0
NoTerm = NoTermIn profile

-- An assertion without groups, from `here` to `there`.
abbrev pub IsAssertion : PatternContext → (here there : RemainingCodePoints) → tree.Node → Type 0
IsAssertion w here there n = (opened : List RemainingCodePoints)
    → Assertion profile w (parse_state here opened) (parse_state there opened) n

-- An atom or an assertion of the dialect.
abbrev pub IsAtomOrIn : PatternDialect → (is_atom : Bool) → PatternContext → (here there : RemainingCodePoints)
    → tree.Node → Type 0
IsAtomOrIn s true w here there n = s.simple_atom w here there n
IsAtomOrIn s false w here there n = (opened : List RemainingCodePoints)
    → Assertion s w (parse_state here opened) (parse_state there opened) n

-- An atom or an assertion.
abbrev pub IsAtomOr : (is_atom : Bool) → PatternContext → (here there : RemainingCodePoints) → tree.Node → Type 0
IsAtomOr = IsAtomOrIn profile

-- A term without groups, from `here` to `there`.
abbrev pub TextBetweenIsGrouplessTerm : PatternContext → (here : RemainingCodePoints) → GrouplessTerm
    → (there : RemainingCodePoints) → Type 0
TextBetweenIsGrouplessTerm w here l there = IsAtomOr l.is_atom w here there (spec_node_of l.node)

-- The term is read. If a reference that has been read is greater than the number of groups, then an
-- earlier one was, or `none` holds. `none` also holds after a syntax error. Nothing is stated about
-- an allocation failure.
abbrev pub IsTermReadOrNone :
    (none : Type 0) → PatternContext → (here : RemainingCodePoints) → Result GrouplessTerm ParseStopReason
    → (old new : ℕ) → (there : RemainingCodePoints) → Type 0
IsTermReadOrNone none w here (Ok l) old new there =
    (new ≤ length w.groups → TextBetweenIsGrouplessTerm w here l there)
    × (length w.groups < new → (length w.groups < old) ⊎ none)
IsTermReadOrNone none w here (Err e) old new there = IsTrue (is_syntax_error e) → none

-- An atom is read, or the text does not begin with one.
abbrev pub IsAtomReadIfPresent : PatternContext → (here : RemainingCodePoints) → Result GrouplessTerm ParseStopReason
    → (old new : ℕ) → (there : RemainingCodePoints) → Type 0
IsAtomReadIfPresent w here r old new there = IsTermReadOrNone (NoSimpleAtom w here) w here r old new there

-- A term is read, or the text does not begin with one.
abbrev pub IsGrouplessTermReadIfPresent : PatternContext → (here : RemainingCodePoints)
    → Result GrouplessTerm ParseStopReason → (old new : ℕ) → (there : RemainingCodePoints) → Type 0
IsGrouplessTermReadIfPresent w here r old new there = IsTermReadOrNone (NoTerm w here) w here r old new there

-- The text between the two opens no group.
abbrev pub TextBetweenOpensNoGroup : (here there : RemainingCodePoints) → Type 0
TextBetweenOpensNoGroup here there = texts_after_parentheses false here ≡ texts_after_parentheses false there

-- A term of the dialect is read, and its text opens no group. If a reference that has been read is
-- greater than the number of groups, then an earlier one was, or no term begins here. After a
-- syntax error, no term begins here. Nothing is stated about an allocation failure.
abbrev pub IsTermReadIn :
    PatternDialect → PatternContext → (here : RemainingCodePoints) → Result GrouplessTerm ParseStopReason
    → (old new : ℕ) → (there : RemainingCodePoints) → Type 0
IsTermReadIn s w here (Ok l) old new there =
    TextBetweenOpensNoGroup here there × (new ≤ length w.groups
    → IsAtomOrIn s l.is_atom w here there (spec_node_of l.node))
    × (length w.groups < new → (length w.groups < old) ⊎ NoTermIn s w here)
IsTermReadIn s w here (Err e) old new there = IsTrue (is_syntax_error e) → NoTermIn s w here

-- A parenthesis or a `|`. No simple term begins with one of them.
abbrev pub is_paren_or_bar : ℕ → Bool
is_paren_or_bar c = c ∈ "()|"

-- The sign of an anchor: `^` or `$`.
abbrev pub anchor_sign : AnchorType → ℕ
anchor_sign StartOfLine = 94
anchor_sign EndOfLine = 36

-- The letter of a word boundary: `B` or `b`.
abbrev pub boundary_letter : (invert : Bool) → ℕ
boundary_letter invert = if invert then 66 else 98

-- `*`, `+` or `?`
abbrev pub is_star_plus_or_question : ℕ → Bool
is_star_plus_or_question c = c ∈ "*+?"

-- `{`, `}` or `]`
abbrev pub is_brace_or_closing_bracket : ℕ → Bool
is_brace_or_closing_bracket c = c ∈ "{}]"

-- The term of `^`, `$` or `.`, or `None` if the code point is another one.
abbrev pub AnchorOrDotReadIfPresent : PatternContext → (c : ℕ) → (there : RemainingCodePoints) → Option GrouplessTerm
    → Type 0
AnchorOrDotReadIfPresent w c there (Some l) = TextBetweenIsGrouplessTerm w (c ∷ there) l there
AnchorOrDotReadIfPresent w c there None = c ∈ "^$." ≡ false

-- The result is an error if the code point cannot be a term: it belongs to a quantifier, or it is a
-- brace or bracket that is not allowed alone. Otherwise the code point can be a term.
abbrev pub RefusesCodePointThatIsNoTerm : (unicode : Bool) (c : ℕ) (there : RemainingCodePoints) → Option Cause → Type 0
RefusesCodePointThatIsNoTerm unicode c there (Some cause) =
    (is_star_plus_or_question c ≡ true) ⊎ ((is_brace_or_closing_bracket c ≡ true)
    × ((unicode ≡ true) ⊎ BeginsQuantifier (c ∷ there)))
RefusesCodePointThatIsNoTerm unicode c there None =
    (is_star_plus_or_question c ≡ false) × (is_brace_or_closing_bracket c ≡ true → (unicode ≡ false)
    × ¬ (BeginsQuantifier (c ∷ there)))

-- Whether a reference begins with this letter or digit: `k` or `1` to `9`.
abbrev pub begins_backreference : Option ℕ → Bool
begins_backreference None = false
begins_backreference (Some c) = c == 107 || is_in_range 49 57 c

-- `<name>`, for a name that has this number.
abbrev pub IsNameWithNumber : (numbers : RemainingCodePoints → Option ℕ) → (here there : RemainingCodePoints) → ℕ
    → Type 0
IsNameWithNumber numbers here there n =
    (a name : RemainingCodePoints) × (here ≡ codes "<" ++ a) × GroupName a there name × (numbers name ≡ Some n)

-- The number of `<name>` is read. After a syntax error, the text does not begin with the name of a
-- group. Nothing is stated about an allocation failure.
abbrev pub IsReferencedNameNumberRead : (numbers : RemainingCodePoints → Option ℕ) → (here : RemainingCodePoints)
    → Result ℕ ParseStopReason → (there : RemainingCodePoints) → Type 0
IsReferencedNameNumberRead numbers here (Ok n) there = IsNameWithNumber numbers here there n
IsReferencedNameNumberRead numbers here (Err e) there =
    IsTrue (is_syntax_error e) → (end : RemainingCodePoints) (n : ℕ) → IsNameWithNumber numbers here end n → 0 < n → ⊥

-- The number, if there is one and it is not 0. Otherwise an error.
abbrev pub IsNumberUnlessMissingOrZero : Option ℕ → Result ℕ ParseStopReason → Type 0
IsNumberUnlessMissingOrZero number (Ok n) = (number ≡ Some n) × (0 < n)
IsNumberUnlessMissingOrZero number (Err e) = (n : ℕ) → number ≡ Some n → 0 < n → ⊥

-- A decimal number is read, or the text does not begin with a number below 2^32.
abbrev pub IsDecimalReadIfItFitsU32 : (here : RemainingCodePoints) → Option ℕ → (there : RemainingCodePoints) → Type 0
IsDecimalReadIfItFitsU32 here (Some n) there = Digits 10 here there n
IsDecimalReadIfItFitsU32 here None there = (end : RemainingCodePoints) (n : ℕ) → Digits 10 here end n → n < 2 ^ 32 → ⊥

-- A reference after its backslash, by number or by a name that has this number.
abbrev pub IsReference : (numbers : RemainingCodePoints → Option ℕ) → (here there : RemainingCodePoints) → ℕ → Type 0
IsReference numbers here there n =
    Digits 10 here there n
    ⊎ ((a name : RemainingCodePoints) × (here ≡ codes "k<" ++ a) × GroupName a there name × (numbers name ≡ Some n))

-- The number of a reference is read. After a syntax error, the text does not begin with a reference
-- to a group. Nothing is stated about an allocation failure.
abbrev pub IsReferencedGroupNumberRead : (numbers : RemainingCodePoints → Option ℕ) → (here : RemainingCodePoints)
    → Result ℕ ParseStopReason → (there : RemainingCodePoints) → Type 0
IsReferencedGroupNumberRead numbers here (Ok n) there = IsReference numbers here there n
IsReferencedGroupNumberRead numbers here (Err e) there =
    IsTrue (is_syntax_error e) → (end : RemainingCodePoints) (n : ℕ) → IsReference numbers here end n → 0 < n
    → n < 2 ^ 32 → ⊥
