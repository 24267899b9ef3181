-- Contracts of the functions of the parser, in terms of the grammar.
use Rattle.std.specs.Prelude.{◌≡◌, ◌⊎◌, ℕ, ◌+◌, ◌≤◌, Bool, true, false, List, [], ◌∷◌, length, Option, Some, Result, Ok, Err, String, IsTrue}
use Rattle.regex_meaning.specs.Tree as tree
use Rattle.regex_meaning.specs.ReadingStatesAndDigits.{RemainingCodePoints}
use Rattle.regex_meaning.specs.EscapesNamesQuantifiers.{BeginsQuantifier, ValidQuantifier}
use Rattle.regex_meaning.specs.Grammar.{PatternDialect, ParsesBy, profile}
use Rattle.regex_parser.specs.ParseStack as grammar
use Rattle.regex_parser.specs.ParserInvariants.{HasNoTreeIn, OpensTooManyGroups, parse_state, IsParserInvariant}
use Rattle.regex_parser.specs.SyntaxDialects.{spec_syntax_of, AreGroupsKnownIn}
use Rattle.regex_parser.specs.declared.parser_error.ParseStopReason.{ParseStopReason}
use Rattle.regex_parser.specs.declared.group_openings_and_names.GroupKind.{GroupKind}
use Rattle.regex_parser.specs.declared.group_openings_and_names.GroupKind.TheVariants.{Capture, Named, Plain, Look}
use Rattle.regex_pattern_front.specs.declared.ir.Node.{Node}
use Rattle.regex_parser.specs.declared.open_groups.OpenGroup.{OpenGroup}
use Rattle.regex_parser.specs.declared.groupless_terms.GrouplessTermReader.{GrouplessTermReader}
use Rattle.regex_parser.specs.declared.parse.Parser.{Parser}
use Rattle.regex_parser.specs.declared.parse.Refusal.{Refusal}
use Rattle.regex_parser.specs.declared.parse.Refusal.TheVariants.{Syntax, TooManyGroups, Memory}
use Rattle.regex_parser.specs.PartialDisjunctionModel.{disjunction_of}
use Rattle.regex_parser.specs.CodePointReaderContracts.{is_syntax_error}
use Rattle.regex_pattern_front.specs.AstToSpecTree.{spec_node_of, group_name_bytes, spec_flags_of}

-- ---- Open groups

-- The kind of an open group, as the definitions have it.
abbrev pub group_kind_of : GroupKind → (name : RemainingCodePoints) → (start : ℕ) → grammar.OpenGroupKind
group_kind_of Capture name start = grammar.captures start name
group_kind_of Named name start = grammar.captures start name
group_kind_of Plain name start = grammar.plain
group_kind_of (Look negate backwards) name start = grammar.looks negate backwards start

-- An open group, as the definitions have it.
abbrev pub open_group_of : OpenGroup → grammar.OpenGroup
open_group_of o = record {
  outer = disjunction_of o.outer;
  opened = group_kind_of o.opening (group_name_bytes o.name)
      o.start;
  start = o.start;
}

-- The open groups in the order of the definitions, which have the innermost first.
abbrev pub grammar_open_groups_from : List grammar.OpenGroup → List OpenGroup → List grammar.OpenGroup
grammar_open_groups_from inner [] = inner
grammar_open_groups_from inner (o ∷ os) = grammar_open_groups_from (open_group_of o ∷ inner) os

-- The node of a group with these contents.
abbrev pub group_node_around : GroupKind → (name : RemainingCodePoints) → (start end : ℕ) → tree.Node → tree.Node
group_node_around Capture name start end contents = tree.capture_group start name contents
group_node_around Named name start end contents = tree.capture_group start name contents
group_node_around Plain name start end contents = contents
group_node_around (Look negate backwards) name start end contents =
    tree.lookaround (record { negate = negate; backwards = backwards; start_group = start; end_group = end }) contents

-- ---- Results of functions

-- The result is the term or, if the term is an atom with a quantifier, a loop over it. A quantifier
-- is an error if its minimum is greater than its maximum or if it does not follow an atom. So none
-- follows any other term.
abbrev pub IsTermWithOptionalQuantifierRead :
    (is_atom : Bool) → (here : RemainingCodePoints) → (start end : ℕ) → tree.Node → Result Node ParseStopReason
    → (there : RemainingCodePoints) → Type 0
IsTermWithOptionalQuantifierRead true here start end term (Ok n) there =
    (opened : List RemainingCodePoints) → length opened ≡ end
    → grammar.IsTerm start term (parse_state here opened) (parse_state there opened) (spec_node_of n)
IsTermWithOptionalQuantifierRead false here start end term (Ok n) there = (there ≡ here) × (spec_node_of n ≡ term)
    × ¬ (BeginsQuantifier here)
IsTermWithOptionalQuantifierRead true here start end term (Err e) there =
    IsTrue (is_syntax_error e) → BeginsQuantifier here
    × ((rest : RemainingCodePoints) (q : tree.Quantifier) → ValidQuantifier here rest q → ⊥)
IsTermWithOptionalQuantifierRead false here start end term (Err e) there = BeginsQuantifier here

-- Whether the group has a name.
abbrev pub is_named_group : GroupKind → Bool
is_named_group Named = true
is_named_group Capture = false
is_named_group Plain = false
is_named_group (Look negate backwards) = false

-- The name of a named group is read, and has the number of this group. After a syntax error, there
-- is no such name.
abbrev pub IsOptionalGroupNameRead :
    {R : Type 0} → PatternDialect → (numbers : RemainingCodePoints → Option ℕ) → (groups : ℕ) → (named : Bool)
    → (here : RemainingCodePoints)
    → Result (Option (String R)) ParseStopReason → (there : RemainingCodePoints) → Type 0
IsOptionalGroupNameRead s numbers groups true here (Ok name) there =
    s.group_name here there (group_name_bytes name) × (numbers (group_name_bytes name) ≡ Some (groups + 1))
IsOptionalGroupNameRead s numbers groups false here (Ok name) there = (there ≡ here) × (group_name_bytes name ≡ [])
IsOptionalGroupNameRead s numbers groups true here (Err e) there =
    IsTrue (is_syntax_error e) → (rest name : RemainingCodePoints) → s.group_name here rest name
    → numbers name ≡ Some (groups + 1) → ⊥
IsOptionalGroupNameRead s numbers groups false here (Err e) there = IsTrue (is_syntax_error e) → ⊥

-- ---- The parser

-- The reader knows the groups of a pattern, whose names are these.
abbrev pub KnowsGroups : GrouplessTermReader → (names : List RemainingCodePoints) → Type 0
KnowsGroups l names = AreGroupsKnownIn (spec_syntax_of l.syntax) l.flags l.groups.count l.groups.named l.numbers names

-- The parser has read the pattern up to `here`. The groups of the pattern have these names.
pub record HasReadPatternUpTo (pattern : RemainingCodePoints) (names : List RemainingCodePoints)
    (here : RemainingCodePoints) (p : Parser) : Type 0 where
  pub known : KnowsGroups p.leaves names
  pub few : p.groups ≤ 65535
  pub stands :
      let around = grammar_open_groups_from [] p.around.items in
      let s = spec_syntax_of p.leaves.syntax in
      IsParserInvariant s (spec_flags_of p.leaves.flags) pattern names p.leaves.references p.groups around
      (disjunction_of p.level) here

-- The pattern has no tree in the dialect of the reader.
abbrev pub HasNoTreeFor : GrouplessTermReader → (pattern : RemainingCodePoints) → Type 0
HasNoTreeFor l pattern = HasNoTreeIn (spec_syntax_of l.syntax) (spec_flags_of l.flags) pattern

-- The parser has advanced from `here`. After a syntax error, the pattern has no tree. Nothing is
-- stated about an allocation failure.
abbrev pub AdvancesOrHasNoTree : (here : RemainingCodePoints) → (old : Parser) → {A : Type 0} → Result A ParseStopReason
    → (new : Parser) → Type 0
AdvancesOrHasNoTree here old (Ok u) new =
    (pattern : RemainingCodePoints) (names : List RemainingCodePoints) → HasReadPatternUpTo pattern names here old
    → HasReadPatternUpTo pattern names new.leaves.reader.rest.now new
AdvancesOrHasNoTree here old (Err e) new =
    IsTrue (is_syntax_error e) → (pattern : RemainingCodePoints) (names : List RemainingCodePoints)
    → HasReadPatternUpTo pattern names here old
    → HasNoTreeFor old.leaves pattern

-- The result is the tree of the pattern. After a syntax error, the pattern has no tree. An
-- allocation failure says nothing about the pattern.
abbrev pub IsParseResult : PatternDialect → {A : Type 0} → (of : A → tree.Tree) → tree.Flags
    → (pattern : RemainingCodePoints) → Result A ParseStopReason → Type 0
IsParseResult s of flags pattern (Ok a) = ParsesBy s flags pattern (of a)
IsParseResult s of flags pattern (Err e) = IsTrue (is_syntax_error e) → HasNoTreeIn s flags pattern

-- What a refusal says about the pattern. An allocation failure says nothing.
abbrev pub IsJustifiedRefusal : PatternDialect → tree.Flags → (pattern : RemainingCodePoints) → Refusal → Type 0
IsJustifiedRefusal s flags pattern (Syntax d) = HasNoTreeIn s flags pattern
IsJustifiedRefusal s flags pattern (TooManyGroups d) = OpensTooManyGroups pattern
IsJustifiedRefusal s flags pattern (Memory e) = Unit {0}

-- The error that a refusal reports is at a code point of the pattern or at its end.
abbrev pub RefusalPlaceLiesInPattern : (pattern : RemainingCodePoints) → Refusal → Type 0
RefusalPlaceLiesInPattern pattern (Syntax d) = d.at ≤ length pattern
RefusalPlaceLiesInPattern pattern (TooManyGroups d) = d.at ≤ length pattern
RefusalPlaceLiesInPattern pattern (Memory e) = Unit {0}

-- The pattern has no tree in this dialect, or it opens too many groups.
abbrev pub IsTextRefusedIn : PatternDialect → tree.Flags → (pattern : RemainingCodePoints) → Type 0
IsTextRefusedIn s flags pattern = HasNoTreeIn s flags pattern ⊎ OpensTooManyGroups pattern

-- `IsTextRefusedIn` for the profile.
abbrev pub IsTextRefused : tree.Flags → (pattern : RemainingCodePoints) → Type 0
IsTextRefused = IsTextRefusedIn profile

-- The tree with this root and these flags.
abbrev pub tree_of_root_and_flags : tree.Flags → Node → tree.Tree
tree_of_root_and_flags flags n = record { root = spec_node_of n; flags = flags }
