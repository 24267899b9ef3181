-- The invariant of a parser with a stack: what it knows about a pattern at its current position.
use Rattle.std.specs.Prelude.{◌≡◌, ◌⊎◌, ◌↔◌, ℕ, ◌+◌, ◌<◌, ◌≤◌, false, List, [], ◌++◌, length, Some, slice_index_or}
use Rattle.regex_meaning.specs.Tree.{Node, Tree, Flags}
use Rattle.regex_meaning.specs.ReadingStatesAndDigits.{RemainingCodePoints, ParseState, PatternContext, group_number_of}
use Rattle.regex_meaning.specs.Grammar.{PatternDialect, ParsesBy, profile}
use Rattle.regex_meaning.specs.GroupNameScan.{scanned_names_per_capturing_group}
use Rattle.regex_meaning.specs.GroupOpeningScanWithoutParsing.{texts_after_parentheses}
use Rattle.regex_parser.specs.ParseStack.{PartialDisjunction, empty_disjunction, OpenGroup, CompletesAllDisjunctions}
use Rattle.regex_parser.specs.ScannedGroups.{ScansGroups}

-- The pattern has no tree in this dialect.
abbrev pub HasNoTreeIn : PatternDialect → Flags → (pattern : RemainingCodePoints) → Type 0
HasNoTreeIn s flags pattern = (t : Tree) → ParsesBy s flags pattern t → ⊥

-- The pattern has no tree in the profile.
abbrev pub HasNoTree : Flags → (pattern : RemainingCodePoints) → Type 0
HasNoTree = HasNoTreeIn profile

-- The names of the pattern's groups, found by the scan.
abbrev pub group_names_found_by_scan : (pattern : RemainingCodePoints) → List RemainingCodePoints
group_names_found_by_scan pattern = scanned_names_per_capturing_group false pattern

-- There are at most 65,535 groups, the limit of the parser.
abbrev pub AreWithinGroupLimit : List RemainingCodePoints → Type 0
AreWithinGroupLimit names = length names ≤ 65535

-- The pattern opens more groups than that, as the scan counts them. So each of its trees has more
-- groups.
abbrev pub OpensTooManyGroups : (pattern : RemainingCodePoints) → Type 0
OpensTooManyGroups pattern = 65535 < length (group_names_found_by_scan pattern)

-- The context of a pattern with these flags and groups.
abbrev pub spec_pattern_context : Flags → List RemainingCodePoints → PatternContext
spec_pattern_context flags groups = record { flags = flags; groups = groups }

-- The state with this text left and these groups opened.
abbrev pub parse_state : (here : RemainingCodePoints) → (opened : List RemainingCodePoints) → ParseState
parse_state here opened = record { text = here; opened = opened }

-- A scan of the text finds these groups.
abbrev pub FindsGroups : PatternDialect → (here : RemainingCodePoints) → (names : List RemainingCodePoints) → Type 0
FindsGroups s here names = ScansGroups s (texts_after_parentheses false here) names

-- Reading the rest of the pattern completes what has been read, and the result is this node.
abbrev pub CompletesTo : PatternDialect → Flags → (names : List RemainingCodePoints) → List OpenGroup
    → PartialDisjunction → ParseState → Node → Type 0
CompletesTo s flags names around level here n =
    CompletesAllDisjunctions s (spec_pattern_context flags names) names around level here n

-- The whole pattern has this node.
abbrev pub ParsesTo : PatternDialect → Flags → (pattern : RemainingCodePoints) → (names : List RemainingCodePoints)
    → Node → Type 0
ParsesTo s flags pattern names n = CompletesTo s flags names [] (empty_disjunction false) (parse_state pattern []) n

-- Each group that has opened either has no name, or its name is mapped to the number of that group.
abbrev pub AreOpenedNamesNumbered : (opened names : List RemainingCodePoints) → Type 0
AreOpenedNamesNumbered opened names =
    (i : ℕ) (d : RemainingCodePoints) → i < length opened
    → (slice_index_or opened i d ≡ []) ⊎ (group_number_of (slice_index_or opened i d) names ≡ Some (i + 1))

-- The nodes of the whole pattern, whose groups have these names, are exactly those to which the
-- rest can complete what has been read. If a reference is greater than the number of groups, the
-- pattern has no node.
pub record IsParserInvariant
    (s : PatternDialect) (flags : Flags) (pattern : RemainingCodePoints) (names : List RemainingCodePoints)
    (references groups : ℕ) (around : List OpenGroup) (level : PartialDisjunction) (here : RemainingCodePoints)
    : Type 0 where
  pub whole : FindsGroups s pattern names
  pub opened : List RemainingCodePoints
  pub rest : List RemainingCodePoints
  pub count : length opened ≡ groups
  pub ahead : FindsGroups s here rest
  pub found : names ≡ opened ++ rest
  pub numbered : AreOpenedNamesNumbered opened names
  pub same : references ≤ length names → (n : Node)
      → ParsesTo s flags pattern names n ↔ CompletesTo s flags names around level (parse_state here opened) n
  pub none : length names < references → (n : Node) → ParsesTo s flags pattern names n → ⊥
