-- Laws of the grammar; `src/lib.rt` proves each.
use Rattle.std.specs.Prelude.{◌≡◌, List, [], false, codes, ℕ, ◌==◌, IsTrue, length, map, chars, count_by, nat_eq, nat_lt, if◌then◌else◌}
use Rattle.regex_meaning.specs.Tree.{Node, Tree, Flags, goal, char, cat, end_of_cat, alt, group_ids}
use Rattle.regex_meaning.specs.ReadingStatesAndDigits.{RemainingCodePoints, PatternContext, sequence_node}
use Rattle.regex_meaning.specs.Grammar.{Disjunction, Parses, profile, character_node}
use Rattle.regex_meaning.specs.GroupNameScan.{scanned_names_per_capturing_group}
use Rattle.std.specs.List.{list_all}
use Rattle.std.specs.Str.{is_utf8}
use Rattle.regex_meaning.specs.FlagLettersAndEscaping.{escape}
use Rattle.regex_meaning.specs.MatchGroupsByNumberAndName.{group_names_by_id}
use Rattle.regex_meaning.specs.WellFormedTrees.{IsWellFormed}
use Rattle.regex_meaning.specs.CompilationRelation.{tree_contains_byte_nodes}
use Rattle.regex_meaning.specs.TreesWithoutCharLoops.{has_no_char_loops}

-- No flag is set.
abbrev pub no_flags : Flags
no_flags =
    record { icase = false; multiline = false; dot_all = false; no_opt = false; unicode = false; unicode_sets = false }

-- The tree of `a|ab`.
abbrev pub ExampleIsParsed : Type 0
ExampleIsParsed =
    Parses no_flags (codes "a|ab") (record {
      root = cat (alt (cat (char 97) end_of_cat) (cat (char 97) (cat (char 98) end_of_cat))) (cat goal end_of_cat);
      flags = no_flags;
    })

-- A pattern has at most one tree.
abbrev pub PatternHasAtMostOneTree : Type 0
PatternHasAtMostOneTree =
    (flags : Flags) (pattern : RemainingCodePoints) (t u : Tree) → Parses flags pattern t → Parses flags pattern u
    → t ≡ u

-- The groups that have opened at the end of a pattern have the names that the scan finds.
abbrev pub ScanFindsOpenedGroupNames : Type 0
ScanFindsOpenedGroupNames =
    (w : PatternContext) (pattern : RemainingCodePoints) (groups : List RemainingCodePoints) (n : Node)
    → Disjunction profile w false (record { text = pattern; opened = [] }) (record { text = []; opened = groups }) n
    → groups ≡ scanned_names_per_capturing_group false pattern

-- A tree has as many groups as the scan finds. Each number below that count is the id of exactly
-- one group.
abbrev pub ScanCountsPatternGroups : Type 0
ScanCountsPatternGroups =
    (flags : Flags) (pattern : RemainingCodePoints) (t : Tree) → Parses flags pattern t →
    let groups = length (scanned_names_per_capturing_group false pattern) in
    (length (group_ids t.root) ≡ groups)
    × ((id : ℕ) → count_by (nat_eq id) (group_ids t.root) ≡ (if nat_lt id groups then 1 else 0))

-- The tree of a pattern has its flags, is well formed, reads no bytes, and has no loop over one
-- character.
abbrev pub TreesAreWellFormed : Type 0
TreesAreWellFormed =
    (flags : Flags) (pattern : RemainingCodePoints) (t : Tree) → Parses flags pattern t
    → (t.flags ≡ flags) × IsWellFormed t.root × (tree_contains_byte_nodes t.root ≡ false)
    × IsTrue (has_no_char_loops t.root)

-- The tree of a pattern that is a sequence of literal characters.
abbrev pub literal_tree : Flags → RemainingCodePoints → Tree
literal_tree flags text =
    record { root = cat (sequence_node (map (character_node flags) text)) (cat goal end_of_cat); flags = flags }

-- With every flag, an escaped text is a pattern whose tree is the sequence of its characters.
abbrev pub EscapedTextParsesAsLiteral : Type 0
EscapedTextParsesAsLiteral = (flags : Flags) (text : RemainingCodePoints)
    → Parses flags (escape text) (literal_tree flags text)

-- With every flag, a UTF-8 text that was escaped byte by byte is a pattern whose tree is the
-- sequence of the characters of the text.
abbrev pub EscapedUtf8ParsesAsLiteral : Type 0
EscapedUtf8ParsesAsLiteral =
    (flags : Flags) (bytes : List ℕ) → IsTrue (is_utf8 bytes)
    → Parses flags (chars (escape bytes)) (literal_tree flags (chars bytes))

-- The names by id of a tree's groups are those that the scan finds, or an empty list if no group
-- has a name.
abbrev pub ScanFindsGroupNames : Type 0
ScanFindsGroupNames =
    (flags : Flags) (pattern : RemainingCodePoints) (t : Tree) → Parses flags pattern t →
    let names = scanned_names_per_capturing_group false pattern in
    group_names_by_id t.root ≡ (if list_all (λ name. length name == 0) names then [] else names)
