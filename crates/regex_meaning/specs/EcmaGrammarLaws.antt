-- Laws of the whole language of ECMAScript; `src/lib.rt` proves each.
use Rattle.std.specs.Prelude.{◌≡◌, ◌==◌, ℕ, List, [], Some, false, IsTrue, length, count_by, nat_eq, nat_lt, if◌then◌else◌}
use Rattle.std.specs.List.{list_all}
use Rattle.regex_meaning.specs.Tree.{Node, Tree, Flags, group_ids}
use Rattle.regex_meaning.specs.MatchGroupsByNumberAndName.{group_names_by_id}
use Rattle.regex_meaning.specs.WellFormedTrees.{IsWellFormed}
use Rattle.regex_meaning.specs.CompilationRelation.{tree_contains_byte_nodes}
use Rattle.regex_meaning.specs.ReadingStatesAndDigits.{RemainingCodePoints, PatternContext}
use Rattle.regex_meaning.specs.Grammar.{Disjunction}
use Rattle.regex_meaning.specs.TreesWithoutCharLoops.{has_no_char_loops}
use Rattle.regex_meaning.specs.GroupOpeningScanWithoutParsing.{texts_after_parentheses, OpensGroups}
use Rattle.regex_meaning.specs.Canonical.{canonical_character}
use Rattle.regex_meaning.specs.EcmaClasses.{InvertibleSet, class_escape_set}
use Rattle.regex_meaning.specs.EcmaGrammarWithAnnexB.{ecmascript, ParsesEcmaScript}

-- The whole pattern is read as a Disjunction, which opens these groups.
abbrev pub IsPatternDisjunction : PatternContext → (pattern : RemainingCodePoints) → (groups : List RemainingCodePoints)
    → Node → Type 0
IsPatternDisjunction w pattern groups n =
    Disjunction ecmascript w false (record { text = pattern; opened = [] }) (record { text = []; opened = groups }) n

-- The groups that a pattern opens are those of the parentheses that the scan finds.
abbrev pub EcmaScriptGroupsAreFound : Type 0
EcmaScriptGroupsAreFound =
    (w : PatternContext) (pattern : RemainingCodePoints) (groups : List RemainingCodePoints) (n : Node)
    → IsPatternDisjunction w pattern groups n → OpensGroups ecmascript (texts_after_parentheses false pattern) groups

-- The groups of a pattern do not depend on the `PatternContext` in which it is read. So the meaning
-- of `\18` and `\k`, which depends on the groups, is well defined.
abbrev pub EcmaScriptGroupsIndependentOfContext : Type 0
EcmaScriptGroupsIndependentOfContext =
    (w v : PatternContext) (pattern : RemainingCodePoints) (groups others : List RemainingCodePoints) (n m : Node)
    → IsPatternDisjunction w pattern groups n → IsPatternDisjunction v pattern others m → groups ≡ others

-- A pattern has at most one tree.
abbrev pub EcmaScriptPatternHasAtMostOneTree : Type 0
EcmaScriptPatternHasAtMostOneTree =
    (flags : Flags) (pattern : RemainingCodePoints) (t u : Tree) → ParsesEcmaScript flags pattern t
    → ParsesEcmaScript flags pattern u → t ≡ u

-- The tree of a pattern has its flags, is well formed, reads no bytes, and has no loop over one
-- character.
abbrev pub EcmaScriptTreesAreWellFormed : Type 0
EcmaScriptTreesAreWellFormed =
    (flags : Flags) (pattern : RemainingCodePoints) (t : Tree) → ParsesEcmaScript flags pattern t
    → (t.flags ≡ flags) × IsWellFormed t.root × (tree_contains_byte_nodes t.root ≡ false)
    × IsTrue (has_no_char_loops t.root)

-- The tree of a pattern has as many groups as the scan finds. Each number below that count is the
-- id of exactly one group. The names by id are those that the scan finds, or an empty list if no
-- group has a name.
abbrev pub EcmaScriptGroupsAgreeWithScan : Type 0
EcmaScriptGroupsAgreeWithScan =
    (flags : Flags) (pattern : RemainingCodePoints) (t : Tree) (names : List RemainingCodePoints)
    → ParsesEcmaScript flags pattern t
    → OpensGroups ecmascript (texts_after_parentheses false pattern) names
    → (length (group_ids t.root) ≡ length names)
    × ((id : ℕ) → count_by (nat_eq id) (group_ids t.root) ≡ (if nat_lt id (length names) then 1 else 0))
    × (group_names_by_id t.root ≡ (if list_all (λ name. length name == 0) names then [] else names))

-- A character that matches a digit is a digit, and the same holds for spaces and word characters.
-- So `\D`, `\S` and `\W` are the complements of the sets of `\d`, `\s` and `\w` even if case is
-- ignored.
abbrev pub EcmaScriptClassesAreClosed : Type 0
EcmaScriptClassesAreClosed =
    (flags : Flags) (letter : ℕ) (s : InvertibleSet) → class_escape_set flags letter ≡ Some s → (c d : ℕ)
    → canonical_character flags.icase flags.unicode c ≡ canonical_character flags.icase flags.unicode d → s.0 c ≡ s.0 d
