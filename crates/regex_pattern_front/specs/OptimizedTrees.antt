-- The optimized tree, which has loops over one character.
use Rattle.std.specs.Prelude.{◌≡◌, ℕ, zero, suc, Bool, true, false, IsTrue, if◌then◌else◌}
use Rattle.regex_meaning.specs.Tree.{Node, group_ids, char, char_set, byte_set, cat, alt, bracket, match_any, match_any_except_line_terminator, capture_group, lookaround, loop, loop_1_char_body}
use Rattle.regex_meaning.specs.Text.{Text, Direction}
use Rattle.regex_meaning.specs.Outcomes.{Groups, outcomes}
use Rattle.regex_meaning.specs.WellFormedTrees.{is_well_formed}
use Rattle.regex_meaning.specs.MatchGroupsByNumberAndName.{answers_from, capturing_group_ids_and_names}
pub use Rattle.regex_meaning.specs.TreesWithoutCharLoops.{has_no_char_loops}

-- Whether the node reads one character, which it accepts or rejects.
abbrev pub reads_one_character : Node → Bool
reads_one_character (char c) = true
reads_one_character (char_set members) = true
reads_one_character (byte_set members) = true
reads_one_character (bracket contents) = true
reads_one_character match_any = true
reads_one_character match_any_except_line_terminator = true
reads_one_character _ = false

-- The tree in which each loop over such a node is a loop over one character.
unfoldable pub optimized : Node → Node
optimized (cat first rest) = cat (optimized first) (optimized rest)
optimized (alt left right) = alt (optimized left) (optimized right)
optimized (capture_group id name contents) = capture_group id name (optimized contents)
optimized (lookaround l contents) = lookaround l (optimized contents)
optimized (loop q start_group end_group loopee) =
    if reads_one_character loopee then loop_1_char_body q loopee else loop q start_group end_group (optimized loopee)
optimized (loop_1_char_body q loopee) = loop_1_char_body q (optimized loopee)
optimized node = node

-- A loop as a loop over one character. Other nodes are unchanged.
abbrev pub loop_turned_into_char_loop : Node → Node
loop_turned_into_char_loop (loop q start_group end_group loopee) = loop_1_char_body q loopee
loop_turned_into_char_loop node = node

-- The alternatives after the first one.
abbrev pub rest_of_alternatives : Node → Node
rest_of_alternatives (alt left right) = right
rest_of_alternatives node = node

-- The first alternative of one chain, followed by another chain.
abbrev pub first_alternative_prepended_to_chain : (row rest : Node) → Node
first_alternative_prepended_to_chain (alt left right) rest = alt left rest
first_alternative_prepended_to_chain _ rest = rest

-- `count` alternatives whose links were reversed, so that the last of them is first. They are put
-- back in their original order, before the rest.
abbrev pub alternatives_with_links_unreversed : (count : ℕ) (done rest : Node) → Node
alternatives_with_links_unreversed zero done rest = alt done rest
alternatives_with_links_unreversed (suc count) done rest = alternatives_with_links_unreversed count
    (rest_of_alternatives done) (first_alternative_prepended_to_chain done rest)

-- Optimization keeps a tree well formed.
abbrev pub OptimizedIsWellFormed : Type 0
OptimizedIsWellFormed = (root : Node) → IsTrue (is_well_formed root) → IsTrue (is_well_formed (optimized root))

-- Optimization keeps the outcomes of a well-formed tree.
abbrev pub OptimizedHasSameOutcomes : Type 0
OptimizedHasSameOutcomes = (root : Node) → IsTrue (is_well_formed root)
    → (text : Text) (direction : Direction) (place : ℕ) (groups : Groups)
    → outcomes text (optimized root) direction place groups ≡ outcomes text root direction place groups

-- Optimization keeps the list of matches of a well-formed tree, from each start.
abbrev pub OptimizedHasSameAnswers : Type 0
OptimizedHasSameAnswers = (root : Node) → IsTrue (is_well_formed root)
    → (text : Text) (start : ℕ) → answers_from (optimized root) text start ≡ answers_from root text start

-- Optimization keeps the group ids in the order of the tree, and so their number.
abbrev pub OptimizedHasSameGroups : Type 0
OptimizedHasSameGroups = (root : Node) → group_ids (optimized root) ≡ group_ids root

-- Optimization keeps the name of each group.
abbrev pub OptimizedHasSameNames : Type 0
OptimizedHasSameNames =
    (root : Node) → capturing_group_ids_and_names (optimized root) ≡ capturing_group_ids_and_names root
