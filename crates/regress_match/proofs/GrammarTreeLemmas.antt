-- The grammar gives a pattern at most one tree, and the matches of a search, or at an offset, are
-- those of that tree.
use Rattle.std.proofs.Common.{◌≡◌, ℕ, List, Bool, Option, None, Some, IsTrue, true, refl, ap, ◌∙◌, map, option_map, option_and_then}
use Rattle.regex_meaning.specs.Tree.{Tree, Node, Flags}
use Rattle.regex_meaning.specs.Text as text
use Rattle.regex_meaning.specs.CodeUnitOffsets.{offset, place_at}
use Rattle.regex_meaning.specs.FirstAndAllMatches.{Found, match_at, no_groups}
use Rattle.regex_meaning.specs.MatchGroupsByNumberAndName.{Answer, answer, answers_from}
use Rattle.regex_meaning.specs.SearchAnswers.{answer_at}
use Rattle.regex_meaning.specs.WellFormedTrees.{is_well_formed}
use Rattle.regex_meaning.specs.Grammar.{PatternDialect, ParsesBy, profile}
use Rattle.regex_meaning.specs.EcmaGrammarWithAnnexB.{ecmascript}
use Rattle.regex_meaning.proofs.UniqueTreeLemmas.{pattern_has_at_most_one_tree}
use Rattle.regex_meaning.proofs.EcmaGrammarLemmas.{one-tree}
use Rattle.regex_pattern_front.specs.OptimizedTrees.{optimized}
use Rattle.regex_pattern_front.proofs.OptimizedTreesLemmas.{answers-optimized, group_ids-optimized, names_by_id-optimized, outcomes-optimized}
use Rattle.regress_program.proofs.TreeToRunLemmas.{planned-same}
use Rattle.regress_match.specs.Laws.{MatchesAtOffsetsFollowGrammar, SearchesFollowThePattern, SearchesFollowGrammar}
use Rattle.regress_match.specs.ProgramTreesAndAnswers.{IsCompiledWithSyntax, tree_for_byte_units, tree_for_16_bit_units}
use Rattle.regress_match.specs.declared.api.regex.Regex.{Regex}

-- The match that begins at an offset is that of the optimized tree.
answer_at-optimized : (root : Node) → IsTrue (is_well_formed root) → (read : text.Text) (at : ℕ)
    → answer_at (optimized root) read at ≡ answer_at root read at
answer_at-optimized root h read at = go (place_at read at)
  where
    match-same : (place : ℕ) → match_at (optimized root) read place ≡ match_at root read place
    match-same place = rw (outcomes-optimized root h read text.rightwards place (no_groups (optimized root)), group_ids-optimized root)

    answer-same : (m : Found) → answer (optimized root) read m ≡ answer root read m
    answer-same m =
        ap (λ (names : List (List ℕ)). record {
          range = (offset read m.start, offset read m.end);
          captures = map (option_map (λ r. (offset read r.0, offset read r.1))) m.groups;
          names = names;
        }) (names_by_id-optimized root)

    answered : (m : Option Found) → option_map (answer (optimized root) read) m ≡ option_map (answer root read) m
    answered None = refl
    answered (Some m) = ap (λ a. Some a) (answer-same m)

    go : (place : Option ℕ) → option_map (answer (optimized root) read) (option_and_then (match_at (optimized root) read) place)
        ≡ option_map (answer root read) (option_and_then (match_at root read) place)
    go None = refl
    go (Some place) = ap (option_map (answer (optimized root) read)) (match-same place) ∙ answered (match_at root read place)

-- Optimizing a well-formed tree does not change `f`.
abbrev SameOptimized : {A : Type 0} → (f : Node → text.Text → A) → Type 0
SameOptimized f = (root : Node) → IsTrue (is_well_formed root) → (read : text.Text) → f (optimized root) read ≡ f root read

-- A pattern of this dialect has at most one tree.
abbrev HasOneTree : PatternDialect → Type 0
HasOneTree s = (flags : Flags) (pattern : List ℕ) (t u : Tree) → ParsesBy s flags pattern t → ParsesBy s flags pattern u → t ≡ u

module _ (s : PatternDialect) (one : HasOneTree s) (flags : Flags) (pattern : List ℕ) (re : Regex) (tree : Tree) (is : IsCompiledWithSyntax s flags pattern re) (parsed : ParsesBy s flags pattern tree) where
  the-tree : tree_for_16_bit_units re ≡ tree
  the-tree = one flags pattern (tree_for_16_bit_units re) tree is.parsed parsed

  -- What optimizing a well-formed tree does not change is the same for the pattern's tree.
  module _ {A : Type 0} (f : Node → text.Text → A) where
    in-units : (of : Bool → text.Text)
        → f (tree_for_16_bit_units re).root (of (tree_for_16_bit_units re).flags.unicode) ≡ f tree.root (of flags.unicode)
    in-units of =
        ap (λ (g : Flags). f (tree_for_16_bit_units re).root (of g.unicode)) is.flags
        ∙ ap (λ (t : Tree). f t.root (of flags.unicode)) the-tree

    in-bytes : SameOptimized f → (of : Bool → text.Text)
        → f (tree_for_byte_units re).root (of (tree_for_byte_units re).flags.unicode) ≡ f tree.root (of flags.unicode)
    in-bytes same of =
        ap (λ (t : Tree). f t.root (of t.flags.unicode)) is.optimized
        ∙ planned-same (λ n. f n (of (tree_for_16_bit_units re).flags.unicode)) true (tree_for_16_bit_units re)
        (same (tree_for_16_bit_units re).root is.well_formed (of (tree_for_16_bit_units re).flags.unicode))
        ∙ in-units of

module _ (s : PatternDialect) (one : HasOneTree s) where
  follow : SearchesFollowGrammar s
  follow flags pattern re tree is parsed units start =
      let f : Node → text.Text → List Answer = λ root read. answers_from root read start in
      let same : SameOptimized f = λ root h read. answers-optimized root h read start in (
        in-bytes s one flags pattern re tree is parsed f same (text.utf8_text units),
        in-bytes s one flags pattern re tree is parsed f same (text.ascii_text units),
        in-units s one flags pattern re tree is parsed f (text.utf16_text units),
        in-units s one flags pattern re tree is parsed f (text.ucs2_text units),
      )

  follow-at : MatchesAtOffsetsFollowGrammar s
  follow-at flags pattern re tree is parsed units at =
      let f : Node → text.Text → Option Answer = λ root read. answer_at root read at in
      let same : SameOptimized f = λ root h read. answer_at-optimized root h read at in (
        in-bytes s one flags pattern re tree is parsed f same (text.utf8_text units),
        in-bytes s one flags pattern re tree is parsed f same (text.ascii_text units),
        in-units s one flags pattern re tree is parsed f (text.utf16_text units),
        in-units s one flags pattern re tree is parsed f (text.ucs2_text units),
      )

pub searches-follow : SearchesFollowThePattern
searches-follow = follow profile pattern_has_at_most_one_tree

pub ecmascript-searches-follow : SearchesFollowGrammar ecmascript
ecmascript-searches-follow = follow ecmascript one-tree

pub matches-at-follow : MatchesAtOffsetsFollowGrammar profile
matches-at-follow = follow-at profile pattern_has_at_most_one_tree

pub ecmascript-matches-at-follow : MatchesAtOffsetsFollowGrammar ecmascript
ecmascript-matches-at-follow = follow-at ecmascript one-tree
