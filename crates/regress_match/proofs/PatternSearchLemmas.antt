-- The results of a search are the matches of the tree that the grammar gives to the pattern.
use Rattle.std.proofs.Common.{◌≡◌, ℕ, subst}
use Rattle.regex_meaning.specs.Tree.{Tree}
use Rattle.regex_meaning.specs.Text.{Text}
use Rattle.regex_meaning.specs.Grammar.{PatternDialect}
use Rattle.regex_meaning.specs.MatchGroupsByNumberAndName.{answers_from}
use Rattle.regress_match.specs.Laws.{ReturnsMatchesOf, SearchesFollowGrammar, SearchesReturnMatchesOfPattern}
use Rattle.regress_match.specs.SearchResults.{ResultsAreMatchesInOrder}
use Rattle.regress_match.proofs.SearchResultLemmas.{searches-ResultsAreMatchesInOrder}

-- Trees with the same matches return the same results.
returns-same : (searched : Tree) (text : Text) (tree : Tree) (text_read : Text) (start : ℕ)
    → answers_from searched.root text start ≡ answers_from tree.root text_read start
    → ReturnsMatchesOf searched text tree text_read start
returns-same searched text tree text_read start same it behind results yields calls =
    subst (λ matches. ResultsAreMatchesInOrder matches results) same
    (searches-ResultsAreMatchesInOrder searched text start it behind results yields calls)

-- If searches follow the grammar, they return the matches of the pattern's tree.
pub searches-return : (s : PatternDialect) → SearchesFollowGrammar s → SearchesReturnMatchesOfPattern s
searches-return s follow flags pattern re tree is parsed text start =
    let same = follow flags pattern re tree is parsed text start in
    (returns-same _ _ tree _ start same.0, returns-same _ _ tree _ start same.1, returns-same _ _ tree _ start same.2, returns-same _ _ tree _ start same.3)
