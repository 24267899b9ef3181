-- Which start positions are tried if steps are counted.
use Rattle.std.specs.Prelude.{◌≡◌, ℕ, ◌+◌, Bool, true, Option, IsTrue}
use Rattle.regex_meaning.specs.Tree.{Tree}
use Rattle.regex_meaning.specs.Text.{Text}
use Rattle.regex_meaning.specs.StartPredicate.{StartPredicate, start_anchored, start_predicate, may_start}
use Rattle.regex_meaning.specs.WellFormedTrees.{is_well_formed}
use Rattle.regress_search.specs.AttemptsAndStarts.{NextStartSkipsNoMatch, first_filtered_start, next_filtered_start}

-- Whether a start predicate admits a place, so that it is tried. If outcomes are possible only at
-- the left end, the search reaches a single place, and the predicate admits it.
abbrev pub admits_start : StartPredicate → Text → (place : ℕ) → Bool
admits_start start_anchored text place = true
admits_start p text place = may_start p text place

-- `next` is the next offset that is tried. No match of the tree begins before it.
pub record IsTriedStart (tree : Tree) (text : Text) (from : ℕ) (tried next : Option ℕ) : Type 0 where
  pub counted : next ≡ tried
  pub skips : IsTrue (is_well_formed tree.root) → NextStartSkipsNoMatch tree text from next

-- `next` is the first offset at `from` or later that is tried, for each tree with this start
-- predicate.
abbrev pub IsFirstTriedStart : StartPredicate → Text → (from : ℕ) → Option ℕ → Type 0
IsFirstTriedStart p text from next = (tree : Tree) → start_predicate tree ≡ p
    → IsTriedStart tree text from (first_filtered_start tree text from) next

-- `next` is the offset that is tried after the failed start `at`, for each tree with this start
-- predicate.
abbrev pub IsTriedStartAfterFailure : StartPredicate → Text → (at : ℕ) → Option ℕ → Type 0
IsTriedStartAfterFailure p text at next = (tree : Tree) → start_predicate tree ≡ p
    → IsTriedStart tree text (at + 1) (next_filtered_start tree text at) next
