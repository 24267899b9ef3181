-- The effects of a skip, an attempt and a search on the state of a searcher.
use Rattle.std.specs.Prelude.{◌≡◌, ◌≤◌, ℕ, Option, Some, Result, IfErr, IsOkAnd, IsSome, option_map}
use Rattle.regress_search.specs.declared.exec.SearchError.{SearchError}
use Rattle.regress_search.specs.declared.exec.search_state.SearchState.{Ghosts}
use Rattle.regress_search.specs.SearchEffects.{IsRefusedByWorkLimit}
use Rattle.regress_search.specs.CostsOfSearches.{IfWorkIsCounted, SearchCosts, SkipFromSpendsExactCost, SpendsExactCost}

module _ {E : Type 0} (e : Ghosts E) where
  -- ---- Skips of candidate starts

  -- What a skip does not change. It may change the work that is left, and the limits that are
  -- reached.
  pub record KeepsAllButWork (before after : E) : Type 0 where
    pub tree : e.tree after ≡ e.tree before
    pub text : e.text after ≡ e.text before
    pub budget : e.budget after ≡ e.budget before
    pub enough : e.enough after ≡ e.enough before
    pub ahead : e.ahead after ≡ e.ahead before
    pub failures : e.failures after ≡ e.failures before

  -- A skip from position `from` pays for what it skips, or the work limit refuses it. `from` is
  -- `None` if the search has ended.
  pub record SkipsAndPays {P : Type 0} (offset : P → ℕ) (from : Option P) (before : E)
      (result : Result (Option P) SearchError) (after : E) : Type 0 where
    -- If steps are counted, the result is the given position.
    pub counted : IsSome (e.budget before) → IsOkAnd result (λ to. option_map offset to ≡ option_map offset from)
    -- An error means that the work limit is reached.
    pub refused : IfErr result (λ error. IsRefusedByWorkLimit error (e.out_of_steps after) (e.out_of_work after)
        (e.enough before))
    -- If work is counted, the skip takes one unit of work for each code unit that it skips. An
    -- error means that it costs more than is left.
    pub paid : IfWorkIsCounted e.counts_work (SkipFromSpendsExactCost offset e.costs.may_skip (e.tree before)
        (e.text before) from (e.left before) result (e.left after))
    -- The work that is left does not increase.
    pub left : e.left after ≤ e.left before
    -- Nothing else changes.
    pub same : KeepsAllButWork before after

  -- ---- Costs

  -- If work is counted, an attempt at offset `at` takes exactly its cost from the work that is left.
  abbrev pub AttemptTakesItsCost : {X R : Type 0} → (before : E) → (at : ℕ) → Result X R → (after : E) → Type 0
  AttemptTakesItsCost before at result after = IfWorkIsCounted e.counts_work
      (SpendsExactCost (e.costs.of_attempt (e.tree before) (e.text before) (e.failures before) at)
      (e.left before) result (e.out_of_work after) (e.left after) (e.failures after))

  -- If work is counted, a search from offset `at` on takes exactly its cost from the work that is
  -- left.
  abbrev pub SearchTakesItsCost : {X R : Type 0} → (before : E) → (at : ℕ) → Result X R → (after : E) → Type 0
  SearchTakesItsCost before at result after = IfWorkIsCounted e.counts_work
      (SpendsExactCost (SearchCosts e.costs (e.tree before) (e.text before) (e.failures before) (Some at))
      (e.left before) result (e.out_of_work after) (e.left after) (e.failures after))
