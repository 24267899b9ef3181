-- What a call of an iterator with a work limit returns and costs.
use Rattle.std.specs.Prelude.{◌≡◌, ◌≤◌, ℕ, Bool, Option, Some, None, Result, Ok, Err}
use Rattle.regex_meaning.specs.Tree.{Tree}
use Rattle.regex_meaning.specs.Text.{Text}
use Rattle.regress_search.specs.declared.exec.Match.{Match}
use Rattle.regress_search.specs.declared.exec.work_matches.WorkError.{WorkError}
use Rattle.regress_search.specs.declared.exec.work_matches.WorkError.TheVariants.{Memory, WorkLimit}
use Rattle.regress_search.specs.RemainingAnswers.{RemainingView}
use Rattle.regress_search.specs.MatchesWithinWork.{RemainingAnswersAndWork, NextYieldsWithinWork}
use Rattle.regress_search.specs.CostsOfSearches.{ContinuesAfterCall, CostsMoreThanLeft, Failures, SearchCosts, TakesExactCost, WorkCosts}

-- What contracts see of an iterator: the answers still to come, how much work may still be done,
-- and whether that is enough for all of them. The cost of the next call depends on the producer and
-- on the offset at which the list continues.
pub record WorkMatchesView (P : Type 0) : Type 0 where
  pub remaining : RemainingView
  pub left : ℕ
  pub enough : Bool
  pub producer : P
  pub position : Option ℕ

-- The part of the view that does not determine the cost of the next call.
abbrev pub without_costs : {P : Type 0} → WorkMatchesView P → RemainingAnswersAndWork
without_costs v = record { remaining = v.remaining; left = v.left; enough = v.enough }

-- The work that one call does, if its search has the cost `costs`. A complete search takes exactly
-- its cost from the work that was left. `WorkLimit` is returned only if a part of the search costs
-- more than was left. An allocation failure never increases the work that is left.
abbrev pub CostsInWork : (costs : (cost : ℕ) → (after : Option Failures) → Type 0) → (left : ℕ)
    → Option (Result Match WorkError) → (left' : ℕ) (after : Failures) → Type 0
CostsInWork costs left None left' after = TakesExactCost costs left left' after
CostsInWork costs left (Some (Ok m)) left' after = TakesExactCost costs left left' after
CostsInWork costs left (Some (Err Memory)) left' after = left' ≤ left
CostsInWork costs left (Some (Err WorkLimit)) left' after = CostsMoreThanLeft costs left × (left' ≡ 0)

module _ {P : Type 0} (costs : WorkCosts) (tree : P → Tree) (text : P → Text) (failures : P → Failures) where
  -- The cost of the next call: a search from the offset at which the list continues.
  abbrev pub NextCallCosts : WorkMatchesView P → (cost : ℕ) → (after : Option Failures) → Type 0
  NextCallCosts s = SearchCosts costs (tree s.producer) (text s.producer) (failures s.producer) s.position

  -- The effect of one call: what it returns, what it costs, and where the list continues.
  abbrev pub NextYieldsAtCost : WorkMatchesView P → Option (Result Match WorkError) → WorkMatchesView P → Type 0
  NextYieldsAtCost s result t =
      NextYieldsWithinWork (without_costs s) result (without_costs t)
      × CostsInWork (NextCallCosts s) s.left result t.left (failures t.producer)
      × ContinuesAfterCall (tree s.producer) (text s.producer) s.position result t.position
      × (tree t.producer ≡ tree s.producer) × (text t.producer ≡ text s.producer)
