-- What searches cost in units of work, given the cost of each attempt.
use Rattle.std.specs.Prelude.{◌≡◌, ◌<◌, ◌≤◌, ◌+◌, ◌-◌, ℕ, Bool, true, false, Option, Some, None, Result, Ok, Err, IfSome, IsOkAnd, IsSome, option_map}
use Rattle.regex_meaning.specs.Tree.{Tree}
use Rattle.regex_meaning.specs.Text.{Text}
use Rattle.regress_program.specs.StartPredicates.{is_anchored_tree}
use Rattle.regex_meaning.specs.CodeUnitOffsets.{units}
use Rattle.regress_search.specs.AttemptsAndStarts.{NextStartSkipsNoMatch, NoMatchAt, match_end_and_groups_at, offset_after_failed_attempt}
use Rattle.regress_search.specs.SearchEffects.{IsNextStartAfterFirstMatch}

-- The known failures, by instruction, offset and code of the loop data.
abbrev pub Failures : Type 0
Failures = (ip pos code : ℕ) → Bool

-- The costs of a producer that counts work.
pub record WorkCosts : Type 1 where
  -- The cost of an attempt. A producer may remember failures between attempts. `of_attempt tree text
  -- before at cost (Some after)` says: if the failures `before` are known at the start of the
  -- attempt at offset `at`, the attempt costs `cost`, and the failures `after` are known at its end.
  -- With `None` it says that a first part of the attempt costs `cost`.
  pub of_attempt : Tree → Text → (before : Failures) → (at cost : ℕ) → (after : Option Failures) → Type 0
  -- Whether a search may skip offsets at which no match begins. It pays one unit for each code unit
  -- that it skips.
  pub may_skip : Bool

-- The code units from an offset to the next start, or to the end of the text.
abbrev pub units_skipped : Text → (at : ℕ) → (next : Option ℕ) → ℕ
units_skipped text at None = units text - at
units_skipped text at (Some to) = to - at

-- The code units that are skipped are taken from the work that was left. If the producer may not
-- skip, the next start is the offset itself.
abbrev pub PaysForSkip : (may_skip : Bool) → Text → (at : ℕ) → (next : Option ℕ) → (left left' : ℕ) → Type 0
PaysForSkip may_skip text at next left left' =
    (may_skip ≡ false → next ≡ Some at) × (left ≡ units_skipped text at next + left')

-- A skip from an offset that costs more than the work that was left.
abbrev pub SkipCostsMoreThanLeft : (may_skip : Bool) → Tree → Text → (at left : ℕ) → Type 0
SkipCostsMoreThanLeft may_skip tree text at left = (may_skip ≡ true)
    × ∥ ((next : Option ℕ) × NextStartSkipsNoMatch tree text at next × (left < units_skipped text at next)) ∥₁

-- How much work a skip takes from the work that was left. An error is returned only if the skip
-- costs more than that.
abbrev pub SkipSpendsExactCost : {P E : Type 0} → (offset : P → ℕ) → (may_skip : Bool) → Tree → Text → (at left : ℕ)
    → Result (Option P) E → (left' : ℕ) → Type 0
SkipSpendsExactCost offset may_skip tree text at left (Ok next) left' =
    PaysForSkip may_skip text at (option_map offset next) left left'
SkipSpendsExactCost offset may_skip tree text at left (Err e) left' = SkipCostsMoreThanLeft may_skip tree text at left

-- The same, for a search that continues at position `from`, or has ended.
abbrev pub SkipFromSpendsExactCost : {P E : Type 0} → (offset : P → ℕ) → (may_skip : Bool) → Tree → Text
    → (from : Option P) → (left : ℕ) → Result (Option P) E → (left' : ℕ) → Type 0
SkipFromSpendsExactCost offset may_skip tree text None left result left' =
    IsOkAnd result (λ next. next ≡ None) × (left ≡ left')
SkipFromSpendsExactCost offset may_skip tree text (Some at) left result left' =
    SkipSpendsExactCost offset may_skip tree text (offset at) left result left'

-- A statement that holds only for producers that count work.
abbrev pub IfWorkIsCounted : (counts_work : Bool) → Type 0 → Type 0
IfWorkIsCounted false X = Unit {0}
IfWorkIsCounted true X = X

-- The offset of the next attempt after an attempt without a match: one character further. `None` at
-- the end of the text, or if the pattern matches only at the left end of the text.
abbrev pub next_attempt_offset : Tree → Text → (at : ℕ) → Option ℕ
next_attempt_offset tree text at = offset_after_failed_attempt (is_anchored_tree tree) text at

module _ (costs : WorkCosts) (tree : Tree) (text : Text) where
  -- Consecutive attempts and skips from offset `first` on find no match and cost `cost` in total.
  -- The search continues at offset `next` with the known failures `now`.
  pub data AttemptsFail (before : Failures) (first : Option ℕ) : (cost : ℕ) → (now : Failures) → (next : Option ℕ)
      → Type 0 where
    no_attempt : AttemptsFail before first 0 before first
    one_more : (done cost at : ℕ) (now after : Failures) → AttemptsFail before first done now (Some at)
        → costs.of_attempt tree text now at cost (Some after) → NoMatchAt tree text at
        → AttemptsFail before first (done + cost) after (next_attempt_offset tree text at)
    skips : (done at : ℕ) (now : Failures) (next : Option ℕ) → AttemptsFail before first done now (Some at)
        → costs.may_skip ≡ true → NextStartSkipsNoMatch tree text at next
        → AttemptsFail before first (done + units_skipped text at next) now next

  -- The search for the first match from offset `first` on costs `cost`, and ends with the known
  -- failures `after`. If `after` is `None`, a first part of the search costs `cost`.
  pub data SearchCosts (before : Failures) (first : Option ℕ) : (cost : ℕ) → (after : Option Failures) → Type 0 where
    finds_none : (cost : ℕ) (after : Failures) → AttemptsFail before first cost after None
        → SearchCosts before first cost (Some after)
    finds_match : (done cost at : ℕ) (now after : Failures) → AttemptsFail before first done now (Some at)
        → costs.of_attempt tree text now at cost (Some after) → IsSome (match_end_and_groups_at tree text at)
        → SearchCosts before first (done + cost) (Some after)
    is_begun : (done cost at : ℕ) (now : Failures) → AttemptsFail before first done now (Some at)
        → costs.of_attempt tree text now at cost None → SearchCosts before first (done + cost) None
    skip_is_begun : (done at : ℕ) (now : Failures) (next : Option ℕ) → AttemptsFail before first done now (Some at)
        → costs.may_skip ≡ true → NextStartSkipsNoMatch tree text at next
        → SearchCosts before first (done + units_skipped text at next) None

-- A first part of the computation costs more than the work that was left.
abbrev pub CostsMoreThanLeft : (costs : (cost : ℕ) → (after : Option Failures) → Type 0) → (left : ℕ) → Type 0
CostsMoreThanLeft costs left = ∥ ((cost : ℕ) × costs cost None × (left < cost)) ∥₁

-- The whole cost, and no more, is taken from the work that was left.
abbrev pub TakesExactCost : (costs : (cost : ℕ) → (after : Option Failures) → Type 0)
    → (left left' : ℕ) (after : Failures) → Type 0
TakesExactCost costs left left' after = (cost : ℕ) × costs cost (Some after) × (left ≡ cost + left')

-- The work left after a computation that gives no result. If the work limit was reached (`out`), a
-- first part of the computation costs more than was left. An allocation may fail at any time.
abbrev pub LeavesWorkWithoutResult : (costs : (cost : ℕ) → (after : Option Failures) → Type 0) → (left : ℕ)
    → (out : Bool)
    → (left' : ℕ) → Type 0
LeavesWorkWithoutResult costs left false left' = left' ≤ left
LeavesWorkWithoutResult costs left true left' = CostsMoreThanLeft costs left

-- How much work an attempt or a search takes from the work that was left.
abbrev pub SpendsExactCost : {X E : Type 0} → (costs : (cost : ℕ) → (after : Option Failures) → Type 0) → (left : ℕ)
    → Result X E → (out : Bool) → (left' : ℕ) (after : Failures) → Type 0
SpendsExactCost costs left (Ok x) out left' after = TakesExactCost costs left left' after
SpendsExactCost costs left (Err e) out left' after = LeavesWorkWithoutResult costs left out left'

-- How much work one call of an iterator takes from the work that was left.
abbrev pub CallSpendsExactCost : {X E : Type 0} → (costs : (cost : ℕ) → (after : Option Failures) → Type 0) → (left : ℕ)
    → Option (Result X E) → (out : Bool) → (left' : ℕ) (after : Failures) → Type 0
CallSpendsExactCost costs left None out left' after = TakesExactCost costs left left' after
CallSpendsExactCost costs left (Some result) out left' after = SpendsExactCost costs left result out left' after

-- The offset at which the list of matches continues after a call. `None` at the end of the list, or
-- after an error.
abbrev pub ContinuesAfterCall : {X E : Type 0} → Tree → Text → (position : Option ℕ) → Option (Result X E)
    → (position' : Option ℕ) → Type 0
ContinuesAfterCall tree text position (Some (Ok x)) position' =
    IfSome position (λ at. IsNextStartAfterFirstMatch tree text at position')
ContinuesAfterCall tree text position _ position' = position' ≡ None
