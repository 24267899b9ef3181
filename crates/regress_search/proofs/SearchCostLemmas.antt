-- A search costs exactly what its attempts cost, one after another.
use Rattle.std.proofs.Common.{◌≡◌, ◌+◌, ◌≤◌, ℕ, Bool, true, false, Option, Some, None, option_map, Result, Ok, Err, ap, ap₂, refl, subst, sym, ◌∙◌, arith}
use Rattle.std.specs.Prelude.{IsErrAnd, IsSome}
use Rattle.std.proofs.Math.Logic.{∥∥₁_map}
use Rattle.regex_meaning.specs.Tree.{Tree}
use Rattle.regex_meaning.specs.Text.{Text}
use Rattle.regex_meaning.specs.Outcomes.{Groups}
use Rattle.regress_search.specs.AttemptsAndStarts.{NextStartSkipsNoMatch, NoMatchAt, end_with_groups, match_end_and_groups_at}
use Rattle.regress_search.specs.CostsOfSearches.{AttemptsFail, CallSpendsExactCost, CostsMoreThanLeft, Failures, IfWorkIsCounted, LeavesWorkWithoutResult}
use Rattle.regress_search.specs.CostsOfSearches.{PaysForSkip, SearchCosts, SkipCostsMoreThanLeft, SkipFromSpendsExactCost, SpendsExactCost, WorkCosts}
use Rattle.regress_search.specs.CostsOfSearches.{TakesExactCost, no_attempt, one_more, skips, finds_none, finds_match, is_begun, skip_is_begun, next_attempt_offset, units_skipped}

-- ---- Statements of producers that count work

pub counted : (b : Bool) {X : Type 0} → X → IfWorkIsCounted b X
counted false x = tt
counted true x = x

-- If work is counted, what holds of producers that count work holds.
pub of-counted : (b : Bool) {X : Type 0} → b ≡ true → IfWorkIsCounted b X → X
of-counted b {X} e x = subst (λ b. IfWorkIsCounted b X) e x

pub counted₁ : (b : Bool) {X Y : Type 0} → (X → Y) → IfWorkIsCounted b X → IfWorkIsCounted b Y
counted₁ false f x = tt
counted₁ true f x = f x

pub counted₂ : (b : Bool) {X Y Z : Type 0} → (X → Y → Z) → IfWorkIsCounted b X → IfWorkIsCounted b Y → IfWorkIsCounted b Z
counted₂ false f x y = tt
counted₂ true f x y = f x y

pub counted₃ : (b : Bool) {W X Y Z : Type 0} → (W → X → Y → Z) → IfWorkIsCounted b W → IfWorkIsCounted b X → IfWorkIsCounted b Y → IfWorkIsCounted b Z
counted₃ false f w x y = tt
counted₃ true f w x y = f w x y

-- ---- Attempts of a search

module _ (costs : WorkCosts) where
  -- A call behind the end of the list costs nothing.
  pub nothing-costs : {X E : Type 0} (tree : Tree) (text : Text) (before : Failures) (position : Option ℕ) (left : ℕ) (out : Bool) (r : Option (Result X E)) → r ≡ None → position ≡ None
      → CallSpendsExactCost (SearchCosts costs tree text before position) left r out left before
  nothing-costs tree text before position left out r none e =
      subst (λ r. CallSpendsExactCost (SearchCosts costs tree text before position) left r out left before) (sym none)
      (0, finds_none 0 before (subst (λ p. AttemptsFail costs tree text before position 0 before p) e no_attempt), omega arith)

  -- The attempts so far found no match, and cost what is no longer left.
  pub record Failing (tree : Tree) (text : Text) (before : Failures) (first left : ℕ) (now : Failures) (left' : ℕ) (next : Option ℕ) : Type 0 where
    pub done : ℕ
    pub fail : AttemptsFail costs tree text before (Some first) done now next
    pub spent : left ≡ done + left'

  pub failing-begins : (tree : Tree) (text : Text) (before : Failures) (first left : ℕ) (next : Option ℕ) → next ≡ Some first
      → Failing tree text before first left before left next
  failing-begins tree text before first left next e = record {
    done = 0;
    fail = subst (λ n. AttemptsFail costs tree text before (Some first) 0 before n) (sym e) no_attempt;
    spent = omega arith;
  }

  module _ {tree : Tree} {text : Text} {before : Failures} {first left : ℕ} where
    skip-by : (may_skip : Bool) → costs.may_skip ≡ may_skip → (now : Failures) (now_left left' at : ℕ) (next : Option ℕ)
        → Failing tree text before first left now now_left (Some at) → PaysForSkip may_skip text at next now_left left' → NextStartSkipsNoMatch tree text at next
        → Failing tree text before first left now left' next
    skip-by true may now now_left left' at next f pays none = record {
      done = f.done + units_skipped text at next;
      fail = skips f.done at now next f.fail may none;
      spent = let s = f.spent in let p = pays.1 in omega (arith, s, p);
    }
    skip-by false may now now_left left' at next f pays none =
        let is : next ≡ Some at = pays.0 refl in
        let taken : now_left ≡ units_skipped text at (Some at) + left' = pays.1 ∙ ap (λ n. units_skipped text at n + left') is in
        record {
          done = f.done;
          fail = subst (λ n. AttemptsFail costs tree text before (Some first) f.done now n) (sym is) f.fail;
          spent = let s = f.spent in omega (arith, s, taken);
        }

    module _ (tree' : Tree) (text' : Text) (same_tree : tree' ≡ tree) (same_text : text' ≡ text) (now : Failures) (now_left left' : ℕ) {P : Type 0} (E : Type 0) (offset : P → ℕ) where
      -- If starts are skipped, the search takes a unit for each code unit that is skipped.
      pub failing-skips : (from next : Option P) → Failing tree text before first left now now_left (option_map offset from)
          → SkipFromSpendsExactCost {P = P} {E = E} offset costs.may_skip tree' text' from now_left (Ok next) left'
          → ((p : P) → from ≡ Some p → NextStartSkipsNoMatch tree' text' (offset p) (option_map offset next)) → Failing tree text before first left now left' (option_map offset next)
      failing-skips None next f pays none = record {
        done = f.done;
        fail = subst (λ n. AttemptsFail costs tree text before (Some first) f.done now (option_map offset n)) (sym pays.0) f.fail;
        spent = let s = f.spent in let p = pays.1 in omega (arith, s, p);
      }
      failing-skips (Some p) next f pays none =
          let to = option_map offset next in
          skip-by costs.may_skip refl now now_left left' (offset p) to f (subst (λ x. PaysForSkip costs.may_skip x (offset p) to now_left left') same_text pays)
          (subst (λ t. NextStartSkipsNoMatch t text (offset p) to) same_tree (subst (λ x. NextStartSkipsNoMatch tree' x (offset p) to) same_text (none p refl)))

      -- If a skip costs more than is left, the search does.
      pub failing-refuses : (from : Option P) (e : E) → Failing tree text before first left now now_left (option_map offset from)
          → SkipFromSpendsExactCost {P = P} {E = E} offset costs.may_skip tree' text' from now_left (Err e) left' → CostsMoreThanLeft (SearchCosts costs tree text before (Some first)) left
      failing-refuses None e f pays = absurd pays.0
      failing-refuses (Some p) e f pays =
          let at = offset p in
          let more : SkipCostsMoreThanLeft costs.may_skip tree text at now_left =
          subst (λ t. SkipCostsMoreThanLeft costs.may_skip t text at now_left) same_tree (subst (λ x. SkipCostsMoreThanLeft costs.may_skip tree' x at now_left) same_text pays) in
          ∥∥₁_map more.1 (λ skip. (
            f.done + units_skipped text at skip.0,
            skip_is_begun f.done at now skip.0 f.fail more.0 skip.1,
            (let s = f.spent in let l = skip.2 in omega (arith, s, l)),
          ))

    -- If no offset is left to try, the search takes the cost of the failed attempts.
    pub failing-ends : (now : Failures) (left' : ℕ) (next : Option ℕ) → next ≡ None → Failing tree text before first left now left' next
        → TakesExactCost (SearchCosts costs tree text before (Some first)) left left' now
    failing-ends now left' next e f =
        (f.done, finds_none f.done now (subst (λ n. AttemptsFail costs tree text before (Some first) f.done now n) e f.fail), f.spent)

    -- An attempt is made at the next offset, with the tree and the text of the search.
    module _ {P : Type 0} (offset : P → ℕ) (next : Option P) (at : P) (here : next ≡ Some at) (tree' : Tree) (text' : Text) (same_tree : tree' ≡ tree) (same_text : text' ≡ text)
        (now : Failures) (now_left : ℕ) (f : Failing tree text before first left now now_left (option_map offset next)) where
      fail-here : AttemptsFail costs tree text before (Some first) f.done now (Some (offset at))
      fail-here = subst (λ o. AttemptsFail costs tree text before (Some first) f.done now (option_map offset o)) here f.fail

      costs-here : (cost : ℕ) (after : Option Failures) → costs.of_attempt tree' text' now (offset at) cost after → costs.of_attempt tree text now (offset at) cost after
      costs-here cost after c =
          subst (λ t. costs.of_attempt t text now (offset at) cost after) same_tree (subst (λ x. costs.of_attempt tree' x now (offset at) cost after) same_text c)

      module _ (groups : Groups) (end : Option P) (found : end_with_groups offset end groups ≡ match_end_and_groups_at tree' text' (offset at)) where
        match-here : match_end_and_groups_at tree text (offset at) ≡ end_with_groups offset end groups
        match-here = sym (found ∙ ap₂ (λ t x. match_end_and_groups_at t x (offset at)) same_tree same_text)

        -- If the attempt finds no match, it is one more failed attempt, whose cost is added.
        pub failing-goes : end ≡ None → (further : Option ℕ) (tree'' : Tree) (text'' : Text) → tree'' ≡ tree' → text'' ≡ text' → (after : Failures) (left' : ℕ)
            → TakesExactCost (costs.of_attempt tree' text' now (offset at)) now_left left' after → further ≡ next_attempt_offset tree'' text'' (offset at)
            → Failing tree text before first left after left' further
        failing-goes none further tree'' text'' t x after left' takes on =
            let vain : NoMatchAt tree text (offset at) = match-here ∙ ap (λ o. end_with_groups offset o groups) none in
            let is : further ≡ next_attempt_offset tree text (offset at) = on ∙ ap₂ (λ t x. next_attempt_offset t x (offset at)) (t ∙ same_tree) (x ∙ same_text) in
            record {
              done = f.done + takes.0;
              fail = subst (λ n. AttemptsFail costs tree text before (Some first) (f.done + takes.0) after n) (sym is)
                  (one_more f.done takes.0 (offset at) now after fail-here (costs-here takes.0 (Some after) takes.1) vain);
              spent = let s = f.spent in let l = takes.2 in omega (arith, s, l);
            }

        -- If the attempt finds a match, the search takes the cost of all its attempts.
        pub failing-finds : (e : P) → end ≡ Some e → (after : Failures) (left' : ℕ) → TakesExactCost (costs.of_attempt tree' text' now (offset at)) now_left left' after
            → TakesExactCost (SearchCosts costs tree text before (Some first)) left left' after
        failing-finds e some after left' takes =
            let is : match_end_and_groups_at tree text (offset at) ≡ Some (offset e, groups) = match-here ∙ ap (λ o. end_with_groups offset o groups) some in
            let found : IsSome (match_end_and_groups_at tree text (offset at)) = subst IsSome (sym is) refl in (
              f.done + takes.0,
              finds_match f.done takes.0 (offset at) now after fail-here (costs-here takes.0 (Some after) takes.1) found,
              (let s = f.spent in let l = takes.2 in omega (arith, s, l)),
            )

      -- If the attempt stops short, the search does.
      pub failing-stops : (out : Bool) (left' : ℕ) → LeavesWorkWithoutResult (costs.of_attempt tree' text' now (offset at)) now_left out left'
          → LeavesWorkWithoutResult (SearchCosts costs tree text before (Some first)) left out left'
      failing-stops false left' less = let s = f.spent in omega (arith, s, less)
      failing-stops true left' more = ∥∥₁_map more (λ c. (
        f.done + c.0,
        is_begun f.done c.0 (offset at) now fail-here (costs-here c.0 None c.1),
        (let s = f.spent in let l = c.2 in omega (arith, s, l)),
      ))

-- An error other than the work limit leaves at most the work that was left.
pub stops-without : (costs : (cost : ℕ) → (after : Option Failures) → Type 0) (left : ℕ) (out : Bool) (left' : ℕ) → out ≡ false → left' ≤ left → LeavesWorkWithoutResult costs left out left'
stops-without costs left out left' e less = subst (λ b. LeavesWorkWithoutResult costs left b left') (sym e) less

-- If the work limit is reported, the computation costs more than was left.
pub stops-out : (costs : (cost : ℕ) → (after : Option Failures) → Type 0) (left : ℕ) (out : Bool) (left' : ℕ) → out ≡ true → CostsMoreThanLeft costs left → LeavesWorkWithoutResult costs left out left'
stops-out costs left out left' e more = subst (λ b. LeavesWorkWithoutResult costs left b left') (sym e) more

-- An error that is handed up has spent what its computation has spent.
pub handed-cost : {Y E : Type 0} (costs : (cost : ℕ) → (after : Option Failures) → Type 0) (left : ℕ) (r : Result Y E) (e : E) (out : Bool) (left' : ℕ) (after : Failures)
    → IsErrAnd r (λ f. f ≡ e) → LeavesWorkWithoutResult costs left out left' → SpendsExactCost costs left r out left' after
handed-cost costs left (Ok y) e out left' after h s = absurd h
handed-cost costs left (Err f) e out left' after h s = s
