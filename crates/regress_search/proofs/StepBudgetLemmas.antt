-- Successive attempts reduce a step budget by exactly the steps that the search needs.
use Rattle.std.proofs.Common.{◌≡◌, ℕ, zero, suc, ◌+◌, ◌-◌, ◌<◌, ◌≤◌, List, [], ◌∷◌, Option, Some, None, Err, Bool, true, false, refl, ap, ap₂, sym, ◌∙◌, subst, arith, inl, inr}
use Rattle.std.proofs.lemmas.Bool.{cases_lt, le-leb, leb-true, leb-false, lt-leb}
use Rattle.std.specs.Prelude.{if◌then◌else◌, nat_le, filter, IsErrAnd, Result, Ok, option_map, option_and_then, is_some, IsTrue}
use Rattle.std.specs.Option.{option_map_or}
use Rattle.regex_meaning.specs.NumberListHelpers.{numbers_from}
use Rattle.regex_meaning.specs.Tree.{Tree}
use Rattle.regex_meaning.specs.Text.{Text, rightwards, last_place}
use Rattle.regex_meaning.specs.CodeUnitOffsets.{HasRisingPlaceOffsets, IsBoundary, offset, place_at, read, read_at}
use Rattle.regex_meaning.specs.Outcomes.{Groups, Outcome}
use Rattle.regex_meaning.specs.StartPredicate.{StartPredicate, start_arbitrary, start_byte_set, start_byte_sequence, start_anchored, start_predicate, may_start}
use Rattle.regex_meaning.specs.StepBudget.{IsBudgetAtMost, budget_suffices, remaining_budget, need_from}
use Rattle.regex_meaning.specs.OutcomesWithStepTicks.{TickOrOutcome, tick, pair, outcomes_without_ticks, has_no_outcome, items_at, need, ticks_at, ticks_to_first, tried_places}
use Rattle.regex_meaning.proofs.CodeUnitOffsetsLemmas.{IsBoundary-place, offset-place_at, place_at-offset}
use Rattle.regex_meaning.proofs.OptionLemmas.{some-same}
use Rattle.regress_machine.specs.SearchFindsFirstOutcomeAtPlace.{end_in_offsets, first_outcome_among_ticks}
use Rattle.regress_search.specs.AttemptsAndStarts.{NoMatchAt, filtered_start_after, match_end_and_groups_at, offset_of_first_place, first_filtered_start, next_filtered_start, ticks_of_attempt_at}
use Rattle.regress_search.specs.SearchEffects.{SpendsNeedOrReachesLimit}
use Rattle.regress_search.specs.declared.exec.SearchError.{SearchError}
use Rattle.regress_search.specs.declared.exec.SearchError.TheVariants.{Memory, StepLimit}
use Rattle.regress_search.proofs.FirstMatchLemmas.{found-on, read-inside, read-end}

-- ---- Items of an attempt

pairs-none : (items : List TickOrOutcome) → first_outcome_among_ticks items ≡ None → has_no_outcome (outcomes_without_ticks items) ≡ true
pairs-none [] e = refl
pairs-none (tick ∷ items) e = pairs-none items e
pairs-none (pair o ∷ items) e = cc

pairs-some : (items : List TickOrOutcome) (o : Outcome) → first_outcome_among_ticks items ≡ Some o → has_no_outcome (outcomes_without_ticks items) ≡ false
pairs-some [] o e = cc
pairs-some (tick ∷ items) o e = pairs-some items o e
pairs-some (pair x ∷ items) o e = refl

none-mapped : {X Y : Type 0} (f : X → Y) (o : Option X) → option_map f o ≡ None → o ≡ None
none-mapped f None e = refl
none-mapped f (Some x) e = cc

some-mapped : {X Y : Type 0} (f : X → Y) (o : Option X) (y : Y) → option_map f o ≡ Some y → (x : X) × (o ≡ Some x)
some-mapped f None y e = cc
some-mapped f (Some x) y e = (x, refl)

module _ (tree : Tree) (text : Text) where
  -- `rest` is the number of steps that the next place needs, or zero without one.
  abbrev pub rest : (next : Option ℕ) → ℕ
  rest next = option_map_or (need_from tree text) next 0

  -- `places_from` lists the places from one on that are tried.
  abbrev places_from : (place : ℕ) → List ℕ
  places_from place = tried_places tree text (start_predicate tree) place

  need-is : (place : ℕ) → need tree text place ≡ ticks_at tree text (places_from place)
  unfolding need
  need-is place = refl

  need-at : (at p : ℕ) → place_at text at ≡ Some p → need_from tree text at ≡ ticks_at tree text (places_from p)
  need-at at p e = ap (λ o. option_map_or (need tree text) o 0) e ∙ need-is p

  -- An offset is tried, and what is tried behind it needs as many steps as the next start.
  pub record IsTried (at : ℕ) : Type 0 where
    pub place : ℕ
    pub here : place_at text at ≡ Some place
    pub more : List ℕ
    pub are : places_from place ≡ place ∷ more
    pub later : ticks_at tree text more ≡ rest (next_filtered_start tree text at)

  -- The steps needed are those of the next start, and that start is tried.
  pub record Begun (needed : ℕ) (next : Option ℕ) : Type 0 where
    pub same : needed ≡ rest next
    pub tried : (to : ℕ) → next ≡ Some to → IsTried to

  -- The tried places are those that the start predicate allows, and so are the next starts.
  record IsOpen : Type 0 where
    from : (q : ℕ) → places_from q ≡ filter (may_start (start_predicate tree) text) (numbers_from q (last_place text + 1 - q))
    behind : (at : ℕ) → next_filtered_start tree text at ≡ option_and_then (λ (r : ℕ × ℕ). first_filtered_start tree text r.1) (read text rightwards at)

  -- ---- A budget before the next place

  pub record Counted (steps : ℕ) (now : Option ℕ) (needed : ℕ) (next : Option ℕ) : Type 0 where
    pub spent : ℕ
    pub within : spent ≤ steps
    pub left : now ≡ Some (steps - spent)
    pub needs : needed ≡ spent + rest next
    pub tried : (to : ℕ) → next ≡ Some to → IsTried to

  -- Of the budget `first`, `now` is left before `next`, if `needed` steps are needed in all.
  abbrev pub IsSpent : (first now : Option ℕ) → (needed : ℕ) → (next : Option ℕ) → Type 0
  IsSpent None now needed next = now ≡ None
  IsSpent (Some steps) now needed next = Counted steps now needed next

module _ (tree : Tree) (text : Text) (is : HasRisingPlaceOffsets text) where
  -- ---- The first place that is tried

  module _ (lets : IsOpen tree text) where
    abbrev among : (n p : ℕ) → List ℕ
    among n p = filter (may_start (start_predicate tree) text) (numbers_from p n)

    among-from : (n p : ℕ) → p + n ≡ last_place text + 1 → places_from tree text p ≡ among n p
    among-from n p e = lets.from p ∙ (let m : last_place text + 1 - p ≡ n = omega (arith, e) in ap (λ m. among m p) m)

    first-at : (n p : ℕ) → p + n ≡ last_place text + 1 → p ≤ last_place text → first_filtered_start tree text (offset text p) ≡ offset_of_first_place text (among n p)
    first-at n p e inside =
        ap (option_and_then (λ place. offset_of_first_place text (places_from tree text place))) (place_at-offset text p is inside)
        ∙ ap (offset_of_first_place text) (among-from n p e)

    later-is : (n p : ℕ) → p + suc n ≡ last_place text + 1 → ticks_at tree text (among n (p + 1)) ≡ rest tree text (offset_of_first_place text (among n (p + 1)))
        → ticks_at tree text (among n (p + 1)) ≡ rest tree text (next_filtered_start tree text (offset text p))
    later-is zero p e h =
        let end = read-end tree text is p (omega (arith, e)) (omega (arith, e)) in
        ap (rest tree text) (sym (lets.behind (offset text p) ∙ ap (option_and_then (λ (r : ℕ × ℕ). first_filtered_start tree text r.1)) end))
    later-is (suc n) p e h =
        let next = read-inside tree text is p (omega (arith, e)) in
        h ∙ ap (rest tree text) (sym (lets.behind (offset text p) ∙ ap (option_and_then (λ (r : ℕ × ℕ). first_filtered_start tree text r.1)) next.1
        ∙ first-at (suc n) (p + 1) (omega (arith, e)) (omega (arith, e))))

    begun-among : (n p : ℕ) → p + n ≡ last_place text + 1 → Begun tree text (ticks_at tree text (among n p)) (offset_of_first_place text (among n p))
    begun-among zero p e = record { same = refl; tried = λ to h. cc }
    begun-among (suc n) p e = by (begun-among n (p + 1) (omega (arith, e))) (may_start (start_predicate tree) text p) refl
      where
        by : Begun tree text (ticks_at tree text (among n (p + 1))) (offset_of_first_place text (among n (p + 1)))
            → (b : Bool) → may_start (start_predicate tree) text p ≡ b → Begun tree text (ticks_at tree text (among (suc n) p)) (offset_of_first_place text (among (suc n) p))
        by later true q =
            let front : among (suc n) p ≡ p ∷ among n (p + 1) = ap (λ b. if b then p ∷ among n (p + 1) else among n (p + 1)) q in
            let at = place_at-offset text p is (omega (arith, e)) in
            let are : places_from tree text p ≡ p ∷ among n (p + 1) = among-from (suc n) p e ∙ front in
            let itself : IsTried tree text (offset text p) = record { place = p; here = at; more = among n (p + 1); are = are; later = later-is n p e later.same } in
            subst (λ ps. Begun tree text (ticks_at tree text ps) (offset_of_first_place text ps)) (sym front) (record {
              same = sym (need-at tree text (offset text p) p at ∙ ap (ticks_at tree text) are);
              tried = λ to h. let same : offset text p ≡ to = cc in subst (IsTried tree text) same itself;
            })
        by later false q =
            let skipped : among (suc n) p ≡ among n (p + 1) = ap (λ b. if b then p ∷ among n (p + 1) else among n (p + 1)) q in
            subst (λ ps. Begun tree text (ticks_at tree text ps) (offset_of_first_place text ps)) (sym skipped) later

    begun-open : (at : ℕ) → IsBoundary text at → Begun tree text (need_from tree text at) (first_filtered_start tree text at)
    begun-open at on =
        let p = IsBoundary-place text at is on in
        let n = last_place text + 1 - p.0 in
        let e : p.0 + n ≡ last_place text + 1 = let i = p.3 in omega (arith, i) in
        let b = begun-among n p.0 e in
        let first : first_filtered_start tree text at ≡ offset_of_first_place text (among n p.0) =
        ap (option_and_then (λ place. offset_of_first_place text (places_from tree text place))) p.1 ∙ ap (offset_of_first_place text) (among-from n p.0 e) in
        record {
          same = need-at tree text at p.0 p.1 ∙ ap (ticks_at tree text) (among-from n p.0 e) ∙ b.same ∙ ap (rest tree text) (sym first);
          tried = λ to h. b.tried to (sym first ∙ h);
        }

  begun-anchored : start_predicate tree ≡ start_anchored → (at : ℕ) → IsBoundary text at → Begun tree text (need_from tree text at) (first_filtered_start tree text at)
  begun-anchored anchored at on =
      let p = IsBoundary-place text at is on in
      let are : places_from tree text p.0 ≡ p.0 ∷ [] =
      ap (λ (q : StartPredicate). tried_places tree text q p.0) anchored ∙ ap (λ b. if b then p.0 ∷ [] else []) (le-leb p.0 (last_place text) p.3) in
      let first : first_filtered_start tree text at ≡ Some at =
      ap (option_and_then (λ place. offset_of_first_place text (places_from tree text place))) p.1 ∙ ap (offset_of_first_place text) are ∙ ap Some p.2 in
      let none : next_filtered_start tree text at ≡ None = ap (λ q. filtered_start_after q tree text at) anchored in
      let itself : IsTried tree text at = record { place = p.0; here = p.1; more = []; are = are; later = ap (rest tree text) (sym none) } in
      record {
        same = ap (rest tree text) (sym first);
        tried = λ to h. let same : at ≡ to = some-same _ _ (sym first ∙ h) in subst (IsTried tree text) same itself;
      }

  -- The steps needed from an offset are those of its first filtered start, which is tried.
  pub begun : (at : ℕ) → IsBoundary text at → Begun tree text (need_from tree text at) (first_filtered_start tree text at)
  begun at on = by (start_predicate tree) refl
    where
      open-by : (p : StartPredicate) → start_predicate tree ≡ p
          → ((q : ℕ) → tried_places tree text p q ≡ filter (may_start p text) (numbers_from q (last_place text + 1 - q)))
          → ((at : ℕ) → filtered_start_after p tree text at ≡ option_and_then (λ (r : ℕ × ℕ). first_filtered_start tree text r.1) (read text rightwards at)) → IsOpen tree text
      open-by p e from behind = record {
        from = λ q. ap (λ p. tried_places tree text p q) e ∙ from q ∙ ap (λ p. filter (may_start p text) (numbers_from q (last_place text + 1 - q))) (sym e);
        behind = λ at. ap (λ p. filtered_start_after p tree text at) e ∙ behind at;
      }

      by : (p : StartPredicate) → start_predicate tree ≡ p → Begun tree text (need_from tree text at) (first_filtered_start tree text at)
      by start_arbitrary e = begun-open (open-by start_arbitrary e (λ q. refl) (λ at. refl)) at on
      by (start_byte_set members) e = begun-open (open-by (start_byte_set members) e (λ q. refl) (λ at. refl)) at on
      by (start_byte_sequence bytes) e = begun-open (open-by (start_byte_sequence bytes) e (λ q. refl) (λ at. refl)) at on
      by start_anchored e = begun-anchored e at on

  -- ---- Steps at one place

  takes : (at : ℕ) (t : IsTried tree text at) → need_from tree text at ≡ ticks_of_attempt_at tree text at + (if has_no_outcome (outcomes_without_ticks (items_at tree text t.place)) then rest tree text (next_filtered_start tree text at) else 0)
  takes at t =
      need-at tree text at t.place t.here ∙ ap (ticks_at tree text) t.are
      ∙ ap₂ (λ n m. n + (if has_no_outcome (outcomes_without_ticks (items_at tree text t.place)) then m else 0)) (sym (ap (λ o. option_map_or (λ place. ticks_to_first (items_at tree text place)) o 0) t.here)) t.later

  end-at : (at : ℕ) (t : IsTried tree text at) → match_end_and_groups_at tree text at ≡ option_map (end_in_offsets text) (first_outcome_among_ticks (items_at tree text t.place))
  end-at at t = ap (option_and_then (λ place. option_map (end_in_offsets text) (first_outcome_among_ticks (items_at tree text place)))) t.here

  -- If an attempt fails, the steps needed are its own and those from the next start on.
  pub takes-vain : (at : ℕ) → IsTried tree text at → NoMatchAt tree text at → need_from tree text at ≡ ticks_of_attempt_at tree text at + rest tree text (next_filtered_start tree text at)
  takes-vain at t vain =
      let none = pairs-none (items_at tree text t.place) (none-mapped (end_in_offsets text) (first_outcome_among_ticks (items_at tree text t.place)) (sym (end-at at t) ∙ vain)) in
      takes at t ∙ ap (λ b. ticks_of_attempt_at tree text at + (if b then rest tree text (next_filtered_start tree text at) else 0)) none

  -- If an attempt finds a match, the steps needed are its own.
  pub takes-found : (at : ℕ) → IsTried tree text at → (e : ℕ × Groups) → match_end_and_groups_at tree text at ≡ Some e → need_from tree text at ≡ ticks_of_attempt_at tree text at
  takes-found at t e found =
      let first = some-mapped (end_in_offsets text) (first_outcome_among_ticks (items_at tree text t.place)) e (sym (end-at at t) ∙ found) in
      let some = pairs-some (items_at tree text t.place) first.0 first.1 in
      let none : ticks_of_attempt_at tree text at + 0 ≡ ticks_of_attempt_at tree text at = omega arith in
      takes at t ∙ ap (λ b. ticks_of_attempt_at tree text at + (if b then rest tree text (next_filtered_start tree text at) else 0)) some ∙ none

  -- The next start behind a failed attempt is tried.
  tried-next : (at : ℕ) → NoMatchAt tree text at → (to : ℕ) → next_filtered_start tree text at ≡ Some to → IsTried tree text to
  tried-next at vain to e = by (start_predicate tree) refl
    where
      behind : (r : Option (ℕ × ℕ)) → read text rightwards at ≡ r → option_and_then (λ (r : ℕ × ℕ). first_filtered_start tree text r.1) r ≡ Some to → IsTried tree text to
      behind None q h = cc
      behind (Some r) q h = (begun r.1 (found-on tree text is at r.1 r.0 vain q).boundary).tried to h

      by : (p : StartPredicate) → start_predicate tree ≡ p → IsTried tree text to
      by start_arbitrary q = behind (read text rightwards at) refl (sym (ap (λ p. filtered_start_after p tree text at) q) ∙ e)
      by (start_byte_set members) q = behind (read text rightwards at) refl (sym (ap (λ p. filtered_start_after p tree text at) q) ∙ e)
      by (start_byte_sequence bytes) q = behind (read text rightwards at) refl (sym (ap (λ p. filtered_start_after p tree text at) q) ∙ e)
      by start_anchored q = let never : None ≡ Some to = sym (ap (λ p. filtered_start_after p tree text at) q) ∙ e in cc

  -- ---- The budget of a search

  pub spent-begins : (first : Option ℕ) (at : ℕ) (next : Option ℕ) → IsBoundary text at → (IsTrue (is_some first) → next ≡ first_filtered_start tree text at)
      → IsSpent tree text first first (need_from tree text at) next
  spent-begins None at next on e = refl
  spent-begins (Some steps) at next on e =
      let b = begun at on in
      let all : steps ≡ steps - 0 = omega arith in
      let none : rest tree text next ≡ 0 + rest tree text next = omega arith in
      record {
        spent = 0;
        within = omega arith;
        left = ap Some all;
        needs = b.same ∙ ap (rest tree text) (sym (e refl)) ∙ none;
        tried = λ to h. b.tried to (sym (e refl) ∙ h);
      }

  -- The attempt's steps are within the budget, which is reduced by them.
  record Took (steps spent ticks : ℕ) (after : Option ℕ) : Type 0 where
    inside : spent + ticks ≤ steps
    left : after ≡ Some (steps - (spent + ticks))

  took : (steps spent ticks : ℕ) (now after : Option ℕ) → spent ≤ steps → now ≡ Some (steps - spent) → IsTrue (budget_suffices now ticks) → after ≡ remaining_budget now ticks
      → Took steps spent ticks after
  took steps spent ticks now after le e within left =
      let fits = leb-true ticks (steps - spent) (subst (λ b. budget_suffices b ticks ≡ true) e within) in
      let same : steps - spent - ticks ≡ steps - (spent + ticks) = omega arith in
      record { inside = omega (arith, fits, le); left = left ∙ ap (λ b. remaining_budget b ticks) e ∙ ap Some same }

  without : (now after : Option ℕ) (n : ℕ) → now ≡ None → after ≡ remaining_budget now n → after ≡ None
  without now after n e left = left ∙ ap (λ b. remaining_budget b n) e

  pub spent-goes : (first now after : Option ℕ) (needed at : ℕ) (next : Option ℕ) → IsSpent tree text first now needed (Some at)
      → IsTrue (budget_suffices now (ticks_of_attempt_at tree text at)) → after ≡ remaining_budget now (ticks_of_attempt_at tree text at) → NoMatchAt tree text at
      → (IsTrue (is_some after) → next ≡ next_filtered_start tree text at) → IsSpent tree text first after needed next
  spent-goes None now after needed at next s within left vain e = without now after (ticks_of_attempt_at tree text at) s left
  spent-goes (Some steps) now after needed at next s within left vain e =
      let t = took steps s.spent (ticks_of_attempt_at tree text at) now after s.within s.left within left in
      let next_is = e (ap is_some t.left) in
      let all : s.spent + (ticks_of_attempt_at tree text at + rest tree text (next_filtered_start tree text at)) ≡ s.spent + ticks_of_attempt_at tree text at + rest tree text (next_filtered_start tree text at) = omega arith in
      record {
        spent = s.spent + ticks_of_attempt_at tree text at;
        within = t.inside;
        left = t.left;
        needs = s.needs ∙ ap (λ n. s.spent + n) (takes-vain at (s.tried at refl) vain) ∙ all ∙ ap (λ o. s.spent + ticks_of_attempt_at tree text at + rest tree text o) (sym next_is);
        tried = λ to h. tried-next at vain to (sym next_is ∙ h);
      }

  pub spent-found : (first now after : Option ℕ) (needed at : ℕ) (e : ℕ × Groups) → IsSpent tree text first now needed (Some at)
      → IsTrue (budget_suffices now (ticks_of_attempt_at tree text at)) → after ≡ remaining_budget now (ticks_of_attempt_at tree text at) → match_end_and_groups_at tree text at ≡ Some e
      → IsTrue (budget_suffices first needed) × (after ≡ remaining_budget first needed)
  spent-found None now after needed at e s within left found = (refl, without now after (ticks_of_attempt_at tree text at) s left)
  spent-found (Some steps) now after needed at e s within left found =
      let t = took steps s.spent (ticks_of_attempt_at tree text at) now after s.within s.left within left in
      let all : needed ≡ s.spent + ticks_of_attempt_at tree text at = s.needs ∙ ap (λ n. s.spent + n) (takes-found at (s.tried at refl) e found) in
      (le-leb needed steps (omega (arith, all, t.inside)), t.left ∙ ap (λ n. Some (steps - n)) (sym all))

  pub spent-none : (first now : Option ℕ) (needed : ℕ) → IsSpent tree text first now needed None → IsTrue (budget_suffices first needed) × (now ≡ remaining_budget first needed)
  spent-none None now needed s = (refl, s)
  spent-none (Some steps) now needed s =
      let all : needed ≡ s.spent = let e : s.spent + 0 ≡ s.spent = omega arith in s.needs ∙ e in
      (le-leb needed steps (let le = s.within in omega (arith, all, le)), s.left ∙ ap (λ n. Some (steps - n)) (sym all))

  pub spent-beyond : (first now : Option ℕ) (needed at : ℕ) → IsSpent tree text first now needed (Some at) → budget_suffices now (ticks_of_attempt_at tree text at) ≡ false → budget_suffices first needed ≡ false
  spent-beyond None now needed at s past = let never : true ≡ false = sym (ap (λ b. budget_suffices b (ticks_of_attempt_at tree text at)) s) ∙ past in cc
  spent-beyond (Some steps) now needed at s past =
      let less = leb-false (ticks_of_attempt_at tree text at) (steps - s.spent) (subst (λ b. budget_suffices b (ticks_of_attempt_at tree text at) ≡ false) s.left past) in
      let all = s.needs in
      let some = takes at (s.tried at refl) in
      let le = s.within in
      lt-leb needed steps (omega (arith, less, all, some, le))

  -- A budget of at least what the attempt would leave is at least what the search would leave.
  pub spent-most : (first now : Option ℕ) (needed at : ℕ) → IsSpent tree text first now needed (Some at) → (after : Option ℕ) → IsBudgetAtMost (remaining_budget now (ticks_of_attempt_at tree text at)) after
      → IsBudgetAtMost (remaining_budget first needed) after
  spent-most None now needed at s after most = subst (λ b. IsBudgetAtMost (remaining_budget b (ticks_of_attempt_at tree text at)) after) s most
  spent-most (Some steps) now needed at s after most = by after (subst (λ b. IsBudgetAtMost (remaining_budget b (ticks_of_attempt_at tree text at)) after) s.left most)
    where
      by : (after : Option ℕ) → IsBudgetAtMost (Some (steps - s.spent - ticks_of_attempt_at tree text at)) after → IsBudgetAtMost (Some (steps - needed)) after
      by None h = h
      by (Some n) h =
          let all = s.needs in
          let some = takes at (s.tried at refl) in
          omega (arith, h, all, some)

  pub spent-less : (first now : Option ℕ) (needed : ℕ) (next : Option ℕ) → IsSpent tree text first now needed next → (after : Option ℕ) → IsBudgetAtMost after now → IsBudgetAtMost after first
  spent-less None now needed next s after less = subst (IsBudgetAtMost after) s less
  spent-less (Some steps) now needed next s after less = by after (subst (IsBudgetAtMost after) s.left less)
    where
      by : (after : Option ℕ) → IsBudgetAtMost after (Some (steps - s.spent)) → IsBudgetAtMost after (Some steps)
      by None h = h
      by (Some n) h = omega (arith, h)

-- An attempt takes the same steps for an equal tree and an equal text.
pub taken : (tree : Tree) (text : Text) (tree' : Tree) (text' : Text) (now after : Option ℕ) (at : ℕ) → tree' ≡ tree → text' ≡ text
    → IsTrue (budget_suffices now (ticks_of_attempt_at tree' text' at)) × (after ≡ remaining_budget now (ticks_of_attempt_at tree' text' at))
    → IsTrue (budget_suffices now (ticks_of_attempt_at tree text at)) × (after ≡ remaining_budget now (ticks_of_attempt_at tree text at))
taken tree text tree' text' now after at t x e =
    subst (λ t. IsTrue (budget_suffices now (ticks_of_attempt_at t text at)) × (after ≡ remaining_budget now (ticks_of_attempt_at t text at))) t
    (subst (λ x. IsTrue (budget_suffices now (ticks_of_attempt_at tree' x at)) × (after ≡ remaining_budget now (ticks_of_attempt_at tree' x at))) x e)

pub left-no_more : (budget : Option ℕ) (n : ℕ) → IsBudgetAtMost (remaining_budget budget n) budget
left-no_more None n = tt
left-no_more (Some steps) n = omega arith

-- If an attempt is refused, the search is refused with the same error.
pub refused : (tree : Tree) (text : Text) (is : HasRisingPlaceOffsets text) (first now after : Option ℕ) (needed at : ℕ) (X Y : Type 0) (e : SearchError) → IsSpent tree text first now needed (Some at)
    → SpendsNeedOrReachesLimit {X = X} (ticks_of_attempt_at tree text at) now (Err e) after → SpendsNeedOrReachesLimit {X = Y} needed first (Err e) after
refused tree text is first now after needed at X Y Memory s r = (spent-less tree text is first now needed (Some at) s after r.0, spent-most tree text is first now needed at s after r.1)
refused tree text is first now after needed at X Y StepLimit s r = (spent-beyond tree text is first now needed at s r.0, r.1)

pub no_more-same : (budget : Option ℕ) → IsBudgetAtMost budget budget
no_more-same None = tt
no_more-same (Some n) = omega arith

-- If memory runs out after all needed steps, the budget is as after a result.
pub refused-last : (X : Type 0) (need : ℕ) (first after : Option ℕ) → after ≡ remaining_budget first need → SpendsNeedOrReachesLimit {X = X} need first (Err Memory) after
refused-last X need first after left = subst (λ after. SpendsNeedOrReachesLimit {X = X} need first (Err Memory) after) (sym left) (left-no_more first need, no_more-same (remaining_budget first need))

-- An error that is handed up leaves the budget that the search has left.
pub handed : (X Y : Type 0) (need : ℕ) (first after : Option ℕ) (e : SearchError) (r : Result Y SearchError) → IsErrAnd r (λ f. f ≡ e)
    → SpendsNeedOrReachesLimit {X = X} need first (Err e) after → SpendsNeedOrReachesLimit {X = Y} need first r after
handed X Y need first after e (Ok y) h s = absurd h
handed X Y need first after Memory (Err f) h s = subst (λ f. SpendsNeedOrReachesLimit {X = Y} need first (Err f) after) (sym h) s
handed X Y need first after StepLimit (Err f) h s = subst (λ f. SpendsNeedOrReachesLimit {X = Y} need first (Err f) after) (sym h) s
