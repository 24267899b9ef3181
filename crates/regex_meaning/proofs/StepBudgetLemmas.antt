-- The matches within a step budget follow from the steps that each match needs.
use Rattle.std.proofs.Common.{◌≡◌, ℕ, zero, suc, ◌+◌, ◌-◌, ◌≤◌, Bool, true, false, ◌&&◌, List, [], ◌∷◌, map, Option, Some, None, refl, ap, ap₂, sym, ◌∙◌, arith}
use Rattle.std.proofs.lemmas.Bool.{le-leb, leb-true, leb-false, lt-leb}
use Rattle.std.specs.Prelude.{if◌then◌else◌, nat_le, option_map, option_and_then, is_some, IsTrue}
use Rattle.std.specs.Option.{option_map_or}
use Rattle.std.specs.List.{list_all}
use Rattle.regex_meaning.specs.Tree.{Tree}
use Rattle.regex_meaning.specs.Text.{Text, last_place}
use Rattle.regex_meaning.specs.CodeUnitOffsets.{HasRisingPlaceOffsets, IsBoundary, offset, place_at}
use Rattle.regex_meaning.specs.FirstAndAllMatches.{Found, first_match, place_after_match}
use Rattle.regex_meaning.specs.MatchGroupsByNumberAndName.{Answer, answer, answers_from}
use Rattle.regex_meaning.specs.SearchAnswers.{first_answer, first_found, next_start, answers_on, answer_then_list}
use Rattle.regex_meaning.specs.OutcomesWithStepTicks.{need, needs, needs_from}
use Rattle.regex_meaning.specs.Laws.{step_needs_from_optional_place, needs_after_match}
use Rattle.regex_meaning.specs.StepBudget.{budget_suffices, remaining_budget, items_within_steps, need_from, needs_of_answers, answers_within, finishes_within, answers_within_from_next}
use Rattle.regex_meaning.specs.StepBudget.{finishes_from_next}
use Rattle.regex_meaning.proofs.SearchAnswersLemmas.{answers-go_on}
use Rattle.regex_meaning.proofs.FirstAndAllMatchesLemmas.{StandsFrom, stands-first, GoesOnInside, goes-inside}
use Rattle.regex_meaning.proofs.NeededStepsLemmas.{needs-unfold}
use Rattle.regex_meaning.proofs.CodeUnitOffsetsLemmas.{IsBoundary-place, place_at-offset}

-- ---- Numbers

le-behind : (k n steps : ℕ) → k ≤ steps → nat_le (k + n) steps ≡ nat_le n (steps - k)
le-behind k n steps inside = by (nat_le n (steps - k)) refl
  where
    by : (b : Bool) → nat_le n (steps - k) ≡ b → nat_le (k + n) steps ≡ b
    by true e = let le = leb-true n (steps - k) e in le-leb (k + n) steps (omega (arith, le, inside))
    by false e = let less = leb-false n (steps - k) e in lt-leb (k + n) steps (omega (arith, less, inside))

those-behind : {X : Type 0} (k steps : ℕ) → k ≤ steps → (needs : List ℕ) (xs : List X)
    → items_within_steps steps (map (λ n. k + n) needs) xs ≡ items_within_steps (steps - k) needs xs
those-behind k steps inside [] xs = refl
those-behind k steps inside (n ∷ needs) [] = refl
those-behind k steps inside (n ∷ needs) (x ∷ xs) =
    ap₂ (λ b l. if b then x ∷ l else []) (le-behind k n steps inside) (those-behind k steps inside needs xs)

all-behind : (k steps : ℕ) → k ≤ steps → (needs : List ℕ) → list_all (λ n. nat_le n steps) (map (λ n. k + n) needs) ≡ list_all (λ n. nat_le n (steps - k)) needs
all-behind k steps inside [] = refl
all-behind k steps inside (n ∷ needs) = ap₂ (λ a b. a && b) (le-behind k n steps inside) (all-behind k steps inside needs)

-- ---- Needs

module _ (tree : Tree) (text : Text) where
  spent-before : (count spent more : ℕ) (next : Option ℕ) → needs_from tree text count (spent + more) next ≡ map (λ n. spent + n) (needs_from tree text count more next)
  spent-before zero spent more next = refl
  spent-before (suc count) spent more None = refl
  spent-before (suc count) spent more (Some place) =
      let k = need tree text place in
      let e : spent + more + k ≡ spent + (more + k) = omega arith in
      ap₂ (λ n l. n ∷ l) e (by e (first_match tree.root text place) (λ next. spent-before count spent (more + k) next))
    where
      by : spent + more + need tree text place ≡ spent + (more + need tree text place) → (m : Option Found)
          → ((next : Option ℕ) → needs_from tree text count (spent + (more + need tree text place)) next ≡ map (λ n. spent + n) (needs_from tree text count (more + need tree text place) next))
          → option_map_or (λ m. needs_from tree text count (spent + more + need tree text place) (place_after_match tree.root text m)) m []
          ≡ map (λ n. spent + n) (option_map_or (λ m. needs_from tree text count (more + need tree text place) (place_after_match tree.root text m)) m [])
      by e None before = refl
      by e (Some m) before =
          ap (λ n. needs_from tree text count n (place_after_match tree.root text m)) e ∙ before (place_after_match tree.root text m)

  -- These are the needs from the next start, or only 0 if there is none.
  abbrev pub needs_next : (next : Option ℕ) → List ℕ
  needs_next None = 0 ∷ []
  needs_next (Some start) = needs_of_answers tree text start

  -- These are the needs after an answer, and without an answer there are none.
  abbrev pub needs_then : Option Answer → (next : Option ℕ) → List ℕ
  needs_then None next = []
  needs_then (Some m) next = needs_next next

  -- The needs from a boundary are the first need and, added to it, the needs after the answer.
  pub needs-go_on : (is : HasRisingPlaceOffsets text) (start : ℕ) → IsBoundary text start
      → needs_of_answers tree text start ≡ need_from tree text start ∷ map (λ n. need_from tree text start + n) (needs_then (first_answer tree.root text start) (next_start tree.root text start))
  unfolding needs
  needs-go_on is start on =
      let p = IsBoundary-place text start is on in
      let place = p.0 in
      let k = need tree text place in
      let here : needs_of_answers tree text start ≡ step_needs_from_optional_place tree text 0 (Some place) = ap (λ o. option_map_or (needs tree text) o []) p.1 in
      let needed : need_from tree text start ≡ k = ap (λ o. option_map_or (need tree text) o 0) p.1 in
      let found : first_found tree.root text start ≡ first_match tree.root text place = ap (option_and_then (first_match tree.root text)) p.1 in
      here ∙ needs-unfold tree text 0 place
      ∙ behind k (first_match tree.root text place) (stands-first tree.root text place)
      ∙ ap₂ (λ n m. n ∷ map (λ x. n + x) (needs_then (option_map (answer tree.root text) m) (option_map (offset text) (option_and_then (place_after_match tree.root text) m)))) (sym needed) (sym found)
    where
      spend : (k : ℕ) (place : ℕ) (next : Option ℕ) → GoesOnInside tree.root text place next
          → step_needs_from_optional_place tree text (0 + k) next ≡ map (λ n. k + n) (needs_next (option_map (offset text) next))
      spend k place None g = let e : 0 + k ≡ k + 0 = omega arith in ap (λ n. n ∷ []) e
      spend k place (Some q) g =
          let e : 0 + k ≡ k + 0 = omega arith in
          ap (λ n. needs_from tree text (last_place text + 1) n (Some q)) e
          ∙ spent-before (last_place text + 1) k 0 (Some q)
          ∙ ap (λ o. map (λ n. k + n) (option_map_or (needs tree text) o [])) (sym (place_at-offset text q is g.1))

      behind : (k : ℕ) (m : Option Found) → StandsFrom tree.root text (IsBoundary-place text start is on).0 m
          → ((0 + k) ∷ needs_after_match tree text (0 + k) m)
          ≡ (k ∷ map (λ n. k + n) (needs_then (option_map (answer tree.root text) m) (option_map (offset text) (option_and_then (place_after_match tree.root text) m))))
      behind k None s = let e : 0 + k ≡ k = omega arith in ap (λ n. n ∷ []) e
      behind k (Some m) s =
          let e : 0 + k ≡ k = omega arith in
          ap₂ (λ n l. n ∷ l) e (spend k (IsBoundary-place text start is on).0 (place_after_match tree.root text m) (goes-inside tree.root text (IsBoundary-place text start is on).0 m s))

-- ---- One search after another

module _ (tree : Tree) (text : Text) (is : HasRisingPlaceOffsets text) where
  -- An offset from which an answer is found is a boundary.
  boundary : (start : ℕ) (m : Answer) → first_answer tree.root text start ≡ Some m → IsBoundary text start
  boundary start m found = by (place_at text start) refl
    where
      by : (o : Option ℕ) → place_at text start ≡ o → IsTrue (is_some o)
      by None q = let never : None ≡ Some m = sym (ap (λ o. option_map (answer tree.root text) (option_and_then (first_match tree.root text) o)) q) ∙ found in cc
      by (Some p) q = refl

  -- If an answer exists and the budget suffices, the search goes on with the rest of the budget.
  pub within-some : (budget : Option ℕ) (start : ℕ) (m : Answer) → first_answer tree.root text start ≡ Some m
      → budget_suffices budget (need_from tree text start) ≡ true
      → (answers_within tree text budget start ≡ m ∷ answers_within_from_next tree text (remaining_budget budget (need_from tree text start)) (next_start tree.root text start))
      × (finishes_within tree text budget start ≡ finishes_from_next tree text (remaining_budget budget (need_from tree text start)) (next_start tree.root text start))
  within-some None start m found within = (
    answers-go_on tree.root text is start ∙ ap (λ a. answer_then_list tree.root text a (next_start tree.root text start)) found ∙ by (next_start tree.root text start),
    by_end (next_start tree.root text start),
  )
    where
      by : (next : Option ℕ) → m ∷ answers_on tree.root text next ≡ m ∷ answers_within_from_next tree text None next
      by None = refl
      by (Some q) = refl

      by_end : (next : Option ℕ) → true ≡ finishes_from_next tree text None next
      by_end None = refl
      by_end (Some q) = refl
  within-some (Some steps) start m found within = (
    ap₂ (items_within_steps steps) needs_are answers_are
        ∙ ap (λ b. if b then m ∷ items_within_steps steps (map (λ n. k + n) (needs_next tree text next)) (answers_on tree.root text next) else []) within
        ∙ ap (λ l. m ∷ l) (those-behind k steps inside (needs_next tree text next) (answers_on tree.root text next) ∙ by next),
    ap (list_all (λ n. nat_le n steps)) needs_are
        ∙ ap (λ b. b && list_all (λ n. nat_le n steps) (map (λ n. k + n) (needs_next tree text next))) within
        ∙ all-behind k steps inside (needs_next tree text next) ∙ by_end next,
  )
    where
      k : ℕ
      k = need_from tree text start

      next : Option ℕ
      next = next_start tree.root text start

      inside : k ≤ steps
      inside = leb-true k steps within

      needs_are : needs_of_answers tree text start ≡ k ∷ map (λ n. k + n) (needs_next tree text next)
      needs_are = needs-go_on tree text is start (boundary start m found) ∙ ap (λ a. k ∷ map (λ n. k + n) (needs_then tree text a next)) found

      answers_are : answers_from tree.root text start ≡ m ∷ answers_on tree.root text next
      answers_are = answers-go_on tree.root text is start ∙ ap (λ a. answer_then_list tree.root text a next) found

      by : (next : Option ℕ) → items_within_steps (steps - k) (needs_next tree text next) (answers_on tree.root text next) ≡ answers_within_from_next tree text (Some (steps - k)) next
      by None = refl
      by (Some q) = refl

      by_end : (next : Option ℕ) → list_all (λ n. nat_le n (steps - k)) (needs_next tree text next) ≡ finishes_from_next tree text (Some (steps - k)) next
      by_end None = ap (λ b. b && true) (le-leb 0 (steps - k) (omega arith))
      by_end (Some q) = refl

  -- An offset that is no boundary needs no steps.
  nowhere : (start : ℕ) → place_at text start ≡ None → (needs_of_answers tree text start ≡ []) × (need_from tree text start ≡ 0)
  nowhere start q = (ap (λ o. option_map_or (needs tree text) o []) q, ap (λ o. option_map_or (need tree text) o 0) q)

  -- If there is no answer and the budget suffices for that, the search finishes without answers.
  pub within-none : (budget : Option ℕ) (start : ℕ) → first_answer tree.root text start ≡ None → budget_suffices budget (need_from tree text start) ≡ true
      → (answers_within tree text budget start ≡ []) × (finishes_within tree text budget start ≡ true)
  within-none None start found within = (answers-go_on tree.root text is start ∙ ap (λ a. answer_then_list tree.root text a (next_start tree.root text start)) found, refl)
  within-none (Some steps) start found within =
      (ap (items_within_steps steps (needs_of_answers tree text start)) answers_are ∙ nothing (needs_of_answers tree text start), by (place_at text start) refl)
    where
      answers_are : answers_from tree.root text start ≡ []
      answers_are = answers-go_on tree.root text is start ∙ ap (λ a. answer_then_list tree.root text a (next_start tree.root text start)) found

      nothing : (ns : List ℕ) → items_within_steps {X = Answer} steps ns [] ≡ []
      nothing [] = refl
      nothing (n ∷ ns) = refl

      by : (o : Option ℕ) → place_at text start ≡ o → list_all (λ n. nat_le n steps) (needs_of_answers tree text start) ≡ true
      by None q = ap (list_all (λ n. nat_le n steps)) (nowhere start q).0
      by (Some p) q =
          let k = need_from tree text start in
          ap (list_all (λ n. nat_le n steps)) (needs-go_on tree text is start (ap is_some q)
          ∙ ap (λ a. k ∷ map (λ n. k + n) (needs_then tree text a (next_start tree.root text start))) found)
          ∙ ap (λ b. b && true) within

  -- If the budget does not suffice, there is no answer and the search does not finish.
  pub beyond : (budget : Option ℕ) (start : ℕ) → budget_suffices budget (need_from tree text start) ≡ false
      → (answers_within tree text budget start ≡ []) × (finishes_within tree text budget start ≡ false)
  beyond None start past = cc
  beyond (Some steps) start past = by (place_at text start) refl
    where
      none : (more : List ℕ) (xs : List Answer) → items_within_steps steps (need_from tree text start ∷ more) xs ≡ []
      none more [] = refl
      none more (x ∷ xs) = ap (λ b. if b then x ∷ items_within_steps steps more xs else []) past

      by : (o : Option ℕ) → place_at text start ≡ o
          → (items_within_steps steps (needs_of_answers tree text start) (answers_from tree.root text start) ≡ []) × (list_all (λ n. nat_le n steps) (needs_of_answers tree text start) ≡ false)
      by None q = let never : true ≡ false = sym (le-leb 0 steps (omega arith)) ∙ sym (ap (λ n. nat_le n steps) (nowhere start q).1) ∙ past in cc
      by (Some p) q =
          let k = need_from tree text start in
          let needs_are = needs-go_on tree text is start (ap is_some q) in
          let more = map (λ n. k + n) (needs_then tree text (first_answer tree.root text start) (next_start tree.root text start)) in (
            ap (λ ns. items_within_steps steps ns (answers_from tree.root text start)) needs_are ∙ none more (answers_from tree.root text start),
            ap (list_all (λ n. nat_le n steps)) needs_are ∙ ap (λ b. b && list_all (λ n. nat_le n steps) more) past,
          )
