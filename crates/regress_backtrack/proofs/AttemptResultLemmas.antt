-- An attempt finds the match of highest priority at its offset and takes the steps of that search.
use Rattle.std.proofs.Common.{◌≡◌, ◌≤◌, ℕ, zero, suc, ◌+◌, ◌-◌, false, Option, Some, None, refl, sym, ◌∙◌, ap, subst, arith, map, replicate, take, drop, ◌++◌, ◌∷◌, [], inl, inr}
use Rattle.std.proofs.lemmas.Bool.{le-leb, lt-leb}
use Rattle.std.specs.Prelude.{IsTrue, ◌⊎◌, true, Bool, option_map, option_and_then, IsErrAnd, Result, Ok, Err}
use Rattle.std.specs.Option.{is_some, option_map_or}
use Rattle.regress_backtrack.proofs.LogicalSlotLemmas.{take-replicate, drop-replicate}
use Rattle.regex_meaning.proofs.ListLemmas.{map-replicate}
use Rattle.regex_meaning.proofs.CodeUnitOffsetsLemmas.{offset-place_at}
use Rattle.regex_meaning.specs.Tree.{Tree}
use Rattle.regex_meaning.specs.Text.{Text, rightwards, last_place}
use Rattle.regex_meaning.specs.CodeUnitOffsets.{IsBoundary, place_at, offset}
use Rattle.regex_meaning.specs.Outcomes.{Groups}
use Rattle.regex_meaning.specs.OutcomesWithStepTicks.{items_at, ticks_to_first}
use Rattle.regex_meaning.specs.CompilationRelation.{Program}
use Rattle.regress_machine.specs.Machine.{Found, running, search}
use Rattle.regress_machine.specs.SearchFindsFirstOutcomeAtPlace.{state_before_first_insn, end_and_groups_of_state, first_outcome_among_ticks, end_in_offsets, TreeProgramCanSearchText}
use Rattle.regress_machine.specs.SearchFindsFirstOutcomeAtPlace.{sufficient_turns_at}
use Rattle.regress_machine.proofs.MachineSearchLemmas.{search_more}
use Rattle.regress_machine.proofs.TreeCodeOutcomes.{searches-find}
use Rattle.regress_search.specs.AttemptsAndStarts.{match_end_and_groups_at, end_with_groups, ticks_of_attempt_at}
use Rattle.regress_search.specs.SearchEffects.{SpendsNeedOrReachesLimit, AllocFailureCostsAStep, TellsIfStepLimitReached, cause_of_error}
use Rattle.regress_search.specs.declared.exec.SearchError.{SearchError}
use Rattle.regress_search.specs.declared.exec.SearchError.TheVariants.{Memory, StepLimit}
use Rattle.regress_backtrack.specs.declared.state.GroupOrLoopState.{GroupOrLoopState}
use Rattle.regress_backtrack.specs.State.{StateModel, current_thread_state_of, machine_state_with_slots, initial_slot, initial_slots, range_of_group_slot, loop_data_in_slot}
use Rattle.regress_search.specs.TreePlanAndText.{SearchInput, program_of}
use Rattle.regress_backtrack.specs.SearchProgress.{fuel_up_to_place, fuel_for_whole_text, found_from_state, HasSearched, NeedStepsAtLeast}
use Rattle.regress_backtrack.specs.BudgetAccounting.{Budget, IsTakenFromBudget, IsRefusedByBudget, HasStopped, step_limit}
use Rattle.regress_backtrack.proofs.StepBudgetLemmas.{taken-none}

-- ---- The initial state

begun : (program : Program) (groups loops at : ℕ) → groups ≡ program.groups → loops ≡ program.loops → machine_state_with_slots groups (initial_slots groups loops at) 0 at ≡ state_before_first_insn program at
begun program groups loops at g l =
    let slot = initial_slot at in
    let row = initial_slots groups loops at in
    let first : take groups row ≡ replicate groups slot = take-replicate groups loops slot in
    let others : drop groups row ≡ replicate loops slot = drop-replicate groups loops slot in
    let a = ap (map range_of_group_slot) first ∙ map-replicate range_of_group_slot groups slot ∙ ap (λ n. replicate n None) g in
    let b = ap (map (λ (s : GroupOrLoopState). s.at)) first ∙ map-replicate (λ (s : GroupOrLoopState). s.at) groups slot ∙ ap (λ n. replicate n at) g in
    let c = ap (map loop_data_in_slot) others ∙ map-replicate loop_data_in_slot loops slot ∙ ap (λ n. replicate n (record { iters = 0; entry = at })) l in
    ap (λ gs. record { ip = 0; pos = at; groups = gs; starts = map (λ (s : GroupOrLoopState). s.at) (take groups row); loops = map loop_data_in_slot (drop groups row) }) a
    ∙ ap (λ ss. record { ip = 0; pos = at; groups = replicate program.groups None; starts = ss; loops = map loop_data_in_slot (drop groups row) }) b
    ∙ ap (λ ls. record { ip = 0; pos = at; groups = replicate program.groups None; starts = replicate program.groups at; loops = ls }) c

pub first-state : (program : Program) (groups loops n at : ℕ) → n ≡ at → groups ≡ program.groups → loops ≡ program.loops → machine_state_with_slots groups (initial_slots groups loops n) 0 at ≡ state_before_first_insn program at
first-state program groups loops n at same g l = ap (λ n. machine_state_with_slots groups (initial_slots groups loops n) 0 at) same ∙ begun program groups loops at g l

-- ---- Turns

turns-here : (tree : Tree) (text : Text) (place : ℕ) → sufficient_turns_at tree text place ≤ fuel_up_to_place tree text place
turns-here tree text zero = omega arith
turns-here tree text (suc place) = omega arith

turns-on : (tree : Tree) (text : Text) (place k most : ℕ) → most ≡ place + k → sufficient_turns_at tree text place ≤ fuel_up_to_place tree text most
turns-on tree text place zero most e = let same : place ≡ most = omega (arith, e) in subst (λ m. sufficient_turns_at tree text place ≤ fuel_up_to_place tree text m) same (turns-here tree text place)
turns-on tree text place (suc k) zero e = absurd (omega (arith, e))
turns-on tree text place (suc k) (suc m) e = let h = turns-on tree text place k m (omega (arith, e)) in omega (arith, h)

turns-below : (tree : Tree) (text : Text) (place most : ℕ) → place ≤ most → sufficient_turns_at tree text place ≤ fuel_up_to_place tree text most
turns-below tree text place most le = turns-on tree text place (most - place) most (omega (arith, le))

-- ---- The search

-- The search from the initial state finds the tree's match in the ticks of its attempt.
pub record Begins (w : SearchInput) (at : ℕ) : Type 0 where
  pub found : Found
  pub searches : found_from_state w true (state_before_first_insn (program_of w) at) ≡ Some found
  pub end : option_map end_and_groups_of_state found.end ≡ match_end_and_groups_at w.tree w.text at
  pub steps : found.steps ≡ ticks_of_attempt_at w.tree w.text at

pub begins : (w : SearchInput) (at : ℕ) → TreeProgramCanSearchText (program_of w) w.tree w.text → IsBoundary w.text at → Begins w at
begins w at can on = by (place_at w.text at) refl on
  where
    by : (o : Option ℕ) → place_at w.text at ≡ o → IsTrue (is_some o) → Begins w at
    by None e on = cc
    by (Some p) e on =
        let place = offset-place_at w.text at p can.is_text e in
        let first = searches-find (program_of w) w.tree w.text can p place.1 in
        let more = search_more (program_of w) w.text (sufficient_turns_at w.tree w.text p) (fuel_for_whole_text w.tree w.text) (turns-below w.tree w.text p (last_place w.text) place.1) rightwards
        (running (state_before_first_insn (program_of w) (offset w.text p)) ∷ []) first.found first.searches in
        record {
          found = first.found;
          searches = ap (λ at. search (program_of w) w.text (fuel_for_whole_text w.tree w.text) rightwards (running (state_before_first_insn (program_of w) at) ∷ [])) (sym place.0) ∙ more;
          end = first.end ∙ sym (ap (λ o. option_and_then (λ place. option_map (end_in_offsets w.text) (first_outcome_among_ticks (items_at w.tree w.text place))) o) e);
          steps = first.steps ∙ sym (ap (λ o. option_map_or (λ place. ticks_to_first (items_at w.tree w.text place)) o 0) e);
        }

-- The end and groups that a search leaves are those of the tree's match at the offset.
pub attempt-ends : (w : SearchInput) (at from : ℕ) (h h' : StateModel) (left left' : Budget) (counts : Bool) (end : Option ℕ) → Begins w at → current_thread_state_of h 0 from ≡ state_before_first_insn (program_of w) at
    → HasSearched w true counts (current_thread_state_of h 0 from) h h' left left' end → option_map (λ e. (e, (current_thread_state_of h' 0 0).groups)) end ≡ match_end_and_groups_at w.tree w.text at
attempt-ends w at from h h' left left' counts end b first ran =
    let over = ran.over b.found (ap (found_from_state w true) first ∙ b.searches) in
    by end ran.ip ∙ ap (option_map end_and_groups_of_state) over.ends_so ∙ b.end
  where
    by : (end : Option ℕ) (ip : ℕ) → option_map (λ e. (e, (current_thread_state_of h' 0 0).groups)) end ≡ option_map end_and_groups_of_state (option_map (λ at. current_thread_state_of h' ip at) end)
    by None ip = refl
    by (Some e) ip = refl

-- The end of a search is paired with the groups that it left.
pub found-with : {P : Type 0} (offset : P → ℕ) (end : Option P) (groups : Groups) → end_with_groups offset end groups ≡ option_map (λ e. (e, groups)) (option_map offset end)
found-with offset None groups = refl
found-with offset (Some e) groups = refl

-- ---- Steps

spends-found : {X : Type 0} (counts : Bool) (need spent : ℕ) (left left' : Budget) (x : X) → (IsTrue counts → spent ≡ need) → IsTakenFromBudget counts spent left left'
    → SpendsNeedOrReachesLimit need (step_limit counts left) (Ok x) (step_limit counts left')
spends-found false need spent left left' x all taken = (refl, refl)
spends-found true need spent left left' x all taken =
    let same = all refl in
    let counted = taken.counted refl in
    let rest : left'.left ≡ left.left - need = omega (arith, same, counted) in
    (le-leb need left.left (omega (arith, same, counted)), ap Some rest)

-- If memory runs out, the steps spent are at most the needed ones.
spends-taken : (X : Type 0) (counts : Bool) (need steps : ℕ) (left left' : Budget) → IsTakenFromBudget counts steps left left' → steps ≤ need
    → SpendsNeedOrReachesLimit {X = X} need (step_limit counts left) (Err Memory) (step_limit counts left')
spends-taken X false need steps left left' taken few = (tt, tt)
spends-taken X true need steps left left' taken few =
    let counted = taken.counted refl in
    (omega (arith, counted), omega (arith, counted, few))

-- If memory runs out before the first step, no step is spent.
pub spends-none : (X : Type 0) (counts : Bool) (need : ℕ) (left left' : Budget) → left' ≡ left
    → SpendsNeedOrReachesLimit {X = X} need (step_limit counts left) (Err Memory) (step_limit counts left')
spends-none X counts need left left' same =
    subst (λ left'. SpendsNeedOrReachesLimit {X = X} need (step_limit counts left) (Err Memory) (step_limit counts left')) (sym same)
    (spends-taken X counts need 0 left left (taken-none counts left) (omega arith))

spends-limit : (X : Type 0) (counts : Bool) (need steps : ℕ) (left left' : Budget) → IsRefusedByBudget counts steps left left' → steps ≤ need
    → SpendsNeedOrReachesLimit {X = X} need (step_limit counts left) (Err StepLimit) (step_limit counts left')
spends-limit X false need steps left left' refused more = let no : false ≡ true = refused.counted in cc
spends-limit X true need steps left left' refused more =
    let few = refused.few in
    (lt-leb need left.left (omega (arith, few, more)), ap Some refused.none)

spends-stopped : (X : Type 0) (counts : Bool) (Needs : ℕ → Type 0) (need : ℕ) (left left' : Budget) → ((n : ℕ) → Needs n → n ≤ need) → left.out ≡ false → HasStopped counts 1 Needs left left'
    → SpendsNeedOrReachesLimit {X = X} need (step_limit counts left) (Err (cause_of_error left'.out)) (step_limit counts left')
spends-stopped X counts Needs need left left' least fresh s = by s.stopped_so
  where
    by : IsTakenFromBudget counts s.steps left left' ⊎ IsRefusedByBudget counts s.steps left left' → SpendsNeedOrReachesLimit {X = X} need (step_limit counts left) (Err (cause_of_error left'.out)) (step_limit counts left')
    by (inl t) =
        subst (λ out. SpendsNeedOrReachesLimit {X = X} need (step_limit counts left) (Err (cause_of_error out)) (step_limit counts left')) (sym (t.same ∙ fresh))
        (spends-taken X counts need s.steps left left' t (least s.steps s.needs))
    by (inr r) =
        subst (λ out. SpendsNeedOrReachesLimit {X = X} need (step_limit counts left) (Err (cause_of_error out)) (step_limit counts left')) (sym r.was_refused)
        (spends-limit X counts need s.steps left left' r (least s.steps s.needs))

-- An attempt that runs out of memory takes at least one step.
pub stopped-takes : (X : Type 0) (counts : Bool) (Begun : Type 0) (Needs : ℕ → Type 0) (left left' : Budget) → left.out ≡ false → HasStopped counts 1 Needs left left'
    → AllocFailureCostsAStep {X = X} Begun (step_limit counts left) (Err (cause_of_error left'.out)) (step_limit counts left')
stopped-takes X false Begun Needs left left' fresh s = tt
stopped-takes X true Begun Needs left left' fresh s = by s.stopped_so
  where
    by : IsTakenFromBudget true s.steps left left' ⊎ IsRefusedByBudget true s.steps left left' → AllocFailureCostsAStep {X = X} Begun (Some left.left) (Err (cause_of_error left'.out)) (Some left'.left)
    by (inl t) =
        let counted = t.counted refl in
        let some = s.no_fewer in
        subst (λ out. AllocFailureCostsAStep {X = X} Begun (Some left.left) (Err (cause_of_error out)) (Some left'.left)) (sym (t.same ∙ fresh)) (λ begun. omega (arith, counted, some))
    by (inr r) = subst (λ out. AllocFailureCostsAStep {X = X} Begun (Some left.left) (Err (cause_of_error out)) (Some left'.left)) (sym r.was_refused) tt

-- If the attempt has not begun, nothing is claimed about its steps.
pub takes-none : (X Begun : Type 0) (before after : Option ℕ) (r : Result X SearchError) → (Begun → ⊥) → AllocFailureCostsAStep Begun before r after
takes-none X Begun None after r never = tt
takes-none X Begun (Some b) after (Ok x) never = tt
takes-none X Begun (Some b) after (Err Memory) never = λ begun. absurd (never begun)
takes-none X Begun (Some b) after (Err StepLimit) never = tt

-- If memory runs out, the step limit has not been reached.
pub tells-memory : {X : Type 0} (r : Result X SearchError) {out : Bool} → IsErrAnd r (λ e. e ≡ Memory) → out ≡ false → TellsIfStepLimitReached r out
tells-memory (Ok x) h e = absurd h
tells-memory (Err f) h e = h ∙ ap cause_of_error (sym e)

module _ (w : SearchInput) (at from : ℕ) (h : StateModel) (left left' : Budget) (counts : Bool) (b : Begins w at) (first : current_thread_state_of h 0 from ≡ state_before_first_insn (program_of w) at) where
  searched : found_from_state w true (current_thread_state_of h 0 from) ≡ Some b.found
  searched = ap (found_from_state w true) first ∙ b.searches

  -- An attempt that has an answer took the ticks of its offset.
  pub attempt-spends : {X : Type 0} (h' : StateModel) (end : Option ℕ) (x : X) → HasSearched w true counts (current_thread_state_of h 0 from) h h' left left' end
      → SpendsNeedOrReachesLimit (ticks_of_attempt_at w.tree w.text at) (step_limit counts left) (Ok x) (step_limit counts left')
  attempt-spends h' end x ran =
      let over = ran.over b.found searched in
      spends-found counts (ticks_of_attempt_at w.tree w.text at) ran.spent left left' x (λ c.
      let few = over.few in
      let all = over.counted c in
      let steps = b.steps in
      omega (arith, few, all, steps)) ran.taken

  -- An attempt that stops spent at most its ticks, or had too few steps for them.
  pub attempt-stops : (X : Type 0) → left.out ≡ false → HasStopped counts 1 (NeedStepsAtLeast w true (running (current_thread_state_of h 0 from) ∷ [])) left left'
      → SpendsNeedOrReachesLimit {X = X} (ticks_of_attempt_at w.tree w.text at) (step_limit counts left) (Err (cause_of_error left'.out)) (step_limit counts left')
  attempt-stops X fresh stopped =
      spends-stopped X counts (NeedStepsAtLeast w true (running (current_thread_state_of h 0 from) ∷ [])) (ticks_of_attempt_at w.tree w.text at) left left'
      (λ n needs. let few = needs b.found searched in let steps = b.steps in omega (arith, few, steps)) fresh stopped
