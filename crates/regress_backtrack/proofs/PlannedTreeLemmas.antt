-- The tree that is executed in place of a regex's tree has the same matches and the same starts to try.
use Rattle.std.proofs.Common.{◌≡◌, ℕ, ◌+◌, Bool, true, false, List, [], ◌∷◌, Option, Some, None, refl, ap, sym, ◌∙◌, subst, arith, IsTrue}
use Rattle.std.specs.Prelude.{option_map, option_and_then, Result, Ok, Err, IfOk, IsErrAnd, length, replicate}
use Rattle.std.proofs.lemmas.Result.{IfOk-weaker}
use Rattle.regex_meaning.specs.Tree.{Node, Tree}
use Rattle.regex_meaning.specs.Text.{Text, rightwards}
use Rattle.regex_meaning.specs.CodeUnitOffsets.{HasRisingPlaceOffsets, place_at, units}
use Rattle.regex_meaning.specs.Outcomes.{Groups, Outcome, outcomes}
use Rattle.regex_meaning.specs.FirstAndAllMatches.{no_groups}
use Rattle.regex_meaning.specs.OutcomesWithStepTicks.{TickOrOutcome, tick, pair, outcomes_without_ticks, items_at}
use Rattle.regex_meaning.specs.WellFormedTrees.{is_well_formed}
use Rattle.regex_meaning.proofs.OutcomeTicksLemmas.{pairs-ticked}
use Rattle.regex_pattern_front.specs.AstToSpecTree.{tree_of}
use Rattle.regex_pattern_front.specs.declared.ir.Regex.{Regex}
use Rattle.regex_pattern_front.proofs.OptimizedTreesLemmas.{outcomes-optimized, group_ids-optimized}
use Rattle.regress_machine.specs.TextsForBytePrograms.{tree_contains_byte_nodes}
use Rattle.regress_machine.specs.SearchFindsFirstOutcomeAtPlace.{TreeProgramCanSearchText, first_outcome_among_ticks, end_in_offsets}
use Rattle.regress_program.specs.CompilationOfTreesAsFunction.{compiled}
use Rattle.regress_program.specs.OptimizedTreeUnlessNoOpt.{planned_tree}
use Rattle.regress_program.proofs.TreeToRunLemmas.{planned-same, flags-planned, well_formed-planned, reads_bytes-planned}
use Rattle.regress_search.proofs.SearchableProgramLemmas.{can-search}
use Rattle.regress_search.specs.AttemptsAndStarts.{NextStartSkipsNoMatch, NoMatchStartsBetween, match_end_and_groups_at, end_with_groups}
use Rattle.regress_search.specs.CostsOfSearches.{SkipSpendsExactCost, units_skipped}
use Rattle.regress_program.specs.SearchableTexts.{IsByteText}
use Rattle.regress_search.specs.SearchEffects.{SpendsNeedOrReachesLimit}
use Rattle.regress_search.specs.declared.exec.SearchError.{SearchError}
use Rattle.regress_search.specs.declared.exec.SearchError.TheVariants.{Memory, StepLimit}
use Rattle.regress_backtrack.specs.BudgetAccounting.{Budget, IsRefusedByBudget}
use Rattle.regress_backtrack.specs.TextsReadAsTreeRequires.{TreeCanSearchText}
use Rattle.regress_search.proofs.SkippedStartLemmas.{skips-compose}

-- ---- Each tree can search the texts that the other can

-- A well-formed tree can search each text that its flags and byte nodes allow.
pub can-be : {re run : Regex} {text : Text} {are_bytes : Bool} → re ≡ run → IsTrue (is_well_formed (tree_of run).root) → text.unicode ≡ (tree_of run).flags.unicode
    → (IsTrue (tree_contains_byte_nodes (tree_of run).root) → IsByteText text are_bytes) → TreeCanSearchText (tree_of re) text
can-be {text = text} same well unicode bytes =
    subst (λ re. TreeCanSearchText (tree_of re) text) (sym same) (record { well_formed = well; unicode = unicode; bytes = λ reads. (bytes reads).reads })

pub can-context : (wide : Bool) (t : Tree) (text : Text) → TreeCanSearchText t text → TreeCanSearchText (planned_tree wide t) text
can-context wide t text can = record {
  well_formed = well_formed-planned wide t can.well_formed;
  unicode = can.unicode ∙ ap (λ f. f.unicode) (sym (flags-planned wide t));
  bytes = λ reads. can.bytes (subst IsTrue (reads_bytes-planned wide t) reads);
}

search-context : (wide : Bool) (t : Tree) (text : Text) → TreeCanSearchText t text → HasRisingPlaceOffsets text
    → TreeProgramCanSearchText (compiled (planned_tree wide t)) (planned_tree wide t) text
search-context wide t text can is =
    let run = can-context wide t text can in
    can-search (planned_tree wide t) text run.well_formed is run.unicode run.bytes

-- The same holds for the planned tree.
pub can-run : {re run : Regex} {text : Text} {are_bytes : Bool} (wide : Bool) → re ≡ run → IsTrue (is_well_formed (tree_of run).root) → text.unicode ≡ (tree_of run).flags.unicode
    → (IsTrue (tree_contains_byte_nodes (tree_of run).root) → IsByteText text are_bytes) → TreeCanSearchText (planned_tree wide (tree_of re)) text
can-run {re = re} {text = text} wide same well unicode bytes = can-context wide (tree_of re) text (can-be same well unicode bytes)

pub search-run : {re run : Regex} {text : Text} {are_bytes : Bool} (wide : Bool) → re ≡ run → IsTrue (is_well_formed (tree_of run).root) → text.unicode ≡ (tree_of run).flags.unicode
    → (IsTrue (tree_contains_byte_nodes (tree_of run).root) → IsByteText text are_bytes) → HasRisingPlaceOffsets text → TreeProgramCanSearchText (compiled (planned_tree wide (tree_of re))) (planned_tree wide (tree_of re)) text
search-run {re = re} {text = text} wide same well unicode bytes is = search-context wide (tree_of re) text (can-be same well unicode bytes) is

-- ---- Both trees find the same matches

first_of_pairs : List Outcome → Option Outcome
first_of_pairs [] = None
first_of_pairs (o ∷ os) = Some o

first-of-pairs : (items : List TickOrOutcome) → first_outcome_among_ticks items ≡ first_of_pairs (outcomes_without_ticks items)
unfolding first_of_pairs
first-of-pairs [] = refl
first-of-pairs (tick ∷ items) = first-of-pairs items
first-of-pairs (pair o ∷ items) = refl

-- This is the first outcome of a root at a place.
first_at : Text → (place : ℕ) → Node → Option Outcome
first_at text place root = first_of_pairs (outcomes text root rightwards place (no_groups root))

first-is : (t : Tree) (text : Text) (place : ℕ) → first_outcome_among_ticks (items_at t text place) ≡ first_at text place t.root
unfolding first_at
first-is t text place =
    first-of-pairs (items_at t text place) ∙ ap first_of_pairs (pairs-ticked text t.root rightwards place (no_groups t.root))

first-context : (wide : Bool) (t : Tree) (text : Text) → IsTrue (is_well_formed t.root) → (place : ℕ)
    → first_outcome_among_ticks (items_at (planned_tree wide t) text place) ≡ first_outcome_among_ticks (items_at t text place)
unfolding first_at
first-context wide t text h place =
    first-is (planned_tree wide t) text place
    ∙ planned-same (first_at text place) wide t
    (ap first_of_pairs
    (outcomes-optimized t.root h text rightwards place _ ∙ ap (λ ids. outcomes text t.root rightwards place (replicate (length ids) None)) (group_ids-optimized t.root)))
    ∙ sym (first-is t text place)

-- Both trees have the same end and groups of the first outcome at an offset.
pub end-context : (wide : Bool) (t : Tree) (text : Text) → IsTrue (is_well_formed t.root) → (at : ℕ) → match_end_and_groups_at (planned_tree wide t) text at ≡ match_end_and_groups_at t text at
end-context wide t text h at = by (place_at text at)
  where
    by : (p : Option ℕ)
        → option_and_then (λ place. option_map (end_in_offsets text) (first_outcome_among_ticks (items_at (planned_tree wide t) text place))) p
        ≡ option_and_then (λ place. option_map (end_in_offsets text) (first_outcome_among_ticks (items_at t text place))) p
    by None = refl
    by (Some place) = ap (option_map (end_in_offsets text)) (first-context wide t text h place)

pub ends-context : {P : Type 0} (offset : P → ℕ) (wide : Bool) (t : Tree) (text : Text) → IsTrue (is_well_formed t.root) → (at : ℕ) (groups : Groups)
    (r : Result (Option P) SearchError) → IfOk r (λ end. end_with_groups offset end groups ≡ match_end_and_groups_at (planned_tree wide t) text at)
    → IfOk r (λ end. end_with_groups offset end groups ≡ match_end_and_groups_at t text at)
ends-context offset wide t text h at groups r = IfOk-weaker r _ _ (λ end found. found ∙ end-context wide t text h at)

-- ---- Both trees try the same starts

none-same : (a b : Tree) (text : Text) → ((at : ℕ) → match_end_and_groups_at a text at ≡ match_end_and_groups_at b text at) → (from to : ℕ) → NoMatchStartsBetween a text from to → NoMatchStartsBetween b text from to
none-same a b text same from to none = λ at on le less. sym (same at) ∙ none at on le less

next-same : (a b : Tree) (text : Text) → ((at : ℕ) → match_end_and_groups_at a text at ≡ match_end_and_groups_at b text at) → (from : ℕ) (next : Option ℕ) → NextStartSkipsNoMatch a text from next → NextStartSkipsNoMatch b text from next
next-same a b text same from None none = none-same a b text same from (units text + 1) none
next-same a b text same from (Some to) try = (try.0, try.1, none-same a b text same from to try.2)

-- The next start of the planned tree is a next start of the tree.
pub next-tree : (wide : Bool) (t : Tree) (text : Text) → IsTrue (is_well_formed t.root) → (from : ℕ) (next : Option ℕ)
    → NextStartSkipsNoMatch (planned_tree wide t) text from next → NextStartSkipsNoMatch t text from next
next-tree wide t text h from next = next-same (planned_tree wide t) t text (end-context wide t text h) from next

-- The next start after a next start of the planned tree is a next start of the tree.
pub next-context : {re run : Regex} (wide : Bool) (text : Text) → re ≡ run → IsTrue (is_well_formed (tree_of re).root) → (from next : ℕ) (to : Option ℕ)
    → NextStartSkipsNoMatch (tree_of run) text from (Some next) → NextStartSkipsNoMatch (planned_tree wide (tree_of re)) text next to → NextStartSkipsNoMatch (tree_of re) text from to
next-context {re = re} wide text same well from next to first second =
    skips-compose (tree_of re) text from next to (subst (λ re. NextStartSkipsNoMatch (tree_of re) text from (Some next)) (sym same) first)
    (next-tree wide (tree_of re) text well next to second)

-- Without a step limit nothing is claimed about the steps needed.
pub spends-unlimited : {X : Type 0} (need other : ℕ) (r : Result X SearchError) → SpendsNeedOrReachesLimit need None r None → SpendsNeedOrReachesLimit other None r None
spends-unlimited need other (Ok x) h = h
spends-unlimited need other (Err Memory) h = h
spends-unlimited need other (Err StepLimit) h = h

-- ---- Bytes

-- If `wide` is false, the planned tree is the tree itself.
pub context-single_unit : (wide : Bool) (t : Tree) → wide ≡ false → planned_tree wide t ≡ t
context-single_unit wide t single_unit = ap (λ w. planned_tree w t) single_unit

-- ---- Skips that the work limit refuses

-- If the budget refuses to pay for a skip, the skip costs more than is left.
pub refused-skip : {P E : Type 0} (offset : P → ℕ) (tree : Tree) (text : Text) (at : ℕ) (next : Option ℕ) (skipped : ℕ) (before after : Budget) (r : Result (Option P) E) (e : E) (left' : ℕ)
    → IsErrAnd r (λ f. f ≡ e) → NextStartSkipsNoMatch tree text at next → skipped ≡ units_skipped text at next → IsRefusedByBudget true skipped before after
    → SkipSpendsExactCost offset true tree text at before.left r left'
refused-skip offset tree text at next skipped before after (Ok x) e left' h none is refused = absurd h
refused-skip offset tree text at next skipped before after (Err f) e left' h none is refused = (refl, ∣ (next, none, (let few = refused.few in omega (arith, few, is))) ∣₁)
