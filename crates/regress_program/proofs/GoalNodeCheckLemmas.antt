-- The walk that looks for a second `Goal` node stops exactly if the tree has more than one.
use Rattle.std.proofs.Common.{◌≡◌, ℕ, zero, suc, ◌+◌, true, false, Option, Some, None, refl, sym, ap, ◌∙◌, arith}
use Rattle.std.specs.Prelude.{is_some, ◌==◌}
use Rattle.std.proofs.lemmas.Bool.{ne_eqb}
use Rattle.regex_meaning.specs.Tree.{Node, goal, cat, alt, capture_group, lookaround, loop, loop_1_char_body}
use Rattle.regex_meaning.specs.WellFormedTrees.{number_of_goal_nodes}
use Rattle.regress_program.specs.TryFoldOverTreeNodes.{continued_by, in_sequence, try_fold_tree_nodes}
use Rattle.regress_program.specs.AtMostOneGoalNodeCheck.{visit_goal}
use Rattle.regress_program.specs.declared.emit.well_formedness_check.SecondGoalNodeDetector.{SecondGoalNodeDetector}

-- This is the state of the walk after `n` goals, which stops at the second one.
abbrev found_so_far : ℕ → Option SecondGoalNodeDetector
found_so_far zero = Some (record { found = false })
found_so_far (suc zero) = Some (record { found = true })
found_so_far (suc (suc n)) = None

one_more : (k : ℕ) → continued_by (visit_goal goal) (found_so_far k) ≡ found_so_far (suc k)
one_more zero = refl
one_more (suc zero) = refl
one_more (suc (suc k)) = refl

none_more : (n : Node) → ((it : SecondGoalNodeDetector) → visit_goal n it ≡ Some it) → (o : Option SecondGoalNodeDetector) → continued_by (visit_goal n) o ≡ o
none_more n same None = refl
none_more n same (Some it) = same it

one_by_one : (first next : SecondGoalNodeDetector → Option SecondGoalNodeDetector) (o : Option SecondGoalNodeDetector) → continued_by (in_sequence first next) o ≡ continued_by next (continued_by first o)
one_by_one first next None = refl
one_by_one first next (Some it) = refl

abbrev Counts : (SecondGoalNodeDetector → Option SecondGoalNodeDetector) → ℕ → Type 0
Counts step n = (k : ℕ) → continued_by step (found_so_far k) ≡ found_so_far (k + n)

one_inside : (own step : SecondGoalNodeDetector → Option SecondGoalNodeDetector) (n : ℕ) → ((o : Option SecondGoalNodeDetector) → continued_by own o ≡ o) → Counts step n → Counts (in_sequence own step) (0 + n)
one_inside own step n same counts k =
    let sum : k + n ≡ k + (0 + n) = omega arith in
    one_by_one own step (found_so_far k) ∙ ap (continued_by step) (same (found_so_far k)) ∙ counts k ∙ ap found_so_far sum

two_inside : (step next : SecondGoalNodeDetector → Option SecondGoalNodeDetector) (m n : ℕ) → Counts step m → Counts next n → Counts (in_sequence step next) (m + n)
two_inside step next m n first rest k =
    let sum : (k + m) + n ≡ k + (m + n) = omega arith in
    one_by_one step next (found_so_far k) ∙ ap (continued_by next) (first k) ∙ rest (k + m) ∙ ap found_so_far sum

no_goal : (n : Node) → ((it : SecondGoalNodeDetector) → visit_goal n it ≡ Some it) → Counts (visit_goal n) 0
no_goal n same k =
    let sum : k ≡ k + 0 = omega arith in
    none_more n same (found_so_far k) ∙ ap found_so_far sum

walked-goals : (root : Node) → Counts (try_fold_tree_nodes visit_goal root) (number_of_goal_nodes root)
walked-goals (cat first rest) =
    two_inside (in_sequence (visit_goal (cat first rest)) (try_fold_tree_nodes visit_goal first)) (try_fold_tree_nodes visit_goal rest) (0 + number_of_goal_nodes first) (number_of_goal_nodes rest)
    (one_inside (visit_goal (cat first rest)) (try_fold_tree_nodes visit_goal first) (number_of_goal_nodes first) (none_more (cat first rest) (λ it. refl)) (walked-goals first)) (walked-goals rest)
walked-goals (alt left right) =
    two_inside (in_sequence (visit_goal (alt left right)) (try_fold_tree_nodes visit_goal left)) (try_fold_tree_nodes visit_goal right) (0 + number_of_goal_nodes left) (number_of_goal_nodes right)
    (one_inside (visit_goal (alt left right)) (try_fold_tree_nodes visit_goal left) (number_of_goal_nodes left) (none_more (alt left right) (λ it. refl)) (walked-goals left)) (walked-goals right)
walked-goals (capture_group id name contents) =
    one_inside (visit_goal (capture_group id name contents)) (try_fold_tree_nodes visit_goal contents) (number_of_goal_nodes contents) (none_more (capture_group id name contents) (λ it. refl)) (walked-goals contents)
walked-goals (lookaround l contents) =
    one_inside (visit_goal (lookaround l contents)) (try_fold_tree_nodes visit_goal contents) (number_of_goal_nodes contents) (none_more (lookaround l contents) (λ it. refl)) (walked-goals contents)
walked-goals (loop q start_group end_group loopee) =
    one_inside (visit_goal (loop q start_group end_group loopee)) (try_fold_tree_nodes visit_goal loopee) (number_of_goal_nodes loopee) (none_more (loop q start_group end_group loopee) (λ it. refl)) (walked-goals loopee)
walked-goals (loop_1_char_body q loopee) =
    one_inside (visit_goal (loop_1_char_body q loopee)) (try_fold_tree_nodes visit_goal loopee) (number_of_goal_nodes loopee) (none_more (loop_1_char_body q loopee) (λ it. refl)) (walked-goals loopee)
walked-goals goal = λ k. let next : suc k ≡ k + 1 = omega arith in one_more k ∙ ap found_so_far next
walked-goals n = no_goal n (λ it. refl)

-- A walk that goes on to its end says whether the tree has exactly one goal.
found_one : (n : ℕ) (it : SecondGoalNodeDetector) → found_so_far n ≡ Some it → it.found ≡ (n == 1)
found_one zero it e = cc
found_one (suc zero) it e = cc
found_one (suc (suc n)) it e = cc

found_more : (n : ℕ) → false ≡ is_some (found_so_far n) → false ≡ (n == 1)
found_more zero h = cc
found_more (suc zero) h = cc
found_more (suc (suc n)) h = sym (ne_eqb (suc (suc n)) 1 (λ e. absurd (omega (arith, e))))

from_none : (root : Node) → try_fold_tree_nodes visit_goal root (record { found = false }) ≡ found_so_far (number_of_goal_nodes root)
from_none root =
    let sum : 0 + number_of_goal_nodes root ≡ number_of_goal_nodes root = omega arith in
    walked-goals root 0 ∙ ap found_so_far sum

pub one_goal-went : (root : Node) (it : SecondGoalNodeDetector) → try_fold_tree_nodes visit_goal root (record { found = false }) ≡ Some it → it.found ≡ (number_of_goal_nodes root == 1)
one_goal-went root it e = found_one (number_of_goal_nodes root) it (sym (from_none root) ∙ e)

pub one_goal-stopped : (root : Node) → false ≡ is_some (try_fold_tree_nodes visit_goal root (record { found = false })) → false ≡ (number_of_goal_nodes root == 1)
one_goal-stopped root h = found_more (number_of_goal_nodes root) (h ∙ ap is_some (from_none root))
