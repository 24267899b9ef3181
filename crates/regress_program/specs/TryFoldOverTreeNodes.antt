-- A walk over the nodes of a tree, which a step may stop.
use Rattle.std.specs.Prelude.{Bool, true, false, Option, Some, None}
use Rattle.regex_meaning.specs.Tree.{Node, fold_nodes}

-- The result of a step after an earlier result. `None` if the walk had already stopped.
abbrev pub continued_by : {S : Type 0} → (step : S → Option S) → Option S → Option S
continued_by step None = None
continued_by step (Some s) = step s

-- A step, and then another one if the first did not stop.
abbrev pub in_sequence : {S : Type 0} → (first next : S → Option S) → S → Option S
in_sequence first next s = continued_by next (first s)

-- The result of a step at each node in the order of the tree. `None` if one of them stopped the
-- walk.
abbrev pub try_fold_tree_nodes : {S : Type 0} → (step : Node → S → Option S) → Node → S → Option S
try_fold_tree_nodes step root = fold_nodes in_sequence step root

-- A step that changes nothing, and stops if a test fails.
abbrev pub step_of_test : {S : Type 0} → Bool → S → Option S
step_of_test false s = None
step_of_test true s = Some s
