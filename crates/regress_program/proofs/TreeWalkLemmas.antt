-- A walk over a tree with a test goes on to its end exactly if each node passes the test.
use Rattle.std.proofs.Common.{◌≡◌, Bool, true, false, List, [], ◌∷◌, Option, Some, None, refl, sym, ap, ◌∙◌}
use Rattle.std.specs.Prelude.{is_some, IsTrue, not, ◌&&◌, ◌||◌}
use Rattle.regex_meaning.specs.Tree.{Node, cat, end_of_cat, alt, capture_group, lookaround, loop, loop_1_char_body, fold_nodes, every_node_passes}
use Rattle.regex_pattern_front.specs.declared.ir.Node as declared
use Rattle.regress_program.specs.LeafNodesAndOptimizableLoops.{spec_cat_of_children}
use Rattle.regress_program.specs.TryFoldOverTreeNodes.{continued_by, in_sequence, try_fold_tree_nodes, step_of_test}

pub none-of : {S : Type 0} (o : Option S) → false ≡ is_some o → o ≡ None
none-of None h = refl
none-of (Some s) h = cc

-- ---- A step that stops the walk

stops-there : {S : Type 0} (step : Node → S → Option S) (n : Node) (s : S) → step n s ≡ None → try_fold_tree_nodes step n s ≡ None
stops-there step (cat first rest) s e = ap (λ o. continued_by (try_fold_tree_nodes step rest) (continued_by (try_fold_tree_nodes step first) o)) e
stops-there step (alt left right) s e = ap (λ o. continued_by (try_fold_tree_nodes step right) (continued_by (try_fold_tree_nodes step left) o)) e
stops-there step (capture_group id name contents) s e = ap (continued_by (try_fold_tree_nodes step contents)) e
stops-there step (lookaround l contents) s e = ap (continued_by (try_fold_tree_nodes step contents)) e
stops-there step (loop q start_group end_group loopee) s e = ap (continued_by (try_fold_tree_nodes step loopee)) e
stops-there step (loop_1_char_body q loopee) s e = ap (continued_by (try_fold_tree_nodes step loopee)) e
stops-there step _ s e = e

pub walk-stops : {S : Type 0} (step : Node → S → Option S) (n : Node) (s : S) → false ≡ is_some (step n s) → false ≡ is_some (try_fold_tree_nodes step n s)
walk-stops step n s h = ap is_some (sym (stops-there step n s (none-of (step n s) h)))

-- ---- Node lists

-- A step that goes on at each node of a list goes on at the list.
pub row-goes : {S : Type 0} (step : Node → S → Option S) (rows : (first rest : Node) (s : S) → step (cat first rest) s ≡ Some s) (ends : (s : S) → step end_of_cat s ≡ Some s)
    (nodes : List declared.Node) (n : Node) (s : S) → n ≡ spec_cat_of_children nodes → step n s ≡ Some s
row-goes step rows ends nodes n s e = ap (λ m. step m s) e ∙ of_nodes nodes
  where
    of_nodes : (ns : List declared.Node) → step (spec_cat_of_children ns) s ≡ Some s
    of_nodes [] = ends s
    of_nodes (m ∷ ms) = rows _ (spec_cat_of_children ms) s

pub row-same : {S : Type 0} (step : Node → S → Option S) (rows : (first rest : Node) (s : S) → step (cat first rest) s ≡ Some s) (ends : (s : S) → step end_of_cat s ≡ Some s)
    (nodes : List declared.Node) (n : Node) (s t : S) → n ≡ spec_cat_of_children nodes → step n s ≡ Some t → t ≡ s
row-same step rows ends nodes n s t e h =
    let goes : step n s ≡ Some s = row-goes step rows ends nodes n s e in
    cc

-- ---- Tests

both_pass : {S : Type 0} (first next : S → Option S) (s : S) (a b : Bool) → first s ≡ step_of_test a s → next s ≡ step_of_test b s → in_sequence first next s ≡ step_of_test (a && b) s
both_pass first next s false b e f = ap (continued_by next) e
both_pass first next s true b e f = ap (continued_by next) e ∙ f

abbrev pub tested : {S : Type 0} → (test : S → Node → Bool) → Node → S → Option S
tested test n s = step_of_test (test s n) s

-- A walk with a test is the step of the test of every node.
pub walked-passes : {S : Type 0} (test : S → Node → Bool) (root : Node) (s : S) → try_fold_tree_nodes (tested test) root s ≡ step_of_test (every_node_passes (test s) root) s
walked-passes test (cat first rest) s =
    both_pass (in_sequence (tested test (cat first rest)) (try_fold_tree_nodes (tested test) first)) (try_fold_tree_nodes (tested test) rest) s (test s (cat first rest) && every_node_passes (test s) first) (every_node_passes (test s) rest)
    (both_pass (tested test (cat first rest)) (try_fold_tree_nodes (tested test) first) s (test s (cat first rest)) (every_node_passes (test s) first) refl (walked-passes test first s))
    (walked-passes test rest s)
walked-passes test (alt left right) s =
    both_pass (in_sequence (tested test (alt left right)) (try_fold_tree_nodes (tested test) left)) (try_fold_tree_nodes (tested test) right) s (test s (alt left right) && every_node_passes (test s) left) (every_node_passes (test s) right)
    (both_pass (tested test (alt left right)) (try_fold_tree_nodes (tested test) left) s (test s (alt left right)) (every_node_passes (test s) left) refl (walked-passes test left s))
    (walked-passes test right s)
walked-passes test (capture_group id name contents) s = both_pass (tested test (capture_group id name contents)) (try_fold_tree_nodes (tested test) contents) s (test s (capture_group id name contents)) (every_node_passes (test s) contents) refl (walked-passes test contents s)
walked-passes test (lookaround l contents) s = both_pass (tested test (lookaround l contents)) (try_fold_tree_nodes (tested test) contents) s (test s (lookaround l contents)) (every_node_passes (test s) contents) refl (walked-passes test contents s)
walked-passes test (loop q start_group end_group loopee) s = both_pass (tested test (loop q start_group end_group loopee)) (try_fold_tree_nodes (tested test) loopee) s (test s (loop q start_group end_group loopee)) (every_node_passes (test s) loopee) refl (walked-passes test loopee s)
walked-passes test (loop_1_char_body q loopee) s = both_pass (tested test (loop_1_char_body q loopee)) (try_fold_tree_nodes (tested test) loopee) s (test s (loop_1_char_body q loopee)) (every_node_passes (test s) loopee) refl (walked-passes test loopee s)
walked-passes test _ s = refl

went-on : {S : Type 0} (b : Bool) (s : S) → is_some (step_of_test b s) ≡ b
went-on false s = refl
went-on true s = refl

-- The walk goes on to its end exactly if each node passes the test.
pub every-passes : {S : Type 0} (test : S → Node → Bool) (root : Node) (s : S) (went : Bool) → went ≡ is_some (try_fold_tree_nodes (tested test) root s) → went ≡ every_node_passes (test s) root
every-passes test root s went e = e ∙ ap is_some (walked-passes test root s) ∙ went-on (every_node_passes (test s) root) s

-- A function that preserves joining maps what is gathered to what is gathered from its values.
pub gathered-through : {A B : Type 0} (through : A → B) (join : A → A → A) (joined : B → B → B) (own : Node → A)
    → ((x y : A) → through (join x y) ≡ joined (through x) (through y)) → (root : Node) → through (fold_nodes join own root) ≡ fold_nodes joined (λ n. through (own n)) root
gathered-through through join joined own keeps (cat first rest) =
    keeps _ _ ∙ ap (λ x. joined x (through (fold_nodes join own rest))) (keeps _ _)
    ∙ ap (λ x. joined (joined (through (own (cat first rest))) x) (through (fold_nodes join own rest))) (gathered-through through join joined own keeps first)
    ∙ ap (joined (joined (through (own (cat first rest))) (fold_nodes joined (λ n. through (own n)) first))) (gathered-through through join joined own keeps rest)
gathered-through through join joined own keeps (alt left right) =
    keeps _ _ ∙ ap (λ x. joined x (through (fold_nodes join own right))) (keeps _ _)
    ∙ ap (λ x. joined (joined (through (own (alt left right))) x) (through (fold_nodes join own right))) (gathered-through through join joined own keeps left)
    ∙ ap (joined (joined (through (own (alt left right))) (fold_nodes joined (λ n. through (own n)) left))) (gathered-through through join joined own keeps right)
gathered-through through join joined own keeps (capture_group id name contents) =
    keeps _ _ ∙ ap (joined (through (own (capture_group id name contents)))) (gathered-through through join joined own keeps contents)
gathered-through through join joined own keeps (lookaround l contents) =
    keeps _ _ ∙ ap (joined (through (own (lookaround l contents)))) (gathered-through through join joined own keeps contents)
gathered-through through join joined own keeps (loop q start_group end_group loopee) =
    keeps _ _ ∙ ap (joined (through (own (loop q start_group end_group loopee)))) (gathered-through through join joined own keeps loopee)
gathered-through through join joined own keeps (loop_1_char_body q loopee) =
    keeps _ _ ∙ ap (joined (through (own (loop_1_char_body q loopee)))) (gathered-through through join joined own keeps loopee)
gathered-through through join joined own keeps _ = refl

not-or : (a b : Bool) → not (a || b) ≡ (not a && not b)
not-or false b = refl
not-or true b = refl

-- Some node passes the test exactly if not all nodes fail it.
pub none-passes : (test : Node → Bool) (root : Node) (went : Bool) → went ≡ every_node_passes (λ n. not (test n)) root → not went ≡ fold_nodes ◌||◌ test root
none-passes test root went e = ap not (e ∙ sym (gathered-through not ◌||◌ ◌&&◌ test not-or root)) ∙ twice (fold_nodes ◌||◌ test root)
  where
    twice : (b : Bool) → not (not b) ≡ b
    twice false = refl
    twice true = refl

-- ---- A walk that never stops

abbrev pub all_along : {S : Type 0} → (change : Node → S → S) → Node → S → S
all_along change root = fold_nodes (λ first next s. next (first s)) change root

in_turn-both : {S : Type 0} (first next : S → Option S) (change more : S → S) → ((s : S) → first s ≡ Some (change s)) → ((s : S) → next s ≡ Some (more s))
    → (s : S) → in_sequence first next s ≡ Some (more (change s))
in_turn-both first next change more e f s = ap (continued_by next) (e s) ∙ f (change s)

abbrev always : {S : Type 0} → (change : Node → S → S) → Node → S → Option S
always change n s = Some (change n s)

pub walked-always : {S : Type 0} (change : Node → S → S) (root : Node) (s : S) → try_fold_tree_nodes (λ n t. Some (change n t)) root s ≡ Some (all_along change root s)
walked-always change (cat first rest) =
    in_turn-both (in_sequence (always change (cat first rest)) (try_fold_tree_nodes (always change) first)) (try_fold_tree_nodes (always change) rest) (λ s. all_along change first (change (cat first rest) s)) (all_along change rest)
    (in_turn-both (always change (cat first rest)) (try_fold_tree_nodes (always change) first) (change (cat first rest)) (all_along change first) (λ s. refl) (walked-always change first)) (walked-always change rest)
walked-always change (alt left right) =
    in_turn-both (in_sequence (always change (alt left right)) (try_fold_tree_nodes (always change) left)) (try_fold_tree_nodes (always change) right) (λ s. all_along change left (change (alt left right) s)) (all_along change right)
    (in_turn-both (always change (alt left right)) (try_fold_tree_nodes (always change) left) (change (alt left right)) (all_along change left) (λ s. refl) (walked-always change left)) (walked-always change right)
walked-always change (capture_group id name contents) =
    in_turn-both (always change (capture_group id name contents)) (try_fold_tree_nodes (always change) contents) (change (capture_group id name contents)) (all_along change contents) (λ s. refl) (walked-always change contents)
walked-always change (lookaround l contents) =
    in_turn-both (always change (lookaround l contents)) (try_fold_tree_nodes (always change) contents) (change (lookaround l contents)) (all_along change contents) (λ s. refl) (walked-always change contents)
walked-always change (loop q start_group end_group loopee) =
    in_turn-both (always change (loop q start_group end_group loopee)) (try_fold_tree_nodes (always change) loopee) (change (loop q start_group end_group loopee)) (all_along change loopee) (λ s. refl) (walked-always change loopee)
walked-always change (loop_1_char_body q loopee) =
    in_turn-both (always change (loop_1_char_body q loopee)) (try_fold_tree_nodes (always change) loopee) (change (loop_1_char_body q loopee)) (all_along change loopee) (λ s. refl) (walked-always change loopee)
walked-always change _ = λ s. refl

-- A walk that never stops ends with the state after all changes.
pub always-went : {S : Type 0} (change : Node → S → S) (root : Node) (s t : S) (went : Bool) → went ≡ is_some (try_fold_tree_nodes (always change) root s)
    → (IsTrue went → try_fold_tree_nodes (always change) root s ≡ Some t) → t ≡ all_along change root s
always-went change root s t went e f =
    let end : went ≡ true = e ∙ ap is_some (walked-always change root s) in
    let both : Some t ≡ Some (all_along change root s) = sym (f end) ∙ walked-always change root s in
    cc
