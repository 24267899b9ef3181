-- Turning loops of a node into char loops keeps its brackets and does not increase its size.
use Rattle.std.proofs.Common.{◌≡◌, ◌+◌, ◌-◌, ◌≤◌, Bool, true, false, ◌&&◌, refl, sym, ap, ◌∙◌, arith, le_refl, true≢false}
use Rattle.std.specs.Prelude.{if◌then◌else◌, not}
use Rattle.std.proofs.lemmas.Bool.{and_parts}
use Rattle.regex_meaning.specs.Tree.{Node, cat, alt, capture_group, lookaround, loop, loop_1_char_body, every_node_passes}
use Rattle.regex_pattern_front.specs.OptimizedTrees.{reads_one_character, optimized}
use Rattle.regex_pattern_front.proofs.OptimizedTreesLemmas.{one_character-optimized, is_one-reads}
use Rattle.regress_program.specs.CompilationOfTreesAsFunction.{node_insn_count, loop_count, brackets_of}
use Rattle.regress_program.specs.LeafNodesAndOptimizableLoops.{is_leaf, becomes_char_loop}
use Rattle.regress_program.specs.EmitterStateAndAppendedCode.{node_with_char_loops_if_enabled}

pub shaped-leaf : (narrow : Bool) (n : Node) → is_leaf n ≡ true → node_with_char_loops_if_enabled narrow n ≡ n
unfolding node_with_char_loops_if_enabled
shaped-leaf narrow (cat first rest) h = grind arith
shaped-leaf narrow (alt left right) h = grind arith
shaped-leaf narrow (capture_group id name contents) h = grind arith
shaped-leaf narrow (lookaround l contents) h = grind arith
shaped-leaf narrow (loop q s e loopee) h = grind arith
shaped-leaf narrow (loop_1_char_body q loopee) h = grind arith
shaped-leaf narrow _ h = refl

-- If char loops are disabled, the node stays the same.
pub shaped-plain : (n : Node) → node_with_char_loops_if_enabled false n ≡ n
unfolding node_with_char_loops_if_enabled
shaped-plain (cat first rest) = rw (shaped-plain first, shaped-plain rest) refl
shaped-plain (alt left right) = rw (shaped-plain left, shaped-plain right) refl
shaped-plain (capture_group id name contents) = rw (shaped-plain contents) refl
shaped-plain (lookaround l contents) = rw (shaped-plain contents) refl
shaped-plain (loop q s e loopee) = rw (shaped-plain loopee) refl
shaped-plain (loop_1_char_body q loopee) = rw (shaped-plain loopee) refl
shaped-plain _ = refl

-- If char loops are enabled, the node is the optimized one.
pub shaped-narrow : (n : Node) → node_with_char_loops_if_enabled true n ≡ optimized n
unfolding node_with_char_loops_if_enabled optimized
shaped-narrow (cat first rest) = rw (shaped-narrow first, shaped-narrow rest) refl
shaped-narrow (alt left right) = rw (shaped-narrow left, shaped-narrow right) refl
shaped-narrow (capture_group id name contents) = rw (shaped-narrow contents) refl
shaped-narrow (lookaround l contents) = rw (shaped-narrow contents) refl
shaped-narrow (loop q s e loopee) =
    go (reads_one_character loopee) (λ one. shaped-narrow loopee ∙ one_character-optimized loopee (is_one-reads loopee one)) (shaped-narrow loopee)
  where
    go : (r : Bool) → (r ≡ true → node_with_char_loops_if_enabled true loopee ≡ loopee) → node_with_char_loops_if_enabled true loopee ≡ optimized loopee
        → (if r then loop_1_char_body q (node_with_char_loops_if_enabled true loopee) else loop q s e (node_with_char_loops_if_enabled true loopee)) ≡ (if r then loop_1_char_body q loopee else loop q s e (optimized loopee))
    go true one below = ap (loop_1_char_body q) (one refl)
    go false one below = ap (loop q s e) below
shaped-narrow (loop_1_char_body q loopee) = rw (shaped-narrow loopee) refl
shaped-narrow _ = refl

abbrev stays : Node → Bool
stays n = every_node_passes (λ m. not (becomes_char_loop m)) n

-- A node in which no loop becomes a char loop is not changed by optimizing.
pub optimized-same : (n : Node) → every_node_passes (λ m. not (becomes_char_loop m)) n ≡ true → optimized n ≡ n
unfolding optimized
optimized-same (cat first rest) h =
    let both = and_parts (stays first) (stays rest) h in
    let head : optimized first ≡ first = optimized-same first both.0 in
    let tail : optimized rest ≡ rest = optimized-same rest both.1 in
    ap (λ n. cat n (optimized rest)) head ∙ ap (cat first) tail
optimized-same (alt left right) h =
    let both = and_parts (stays left) (stays right) h in
    let head : optimized left ≡ left = optimized-same left both.0 in
    let tail : optimized right ≡ right = optimized-same right both.1 in
    ap (λ n. alt n (optimized right)) head ∙ ap (alt left) tail
optimized-same (capture_group id name contents) h = ap (capture_group id name) (optimized-same contents h)
optimized-same (lookaround l contents) h = ap (lookaround l) (optimized-same contents h)
optimized-same (loop q s e loopee) h =
    let both = and_parts (not (reads_one_character loopee)) (stays loopee) h in
    go (reads_one_character loopee) both.0 (optimized-same loopee both.1)
  where
    go : (r : Bool) → not r ≡ true → optimized loopee ≡ loopee → (if r then loop_1_char_body q loopee else loop q s e (optimized loopee)) ≡ loop q s e loopee
    go true none same = absurd (true≢false (sym none))
    go false none same = ap (loop q s e) same
optimized-same (loop_1_char_body q loopee) h = ap (loop_1_char_body q) (optimized-same loopee h)
optimized-same _ h = refl

-- ---- The size of a node with char loops

pub size-shaped : (narrow : Bool) (n : Node) → node_insn_count (node_with_char_loops_if_enabled narrow n) ≤ node_insn_count n
unfolding node_with_char_loops_if_enabled node_insn_count
size-shaped narrow (cat first rest) = omega (arith, size-shaped narrow first, size-shaped narrow rest)
size-shaped narrow (alt left right) = omega (arith, size-shaped narrow left, size-shaped narrow right)
size-shaped narrow (capture_group id name contents) = omega (arith, size-shaped narrow contents)
size-shaped narrow (lookaround l contents) = omega (arith, size-shaped narrow contents)
size-shaped narrow (loop q s e loopee) = go (narrow && reads_one_character loopee) (size-shaped narrow loopee)
  where
    go : (r : Bool) → node_insn_count (node_with_char_loops_if_enabled narrow loopee) ≤ node_insn_count loopee
        → node_insn_count (if r then loop_1_char_body q (node_with_char_loops_if_enabled narrow loopee) else loop q s e (node_with_char_loops_if_enabled narrow loopee)) ≤ (e - s) + node_insn_count loopee + 2
    go true below = omega arith
    go false below = omega arith
size-shaped narrow (loop_1_char_body q loopee) = omega (arith, size-shaped narrow loopee)
size-shaped narrow _ = le_refl _

pub loops-shaped : (narrow : Bool) (n : Node) → loop_count (node_with_char_loops_if_enabled narrow n) ≤ loop_count n
unfolding node_with_char_loops_if_enabled loop_count
loops-shaped narrow (cat first rest) = omega (arith, loops-shaped narrow first, loops-shaped narrow rest)
loops-shaped narrow (alt left right) = omega (arith, loops-shaped narrow left, loops-shaped narrow right)
loops-shaped narrow (capture_group id name contents) = loops-shaped narrow contents
loops-shaped narrow (lookaround l contents) = loops-shaped narrow contents
loops-shaped narrow (loop q s e loopee) = go (narrow && reads_one_character loopee) (loops-shaped narrow loopee)
  where
    go : (r : Bool) → loop_count (node_with_char_loops_if_enabled narrow loopee) ≤ loop_count loopee
        → loop_count (if r then loop_1_char_body q (node_with_char_loops_if_enabled narrow loopee) else loop q s e (node_with_char_loops_if_enabled narrow loopee)) ≤ loop_count loopee + 1
    go true below = omega arith
    go false below = omega arith
loops-shaped narrow (loop_1_char_body q loopee) = loops-shaped narrow loopee
loops-shaped narrow _ = le_refl _

-- ---- What optimizing leaves unchanged

pub brackets-optimized : (n : Node) → brackets_of (optimized n) ≡ brackets_of n
unfolding optimized brackets_of
brackets-optimized (cat first rest) = rw (brackets-optimized first, brackets-optimized rest) refl
brackets-optimized (alt left right) = rw (brackets-optimized left, brackets-optimized right) refl
brackets-optimized (capture_group id name contents) = brackets-optimized contents
brackets-optimized (lookaround l contents) = brackets-optimized contents
brackets-optimized (loop q s e loopee) = go (reads_one_character loopee) (brackets-optimized loopee)
  where
    go : (r : Bool) → brackets_of (optimized loopee) ≡ brackets_of loopee → brackets_of (if r then loop_1_char_body q loopee else loop q s e (optimized loopee)) ≡ brackets_of loopee
    go true below = refl
    go false below = below
brackets-optimized (loop_1_char_body q loopee) = brackets-optimized loopee
brackets-optimized _ = refl
