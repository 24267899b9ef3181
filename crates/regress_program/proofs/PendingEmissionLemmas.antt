-- Emitting the pending parts one by one emits the code of the tree and decreases the measure.
use Rattle.std.proofs.Common.{◌≡◌, ℕ, ◌+◌, ◌*◌, ◌-◌, ◌<◌, ◌≤◌, ◌^◌, Bool, true, ◌&&◌, List, [], ◌∷◌, ◌++◌, length, refl, sym, ap, ◌∙◌, arith, length-append, length-set, le_refl}
use Rattle.std.specs.Prelude.{nat_lt}
use Rattle.std.proofs.lemmas.Bool.{and_from, lt-ltb, ltb-true}
use Rattle.regex_meaning.specs.Tree.{Quantifier, Lookaround, Node as TreeNode, alt, lookaround, loop, every_node_passes}
use Rattle.regex_meaning.specs.Outcomes.{max_iterations}
use Rattle.regex_meaning.specs.WellFormedTrees.{set_sizes_and_characters_fit_instructions}
use Rattle.regex_meaning.specs.CompilationRelation.{Insn, Alt, EnterLoop, Jump, Goal, LoopAgain, lookaround_insn}
use Rattle.regress_program.specs.declared.instructions.LoopFields.{LoopFields}
use Rattle.regex_pattern_front.specs.AstToSpecTree.{spec_node_of}
use Rattle.regex_pattern_front.specs.declared.ir.Node as ir
use Rattle.regress_program.specs.InnerNodeCountMeasure.{inner_node_count}
use Rattle.regress_program.specs.CompilationOfTreesAsFunction.{group_reset_insns}
use Rattle.regress_program.specs.EmitterStateAndAppendedCode.{EmitterState, HasIndexRoomForNode, node_with_char_loops_if_enabled, with_code, with_insn_appended, with_insns_appended, with_insn_at}
use Rattle.regress_program.specs.EmitterStateAndAppendedCode.{with_loop}
use Rattle.regress_program.specs.LeafNodesAndOptimizableLoops.{spec_cat_of_children, is_leaf}
use Rattle.regress_program.specs.PendingEmission.{EmitWork, FitsIndexWidths, CanEmitPendingPart, ExpandsPending, with_arm_end, with_jump, with_alternatives_emitted, with_lookaround_end, with_loop_end}
use Rattle.regress_program.specs.PendingEmission.{with_pending, with_all_pending, is_emittable, are_emittable, node_measure, pending_measure, total_measure}
use Rattle.regress_program.specs.declared.emit.nested_nodes.UnemittedCodePart.{UnemittedCodePart}
use Rattle.regress_program.specs.declared.emit.nested_nodes.UnemittedCodePart.TheVariants.{Node, Row, Others, Jump as JumpLeft, GroupEnd, LookaroundEnd, LoopEnd}
use Rattle.regress_program.proofs.AppendedCodeLemmas.{length-with_code, with_code-alt, with_code-loop, with_code-lookaround, with_code-cat, with_code-end_of_cat, room-first, room-rest}
use Rattle.regress_program.proofs.CharLoopNodeLemmas.{shaped-leaf}
use Rattle.regex_meaning.proofs.BoolLemmas.{and-left, and-right}

-- ---- The last part first

pub all-last : (rest : List UnemittedCodePart) (r : UnemittedCodePart) (s : EmitterState) → with_all_pending (rest ++ r ∷ []) s ≡ with_all_pending rest (with_pending r s)
all-last [] r s = refl
all-last (x ∷ rest) r s = ap (with_pending x) (all-last rest r s)

load-last : (rest : List UnemittedCodePart) (r : UnemittedCodePart) → total_measure (rest ++ r ∷ []) ≡ total_measure rest + pending_measure r
load-last [] r = omega arith
load-last (x ∷ rest) r = omega (arith, load-last rest r)

ready-both : (end : ℕ) (rest : List UnemittedCodePart) (r : UnemittedCodePart) → are_emittable end (rest ++ r ∷ []) ≡ true → (are_emittable end rest ≡ true) × (is_emittable end r ≡ true)
ready-both end [] r h = (refl, and-left (is_emittable end r) true h)
ready-both end (x ∷ rest) r h =
    let later = ready-both end rest r (and-right (is_emittable end x) (are_emittable end (rest ++ r ∷ [])) h) in
    (and_from (is_emittable end x) (are_emittable end rest) (and-left (is_emittable end x) (are_emittable end (rest ++ r ∷ [])) h) later.0, later.1)

ready-with : (end : ℕ) (rest : List UnemittedCodePart) (r : UnemittedCodePart) → are_emittable end rest ≡ true → is_emittable end r ≡ true → are_emittable end (rest ++ r ∷ []) ≡ true
ready-with end [] r h k = and_from (is_emittable end r) true k refl
ready-with end (x ∷ rest) r h k =
    and_from (is_emittable end x) (are_emittable end (rest ++ r ∷ [])) (and-left (is_emittable end x) (are_emittable end rest) h)
    (ready-with end rest r (and-right (is_emittable end x) (are_emittable end rest) h) k)

below-more : (place m n : ℕ) → m ≤ n → nat_lt place m ≡ true → nat_lt place n ≡ true
below-more place m n h b =
    let here : place < m = ltb-true place m b in
    lt-ltb place n (omega arith)

ready-more : (m n : ℕ) (r : UnemittedCodePart) → m ≤ n → is_emittable m r ≡ true → is_emittable n r ≡ true
unfolding is_emittable
ready-more m n (Node mode node) h k = k
ready-more m n (Row mode nodes) h k = k
ready-more m n (Others mode branch others) h k =
    let fits = every_node_passes set_sizes_and_characters_fit_instructions (spec_node_of others.now) in
    and_from (nat_lt branch n) fits (below-more branch m n h (and-left (nat_lt branch m) fits k)) (and-right (nat_lt branch m) fits k)
ready-more m n (JumpLeft place) h k = below-more place m n h k
ready-more m n (GroupEnd id) h k = k
ready-more m n (LookaroundEnd look head) h k = below-more head m n h k
ready-more m n (LoopEnd fields begin) h k = below-more begin m n h k

are_ready-more : (m n : ℕ) (rest : List UnemittedCodePart) → m ≤ n → are_emittable m rest ≡ true → are_emittable n rest ≡ true
are_ready-more m n [] h k = refl
are_ready-more m n (r ∷ rest) h k =
    and_from (is_emittable n r) (are_emittable n rest) (ready-more m n r h (and-left (is_emittable m r) (are_emittable m rest) k))
    (are_ready-more m n rest h (and-right (is_emittable m r) (are_emittable m rest) k))

-- ---- States that grow

pub record Grows (s t : EmitterState) : Type 0 where
  pub insns : length s.insns ≤ length t.insns
  pub loops : s.loops ≤ t.loops

pub grows-same : (s : EmitterState) → Grows s s
grows-same s = record { insns = le_refl _; loops = le_refl _ }

pub grows-then : (s t u : EmitterState) → Grows s t → Grows t u → Grows s u
grows-then s t u g h = record { insns = omega (arith, g.insns, h.insns); loops = omega (arith, g.loops, h.loops) }

pub grows-insn : (x : Insn) (s : EmitterState) → Grows s (with_insn_appended x s)
grows-insn x s = record { insns = omega (arith, length-append s.insns (x ∷ [])); loops = le_refl _ }

grows-insn_at : (place : ℕ) (x : Insn) (s : EmitterState) → Grows s (with_insn_at place x s)
grows-insn_at place x s = record { insns = omega (arith, length-set s.insns place x); loops = le_refl _ }

pub grows-code : (u d : Bool) (n : TreeNode) (s : EmitterState) → Grows s (with_code u d n s)
grows-code u d n s = record { insns = omega (arith, length-with_code u d n s); loops = omega arith }

grows-written : (place : ℕ) (x y : Insn) (s : EmitterState) → Grows s (with_insn_at place y (with_insn_appended x s))
grows-written place x y s = grows-then s (with_insn_appended x s) (with_insn_at place y (with_insn_appended x s)) (grows-insn x s) (grows-insn_at place y (with_insn_appended x s))

grows-others : (u d : Bool) (branch : ℕ) (n : TreeNode) (s : EmitterState) → Grows s (with_alternatives_emitted u d branch n s)
grows-others u d branch n s =
    let t = with_arm_end branch s in
    let v = with_code u d n t in
    grows-then s t (with_alternatives_emitted u d branch n s) (grows-written branch (Jump 0) (Alt (length (with_insn_appended (Jump 0) s).insns)) s)
    (grows-then t v (with_alternatives_emitted u d branch n s) (grows-code u d n t) (grows-insn_at (length s.insns) (Jump (length v.insns)) v))

pub grows-left : (r : UnemittedCodePart) (s : EmitterState) → Grows s (with_pending r s)
unfolding with_pending
grows-left (Node mode node) s = grows-code mode.unicode mode.behind (node_with_char_loops_if_enabled mode.narrow (spec_node_of node.now)) s
grows-left (Row mode nodes) s = grows-code mode.unicode mode.behind (node_with_char_loops_if_enabled mode.narrow (spec_cat_of_children nodes.now)) s
grows-left (Others mode branch others) s = grows-others mode.unicode mode.behind branch (node_with_char_loops_if_enabled mode.narrow (spec_node_of others.now)) s
grows-left (JumpLeft place) s = grows-insn_at place _ s
grows-left (GroupEnd id) s = grows-insn _ s
grows-left (LookaroundEnd look head) s = grows-written head _ _ s
grows-left (LoopEnd fields begin) s = grows-written begin _ _ s

grows-all : (rest : List UnemittedCodePart) (s : EmitterState) → Grows s (with_all_pending rest s)
grows-all [] s = grows-same s
grows-all (r ∷ rest) s = grows-then s (with_all_pending rest s) (with_pending r (with_all_pending rest s)) (grows-all rest s) (grows-left r (with_all_pending rest s))

pub fits-before : (s t : EmitterState) → Grows s t → FitsIndexWidths t → FitsIndexWidths s
fits-before s t g f = record { insns = omega (arith, g.insns, f.insns); loops = omega (arith, g.loops, f.loops) }

-- ---- Room for indices

pub room-of : (u d : Bool) (n : TreeNode) (s : EmitterState) → FitsIndexWidths (with_code u d n s) → HasIndexRoomForNode s n
room-of u d n s f = record { insns = omega (arith, f.insns, length-with_code u d n s); loops = omega (arith, f.loops) }

pub fits-of : (u d : Bool) (n : TreeNode) (s : EmitterState) → HasIndexRoomForNode s n → FitsIndexWidths (with_code u d n s)
fits-of u d n s r = record { insns = omega (arith, r.insns, length-with_code u d n s); loops = omega (arith, r.loops) }

-- ---- The loop over the pending parts

pub next-can : (rest left : List UnemittedCodePart) (r : UnemittedCodePart) (s end : EmitterState) → rest ≡ left ++ r ∷ [] → with_all_pending rest s ≡ end → FitsIndexWidths end
    → are_emittable (length s.insns) rest ≡ true → CanEmitPendingPart r s
next-can rest left r s end is code fits ready =
    let after = with_pending r s in
    let same : with_all_pending left after ≡ end = sym (all-last left r s) ∙ ap (λ x. with_all_pending x s) (sym is) ∙ code in
    let whole : FitsIndexWidths (with_all_pending left after) = rw same fits in
    let now : are_emittable (length s.insns) (left ++ r ∷ []) ≡ true = ap (are_emittable (length s.insns)) (sym is) ∙ ready in
    record {
      ready = (ready-both (length s.insns) left r now).1;
      room = fits-before after (with_all_pending left after) (grows-all left after) whole;
    }

pub next-code : (rest left more : List UnemittedCodePart) (r : UnemittedCodePart) (s t end : EmitterState) → rest ≡ left ++ r ∷ [] → with_all_pending rest s ≡ end
    → ExpandsPending (with_pending r) (pending_measure r) (record { state = s; rest = left }) (record { state = t; rest = more }) → with_all_pending more t ≡ end
next-code rest left more r s t end is code begun = begun.code ∙ sym (all-last left r s) ∙ ap (λ x. with_all_pending x s) (sym is) ∙ code

pub next-ready : (rest left more : List UnemittedCodePart) (r : UnemittedCodePart) (s t : EmitterState) → rest ≡ left ++ r ∷ [] → are_emittable (length s.insns) rest ≡ true
    → ExpandsPending (with_pending r) (pending_measure r) (record { state = s; rest = left }) (record { state = t; rest = more }) → are_emittable (length t.insns) more ≡ true
next-ready rest left more r s t is ready begun =
    begun.ready (ready-both (length s.insns) left r (ap (are_emittable (length s.insns)) (sym is) ∙ ready)).0

pub next-less : (rest left more : List UnemittedCodePart) (r : UnemittedCodePart) (s t : EmitterState) → rest ≡ left ++ r ∷ []
    → ExpandsPending (with_pending r) (pending_measure r) (record { state = s; rest = left }) (record { state = t; rest = more }) → total_measure more < total_measure rest
next-less rest left more r s t is begun = omega (arith, begun.less, ap total_measure is, load-last left r)

-- ---- Parts that were begun

pub begun-whole : (effect : EmitterState → EmitterState) (cost : ℕ) (rest : List UnemittedCodePart) (s t : EmitterState) → t ≡ effect s → Grows s t → 1 ≤ cost
    → ExpandsPending effect cost (record { state = s; rest = rest }) (record { state = t; rest = rest })
begun-whole effect cost rest s t is g some = record {
  code = ap (with_all_pending rest) is;
  ready = λ h. are_ready-more (length s.insns) (length t.insns) rest g.insns h;
  less = omega (arith, some);
}

pub begun-one : (effect : EmitterState → EmitterState) (cost : ℕ) (rest left : List UnemittedCodePart) (a : UnemittedCodePart) (s t : EmitterState) → left ≡ rest ++ a ∷ [] → with_pending a t ≡ effect s
    → Grows s t → is_emittable (length t.insns) a ≡ true → pending_measure a < cost
    → ExpandsPending effect cost (record { state = s; rest = rest }) (record { state = t; rest = left })
begun-one effect cost rest left a s t is put g ready less = record {
  code = ap (λ x. with_all_pending x t) is ∙ all-last rest a t ∙ ap (with_all_pending rest) put;
  ready = λ h.
      ap (are_emittable (length t.insns)) is
      ∙ ready-with (length t.insns) rest a (are_ready-more (length s.insns) (length t.insns) rest g.insns h) ready;
  less = omega (arith, less, ap total_measure is, load-last rest a);
}

pub begun-two : (effect : EmitterState → EmitterState) (cost : ℕ) (rest mid left : List UnemittedCodePart) (a b : UnemittedCodePart) (s t : EmitterState) → mid ≡ rest ++ a ∷ [] → left ≡ mid ++ b ∷ []
    → with_pending a (with_pending b t) ≡ effect s → Grows s t → is_emittable (length t.insns) a ≡ true → is_emittable (length t.insns) b ≡ true → pending_measure a + pending_measure b < cost
    → ExpandsPending effect cost (record { state = s; rest = rest }) (record { state = t; rest = left })
begun-two effect cost rest mid left a b s t first second put g ready_a ready_b less = record {
  code =
      ap (λ x. with_all_pending x t) second ∙ all-last mid b t ∙ ap (λ x. with_all_pending x (with_pending b t)) first
      ∙ all-last rest a (with_pending b t) ∙ ap (with_all_pending rest) put;
  ready = λ h.
      ap (are_emittable (length t.insns)) second
      ∙ ready-with (length t.insns) mid b
      (ap (are_emittable (length t.insns)) first ∙ ready-with (length t.insns) rest a (are_ready-more (length s.insns) (length t.insns) rest g.insns h) ready_a)
      ready_b;
  less = omega (arith, less, ap total_measure second, load-last mid b, ap total_measure first, load-last rest a);
}

pub begun-cheap : (effect : EmitterState → EmitterState) (low high : ℕ) (before after : EmitWork) → ExpandsPending effect low before after → low ≤ high → ExpandsPending effect high before after
begun-cheap effect low high before after b h = record { code = b.code; ready = b.ready; less = omega (arith, b.less, h) }

-- ---- The code of begun parts

pub put-alternatives : (u d : Bool) (a b : TreeNode) (branch : ℕ) (s t : EmitterState) → t ≡ with_insn_appended (Alt 0) s → branch ≡ length s.insns
    → with_alternatives_emitted u d branch b (with_code u d a t) ≡ with_code u d (alt a b) s
put-alternatives u d a b branch s t is place =
    let s2 = with_code u d a t in
    let s3 = with_insn_appended (Jump 0) s2 in
    let s4 = with_insn_at branch (Alt (length s3.insns)) s3 in
    let s5 = with_code u d b s4 in
    with_code-alt u d a b s t s2 s3 s4 s5 (with_insn_at (length s2.insns) (Jump (length s5.insns)) s5) (Alt 0) (Jump 0) is refl refl
    (ap (λ n. with_insn_at n (Alt (length s3.insns)) s3) place) refl refl

-- ---- The last steps of begun parts

pub grows-put : (x : Insn) (s t : EmitterState) → t ≡ with_insn_appended x s → Grows s t
grows-put x s t is = rw is (grows-insn x s)

pub place-put : (x : Insn) (place : ℕ) (s t : EmitterState) → t ≡ with_insn_appended x s → place ≡ length s.insns → nat_lt place (length t.insns) ≡ true
place-put x place s t is at = lt-ltb place (length t.insns) (omega (arith, at, ap (λ w. length w.insns) is, length-append s.insns (x ∷ [])))

pub put-lookaround : (u d : Bool) (l : Lookaround) (n : TreeNode) (head : ℕ) (x : Insn) (s t : EmitterState) → t ≡ with_insn_appended x s → head ≡ length s.insns
    → with_lookaround_end l head (with_code u l.backwards n t) ≡ with_code u d (lookaround l n) s
put-lookaround u d l n head x s t is at =
    let s2 = with_code u l.backwards n t in
    let s3 = with_insn_appended Goal s2 in
    with_code-lookaround u d l n s t s2 s3 (with_lookaround_end l head s2) x is refl refl
    (ap (λ place. with_insn_at place (lookaround_insn l (length s3.insns)) s3) at)

pub put-loop : (u d : Bool) (q : Quantifier) (g e : ℕ) (n : TreeNode) (f : LoopFields) (begin : ℕ) (x : Insn) (s s1 s2 t : EmitterState)
    → s1 ≡ with_insn_appended x s → s2 ≡ with_loop s1 → t ≡ with_insns_appended (group_reset_insns g e) s2 → begin ≡ length s.insns
    → f.loop_id ≡ s.loops → f.min_iters ≡ q.min → f.max_iters ≡ max_iterations q → f.greedy ≡ q.greedy
    → with_loop_end f begin (with_code u d n t) ≡ with_code u d (loop q g e n) s
put-loop u d q g e n f begin x s s1 s2 t e1 e2 e3 at id least most greedy =
    let s4 = with_code u d n t in
    let s5 = with_insn_appended (LoopAgain begin) s4 in
    let head = λ (exit : ℕ). EnterLoop (record { loop_id = f.loop_id; min_iters = f.min_iters; max_iters = f.max_iters; greedy = f.greedy; exit = exit }) in
    with_code-loop u d q g e n head s s1 s2 t s4 s5 (with_loop_end f begin s4) x
    (λ exit. loop-head f.loop_id s.loops f.min_iters q.min f.max_iters (max_iterations q) f.greedy q.greedy exit id least most greedy)
    e1 e2 e3 refl (ap (λ place. with_insn_appended (LoopAgain place) s4) at) (ap (λ place. with_insn_at place (head (length s5.insns)) s5) at)
  where
    loop-head : (i j a b m o : ℕ) (v w : Bool) (exit : ℕ) → i ≡ j → a ≡ b → m ≡ o → v ≡ w
        → EnterLoop (record { loop_id = i; min_iters = a; max_iters = m; greedy = v; exit = exit }) ≡ EnterLoop (record { loop_id = j; min_iters = b; max_iters = o; greedy = w; exit = exit })
    loop-head i j a b m o v w exit p1 p2 p3 p4 = rw (p1, p2, p3, p4) refl

pub grows-loop : (g e : ℕ) (x : Insn) (s s1 s2 t : EmitterState) → s1 ≡ with_insn_appended x s → s2 ≡ with_loop s1 → t ≡ with_insns_appended (group_reset_insns g e) s2 → Grows s t
grows-loop g e x s s1 s2 t e1 e2 e3 = record {
  insns = omega (arith, ap (λ w. length w.insns) e1, length-append s.insns (x ∷ []), ap (λ w. length w.insns) e2, ap (λ w. length w.insns) e3, length-append s2.insns (group_reset_insns g e));
  loops = omega (arith, ap (λ w. w.loops) e1, ap (λ w. w.loops) e2, ap (λ w. w.loops) e3);
}

pub place-loop : (g e : ℕ) (x : Insn) (begin : ℕ) (s s1 s2 t : EmitterState) → s1 ≡ with_insn_appended x s → s2 ≡ with_loop s1 → t ≡ with_insns_appended (group_reset_insns g e) s2 → begin ≡ length s.insns
    → nat_lt begin (length t.insns) ≡ true
place-loop g e x begin s s1 s2 t e1 e2 e3 at =
    lt-ltb begin (length t.insns)
    (omega (arith, at, ap (λ w. length w.insns) e1, length-append s.insns (x ∷ []), ap (λ w. length w.insns) e2, ap (λ w. length w.insns) e3, length-append s2.insns (group_reset_insns g e)))

pub arm-ended : (branch second : ℕ) (s s1 t : EmitterState) → s1 ≡ with_insn_appended (Jump 0) s → second ≡ length s1.insns → t ≡ with_insn_at branch (Alt second) s1 → t ≡ with_arm_end branch s
arm-ended branch second s s1 t e1 e2 e3 =
    e3 ∙ ap (λ n. with_insn_at branch (Alt n) s1) e2 ∙ ap (λ w. with_insn_at branch (Alt (length w.insns)) w) e1

pub put-others : (u d : Bool) (branch jump : ℕ) (n : TreeNode) (s t : EmitterState) → t ≡ with_arm_end branch s → jump ≡ length s.insns
    → with_jump jump (with_code u d n t) ≡ with_alternatives_emitted u d branch n s
put-others u d branch jump n s t is at = rw (is, at) refl

pub grows-arm : (branch : ℕ) (s t : EmitterState) → t ≡ with_arm_end branch s → Grows s t
grows-arm branch s t is = rw is (grows-written branch (Jump 0) (Alt (length (with_insn_appended (Jump 0) s).insns)) s)

pub place-arm : (branch jump : ℕ) (s t : EmitterState) → t ≡ with_arm_end branch s → jump ≡ length s.insns → nat_lt jump (length t.insns) ≡ true
place-arm branch jump s t is at =
    let s1 = with_insn_appended (Jump 0) s in
    lt-ltb jump (length t.insns)
    (omega (arith, at, ap (λ w. length w.insns) is, length-set s1.insns branch (Alt (length s1.insns)), length-append s.insns (Jump 0 ∷ [])))

-- ---- Node lists

pub row-ended : (u d narrow : Bool) (nodes : List ir.Node) (s : EmitterState) → length nodes ≡ 0 → s ≡ with_code u d (node_with_char_loops_if_enabled narrow (spec_cat_of_children nodes)) s
unfolding node_with_char_loops_if_enabled
row-ended u d narrow [] s h = sym (with_code-end_of_cat u d s)
row-ended u d narrow (n ∷ nodes) s h = absurd (omega (arith, h))

pub put-row : (u d narrow : Bool) (first : ir.Node) (others nodes : List ir.Node) (s : EmitterState) → nodes ≡ first ∷ others
    → with_code u d (node_with_char_loops_if_enabled narrow (spec_cat_of_children others)) (with_code u d (node_with_char_loops_if_enabled narrow (spec_node_of first)) s) ≡ with_code u d (node_with_char_loops_if_enabled narrow (spec_cat_of_children nodes)) s
unfolding node_with_char_loops_if_enabled
put-row u d narrow first others nodes s is =
    sym (with_code-cat u d (node_with_char_loops_if_enabled narrow (spec_node_of first)) (node_with_char_loops_if_enabled narrow (spec_cat_of_children others)) s) ∙ ap (λ x. with_code u d (node_with_char_loops_if_enabled narrow (spec_cat_of_children x)) s) (sym is)

pub row-less : (narrow : Bool) (first : ir.Node) (others nodes : List ir.Node) → nodes ≡ first ∷ others
    → (5 * inner_node_count (node_with_char_loops_if_enabled narrow (spec_cat_of_children others)) + 1) + node_measure (node_with_char_loops_if_enabled narrow (spec_node_of first)) < 5 * inner_node_count (node_with_char_loops_if_enabled narrow (spec_cat_of_children nodes)) + 1
unfolding node_with_char_loops_if_enabled inner_node_count
row-less narrow first others nodes is =
    let same : inner_node_count (node_with_char_loops_if_enabled narrow (spec_cat_of_children nodes)) ≡ inner_node_count (node_with_char_loops_if_enabled narrow (spec_node_of first)) + inner_node_count (node_with_char_loops_if_enabled narrow (spec_cat_of_children others)) + 1 = ap (λ x. inner_node_count (node_with_char_loops_if_enabled narrow (spec_cat_of_children x))) is in
    omega (arith, same)

pub row-sets : (first : ir.Node) (others nodes : List ir.Node) → nodes ≡ first ∷ others → every_node_passes set_sizes_and_characters_fit_instructions (spec_cat_of_children nodes) ≡ true
    → (every_node_passes set_sizes_and_characters_fit_instructions (spec_node_of first) ≡ true) × (every_node_passes set_sizes_and_characters_fit_instructions (spec_cat_of_children others) ≡ true)
row-sets first others nodes is sets =
    let both : (every_node_passes set_sizes_and_characters_fit_instructions (spec_node_of first) && every_node_passes set_sizes_and_characters_fit_instructions (spec_cat_of_children others)) ≡ true = ap (λ x. every_node_passes set_sizes_and_characters_fit_instructions (spec_cat_of_children x)) (sym is) ∙ sets in
    (and-left _ _ both, and-right _ _ both)

-- ---- A leaf at the beginning of a node list

pub row-room-first : (narrow : Bool) (first : ir.Node) (others nodes : List ir.Node) (s : EmitterState) → nodes ≡ first ∷ others → is_leaf (spec_node_of first) ≡ true
    → HasIndexRoomForNode s (node_with_char_loops_if_enabled narrow (spec_cat_of_children nodes)) → HasIndexRoomForNode s (spec_node_of first)
unfolding node_with_char_loops_if_enabled
row-room-first narrow first others nodes s is leaf room =
    rw (shaped-leaf narrow (spec_node_of first) leaf) at (room-first s (node_with_char_loops_if_enabled narrow (spec_node_of first)) (node_with_char_loops_if_enabled narrow (spec_cat_of_children others)) (rw is at room))

pub row-room-rest : (u d narrow : Bool) (first : ir.Node) (others nodes : List ir.Node) (s t : EmitterState) → nodes ≡ first ∷ others → is_leaf (spec_node_of first) ≡ true
    → HasIndexRoomForNode s (node_with_char_loops_if_enabled narrow (spec_cat_of_children nodes)) → t ≡ with_code u d (spec_node_of first) s → HasIndexRoomForNode t (node_with_char_loops_if_enabled narrow (spec_cat_of_children others))
unfolding node_with_char_loops_if_enabled
row-room-rest u d narrow first others nodes s t is leaf room e =
    room-rest u d s t (node_with_char_loops_if_enabled narrow (spec_node_of first)) (node_with_char_loops_if_enabled narrow (spec_cat_of_children others)) (rw is at room)
    (e ∙ ap (λ n. with_code u d n s) (sym (shaped-leaf narrow (spec_node_of first) leaf)))

pub row-code : (u d narrow : Bool) (first : ir.Node) (others nodes : List ir.Node) (s t end : EmitterState) → nodes ≡ first ∷ others → is_leaf (spec_node_of first) ≡ true
    → t ≡ with_code u d (spec_node_of first) s → with_code u d (node_with_char_loops_if_enabled narrow (spec_cat_of_children nodes)) s ≡ end → with_code u d (node_with_char_loops_if_enabled narrow (spec_cat_of_children others)) t ≡ end
row-code u d narrow first others nodes s t end is leaf e code =
    ap (with_code u d (node_with_char_loops_if_enabled narrow (spec_cat_of_children others))) (e ∙ ap (λ n. with_code u d n s) (sym (shaped-leaf narrow (spec_node_of first) leaf)))
    ∙ put-row u d narrow first others nodes s is ∙ code

pub row-light : (narrow : Bool) (first : ir.Node) (others nodes : List ir.Node) (most : ℕ) → nodes ≡ first ∷ others
    → inner_node_count (node_with_char_loops_if_enabled narrow (spec_cat_of_children nodes)) ≤ most → inner_node_count (node_with_char_loops_if_enabled narrow (spec_cat_of_children others)) ≤ most
unfolding node_with_char_loops_if_enabled inner_node_count
row-light narrow first others nodes most is light =
    let same : inner_node_count (node_with_char_loops_if_enabled narrow (spec_cat_of_children nodes)) ≡ inner_node_count (node_with_char_loops_if_enabled narrow (spec_node_of first)) + inner_node_count (node_with_char_loops_if_enabled narrow (spec_cat_of_children others)) + 1 = ap (λ x. inner_node_count (node_with_char_loops_if_enabled narrow (spec_cat_of_children x))) is in
    omega (arith, same, light)

-- ---- Parts that are emitted at once

pub put-whole : (r : UnemittedCodePart) (rest : List UnemittedCodePart) (s t : EmitterState) → t ≡ with_pending r s → 1 ≤ pending_measure r
    → ExpandsPending (with_pending r) (pending_measure r) (record { state = s; rest = rest }) (record { state = t; rest = rest })
put-whole r rest s t is some = begun-whole (with_pending r) (pending_measure r) rest s t is (rw is (grows-left r s)) some

pub jump-room : (place : ℕ) (s : EmitterState) → FitsIndexWidths (with_jump place s) → length s.insns < 2 ^ 32
jump-room place s f = omega (arith, f.insns, length-set s.insns place (Jump (length s.insns)))

pub end-room : (place : ℕ) (x y : Insn) (s : EmitterState) → FitsIndexWidths (with_insn_at place y (with_insn_appended x s)) → length s.insns + 1 < 2 ^ 32
end-room place x y s f = omega (arith, f.insns, length-set (with_insn_appended x s).insns place y, length-append s.insns (x ∷ []))
