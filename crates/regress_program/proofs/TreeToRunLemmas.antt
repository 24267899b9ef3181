-- The tree to run has the flags, groups and names of the given tree and is well formed.
use Rattle.std.proofs.Common.{◌≡◌, ◌≤◌, ◌<◌, ◌^◌, ◌∙◌, Bool, true, false, List, refl, sym, ap, subst, arith, IsTrue, length, le_refl}
use Rattle.std.proofs.lemmas.List.{length-map}
use Rattle.std.specs.Prelude.{if◌then◌else◌}
use Rattle.regex_meaning.specs.Tree.{Node, Tree, group_ids}
use Rattle.regex_meaning.specs.CompilationRelation.{Insn, tree_contains_byte_nodes}
use Rattle.regex_meaning.specs.MatchGroupsByNumberAndName.{group_names_by_id}
use Rattle.regex_meaning.specs.WellFormedTrees.{is_well_formed}
use Rattle.regex_pattern_front.specs.OptimizedTrees.{optimized}
use Rattle.regex_pattern_front.proofs.OptimizedTreesLemmas.{well_formed-optimized, group_ids-optimized, names_by_id-optimized, reads_bytes-optimized}
use Rattle.regress_program.specs.CompilationOfTreesAsFunction.{compiled, brackets_of, node_insn_count}
use Rattle.regress_program.specs.EmitterStateAndAppendedCode.{tree_with_char_loops}
use Rattle.regress_program.specs.InsnsAsSpec.{insn_as_spec_insn}
use Rattle.regress_program.specs.ProgramFieldsMatchTree.{IsCodeOfTree}
use Rattle.regress_program.specs.declared.insn.emitted_code.EmittedCode.{EmittedCode}
use Rattle.regress_program.proofs.CompiledTreeLemmas.{compiled-length}
use Rattle.regress_program.specs.OptimizedTreeUnlessNoOpt.{optimized_tree_unless_no_opt, planned_tree}
use Rattle.regress_program.proofs.CharLoopNodeLemmas.{brackets-optimized, shaped-narrow, size-shaped}

-- The planned tree has what optimizing leaves unchanged.
pub planned-same : {A : Type 0} (f : Node → A) (wide : Bool) (t : Tree) → f (optimized t.root) ≡ f t.root → f (planned_tree wide t).root ≡ f t.root
planned-same f false t same = refl
planned-same f true t same = go t.flags.no_opt
  where
    go : (b : Bool) → f (if b then t.root else optimized t.root) ≡ f t.root
    go true = refl
    go false = same

pub flags-planned : (wide : Bool) (t : Tree) → (planned_tree wide t).flags ≡ t.flags
flags-planned false t = refl
flags-planned true t = refl

pub well_formed-planned : (wide : Bool) (t : Tree) → IsTrue (is_well_formed t.root) → IsTrue (is_well_formed (planned_tree wide t).root)
well_formed-planned false t h = h
well_formed-planned true t h = go t.flags.no_opt
  where
    go : (b : Bool) → IsTrue (is_well_formed (if b then t.root else optimized t.root))
    go true = h
    go false = well_formed-optimized t.root h

pub reads_bytes-planned : (wide : Bool) (t : Tree) → tree_contains_byte_nodes (planned_tree wide t).root ≡ tree_contains_byte_nodes t.root
reads_bytes-planned wide t = planned-same tree_contains_byte_nodes wide t (reads_bytes-optimized t.root)

pub groups-planned : (wide : Bool) (t : Tree) → (compiled (planned_tree wide t)).groups ≡ (compiled t).groups
unfolding compiled
groups-planned wide t = planned-same (λ n. length (group_ids n)) wide t (ap length (group_ids-optimized t.root))

pub brackets-planned : (wide : Bool) (t : Tree) → (compiled (planned_tree wide t)).brackets ≡ (compiled t).brackets
unfolding compiled
brackets-planned wide t = planned-same brackets_of wide t (brackets-optimized t.root)

-- If the flags turn optimizing off, the tree to run is the given tree.
pub tree_to_compile-plain : (t : Tree) → t.flags.no_opt ≡ true → optimized_tree_unless_no_opt t ≡ t
tree_to_compile-plain t h = rw h refl

-- If the flags leave optimizing on, the tree to run has the optimized root.
pub tree_to_compile-optimized : (t : Tree) → t.flags.no_opt ≡ false → (optimized_tree_unless_no_opt t).root ≡ optimized t.root
tree_to_compile-optimized t h = rw h refl

pub tree_to_compile-same : (t : Tree) → optimized t.root ≡ t.root → optimized_tree_unless_no_opt t ≡ t
tree_to_compile-same t same = go t.flags.no_opt
  where
    go : (b : Bool) → (record { root = if b then t.root else optimized t.root; flags = t.flags }) ≡ t
    go true = refl
    go false = ap (λ (n : Node). record { root = n; flags = t.flags }) same

-- If the flags leave optimizing on, the tree with char loops is the tree to run.
pub tree_to_compile-shaped : (t : Tree) → t.flags.no_opt ≡ false → tree_with_char_loops true t ≡ optimized_tree_unless_no_opt t
tree_to_compile-shaped t h = ap (λ (n : Node). record { root = n; flags = t.flags }) (shaped-narrow t.root ∙ sym (tree_to_compile-optimized t h))

pub size-tree_to_compile : (t : Tree) → node_insn_count (optimized_tree_unless_no_opt t).root ≤ node_insn_count t.root
size-tree_to_compile t = go t.flags.no_opt
  where
    go : (b : Bool) → node_insn_count (if b then t.root else optimized t.root) ≤ node_insn_count t.root
    go true = le_refl _
    go false = subst (λ n. node_insn_count n ≤ node_insn_count t.root) (shaped-narrow t.root) (size-shaped true t.root)

pub names-planned : (wide : Bool) (t : Tree) → (compiled (planned_tree wide t)).group_names ≡ (compiled t).group_names
unfolding compiled
names-planned wide t = planned-same group_names_by_id wide t (names_by_id-optimized t.root)

-- The program of the tree to run has the groups of the program of the given tree.
pub run-groups : (t u : Tree) → u ≡ optimized_tree_unless_no_opt t → (compiled t).groups ≡ (compiled u).groups
run-groups t u is = sym (ap (λ x. (compiled x).groups) is ∙ groups-planned true t)

pub run-names : (t u : Tree) → u ≡ optimized_tree_unless_no_opt t → (compiled t).group_names ≡ (compiled u).group_names
run-names t u is = sym (ap (λ x. (compiled x).group_names) is ∙ names-planned true t)

pub run-flags : (t u : Tree) → u ≡ optimized_tree_unless_no_opt t → (compiled t).flags ≡ (compiled u).flags
unfolding compiled
run-flags t u is = sym (ap (λ (x : Tree). x.flags) is)

pub run-well_formed : (t u : Tree) → u ≡ optimized_tree_unless_no_opt t → IsTrue (is_well_formed t.root) → IsTrue (is_well_formed u.root)
run-well_formed t u is h = subst (λ (x : Tree). IsTrue (is_well_formed x.root)) (sym is) (well_formed-planned true t h)

-- If the tree needs fewer than 2^32 instructions, the code of the tree to run does, too.
pub run-fits : (t : Tree) (code : EmittedCode) → IsCodeOfTree (optimized_tree_unless_no_opt t) code → node_insn_count t.root < 2 ^ 32 → length code.insns.items < 2 ^ 32
run-fits t code is fits =
    omega (arith, fits, size-tree_to_compile t, ap (λ (l : List Insn). length l) is.insns, length-map code.insns.items insn_as_spec_insn, compiled-length (optimized_tree_unless_no_opt t))
