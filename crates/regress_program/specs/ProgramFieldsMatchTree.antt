-- What the fields of compiled programs contain.
use Rattle.std.specs.Prelude.{◌≡◌, map, Bool, true, false, IsTrue}
use Rattle.std.specs.Arc.{arc_value}
use Rattle.regex_meaning.specs.Tree.{Tree}
use Rattle.regex_meaning.specs.WellFormedTrees.{is_well_formed}
use Rattle.regex_pattern_front.specs.AstToSpecTree.{tree_of, spec_flags_of, class_as_spec}
use Rattle.regex_meaning.specs.CompilationRelation.{Program, tree_contains_byte_nodes}
use Rattle.regex_pattern_front.specs.declared.ir.Regex.{Regex}
use Rattle.regress_program.specs.declared.plan.Plan.{Plan}
use Rattle.regress_program.specs.Plans.{IsPlanOf}
use Rattle.regress_program.specs.InsnsAsSpec.{insn_as_spec_insn}
use Rattle.regress_program.specs.declared.insn.start_predicate_type.StartPredicate.{StartPredicate}
use Rattle.regress_program.specs.StartPredicates.{IsStartPredicateOfTree, is_anchored_tree}
use Rattle.regress_program.specs.CompilationOfTreesAsFunction.{compiled}
use Rattle.regress_program.specs.OptimizedTreeUnlessNoOpt.{planned_tree, optimized_tree_unless_no_opt}
use Rattle.regress_program.specs.declared.insn.emitted_code.EmittedCode.{EmittedCode}
use Rattle.regress_program.specs.declared.insn.plan_for_16_bit_units.PlanAndCodeFor16BitUnits.{PlanAndCodeFor16BitUnits}
use Rattle.regress_program.specs.declared.insn.common_program_part.Program.TheInside.{Inside}

-- The emitted code is that of the tree.
pub record IsCodeOfTree (tree : Tree) (code : EmittedCode) : Type 0 where
  pub insns : map insn_as_spec_insn code.insns.items ≡ (compiled tree).insns
  pub brackets : map class_as_spec code.brackets.items ≡ (compiled tree).brackets
  pub loops : code.loops ≡ (compiled tree).loops

-- The fields are those of the program of the tree, and the tree is well formed.
pub record IsCompiledProgram (p : Inside) : Type 0 where
  pub code : IsCodeOfTree (tree_of p.tree.value) (arc_value p.code)
  pub groups : p.groups ≡ (compiled (tree_of p.tree.value)).groups
  pub flags : spec_flags_of p.flags ≡ (compiled (tree_of p.tree.value)).flags
  pub group_names : p.group_names ≡ (compiled (tree_of p.tree.value)).group_names
  pub well_formed : IsTrue (is_well_formed (tree_of p.tree.value).root)

-- The plan is right for the program of the tree itself (bytes), or for the program of the tree to
-- run (16-bit code units).
abbrev pub IsPlanForUnitWidth : (wide : Bool) → Regex → Plan → Type 0
IsPlanForUnitWidth wide re plan = IsPlanOf wide (compiled (planned_tree wide (tree_of re))) plan

-- The second plan is right for each program for which the first one is.
abbrev pub IsPlanOfSamePrograms : Plan → Plan → Type 0
IsPlanOfSamePrograms plan other = (wide : Bool) (program : Program) → IsPlanOf wide program plan
    → IsPlanOf wide program other

-- What a program for bytes contains in addition.
pub record IsByteProgram (re : Regex) (start : StartPredicate) (plan : Plan) : Type 0 where
  pub starts : IsStartPredicateOfTree start re
  pub planned : IsPlanForUnitWidth false re plan

-- The plan and the code are those of the tree to run for 16-bit code units.
pub record Is16BitPlanAndCodeOf (re : Regex) (run : PlanAndCodeFor16BitUnits) : Type 0 where
  pub planned : IsPlanForUnitWidth true re run.plan.value
  pub code : IsCodeOfTree (optimized_tree_unless_no_opt (tree_of re)) (arc_value run.code)

-- What a program for 16-bit code units contains in addition.
pub record IsUnitProgram (re : Regex) (anchored : Bool) (run : PlanAndCodeFor16BitUnits) : Type 0 where
  pub anchors : anchored ≡ is_anchored_tree (tree_of re)
  pub no_bytes : tree_contains_byte_nodes (tree_of re).root ≡ false
  pub runs : Is16BitPlanAndCodeOf re run
