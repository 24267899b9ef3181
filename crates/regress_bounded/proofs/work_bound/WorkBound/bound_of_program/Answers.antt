use Rattle.std.proofs.Common.{◌≡◌, ◌≤◌, ◌^◌, ◌+◌, ◌-◌, ◌*◌, ◌/◌, ap, false, min, sum_by, sym, subst, refl, ◌∙◌}
use Rattle.std.specs.Prelude.{IfSome, IsSome}
use Rattle.regex_meaning.specs.CompilationRelation.{Program}
use Rattle.regex_pattern_front.specs.AstToSpecTree.{tree_of}
use Rattle.regress_program.specs.CompilationOfTreesAsFunction.{compiled}
use Rattle.regress_memo.specs.WorkBound.{IsWorkBounded, work_per_position}
use Rattle.regress_memo.specs.Successors.{DeclaredInsnsEqualProgramInsns}
use Rattle.regress_memo.specs.CheckedAnalysis.{IsAnalysisOf}
use Rattle.regress_bounded.specs.WorkBoundForAllMatches.{AnalysisBoundsProgram, first_stage_work_per_position, most_memo_codes_per_insn, program_size, work_size_of_insn, work_per_unit}
use Rattle.regress_bounded.proofs.UnboundednessLemmas.{memory-refused, plain-by, tree-has, tree-is-complex}
use Rattle.regress_bounded.proofs.ProgramSizeLemmas.{few-by}
use Rattle.regress_bounded.proofs.work_bound.WorkBound.bound_of_program.Goals as goal

pub returns-clause-bound : goal.returns-clause-bound
returns-clause-bound c =
    let program = compiled (tree_of c.args.program.now) in
    let insns = c.insns-insns.result.now in
    let t = c.in-Some.memo_analysis in
    let has : DeclaredInsnsEqualProgramInsns program insns = sym c.insns-insns.ensures.code in
    let of : IsAnalysisOf program t =
    subst (λ o. IfSome o (λ memo_analysis. (program : Program) → DeclaredInsnsEqualProgramInsns program insns → IsAnalysisOf program memo_analysis)) c.in-Some.is c.in_ok-memo_analysis.ensures.of program has in
    let bounded : IsWorkBounded t program = c.work_per_position.ensures.bounded (subst IsSome (sym c.in-Some-work_per_position.is) refl) program has in
    let work : c.in-Some-work_per_position.work ≡ work_per_position t = subst (λ o. IfSome o (λ work. work ≡ work_per_position t)) c.in-Some-work_per_position.is c.work_per_position.ensures.work in
    let all : c.in-Some-work_per_position_of_stages.per_unit ≡ first_stage_work_per_position + (1 + (c.in-Some-work_per_position.work + c.in-Some-work_per_position.work / 3)) =
    subst (λ o. IfSome o (λ all. all ≡ first_stage_work_per_position + (1 + (c.in-Some-work_per_position.work + c.in-Some-work_per_position.work / 3)))) c.in-Some-work_per_position_of_stages.is c.work_per_position_of_stages.ensures in
    let per_unit = c.in-Some-work_per_position_of_stages.per_unit in
    let large : c.program_size.result ≡ min (program_size program) (2 ^ 64 - 1) = c.program_size.ensures ∙ ap (λ xs. min (sum_by work_size_of_insn xs) (2 ^ 64 - 1)) c.insns-insns.ensures.code in
    let few = few-by per_unit (program_size program) c.program_size.result c.most_memo_codes_per_insn.result large (sym c.is_bound_small_enough.ensures ∙ c.if-not-is_bound_small_enough.false) in
    ∣ record {
      has = subst (AnalysisBoundsProgram program) (sym c.in_ok-memo_analysis-2.ensures.ok) (record { memo_analysis = of; bounded = bounded });
      per_unit = all ∙ ap (λ w. first_stage_work_per_position + (1 + (w + w / 3))) work ∙ ap work_per_unit (sym c.in_ok-memo_analysis-2.ensures.ok);
      few = subst (λ n. per_unit ≤ 64 * (program_size program * n)) (c.most_memo_codes_per_insn.ensures ∙ ap most_memo_codes_per_insn (sym c.in_ok-memo_analysis-2.ensures.ok)) few;
    } ∣₁

pub returns-then-has_backreference-clause-refused : goal.returns-then-has_backreference-clause-refused
returns-then-has_backreference-clause-refused c =
    tree-has false c.insns-insns.result.now (tree_of c.args.program.now) _ c.insns-insns.ensures.code c.has_backreference.ensures ∙ c.if-has_backreference.true

pub returns-then-has_complex_lookaround-clause-refused : goal.returns-then-has_complex_lookaround-clause-refused
returns-then-has_complex_lookaround-clause-refused c = record {
  no_backreference = tree-has false c.insns-insns.result.now (tree_of c.args.program.now) _ c.insns-insns.ensures.code c.has_backreference.ensures ∙ c.if-has_backreference.false;
  complex_lookaround = tree-is-complex c.insns-insns.result.now (tree_of c.args.program.now) _ c.insns-insns.ensures.code c.has_complex_lookaround.ensures ∙ c.if-has_complex_lookaround.true;
}

pub returns-in_err-memo_analysis-clause-refused : goal.returns-in_err-memo_analysis-clause-refused
returns-in_err-memo_analysis-clause-refused c =
    memory-refused (tree_of c.args.program.now) c.from_residual.result c.from_residual.ensures.1
    (plain-by c.insns-insns.result.now (tree_of c.args.program.now) _ _ c.insns-insns.ensures.code c.has_backreference.ensures c.if-has_backreference.false
    c.has_complex_lookaround.ensures c.if-has_complex_lookaround.false)

pub returns-in_err-memo_analysis-2-clause-refused : goal.returns-in_err-memo_analysis-2-clause-refused
returns-in_err-memo_analysis-2-clause-refused c =
    memory-refused (tree_of c.args.program.now) c.from_residual-in_err-memo_analysis-2.result c.from_residual-in_err-memo_analysis-2.ensures.1
    (plain-by c.insns-insns.result.now (tree_of c.args.program.now) _ _ c.insns-insns.ensures.code c.has_backreference.ensures c.if-has_backreference.false
    c.has_complex_lookaround.ensures c.if-has_complex_lookaround.false)

pub returns-then-counts_may_cause_no_bound-clause-refused : goal.returns-then-counts_may_cause_no_bound-clause-refused
returns-then-counts_may_cause_no_bound-clause-refused c =
    plain-by c.insns-insns.result.now (tree_of c.args.program.now) _ _ c.insns-insns.ensures.code c.has_backreference.ensures c.if-has_backreference.false
    c.has_complex_lookaround.ensures c.if-has_complex_lookaround.false

pub returns-in_default-clause-refused : goal.returns-in_default-clause-refused
returns-in_default-clause-refused c =
    plain-by c.insns-insns.result.now (tree_of c.args.program.now) _ _ c.insns-insns.ensures.code c.has_backreference.ensures c.if-has_backreference.false
    c.has_complex_lookaround.ensures c.if-has_complex_lookaround.false

pub returns-in_default-work_per_position-clause-refused : goal.returns-in_default-work_per_position-clause-refused
returns-in_default-work_per_position-clause-refused c =
    plain-by c.insns-insns.result.now (tree_of c.args.program.now) _ _ c.insns-insns.ensures.code c.has_backreference.ensures c.if-has_backreference.false
    c.has_complex_lookaround.ensures c.if-has_complex_lookaround.false

pub returns-in_default-work_per_position_of_stages-clause-refused : goal.returns-in_default-work_per_position_of_stages-clause-refused
returns-in_default-work_per_position_of_stages-clause-refused c =
    plain-by c.insns-insns.result.now (tree_of c.args.program.now) _ _ c.insns-insns.ensures.code c.has_backreference.ensures c.if-has_backreference.false
    c.has_complex_lookaround.ensures c.if-has_complex_lookaround.false

pub returns-then-not-is_bound_small_enough-clause-refused : goal.returns-then-not-is_bound_small_enough-clause-refused
returns-then-not-is_bound_small_enough-clause-refused c =
    plain-by c.insns-insns.result.now (tree_of c.args.program.now) _ _ c.insns-insns.ensures.code c.has_backreference.ensures c.if-has_backreference.false
    c.has_complex_lookaround.ensures c.if-has_complex_lookaround.false

pub returns-clause-plain : goal.returns-clause-plain
returns-clause-plain c =
    plain-by c.insns-insns.result.now (tree_of c.args.program.now) _ _ c.insns-insns.ensures.code c.has_backreference.ensures c.if-has_backreference.false
    c.has_complex_lookaround.ensures c.if-has_complex_lookaround.false
