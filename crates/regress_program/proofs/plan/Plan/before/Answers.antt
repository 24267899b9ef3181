use Rattle.std.proofs.Common.{Some, List, true, sym, ap, ◌∙◌}
use Rattle.std.specs.Prelude.{◌≡◌, slice_get}
use Rattle.std.proofs.lemmas.Option.{slice_get-get_or}
use Rattle.regex_meaning.specs.CompilationRelation.{Program}
use Rattle.regress_program.specs.declared.lookbehind_filter.PrecedingCharFilter.{PrecedingCharFilter}
use Rattle.regress_program.specs.declared.ops.Op.{Op}
use Rattle.regress_program.specs.declared.ops.Op.TheVariants.{LineStart}
use Rattle.regress_program.specs.LookbehindFilter.{IsLookbehindFilter}
use Rattle.regress_program.specs.PrecedingCharFilterFromOps.{FilterIncludesAllKeysOfSet}
use Rattle.regress_program.specs.TableKeysOfUnits.{is_16_bit_width}
use Rattle.regress_program.specs.RequiredPrefixAnalysis.{AreOpsOfProgram}
use Rattle.regress_program.proofs.LookbehindFilterLemmas.{all-some, line-of-op}
use Rattle.regress_program.proofs.plan.Plan.before.Goals as goal

pub returns-in-Some-LineStart : goal.returns-in-Some-LineStart
returns-in-Some-LineStart c =
    let wide = is_16_bit_width c.args.units in
    let plan = c.args.self.now in
    let multiline = c.in-Some-LineStart.multiline in
    let there : slice_get plan.ops.items 0 ≡ Some (LineStart multiline) =
    ap (λ (l : List Op). slice_get l 0) (sym c.deref.ensures.value)
    ∙ slice_get-get_or c.deref.result.now 0 c.in-Some-LineStart.field-0.now c.in-Some-LineStart.ensures.lookup.3.0
    ∙ ap Some (sym c.in-Some-LineStart.ensures.lookup.1 ∙ c.in-Some-LineStart.field-0-is) in
    let Q : PrecedingCharFilter → Type 0 = λ before. (program : Program) → AreOpsOfProgram wide program plan → IsLookbehindFilter wide program before in
    all-some c.of.result (FilterIncludesAllKeysOfSet wide c.line_end_first_set.result true) Q
    (λ before has program ops. line-of-op wide plan c.line_end_first_set.result before program ops multiline there c.if-multiline.true c.line_end_first_set.ensures has)
    c.of.ensures
