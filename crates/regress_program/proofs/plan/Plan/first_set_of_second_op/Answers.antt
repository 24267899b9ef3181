use Rattle.std.proofs.Common.{◌≡◌, Some, slice_get, refl, sym, ◌∙◌, arith}
use Rattle.std.proofs.lemmas.Option.{slice_get_read}
use Rattle.regress_program.specs.ClosedFirstSets.{op_first_set_table_or_all}
use Rattle.regress_program.proofs.plan.Plan.first_set_of_second_op.Goals as goal

pub returns-then-reads_character : goal.returns-then-reads_character
returns-then-reads_character c =
    let op = c.index.result.now in
    let there : slice_get c.args.self.now.ops.items 1 ≡ Some op =
    slice_get_read c.args.self.now.ops.items _ 1 op refl (omega (arith, c.if-len-gt1.true, c.len.ensures)) c.index.ensures in
    (op_first_set_table_or_all c.with_no_sets-sets.result, op, there, sym c.reads_character.ensures ∙ c.if-reads_character.true, c.first_set_from_successors.ensures op there)
