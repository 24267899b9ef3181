use Rattle.std.proofs.Common.{ap, sym, ◌∙◌}
use Rattle.regress_program.specs.TableKeysOfUnits.{is_16_bit_encoding}
use Rattle.regress_search.proofs.RepeatedChars.{repeated-vain}
use Rattle.regress_search.proofs.leading_char_loop.skip_to_repeated_unit.Goals as goal

pub returns-clause-no_match : goal.returns-clause-no_match
returns-clause-no_match g c =
    let w = g.W.SearchContext.searching c.args.context.now in
    repeated-vain w (g.met.W.SearchContext.has_units c.args.context.now) c.in-Some-class_by_number.ensures.plan_fits c.requires.executable
    c.in-Some.number c.in-Some.ensures c.in-Some-class_by_number.class.now (sym c.in-Some-class_by_number.ensures.class) c.if-not-class.false (λ wide. c.may_have_trail_surrogates.ensures c.if-may_have_trail_surrogates.false (sym (ap is_16_bit_encoding (g.met.W.SearchContext.encoding c.args.context.now)) ∙ wide))
    c.args.from c.next_repeated_unit.result c.next_repeated_unit.ensures.alone
