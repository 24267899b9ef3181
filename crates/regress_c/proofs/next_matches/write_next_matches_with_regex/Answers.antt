use Rattle.std.proofs.Common.{refl, sym, ap, ◌∙◌}
use Rattle.regress_c.specs.declared.next_matches.CallOutcome.{CallOutcome}
use Rattle.regress_c.proofs.NextCallLemmas.{is-filled, is-refused, not-open, too-short}
use Rattle.regress_c.proofs.next_matches.write_next_matches_with_regex.Goals as goal

pub returns-in_default : goal.returns-in_default
returns-in_default c =
    not-open c.args.re.now c.args.search.now c.args.steps c.args.spans.now c.refused.result.left c.refused.result.reply
    (sym c.encoding.ensures ∙ c.in_default.is) (ap (λ (w : CallOutcome). w.reply) c.refused.ensures) (ap (λ (w : CallOutcome). w.left) c.refused.ensures)

pub returns-then-spans-ranges : goal.returns-then-spans-ranges
returns-then-spans-ranges c =
    too-short c.args.re.now c.args.search.now c.args.steps c.args.spans.now c.in-Some.encoding (sym c.encoding.ensures ∙ c.in-Some.is)
    c.number_of_ranges-ranges.result _ c.number_of_ranges-ranges.ensures c.if-spans-ranges.true (λ i. record { code = c.code-code.ensures i; count = c.number_of_ranges-ranges.result })

pub returns-in-Ok : goal.returns-in-Ok
returns-in-Ok c =
    is-filled c.args.re.now c.args.search.now c.args.steps c.args.spans.now c.in-Some.encoding (sym c.encoding.ensures ∙ c.in-Some.is)
    _ c.fill_in_encoding.new.spans c.in-Ok.filled c.code.result (record { bytes = refl; units = refl; encoding = refl }) refl c.in-Ok.ensures c.code.ensures

pub returns-in-Err : goal.returns-in-Err
returns-in-Err c =
    is-refused c.args.re.now c.args.search.now c.args.steps c.args.spans.now c.in-Some.encoding (sym c.encoding.ensures ∙ c.in-Some.is)
    c.fill_in_encoding.new.spans c.refused-in-Err.result.left c.in-Err.refusal c.refused-in-Err.result.reply c.in-Err.ensures
    (ap (λ (w : CallOutcome). w.reply) c.refused-in-Err.ensures) (ap (λ (w : CallOutcome). w.left) c.refused-in-Err.ensures)
