use Rattle.std.proofs.Common.{refl, sym, ◌∙◌}
use Rattle.regress_c.proofs.NextInWorkLemmas.{is-filled, is-refused, not-open, too-short}
use Rattle.regress_c.proofs.next_in_work.write_in_work_with_regex.Goals as goal

pub returns-in_default : goal.returns-in_default
returns-in_default c =
    not-open c.args.re.now c.args.search.now c.args.work.now c.args.spans.now c.reply.result (sym c.encoding.ensures ∙ c.in_default.is) c.reply.ensures

pub returns-then-spans-ranges : goal.returns-then-spans-ranges
returns-then-spans-ranges c =
    too-short c.args.re.now c.args.search.now c.args.work.now c.args.spans.now c.in-Some.encoding (sym c.encoding.ensures ∙ c.in-Some.is)
    c.number_of_ranges-ranges.result _ c.number_of_ranges-ranges.ensures c.if-spans-ranges.true (λ i. record { code = c.code-code.ensures i; count = c.number_of_ranges-ranges.result })

pub returns-in-Ok : goal.returns-in-Ok
returns-in-Ok c =
    is-filled c.args.re.now c.args.search.now c.args.work.now c.args.spans.now c.in-Some.encoding (sym c.encoding.ensures ∙ c.in-Some.is)
    _ c.fill_in_work.new.work c.fill_in_work.new.spans c.in-Ok.written c.code_in_work.result (record { bytes = refl; units = refl; encoding = refl }) refl c.in-Ok.ensures
    c.code_in_work.ensures

pub returns-in-Err : goal.returns-in-Err
returns-in-Err c =
    is-refused c.args.re.now c.args.search.now c.args.work.now c.args.spans.now c.in-Some.encoding (sym c.encoding.ensures ∙ c.in-Some.is)
    c.fill_in_work.new.work c.fill_in_work.new.spans c.in-Err.refusal c.reply-in-Err.result c.in-Err.ensures c.reply-in-Err.ensures
