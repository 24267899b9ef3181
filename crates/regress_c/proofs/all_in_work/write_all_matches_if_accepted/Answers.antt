use Rattle.std.proofs.Common.{◌+◌, ◌≤◌, ap, length, refl, arith}
use Rattle.regress_search.specs.CostsOfCalls.{without_costs}
use Rattle.regress_c.specs.AllMatchesInWork.{FillsInWork}
use Rattle.regress_c.specs.declared.refusal.Refusal.TheVariants.{Unbounded}
use Rattle.regress_c.proofs.InWorkLemmas.{handed-on}
use Rattle.regress_c.proofs.AllInWorkLemmas.{each-ranges, is-short, writes}
use Rattle.regress_c.proofs.all_in_work.write_all_matches_if_accepted.Goals as goal

pub returns-then-spans-ranges : goal.returns-then-spans-ranges
returns-then-spans-ranges c =
    let count = ap (λ n. n + 1) c.group_count-ranges.ensures.count in
    is-short c.args.re.now c.args.bytes.now c.args.start c.args.work.now c.args.work.now c.args.spans.now c.args.spans.now _ c.in_ok-text.text c.in_ok-text.ensures
    (omega (arith, count, c.if-spans-ranges.true)) refl refl (λ i. record { code = c.code-code.ensures i; count = count i })

pub write_all-reply-requires-clause-each : goal.write_all-reply-requires-clause-each
write_all-reply-requires-clause-each c =
    each-ranges c.args.re.now c.args.bytes.now c.args.start c.args.work.now c.in_ok-text.text c.in_ok-bounded.bounded _ _
    c.in_ok-text.ensures c.in_ok-bounded.ensures.pattern c.in_ok-bounded.ensures.enough c.in_ok-matches.ensures.yields (ap (λ n. n + 1) c.group_count-ranges.ensures.count)

pub returns : goal.returns
returns c =
    let count = ap (λ n. n + 1) c.group_count-ranges.ensures.count in
    writes c.args.re.now c.args.bytes.now c.args.start c.args.work.now c.in_ok-text.text c.in_ok-bounded.bounded _ _
    c.in_ok-text.ensures c.in_ok-bounded.ensures.pattern c.in_ok-bounded.ensures.enough c.in_ok-matches.ensures.yields count
    c.work_left.result (without_costs c.write_all-reply.new.matches) c.args.spans.now c.write_all-reply.new.spans c.write_all-reply.result (omega arith) c.work_left.ensures c.write_all-reply.ensures

pub returns-in_err-bounded : goal.returns-in_err-bounded
returns-in_err-bounded c =
    let re = c.args.re.now in
    let work = c.args.work.now in
    let spans = c.args.spans.now in
    let starts = c.in_ok-text.ensures in
    let reason = c.in_err-bounded.field-0.0 in
    handed-on (λ r. FillsInWork re c.args.bytes.now c.args.start work work spans spans r) c.from_residual-in_err-bounded.result (Unbounded reason) c.from_residual-in_err-bounded.ensures.1
    ((starts.1, starts.2, c.in_err-bounded.ensures.refused), refl, refl)
