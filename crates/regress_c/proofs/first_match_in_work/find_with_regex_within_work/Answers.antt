use Rattle.regress_c.specs.FirstMatchInWork.{IsFindResultWithinWork}
use Rattle.regress_c.specs.declared.refusal.Refusal.TheVariants.{Unbounded}
use Rattle.regress_c.proofs.InWorkLemmas.{enough-by, found-by, handed-on, unbounded-by}
use Rattle.regress_c.proofs.first_match_in_work.find_with_regex_within_work.Goals as goal

pub first_match_within_work-requires-clause-enough : goal.first_match_within_work-requires-clause-enough
first_match_within_work-requires-clause-enough c = enough-by c.args.re.now c.in_ok-bounded.bounded c.in_ok-bounded.ensures.pattern c.in_ok-bounded.ensures.enough

pub returns : goal.returns
returns c =
    found-by c.args.re.now c.args.bytes.now c.args.start c.args.work.now c.first_match_within_work.new.work c.in_ok-text.text c.in_ok-bounded.bounded c.first_match_within_work.result
    c.in_ok-text.ensures c.in_ok-bounded.ensures.pattern c.first_match_within_work.ensures

pub returns-in_err-bounded : goal.returns-in_err-bounded
returns-in_err-bounded c =
    let re = c.args.re.now in
    let work = c.args.work.now in
    let reason = c.in_err-bounded.field-0.0 in
    handed-on (λ r. IsFindResultWithinWork re c.args.bytes.now c.args.start work r work) c.from_residual-in_err-bounded.result (Unbounded reason) c.from_residual-in_err-bounded.ensures.1
    (unbounded-by re c.args.bytes.now c.args.start work c.in_ok-text.text reason c.in_ok-text.ensures c.in_err-bounded.ensures.refused)
