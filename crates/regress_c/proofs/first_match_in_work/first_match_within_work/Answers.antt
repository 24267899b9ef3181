use Rattle.regress_c.specs.Codes.{refusal_of_work_error}
use Rattle.regress_c.specs.FirstMatchInWork.{IsFirstInWork}
use Rattle.regress_c.proofs.InWorkLemmas.{handed-on, refused-first}
use Rattle.regress_c.proofs.first_match_in_work.first_match_within_work.Goals as goal

pub returns-in_err-transpose : goal.returns-in_err-transpose
returns-in_err-transpose c =
    let re = c.args.bounded.now.re in
    let text = c.args.text.now in
    let error = c.in_err-transpose.field-0.0 in
    handed-on (λ r. IsFirstInWork re text c.args.start c.args.work.now r c.work_left.result) c.from_residual-in_err-transpose.result (refusal_of_work_error error) c.from_residual-in_err-transpose.ensures.1
    (refused-first re text c.args.start _ c.args.work.now _ _ c.requires.enough c.in_ok-matches.ensures.yields c.next-first.result c.transpose.result c.work_left.result
    c.next-first.ensures.steps.0 c.transpose.ensures c.work_left.ensures error c.in_err-transpose.was)
