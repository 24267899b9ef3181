use Rattle.std.proofs.Common.{◌≡◌, inl, subst}
use Rattle.std.specs.Prelude.{IfOk}
use Rattle.std.proofs.lemmas.Result.{IfOk-weaker}
use Rattle.regress_match.specs.ProgramTreesAndAnswers.{utf8_answers}
use Rattle.use_validator.specs.Judge.{verdict_of_matches}
use Rattle.use_validator.proofs.judge.judge_with_work_if_needed.Goals as goal

pub returns-in-Some : goal.returns-in-Some
returns-in-Some c =
    IfOk-weaker c.judge_within_work.result _ _ (λ verdict told. inl told)
    (subst (λ re. IfOk c.judge_within_work.result (λ verdict. verdict ≡ verdict_of_matches (utf8_answers re c.args.text.now 0))) c.in-Ok.ensures.pattern c.judge_within_work.ensures)
