use Rattle.std.proofs.Common.{inl}
use Rattle.std.proofs.lemmas.Str.{IsCharBoundary-start}
use Rattle.use_validator.proofs.Judged.{came, stopped, verdict-match, verdict-none, verdict-past}
use Rattle.use_validator.proofs.judge.judge.Goals as goal

pub find_from_limited-requires : goal.find_from_limited-requires
find_from_limited-requires c = inl (IsCharBoundary-start c.args.text.now c.utf8.text)

pub returns-in-Some-Ok : goal.returns-in-Some-Ok
returns-in-Some-Ok c =
    let first = came _ _ _ _ c.in-Some-Ok.field-0-is c.in-Some-Ok.ensures.steps in
    verdict-match c.args.re.now c.args.text.now c.args.steps _ _ _ c.in-Ok.ensures.answers first

pub returns-in-Some-Err-StepLimit : goal.returns-in-Some-Err-StepLimit
returns-in-Some-Err-StepLimit c =
    let limit = stopped _ _ _ _ c.in-Some-Err-StepLimit.field-0-is c.in-Some-Err-StepLimit.field-0-0-is c.in-Some-Err-StepLimit.ensures.steps in
    verdict-past c.args.re.now c.args.text.now c.args.steps _ _ c.in-Ok.ensures.answers c.in-Ok.ensures.limited limit.0 limit.1

pub returns-in-None : goal.returns-in-None
returns-in-None c =
    let ended = c.in-None.ensures.steps in
    verdict-none c.args.re.now c.args.text.now c.args.steps _ _ c.in-Ok.ensures.answers c.in-Ok.ensures.limited ended.0 ended.1
