use Rattle.std.proofs.Common.{inl}
use Rattle.std.proofs.lemmas.Str.{IsCharBoundary-start}
use Rattle.regress_search.specs.CostsOfCalls.{without_costs}
use Rattle.use_validator.proofs.Decided.{never-out, work-match, work-none}
use Rattle.use_validator.proofs.judge.judge_within_work.Goals as goal

pub find_from-requires : goal.find_from-requires
find_from-requires c = inl (IsCharBoundary-start c.args.text.now c.utf8.text)

pub unreachable-requires : goal.unreachable-requires
unreachable-requires c =
    never-out c.args.bounded.now.re c.args.text.now _ _ _ _ c.in-Ok.ensures.yields c.requires _ _ c.in-Err.is c.in-WorkLimit.is c.in-Some.ensures.steps.0

pub returns-in-Ok-first : goal.returns-in-Ok-first
returns-in-Ok-first c =
    work-match c.args.bounded.now.re c.args.text.now _ _ _ _ c.in-Ok.ensures.yields _ _ c.in-Ok-first.is c.in-Some.ensures.steps.0

pub returns-in_default-next : goal.returns-in_default-next
returns-in_default-next c =
    work-none c.args.bounded.now.re c.args.text.now _ _ (without_costs c.in-Ok.matches) (without_costs c.next.new.self) c.in-Ok.ensures.yields c.in_default-next.ensures.steps.0
