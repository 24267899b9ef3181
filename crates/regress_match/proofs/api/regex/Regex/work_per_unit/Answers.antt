use Rattle.std.proofs.Common.{subst, sym}
use Rattle.regress_match.specs.WorkBounds.{IsHigherOfProgramWorkBounds}
use Rattle.regress_match.proofs.api.regex.Regex.work_per_unit.Goals as goal

pub returns-clause-enough : goal.returns-clause-enough
returns-clause-enough c =
    subst (IsHigherOfProgramWorkBounds c.args.self.now) (sym c.work_per_unit.ensures.number) c.in_ok-bounded.ensures.enough
