use Rattle.std.proofs.Common.{◌≡◌}
use Rattle.use_validator.proofs.Escapes.{escape-empty, escape-more}
use Rattle.use_validator.proofs.pointer.push_name.Goals as goal

pub loop-c-preserved : goal.loop-c-preserved
loop-c-preserved c = escape-more _ _ _ _ _ c.in-Some.c c.loop-c.invariant c.in-Some.ensures.steps.0 c.in_ok-push_escaped.ensures

pub returns : goal.returns
returns c = escape-empty _ _ _ c.loop-c.invariant c.in-None.ensures.steps.0.0
