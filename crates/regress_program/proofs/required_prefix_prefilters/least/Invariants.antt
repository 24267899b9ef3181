use Rattle.std.proofs.Common.{◌<◌}
use Rattle.regress_program.proofs.required_prefix_prefilters.least.Given as goal

abbrev pub invariant-numbers : goal.invariant-numbers
invariant-numbers l = l.at < 16
