use Rattle.std.proofs.Common.{◌∙◌}
use Rattle.regex_pattern_front.proofs.CanonicalLemmas.{folds-in-ascii}
use Rattle.regex_pattern_front.proofs.canonical.canonicalize.Goals as goal

pub returns-then-c-lt128 : goal.returns-then-c-lt128
returns-then-c-lt128 c = c.fold_code_point.ensures ∙ folds-in-ascii c.args.unicode c.args.c c.if-c-lt128.true
