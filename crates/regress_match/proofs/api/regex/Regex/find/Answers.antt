use Rattle.std.proofs.lemmas.Result.{IfOk-weaker}
use Rattle.regress_match.proofs.MatchRangeLemmas.{first-fits}
use Rattle.regress_match.proofs.api.regex.Regex.find.Goals as goal

pub returns-clause-fits : goal.returns-clause-fits
returns-clause-fits c = IfOk-weaker c.first.result _ _ (λ m e. first-fits c.args.text.now 0 _ m c.in_ok-find_iter.ensures.in_text e) c.first.ensures.first
