use Rattle.std.proofs.Common.{ap, not}
use Rattle.regress_search.proofs.RemainingAnswerLemmas.{new-comes}
use Rattle.regress_search.proofs.exec.Matches.new.Goals as goal

pub returns-clause-answers : goal.returns-clause-answers
returns-clause-answers g c = (new-comes _ _ (g.met.P.MatchProducer.is_text c.args.producer) _ c.args.start _ c.initial_position-position.ensures).0

pub returns-clause-limited : goal.returns-clause-limited
returns-clause-limited g c = ap not (new-comes _ _ (g.met.P.MatchProducer.is_text c.args.producer) _ c.args.start _ c.initial_position-position.ensures).1
