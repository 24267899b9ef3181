use Rattle.std.proofs.Common.{true, false}
use Rattle.use_regexp.proofs.TurnLemmas.{found-ok, found-stands-ok}
use Rattle.use_regexp.proofs.pattern.Pattern.find.Goals as goal

pub returns-then-self-clause-found : goal.returns-then-self-clause-found
returns-then-self-clause-found c =
    found-ok c.args.self.now c.args.text.now c.search_index-index.result c.args.last_index c.search_index-index.ensures c.match_beginning_at_index.result true c.if-self.true
    c.match_beginning_at_index.ensures.found

pub returns-else-self-clause-found : goal.returns-else-self-clause-found
returns-else-self-clause-found c =
    found-ok c.args.self.now c.args.text.now c.search_index-index.result c.args.last_index c.search_index-index.ensures c.first_match.result false c.if-self.false
    c.first_match.ensures.found

pub returns-then-self-clause-stands : goal.returns-then-self-clause-stands
returns-then-self-clause-stands c =
    found-stands-ok c.args.self.now c.args.text.now (λ k _. (c.type_inv.text k).fits) c.args.last_index _ (returns-then-self-clause-found c)

pub returns-else-self-clause-stands : goal.returns-else-self-clause-stands
returns-else-self-clause-stands c =
    found-stands-ok c.args.self.now c.args.text.now (λ k _. (c.type_inv.text k).fits) c.args.last_index _ (returns-else-self-clause-found c)
