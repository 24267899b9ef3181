use Rattle.regress_search.proofs.StartSearchLemmas.{fitting-found}
use Rattle.regress_search.proofs.start_search.next_prefix_by_literal.Goals as goal

pub returns : goal.returns
returns g c =
    fitting-found (g.W.SearchContext.searching c.args.context.now) (g.met.W.SearchContext.has_units c.args.context.now) c.args.prefix.now c.requires.bytes c.requires.prefix.0 c.requires.prefix.1
    c.args.from c.find.result c.find.ensures
