use Rattle.regress_search.proofs.UnitRunLemmas.{run-two, run-three, run-four}
use Rattle.regress_search.proofs.unit_runs.count_passing_ascii_of_four.Goals as goal

pub returns-then-not-is_passing_ascii-3 : goal.returns-then-not-is_passing_ascii-3
returns-then-not-is_passing_ascii-3 g c =
    run-two (g.W.SearchContext.searching c.args.context.now) (g.Test.KeyTest.key_passes c.args.test.now) c.args.at
    (c.is_passing_ascii.ensures c.if-not-is_passing_ascii.false) (c.is_passing_ascii-2.ensures c.if-not-is_passing_ascii-2.false)

pub returns-then-not-is_passing_ascii-4 : goal.returns-then-not-is_passing_ascii-4
returns-then-not-is_passing_ascii-4 g c =
    run-three (g.W.SearchContext.searching c.args.context.now) (g.Test.KeyTest.key_passes c.args.test.now) c.args.at
    (c.is_passing_ascii.ensures c.if-not-is_passing_ascii.false) (c.is_passing_ascii-2.ensures c.if-not-is_passing_ascii-2.false)
    (c.is_passing_ascii-3.ensures c.if-not-is_passing_ascii-3.false)

pub returns : goal.returns
returns g c =
    run-four (g.W.SearchContext.searching c.args.context.now) (g.Test.KeyTest.key_passes c.args.test.now) c.args.at
    (c.is_passing_ascii.ensures c.if-not-is_passing_ascii.false) (c.is_passing_ascii-2.ensures c.if-not-is_passing_ascii-2.false)
    (c.is_passing_ascii-3.ensures c.if-not-is_passing_ascii-3.false) (c.is_passing_ascii-4.ensures c.if-not-is_passing_ascii-4.false)
