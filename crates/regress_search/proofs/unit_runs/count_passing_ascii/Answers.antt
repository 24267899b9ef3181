use Rattle.std.proofs.Common.{◌≡◌, ◌+◌, subst, arith}
use Rattle.regress_search.specs.UnitRuns.{UnitsPassKeyTest}
use Rattle.regress_search.proofs.UnitRunLemmas.{runs-joined}
use Rattle.regress_search.proofs.unit_runs.count_passing_ascii.Goals as goal

pub fours-preserved : goal.fours-preserved
fours-preserved g c =
    let w = g.W.SearchContext.searching c.args.context.now in
    let of = c.count_passing_ascii_of_four-more in
    subst (λ n. UnitsPassKeyTest w (g.Test.KeyTest.key_passes c.args.test.now) c.args.from c.args.most (c.fours.count + n))
    (let z : of.result ≡ 4 = omega (arith, c.if-more-lt-UNITS_AT_ONCE.false, of.ensures.few) in z)
    (runs-joined w (g.Test.KeyTest.key_passes c.args.test.now) c.args.from c.args.most c.fours.count 4 of.result c.fours.invariant of.ensures (omega (arith, c.fours-test.true)))

pub returns-then-more-lt-UNITS_AT_ONCE : goal.returns-then-more-lt-UNITS_AT_ONCE
returns-then-more-lt-UNITS_AT_ONCE g c =
    let w = g.W.SearchContext.searching c.args.context.now in
    let of = c.count_passing_ascii_of_four-more in
    runs-joined w (g.Test.KeyTest.key_passes c.args.test.now) c.args.from c.args.most c.fours.count 4 of.result c.fours.invariant of.ensures (omega (arith, c.fours-test.true))
