use Rattle.std.proofs.Common.{◌≤◌, sym, ◌∙◌, arith}
use Rattle.regex_meaning.specs.CodeUnitOffsets.{units}
use Rattle.regress_search.proofs.StartSearchLemmas.{scan-begins, scan-goes, scan-finds, scan-ends, scan-fails}
use Rattle.regress_search.proofs.LowUnitScans.{low-goes, low-finds}
use Rattle.regress_search.proofs.start_search.first_allowed_offset.Goals as goal

pub units-init : goal.units-init
units-init g c =
    let w = g.W.SearchContext.searching c.args.context.now in
    scan-begins w (g.Set.StartSet.table c.args.set.now) c.args.from (g.met.W.SearchContext.is_text c.args.context.now) c.requires.at

pub units-preserved : goal.units-preserved
units-preserved g c =
    let w = g.W.SearchContext.searching c.args.context.now in
    scan-goes w (g.Set.StartSet.table c.args.set.now) c.args.from c.units.at c.offset_after_unit_or_char-at.result c.unit_key_at_offset.result c.units.invariant c.offset_after_unit_or_char-at.ensures
    c.unit_key_at_offset.ensures.is (sym c.has_key-in-units.ensures ∙ c.if-has_key-2.false)

pub units-preserved-then-unit-lt128 : goal.units-preserved-then-unit-lt128
units-preserved-then-unit-lt128 g c =
    let w = g.W.SearchContext.searching c.args.context.now in
    low-goes w (g.met.W.SearchContext.has_units c.args.context.now) (g.Set.StartSet.table c.args.set.now) c.args.from c.units.at c.unit_at_offset-unit.result
    c.unit_at_offset-unit.ensures c.if-unit-lt128.true c.has_key.result c.units.invariant c.has_key.ensures c.if-has_key.false

pub returns-then-has_key : goal.returns-then-has_key
returns-then-has_key g c =
    let w = g.W.SearchContext.searching c.args.context.now in
    low-finds w (g.met.W.SearchContext.has_units c.args.context.now) (g.Set.StartSet.table c.args.set.now) c.args.from c.units.at c.unit_at_offset-unit.result
    c.unit_at_offset-unit.ensures c.if-unit-lt128.true c.has_key.result c.requires.leads c.units.invariant c.has_key.ensures c.if-has_key.true

pub returns-then-has_key-2 : goal.returns-then-has_key-2
returns-then-has_key-2 g c =
    let w = g.W.SearchContext.searching c.args.context.now in
    scan-finds w (g.Set.StartSet.table c.args.set.now) c.args.from (g.met.W.SearchContext.has_units c.args.context.now) c.units.at c.unit_key_at_offset.result
    c.has_key-in-units.result c.requires.leads c.units.invariant c.unit_key_at_offset.ensures.is c.unit_key_at_offset.ensures.inside c.has_key-in-units.ensures c.if-has_key-2.true

pub returns-then-has_end : goal.returns-then-has_end
returns-then-has_end g c =
    let w = g.W.SearchContext.searching c.args.context.now in
    let end : units w.text ≤ c.units.at = omega (arith, c.units-test.false, c.text_end-end.ensures) in
    scan-ends w (g.Set.StartSet.table c.args.set.now) c.args.from (g.met.W.SearchContext.has_units c.args.context.now) c.units.at c.has_end.result c.units.invariant end c.has_end.ensures c.if-has_end.true

pub returns-else-has_end : goal.returns-else-has_end
returns-else-has_end g c =
    let w = g.W.SearchContext.searching c.args.context.now in
    let end : units w.text ≤ c.units.at = omega (arith, c.units-test.false, c.text_end-end.ensures) in
    scan-fails w (g.Set.StartSet.table c.args.set.now) c.args.from (g.met.W.SearchContext.has_units c.args.context.now) c.units.at c.has_end.result c.units.invariant end c.has_end.ensures c.if-has_end.false
