use Rattle.std.proofs.Common.{◌≡◌, ◌≤◌, length, rules, refl, sym, subst, arith, true, false, take}
use Rattle.regex_meaning.specs.NumberListHelpers.{contains}
use Rattle.regex_meaning.specs.CodeUnitOffsets.{units}
use Rattle.regress_search.specs.MarkedOffsets.{IsFirstPassingOffset}
use Rattle.regress_search.specs.WideUnits.{unit_has_listed_key}
use Rattle.regress_search.proofs.WideUnitLemmas.{listing, pair-none, pair-one, pair-two, pair-three}
use Rattle.regress_search.proofs.few_wide_units.next_16_bit_unit_or_pair_with_key.Goals as goal

pub returns-in-0 : goal.returns-in-0
returns-in-0 g c =
    let w = g.W.SearchContext.searching c.args.context.now in
    let keys = c.args.few.units in
    let three : length keys ≡ 3 = search rules in
    let all = g.met.W.SearchContext.has_units c.args.context.now in
    subst (λ len. IsFirstPassingOffset (unit_has_listed_key true (listing keys len) w) c.args.from (units w.text) c.first_by_marks.result) (sym c.in-0.is)
    (pair-none w all keys three c.args.from c.text_end-end.result c.first_by_marks.result c.text_end-end.ensures c.first_by_marks.ensures)

pub returns-in-1 : goal.returns-in-1
returns-in-1 g c =
    let w = g.W.SearchContext.searching c.args.context.now in
    let keys = c.args.few.units in
    let three : length keys ≡ 3 = search rules in
    let all = g.met.W.SearchContext.has_units c.args.context.now in
    let told = subst (λ len. contains (take len keys) 128 ≡ false) c.in-1.is c.requires.told in
    subst (λ len. IsFirstPassingOffset (unit_has_listed_key true (listing keys len) w) c.args.from (units w.text) c.next_pair_or_unit_of_kind.result) (sym c.in-1.is)
    (pair-one w all keys three c.args.from (units w.text) c.next_pair_or_unit_of_kind.result refl c.units_of_key.result told c.units_of_key.ensures c.next_pair_or_unit_of_kind.ensures)

pub returns-in-2 : goal.returns-in-2
returns-in-2 g c =
    let w = g.W.SearchContext.searching c.args.context.now in
    let keys = c.args.few.units in
    let three : length keys ≡ 3 = search rules in
    let all = g.met.W.SearchContext.has_units c.args.context.now in
    let told = subst (λ len. contains (take len keys) 128 ≡ false) c.in-2.is c.requires.told in
    subst (λ len. IsFirstPassingOffset (unit_has_listed_key true (listing keys len) w) c.args.from (units w.text) c.next_pair_or_unit_of_two_kinds.result) (sym c.in-2.is)
    (pair-two w all keys three c.args.from (units w.text) c.next_pair_or_unit_of_two_kinds.result refl c.units_of_key-in-2.result c.units_of_key-in-2-2.result told c.units_of_key-in-2.ensures c.units_of_key-in-2-2.ensures c.next_pair_or_unit_of_two_kinds.ensures)

pub returns-in_default : goal.returns-in_default
returns-in_default g c =
    let w = g.W.SearchContext.searching c.args.context.now in
    let keys = c.args.few.units in
    let three : length keys ≡ 3 = search rules in
    let all = g.met.W.SearchContext.has_units c.args.context.now in
    let most : 3 ≤ c.args.few.len = omega arith in
    pair-three w all keys three c.args.from (units w.text) c.next_pair_or_unit_of_three_kinds.result refl c.args.few.len most
    c.units_of_key-a.result c.units_of_key-b.result c.units_of_key-in_default.result c.requires.told c.units_of_key-a.ensures c.units_of_key-b.ensures c.units_of_key-in_default.ensures c.next_pair_or_unit_of_three_kinds.ensures
