use Rattle.std.proofs.Common.{◌≡◌, ◌≤◌, length, sym, subst, take_all, arith, rules}
use Rattle.regex_pattern_front.specs.FirstPassingIndex.{FindsFirstPassingIndex, is_member_byte_at_index}
use Rattle.regress_search.proofs.few_units_finder.first_of_few.Goals as goal

pub returns-in_default : goal.returns-in_default
returns-in_default c =
    let few = c.args.few in
    let bytes = c.args.bytes.now in
    let sized : length few.units ≡ 3 = search rules in
    let more : 3 ≤ few.len = search rules in
    subst (λ us. FindsFirstPassingIndex (is_member_byte_at_index us bytes) (length bytes) c.first_of_three.result) (sym (take_all few.len few.units (omega (arith, sized, more)))) c.first_of_three.ensures
