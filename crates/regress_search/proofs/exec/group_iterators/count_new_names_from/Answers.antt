use Rattle.std.proofs.Common.{◌<◌, length, map, string_bytes, take, true, false, ap, sym, ◌∙◌, arith}
use Rattle.regress_search.specs.GroupIterators.{is_new_group_name}
use Rattle.regress_search.proofs.GroupIteratorLemmas.{names-here}
use Rattle.regress_search.proofs.exec.group_iterators.count_new_names_from.Goals as goal

pub loop-id-preserved : goal.loop-id-preserved
loop-id-preserved c =
    let names = c.args.names.now in
    let id = c.loop-id.id in
    let inside : id < length names = omega arith in
    let new = ap (λ n. is_new_group_name n (map string_bytes (take id names))) (sym c.as_str.ensures.value) ∙ sym c.is_new_group_name.ensures in
    elim c.if-is_new_group_name.branch [
      | goal.then-is_new_group_name w ↦
          let here = ap length (names-here string_bytes names id c.index-names-id.result inside c.index-names-id.is true (new ∙ w.if-is_new_group_name.true)) in
          record { fits = omega arith; counted = omega (arith, here) }
      | goal.else-is_new_group_name w ↦
          let here = ap length (names-here string_bytes names id c.index-names-id.result inside c.index-names-id.is false (new ∙ w.if-is_new_group_name.false)) in
          record { fits = omega arith; counted = omega (arith, here) }
    ]
