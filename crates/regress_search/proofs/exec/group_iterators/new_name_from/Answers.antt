use Rattle.std.proofs.Common.{◌+◌, ◌∷◌, map, string_bytes, take, true, false, ap, sym, ◌∙◌, arith}
use Rattle.regress_search.specs.GroupIterators.{is_new_group_name, distinct_names_from}
use Rattle.regress_search.proofs.GroupIteratorLemmas.{names-here}
use Rattle.regress_search.proofs.exec.group_iterators.new_name_from.Goals as goal

pub returns-then-is_new_group_name : goal.returns-then-is_new_group_name
returns-then-is_new_group_name c =
    let id = c.loop-id.id in
    c.loop-id.invariant ∙ names-here string_bytes c.args.names.now id c.index-names-id.result (omega arith) c.index-names-id.is true
    (ap (λ n. is_new_group_name n (map string_bytes (take id c.args.names.now))) (sym c.as_str-name.ensures.value) ∙ sym c.if-is_new_group_name.ensures)
    ∙ ap (λ n. n ∷ distinct_names_from (map string_bytes c.args.names.now) (id + 1)) (sym c.as_str-name.ensures.value)

pub loop-id-preserved : goal.loop-id-preserved
loop-id-preserved c =
    let id = c.loop-id.id in
    c.loop-id.invariant ∙ names-here string_bytes c.args.names.now id c.index-names-id.result (omega arith) c.index-names-id.is false
    (ap (λ n. is_new_group_name n (map string_bytes (take id c.args.names.now))) (sym c.as_str-name.ensures.value) ∙ sym c.if-is_new_group_name.ensures)
