use Rattle.std.proofs.Common.{not, string_bytes, ap, sym, ◌∙◌}
use Rattle.regress_search.proofs.GroupIteratorLemmas.{new-not_among}
use Rattle.regress_search.proofs.exec.group_iterators.is_new_group_name.Goals as goal

pub returns-then-not-is_empty : goal.returns-then-not-is_empty
returns-then-not-is_empty c =
    ap not c.is_among_names.ensures ∙ new-not_among string_bytes c.args.name.now c.args.before.now (sym c.if-not-is_empty.ensures)
