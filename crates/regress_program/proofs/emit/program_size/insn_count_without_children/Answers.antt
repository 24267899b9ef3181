use Rattle.std.proofs.Common.{◌-◌, ◌^◌, ap, sym, min}
use Rattle.regress_program.proofs.NodeListLemmas.{spec_node_of-Cat, insn_count_without_children-spec_cat_of_children}
use Rattle.regress_program.proofs.emit.program_size.insn_count_without_children.Goals as goal

pub returns-in-Cat : goal.returns-in-Cat
returns-in-Cat c = rw (c.in-Cat.is, spec_node_of-Cat c.in-Cat.field-0) (sym (ap (λ n. min n (2 ^ 64 - 1)) (insn_count_without_children-spec_cat_of_children c.in-Cat.field-0.items)))
