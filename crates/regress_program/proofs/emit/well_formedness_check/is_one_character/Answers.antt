use Rattle.std.proofs.Common.{sym}
use Rattle.regress_program.proofs.NodeListLemmas.{spec_node_of-Cat, is_one_character-spec_cat_of_children}
use Rattle.regress_program.proofs.emit.well_formedness_check.is_one_character.Goals as goal

pub returns-in-Cat : goal.returns-in-Cat
returns-in-Cat c = rw (c.in-Cat.is, spec_node_of-Cat c.in-Cat.field-0) (sym (is_one_character-spec_cat_of_children c.in-Cat.field-0.items))
