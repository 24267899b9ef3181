use Rattle.std.proofs.Common.{ap, sym, ◌∙◌, option_map}
use Rattle.regress_input.specs.CharAndByteReadsFromOffset.{direction_of_forward_flag}
use Rattle.regress_search.proofs.TextReadLemmas.{read-scalar}
use Rattle.regress_pikevm.proofs.pikevm.insn_matchers.consume_next_char_if_accepted.Goals as goal

pub accepts-requires-clause-scalar : goal.accepts-requires-clause-scalar
accepts-requires-clause-scalar g c = λ literal.
    let text = g.Input.InputIndexer.text c.args.searched.now.input in
    let offset = g.Input.Position.PositionType.offset in
    let number = g.Input.Element.ElementType.number in
    read-scalar text (g.met.Input.InputIndexer.is_text c.args.searched.now.input) (c.requires.bytes literal).reads (direction_of_forward_flag g.Dir.Direction.FORWARD) (offset c.args.pos.now) (number c.in-Some.c) (offset c.next.new.pos)
    c.requires.at (ap (option_map (λ e. (number e, offset c.next.new.pos))) (sym c.in-Some.is) ∙ c.next.ensures.read)
