use Rattle.std.proofs.Common.{sym, ◌∙◌}
use Rattle.std.specs.Prelude.{option_map}
use Rattle.regress_program.specs.InsnsAsSpec.{start_predicate_as_spec}
use Rattle.regress_backtrack.proofs.LimitedStartLemmas.{next-anchored, next-none, next-open, reads-bytes}
use Rattle.regress_machine.specs.TextsForBytePrograms.{HasUtf8CharactersAndOffsets}
use Rattle.regress_backtrack.proofs.accepted_starts.next_start_to_try.Given.{Over}
use Rattle.regress_backtrack.proofs.accepted_starts.next_start_to_try.Goals.{After-is_anchored}
use Rattle.regress_backtrack.proofs.accepted_starts.next_start_to_try.Goals as goal

-- the text is one of bytes
reads-here : (g : Over) (c : After-is_anchored g) → HasUtf8CharactersAndOffsets (g.Input.InputIndexer.text c.args.input.now)
reads-here g c =
    let input = c.args.input.now in
    reads-bytes g.Input.Units.CodeUnitEncoding.encoding g.Input.Units.CodeUnitEncoding.ARE_BYTES (g.Input.InputIndexer.text input) g.Input.Units.CodeUnitEncoding.by_encoding c.requires.bytes (g.met.Input.InputIndexer.characters input) (g.met.Input.InputIndexer.in_utf8 input)

pub returns-then-is_anchored : goal.returns-then-is_anchored
returns-then-is_anchored g c =
    let is = g.met.Input.InputIndexer.is_text c.args.input.now in
    let reads = reads-here g (goal.at.returns-then-is_anchored g c).After-is_anchored in
    next-anchored (start_predicate_as_spec c.args.start.now) _ is reads.scalars _ c.requires.at (sym c.is_anchored.ensures ∙ c.if-is_anchored.true)

pub returns-in-None : goal.returns-in-None
returns-in-None g c =
    let is = g.met.Input.InputIndexer.is_text c.args.input.now in
    let reads = reads-here g (goal.at.returns-in-None g c).After-is_anchored in
    next-none (start_predicate_as_spec c.args.start.now) _ is reads.scalars _ c.requires.at (sym c.is_anchored.ensures ∙ c.if-is_anchored.false)
    (sym c.in-None.ensures.read)

pub returns-in-Some : goal.returns-in-Some
returns-in-Some g c =
    let is = g.met.Input.InputIndexer.is_text c.args.input.now in
    let reads = reads-here g (goal.at.returns-in-Some g c).After-is_anchored in
    let offset = g.Input.Position.PositionType.offset in
    next-open (start_predicate_as_spec c.args.start.now) _ is reads.scalars _ (offset c.in-Some.next) (option_map offset c.first_start_to_try.result) c.requires.at (sym c.is_anchored.ensures ∙ c.if-is_anchored.false)
    (sym c.in-Some.ensures.read) c.first_start_to_try.ensures
