use Rattle.std.proofs.Common.{◌≡◌, ◌+◌, Bool, ap, sym, subst, ◌∙◌, true, false}
use Rattle.regex_pattern_front.specs.AstToSpecTree.{spec_sameness_of}
use Rattle.regress_input.specs.CharAndByteReadsFromOffset.{end_if_matched, direction_of_forward_flag}
use Rattle.regress_machine.specs.Machine as machine
use Rattle.regress_machine.specs.Machine.{go_if, read_group}
use Rattle.regress_pikevm.specs.States.{offset_range_of_group, machine_state_of}
use Rattle.regress_machine.specs.InsnEffects.{IsNotStuck}
use Rattle.regress_search.proofs.TextReadLemmas.{nothing-read, group-read}
use Rattle.regress_pikevm.specs.InsnEffects.{effect_of_range_backref}
use Rattle.regress_pikevm.proofs.pikevm.single_insn_execution.read_range_again.Given.{Over}
use Rattle.regress_pikevm.proofs.pikevm.single_insn_execution.read_range_again.Goals.{After-read_backref_text}
use Rattle.regress_pikevm.proofs.pikevm.single_insn_execution.read_range_again.Goals as goal

pub returns-in_default : goal.returns-in_default
returns-in_default g c =
    let text = g.Input.InputIndexer.text c.args.searched.now.input in
    let offset = g.Input.Position.PositionType.offset in
    let d = direction_of_forward_flag g.Dir.Direction.FORWARD in
    let s = machine_state_of offset c.args.state in
    let can = subst (λ r. IsNotStuck (read_group text (spec_sameness_of c.args.same) d (offset_range_of_group offset r) s)) c.in_default.is c.requires.executable in
    nothing-read text (g.met.Input.InputIndexer.is_text c.args.searched.now.input) (spec_sameness_of c.args.same) d s can ∙ ap (λ r. read_group text (spec_sameness_of c.args.same) d (offset_range_of_group offset r) s) (sym c.in_default.is)

-- where it goes, by whether they stand there
again : (g : Over) (c : After-read_backref_text g) (b : Bool) → c.read_backref_text.result ≡ b
    → (let s : machine.State = machine_state_of g.Input.Position.PositionType.offset c.args.state in
    go_if b (record s { ip = s.ip + 1; pos = g.Input.Position.PositionType.offset c.read_backref_text.new.pos })
    ≡ effect_of_range_backref g.Input.Position.PositionType.offset (g.Input.InputIndexer.text c.args.searched.now.input) g.Dir.Direction.FORWARD (spec_sameness_of c.args.same)
    c.args.range c.args.state)
again g c b stands =
    let text = g.Input.InputIndexer.text c.args.searched.now.input in
    let offset = g.Input.Position.PositionType.offset in
    let d = direction_of_forward_flag g.Dir.Direction.FORWARD in
    let s = machine_state_of offset c.args.state in
    let can = subst (λ r. IsNotStuck (read_group text (spec_sameness_of c.args.same) d (offset_range_of_group offset r) s)) c.in-Some.is c.requires.executable in
    let to = offset c.read_backref_text.new.pos in
    group-read text (g.met.Input.InputIndexer.is_text c.args.searched.now.input) (spec_sameness_of c.args.same) d (offset c.in-Some.span.0) (offset c.in-Some.span.1) s b to can
    (ap (λ b. end_if_matched b to) (sym stands) ∙ c.read_backref_text.ensures) ∙ ap (λ r. read_group text (spec_sameness_of c.args.same) d (offset_range_of_group offset r) s) (sym c.in-Some.is)

pub returns-then-read_backref_text : goal.returns-then-read_backref_text
returns-then-read_backref_text g c = again g (goal.at.returns-then-read_backref_text g c).After-read_backref_text true c.if-read_backref_text.true

pub returns-else-read_backref_text : goal.returns-else-read_backref_text
returns-else-read_backref_text g c = again g (goal.at.returns-else-read_backref_text g c).After-read_backref_text false c.if-read_backref_text.false
