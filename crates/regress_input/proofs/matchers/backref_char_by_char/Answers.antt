use Rattle.std.proofs.Common.{◌≡◌, inl, inr, sym, ◌∙◌, ap, None, option_map}
use Rattle.regex_meaning.specs.CodeUnitOffsets.{read}
use Rattle.regex_meaning.specs.Outcomes.{is_same}
use Rattle.regex_pattern_front.specs.AstToSpecTree.{spec_sameness_of}
use Rattle.regress_input.specs.CharAndByteReadsFromOffset.{direction_of_forward_flag}
use Rattle.regress_input.proofs.BoundaryPositions.{pair}
use Rattle.regress_input.proofs.RepeatedRangeLemmas.{starts, stopped, none_at, none_there, differs, goes_on, nearer}
use Rattle.regress_input.proofs.ListRangeLemmas.{unequal, equal}
use Rattle.regress_input.proofs.matchers.backref_char_by_char.Goals as goal
use Rattle.regress_input.proofs.matchers.backref_char_by_char.Goals.{then-FORWARD, else-FORWARD}

pub each-init : goal.each-init
each-init g c =
    let input = c.args.input.now in
    let text = g.Input.InputIndexer.text input in
    let offset = g.Input.Position.PositionType.offset in
    starts text (is_same text (spec_sameness_of c.args.same)) (g.met.Input.InputIndexer.is_text input) g.Dir.Direction.FORWARD
    (offset c.args.pos.now) (offset c.args.orig_range.start) (offset c.args.orig_range.end) (offset c.if-FORWARD.at.0) (offset c.if-FORWARD.at.1)
    c.requires.at c.requires.from c.requires.to c.requires.in_order
    (elim c.if-FORWARD.branch [
      | then-FORWARD w ↦ inl (ap (λ p. offset p.0) w.at-is, ap (λ p. offset p.1) w.at-is, sym c.FORWARD.ensures ∙ w.if-FORWARD.true)
      | else-FORWARD w ↦ inr (ap (λ p. offset p.0) w.at-is, ap (λ p. offset p.1) w.at-is, sym c.FORWARD.ensures ∙ w.if-FORWARD.false)
    ])

pub returns-in_default : goal.returns-in_default
returns-in_default g c =
    let text = g.Input.InputIndexer.text c.args.input.now in
    let ne = unequal _ _ _ _ c.ne.ensures (g.met.Input.Position.PositionType.equal c.each.at c.if-FORWARD.at.1) c.each-test.true in
    let none : read text (direction_of_forward_flag g.Dir.Direction.FORWARD) (g.Input.Position.PositionType.offset c.each.at) ≡ None =
    sym c.next.ensures.read ∙ ap (option_map (λ e. pair (g.Input.Element.ElementType.number e) (g.Input.Position.PositionType.offset c.next.new.pos))) c.in_default.is in
    sym (none_at text (is_same text (spec_sameness_of c.args.same)) (g.met.Input.InputIndexer.is_text c.args.input.now) (direction_of_forward_flag g.Dir.Direction.FORWARD) _ _ _ _ c.each.invariant ne none)

pub returns-in_default-next : goal.returns-in_default-next
returns-in_default-next g c =
    let text = g.Input.InputIndexer.text c.args.input.now in
    let ne = unequal _ _ _ _ c.ne.ensures (g.met.Input.Position.PositionType.equal c.each.at c.if-FORWARD.at.1) c.each-test.true in
    let none : read text (direction_of_forward_flag g.Dir.Direction.FORWARD) (g.Input.Position.PositionType.offset c.each.pos) ≡ None =
    sym c.next-in-each.ensures.read ∙ ap (option_map (λ e. pair (g.Input.Element.ElementType.number e) (g.Input.Position.PositionType.offset c.next-in-each.new.pos))) c.in_default-next.is in
    sym (none_there text (is_same text (spec_sameness_of c.args.same)) (g.met.Input.InputIndexer.is_text c.args.input.now) (direction_of_forward_flag g.Dir.Direction.FORWARD) _ _ _ _ c.each.invariant ne none)

pub returns-then-not-are_same : goal.returns-then-not-are_same
returns-then-not-are_same g c =
    let text = g.Input.InputIndexer.text c.args.input.now in
    let ne = unequal _ _ _ _ c.ne.ensures (g.met.Input.Position.PositionType.equal c.each.at c.if-FORWARD.at.1) c.each-test.true in
    sym (differs text (is_same text (spec_sameness_of c.args.same)) (g.met.Input.InputIndexer.is_text c.args.input.now) (direction_of_forward_flag g.Dir.Direction.FORWARD) _ _ _ _ _ _ _ _ c.each.invariant ne
    (sym c.in-Some.ensures.read) (sym c.in-Some-next.ensures.read) (sym c.are_same.ensures ∙ c.if-not-are_same.true))

pub each-preserved : goal.each-preserved
each-preserved g c =
    let text = g.Input.InputIndexer.text c.args.input.now in
    let ne = unequal _ _ _ _ c.ne.ensures (g.met.Input.Position.PositionType.equal c.each.at c.if-FORWARD.at.1) c.each-test.true in
    goes_on text (is_same text (spec_sameness_of c.args.same)) (g.met.Input.InputIndexer.is_text c.args.input.now) (direction_of_forward_flag g.Dir.Direction.FORWARD) _ _ _ _ _ _ _ _ c.each.invariant ne
    (sym c.in-Some.ensures.read) (sym c.in-Some-next.ensures.read) (sym c.are_same.ensures ∙ c.if-not-are_same.false)

pub each-smaller : goal.each-smaller
each-smaller g c =
    let text = g.Input.InputIndexer.text c.args.input.now in
    let ne = unequal _ _ _ _ c.ne.ensures (g.met.Input.Position.PositionType.equal c.each.at c.if-FORWARD.at.1) c.each-test.true in
    let on = goes_on text (is_same text (spec_sameness_of c.args.same)) (g.met.Input.InputIndexer.is_text c.args.input.now) (direction_of_forward_flag g.Dir.Direction.FORWARD) _ _ _ _ _ _ _ _ c.each.invariant ne
    (sym c.in-Some.ensures.read) (sym c.in-Some-next.ensures.read) (sym c.are_same.ensures ∙ c.if-not-are_same.false) in
    nearer text (is_same text (spec_sameness_of c.args.same)) (g.met.Input.InputIndexer.is_text c.args.input.now) (direction_of_forward_flag g.Dir.Direction.FORWARD) _ _ _ _ _ _ _ c.each.invariant on ne (sym c.in-Some.ensures.read)

pub returns : goal.returns
returns g c =
    let text = g.Input.InputIndexer.text c.args.input.now in
    sym (stopped text (is_same text (spec_sameness_of c.args.same)) (g.met.Input.InputIndexer.is_text c.args.input.now) (direction_of_forward_flag g.Dir.Direction.FORWARD) _ _ _ _ c.each.invariant
    (equal _ _ _ _ c.ne.ensures (g.met.Input.Position.PositionType.equal c.each.at c.if-FORWARD.at.1) c.each-test.false))
