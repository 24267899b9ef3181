use Rattle.std.proofs.Common.{ℕ, ap, ◌∙◌, arith}
use Rattle.regex_meaning.specs.Text.{rightwards}
use Rattle.regress_pikevm.specs.States.{machine_state_of}
use Rattle.regress_bounded.proofs.CharLoopProgress.{past-none, past-more, past-all}
use Rattle.regress_bounded.proofs.unbounded_char_loops.take_nearest_exit.Goals.{then-consume_next_char_if_accepted+in_ok-push_entry, else-consume_next_char_if_accepted}
use Rattle.regress_bounded.proofs.unbounded_char_loops.take_nearest_exit.Goals as goal

pub returns : goal.returns
returns g c = λ test place e f.
    let text = g.Input.InputIndexer.text c.args.searched.now.input in
    let is = g.met.Input.InputIndexer.is_text c.args.searched.now.input in
    let offset = g.Input.Position.PositionType.offset in
    let next = c.consume_next_char_if_accepted.new.pos in
    let here = past-none offset text is rightwards test place c.args.at f in
    let led = c.consume_next_char_if_accepted.ensures test e in
    record {
      is_here = c.in_ok-here.ensures;
      alone = λ none. elim c.if-consume_next_char_if_accepted.branch [
        | then-consume_next_char_if_accepted+in_ok-push_entry w ↦
            let more = past-more offset text is rightwards test place 0 c.args.at next c.consume_next_char_if_accepted.result here w.if-consume_next_char_if_accepted.true led in
            absurd (omega (arith, none, more.sum))
        | else-consume_next_char_if_accepted w ↦ ap (λ s. s.items) w.stack-is
      ];
      others = λ some. elim c.if-consume_next_char_if_accepted.branch [
        | then-consume_next_char_if_accepted+in_ok-push_entry w ↦
            let more = past-more offset text is rightwards test place 0 c.args.at next c.consume_next_char_if_accepted.result here w.if-consume_next_char_if_accepted.true led in
            record {
              next = record c.args.state { pos = next };
              is = ap (λ (q : ℕ). record (machine_state_of offset c.args.state) { pos = q }) more.at;
              waits = ap (λ s. s.items) w.stack-is ∙ w.in_ok-push_entry.ensures;
            }
        | else-consume_next_char_if_accepted w ↦
            let all = past-all offset text is rightwards test place 0 c.args.at (offset next) c.consume_next_char_if_accepted.result here w.if-consume_next_char_if_accepted.false led in
            absurd (omega (arith, some, all, here.sum))
      ];
    }
