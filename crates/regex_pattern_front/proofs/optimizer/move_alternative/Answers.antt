use Rattle.std.proofs.Common.{◌≡◌, ◌∙◌, ap, sym, Box, Global}
use denote.Hole.Carrier.{out}
use Rattle.regex_pattern_front.specs.AstToSpecTree.{spec_node_of}
use Rattle.regex_pattern_front.specs.declared.ir.Node.{Node}
use Rattle.regex_pattern_front.specs.declared.ir.Node.TheOpen.{Node-F}
use Rattle.regex_pattern_front.specs.declared.ir.Node.TheViews.{out-Node}
use Rattle.regex_pattern_front.proofs.AstToSpecTreeLemmas.{unturned}
use Rattle.regex_pattern_front.proofs.optimizer.move_alternative.Goals as goal

pub returns-in-Alt-clause-from : goal.returns-in-Alt-clause-from
unfolding spec_node_of out-Node out
returns-in-Alt-clause-from c =
    let right : c.deref_mut.result.now ≡ c.in-Alt.right.value = c.deref_mut.ensures.value ∙ ap (λ (b : Box Node Global). b.value) c.in-Alt.right-is in
    rw (c.swap-in-Alt.ensures.x_after, c.in-Alt.is, c.swap.ensures.y_after, right)

pub returns-in-Alt-clause-to : goal.returns-in-Alt-clause-to
unfolding spec_node_of out-Node out
returns-in-Alt-clause-to c = rw (c.swap-in-Alt.ensures.y_after, c.in-Alt.is, c.swap.ensures.x_after)

pub returns-in-Alt-clause-part : goal.returns-in-Alt-clause-part
unfolding out-Node out
returns-in-Alt-clause-part c = λ left right is.
    let now : c.deref_mut.result.now ≡ c.in-Alt.right.value = c.deref_mut.ensures.value ∙ ap (λ (b : Box Node Global). b.value) c.in-Alt.right-is in
    let same : Node-F.Alt c.in-Alt.field-0 c.in-Alt.right ≡ Node-F.Alt left right = ap out-Node (sym c.in-Alt.is ∙ is) in
    let second : c.in-Alt.right ≡ right = cc in
    c.swap-in-Alt.ensures.x_after ∙ c.swap.ensures.y_after ∙ now ∙ ap (λ (b : Box Node Global). b.value) second

pub returns-in_default : goal.returns-in_default
returns-in_default c =
    let none = unturned (spec_node_of c.args.to.now) c.args.from.now c.in_default.not-Alt in
    record {
      from = none.from;
      to = none.to;
      part = λ left right is. absurd (c.in_default.not-Alt left right is);
    }
