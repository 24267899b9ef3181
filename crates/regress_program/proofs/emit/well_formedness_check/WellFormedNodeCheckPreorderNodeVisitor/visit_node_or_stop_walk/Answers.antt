use Rattle.std.proofs.Common.{◌≡◌, true, ap, sym}
use Rattle.std.specs.Prelude.{is_some}
use Rattle.regex_pattern_front.specs.AstToSpecTree.{spec_node_of}
use Rattle.regress_program.specs.GroupIdCheck.{is_well_formed_node}
use Rattle.regress_program.specs.TryFoldOverTreeNodes.{step_of_test}
use Rattle.regress_program.proofs.NodeKindLemmas.{sound-other}
use Rattle.regress_program.proofs.emit.well_formedness_check.WellFormedNodeCheckPreorderNodeVisitor.visit_node_or_stop_walk.Goals as goal

other : (c : goal.In_default) → is_well_formed_node c.args.self.now.groups (spec_node_of c.args.node.now) ≡ true
other c =
    let d = c.in_default in
    sound-other c.args.self.now.groups c.args.node.now d.not-CharSet d.not-ByteSet d.not-ByteSequence d.not-StringSet d.not-BackRef d.not-CanonicalBackRef d.not-Loop d.not-Loop1CharBody

pub returns-in_default-clause-goes_on : goal.returns-in_default-clause-goes_on
returns-in_default-clause-goes_on c = ap (λ b. is_some (step_of_test b c.args.self.now)) (sym (other c))

pub returns-in_default-clause-step : goal.returns-in_default-clause-step
returns-in_default-clause-step c went = ap (λ b. step_of_test b c.args.self.now) (other c)
