use Rattle.std.proofs.Common.{ap, sym}
use Rattle.std.specs.Prelude.{is_some, not}
use Rattle.regress_program.specs.TryFoldOverTreeNodes.{step_of_test}
use Rattle.regress_program.proofs.NodeKindLemmas.{bytes-other}
use Rattle.regress_program.proofs.emit.node_detectors.ByteNodeDetectorPreorderNodeVisitor.visit_node_or_stop_walk.Goals as goal

pub returns-in_default-clause-goes_on : goal.returns-in_default-clause-goes_on
returns-in_default-clause-goes_on c =
    ap (λ b. is_some (step_of_test (not b) c.args.self.now)) (sym (bytes-other c.args.node.now c.in_default.not-ByteSet c.in_default.not-ByteSequence))

pub returns-in_default-clause-step : goal.returns-in_default-clause-step
returns-in_default-clause-step c went =
    ap (λ b. step_of_test (not b) c.args.self.now) (bytes-other c.args.node.now c.in_default.not-ByteSet c.in_default.not-ByteSequence)
