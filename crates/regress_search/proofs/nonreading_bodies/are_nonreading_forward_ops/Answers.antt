use Rattle.std.proofs.Common.{◌≡◌, ◌≤◌, ◌<◌, ℕ, Some, arith}
use Rattle.regex_meaning.specs.CompilationRelation.{Insn}
use Rattle.regress_machine.specs.LoopsReadingNothing.{ReadsNothingAndLeadsOnward}
use Rattle.regress_search.specs.TreePlanAndText.{insn_at}
use Rattle.regress_program.proofs.AlternationDispatchLemmas.{below-more}
use Rattle.regress_search.proofs.nonreading_bodies.are_nonreading_forward_ops.Goals as goal

pub loop-ip-init : goal.loop-ip-init
loop-ip-init g c = λ k after before. absurd (omega (arith, after, before))

pub loop-ip-preserved : goal.loop-ip-preserved
loop-ip-preserved g c =
    let w = g.W.SearchContext.searching c.args.context.now in
    λ k after less. below-more (λ k. c.args.from ≤ k → (insn : Insn) → insn_at w k ≡ Some insn → ReadsNothingAndLeadsOnward c.args.forks c.args.end k insn) c.loop-ip.ip
    (λ k less after. c.loop-ip.invariant k after less) (λ after. c.reads_nothing_toward_end.ensures c.if-not-reads_nothing_toward_end.false) k less after

pub returns : goal.returns
returns g c = λ yes k after less. c.loop-ip.invariant k after (omega (arith, less, c.loop-ip-test.false))
