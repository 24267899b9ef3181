use Rattle.std.proofs.Common.{◌+◌, ◌∙◌, ap, sym}
use Rattle.regress_program.specs.CompilationOfTreesAsFunction.{group_reset_insns}
use Rattle.regress_program.specs.EmitterStateAndAppendedCode.{emitter_state, with_insns_appended}
use Rattle.regress_program.proofs.ByteAndStringCodeLemmas.{insns_step, with_insns-none, resets-next, resets-past}
use Rattle.regress_program.proofs.emit.emitter.Emitter.emit_group_resets.Goals as goal

pub loop-id-preserved : goal.loop-id-preserved
loop-id-preserved c =
    let id = c.loop-id.id in
    let end = c.args.end in
    insns_step _ (group_reset_insns (id + 1) end) (emitter_state c.loop-id.self) (emitter_state c.append_insn.new.self) c.in_ok-append_insn.ensures
    ∙ sym (ap (λ xs. with_insns_appended xs (emitter_state c.loop-id.self)) (resets-next id end c.loop-id-test.true)) ∙ c.loop-id.invariant

pub returns : goal.returns
returns c =
    sym (with_insns-none (emitter_state c.loop-id.self)) ∙ sym (ap (λ xs. with_insns_appended xs (emitter_state c.loop-id.self)) (resets-past c.loop-id.id c.args.end c.loop-id-test.false)) ∙ c.loop-id.invariant
