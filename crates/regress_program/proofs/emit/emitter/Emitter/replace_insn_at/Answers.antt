use Rattle.std.proofs.Common.{refl}
use Rattle.std.proofs.lemmas.List.{map-set}
use Rattle.regress_program.specs.InsnsAsSpec.{insn_as_spec_insn}
use Rattle.regress_program.specs.EmitterStateAndAppendedCode.{emitter_state, with_insn_at}
use Rattle.regress_program.proofs.AppendedCodeLemmas.{same_state}
use Rattle.regress_program.proofs.emit.emitter.Emitter.replace_insn_at.Goals as goal

pub returns : goal.returns
returns c =
    same_state _ (with_insn_at c.args.place (insn_as_spec_insn c.args.insn) (emitter_state c.args.self.now))
    (map-set insn_as_spec_insn c.args.self.now.insns.items c.args.place c.args.insn) refl refl
