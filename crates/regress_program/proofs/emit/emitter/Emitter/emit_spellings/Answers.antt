use Rattle.std.proofs.Common.{arith, ap, length}
use Rattle.regress_program.proofs.emit.emitter.Emitter.emit_spellings.Goals as goal
use Rattle.regex_pattern_front.proofs.GrouplessNodeLemmas.{few_members}

pub insn_of_case_variants-requires : goal.insn_of_case_variants-requires
insn_of_case_variants-requires c = omega (arith, few_members c.args.c c.args.icase c.args.mode.unicode, ap length c.in_ok-members.ensures, ap length c.deref.ensures.value)
