use Rattle.std.proofs.Common.{◌≡◌, ◌+◌, ◌-◌, ◌<◌, ◌^◌, min, drop}
use Rattle.regress_program.specs.EmitterStateAndAppendedCode.{strings_as_code_points}
use Rattle.regress_program.proofs.ByteAndStringCodeLemmas.{front_size}
use Rattle.regress_program.proofs.emit.byte_sequences_and_string_sets.insn_count_of_strings.Given as goal

abbrev pub invariant-loop-string : goal.invariant-loop-string
invariant-loop-string l = record {
  fits : l.size < 2 ^ 64;
  sum : min (l.size + front_size (strings_as_code_points (drop l.string-index l.others))) (2 ^ 64 - 1) ≡ min (l.initial.size + front_size (strings_as_code_points l.others)) (2 ^ 64 - 1);
}
