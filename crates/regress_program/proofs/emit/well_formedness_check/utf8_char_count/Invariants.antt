use Rattle.std.proofs.Common.{◌≡◌, ◌+◌, ◌≤◌, drop}
use Rattle.regress_program.proofs.Utf8CharCountLemmas.{left_count}
use Rattle.regress_program.proofs.emit.well_formedness_check.utf8_char_count.Given as goal

abbrev pub invariant-loop-byte : goal.invariant-loop-byte
invariant-loop-byte l = record {
  counted : l.count ≤ l.byte-index;
  all : l.count + left_count l.left (drop l.byte-index l.rest) ≡ left_count l.initial.left l.rest;
}
