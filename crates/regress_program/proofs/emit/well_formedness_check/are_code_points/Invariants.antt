use Rattle.std.proofs.Common.{◌≡◌, drop}
use Rattle.std.specs.Prelude.{nat_le}
use Rattle.std.specs.List.{list_all}
use Rattle.regress_program.specs.EmitterStateAndAppendedCode.{strings_as_code_points}
use Rattle.regress_program.proofs.emit.well_formedness_check.are_code_points.Given as goal

abbrev pub invariant-loop-string : goal.invariant-loop-string
invariant-loop-string l =
    list_all (list_all (λ c. nat_le c 0x10_FFFF)) (drop l.string-index (strings_as_code_points l.strings)) ≡ list_all (list_all (λ c. nat_le c 0x10_FFFF)) (strings_as_code_points l.strings)
