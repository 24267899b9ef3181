use Rattle.std.proofs.Common.{◌≡◌, take}
use Rattle.regex_parser.specs.CaseVariantContracts.{matching_seconds}
use Rattle.regex_parser.proofs.case_variants.matching_seconds.Given as goal

abbrev pub invariant-loop-pair : goal.invariant-loop-pair
invariant-loop-pair l = l.seconds.items ≡ matching_seconds l.unicode (take l.pair-index l.pairs)
