use Rattle.std.proofs.Common.{◌≡◌, ◌++◌, filter, take}
use Rattle.regex_parser.specs.CaseVariantContracts.{is_on_side}
use Rattle.regex_parser.proofs.case_variants.push_one_side.Given as goal

abbrev pub invariant-loop-number : goal.invariant-loop-number
invariant-loop-number l = l.members.items ≡ l.fn.members.items ++ filter (is_on_side l.c l.is_below) (take l.number-index l.numbers)
