use Rattle.std.proofs.Common.{◌≡◌, take}
use Rattle.regex_meaning.specs.Outcomes.{in_intervals}
use Rattle.regex_parser.specs.CaseVariantContracts.{firsts_that_match}
use Rattle.regex_parser.proofs.case_variants.firsts_that_match.Given as goal

abbrev pub invariant-loop-pair : goal.invariant-loop-pair
invariant-loop-pair l = l.firsts.items ≡ firsts_that_match l.unicode (in_intervals l.set) (take l.pair-index l.pairs)
