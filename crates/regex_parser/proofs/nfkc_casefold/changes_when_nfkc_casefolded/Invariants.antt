use Rattle.std.proofs.Common.{not}
use Rattle.regex_meaning.specs.UnicodeProperties.{is_nfkc_casefolded}
use Rattle.regex_parser.proofs.NfkcCasefoldLemmas.{HoldsBelow}
use Rattle.regex_parser.proofs.nfkc_casefold.changes_when_nfkc_casefolded.Given as goal

abbrev pub invariant-loop-c : goal.invariant-loop-c
invariant-loop-c l = HoldsBelow (λ d. not (is_nfkc_casefolded d)) l.intervals.items l.c
