use Rattle.std.proofs.Common.{◌≡◌, length}
use denote.Text.{Utf8}
use denote.Shadow.{shadow}
use Rattle.regex_meaning.specs.Replace.{parse_digits_of_group_number}
use Rattle.regress_match.proofs.api.replace.expansion.read_number.Given as goal

abbrev pub invariant-loop-more : goal.invariant-loop-more
invariant-loop-more l = shadow (Utf8 l.left) × (parse_digits_of_group_number l.number l.left ≡ parse_digits_of_group_number 0 l.digits)

abbrev pub decreases-loop-more : goal.decreases-loop-more
decreases-loop-more l = length l.left
