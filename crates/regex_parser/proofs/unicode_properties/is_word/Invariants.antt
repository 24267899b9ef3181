use Rattle.std.proofs.Common.{◌≡◌, drop, nat_eq}
use lib.Pointwise.{pointwise}
use Rattle.regex_parser.proofs.unicode_properties.is_word.Given as goal

abbrev pub invariant-loop-i : goal.invariant-loop-i
invariant-loop-i l = pointwise nat_eq l.word l.name ≡ pointwise nat_eq (drop l.i l.word) (drop l.i l.name)
