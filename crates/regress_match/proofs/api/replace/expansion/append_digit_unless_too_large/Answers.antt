use Rattle.std.proofs.Common.{rules}
use Rattle.regress_match.proofs.ReplacementExpansionLemmas.{behind-first}
use Rattle.regress_match.proofs.api.replace.expansion.append_digit_unless_too_large.Goals as goal

pub range_from-requires : goal.range_from-requires
range_from-requires c =
    λ _. behind-first c.args.digits.now c.as_bytes.result.now c.in-Some-48-to-57.digit.now c.as_bytes.ensures.value c.utf8.digits c.in-Some-48-to-57.ensures.value (search rules)
