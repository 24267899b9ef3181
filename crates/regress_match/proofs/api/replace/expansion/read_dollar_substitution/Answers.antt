use Rattle.std.proofs.Common.{rules}
use Rattle.regress_match.proofs.ReplacementExpansionLemmas.{behind-first}
use Rattle.regress_match.proofs.api.replace.expansion.read_dollar_substitution.Goals as goal

pub range_from-requires : goal.range_from-requires
range_from-requires c =
    λ _. behind-first c.args.behind.now c.as_bytes.result.now _ c.as_bytes.ensures.value c.utf8.behind c.in-Some-eq36.ensures.value (search rules)
