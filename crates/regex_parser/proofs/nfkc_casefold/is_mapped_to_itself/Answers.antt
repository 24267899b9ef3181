use Rattle.std.proofs.Common.{sym, ◌∙◌, eqb-true}
use Rattle.regex_parser.proofs.NfkcCasefoldLemmas.{mapped-to-itself}
use Rattle.regex_parser.proofs.nfkc_casefold.is_mapped_to_itself.Goals as goal

pub returns-then-is_empty : goal.returns-then-is_empty
returns-then-is_empty c = λ h.
    mapped-to-itself c.args.c c.full_folding.result.now c.full_folding.ensures.value (eqb-true _ _ (sym c.is_empty.ensures ∙ c.if-is_empty.true))
    (sym c.decomposition.ensures.value ∙ c.is_single_char.ensures h)
