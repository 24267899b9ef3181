use Rattle.regex_meaning.proofs.CaseVariantListLemmas.{are-case-variants}
use Rattle.regex_meaning.proofs.each_character_has_case_variants.Goals as goal

pub returns : goal.returns
returns c = are-case-variants
