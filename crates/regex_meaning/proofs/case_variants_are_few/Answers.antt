use Rattle.regex_meaning.proofs.CaseVariantListLemmas.{few-case-variants}
use Rattle.regex_meaning.proofs.case_variants_are_few.Goals as goal

pub returns : goal.returns
returns c = few-case-variants
