use Rattle.std.proofs.Common.{sym, ap, subst, ◌∙◌}
use Rattle.regex_parser.specs.CaseVariantContracts.{AreOtherVariants, matching_seconds}
use Rattle.regex_parser.proofs.ClassReaderLemmas.{ok-map}
use Rattle.regex_parser.proofs.CaseVariantLemmas.{other-variants}
use Rattle.regex_parser.proofs.case_variants.other_case_variants.Goals as goal

pub returns : goal.returns
returns c =
    ok-map c.matching_seconds.result c.matching_seconds.ensures
    (λ v e. subst (AreOtherVariants c.args.unicode c.args.c) (sym (e ∙ ap (matching_seconds c.args.unicode) c.fold_pairs_between.ensures)) (other-variants c.args.unicode c.args.c))
