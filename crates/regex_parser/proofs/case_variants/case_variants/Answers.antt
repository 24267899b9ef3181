use Rattle.std.proofs.Common.{filter, true, false, sym, ap, subst, ◌∙◌, ◌++◌}
use Rattle.regex_meaning.specs.Canonical.{AreCaseVariants}
use Rattle.regex_parser.specs.CaseVariantContracts.{is_on_side}
use Rattle.regex_parser.proofs.CaseVariantLemmas.{all-variants, pushed}
use Rattle.regex_parser.proofs.case_variants.case_variants.Goals as goal

pub returns : goal.returns
returns c =
    let x = c.args.c in
    let others = c.in_ok-others.others.items in
    let all = pushed x _ _ _ _ others c.new-members.ensures.items
    (c.in_ok-push_one_side.ensures ∙ ap (λ v. c.new-members.result.items ++ filter (is_on_side x true) v) c.deref.ensures.value)
    c.in_ok-push.ensures.items
    (c.in_ok-push_one_side-2.ensures ∙ ap (λ v. c.push.new.self.items ++ filter (is_on_side x false) v) c.deref-2.ensures.value) in
    rw c.if-not-icase.false (subst (AreCaseVariants true c.args.unicode x) (sym all) (all-variants c.args.unicode x others c.in_ok-others.ensures))
