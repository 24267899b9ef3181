use Rattle.std.proofs.Common.{◌∙◌, ap, arith, rules, string_bytes}
use Rattle.std.proofs.lemmas.Str.Pattern.{split_once_first}
use Rattle.regress_search.specs.MatchesAsSpecAnswers.{answer_of}
use Rattle.regress_match.specs.ReplacementPartsAsSpecParts.{spec_parts_of_substitution}
use Rattle.regress_match.proofs.ReplacementExpansionLemmas.{expansion-more, expansion-end, left-less}
use Rattle.regress_match.proofs.api.replace.expansion.expand.Goals as goal

pub loop-before-preserved : goal.loop-before-preserved
loop-before-preserved c =
    let cut = rw c.in-Some.is at (split_once_first 36 c.loop-before.rest.now c.split_once.result c.split_once.ensures.cases (omega arith)) in (
      search rules,
      expansion-more c.args.text.now (answer_of c.args.found.now) c.loop-before.rest.now c.in-Some.before.now c.in-Some.behind.now c.read_dollar_substitution.result.1.now (spec_parts_of_substitution c.read_dollar_substitution.result.0)
          (string_bytes c.loop-before.out) (string_bytes c.push_str.new.self) (string_bytes c.append_part_expansion.new.out) _ cut.0
          (ap (λ x. x.now) c.in-Some.before-is ∙ cut.1) (ap (λ x. x.now) c.in-Some.behind-is ∙ cut.2) c.read_dollar_substitution.ensures c.in_ok-push_str.ensures.bytes c.in_ok-append_part_expansion.ensures
          c.loop-before.invariant.1,
    )

pub loop-before-smaller : goal.loop-before-smaller
loop-before-smaller c =
    let cut = rw c.in-Some.is at (split_once_first 36 c.loop-before.rest.now c.split_once.result c.split_once.ensures.cases (omega arith)) in
    left-less c.loop-before.rest.now c.in-Some.behind.now c.read_dollar_substitution.result.1.now (spec_parts_of_substitution c.read_dollar_substitution.result.0) cut.0 (ap (λ x. x.now) c.in-Some.behind-is ∙ cut.2) c.read_dollar_substitution.ensures

pub returns : goal.returns
returns c =
    let none = rw c.in_default.is at (split_once_first 36 c.loop-before.rest.now c.split_once.result c.split_once.ensures.cases (omega arith)) in
    expansion-end c.args.text.now (answer_of c.args.found.now) c.push_str-2.result _ (string_bytes c.loop-before.out) c.loop-before.rest.now _ c.push_str-2.ensures.bytes c.loop-before.invariant.1 none
