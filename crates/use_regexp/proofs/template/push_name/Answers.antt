use Rattle.std.proofs.Common.{◌≡◌, ◌∙◌, ◌++◌, ap, sym, subst}
use Rattle.std.specs.Prelude.{IfSome, None, Some, if◌then◌else◌, option_map, string_bytes}
use Rattle.std.specs.List.{list_all}
use Rattle.std.proofs.lemmas.Result.{IfOk-weaker}
use Rattle.regex_meaning.specs.Replace.{text_of}
use Rattle.regress_search.specs.MatchesAsSpecAnswers.{answer_of}
use Rattle.regress_match.specs.ExpansionsAndMatchRanges.{IsRangeWithinUnits}
use Rattle.use_regexp.specs.Template.{is_ascii}
use Rattle.use_regexp.proofs.TemplateLemmas.{named-text-is, named-within}
use Rattle.use_regexp.proofs.template.push_name.Goals as goal

pub push_range-requires : goal.push_range-requires
push_range-requires c =
    subst (λ g. IfSome g (IsRangeWithinUnits c.args.text.now)) (sym c.named_group.ensures) (named-within c.args.text.now (answer_of c.args.found.now) c.deref.result.now c.requires)

pub returns-in-Some : goal.returns-in-Some
returns-in-Some c =
    let m = answer_of c.args.found.now in
    let name = c.args.name.now in
    let e : Some c.deref.result.now ≡ (if list_all is_ascii name then Some name else None) = ap Some c.deref.ensures ∙ ap (option_map string_bytes) (sym c.in-Some.is) ∙ c.in_ok-name.ensures in
    IfOk-weaker c.push_range.result _ _
    (λ x h. h m ∙ ap (λ t. c.args.out.now.items ++ t) (ap (text_of c.args.text.now m) c.named_group.ensures ∙ named-text-is c.args.text.now m name c.deref.result.now e)) c.push_range.ensures
