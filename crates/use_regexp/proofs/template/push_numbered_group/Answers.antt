use Rattle.std.proofs.Common.{◌∙◌, ◌++◌, ap, refl, sym, subst}
use Rattle.std.proofs.lemmas.List.{take_rest}
use Rattle.std.specs.Prelude.{IfSome}
use Rattle.regex_meaning.specs.Replace.{text_of}
use Rattle.regress_search.specs.MatchesAsSpecAnswers.{answer_of}
use Rattle.regress_match.specs.ExpansionsAndMatchRanges.{IsRangeWithinUnits}
use Rattle.use_regexp.proofs.TemplateLemmas.{group-within, one-written, two-written}
use Rattle.use_regexp.proofs.template.push_numbered_group.Goals as goal

pub returns-then-has_group_of_number : goal.returns-then-has_group_of_number
returns-then-has_group_of_number c =
    let text = c.args.text.now in
    let m = answer_of c.args.found.now in
    two-written text m c.args.out.now.items c.push_range.new.out.items _ c.args.rest.now c.args.digit c.from-one.result c.two_digit_number_or_zero-two.result
    c.from-one.ensures c.two_digit_number_or_zero-two.ensures (sym c.has_group_of_number.ensures ∙ c.if-has_group_of_number.true)
    (c.in_ok-push_range.ensures m ∙ ap (λ g. c.args.out.now.items ++ text_of text m g) c.group.ensures) (take_rest c.args.rest.now 1)

pub push_range-requires-then-has_group_of_number-2 : goal.push_range-requires-then-has_group_of_number-2
push_range-requires-then-has_group_of_number-2 c =
    subst (λ g. IfSome g (IsRangeWithinUnits c.args.text.now)) (sym c.group-then-has_group_of_number-2.ensures)
    (group-within c.args.text.now (answer_of c.args.found.now) c.from-one.result c.requires.fits)

pub returns-then-has_group_of_number-2 : goal.returns-then-has_group_of_number-2
returns-then-has_group_of_number-2 c =
    let text = c.args.text.now in
    let m = answer_of c.args.found.now in
    one-written text m c.args.out.now.items c.push_range-then-has_group_of_number-2.new.out.items _ c.args.rest.now c.args.digit c.from-one.result c.two_digit_number_or_zero-two.result
    c.from-one.ensures c.two_digit_number_or_zero-two.ensures (sym c.has_group_of_number.ensures ∙ c.if-has_group_of_number.false) (sym c.has_group_of_number-2.ensures ∙ c.if-has_group_of_number-2.true)
    (c.in_ok-push_range-2.ensures m ∙ ap (λ g. c.args.out.now.items ++ text_of text m g) c.group-then-has_group_of_number-2.ensures) refl
