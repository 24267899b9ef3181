use Rattle.std.proofs.Common.{◌∙◌, ◌++◌, ◌-◌, ◌+◌, ap, sym, arith, append-nil, length}
use Rattle.regress_search.specs.MatchesAsSpecAnswers.{answer_of}
use Rattle.use_regexp.specs.Template.{substitution}
use Rattle.use_regexp.proofs.TemplateLemmas.{said-more, said-none, said-out}
use Rattle.use_regexp.proofs.template.substitute.Goals as goal

pub returns-in_default : goal.returns-in_default
unfolding substitution
returns-in_default c =
    let m = answer_of c.args.found.now in
    sym (append-nil c.signs.out.items)
    ∙ ap (λ t. c.signs.out.items ++ t) (sym (said-none c.args.text.now m (length c.args.template.now - c.signs._turn) c.signs.rest.now c.in_default.ensures.cases))
    ∙ c.signs.invariant

pub signs-preserved : goal.signs-preserved
signs-preserved c =
    said-more c.args.text.now (answer_of c.args.found.now) c.signs.out.items c.push_expansion_of_first_part.new.out.items _ c.signs.rest.now c.in-Some.behind.now c.in_ok-rest.rest.now
    c.in-Some.first.now (length c.args.template.now - c.signs._turn) (length c.args.template.now - (c.signs._turn + 1)) c.signs.invariant
    c.in-Some.ensures.cases.0 (omega (arith, c.signs-test.true)) c.in_ok-rest.ensures

pub returns : goal.returns
unfolding substitution
returns c =
    let m = answer_of c.args.found.now in
    sym (append-nil c.signs.out.items)
    ∙ ap (λ t. c.signs.out.items ++ t) (sym (said-out c.args.text.now m (length c.args.template.now - c.signs._turn) c.signs.rest.now (omega (arith, c.signs-test.false))))
    ∙ c.signs.invariant
