use Rattle.std.proofs.Common.{◌∙◌, ap, slice_get}
use Rattle.std.proofs.lemmas.Result.{IfOk-weaker}
use Rattle.use_modules.proofs.laws.find_first.Goals as goal

pub returns : goal.returns
returns c = λ flags pattern tree is parsed.
    let same = (c.searches_follow_the_pattern.ensures flags pattern c.args.re.now tree is parsed c.args.text.now 0).0 in
    IfOk-weaker c.find.result _ _ (λ m first. first ∙ ap (λ ms. slice_get ms 0) same) c.find.ensures.first
