use Rattle.std.proofs.Common.{◌∙◌}
use Rattle.std.proofs.lemmas.Result.{IfOk-weaker}
use Rattle.use_modules.proofs.laws.find_each_in_ecmascript.Goals as goal

pub returns : goal.returns
returns c = λ flags pattern tree is parsed.
    let same = (c.searches_follow_the_ecmascript_pattern.ensures flags pattern c.args.re.now tree is parsed c.args.text.now 0).0 in
    IfOk-weaker c.find_iter.result _ _ (λ it yields. record { answers = yields.answers ∙ same; unlimited = yields.unlimited; text_end = yields.text_end }) c.find_iter.ensures.answers
