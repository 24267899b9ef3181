use Rattle.std.proofs.Common.{◌∙◌}
use Rattle.std.proofs.lemmas.Result.{IfOk-weaker}
use Rattle.use_modules.proofs.laws.replace_by_itself.Goals as goal

pub returns : goal.returns
returns c =
    IfOk-weaker c.replace_all.result _ _ (λ s made. made ∙ (c.replacing_by_match_keeps_text.ensures c.args.re.now c.args.text.now).1) c.replace_all.ensures.made
