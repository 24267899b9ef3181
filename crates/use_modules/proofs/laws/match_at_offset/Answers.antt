use Rattle.std.proofs.Common.{◌∙◌}
use Rattle.std.proofs.lemmas.Result.{IfOk-weaker}
use Rattle.use_modules.proofs.laws.match_at_offset.Goals as goal

pub returns : goal.returns
returns c = λ flags pattern tree is parsed.
    let same = (c.matches_at_offsets_follow_the_pattern.ensures.profile flags pattern c.args.re.now tree is parsed c.args.text.now c.args.at).0 in
    IfOk-weaker c.match_at.result _ _ (λ m found. found ∙ same) c.match_at.ensures.found
