use Rattle.std.proofs.Common.{◌<◌, ◌≤◌, arith, length, subst}
use Rattle.std.specs.Prelude.{All}
use Rattle.std.proofs.lemmas.List.{take_all}
use Rattle.std.proofs.lemmas.List.Elements.{All-more}
use Rattle.use_highlighter.specs.Tokens.{HasValidPattern}
use Rattle.use_highlighter.proofs.tokens.compile.Goals as goal

pub loop-token-preserved : goal.loop-token-preserved
loop-token-preserved c =
    let inside : c.loop-token.token-index < length c.args.tokens.now = omega arith in
    All-more HasValidPattern c.args.tokens.now c.loop-token.token-index _ inside c.loop-token.invariant c.in_ok-refuse_invalid_token_pattern.ensures

pub returns-in-Ok-clause-alone : goal.returns-in-Ok-clause-alone
returns-in-Ok-clause-alone c =
    let past : length c.args.tokens.now ≤ c.loop-token.token-index = omega arith in
    subst (All HasValidPattern) (take_all c.loop-token.token-index c.args.tokens.now past) c.loop-token.invariant
