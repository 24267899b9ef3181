use Rattle.std.proofs.Common.{take}
use Rattle.std.specs.Prelude.{All}
use Rattle.use_highlighter.specs.Tokens.{HasValidPattern}
use Rattle.use_highlighter.proofs.tokens.compile.Given as goal

abbrev pub invariant-loop-token : goal.invariant-loop-token
invariant-loop-token l = All HasValidPattern (take l.token-index l.tokens)
