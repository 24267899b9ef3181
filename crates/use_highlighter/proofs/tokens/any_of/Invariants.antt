use Rattle.std.proofs.Common.{◌≡◌, ◌++◌, codes, flat_map, string_bytes, take}
use Rattle.use_highlighter.specs.Tokens.{alternative_for_token}
use Rattle.use_highlighter.proofs.tokens.any_of.Given as goal

abbrev pub invariant-loop-token : goal.invariant-loop-token
invariant-loop-token l = string_bytes l.any ≡ codes "[]" ++ flat_map alternative_for_token (take l.token-index l.tokens)
