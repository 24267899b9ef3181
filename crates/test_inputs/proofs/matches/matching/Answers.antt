use Rattle.std.proofs.Common.{refl, arith}
use Rattle.test_inputs.proofs.matches.matching.Goals as goal

pub past_match-requires-8 : goal.past_match-requires-8
unfolding lib.Utf8.encode
past_match-requires-8 g c = (omega arith, (0x7A, refl, refl))

pub past_match-requires-9 : goal.past_match-requires-9
unfolding lib.Utf8.encode
past_match-requires-9 g c = (omega arith, (0x20AC, refl, refl))
