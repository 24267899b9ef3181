use Rattle.std.proofs.Common.{inl}
use Rattle.std.proofs.lemmas.Str.{IsCharBoundary-start}
use Rattle.test_trials.proofs.explosions.quotient_for_text.Goals as goal

pub find_from-requires : goal.find_from-requires
find_from-requires c = inl (IsCharBoundary-start c.args.text.now c.utf8.text)
