use Rattle.std.proofs.Common.{inl}
use Rattle.std.proofs.lemmas.Str.{IsCharBoundary-start}
use Rattle.test_trials.proofs.limits.yields.Goals as goal

pub find_from_limited-requires : goal.find_from_limited-requires
find_from_limited-requires c = inl (IsCharBoundary-start c.args.text.now c.utf8.text)
