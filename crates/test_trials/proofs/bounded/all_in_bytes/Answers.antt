use Rattle.std.proofs.Common.{inl}
use Rattle.std.proofs.lemmas.Str.{IsCharBoundary-start}
use Rattle.test_trials.proofs.bounded.all_in_bytes.Goals as goal

pub find_from-requires : goal.find_from-requires
find_from-requires c = inl (IsCharBoundary-start c.args.text.now c.utf8.text)

pub find_from_in_work-requires : goal.find_from_in_work-requires
find_from_in_work-requires c = inl (IsCharBoundary-start c.args.text.now c.utf8.text)
