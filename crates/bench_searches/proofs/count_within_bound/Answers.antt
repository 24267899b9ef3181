use Rattle.std.proofs.Common.{inl}
use Rattle.std.proofs.lemmas.Str.{IsCharBoundary-start}
use Rattle.bench_searches.proofs.count_within_bound.Goals as goal

pub find_from-requires : goal.find_from-requires
find_from-requires c = inl (IsCharBoundary-start c.args.text.now c.utf8.text)
