use Rattle.std.proofs.Common.{inl}
use Rattle.std.proofs.lemmas.Str.{IsCharBoundary-start}
use Rattle.bench_searches.proofs.count_in_work.Goals as goal

pub find_from_in_work-requires : goal.find_from_in_work-requires
find_from_in_work-requires c = inl (IsCharBoundary-start c.args.text.now c.utf8.text)
