use Rattle.std.proofs.Common.{refl, rules}
use Rattle.regress_match.specs.ProgramTreesAndAnswers.{tree_for_byte_units}
use Rattle.regress_match.proofs.SearchStartLemmas.{utf8_start}
use Rattle.test_searches.proofs.backends.write_matches_by_named_executor.Goals as goal

pub find-requires : goal.find-requires
find-requires c = λ lifetimes.
    ((refl, tt), (tt, utf8_start _ c.args.text.now (tree_for_byte_units c.args.re.now).flags.unicode refl c.utf8.text c.args.start (search rules)))
