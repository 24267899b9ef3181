use Rattle.std.proofs.Common.{refl}
use Rattle.regress_match.specs.ProgramTreesAndAnswers.{tree_for_byte_units}
use Rattle.regress_match.proofs.SearchStartLemmas.{ascii_start}
use Rattle.test_searches.proofs.backends.write_ascii_matches_by_named_executor.Goals as goal

pub find_ascii-requires : goal.find_ascii-requires
find_ascii-requires c = λ lifetimes.
    ((refl, tt), (c.requires, ascii_start _ c.args.text.now (tree_for_byte_units c.args.re.now).flags.unicode refl c.args.start))
