use Rattle.std.proofs.Common.{inl, refl}
use Rattle.std.proofs.lemmas.Str.{IsCharBoundary-start}
use Rattle.regress_match.specs.ProgramTreesAndAnswers.{tree_for_byte_units}
use Rattle.regress_match.proofs.SearchStartLemmas.{utf8_start}
use Rattle.test_trials.proofs.checks.does_pikevm_agree.Goals as goal

pub find-requires : goal.find-requires
find-requires c = λ lifetimes.
    ((refl, tt), (tt, utf8_start _ c.args.text.now (tree_for_byte_units c.args.re.now).flags.unicode refl c.utf8.text 0 (inl (IsCharBoundary-start c.args.text.now c.utf8.text))))
