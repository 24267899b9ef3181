use Rattle.std.proofs.Common.{◌≡◌, ◌++◌, map}
use Rattle.regress_search.specs.MatchesAsSpecAnswers.{answer_of}
use Rattle.regress_match.specs.ProgramTreesAndAnswers.{utf8_answers}
use Rattle.use_modules.proofs.all_matches.matches_of.Given as goal

abbrev pub invariant-loop-item : goal.invariant-loop-item
invariant-loop-item l = record {
  can : (goal.iterator-loop-item).can_next l.item-iterator;
  finite : (goal.iterator-loop-item).is_finite l.item-iterator;
  found : map answer_of l.all.items ++ l.item-iterator.answers ≡ utf8_answers l.re l.text 0;
}
