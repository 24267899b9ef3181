use denote.Shadow.{shadow}
use denote.Text.{Utf8}
use Rattle.test_trials.proofs.hostile.lists.are_expected_matches.Given as goal

abbrev pub invariant-loop-item : goal.invariant-loop-item
invariant-loop-item g l = record {
  can : (goal.iterator-loop-item g).can_next l.item-iterator;
  finite : (goal.iterator-loop-item g).is_finite l.item-iterator;
  words : shadow (Utf8 l.words);
}
