use Rattle.std.proofs.Common.{◌≡◌, ◌++◌, ℕ, map, false}
use Rattle.regress_match.specs.ProgramTreesAndAnswers.{utf8_answers}
use Rattle.regress_match.proofs.MatchRangeLemmas.{IsReached}
use Rattle.use_grep.specs.Selecting.{matched_parts, start_and_text_of_part}
use Rattle.use_grep.proofs.select.matched_parts.Given as goal

abbrev pub invariant-loop-item : goal.invariant-loop-item
invariant-loop-item l = record {
  can : (goal.iterator-loop-item).can_next l.item-iterator;
  finite : (goal.iterator-loop-item).is_finite l.item-iterator;
  reached : (from : ℕ) × IsReached l.line false from l.item-iterator;
  parts : map start_and_text_of_part l.parts.items ++ matched_parts l.line l.item-iterator.answers ≡ matched_parts l.line (utf8_answers l.re l.line 0);
}
