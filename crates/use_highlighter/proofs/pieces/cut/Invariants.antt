use Rattle.std.proofs.Common.{false}
use Rattle.regress_match.specs.ProgramTreesAndAnswers.{utf8_answers}
use Rattle.regress_match.proofs.MatchRangeLemmas.{IsReached}
use Rattle.use_highlighter.specs.Tokens.{names_of}
use Rattle.use_highlighter.proofs.Rows.{IsCutTo}
use Rattle.use_highlighter.proofs.pieces.cut.Given as goal

abbrev pub invariant-loop-item : goal.invariant-loop-item
invariant-loop-item l = record {
  can : (goal.iterator-loop-item).can_next l.item-iterator;
  finite : (goal.iterator-loop-item).is_finite l.item-iterator;
  reached : IsReached l.text false l.from l.item-iterator;
  cut : IsCutTo l.text (names_of l.tokens) (utf8_answers l.re l.text 0) l.item-iterator.answers l.from l.pieces.items;
}
