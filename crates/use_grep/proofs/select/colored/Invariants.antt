use Rattle.std.proofs.Common.{◌≡◌, ◌++◌, false, string_bytes}
use Rattle.regress_match.proofs.MatchRangeLemmas.{IsReached}
use Rattle.use_grep.specs.Selecting.{colored, colored_from}
use Rattle.use_grep.proofs.select.colored.Given as goal

abbrev pub invariant-loop-item : goal.invariant-loop-item
invariant-loop-item l = record {
  can : (goal.iterator-loop-item).can_next l.item-iterator;
  finite : (goal.iterator-loop-item).is_finite l.item-iterator;
  reached : IsReached l.line false l.from l.item-iterator;
  made : string_bytes l.made ++ colored_from l.line l.paint.start.now l.paint.end.now l.from l.item-iterator.answers ≡ colored l.re l.line l.paint.start.now l.paint.end.now;
}
