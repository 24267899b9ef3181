use Rattle.std.proofs.Common.{string_bytes}
use Rattle.regress_match.specs.StringClosures.{ClosureCanBeCalled}
use Rattle.regress_match.proofs.MatchRangeLemmas.{IsReached}
use Rattle.regress_match.proofs.ClosureReplacementLemmas.{IsBegun}
use Rattle.regress_match.proofs.api.replace.closures.replace_each_match.Given as goal

abbrev pub invariant-loop-item : goal.invariant-loop-item
invariant-loop-item g l = record {
  can : (goal.iterator-loop-item g).can_next l.item-iterator;
  finite : (goal.iterator-loop-item g).is_finite l.item-iterator;
  reached : IsReached l.text l.fn.matches.limited l.from l.item-iterator;
  callable : ClosureCanBeCalled (goal.F-pre g l.with) l.item-iterator.answers;
  begun : IsBegun (goal.F-post g l.with) string_bytes l.text l.fn.matches.answers l.item-iterator.answers l.from (string_bytes l.made);
}
