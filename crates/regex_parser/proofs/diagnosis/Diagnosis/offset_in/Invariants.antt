use Rattle.std.proofs.Common.{◌-◌, ◌≤◌}
use Rattle.regex_parser.proofs.PatternPositionLemmas.{StandsBehind}
use Rattle.regex_parser.proofs.diagnosis.Diagnosis.offset_in.Given as goal

abbrev pub invariant-loop-left : goal.invariant-loop-left
invariant-loop-left l = record { few : l.left ≤ l.fn.self.at; behind : StandsBehind l.pattern l.rest.rest.now (l.fn.self.at - l.left) }
