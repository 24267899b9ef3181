use Rattle.std.proofs.Common.{◌<◌, length, ◌^◌, ◌-◌}
use Rattle.regex_parser.proofs.NumberReaderLemmas.{NumberSoFar}
use Rattle.regex_parser.proofs.code_point_reader.PatternReader.read_number_in_base.Given as goal

abbrev pub invariant-loop-digit : goal.invariant-loop-digit
invariant-loop-digit l = record {
  moves : length l.self.rest.now < length l.fn.self.rest.now;
  number : NumberSoFar l.radix (2 ^ 64 - 1) l.fn.self.rest.now l.value l.self.rest.now;
}

abbrev pub decreases-loop-digit : goal.decreases-loop-digit
decreases-loop-digit l = length l.self.rest.now
