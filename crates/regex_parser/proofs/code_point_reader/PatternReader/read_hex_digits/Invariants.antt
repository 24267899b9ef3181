use Rattle.std.proofs.Common.{◌≤◌, length}
use Rattle.regex_parser.proofs.NumberReaderLemmas.{HexSoFar}
use Rattle.regex_parser.proofs.code_point_reader.PatternReader.read_hex_digits.Given as goal

abbrev pub invariant-loop : goal.invariant-loop
invariant-loop l = record {
  moves : length l.self.rest.now ≤ length l.fn.self.rest.now;
  leading_digits : l.count ≤ 4 → HexSoFar l.counter l.fn.self.rest.now l.value l.self.rest.now;
}
