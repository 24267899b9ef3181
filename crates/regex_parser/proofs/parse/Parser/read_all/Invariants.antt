use Rattle.std.proofs.Common.{length}
use Rattle.regex_parser.proofs.ParserContractsLemmas.{GoesOn}
use Rattle.regex_parser.proofs.parse.Parser.read_all.Given as goal

abbrev pub invariant-loop-c : goal.invariant-loop-c
invariant-loop-c l = GoesOn l.fn.self.leaves.reader.rest.now l.fn.self l.self

abbrev pub decreases-loop-c : goal.decreases-loop-c
decreases-loop-c l = length l.self.leaves.reader.rest.now
