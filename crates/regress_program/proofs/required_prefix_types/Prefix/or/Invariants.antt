use Rattle.std.proofs.Common.{bit_and, get_or}
use Rattle.regress_program.specs.RequiredPrefixAnalysis.{joined_masks}
use Rattle.regress_program.proofs.RequiredPrefixLemmas.{AreChanged}
use Rattle.regress_program.proofs.required_prefix_types.Prefix.or.Given as goal

abbrev pub invariant-loop-key : goal.invariant-loop-key
invariant-loop-key l = AreChanged l.fn.self.masks l.self.masks (λ k mask. joined_masks (bit_and mask (get_or l.other.masks k 0)) l.len 65535) l.key
