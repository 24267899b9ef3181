use Rattle.std.proofs.Common.{get_or}
use Rattle.regress_program.specs.RequiredPrefixAnalysis.{joined_masks}
use Rattle.regress_program.proofs.RequiredPrefixLemmas.{AreChanged}
use Rattle.regress_program.proofs.required_prefix_types.Prefix.add_prefix.Given as goal

abbrev pub invariant-loop-key : goal.invariant-loop-key
invariant-loop-key l = AreChanged l.fn.self.masks l.self.masks (λ k mask. joined_masks mask l.fn.self.len (get_or l.behind.masks k 0)) l.key
