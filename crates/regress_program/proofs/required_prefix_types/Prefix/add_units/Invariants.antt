use Rattle.std.proofs.Common.{◌≡◌, true, bit_and, get_or}
use Rattle.std.specs.Prelude.{if◌then◌else◌}
use Rattle.regress_program.proofs.RequiredPrefixLemmas.{AreChanged}
use Rattle.regress_program.proofs.required_prefix_types.Prefix.add_units.Given as goal

abbrev pub invariant-loop-key : goal.invariant-loop-key
invariant-loop-key l =
    (l.self.len ≡ l.fn.self.len) × AreChanged l.fn.self.masks l.self.masks (λ k mask. bit_and mask (if get_or l.set.keys k true then l.kept else 65535)) l.key
