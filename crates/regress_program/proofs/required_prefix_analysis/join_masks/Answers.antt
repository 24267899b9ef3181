use Rattle.std.proofs.Common.{◌-◌, ◌*◌, ◌%◌, ◌^◌, bit_and, bit_or, ap}
use Rattle.std.proofs.lemmas.Nat.{one_shl}
use Rattle.regress_program.proofs.required_prefix_analysis.join_masks.Goals as goal

pub returns : goal.returns
returns c = ap (λ n. bit_or (bit_and c.args.first (n - 1)) (c.args.behind * 2 ^ c.args.count % 2 ^ 16)) (one_shl c.args.count 16 c.requires)
