use Rattle.std.proofs.Common.{◌∙◌, ap}
use Rattle.std.specs.Int.{bit_at}
use Rattle.regress_program.proofs.RequiredPrefixLemmas.{clear-between}
use Rattle.regress_program.proofs.required_prefix_analysis.mask_without_bits.Goals as goal

pub returns : goal.returns
returns c = λ ahead more less. ap (λ m. bit_at m ahead) c.join_masks.ensures ∙ clear-between c.args.from c.args.count ahead c.requires more less
