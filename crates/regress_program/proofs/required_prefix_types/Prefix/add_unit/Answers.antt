use Rattle.std.proofs.Common.{rules, ◌≡◌, ◌<◌, length, refl}
use Rattle.regress_program.proofs.RequiredPrefixLemmas.{unit-cleared}
use Rattle.regress_program.proofs.required_prefix_types.Prefix.add_unit.Goals as goal

pub returns : goal.returns
returns c =
    let sized : length c.args.self.now.masks ≡ 256 = search rules in
    let low : c.from.result < 256 = search rules in
    unit-cleared c.args.self.now _ c.args.key c.from.result c.mask_without_bits.result c.from.ensures sized low c.requires refl c.mask_without_bits.ensures refl
