use Rattle.std.proofs.Common.{rules, ◌≡◌, ◌<◌, Bool, true, false, length, bit_and, get_or, refl, sym, ap, ◌∙◌, arith}
use Rattle.std.specs.Prelude.{if◌then◌else◌}
use Rattle.std.proofs.lemmas.List.{get_or_default}
use Rattle.regress_program.specs.TableKeysOfUnits.{unit_table_of_set}
use Rattle.regress_program.proofs.RequiredPrefixLemmas.{change-none, change-next, units-cleared}
use Rattle.regress_program.proofs.required_prefix_types.Prefix.add_units.Goals.{then-set-key, else-set-key}
use Rattle.regress_program.proofs.required_prefix_types.Prefix.add_units.Goals as goal

pub loop-key-init : goal.loop-key-init
loop-key-init c = (refl, change-none c.args.self.now.masks _ (search rules))

pub loop-key-preserved : goal.loop-key-preserved
loop-key-preserved c =
    let mask = get_or c.loop-key.self.masks c.loop-key.key 0 in
    let keys = c.args.set.now.keys in
    let chosen = λ (b : Bool). if b then c.mask_without_bits-kept.result else 65535 in
    let inside : c.loop-key.key < length keys = search rules in
    let default : get_or keys c.loop-key.key false ≡ get_or keys c.loop-key.key true = get_or_default keys c.loop-key.key false true inside in
    let is : c.if-set-key.self ≡ chosen (get_or keys c.loop-key.key false) = elim c.if-set-key.branch [
      | then-set-key w ↦ w.self-is ∙ ap chosen (sym w.if-set-key.true)
      | else-set-key w ↦ w.self-is ∙ ap chosen (sym w.if-set-key.false)
    ] in (
      c.loop-key.invariant.0,
      change-next c.args.self.now.masks c.loop-key.self.masks _ c.loop-key.key (bit_and mask c.if-set-key.self) c.loop-key.invariant.1 c.loop-key-test.true
          (ap (bit_and mask) (is ∙ ap chosen default)),
    )

pub invariant_of-self-2 : goal.invariant_of-self-2
invariant_of-self-2 c =
    let short = c.args.self.now.short in record { short = omega (arith, short, c.min-more.ensures, c.loop-key.invariant.0) }

pub returns : goal.returns
returns c =
    let short = c.args.self.now.short in
    units-cleared c.args.self.now _ c.args.count c.mask_without_bits-kept.result (unit_table_of_set c.args.set.now).keys c.loop-key.invariant.1.sized
    (omega (arith, short, c.min-more.ensures, c.loop-key.invariant.0))
    (λ ahead more less. c.mask_without_bits-kept.ensures ahead more (omega (arith, less, c.loop-key.invariant.0)))
    (λ k below. c.loop-key.invariant.1.changed k (omega (arith, below, c.loop-key-test.false)))
