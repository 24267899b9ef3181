use Rattle.std.proofs.Common.{◌≡◌, ◌≢◌, ℕ, true, arith}
use Rattle.std.specs.Prelude.{slice_index_or}
use Rattle.regex_meaning.proofs.BoolLemmas.{and-left, and-right}
use Rattle.regress_program.specs.TableKeysOfUnits.{unit_table_of_set}
use Rattle.regress_program.proofs.AlternationDispatchLemmas.{below-more}
use Rattle.regress_program.proofs.first_set_type.FirstSet.contains_keys_of_class.Goals as goal

pub loop-key-preserved : goal.loop-key-preserved
loop-key-preserved c = λ both.
    let P : ℕ → Type 0 = λ k. slice_index_or c.args.class.now.steps k 0 ≢ 0 → (unit_table_of_set c.args.self.now).keys k ≡ true in
    below-more P c.loop-key.key (c.loop-key.invariant (and-left _ _ both)) (c.contains_key_of_class-contains.ensures (and-right _ _ both))

pub returns : goal.returns
returns c = λ yes k below. c.loop-key.invariant yes k (omega (arith, below, c.loop-key-test.false))
