-- The key is that of the first unit, which the end of the table does not cut.
use Rattle.std.proofs.Common.{◌≡◌, true, ap, ◌∙◌}
use Rattle.regress_program.specs.TableKeysOfUnits.{is_16_bit_width, key}
use Rattle.regress_program.proofs.TableKeysOfUnitsLemmas.{first-key-cut, key_of_first, key-low, key-high}
use Rattle.regress_program.proofs.table_keys_of_units.key_of_first_unit.Goals as goal
use Rattle.regress_program.proofs.table_keys_of_units.key_of_first_unit.Goals.{in-Bytes, in-Wide+then-unit-lt128, in-Wide+else-unit-lt128}

pub returns-clause-is : goal.returns-clause-is
returns-clause-is c = λ e wide character.
    let same : c.match-units.key ≡ key_of_first (is_16_bit_width c.args.units) c.args.c =
    elim c.match-units.branch [
      | in-Bytes w ↦ rw w.in-Bytes.is (w.key-is ∙ w.first_byte-key.ensures)
      | in-Wide+then-unit-lt128 w ↦
          rw w.in-Wide.is
          (key-low w.first_unit-unit.result c.match-units.key w.if-unit-lt128.true w.key-is ∙ ap (key true) w.first_unit-unit.ensures)
      | in-Wide+else-unit-lt128 w ↦
          rw w.in-Wide.is
          (key-high w.first_unit-unit.result c.match-units.key w.if-unit-lt128.false w.key-is ∙ ap (key true) w.first_unit-unit.ensures)
    ] in
    first-key-cut e (is_16_bit_width c.args.units) wide c.args.c c.min.result c.match-units.key character same c.min.ensures
