use Rattle.std.proofs.Common.{Bool, sym, ap, ◌∙◌, subst}
use Rattle.std.specs.Prelude.{min}
use Rattle.regress_program.specs.TableKeysOfUnits.{is_16_bit_width, HasKeysBetween}
use Rattle.regress_program.proofs.IntervalReadLengthLemmas.{bytes-between}
use Rattle.regress_program.proofs.table_keys_of_units.non_ascii_keys_of_interval.Goals as goal

pub returns-in-Bytes-clause-between : goal.returns-in-Bytes-clause-between
returns-in-Bytes-clause-between c =
    let P : Bool → Type 0 = λ wide. HasKeysBetween wide c.args.interval c.first_byte.result c.min.result in
    subst P (sym (ap is_16_bit_width c.in-Bytes.is))
    (bytes-between c.args.interval c.max-first.result c.first_byte.result c.min.result c.max-first.ensures c.first_byte.ensures
    (c.min.ensures ∙ ap (λ n. min n 255) c.first_byte-in-Bytes.ensures))
