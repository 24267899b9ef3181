use Rattle.std.proofs.Common.{◌+◌, ap, sym}
use Rattle.regex_meaning.proofs.CodeUnitLengthLemmas.{utf8_text-units}
use Rattle.regress_match.specs.ProgramTreesAndAnswers.{tree_for_byte_units}
use Rattle.use_validator.proofs.Decided.{enough-same}
use Rattle.use_validator.proofs.judge.enough.Goals as goal

pub returns : goal.returns
returns c =
    let units = utf8_text-units c.args.text.now (tree_for_byte_units c.args.bounded.now.re).flags.unicode c.utf8.text in
    enough-same c.checked_mul.result _ _ _ _ c.checked_mul.ensures c.work_per_unit.ensures.number (ap (λ n. n + 1) (sym units))
