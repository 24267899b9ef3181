use Rattle.std.proofs.Common.{◌≡◌, arith}
use Rattle.regex_parser.proofs.NumberReaderLemmas.{hex-none, hex-next, hex-short, hex-end}
use Rattle.regex_parser.proofs.code_point_reader.PatternReader.read_hex_digits.Goals as goal

pub loop-init : goal.loop-init
loop-init c = record { moves = omega arith; leading_digits = λ h. hex-none _ }

pub loop-preserved : goal.loop-preserved
loop-preserved c = record {
  moves = omega arith;
  leading_digits = λ h. rw (c.saturating_add-value.ensures, c.saturating_mul.ensures)
      (hex-next c.loop.counter _ _ _ _ _ (omega arith) (c.loop.invariant.leading_digits h) c.in_ok-read_digit_in_base.ensures.text);
}

pub returns-in_err-read_digit_in_base-clause-text : goal.returns-in_err-read_digit_in_base-clause-text
returns-in_err-read_digit_in_base-clause-text c = λ h. rw c.from_residual.ensures (hex-short c.loop.counter c.args.count _ _ _ (omega arith) (c.loop.invariant.leading_digits h) c.in_err-read_digit_in_base.ensures.text.1)

pub returns-clause-text : goal.returns-clause-text
returns-clause-text c = λ h. let same : c.args.count ≡ c.loop.counter = omega arith in rw same (hex-end c.loop.counter _ _ _ (c.loop.invariant.leading_digits h))
