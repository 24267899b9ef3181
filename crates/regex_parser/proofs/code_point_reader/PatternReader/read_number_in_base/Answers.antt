use Rattle.std.proofs.Common.{◌^◌, ◌-◌, arith, refl}
use Rattle.regex_parser.proofs.NumberReaderLemmas.{number-first, number-next, number-end}
use Rattle.regex_parser.proofs.code_point_reader.PatternReader.read_number_in_base.Goals as goal

pub loop-digit-init : goal.loop-digit-init
loop-digit-init c = record {
  moves = c.in_ok-value.ensures.read refl;
  number = number-first c.args.radix (2 ^ 64 - 1) (omega (arith, c.requires.least)) (omega (arith, c.requires.most)) _ _ _ c.in_ok-value.ensures.text;
}

pub loop-digit-preserved : goal.loop-digit-preserved
loop-digit-preserved c = record {
  moves = omega arith;
  number = rw (c.saturating_add-value.ensures, c.saturating_mul.ensures)
      (number-next c.args.radix (2 ^ 64 - 1) (omega (arith, c.requires.least)) (omega (arith, c.requires.most)) _ _ _ _ _ c.loop-digit.invariant.number
      c.in-Some.ensures.text);
}

pub returns-clause-text : goal.returns-clause-text
returns-clause-text c =
    number-end c.args.radix (2 ^ 64 - 1) (omega (arith, c.requires.least)) (omega (arith, c.requires.most)) _ _ _ _ c.loop-digit.invariant.number
    c.in_default.ensures.text
