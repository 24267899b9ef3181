use Rattle.std.proofs.Common.{◌++◌, ap, ◌∙◌, arith}
use Rattle.std.specs.Prelude.{encode_utf8}
use Rattle.regex_parser.proofs.EcmaNameLemmas.{err-read, no-name, name-begins, name-goes-on, name-stops, name-ends}
use Rattle.regex_parser.proofs.ecmascript_group_name_reader.read_group_name.Goals as goal

pub returns-in_err-first-clause-text : goal.returns-in_err-first-clause-text
returns-in_err-first-clause-text c = err-read _ _ _ c.from_residual.result c.from_residual.ensures.0 (no-name c.in_err-first.ensures.text)

pub loop-start-init : goal.loop-start-init
loop-start-init c = record {
  moves = omega arith;
  so_far = name-begins c.in_ok-first.ensures.text (c.in_ok-push.ensures.bytes ∙ ap (λ x. x ++ encode_utf8 c.in_ok-first.first) c.new-name.ensures.bytes);
}

pub returns-in_err-letter-clause-text : goal.returns-in_err-letter-clause-text
returns-in_err-letter-clause-text c =
    err-read _ _ _ c.from_residual-in_err-letter.result c.from_residual-in_err-letter.ensures.0
    (name-stops c.loop-start.invariant.so_far c.loop-start-test.ensures.text.1 (rw c.loop-start-test.ensures.text.0 at c.in_err-letter.ensures.text))

pub loop-start-preserved : goal.loop-start-preserved
loop-start-preserved c = record {
  moves = omega arith;
  so_far = name-goes-on c.loop-start.invariant.so_far c.loop-start-test.ensures.text.1 (rw c.loop-start-test.ensures.text.0 at c.in_ok-letter.ensures.text) c.in_ok-push-2.ensures.bytes;
}

pub returns-clause-text : goal.returns-clause-text
returns-clause-text c = name-ends c.loop-start.invariant.so_far c.loop-start-test.ensures.text
