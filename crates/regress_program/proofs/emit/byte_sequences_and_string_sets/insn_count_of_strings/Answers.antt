use Rattle.std.proofs.Common.{◌≡◌, ◌+◌, ◌∙◌, ◌∷◌, [], ap, arith, drop, length}
use Rattle.std.proofs.lemmas.List.{drop_all}
use Rattle.regress_program.specs.CompilationOfTreesAsFunction.{strings_size}
use Rattle.regress_program.specs.EmitterStateAndAppendedCode.{strings_as_code_points}
use Rattle.regress_program.proofs.ByteAndStringCodeLemmas.{strings_size-cons, front_size, front_size-next}
use Rattle.regress_program.proofs.emit.byte_sequences_and_string_sets.insn_count_of_strings.Goals as goal

pub loop-string-preserved : goal.loop-string-preserved
loop-string-preserved c =
    let others = c.in-Some.others.now in
    let next = front_size-next others c.loop-string.string-index c.string-item.result c.loop-string-test.true c.string-item.is in
    record {
      fits = omega (arith, c.saturating_add-size.ensures);
      sum = omega (arith, c.loop-string.invariant.sum, next, c.saturating_add-size.ensures, c.saturating_add.ensures, c.len.ensures, c.string-item.result.ok.0);
    }

pub returns : goal.returns
unfolding front_size
returns c =
    let others = c.in-Some.others.now in
    let none : drop c.loop-string.string-index others ≡ [] = drop_all c.loop-string.string-index others c.loop-string-test.false in
    let left : front_size (strings_as_code_points (drop c.loop-string.string-index others)) ≡ 0 = ap (λ xs. front_size (strings_as_code_points xs)) none in
    let whole : c.args.strings.now ≡ c.in-Some.first.now ∷ others = c.in-Some.ensures.cases.0 in
    let size : strings_size (strings_as_code_points c.args.strings.now) ≡ length c.in-Some.first.now.items + front_size (strings_as_code_points others) =
    ap (λ xs. strings_size (strings_as_code_points xs)) whole ∙ strings_size-cons c.in-Some.first.now.items (strings_as_code_points others) in
    omega (arith, size, left, c.loop-string.invariant.sum, c.loop-string.invariant.fits, c.len-size.ensures, c.in-Some.first.now.ok.0)
