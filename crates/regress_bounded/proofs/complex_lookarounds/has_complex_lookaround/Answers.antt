use Rattle.std.proofs.Common.{length, map, sym, ◌∙◌, arith}
use Rattle.std.proofs.lemmas.List.{length-map}
use Rattle.regress_program.specs.InsnsAsSpec.{insn_as_spec_insn}
use Rattle.regress_bounded.specs.Unboundedness.{is_complex_lookaround}
use Rattle.regress_bounded.proofs.UnboundednessLemmas.{none-passes, one-passes}
use Rattle.regress_bounded.proofs.complex_lookarounds.has_complex_lookaround.Goals as goal

pub returns-then-is_complex_lookaround : goal.returns-then-is_complex_lookaround
returns-then-is_complex_lookaround c =
    let code = map insn_as_spec_insn c.args.insns.now in
    let as_many = length-map c.args.insns.now insn_as_spec_insn in
    let to = c.loop-ip-test.true in
    sym (one-passes (is_complex_lookaround code) 0 (length code) c.loop-ip.ip (omega arith) (omega (arith, as_many, to)) (sym c.is_complex_lookaround.ensures ∙ c.if-is_complex_lookaround.true))

pub returns : goal.returns
returns c =
    let code = map insn_as_spec_insn c.args.insns.now in
    let as_many = length-map c.args.insns.now insn_as_spec_insn in
    let past = c.loop-ip-test.false in
    sym (none-passes (is_complex_lookaround code) 0 (length code) (λ k from to. c.loop-ip.invariant k (omega (arith, as_many, to, past))))
