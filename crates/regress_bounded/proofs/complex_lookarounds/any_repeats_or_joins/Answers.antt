use Rattle.std.proofs.Common.{◌-◌, ℕ, Bool, List, map, slice_get, sym, ◌∙◌, arith}
use Rattle.regress_program.specs.InsnsAsSpec.{insn_as_spec_insn}
use Rattle.regress_program.specs.declared.instructions.Insn.{Insn}
use Rattle.regress_bounded.specs.Unboundedness.{repeats_or_joins}
use Rattle.regress_bounded.proofs.UnboundednessLemmas.{more-fails, none-passes, one-passes}
use Rattle.regress_bounded.proofs.complex_lookarounds.any_repeats_or_joins.Goals as goal

abbrev fits : List Insn → ℕ → Bool
fits insns ip = repeats_or_joins (map insn_as_spec_insn insns) (slice_get (map insn_as_spec_insn insns) ip)

pub returns-then-repeats_or_joins : goal.returns-then-repeats_or_joins
returns-then-repeats_or_joins c =
    let from = c.loop-ip.auto.ip in
    let to = c.loop-ip-test.true in
    sym (one-passes (fits c.args.insns.now) c.args.first (c.args.end - c.args.first) c.loop-ip.ip (omega (arith, from)) (omega (arith, from, to)) (sym c.repeats_or_joins.ensures ∙ c.if-repeats_or_joins.true))

pub loop-ip-preserved : goal.loop-ip-preserved
loop-ip-preserved c = more-fails (fits c.args.insns.now) c.args.first c.loop-ip.ip c.loop-ip.invariant (sym c.repeats_or_joins.ensures ∙ c.if-repeats_or_joins.false)

pub returns : goal.returns
returns c =
    let past = c.loop-ip-test.false in
    sym (none-passes (fits c.args.insns.now) c.args.first (c.args.end - c.args.first) (λ k from to. c.loop-ip.invariant k from (omega (arith, from, to, past))))
