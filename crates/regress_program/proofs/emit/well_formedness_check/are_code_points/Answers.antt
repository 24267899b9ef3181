use Rattle.std.proofs.Common.{◌≡◌, ◌+◌, ◌&&◌, true, false, ◌∙◌, ap, sym, drop}
use Rattle.std.specs.Prelude.{nat_le}
use Rattle.std.specs.List.{list_all}
use Rattle.regress_program.specs.EmitterStateAndAppendedCode.{strings_as_code_points}
use Rattle.regress_program.proofs.ByteAndStringCodeLemmas.{code_points-next}
use Rattle.regress_program.proofs.emit.well_formedness_check.are_code_points.Goals as goal

pub loop-string-preserved : goal.loop-string-preserved
loop-string-preserved c =
    let strings = c.args.strings.now in
    let s = c.string-item.result in
    let next = code_points-next strings c.loop-string.string-index s c.loop-string-test.true c.string-item.is in
    let here : list_all (λ x. nat_le x 0x10_FFFF) s.items ≡ true =
    sym (ap (list_all (λ x. nat_le x 0x10_FFFF)) c.deref.ensures.value) ∙ sym c.holds_code_points.ensures ∙ c.if-not-holds_code_points.false in
    let step = ap (list_all (list_all (λ x. nat_le x 0x10_FFFF))) next in
    sym (ap (λ b. b && list_all (list_all (λ x. nat_le x 0x10_FFFF)) (drop (c.loop-string.string-index + 1) (strings_as_code_points strings))) here) ∙ sym step ∙ c.loop-string.invariant

pub returns-then-not-holds_code_points : goal.returns-then-not-holds_code_points
returns-then-not-holds_code_points c =
    let strings = c.args.strings.now in
    let s = c.string-item.result in
    let next = code_points-next strings c.loop-string.string-index s c.loop-string-test.true c.string-item.is in
    let here : list_all (λ x. nat_le x 0x10_FFFF) s.items ≡ false =
    sym (ap (list_all (λ x. nat_le x 0x10_FFFF)) c.deref.ensures.value) ∙ sym c.holds_code_points.ensures ∙ c.if-not-holds_code_points.true in
    sym (ap (λ b. b && list_all (list_all (λ x. nat_le x 0x10_FFFF)) (drop (c.loop-string.string-index + 1) (strings_as_code_points strings))) here)
    ∙ sym (ap (list_all (list_all (λ x. nat_le x 0x10_FFFF))) next) ∙ c.loop-string.invariant
