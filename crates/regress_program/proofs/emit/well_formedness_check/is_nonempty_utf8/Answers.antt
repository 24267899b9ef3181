use Rattle.std.proofs.Common.{◌≡◌, true, false, not, ◌∙◌, ap, sym, length}
use Rattle.std.specs.Prelude.{nat_lt}
use Rattle.std.specs.Str.{is_utf8}
use Rattle.std.proofs.lemmas.Str.{IsUtf8-from_is_utf8, is_utf8-from_IsUtf8}
use Rattle.regress_program.proofs.GroupIdCheckLemmas.{some_bytes}
use Rattle.regress_program.proofs.emit.well_formedness_check.is_nonempty_utf8.Goals as goal
use Rattle.std.proofs.lemmas.Bool.{and_right, false_from_ne_true}

pub returns-in-Ok : goal.returns-in-Ok
returns-in-Ok c =
    let text : is_utf8 c.args.bytes.now ≡ true = is_utf8-from_IsUtf8 c.args.bytes.now c.in-Ok.ensures.cases.1 in
    ap not c.is_empty.ensures ∙ some_bytes c.args.bytes.now (is_utf8 c.args.bytes.now) text

pub returns-in-Err : goal.returns-in-Err
returns-in-Err c =
    let none : is_utf8 c.args.bytes.now ≡ false = false_from_ne_true (is_utf8 c.args.bytes.now) (λ e. c.in-Err.ensures.cases.0 (IsUtf8-from_is_utf8 c.args.bytes.now e)) in
    sym (and_right (nat_lt 0 (length c.args.bytes.now)) (is_utf8 c.args.bytes.now) none)
