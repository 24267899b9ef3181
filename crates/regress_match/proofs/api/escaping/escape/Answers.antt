use Rattle.std.proofs.Common.{◌≡◌, ◌++◌, string_bytes, ap, ◌∙◌}
use Rattle.regress_match.proofs.EscapeLemmas.{mark, behind-mark, without-mark, escape-empty, escape-marked}
use Rattle.regress_match.proofs.api.escaping.escape.Goals as goal
use Rattle.regress_match.proofs.api.escaping.escape.Goals.{then-is_special+in_ok-push, else-is_special}

pub loop-c-preserved : goal.loop-c-preserved
loop-c-preserved c =
    let marked : string_bytes c.if-is_special.escaped ≡ string_bytes c.loop-c.escaped ++ mark c.in-Some.c =
    elim c.if-is_special.branch [
      | then-is_special+in_ok-push w ↦ ap string_bytes w.escaped-is ∙ w.in_ok-push.ensures.bytes ∙ behind-mark _ c.in-Some.c w.if-is_special.ensures
      | else-is_special w ↦ ap string_bytes w.escaped-is ∙ without-mark _ c.in-Some.c w.if-is_special.ensures
    ] in
    escape-marked _ _ _ _ _ _ c.in-Some.c c.loop-c.invariant c.in-Some.ensures.steps.0 marked c.in_ok-push-2.ensures.bytes

pub returns : goal.returns
returns c = escape-empty _ _ _ c.loop-c.invariant c.in-None.ensures.steps.0.0
