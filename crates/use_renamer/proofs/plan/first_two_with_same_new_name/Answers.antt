use Rattle.std.proofs.Common.{◌≡◌, sym, string_bytes}
use Rattle.use_renamer.proofs.Found.{pair-found, pair-next}
use Rattle.use_renamer.proofs.plan.first_two_with_same_new_name.Goals as goal

pub returns-in-Some-first_renaming_to : goal.returns-in-Some-first_renaming_to
returns-in-Some-first_renaming_to c = pair-found (λ r. string_bytes r.to) _ _ _ _ _ _ c.in-Some.ensures.cases.0 c.as_str.ensures.value (sym c.in-Some-first_renaming_to.ensures) c.loop-first.invariant

pub loop-first-preserved : goal.loop-first-preserved
loop-first-preserved c = pair-next (λ r. string_bytes r.to) _ _ _ _ _ c.in-Some.ensures.cases.0 c.as_str.ensures.value (sym c.in_default-first_renaming_to.ensures) c.loop-first.invariant
