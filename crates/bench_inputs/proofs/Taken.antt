-- A matcher that reads to the right moves forward, to a boundary.
use Rattle.std.proofs.Common.{◌≡◌, ℕ, ◌<◌, ◌≤◌, ◌-◌, Bool, true, false, Option, Some, None, option_and_then, if◌then◌else◌, refl, sym, ◌∙◌, ap, subst, arith}
use Rattle.regex_meaning.specs.Text.{Text, rightwards}
use Rattle.regex_meaning.specs.CodeUnitOffsets.{HasRisingPlaceOffsets, IsBoundary, units, read}
use Rattle.regress_input.specs.CharAndByteReadsFromOffset.{end_if_matched, past_if}
use Rattle.regress_input.proofs.BoundaryPositions.{right_ahead, right_boundary, boundary_inside}

pub record Onward (text : Text) (at to : ℕ) : Type 0 where
  pub boundary : IsBoundary text to
  pub nearer : units text - to < units text - at

onward : (text : Text) → HasRisingPlaceOffsets text → (at c to : ℕ) → read text rightwards at ≡ Some (c, to) → Onward text at to
onward text t at c to e =
    let boundary : IsBoundary text to = right_boundary text t at c to e in
    record { boundary = boundary; nearer = omega (arith, right_ahead text t at c to e, boundary_inside text t to boundary) }

chosen : (b : Bool) (x to : ℕ) → Some to ≡ (if b then Some x else None) → x ≡ to
chosen true x to e = cc
chosen false x to e = absurd (cc)

pub taken : (text : Text) → HasRisingPlaceOffsets text → (test : ℕ → Bool) (b : Bool) (at to : ℕ) → end_if_matched b to ≡ past_if text test rightwards at → b ≡ true → Onward text at to
taken text t test b at to e h = by (read text rightwards at) refl (ap (λ (d : Bool). end_if_matched d to) (sym h) ∙ e)
  where
    by : (o : Option (ℕ × ℕ)) → read text rightwards at ≡ o → Some to ≡ option_and_then (λ r. if test r.0 then Some r.1 else None) o → Onward text at to
    by None f e' = absurd (cc)
    by (Some r) f e' = subst (Onward text at) (chosen (test r.0) r.1 to e') (onward text t at r.0 r.1 f)
