use Rattle.std.proofs.Common.{◌≡◌, ℕ, ◌-◌, ◌+◌, ◌≤◌, ◌⊎◌, ap, sym, ◌∙◌, arith, subst, inl, inr, length, chars}
use Rattle.std.proofs.lemmas.Str.{IsCharBoundary-from_drop}
use Rattle.std.specs.Str.{IsUtf8}
use Rattle.regex_parser.proofs.PatternPositionLemmas.{StandsBehind, behind-none, behind-next, behind-rest, nothing-behind, rest-begins, rest-fits}
use Rattle.regex_parser.proofs.diagnosis.Diagnosis.offset_in.Goals as goal
use Rattle.regex_parser.proofs.diagnosis.Diagnosis.offset_in.Goals.{then-loop-left-test+else-is_some, else-loop-left-test}

pub loop-left-init : goal.loop-left-init
loop-left-init c =
    let none : c.args.self.at - c.args.self.at ≡ 0 = omega arith in
    record {
      few = omega arith;
      behind = subst (λ (n : ℕ). StandsBehind c.args.pattern.now c.chars-rest.result.rest.now n) (sym none)
          (subst (λ s. StandsBehind c.args.pattern.now s 0) (sym c.chars-rest.ensures.rest) (behind-none c.args.pattern.now c.utf8.pattern));
    }

pub loop-left-preserved : goal.loop-left-preserved
loop-left-preserved c =
    let some = sym c.is_some.ensures ∙ c.if-is_some.true in
    let steps = c.next.ensures.steps in
    let next = behind-next _ _ c.next.new.self.rest.now _ c.next.result _ some steps.0 steps.2 c.loop-left.invariant.behind in
    let further : (c.args.self.at - c.loop-left.left) + 1 ≡ c.args.self.at - (c.loop-left.left - 1) = omega arith in
    record {
      few = omega arith;
      behind = subst (λ (n : ℕ). StandsBehind c.args.pattern.now c.next.new.self.rest.now n) further next;
    }

-- How the loop ends.
ended : (c : goal.After-as_str) → (n : ℕ) × StandsBehind c.args.pattern.now c.as_str.result.now n × ((n ≡ c.args.self.at) ⊎ ((length c.as_str.result.now ≡ 0) × (n ≤ c.args.self.at)))
ended c = elim c.loop-left-test.branch [
  | then-loop-left-test+else-is_some w ↦
      let none = sym w.is_some.ensures ∙ w.if-is_some.false in
      let stopped = nothing-behind _ w.next.result _ _ none w.next.ensures.steps.0 in
      let rest : c.as_str.result.now ≡ c.loop-left.rest.rest.now = c.as_str.ensures ∙ ap (λ r. r.rest.now) (w.rest-is ∙ stopped.1) in (
        c.args.self.at - c.loop-left.left,
        subst (λ s. StandsBehind c.args.pattern.now s (c.args.self.at - c.loop-left.left)) (sym rest) c.loop-left.invariant.behind,
        inr (ap length rest ∙ stopped.0, omega arith),
      )
  | else-loop-left-test w ↦
      let rest : c.as_str.result.now ≡ c.loop-left.rest.rest.now = c.as_str.ensures ∙ ap (λ r. r.rest.now) w.rest-is in (
        c.args.self.at - c.loop-left.left,
        subst (λ s. StandsBehind c.args.pattern.now s (c.args.self.at - c.loop-left.left)) (sym rest) c.loop-left.invariant.behind,
        inl (omega arith),
      )
]

pub overflow_sub-result : goal.overflow_sub-result
overflow_sub-result c = let e = ended c in rest-fits _ _ e.0 e.1

pub returns-clause-boundary : goal.returns-clause-boundary
returns-clause-boundary c =
    let e = ended c in
    IsCharBoundary-from_drop _ _ (omega arith) (subst IsUtf8 (sym (rest-begins _ _ e.0 e.1)) e.1.utf8)

pub returns-clause-place : goal.returns-clause-place
returns-clause-place c =
    let e = ended c in
    ap chars (rest-begins _ _ e.0 e.1) ∙ behind-rest _ _ e.0 _ e.1 e.2
