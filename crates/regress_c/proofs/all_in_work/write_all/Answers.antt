use Rattle.std.proofs.Common.{◌≡◌, ◌∙◌, ap, refl, arith}
use Rattle.regress_search.specs.CostsOfCalls.{without_costs}
use Rattle.regress_c.specs.Codes.{code_of_refusal}
use Rattle.regress_c.proofs.AllInWorkLemmas.{begun, is-failed, is-full, is-over, one_more, ranges-of}
use Rattle.regress_c.proofs.all_in_work.write_all.Goals as goal

pub written-init : goal.written-init
written-init g c = (begun c.requires.each, omega arith)

pub write_at-requires-clause-all : goal.write_at-requires-clause-all
write_at-requires-clause-all g c =
    ranges-of (without_costs c.written.matches) (without_costs c.next.new.self) c.written.spans c.written.count c.written.at c.in-Some-Ok.found c.written.invariant.0
    (rw c.in-Some-Ok.field-0-is at c.in-Some-Ok.ensures.steps).0

pub written-preserved-in-Some-Ok : goal.written-preserved-in-Some-Ok
written-preserved-in-Some-Ok g c = (
  one_more (without_costs c.written.matches) (without_costs c.next.new.self) c.written.spans c.write_at.new.spans c.written.count c.written.at c.in-Some-Ok.found c.written.invariant.0
      (rw c.in-Some-Ok.field-0-is at c.in-Some-Ok.ensures.steps).0 c.write_at.ensures,
  omega arith,
)

pub written-preserved : goal.written-preserved
written-preserved g c = (
  one_more (without_costs c.written.matches) (without_costs c.next.new.self) c.written.spans c.write_at.new.spans c.written.count c.written.at c.in-Some-Ok.found c.written.invariant.0
      (rw c.in-Some-Ok.field-0-is at c.in-Some-Ok.ensures.steps).0 c.write_at.ensures,
  omega arith,
)

pub returns-in-Some-Err : goal.returns-in-Some-Err
returns-in-Some-Err g c =
    is-failed (without_costs c.written.matches) c.written.spans c.written.count c.written.at c.written.invariant.0 _ c.in-Some-Err.error (without_costs c.next.new.self)
    (rw c.in-Some-Err.field-0-is at c.in-Some-Err.ensures.steps).0
    (λ i. record { code = (c.code-code.ensures ∙ ap code_of_refusal c.from.ensures) i; count = c.written.count })

pub returns-in-None : goal.returns-in-None
returns-in-None g c =
    is-over (without_costs c.written.matches) c.written.spans c.written.count c.written.at c.written.invariant.0 _ (without_costs c.next.new.self) c.in-None.ensures.steps.0 refl

pub returns : goal.returns
returns g c = is-full (without_costs c.written.matches) c.written.spans c.written.count c.written.at c.written.invariant.0 _ (omega arith) refl
