use Rattle.std.proofs.Common.{◌∙◌, sym}
use Rattle.regex_pattern_front.proofs.IntervalLemmas.{order-from_canonical, merged_in_order, merged_apart, merged_members}
use Rattle.regex_pattern_front.proofs.codepointset.CodePointSet.from_intervals.Goals as goal

pub invariant_of-result-in-Some : goal.invariant_of-result-in-Some
invariant_of-result-in-Some c =
    merged_in_order c.in_ok-sorted.sorted.items c.in-Some.first.now c.in-Some.others.now c.in_ok-merge-in-Some.field-0.items
    (sym c.deref.ensures.value ∙ c.in-Some.ensures.cases.0) c.in_ok-sorted.ensures.hold c.in_ok-sorted.ensures.rise c.in_ok-merge-in-Some.ensures

pub returns-clause-members : goal.returns-clause-members
returns-clause-members c =
    λ n. merged_members c.in_ok-sorted.sorted.items c.in-Some.first.now c.in-Some.others.now c.in_ok-merge-in-Some.field-0.items
    (sym c.deref.ensures.value ∙ c.in-Some.ensures.cases.0) c.in_ok-sorted.ensures.hold c.in_ok-sorted.ensures.rise c.in_ok-merge-in-Some.ensures n
    ∙ c.in_ok-sorted.ensures.same n

pub returns-clause-apart : goal.returns-clause-apart
returns-clause-apart c =
    merged_apart c.in_ok-sorted.sorted.items c.in-Some.first.now c.in-Some.others.now c.in_ok-merge-in-Some.field-0.items
    (sym c.deref.ensures.value ∙ c.in-Some.ensures.cases.0) c.in_ok-sorted.ensures.hold c.in_ok-sorted.ensures.rise c.in_ok-merge-in-Some.ensures

pub invariant_of-result : goal.invariant_of-result
invariant_of-result c =
    order-from_canonical c.in_ok-from_slice.field-0.items (rw c.in_ok-from_slice.ensures.items (c.are_canonical.ensures c.if-are_canonical.true))
