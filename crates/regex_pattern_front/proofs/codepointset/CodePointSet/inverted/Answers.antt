use Rattle.std.proofs.Common.{◌∙◌, ap}
use Rattle.regex_pattern_front.specs.Intervals.{gaps_between_intervals}
use Rattle.regex_pattern_front.proofs.IntervalLemmas.{gaps_in_order, gaps_apart, gaps_members}
use Rattle.regex_pattern_front.proofs.codepointset.CodePointSet.inverted.Goals as goal

pub invariant_of-result : goal.invariant_of-result
invariant_of-result c =
    gaps_in_order c.self.inside.intervals.items c.in_ok-gaps_between_intervals.field-0.items c.self.invariant
    (c.in_ok-gaps_between_intervals.ensures ∙ ap (λ xs. gaps_between_intervals 0 xs) c.deref.ensures.value)

pub returns-clause-members : goal.returns-clause-members
returns-clause-members c =
    rw (← c.self.view_is)
    (gaps_members c.self.inside.intervals.items c.in_ok-gaps_between_intervals.field-0.items c.self.invariant
    (c.in_ok-gaps_between_intervals.ensures ∙ ap (λ xs. gaps_between_intervals 0 xs) c.deref.ensures.value))

pub returns-clause-apart : goal.returns-clause-apart
returns-clause-apart c =
    gaps_apart c.self.inside.intervals.items c.in_ok-gaps_between_intervals.field-0.items c.self.invariant
    (c.in_ok-gaps_between_intervals.ensures ∙ ap (λ xs. gaps_between_intervals 0 xs) c.deref.ensures.value)
