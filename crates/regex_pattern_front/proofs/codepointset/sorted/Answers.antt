use Rattle.std.proofs.Common.{◌≤◌, ◌∙◌, rules}
use Rattle.std.proofs.lemmas.List.Sorted.{All-permutation, IsNonDecreasingBy-from_sort_by_key}
use Rattle.regex_pattern_front.specs.declared.codepointset.Interval.{Interval}
use Rattle.regex_pattern_front.proofs.IntervalLemmas.{member-permuted, member-filter, All-holding}
use Rattle.regex_pattern_front.proofs.codepointset.sorted.Goals as goal

pub returns-clause-hold : goal.returns-clause-hold
returns-clause-hold c =
    All-permutation (λ (i : Interval). i.first ≤ i.last) _ _ c.sort_unstable_by_key.ensures.permutation
    (rw c.in_ok-holding.ensures (All-holding c.args.intervals.now))

pub returns-clause-rise : goal.returns-clause-rise
returns-clause-rise c =
    IsNonDecreasingBy-from_sort_by_key (λ i. i.first) _ c.sort_unstable_by_key.ensures.sorted (λ a r q k. search rules)

pub returns-clause-same : goal.returns-clause-same
returns-clause-same c =
    λ n. member-permuted c.in_ok-holding.holding.items _ n c.sort_unstable_by_key.ensures.permutation
    ∙ rw c.in_ok-holding.ensures (member-filter c.args.intervals.now n)
