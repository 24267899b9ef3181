use Rattle.std.proofs.Common.{ℕ, sym, subst}
use Rattle.std.specs.List.Sorted.{IsNonDecreasingBy}
use Rattle.regex_parser.proofs.CaseVariantLemmas.{fold-pairs-sorted, pairs-between}
use Rattle.regex_parser.proofs.case_variants.fold_pairs_between.Goals as goal

pub count_below-start-requires : goal.count_below-start-requires
count_below-start-requires c = subst (IsNonDecreasingBy (λ (p : ℕ × ℕ). p.0)) (sym c.fold_pairs-pairs.ensures.table) fold-pairs-sorted

pub count_below-end-requires : goal.count_below-end-requires
count_below-end-requires c = subst (IsNonDecreasingBy (λ (p : ℕ × ℕ). p.0)) (sym c.fold_pairs-pairs.ensures.table) fold-pairs-sorted

pub returns : goal.returns
returns c =
    pairs-between c.args.first c.args.last c.count_below-start.result c.count_below-end.result c.from.result c.from-2.result c.max.result c.fold_pairs-pairs.result.now
    c.fold_pairs-pairs.ensures.table c.from.ensures c.from-2.ensures c.max.ensures
    c.count_below-start.ensures.below c.count_below-start.ensures.above c.count_below-end.ensures.below c.count_below-end.ensures.above
