use Rattle.std.proofs.Common.{ℕ, List, not, sym, ap, subst}
use Rattle.regex_meaning.specs.Outcomes.{in_intervals, exclusive_or}
use Rattle.regress_program.specs.ClassReadLengths.{AcceptsNoneSomeOrAllOfRange}
use Rattle.regress_program.proofs.RangeAcceptanceLemmas.{share-same}
use Rattle.regress_program.proofs.bracket_verdict_on_char_range.bracket_coverage_of_range.Goals as goal

pub returns-then-contents : goal.returns-then-contents
returns-then-contents c =
    let set = c.args.contents.now.cps in
    let P : List (ℕ × ℕ) → Type 0 = λ l. AcceptsNoneSomeOrAllOfRange (in_intervals l) c.args.range c.share_of_intervals-share.result in
    share-same (λ d. not (in_intervals set d)) (λ d. exclusive_or c.args.contents.now.invert (in_intervals set d)) c.args.range c.coverage_by_complement.result
    (λ d. ap (λ b. exclusive_or b (in_intervals set d)) (sym c.if-contents.true))
    (c.coverage_by_complement.ensures (in_intervals set) c.args.range (subst P c.intervals.ensures c.share_of_intervals-share.ensures))
