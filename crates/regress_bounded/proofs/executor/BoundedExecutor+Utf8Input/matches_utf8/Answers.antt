use Rattle.std.proofs.Common.{◌∙◌, ap, nat_le, not, subst, sym}
use Rattle.regex_meaning.specs.CodeUnitOffsets.{units, IsBoundaryOrPastEnd}
use Rattle.regress_bounded.proofs.MatchIteratorLemmas.{begun-Yields, begun-costs}
use Rattle.regress_bounded.proofs.executor.BoundedExecutor+Utf8Input.matches_utf8.Goals as goal

pub new-requires : goal.new-requires
new-requires c = subst (λ t. IsBoundaryOrPastEnd t c.args.start) (sym c.in_ok-executor.ensures.start.of_text) c.requires.start

pub returns-clause-yields : goal.returns-clause-yields
returns-clause-yields c = let is = c.new.ensures in begun-Yields c.in_ok-executor.ensures.start (is.answers, is.limited, is.text_end, is.left, is.enough)

pub returns-clause-ended : goal.returns-clause-ended
returns-clause-ended c = c.new.ensures.ended ∙ ap (λ t. not (nat_le c.args.start (units t))) c.in_ok-executor.ensures.start.of_text

pub returns-clause-begins : goal.returns-clause-begins
returns-clause-begins c = let is = c.new.ensures in begun-costs c.in_ok-executor.ensures.start is.tree is.text is.failures is.position
