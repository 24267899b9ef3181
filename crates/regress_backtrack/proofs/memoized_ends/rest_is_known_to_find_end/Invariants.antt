use Rattle.regex_meaning.specs.CodeUnitOffsets.{units}
use Rattle.regress_input.specs.CharAndByteReadsFromOffset.{direction_of_forward_flag}
use Rattle.regress_memo.specs.Liveness.{units_left_in_direction}
use Rattle.regress_backtrack.proofs.KnownEndLemmas.{Seeking}
use Rattle.regress_backtrack.proofs.memoized_ends.rest_is_known_to_find_end.Given as goal

abbrev pub invariant-places : goal.invariant-places
invariant-places g l = Seeking (g.W.SearchContext.searching l.context) g.Dir.Direction.FORWARD l.class l.fn.from l.memory l.at

abbrev pub decreases-places : goal.decreases-places
decreases-places g l = units_left_in_direction (units (g.W.SearchContext.searching l.context).text) (direction_of_forward_flag g.Dir.Direction.FORWARD) l.at
