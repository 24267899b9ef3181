use Rattle.std.proofs.Common.{◌≡◌}
use Rattle.std.specs.Prelude.{IfSome, option_map, option_and_then}
use Rattle.regex_meaning.specs.CodeUnitOffsets.{IsBoundary}
use Rattle.regex_meaning.specs.StartPredicate.{start_predicate}
use Rattle.regex_meaning.specs.Tree.{Tree}
use Rattle.regress_search.proofs.SkippedStartLemmas.{untried}
use Rattle.regress_search.specs.AttemptsAndStarts.{first_filtered_start}
use Rattle.regress_program.specs.InsnsAsSpec.{start_predicate_as_spec}
use Rattle.regress_backtrack.proofs.accepted_starts.first_start_to_try.Given as goal

abbrev pub invariant-places : goal.invariant-places
invariant-places g l =
    let text = g.Input.InputIndexer.text l.fn.input in
    let offset = g.Input.Position.PositionType.offset in
    record {
      boundary : IfSome l.next (λ p. IsBoundary text (offset p));
      same :
          (tree : Tree) → start_predicate tree ≡ start_predicate_as_spec l.fn.start
          → first_filtered_start tree text (offset l.fn.from) ≡ option_and_then (λ p. first_filtered_start tree text (offset p)) l.next;
    }

abbrev pub decreases-places : goal.decreases-places
decreases-places g l = untried (g.Input.InputIndexer.text l.fn.input) (option_map g.Input.Position.PositionType.offset l.next)
