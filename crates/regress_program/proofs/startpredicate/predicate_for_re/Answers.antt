use Rattle.std.proofs.Common.{sym, ap, ◌∙◌}
use Rattle.regex_pattern_front.specs.AstToSpecTree.{tree_of}
use Rattle.regress_program.specs.JoinedStarts.{abstract_start_as_spec}
use Rattle.regress_program.specs.StartPredicates.{predicate_is_byte_sequence}
use Rattle.regress_program.proofs.JoinedStartsLemmas.{predicate-anchored, predicate-begun, sound-as, all-sound, no_sequence, quiet-root}
use Rattle.regress_program.proofs.startpredicate.predicate_for_re.Goals as goal

pub returns-then-matches_at_left_end-clause-predicate : goal.returns-then-matches_at_left_end-clause-predicate
returns-then-matches_at_left_end-clause-predicate c = predicate-anchored (tree_of c.args.re.now) (sym c.if-matches_at_left_end.ensures)

pub returns-then-matches_at_left_end-clause-sound : goal.returns-then-matches_at_left_end-clause-sound
returns-then-matches_at_left_end-clause-sound c =
    sound-as (tree_of c.args.re.now) _ (predicate-anchored (tree_of c.args.re.now) (sym c.if-matches_at_left_end.ensures))

pub returns-clause-predicate : goal.returns-clause-predicate
returns-clause-predicate c =
    predicate-begun c.beginning_predicate.result (abstract_start_as_spec c.in_ok-beginning.beginning) (tree_of c.args.re.now)
    (sym c.if-matches_at_left_end.ensures) c.in_ok-beginning.ensures.beginning c.beginning_predicate.ensures.predicate

pub returns-clause-sound : goal.returns-clause-sound
returns-clause-sound c =
    all-sound c.beginning_predicate.result (tree_of c.args.re.now)
    (predicate-begun c.beginning_predicate.result (abstract_start_as_spec c.in_ok-beginning.beginning) (tree_of c.args.re.now)
    (sym c.if-matches_at_left_end.ensures) c.in_ok-beginning.ensures.beginning c.beginning_predicate.ensures.predicate)

pub returns-clause-no_memory : goal.returns-clause-no_memory
returns-clause-no_memory c quiet =
    let tree = tree_of c.args.re.now in
    c.beginning_predicate.ensures.no_memory
    (ap predicate_is_byte_sequence c.in_ok-beginning.ensures.beginning ∙ no_sequence tree.root (quiet-root tree (sym c.if-matches_at_left_end.ensures) quiet))
