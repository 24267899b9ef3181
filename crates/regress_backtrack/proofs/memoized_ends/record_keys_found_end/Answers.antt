use Rattle.std.proofs.Common.{◌≡◌, ◌≤◌, ◌+◌, length, refl, arith, sym, ◌∙◌, subst}
use Rattle.regress_backtrack.specs.FailureMemo.{KeyFindsEndIf, record_key}
use Rattle.regress_backtrack.specs.MemoizedExecution.{memo_is_on}
use Rattle.regress_backtrack.proofs.KnownEndLemmas.{recorded-at}
use Rattle.regress_backtrack.proofs.PushedRecordLemmas.{sound-same, sound-then}
use Rattle.regress_backtrack.proofs.memoized_ends.record_keys_found_end.Goals as goal

pub returns-then-not-records_failures-clause-sound : goal.returns-then-not-records_failures-clause-sound
returns-then-not-records_failures-clause-sound g c = sound-same c.requires.sound

pub choice_points-init : goal.choice_points-init
choice_points-init g c = (omega arith, sound-same c.requires.sound, refl)

pub record_key_of_record-requires-clause-finds : goal.record_key_of_record-requires-clause-finds
record_key_of_record-requires-clause-finds g c = λ is.
    let w = g.W.SearchContext.searching c.args.context.now in
    let mark = c.choice_point_at_index-mark.result in
    subst (λ t. KeyFindsEndIf (memo_is_on g.S.StepCounter g.M.FailureMemo) w t (record_key mark)) (sym c.choice_points.invariant.1.terms)
    (recorded-at (memo_is_on g.S.StepCounter g.M.FailureMemo) w (g.M.FailureMemo.terms c.args.progress.now.memo) c.args.base.choice_points c.args.memory.now.choice_points c.requires.found c.choice_points.index mark c.choice_points.invariant.0
    c.choice_point_at_index-mark.ensures is)

pub record_key_of_record-requires-clause-sound : goal.record_key_of_record-requires-clause-sound
record_key_of_record-requires-clause-sound g c = c.choice_points.invariant.1.sound

pub choice_points-preserved : goal.choice_points-preserved
choice_points-preserved g c =
    let le = c.choice_points.invariant.0 in
    (omega (arith, le), sound-then c.choice_points.invariant.1 c.record_key_of_record.ensures.sound, c.record_key_of_record.ensures.steps ∙ c.choice_points.invariant.2)
