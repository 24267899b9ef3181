use Rattle.std.proofs.Common.{◌≡◌, true, Some, [], ◌∷◌, sym, ◌∙◌, subst}
use Rattle.std.specs.Prelude.{IfSome}
use Rattle.regress_input.specs.CharAndByteReadsFromOffset.{direction_of_forward_flag}
use Rattle.regress_machine.specs.Machine.{running}
use Rattle.regress_search.specs.TreePlanAndText.{program_of}
use Rattle.regress_backtrack.specs.State.{current_thread_state_of}
use Rattle.regress_backtrack.specs.FailureMemo.{record_key_as_spec, KeyStandsForThreadsInDirection, KeyFindsEnd}
use Rattle.regress_backtrack.proofs.memoized_ends.known_end_of_thread.Goals as goal

pub returns-then-is_known_to_find_end : goal.returns-then-is_known_to_find_end
returns-then-is_known_to_find_end g c =
    let w = g.W.SearchContext.searching c.args.context.now in
    let t = g.M.FailureMemo.terms c.args.memo.now in
    let d = g.Dir.Direction.FORWARD in
    let row = running (current_thread_state_of c.args.memory.now c.args.here.ip c.args.here.at) ∷ [] in
    let forward : c.FORWARD.result ≡ d = cc (c.FORWARD.ensures) in
    let of = subst (λ o. IfSome o (λ k. KeyStandsForThreadsInDirection w t d (record_key_as_spec k) row)) c.in-Some.is (subst (λ d. IfSome c.key_at.result (λ k. KeyStandsForThreadsInDirection w t d (record_key_as_spec k) row)) forward c.key_at.ensures) in
    let finds : KeyFindsEnd (program_of w) w.text t (record_key_as_spec c.in-Some.key) = c.requires.ends.finds (record_key_as_spec c.in-Some.key) (sym c.is_known_to_find_end.ensures ∙ c.if-is_known_to_find_end.true) in
    (finds (direction_of_forward_flag d) row of, finds)
