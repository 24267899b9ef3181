use Rattle.std.proofs.Common.{◌≡◌, subst}
use Rattle.std.specs.Prelude.{IfSome}
use Rattle.regress_backtrack.specs.FailureMemo.{record_key_as_spec}
use Rattle.regress_backtrack.specs.MemoizedCharLoops.{DecidesLoopRest}
use Rattle.regress_backtrack.proofs.memoized_ends.key_of_loop_rest.Goals as goal

pub returns : goal.returns
returns g c =
    let forward : c.FORWARD.result ≡ g.Dir.Direction.FORWARD = cc (c.FORWARD.ensures) in
    subst
    (λ d. IfSome c.unbounded_char_loop_rest_key.result
    (λ k. DecidesLoopRest (g.W.SearchContext.searching c.args.context.now) (g.M.FailureMemo.terms c.args.memo.now) d c.args.from (record_key_as_spec k) c.args.memory.now)) forward
    c.unbounded_char_loop_rest_key.ensures
