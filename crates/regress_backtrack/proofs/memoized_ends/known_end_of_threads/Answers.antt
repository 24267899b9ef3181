use Rattle.regress_backtrack.specs.KnownEnds.{ThreadHasKnownEnd}
use Rattle.regress_backtrack.proofs.KnownEndLemmas.{thread-known}
use Rattle.regress_backtrack.proofs.GroupAndLoopOperations.{some-is}
use Rattle.regress_backtrack.proofs.memoized_ends.known_end_of_threads.Goals as goal

pub returns-in-Some : goal.returns-in-Some
returns-in-Some g c =
    let w = g.W.SearchContext.searching c.args.context.now in
    let t = g.M.FailureMemo.terms c.args.memo.now in
    let d = g.Dir.Direction.FORWARD in
    thread-known w t c.args.base c.args.here c.args.memory.now c.in-Some.key d
    (some-is (ThreadHasKnownEnd w t d c.args.here c.args.memory.now) c.in-Some.is c.known_end_of_thread.ensures)
