use Rattle.std.proofs.Common.{◌+◌, option_map, subst}
use Rattle.regress_search.specs.AttemptsAndStarts.{NextStartSkipsNoMatch}
use Rattle.regress_search.proofs.SkippedStartLemmas.{skip-composes}
use Rattle.regress_search.proofs.search_loop.skip_from_failed.Goals as goal

pub skip_after_failure-requires-clause-next : goal.skip_after_failure-requires-clause-next
skip_after_failure-requires-clause-next g c =
    let a = g.A.SearchState in
    let offset = g.A.Input.Position.PositionType.offset in
    let executor = c.args.executor.now in
    subst (λ o. NextStartSkipsNoMatch (a.tree executor) (a.text executor) (offset c.args.tried + 1) (option_map offset o)) c.in-Some.is c.requires.next

pub returns-clause-next : goal.returns-clause-next
returns-clause-next g c =
    let a = g.A.SearchState in
    let offset = g.A.Input.Position.PositionType.offset in
    let executor = c.args.executor.now in
    let first = subst (λ o. NextStartSkipsNoMatch (a.tree executor) (a.text executor) (offset c.args.tried + 1) (option_map offset o)) c.in-Some.is c.requires.next in
    skip-composes offset (a.tree executor) (a.text executor) (offset c.args.tried + 1) (offset c.in-Some.from) c.skip_after_failure.result first c.skip_after_failure.ensures.next
