use Rattle.std.proofs.Common.{◌≡◌, true, false}
use Rattle.std.proofs.lemmas.Bool.{not-false}
use Rattle.regress_backtrack.specs.MemoizedExecution.{memo_is_on}
use Rattle.regress_backtrack.proofs.MemoizedExecutionLemmas.{knows-on, ends-on}
use Rattle.regress_backtrack.proofs.KnownEndLemmas.{if-some}
use Rattle.regress_backtrack.proofs.memoized_ends.known_end_if_any_end_suffices.Goals as goal

pub known_end_of_threads-requires-clause-sound : goal.known_end_of_threads-requires-clause-sound
known_end_of_threads-requires-clause-sound g c =
    knows-on g.S.StepCounter g.M.FailureMemo (g.W.SearchContext.searching c.args.context.now) c.args.progress.now.memo (cc (c.records_failures.ensures, c.if-not-records_failures.false)) c.requires.sound

pub known_end_of_threads-requires-clause-ends : goal.known_end_of_threads-requires-clause-ends
known_end_of_threads-requires-clause-ends g c =
    ends-on g.S.StepCounter g.M.FailureMemo (g.W.SearchContext.searching c.args.context.now) c.args.progress.now.memo (cc (c.records_failures.ensures, c.if-not-records_failures.false)) c.requires.sound

pub returns-clause-on : goal.returns-clause-on
returns-clause-on g c =
    let on : memo_is_on g.S.StepCounter g.M.FailureMemo ≡ true = cc (c.records_failures.ensures, c.if-not-records_failures.false) in
    if-some c.known_end_of_threads.result on

pub returns-clause-any : goal.returns-clause-any
returns-clause-any g c =
    if-some c.known_end_of_threads.result (not-false c.args.base.any_end c.if-not-base.false)
