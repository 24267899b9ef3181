use Rattle.regress_backtrack.specs.FailureMemo.{record_key_as_spec}
use Rattle.regress_backtrack.proofs.KnownEndLemmas.{found-sound}
use Rattle.regress_backtrack.proofs.memoized_ends.record_key_finds_end.Goals as goal

pub returns-clause-sound : goal.returns-clause-sound
returns-clause-sound g c =
    found-sound g.S.StepCounter g.M.FailureMemo (g.W.SearchContext.searching c.args._planned.now) c.args.progress.now.memo c.record_key_found_end.new.self (record_key_as_spec c.args.key) c.requires.sound c.requires.finds
    c.record_key_found_end.ensures.terms c.record_key_found_end.ensures.failed c.record_key_found_end.ensures.succeeded
