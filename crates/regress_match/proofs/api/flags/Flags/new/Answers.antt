use Rattle.std.proofs.Common.{ap, sym, ◌∙◌}
use Rattle.std.proofs.iter.runs.Made.{run_of_exit}
use Rattle.regex_meaning.specs.FlagLettersAndEscaping.{flags_from_letters}
use Rattle.regress_match.proofs.FlagLemmas.{flags-none, flags-more}
use Rattle.regress_match.proofs.api.flags.Flags.new.Goals as goal

pub loop-letter-init : goal.loop-letter-init
loop-letter-init g c =
    let f = c.default-flags.result in
    let d = c.default-flags.ensures in
    flags-none f.icase f.multiline f.dot_all f.no_opt f.unicode f.unicode_sets d.0 d.1.0 d.1.1.0 d.1.1.1.0 d.1.1.1.1.0 d.1.1.1.1.1

pub loop-letter-preserved : goal.loop-letter-preserved
loop-letter-preserved g c =
    let f = c.loop-letter.flags in
    flags-more f.icase f.multiline f.dot_all f.no_opt f.unicode f.unicode_sets c.loop-letter.yielded c.in-Some.letter c.loop-letter.invariant

pub returns : goal.returns
returns g c =
    let run = run_of_exit _ _ c.loop-letter.yielded _ c.loop-letter.yielded_by _ c.in-None.ensures.steps in
    (run.0, run.1 ∙ c.into_iter-letter-iterator.ensures.into_iter_gives, run.2, c.loop-letter.invariant ∙ ap flags_from_letters (sym run.3.0))
