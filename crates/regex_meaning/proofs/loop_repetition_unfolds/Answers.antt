use Rattle.regex_meaning.specs.Outcomes.{repetition, outcomes}
use Rattle.regex_meaning.proofs.OutcomeDirectionLemmas.{outcomes-onward}
use Rattle.regex_meaning.proofs.LoopRepetitionLemmas.{repeat-unfolds}
use Rattle.regex_meaning.proofs.loop_repetition_unfolds.Goals as goal

pub returns : goal.returns
returns c text q loopee change d k place groups =
    repeat-unfolds text d (repetition q (λ p g. outcomes text loopee d p (change g)))
    (λ p g. outcomes-onward text loopee d p (change g)) k place groups
