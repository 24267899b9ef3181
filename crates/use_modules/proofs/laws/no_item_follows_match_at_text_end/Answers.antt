use Rattle.std.specs.Prelude.{Some}
use Rattle.use_modules.proofs.laws.no_item_follows_match_at_text_end.Goals as goal

pub returns : goal.returns
returns c = λ before behind later m item first at_end next.
    absurd (cc (c.match_at_text_end_is_last.ensures before behind later m (Some item) first at_end next))
