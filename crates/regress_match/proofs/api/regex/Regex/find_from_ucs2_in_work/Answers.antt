use Rattle.std.proofs.Common.{◌∙◌, ap, nat_le, not}
use Rattle.regress_match.proofs.SearchStartLemmas.{ucs2_start, ucs2_units}
use Rattle.regress_match.proofs.api.regex.Regex.find_from_ucs2_in_work.Goals as goal

pub new-matches-requires : goal.new-matches-requires
new-matches-requires c = ucs2_start _ c.args.text.now _ c.in_ok-executor.ensures.text c.args.start

pub returns-clause-ended : goal.returns-clause-ended
returns-clause-ended c =
    c.new-matches.ensures.ended
    ∙ ap (λ n. not (nat_le c.args.start n)) (ucs2_units _ c.args.text.now _ c.in_ok-executor.ensures.text)
