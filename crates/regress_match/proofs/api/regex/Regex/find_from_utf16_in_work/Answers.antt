use Rattle.std.proofs.Common.{◌∙◌, ap, nat_le, not}
use Rattle.regress_match.proofs.SearchStartLemmas.{utf16_start, utf16_units}
use Rattle.regress_match.proofs.api.regex.Regex.find_from_utf16_in_work.Goals as goal

pub new-matches-requires : goal.new-matches-requires
new-matches-requires c = utf16_start _ c.args.text.now _ c.in_ok-executor.ensures.text (λ k _. (c.type_inv.text k).fits) c.args.start c.requires

pub returns-clause-ended : goal.returns-clause-ended
returns-clause-ended c =
    c.new-matches.ensures.ended
    ∙ ap (λ n. not (nat_le c.args.start n)) (utf16_units _ c.args.text.now _ c.in_ok-executor.ensures.text (λ k _. (c.type_inv.text k).fits))
