use Rattle.std.proofs.Common.{◌∙◌, ap, nat_le, not}
use Rattle.regress_match.proofs.SearchStartLemmas.{utf16_start, utf16_units}
use Rattle.regress_match.proofs.api.regex.Regex.find_from_utf16.Goals as goal

pub new-requires : goal.new-requires
new-requires c = utf16_start _ c.args.text.now _ c.in_ok-utf16_search.ensures.text (λ k _. (c.type_inv.text k).fits) c.args.start c.requires

pub returns-clause-ended : goal.returns-clause-ended
returns-clause-ended c =
    c.new.ensures.ended
    ∙ ap (λ n. not (nat_le c.args.start n)) (utf16_units _ c.args.text.now _ c.in_ok-utf16_search.ensures.text (λ k _. (c.type_inv.text k).fits))
