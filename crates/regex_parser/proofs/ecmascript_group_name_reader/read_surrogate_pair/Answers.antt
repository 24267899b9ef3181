use Rattle.std.proofs.Common.{sym, ap, ◌∙◌, true≢false}
use Rattle.regex_meaning.specs.EscapesNamesQuantifiers.{is_low_surrogate}
use Rattle.regex_meaning.proofs.EscapesAndNamesLemmas.{firsts}
use Rattle.regex_parser.proofs.EcmaNameLemmas.{pair-none, pair-read, nil-not-cons}
use Rattle.regex_parser.proofs.ecmascript_group_name_reader.read_surrogate_pair.Goals as goal

pub returns-in_err-trail-clause-text : goal.returns-in_err-trail-clause-text
returns-in_err-trail-clause-text c =
    λ is_first. rw c.from_residual.ensures (pair-none is_first c.requires (λ t rest e k. nil-not-cons (sym c.in_err-trail.ensures.text.0 ∙ e)))

pub returns-then-is_low_surrogate-clause-text : goal.returns-then-is_low_surrogate-clause-text
returns-then-is_low_surrogate-clause-text c =
    λ is_first. pair-read is_first c.requires c.in_ok-trail.ensures.text (sym c.is_low_surrogate.ensures ∙ c.if-is_low_surrogate.true)

pub returns-else-is_low_surrogate-clause-text : goal.returns-else-is_low_surrogate-clause-text
returns-else-is_low_surrogate-clause-text c =
    λ is_first. pair-none is_first c.requires
    (λ t rest e k. true≢false (sym k ∙ ap is_low_surrogate (firsts e c.in_ok-trail.ensures.text) ∙ sym c.is_low_surrogate.ensures ∙ c.if-is_low_surrogate.false))
