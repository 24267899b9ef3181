use Rattle.std.proofs.Common.{◌≡◌, ◌∙◌, sym, ap, refl}
use Rattle.std.specs.Char.{is_ascii_digit}
use Rattle.regex_meaning.specs.EscapesNamesQuantifiers.{null}
use Rattle.regex_parser.proofs.EscapeLemmas.{no_digit_here}
use Rattle.regex_parser.proofs.escapes_and_group_names.null.Goals as goal

pub returns-in_default : goal.returns-in_default
returns-in_default c = λ unicode. null refl (no_digit_here _ _ c.peek.ensures.text
    (λ d e. let same : d ≡ c.in-Some.c = cc in ap is_ascii_digit same ∙ sym c.is_ascii_digit.ensures.value ∙ c.if-is_ascii_digit.false))

pub returns-in_default-2 : goal.returns-in_default-2
returns-in_default-2 c = λ unicode. null refl (no_digit_here _ _ c.peek.ensures.text (λ d e. absurd cc))
