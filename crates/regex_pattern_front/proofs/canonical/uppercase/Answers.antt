use Rattle.std.proofs.Common.{◌<◌, ◌≤◌, [], ◌∷◌, sym, ap, ◌∙◌, arith}
use Rattle.regex_meaning.specs.Canonical.{uppercase_or_itself}
use Rattle.regex_pattern_front.proofs.CanonicalLemmas.{itself-past-units, several-forms, one-form}
use Rattle.regex_pattern_front.proofs.canonical.uppercase.Goals as goal

pub returns-then-c-gt65535 : goal.returns-then-c-gt65535
returns-then-c-gt65535 c =
    let past : 0xFFFF < c.args.character = omega (arith, c.from-c.ensures, c.if-c-gt65535.true) in
    c.from-c.ensures ∙ itself-past-units c.args.character past

pub returns-in-Some-next : goal.returns-in-Some-next
returns-in-Some-next c =
    let within : c.args.character ≤ 0xFFFF = omega (arith, c.from-c.ensures, c.if-c-gt65535.false) in
    let first = sym c.next.ensures.steps.0 ∙ c.in-Some.is in
    let second = sym c.next.ensures.steps.1 ∙ sym c.next-2.ensures.steps.0 ∙ c.in-Some-next.is in
    c.from-c.ensures ∙ several-forms _ _ _ _ _ c.args.character first second within c.to_uppercase-forms.ensures.value

pub returns-in-None : goal.returns-in-None
returns-in-None c =
    let within : c.args.character ≤ 0xFFFF = omega (arith, c.from-c.ensures, c.if-c-gt65535.false) in
    let first = sym c.next.ensures.steps.0 ∙ c.in-Some.is in
    let second = sym c.next.ensures.steps.1 ∙ sym c.next-2.ensures.steps.0 ∙ c.in-None.is in
    c.nonascii_uppercase_unit_or_self.ensures ∙ ap (λ x. uppercase_or_itself x (c.from.result ∷ [])) c.from-c.ensures ∙ ap (λ x. uppercase_or_itself c.args.character (x ∷ [])) c.from.ensures
    ∙ one-form _ _ _ _ c.args.character first second (c.to_uppercase-forms.ensures.packed second) within c.to_uppercase-forms.ensures.value
