use Rattle.std.proofs.Common.{◌∷◌, sym, ap, refl}
use Rattle.regex_meaning.specs.CharacterClasses.{backspace, escaped}
use Rattle.regex_parser.proofs.ClassReaderLemmas.{atom-verbatim, atom-class, no_atom, no_class, err-atom}
use Rattle.regex_parser.proofs.character_class_parser.read_atom.Goals as goal

pub returns-then-c-clause-text : goal.returns-then-c-clause-text
returns-then-c-clause-text c = atom-verbatim c.args.c c.if-c.true c.requires

pub returns-in-Some-clause-text : goal.returns-in-Some-clause-text
returns-in-Some-clause-text c =
    rw c.if-c.false (atom-class _ _ c.peek.result c.next.result _ c.peek.ensures.text (sym c.in-Some.ensures) c.next.ensures.text)

pub returns-then-eat-clause-text : goal.returns-then-eat-clause-text
returns-then-eat-clause-text c = rw c.if-c.false (backspace (ap (λ x. 92 ∷ x) c.if-eat.ensures.text))

pub returns-in_err-character_escape-clause-text : goal.returns-in_err-character_escape-clause-text
returns-in_err-character_escape-clause-text c =
    rw c.if-c.false
    (err-atom _ _ c.from_residual.result c.from_residual.ensures.0
    (no_atom (no_class _ c.peek.result c.peek.ensures.text (sym c.in_default.ensures)) c.if-eat.ensures.text.1
    (rw c.if-eat.ensures.text.0 at c.in_err-character_escape.ensures.text)))

pub returns-clause-text : goal.returns-clause-text
returns-clause-text c = rw c.if-c.false (escaped refl (rw c.if-eat.ensures.text.0 at c.in_ok-character_escape.ensures.text))
