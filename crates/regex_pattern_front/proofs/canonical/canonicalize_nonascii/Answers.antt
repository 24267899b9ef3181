use Rattle.std.proofs.Common.{sym, ap, ◌∙◌}
use Rattle.ucd_case.specs.CaseFolding.{simple_fold}
use Rattle.regex_meaning.specs.Canonical.{canonicalize}
use Rattle.regex_pattern_front.proofs.CanonicalLemmas.{folds-simply, no-character}
use Rattle.regex_pattern_front.proofs.canonical.canonicalize_nonascii.Goals as goal

pub returns-in-None : goal.returns-in-None
returns-in-None c = no-character c.args.unicode c.args.c c.in-None.ensures.cases

pub returns-in-Some : goal.returns-in-Some
returns-in-Some c =
    c.from.ensures ∙ c.simple_fold.ensures ∙ ap simple_fold c.in-Some.ensures.value.1
    ∙ folds-simply c.args.c ∙ ap (λ u. canonicalize u c.args.c) (sym c.if-unicode.true)
