use Rattle.std.proofs.Common.{◌∙◌, ap, refl, sym, arith}
use Rattle.std.proofs.lemmas.Str.Pattern.{split_once_first}
use Rattle.regress_match.proofs.ReplacementExpansionLemmas.{behind-first, name-read, name-unclosed}
use Rattle.regress_match.proofs.api.replace.expansion.read_name.Goals as goal

pub range_from-requires : goal.range_from-requires
range_from-requires c = λ _. behind-first c.args.braced_name.now c.args.braced_name.now 123 refl c.utf8.braced_name (sym c.requires) (omega arith)

pub returns-in-Some : goal.returns-in-Some
returns-in-Some c =
    let rest = c.range_from.result.now in
    let cut = rw c.in-Some.is at (split_once_first 125 rest c.split_once.result c.split_once.ensures.cases (omega arith)) in
    name-read c.args.braced_name.now rest c.in-Some.name.now c.in-Some.left.now c.requires c.range_from.ensures.value cut.0 (ap (λ x. x.now) c.in-Some.name-is ∙ cut.1) (ap (λ x. x.now) c.in-Some.left-is ∙ cut.2)

pub returns-in-None : goal.returns-in-None
returns-in-None c =
    let rest = c.range_from.result.now in
    let cut = rw c.in-None.is at (split_once_first 125 rest c.split_once.result c.split_once.ensures.cases (omega arith)) in
    name-unclosed c.args.braced_name.now rest c.requires c.range_from.ensures.value cut
