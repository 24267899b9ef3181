use Rattle.std.proofs.Common.{sym, ◌∙◌, subst}
use Rattle.std.proofs.lemmas.Bool.Decides.{Decides-eqb}
use Rattle.std.proofs.lemmas.Slice.Eq.{slice_eq-Decides}
use Rattle.memchr.specs.Find.{FindsNeedle}
use Rattle.regress_search.proofs.literal_finder.StartLiteralFinder.find.Goals as goal

pub returns-then-eq : goal.returns-then-eq
returns-then-eq c =
    let same = slice_eq-Decides Decides-eqb c.needle.result.now c.args.row.now _ c.eq.ensures in
    subst (λ row. FindsNeedle c.args.bytes.now row 0 c.find.result) (sym c.needle.ensures ∙ same.0 c.if-eq.true) c.find.ensures
