use Rattle.std.proofs.Common.{refl}
use Rattle.regex_meaning.specs.Text.{ucs2_text, fold_code_point}
use Rattle.regex_meaning.specs.CodeUnits.{ucs2}
use Rattle.regress_input.proofs.StoredUnitLemmas.{numbers, stand}
use Rattle.regress_input.proofs.OneUnitCharacters.{literal-one}
use Rattle.regress_input.proofs.UnitsOfInputTexts.{ucs2_text-units_in}
use Rattle.regress_input.proofs.indexing.ucs2_input.Ucs2InputInputIndexer.code_units.Goals as goal

pub returns-clause-units : goal.returns-clause-units
returns-clause-units c = let it = c.args.self.now in numbers ucs2 (ucs2_text it.input.now it.unicode) it.input.now it.input.now refl (ucs2_text-units_in it.input.now it.unicode)

pub returns-clause-again : goal.returns-clause-again
returns-clause-again c = let it = c.args.self.now in stand ucs2 (ucs2_text it.input.now it.unicode) it.input.now it.input.now refl (literal-one it.input.now it.unicode (fold_code_point it.unicode))
