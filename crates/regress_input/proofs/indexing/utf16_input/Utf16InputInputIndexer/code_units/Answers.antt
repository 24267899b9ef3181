use Rattle.std.proofs.Common.{refl}
use Rattle.regex_meaning.specs.Text.{utf16_text}
use Rattle.regex_meaning.specs.CodeUnits.{utf16}
use Rattle.regress_input.proofs.StoredUnitLemmas.{numbers, stand}
use Rattle.regress_input.proofs.Utf16Slices.{literal}
use Rattle.regress_input.proofs.UnitsOfInputTexts.{utf16_text-units_in}
use Rattle.regress_input.proofs.indexing.utf16_input.Utf16InputInputIndexer.code_units.Goals as goal

pub returns-clause-units : goal.returns-clause-units
returns-clause-units c = let it = c.args.self.now in numbers utf16 (utf16_text it.input.now it.unicode) it.input.now it.input.now refl (utf16_text-units_in it.input.now it.unicode it.small)

pub returns-clause-again : goal.returns-clause-again
returns-clause-again c = let it = c.args.self.now in stand utf16 (utf16_text it.input.now it.unicode) it.input.now it.input.now refl (literal it.input.now it.small it.unicode)
