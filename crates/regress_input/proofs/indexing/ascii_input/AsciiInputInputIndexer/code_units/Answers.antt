use Rattle.std.proofs.Common.{refl}
use Rattle.regex_meaning.specs.Text.{ascii_text, fold_ascii}
use Rattle.regex_meaning.specs.CodeUnits.{utf8}
use Rattle.regress_input.proofs.StoredUnitLemmas.{numbers, stand}
use Rattle.regress_input.proofs.OneUnitCharacters.{literal-one}
use Rattle.regress_input.proofs.UnitsOfInputTexts.{ascii_text-units_in}
use Rattle.regress_input.proofs.indexing.ascii_input.AsciiInputInputIndexer.code_units.Goals as goal

pub returns-clause-units : goal.returns-clause-units
returns-clause-units c = let it = c.args.self.now in numbers utf8 (ascii_text it.input.now it.unicode) it.input.now it.input.now refl (ascii_text-units_in it.input.now it.unicode it.is_ascii)

pub returns-clause-again : goal.returns-clause-again
returns-clause-again c = let it = c.args.self.now in stand utf8 (ascii_text it.input.now it.unicode) it.input.now it.input.now refl (literal-one it.input.now it.unicode (fold_ascii it.unicode))
