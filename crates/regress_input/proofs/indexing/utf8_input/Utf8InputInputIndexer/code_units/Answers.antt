use Rattle.regex_meaning.specs.Text.{utf8_text}
use Rattle.regex_meaning.specs.CodeUnits.{utf8}
use Rattle.regress_input.proofs.StoredUnitLemmas.{numbers, stand}
use Rattle.regress_input.proofs.Utf8Slices.{literal}
use Rattle.regress_input.proofs.UnitsOfInputTexts.{utf8_text-units_in}
use Rattle.regress_input.proofs.indexing.utf8_input.Utf8InputInputIndexer.code_units.Goals as goal

pub returns-clause-units : goal.returns-clause-units
returns-clause-units c = let it = c.args.self.now in numbers utf8 (utf8_text it.input.now it.unicode) c.as_bytes.result.now it.input.now c.as_bytes.ensures.value (utf8_text-units_in it.input.now it.unicode it.is_utf8)

pub returns-clause-again : goal.returns-clause-again
returns-clause-again c = let it = c.args.self.now in stand utf8 (utf8_text it.input.now it.unicode) c.as_bytes.result.now it.input.now c.as_bytes.ensures.value (literal it.input.now it.unicode it.is_utf8)
