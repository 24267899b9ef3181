use Rattle.std.proofs.Common.{refl}
use Rattle.std.proofs.lemmas.Result.{IfOk-weaker}
use Rattle.regex_meaning.specs.Text.{utf16_text}
use Rattle.regex_meaning.proofs.CodeUnitOffsetsLemmas.{utf16_text-IsText}
use Rattle.regex_meaning.proofs.UnitBoundaryLemmas.{units-utf16}
use Rattle.regress_match.specs.ProgramTreesAndAnswers.{units_as_utf16_text, tree_for_16_bit_units}
use Rattle.regress_match.proofs.FirstMatchLemmas.{at-fits_units, at-found}
use Rattle.regress_match.proofs.SearchStartLemmas.{utf16_start}
use Rattle.regress_match.proofs.api.regex.Regex.match_at_utf16.Goals as goal

pub match_at-requires : goal.match_at-requires
match_at-requires c = utf16_start _ c.args.text.now _ c.in_ok-utf16_search.ensures.text (λ k _. (c.type_inv.text k).fits) c.args.at c.requires

pub returns-clause-found : goal.returns-clause-found
returns-clause-found c = IfOk-weaker c.match_at.result _ _ (λ m. at-found (utf16_text c.args.text.now) _ _ _ _ c.args.at _ c.in_ok-utf16_search.ensures.tree c.in_ok-utf16_search.ensures.text refl) c.match_at.ensures.found

pub returns-clause-fits : goal.returns-clause-fits
returns-clause-fits c = IfOk-weaker c.match_at.result _ _ (λ m e. at-fits_units (tree_for_16_bit_units c.args.self.now).root (units_as_utf16_text c.args.self.now c.args.text.now) (utf16_text-IsText c.args.text.now (tree_for_16_bit_units c.args.self.now).flags.unicode) c.args.text.now (units-utf16 c.args.text.now (tree_for_16_bit_units c.args.self.now).flags.unicode (λ k _. (c.type_inv.text k).fits)) c.args.at m e) (returns-clause-found c)
