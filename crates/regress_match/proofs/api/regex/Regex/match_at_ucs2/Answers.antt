use Rattle.std.proofs.Common.{refl}
use Rattle.std.proofs.lemmas.Result.{IfOk-weaker}
use Rattle.regex_meaning.specs.Text.{ucs2_text}
use Rattle.regex_meaning.proofs.CodeUnitOffsetsLemmas.{ucs2_text-IsText}
use Rattle.regex_meaning.proofs.CodeUnitLengthLemmas.{ucs2_text-units}
use Rattle.regress_match.specs.ProgramTreesAndAnswers.{units_as_ucs2_text, tree_for_16_bit_units}
use Rattle.regress_match.proofs.FirstMatchLemmas.{at-fits_units, at-found}
use Rattle.regress_match.proofs.SearchStartLemmas.{ucs2_start}
use Rattle.regress_match.proofs.api.regex.Regex.match_at_ucs2.Goals as goal

pub match_at-requires : goal.match_at-requires
match_at-requires c = ucs2_start _ c.args.text.now _ c.in_ok-ucs2_search.ensures.text c.args.at

pub returns-clause-found : goal.returns-clause-found
returns-clause-found c = IfOk-weaker c.match_at.result _ _ (λ m. at-found (ucs2_text c.args.text.now) _ _ _ _ c.args.at _ c.in_ok-ucs2_search.ensures.tree c.in_ok-ucs2_search.ensures.text refl) c.match_at.ensures.found

pub returns-clause-fits : goal.returns-clause-fits
returns-clause-fits c = IfOk-weaker c.match_at.result _ _ (λ m e. at-fits_units (tree_for_16_bit_units c.args.self.now).root (units_as_ucs2_text c.args.self.now c.args.text.now) (ucs2_text-IsText c.args.text.now (tree_for_16_bit_units c.args.self.now).flags.unicode) c.args.text.now (ucs2_text-units c.args.text.now (tree_for_16_bit_units c.args.self.now).flags.unicode) c.args.at m e) (returns-clause-found c)
