use Rattle.std.proofs.Common.{refl}
use Rattle.std.proofs.lemmas.Result.{IfOk-weaker}
use Rattle.regex_meaning.specs.Text.{utf8_text}
use Rattle.regex_meaning.proofs.CodeUnitOffsetsLemmas.{utf8_text-IsText}
use Rattle.regress_match.specs.ProgramTreesAndAnswers.{bytes_as_utf8_text, tree_for_byte_units}
use Rattle.regress_match.proofs.MatchRangeLemmas.{matches-stand}
use Rattle.regress_match.proofs.FirstMatchLemmas.{at-fits_text, at-found}
use Rattle.regress_match.proofs.SearchStartLemmas.{utf8_start}
use Rattle.regress_match.proofs.api.regex.Regex.match_at.Goals as goal

pub match_at-requires : goal.match_at-requires
match_at-requires c = utf8_start _ c.args.text.now _ c.in_ok-utf8_search.ensures.text c.utf8.text c.args.at c.requires

pub returns-clause-found : goal.returns-clause-found
returns-clause-found c = IfOk-weaker c.match_at.result _ _ (λ m. at-found (utf8_text c.args.text.now) _ _ _ _ c.args.at _ c.in_ok-utf8_search.ensures.tree c.in_ok-utf8_search.ensures.text refl) c.match_at.ensures.found

pub returns-clause-fits : goal.returns-clause-fits
returns-clause-fits c = IfOk-weaker c.match_at.result _ _ (λ m e. at-fits_text (tree_for_byte_units c.args.self.now).root (bytes_as_utf8_text c.args.self.now c.args.text.now) (utf8_text-IsText c.args.text.now (tree_for_byte_units c.args.self.now).flags.unicode) c.args.text.now c.args.at m (matches-stand c.args.self.now c.args.text.now c.args.at c.utf8.text) e) (returns-clause-found c)
