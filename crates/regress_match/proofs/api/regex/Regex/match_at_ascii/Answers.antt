use Rattle.std.proofs.lemmas.Result.{IfOk-weaker}
use Rattle.regex_meaning.specs.Text.{ascii_text}
use Rattle.regex_meaning.proofs.CodeUnitOffsetsLemmas.{ascii_text-IsText}
use Rattle.regress_match.specs.ProgramTreesAndAnswers.{bytes_as_ascii_text, tree_for_byte_units}
use Rattle.regress_match.proofs.MatchRangeLemmas.{ascii-stand}
use Rattle.regress_match.proofs.FirstMatchLemmas.{at-fits_text, at-found}
use Rattle.regress_match.proofs.SearchStartLemmas.{ascii_start}
use Rattle.regress_match.proofs.api.regex.Regex.match_at_ascii.Goals as goal

pub match_at-requires : goal.match_at-requires
match_at-requires c = ascii_start _ c.args.text.now _ c.in_ok-executor.ensures.text c.args.at

pub returns-clause-found : goal.returns-clause-found
returns-clause-found c = IfOk-weaker c.match_at.result _ _ (λ m. at-found (ascii_text c.args.text.now) _ _ _ _ c.args.at _ c.in_ok-executor.ensures.tree c.in_ok-executor.ensures.text c.byte_program.ensures) c.match_at.ensures.found

pub returns-clause-fits : goal.returns-clause-fits
returns-clause-fits c = IfOk-weaker c.match_at.result _ _ (λ m e. at-fits_text (tree_for_byte_units c.args.self.now).root (bytes_as_ascii_text c.args.self.now c.args.text.now) (ascii_text-IsText c.args.text.now (tree_for_byte_units c.args.self.now).flags.unicode) c.args.text.now c.args.at m (ascii-stand c.args.self.now c.args.text.now c.args.at c.utf8.text c.requires) e) (returns-clause-found c)
