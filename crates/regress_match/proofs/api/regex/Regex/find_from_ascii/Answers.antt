use Rattle.std.proofs.Common.{◌∙◌, ap, nat_le, not, refl, subst, sym}
use Rattle.std.proofs.lemmas.Result.{IfOk-weaker}
use Rattle.regress_match.specs.ProgramTreesAndAnswers.{tree_for_byte_units}
use Rattle.regress_match.specs.ExpansionsAndMatchRanges.{MatchesFitTextInOrderFrom}
use Rattle.regress_match.proofs.MatchRangeLemmas.{ascii-stand}
use Rattle.regress_match.proofs.SearchStartLemmas.{ascii_start, ascii_units}
use Rattle.regress_match.proofs.api.regex.Regex.find_from_ascii.Goals as goal

pub search_with_executor_from-requires : goal.search_with_executor_from-requires
search_with_executor_from-requires c = λ lifetimes. ((refl, tt), (c.requires, ascii_start _ c.args.text.now (tree_for_byte_units c.args.self.now).flags.unicode refl c.args.start))

pub returns-clause-ended : goal.returns-clause-ended
returns-clause-ended c =
    IfOk-weaker c.search_with_executor_from.result _ _ (λ it e. e ∙ ap (λ n. not (nat_le c.args.start n)) (ascii_units _ c.args.text.now (tree_for_byte_units c.args.self.now).flags.unicode refl)) c.search_with_executor_from.ensures.ended

pub returns-clause-in_text : goal.returns-clause-in_text
returns-clause-in_text c =
    IfOk-weaker c.search_with_executor_from.result _ _
    (λ it y. subst (MatchesFitTextInOrderFrom c.args.text.now c.args.start) (sym y.answers) (ascii-stand c.args.self.now c.args.text.now c.args.start c.utf8.text c.requires)) c.search_with_executor_from.ensures.answers
