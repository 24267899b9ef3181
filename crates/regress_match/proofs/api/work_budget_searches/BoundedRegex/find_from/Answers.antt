use Rattle.std.proofs.Common.{◌∙◌, ap, nat_le, not, refl, subst, sym}
use Rattle.regex_meaning.specs.Text.{utf8_text}
use Rattle.regex_pattern_front.specs.AstToSpecTree.{tree_of}
use Rattle.regress_bounded.specs.WorkBoundForAllMatches.{TreeHasWorkBound}
use Rattle.regress_match.specs.ProgramTreesAndAnswers.{tree_for_byte_units}
use Rattle.regress_match.specs.ExpansionsAndMatchRanges.{MatchesFitTextInOrderFrom}
use Rattle.regress_match.proofs.MatchRangeLemmas.{matches-stand}
use Rattle.regress_match.proofs.SearchStartLemmas.{utf8_start, utf8_units}
use Rattle.regress_match.proofs.WorkBoundLemmas.{bound-Begins, bound-Yields, max_of_two-left}
use Rattle.regress_match.proofs.api.work_budget_searches.BoundedRegex.find_from.Goals as goal

pub matches_utf8-requires : goal.matches_utf8-requires
matches_utf8-requires c = record {
  bound = subst (λ t. TreeHasWorkBound (tree_of t) c.self.inside.bytes) (sym c.byte_program-program.ensures) c.self.invariant.bound_for_bytes;
  start = utf8_start _ c.args.text.now (tree_of c.byte_program-program.result.now).flags.unicode refl c.utf8.text c.args.start c.requires;
}

pub returns-clause-yields : goal.returns-clause-yields
returns-clause-yields c = bound-Yields tree_for_byte_units c.self.inside.re.now (utf8_text c.args.text.now) (max_of_two-left _ _) c.self.view_is (ap tree_of c.byte_program-program.ensures) c.in_ok-matches.ensures.yields

pub returns-clause-in_text : goal.returns-clause-in_text
returns-clause-in_text c =
    subst (MatchesFitTextInOrderFrom c.args.text.now c.args.start) (sym (returns-clause-yields c).answers) (matches-stand c.args.self.now.re c.args.text.now c.args.start c.utf8.text)

pub returns-clause-ended : goal.returns-clause-ended
returns-clause-ended c = c.in_ok-matches.ensures.ended ∙ ap (λ n. not (nat_le c.args.start n)) (utf8_units _ c.args.text.now (tree_of c.byte_program-program.result.now).flags.unicode refl c.utf8.text)

pub returns-clause-begins : goal.returns-clause-begins
returns-clause-begins c = bound-Begins tree_for_byte_units c.self.inside.re.now (utf8_text c.args.text.now) c.self.view_is (ap tree_of c.byte_program-program.ensures) c.in_ok-matches.ensures.begins
