use Rattle.std.proofs.Common.{◌∙◌, ap, nat_le, not, refl, subst, sym}
use Rattle.regex_meaning.specs.Text.{utf16_text}
use Rattle.regex_pattern_front.specs.AstToSpecTree.{tree_of}
use Rattle.regress_bounded.specs.WorkBoundForAllMatches.{TreeHasWorkBound}
use Rattle.regress_match.specs.ProgramTreesAndAnswers.{tree_for_16_bit_units}
use Rattle.regress_match.proofs.SearchStartLemmas.{utf16_start, utf16_units}
use Rattle.regress_match.proofs.WorkBoundLemmas.{bound-Begins, bound-Yields, max_of_two-right}
use Rattle.regress_match.proofs.api.work_budget_searches.BoundedRegex.find_from_utf16.Goals as goal

pub matches_utf16-requires : goal.matches_utf16-requires
matches_utf16-requires c = record {
  bound = subst (λ t. TreeHasWorkBound (tree_of t) c.self.inside.units) (sym c.unit_program-program.ensures) c.self.invariant.bound_for_units;
  start = utf16_start _ c.args.text.now (tree_of c.unit_program-program.result.now).flags.unicode refl (λ k _. (c.type_inv.text k).fits) c.args.start c.requires;
}

pub returns-clause-yields : goal.returns-clause-yields
returns-clause-yields c = bound-Yields tree_for_16_bit_units c.self.inside.re.now (utf16_text c.args.text.now) (max_of_two-right _ _) c.self.view_is (ap tree_of c.unit_program-program.ensures) c.in_ok-matches.ensures.yields

pub returns-clause-ended : goal.returns-clause-ended
returns-clause-ended c = c.in_ok-matches.ensures.ended ∙ ap (λ n. not (nat_le c.args.start n)) (utf16_units _ c.args.text.now (tree_of c.unit_program-program.result.now).flags.unicode refl (λ k _. (c.type_inv.text k).fits))

pub returns-clause-begins : goal.returns-clause-begins
returns-clause-begins c = bound-Begins tree_for_16_bit_units c.self.inside.re.now (utf16_text c.args.text.now) c.self.view_is (ap tree_of c.unit_program-program.ensures) c.in_ok-matches.ensures.begins
