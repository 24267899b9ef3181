use Rattle.std.proofs.Common.{◌≡◌, ◌++◌, flat_map, string_bytes, ℕ, List}
use Rattle.std.specs.Prelude.{IfSome, Option}
use Rattle.regex_meaning.specs.Laws.{Each}
use Rattle.regress_search.specs.MatchesAsSpecAnswers.{answer_of}
use Rattle.regress_match.specs.ExpansionsAndMatchRanges.{IsCharBoundaryRange}
use Rattle.use_renamer.specs.Names.{group_name_and_text, groups_shown}
use Rattle.use_renamer.proofs.groups.show.Given as goal

abbrev pub invariant-loop-name : goal.invariant-loop-name
invariant-loop-name l = record {
  can : (goal.iterator-loop-name).can_next l.name-iterator;
  finite : (goal.iterator-loop-name).is_finite l.name-iterator;
  fit : Each (λ (named : List ℕ × Option (ℕ × ℕ)). IfSome named.1 (IsCharBoundaryRange l.text)) l.name-iterator;
  written : string_bytes l.line ++ flat_map (group_name_and_text l.text) l.name-iterator ≡ groups_shown l.text (answer_of l.found);
}
