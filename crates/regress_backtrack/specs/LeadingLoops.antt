-- When a search may skip the positions of the leading char loop.
use Rattle.std.specs.Prelude.{◌≤◌, ℕ}
use Rattle.regex_meaning.specs.CodeUnitOffsets.{IsBoundary}
use Rattle.regress_machine.specs.SearchFindsFirstOutcomeAtPlace.{TreeProgramCanSearchText}
use Rattle.regress_program.specs.LeadingCharLoops.{OnlyOpensGroups}
use Rattle.regress_search.specs.AttemptsAndStarts.{NoMatchAt}
use Rattle.regress_search.specs.TreePlanAndText.{SearchInput, program_of}

-- A search may skip the positions of the leading char loop from `from` on: each match opens `opens`
-- groups and then begins with the loop, and no match begins at the start `tried`, which is at
-- `from` or before.
pub record MayPassLeadingLoop (w : SearchInput) (opens tried from : ℕ) : Type 0 where
  pub opened : OnlyOpensGroups w.plan opens
  pub tried_on : IsBoundary w.text tried
  pub at : IsBoundary w.text from
  pub ahead : tried ≤ from
  pub executable : TreeProgramCanSearchText (program_of w) w.tree w.text
  pub no_match : NoMatchAt w.tree w.text tried
