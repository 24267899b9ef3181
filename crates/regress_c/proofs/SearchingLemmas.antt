-- The first match of a search is its result if the text and the start pass their checks.
use Rattle.std.proofs.Common.{Option, Result, Ok, Err}
use Rattle.regress_search.specs.declared.exec.Match.{Match}
use Rattle.regress_c.specs.Searching.{MatchesToCome, Finds, IsFirstOfRemainingMatches}
use Rattle.regress_c.specs.declared.refusal.Refusal.{Refusal}
use Rattle.regress_c.specs.declared.refusal.Refusal.TheVariants.{Memory, StepLimit}

pub finds : {A B : Type 0} (coming : MatchesToCome) (found : Result (Option Match) Refusal) → A → B → IsFirstOfRemainingMatches coming found → Finds A B coming found
finds coming (Ok m) a b first = (a, b, first)
finds coming (Err Memory) a b first = (a, b, first)
finds coming (Err StepLimit) a b first = (a, b, first)
finds coming (Err _) a b first = absurd first
