-- What an iterator over matches still has to yield.
use Rattle.std.specs.Prelude.{◌≡◌, ℕ, ◌+◌, ◌==◌, Bool, true, false, not, List, [], ◌∷◌, length, Option, Some, None, Result, Ok, Err, is_none, if◌then◌else◌}
use Rattle.regex_meaning.specs.Tree.{Tree}
use Rattle.regex_meaning.specs.Text.{Text}
use Rattle.regex_meaning.specs.CodeUnitOffsets.{units}
use Rattle.regex_meaning.specs.MatchGroupsByNumberAndName.{Answer}
use Rattle.regex_meaning.specs.StepBudget.{answers_within_from_next, finishes_from_next}
use Rattle.regress_search.specs.declared.exec.Match.{Match}
use Rattle.regress_search.specs.declared.exec.SearchError.{SearchError}
use Rattle.regress_search.specs.declared.exec.SearchError.TheVariants.{Memory, StepLimit}
use Rattle.regress_search.specs.MatchesAsSpecAnswers.{answer_of}
use Rattle.regress_search.specs.SearchEffects.{cause_of_error}

-- The answers still to come, and whether `StepLimit` follows them instead of the end of the list.
-- An iterator that has ended yields nothing more. The view also has the end of the text in code
-- units, and whether the step limit was reached.
pub record RemainingView : Type 0 where
  pub answers : List Answer
  pub limited : Bool
  pub ended : Bool
  pub text_end : ℕ
  pub out_of_steps : Bool

-- The iterator has ended.
abbrev pub HasEnded : RemainingView → Type 0
HasEnded t = (t.answers ≡ []) × (t.limited ≡ false) × (t.ended ≡ true)

-- The view of an iterator within a step budget. The list continues at `position`, or has ended if
-- that is `None`.
abbrev pub remaining_answers_from : Tree → Text → (budget position : Option ℕ) → (out_of_steps : Bool) → RemainingView
remaining_answers_from tree text budget position out_of_steps = record {
  answers = answers_within_from_next tree text budget position;
  limited = not (finishes_from_next tree text budget position);
  ended = is_none position;
  text_end = units text;
  out_of_steps = out_of_steps;
}

-- When an error may be returned. `StepLimit`: only if it is next. `Memory`: at any time.
abbrev pub MayReturnError : SearchError → RemainingView → Type 0
MayReturnError Memory s = Unit {0}
MayReturnError StepLimit s = (s.answers ≡ []) × (s.limited ≡ true)

-- The effect of one call. It returns the head of the list and leaves its tail, and the list ends if
-- the match begins at the end of the text. It returns `None` only if the list is empty and
-- `StepLimit` does not follow. It returns an error only if the list had not ended, and then the
-- list ends.
abbrev pub NextYields : RemainingView → Option (Result Match SearchError) → RemainingView → Type 0
NextYields s None t = (s.answers ≡ []) × (s.limited ≡ false) × HasEnded t
NextYields s (Some (Ok m)) t =
    (s.answers ≡ answer_of m ∷ t.answers) × (s.limited ≡ t.limited) × (s.ended ≡ false)
    × (t.text_end ≡ s.text_end) × (t.ended ≡ (m.range.start == s.text_end))
NextYields s (Some (Err e)) t = MayReturnError e s × (s.ended ≡ false) × HasEnded t
    × (e ≡ cause_of_error t.out_of_steps)

-- An upper bound of the number of items still to come. An error counts as an item.
abbrev pub max_items_left : RemainingView → ℕ
max_items_left s = if s.ended then 0 else length s.answers + 1

-- After a match that begins at the end of the text, the next call returns `None`.
abbrev pub EndsAtTextEnd : Type 0
EndsAtTextEnd = (before behind later : RemainingView) (m : Match) (next : Option (Result Match SearchError))
    → NextYields before (Some (Ok m)) behind → m.range.start ≡ before.text_end → NextYields behind next later
    → next ≡ None
