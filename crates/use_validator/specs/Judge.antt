-- What a pattern says about a text, if the steps of a search are limited.
use Rattle.std.specs.Prelude.{◌≡◌, ◌⊎◌, ℕ, Bool, true, false, List, [], ◌∷◌, nat_le}
use Rattle.regex_meaning.specs.MatchGroupsByNumberAndName.{Answer}
use Rattle.regex_meaning.specs.StepBudget.{need_from}
use Rattle.regress_match.specs.ProgramTreesAndAnswers.{bytes_as_utf8_text, tree_for_byte_units, utf8_answers}
use Rattle.regress_match.specs.declared.api.regex.Regex.{Regex}
use Rattle.use_validator.specs.declared.judge.Verdict.{Verdict}
use Rattle.use_validator.specs.declared.judge.Verdict.TheVariants.{Matches, NoMatch, OutOfSteps}

-- The number of steps that a search needs to find the first match, or to find that there is none.
abbrev pub steps_needed : Regex → (text : List ℕ) → ℕ
steps_needed re text = need_from (tree_for_byte_units re) (bytes_as_utf8_text re text) 0

-- The verdict for a list of matches: whether there are any.
abbrev pub verdict_of_matches : List Answer → Verdict
verdict_of_matches [] = NoMatch
verdict_of_matches (m ∷ ms) = Matches

-- The verdict for a list of matches. If the steps do not suffice, it is `OutOfSteps`.
abbrev pub verdict_if_steps_suffice : (enough : Bool) → List Answer → Verdict
verdict_if_steps_suffice true ms = verdict_of_matches ms
verdict_if_steps_suffice false ms = OutOfSteps

-- The verdict for a text. The text matches if the pattern has a match anywhere in it.
abbrev pub verdict_of : Regex → (text : List ℕ) → (steps : ℕ) → Verdict
verdict_of re text steps = verdict_if_steps_suffice (nat_le (steps_needed re text) steps) (utf8_answers re text 0)

-- The verdict is right: it says whether there are matches. It may be `OutOfSteps` only if the steps
-- do not suffice.
abbrev pub IsVerdictRight : Regex → (text : List ℕ) → (steps : ℕ) → Verdict → Type 0
IsVerdictRight re text steps verdict =
    (verdict ≡ verdict_of_matches (utf8_answers re text 0))
    ⊎ ((nat_le (steps_needed re text) steps ≡ false) × (verdict ≡ OutOfSteps))
