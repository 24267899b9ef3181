-- What the first item of a search with a step limit decides.
use Rattle.std.proofs.Common.{◌≡◌, ◌∙◌, ℕ, List, [], ◌∷◌, Bool, true, false, not, ap, refl, sym, subst}
use Rattle.std.specs.Prelude.{Option, Some, None, Result, Ok, Err, nat_le}
use Rattle.std.proofs.lemmas.Bool.{not-true, not-false}
use Rattle.regex_meaning.specs.Tree.{Tree}
use Rattle.regex_meaning.specs.Text.{Text}
use Rattle.regex_meaning.specs.CodeUnitOffsets.{HasRisingPlaceOffsets}
use Rattle.regex_meaning.specs.MatchGroupsByNumberAndName.{Answer, answers_from}
use Rattle.regex_meaning.specs.SearchAnswers.{first_answer, next_start, answer_then_list}
use Rattle.regex_meaning.specs.StepBudget.{answers_within, finishes_within, need_from}
use Rattle.regex_meaning.proofs.SearchAnswersLemmas.{answers-go_on}
use Rattle.regex_meaning.proofs.StepBudgetLemmas.{within-some, within-none, beyond}
use Rattle.regex_meaning.proofs.CodeUnitOffsetsLemmas.{utf8_text-IsText}
use Rattle.regress_search.specs.MatchesAsSpecAnswers.{answer_of}
use Rattle.regress_search.specs.RemainingAnswers.{NextYields, RemainingView}
use Rattle.regress_search.specs.declared.exec.Match.{Match}
use Rattle.regress_search.specs.declared.exec.SearchError.{SearchError}
use Rattle.regress_search.specs.declared.exec.SearchError.TheVariants.{StepLimit}
use Rattle.regress_match.specs.ProgramTreesAndAnswers.{bytes_as_utf8_text, tree_for_byte_units, utf8_answers_within_steps, utf8_steps_suffice}
use Rattle.regress_match.specs.declared.api.regex.Regex.{Regex}
use Rattle.use_validator.specs.Judge.{verdict_of_matches, verdict_of, verdict_if_steps_suffice}
use Rattle.use_validator.specs.declared.judge.Verdict.{Verdict}
use Rattle.use_validator.specs.declared.judge.Verdict.TheVariants.{Matches, NoMatch, OutOfSteps}

-- The matches that are found within the steps, and whether the steps suffice for the end, if this
-- is the verdict.
abbrev pub FollowsFromCounts : (found : List Answer) → (ended : Bool) → Verdict → Type 0
FollowsFromCounts found ended Matches = (m : Answer) × (ms : List Answer) × (found ≡ m ∷ ms)
FollowsFromCounts found ended NoMatch = (found ≡ []) × (ended ≡ true)
FollowsFromCounts found ended OutOfSteps = (found ≡ []) × (ended ≡ false)

module _ (tree : Tree) (text : Text) (is : HasRisingPlaceOffsets text) (steps : ℕ) where
  abbrev all : List Answer
  all = answers_from tree.root text 0

  abbrev Told : Verdict → Type 0
  Told = FollowsFromCounts (answers_within tree text (Some steps) 0) (finishes_within tree text (Some steps) 0)

  enough : (first : Option Answer) → first_answer tree.root text 0 ≡ first → nat_le (need_from tree text 0) steps ≡ true → Told (verdict_of_matches all)
  enough None f e =
      let none : all ≡ [] = answers-go_on tree.root text is 0 ∙ ap (λ a. answer_then_list tree.root text a (next_start tree.root text 0)) f in
      subst (λ ms. Told (verdict_of_matches ms)) (sym none) (within-none tree text is (Some steps) 0 f e)
  enough (Some m) f e =
      let some = answers-go_on tree.root text is 0 ∙ ap (λ a. answer_then_list tree.root text a (next_start tree.root text 0)) f in
      subst (λ ms. Told (verdict_of_matches ms)) (sym some) (m, _, (within-some tree text is (Some steps) 0 m f e).0)

  by : (b : Bool) → nat_le (need_from tree text 0) steps ≡ b → Told (verdict_if_steps_suffice b all)
  by true e = enough (first_answer tree.root text 0) refl e
  by false e = beyond tree text is (Some steps) 0 e

  pub told : Told (verdict_if_steps_suffice (nat_le (need_from tree text 0) steps) all)
  told = by (nat_le (need_from tree text 0) steps) refl

-- What an item says about the remaining answers.
pub came : (before behind : RemainingView) (item : Result Match SearchError) (m : Match) → item ≡ Ok m → NextYields before (Some item) behind
    → before.answers ≡ answer_of m ∷ behind.answers
came before behind item m is gives = (subst (λ r. NextYields before (Some r) behind) is gives).0

pub stopped : (before behind : RemainingView) (item : Result Match SearchError) (e : SearchError) → item ≡ Err e → e ≡ StepLimit → NextYields before (Some item) behind
    → (before.answers ≡ []) × (before.limited ≡ true)
stopped before behind item e is limit gives = (subst (λ e. NextYields before (Some (Err e)) behind) limit (subst (λ r. NextYields before (Some r) behind) is gives)).0

is-match : (found : List Answer) (ended : Bool) (m : Answer) (ms : List Answer) (v : Verdict) → FollowsFromCounts found ended v → found ≡ m ∷ ms → Matches ≡ v
is-match found ended m ms Matches h e = refl
is-match found ended m ms NoMatch h e = let never : [] ≡ m ∷ ms = sym h.0 ∙ e in absurd (cc)
is-match found ended m ms OutOfSteps h e = let never : [] ≡ m ∷ ms = sym h.0 ∙ e in absurd (cc)

is-none : (found : List Answer) (ended : Bool) (v : Verdict) → FollowsFromCounts found ended v → found ≡ [] → ended ≡ true → NoMatch ≡ v
is-none found ended Matches h e on = let never : [] ≡ h.0 ∷ h.1 = sym e ∙ h.2 in absurd (cc)
is-none found ended NoMatch h e on = refl
is-none found ended OutOfSteps h e on = let never : true ≡ false = sym on ∙ h.1 in absurd (cc)

is-past : (found : List Answer) (ended : Bool) (v : Verdict) → FollowsFromCounts found ended v → found ≡ [] → ended ≡ false → OutOfSteps ≡ v
is-past found ended Matches h e on = let never : [] ≡ h.0 ∷ h.1 = sym e ∙ h.2 in absurd (cc)
is-past found ended NoMatch h e on = let never : true ≡ false = sym h.1 ∙ on in absurd (cc)
is-past found ended OutOfSteps h e on = refl

module _ (re : Regex) (bytes : List ℕ) (steps : ℕ) where
  told-of : FollowsFromCounts (utf8_answers_within_steps steps re bytes 0) (utf8_steps_suffice steps re bytes 0) (verdict_of re bytes steps)
  told-of = told (tree_for_byte_units re) (bytes_as_utf8_text re bytes) (utf8_text-IsText bytes (tree_for_byte_units re).flags.unicode) steps

  -- The first item is a match.
  pub verdict-match : (found : List Answer) (m : Answer) (ms : List Answer) → found ≡ utf8_answers_within_steps steps re bytes 0 → found ≡ m ∷ ms → Matches ≡ verdict_of re bytes steps
  verdict-match found m ms same e = is-match _ _ m ms _ told-of (sym same ∙ e)

  -- There is no item, and no step limit follows.
  pub verdict-none : (found : List Answer) (limited : Bool) → found ≡ utf8_answers_within_steps steps re bytes 0 → limited ≡ not (utf8_steps_suffice steps re bytes 0)
      → found ≡ [] → limited ≡ false → NoMatch ≡ verdict_of re bytes steps
  verdict-none found limited same limit e on = is-none _ _ _ told-of (sym same ∙ e) (not-false _ (sym limit ∙ on))

  -- There is no match, and a step limit follows.
  pub verdict-past : (found : List Answer) (limited : Bool) → found ≡ utf8_answers_within_steps steps re bytes 0 → limited ≡ not (utf8_steps_suffice steps re bytes 0)
      → found ≡ [] → limited ≡ true → OutOfSteps ≡ verdict_of re bytes steps
  verdict-past found limited same limit e on = is-past _ _ _ told-of (sym same ∙ e) (not-true _ (sym limit ∙ on))
