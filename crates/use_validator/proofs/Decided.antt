-- What the first item of a search within a work budget decides, and how much work suffices.
use Rattle.std.proofs.Common.{◌≡◌, ◌≤◌, ◌<◌, ◌+◌, ◌*◌, ◌^◌, ◌∙◌, ℕ, List, true, false, ap, sym, subst}
use Rattle.std.specs.Prelude.{Option, Some, None, Result, Ok, Err, SomeIff}
use Rattle.regress_search.specs.MatchesWithinWork.{NextYieldsWithinWork, RemainingAnswersAndWork}
use Rattle.regress_search.specs.declared.exec.Match.{Match}
use Rattle.regress_search.specs.declared.exec.work_matches.WorkError.{WorkError}
use Rattle.regress_search.specs.declared.exec.work_matches.WorkError.TheVariants.{WorkLimit}
use Rattle.regress_match.specs.ProgramTreesAndAnswers.{bytes_as_utf8_text, tree_for_byte_units, utf8_answers}
use Rattle.regress_match.specs.WorkBounds.{YieldsMatchesIfWorkSuffices, enough_work_for_text}
use Rattle.regress_match.specs.declared.api.regex.Regex.{Regex}
use Rattle.use_validator.specs.Judge.{verdict_of_matches}
use Rattle.use_validator.specs.declared.judge.Verdict.{Verdict}
use Rattle.use_validator.specs.declared.judge.Verdict.TheVariants.{Matches, NoMatch}

-- ---- The first item

module _ (re : Regex) (text : List ℕ) (per_unit work : ℕ) (it behind : RemainingAnswersAndWork) (yields : YieldsMatchesIfWorkSuffices (tree_for_byte_units re) (bytes_as_utf8_text re text) 0 per_unit work it) where
  abbrev truth : Verdict
  truth = verdict_of_matches (utf8_answers re text 0)

  -- The first item is a match.
  pub work-match : (item : Result Match WorkError) (m : Match) → item ≡ Ok m → NextYieldsWithinWork it (Some item) behind → Matches ≡ truth
  work-match item m is gives =
      let came = subst (λ r. NextYieldsWithinWork it (Some r) behind) is gives in
      ap verdict_of_matches (sym came.0.0 ∙ yields.answers)

  -- There is no item.
  pub work-none : NextYieldsWithinWork it None behind → NoMatch ≡ truth
  work-none gives = ap verdict_of_matches (sym gives.0.0 ∙ yields.answers)

  -- `WorkLimit` does not occur if the work suffices.
  pub never-out : enough_work_for_text per_unit (bytes_as_utf8_text re text) ≤ work → (item : Result Match WorkError) (e : WorkError) → item ≡ Err e → e ≡ WorkLimit
      → NextYieldsWithinWork it (Some item) behind → ⊥
  never-out enough item e is limit gives =
      let out = subst (λ e. NextYieldsWithinWork it (Some (Err e)) behind) limit (subst (λ r. NextYieldsWithinWork it (Some r) behind) is gives) in
      let never : true ≡ false = sym (yields.enough enough) ∙ out.0.0.0 in
      absurd (cc)

-- ---- How much work suffices

-- A product of equal numbers.
pub enough-same : (r : Option ℕ) (each per_unit places units : ℕ) → SomeIff r (each * places < 2 ^ 64) (each * places) → each ≡ per_unit → places ≡ units + 1
    → SomeIff r (per_unit * (units + 1) < 2 ^ 64) (per_unit * (units + 1))
enough-same r each per_unit places units h same all =
    subst (λ p. SomeIff r (per_unit * p < 2 ^ 64) (per_unit * p)) all (subst (λ e. SomeIff r (e * places < 2 ^ 64) (e * places)) same h)
