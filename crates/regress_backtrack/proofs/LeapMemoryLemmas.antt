-- No match begins before the offset to which a leap leads, so the search may start there.
use Rattle.std.proofs.Common.{◌≡◌, ◌≤◌, ◌<◌, ℕ, ◌+◌, ◌-◌, ◌*◌, ◌/◌, ◌^◌, Option, Some, None, refl, sym, ◌∙◌, subst, arith, inl, inr}
use Rattle.std.specs.Option.{ForSome}
use Rattle.std.specs.Prelude.{option_map, max, min, IfSome}
use Rattle.std.proofs.lemmas.Bool.{cases_lt}
use Rattle.regex_meaning.specs.Tree.{Tree}
use Rattle.regex_meaning.specs.Text.{Text}
use Rattle.regex_meaning.specs.CodeUnitOffsets.{HasRisingPlaceOffsets, IsBoundary, units}
use Rattle.regex_meaning.proofs.OptionLemmas.{some-same}
use Rattle.regex_meaning.proofs.CodeUnitOffsetsLemmas.{IsBoundary-place, offset-IsBoundary}
use Rattle.regress_input.proofs.BoundaryPositions.{boundary_inside}
use Rattle.regress_machine.specs.SearchFindsFirstOutcomeAtPlace.{TreeProgramCanSearchText}
use Rattle.regress_machine.specs.FirstSetTables.{HasUnitsForTables}
use Rattle.regress_program.specs.declared.leap.Leap.{Leap}
use Rattle.regress_program.specs.Leaps.{leap_to_goal, GoalIsAbsentBetween, GoalIsAbsentFrom, IsLeapRightForProgram, HasBarrierBetween}
use Rattle.regress_program.specs.TableKeysOfUnits.{is_16_bit_encoding}
use Rattle.regress_program.proofs.LeapCertificatesLemmas.{starts-cut-off, starts-without}
use Rattle.regress_search.specs.AttemptsAndStarts.{NextStartSkipsNoMatch, NoMatchAt, NoMatchStartsBetween}
use Rattle.regress_search.proofs.FirstMatchLemmas.{vain-at}
use Rattle.regress_search.specs.TreePlanAndText.{SearchInput, program_of}
use Rattle.regress_search.specs.Leaping.{IsPastBarriersBeforeGoal, IsTargetOfLeap, IsTargetOfLeapWithin}
use Rattle.regress_search.specs.declared.leaping.LeapTarget.{LeapTarget}
use Rattle.regress_backtrack.specs.LeapMemory.{NoMatchBeforeLeapTarget}

module _ (w : SearchInput) (has : HasUnitsForTables w.encoding w.text) (can : TreeProgramCanSearchText (program_of w) w.tree w.text) (leap : Leap)
    (is : IsLeapRightForProgram (is_16_bit_encoding w.encoding) (program_of w) leap) (from : ℕ) where
  -- No match begins at an offset if no goal is there or later, or if barriers are before the goal.
  no-goal-excludes : GoalIsAbsentFrom (leap_to_goal leap) w.encoding w.text from → NextStartSkipsNoMatch w.tree w.text from None
  no-goal-excludes absent = λ at on le less.
      let p = IsBoundary-place w.text at has.is_text on in
      vain-at w.tree w.text has.is_text at p.0 p.1
      (starts-without w.encoding (program_of w) w.tree w.text (leap_to_goal leap) can has is.sound from absent p.0 p.3 (subst (λ n. from ≤ n) (sym p.2) le))

  barriers-exclude : (goal to : ℕ) → GoalIsAbsentBetween (leap_to_goal leap) w.encoding w.text from goal → IsPastBarriersBeforeGoal w leap from goal to → NextStartSkipsNoMatch w.tree w.text from (Some to)
  barriers-exclude goal to absent behind = (
    behind.boundary,
    behind.ahead,
    λ at on le less.
        let p = IsBoundary-place w.text at has.is_text on in
        let Barred : ℕ → Type 0 = λ n. HasBarrierBetween (leap_to_goal leap) w.encoding w.text n goal in
        vain-at w.tree w.text has.is_text at p.0 p.1
        (starts-cut-off w.encoding (program_of w) w.tree w.text (leap_to_goal leap) can has is.sound from goal absent p.0 p.3
        (subst (λ n. from ≤ n) (sym p.2) le) (subst Barred (sym p.2) (behind.barred at le less))),
  )

  -- No match begins before the target of a leap.
  pub leap-excludes : (target : Option LeapTarget) → IsTargetOfLeap w leap from target → NextStartSkipsNoMatch w.tree w.text from (option_map (λ t. t.to) target)
  leap-excludes None absent = no-goal-excludes absent
  leap-excludes (Some target) leads = barriers-exclude target.goal target.to leads.absent leads.behind

  pub leap-within-excludes : (limit : ℕ) (target : Option LeapTarget) → IsTargetOfLeapWithin w leap from limit target → NextStartSkipsNoMatch w.tree w.text from (option_map (λ t. t.to) target)
  leap-within-excludes limit None absent = no-goal-excludes absent
  leap-within-excludes limit (Some target) leads = barriers-exclude target.goal target.to leads.0.absent leads.1

-- If no match begins before the next start, the memory of leaps may hold that start.
pub leap-right : (tree : Tree) (text : Text) → HasRisingPlaceOffsets text → (from : ℕ) (next : Option ℕ) → NextStartSkipsNoMatch tree text from next
    → NoMatchBeforeLeapTarget tree text from next
leap-right tree text is from None leads = record {
  boundary = λ to e. cc;
  ahead = λ to e. cc;
  none = λ at on le before. leads at on le (let inside = boundary_inside text is at on in omega (arith, inside));
}
leap-right tree text is from (Some to) leads = record {
  boundary = λ t e. subst (IsBoundary text) (some-same to t e) leads.0;
  ahead = λ t e. subst (λ n. from ≤ n) (some-same to t e) leads.1;
  none = λ at on le before. leads.2 at on le (before to refl);
}

-- The next start is the remembered target or the offset, whichever is further.
pub past-to : (tree : Tree) (text : Text) (from at to : ℕ) (next : Option ℕ) → IsBoundary text at → NoMatchBeforeLeapTarget tree text from next → next ≡ Some to → from ≤ at
    → NextStartSkipsNoMatch tree text at (Some (max at to))
past-to tree text from at to next on right e le = elim (cases_lt at to) [
  | inl before ↦
      let P : ℕ → Type 0 = λ n. NextStartSkipsNoMatch tree text at (Some n) in
      subst P (let same : to ≡ max at to = omega (arith, before) in same) (
        right.boundary to e,
        omega (arith, before),
        λ x there after less. right.none x there (omega (arith, le, after)) (λ t f. subst (λ n. x < n) (some-same to t (sym e ∙ f)) less),
      )
  | inr behind ↦
      let P : ℕ → Type 0 = λ n. NextStartSkipsNoMatch tree text at (Some n) in
      subst P (let same : at ≡ max at to = omega (arith, behind) in same) (on, omega arith, λ x there after less. absurd (omega (arith, after, less)))
]

pub past-none : (tree : Tree) (text : Text) (from at : ℕ) (next : Option ℕ) → NoMatchBeforeLeapTarget tree text from next → next ≡ None → from ≤ at → NextStartSkipsNoMatch tree text at None
past-none tree text from at next right e le = λ x there after less.
    right.none x there (omega (arith, le, after)) (λ t f. let no : None ≡ Some t = sym e ∙ f in cc)

-- An offset is its own next start.
pub at-once : (tree : Tree) (text : Text) (at : ℕ) → IsBoundary text at → NextStartSkipsNoMatch tree text at (Some at)
at-once tree text at on = (on, omega arith, λ x there after less. absurd (omega (arith, after, less)))

-- The memory of leaps is right at first, when it holds offset 0.
pub no-leap-yet : (tree : Tree) (text : Text) → HasRisingPlaceOffsets text → (from : ℕ) (next : Option ℕ) → from ≡ 0 → next ≡ Some 0 → NoMatchBeforeLeapTarget tree text from next
no-leap-yet tree text is from next none first =
    let zero-on : IsBoundary text 0 = subst (IsBoundary text) is.from_zero (offset-IsBoundary text 0 is (omega arith)) in
    rw (none, first) (leap-right tree text is 0 (Some 0) (at-once tree text 0 zero-on))

-- If a leap reads no further than its limit, what was paid still covers the work that is left.
pub covered-stays : (covered work from reach to goal counted : ℕ) → work ≤ covered → reach ≡ min (from + (covered - work) / 2) (2 ^ 64 - 1)
    → from ≤ to → goal ≤ reach → counted ≡ covered - min ((goal - to) * 2) (2 ^ 64 - 1) → work ≤ counted
covered-stays covered work from reach to goal counted le limit ahead within count = omega (arith, le, limit, ahead, within, count)

-- ---- The next start as a position

module _ {P : Type 0} (offset : P → ℕ) (tree : Tree) (text : Text) (from : ℕ) where
  pub start-on : (start : Option P) → NextStartSkipsNoMatch tree text from (option_map offset start) → ForSome start (λ p. IsBoundary text (offset p))
  start-on None none = λ p e. cc
  start-on (Some to) next = λ p e. subst (λ q. IsBoundary text (offset q)) (some-same to p e) next.0

  pub start-ahead : (at : ℕ) (start : Option P) → at ≡ from → NextStartSkipsNoMatch tree text from (option_map offset start) → IfSome start (λ p. at ≤ offset p)
  start-ahead at None same none = tt
  start-ahead at (Some to) same next = let ahead = next.1 in omega (arith, ahead, same)
