-- A leap finds the next goal, and the barrier before it, by the keys of the units that it passes.
use Rattle.std.proofs.Common.{◌≡◌, ◌<◌, ◌≤◌, ℕ, ◌+◌, ◌-◌, Bool, true, false, ◌&&◌, ◌||◌, List, Option, Some, None, refl, ap, sym, ◌∙◌, subst, arith, slice_get}
use Rattle.std.specs.Prelude.{option_map, min, nat_le}
use Rattle.std.proofs.lemmas.Bool.{cases_lt, lt-ltb, le-ltb, lt-leb, or_left, false_from_ne_true}
use mathlib.Core.Logic.{◌⊎◌, inl, inr}
use Rattle.regex_meaning.specs.CodeUnitOffsets.{IsBoundary, units}
use Rattle.regex_meaning.specs.CodeUnits.{text_units_in_encoding}
use Rattle.regex_meaning.specs.Outcomes.{is_some_and}
use Rattle.regress_input.proofs.BoundaryPositions.{boundary_inside}
use Rattle.regress_machine.specs.FirstSetTables.{HasUnitsForTables, table_allows_key_or_end}
use Rattle.regress_program.specs.declared.leap.Leap.{Leap}
use Rattle.regress_search.specs.declared.leaping.LeapTarget.{LeapTarget}
use Rattle.regress_program.specs.Leaps.{is_goal_key, is_passed_key, leap_to_goal, AreHighKeysAlike, AreGoalsFewAscii, goal_occurs_at, GoalIsAbsentBetween, GoalIsAbsentFrom}
use Rattle.regress_program.specs.TableKeysOfUnits.{key, is_16_bit_encoding, may_begin_surrogate_pair}
use Rattle.regress_search.specs.TreePlanAndText.{SearchInput}
use Rattle.regress_search.specs.StartSearch.{table_allows_unit_or_end_at, table_of_listed_units, NoBoundaryWhere}
use Rattle.regress_search.specs.ReadsAtOffset.{unit_key_in_search}
use Rattle.regress_search.specs.Leaping.{may_read_unit_before_goal, IsFirstOffsetReadableUpToGoal, IsPastBarriersBeforeGoal, IsTargetOfLeap, IsTargetOfLeapWithin}
use Rattle.regress_search.proofs.AsciiUnitLemmas.{low-boundary, key-small, key-own}
use Rattle.regress_search.specs.WideUnits.{unit_has_listed_key}
use Rattle.regress_search.proofs.NextCharByUnit.{unit-fits}
use Rattle.regress_search.proofs.WideUnitLemmas.{key-low, key-high, or-none}
use Rattle.regress_search.proofs.StartSearchLemmas.{low-listed}

-- No key from 128 on is that of a goal.
high-no-goal : (leap : Leap) → AreGoalsFewAscii leap → (k : ℕ) → 128 ≤ k → is_goal_key leap k ≡ false
high-no-goal leap ascii k high = false_from_ne_true (is_goal_key leap k) (λ listed.
    let low : k < 128 = low-listed leap.goal k ascii.low listed in
    omega (arith, low, high))

pub goal-not128 : (leap : Leap) → AreGoalsFewAscii leap → is_goal_key leap 128 ≡ false
goal-not128 leap ascii = high-no-goal leap ascii 128 (omega arith)

module _ (w : SearchInput) (has : HasUnitsForTables w.encoding w.text) where
  abbrev wide : Bool
  wide = is_16_bit_encoding w.encoding

  abbrev all-units : List ℕ
  all-units = text_units_in_encoding w.encoding w.text

  -- A unit with a key below 128 is at a boundary.
  low-key : (at u : ℕ) → slice_get all-units at ≡ Some u → key wide u < 128 → IsBoundary w.text at
  low-key at u there low = low-boundary w.encoding w.text has at u there (subst (λ k. k < 128) (sym (key-own wide u low)) low)

  pub low-key-boundary : (at k : ℕ) → unit_key_in_search w at ≡ Some k → k < 128 → IsBoundary w.text at
  low-key-boundary at k here low = by (slice_get all-units at) refl here
    where
      by : (o : Option ℕ) → slice_get all-units at ≡ o → option_map (key wide) o ≡ Some k → IsBoundary w.text at
      by None there e = cc
      by (Some u) there e = let same : key wide u ≡ k = cc in low-key at u there (subst (λ k. k < 128) (sym same) low)

  module _ (leap : Leap) (ascii : AreGoalsFewAscii leap) where
    -- The goal is absent at an offset that is no boundary or where the table allows no unit.
    absent-at : (at : ℕ) → (IsBoundary w.text at → table_allows_unit_or_end_at w (table_of_listed_units leap.goal) at ≡ false)
        → goal_occurs_at (leap_to_goal leap) w.encoding w.text at ≡ false
    absent-at at none = by (slice_get all-units at) refl
      where
        here : (u : ℕ) → slice_get all-units at ≡ Some u → (b : Bool) → is_goal_key leap (key wide u) ≡ b → is_goal_key leap (key wide u) ≡ false
        here u there true e =
            let on = low-key at u there (low-listed leap.goal (key wide u) ascii.low e) in
            let no : is_goal_key leap (key wide u) ≡ false = ap (λ o. table_allows_key_or_end (table_of_listed_units leap.goal) (option_map (key wide) o)) (sym there) ∙ none on in
            no
        here u there false e = e

        below : (u : ℕ) → slice_get all-units at ≡ Some u → nat_le 256 (key wide u) ≡ false
        below u there = lt-leb 256 (key wide u) (key-small wide u (unit-fits w.encoding w.text has at u there))

        by : (o : Option ℕ) → slice_get all-units at ≡ o → is_some_and (option_map (key wide) o) (leap_to_goal leap).goal ≡ false
        by None there = refl
        by (Some u) there =
            ap (λ b. b || nat_le 256 (key wide u)) (here u there (is_goal_key leap (key wide u)) refl) ∙ below u there

    -- If the table allows the unit at an offset, the goal occurs there.
    pub occurs-at : (at : ℕ) → table_allows_unit_or_end_at w (table_of_listed_units leap.goal) at ≡ true → goal_occurs_at (leap_to_goal leap) w.encoding w.text at ≡ true
    occurs-at at one = by (unit_key_in_search w at) one
      where
        by : (o : Option ℕ) → table_allows_key_or_end (table_of_listed_units leap.goal) o ≡ true → is_some_and o (leap_to_goal leap).goal ≡ true
        by None e = cc
        by (Some k) e = or_left (is_goal_key leap k) (nat_le 256 k) e

    above : (k : ℕ) → k < 256 → is_goal_key leap k ≡ (leap_to_goal leap).goal k
    above k small = or-none (is_goal_key leap k) ∙ sym (ap (λ b. is_goal_key leap k || b) (lt-leb 256 k small))

    -- A unit has the same listed keys as a byte and as a 16-bit unit.
    listed-alike : (b : Bool) (u : ℕ) → is_goal_key leap (key true u) ≡ is_goal_key leap (key b u)
    listed-alike true u = refl
    listed-alike false u = elim (cases_lt u 128) [
      | inl low ↦ ap (is_goal_key leap) (key-low u low)
      | inr high ↦
          let more : 128 ≤ key true u = let is = key-high u high in omega (arith, is) in
          high-no-goal leap ascii (key true u) more ∙ sym (high-no-goal leap ascii u high)
    ]

    -- The test for the goals' keys as those of 16-bit units passes where a goal occurs.
    pub listed-goal : (at : ℕ) → unit_has_listed_key false leap.goal w at ≡ goal_occurs_at (leap_to_goal leap) w.encoding w.text at
    listed-goal at = by (slice_get all-units at) refl
      where
        by : (o : Option ℕ) → slice_get all-units at ≡ o
            → is_some_and o (λ unit. (false && may_begin_surrogate_pair (key true unit)) || is_goal_key leap (key true unit)) ≡ is_some_and (option_map (key wide) o) (leap_to_goal leap).goal
        by None there = refl
        by (Some u) there = listed-alike wide u ∙ above (key wide u) (key-small wide u (unit-fits w.encoding w.text has at u there))

    -- A goal is at a boundary.
    pub goal-boundary : (at : ℕ) → goal_occurs_at (leap_to_goal leap) w.encoding w.text at ≡ true → IsBoundary w.text at
    goal-boundary at = by (slice_get all-units at) refl
      where
        by : (o : Option ℕ) → slice_get all-units at ≡ o → is_some_and (option_map (key wide) o) (leap_to_goal leap).goal ≡ true → IsBoundary w.text at
        by None there occurs = cc
        by (Some u) there occurs =
            let one : is_goal_key leap (key wide u) ≡ true = above (key wide u) (key-small wide u (unit-fits w.encoding w.text has at u there)) ∙ occurs in
            low-key at u there (low-listed leap.goal (key wide u) ascii.low one)

    pub absent-between : (from to : ℕ) → NoBoundaryWhere w (λ at. table_allows_unit_or_end_at w (table_of_listed_units leap.goal) at) from to
        → GoalIsAbsentBetween (leap_to_goal leap) w.encoding w.text from to
    absent-between from to none at le less = absent-at at (λ on. none at on le less)

    pub absent-from : (from : ℕ) → NoBoundaryWhere w (λ at. table_allows_unit_or_end_at w (table_of_listed_units leap.goal) at) from (units w.text + 1)
        → ((at : ℕ) → IsBoundary w.text at → at ≤ units w.text) → GoalIsAbsentFrom (leap_to_goal leap) w.encoding w.text from
    absent-from from none inside at le = absent-at at (λ on. none at on le (let most = inside at on in omega (arith, most)))

  -- A unit is passed exactly if the lesser of it and 128 is.
  pub passed-as-cut : (leap : Leap) → AreHighKeysAlike leap → wide ≡ true → (at u : ℕ) → slice_get all-units at ≡ Some u → is_passed_key leap (min u 128) ≡ may_read_unit_before_goal w leap at
  passed-as-cut leap alike is_wide at u there = by (cases_lt u 128) ∙ sym (ap (λ o. is_some_and (option_map (key wide) o) (is_passed_key leap)) there)
    where
      by : (u < 128) ⊎ (128 ≤ u) → is_passed_key leap (min u 128) ≡ is_passed_key leap (key wide u)
      by (inl low) =
          let own : key true u ≡ u = rw (lt-ltb u 128 low) refl in
          let cut : min u 128 ≡ u = omega (arith, low) in
          ap (is_passed_key leap) (cut ∙ sym own ∙ ap (λ b. key b u) (sym is_wide))
      by (inr high) =
          let small = key-small wide u (unit-fits w.encoding w.text has at u there) in
          let from : 128 ≤ key true u = rw (le-ltb u 128 high) (omega arith) in
          let cut : min u 128 ≡ 128 = omega (arith, high) in
          ap (is_passed_key leap) cut ∙ sym (alike (key wide u) (subst (λ b. 128 ≤ key b u) (sym is_wide) from) small)

  module _ (leap : Leap) (alike : AreHighKeysAlike leap) (from goal : ℕ) where
    passed-key : (at k : ℕ) (b : Bool) → unit_key_in_search w at ≡ Some k → may_read_unit_before_goal w leap at ≡ b → is_passed_key leap k ≡ b
    passed-key at k b here is = ap (λ o. is_some_and o (is_passed_key leap)) (sym here) ∙ is

    -- If the barrier's key is below 128, it is between each earlier offset and the goal.
    pub at-barrier : (at k : ℕ) → IsFirstOffsetReadableUpToGoal w leap from goal at → from < at → unit_key_in_search w (at - 1) ≡ Some k → k < 128 → IsPastBarriersBeforeGoal w leap from goal (at - 1)
    at-barrier at k first after here low = record {
      boundary = low-key-boundary (at - 1) k here low;
      ahead = omega (arith, after);
      barred = λ s le less. record {
        at = at - 1;
        after = omega (arith, less);
        before = let before = first.before in omega (arith, before, after);
        barred = first.barred after;
      };
    }

    -- A unit that is passed behind a barred key from 128 on is at a boundary.
    passed-low : (at k : ℕ) → may_read_unit_before_goal w leap at ≡ true → is_passed_key leap k ≡ false → 128 ≤ k → k < 256 → IsBoundary w.text at
    passed-low at k over-here bars high below = by (slice_get all-units at) refl
      where
        by : (o : Option ℕ) → slice_get all-units at ≡ o → IsBoundary w.text at
        by None there =
            let none : false ≡ true = ap (λ o. is_some_and (option_map (key wide) o) (is_passed_key leap)) (sym there) ∙ over-here in
            cc
        by (Some u) there = elim (cases_lt (key wide u) 128) [
          | inl low ↦ low-key at u there low
          | inr other ↦
              let passed : is_passed_key leap (key wide u) ≡ true = ap (λ o. is_some_and (option_map (key wide) o) (is_passed_key leap)) (sym there) ∙ over-here in
              let small = key-small wide u (unit-fits w.encoding w.text has at u there) in
              let same : true ≡ false = sym passed ∙ alike (key wide u) other small ∙ sym (alike k high below) ∙ bars in
              cc
        ]

    -- If the barrier's key is 128 or above, it is between each offset before `at` and the goal.
    pub behind-high : (at k : ℕ) → IsFirstOffsetReadableUpToGoal w leap from goal at → from < at → unit_key_in_search w (at - 1) ≡ Some k → 128 ≤ k → k < 256
        → IsBoundary w.text goal → IsPastBarriersBeforeGoal w leap from goal at
    behind-high at k first after here high below end = record {
      boundary = elim (cases_lt at goal) [
        | inl before ↦ passed-low at k (first.passed before) (passed-key (at - 1) k false here (first.barred after)) high below
        | inr past ↦ subst (IsBoundary w.text) (let before = first.before in let same : goal ≡ at = omega (arith, past, before) in same) end
      ];
      ahead = first.ahead;
      barred = λ s le less. record {
        at = at - 1;
        after = omega (arith, less);
        before = let before = first.before in omega (arith, before, after);
        barred = first.barred after;
      };
    }

    -- If the passed units begin at `from`, no earlier offset needs a barrier.
    pub at-first : (at : ℕ) → IsFirstOffsetReadableUpToGoal w leap from goal at → at ≤ from → IsBoundary w.text from → IsPastBarriersBeforeGoal w leap from goal at
    at-first at first le on = record {
      boundary = subst (IsBoundary w.text) (let ahead = first.ahead in let same : from ≡ at = omega (arith, le, ahead) in same) on;
      ahead = first.ahead;
      barred = λ s after less. absurd (omega (arith, after, less, le));
    }

-- What is barred from a boundary is barred from a goal behind it.
pub barred-further : (w : SearchInput) (leap : Leap) (from boundary goal to : ℕ) → boundary ≤ goal → IsPastBarriersBeforeGoal w leap from boundary to → IsPastBarriersBeforeGoal w leap from goal to
barred-further w leap from boundary goal to le past = record {
  boundary = past.boundary;
  ahead = past.ahead;
  barred = λ at after less.
      let barrier = past.barred at after less in
      record {
        at = barrier.at;
        after = barrier.after;
        before = let before = barrier.before in omega (arith, before, le);
        barred = barrier.barred;
      };
}

-- A leap that is not limited leads where a limited one may, if the limit is not before the end of the text.
pub leads-within : (w : SearchInput) → HasUnitsForTables w.encoding w.text → (leap : Leap) → AreGoalsFewAscii leap → (from limit : ℕ) → units w.text ≤ limit
    → (target : Option LeapTarget) → IsTargetOfLeap w leap from target → IsTargetOfLeapWithin w leap from limit target
leads-within w has leap ascii from limit end None absent = absent
leads-within w has leap ascii from limit end (Some target) leads =
    let inside = boundary_inside w.text has.is_text target.goal (goal-boundary w has leap ascii target.goal leads.occurs) in
    let most : target.goal ≤ limit = omega (arith, inside, end) in
    (record { is_one = inl leads.occurs; absent = leads.absent; within = most }, leads.behind)
