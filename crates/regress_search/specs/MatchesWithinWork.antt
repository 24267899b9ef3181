-- Work limits that suffice for attempts in ascending order of offsets, and what an iterator with a
-- work limit still has to yield.
use Rattle.std.specs.Prelude.{◌≡◌, ◌+◌, ◌≤◌, ◌&&◌, ℕ, Bool, true, false, [], ◌∷◌, Option, Some, None, Result, Ok, Err, IfOk, ◌==◌, nat_le, nat_lt, option_map, if◌then◌else◌}
use Rattle.regress_search.specs.declared.exec.Match.{Match}
use Rattle.regress_search.specs.declared.exec.work_matches.WorkError.{WorkError}
use Rattle.regress_search.specs.declared.exec.work_matches.WorkError.TheVariants.{Memory, WorkLimit}
use Rattle.regress_search.specs.MatchesAsSpecAnswers.{answer_of}
use Rattle.regress_search.specs.RemainingAnswers.{RemainingView, HasEnded}

-- ---- Attempts in ascending order

-- The attempt at `at` is in order: `at` is not before `ahead`, and the work limit suffices for all
-- attempts in ascending order.
pub record IsOrderedAttempt (enough : Bool) (ahead at : ℕ) : Type 0 where
  pub is : enough ≡ true
  pub past : ahead ≤ at

-- Whether the work limit suffices for the rest of the list, which continues at `next`. `None` if
-- the list has ended.
abbrev pub is_work_enough : (enough : Bool) (ahead : ℕ) → (next : Option ℕ) → Bool
is_work_enough enough ahead None = enough
is_work_enough enough ahead (Some at) = enough && nat_le ahead at

-- The least offset of the next attempt after a match from `at` to `end`.
abbrev pub least_offset_after_match : (at end : ℕ) → ℕ
least_offset_after_match at end = if nat_lt at end then end else end + 1

-- The least offset of the next attempt after an attempt at `at` that found `end`.
abbrev pub offset_after_attempt : (at : ℕ) → (end : Option ℕ) → ℕ
offset_after_attempt at None = at + 1
offset_after_attempt at (Some end) = least_offset_after_match at end

-- An attempt in order does not reach the work limit, and an attempt at the least next offset is in
-- order again.
abbrev pub AttemptKeepsWorkEnough : {P E : Type 0} → (offset : P → ℕ) → (enough : Bool) (ahead at : ℕ)
    → Result (Option P) E → (enough' : Bool) (ahead' : ℕ) (out : Bool) → Type 0
AttemptKeepsWorkEnough offset enough ahead at result enough' ahead' out =
    IsOrderedAttempt enough ahead at → (out ≡ false)
    × IfOk result (λ end. IsOrderedAttempt enough' ahead' (offset_after_attempt at (option_map offset end)))

-- A search whose first attempt is in order does not reach the work limit, and the work limit
-- suffices for a search from where the list continues.
abbrev pub SearchKeepsWorkEnough : {M E : Type 0} → (enough : Bool) (ahead at : ℕ) → Result (Option M) E
    → (enough' : Bool) (ahead' : ℕ) (next : Option ℕ) (out : Bool) → Type 0
SearchKeepsWorkEnough enough ahead at (Ok None) enough' ahead' next out = IsOrderedAttempt enough ahead at
    → enough' ≡ true
SearchKeepsWorkEnough enough ahead at (Ok (Some m)) enough' ahead' next out = IsOrderedAttempt enough ahead at
    → is_work_enough enough' ahead' next ≡ true
SearchKeepsWorkEnough enough ahead at (Err e) enough' ahead' next out = IsOrderedAttempt enough ahead at → out ≡ false

-- If the work limit suffices before a call, the call does not reach it, and it suffices after the
-- call.
abbrev pub CallKeepsWorkEnough : {M E : Type 0} → (before : Bool) → Option (Result M E) → (behind out : Bool) → Type 0
CallKeepsWorkEnough before None behind out = before ≡ true → behind ≡ true
CallKeepsWorkEnough before (Some (Ok m)) behind out = before ≡ true → behind ≡ true
CallKeepsWorkEnough before (Some (Err e)) behind out = before ≡ true → out ≡ false

-- ---- Matches within a work limit

-- The answers still to come, how much work may still be done, and whether that suffices for all of
-- them.
pub record RemainingAnswersAndWork : Type 0 where
  pub remaining : RemainingView
  pub left : ℕ
  pub enough : Bool

-- The cause of an error. `WorkLimit`: the limit was reached and no work is left. `Memory`: an
-- allocation failed.
abbrev pub IsWorkLimitOrMemoryCause : WorkError → (out : Bool) (left : ℕ) → Type 0
IsWorkLimitOrMemoryCause Memory out left = out ≡ false
IsWorkLimitOrMemoryCause WorkLimit out left = (out ≡ true) × (left ≡ 0)

-- When an error may be returned. `Memory`: at any time. `WorkLimit`: only if the work did not
-- suffice, and then no work is left.
abbrev pub MayReturnError : WorkError → (before behind : RemainingAnswersAndWork) → Type 0
MayReturnError Memory before behind = Unit {0}
MayReturnError WorkLimit before behind = (before.enough ≡ false) × (behind.left ≡ 0)

-- The effect of one call. It returns the head of the list and leaves its tail. It returns `None`
-- only if the list is empty. It returns an error only if the list had not ended, and then the list
-- ends. If the work sufficed before the call and there is no error, it suffices after the call.
abbrev pub NextYieldsApartFromWorkLeft : RemainingAnswersAndWork → Option (Result Match WorkError)
    → RemainingAnswersAndWork → Type 0
NextYieldsApartFromWorkLeft s None t =
    (s.remaining.answers ≡ []) × HasEnded t.remaining × (s.enough ≡ true → t.enough ≡ true)
NextYieldsApartFromWorkLeft s (Some (Ok m)) t =
    (s.remaining.answers ≡ answer_of m ∷ t.remaining.answers) × (s.remaining.ended ≡ false)
    × (t.remaining.text_end ≡ s.remaining.text_end)
    × (t.remaining.ended ≡ (m.range.start == s.remaining.text_end)) × (s.enough ≡ true → t.enough ≡ true)
NextYieldsApartFromWorkLeft s (Some (Err e)) t =
    MayReturnError e s t × (s.remaining.ended ≡ false) × HasEnded t.remaining

-- The effect of one call, and the work left does not increase.
abbrev pub NextYieldsWithinWork : RemainingAnswersAndWork → Option (Result Match WorkError) → RemainingAnswersAndWork
    → Type 0
NextYieldsWithinWork s result t = NextYieldsApartFromWorkLeft s result t × (t.left ≤ s.left)
