-- Work that suffices before an attempt suffices after it, if the attempts are in ascending order.
use Rattle.std.proofs.Common.{◌≡◌, ◌+◌, ◌≤◌, ℕ, Bool, true, false, Option, Some, None, Result, Ok, Err, ap, refl, subst, sym, ◌∙◌, arith, if◌then◌else◌, nat_le, nat_lt, option_map}
use Rattle.std.proofs.lemmas.Bool.{and_from, and_parts, le-leb, leb-true}
use Rattle.regex_meaning.specs.Tree.{Tree}
use Rattle.regex_meaning.specs.Text.{Text, rightwards}
use Rattle.regex_meaning.specs.CodeUnitOffsets.{IsBoundary, HasRisingPlaceOffsets, read}
use Rattle.regress_search.specs.AttemptsAndStarts.{NextStartSkipsNoMatch, next_search_offset}
use Rattle.regress_search.specs.MatchesWithinWork.{AttemptKeepsWorkEnough, IsOrderedAttempt, offset_after_attempt, least_offset_after_match, is_work_enough}
use Rattle.regress_search.proofs.StartPredicateLemmas.{one-on}

-- If no work is counted, each attempt keeps the work enough.
pub goes-on-free : {P E : Type 0} (offset : P → ℕ) (at : ℕ) (result : Result (Option P) E) → AttemptKeepsWorkEnough offset true 0 at result true 0 false
goes-on-free offset at (Ok end) turn = (refl, record { is = refl; past = omega arith })
goes-on-free offset at (Err e) turn = (refl, tt)

module _ (enough : Bool) (ahead : ℕ) where
  pub in-turn : (at : ℕ) → is_work_enough enough ahead (Some at) ≡ true → IsOrderedAttempt enough ahead at
  in-turn at e = let both = and_parts enough (nat_le ahead at) e in record { is = both.0; past = leb-true ahead at both.1 }

  enough-from : (at to : ℕ) → at ≤ to → IsOrderedAttempt enough ahead at → is_work_enough enough ahead (Some to) ≡ true
  enough-from at to on turn = let past = turn.past in and_from enough (nat_le ahead to) turn.is (le-leb ahead to (omega (arith, past, on)))

  -- Work that is enough for an attempt in order is enough for the next candidate.
  pub enough-next : (tree : Tree) (text : Text) (from : ℕ) (next : Option ℕ) → NextStartSkipsNoMatch tree text from next → IsOrderedAttempt enough ahead from → is_work_enough enough ahead next ≡ true
  enough-next tree text from None n turn = turn.is
  enough-next tree text from (Some to) n turn = enough-from from to n.1 turn

  -- Work that is enough behind a match is enough for the next offset to try.
  pub enough-behind : (tree : Tree) (text : Text) → HasRisingPlaceOffsets text → (start end : ℕ) → IsBoundary text end → IsOrderedAttempt enough ahead (least_offset_after_match start end)
      → is_work_enough enough ahead (next_search_offset text start end) ≡ true
  enough-behind tree text is start end on turn = by (nat_lt start end) turn
    where
      by : (b : Bool) → IsOrderedAttempt enough ahead (if b then end else end + 1)
          → is_work_enough enough ahead (if b then Some end else option_map (λ (r : ℕ × ℕ). r.1) (read text rightwards end)) ≡ true
      by true turn = enough-from end end (omega arith) turn
      by false turn = enough-next tree text (end + 1) (option_map (λ (r : ℕ × ℕ). r.1) (read text rightwards end)) (one-on tree text is end on) turn

  module _ (enough' : Bool) (ahead' : ℕ) (out : Bool) where
    -- An attempt at the next place, for which the work is enough, leaves attempts in order behind
    -- it.
    pub turn-behind : {P : Type 0} (offset : P → ℕ) (next o end : Option P) (at : P) → next ≡ Some at → is_work_enough enough ahead (option_map offset next) ≡ true
        → (IsOrderedAttempt enough ahead (offset at) → (out ≡ false) × IsOrderedAttempt enough' ahead' (offset_after_attempt (offset at) (option_map offset o))) → o ≡ end
        → IsOrderedAttempt enough' ahead' (offset_after_attempt (offset at) (option_map offset end))
    turn-behind offset next o end at here e goes is =
        subst (λ o. IsOrderedAttempt enough' ahead' (offset_after_attempt (offset at) (option_map offset o))) is
        (goes (in-turn (offset at) (ap (λ o. is_work_enough enough ahead (option_map offset o)) (sym here) ∙ e))).1
