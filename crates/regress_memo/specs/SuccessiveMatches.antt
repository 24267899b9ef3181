-- Attempts at start positions, for successive matches. Each position is tried at most twice.
use Rattle.std.specs.Prelude.{◌≡◌, ◌≤◌, ◌<◌, ℕ, ◌+◌, ◌-◌, ◌*◌, if◌then◌else◌, ◌==◌, List, [], ◌∷◌, Some}
use Rattle.std.specs.List.{sum_by}
use Rattle.regex_meaning.specs.NumberListHelpers.{numbers_from}
use Rattle.regex_meaning.specs.Text.{Text, rightwards}
use Rattle.regex_meaning.specs.CompilationRelation.{Program}
use Rattle.regress_machine.specs.Machine.{Thread, Found, search}
use Rattle.regress_memo.specs.Liveness.{Liveness, IsLivenessFor}
use Rattle.regress_memo.specs.MemoSearch.{Key, Keys, Entry, one_thread, thread_entries, offset_of_thread, entry_potential, AreOnward, AreKeys, ReachesBySteps}

-- The number of occurrences of a position in a list.
abbrev pub times_in : List ℕ → ℕ → ℕ
times_in starts at = sum_by (λ p. if p == at then 1 else 0) starts

module _ (program : Program) (text : Text) (a : Liveness) (keys : Keys)
    (key_cost : Key → ℕ) (weight : List Thread → ℕ) where
  -- The threads with which an attempt at an offset begins.
  module _ (row : ℕ → List Thread) where
    -- The attempts so far. The next match is searched for from offset `from`, and `next` is the
    -- next start position, at `from` or later. `looks` positions were examined, `work` units of
    -- work were done, attempts were made at the positions `starts`, and `memory` is the memo table.
    pub data Attempted : (from next looks work : ℕ) (memory : List Key) (starts : List ℕ) → Type 0 where
      at_first : (first : ℕ) → Attempted first first 0 0 [] []
      -- Start positions up to `to` are skipped, because no match begins there.
      passed : (from next to looks work : ℕ) (memory : List Key) (starts : List ℕ)
          → Attempted from next looks work memory starts → next ≤ to
          → Attempted from to (looks + (to - next)) work memory starts
      -- An attempt fails.
      failed : (from next looks work more : ℕ) (memory now : List Key) (starts : List ℕ) (turns : ℕ) (f : Found)
          → Attempted from next looks work memory starts → search program text turns rightwards (row next) ≡ Some f
          → ReachesBySteps program text a keys rightwards key_cost weight memory (thread_entries (row next)) more now []
          → Attempted from (next + 1) (looks + 1) (work + more) now (next ∷ starts)
      -- An attempt finds an end. The next attempt begins there, or further on if the match was
      -- searched for from there.
      found : (from next on looks work more : ℕ) (memory now : List Key) (starts : List ℕ) (turns : ℕ) (f : Found)
          (t : Thread) (rest : List Entry)
          → Attempted from next looks work memory starts → search program text turns rightwards (row next) ≡ Some f
          → AreOnward next (thread_entries (row next))
          → ReachesBySteps program text a keys rightwards key_cost weight memory (thread_entries (row next)) more now
          (one_thread t ∷ rest)
          → offset_of_thread t ≤ on → from < on
          → Attempted on on (looks + 1) (work + more) now (next ∷ starts)

    -- The initial potential of an attempt.
    abbrev pub ready_at : ℕ → ℕ
    ready_at at = sum_by (entry_potential weight) (thread_entries (row at))

    -- The number of attempts, the looks and the work are bounded.
    pub record AreFew (from next looks work : ℕ) (starts : List ℕ) : Type 0 where
      pub twice : (at : ℕ) → times_in starts at ≤ 2
      pub looked : looks ≤ from + next
      -- For any count per position: the sum over all attempts is at most the sum over the positions
      -- before `next` plus the sum over the positions up to `from`.
      pub tried_at : (count : ℕ → ℕ)
          → sum_by count starts ≤ sum_by count (numbers_from 0 next) + sum_by count (numbers_from 0 (from + 1))
      pub paid : work ≤ sum_by (λ at. ready_at at) starts + 3 * sum_by key_cost keys.all
      -- The work and the looks are linear in the number of positions, up to any position from
      -- `next` on, and in the cost of all keys.
      pub linear : (last : ℕ) → next ≤ last
          → work + looks
          ≤ 2 * (sum_by (λ at. ready_at at) (numbers_from 0 (last + 1)) + last) + 3 * sum_by key_cost keys.all

-- ---- Laws

-- The attempts in all texts satisfy these bounds.
abbrev pub TotalWorkIsBounded : Type 0
TotalWorkIsBounded = (program : Program) (text : Text) (a : Liveness) (keys : Keys)
    → IsLivenessFor program text a → AreKeys program text a keys
    → (key_cost : Key → ℕ) (weight : List Thread → ℕ) (row : ℕ → List Thread) (from next looks work : ℕ)
    (memory : List Key) (starts : List ℕ)
    → Attempted program text a keys key_cost weight row from next looks work memory starts
    → AreFew program text a keys key_cost weight row from next looks work starts
