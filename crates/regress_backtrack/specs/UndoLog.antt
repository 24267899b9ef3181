-- Whether a change is logged, the number under which its slot is logged, and which changes may be dropped.
use Rattle.std.specs.Prelude.{◌≡◌, ◌≤◌, ◌<◌, ℕ, ◌+◌, Bool, true, false, IsTrue, List, [], ◌∷◌, ◌++◌, length, map, take, drop}
use Rattle.std.specs.List.{All}
use Rattle.regress_backtrack.specs.declared.state.GroupOrLoopState.{GroupOrLoopState}
use Rattle.regress_backtrack.specs.declared.state.UndoEntry.{UndoEntry}
use Rattle.regress_backtrack.specs.State.{undone, are_slot_numbers_below, logical_slot_value}

-- `true`: the log has room after its `used` changes. `false`: the slot, whose number is `noted`,
-- was logged since the last choice point.
abbrev pub HasLogRoomOrIsLogged : (used log_len_at_choice_point noted : ℕ) → List UndoEntry → Bool → Type 0
HasLogRoomOrIsLogged used log_len_at_choice_point noted log true = used < length log
HasLogRoomOrIsLogged used log_len_at_choice_point noted log false = log_len_at_choice_point < noted

-- The number under which a slot is logged. Either the change is appended to the log, or the slot
-- was already logged since the last choice point.
pub data IsLoggedOnce (change : UndoEntry) (log_len_at_choice_point log_len : ℕ) (log : List UndoEntry) (log_len' : ℕ)
    (log' : List UndoEntry) (noted : ℕ) : Type 0 where
  once : noted ≤ log_len + 1 → log_len' ≡ log_len + 1 → take (log_len + 1) log' ≡ take log_len log ++ change ∷ []
      → IsLoggedOnce change log_len_at_choice_point log_len log log_len' log' noted
  already : log_len_at_choice_point < change.old.noted → noted ≡ change.old.noted → log_len' ≡ log_len
      → take log_len log' ≡ take log_len log → IsLoggedOnce change log_len_at_choice_point log_len log log_len' log'
      noted

-- Some changes after number `from` are no longer logged. Undoing the others has the same effect. The
-- slots differ only in the numbers under which they were logged, which are at most `from`.
pub record ChangesAreCompacted (from : ℕ) (slots : List GroupOrLoopState) (log : List UndoEntry)
    (slots' : List GroupOrLoopState) (log' : List UndoEntry) : Type 0 where
  pub kept : take from log' ≡ take from log
  pub before : undone slots' (drop from log') ≡ undone slots (drop from log)
  pub within : IsTrue (are_slot_numbers_below (length slots') log')
  pub slot_count : length slots' ≡ length slots
  pub values : (begun : ℕ) → map (logical_slot_value begun) slots' ≡ map (logical_slot_value begun) slots
  pub noted : All (λ s. s.noted ≤ from) slots'
  pub old_noted : All (λ c. c.old.noted ≤ from) (drop from log')
