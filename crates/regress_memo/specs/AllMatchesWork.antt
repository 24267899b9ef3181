-- The total work of all searches for the successive matches of a text, with one memo table.
use Rattle.std.specs.Prelude.{◌≡◌, ◌≤◌, ◌<◌, ℕ, ◌+◌, ◌*◌, List, [], ◌∷◌, Some}
use Rattle.std.specs.List.{sum_by}
use Rattle.regex_meaning.specs.Text.{Text, Direction, rightwards}
use Rattle.regex_meaning.specs.CodeUnitOffsets.{units}
use Rattle.regex_meaning.specs.CompilationRelation.{Program}
use Rattle.regress_machine.specs.Machine.{State, Thread, Found, search}
use Rattle.regress_memo.specs.Liveness.{Liveness, IsLivenessFor}
use Rattle.regress_memo.specs.MemoKeys.{NoGroupsAreLive}
use Rattle.regress_memo.specs.MemoSearch.{Key, Keys, Entry, one_thread, thread_entries, offset_of_thread, entry_potential, AreOnward, AreKeys, ReachesBySteps}
use Rattle.regress_memo.specs.ThreadPotentials.{Shape, Distinguishes, place_keys}

module _ (program : Program) (text : Text) (a : Liveness) (keys : Keys) (key_cost : Key → ℕ) (weight : List Thread → ℕ)
  where
    -- The searches so far. The next match is searched for from offset `from` on, `work` units of
    -- work were done, `ready` is the sum of the initial potentials, and `memory` is the memo table.
    pub data Searched : (from work ready : ℕ) (memory : List Key) → Type 0 where
      at_first : Searched 0 0 0 []
      -- A search at a position where no match begins.
      failed : (from work ready more : ℕ) (memory now : List Key) (ts : List Thread) (turns : ℕ) (f : Found)
          → Searched from work ready memory
          → search program text turns rightwards ts ≡ Some f
          → ReachesBySteps program text a keys rightwards key_cost weight memory (thread_entries ts) more now []
          → Searched from (work + more) (ready + sum_by (entry_potential weight) (thread_entries ts)) now
      -- A search that ends at an offset. Its waiting threads and records are discarded. The next
      -- search begins at this offset, or further on if this search began there too.
      found : (from next work ready more : ℕ) (memory now : List Key) (t : Thread) (rest : List Entry)
          (ts : List Thread)
          (turns : ℕ) (f : Found) → Searched from work ready memory
          → search program text turns rightwards ts ≡ Some f → AreOnward from (thread_entries ts)
          → ReachesBySteps program text a keys rightwards key_cost weight memory (thread_entries ts) more now
          (one_thread t ∷ rest)
          → offset_of_thread t ≤ next → from < next → Searched next (work + more)
          (ready + sum_by (entry_potential weight) (thread_entries ts)) now

-- ---- Laws

-- A key is discarded at most twice. So all searches together do at most the sum of their initial
-- potentials plus three times the cost of all keys.
abbrev pub AllMatchesWorkIsBounded : Type 0
AllMatchesWorkIsBounded = (program : Program) (text : Text) (a : Liveness) (keys : Keys) → IsLivenessFor program text a
    → AreKeys program text a keys
    → (key_cost : Key → ℕ) (weight : List Thread → ℕ) (from work ready : ℕ) (memory : List Key)
    → Searched program text a keys key_cost weight from work ready memory
    → work ≤ ready + 3 * sum_by key_cost keys.all

-- The same bound, where the cost of all keys is the sum over recording instructions of cost times
-- codes, times the number of offsets. If positions alone decide, an instruction has one code.
abbrev pub AllMatchesWorkIsLinear : Type 0
AllMatchesWorkIsLinear = (program : Program) (text : Text) (a : Liveness) (way : ℕ → Direction) (ips : List ℕ)
    (code : State → ℕ) (codes : ℕ → ℕ) (rows : Key → List Shape) (taken : Key → ℕ)
    → IsLivenessFor program text a → NoGroupsAreLive a → Distinguishes a (units text) code
    → (key_cost : ℕ → ℕ) (weight : List Thread → ℕ) (from work ready : ℕ) (memory : List Key)
    → Searched program text a (place_keys program code way ips (units text) codes rows taken) (λ k. key_cost k.ip)
    weight from work ready memory
    → work ≤ ready + 3 * (sum_by (λ ip. key_cost ip * codes ip) ips * (units text + 1))
