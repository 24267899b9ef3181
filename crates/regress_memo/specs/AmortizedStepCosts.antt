-- How potentials and costs that are checked at each instruction cover the work of each step.
use Rattle.std.specs.Prelude.{◌≡◌, ◌≤◌, ℕ, ◌+◌, ◌-◌, Bool, true, false, List, [], ◌∷◌, ◌++◌}
use Rattle.std.specs.List.{sum_by}
use Rattle.regex_meaning.specs.Text.{Text, Direction, moved}
use Rattle.regex_meaning.specs.CompilationRelation.{Program}
use Rattle.regress_machine.specs.Machine.{State, Thread, running, waiting, goes, act}
use Rattle.regress_machine.specs.CharLoopExitStatesByPreference.{behind}
use Rattle.regress_memo.specs.Liveness.{Liveness}
use Rattle.regress_memo.specs.MemoSearch.{Key, Entry, one_thread, thread_group, key_record, thread_entries, keys_in, entry_potential}
use Rattle.regress_memo.specs.ThreadPotentials.{Potentials, potential_of, AreCovering, is_one_of, each_noted}
use Rattle.regress_memo.specs.LoopDataKeyCodes.{Question, key_of}
use Rattle.regress_memo.specs.CharLoopExitThreadLists.{greedy_loop_threads, pending_loop_threads}
use Rattle.regress_memo.specs.UnboundedCharLoops.{key_behind, placed}

module _ (program : Program) (w : Potentials) (key_cost : ℕ → ℕ) (ips : List ℕ) where
  -- The potential of a group of threads that wait together is the potential of its first thread.
  abbrev pub potential_by : List Thread → ℕ
  potential_by [] = 0
  potential_by (t ∷ ts) = potential_of w t

  -- Some entries replace the entries `front`. The potential of `front`, plus the costs of the keys
  -- of new records, covers the work of this step and the potential of the new entries.
  abbrev pub IsCostCovered : (work : ℕ) (front entries : List Entry) → Type 0
  IsCostCovered work front entries =
      work + sum_by (entry_potential potential_by) entries
      ≤ sum_by (entry_potential potential_by) front + sum_by (λ (k : Key). key_cost k.ip) (keys_in entries)

  -- ---- Checks of a table

  -- At each instruction, the potential of the threads that it leaves is covered by its own
  -- potential and, if it records, by its cost.
  pub record AreCostsCovered : Type 0 where
    pub enough : AreCovering w program
    pub recorded : (ip : ℕ) → is_one_of ips ip ≡ true → w.left ip + 2 ≤ w.at ip + key_cost ip
    pub passed : (ip : ℕ) → is_one_of ips ip ≡ false → w.left ip + 1 ≤ w.at ip

  -- The potential of a greedy char loop without a maximum covers the required characters. The cost
  -- of each key of the loop covers one position and one character.
  pub record GreedyLoopIsCovered (least ip : ℕ) : Type 0 where
    pub ready : least + 2 ≤ w.at ip
    pub places : w.at (ip + 2) + 3 ≤ key_cost (ip + 1)

  -- The potential of a greedy char loop also covers a group of exits.
  pub record GreedyLoopCoversGroup (least ip : ℕ) : Type 0 where
    pub ready : least + 2 + w.at (ip + 2) ≤ w.at ip
    pub places : w.at (ip + 2) + 3 ≤ key_cost (ip + 1)

  -- The potential of a lazy char loop also covers its first position, and the group of the other
  -- positions.
  pub record LazyLoopIsCovered (least ip : ℕ) : Type 0 where
    pub ready : least + 2 + (w.at (ip + 2) + (w.at (ip + 2) + 1)) ≤ w.at ip
    pub places : w.at (ip + 2) + 3 ≤ key_cost (ip + 1)

  -- ---- Steps

  module _ (text : Text) (code : State → ℕ) (d : Direction) (s : State) where
    -- The steps of a thread are covered: when it is resumed, and when it is executed without or
    -- with a record.
    pub record ThreadIsPaid : Type 0 where
      pub taken_up : IsCostCovered 1 (one_thread (waiting s) ∷ []) (one_thread (running s) ∷ [])
      pub turned : (ts : List Thread) → act program text d s ≡ goes ts → is_one_of ips s.ip ≡ false
          → IsCostCovered 1 (one_thread (running s) ∷ []) (thread_entries ts)
      pub recorded : (ts : List Thread) → act program text d s ≡ goes ts → is_one_of ips s.ip ≡ true
          → IsCostCovered 1 (one_thread (running s) ∷ [])
          (thread_entries ts ++ key_record (key_of code s) (running s ∷ []) ∷ [])

  module _ (text : Text) (a : Liveness) (questions : ℕ → List Question) (way : ℕ → Direction) (taken : Key → ℕ)
      (d : Direction) (test : ℕ → Bool) (s : State) (place least : ℕ) where
    -- The waiting positions of a char loop, each with its key.
    abbrev pub places_from : (count : ℕ) → List (Thread × Key)
    places_from count = placed program text a questions way ips taken d test s place least count

    -- The key of the char loop at the position `n` characters further on.
    abbrev pub key_on : (n : ℕ) → Key
    key_on n = key_behind program text a questions way ips taken d test s place n

    -- The step of a greedy char loop is covered. It executes the instruction and tests each
    -- character, including the one that ends the loop.
    pub record RunTurnsArePaid : Type 0 where
      pub known : (n : ℕ) → least ≤ n
          → IsCostCovered (n + 2) (one_thread (running s) ∷ [])
          (each_noted (greedy_loop_threads text test d 0 (moved text d n place) s) (places_from (n - least)))
      pub all : (n : ℕ) → least ≤ n
          → IsCostCovered (n + 2) (one_thread (running s) ∷ [])
          (each_noted [] ((running (behind text d place s n), key_on n) ∷ places_from (n - least)))

    -- The step of a greedy char loop that is known to find an end from some place on is covered.
    abbrev pub RunsAheadArePaid : Type 0
    RunsAheadArePaid = (n : ℕ) → least ≤ n → IsCostCovered (n + 2) (one_thread (running s) ∷ [])
        (thread_group (greedy_loop_threads text test d 0 (moved text d n place) s)
        ∷ each_noted (greedy_loop_threads text test d 0 (moved text d n place) s) (places_from (n - least)))

    -- The steps of a lazy char loop are covered. It reads the required characters at once, and then
    -- one character in each step.
    pub record LazyTurnsArePaid : Type 0 where
      pub taken_up : IsCostCovered (least + 2) (one_thread (running s) ∷ [])
          (one_thread (running (behind text d place s least)) ∷ thread_group
          (pending_loop_threads text test d (least + 1) place s) ∷ [])
      pub again : IsCostCovered 2 (thread_group (pending_loop_threads text test d 0 place s) ∷ [])
          (one_thread (running (behind text d place s 0)) ∷ thread_group (pending_loop_threads text test d 1 place s)
          ∷ key_record (key_on 0) (pending_loop_threads text test d 0 place s) ∷ [])

-- ---- Laws

-- If a table passes the checks, it covers the steps of threads and char loops.
pub record StepCostsAreCovered : Type 0 where
  pub threads : (program : Program) (w : Potentials) (key_cost : ℕ → ℕ) (ips : List ℕ)
      → AreCostsCovered program w key_cost ips
      → (text : Text) (code : State → ℕ) (d : Direction) (s : State) → ThreadIsPaid program w key_cost ips text code d s
  pub runs : (program : Program) (w : Potentials) (key_cost : ℕ → ℕ) (ips : List ℕ) (text : Text) (a : Liveness)
      (questions : ℕ → List Question) (way : ℕ → Direction) (taken : Key → ℕ) (d : Direction) (test : ℕ → Bool)
      (s : State) (place least : ℕ) → GreedyLoopIsCovered program w key_cost ips least s.ip
      → RunTurnsArePaid program w key_cost ips text a questions way taken d test s place least
  pub runs_ahead : (program : Program) (w : Potentials) (key_cost : ℕ → ℕ) (ips : List ℕ) (text : Text) (a : Liveness)
      (questions : ℕ → List Question) (way : ℕ → Direction) (taken : Key → ℕ) (d : Direction) (test : ℕ → Bool)
      (s : State) (place least : ℕ) → GreedyLoopCoversGroup program w key_cost ips least s.ip
      → RunsAheadArePaid program w key_cost ips text a questions way taken d test s place least
  pub lazy_runs : (program : Program) (w : Potentials) (key_cost : ℕ → ℕ) (ips : List ℕ) (text : Text) (a : Liveness)
      (questions : ℕ → List Question) (way : ℕ → Direction) (taken : Key → ℕ) (d : Direction) (test : ℕ → Bool)
      (s : State) (place least : ℕ) → LazyLoopIsCovered program w key_cost ips least s.ip
      → LazyTurnsArePaid program w key_cost ips text a questions way taken d test s place least
