-- The costs of several steps that an executor executes at once.
use Rattle.std.specs.Prelude.{◌≡◌, ◌≤◌, ℕ, ◌+◌, ◌-◌, true, List, [], ◌∷◌, ◌++◌}
use Rattle.std.specs.List.{sum_by}
use Rattle.regex_meaning.specs.Text.{Text, Direction}
use Rattle.regex_meaning.specs.CompilationRelation.{Program}
use Rattle.regress_machine.specs.Machine.{State, Thread, running, goes, act}
use Rattle.regress_memo.specs.MemoSearch.{Key, Entry, one_thread, key_record, thread_entries, keys_in, IsBare, entry_potential}
use Rattle.regress_memo.specs.ThreadPotentials.{Potentials, is_one_of}
use Rattle.regress_memo.specs.AmortizedStepCosts.{potential_by, IsCostCovered, AreCostsCovered}

module _ (program : Program) (w : Potentials) (key_cost : ℕ → ℕ) (ips : List ℕ) where
  -- The costs are covered except for a debt of `owed` units.
  abbrev pub IsPaidBut : (owed work : ℕ) (front entries : List Entry) → Type 0
  IsPaidBut owed work front entries =
      work + sum_by (entry_potential (potential_by program w key_cost ips)) entries
      ≤ sum_by (entry_potential (potential_by program w key_cost ips)) front
      + sum_by (λ (k : Key). key_cost k.ip) (keys_in entries) + owed

  -- The rules for successive steps, each of which replaces the first entries that the steps before
  -- it left.
  pub record ChainsArePaid : Type 0 where
    pub alone : (work : ℕ) (front entries : List Entry) → IsCostCovered program w key_cost ips work front entries
        → IsPaidBut 0 work front entries
    pub joined : (owed more work next : ℕ) (front bare entries rest : List Entry) → IsBare bare
        → IsPaidBut owed work front (bare ++ rest) → IsPaidBut more next bare entries
        → IsPaidBut (owed + more) (work + next) front (entries ++ rest)
    -- Threads may be dropped.
    pub left_out : (owed work : ℕ) (front first out rest : List Entry) → IsBare out
        → IsPaidBut owed work front (first ++ (out ++ rest)) → IsPaidBut owed work front (first ++ rest)
    -- The step of a recording instruction, executed without its record, leaves a debt: the cost of
    -- its key, less the unit for reaching the record.
    pub unrecorded : AreCostsCovered program w key_cost ips → (text : Text) (d : Direction) (s : State)
        (ts : List Thread) → act program text d s ≡ goes ts → is_one_of ips s.ip ≡ true
        → IsPaidBut (key_cost s.ip - 1) 1 (one_thread (running s) ∷ []) (thread_entries ts)
    -- The costs are covered if there is no debt, or if a record below the entries covers it.
    pub whole : (work : ℕ) (front entries : List Entry) → IsPaidBut 0 work front entries
        → IsCostCovered program w key_cost ips work front entries
    pub settled : (owed work : ℕ) (front bare : List Entry) (k : Key) (ts : List Thread) → IsBare bare
        → IsPaidBut owed work front bare → owed + 1 ≤ key_cost k.ip
        → IsCostCovered program w key_cost ips work front (bare ++ key_record k ts ∷ [])

-- ---- Laws

-- The costs of steps that are executed at once are covered by these rules.
abbrev pub FusedCostsAreCovered : Type 0
FusedCostsAreCovered = (program : Program) (w : Potentials) (key_cost : ℕ → ℕ) (ips : List ℕ)
    → ChainsArePaid program w key_cost ips
