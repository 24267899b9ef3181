-- More steps and how they are covered: char loops with a maximum, threads that are known to fail,
-- and lookarounds.
use Rattle.std.specs.Prelude.{◌≡◌, ◌≤◌, ℕ, ◌+◌, ◌-◌, ◌*◌, true, false, List, [], ◌∷◌, ◌++◌, length}
use Rattle.std.specs.List.{sum_by}
use Rattle.regex_meaning.specs.Laws.{Each}
use Rattle.regex_meaning.specs.Text.{Text, Direction}
use Rattle.regex_meaning.specs.CompilationRelation.{Program}
use Rattle.regress_machine.specs.Machine.{State, Thread, running, scans, first_running_and_others_waiting, act}
use Rattle.regress_memo.specs.Liveness.{Liveness}
use Rattle.regress_memo.specs.DistinctLists.{IsNew, AreDistinct}
use Rattle.regress_memo.specs.MemoSearch.{Key, Keys, Entry, one_thread, key_record, thread_entries, threads_in, keys_in, IsBare, entry_potential, IsMemoStep, ReachesBySteps}
use Rattle.regress_memo.specs.ThreadPotentials.{Potentials, is_one_of}
use Rattle.regress_memo.specs.LoopDataKeyCodes.{Question, plan_code, key_of}
use Rattle.regress_memo.specs.LookaroundsWithSharedMemo.{AreLearned}
use Rattle.regress_memo.specs.AmortizedStepCosts.{IsCostCovered, AreCostsCovered, GreedyLoopIsCovered, LazyLoopIsCovered}
use Rattle.regress_memo.specs.MemoPlanChecksAndGuarantees.{IsPlan, RecordsNewKey, GivesByPlan}

-- ---- Char loops

module _ (program : Program) (w : Potentials) (key_cost : ℕ → ℕ) (ips : List ℕ) where
  -- The potential left by a char loop with a maximum covers all of its positions and characters.
  abbrev pub LimitedRunIsPaid : (least most ip : ℕ) → Type 0
  LimitedRunIsPaid least most ip = most + 1 + (most + 1 - least) * (w.at (ip + 2) + 1) ≤ w.left ip

  -- A step of such a loop, which reads `n` characters and leaves threads at some of its positions.
  module _ (code : State → ℕ) (s : State) (least most : ℕ) where
    -- The step is covered, with or without a record.
    pub record ScanIsPaid : Type 0 where
      pub passed : (n : ℕ) (ss : List State) → n ≤ most → length ss ≤ most + 1 - least → Each (λ t. t.ip ≡ s.ip + 2) ss
          → is_one_of ips s.ip ≡ false → IsCostCovered program w key_cost ips (n + 1) (one_thread (running s) ∷ [])
          (thread_entries (first_running_and_others_waiting ss))
      pub recorded : (n : ℕ) (ss : List State) → n ≤ most → length ss ≤ most + 1 - least
          → Each (λ t. t.ip ≡ s.ip + 2) ss
          → is_one_of ips s.ip ≡ true
          → IsCostCovered program w key_cost ips (n + 1) (one_thread (running s) ∷ [])
          (thread_entries (first_running_and_others_waiting ss) ++ key_record (key_of code s) (running s ∷ []) ∷ [])

  -- Steps that leave no thread: of a thread that is known to fail, and of a char loop with too few
  -- characters.
  module _ (s : State) where
    -- The step of a thread that fails is covered.
    pub record EndIsPaid : Type 0 where
      pub known : 1 ≤ w.at s.ip → IsCostCovered program w key_cost ips 1 (one_thread (running s) ∷ []) []
      pub short : (least n : ℕ) → GreedyLoopIsCovered program w key_cost ips least s.ip → n ≤ least
          → IsCostCovered program w key_cost ips (n + 2) (one_thread (running s) ∷ []) []
      pub short_lazy : (least n : ℕ) → LazyLoopIsCovered program w key_cost ips least s.ip → n ≤ least
          → IsCostCovered program w key_cost ips (n + 2) (one_thread (running s) ∷ []) []

module _ (program : Program) (text : Text) (a : Liveness) (questions : ℕ → List Question) (way : ℕ → Direction)
    (ips : List ℕ) (taken : Key → ℕ) (d : Direction) (memory : List Key) (s : State) where
  -- A char loop with a maximum is executed, with or without a record.
  pub record ScanGives : Type 0 where
    pub turned : (n : ℕ) (ts : List Thread) → act program text d s ≡ scans n ts
        → GivesByPlan program text a questions way ips taken d memory (running s ∷ []) (thread_entries ts)
    pub recorded : (n : ℕ) (ts : List Thread) → act program text d s ≡ scans n ts
        → RecordsNewKey program text a questions way ips taken d memory s
        → GivesByPlan program text a questions way ips taken d memory (running s ∷ [])
        (thread_entries ts ++ key_record (key_of (plan_code questions) s) (running s ∷ []) ∷ [])

-- ---- Lookarounds

-- The search of a lookaround's contents began with the threads `us`, did `more` units of work, and
-- learned keys. The costs of these keys and the initial potential cover that work. The potential of
-- the lookaround covers this initial potential, the threads that the lookaround leaves, and its
-- step.
module _ (program : Program) (text : Text) (a : Liveness) (keys : Keys) (d : Direction) (key_cost : Key → ℕ)
    (weight : List Thread → ℕ) where
  -- The search of the contents, its keys, and the step of the lookaround satisfy the conditions
  -- above.
  pub record IsLookaroundContentsSearched (now learned : List Key) (front entries rest : List Entry) (us : List Thread)
      (more : ℕ) : Type 0
    where
      pub front_bare : IsBare front
      pub learns : AreLearned program text a keys (front ++ rest) now learned
      pub new : Each (λ k. IsNew k (keys_in (front ++ rest))) learned
      pub distinct : AreDistinct (keys_in (front ++ rest) ++ now)
      pub taught : more ≤ sum_by (entry_potential weight) (thread_entries us) + sum_by key_cost learned
      pub gives : IsMemoStep program text a keys d (learned ++ now) (threads_in front) entries
      pub ready : 1 + sum_by (entry_potential weight) (thread_entries us) + sum_by (entry_potential weight)
          entries ≤ sum_by (entry_potential weight) front

  -- The search of the contents and the step of the lookaround are together a part of the enclosing
  -- search.
  abbrev pub LooksComeOn : Type 0
  LooksComeOn =
      (memory : List Key) (row : List Entry) (work : ℕ) (now learned : List Key) (front entries rest : List Entry)
      (us : List Thread) (more : ℕ)
      → ReachesBySteps program text a keys d key_cost weight memory row work now (front ++ rest)
      → IsLookaroundContentsSearched now learned front entries rest us more
      → ReachesBySteps program text a keys d key_cost weight memory row (work + (1 + more)) (learned ++ now)
      (entries ++ rest)

-- ---- Laws

-- If a table passes the checks, it covers the steps of char loops with a maximum and of failing
-- threads.
pub record BoundedLoopCostsAreCovered : Type 0 where
  pub scans : (program : Program) (w : Potentials) (key_cost : ℕ → ℕ) (ips : List ℕ)
      → AreCostsCovered program w key_cost ips
      → (code : State → ℕ) (s : State) (least most : ℕ) → LimitedRunIsPaid program w key_cost ips least most s.ip
      → ScanIsPaid program w key_cost ips code s least most
  pub ends : (program : Program) (w : Potentials) (key_cost : ℕ → ℕ) (ips : List ℕ) (s : State)
      → EndIsPaid program w key_cost ips s

-- The steps of char loops are memo steps.
abbrev pub CharLoopScansAreMemoSteps : Type 0
CharLoopScansAreMemoSteps =
    (program : Program) (text : Text) (a : Liveness) (questions : ℕ → List Question) (way : ℕ → Direction)
    (ips : List ℕ) (taken : Key → ℕ) → IsPlan program text a questions way ips taken
    → (d : Direction) (memory : List Key) (s : State) → ScanGives program text a questions way ips taken d memory s

-- The searches and steps of lookarounds are covered.
abbrev pub LookaroundCostsAreCovered : Type 0
LookaroundCostsAreCovered =
    (program : Program) (text : Text) (a : Liveness) (keys : Keys) (d : Direction) (key_cost : Key → ℕ)
    (weight : List Thread → ℕ) → LooksComeOn program text a keys d key_cost weight
