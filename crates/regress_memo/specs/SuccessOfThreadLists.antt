-- Lists of threads that are known to find an end, and records that are reached.
use Rattle.std.specs.Prelude.{◌≤◌, ℕ, Bool, true, false, List, [], ◌∷◌, ◌++◌}
use Rattle.regex_meaning.specs.Text.{Text, Direction, moved}
use Rattle.regex_meaning.specs.CompilationRelation.{Program}
use Rattle.regress_machine.specs.Machine.{State, Thread, running, waiting, Found}
use Rattle.regress_machine.specs.ThreadSimulation.{Simulates}
use Rattle.regress_memo.specs.Liveness.{Liveness, IsLivenessFor}
use Rattle.regress_memo.specs.LoopDataKeyCodes.{Question}
use Rattle.regress_memo.specs.MemoSearch.{Key, Keys, Entry, key_record, AreKeys, Fails, FindEnd, HoldsInvariant}
use Rattle.regress_memo.specs.CharLoopExitThreadLists.{passing, greedy_loop_threads, pending_loop_threads}
use Rattle.regress_memo.specs.UnboundedCharLoops.{AtCharLoop}

module _ (program : Program) (text : Text) (d : Direction) where
  -- When a list of threads finds an end.
  pub record RowsReach : Type 0 where
    -- A list of threads finds an end if a part of it does.
    pub part : (ts us vs : List Thread) → FindEnd program text d us → FindEnd program text d (ts ++ (us ++ vs))
    -- Threads find an end if threads that simulate them find one.
    pub simulated : (n : ℕ) (us ts : List Thread) → Simulates program text false d n us ts → FindEnd program text d us
        → FindEnd program text d ts
    -- If a list of threads finds an end while its first thread waits, it does so too when this
    -- thread runs.
    pub up : (s : State) (ts : List Thread) → FindEnd program text d (waiting s ∷ ts)
        → FindEnd program text d (running s ∷ ts)

-- A char loop without a maximum finds an end if it finds one from one of its places.
pub record RunsReach : Type 0 where
  pub greedy : (program : Program) (text : Text) (a : Liveness) (questions : ℕ → List Question) (way : ℕ → Direction)
      (ips : List ℕ) (taken : Key → ℕ) (d : Direction) (test : ℕ → Bool) (s : State) (place least most n : ℕ)
      → IsLivenessFor program text a → AtCharLoop program text a questions way ips taken d test s true least most place
      → least ≤ n → n ≤ passing text test d place
      → FindEnd program text d (greedy_loop_threads text test d 0 (moved text d n place) s)
      → FindEnd program text d (running s ∷ [])
  pub lazy : (program : Program) (text : Text) (a : Liveness) (questions : ℕ → List Question) (way : ℕ → Direction)
      (ips : List ℕ) (taken : Key → ℕ) (d : Direction) (test : ℕ → Bool) (s : State) (place least most n : ℕ)
      → IsLivenessFor program text a → AtCharLoop program text a questions way ips taken d test s false least most place
      → least ≤ n → n ≤ passing text test d place
      → FindEnd program text d (pending_loop_threads text test d 0 (moved text d n place) s)
      → FindEnd program text d (running s ∷ [])

-- ---- Laws

-- Lists of threads and char loops find an end if a part of them does.
pub record ThreadListsSucceedIfPartDoes : Type 0 where
  pub rows : (program : Program) (text : Text) (d : Direction) → RowsReach program text d
  pub runs : RunsReach

-- The key of a record that is reached fails.
abbrev pub KeyFailsWhenRecordReached : Type 0
KeyFailsWhenRecordReached = (program : Program) (text : Text) (a : Liveness) (keys : Keys)
    → IsLivenessFor program text a → AreKeys program text a keys
    → (d : Direction) (memory : List Key) (k : Key) (ts : List Thread) (rest : List Entry) (f : Found)
    → HoldsInvariant program text a keys d memory (key_record k ts ∷ rest) f → Fails program text a keys k
