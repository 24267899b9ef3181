-- Soundness of memoized searches: what a search has to satisfy to find the right result. The number
-- of steps, the number of look-ups of a key, and the offsets of threads do not matter.
use Rattle.std.specs.Prelude.{◌≡◌, ◌≤◌, ℕ, false, List, [], ◌∷◌, ◌++◌, Some, IsSome}
use Rattle.regex_meaning.specs.Laws.{Each}
use Rattle.regex_meaning.specs.Text.{Text, Direction}
use Rattle.regex_meaning.specs.CompilationRelation.{Program}
use Rattle.regress_machine.specs.Machine.{Thread, Found, search}
use Rattle.regress_machine.specs.ThreadSimulation.{Within, Simulates}
use Rattle.regress_memo.specs.Liveness.{Liveness, IsLivenessFor}
use Rattle.regress_memo.specs.MemoSearch.{Key, Keys, Entry, one_thread, thread_group, key_record, thread_entries, threads_in, keys_in, IsBare, KeyStandsFor, AreKeys, Fails, Succeeds, FindEnd}
use Rattle.regress_memo.specs.MemoSearch.{AreRightKeyRecords, AreAnswered, IsMemoStep}

module _ (program : Program) (text : Text) (a : Liveness) (keys : Keys) (d : Direction) where
  -- The entries find the result `f`, and their records are right.
  pub record RemainsSound (row : List Entry) (f : Found) : Type 0 where
    pub turns : ℕ
    pub within : Within program text false turns d 0 (threads_in row) f
    pub noted : AreRightKeyRecords program text a keys d [] row
    pub answered : AreAnswered program text d row

  -- The threads `us`, followed by others, simulate the threads `ts`.
  pub record IsSimulatedWithMoreThreads (ts us : List Thread) : Type 0 where
    pub others : List Thread
    pub spent : ℕ
    pub comes : Simulates program text false d spent (us ++ others) ts

  -- The threads of each record, followed by others, simulate `ts`.
  abbrev pub AreComing : (ts : List Thread) → List Entry → Type 0
  AreComing ts [] = Unit {0}
  AreComing ts (one_thread t ∷ row) = AreComing ts row
  AreComing ts (thread_group us ∷ row) = AreComing ts row
  AreComing ts (key_record k us ∷ row) = IsSimulatedWithMoreThreads ts us × AreComing ts row

  -- The entries replace the first threads of a list. The threads of the entries simulate these, and
  -- so do the threads of each record.
  pub record ReplacesSoundly (ts : List Thread) (entries : List Entry) : Type 0 where
    pub spent : ℕ
    pub simulates : Simulates program text false d spent (threads_in entries) ts
    pub noted : AreRightKeyRecords program text a keys d [] entries
    pub coming : AreComing ts entries

  -- Each of these steps keeps a search sound.
  pub record SoundSearchSteps : Type 0 where
    pub begins : (ts : List Thread) (turns : ℕ) (f : Found) → search program text turns d ts ≡ Some f
        → RemainsSound (thread_entries ts) f
    pub turned : (front entries rest : List Entry) (f : Found) → IsBare front
        → ReplacesSoundly (threads_in front) entries
        → RemainsSound (front ++ rest) f → RemainsSound (entries ++ rest) f
    -- A record is reached.
    pub reached : (k : Key) (ts : List Thread) (rest : List Entry) (f : Found) → RemainsSound (key_record k ts ∷ rest) f
        → Fails program text a keys k × RemainsSound rest f
    -- The first threads find an end.
    pub shared : (front rest : List Entry) (f : Found) → IsBare front → FindEnd program text d (threads_in front)
        → RemainsSound (front ++ rest) f → IsSome f.end × Each (Succeeds program text a keys) (keys_in rest)

  -- Steps that replace soundly: the memo steps of the laws, dropping threads that are known to
  -- fail, and steps without or with a record.
  pub record SoundReplacementSteps : Type 0 where
    pub given : (memory : List Key) (ts : List Thread) (entries : List Entry)
        → IsMemoStep program text a keys d memory ts entries
        → ReplacesSoundly ts entries
    pub dropped : (k : Key) (ts : List Thread) → Fails program text a keys k → KeyStandsFor program text a keys d k ts
        → ReplacesSoundly ts []
    pub passed : (n : ℕ) (bare : List Entry) (ts : List Thread) → IsBare bare
        → Simulates program text false d n (threads_in bare) ts → ReplacesSoundly ts bare
    pub made : (n : ℕ) (bare : List Entry) (ts : List Thread) (k : Key) → IsBare bare
        → Simulates program text false d n (threads_in bare) ts → KeyStandsFor program text a keys d k ts
        → keys.taken k ≤ n → ReplacesSoundly ts (bare ++ key_record k ts ∷ [])

-- ---- Laws

-- These steps keep all searches sound.
pub record SearchesStaySound : Type 0 where
  pub rests : (program : Program) (text : Text) (a : Liveness) (keys : Keys) → IsLivenessFor program text a
      → AreKeys program text a keys
      → (d : Direction) → SoundSearchSteps program text a keys d
  pub puts : (program : Program) (text : Text) (a : Liveness) (keys : Keys) (d : Direction)
      → SoundReplacementSteps program text a keys d
