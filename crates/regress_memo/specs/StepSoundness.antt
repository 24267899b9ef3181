-- Soundness of steps: what a step has to satisfy so that the search finds the right result. The
-- number of steps and the offsets of threads do not matter.
use Rattle.std.specs.Prelude.{◌≡◌, ◌≤◌, ℕ, false, List, [], ◌∷◌, ◌++◌}
use Rattle.regex_meaning.specs.Text.{Text, Direction}
use Rattle.regex_meaning.specs.CompilationRelation.{Program}
use Rattle.regress_machine.specs.Machine.{Thread, Found}
use Rattle.regress_machine.specs.ThreadSimulation.{Simulates}
use Rattle.regress_memo.specs.Liveness.{Liveness, IsLivenessFor}
use Rattle.regress_memo.specs.DistinctLists.{IsNew, AreDistinct}
use Rattle.regress_memo.specs.MemoSearch.{Key, Keys, Entry, key_record, threads_in, keys_in, IsBare, KeyStandsFor, AreKeys, AreRightKeyRecords, AreOpened, IsMemoStep, HoldsInvariant}

module _ (program : Program) (text : Text) (a : Liveness) (keys : Keys) (d : Direction) where
  -- Like `IsMemoStep`, but without its field `onward`.
  pub record IsSoundStep (memory : List Key) (ts : List Thread) (entries : List Entry) : Type 0 where
    pub spent : ℕ
    pub simulates : Simulates program text false d spent (threads_in entries) ts
    pub noted : AreRightKeyRecords program text a keys d [] entries
    pub opened : AreOpened program text a keys d memory ts entries
    pub distinct : AreDistinct (keys_in entries)

  module _ (memory : List Key) where
    -- Which steps are sound, and that sound steps keep the invariant.
    pub record SoundStepsKeepInvariant : Type 0 where
      pub given : (ts : List Thread) (entries : List Entry) → IsMemoStep program text a keys d memory ts entries
          → IsSoundStep memory ts entries
      -- Steps without a record, and steps with a record of what was current, are sound.
      pub passed : (n : ℕ) (bare : List Entry) (ts : List Thread) → IsBare bare
          → Simulates program text false d n (threads_in bare) ts → IsSoundStep memory ts bare
      pub made : (n : ℕ) (bare : List Entry) (ts : List Thread) (k : Key) → IsBare bare
          → Simulates program text false d n (threads_in bare) ts → KeyStandsFor program text a keys d k ts
          → 1 ≤ keys.taken k → keys.taken k ≤ n → IsNew k memory → IsSoundStep memory ts (bare ++ key_record k ts ∷ [])
      -- A sound step keeps the invariant.
      pub turned : (front entries rest : List Entry) (f : Found) → IsBare front
          → IsSoundStep memory (threads_in front) entries
          → HoldsInvariant program text a keys d memory (front ++ rest) f
          → HoldsInvariant program text a keys d memory (entries ++ rest) f
      -- The threads may be grouped differently.
      pub regrouped : (front bare rest : List Entry) (f : Found) → IsBare front → IsBare bare
          → threads_in bare ≡ threads_in front
          → HoldsInvariant program text a keys d memory (front ++ rest) f
          → HoldsInvariant program text a keys d memory (bare ++ rest) f

-- ---- Laws

-- The steps of each search are sound.
abbrev pub StepsAreSound : Type 0
StepsAreSound = (program : Program) (text : Text) (a : Liveness) (keys : Keys) → IsLivenessFor program text a
    → AreKeys program text a keys
    → (d : Direction) (memory : List Key) → SoundStepsKeepInvariant program text a keys d memory
