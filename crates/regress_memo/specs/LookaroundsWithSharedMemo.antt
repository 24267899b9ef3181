-- Searches of the contents of lookarounds that share the memo table of the enclosing search.
use Rattle.std.specs.Prelude.{◌≡◌, ◌≤◌, ℕ, ◌+◌, Bool, true, false, List, [], ◌∷◌, ◌++◌, Some, None, IsSome}
use Rattle.std.specs.List.{sum_by}
use Rattle.regex_meaning.specs.Laws.{Each}
use Rattle.regex_meaning.specs.Text.{Text, Direction}
use Rattle.regex_meaning.specs.CompilationRelation.{Program}
use Rattle.regress_machine.specs.Machine.{State, Thread, running, goes, scans, ends, asks, Found, after_lookaround, act, search}
use Rattle.regress_machine.specs.SearchFindsFirstOutcomeAtPlace.{state_before_first_insn}
use Rattle.regress_machine.specs.ThreadSimulation.{Simulates, AllFindNothing}
use Rattle.regex_meaning.specs.CodeUnitOffsets.{units}
use Rattle.regress_memo.specs.ThreadBisimulation.{AlikeThreads, AreAlikeLookaroundSearches}
use Rattle.regress_memo.specs.Liveness.{Liveness, World, outermost, Agree, IsLivenessFor}
use Rattle.regress_memo.specs.DistinctLists.{IsNew, AreDistinct, AreIn}
use Rattle.regress_memo.specs.MemoSearch.{Key, Keys, Entry, thread_entries, entry_potential, threads_in, keys_in, IsBare, FindEnd, AreKeys, Succeeds, IsKnown, IsMemory, HoldsInvariant, ReachesBySteps}

module _ (program : Program) (text : Text) (a : Liveness) (keys : Keys) where
  -- The new keys are known, distinct, and not pending in the enclosing search.
  pub record AreLearned (outer : List Entry) (memory new : List Key) : Type 0 where
    pub known : Each (IsKnown program text a keys) new
    pub distinct : Each (λ k. IsNew k (keys_in outer)) new → AreDistinct (keys_in outer ++ memory)
        → AreDistinct (keys_in outer ++ (new ++ memory))
    pub inside : AreIn new keys.all

  -- What the search of a lookaround's contents leaves for the enclosing search: new keys, whose
  -- costs cover its work except for the initial potential and discarded records.
  pub record HasLearned (key_cost : Key → ℕ) (weight : List Thread → ℕ) (outer : List Entry) (memory : List Key)
      (us : List Thread) (work : ℕ) (now : List Key) (row : List Entry) : Type 0 where
    pub new : List Key
    pub now_is : now ≡ new ++ memory
    pub learned : AreLearned outer memory new
    pub paid : work ≤ sum_by (entry_potential weight) (thread_entries us) + sum_by key_cost (keys_in row)
        + sum_by key_cost new
    -- If the search has found an end, the keys of its pending records are learned too, and no
    -- record is discarded.
    pub found : Each (Succeeds program text a keys) (keys_in row) → AreLearned outer memory (keys_in row ++ new)
    pub found_paid : work ≤ sum_by (entry_potential weight) (thread_entries us) + sum_by key_cost (keys_in row ++ new)

-- ---- Threads stay sound

module _ (program : Program) (text : Text) (a : Liveness) where
  -- Steps from sound states lead to sound states. A state is sound if it agrees with itself.
  pub record StaysSound (d : Direction) : Type 0 where
    -- The initial state of a search is sound, if no loop encloses the first instruction.
    pub at_first : (at : ℕ) → at ≤ units text → ((l : ℕ) → a.inside 0 l ≡ false)
        → Agree a (units text) outermost d (state_before_first_insn program at) (state_before_first_insn program at)
    -- A step from a sound state leaves sound threads.
    pub goes : (w : World) (s : State) (ts : List Thread) → Agree a (units text) w d s s
        → act program text d s ≡ goes ts → AlikeThreads (Agree a (units text) w d) ts ts
    pub scans : (w : World) (s : State) (n : ℕ) (ts : List Thread) → Agree a (units text) w d s s
        → act program text d s ≡ scans n ts → AlikeThreads (Agree a (units text) w d) ts ts
    -- The initial state of a lookaround's contents is sound in a world of its own. If the end of
    -- the contents is sound there, the state that continues after it is sound.
    pub asks : (w : World) (inner : Direction) (negate : Bool) (s u t : State) → Agree a (units text) w d s s
        → act program text d s ≡ asks inner negate u t
        → AreAlikeLookaroundSearches (λ w d. Agree a (units text) w d) w d inner negate u t u t
    -- States that agree in any world agree in the outermost one.
    pub outer : (w : World) (s t : State) → Agree a (units text) w d s t → Agree a (units text) outermost d s t

module _ (program : Program) (text : Text) (d : Direction) where
  -- A lookaround is decided without a search if its contents are known to fail. A negative one is
  -- also decided if its contents are known to find an end.
  pub record AreDecided : Type 0 where
    pub fails : (inner : Direction) (negate : Bool) (s u t : State) → act program text d s ≡ asks inner negate u t
        → AllFindNothing program text inner (running u ∷ [])
        → Simulates program text false d 1 (after_lookaround negate t None) (running s ∷ [])
    pub reaches : (inner : Direction) (s u t : State) → act program text d s ≡ asks inner true u t
        → FindEnd program text inner (running u ∷ []) → Simulates program text false d 1 [] (running s ∷ [])

-- ---- Laws

-- Steps from sound states leave sound threads, in all programs and texts.
abbrev pub SoundStatesLeaveSoundThreads : Type 0
SoundStatesLeaveSoundThreads = (program : Program) (text : Text) (a : Liveness) → IsLivenessFor program text a
    → (d : Direction) → StaysSound program text a d

-- Known results decide lookarounds without a search, in all programs.
abbrev pub KnownResultsDecideLookarounds : Type 0
KnownResultsDecideLookarounds = (program : Program) (text : Text) (d : Direction) → AreDecided program text d

-- Each search of a lookaround's contents that begins with a right memo table learns keys.
abbrev pub LookaroundsLearnKeys : Type 0
LookaroundsLearnKeys = (program : Program) (text : Text) (a : Liveness) (keys : Keys) → IsLivenessFor program text a
    → AreKeys program text a keys
    → (d : Direction) (key_cost : Key → ℕ) (weight : List Thread → ℕ) (outer : List Entry) (memory : List Key)
    (us : List Thread) (turns : ℕ) (f : Found) → IsMemory program text a keys memory
    → search program text turns d us ≡ Some f → (work : ℕ) (now : List Key) (row : List Entry)
    → ReachesBySteps program text a keys d key_cost weight memory (thread_entries us) work now row
    → HasLearned program text a keys key_cost weight outer memory us work now row

module _ (program : Program) (text : Text) (a : Liveness) (keys : Keys) (d : Direction) where
  -- If a thread succeeds, all pending records below it succeed.
  pub record SharedSuccess : Type 0 where
    -- A thread that ends finds an end, and so do the threads of a key that is known to succeed.
    pub ends : (s t : State) → act program text d s ≡ ends t → FindEnd program text d (running s ∷ [])
    -- If the first threads of a list find an end, the search finds an end, and so do the threads of
    -- each record below.
    pub shared : (memory : List Key) (front rest : List Entry) (f : Found) → IsBare front
        → FindEnd program text d (threads_in front) → HoldsInvariant program text a keys d memory (front ++ rest) f
        → IsSome f.end × Each (Succeeds program text a keys) (keys_in rest)

-- `SharedSuccess` holds in all searches.
abbrev pub FoundEndIsShared : Type 0
FoundEndIsShared = (program : Program) (text : Text) (a : Liveness) (keys : Keys)
    → IsLivenessFor program text a → AreKeys program text a keys → (d : Direction) → SharedSuccess program text a keys d
