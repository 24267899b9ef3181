-- Searches of threads that are alike: related by a relation that each step preserves.
use Rattle.std.specs.Prelude.{◌≡◌, ℕ, Bool, List, [], ◌∷◌, Option, Some, None}
use Rattle.regex_meaning.specs.Text.{Text, Direction}
use Rattle.regex_meaning.specs.CompilationRelation.{Program}
use Rattle.regress_machine.specs.Machine.{State, Thread, running, waiting, Next, goes, scans, ends, asks, stuck, Found, after_lookaround, act, search}

-- A relation between states.
abbrev pub Relation : Type 1
Relation = State → State → Type 0

module _ (R : Relation) where
  -- Both threads run or both wait, and their states are related.
  abbrev pub AlikeThread : Thread → Thread → Type 0
  AlikeThread (running s) (running t) = R s t
  AlikeThread (waiting s) (waiting t) = R s t
  AlikeThread _ _ = ⊥

  -- Two lists have equal lengths, and their threads are alike in pairs.
  abbrev pub AlikeThreads : List Thread → List Thread → Type 0
  AlikeThreads [] [] = Unit {0}
  AlikeThreads (t ∷ ts) (u ∷ us) = AlikeThread t u × AlikeThreads ts us
  AlikeThreads _ _ = ⊥

  -- The ends of two searches are related, or neither has one.
  abbrev pub AlikeEnds : Option State → Option State → Type 0
  AlikeEnds None None = Unit {0}
  AlikeEnds (Some s) (Some t) = R s t
  AlikeEnds _ _ = ⊥

  -- Two results have the same number of steps, and their ends are alike.
  pub record HaveSameStepsAndAlikeEnds (f g : Found) : Type 0 where
    pub steps : f.steps ≡ g.steps
    pub ends : AlikeEnds f.end g.end

  -- Both searches have results that are alike, or neither has a result.
  abbrev pub AlikeAnswers : Option Found → Option Found → Type 0
  AlikeAnswers None None = Unit {0}
  AlikeAnswers (Some f) (Some g) = HaveSameStepsAndAlikeEnds f g
  AlikeAnswers _ _ = ⊥

-- There is a relation for each world and direction, because the search of a lookaround's contents
-- may need another relation.
module _ {W : Type 0} (R : W → Direction → Relation) where
  -- The contents are related in some world. If their ends are related there, the states that
  -- continue are related here.
  pub record AreAlikeLookaroundSearches (w : W) (d inner : Direction) (negate : Bool) (u s u' s' : State) : Type 0 where
    pub world : W
    pub contents : R world inner u u'
    pub behind : (a b : Option State) → AlikeEnds (R world inner) a b
        → AlikeThreads (R w d) (after_lookaround negate s a) (after_lookaround negate s' b)

  -- Two effects of an instruction are alike.
  abbrev pub AlikeNext : (w : W) (d : Direction) → Next → Next → Type 0
  AlikeNext w d (goes ts) (goes us) = AlikeThreads (R w d) ts us
  AlikeNext w d (scans m ts) (scans n us) = (m ≡ n) × AlikeThreads (R w d) ts us
  AlikeNext w d (ends s) (ends t) = R w d s t
  AlikeNext w d (asks inner negate u s) (asks inner' negate' u' s') = (inner ≡ inner') × (negate ≡ negate')
      × AreAlikeLookaroundSearches w d inner negate u s u' s'
  AlikeNext w d stuck stuck = Unit {0}
  AlikeNext w d _ _ = ⊥

  -- Each step preserves the relation.
  pub record IsBisimulation (program : Program) (text : Text) : Type 0 where
    pub kept : (w : W) (d : Direction) (s t : State) → R w d s t
        → AlikeNext w d (act program text d s) (act program text d t)

-- ---- Laws

-- The searches of threads that are alike have the same number of steps, and either ends that are
-- alike or no ends.
abbrev pub AlikeThreadsEndAlike : Type 1
AlikeThreadsEndAlike = (W : Type 0) (R : W → Direction → Relation) (program : Program) (text : Text)
    → IsBisimulation R program text
    → (w : W) (d : Direction) (turns : ℕ) (ts us : List Thread) → AlikeThreads (R w d) ts us
    → AlikeAnswers (R w d) (search program text turns d ts) (search program text turns d us)
