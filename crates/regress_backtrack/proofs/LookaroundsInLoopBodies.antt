-- The search of a lookaround in a plain loop body is the same from any groups and in any iteration.
use Rattle.std.proofs.Common.{◌≡◌, ◌<◌, ◌≤◌, ℕ, zero, suc, ◌+◌, ◌-◌, List, [], ◌∷◌, ◌++◌, map, Option, Some, None, Bool, true, false, refl, ap, ◌∙◌, sym, subst, arith, slice_get}
use Rattle.std.specs.Prelude.{option_map}
use Rattle.regex_meaning.specs.Laws.{Each}
use Rattle.regex_meaning.specs.Text.{Text, Direction}
use Rattle.regex_meaning.specs.CodeUnitOffsets.{HasRisingPlaceOffsets}
use Rattle.regex_meaning.specs.CompilationRelation.{Program}
use Rattle.regress_machine.specs.Machine.{State, Thread, Next, goes, scans, ends, asks, stuck, Found, with_steps, after_lookaround, after_lookaround_search, search_after_effect, act, search}
use Rattle.regress_memo.specs.Liveness.{ReadsAsBytes}
use Rattle.regress_backtrack.specs.RepeatableLoopBodies.{MayContinue, AllStayInContents, IsClosedForwardBody}
use Rattle.regress_backtrack.proofs.GroupChangeLists.{Slots, Note}
use Rattle.regress_backtrack.proofs.LoopBodySteps.{Spot, runs, waits, spot_ip, spot_pos, spot_notes, state_at, thread_at, Quiet, Always, Reached, Turned, sticks, ended, moves, scanned, asked}
use Rattle.regress_backtrack.proofs.LoopBodySteps.{turned-at}

pub map-joined : (f : Spot → Thread) (S T : List Spot) → map f (S ++ T) ≡ map f S ++ map f T
map-joined f [] T = refl
map-joined f (s ∷ S) T = ap (λ ts. f s ∷ ts) (map-joined f S T)

pub Each-joined : (P : Spot → Type 0) (S T : List Spot) → Each P S → Each P T → Each P (S ++ T)
Each-joined P [] T h k = k
Each-joined P (s ∷ S) T h k = (h.0, Each-joined P S T h.1 k)

pub Each-on : (P Q : Spot → Type 0) → ((t : Spot) → P t → Q t) → (S : List Spot) → Each P S → Each Q S
Each-on P Q f [] h = tt
Each-on P Q f (s ∷ S) h = (f s h.0, Each-on P Q f S h.1)

-- An answer is a search's result without what depends on groups and the iteration.
pub record Answer : Type 0 where
  pub steps : ℕ
  pub end : Option Spot

abbrev pub more : ℕ → Option Answer → Option Answer
more n None = None
more n (Some a) = Some (record { steps = n + a.steps; end = a.end })

-- The search continues at these spots after a lookaround.
abbrev pub spots_after : (negate : Bool) (to pos : ℕ) → List Note → Option Spot → List Spot
spots_after false to pos notes None = []
spots_after false to pos notes (Some t) = runs to pos (spot_notes t) ∷ []
spots_after true to pos notes None = runs to pos notes ∷ []
spots_after true to pos notes (Some t) = []

module _ (changes : Bool) (program : Program) (text : Text) (is : HasRisingPlaceOffsets text) (reads : ReadsAsBytes program text) (x : State) (id : ℕ) where
  abbrev pub spot_state : (k : ℕ) (J : Slots) → Spot → State
  spot_state k J t = state_at x id k J (spot_ip t) (spot_pos t) (spot_notes t)

  abbrev pub found_of : (k : ℕ) (J : Slots) → Answer → Found
  found_of k J a = record { steps = a.steps; end = option_map (spot_state k J) a.end }

  abbrev pub answer_of : (k : ℕ) (J : Slots) → Option Answer → Option Found
  answer_of k J o = option_map (found_of k J) o

  abbrev pub Ts : (k : ℕ) (J : Slots) → List Spot → List Thread
  Ts k J T = map (thread_at x id k J) T

  abbrev pub QuietEnd : Option Answer → Type 0
  QuietEnd None = Unit {0}
  QuietEnd (Some a) = (t : Spot) → a.end ≡ Some t → Quiet changes program text is reads x id (spot_notes t)

  pub record Uniform (n : ℕ) (d : Direction) (T : List Spot) : Type 0 where
    pub answer : Option Answer
    pub same : Always changes program text is reads x id (λ k J. search program text n d (Ts k J T) ≡ answer_of k J answer)
    pub quiet : QuietEnd answer

  -- ---- The parts of a search

  more-answers : (k : ℕ) (J : Slots) (c : ℕ) (o : Option Answer) → with_steps c (answer_of k J o) ≡ answer_of k J (more c o)
  more-answers k J c None = refl
  more-answers k J c (Some a) = refl

  more-quiet : (c : ℕ) (o : Option Answer) → QuietEnd o → QuietEnd (more c o)
  more-quiet c None h = tt
  more-quiet c (Some a) h = h

  pub after-spots : (k : ℕ) (J : Slots) (negate : Bool) (to pos : ℕ) (notes : List Note) (o : Option Spot)
      → after_lookaround negate (state_at x id k J to pos notes) (option_map (spot_state k J) o) ≡ Ts k J (spots_after negate to pos notes o)
  after-spots k J false to pos notes None = refl
  after-spots k J false to pos notes (Some t) = refl
  after-spots k J true to pos notes None = refl
  after-spots k J true to pos notes (Some t) = refl

  uniform-more : (n c : ℕ) (d : Direction) (S : List Spot) (t : Spot) (T : List Spot) → Uniform n d S
      → Always changes program text is reads x id (λ k J. search program text (suc n) d (Ts k J (t ∷ T)) ≡ with_steps c (search program text n d (Ts k J S))) → Uniform (suc n) d (t ∷ T)
  uniform-more n c d S t T u steps = record {
    answer = more c u.answer;
    same = λ k J h. steps k J h ∙ ap (with_steps c) (u.same k J h) ∙ more-answers k J c u.answer;
    quiet = more-quiet c u.answer u.quiet;
  }

  row : (k : ℕ) (J : Slots) (S T : List Spot) → (Ts k J S ++ Ts k J T) ≡ Ts k J (S ++ T)
  row k J S T = sym (map-joined (thread_at x id k J) S T)

  module _ (n : ℕ) (d : Direction) (ip pos : ℕ) (notes : List Note) (T : List Spot) where
    abbrev st : (k : ℕ) (J : Slots) → State
    st k J = state_at x id k J ip pos notes

    abbrev Acts : ((k : ℕ) (J : Slots) → Next) → Type 0
    Acts next = Always changes program text is reads x id (λ k J. act program text d (st k J) ≡ next k J)

    turn-none : Acts (λ k J. stuck) → Uniform (suc n) d (runs ip pos notes ∷ T)
    unfolding search
    turn-none acts = record { answer = None; same = λ k J h. ap (λ y. search_after_effect (λ d us. search program text n d us) d y (Ts k J T)) (acts k J h); quiet = tt }

    turn-ends : Quiet changes program text is reads x id notes → Acts (λ k J. ends (st k J)) → Uniform (suc n) d (runs ip pos notes ∷ T)
    unfolding search
    turn-ends q acts = record {
      answer = Some (record { steps = 1; end = Some (runs ip pos notes) });
      same = λ k J h. ap (λ y. search_after_effect (λ d us. search program text n d us) d y (Ts k J T)) (acts k J h);
      quiet = λ t e. let here : runs ip pos notes ≡ t = cc in subst (λ t. Quiet changes program text is reads x id (spot_notes t)) here q;
    }

    turn-goes : (S : List Spot) → Acts (λ k J. goes (Ts k J S)) → Uniform n d (S ++ T) → Uniform (suc n) d (runs ip pos notes ∷ T)
    unfolding search
    turn-goes S acts u = uniform-more n 1 d (S ++ T) (runs ip pos notes) T u (λ k J h.
        ap (λ y. search_after_effect (λ d us. search program text n d us) d y (Ts k J T)) (acts k J h) ∙ ap (λ ts. with_steps 1 (search program text n d ts)) (row k J S T))

    turn-scans : (c : ℕ) (S : List Spot) → Acts (λ k J. scans c (Ts k J S)) → Uniform n d (S ++ T) → Uniform (suc n) d (runs ip pos notes ∷ T)
    unfolding search
    turn-scans c S acts u = uniform-more n (1 + c) d (S ++ T) (runs ip pos notes) T u (λ k J h.
        ap (λ y. search_after_effect (λ d us. search program text n d us) d y (Ts k J T)) (acts k J h) ∙ ap (λ ts. with_steps (1 + c) (search program text n d ts)) (row k J S T))

    module _ (inner : Direction) (negate : Bool) (to : ℕ) (acts : Acts (λ k J. asks inner negate (state_at x id k J (ip + 1) pos notes) (state_at x id k J to pos notes)))
        (contents : Uniform n inner (runs (ip + 1) pos notes ∷ [])) where
      asks-turn : Always changes program text is reads x id (λ k J. search program text (suc n) d (Ts k J (runs ip pos notes ∷ T))
          ≡ after_lookaround_search (search program text n d) negate (state_at x id k J to pos notes) (Ts k J T) (answer_of k J contents.answer))
      unfolding search
      asks-turn k J h =
          ap (λ y. search_after_effect (λ d us. search program text n d us) d y (Ts k J T)) (acts k J h)
          ∙ ap (λ r. after_lookaround_search (search program text n d) negate (state_at x id k J to pos notes) (Ts k J T) r) (contents.same k J h)

      asks-none : contents.answer ≡ None → Uniform (suc n) d (runs ip pos notes ∷ T)
      asks-none e = record {
        answer = None;
        same = λ k J h. asks-turn k J h ∙ ap (λ o. after_lookaround_search (search program text n d) negate (state_at x id k J to pos notes) (Ts k J T) (answer_of k J o)) e;
        quiet = tt;
      }

      asks-some : (a : Answer) → contents.answer ≡ Some a → Uniform n d (spots_after negate to pos notes a.end ++ T) → Uniform (suc n) d (runs ip pos notes ∷ T)
      asks-some a e u = uniform-more n (1 + a.steps) d (spots_after negate to pos notes a.end ++ T) (runs ip pos notes) T u (λ k J h.
          asks-turn k J h ∙ ap (λ o. after_lookaround_search (search program text n d) negate (state_at x id k J to pos notes) (Ts k J T) (answer_of k J o)) e
          ∙ ap (λ ts. with_steps (1 + a.steps) (search program text n d (ts ++ Ts k J T))) (after-spots k J negate to pos notes a.end)
          ∙ ap (λ ts. with_steps (1 + a.steps) (search program text n d ts)) (row k J (spots_after negate to pos notes a.end) T))

  uniform-waits : (n : ℕ) (d : Direction) (ip pos : ℕ) (notes : List Note) (T : List Spot) → Uniform n d (runs ip pos notes ∷ T) → Uniform (suc n) d (waits ip pos notes ∷ T)
  unfolding search
  uniform-waits n d ip pos notes T u = uniform-more n 1 d (runs ip pos notes ∷ T) (waits ip pos notes) T u (λ k J h. refl)

  uniform-empty : (n : ℕ) (d : Direction) → Uniform n d []
  unfolding search
  uniform-empty n d = record { answer = Some (record { steps = 0; end = None }); same = λ k J h. refl; quiet = λ t e. cc }

  uniform-zero : (d : Direction) (t : Spot) (T : List Spot) → Uniform zero d (t ∷ T)
  unfolding search
  uniform-zero d (runs ip pos notes) T = record { answer = None; same = λ k J h. refl; quiet = tt }
  uniform-zero d (waits ip pos notes) T = record { answer = None; same = λ k J h. refl; quiet = tt }

  -- ---- Contents of lookarounds

  module _ (from stop : ℕ) (plain : IsClosedForwardBody changes program from stop) where
    abbrev pub InContents : (lo past : ℕ) → Spot → Type 0
    InContents lo past t = (lo < spot_ip t) × (spot_ip t < past) × Quiet changes program text is reads x id (spot_notes t)

    reached-inside : (d : Direction) (lo past ip pos : ℕ) → lo < ip → ip < past → (t : Spot) → Reached changes program text is reads x id d (past - 1) ip pos t → InContents lo past t
    reached-inside d lo past ip pos after before t h = let later = h.0.later in let within = h.0.within in (omega (arith, after, later), omega (arith, before, within), h.2)

    after-inside : (lo past to pos : ℕ) → lo < to → to < past → (notes : List Note) → Quiet changes program text is reads x id notes → (negate : Bool) (a : Answer) → QuietEnd (Some a)
        → Each (InContents lo past) (spots_after negate to pos notes a.end)
    after-inside lo past to pos after before notes q negate a quiet = by negate a.end quiet
      where
        by : (negate : Bool) (o : Option Spot) → ((t : Spot) → o ≡ Some t → Quiet changes program text is reads x id (spot_notes t)) → Each (InContents lo past) (spots_after negate to pos notes o)
        by false None h = tt
        by false (Some t) h = ((after, before, h t refl), tt)
        by true None h = ((after, before, q), tt)
        by true (Some t) h = tt

    abbrev Inner : ℕ → Type 0
    Inner n = (lo past : ℕ) → from ≤ lo → past ≤ stop → AllStayInContents changes program (lo + 1) past → (d : Direction) (T : List Spot) → Each (InContents lo past) T → Uniform n d T

    module _ (n : ℕ) (inner : Inner n) (lo past : ℕ) (after : from ≤ lo) (before : past ≤ stop) (closed : AllStayInContents changes program (lo + 1) past) (d : Direction)
        (ip pos : ℕ) (notes : List Note) (T : List Spot) (g : InContents lo past (runs ip pos notes)) (h : Each (InContents lo past) T) where
      abbrev Whole : Type 0
      Whole = Uniform (suc n) d (runs ip pos notes ∷ T)

      joined : (S : List Spot) → Each (Reached changes program text is reads x id d (past - 1) ip pos) S → Uniform n d (S ++ T)
      joined S good = inner lo past after before closed d (S ++ T) (Each-joined (InContents lo past) S T (Each-on _ (InContents lo past) (reached-inside d lo past ip pos g.0 g.1) S good) h)

      asked-by : (i : Direction) (negate : Bool) (to : ℕ) → Always changes program text is reads x id (λ k J. act program text d (state_at x id k J ip pos notes) ≡ asks i negate (state_at x id k J (ip + 1) pos notes) (state_at x id k J to pos notes))
          → MayContinue program (past - 1) ip to → (u : Uniform n i (runs (ip + 1) pos notes ∷ [])) → (o : Option Answer) → u.answer ≡ o → QuietEnd o → Whole
      asked-by i negate to acts on u None e q = asks-none n d ip pos notes T i negate to acts u e
      asked-by i negate to acts on u (Some a) e q =
          let later = on.later in let within = on.within in let low = g.0 in let high = g.1 in
          asks-some n d ip pos notes T i negate to acts u a e
          (inner lo past after before closed d (spots_after negate to pos notes a.end ++ T)
          (Each-joined (InContents lo past) (spots_after negate to pos notes a.end) T (after-inside lo past to pos (omega (arith, low, later)) (omega (arith, high, within)) notes g.2 negate a q) h))

      turned-uniform : Turned changes program text is reads x id d from (past - 1) ip pos notes → Whole
      turned-uniform (sticks acts) = turn-none n d ip pos notes T acts
      turned-uniform (ended out acts) = turn-ends n d ip pos notes T g.2 acts
      turned-uniform (moves S acts good) = turn-goes n d ip pos notes T S acts (joined S good)
      turned-uniform (scanned c S acts good) = turn-scans n d ip pos notes T c S acts (joined S good)
      turned-uniform (asked i negate to acts contents on) =
          let later = on.later in let within = on.within in let low = g.0 in let high = g.1 in let room = contents.0 in
          let u = inner ip to (omega (arith, after, low)) (omega (arith, before, within, high)) contents.1 i (runs (ip + 1) pos notes ∷ []) ((omega arith, room, g.2), tt) in
          asked-by i negate to acts on u u.answer refl u.quiet

    pub uniform : (n : ℕ) → Inner n
    uniform n lo past after before closed d [] h = uniform-empty n d
    uniform zero lo past after before closed d (t ∷ T) h = uniform-zero d t T
    uniform (suc n) lo past after before closed d (waits ip pos notes ∷ T) h = uniform-waits n d ip pos notes T (uniform n lo past after before closed d (runs ip pos notes ∷ T) h)
    uniform (suc n) lo past after before closed d (runs ip pos notes ∷ T) h =
        let low = h.0.0 in let high = h.0.1 in
        turned-uniform n (λ lo past after before closed d T h. uniform n lo past after before closed d T h) lo past after before closed d ip pos notes T h.0 h.1
        (turned-at changes program text is reads x id d from (past - 1) ip pos notes h.0.2 (slice_get program.insns ip) refl
        (λ insn e. (closed ip (omega (arith, low)) high insn e, (plain ip (omega (arith, after, low)) (omega (arith, before, high)) insn e).1)))
