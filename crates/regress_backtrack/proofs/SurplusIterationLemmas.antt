-- A counted loop needs at most two more required iterations than the number of code units left.
use Rattle.std.proofs.Common.{◌≡◌, ◌<◌, ◌≤◌, ℕ, zero, suc, ◌+◌, ◌-◌, List, [], ◌∷◌, ◌++◌, map, length, Option, Some, None, Bool, true, false, refl, ap, ◌∙◌, sym, subst, arith, slice_get, slice_set}
use Rattle.std.proofs.Common.{append_assoc, append-nil}
use Rattle.std.specs.Prelude.{◌⊎◌, IsSome}
use Rattle.std.proofs.lemmas.Bool.{cases_lt}
use mathlib.Core.Logic.{inl, inr}
use Rattle.regex_meaning.specs.Laws.{Each}
use Rattle.regex_meaning.specs.Text.{Text, Direction}
use Rattle.regex_meaning.specs.CodeUnitOffsets.{HasRisingPlaceOffsets, units}
use Rattle.regex_meaning.specs.CompilationRelation.{Program, LoopFields, Insn, EnterLoop, LoopAgain, Lookahead, Lookbehind}
use Rattle.regress_machine.specs.Machine.{LoopData, State, Thread, running, waiting, goes, scans, asks, stuck, Found, result_without_threads, with_steps, with_some, after_lookaround}
use Rattle.regress_machine.specs.Machine.{after_lookaround_search, search_after_effect, act_on, act, search, effect_at_iteration_end, loop_again_effect}
use Rattle.std.proofs.lemmas.List.{length-set}
use Rattle.regress_machine.proofs.UnchangedGroupsAndLoops.{slice_get-set_same}
use Rattle.regress_machine.proofs.MachineSearchLemmas.{search_more}
use Rattle.regress_machine.specs.ThreadSimulation.{Simulates}
use Rattle.regress_machine.proofs.ThreadSimulationLemmas.{search_same, simulates-same, simulates-then}
use Rattle.regress_machine.proofs.LoopHeadSimulation.{again, head-again, again-counts}
use Rattle.regress_machine.proofs.ForcedIterationLemmas.{set-twice}
use Rattle.regress_memo.specs.ThreadBisimulation.{AlikeThread, AlikeThreads, AlikeEnds, AlikeAnswers}
use Rattle.regress_memo.specs.Liveness.{units_left_in_direction, ReadsAsBytes}
use Rattle.regress_memo.proofs.ThreadBisimulationLemmas.{alike-append}
use Rattle.regress_backtrack.specs.RepeatableLoopBodies.{LookaroundInsnContinuesBy, LookaroundsEndBy, MayContinue, IsClosedForwardBody, HasNoBackreference, LaterIterationReplacesSurplus}
use Rattle.regress_backtrack.proofs.SearchesOfJoinedThreads.{Parts, ended, passed, parts, later}
use Rattle.regress_backtrack.proofs.GroupChangeLists.{Slots, Note, applied, AsMany, as-many, applied-twice}
use Rattle.regress_backtrack.proofs.GroupIndependentSearches.{Differ, unread-alike}
use Rattle.regress_backtrack.proofs.LoopBodySteps as turn
use Rattle.regress_backtrack.proofs.LoopBodySteps.{Spot, runs, waits, spot_ip, spot_pos, spot_notes, slots_of, state_at, thread_at, Onward, onward-on, Quiet, Reached, Turned, sticks, moves, scanned}
use Rattle.regress_backtrack.proofs.LoopBodySteps.{turned-at}
use Rattle.regress_backtrack.proofs.LookaroundsInLoopBodies.{map-joined, Each-joined, Each-on, Answer, spots_after, found_of, answer_of, QuietEnd, Uniform, after-spots, uniform}

-- ---- One step

module _ (program : Program) (text : Text) (d : Direction) where
  -- A search of these threads gives the result with one turn less and `c` steps more.
  record Fore (c n : ℕ) (ws : List Thread) (f : Found) : Type 0 where
    turns : ℕ
    less : n ≡ turns + 1
    found : Found
    searches : search program text turns d ws ≡ Some found
    is : later c found ≡ f

  -- Threads leave others in `c` steps, with at least `w` turns.
  record Steps (w c : ℕ) (us ws : List Thread) : Type 0 where
    fore : (n : ℕ) (f : Found) → search program text n d us ≡ Some f → Fore c n ws f
    back : (n : ℕ) (g : Found) → w ≤ n + 1 → search program text n d ws ≡ Some g → search program text (suc n) d us ≡ Some (later c g)

  fore-with : (n c : ℕ) (ws : List Thread) (f : Found) → with_steps c (search program text n d ws) ≡ Some f → Fore c (suc n) ws f
  fore-with n c ws f e = by (search program text n d ws) refl e
    where
      by : (r : Option Found) → search program text n d ws ≡ r → with_steps c r ≡ Some f → Fore c (suc n) ws f
      by None q e = cc
      by (Some g) q e = record { turns = n; less = omega arith; found = g; searches = q; is = let same : later c g ≡ f = cc in same }

  waits-fore : (s : State) (ts : List Thread) (n : ℕ) (f : Found) → search program text n d (waiting s ∷ ts) ≡ Some f → Fore 1 n (running s ∷ ts) f
  unfolding search
  waits-fore s ts zero f e = cc
  waits-fore s ts (suc n) f e = fore-with n 1 (running s ∷ ts) f e

  waits-back : (s : State) (ts : List Thread) (n : ℕ) (g : Found) → search program text n d (running s ∷ ts) ≡ Some g → search program text (suc n) d (waiting s ∷ ts) ≡ Some (later 1 g)
  unfolding search
  waits-back s ts n g e = ap (with_steps 1) e

  goes-fore : (s : State) (ss ts : List Thread) → act program text d s ≡ goes ss → (n : ℕ) (f : Found) → search program text n d (running s ∷ ts) ≡ Some f → Fore 1 n (ss ++ ts) f
  unfolding search
  goes-fore s ss ts is zero f e = cc
  goes-fore s ss ts is (suc n) f e = fore-with n 1 (ss ++ ts) f (ap (λ x. search_after_effect (λ d us. search program text n d us) d x ts) (sym is) ∙ e)

  goes-back : (s : State) (ss ts : List Thread) → act program text d s ≡ goes ss → (n : ℕ) (g : Found) → search program text n d (ss ++ ts) ≡ Some g → search program text (suc n) d (running s ∷ ts) ≡ Some (later 1 g)
  unfolding search
  goes-back s ss ts is n g e = ap (λ x. search_after_effect (λ d us. search program text n d us) d x ts) is ∙ ap (with_steps 1) e

  scans-fore : (s : State) (tries : ℕ) (ss ts : List Thread) → act program text d s ≡ scans tries ss → (n : ℕ) (f : Found) → search program text n d (running s ∷ ts) ≡ Some f
      → Fore (1 + tries) n (ss ++ ts) f
  unfolding search
  scans-fore s tries ss ts is zero f e = cc
  scans-fore s tries ss ts is (suc n) f e = fore-with n (1 + tries) (ss ++ ts) f (ap (λ x. search_after_effect (λ d us. search program text n d us) d x ts) (sym is) ∙ e)

  scans-back : (s : State) (tries : ℕ) (ss ts : List Thread) → act program text d s ≡ scans tries ss → (n : ℕ) (g : Found) → search program text n d (ss ++ ts) ≡ Some g
      → search program text (suc n) d (running s ∷ ts) ≡ Some (later (1 + tries) g)
  unfolding search
  scans-back s tries ss ts is n g e = ap (λ x. search_after_effect (λ d us. search program text n d us) d x ts) is ∙ ap (with_steps (1 + tries)) e

  steps-waits : (s : State) (ts : List Thread) → Steps 0 1 (waiting s ∷ ts) (running s ∷ ts)
  steps-waits s ts = record { fore = waits-fore s ts; back = λ n g le e. waits-back s ts n g e }

  steps-goes : (s : State) (ss ts : List Thread) → act program text d s ≡ goes ss → Steps 0 1 (running s ∷ ts) (ss ++ ts)
  steps-goes s ss ts is = record { fore = goes-fore s ss ts is; back = λ n g le e. goes-back s ss ts is n g e }

  steps-scans : (s : State) (tries : ℕ) (ss ts : List Thread) → act program text d s ≡ scans tries ss → Steps 0 (1 + tries) (running s ∷ ts) (ss ++ ts)
  steps-scans s tries ss ts is = record { fore = scans-fore s tries ss ts is; back = λ n g le e. scans-back s tries ss ts is n g e }

  -- The current instruction is a lookaround, and the search of its contents returns.
  module _ (inner : Direction) (negate : Bool) (s u y : State) (asked_is : act program text d s ≡ asks inner negate u y) (ts : List Thread) where
    asks-turn : (n : ℕ) (r : Option Found) → search program text n inner (running u ∷ []) ≡ r
        → search program text (suc n) d (running s ∷ ts) ≡ after_lookaround_search (search program text n d) negate y ts r
    unfolding search
    asks-turn n r e =
        ap (λ x. search_after_effect (λ d us. search program text n d us) d x ts) asked_is
        ∙ ap (λ r. after_lookaround_search (search program text n d) negate y ts r) e

    asks-zero : (f : Found) → search program text zero d (running s ∷ ts) ≡ Some f → ⊥
    unfolding search
    asks-zero f e = cc

    asks-never : (n : ℕ) → search program text n inner (running u ∷ []) ≡ None → (f : Found) → search program text (suc n) d (running s ∷ ts) ≡ Some f → ⊥
    asks-never n none f e = let never : None ≡ Some f = sym (asks-turn n None none) ∙ e in cc

    module _ (m : ℕ) (r : Found) (contents : search program text m inner (running u ∷ []) ≡ Some r) where
      abbrev looked : List Thread
      looked = after_lookaround negate y r.end

      asks-fore : (n : ℕ) (f : Found) → search program text n d (running s ∷ ts) ≡ Some f → Fore (1 + r.steps) n (looked ++ ts) f
      asks-fore zero f e = absurd (asks-zero f e)
      asks-fore (suc n) f e = by (search program text n inner (running u ∷ [])) refl
        where
          by : (o : Option Found) → search program text n inner (running u ∷ []) ≡ o → Fore (1 + r.steps) (suc n) (looked ++ ts) f
          by None q = absurd (asks-never n q f e)
          by (Some g) q =
              let same = search_same program text n m inner (running u ∷ []) g r q contents in
              fore-with n (1 + r.steps) (looked ++ ts) f (ap (λ r. after_lookaround_search (search program text n d) negate y ts (Some r)) (sym same) ∙ sym (asks-turn n (Some g) q) ∙ e)

      asks-back : (n : ℕ) (g : Found) → m + 1 ≤ n + 1 → search program text n d (looked ++ ts) ≡ Some g → search program text (suc n) d (running s ∷ ts) ≡ Some (later (1 + r.steps) g)
      asks-back n g le e = asks-turn n (Some r) (search_more program text m n (omega (arith, le)) inner (running u ∷ []) r contents) ∙ ap (with_steps (1 + r.steps)) e

      steps-asks : Steps (m + 1) (1 + r.steps) (running s ∷ ts) (looked ++ ts)
      steps-asks = record { fore = asks-fore; back = asks-back }

  never-stuck : (n : ℕ) (s : State) (ts : List Thread) (f : Found) → act program text d s ≡ stuck → search program text n d (running s ∷ ts) ≡ Some f → ⊥
  unfolding search
  never-stuck zero s ts f is e = cc
  never-stuck (suc n) s ts f is e = let never : None ≡ Some f = ap (λ x. search_after_effect (λ d us. search program text n d us) d x ts) (sym is) ∙ e in cc

  no-turns : (t : Thread) (ts : List Thread) (f : Found) → search program text zero d (t ∷ ts) ≡ Some f → ⊥
  unfolding search
  no-turns (running s) ts f e = cc
  no-turns (waiting s) ts f e = cc

  -- ---- Searches that find nothing

  is-none : (o : Option State) → o ≡ None → IsSome o → ⊥
  is-none None e some = cc
  is-none (Some s) e some = cc

  no-threads : (n : ℕ) → search program text n d [] ≡ Some result_without_threads
  unfolding search
  no-threads n = refl

  -- A search has this end in at most as many steps.
  record Ends (n : ℕ) (ts : List Thread) (f : Found) : Type 0 where
    found : Found
    searches : search program text n d ts ≡ Some found
    end : found.end ≡ f.end
    few : found.steps ≤ f.steps

  record Nothing (ts : List Thread) : Type 0 where
    turns : ℕ
    found : Found
    searches : search program text turns d ts ≡ Some found
    none : found.end ≡ None

  tail-nothing : (t : Thread) (ts : List Thread) → Nothing (t ∷ ts) → Nothing ts
  tail-nothing t ts h = by (parts program text d ts h.turns (t ∷ []) h.found h.searches)
    where
      by : Parts program text d h.turns (λ ys. search program text h.turns d (t ∷ ys)) ts h.found → Nothing ts
      by (ended some all) = absurd (is-none h.found.end h.none some)
      by (passed m c g le at sum on) = record { turns = m; found = g; searches = at; none = ap (λ (h : Found). h.end) sum ∙ h.none }

  -- Threads whose search passes on to an empty list find nothing.
  nothing-itself : (n c : ℕ) (ts : List Thread) → search program text n d (ts ++ []) ≡ Some (later c result_without_threads) → Nothing ts
  nothing-itself n c ts e = record {
    turns = n;
    found = later c result_without_threads;
    searches = ap (search program text n d) (sym (append-nil ts)) ∙ e;
    none = refl;
  }

  first-nothing : (t : Thread) (ts : List Thread) → Nothing (t ∷ ts) → Nothing (t ∷ [])
  first-nothing t ts h = by (parts program text d ts h.turns (t ∷ []) h.found h.searches)
    where
      by : Parts program text d h.turns (λ ys. search program text h.turns d (t ∷ ys)) ts h.found → Nothing (t ∷ [])
      by (ended some all) = absurd (is-none h.found.end h.none some)
      by (passed m c g le at sum on) = nothing-itself h.turns c (t ∷ []) (on [] result_without_threads (no-threads m))

  -- A search that ends contradicts a search of the same threads that finds nothing.
  never-both : (n : ℕ) (ts : List Thread) (f : Found) → search program text n d ts ≡ Some f → IsSome f.end → Nothing ts → ⊥
  never-both n ts f e some h = is-none f.end (ap (λ (g : Found). g.end) (search_same program text n h.turns d ts f h.found e h.searches) ∙ h.none) some

  found-end : (c : ℕ) (g a : Found) → later c g ≡ a → g.end ≡ a.end
  found-end c g a e = ap (λ (h : Found). h.end) e

  found-steps : (c : ℕ) (g a : Found) → later c g ≡ a → c + g.steps ≡ a.steps
  found-steps c g a e = ap (λ (h : Found). h.steps) e

  ends-more : (n m : ℕ) (ts : List Thread) (a b : Found) → m ≤ n → Ends m ts a → a.end ≡ b.end → a.steps ≤ b.steps → Ends n ts b
  ends-more n m ts a b le e same less = record {
    found = e.found;
    searches = search_more program text m n le d ts e.found e.searches;
    end = e.end ∙ same;
    few = let few = e.few in omega (arith, few, less);
  }

  nothing-fore : (w c : ℕ) (us ws : List Thread) → Steps w c us ws → Nothing us → Nothing ws
  nothing-fore w c us ws steps h =
      let fo = steps.fore h.turns h.found h.searches in
      record { turns = fo.turns; found = fo.found; searches = fo.searches; none = found-end c fo.found h.found fo.is ∙ h.none }

  nothing-row : (ts : List Thread) → Nothing ts → Nothing (ts ++ [])
  nothing-row ts h = subst (λ ts. Nothing ts) (sym (append-nil ts)) h

  nothing-unrow : (ts : List Thread) → Nothing (ts ++ []) → Nothing ts
  nothing-unrow ts h = subst (λ ts. Nothing ts) (append-nil ts) h

  back-ends : (w c n m : ℕ) (us ws : List Thread) → Steps w c us ws → n ≡ m + 1 → w ≤ n → (a1 a : Found) → later c a1 ≡ a → Ends m ws a1 → Ends n us a
  back-ends w c n m us ws steps less enough a1 a is ends =
      let fewer = ends.few in
      let sum = found-steps c a1 a is in
      record {
        found = later c ends.found;
        searches = search_more program text (suc m) n (omega (arith, less)) d us (later c ends.found) (steps.back m ends.found (omega (arith, less, enough)) ends.searches);
        end = ends.end ∙ found-end c a1 a is;
        few = omega (arith, fewer, sum);
      }

-- ---- Threads that differ in groups that no instruction reads

differ-itself : (s : State) → Differ s s
differ-itself s = record { groups = s.groups; starts = s.starts; is = refl; as_many_groups = refl; as_many_starts = refl }

thread-itself : (t : Thread) → AlikeThread Differ t t
thread-itself (running s) = differ-itself s
thread-itself (waiting s) = differ-itself s

threads-themselves : (ts : List Thread) → AlikeThreads Differ ts ts
threads-themselves [] = tt
threads-themselves (t ∷ ts) = (thread-itself t, threads-themselves ts)

module _ (changes : Bool) (program : Program) (text : Text) (d : Direction) (unread : changes ≡ true → HasNoBackreference program) where
  record Likes (ts us : List Thread) : Type 0 where
    same : changes ≡ false → ts ≡ us
    alike : AlikeThreads Differ ts us

  -- The other search takes as many steps and has an end if this one has.
  record Also (n : ℕ) (us : List Thread) (f : Found) : Type 0 where
    found : Found
    searches : search program text n d us ≡ Some found
    steps : found.steps ≡ f.steps
    none : f.end ≡ None → found.end ≡ None

  end-none : (a b : Option State) → AlikeEnds Differ a b → a ≡ None → b ≡ None
  end-none None None h e = refl
  end-none None (Some s) h e = absurd h
  end-none (Some s) b h e = cc

  also : (n : ℕ) (ts us : List Thread) → Likes ts us → (f : Found) → search program text n d ts ≡ Some f → Also n us f
  also n ts us likes f e = by changes refl
    where
      answered : (r o : Option Found) → AlikeAnswers Differ r o → r ≡ Some f → search program text n d us ≡ o → Also n us f
      answered None o h e q = cc
      answered (Some g) None h e q = absurd h
      answered (Some g) (Some found) h e q =
          let same : g ≡ f = cc in
          record {
            found = found;
            searches = q;
            steps = sym h.steps ∙ ap (λ (f : Found). f.steps) same;
            none = λ none. end-none g.end found.end h.ends (ap (λ (f : Found). f.end) same ∙ none);
          }

      by : (b : Bool) → changes ≡ b → Also n us f
      by false is = record { found = f; searches = ap (search program text n d) (sym (likes.same is)) ∙ e; steps = refl; none = λ none. none }
      by true is = answered (search program text n d ts) (search program text n d us) (unread-alike program text (unread is) n d ts us likes.alike) e refl

  likes-before : (ts us vs : List Thread) → Likes ts us → Likes (ts ++ vs) (us ++ vs)
  likes-before ts us vs h = record { same = λ is. ap (λ ts. ts ++ vs) (h.same is); alike = alike-append Differ ts us vs vs h.alike (threads-themselves vs) }

  likes-nothing : (ts us : List Thread) → Likes ts us → Nothing program text d ts → Nothing program text d us
  likes-nothing ts us likes h =
      let a = also h.turns ts us likes h.found h.searches in
      record { turns = h.turns; found = a.found; searches = a.searches; none = a.none h.none }

-- ---- Where a thread may be in the body

set-none : {X : Type 0} (xs : List X) (i : ℕ) (x : X) → length xs ≤ i → slice_get (slice_set xs i x) i ≡ None
set-none [] i x le = refl
set-none (y ∷ xs) zero x le = absurd (omega (arith, le))
set-none (y ∷ xs) (suc i) x le = set-none xs i x (omega (arith, le))

ends-later : (ip to : ℕ) (insn : Insn) → ip ≤ to → LookaroundInsnContinuesBy ip insn → LookaroundInsnContinuesBy to insn
ends-later ip to (Lookahead negate a b continuation) le h = omega (arith, le, h)
ends-later ip to (Lookbehind negate a b continuation) le h = omega (arith, le, h)
ends-later ip to _ le h = tt

lookarounds-on : (program : Program) (from stop ip to : ℕ) → LookaroundsEndBy program from ip → MayContinue program stop ip to → LookaroundsEndBy program from to
lookarounds-on program from stop ip to h m i after before insn e = by (cases_lt i ip)
  where
    by : (i < ip) ⊎ (ip ≤ i) → LookaroundInsnContinuesBy to insn
    by (inl less) = ends-later ip to insn (let later = m.later in omega (arith, later)) (h i after less insn e)
    by (inr le) = m.whole i le before insn e

module _ (program : Program) (text : Text) (is : HasRisingPlaceOffsets text) (reads : ReadsAsBytes program text) (d : Direction) (begin stop : ℕ) (f : LoopFields) (behind : begin < stop)
    (enters : slice_get program.insns begin ≡ Some (EnterLoop f)) (goes_back : slice_get program.insns stop ≡ Some (LoopAgain begin))
    (changes : Bool) (plain : IsClosedForwardBody changes program (begin + 1) stop) (unread : changes ≡ true → HasNoBackreference program) (fits : f.min_iters ≤ f.max_iters) where
  abbrev Left : ℕ → ℕ
  Left at = units_left_in_direction (units text) d at

  -- ---- One iteration

  module _ (x : State) where
    abbrev st : (k : ℕ) (J : Slots) (ip pos : ℕ) → List Note → State
    st k J ip pos notes = state_at x f.loop_id k J ip pos notes

    abbrev Ts : (k : ℕ) (J : Slots) → List Spot → List Thread
    Ts k J T = map (thread_at x f.loop_id k J) T

    abbrev Still : List Note → Type 0
    Still notes = Quiet changes program text is reads x f.loop_id notes

    -- An iteration begins in this state, with the groups `J` at the offset `pos`.
    abbrev put_slots : Slots → (pos : ℕ) → State
    put_slots J pos = record x { pos = pos; groups = J.groups; starts = J.starts }

    abbrev R : (k : ℕ) (J : Slots) (pos : ℕ) → Thread
    R k J pos = running (again f begin k (put_slots J pos))

    abbrev J0 : Slots
    J0 = slots_of x

    record Fit (J : Slots) : Type 0 where
      many : AsMany J J0
      same : changes ≡ false → J ≡ J0

    fit-first : Fit J0
    fit-first = record { many = record { groups = refl; starts = refl }; same = λ q. refl }

    fit-applied : (notes : List Note) → Still notes → (J : Slots) → Fit J → Fit (applied notes J)
    fit-applied notes still J fit = record { many = as-many notes J J0 fit.many; same = λ q. ap (λ notes. applied notes J) (still q) ∙ fit.same q }

    -- ---- Groups do not affect the search

    state-differs : (k : ℕ) (J K : Slots) → Fit J → Fit K → (ip pos : ℕ) (notes : List Note) → Differ (st k J ip pos notes) (st k K ip pos notes)
    state-differs k J K j h ip pos notes = record {
      groups = (applied notes K).groups;
      starts = (applied notes K).starts;
      is = refl;
      as_many_groups = (as-many notes J J0 j.many).groups ∙ sym (as-many notes K J0 h.many).groups;
      as_many_starts = (as-many notes J J0 j.many).starts ∙ sym (as-many notes K J0 h.many).starts;
    }

    row-differs : (k : ℕ) (J K : Slots) → Fit J → Fit K → (T : List Spot) → AlikeThreads Differ (Ts k J T) (Ts k K T)
    row-differs k J K j h [] = tt
    row-differs k J K j h (runs ip pos notes ∷ T) = (state-differs k J K j h ip pos notes, row-differs k J K j h T)
    row-differs k J K j h (waits ip pos notes ∷ T) = (state-differs k J K j h ip pos notes, row-differs k J K j h T)

    slots-same : (J K : Slots) → Fit J → Fit K → changes ≡ false → J ≡ K
    slots-same J K j h q = j.same q ∙ sym (h.same q)

    abbrev Like : (ts us : List Thread) → Type 0
    Like ts us = Likes changes program text d unread ts us

    row-likes : (k : ℕ) (J K : Slots) → Fit J → Fit K → (T : List Spot) → Like (Ts k J T) (Ts k K T)
    row-likes k J K j h T = record { same = λ q. ap (λ J. Ts k J T) (slots-same J K j h q); alike = row-differs k J K j h T }

    again-likes : (k : ℕ) (J K : Slots) → Fit J → Fit K → (pos : ℕ) → Like (R k J pos ∷ []) (R k K pos ∷ [])
    again-likes k J K j h pos = record {
      same = λ q. ap (λ J. R k J pos ∷ []) (slots-same J K j h q);
      alike = (
        record {
          groups = K.groups;
          starts = K.starts;
          is = refl;
          as_many_groups = j.many.groups ∙ sym h.many.groups;
          as_many_starts = j.many.starts ∙ sym h.many.starts;
        },
        tt,
      );
    }

    -- ---- The end of the body

    begins-next : (k : ℕ) (J : Slots) (q : ℕ) (notes : List Note) → f.loop_id < length x.loops → k + 1 < f.min_iters
        → act program text d (st k J stop q notes) ≡ goes (R (k + 1) (applied notes J) q ∷ [])
    begins-next k J q notes inside less =
        let e : LoopData = record { iters = k; entry = x.pos } in
        let s = st k J stop q notes in
        again-counts program text d s f begin e goes_back enters (slice_get-set_same x.loops f.loop_id e inside) (omega (arith, less, fits)) (λ same. omega (arith, less))
        ∙ head-again f begin (k + 1) s (let l = length-set x.loops f.loop_id e in omega (arith, l, inside)) (omega (arith, less, fits)) less
        ∙ ap (λ ls. goes (running (record (put_slots (applied notes J) q) { ip = begin + 1; loops = ls }) ∷ [])) (set-twice x.loops f.loop_id e (record { iters = k + 1; entry = q }))

    end-sticks : (k : ℕ) (J : Slots) (q : ℕ) (notes : List Note) → length x.loops ≤ f.loop_id → act program text d (st k J stop q notes) ≡ stuck
    end-sticks k J q notes outside =
        let s = st k J stop q notes in
        ap (λ i. act_on program text d i s) goes_back ∙ ap (λ i. loop_again_effect i begin s) enters
        ∙ ap (λ o. with_some o (λ e. effect_at_iteration_end f begin e s)) (set-none x.loops f.loop_id (record { iters = k; entry = x.pos }) outside)

    -- ---- The first thread

    abbrev Fits : Spot → Type 0
    Fits t = (begin + 1 ≤ spot_ip t) × (spot_ip t ≤ stop) × Onward text d x.pos (spot_pos t) × Still (spot_notes t) × LookaroundsEndBy program (begin + 1) (spot_ip t)

    fits-on : (ip pos : ℕ) (notes : List Note) → Fits (runs ip pos notes) → (t : Spot) → Reached changes program text is reads x f.loop_id d stop ip pos t → Fits t
    fits-on ip pos notes g t h =
        let low = g.0 in let later = h.0.later in
        (omega (arith, low, later), h.0.within, onward-on text d x.pos pos (spot_pos t) g.2 h.1, h.2, lookarounds-on program (begin + 1) stop ip (spot_ip t) g.4 h.0)

    abbrev Goes : (w c : ℕ) (t : Spot) (T S : List Spot) → Type 0
    Goes w c t T S = (k : ℕ) (J : Slots) → Fit J → (vs : List Thread) → Steps program text d w c (Ts k J (t ∷ T) ++ vs) (Ts k J S ++ vs)

    -- The body ends here, and the next iteration begins.
    record Ended (t : Spot) (T : List Spot) : Type 0 where
      q : ℕ
      notes : List Note
      onward : Onward text d x.pos q
      still : Still notes
      same : (k : ℕ) (J K : Slots) → applied notes J ≡ applied notes K → thread_at x f.loop_id k J t ≡ thread_at x f.loop_id k K t
      alone : (k : ℕ) (J : Slots) → Fit J → k + 1 < f.min_iters → Steps program text d 0 1 (thread_at x f.loop_id k J t ∷ []) (R (k + 1) (applied notes J) q ∷ [])
      next : (k : ℕ) (J : Slots) → Fit J → (vs : List Thread) → k + 1 < f.min_iters → Steps program text d 0 1 (Ts k J (t ∷ T) ++ vs) (R (k + 1) (applied notes J) q ∷ (Ts k J T ++ vs))

    data Kind (n : ℕ) (t : Spot) (T : List Spot) : Type 0 where
      dead : ((k : ℕ) (J : Slots) → Fit J → (vs : List Thread) (a : Found) → search program text n d (Ts k J (t ∷ T) ++ vs) ≡ Some a → ⊥) → Kind n t T
      inside : (w c : ℕ) → w ≤ n → (S : List Spot) → Each Fits S → Goes w c t T S → Kind n t T
      at_end : Ended t T → Kind n t T

    row-joined : (k : ℕ) (J : Slots) (S T : List Spot) (vs : List Thread) → (Ts k J S ++ (Ts k J T ++ vs)) ≡ (Ts k J (S ++ T) ++ vs)
    row-joined k J S T vs = sym (append_assoc (Ts k J S) (Ts k J T) vs) ∙ ap (λ ts. ts ++ vs) (sym (map-joined (thread_at x f.loop_id k J) S T))

    module _ (n ip pos : ℕ) (notes : List Note) (T : List Spot) (g : Fits (runs ip pos notes)) (h : Each Fits T) where
      joined : (S : List Spot) → Each (Reached changes program text is reads x f.loop_id d stop ip pos) S → Each Fits (S ++ T)
      joined S good = Each-joined Fits S T (Each-on _ Fits (fits-on ip pos notes g) S good) h

      module _ (i : Direction) (negate : Bool) (to : ℕ)
          (acts : turn.Always changes program text is reads x f.loop_id (λ k J. act program text d (st k J ip pos notes) ≡ asks i negate (st k J (ip + 1) pos notes) (st k J to pos notes))) (on : MayContinue program stop ip to) where
        after-fits : (negate : Bool) (o : Option Spot) → ((t : Spot) → o ≡ Some t → Still (spot_notes t)) → Each Fits (spots_after negate to pos notes o)
        after-fits false None quiet = tt
        after-fits false (Some t) quiet = (fits-on ip pos notes g (runs to pos (spot_notes t)) (on, inl refl, quiet t refl), tt)
        after-fits true None quiet = (fits-on ip pos notes g (runs to pos notes) (on, inl refl, g.3), tt)
        after-fits true (Some t) quiet = tt

        looked-kind : (u : Uniform changes program text is reads x f.loop_id n i (runs (ip + 1) pos notes ∷ [])) (o : Option Answer) → u.answer ≡ o → QuietEnd changes program text is reads x f.loop_id o → Kind (suc n) (runs ip pos notes) T
        looked-kind u None e quiet =
            dead (λ k J fit vs a s. asks-never program text d i negate (st k J ip pos notes) (st k J (ip + 1) pos notes) (st k J to pos notes) (acts k J fit.many) (Ts k J T ++ vs) n
            (u.same k J fit.many ∙ ap (answer_of changes program text is reads x f.loop_id k J) e) a s)
        looked-kind u (Some b) e quiet =
            inside (n + 1) (1 + b.steps) (omega arith) (spots_after negate to pos notes b.end ++ T) (Each-joined Fits (spots_after negate to pos notes b.end) T (after-fits negate b.end quiet) h)
            (λ k J fit vs.
            subst (λ ts. Steps program text d (n + 1) (1 + b.steps) (Ts k J (runs ip pos notes ∷ T) ++ vs) ts)
            (ap (λ ts. ts ++ (Ts k J T ++ vs)) (after-spots changes program text is reads x f.loop_id k J negate to pos notes b.end) ∙ row-joined k J (spots_after negate to pos notes b.end) T vs)
            (steps-asks program text d i negate (st k J ip pos notes) (st k J (ip + 1) pos notes) (st k J to pos notes) (acts k J fit.many) (Ts k J T ++ vs) n (found_of changes program text is reads x f.loop_id k J b)
            (u.same k J fit.many ∙ ap (answer_of changes program text is reads x f.loop_id k J) e)))

      body-kind : Turned changes program text is reads x f.loop_id d (begin + 1) stop ip pos notes → Kind (suc n) (runs ip pos notes) T
      body-kind (sticks stays) = dead (λ k J fit vs a e. never-stuck program text d (suc n) (st k J ip pos notes) (Ts k J T ++ vs) a (stays k J fit.many) e)
      body-kind (turn.ended out acts) = absurd (out g.4)
      body-kind (moves S acts good) =
          inside 0 1 (omega arith) (S ++ T) (joined S good)
          (λ k J fit vs. subst (λ ts. Steps program text d 0 1 (Ts k J (runs ip pos notes ∷ T) ++ vs) ts) (row-joined k J S T vs)
          (steps-goes program text d (st k J ip pos notes) (Ts k J S) (Ts k J T ++ vs) (acts k J fit.many)))
      body-kind (scanned c S acts good) =
          inside 0 (1 + c) (omega arith) (S ++ T) (joined S good)
          (λ k J fit vs. subst (λ ts. Steps program text d 0 (1 + c) (Ts k J (runs ip pos notes ∷ T) ++ vs) ts) (row-joined k J S T vs)
          (steps-scans program text d (st k J ip pos notes) c (Ts k J S) (Ts k J T ++ vs) (acts k J fit.many)))
      body-kind (turn.asked i negate to acts contents on) =
          let low = g.0 in let room = contents.0 in
          let u = uniform changes program text is reads x f.loop_id (begin + 1) stop plain n ip to low on.within contents.1 i (runs (ip + 1) pos notes ∷ []) ((omega arith, room, g.3), tt) in
          looked-kind i negate to acts on u u.answer refl u.quiet

    end-kind : (n pos : ℕ) (notes : List Note) (T : List Spot) → Onward text d x.pos pos → Still notes → (f.loop_id < length x.loops) ⊎ (length x.loops ≤ f.loop_id) → Kind n (runs stop pos notes) T
    end-kind n pos notes T on still (inl less) = at_end (record {
      q = pos;
      notes = notes;
      onward = on;
      still = still;
      same = λ k J K e. ap (λ (L : Slots). running (record x { ip = stop; pos = pos; groups = L.groups; starts = L.starts; loops = slice_set x.loops f.loop_id (record { iters = k; entry = x.pos }) })) e;
      alone = λ k J fit few. steps-goes program text d (st k J stop pos notes) (R (k + 1) (applied notes J) pos ∷ []) [] (begins-next k J pos notes less few);
      next = λ k J fit vs few. steps-goes program text d (st k J stop pos notes) (R (k + 1) (applied notes J) pos ∷ []) (Ts k J T ++ vs) (begins-next k J pos notes less few);
    })
    end-kind n pos notes T on still (inr le) = dead (λ k J fit vs a e. never-stuck program text d n (st k J stop pos notes) (Ts k J T ++ vs) a (end-sticks k J pos notes le) e)

    kind : (n : ℕ) (t : Spot) (T : List Spot) → Fits t → Each Fits T → Kind n t T
    kind zero t T g h = dead (λ k J fit vs a e. no-turns program text d (thread_at x f.loop_id k J t) (Ts k J T ++ vs) a e)
    kind (suc n) (waits ip pos notes) T g h =
        inside 0 1 (omega arith) (runs ip pos notes ∷ T) (g, h) (λ k J fit vs. steps-waits program text d (st k J ip pos notes) (Ts k J T ++ vs))
    kind (suc n) (runs ip pos notes) T g h = by (cases_lt ip stop)
      where
        by : (ip < stop) ⊎ (stop ≤ ip) → Kind (suc n) (runs ip pos notes) T
        by (inl less) =
            body-kind n ip pos notes T g h
            (turned-at changes program text is reads x f.loop_id d (begin + 1) stop ip pos notes g.3 (slice_get program.insns ip) refl (λ insn e. plain ip g.0 less insn e))
        by (inr le) =
            let before = g.1 in
            let same : stop ≡ ip = omega (arith, le, before) in
            subst (λ ip. Kind (suc n) (runs ip pos notes) T) same (end-kind (suc n) pos notes T g.2 g.3 (cases_lt f.loop_id (length x.loops)))

    first-fits : Each Fits (runs (begin + 1) x.pos [] ∷ [])
    first-fits = ((omega arith, omega (arith, behind), inl refl, (λ q. refl), (λ i after before insn e. absurd (omega (arith, after, before)))), tt)

  -- ---- An iteration finds nothing if a later one finds nothing

  abbrev Dead : (k : ℕ) → State → Type 0
  Dead k y = Nothing program text d (running (again f begin (k + 1) y) ∷ []) → (n : ℕ) (vs : List Thread) (a : Found)
      → search program text n d (running (again f begin k y) ∷ vs) ≡ Some a → Ends program text d n vs a

  module _ (k : ℕ) (x : State) (few : k + 1 + Left x.pos + 1 ≤ f.min_iters) (inner : (y : State) → Left y.pos + 1 ≤ Left x.pos → Dead (k + 1) y)
      (none : Nothing program text d (running (again f begin (k + 1) x) ∷ [])) where
    abbrev Dropped : ℕ → Type 0
    Dropped u = (n : ℕ) → n ≤ u → (T : List Spot) → Each (Fits x) T → Nothing program text d (Ts x (k + 1) (J0 x) T) → (vs : List Thread) (a : Found)
        → search program text n d (Ts x k (J0 x) T ++ vs) ≡ Some a → Ends program text d n vs a

    module _ (u : ℕ) (drops : Dropped u) (n : ℕ) (le : n ≤ suc u) (t : Spot) (T : List Spot) (h : Each (Fits x) T) (nothing : Nothing program text d (Ts x (k + 1) (J0 x) (t ∷ T)))
        (vs : List Thread) (a : Found) (e : search program text n d (Ts x k (J0 x) (t ∷ T) ++ vs) ≡ Some a) where
      tail : Nothing program text d (Ts x (k + 1) (J0 x) T)
      tail = tail-nothing program text d (thread_at x f.loop_id (k + 1) (J0 x) t) (Ts x (k + 1) (J0 x) T) nothing

      -- If the rest finds nothing, the search ends as that of the other threads.
      rest : (m c : ℕ) (g : Found) → m + 1 ≤ n → (T : List Spot) → Each (Fits x) T → Nothing program text d (Ts x (k + 1) (J0 x) T)
          → search program text m d (Ts x k (J0 x) T ++ vs) ≡ Some g → later c g ≡ a → Ends program text d n vs a
      rest m c g less T h nothing s is =
          let sum = found-steps program text d c g a is in
          ends-more program text d n m vs g a (omega (arith, less)) (drops m (omega (arith, less, le)) T h nothing vs g s) (found-end program text d c g a is) (omega (arith, sum))

      module _ (end : Ended x t T) where
        abbrev y : State
        y = put_slots x (applied end.notes (J0 x)) end.q

        fo : Fore program text d 1 n (running (again f begin (k + 1) y) ∷ (Ts x k (J0 x) T ++ vs)) a
        fo = (end.next k (J0 x) (fit-first x) vs (omega (arith, few))).fore n a e

        passed-rest : Ends program text d fo.turns (Ts x k (J0 x) T ++ vs) fo.found → Ends program text d n vs a
        passed-rest ends =
            let less = fo.less in let ends_few = ends.few in
            let sum = found-steps program text d 1 fo.found a fo.is in
            ends-more program text d n fo.turns vs ends.found a (omega (arith, less)) (drops fo.turns (omega (arith, less, le)) T h tail vs ends.found ends.searches)
            (ends.end ∙ found-end program text d 1 fo.found a fo.is) (omega (arith, sum, ends_few))

        by-end : Onward text d x.pos end.q → Ends program text d n vs a
        by-end (inl same) = passed-rest (by (parts program text d (Ts x k (J0 x) T ++ vs) fo.turns (running (again f begin (k + 1) y) ∷ []) fo.found fo.searches))
          where
            never : Nothing program text d (running (again f begin (k + 1) y) ∷ [])
            never = likes-nothing changes program text d unread (R x (k + 1) (J0 x) end.q ∷ []) (R x (k + 1) (applied end.notes (J0 x)) end.q ∷ [])
                (again-likes x (k + 1) (J0 x) (applied end.notes (J0 x)) (fit-first x) (fit-applied x end.notes end.still (J0 x) (fit-first x)) end.q)
                (subst (λ q. Nothing program text d (R x (k + 1) (J0 x) q ∷ [])) same none)

            by : Parts program text d fo.turns (λ ys. search program text fo.turns d (running (again f begin (k + 1) y) ∷ ys)) (Ts x k (J0 x) T ++ vs) fo.found → Ends program text d fo.turns (Ts x k (J0 x) T ++ vs) fo.found
            by (ended some all) = absurd (never-both program text d fo.turns (running (again f begin (k + 1) y) ∷ []) fo.found (all []) some never)
            by (passed m c g less at sum on) =
                let steps = found-steps program text d c g fo.found sum in
                ends-more program text d fo.turns m (Ts x k (J0 x) T ++ vs) g fo.found less (record { found = g; searches = at; end = refl; few = omega arith }) (found-end program text d c g fo.found sum) (omega (arith, steps))
        by-end (inr nearer) =
            let further = nothing-fore program text d 0 1 (Ts x (k + 1) (J0 x) (t ∷ T) ++ []) (R x (k + 1 + 1) (applied end.notes (J0 x)) end.q ∷ (Ts x (k + 1) (J0 x) T ++ []))
            (end.next (k + 1) (J0 x) (fit-first x) [] (omega (arith, few, nearer))) (nothing-row program text d (Ts x (k + 1) (J0 x) (t ∷ T)) nothing) in
            passed-rest (inner y nearer (first-nothing program text d (R x (k + 1 + 1) (applied end.notes (J0 x)) end.q) (Ts x (k + 1) (J0 x) T ++ []) further) fo.turns (Ts x k (J0 x) T ++ vs) fo.found fo.searches)

      dropped-by : Kind x n t T → Ends program text d n vs a
      dropped-by (dead never) = absurd (never k (J0 x) (fit-first x) vs a e)
      dropped-by (inside w c enough S good steps) =
          let fo = (steps k (J0 x) (fit-first x) vs).fore n a e in
          let less = fo.less in
          let nothing_left = nothing-unrow program text d (Ts x (k + 1) (J0 x) S)
          (nothing-fore program text d w c (Ts x (k + 1) (J0 x) (t ∷ T) ++ []) (Ts x (k + 1) (J0 x) S ++ []) (steps (k + 1) (J0 x) (fit-first x) []) (nothing-row program text d (Ts x (k + 1) (J0 x) (t ∷ T)) nothing)) in
          rest fo.turns c fo.found (omega (arith, less)) S good nothing_left fo.searches fo.is
      dropped-by (at_end end) = by-end end end.onward

    dropped : (u : ℕ) → Dropped u
    dropped u n le [] h nothing vs a e = record { found = a; searches = e; end = refl; few = omega arith }
    dropped zero n le (t ∷ T) h nothing vs a e = absurd (no-turns program text d (thread_at x f.loop_id k (J0 x) t) (Ts x k (J0 x) T ++ vs) a (subst (λ n. search program text n d (Ts x k (J0 x) (t ∷ T) ++ vs) ≡ Some a) (omega (arith, le)) e))
    dropped (suc u) n le (t ∷ T) h nothing vs a e =
        dropped-by u (λ n le T h nothing vs a e. dropped u n le T h nothing vs a e) n le t T h.1 nothing vs a e (kind x n t T h.0 h.1)

  dead-left : (n k : ℕ) (x : State) → Left x.pos ≤ n → k + 1 + Left x.pos + 1 ≤ f.min_iters → Dead k x
  dead-left zero k x le few none n vs a e =
      dropped k x few (λ y nearer. absurd (omega (arith, nearer, le))) none n n (omega arith) (runs (begin + 1) x.pos [] ∷ []) (first-fits x) none vs a e
  dead-left (suc m) k x le few none n vs a e =
      dropped k x few (λ y nearer. dead-left m (k + 1) y (omega (arith, nearer, le)) (omega (arith, nearer, few))) none n n (omega arith) (runs (begin + 1) x.pos [] ∷ []) (first-fits x) none vs a e

  dead-all : (k : ℕ) (x : State) → k + 1 + Left x.pos + 1 ≤ f.min_iters → Dead k x
  dead-all k x few = dead-left (Left x.pos) k x (omega arith) few

  -- If the later iteration finds nothing and the search returns, the earlier one finds nothing.
  nothing-before : (k : ℕ) (y : State) → Dead k y → Nothing program text d (running (again f begin (k + 1) y) ∷ []) → (n : ℕ) (vs : List Thread) (a : Found)
      → search program text n d (running (again f begin k y) ∷ vs) ≡ Some a → Nothing program text d (running (again f begin k y) ∷ [])
  nothing-before k y is_dead none n vs a e = by (parts program text d vs n (running (again f begin k y) ∷ []) a e)
    where
      by : Parts program text d n (λ ys. search program text n d (running (again f begin k y) ∷ ys)) vs a → Nothing program text d (running (again f begin k y) ∷ [])
      by (ended some all) =
          let z = is_dead none n [] a (all []) in
          let empty = search_same program text n n d [] z.found result_without_threads z.searches (no-threads program text d n) in
          absurd (is-none program text d a.end (sym z.end ∙ ap (λ (f : Found). f.end) empty) some)
      by (passed m c g le at sum on) = nothing-itself program text d n c (running (again f begin k y) ∷ []) (on [] result_without_threads (no-threads program text d m))

  -- ---- Two iterations compared

  module _ (k : ℕ) (x : State) (few : k + 1 + Left x.pos + 2 ≤ f.min_iters)
      (inner : (y : State) → Left y.pos + 1 ≤ Left x.pos → Simulates program text false d 0 (running (again f begin (k + 1 + 1) y) ∷ []) (running (again f begin (k + 1) y) ∷ [])) where
    -- The remaining threads of the later iteration find what a whole later iteration finds.
    abbrev Remains : List Spot → Type 0
    Remains T = (J : Slots) → Fit x J → (m : ℕ) (ws : List Thread) (r : Found) → search program text m d (R x (k + 1) J x.pos ∷ ws) ≡ Some r → Ends program text d m (Ts x (k + 1) J T ++ ws) r

    abbrev Replaced : ℕ → Type 0
    Replaced u = (n : ℕ) → n ≤ u → (T : List Spot) → Each (Fits x) T → Remains T → (vs : List Thread) (a : Found)
        → search program text n d (Ts x k (J0 x) T ++ vs) ≡ Some a → Ends program text d n (Ts x (k + 1) (J0 x) T ++ vs) a

    remains-fore : (w c : ℕ) (t : Spot) (T S : List Spot) → Goes x w c t T S → Remains (t ∷ T) → Remains S
    remains-fore w c t T S steps remains J fit m ws r e =
        let h = remains J fit m ws r e in
        let fo = (steps (k + 1) J fit ws).fore m h.found h.searches in
        let less = fo.less in
        let sum = found-steps program text d c fo.found h.found fo.is in
        let fewer = h.few in
        record {
          found = fo.found;
          searches = search_more program text fo.turns m (omega (arith, less)) d (Ts x (k + 1) J S ++ ws) fo.found fo.searches;
          end = found-end program text d c fo.found h.found fo.is ∙ h.end;
          few = omega (arith, sum, fewer);
        }

    module _ (u : ℕ) (replaces : Replaced u) (n : ℕ) (le : n ≤ suc u) (t : Spot) (T : List Spot) (h : Each (Fits x) T) (remains : Remains (t ∷ T)) (vs : List Thread) (a : Found)
        (e : search program text n d (Ts x k (J0 x) (t ∷ T) ++ vs) ≡ Some a) where
      abbrev Whole : Type 0
      Whole = Ends program text d n (Ts x (k + 1) (J0 x) (t ∷ T) ++ vs) a

      module _ (end : Ended x t T) where
        abbrev J1 : Slots
        J1 = applied end.notes (J0 x)

        fit : Fit x J1
        fit = fit-applied x end.notes end.still (J0 x) (fit-first x)

        twice : applied end.notes J1 ≡ J1
        twice = applied-twice end.notes (J0 x)

        -- ---- An empty iteration

        module _ (m : ℕ) (less : m + 1 ≤ n) (a1 : Found) (was : later 1 a1 ≡ a) (here : end.q ≡ x.pos) (s : search program text m d (R x (k + 1) J1 x.pos ∷ (Ts x k (J0 x) T ++ vs)) ≡ Some a1) where
          abbrev first : Thread
          first = thread_at x f.loop_id (k + 1) J1 t

          whole : Ends program text d m (Ts x (k + 1) J1 (t ∷ T) ++ (Ts x k (J0 x) T ++ vs)) a1
          whole = remains J1 fit m (Ts x k (J0 x) T ++ vs) a1 s

          finish : (b : Found) → Ends program text d m (Ts x (k + 1) (J0 x) (t ∷ T) ++ vs) b → b.end ≡ a1.end → b.steps ≤ a1.steps → Whole
          finish b ends same fewer =
              let sum = found-steps program text d 1 a1 a was in
              ends-more program text d n m (Ts x (k + 1) (J0 x) (t ∷ T) ++ vs) b a (omega (arith, less)) ends (same ∙ found-end program text d 1 a1 a was) (omega (arith, fewer, sum))

          -- If the later iteration finds nothing, its remaining threads find nothing.
          remains-nothing : Nothing program text d (R x (k + 1) J1 x.pos ∷ []) → Nothing program text d (Ts x (k + 1) J1 (t ∷ T))
          remains-nothing none =
              let z = remains J1 fit none.turns [] none.found none.searches in
              nothing-unrow program text d (Ts x (k + 1) J1 (t ∷ T)) (record { turns = none.turns; found = z.found; searches = z.searches; none = z.end ∙ none.none })

          first-goes : Steps program text d 0 1 (first ∷ []) (R x (k + 1 + 1) (applied end.notes J1) end.q ∷ [])
          first-goes = end.alone (k + 1) J1 fit (omega (arith, few))

          none-first : Nothing program text d (first ∷ []) → Nothing program text d (R x (k + 1) J1 x.pos ∷ [])
          none-first none =
              let next = nothing-fore program text d 0 1 (first ∷ []) (R x (k + 1 + 1) (applied end.notes J1) end.q ∷ []) first-goes none in
              nothing-before (k + 1) (put_slots x J1 x.pos) (dead-all (k + 1) (put_slots x J1 x.pos) (omega (arith, few)))
              (subst (λ q. Nothing program text d (R x (k + 1 + 1) J1 q ∷ [])) here (subst (λ J. Nothing program text d (R x (k + 1 + 1) J end.q ∷ [])) twice next)) m (Ts x k (J0 x) T ++ vs) a1 s

          by-first : Parts program text d m (λ ys. search program text m d (first ∷ ys)) (Ts x (k + 1) J1 T ++ (Ts x k (J0 x) T ++ vs)) whole.found
              → IsSome whole.found.end → search program text m d (Ts x (k + 1) J1 (t ∷ T) ++ []) ≡ Some whole.found → Whole
          by-first (ended some all) found alone =
              let whole_few = whole.few in
              finish whole.found (record {
                found = whole.found;
                searches = subst (λ t. search program text m d (t ∷ (Ts x (k + 1) (J0 x) T ++ vs)) ≡ Some whole.found) (end.same (k + 1) J1 (J0 x) twice) (all (Ts x (k + 1) (J0 x) T ++ vs));
                end = refl;
                few = omega arith;
              }) whole.end whole_few
          by-first (passed i c g fewer at sum on) found alone =
              let none = none-first (nothing-itself program text d m c (first ∷ []) (on [] result_without_threads (no-threads program text d i))) in
              absurd (never-both program text d m (Ts x (k + 1) J1 (t ∷ T) ++ []) whole.found alone found (nothing-row program text d (Ts x (k + 1) J1 (t ∷ T)) (remains-nothing none)))

          -- No thread from here on finds an end.
          module _ (i c : ℕ) (g : Found) (fewer : i ≤ m) (at : search program text i d (Ts x k (J0 x) T ++ vs) ≡ Some g) (sum : later c g ≡ whole.found)
              (on : (ys : List Thread) (h : Found) → search program text i d ys ≡ Some h → search program text m d (Ts x (k + 1) J1 (t ∷ T) ++ ys) ≡ Some (later c h)) where
            nothing1 : Nothing program text d (Ts x (k + 1) J1 (t ∷ T))
            nothing1 = nothing-itself program text d m c (Ts x (k + 1) J1 (t ∷ T)) (on [] result_without_threads (no-threads program text d i))

            nothing0 : Nothing program text d (Ts x (k + 1) (J0 x) (t ∷ T))
            nothing0 = likes-nothing changes program text d unread (Ts x (k + 1) J1 (t ∷ T)) (Ts x (k + 1) (J0 x) (t ∷ T)) (row-likes x (k + 1) J1 (J0 x) fit (fit-first x) (t ∷ T)) nothing1

            none-alone : Parts program text d m (λ ys. search program text m d (R x (k + 1) J1 x.pos ∷ ys)) (Ts x k (J0 x) T ++ vs) a1 → Nothing program text d (R x (k + 1) J1 x.pos ∷ [])
            none-alone (ended some all) =
                let z = remains J1 fit m [] a1 (all []) in
                absurd (never-both program text d m (Ts x (k + 1) J1 (t ∷ T) ++ []) z.found z.searches (subst (λ o. IsSome o) (sym z.end) some) (nothing-row program text d (Ts x (k + 1) J1 (t ∷ T)) nothing1))
            none-alone (passed i c g less at sum on) = nothing-itself program text d m c (R x (k + 1) J1 x.pos ∷ []) (on [] result_without_threads (no-threads program text d i))

            none : Nothing program text d (running (again f begin (k + 1) x) ∷ [])
            none = likes-nothing changes program text d unread (R x (k + 1) J1 x.pos ∷ []) (R x (k + 1) (J0 x) x.pos ∷ []) (again-likes x (k + 1) J1 (J0 x) fit (fit-first x) x.pos)
                (none-alone (parts program text d (Ts x k (J0 x) T ++ vs) m (R x (k + 1) J1 x.pos ∷ []) a1 s))

            left_over : Ends program text d i vs g
            left_over = dropped k x (omega (arith, few)) (λ y nearer. dead-all (k + 1) y (omega (arith, few, nearer))) none i i (omega arith) T h
                (tail-nothing program text d (thread_at x f.loop_id (k + 1) (J0 x) t) (Ts x (k + 1) (J0 x) T) nothing0) vs g at

            by-rest : (b : Also changes program text d unread m (Ts x (k + 1) (J0 x) (t ∷ T) ++ vs) (later c left_over.found))
                → Parts program text d m (λ ys. search program text m d (Ts x (k + 1) (J0 x) (t ∷ T) ++ ys)) vs b.found → Whole
            by-rest b (ended some all) = absurd (never-both program text d m (Ts x (k + 1) (J0 x) (t ∷ T) ++ []) b.found (all []) some (nothing-row program text d (Ts x (k + 1) (J0 x) (t ∷ T)) nothing0))
            by-rest b (passed o c2 g2 le2 at2 sum2 on2) =
                let same = search_same program text o i d vs g2 left_over.found at2 left_over.searches in
                let end = sym (found-end program text d c2 g2 b.found sum2) ∙ ap (λ (f : Found). f.end) same ∙ left_over.end ∙ found-end program text d c g whole.found sum ∙ whole.end in
                let steps = b.steps in let rest_few = left_over.few in let whole_few = whole.few in let whole_sum = found-steps program text d c g whole.found sum in
                finish b.found (record { found = b.found; searches = b.searches; end = refl; few = omega arith }) end (omega (arith, steps, rest_few, whole_few, whole_sum))

            all-nothing : Whole
            all-nothing =
                let b = also changes program text d unread m (Ts x (k + 1) J1 (t ∷ T) ++ vs) (Ts x (k + 1) (J0 x) (t ∷ T) ++ vs)
                (likes-before changes program text d unread (Ts x (k + 1) J1 (t ∷ T)) (Ts x (k + 1) (J0 x) (t ∷ T)) vs (row-likes x (k + 1) J1 (J0 x) fit (fit-first x) (t ∷ T)))
                (later c left_over.found) (on vs left_over.found left_over.searches) in
                by-rest b (parts program text d vs m (Ts x (k + 1) (J0 x) (t ∷ T)) b.found b.searches)

          empty-replaced : Whole
          empty-replaced = by (parts program text d (Ts x k (J0 x) T ++ vs) m (Ts x (k + 1) J1 (t ∷ T)) whole.found whole.searches)
            where
              by : Parts program text d m (λ ys. search program text m d (Ts x (k + 1) J1 (t ∷ T) ++ ys)) (Ts x k (J0 x) T ++ vs) whole.found → Whole
              by (ended some all) = by-first (parts program text d (Ts x (k + 1) J1 T ++ (Ts x k (J0 x) T ++ vs)) m (first ∷ []) whole.found whole.searches) some (all [])
              by (passed i c g fewer at sum on) = all-nothing i c g fewer at sum on

        -- ---- An iteration that is not empty

        module _ (m : ℕ) (less : n ≡ m + 1) (nearer : Left end.q + 1 ≤ Left x.pos) (a1 : Found) (was : later 1 a1 ≡ a) (s : search program text m d (R x (k + 1) J1 end.q ∷ (Ts x k (J0 x) T ++ vs)) ≡ Some a1) where
          abbrev next : Slots → Thread
          next J = R x (k + 1 + 1) (applied end.notes J) end.q

          steps : (J : Slots) → Fit x J → (vs : List Thread) → Steps program text d 0 1 (Ts x (k + 1) J (t ∷ T) ++ vs) (next J ∷ (Ts x (k + 1) J T ++ vs))
          steps J fit vs = end.next (k + 1) J fit vs (omega (arith, few, nearer))

          remains-behind : Nothing program text d (next (J0 x) ∷ []) → Remains T
          remains-behind nothing J fit i ws r z =
              let x1 = remains J fit i ws r z in
              let fo = (steps J fit ws).fore i x1.found x1.searches in
              let fo_less = fo.less in
              let fo_sum = found-steps program text d 1 fo.found x1.found fo.is in
              let x1_few = x1.few in
              let same = found-end program text d 1 fo.found x1.found fo.is ∙ x1.end in
              ends-more program text d i fo.turns (Ts x (k + 1) J T ++ ws) fo.found r (omega (arith, fo_less)) (parted fo.turns ws fo.found (parts program text d (Ts x (k + 1) J T ++ ws) fo.turns (next J ∷ []) fo.found fo.searches)) same (omega (arith, fo_sum, x1_few))
            where
              nothing_too : Nothing program text d (next J ∷ [])
              nothing_too = likes-nothing changes program text d unread (next (J0 x) ∷ []) (next J ∷ [])
                  (again-likes x (k + 1 + 1) (applied end.notes (J0 x)) (applied end.notes J) (fit-applied x end.notes end.still (J0 x) (fit-first x)) (fit-applied x end.notes end.still J fit) end.q) nothing

              parted : (i : ℕ) (ws : List Thread) (g : Found) → Parts program text d i (λ ys. search program text i d (next J ∷ ys)) (Ts x (k + 1) J T ++ ws) g → Ends program text d i (Ts x (k + 1) J T ++ ws) g
              parted i ws g (ended some all) = absurd (never-both program text d i (next J ∷ []) g (all []) some nothing_too)
              parted i ws g (passed o c g2 le2 at2 sum on) =
                  let steps = found-steps program text d c g2 g sum in
                  ends-more program text d i o (Ts x (k + 1) J T ++ ws) g2 g le2 (record { found = g2; searches = at2; end = refl; few = omega arith }) (found-end program text d c g2 g sum) (omega (arith, steps))

          by-next : (f1 : Found) → Parts program text d m (λ ys. search program text m d (next (J0 x) ∷ ys)) (Ts x k (J0 x) T ++ vs) f1 → Ends program text d m (next (J0 x) ∷ (Ts x (k + 1) (J0 x) T ++ vs)) f1
          by-next f1 (ended some all) = record { found = f1; searches = all (Ts x (k + 1) (J0 x) T ++ vs); end = refl; few = omega arith }
          by-next f1 (passed i c g fewer at sum on) =
              let nothing = nothing-itself program text d m c (next (J0 x) ∷ []) (on [] result_without_threads (no-threads program text d i)) in
              let rest = replaces i (omega (arith, fewer, less, le)) T h (remains-behind nothing) vs g at in
              let rest_few = rest.few in
              let both = found-steps program text d c g f1 sum in
              record { found = later c rest.found; searches = on (Ts x (k + 1) (J0 x) T ++ vs) rest.found rest.searches; end = rest.end ∙ found-end program text d c g f1 sum; few = omega (arith, rest_few, both) }

          full-replaced : Whole
          full-replaced =
              let w = (inner (put_slots x J1 end.q) nearer).within m (Ts x k (J0 x) T ++ vs) a1 s in
              let w_few = w.few in
              let ends = by-next w.found (parts program text d (Ts x k (J0 x) T ++ vs) m (next (J0 x) ∷ []) w.found w.searches) in
              back-ends program text d 0 1 n m (Ts x (k + 1) (J0 x) (t ∷ T) ++ vs) (next (J0 x) ∷ (Ts x (k + 1) (J0 x) T ++ vs)) (steps (J0 x) (fit-first x) vs) less (omega arith) a1 a was
              (ends-more program text d m m (next (J0 x) ∷ (Ts x (k + 1) (J0 x) T ++ vs)) w.found a1 (omega arith) ends w.end (omega (arith, w_few)))

        end-replaced : Whole
        end-replaced = by end.onward
          where
            fo : Fore program text d 1 n (R x (k + 1) J1 end.q ∷ (Ts x k (J0 x) T ++ vs)) a
            fo = (end.next k (J0 x) (fit-first x) vs (omega (arith, few))).fore n a e

            by : Onward text d x.pos end.q → Whole
            by (inl same) =
                empty-replaced fo.turns (let less = fo.less in omega (arith, less)) fo.found fo.is (sym same)
                (subst (λ q. search program text fo.turns d (R x (k + 1) J1 q ∷ (Ts x k (J0 x) T ++ vs)) ≡ Some fo.found) (sym same) fo.searches)
            by (inr nearer) = full-replaced fo.turns fo.less nearer fo.found fo.is fo.searches

      replaced-by : Kind x n t T → Whole
      replaced-by (dead never) = absurd (never k (J0 x) (fit-first x) vs a e)
      replaced-by (inside w c enough S good steps) =
          let fo = (steps k (J0 x) (fit-first x) vs).fore n a e in
          let less = fo.less in
          back-ends program text d w c n fo.turns (Ts x (k + 1) (J0 x) (t ∷ T) ++ vs) (Ts x (k + 1) (J0 x) S ++ vs) (steps (k + 1) (J0 x) (fit-first x) vs) less enough fo.found a fo.is
          (replaces fo.turns (omega (arith, less, le)) S good (remains-fore w c t T S steps remains) vs fo.found fo.searches)
      replaced-by (at_end end) = end-replaced end

    replaced : (u : ℕ) → Replaced u
    replaced u n le [] h remains vs a e = record { found = a; searches = e; end = refl; few = omega arith }
    replaced zero n le (t ∷ T) h remains vs a e = absurd (no-turns program text d (thread_at x f.loop_id k (J0 x) t) (Ts x k (J0 x) T ++ vs) a (subst (λ n. search program text n d (Ts x k (J0 x) (t ∷ T) ++ vs) ≡ Some a) (omega (arith, le)) e))
    replaced (suc u) n le (t ∷ T) h remains vs a e =
        replaced-by u (λ n le T h remains vs a e. replaced u n le T h remains vs a e) n le t T h.1 remains vs a e (kind x n t T h.0 h.1)

    next-will-do : Simulates program text false d 0 (running (again f begin (k + 1) x) ∷ []) (running (again f begin k x) ∷ [])
    next-will-do = record {
      within = λ turns vs a e.
          let r = replaced turns turns (omega arith) (runs (begin + 1) x.pos [] ∷ []) (first-fits x)
          (λ J fit m ws r e. record { found = r; searches = e; end = refl; few = omega arith }) vs a e in
          record { found = r.found; searches = r.searches; end = r.end; few = let few = r.few in omega (arith, few); counted = λ x. cc };
    }

  -- ---- All surplus iterations

  by-left : (n k : ℕ) (x : State) → Left x.pos ≤ n → k + 1 + Left x.pos + 2 ≤ f.min_iters
      → Simulates program text false d 0 (running (again f begin (k + 1) x) ∷ []) (running (again f begin k x) ∷ [])
  by-left zero k x le few = next-will-do k x few (λ y nearer. absurd (omega (arith, nearer, le)))
  by-left (suc n) k x le few = next-will-do k x few (λ y nearer. by-left n (k + 1) y (omega (arith, nearer, le)) (omega (arith, nearer, few)))

  by-number : (i k to : ℕ) (x : State) → k + i ≡ to → to + Left x.pos + 2 ≤ f.min_iters
      → Simulates program text false d 0 (running (again f begin to x) ∷ []) (running (again f begin k x) ∷ [])
  by-number zero k to x at few =
      let same : to ≡ k = omega (arith, at) in
      subst (λ k. Simulates program text false d 0 (running (again f begin to x) ∷ []) (running (again f begin k x) ∷ [])) same (simulates-same program text false d (running (again f begin to x) ∷ []))
  by-number (suc i) k to x at few =
      simulates-then program text false d 0 0 (running (again f begin k x) ∷ []) (running (again f begin (k + 1) x) ∷ []) (running (again f begin to x) ∷ [])
      (by-left (Left x.pos) k x (omega arith) (omega (arith, at, few))) (by-number i (k + 1) to x (omega (arith, at)) few)

pub surplus-skipped : LaterIterationReplacesSurplus
surplus-skipped program text is reads d begin f body fits k to s le few =
    by-number program text is reads d begin body.stop f body.behind body.enters body.goes_back body.body.changes body.body.plain body.body.unread fits (to - k) k to s (omega (arith, le)) few
