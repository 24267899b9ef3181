-- A thread finds nothing if, for each `n`, it finds nothing in searches of fewer than `n` steps.
use Rattle.std.proofs.Common.{◌≡◌, ◌<◌, ℕ, suc, ◌+◌, map, List, [], ◌∷◌, ◌++◌, Option, Some, None, Bool, true, false, refl, ap, ◌∙◌, sym, arith, length, slice_set}
use Rattle.std.specs.Prelude.{if◌then◌else◌, nat_lt, nat_le}
use Rattle.regex_meaning.specs.Text.{Text, Direction}
use Rattle.regex_meaning.specs.CompilationRelation.{Program, LoopFields}
use Rattle.regex_meaning.proofs.EachElementLemmas.{Each, Each-append, Each-when}
use Rattle.regress_machine.specs.Machine.{State, Thread, running, waiting, Next, goes, scans, ends, asks, stuck, Found, result_without_threads, state_with_ip, with_some}
use Rattle.regress_machine.specs.Machine.{only_if, go, go_if, first_running_and_others_waiting, choice_in_order_of_greediness, iterate_or_leave_at_loop_head, act, after_lookaround, search}
use Rattle.regress_machine.proofs.MachineSearchLemmas.{Later, never_stuck, waits-later, goes-later, scans-later, asked-inner}
use Rattle.regress_machine.specs.ThreadSimulation.{Within, FindsNothing}

-- The threads may be dropped if the search that they begin takes fewer than `bound` steps.
pub record NothingBelow (program : Program) (text : Text) (bound : ℕ) (d : Direction) (spent : ℕ) (ts : List Thread) : Type 0 where
  pub within : (turns : ℕ) (vs : List Thread) (f : Found) → f.steps < bound → search program text turns d (ts ++ vs) ≡ Some f
      → Within program text false turns d spent vs f

module _ (program : Program) (text : Text) (n : ℕ) (d : Direction) where
  abbrev pub Drops : Thread → Type 0
  Drops t = NothingBelow program text n d 1 (t ∷ [])

  abbrev pub DropAll : List Thread → Type 0
  DropAll ts = NothingBelow program text n d 0 ts

  -- ---- What an effect leaves

  -- The threads that an effect leaves find nothing in searches of fewer than `n` steps.
  abbrev pub NothingNext : Next → Type 0
  NothingNext (goes ss) = DropAll ss
  NothingNext (scans tries ss) = DropAll ss
  NothingNext (ends s) = ⊥
  NothingNext (asks inner negate u w) = (k : ℕ) (g : Found) → search program text k inner (running u ∷ []) ≡ Some g → g.steps < n → DropAll (after_lookaround negate w g.end)
  NothingNext stuck = Unit {0}

  -- If threads left after some steps find nothing, the threads behind them end as the whole search.
  pub drops-later : (turns spent : ℕ) (ss vs : List Thread) (f : Found) → DropAll ss → 0 < spent → f.steps < suc n → Later program text turns d spent (ss ++ vs) f → Within program text false turns d 1 vs f
  drops-later turns spent ss vs f h some few l =
      let steps = l.steps in
      let w = h.within turns vs l.found (omega (arith, steps, few, some)) l.searches in
      let le = w.few in
      record { found = w.found; searches = w.searches; end = w.end ∙ sym l.end; few = omega (arith, steps, some, le); counted = λ x. cc }

  pub turn-nothing : (s : State) (x : Next) → act program text d s ≡ x → NothingNext x → NothingBelow program text (suc n) d 1 (running s ∷ [])
  turn-nothing s (goes ss) e h = record { within = λ turns vs f few q. drops-later turns 1 ss vs f h (omega arith) few (goes-later program text turns d s ss vs f e q) }
  turn-nothing s (scans tries ss) e h =
      record { within = λ turns vs f few q. drops-later turns (1 + tries) ss vs f h (omega arith) few (scans-later program text turns d s tries ss vs f e q) }
  turn-nothing s (ends t) e h = absurd h
  turn-nothing s (asks inner negate u w) e h = record {
    within = λ turns vs f few q.
        let a = asked-inner program text turns d inner negate s u w vs f e q in
        let steps = a.rest.steps in
        drops-later turns (1 + a.found.steps) (after_lookaround negate w a.found.end) vs f (h turns a.found a.searches (omega (arith, steps, few))) (omega arith) few a.rest;
  }
  turn-nothing s stuck e h = record { within = λ turns vs f few q. absurd (never_stuck program text turns d s vs f e q) }

  pub nothing-here : DropAll []
  nothing-here = record { within = λ turns vs f few q. record { found = f; searches = q; end = refl; few = omega arith; counted = λ x. cc } }

  pub nothing-more : (t : Thread) (ts : List Thread) → Drops t → DropAll ts → DropAll (t ∷ ts)
  nothing-more t ts a b = record {
    within = λ turns vs f few q.
        let w = a.within turns (ts ++ vs) f few q in
        let le = w.few in
        let v = b.within turns vs w.found (omega (arith, le, few)) w.searches in
        let less = v.few in
        record { found = v.found; searches = v.searches; end = v.end ∙ w.end; few = omega (arith, le, less); counted = λ x. cc };
  }

  pub nothing-one : (t : Thread) → Drops t → DropAll (t ∷ [])
  nothing-one t a = nothing-more t [] a nothing-here

  pub nothing-waits : (s : State) → Drops (running s) → Drops (waiting s)
  nothing-waits s a = record {
    within = λ turns vs f few q.
        let l = waits-later program text turns d s vs f q in
        let steps = l.steps in
        let w = a.within turns vs l.found (omega (arith, steps, few)) l.searches in
        let le = w.few in
        record { found = w.found; searches = w.searches; end = w.end ∙ sym l.end; few = omega (arith, steps, le); counted = λ x. cc };
  }

  -- If the contents of a lookaround find nothing, their search ends without a state.
  pub nothing-ends : (turns : ℕ) (t : Thread) (f : Found) → Drops t → search program text turns d (t ∷ []) ≡ Some f → f.steps < n → None ≡ f.end
  unfolding search
  nothing-ends turns t f a e few = by turns refl (a.within turns [] f few e)
    where
      by : (m : ℕ) → turns ≡ m → Within program text false turns d 1 [] f → None ≡ f.end
      by m q w = let s : Some result_without_threads ≡ Some w.found = w.searches in let is : result_without_threads ≡ w.found = cc in ap (λ (f : Found). f.end) is ∙ w.end

  pub nothing-goes : NothingNext (goes [])
  nothing-goes = nothing-here

  pub nothing-only : (b : Bool) (x : Next) → NothingNext x → NothingNext (only_if b x)
  nothing-only true x h = h
  nothing-only false x h = tt

  pub nothing-some : {X : Type 0} (o : Option X) (f : X → Next) → ((x : X) → o ≡ Some x → NothingNext (f x)) → NothingNext (with_some o f)
  nothing-some None f h = tt
  nothing-some (Some x) f h = h x refl

  pub nothing-go : (s : State) → Drops (running s) → NothingNext (go s)
  nothing-go s h = nothing-one (running s) h

  pub nothing-go_if : (b : Bool) (s : State) → (b ≡ true → Drops (running s)) → NothingNext (go_if b s)
  nothing-go_if true s h = nothing-go s (h refl)
  nothing-go_if false s h = nothing-here

  abbrev pub EachNothing : List State → Type 0
  EachNothing ss = Each (λ s. Drops (running s)) ss

  pub nothing-waiting : (ss : List State) → EachNothing ss → DropAll (map waiting ss)
  nothing-waiting [] h = nothing-here
  nothing-waiting (s ∷ ss) h = nothing-more (waiting s) (map waiting ss) (nothing-waits s h.0) (nothing-waiting ss h.1)

  pub nothing-in_turn : (ss : List State) → EachNothing ss → DropAll (first_running_and_others_waiting ss)
  nothing-in_turn [] h = nothing-here
  nothing-in_turn (s ∷ ss) h = nothing-more (running s) (map waiting ss) h.0 (nothing-waiting ss h.1)

  pub nothing-choice_in_order_of_greediness : (greedy : Bool) (xs ys : List State) → EachNothing xs → EachNothing ys → EachNothing (choice_in_order_of_greediness greedy xs ys)
  nothing-choice_in_order_of_greediness true xs ys h k = Each-append (λ s. Drops (running s)) xs ys h k
  nothing-choice_in_order_of_greediness false xs ys h k = Each-append (λ s. Drops (running s)) ys xs k h

  pub nothing-loop : (f : LoopFields) (begin k : ℕ) (s : State)
      → (nat_lt k f.max_iters ≡ true → Drops (running (record s { ip = begin + 1; loops = slice_set s.loops f.loop_id (record { iters = k; entry = s.pos }) })))
      → (nat_le f.min_iters k ≡ true → Drops (running (state_with_ip f.exit s))) → NothingNext (iterate_or_leave_at_loop_head f begin k s)
  nothing-loop f begin k s again leave =
      let more = record s { ip = begin + 1; loops = slice_set s.loops f.loop_id (record { iters = k; entry = s.pos }) } in
      let out = state_with_ip f.exit s in
      let mores = if nat_lt k f.max_iters then more ∷ [] else [] in
      let outs = if nat_le f.min_iters k then out ∷ [] else [] in
      nothing-only (nat_lt f.loop_id (length s.loops)) (goes (first_running_and_others_waiting (choice_in_order_of_greediness f.greedy mores outs)))
      (nothing-in_turn (choice_in_order_of_greediness f.greedy mores outs)
      (nothing-choice_in_order_of_greediness f.greedy mores outs
      (Each-when (λ s. Drops (running s)) (nat_lt k f.max_iters) more again)
      (Each-when (λ s. Drops (running s)) (nat_le f.min_iters k) out leave)))

module _ (program : Program) (text : Text) (d : Direction) where
  pub nothing-below-none : (s : State) → NothingBelow program text 0 d 1 (running s ∷ [])
  nothing-below-none s = record { within = λ turns vs f few e. absurd (omega arith) }

  -- A thread that finds nothing below every bound finds nothing.
  pub finds-nothing : (t : Thread) → ((n : ℕ) → NothingBelow program text n d 1 (t ∷ [])) → FindsNothing program text d t
  finds-nothing t h = record { within = λ turns vs f e. (h (suc f.steps)).within turns vs f (omega arith) e }
