-- Threads that find nothing may be dropped from a running thread and those that wait behind it.
use Rattle.std.proofs.Common.{◌≡◌, ◌<◌, ℕ, zero, suc, ◌+◌, List, [], ◌∷◌, ◌++◌, map, length, append-nil, Bool, false, sym, subst, arith}
use Rattle.std.proofs.lemmas.List.{map-append}
use Rattle.regex_meaning.specs.Laws.{Each}
use Rattle.regex_meaning.specs.Text.{Text, Direction}
use Rattle.regex_meaning.specs.CompilationRelation.{Program}
use Rattle.regress_machine.specs.Machine.{State, Thread, running, waiting, first_running_and_others_waiting, goes, scans, act}
use Rattle.regress_machine.specs.ThreadSimulation.{Simulates, FindsNothing}
use Rattle.regress_machine.proofs.ThreadSimulationLemmas.{simulates-same, simulates-then, simulates-before, simulates-fewer, simulates-goes, simulates-scans, simulates-waits, drops-prefix}
use Rattle.regress_machine.proofs.ThreadSimulationLemmas.{nothing-one, nothing-waits}
use Rattle.regress_machine.proofs.ExecutorLoopLemmas.{drops-waiting, drops-waiting-behind}

module _ (program : Program) (text : Text) (d : Direction) where
  -- A simulation without counted steps holds wherever steps are not counted.
  pub unless-exact : (exact : Bool) (n : ℕ) (us ts : List Thread) → exact ≡ false → Simulates program text false d n us ts → Simulates program text exact d n us ts
  unless-exact exact n us ts e s = subst (λ b. Simulates program text b d n us ts) (sym e) s

  -- Of two simulations one after the other, the steps of the first one are spent at least.
  pub loosely : (m n : ℕ) (ts us ws : List Thread) → Simulates program text false d m us ts → Simulates program text false d n ws us → Simulates program text false d m ws ts
  loosely m n ts us ws a b = simulates-fewer program text d m (m + n) ws ts (omega arith) (simulates-then program text false d m n ts us ws a b)

  abbrev pub EachFindsNothing : List State → Type 0
  EachFindsNothing ss = Each (λ s. FindsNothing program text d (running s)) ss

  -- ---- Waiting threads

  -- The first of the waiting threads runs next.
  pub row-taken : (exact : Bool) (s : State) (ss : List State) → Simulates program text exact d 1 (running s ∷ map waiting ss) (map waiting (s ∷ ss))
  row-taken exact s ss = simulates-before program text exact d 1 (running s ∷ []) (waiting s ∷ []) (map waiting ss) (simulates-waits program text exact d s)

  -- The first of the waiting threads may run at once.
  pub takes-up : (ss : List State) → Simulates program text false d 0 (first_running_and_others_waiting ss) (map waiting ss)
  takes-up [] = simulates-same program text false d []
  takes-up (s ∷ ss) = simulates-fewer program text d 0 1 (first_running_and_others_waiting (s ∷ ss)) (map waiting (s ∷ ss)) (omega arith) (row-taken false s ss)

  -- The first waiting threads may be dropped if they find nothing.
  pub row-dropped : (xs ys : List State) → EachFindsNothing xs → Simulates program text false d 0 (map waiting ys) (map waiting (xs ++ ys))
  row-dropped xs ys h =
      simulates-fewer program text d 0 (length xs) (map waiting ys) (map waiting (xs ++ ys)) (omega arith)
      (subst (λ ts. Simulates program text false d (length xs) (map waiting ys) ts) (sym (map-append waiting xs ys))
      (drops-waiting program text d xs (map waiting ys) h))

  -- If the first waiting threads find nothing, the next one runs.
  pub row-taken-behind : (xs : List State) (s : State) (ss : List State) → EachFindsNothing xs
      → Simulates program text false d 1 (running s ∷ map waiting ss) (map waiting (xs ++ s ∷ ss))
  row-taken-behind xs s ss h =
      simulates-then program text false d 0 1 (map waiting (xs ++ s ∷ ss)) (map waiting (s ∷ ss)) (running s ∷ map waiting ss)
      (row-dropped xs (s ∷ ss) h) (row-taken false s ss)

  -- If all waiting threads find nothing, they are dropped in at least one step.
  pub row-none : (s : State) (ss : List State) → EachFindsNothing (s ∷ ss) → Simulates program text false d 1 [] (map waiting (s ∷ ss))
  row-none s ss h =
      loosely 1 0 (map waiting (s ∷ ss)) (map waiting ss) []
      (drops-prefix program text d (waiting s) (map waiting ss) (nothing-waits program text d s h.0))
      (subst (λ l. Simulates program text false d 0 [] (map waiting l)) (append-nil ss) (row-dropped ss [] h.1))

  -- ---- A running thread and those that wait behind it

  -- If the first threads find nothing, they are dropped, and the next one runs.
  pub turn-dropped : (xs ys : List State) → EachFindsNothing xs → Simulates program text false d 0 (first_running_and_others_waiting ys) (first_running_and_others_waiting (xs ++ ys))
  turn-dropped [] ys h = simulates-same program text false d (first_running_and_others_waiting ys)
  turn-dropped (x ∷ xs) ys h =
      simulates-fewer program text d 0 1 (first_running_and_others_waiting ys) (first_running_and_others_waiting (x ∷ (xs ++ ys))) (omega arith)
      (loosely 1 0 (first_running_and_others_waiting (x ∷ (xs ++ ys))) (map waiting (xs ++ ys)) (first_running_and_others_waiting ys)
      (drops-prefix program text d (running x) (map waiting (xs ++ ys)) h.0)
      (loosely 0 0 (map waiting (xs ++ ys)) (map waiting ys) (first_running_and_others_waiting ys) (row-dropped xs ys h.1) (takes-up ys)))

  -- If the threads behind the first one find nothing, the first one alone is left.
  pub turn-alone : (s : State) (ss : List State) → EachFindsNothing ss → Simulates program text false d 0 (running s ∷ []) (first_running_and_others_waiting (s ∷ ss))
  turn-alone s ss h =
      subst (λ ts. Simulates program text false d 0 (running s ∷ []) (running s ∷ ts)) (append-nil (map waiting ss))
      (drops-waiting-behind program text d (running s ∷ []) ss [] h)

  -- If all threads find nothing, all may be dropped.
  pub turn-none : (ss : List State) → EachFindsNothing ss → Simulates program text false d 0 [] (first_running_and_others_waiting ss)
  turn-none ss h = subst (λ l. Simulates program text false d 0 [] (first_running_and_others_waiting l)) (append-nil ss) (turn-dropped ss [] h)

  -- ---- A step and the threads of it that are dropped

  pub goes-then : (s : State) (ts us : List Thread) → act program text d s ≡ goes ts → Simulates program text false d 0 us ts → Simulates program text false d 1 us (running s ∷ [])
  goes-then s ts us is h = loosely 1 0 (running s ∷ []) ts us (simulates-goes program text false d s ts is) h

  pub scans-then : (s : State) (tries : ℕ) (ts us : List Thread) → act program text d s ≡ scans tries ts → Simulates program text false d 0 us ts
      → Simulates program text false d (1 + tries) us (running s ∷ [])
  scans-then s tries ts us is h = loosely (1 + tries) 0 (running s ∷ []) ts us (simulates-scans program text false d s tries ts is) h

  -- ---- Two ways, at an alternative or the head of a loop

  module _ (s a b : State) (is : act program text d s ≡ goes (first_running_and_others_waiting (a ∷ b ∷ []))) where
    pub both-ways : (exact : Bool) → Simulates program text exact d 1 (running a ∷ waiting b ∷ []) (running s ∷ [])
    both-ways exact = simulates-goes program text exact d s (first_running_and_others_waiting (a ∷ b ∷ [])) is

    pub first-way : FindsNothing program text d (running b) → Simulates program text false d 1 (running a ∷ []) (running s ∷ [])
    first-way none = goes-then s (first_running_and_others_waiting (a ∷ b ∷ [])) (running a ∷ []) is (turn-alone a (b ∷ []) (none, tt))

    pub second-way : FindsNothing program text d (running a) → Simulates program text false d 1 (running b ∷ []) (running s ∷ [])
    second-way none = goes-then s (first_running_and_others_waiting (a ∷ b ∷ [])) (running b ∷ []) is (turn-dropped (a ∷ []) (b ∷ []) (none, tt))

    pub no-way : FindsNothing program text d (running a) → FindsNothing program text d (running b) → Simulates program text false d 1 [] (running s ∷ [])
    no-way none_first none_second = goes-then s (first_running_and_others_waiting (a ∷ b ∷ [])) [] is (turn-none (a ∷ b ∷ []) (none_first, (none_second, tt)))

  -- A step with one way continues with that thread, or with none if it finds nothing.
  module _ (s a : State) (is : act program text d s ≡ goes (running a ∷ [])) where
    pub only-way : (exact : Bool) → Simulates program text exact d 1 (running a ∷ []) (running s ∷ [])
    only-way exact = simulates-goes program text exact d s (running a ∷ []) is

    pub only-way-excluded : FindsNothing program text d (running a) → Simulates program text false d 1 [] (running s ∷ [])
    only-way-excluded none = goes-then s (running a ∷ []) [] is (nothing-one program text d (running a) none)

  pub dead-end : (exact : Bool) (s : State) → act program text d s ≡ goes [] → Simulates program text exact d 1 [] (running s ∷ [])
  dead-end exact s is = simulates-goes program text exact d s [] is

  -- ---- Successive steps

  -- After `n` steps that each continue with one state, the last of these states is left.
  pub turns-on : (exact : Bool) (state : ℕ → State) (n : ℕ) → ((i : ℕ) → i < n → act program text d (state i) ≡ goes (running (state (suc i)) ∷ []))
      → Simulates program text exact d n (running (state n) ∷ []) (running (state 0) ∷ [])
  turns-on exact state zero on = simulates-same program text exact d (running (state 0) ∷ [])
  turns-on exact state (suc n) on =
      subst (λ m. Simulates program text exact d m (running (state (suc n)) ∷ []) (running (state 0) ∷ [])) (let e : n + 1 ≡ suc n = omega arith in e)
      (simulates-then program text exact d n 1 (running (state 0) ∷ []) (running (state n) ∷ []) (running (state (suc n)) ∷ [])
      (turns-on exact state n (λ i less. on i (omega (arith, less))))
      (simulates-goes program text exact d (state n) (running (state (suc n)) ∷ []) (on n (omega arith))))

  -- If the last of these states fails, no thread is left.
  pub turns-end : (exact : Bool) (state : ℕ → State) (n : ℕ) → ((i : ℕ) → i < n → act program text d (state i) ≡ goes (running (state (suc i)) ∷ []))
      → act program text d (state n) ≡ goes [] → Simulates program text exact d (n + 1) [] (running (state 0) ∷ [])
  turns-end exact state n on out =
      simulates-then program text exact d n 1 (running (state 0) ∷ []) (running (state n) ∷ []) [] (turns-on exact state n on) (simulates-goes program text exact d (state n) [] out)
