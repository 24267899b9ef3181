-- Threads yield ticks and outcomes in order, followed by those of the threads behind them.
use Rattle.std.proofs.Common.{◌≡◌, ℕ, zero, suc, ◌+◌, List, [], ◌∷◌, ◌++◌, Option, Some, None, Bool, refl, ap, ◌∙◌, sym, subst, arith, append_assoc, zero-add}
use Rattle.regex_meaning.specs.Text.{Text, Direction}
use Rattle.regex_meaning.specs.Outcomes.{Outcome}
use Rattle.regex_meaning.specs.OutcomesWithStepTicks.{TickOrOutcome, tick, pair, ticks, ticks_to_first}
use Rattle.regex_meaning.specs.CompilationRelation.{Program}
use Rattle.regress_machine.specs.Machine.{State, Thread, running, waiting, goes, scans, ends, asks, Found, result_without_threads, found_at, with_steps, after_lookaround, after_lookaround_search}
use Rattle.regress_machine.specs.Machine.{search_after_effect, act, search}
pub use Rattle.regress_machine.specs.SearchFindsFirstOutcomeAtPlace.{first_outcome_among_ticks}
use Rattle.regress_machine.proofs.MachineSearchLemmas.{search_more}

-- An ending relates an outcome to the state at the end of the search.
abbrev pub Ending : Type 1
Ending = Outcome → State → Type 0

-- A search found the items if each tick is a step and the first outcome is its end.
abbrev pub IsFound : Ending → List TickOrOutcome → (f found : Found) → Type 0
IsFound E [] f g = g ≡ f
IsFound E (tick ∷ items) f g = (h : Found) × (g ≡ record h { steps = 1 + h.steps }) × IsFound E items f h
IsFound E (pair o ∷ items) f g = (s : State) × (g ≡ record { steps = 0; end = Some s }) × E o s

abbrev pub EndIs : Ending → Option Outcome → Option State → Type 0
EndIs E None e = e ≡ None
EndIs E (Some o) e = (s : State) × (e ≡ Some s) × E o s

found_append : (E : Ending) (xs ys : List TickOrOutcome) (f g h : Found) → IsFound E ys f g → IsFound E xs g h → IsFound E (xs ++ ys) f h
found_append E [] ys f g h p q = subst (IsFound E ys f) (sym q) p
found_append E (tick ∷ xs) ys f g h p q = (q.0, q.1, found_append E xs ys f g q.0 p q.2)
found_append E (pair o ∷ xs) ys f g h p q = q

steps_same : (m n : ℕ) (g : Found) → m ≡ n → record g { steps = m } ≡ record g { steps = n }
steps_same m n g e = ap (λ k. record g { steps = k }) e

found_ticks : (E : Ending) (k : ℕ) (xs : List TickOrOutcome) (f g : Found) → IsFound E xs f g → IsFound E (ticks k ++ xs) f (record g { steps = k + g.steps })
found_ticks E zero xs f g p = subst (λ n. IsFound E xs f (record g { steps = n })) (sym (zero-add g.steps)) p
found_ticks E (suc k) xs f g p =
    (record g { steps = k + g.steps }, steps_same (suc k + g.steps) (1 + (k + g.steps)) g (omega arith), found_ticks E k xs f g p)

-- If nothing is behind the items, the steps are the ticks and the end is the first outcome.
pub found_first : (E : Ending) (items : List TickOrOutcome) (g : Found) → IsFound E items result_without_threads g → (g.steps ≡ ticks_to_first items) × EndIs E (first_outcome_among_ticks items) g.end
found_first E [] g p = (ap (λ (h : Found). h.steps) p, ap (λ (h : Found). h.end) p)
found_first E (tick ∷ items) g p =
    let rest = found_first E items p.0 p.2 in
    let s = ap (λ (h : Found). h.steps) p.1 in
    (omega (arith, s, rest.0), subst (EndIs E (first_outcome_among_ticks items)) (sym (ap (λ (h : Found). h.end) p.1)) rest.1)
found_first E (pair o ∷ items) g p =
    (ap (λ (h : Found). h.steps) p.1, (p.0, ap (λ (h : Found). h.end) p.1, p.2))

module _ (program : Program) (text : Text) where
  -- The threads yield the items, followed by what the threads behind them find.
  pub record Yields (d : Direction) (E : Ending) (ts : List Thread) (items : List TickOrOutcome) : Type 0 where
    pub finds : (m : ℕ) (rest : List Thread) (f : Found) → search program text m d rest ≡ Some f
        → (n : ℕ) × ((g : Found) × (search program text n d (ts ++ rest) ≡ Some g) × IsFound E items f g)

  pub yields_none : (d : Direction) (E : Ending) → Yields d E [] []
  yields_none d E = record { finds = λ m rest f h. (m, (f, h, refl)) }

  pub yields_append : (d : Direction) (E : Ending) (ts us : List Thread) (xs ys : List TickOrOutcome) → Yields d E ts xs → Yields d E us ys → Yields d E (ts ++ us) (xs ++ ys)
  yields_append d E ts us xs ys p q = record {
    finds = λ m rest f h.
        let b = q.finds m rest f h in
        let a = p.finds b.0 (us ++ rest) b.1.0 b.1.1 in
        (a.0, (a.1.0, rw (append_assoc ts us rest) a.1.1, found_append E xs ys f b.1.0 a.1.0 b.1.2 a.1.2));
  }

  pub yields_same : (d : Direction) (E : Ending) (ts : List Thread) (xs ys : List TickOrOutcome) → xs ≡ ys → Yields d E ts xs → Yields d E ts ys
  yields_same d E ts xs ys e y = subst (Yields d E ts) e y

  -- A step that continues with threads yields a tick before their items.
  pub yields_turn : (d : Direction) (E : Ending) (s : State) (ss : List Thread) (items : List TickOrOutcome) → act program text d s ≡ goes ss → Yields d E ss items
      → Yields d E (running s ∷ []) (tick ∷ items)
  unfolding search
  yields_turn d E s ss items e y = record {
    finds = λ m rest f h.
        let a = y.finds m rest f h in (
          suc a.0,
          (
            record a.1.0 { steps = 1 + a.1.0.steps },
            ap (λ x. search_after_effect (λ d us. search program text a.0 d us) d x rest) e ∙ ap (with_steps 1) a.1.1,
            (a.1.0, refl, a.1.2),
          ),
        );
  }

  -- A step of a char loop yields a tick for itself and for each character tried.
  pub yields_scan : (d : Direction) (E : Ending) (s : State) (tries : ℕ) (ss : List Thread) (items : List TickOrOutcome) → act program text d s ≡ scans tries ss
      → Yields d E ss items → Yields d E (running s ∷ []) (tick ∷ (ticks tries ++ items))
  unfolding search
  yields_scan d E s tries ss items e y = record {
    finds = λ m rest f h.
        let a = y.finds m rest f h in (
          suc a.0,
          (
            record a.1.0 { steps = (1 + tries) + a.1.0.steps },
            ap (λ x. search_after_effect (λ d us. search program text a.0 d us) d x rest) e ∙ ap (with_steps (1 + tries)) a.1.1,
            (record a.1.0 { steps = tries + a.1.0.steps }, steps_same ((1 + tries) + a.1.0.steps) (1 + (tries + a.1.0.steps)) a.1.0 (omega arith), found_ticks E tries items f a.1.0 a.1.2),
          ),
        );
  }

  -- A waiting thread yields a tick before the items of the running thread.
  pub yields_wait : (d : Direction) (E : Ending) (s : State) (ts : List Thread) (items : List TickOrOutcome) → Yields d E (running s ∷ ts) items
      → Yields d E (waiting s ∷ ts) (tick ∷ items)
  unfolding search
  yields_wait d E s ts items y = record {
    finds = λ m rest f h.
        let a = y.finds m rest f h in (
          suc a.0,
          (record a.1.0 { steps = 1 + a.1.0.steps }, ap (with_steps 1) a.1.1, (a.1.0, refl, a.1.2)),
        );
  }

  -- A step that ends the search yields a tick and the outcome.
  pub yields_end : (d : Direction) (E : Ending) (s : State) (o : Outcome) → act program text d s ≡ ends s → E o s → Yields d E (running s ∷ []) (tick ∷ pair o ∷ [])
  unfolding search
  yields_end d E s o e is = record {
    finds = λ m rest f h. (
      1,
      (
        found_at s,
        ap (λ x. search_after_effect (λ d us. search program text 0 d us) d x rest) e,
        (record { steps = 0; end = Some s }, refl, (s, refl, is)),
      ),
    );
  }

  -- A lookaround yields a tick, the ticks of its contents and the items after its answer.
  pub yields_asks : (d inner : Direction) (E F : Ending) (s u w : State) (negate : Bool) (items xs : List TickOrOutcome)
      → act program text d s ≡ asks inner negate u w → Yields inner F (running u ∷ []) items
      → ((e : Option State) → EndIs F (first_outcome_among_ticks items) e → Yields d E (after_lookaround negate w e) xs)
      → Yields d E (running s ∷ []) (tick ∷ (ticks (ticks_to_first items) ++ xs))
  unfolding search
  yields_asks d inner E F s u w negate items xs e y z = record {
    finds = λ m rest f h.
        let a = y.finds 0 [] result_without_threads refl in
        let in_first = found_first F items a.1.0 a.1.2 in
        let g = a.1.0 in
        let b = (z g.end in_first.1).finds m rest f h in
        let n = a.0 + b.0 in
        let a' = search_more program text a.0 n (omega arith) inner (running u ∷ []) g a.1.1 in
        let b' = search_more program text b.0 n (omega arith) d (after_lookaround negate w g.end ++ rest) b.1.0 b.1.1 in
        let k = ticks_to_first items in (
          suc n,
          (
            record b.1.0 { steps = (1 + k) + b.1.0.steps },
            ap (λ x. search_after_effect (λ d us. search program text n d us) d x rest) e
                ∙ ap (after_lookaround_search (search program text n d) negate w rest) a'
                ∙ ap (with_steps (1 + g.steps)) b'
                ∙ ap (λ i. Some (record b.1.0 { steps = (1 + i) + b.1.0.steps })) in_first.0,
            (record b.1.0 { steps = k + b.1.0.steps }, steps_same ((1 + k) + b.1.0.steps) (1 + (k + b.1.0.steps)) b.1.0 (omega arith), found_ticks E k xs f b.1.0 b.1.2),
          ),
        );
  }
