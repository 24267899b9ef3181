-- The known failures decide which event happens at an unbounded char loop, and what it costs.
use Rattle.std.proofs.Common.{◌≡◌, ◌≤◌, ◌<◌, ℕ, zero, suc, ◌+◌, ◌-◌, Bool, true, false, List, [], ◌∷◌, ◌++◌, Some, refl, sym, ap, ◌∙◌, subst, arith, inl, inr}
use Rattle.std.specs.Prelude.{◌⊎◌}
use Rattle.std.proofs.lemmas.Bool.{cases_lt}
use Rattle.regex_meaning.specs.Text.{Text, rightwards, last_place, moved}
use Rattle.regex_meaning.specs.CodeUnitOffsets.{place_at, offset as text_offset}
use Rattle.regex_meaning.specs.CompilationRelation.{Program}
use Rattle.regex_meaning.proofs.CodeUnitOffsetsLemmas.{place_at-offset}
use Rattle.regress_machine.specs.Machine as machine
use Rattle.regress_machine.specs.Machine.{Thread, running}
use Rattle.regress_machine.specs.CharLoopExitStatesByPreference.{behind}
use Rattle.regress_memo.specs.CharLoopExitThreadLists.{passing, pending_loop_threads}
use Rattle.regress_memo.specs.MemoSearch.{Key, Entry, one_thread, thread_group, key_record}
use Rattle.regress_memo.proofs.CharLoopExitLemmas.{passing-on, passing-left}
use Rattle.regress_memo.specs.declared.analysis_result.MemoAnalysis.{MemoAnalysis}
use Rattle.regress_memo.specs.MemoContents.{has_failure}
use Rattle.regress_search.proofs.CharLoopReach.{moved-more}
use Rattle.regress_bounded.specs.declared.memo_and_work_budget.MemoAndWorkBudget.{MemoAndWorkBudget}
use Rattle.regress_bounded.specs.declared.pending_stack.StackEntry.{StackEntry}
use Rattle.regress_bounded.specs.declared.pending_stack.StackEntry.TheVariants.{PendingLazyLoop as AsRun}
use Rattle.regress_pikevm.specs.declared.pikevm.states.State.{State}
use Rattle.regress_bounded.specs.CostsOfSearchEvents.{ThreadsPendAbove, none_waits, some_wait, too_few, fails_from, takes_furthest}
use Rattle.regress_bounded.specs.BoundedState.{BoundedAttempt, IsStackOfEntriesFromTop, IsPendingLazyLoop, AnalysisBoundsSearch, AttemptHasState, MayBeNextSearchEvent, TakesNearestExit}
use Rattle.regress_bounded.specs.WorkOfCharLoopsAndAttempts.{StateIsAtUnboundedCharLoop, key_after_chars, threads_after_chars, exits_with_records}
use Rattle.regress_pikevm.specs.States.{machine_state_of}
use Rattle.regress_bounded.proofs.CharLoopWorkLemmas.{lazy-later, lazy-last}
use Rattle.regress_bounded.proofs.BoundedStateLemmas.{row-push, new, known, CostsAtLeast}

-- ---- Greedy loops without a maximum

-- Either a first number of a range is known, or none of the range is known.
record FirstKnown (known : ℕ → Bool) (from end : ℕ) : Type 0 where
  n : ℕ
  le : from ≤ n
  less : n < end
  is : known n ≡ true
  before : (m : ℕ) → from ≤ m → m < n → known m ≡ false

first-known : (known : ℕ → Bool) (count from : ℕ) → FirstKnown known from (from + count) ⊎ ((m : ℕ) → from ≤ m → m < from + count → known m ≡ false)
first-known known zero from = inr (λ m le less. absurd (omega (arith, le, less)))
first-known known (suc count) from = by (known from) refl (first-known known count (from + 1))
  where
    by : (b : Bool) → known from ≡ b → FirstKnown known (from + 1) (from + 1 + count) ⊎ ((m : ℕ) → from + 1 ≤ m → m < from + 1 + count → known m ≡ false)
        → FirstKnown known from (from + suc count) ⊎ ((m : ℕ) → from ≤ m → m < from + suc count → known m ≡ false)
    by true e later = inl (record { n = from; le = omega arith; less = omega arith; is = e; before = λ m le less. absurd (omega (arith, le, less)) })
    by false e (inl f) =
        let le = f.le in
        let less = f.less in
        inl (record {
          n = f.n;
          le = omega (arith, le);
          less = omega (arith, less);
          is = f.is;
          before = λ m first last. elim (cases_lt from m) [
            | inl further ↦ f.before m (omega (arith, further)) last
            | inr same ↦ let here : from ≡ m = omega (arith, first, same) in subst (λ i. known i ≡ false) here e
          ];
        })
    by false e (inr none) = inr (λ m first last. elim (cases_lt from m) [
      | inl further ↦ none m (omega (arith, further)) (omega (arith, last))
      | inr same ↦ let here : from ≡ m = omega (arith, first, same) in subst (λ i. known i ≡ false) here e
    ])

module _ {P : Type 0} (offset : P → ℕ) (program : Program) (text : Text) (b : BoundedAttempt) (s : machine.State) {stack : List (StackEntry P)} {c : MemoAndWorkBudget}
    (h : AttemptHasState offset program text b (one_thread (running s) ∷ []) stack c) (test : ℕ → Bool) (least place : ℕ) where
  -- If too few characters pass, the loop fails.
  pub few-happen : {greedy : Bool} → StateIsAtUnboundedCharLoop program s test least greedy → place_at text s.pos ≡ Some place → passing text test rightwards place < least
      → MayBeNextSearchEvent offset program text b h (passing text test rightwards place + 2) h.now h.row
  few-happen {greedy} unbounded_loop at few = too_few s test least place greedy h.row unbounded_loop at few

  module _ (unbounded_loop : StateIsAtUnboundedCharLoop program s test least true) (at : place_at text s.pos ≡ Some place) where
    abbrev key-of : ℕ → Key
    key-of n = key_after_chars program text c.memo.memo_analysis rightwards test place s n

    abbrev places-row : ℕ → List Entry
    places-row n = exits_with_records program text c.memo.memo_analysis rightwards test place s least (n - least)

    abbrev ExitKeysAreNew : (n : ℕ) → Type 0
    ExitKeysAreNew n = (m : ℕ) → least ≤ m → m < n → has_failure c.memo (key-of m) ≡ false

    -- If the key at an exit is known to fail, only the nearer exits are left.
    pub known-happens : (n : ℕ) → least ≤ n → n ≤ passing text test rightwards place → ExitKeysAreNew n → has_failure c.memo (key-of n) ≡ true
        → MayBeNextSearchEvent offset program text b h (n + 2) h.now (places-row n ++ h.row)
    known-happens n le few unknown fails =
        fails_from s test least place n h.row unbounded_loop at le few (λ m first less. new offset program text b h (key-of m) (unknown m first less)) (known offset program text b h (key-of n) fails)

    -- If no key is known to fail, the furthest exit is taken.
    pub furthest-happens : (n : ℕ) → n ≡ passing text test rightwards place → least ≤ n → ExitKeysAreNew (n + 1)
        → MayBeNextSearchEvent offset program text b h (n + 2) h.now
        (one_thread (running (behind text rightwards place s n)) ∷ key_record (key-of n) (threads_after_chars program text c.memo.memo_analysis rightwards test place s n) ∷ places-row n ++ h.row)
    furthest-happens n all le unknown =
        takes_furthest s test least place n h.row unbounded_loop at all le (λ m first less. new offset program text b h (key-of m) (unknown m first less))

    -- If no key so far is known to fail, the next event costs at least this much.
    pub greedy-at-least : (n : ℕ) → least ≤ n → n ≤ passing text test rightwards place → ExitKeysAreNew n → CostsAtLeast offset program text b h (n + 2)
    greedy-at-least n le few unknown = by (first-known (λ m. has_failure c.memo (key-of m)) count n)
      where
        count : ℕ
        count = passing text test rightwards place + 1 - n

        below : (m end : ℕ) → (n ≤ m → has_failure c.memo (key-of m) ≡ false) → least ≤ m → has_failure c.memo (key-of m) ≡ false
        below m end later first = elim (cases_lt m n) [
          | inl nearer ↦ unknown m first nearer
          | inr past ↦ later past
        ]

        by : FirstKnown (λ m. has_failure c.memo (key-of m)) n (n + count) ⊎ ((m : ℕ) → n ≤ m → m < n + count → has_failure c.memo (key-of m) ≡ false) → CostsAtLeast offset program text b h (n + 2)
        by (inl f) =
            let from = f.le in
            let less = f.less in
            record {
              cost = f.n + 2;
              now = h.now;
              row = places-row f.n ++ h.row;
              happens = known-happens f.n (omega (arith, le, from)) (omega (arith, less, few)) (λ m first last. below m f.n (λ past. f.before m past last) first) f.is;
              more = omega (arith, from);
            }
        by (inr none) =
            let all = passing text test rightwards place in
            record {
              cost = all + 2;
              now = h.now;
              row = one_thread (running (behind text rightwards place s all)) ∷ key_record (key-of all) (threads_after_chars program text c.memo.memo_analysis rightwards test place s all) ∷ places-row all ++ h.row;
              happens = furthest-happens all refl (omega (arith, le, few)) (λ m first last. below m all (λ past. none m past (omega (arith, last, few))) first);
              more = omega (arith, few);
            }

-- ---- Lazy loops

-- The place behind characters that pass lies inside the text.
inside-passing : (text : Text) (test : ℕ → Bool) (place : ℕ) → place ≤ last_place text → (n : ℕ) → n ≤ passing text test rightwards place → moved text rightwards n place ≤ last_place text
inside-passing text test place inside n few = let left = passing-left text test rightwards place inside in omega (arith, left, few, inside)

-- The threads behind a place start at the next place, or there are none.
pub data Behind {P : Type 0} (offset : P → ℕ) (program : Program) (text : Text) (waits : List Thread) (old new : List (StackEntry P)) : Type 0 where
  none-waits : waits ≡ [] → new ≡ old → Behind offset program text waits old new
  some-wait : (next : State P) → IsPendingLazyLoop offset program text (machine_state_of offset next) (thread_group waits) → new ≡ old ++ AsRun next ∷ [] → Behind offset program text waits old new

module _ {P : Type 0} (offset : P → ℕ) (program : Program) (text : Text) (t : MemoAnalysis) (paid : AnalysisBoundsSearch program text t) (test : ℕ → Bool) (least place : ℕ) (state : State P)
    (unbounded_loop : StateIsAtUnboundedCharLoop program (machine_state_of offset state) test least false) (inside : place ≤ last_place text) (n : ℕ) (few : n ≤ passing text test rightwards place) where
  abbrev s : machine.State
  s = machine_state_of offset state

  abbrev waits : List Thread
  waits = pending_loop_threads text test rightwards (n + 1) place s

  pub nearest-behind : (p : ℕ) → p ≡ moved text rightwards n place → (at : P) (here : State P) (old new : List (StackEntry P)) → TakesNearestExit offset text test p at state here old new
      → Behind offset program text waits old new
  nearest-behind p e at here old new near = by (passing text test rightwards p) refl
    where
      sum : n + passing text test rightwards p ≡ passing text test rightwards place
      sum = ap (λ q. n + passing text test rightwards q) e ∙ passing-on text test rightwards n place inside few

      by : (m : ℕ) → passing text test rightwards p ≡ m → Behind offset program text waits old new
      by zero none =
          none-waits (lazy-last program t paid.memo_analysis paid.bounded text paid.is_text paid.bytes paid.short rightwards s test least false unbounded_loop place inside n few (ap (passing text test rightwards) (sym e) ∙ none))
          (near.alone none)
      by (suc m) some =
          let more : 1 ≤ passing text test rightwards p = omega (arith, some) in
          let further : n + 1 ≤ passing text test rightwards place = omega (arith, some, sum) in
          let others = near.others more in
          let on = moved text rightwards (n + 1) place in
          let there : moved text rightwards 1 p ≡ on = ap (moved text rightwards 1) e ∙ moved-more text rightwards n place in
          let within : on ≤ last_place text = (inside-passing text test place inside (n + 1) further) in
          let sum_on = passing-on text test rightwards (n + 1) place inside further in
          let here = ap (passing text test rightwards) e in
          let later = lazy-later program t paid.memo_analysis paid.bounded text paid.is_text paid.bytes paid.short rightwards s test least false unbounded_loop place inside n few (omega (arith, sum, sum_on, here)) in
          some-wait others.next
          (record {
            test = test;
            least = least;
            place = on;
            run = subst (λ u. StateIsAtUnboundedCharLoop program u test least false) (sym others.is) (record { run = unbounded_loop.run; body = unbounded_loop.body });
            at = ap (λ (u : machine.State). place_at text u.pos) others.is ∙ ap (λ q. place_at text (text_offset text q)) there ∙ place_at-offset text on paid.is_text within;
            is = ap thread_group (later ∙ ap (pending_loop_threads text test rightwards 0 on) (sym others.is));
          })
          others.waits

-- The stack stands for these entries once the nearest exit has been taken.
pub record RowAbove {P : Type 0} (offset : P → ℕ) (program : Program) (text : Text) (waits : List Thread) (rest : List Entry) (stack : List (StackEntry P)) : Type 0 where
  pub row : List Entry
  pub above : ThreadsPendAbove waits rest row
  pub is : IsStackOfEntriesFromTop offset program text stack row

pub row-above : {P : Type 0} (offset : P → ℕ) (program : Program) (text : Text) (waits : List Thread) (rest : List Entry) (old new : List (StackEntry P)) → IsStackOfEntriesFromTop offset program text old rest
    → Behind offset program text waits old new → RowAbove offset program text waits rest new
row-above offset program text waits rest old new is (none-waits e same) =
    subst (RowAbove offset program text waits rest) (sym same) (record { row = rest; above = none_waits e; is = is })
row-above offset program text waits rest old new is (some-wait next further same) =
    subst (RowAbove offset program text waits rest) (sym same)
    (record { row = thread_group waits ∷ rest; above = some_wait; is = row-push offset program text old (AsRun next) (thread_group waits) rest further is })
