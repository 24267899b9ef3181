-- Attempts for successive matches begin at each offset at most twice, so their work is bounded.
use Rattle.std.proofs.Common.{◌≡◌, ◌≤◌, ◌<◌, ℕ, zero, suc, ◌+◌, ◌-◌, List, [], ◌∷◌, Bool, true, false, refl, ap, sym, subst, ◌∙◌, arith, sum_by}
use Rattle.std.specs.Prelude.{◌==◌}
use mathlib.Core.Logic.{inl, inr}
use Rattle.std.proofs.lemmas.Bool.{cases_lt, eqb-true}
use Rattle.std.proofs.lemmas.List.Sums.{sum_by-cons}
use Rattle.regex_meaning.specs.NumberListHelpers.{numbers_from}
use Rattle.regex_meaning.specs.Text.{Text, rightwards}
use Rattle.regex_meaning.specs.CompilationRelation.{Program}
use Rattle.regress_machine.specs.Machine.{Thread}
use Rattle.regress_machine.proofs.WellFormedNodeLemmas.{one_if}
use Rattle.regress_memo.specs.Liveness.{Liveness}
use Rattle.regress_memo.specs.MemoSearch.{Key, Keys, one_thread, thread_entries, AreOnward}
use Rattle.regress_memo.specs.AllMatchesWork.{Searched, at_first as at_start, failed as search-failed, found as search-found}
use Rattle.regress_memo.specs.SuccessiveMatches.{Attempted, at_first, passed, failed, found, ready_at, TotalWorkIsBounded}
use Rattle.regress_memo.proofs.AllMatchesWorkLemmas.{matches-together}
use Rattle.regress_memo.proofs.MemoSearchLemmas.{turns-go-on}

-- ---- Sums over places

sum-last : (w : ℕ → ℕ) (start n : ℕ) → sum_by w (numbers_from start (n + 1)) ≡ sum_by w (numbers_from start n) + w (start + n)
sum-last w start zero = let a = sum_by-cons w start [] in let e : start + 0 ≡ start = omega arith in let b = ap w e in omega (arith, a, b)
sum-last w start (suc n) =
    let a = sum_by-cons w start (numbers_from (start + 1) (n + 1)) in
    let b = sum_by-cons w start (numbers_from (start + 1) n) in
    let l = sum-last w (start + 1) n in
    let e : start + 1 + n ≡ start + suc n = omega arith in
    let c = ap w e in
    let one : suc (n + 1) ≡ suc n + 1 = omega arith in
    subst (λ m. sum_by w (numbers_from start m) ≡ sum_by w (numbers_from start (suc n)) + w (start + suc n)) one (omega (arith, a, b, l, c))

-- `before` adds up `w` over all numbers below `n`.
abbrev before : (w : ℕ → ℕ) (n : ℕ) → ℕ
before w n = sum_by w (numbers_from 0 n)

before-next : (w : ℕ → ℕ) (n : ℕ) → before w (n + 1) ≡ before w n + w n
before-next w n = let e : 0 + n ≡ n = omega arith in sum-last w 0 n ∙ ap (λ m. before w n + w m) e

before-more : (w : ℕ → ℕ) (m k : ℕ) → before w m ≤ before w (m + k)
before-more w m zero = let e : m + 0 ≡ m = omega arith in subst (λ n. before w m ≤ before w n) (sym e) (omega arith)
before-more w m (suc k) =
    let l = before-more w m k in
    let n = before-next w (m + k) in
    let e : m + suc k ≡ m + k + 1 = omega arith in
    subst (λ n. before w m ≤ before w n) (sym e) (omega (arith, l, n))

before-rises : (w : ℕ → ℕ) (m n : ℕ) → m ≤ n → before w m ≤ before w n
before-rises w m n le = let e : m + (n - m) ≡ n = omega (arith, le) in subst (λ k. before w m ≤ before w k) e (before-more w m (n - m))

-- ---- The work at one place

abbrev is-it : (at p : ℕ) → ℕ
is-it at p = one_if (p == at)

few-is : (at p : ℕ) → is-it at p ≤ 1
few-is at p = by (p == at)
  where
    by : (b : Bool) → one_if b ≤ 1
    by true = omega arith
    by false = omega arith

not-it : (at p : ℕ) → (p ≡ at → ⊥) → is-it at p ≡ 0
not-it at p other = by (p == at) refl
  where
    by : (b : Bool) → (p == at) ≡ b → one_if b ≡ 0
    by true e = absurd (other (eqb-true p at e))
    by false e = refl

none-yet : (at n : ℕ) → n ≤ at → before (is-it at) n ≡ 0
none-yet at zero le = refl
none-yet at (suc n) le =
    let l = none-yet at n (omega (arith, le)) in
    let x = before-next (is-it at) n in
    let no = not-it at n (λ e. omega (arith, e, le)) in
    let e : n + 1 ≡ suc n = omega arith in
    subst (λ k. before (is-it at) k ≡ 0) e (omega (arith, l, x, no))

once-at-most : (at n : ℕ) → before (is-it at) n ≤ 1
once-at-most at zero = omega arith
once-at-most at (suc n) =
    let x = before-next (is-it at) n in
    let e : n + 1 ≡ suc n = omega arith in
    subst (λ k. before (is-it at) k ≤ 1) e (elim (cases_lt n (at + 1)) [
      | inl le ↦ let none = none-yet at n (omega (arith, le)) in let one = few-is at n in omega (arith, x, none, one)
      | inr past ↦ let no = not-it at n (λ e. omega (arith, e, past)) in let l = once-at-most at n in omega (arith, x, no, l)
    ])

-- ---- Attempts in turn

onward-from : (low from : ℕ) (ts : List Thread) → low ≤ from → AreOnward from (thread_entries ts) → AreOnward low (thread_entries ts)
onward-from low from [] le h = tt
onward-from low from (t ∷ ts) le h = let on = h.0 in (omega (arith, on, le), h.1, onward-from low from ts le h.2)

module _ (program : Program) (text : Text) (a : Liveness) (keys : Keys) (key_cost : Key → ℕ) (weight : List Thread → ℕ) (row : ℕ → List Thread) where
  abbrev Tried : (from next looks work : ℕ) (memory : List Key) (starts : List ℕ) → Type 0
  Tried from next looks work memory starts = Attempted program text a keys key_cost weight row from next looks work memory starts

  abbrev ready : ℕ → ℕ
  ready at = ready_at program text a keys key_cost weight row at

  -- The work so far is that of searches up to an offset that is at most `from`.
  record Low (from work : ℕ) (memory : List Key) (starts : List ℕ) : Type 0 where
    low : ℕ
    le : low ≤ from
    searched : Searched program text a keys key_cost weight low work (sum_by ready starts) memory

  record Counts (from next looks work : ℕ) (memory : List Key) (starts : List ℕ) : Type 0 where
    order : from ≤ next
    looked : looks ≤ from + next
    tried_at : (w : ℕ → ℕ) → sum_by w starts ≤ before w next + before w (from + 1)
    searched : Low from work memory starts

  one-more : (next : ℕ) (starts : List ℕ) → sum_by ready starts + ready next ≡ sum_by ready (next ∷ starts)
  one-more next starts = let x = sum_by-cons ready next starts in omega (arith, x)

  found-tried : (w : ℕ → ℕ) (from next on : ℕ) (starts : List ℕ) → next ≤ on → from < on → sum_by w starts ≤ before w next + before w (from + 1)
      → sum_by w (next ∷ starts) ≤ before w on + before w (on + 1)
  found-tried w from next on starts le less few =
      let x = sum_by-cons w next starts in
      let more = before-rises w (from + 1) on (omega (arith, less)) in
      let last = before-next w on in
      elim (cases_lt next on) [
        | inl past ↦
            let up = before-rises w (next + 1) on (omega (arith, past)) in
            let one = before-next w next in
            omega (arith, x, few, more, last, up, one)
        | inr ge ↦
            let same : next ≡ on = omega (arith, ge, le) in
            let here = ap w same in
            let there = ap (before w) same in
            omega (arith, x, few, more, last, here, there)
      ]

  counts : (from next looks work : ℕ) (memory : List Key) (starts : List ℕ) → Tried from next looks work memory starts → Counts from next looks work memory starts
  counts _ _ _ _ _ _ (at_first start) = record {
    order = omega arith;
    looked = omega arith;
    tried_at = λ w. omega arith;
    searched = record { low = 0; le = omega arith; searched = at_start };
  }
  counts _ _ _ _ _ _ (passed from next to looks work memory starts s le) =
      let c = counts from next looks work memory starts s in
      let order = c.order in
      let looked = c.looked in
      record {
        order = omega (arith, order, le);
        looked = omega (arith, looked, le);
        tried_at = λ w. let few = c.tried_at w in let up = before-rises w next to le in omega (arith, few, up);
        searched = c.searched;
      }
  counts _ _ _ _ _ _ (failed from next looks work more memory now starts turns f s e comes) =
      let c = counts from next looks work memory starts s in
      let order = c.order in
      let looked = c.looked in
      let l = c.searched in
      record {
        order = omega (arith, order);
        looked = omega (arith, looked);
        tried_at = λ w. let few = c.tried_at w in let x = sum_by-cons w next starts in let up = before-next w next in omega (arith, few, x, up);
        searched = record {
          low = l.low;
          le = l.le;
          searched =
              subst (λ r. Searched program text a keys key_cost weight l.low (work + more) r now) (one-more next starts)
              (search-failed l.low work (sum_by ready starts) more memory now (row next) turns f l.searched e comes);
        };
      }
  counts _ _ _ _ _ _ (found from next on looks work more memory now starts turns f t rest s e stands comes le less) =
      let c = counts from next looks work memory starts s in
      let order = c.order in
      let looked = c.looked in
      let l = c.searched in
      let low_is = l.le in
      let onward = turns-go-on program text a keys rightwards key_cost weight memory (row next) next more now (one_thread t ∷ rest) refl stands comes in
      let here = onward.0 in
      let reached : next ≤ on = omega (arith, here, le) in
      record {
        order = omega arith;
        looked = omega (arith, looked, reached, less);
        tried_at = λ w. found-tried w from next on starts reached less (c.tried_at w);
        searched = record {
          low = on;
          le = omega arith;
          searched =
              subst (λ r. Searched program text a keys key_cost weight on (work + more) r now) (one-more next starts)
              (search-found l.low on work (sum_by ready starts) more memory now t rest (row next) turns f l.searched e
              (onward-from l.low next (row next) (omega (arith, low_is, order)) stands) comes le (omega (arith, low_is, less)));
        };
      }

pub attempts-few : TotalWorkIsBounded
attempts-few program text a keys acc are key_cost weight row from next looks work memory starts s =
    let c = counts program text a keys key_cost weight row from next looks work memory starts s in
    let paid = matches-together program text a keys acc are key_cost weight c.searched.low work _ memory c.searched.searched in
    record {
      twice = λ at.
          let few = c.tried_at (is-it at) in
          let one = once-at-most at next in
          let other = once-at-most at (from + 1) in
          omega (arith, few, one, other);
      looked = c.looked;
      tried_at = c.tried_at;
      paid = paid;
      linear = λ last le.
          let order = c.order in
          let looked = c.looked in
          let few = c.tried_at (λ at. ready_at program text a keys key_cost weight row at) in
          let here = before-rises (λ at. ready_at program text a keys key_cost weight row at) next (last + 1) (omega (arith, le)) in
          let there = before-rises (λ at. ready_at program text a keys key_cost weight row at) (from + 1) (last + 1) (omega (arith, order, le)) in
          omega (arith, paid, few, here, there, looked, order, le);
    }
