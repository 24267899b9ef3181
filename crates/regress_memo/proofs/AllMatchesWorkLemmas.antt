-- Initial potentials and three times the cost of all keys bound the work of all searches of a text.
use Rattle.std.proofs.Common.{◌≡◌, ℕ, ◌+◌, ◌*◌, ◌≤◌, ◌<◌, List, [], ◌∷◌, Bool, true, false, ◌&&◌, refl, ap, subst, arith, sum_by, mul-le-mul_right}
use Rattle.std.specs.Prelude.{nat_le}
use Rattle.std.proofs.lemmas.Bool.{cases_lt, le-leb, leb-true}
use mathlib.Core.Logic.{inl, inr}
use Rattle.std.proofs.lemmas.List.Sums.{sum_by-cons, sum_by-append, sum_by-le-sum_by}
use Rattle.regex_meaning.specs.Laws.{Each}
use Rattle.regex_meaning.specs.Text.{Text, rightwards}
use Rattle.regex_meaning.specs.CodeUnitOffsets.{units}
use Rattle.regex_meaning.specs.CompilationRelation.{Program}
use Rattle.regex_meaning.proofs.BoolLemmas.{and-left, and-right}
use Rattle.regex_meaning.proofs.EachElementLemmas.{Each-left, Each-right}
use Rattle.regress_machine.specs.Machine.{Thread}
use Rattle.regress_memo.specs.Liveness.{Liveness, IsLivenessFor}
use Rattle.regress_memo.specs.DistinctLists.{IsIn}
use Rattle.regress_memo.specs.MemoSearch.{Key, Keys, Entry, one_thread, thread_group, key_record, offset_of_thread, AreOnward, keys_in, AreKeys, IsMemory}
use Rattle.regress_memo.specs.AllMatchesWork.{Searched, at_first, failed, found, AllMatchesWorkIsBounded, AllMatchesWorkIsLinear}
use Rattle.regress_memo.specs.ThreadPotentials.{place_keys}
use Rattle.regress_memo.proofs.ThreadPotentialLemmas.{places-keys}
use Rattle.regress_memo.proofs.DistinctListLemmas.{distinct-left, distinct-right, cost-few}
use Rattle.regress_memo.proofs.MemoSearchLemmas.{work-is-bounded, turns-go-on}

-- `times` adds up the costs of keys, each times the cover of its offset.
abbrev times : (key_cost : Key → ℕ) (cover : ℕ → ℕ) → List Key → ℕ
times key_cost cover ks = sum_by (λ k. cover k.at * key_cost k) ks

times-sum : (key_cost : Key → ℕ) (c e : ℕ → ℕ) (ks : List Key) → times key_cost (λ p. c p + e p) ks ≡ times key_cost c ks + times key_cost e ks
times-sum key_cost c e [] = refl
times-sum key_cost c e (k ∷ ks) =
    let x = sum_by-cons (λ (k : Key). (c k.at + e k.at) * key_cost k) k ks in
    let y = sum_by-cons (λ (k : Key). c k.at * key_cost k) k ks in
    let z = sum_by-cons (λ (k : Key). e k.at * key_cost k) k ks in
    let l = times-sum key_cost c e ks in
    omega (arith, x, y, z, l)

times-two : (key_cost : Key → ℕ) (ks : List Key) → times key_cost (λ p. 2) ks ≡ 2 * sum_by key_cost ks
times-two key_cost [] = refl
times-two key_cost (k ∷ ks) = let x = sum_by-cons (λ (k : Key). 2 * key_cost k) k ks in let y = sum_by-cons key_cost k ks in let l = times-two key_cost ks in omega (arith, x, y, l)

mul-le : (c e p : ℕ) → c ≤ e → c * p ≤ e * p
mul-le c e p le = mul-le-mul_right p le

one_if : Bool → ℕ
one_if true = 1
one_if false = 0

-- `between` is one for an offset from `from` to `to`, and zero for any other.
between : (from to p : ℕ) → ℕ
between from to p = one_if (nat_le from p && nat_le p to)

between-one : (from to p : ℕ) → from ≤ p → p ≤ to → between from to p ≡ 1
unfolding between one_if
between-one from to p a b = rw (le-leb from p a) (rw (le-leb p to b) refl)

between-most : (from to p : ℕ) → between from to p ≤ 1
unfolding between one_if
between-most from to p = by (nat_le from p && nat_le p to)
  where
    by : (b : Bool) → one_if b ≤ 1
    by true = omega arith
    by false = omega arith

between-none : (from to p : ℕ) → (from ≤ p → p ≤ to → ⊥) → between from to p ≡ 0
unfolding between one_if
between-none from to p out = by (nat_le from p && nat_le p to) refl
  where
    by : (b : Bool) → (nat_le from p && nat_le p to) ≡ b → one_if b ≡ 0
    by true e = absurd (out (leb-true from p (and-left _ _ e)) (leb-true p to (and-right _ _ e)))
    by false e = refl

-- The offset of a key is between two offsets.
record IsBetween (from to : ℕ) (k : Key) : Type 0 where
  first : from ≤ k.at
  last : k.at ≤ to

are-between : (from to : ℕ) (row : List Entry) → AreOnward from row → Each (λ k. k.at ≤ to) (keys_in row) → Each (IsBetween from to) (keys_in row)
are-between from to [] h k = tt
are-between from to (one_thread t ∷ row) h k = are-between from to row h.2 k
are-between from to (thread_group ts ∷ row) h k = are-between from to row h.1 k
are-between from to (key_record j ts ∷ row) h k = (record { first = h.0; last = k.0 }, are-between from to row h.1 k.1)

times-between : (key_cost : Key → ℕ) (from to : ℕ) (ks : List Key) → Each (IsBetween from to) ks → times key_cost (between from to) ks ≡ sum_by key_cost ks
times-between key_cost from to [] h = refl
times-between key_cost from to (k ∷ ks) h =
    let x = sum_by-cons (λ (k : Key). between from to k.at * key_cost k) k ks in
    let y = sum_by-cons key_cost k ks in
    let l = times-between key_cost from to ks h.1 in
    let one = ap (λ n. n * key_cost k) (between-one from to k.at h.0.first h.0.last) in
    omega (arith, x, y, l, one)

module _ (program : Program) (text : Text) (a : Liveness) (keys : Keys) (acc : IsLivenessFor program text a) (are : AreKeys program text a keys) (key_cost : Key → ℕ) (weight : List Thread → ℕ) where
  -- A cover counts an offset at most twice, `from` at most once, and no offset behind `from`.
  record IsCover (from : ℕ) (cover : ℕ → ℕ) : Type 0 where
    most : (p : ℕ) → cover p ≤ 2
    here : cover from ≤ 1
    beyond : (p : ℕ) → from < p → cover p ≡ 0

  record Sum (from work ready : ℕ) (memory : List Key) : Type 0 where
    memory_is : IsMemory program text a keys memory
    cover : ℕ → ℕ
    is_cover : IsCover from cover
    few : work ≤ ready + sum_by key_cost memory + times key_cost cover keys.all

  cover-more : (from to next : ℕ) (cover : ℕ → ℕ) → IsCover from cover → to ≤ next → from < next → IsCover next (λ p. cover p + between from to p)
  cover-more from to next cover c le less = record {
    most = most;
    here = let none = c.beyond next less in let one = between-most from to next in omega (arith, none, one);
    beyond = λ p far. let none = c.beyond p (omega (arith, far, less)) in let zero = between-none from to p (λ x y. omega (arith, y, far, le)) in omega (arith, none, zero);
  }
    where
      most : (p : ℕ) → cover p + between from to p ≤ 2
      most p = elim (cases_lt from p) [
        | inl past ↦ let none = c.beyond p past in let one = between-most from to p in omega (arith, none, one)
        | inr le ↦ elim (cases_lt p from) [
          | inl before ↦ let two = c.most p in let zero = between-none from to p (λ x y. omega (arith, x, before)) in omega (arith, two, zero)
          | inr ge ↦ let same : from ≡ p = omega (arith, le, ge) in let h = c.here in let here : cover p ≤ 1 = subst (λ q. cover q ≤ 1) same h in let one = between-most from to p in omega (arith, here, one)
        ]
      ]

  sums : (from work ready : ℕ) (memory : List Key) → Searched program text a keys key_cost weight from work ready memory → Sum from work ready memory
  sums _ _ _ _ at_first = record {
    memory_is = record { known = tt; distinct = tt; inside = tt };
    cover = λ p. 0;
    is_cover = record { most = λ p. omega arith; here = omega arith; beyond = λ p far. refl };
    few = omega arith;
  }
  sums _ _ _ _ (failed from work ready more memory now ts turns f s e c) =
      let b = sums from work ready memory s in
      let h = work-is-bounded program text a keys acc are rightwards key_cost weight memory ts turns f b.memory_is e more now [] c in
      let paid = h.paid in
      let few = b.few in
      record {
        memory_is = record { known = h.stands.known; distinct = h.stands.distinct; inside = h.stands.inside };
        cover = b.cover;
        is_cover = b.is_cover;
        few = omega (arith, paid, few);
      }
  sums _ _ _ _ (found from next work ready more memory now t rest ts turns f s e on c le less) =
      let row = one_thread t ∷ rest in
      let to = offset_of_thread t in
      let onward = turns-go-on program text a keys rightwards key_cost weight memory ts from more now row refl on c in
      let between_these = are-between from to rest onward.2 onward.1 in
      let b = sums from work ready memory s in
      let h = work-is-bounded program text a keys acc are rightwards key_cost weight memory ts turns f b.memory_is e more now row c in
      let paid = h.paid in
      let few = b.few in
      let ks = keys_in row in
      let all = sum_by-append key_cost ks now in
      let same = times-between key_cost from to ks between_these in
      let gone = cost-few (λ k. between from to k.at * key_cost k) ks keys.all (distinct-left ks now h.stands.distinct) (Each-left (λ j. IsIn j keys.all) ks now h.stands.inside) in
      let both = times-sum key_cost b.cover (between from to) keys.all in
      record {
        memory_is = record {
          known = h.stands.known;
          distinct = distinct-right ks now h.stands.distinct;
          inside = Each-right (λ j. IsIn j keys.all) ks now h.stands.inside;
        };
        cover = λ p. b.cover p + between from to p;
        is_cover = cover-more from to next b.cover b.is_cover le less;
        few = omega (arith, paid, few, all, same, gone, both);
      }

  together : (from work ready : ℕ) (memory : List Key) → Searched program text a keys key_cost weight from work ready memory → work ≤ ready + 3 * sum_by key_cost keys.all
  together from work ready memory s =
      let b = sums from work ready memory s in
      let few = b.few in
      let known = cost-few key_cost memory keys.all b.memory_is.distinct b.memory_is.inside in
      let cover = b.cover in
      let thrown = sum_by-le-sum_by (λ k. cover k.at * key_cost k) (λ k. 2 * key_cost k) keys.all (λ k. mul-le (cover k.at) 2 (key_cost k) (b.is_cover.most k.at)) in
      let two = times-two key_cost keys.all in
      omega (arith, few, known, thrown, two)

pub matches-together : AllMatchesWorkIsBounded
matches-together program text a keys acc are key_cost weight from work ready memory s = together program text a keys acc are key_cost weight from work ready memory s

pub linear-in-places : AllMatchesWorkIsLinear
linear-in-places program text a way ips code codes rows taken acc no_groups tells key_cost weight from work ready memory s =
    let keys = place_keys program code way ips (units text) codes rows taken in
    let bound = together program text a keys acc (places-keys.are program text a way ips code codes rows taken acc no_groups tells) (λ k. key_cost k.ip) weight from work ready memory s in
    let cost = ap (λ n. 3 * n) (places-keys.cost ips (units text) codes key_cost) in
    omega (arith, bound, cost)
