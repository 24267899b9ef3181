-- The case variants that the parser finds in its table of fold pairs are the specified ones.
use Rattle.std.proofs.Common.{◌≡◌, ℕ, zero, suc, ◌+◌, ◌-◌, ◌<◌, ◌≤◌, Bool, true, false, not, ◌&&◌, ◌||◌, ◌==◌, List, [], ◌∷◌, ◌++◌, filter, take, drop, length, max, Contains, slice_index_or, refl}
use Rattle.std.proofs.Common.{sym, ap, ap₂, subst, ◌∙◌, arith, inl, inr, ⊎_elim, true≢false, append_assoc}
use Rattle.std.proofs.Common.{nat_lt, nat_eq, eq-eqb, eqb-true}
use Rattle.std.specs.Prelude.{slice_range, if◌then◌else◌}
use Rattle.std.specs.Bool.{beq}
use Rattle.std.specs.List.{AllWithin}
use Rattle.std.specs.List.Sorted.{IsNonDecreasingBy}
use Rattle.std.proofs.lemmas.Bool.{and_parts, or_left, or_right, or_cases, ltb-true, lt-ltb, false_from_ne_true, cases_lt}
use Rattle.ucd_case.specs.CaseFolding.{simple_fold, fold_pairs}
use Rattle.ucd_case.specs.FoldOtherRows.{fold_other_rows}
use Rattle.ucd_case.proofs.FoldPairsLemmas.{IsFoldPairs-fold_pairs}
use Rattle.regex_meaning.specs.NumberListHelpers.{contains}
use Rattle.regex_meaning.specs.Canonical.{canonicalize, are_alike, AreIncreasing, AreCaseVariants}
use Rattle.regex_meaning.proofs.CaseLawLemmas.{alike-folds}
use Rattle.regex_meaning.proofs.BoolLemmas.{same-truth}
use Rattle.regex_meaning.proofs.CaseVariantListLemmas.{filter-has}
use Rattle.regex_meaning.proofs.ListLemmas.{contains-append}
use Rattle.regex_parser.specs.CaseVariantContracts.{match_each_other, AreOtherVariants, matching_seconds, is_between, is_on_side}

-- ---- The order of the fold pairs

abbrev rises : List (ℕ × ℕ) → Bool
rises [] = true
rises (p ∷ []) = true
rises (p ∷ q ∷ more) = (nat_lt p.0 q.0 || (nat_eq p.0 q.0 && nat_lt p.1 q.1)) && rises (q ∷ more)

pairs-rise : rises fold_pairs ≡ true
unfolding fold_pairs fold_other_rows
pairs-rise = refl

next-least : (p q : ℕ × ℕ) → (nat_lt p.0 q.0 || (nat_eq p.0 q.0 && nat_lt p.1 q.1)) ≡ true → p.0 ≤ q.0
next-least p q e =
    ⊎_elim (λ l. let k = ltb-true p.0 q.0 l in omega (arith, k))
    (λ h. let k = eqb-true p.0 q.0 (and_parts (nat_eq p.0 q.0) (nat_lt p.1 q.1) h).0 in omega (arith, k)) (or_cases (nat_lt p.0 q.0) _ e)

first-least : (p : ℕ × ℕ) (ps : List (ℕ × ℕ)) → rises (p ∷ ps) ≡ true → (j : ℕ) (d : ℕ × ℕ) → j < length (p ∷ ps) → p.0 ≤ (slice_index_or (p ∷ ps) j d).0
first-least p ps h zero d l = omega arith
first-least p [] h (suc j) d l = absurd (omega (arith, l))
first-least p (q ∷ ps) h (suc j) d l =
    let k = and_parts (nat_lt p.0 q.0 || (nat_eq p.0 q.0 && nat_lt p.1 q.1)) (rises (q ∷ ps)) h in
    let a = next-least p q k.0 in let b = first-least q ps k.1 j d (omega (arith, l)) in omega (arith, a, b)

rest-rises : (p : ℕ × ℕ) (ps : List (ℕ × ℕ)) → rises (p ∷ ps) ≡ true → rises ps ≡ true
rest-rises p [] h = refl
rest-rises p (q ∷ ps) h = (and_parts (nat_lt p.0 q.0 || (nat_eq p.0 q.0 && nat_lt p.1 q.1)) (rises (q ∷ ps)) h).1

firsts-rise : (ps : List (ℕ × ℕ)) → rises ps ≡ true → IsNonDecreasingBy (λ (p : ℕ × ℕ). p.0) ps
firsts-rise [] h i j d le lt = absurd (omega (arith, lt))
firsts-rise (p ∷ ps) h zero j d le lt = first-least p ps h j d lt
firsts-rise (p ∷ ps) h (suc i) zero d le lt = absurd (omega (arith, le))
firsts-rise (p ∷ ps) h (suc i) (suc j) d le lt = firsts-rise ps (rest-rises p ps h) i j d (omega (arith, le)) (omega (arith, lt))

pub fold-pairs-sorted : IsNonDecreasingBy (λ (p : ℕ × ℕ). p.0) fold_pairs
fold-pairs-sorted = firsts-rise fold_pairs pairs-rise

-- ---- Positions in an ordered list of pairs

same-at : (ps : List (ℕ × ℕ)) (k : ℕ) (d e : ℕ × ℕ) → k < length ps → slice_index_or ps k d ≡ slice_index_or ps k e
same-at [] k d e l = absurd (omega (arith, l))
same-at (p ∷ ps) zero d e l = refl
same-at (p ∷ ps) (suc k) d e l = same-at ps k d e (omega (arith, l))

pub below-through : (ps : List (ℕ × ℕ)) (bound middle n : ℕ) (e : ℕ × ℕ) → IsNonDecreasingBy (λ (p : ℕ × ℕ). p.0) ps → middle < length ps
    → n ≡ (slice_index_or ps middle e).0 → n < bound → AllWithin (λ (p : ℕ × ℕ). p.0 < bound) ps 0 (middle + 1)
below-through ps bound middle n e s l is less k d from below =
    let a = s k middle d (omega (arith, below)) l in
    let b : (slice_index_or ps middle d).0 ≡ (slice_index_or ps middle e).0 = ap (λ (p : ℕ × ℕ). p.0) (same-at ps middle d e l) in
    omega (arith, a, b, is, less)

pub above-from : (ps : List (ℕ × ℕ)) (bound middle n : ℕ) (e : ℕ × ℕ) → IsNonDecreasingBy (λ (p : ℕ × ℕ). p.0) ps → middle < length ps
    → n ≡ (slice_index_or ps middle e).0 → bound ≤ n → AllWithin (λ (p : ℕ × ℕ). bound ≤ p.0) ps middle (length ps)
above-from ps bound middle n e s l is least k d from within =
    let a = s middle k d from within in
    let b : (slice_index_or ps middle d).0 ≡ (slice_index_or ps middle e).0 = ap (λ (p : ℕ × ℕ). p.0) (same-at ps middle d e l) in
    omega (arith, a, b, is, least)

-- ---- Elements between two positions, which are those that pass a test

module _ {X : Type 0} (test : X → Bool) where
  filter-none : (xs : List X) → ((k : ℕ) (d : X) → k < length xs → test (slice_index_or xs k d) ≡ false) → filter test xs ≡ []
  filter-none [] h = refl
  filter-none (x ∷ xs) h =
      let e : test x ≡ false = h zero x (omega arith) in
      rw e (filter-none xs (λ k d l. h (suc k) d (omega (arith, l))))

  filter-first : (xs : List X) (n : ℕ) → ((k : ℕ) (d : X) → k < n → k < length xs → test (slice_index_or xs k d) ≡ true)
      → ((k : ℕ) (d : X) → n ≤ k → k < length xs → test (slice_index_or xs k d) ≡ false) → take n xs ≡ filter test xs
  filter-first [] zero h g = refl
  filter-first [] (suc n) h g = refl
  filter-first (x ∷ xs) zero h g = sym (filter-none (x ∷ xs) (λ k d l. g k d (omega arith) l))
  filter-first (x ∷ xs) (suc n) h g =
      let e : test x ≡ true = h zero x (omega arith) (omega arith) in
      rw e (ap (λ ys. x ∷ ys) (filter-first xs n (λ k d l m. h (suc k) d (omega (arith, l)) (omega (arith, m))) (λ k d l m. g (suc k) d (omega (arith, l)) (omega (arith, m)))))

  filter-middle : (xs : List X) (i n : ℕ) → ((k : ℕ) (d : X) → k < i → k < length xs → test (slice_index_or xs k d) ≡ false)
      → ((k : ℕ) (d : X) → i ≤ k → k < i + n → k < length xs → test (slice_index_or xs k d) ≡ true)
      → ((k : ℕ) (d : X) → i + n ≤ k → k < length xs → test (slice_index_or xs k d) ≡ false) → take n (drop i xs) ≡ filter test xs
  filter-middle xs zero n before within behind = filter-first xs n (λ k d l m. within k d (omega arith) (omega (arith, l)) m) (λ k d l m. behind k d (omega (arith, l)) m)
  filter-middle [] (suc i) zero before within behind = refl
  filter-middle [] (suc i) (suc n) before within behind = refl
  filter-middle (x ∷ xs) (suc i) n before within behind =
      let e : test x ≡ false = before zero x (omega arith) (omega arith) in
      rw e (filter-middle xs i n (λ k d l m. before (suc k) d (omega (arith, l)) (omega (arith, m))) (λ k d l m o. within (suc k) d (omega (arith, l)) (omega (arith, m)) (omega (arith, o))) (λ k d l m. behind (suc k) d (omega (arith, l)) (omega (arith, m))))

between-true : (first last c : ℕ) → first ≤ c → c < last + 1 → is_between first last c ≡ true
between-true first last c l m = grind arith

between-low : (first last c : ℕ) → c < first → is_between first last c ≡ false
between-low first last c l = grind arith

between-high : (first last c : ℕ) → last + 1 ≤ c → is_between first last c ≡ false
between-high first last c l = grind arith

pub pairs-between : (first last start end low high n : ℕ) (ps : List (ℕ × ℕ)) → ps ≡ fold_pairs → low ≡ first → high ≡ last → n ≡ max end start
    → AllWithin (λ (p : ℕ × ℕ). p.0 < low) ps 0 start → AllWithin (λ (p : ℕ × ℕ). low ≤ p.0) ps start (length ps)
    → AllWithin (λ (p : ℕ × ℕ). p.0 < high + 1) ps 0 end → AllWithin (λ (p : ℕ × ℕ). high + 1 ≤ p.0) ps end (length ps)
    → slice_range ps start n ≡ filter (λ (p : ℕ × ℕ). is_between first last p.0) fold_pairs
pairs-between first last start end low high n ps all e f g below from upto above =
    filter-middle (λ (p : ℕ × ℕ). is_between first last p.0) ps start (n - start)
    (λ k d l m. let x = below k d (omega arith) l in between-low first last _ (omega (arith, x, e)))
    (λ k d l m o. let x = from k d l o in let y = upto k d (omega arith) (before-end k l m) in between-true first last _ (omega (arith, x, e)) (omega (arith, y, f)))
    (λ k d l m. let x = above k d (behind-end k l) m in between-high first last _ (omega (arith, x, f)))
    ∙ ap (filter (λ (p : ℕ × ℕ). is_between first last p.0)) all
  where
    before-end : (k : ℕ) → start ≤ k → k < start + (n - start) → k < end
    before-end k l m = omega (arith, l, m, g)

    behind-end : (k : ℕ) → start + (n - start) ≤ k → end ≤ k
    behind-end k l = omega (arith, l, g)

-- ---- Second numbers of the matching pairs whose first number passes a test

module _ (unicode : Bool) (test : ℕ → Bool) where
  abbrev pub chosen : List (ℕ × ℕ) → List ℕ
  chosen ps = matching_seconds unicode (filter (λ (p : ℕ × ℕ). test p.0) ps)

  abbrev joined : (first match : Bool) → ℕ → List ℕ → List ℕ
  joined first match x xs = if first then (if match then x ∷ xs else xs) else xs

  chosen-more : (p : ℕ × ℕ) (ps : List (ℕ × ℕ)) → chosen (p ∷ ps) ≡ joined (test p.0) (match_each_other unicode p.0 p.1) p.1 (chosen ps)
  chosen-more p ps = by (test p.0) refl (match_each_other unicode p.0 p.1) refl
    where
      by : (b : Bool) → test p.0 ≡ b → (m : Bool) → match_each_other unicode p.0 p.1 ≡ m → chosen (p ∷ ps) ≡ joined b m p.1 (chosen ps)
      by false e m f = rw e refl
      by true e true f = rw (e, f) refl
      by true e false f = rw (e, f) refl

  pub chosen-have : (ps : List (ℕ × ℕ)) (a d : ℕ) → Contains {X = ℕ × ℕ} ps (a, d) → test a ≡ true → match_each_other unicode a d ≡ true → contains (chosen ps) d ≡ true
  chosen-have [] a d (k, l, at) t e = absurd (omega (arith, l))
  chosen-have (p ∷ ps) a d (zero, l, at) t e =
      subst (λ xs. contains xs d ≡ true) (sym (chosen-more p ps ∙ ap₂ (λ b m. joined b m p.1 (chosen ps)) (ap (λ (x : ℕ × ℕ). test x.0) at ∙ t) (ap (λ (x : ℕ × ℕ). match_each_other unicode x.0 x.1) at ∙ e)))
      (or_left (nat_eq d p.1) _ (eq-eqb d p.1 (sym (ap (λ (x : ℕ × ℕ). x.1) at))))
  chosen-have (p ∷ ps) a d (suc k, l, at) t e =
      subst (λ xs. contains xs d ≡ true) (sym (chosen-more p ps)) (by (test p.0) (match_each_other unicode p.0 p.1) (chosen-have ps a d (k, omega (arith, l), at) t e))
    where
      by : (b m : Bool) → contains (chosen ps) d ≡ true → contains (joined b m p.1 (chosen ps)) d ≡ true
      by true true g = or_right (nat_eq d p.1) _ g
      by true false g = g
      by false m g = g

  -- `Chosen ps d` gives a matching pair of `ps` with `d` second whose first number passes the test.
  abbrev pub Chosen : List (ℕ × ℕ) → ℕ → Type 0
  Chosen ps d = (a : ℕ) × Contains {X = ℕ × ℕ} ps (a, d) × (test a ≡ true) × (match_each_other unicode a d ≡ true)

  chosen-later : (p : ℕ × ℕ) (ps : List (ℕ × ℕ)) (d : ℕ) → Chosen ps d → Chosen (p ∷ ps) d
  chosen-later p ps d (a, (k, l, at), t, e) = (a, (suc k, omega (arith, l), at), t, e)

  pub chosen-from : (ps : List (ℕ × ℕ)) (d : ℕ) → contains (chosen ps) d ≡ true → Chosen ps d
  chosen-from [] d e = absurd (true≢false (sym e))
  chosen-from (p ∷ ps) d e =
      by (test p.0) refl (match_each_other unicode p.0 p.1) refl (λ h. chosen-later p ps d (chosen-from ps d h)) (subst (λ xs. contains xs d ≡ true) (chosen-more p ps) e)
    where
      by : (b : Bool) → test p.0 ≡ b → (m : Bool) → match_each_other unicode p.0 p.1 ≡ m → (contains (chosen ps) d ≡ true → Chosen (p ∷ ps) d)
          → contains (joined b m p.1 (chosen ps)) d ≡ true → Chosen (p ∷ ps) d
      by true f true g later h =
          ⊎_elim (λ k. let same = eqb-true d p.1 k in (p.0, (zero, omega arith, ap (λ (x : ℕ). (p.0, x)) (sym same)), f, ap (match_each_other unicode p.0) same ∙ g)) later (or_cases (nat_eq d p.1) _ h)
      by true f false g later h = later h
      by false f m g later h = later h

-- ---- Characters that match a given one

module _ (unicode : Bool) (c : ℕ) where
  abbrev seconds : List (ℕ × ℕ) → List ℕ
  seconds ps = chosen unicode (is_between c c) ps

  first-same : (p : ℕ × ℕ) → is_between c c p.0 ≡ true → p.0 ≡ c
  first-same p e = same p.0 c e
    where
      same : (a b : ℕ) → is_between b b a ≡ true → a ≡ b
      same a b e = grind arith

  first-other : (p : ℕ × ℕ) → is_between c c p.0 ≡ false → c ≤ p.0 → c < p.0
  first-other p e l = other p.0 c e l
    where
      other : (a b : ℕ) → is_between b b a ≡ false → b ≤ a → b < a
      other a b e l = grind arith

  not-first : (r : ℕ × ℕ) → c < r.0 → is_between c c r.0 ≡ false
  not-first r l = other r.0 c l
    where
      other : (a b : ℕ) → b < a → is_between b b a ≡ false
      other a b l = grind arith

  itself-first : is_between c c c ≡ true
  itself-first = same c
    where
      same : (a : ℕ) → is_between a a a ≡ true
      same a = grind arith

  lower-first : (x y : ℕ) (ys : List ℕ) → x < y → AreIncreasing (y ∷ ys) → AreIncreasing (x ∷ ys)
  lower-first x y [] l h = tt
  lower-first x y (z ∷ zs) l h = let k = ltb-true y z h.0 in (lt-ltb x z (omega (arith, l, k)), h.1)

  none-behind : (rs : List (ℕ × ℕ)) (n : ℕ) → c < n → ((j : ℕ) (d : ℕ × ℕ) → j < length rs → n ≤ (slice_index_or rs j d).0) → seconds rs ≡ []
  none-behind rs n l g =
      ap (matching_seconds unicode) (filter-none (λ (r : ℕ × ℕ). is_between c c r.0) rs (λ j d m. not-first (slice_index_or rs j d) (let x = g j d m in omega (arith, l, x))))

  pairs-behind : (q : ℕ × ℕ) (qs : List (ℕ × ℕ)) → rises (q ∷ qs) ≡ true → (j : ℕ) (d : ℕ × ℕ) → j < length qs → q.0 ≤ (slice_index_or qs j d).0
  pairs-behind q qs r j d l = first-least q qs r (suc j) d (omega (arith, l))

  second-below : (p q : ℕ × ℕ) → (nat_lt p.0 q.0 || (nat_eq p.0 q.0 && nat_lt p.1 q.1)) ≡ true → p.0 ≡ c → q.0 ≡ c → p.1 < q.1
  second-below p q k e g =
      ⊎_elim (λ l. let x = ltb-true p.0 q.0 l in absurd (omega (arith, x, e, g))) (λ l. ltb-true p.1 q.1 (and_parts (nat_eq p.0 q.0) (nat_lt p.1 q.1) l).1) (or_cases (nat_lt p.0 q.0) _ k)

  -- The second number of a pair of `c` and those chosen from the later pairs are increasing.
  increasing-behind : (p : ℕ × ℕ) (ps : List (ℕ × ℕ)) → rises (p ∷ ps) ≡ true → p.0 ≡ c → AreIncreasing (p.1 ∷ seconds ps)
  increasing-behind p [] h e = tt
  increasing-behind p (q ∷ qs) h e =
      let k = and_parts (nat_lt p.0 q.0 || (nat_eq p.0 q.0 && nat_lt p.1 q.1)) (rises (q ∷ qs)) h in
      subst (λ xs. AreIncreasing (p.1 ∷ xs)) (sym (chosen-more unicode (is_between c c) q qs))
      (by (is_between c c q.0) refl (match_each_other unicode q.0 q.1) k.0 k.1 (λ f. increasing-behind q qs k.1 f))
    where
      by : (b : Bool) → is_between c c q.0 ≡ b → (m : Bool) → (nat_lt p.0 q.0 || (nat_eq p.0 q.0 && nat_lt p.1 q.1)) ≡ true → rises (q ∷ qs) ≡ true
          → (q.0 ≡ c → AreIncreasing (q.1 ∷ seconds qs)) → AreIncreasing (p.1 ∷ joined unicode (is_between c c) b m q.1 (seconds qs))
      by true f true k r rest = (lt-ltb p.1 q.1 (second-below p q k e (first-same q f)), rest (first-same q f))
      by true f false k r rest = lower-first p.1 q.1 (seconds qs) (second-below p q k e (first-same q f)) (rest (first-same q f))
      by false f m k r rest =
          subst (λ xs. AreIncreasing (p.1 ∷ xs)) (sym (none-behind qs q.0 (first-other q f (let x = next-least p q k in omega (arith, x, e))) (pairs-behind q qs r))) tt

  increasing-all : (ps : List (ℕ × ℕ)) → rises ps ≡ true → AreIncreasing (seconds ps)
  increasing-all [] h = tt
  increasing-all (p ∷ ps) h =
      subst AreIncreasing (sym (chosen-more unicode (is_between c c) p ps)) (by (is_between c c p.0) refl (match_each_other unicode p.0 p.1) (increasing-all ps (rest-rises p ps h)))
    where
      by : (b : Bool) → is_between c c p.0 ≡ b → (m : Bool) → AreIncreasing (seconds ps) → AreIncreasing (joined unicode (is_between c c) b m p.1 (seconds ps))
      by true f true rest = increasing-behind p ps h (first-same p f)
      by true f false rest = rest
      by false f m rest = rest

  pub folds-alike : (d : ℕ) → match_each_other unicode c d ≡ true → simple_fold c ≡ simple_fold d
  unfolding canonicalize
  folds-alike d e = by unicode e
    where
      by : (u : Bool) → match_each_other u c d ≡ true → simple_fold c ≡ simple_fold d
      by true e = eqb-true _ _ e
      by false e = alike-folds c d (eqb-true _ _ e)

  pub other-variants : AreOtherVariants unicode c (seconds fold_pairs)
  other-variants = record {
    increasing = increasing-all fold_pairs pairs-rise;
    same = λ d. same-truth _ _ (λ e. from d (chosen-from unicode (is_between c c) fold_pairs d e)) (λ e. to d (and_parts (not (c == d)) _ e));
  }
    where
      apart : (d : ℕ) → Contains {X = ℕ × ℕ} fold_pairs (c, d) → (c == d) ≡ false
      apart d h = false_from_ne_true (c == d) (λ f. ((IsFoldPairs-fold_pairs c d).0 h).0 (eqb-true c d f))

      from : (d : ℕ) → Chosen unicode (is_between c c) fold_pairs d → (not (c == d) && match_each_other unicode c d) ≡ true
      from d (a, h, t, e) =
          let same = first-same (a, d) t in
          rw (apart d (subst (λ (x : ℕ). Contains {X = ℕ × ℕ} fold_pairs (x, d)) same h), sym (ap (λ x. match_each_other unicode x d) same) ∙ e) refl

      to : (d : ℕ) → (not (c == d) ≡ true) × (match_each_other unicode c d ≡ true) → contains (seconds fold_pairs) d ≡ true
      to d (n, e) = chosen-have unicode (is_between c c) fold_pairs c d ((IsFoldPairs-fold_pairs c d).1 (λ f. true≢false (sym n ∙ ap not (eq-eqb c d f)), folds-alike d e)) itself-first e

-- ---- The variants in order, with the character itself

module _ (c : ℕ) where
  below-true : (d : ℕ) → d < c → is_on_side c true d ≡ true
  below-true d l = rw (lt-ltb d c l) refl

  below-false : (d : ℕ) → is_on_side c true d ≡ true → d < c
  below-false d e = by (nat_lt d c) refl e
    where
      by : (b : Bool) → nat_lt d c ≡ b → beq b true ≡ true → d < c
      by true f g = ltb-true d c f
      by false f g = absurd (true≢false (sym g))

  above-true : (d : ℕ) → c < d → is_on_side c false d ≡ true
  above-true d l = ap (λ b. beq b false) (false_from_ne_true (nat_lt d c) (λ f. let k = ltb-true d c f in omega (arith, k, l)))

  above-false : (d : ℕ) → is_on_side c false d ≡ true → c ≤ d
  above-false d e = by (nat_lt d c) refl e
    where
      by : (b : Bool) → nat_lt d c ≡ b → beq b false ≡ true → c ≤ d
      by true f g = absurd (true≢false (sym g))
      by false f g = elim (cases_lt d c) [ inl l ↦ absurd (true≢false (sym (lt-ltb d c l) ∙ f)) | inr l ↦ l ]

  skip : (x y : ℕ) (ys : List ℕ) → AreIncreasing (x ∷ y ∷ ys) → AreIncreasing (x ∷ ys)
  skip x y [] h = tt
  skip x y (z ∷ zs) h = let a = ltb-true x y h.0 in let b = ltb-true y z h.1.0 in (lt-ltb x z (omega (arith, a, b)), h.1.1)

  after-first : (x : ℕ) (xs : List ℕ) → AreIncreasing (x ∷ xs) → AreIncreasing xs
  after-first x [] h = tt
  after-first x (y ∷ ys) h = h.1

  above-tail : (y : ℕ) (ys : List ℕ) → AreIncreasing (y ∷ ys) → c < y → AreIncreasing (y ∷ filter (is_on_side c false) ys)
  above-tail y [] g l = tt
  above-tail y (z ∷ zs) g l =
      let k = ltb-true y z g.0 in
      rw (above-true z (omega (arith, k, l))) (g.0, above-tail z zs g.1 (omega (arith, k, l)))

  not-first-of : (x : ℕ) (xs : List ℕ) → contains (x ∷ xs) c ≡ false → c ≡ x → ⊥
  not-first-of x xs n e = true≢false (sym (or_left (nat_eq c x) (contains xs c) (eq-eqb c x e)) ∙ n)

  not-later : (x : ℕ) (xs : List ℕ) → contains (x ∷ xs) c ≡ false → contains xs c ≡ false
  not-later x xs n = false_from_ne_true (contains xs c) (λ e. true≢false (sym (or_right (nat_eq c x) (contains xs c) e) ∙ n))

  -- The number `c`, then the numbers above it in an increasing list without `c`, are increasing.
  above-increasing : (xs : List ℕ) → AreIncreasing xs → contains xs c ≡ false → AreIncreasing (c ∷ filter (is_on_side c false) xs)
  above-increasing [] h n = tt
  above-increasing (x ∷ xs) h n = by (is_on_side c false x) refl (above-increasing xs (after-first x xs h) (not-later x xs n))
    where
      apart : c ≤ x → c < x
      apart l = elim (cases_lt c x) [ inl k ↦ k | inr k ↦ absurd (not-first-of x xs n (omega (arith, k, l))) ]

      by : (b : Bool) → is_on_side c false x ≡ b → AreIncreasing (c ∷ filter (is_on_side c false) xs) → AreIncreasing (c ∷ filter (is_on_side c false) (x ∷ xs))
      by true e rest = let l = apart (above-false x e) in rw e (lt-ltb c x l, above-tail x xs h l)
      by false e rest = rw e rest

  below-first : (x : ℕ) (xs ys : List ℕ) → AreIncreasing (c ∷ ys) → x < c → AreIncreasing (x ∷ xs) → AreIncreasing (x ∷ (filter (is_on_side c true) xs ++ c ∷ ys))
  below-first x [] ys g l k = (lt-ltb x c l, g)
  below-first x (y ∷ zs) ys g l k = by (is_on_side c true y) refl (λ m. below-first y zs ys g m k.1) (below-first x zs ys g l (skip x y zs k))
    where
      by : (b : Bool) → is_on_side c true y ≡ b → (y < c → AreIncreasing (y ∷ (filter (is_on_side c true) zs ++ c ∷ ys)))
          → AreIncreasing (x ∷ (filter (is_on_side c true) zs ++ c ∷ ys)) → AreIncreasing (x ∷ (filter (is_on_side c true) (y ∷ zs) ++ c ∷ ys))
      by true e rest other = rw e (k.0, rest (below-false y e))
      by false e rest other = rw e other

  -- An increasing list from `c` on stays increasing with the lower numbers of `xs` before it.
  both-increasing : (xs ys : List ℕ) → AreIncreasing xs → AreIncreasing (c ∷ ys) → AreIncreasing (filter (is_on_side c true) xs ++ c ∷ ys)
  both-increasing [] ys h g = g
  both-increasing (x ∷ zs) ys h g = by (is_on_side c true x) refl (both-increasing zs ys (after-first x zs h) g)
    where
      by : (b : Bool) → is_on_side c true x ≡ b → AreIncreasing (filter (is_on_side c true) zs ++ c ∷ ys) → AreIncreasing (filter (is_on_side c true) (x ∷ zs) ++ c ∷ ys)
      by true e rest = rw e (below-first x zs ys g (below-false x e) h)
      by false e rest = rw e rest

pub pushed : (c : ℕ) (a b d e others : List ℕ) → a ≡ [] → b ≡ a ++ filter (is_on_side c true) others → d ≡ b ++ c ∷ [] → e ≡ d ++ filter (is_on_side c false) others
    → e ≡ filter (is_on_side c true) others ++ c ∷ filter (is_on_side c false) others
pushed c a b d e others f g h k =
    k ∙ ap (λ x. x ++ filter (is_on_side c false) others) (h ∙ ap (λ x. x ++ c ∷ []) (g ∙ ap (λ x. x ++ filter (is_on_side c true) others) f))
    ∙ append_assoc (filter (is_on_side c true) others) (c ∷ []) (filter (is_on_side c false) others)

pub all-variants : (unicode : Bool) (c : ℕ) (others : List ℕ) → AreOtherVariants unicode c others
    → AreCaseVariants true unicode c (filter (is_on_side c true) others ++ c ∷ filter (is_on_side c false) others)
all-variants unicode c others h = record {
  increasing = both-increasing c others (filter (is_on_side c false) others) h.increasing (above-increasing c others h.increasing not-itself);
  same = λ d. same-truth _ _ (λ e. to d e) (λ e. from d e);
}
  where
    not-itself : contains others c ≡ false
    not-itself = h.same c ∙ rw (eq-eqb c c refl) refl

    matching : (d : ℕ) → contains others d ≡ true → match_each_other unicode c d ≡ true
    matching d e = (and_parts (not (c == d)) _ (sym (h.same d) ∙ e)).1

    to : (d : ℕ) → contains (filter (is_on_side c true) others ++ c ∷ filter (is_on_side c false) others) d ≡ true → are_alike true unicode c d ≡ true
    to d e =
        ⊎_elim (λ k. matching d (and_parts (contains others d) _ (sym (filter-has (is_on_side c true) others d) ∙ k)).0)
        (λ k. ⊎_elim (λ f. itself (eqb-true d c f)) (λ f. matching d (and_parts (contains others d) _ (sym (filter-has (is_on_side c false) others d) ∙ f)).0) (or_cases (nat_eq d c) _ k))
        (or_cases (contains (filter (is_on_side c true) others) d) _ (sym (contains-append (filter (is_on_side c true) others) (c ∷ filter (is_on_side c false) others) d) ∙ e))
      where
        itself : d ≡ c → match_each_other unicode c d ≡ true
        itself f = eq-eqb _ _ (ap (canonicalize unicode) (sym f))

    from : (d : ℕ) → are_alike true unicode c d ≡ true → contains (filter (is_on_side c true) others ++ c ∷ filter (is_on_side c false) others) d ≡ true
    from d e =
        contains-append (filter (is_on_side c true) others) (c ∷ filter (is_on_side c false) others) d
        ∙ elim (cases_lt d c) [
          | inl l ↦ or_left (contains (filter (is_on_side c true) others) d) _ (filter-has (is_on_side c true) others d ∙ rw (other (λ f. omega (arith, f, l)), below-true c d l) refl)
          | inr l ↦ or_right (contains (filter (is_on_side c true) others) d) _ (by (nat_eq d c) refl l)
        ]
      where
        other : (c ≡ d → ⊥) → contains others d ≡ true
        other n = h.same d ∙ rw (false_from_ne_true (c == d) (λ f. n (eqb-true c d f)), e) refl

        by : (b : Bool) → nat_eq d c ≡ b → c ≤ d → contains (c ∷ filter (is_on_side c false) others) d ≡ true
        by true f l = or_left (nat_eq d c) _ f
        by false f l =
            or_right (nat_eq d c) _ (filter-has (is_on_side c false) others d ∙ rw (other (λ g. true≢false (sym (eq-eqb d c (sym g)) ∙ f)), above-true c d (apart l)) refl)
          where
            apart : c ≤ d → c < d
            apart l = elim (cases_lt c d) [ inl k ↦ k | inr k ↦ absurd (true≢false (sym (eq-eqb d c (omega (arith, k, l))) ∙ f)) ]

pub alone-variant : (unicode : Bool) (c : ℕ) → AreCaseVariants false unicode c (c ∷ [])
alone-variant unicode c = record { increasing = tt; same = λ d. same-truth _ _ (λ e. to d e) (λ e. or_left (nat_eq d c) false (eq-eqb d c (sym (eqb-true c d e)))) }
  where
    to : (d : ℕ) → (nat_eq d c || false) ≡ true → nat_eq c d ≡ true
    to d e = ⊎_elim (λ f. eq-eqb c d (sym (eqb-true d c f))) (λ f. absurd (true≢false (sym f))) (or_cases (nat_eq d c) false e)
