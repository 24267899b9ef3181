-- Each character has exactly one list of case variants, which has at most four members.
use Rattle.std.proofs.Common.{◌≡◌, ◌≢◌, ◌⊎◌, ℕ, zero, suc, ◌<◌, ◌≤◌, Bool, true, false, not, ◌&&◌, ◌||◌, ◌==◌, nat_le, nat_lt, nat_eq, List, [], ◌∷◌, length, filter, Contains, refl, sym, ap, ap₂}
use Rattle.std.proofs.Common.{subst, ◌∙◌, arith, inl, inr, ⊎_elim, leb-true, eqb-true, eq-eqb}
use Rattle.std.proofs.Common.{true≢false, le_of_suc-le-suc, not-suc-le-zero}
use Rattle.std.specs.Prelude.{if◌then◌else◌}
use Rattle.std.specs.List.{list_all}
use Rattle.std.proofs.lemmas.Bool.{cond_both, and_parts, or_cases, or_left, or_right, lt-ltb, ltb-true, false_from_ne_true, ltb-false, cases_lt, not-true}
use Rattle.ucd_table.specs.Rows.{Row, value_in}
use Rattle.ucd_table.proofs.Computing.{tables}
use Rattle.ucd_table.proofs.Stepped.{Stepped, of_rows}
use Rattle.ucd_table.proofs.Facts.{tree_value-tree_of}
use Rattle.ucd_case.specs.FoldOtherRows.{fold_other_rows}
use Rattle.ucd_case.specs.CaseFolding.{simple_fold, fold_pairs}
use Rattle.ucd_case.proofs.FoldPairsLemmas.{IsFoldPairs-fold_pairs}
use Rattle.regex_meaning.specs.NumberListHelpers.{contains}
use Rattle.regex_meaning.specs.Canonical.{canonicalize, are_alike, AreIncreasing, AreCaseVariants}
use Rattle.regex_meaning.specs.CaseLaws.{EachCharacterHasCaseVariants, CaseVariantsAreFew}
use Rattle.regex_meaning.proofs.CaseLawLemmas.{alike-folds}
use Rattle.regex_meaning.proofs.FirstByteOfCharacter.{contains-cons}

-- ---- Increasing lists

rest-increasing : (x : ℕ) (xs : List ℕ) → AreIncreasing (x ∷ xs) → AreIncreasing xs
rest-increasing x [] h = tt
rest-increasing x (y ∷ ys) h = h.1

-- An increasing list stays increasing without its second member.
skip-second : (x y : ℕ) (ys : List ℕ) → AreIncreasing (x ∷ y ∷ ys) → AreIncreasing (x ∷ ys)
skip-second x y [] h = tt
skip-second x y (z ∷ zs) h =
    let a = ltb-true x y h.0 in let b = ltb-true y z h.1.0 in (lt-ltb x z (omega (arith, a, b)), h.1.1)

-- The first member of an increasing list is less than each later one.
first-least : (x : ℕ) (xs : List ℕ) (d : ℕ) → AreIncreasing (x ∷ xs) → contains xs d ≡ true → x < d
first-least x [] d h e = absurd (true≢false (sym e))
first-least x (y ∷ ys) d h e =
    ⊎_elim (λ f. let a = ltb-true x y h.0 in let b = eqb-true d y f in omega (arith, a, b)) (λ f. first-least x ys d (skip-second x y ys h) f) (or_cases (nat_eq d y) (contains ys d) e)

itself : (x : ℕ) (xs : List ℕ) → contains (x ∷ xs) x ≡ true
itself x xs = or_left (nat_eq x x) (contains xs x) (eq-eqb x x refl)

none-of-itself : (x : ℕ) (xs : List ℕ) → AreIncreasing (x ∷ xs) → contains xs x ≡ false
none-of-itself x xs h = false_from_ne_true (contains xs x) (λ e. let a = first-least x xs x h e in absurd (omega (arith, a)))

at-least : (x : ℕ) (xs : List ℕ) (d : ℕ) → AreIncreasing (x ∷ xs) → contains (x ∷ xs) d ≡ true → x ≤ d
at-least x xs d h e =
    ⊎_elim (λ f. let a = eqb-true d x f in omega (arith, a)) (λ f. let a = first-least x xs d h f in omega (arith, a)) (or_cases (nat_eq d x) (contains xs d) e)

-- Increasing lists with the same members are equal.
pub one-increasing : (xs ys : List ℕ) → AreIncreasing xs → AreIncreasing ys → ((d : ℕ) → contains xs d ≡ contains ys d) → xs ≡ ys
one-increasing [] [] h k same = refl
one-increasing [] (y ∷ ys) h k same = absurd (true≢false (sym (same y ∙ itself y ys)))
one-increasing (x ∷ xs) [] h k same = absurd (true≢false (sym (itself x xs) ∙ same x))
one-increasing (x ∷ xs) (y ∷ ys) h k same =
    let a = at-least y ys x k (sym (same x) ∙ itself x xs) in
    let b = at-least x xs y h (same y ∙ itself y ys) in
    let first : x ≡ y = omega (arith, a, b) in
    ap₂ (λ u v. u ∷ v) first (one-increasing xs ys (rest-increasing x xs h) (rest-increasing y ys k) (λ d. tails d first))
  where
    tails : (d : ℕ) → x ≡ y → contains xs d ≡ contains ys d
    tails d first = by (nat_eq d x) refl
      where
        by : (b : Bool) → nat_eq d x ≡ b → contains xs d ≡ contains ys d
        by true e =
            let at : d ≡ x = eqb-true d x e in
            ap (contains xs) at ∙ none-of-itself x xs h ∙ sym (ap (contains ys) (at ∙ first) ∙ none-of-itself y ys k)
        by false e =
            let f : nat_eq d y ≡ false = ap (nat_eq d) (sym first) ∙ e in
            sym (ap (λ b. b || contains xs d) e) ∙ same d ∙ ap (λ b. b || contains ys d) f

-- ---- An increasing list within another list is no longer

abbrev without : ℕ → List ℕ → List ℕ
without m [] = []
without m (x ∷ xs) = if nat_eq m x then without m xs else x ∷ without m xs

without-le : (m : ℕ) (xs : List ℕ) → length (without m xs) ≤ length xs
without-le m [] = omega arith
without-le m (x ∷ xs) = by (nat_eq m x) (without-le m xs)
  where
    by : (b : Bool) → length (without m xs) ≤ length xs → length (if b then without m xs else x ∷ without m xs) ≤ suc (length xs)
    by true h = omega (arith, h)
    by false h = omega (arith, h)

without-shorter : (m : ℕ) (xs : List ℕ) → contains xs m ≡ true → suc (length (without m xs)) ≤ length xs
without-shorter m [] e = absurd (true≢false (sym e))
without-shorter m (x ∷ xs) e = by (nat_eq m x) (without-le m xs) (λ f. without-shorter m xs f) e
  where
    by : (b : Bool) → length (without m xs) ≤ length xs → (contains xs m ≡ true → suc (length (without m xs)) ≤ length xs)
        → (b || contains xs m) ≡ true → suc (length (if b then without m xs else x ∷ without m xs)) ≤ suc (length xs)
    by true h k e = omega (arith, h)
    by false h k e = let f = k e in omega (arith, f)

without-keeps : (m : ℕ) (xs : List ℕ) (d : ℕ) → nat_eq d m ≡ false → contains xs d ≡ true → contains (without m xs) d ≡ true
without-keeps m [] d e f = f
without-keeps m (x ∷ xs) d e f = by (nat_eq m x) refl (λ g. without-keeps m xs d e g) (or_cases (nat_eq d x) (contains xs d) f)
  where
    by : (b : Bool) → nat_eq m x ≡ b → (contains xs d ≡ true → contains (without m xs) d ≡ true) → (nat_eq d x ≡ true) ⊎ (contains xs d ≡ true)
        → contains (if b then without m xs else x ∷ without m xs) d ≡ true
    by true g k (inl h) = absurd (true≢false (sym (eq-eqb d m (eqb-true d x h ∙ sym (eqb-true m x g))) ∙ e))
    by true g k (inr h) = k h
    by false g k (inl h) = or_left (nat_eq d x) _ h
    by false g k (inr h) = contains-cons x (without m xs) d (k h)

fits-within : (ms xs : List ℕ) → AreIncreasing ms → ((d : ℕ) → contains ms d ≡ true → contains xs d ≡ true) → length ms ≤ length xs
fits-within [] xs h within = omega arith
fits-within (m ∷ ms) xs h within =
    let a = without-shorter m xs (within m (itself m ms)) in
    let b = fits-within ms (without m xs) (rest-increasing m ms h)
    (λ d e. without-keeps m xs d (false_from_ne_true (nat_eq d m) (λ f. let c = first-least m ms d h e in let g = eqb-true d m f in absurd (omega (arith, c, g)))) (within d (contains-cons m ms d e))) in
    omega (arith, a, b)

-- ---- The characters with one folding

-- The table gives these other characters for a character.
others : ℕ → List ℕ
others = value_in [] fold_other_rows

others_stepped : Stepped others
unfolding tables others fold_other_rows
others_stepped = of_rows [] fold_other_rows refl

abbrev is_listed : (ℕ → List ℕ) → ℕ × ℕ → Bool
is_listed table p = contains (table p.0) p.1

pairs_listed : list_all (is_listed others) fold_pairs ≡ true
unfolding tables others_stepped fold_pairs fold_other_rows
pairs_listed = subst (λ f. list_all (is_listed f) fold_pairs ≡ true) (sym (tree_value-tree_of others others_stepped)) refl

all-contained : (p : ℕ × ℕ → Bool) (xs : List (ℕ × ℕ)) (x : ℕ × ℕ) → list_all p xs ≡ true → Contains xs x → p x ≡ true
all-contained p [] x all (k, lt, at) = absurd (not-suc-le-zero lt)
all-contained p (y ∷ xs) x all (zero, lt, at) = subst (λ z. p z ≡ true) at (and_parts (p y) (list_all p xs) all).0
all-contained p (y ∷ xs) x all (suc k, lt, at) = all-contained p xs x (and_parts (p y) (list_all p xs) all).1 (k, le_of_suc-le-suc lt, at)

fold-listed : (c d : ℕ) → simple_fold c ≡ simple_fold d → contains (c ∷ others c) d ≡ true
fold-listed c d same = by (nat_eq d c) refl
  where
    by : (b : Bool) → nat_eq d c ≡ b → contains (c ∷ others c) d ≡ true
    by true e = or_left (nat_eq d c) _ e
    by false e =
        or_right (nat_eq d c) _ (all-contained (is_listed others) fold_pairs (c, d) pairs_listed ((IsFoldPairs-fold_pairs c d).1 (λ f. true≢false (sym (eq-eqb d c (sym f)) ∙ e), same)))

-- A character that matches `c` is `c` or one of the others that the table gives for `c`.
alike-listed : (icase unicode : Bool) (c d : ℕ) → are_alike icase unicode c d ≡ true → contains (c ∷ others c) d ≡ true
unfolding canonicalize
alike-listed false unicode c d e = or_left (nat_eq d c) _ (eq-eqb d c (sym (eqb-true c d e)))
alike-listed true true c d e = fold-listed c d (eqb-true (simple_fold c) (simple_fold d) e)
alike-listed true false c d e = fold-listed c d (alike-folds c d (eqb-true _ _ e))

-- The others of a character increase, do not contain the character, and are at most three.
abbrev rises : List ℕ → Bool
rises [] = true
rises (x ∷ []) = true
rises (x ∷ y ∷ ys) = nat_lt x y && rises (y ∷ ys)

rises-true : (xs : List ℕ) → rises xs ≡ true → AreIncreasing xs
rises-true [] h = tt
rises-true (x ∷ []) h = tt
rises-true (x ∷ y ∷ ys) h = let p = and_parts (nat_lt x y) (rises (y ∷ ys)) h in (p.0, rises-true (y ∷ ys) p.1)

abbrev is_good : ℕ → List ℕ → Bool
is_good c v = rises v && (not (contains v c) && nat_le (length v) 3)

abbrev row_is_good : Row (List ℕ) → Bool
row_is_good r = (r.0 == r.1) && is_good r.0 r.2

rows_good : list_all row_is_good fold_other_rows ≡ true
unfolding fold_other_rows
rows_good = refl

good-in : (rows : List (Row (List ℕ))) (c : ℕ) → list_all row_is_good rows ≡ true → is_good c (value_in [] rows c) ≡ true
unfolding value_in
good-in [] c h = refl
good-in (r ∷ rows) c h =
    let parts = and_parts (row_is_good r) (list_all row_is_good rows) h in
    let head = and_parts (r.0 == r.1) (is_good r.0 r.2) parts.0 in
    cond_both (nat_le r.0 c && nat_le c r.1) r.2 (value_in [] rows c) (λ v. is_good c v ≡ true)
    (λ within.
    let ends = and_parts (nat_le r.0 c) (nat_le c r.1) within in
    let at : r.0 ≡ c = omega (arith, eqb-true r.0 r.1 head.0, leb-true r.0 c ends.0, leb-true c r.1 ends.1) in
    subst (λ x. is_good x r.2 ≡ true) at head.1)
    (λ _. good-in rows c parts.1)

others-good : (c : ℕ) → is_good c (others c) ≡ true
unfolding others
others-good c = good-in fold_other_rows c rows_good

others-few : (c : ℕ) → length (c ∷ others c) ≤ 4
others-few c =
    let p = and_parts (rises (others c)) _ (others-good c) in
    let q = and_parts (not (contains (others c) c)) (nat_le (length (others c)) 3) p.1 in
    let r = leb-true (length (others c)) 3 q.1 in omega (arith, r)

pub few-case-variants : CaseVariantsAreFew
few-case-variants icase unicode c members s =
    let a = fits-within members (c ∷ others c) s.increasing (λ d e. alike-listed icase unicode c d (sym (s.same d) ∙ e)) in
    let b = others-few c in omega (arith, a, b)

pub one-case-variants : {icase unicode : Bool} {c : ℕ} {ms ns : List ℕ} → AreCaseVariants icase unicode c ms → AreCaseVariants icase unicode c ns → ms ≡ ns
one-case-variants s t = one-increasing _ _ s.increasing t.increasing (λ d. s.same d ∙ sym (t.same d))

-- ---- There are case variants

abbrev insert : ℕ → List ℕ → List ℕ
insert c [] = c ∷ []
insert c (x ∷ xs) = if nat_lt c x then c ∷ x ∷ xs else x ∷ insert c xs

insert-above : (n c : ℕ) (xs : List ℕ) → n < c → contains xs c ≡ false → AreIncreasing (n ∷ xs) → AreIncreasing (n ∷ insert c xs)
insert-above n c [] lt e h = (lt-ltb n c lt, tt)
insert-above n c (x ∷ xs) lt e h = by (nat_lt c x) refl (λ less f. insert-above x c xs less f h.1)
  where
    by : (b : Bool) → nat_lt c x ≡ b → (x < c → contains xs c ≡ false → AreIncreasing (x ∷ insert c xs)) → AreIncreasing (n ∷ (if b then c ∷ x ∷ xs else x ∷ insert c xs))
    by true f k = (lt-ltb n c lt, (f, h.1))
    by false f k =
        let ge = ltb-false c x f in
        let apart : c ≢ x = λ g. true≢false (sym (or_left (nat_eq c x) (contains xs c) (eq-eqb c x g)) ∙ e) in
        (h.0, k (less c x ge apart) (false_from_ne_true (contains xs c) (λ g. true≢false (sym (or_right (nat_eq c x) (contains xs c) g) ∙ e))))
      where
        less : (a b : ℕ) → b ≤ a → a ≢ b → b < a
        less a b ge apart = ⊎_elim (λ k. k) (λ k. absurd (apart (omega (arith, ge, k)))) (cases_lt b a)

insert-increasing : (c : ℕ) (xs : List ℕ) → contains xs c ≡ false → AreIncreasing xs → AreIncreasing (insert c xs)
insert-increasing c [] e h = tt
insert-increasing c (x ∷ xs) e h = by (nat_lt c x) refl
  where
    less : (a b : ℕ) → b ≤ a → a ≢ b → b < a
    less a b ge apart = ⊎_elim (λ k. k) (λ k. absurd (apart (omega (arith, ge, k)))) (cases_lt b a)

    by : (b : Bool) → nat_lt c x ≡ b → AreIncreasing (if b then c ∷ x ∷ xs else x ∷ insert c xs)
    by true f = (f, h)
    by false f =
        let ge = ltb-false c x f in
        let apart : c ≢ x = λ g. true≢false (sym (or_left (nat_eq c x) (contains xs c) (eq-eqb c x g)) ∙ e) in
        insert-above x c xs (less c x ge apart) (false_from_ne_true (contains xs c) (λ g. true≢false (sym (or_right (nat_eq c x) (contains xs c) g) ∙ e))) h

insert-has : (c : ℕ) (xs : List ℕ) (d : ℕ) → contains (c ∷ xs) d ≡ true → contains (insert c xs) d ≡ true
insert-has c [] d e = e
insert-has c (x ∷ xs) d e = by (nat_lt c x) (λ f. insert-has c xs d f) (or_cases (nat_eq d c) (contains (x ∷ xs) d) e)
  where
    by : (b : Bool) → (contains (c ∷ xs) d ≡ true → contains (insert c xs) d ≡ true) → (nat_eq d c ≡ true) ⊎ (contains (x ∷ xs) d ≡ true)
        → contains (if b then c ∷ x ∷ xs else x ∷ insert c xs) d ≡ true
    by true k f = e
    by false k (inl f) = contains-cons x (insert c xs) d (k (or_left (nat_eq d c) _ f))
    by false k (inr f) = ⊎_elim (λ g. or_left (nat_eq d x) _ g) (λ g. contains-cons x (insert c xs) d (k (contains-cons c xs d g))) (or_cases (nat_eq d x) (contains xs d) f)

filter-above : (p : ℕ → Bool) (n : ℕ) (xs : List ℕ) → AreIncreasing (n ∷ xs) → AreIncreasing (n ∷ filter p xs)
filter-above p n [] h = tt
filter-above p n (x ∷ xs) h =
    cond_both (p x) (x ∷ filter p xs) (filter p xs) (λ ys. AreIncreasing (n ∷ ys)) (λ _. (h.0, filter-above p x xs h.1)) (λ _. filter-above p n xs (skip-second n x xs h))

filter-increasing : (p : ℕ → Bool) (xs : List ℕ) → AreIncreasing xs → AreIncreasing (filter p xs)
filter-increasing p [] h = tt
filter-increasing p (x ∷ xs) h =
    cond_both (p x) (x ∷ filter p xs) (filter p xs) (λ ys. AreIncreasing ys) (λ _. filter-above p x xs h) (λ _. filter-increasing p xs (rest-increasing x xs h))

pub filter-has : (p : ℕ → Bool) (xs : List ℕ) (d : ℕ) → contains (filter p xs) d ≡ (contains xs d && p d)
filter-has p [] d = refl
filter-has p (x ∷ xs) d = by (p x) (nat_eq d x) refl refl (filter-has p xs d)
  where
    by : (a b : Bool) → p x ≡ a → nat_eq d x ≡ b → contains (filter p xs) d ≡ (contains xs d && p d)
        → contains (if a then x ∷ filter p xs else filter p xs) d ≡ ((nat_eq d x || contains xs d) && p d)
    by true true e f h = ap (λ b. b || contains (filter p xs) d) f ∙ sym (ap (λ b. (b || contains xs d) && p d) f ∙ ap p (eqb-true d x f) ∙ e)
    by true false e f h = ap (λ b. b || contains (filter p xs) d) f ∙ h ∙ sym (ap (λ b. (b || contains xs d) && p d) f)
    by false true e f h =
        let none : p d ≡ false = ap p (eqb-true d x f) ∙ e in
        h ∙ ap (λ b. contains xs d && b) none ∙ and-false (contains xs d) ∙ sym (ap (λ b. (b || contains xs d) && p d) f ∙ none)
      where
        and-false : (b : Bool) → (b && false) ≡ false
        and-false true = refl
        and-false false = refl
    by false false e f h = h ∙ sym (ap (λ b. (b || contains xs d) && p d) f)

pub are-case-variants : EachCharacterHasCaseVariants
are-case-variants icase unicode c =
    let p = and_parts (rises (others c)) _ (others-good c) in
    let q = and_parts (not (contains (others c) c)) (nat_le (length (others c)) 3) p.1 in
    let all = insert c (others c) in (
      filter (are_alike icase unicode c) all,
      record {
        increasing = filter-increasing (are_alike icase unicode c) all (insert-increasing c (others c) (not-true _ q.0) (rises-true (others c) p.0));
        same = λ d. filter-has (are_alike icase unicode c) all d ∙ both (are_alike icase unicode c d) (contains all d) (λ e. insert-has c (others c) d (alike-listed icase unicode c d e));
      },
    )
  where
    both : (a b : Bool) → (a ≡ true → b ≡ true) → (b && a) ≡ a
    both true b h = ap (λ x. x && true) (h refl)
    both false true h = refl
    both false false h = refl
