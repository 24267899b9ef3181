-- Flags are read from their letters one by one, and written as the letters of those that are set.
use Rattle.std.proofs.Common.{◌≡◌, ℕ, List, [], ◌∷◌, ◌++◌, Bool, true, false, refl, ap, ap₂, sym, ◌∙◌, nat_eq, eq-eqb, ne_eqb, eqb-true, append_assoc}
use Rattle.std.proofs.lemmas.Bool.{eqb-false}
use Rattle.std.specs.Prelude.{◌||◌, Result, Ok, Err, IfErr}
use Rattle.regex_meaning.specs.Tree.{Flags}
use Rattle.regex_meaning.specs.FlagLettersAndEscaping.{letter_if_flag_set, flags_from_letters, flags_text}
use Rattle.std.specs.List.{list_any}
use Rattle.regex_meaning.specs.NumberListHelpers.{contains}

either_way : (x n : ℕ) → nat_eq x n ≡ nat_eq n x
either_way x n = by (nat_eq n x) refl
  where
    by : (b : Bool) → nat_eq n x ≡ b → nat_eq x n ≡ b
    by true q = eq-eqb x n (sym (eqb-true n x q))
    by false q = ne_eqb x n (λ e. eqb-false n x q (sym e))

pub contains-by : (n : ℕ) (xs : List ℕ) → list_any (λ y. nat_eq y n) xs ≡ contains xs n
contains-by n [] = refl
contains-by n (x ∷ xs) = ap₂ (λ a b. a || b) (either_way x n) (contains-by n xs)

pub IfErr-map : {T E : Type 0} (r : Result T E) (P Q : E → Type 0) → ((x : E) → P x → Q x) → IfErr r P → IfErr r Q
IfErr-map (Ok x) P Q f h = tt
IfErr-map (Err e) P Q f h = f e h

abbrev pub flags_by : (icase multiline dot_all no_opt unicode unicode_sets : Bool) → Flags
flags_by i m d n u v = record { icase = i; multiline = m; dot_all = d; no_opt = n; unicode = u; unicode_sets = v }

pub flags-by_letters : (letters bytes : List ℕ) (i m d u v : Bool) → bytes ≡ letters → i ≡ contains bytes 105 → m ≡ contains bytes 109 → d ≡ contains bytes 115
    → u ≡ contains bytes 117 → v ≡ contains bytes 118 → flags_by i m d false u v ≡ flags_from_letters letters
unfolding flags_from_letters
flags-by_letters letters bytes i m d u v same ei em ed eu ev = rw (ei, em, ed, eu, ev, same) refl

pub flags-none : (i m d n u v : Bool) → i ≡ false → m ≡ false → d ≡ false → n ≡ false → u ≡ false → v ≡ false → flags_by i m d n u v ≡ flags_from_letters []
unfolding flags_from_letters
flags-none i m d n u v ei em ed en eu ev = rw (ei, em, ed, en, eu, ev) refl

-- The letters of the set flags are the concatenation of the letters of each flag.
pub flags_text-parts : (f : Flags) (m i d u v : List ℕ) → m ≡ letter_if_flag_set f.multiline 109 → i ≡ letter_if_flag_set f.icase 105 → d ≡ letter_if_flag_set f.dot_all 115
    → u ≡ letter_if_flag_set f.unicode 117 → v ≡ letter_if_flag_set f.unicode_sets 118 → m ++ (i ++ (d ++ (u ++ v))) ≡ flags_text f
unfolding flags_text
flags_text-parts f m i d u v em ei ed eu ev = rw (em, ei, ed, eu, ev) (simp append_assoc)

-- Appending a number to a list adds it to the numbers that the list contains.
contains-push : (n x : ℕ) (xs : List ℕ) → (contains xs n || nat_eq x n) ≡ contains (xs ++ x ∷ []) n
contains-push n x [] = either_way x n ∙ last (nat_eq n x)
  where
    last : (b : Bool) → b ≡ (b || false)
    last true = refl
    last false = refl
contains-push n x (y ∷ ys) = or-assoc (nat_eq n y) (contains ys n) (nat_eq x n) ∙ ap (λ b. nat_eq n y || b) (contains-push n x ys)
  where
    or-assoc : (a b c : Bool) → ((a || b) || c) ≡ (a || (b || c))
    or-assoc true b c = refl
    or-assoc false b c = refl

-- A flag is set if it was set before or its letter has been appended.
flag-more : (set : Bool) (n x : ℕ) (letters : List ℕ) → set ≡ contains letters n → (set || nat_eq x n) ≡ contains (letters ++ x ∷ []) n
flag-more set n x letters e = ap (λ b. b || nat_eq x n) e ∙ contains-push n x letters

-- The flags of letters with one more letter are those of the letters and the new one.
pub flags-more : (i m d n u v : Bool) (letters : List ℕ) (x : ℕ) → flags_by i m d n u v ≡ flags_from_letters letters
    → flags_by (i || nat_eq x 105) (m || nat_eq x 109) (d || nat_eq x 115) n (u || nat_eq x 117) (v || nat_eq x 118) ≡ flags_from_letters (letters ++ x ∷ [])
unfolding flags_from_letters
flags-more i m d n u v letters x e =
    let never : n ≡ false = ap (λ (f : Flags). f.no_opt) e in
    rw never
    (flags-by_letters (letters ++ x ∷ []) (letters ++ x ∷ []) _ _ _ _ _ refl
    (flag-more i 105 x letters (ap (λ (f : Flags). f.icase) e)) (flag-more m 109 x letters (ap (λ (f : Flags). f.multiline) e))
    (flag-more d 115 x letters (ap (λ (f : Flags). f.dot_all) e)) (flag-more u 117 x letters (ap (λ (f : Flags). f.unicode) e))
    (flag-more v 118 x letters (ap (λ (f : Flags). f.unicode_sets) e)))
