-- The reader of group names reads a name letter by letter as the profile's grammar specifies.
use Rattle.std.proofs.Common.{◌≡◌, ℕ, inl, inr, Bool, true, false, [], ◌∷◌, ◌++◌, true≢false, arith, ◌<◌, ◌≤◌, refl, sym, ap, ◌∙◌, append_assoc, append-nil}
use Rattle.std.specs.Prelude.{◌&&◌, ◌==◌, not, if◌then◌else◌}
use Rattle.std.specs.Char.{encode_utf8, OutOfScalarRange}
use Rattle.std.specs.List.{list_all}
use Rattle.std.proofs.lemmas.Bool.{and_parts, or_left, eq-eqb, eqb-true}
use Rattle.std.proofs.lemmas.List.Folds.{list_all-append}
use Rattle.regex_meaning.specs.ReadingStatesAndDigits.{RemainingCodePoints}
use Rattle.regex_meaning.specs.EscapesNamesQuantifiers.{GroupName, group_name, is_ascii_identifier_start, is_ascii_identifier_part, is_name}
use Rattle.regex_meaning.proofs.DisjunctionReadingLemmas.{first, rest_of}
use Rattle.regex_meaning.proofs.EscapesAndNamesLemmas.{name_letters}

-- `may_begin` accepts the empty text and every text that `is_name` accepts.
abbrev pub may_begin : RemainingCodePoints → Bool
may_begin [] = true
may_begin (c ∷ cs) = is_name (c ∷ cs)

abbrev pub is_none : RemainingCodePoints → Bool
is_none [] = true
is_none (c ∷ cs) = false

-- An identifier start may follow if there are no letters yet, and an identifier part otherwise.
abbrev pub may_follow : (name : RemainingCodePoints) → ℕ → Bool
may_follow name c = if is_none name then is_ascii_identifier_start c else is_ascii_identifier_part c

pub record NameSoFar (here name there : RemainingCodePoints) : Type 0 where
  pub is : here ≡ name ++ there
  pub letters : may_begin name ≡ true

pub name-begins : (here : RemainingCodePoints) → NameSoFar here [] here
name-begins here = record { is = refl; letters = refl }

pub name-goes_on : (here name middle there : RemainingCodePoints) (c : ℕ) → NameSoFar here name middle → middle ≡ c ∷ there → may_follow name c ≡ true
    → NameSoFar here (name ++ c ∷ []) there
name-goes_on here name middle there c s e f = record {
  is = s.is ∙ ap (λ x. name ++ x) e ∙ sym (append_assoc name (c ∷ []) there);
  letters = by name s.letters f;
}
  where
    by : (name : RemainingCodePoints) → may_begin name ≡ true → may_follow name c ≡ true → may_begin (name ++ c ∷ []) ≡ true
    by [] k f = rw f refl
    by (d ∷ ds) k f = let h = and_parts (is_ascii_identifier_start d) _ k in rw (h.0, list_all-append is_ascii_identifier_part ds (c ∷ []), h.1, f) refl

pub name-ends : (here name middle there : RemainingCodePoints) → NameSoFar here name middle → is_none name ≡ false → middle ≡ 62 ∷ there → GroupName here there name
name-ends here name middle there s some e = group_name (s.is ∙ ap (λ x. name ++ x) e) (by name some s.letters)
  where
    by : (name : RemainingCodePoints) → is_none name ≡ false → may_begin name ≡ true → is_name name ≡ true
    by [] k f = absurd (true≢false k)
    by (d ∷ ds) k f = f

no_end : {c : ℕ} → is_ascii_identifier_part c ≡ true → c ≡ 62 → ⊥
no_end e f = true≢false (sym e ∙ ap is_ascii_identifier_part f)

-- A text of letters and then a sign other than `>` is no text of letters and then `>`.
other_sign : (n m : RemainingCodePoints) (c : ℕ) (r end : RemainingCodePoints) → list_all is_ascii_identifier_part n ≡ true → list_all is_ascii_identifier_part m ≡ true → is_ascii_identifier_part c ≡ false → (c ≡ 62 → ⊥)
    → n ++ c ∷ r ≡ m ++ 62 ∷ end → ⊥
other_sign [] [] c r end e f g h k = h (ap first k)
other_sign [] (y ∷ ys) c r end e f g h k = true≢false (sym (and_parts (is_ascii_identifier_part y) _ f).0 ∙ sym (ap (λ x. is_ascii_identifier_part (first x)) k) ∙ g)
other_sign (x ∷ xs) [] c r end e f g h k = no_end (and_parts (is_ascii_identifier_part x) _ e).0 (ap first k)
other_sign (x ∷ xs) (y ∷ ys) c r end e f g h k =
    other_sign xs ys c r end (and_parts (is_ascii_identifier_part x) _ e).1 (and_parts (is_ascii_identifier_part y) _ f).1 g h (ap rest_of k)

pub name-stops : (here name middle there : RemainingCodePoints) (c : ℕ) → NameSoFar here name middle → middle ≡ c ∷ there → may_follow name c ≡ false → (is_none name ≡ false → c ≡ 62 → ⊥)
    → (end other : RemainingCodePoints) → GroupName here end other → ⊥
name-stops here name middle there c s e f g end other (group_name h k) = by name other s.letters f g k (sym (ap (λ x. name ++ x) e) ∙ sym s.is ∙ h)
  where
    by : (n m : RemainingCodePoints) → may_begin n ≡ true → may_follow n c ≡ false → (is_none n ≡ false → c ≡ 62 → ⊥) → is_name m ≡ true → n ++ c ∷ there ≡ m ++ 62 ∷ end → ⊥
    by n [] a f g k h = true≢false (sym k)
    by [] (y ∷ ys) a f g k h = true≢false (sym (and_parts (is_ascii_identifier_start y) _ k).0 ∙ sym (ap (λ x. is_ascii_identifier_start (first x)) h) ∙ f)
    by (x ∷ xs) (y ∷ ys) a f g k h = other_sign (x ∷ xs) (y ∷ ys) c there end (name_letters (x ∷ xs) a) (name_letters (y ∷ ys) k) f (g refl) h

-- If the letters of a name reach the end of the text, no group name is read.
pub name-unclosed : (here name middle : RemainingCodePoints) → NameSoFar here name middle → middle ≡ [] → (end other : RemainingCodePoints) → GroupName here end other → ⊥
name-unclosed here name middle s e end other (group_name h k) = all name other s.letters (sym (append-nil name) ∙ sym (ap (λ x. name ++ x) e) ∙ sym s.is ∙ h)
  where
    none_left : (n m : RemainingCodePoints) → list_all is_ascii_identifier_part n ≡ true → n ≡ m ++ 62 ∷ end → ⊥
    none_left [] [] a h = cc
    none_left [] (y ∷ ys) a h = cc
    none_left (x ∷ xs) [] a h = no_end (and_parts (is_ascii_identifier_part x) _ a).0 (ap first h)
    none_left (x ∷ xs) (y ∷ ys) a h = none_left xs ys (and_parts (is_ascii_identifier_part x) _ a).1 (ap rest_of h)

    all : (n m : RemainingCodePoints) → may_begin n ≡ true → n ≡ m ++ 62 ∷ end → ⊥
    all [] m a h = none_left [] m refl h
    all (x ∷ xs) m a h = none_left (x ∷ xs) m (name_letters (x ∷ xs) a) h

-- The UTF-8 of a letter of a name is that letter alone.
pub one_byte : (x c : ℕ) → x ≡ c → is_ascii_identifier_part c ≡ true → (x < 128 → encode_utf8 x ≡ x ∷ []) → encode_utf8 x ≡ c ∷ []
one_byte x c e f g = let small : c < 128 = ascii c f in g (omega arith) ∙ ap (λ (y : ℕ). y ∷ []) e
  where
    ascii : (c : ℕ) → is_ascii_identifier_part c ≡ true → c < 128
    ascii c e = grind arith

pub follows : (name : RemainingCodePoints) (is_first : Bool) (c : ℕ) → is_first ≡ is_none name → (if is_first then is_ascii_identifier_start c else is_ascii_identifier_part c) ≡ true → may_follow name c ≡ true
follows name is_first c e f = rw (sym e) f

pub follows-not : (name : RemainingCodePoints) (is_first : Bool) (c : ℕ) → is_first ≡ is_none name → (if is_first then is_ascii_identifier_start c else is_ascii_identifier_part c) ≡ false → may_follow name c ≡ false
follows-not name is_first c e f = rw (sym e) f

pub goes_on : (name : RemainingCodePoints) (c : ℕ) → may_follow name c ≡ true → is_ascii_identifier_part c ≡ true
goes_on [] c e = or_left (is_ascii_identifier_start c) _ e
goes_on (d ∷ ds) c e = e

pub none-append : (name : RemainingCodePoints) (c : ℕ) → is_none (name ++ c ∷ []) ≡ false
none-append [] c = refl
none-append (d ∷ ds) c = refl

pub not_end : (name : RemainingCodePoints) (is_first : Bool) (c : ℕ) → is_first ≡ is_none name → (not is_first && c == 62) ≡ false → is_none name ≡ false → c ≡ 62 → ⊥
not_end name is_first c e f g h = let is : (not is_first && c == 62) ≡ true = rw (e, g, eq-eqb c 62 h) refl in true≢false (sym is ∙ f)

pub is_end : (name : RemainingCodePoints) (is_first : Bool) (c : ℕ) → is_first ≡ is_none name → (not is_first && c == 62) ≡ true → (is_none name ≡ false) × (c ≡ 62)
is_end name true c e f = absurd (true≢false (sym f))
is_end name false c e f = (sym e, eqb-true c 62 f)

beyond : (c : ℕ) (is_first : Bool) → 123 ≤ c → (if is_first then is_ascii_identifier_start c else is_ascii_identifier_part c) ≡ false
beyond c true k = first_beyond c k
  where
    first_beyond : (c : ℕ) → 123 ≤ c → is_ascii_identifier_start c ≡ false
    first_beyond c k = grind arith
beyond c false k = other_beyond c k
  where
    other_beyond : (c : ℕ) → 123 ≤ c → is_ascii_identifier_part c ≡ false
    other_beyond c k = grind arith

pub no_letter_of_name : (c : ℕ) (is_first : Bool) → OutOfScalarRange c → (if is_first then is_ascii_identifier_start c else is_ascii_identifier_part c) ≡ false
no_letter_of_name c is_first (inl h) = let k : 123 ≤ c = omega (arith, h.0) in beyond c is_first k
no_letter_of_name c is_first (inr h) = let k : 123 ≤ c = omega (arith, h) in beyond c is_first k
