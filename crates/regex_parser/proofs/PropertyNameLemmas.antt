-- The reader finds a property name exactly if the list of names contains it.
use Rattle.std.proofs.Common.{◌≡◌, ◌⊎◌, ℕ, suc, ◌+◌, ◌-◌, ◌<◌, ◌≤◌, Bool, true, false, ◌&&◌, ◌||◌, List, [], ◌∷◌, ◌++◌, length, take, drop, get_or, refl, sym, ap, ap₂, ◌∙◌, arith, length-drop, ◌≢◌}
use Rattle.std.proofs.Common.{true≢false, inl, inr, nat_eq, Option, None, option_map, slice_index, Fits, w8, subst, ⊎_elim}
use Rattle.std.specs.Prelude.{if◌then◌else◌}
use Rattle.std.specs.List.{list_any, list_all, slice_range}
use Rattle.std.proofs.lemmas.Bool.{or_cases, and_parts, eq-eqb, ne_eqb}
use Rattle.std.proofs.lemmas.List.{drop_more, take_more, get_or-drop}
use Rattle.std.proofs.Math.ListN.{drop_of_length-le}
use lib.Pointwise.{pointwise, bytes_decides}
use Rattle.std.proofs.lemmas.Bool.Decides.{nat_tests}
use Rattle.std.proofs.lemmas.List.Folds.{list_all-append}
use Rattle.regex_meaning.specs.UnicodeProperties.{in_database}
use Rattle.regex_meaning.specs.Text.{is_scalar}
use Rattle.ucd_sets.specs.Loose.{normalize}
use Rattle.ucd_sets.specs.Lookup.{by_name, by_value}
use Rattle.ucd_sets.specs.declared.set.Set.{Set}
use Rattle.regex_parser.specs.PropertyReaderContracts.{words_from, words_of, listed_value}

-- ---- Lists of words

slice-more : (words : List ℕ) (start end : ℕ) → start ≤ end → end < length words → slice_range words start (end + 1) ≡ slice_range words start end ++ slice_index words end ∷ []
slice-more words start end le h =
    let room : end - start < length (drop start words) = omega (arith, length-drop start words) in
    let n : end + 1 - start ≡ (end - start) + 1 = omega arith in
    let m : start + (end - start) ≡ end = omega arith in
    ap (λ k. take k (drop start words)) n ∙ take_more (drop start words) (end - start) 0 room
    ∙ ap (λ x. slice_range words start end ++ x ∷ []) (get_or-drop start words (end - start) 0 ∙ ap (λ k. slice_index words k) m)

slice-none : (words : List ℕ) (n : ℕ) → slice_range words n n ≡ []
slice-none words n = let z : n - n ≡ 0 = omega arith in ap (λ k. take k (drop n words)) z

letter-case : (w : List ℕ) (c : ℕ) (t : List ℕ) → nat_eq c 32 ≡ false → words_from w (c ∷ t) ≡ words_from (w ++ c ∷ []) t
letter-case w c t e = rw e refl

blank-case : (w : List ℕ) (c : ℕ) (t : List ℕ) → nat_eq c 32 ≡ true → words_from w (c ∷ t) ≡ w ∷ words_from [] t
blank-case w c t e = rw e refl

-- At a character other than a blank, the scan of words adds the character to the current word.
words-letter : (words : List ℕ) (start end : ℕ) → start ≤ end → end < length words → nat_eq (slice_index words end) 32 ≡ false
    → words_from (slice_range words start end) (drop end words) ≡ words_from (slice_range words start (end + 1)) (drop (end + 1) words)
words-letter words start end le h e =
    ap (λ x. words_from (slice_range words start end) x) (drop_more words end 0 h) ∙ letter-case (slice_range words start end) (slice_index words end) (drop (end + 1) words) e
    ∙ ap (λ x. words_from x (drop (end + 1) words)) (sym (slice-more words start end le h))

-- At a blank, the scan of words ends the current word and begins an empty one.
words-blank : (words : List ℕ) (start end : ℕ) → end < length words → nat_eq (slice_index words end) 32 ≡ true
    → words_from (slice_range words start end) (drop end words) ≡ slice_range words start end ∷ words_from (slice_range words (end + 1) (end + 1)) (drop (end + 1) words)
words-blank words start end h e =
    ap (λ x. words_from (slice_range words start end) x) (drop_more words end 0 h) ∙ blank-case (slice_range words start end) (slice_index words end) (drop (end + 1) words) e
    ∙ ap (λ x. slice_range words start end ∷ words_from x (drop (end + 1) words)) (sym (slice-none words (end + 1)))

abbrev pub is_name : List ℕ → List ℕ → Bool
is_name name word = pointwise nat_eq word name

-- A step of the scan of words keeps whether the list contains the name.
pub listed-next : (words name : List ℕ) (start end new : ℕ) → start ≤ end → end < length words
    → list_any (is_name name) (words_of words) ≡ list_any (is_name name) (words_from (slice_range words start end) (drop end words))
    → ((slice_index words end ≡ 32) × (pointwise nat_eq (slice_range words start end) name ≡ false) × (new ≡ end + 1)) ⊎ ((slice_index words end ≢ 32) × (new ≡ start))
    → (new ≤ end + 1) × (end + 1 ≤ length words) × (list_any (is_name name) (words_of words) ≡ list_any (is_name name) (words_from (slice_range words new (end + 1)) (drop (end + 1) words)))
listed-next words name start end new le h i (inl (e, f, n)) = (
  omega arith,
  omega arith,
  i ∙ ap (list_any (is_name name)) (words-blank words start end h (eq-eqb _ _ e))
      ∙ ap (λ b. b || list_any (is_name name) (words_from (slice_range words (end + 1) (end + 1)) (drop (end + 1) words))) f
      ∙ ap (λ k. list_any (is_name name) (words_from (slice_range words k (end + 1)) (drop (end + 1) words))) (sym n),
)
listed-next words name start end new le h i (inr (e, n)) = (
  omega arith,
  omega arith,
  i ∙ ap (list_any (is_name name)) (words-letter words start end le h (ne_eqb _ _ e))
      ∙ ap (λ k. list_any (is_name name) (words_from (slice_range words k (end + 1)) (drop (end + 1) words))) (sym n),
)

pub listed-here : (words name : List ℕ) (start end : ℕ) → end < length words
    → list_any (is_name name) (words_of words) ≡ list_any (is_name name) (words_from (slice_range words start end) (drop end words))
    → slice_index words end ≡ 32 → pointwise nat_eq (slice_range words start end) name ≡ true → list_any (is_name name) (words_of words) ≡ true
listed-here words name start end h i e f =
    i ∙ ap (list_any (is_name name)) (words-blank words start end h (eq-eqb _ _ e))
    ∙ ap (λ b. b || list_any (is_name name) (words_from (slice_range words (end + 1) (end + 1)) (drop (end + 1) words))) f

pub listed-end : (words name : List ℕ) (start end : ℕ) → length words ≤ end
    → list_any (is_name name) (words_of words) ≡ list_any (is_name name) (words_from (slice_range words start end) (drop end words)) → list_any (is_name name) (words_of words) ≡ false
listed-end words name start end h i = i ∙ ap (λ x. list_any (is_name name) (words_from (slice_range words start end) x)) (drop_of_length-le words h)

-- ---- Characters

-- Bytes are scalar values.
pub bytes-scalar : (xs : List ℕ) → ((i : ℕ) → Fits w8 (get_or xs i 0)) → list_all is_scalar xs ≡ true
bytes-scalar [] h = refl
bytes-scalar (x ∷ xs) h = ap₂ ◌&&◌ (byte-scalar x (h 0)) (bytes-scalar xs (λ i. h (suc i)))
  where
    byte-scalar : (x : ℕ) → Fits w8 x → is_scalar x ≡ true
    byte-scalar x h = grind (arith, nat_tests)

-- A value in a list of words of scalar values has only scalar values.
pub listed-scalar : (word text value : List ℕ) → list_all is_scalar word ≡ true → list_all is_scalar text ≡ true → list_any (is_name value) (words_from word text) ≡ true → list_all is_scalar value ≡ true
listed-scalar word [] value h k e = absurd (true≢false (sym e))
listed-scalar word (c ∷ text) value h k e =
    let p = and_parts (is_scalar c) (list_all is_scalar text) k in
    let more : list_all is_scalar (word ++ c ∷ []) ≡ true = list_all-append is_scalar word (c ∷ []) ∙ ap₂ ◌&&◌ h (ap (λ b. b && true) p.0) in
    go (nat_eq c 32) refl (listed-scalar [] text value refl p.1) (listed-scalar (word ++ c ∷ []) text value more p.1)
  where
    go : (b : Bool) → nat_eq c 32 ≡ b → (list_any (is_name value) (words_from [] text) ≡ true → list_all is_scalar value ≡ true)
        → (list_any (is_name value) (words_from (word ++ c ∷ []) text) ≡ true → list_all is_scalar value ≡ true) → list_all is_scalar value ≡ true
    go true f a b =
        ⊎_elim (λ g. subst (λ x. list_all is_scalar x ≡ true) ((bytes_decides word value).0 g) h) a
        (or_cases (pointwise nat_eq word value) (list_any (is_name value) (words_from [] text)) (sym (ap (list_any (is_name value)) (blank-case word c text f)) ∙ e))
    go false f a b = b (sym (ap (list_any (is_name value)) (letter-case word c text f)) ∙ e)

-- ---- Properties that are found

pub listed-none : (words : List (List ℕ)) (property value : List ℕ) → list_any (is_name value) words ≡ false → None ≡ listed_value words property value
listed-none words property value e = sym (ap (λ b. if b then option_map in_database (by_value property (normalize value)) else None) e)

pub listed-found : (words : List (List ℕ)) (property value loose : List ℕ) (found : Option Set) → list_any (is_name value) words ≡ true → loose ≡ normalize value → by_value property loose ≡ found
    → option_map in_database found ≡ listed_value words property value
listed-found words property value loose found e n f =
    sym (ap (option_map in_database) (ap (by_value property) (sym n) ∙ f)) ∙ sym (ap (λ b. if b then option_map in_database (by_value property (normalize value)) else None) e)

pub binary-none : (words : List (List ℕ)) (name : List ℕ) → list_any (is_name name) words ≡ false → None ≡ (if list_any (is_name name) words then option_map in_database (by_name (normalize name)) else None)
binary-none words name e = sym (ap (λ b. if b then option_map in_database (by_name (normalize name)) else None) e)

pub binary-found : (words : List (List ℕ)) (name loose : List ℕ) (found : Option Set) → list_any (is_name name) words ≡ true → loose ≡ normalize name → by_name loose ≡ found
    → option_map in_database found ≡ (if list_any (is_name name) words then option_map in_database (by_name (normalize name)) else None)
binary-found words name loose found e n f =
    sym (ap (option_map in_database) (ap by_name (sym n) ∙ f)) ∙ sym (ap (λ b. if b then option_map in_database (by_name (normalize name)) else None) e)
