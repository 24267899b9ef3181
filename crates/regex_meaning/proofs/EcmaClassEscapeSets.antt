-- The set of each class escape of ECMAScript is closed under case variants.
use Rattle.std.proofs.Common.{◌≡◌, ◌⊎◌, ℕ, ◌+◌, ◌-◌, ◌≤◌, Bool, true, false, ◌&&◌, ◌||◌, ◌==◌, nat_le, nat_lt, List, [], ◌∷◌, slice_index_or, true≢false, ⊎_elim, refl, sym, ap, ap₂, subst, ◌∙◌}
use Rattle.std.proofs.Common.{arith, leb-true}
use Rattle.std.specs.Prelude.{if◌then◌else◌, Some, None, Option}
use Rattle.std.specs.List.{list_all}
use Rattle.std.specs.Int.{is_in_range}
use Rattle.std.proofs.lemmas.Bool.{cond_both, and_parts, or_cases, ltb-true, false_from_ne_true}
use Rattle.std.specs.Char.Unicode.ToUppercase.{to_uppercase, uppercase_runs, uppercase_strings}
use Rattle.std.specs.Char.Unicode.Rows.{Row as CaseRow, in_run, by_runs, by_strings, string_of}
use Rattle.ucd_table.specs.Rows.{Row, value_in}
use Rattle.ucd_case.specs.CaseFolding.{simple_folding}
use Rattle.ucd_case.specs.SimpleFoldingRows.{simple_folding_rows}
use Rattle.regex_meaning.specs.Tree.{Intervals, Flags}
use Rattle.regex_meaning.specs.Text.{is_word_char}
use Rattle.regex_meaning.specs.Outcomes.{in_intervals}
use Rattle.regex_meaning.specs.Canonical.{uppercase_or_itself, canonicalize, canonical_character}
use Rattle.regex_meaning.proofs.CaseLawLemmas.{word-folds}
use Rattle.regex_meaning.specs.ReadingStatesAndDigits.{◌∈◌}
use Rattle.regex_meaning.specs.CharacterClasses.{digit_class, space_class}
use Rattle.regex_meaning.specs.EcmaClasses.{InvertibleSet, word_characters}
use Rattle.regex_meaning.specs.EcmaGrammarLaws.{EcmaScriptClassesAreClosed}
use Rattle.regex_meaning.proofs.EscapesAndNamesLemmas.{is_some, Some_inj}

-- No number from `low` to `high` is in the set.
abbrev are_apart : Intervals → (low high : ℕ) → Bool
are_apart set low high = list_all (λ i. nat_lt high i.0 || nat_lt i.1 low) set

none-in : (set : Intervals) (low high c : ℕ) → are_apart set low high ≡ true → low ≤ c → c ≤ high → in_intervals set c ≡ false
none-in [] low high c h le ge = refl
none-in (i ∷ set) low high c h le ge =
    let p = and_parts (nat_lt high i.0 || nat_lt i.1 low) _ h in
    ap₂ (λ x y. x || y) (false_from_ne_true (is_in_range i.0 i.1 c) (λ e. within e (or_cases (nat_lt high i.0) (nat_lt i.1 low) p.0))) (none-in set low high c p.1 le ge)
  where
    within : is_in_range i.0 i.1 c ≡ true → (nat_lt high i.0 ≡ true) ⊎ (nat_lt i.1 low ≡ true) → ⊥
    within e k =
        let q = and_parts (nat_le i.0 c) (nat_le c i.1) e in
        let a = leb-true i.0 c q.0 in
        let b = leb-true c i.1 q.1 in
        ⊎_elim (λ x. let y = ltb-true high i.0 x in omega (arith, y, a, ge)) (λ x. let y = ltb-true i.1 low x in omega (arith, y, b, le)) k

abbrev Stays : Intervals → (c d : ℕ) → Type 0
Stays set c d = in_intervals set d ≡ in_intervals set c

-- ---- Foldings with `u`

abbrev fold_apart : Intervals → Row (List ℕ) → Bool
fold_apart set r = are_apart set r.0 r.1 && list_all (λ d. are_apart set d d) r.2

le-itself : (n : ℕ) → n ≤ n
le-itself n = omega arith

first-out : (set : Intervals) (v : List ℕ) (c : ℕ) → list_all (λ d. are_apart set d d) v ≡ true → in_intervals set c ≡ false → in_intervals set (slice_index_or v 0 c) ≡ false
first-out set [] c h e = e
first-out set (d ∷ ds) c h e = none-in set d d d (and_parts (are_apart set d d) _ h).0 (le-itself d) (le-itself d)

fold-stays : (set : Intervals) (rows : List (Row (List ℕ))) (c : ℕ) → list_all (fold_apart set) rows ≡ true → Stays set c (slice_index_or (value_in [] rows c) 0 c)
unfolding value_in
fold-stays set [] c h = refl
fold-stays set (r ∷ rows) c h =
    let p = and_parts (fold_apart set r) _ h in
    let q = and_parts (are_apart set r.0 r.1) _ p.0 in
    cond_both (nat_le r.0 c && nat_le c r.1) r.2 (value_in [] rows c) (λ v. Stays set c (slice_index_or v 0 c))
    (λ within.
    let ends = and_parts (nat_le r.0 c) (nat_le c r.1) within in
    let out = none-in set r.0 r.1 c q.0 (leb-true r.0 c ends.0) (leb-true c r.1 ends.1) in
    first-out set r.2 c q.1 out ∙ sym out)
    (λ _. fold-stays set rows c p.1)

-- ---- Upper case without `u`

abbrev run_apart : Intervals → CaseRow → Bool
run_apart set r = are_apart set r.0 r.1 && are_apart set r.3 (r.3 + (r.1 - r.0))

either-stays : (set : Intervals) (c d : ℕ) → Stays set c d → Stays set c (uppercase_or_itself c (d ∷ []))
either-stays set c d h = cond_both (nat_lt 0xFFFF d || (nat_le 128 c && nat_lt d 128)) c d (λ x. Stays set c x) (λ _. refl) (λ _. h)

runs-stay : (set : Intervals) (runs : List CaseRow) (c : ℕ) → list_all (run_apart set) runs ≡ true → Stays set c (by_runs runs c)
unfolding by_runs
runs-stay set [] c h = refl
runs-stay set (r ∷ runs) c h =
    let p = and_parts (run_apart set r) _ h in
    let q = and_parts (are_apart set r.0 r.1) _ p.0 in
    cond_both (in_run r c) (r.3 + (c - r.0)) (by_runs runs c) (λ d. Stays set c d)
    (λ inside.
    let ends = and_parts (nat_le r.0 c) (nat_le c r.1) (and_parts (nat_le r.0 c && nat_le c r.1) _ inside).0 in
    let a = leb-true r.0 c ends.0 in
    let b = leb-true c r.1 ends.1 in
    none-in set r.3 (r.3 + (r.1 - r.0)) (r.3 + (c - r.0)) q.1 (omega arith) (omega (arith, a, b)) ∙ sym (none-in set r.0 r.1 c q.0 a b))
    (λ _. runs-stay set runs c p.1)

strings-stay : (set : Intervals) (d : ℕ) (rows : List CaseRow) (c : ℕ) → Stays set c d → Stays set c (uppercase_or_itself c (by_strings (d ∷ []) rows c))
unfolding by_strings
strings-stay set d [] c h = either-stays set c d h
strings-stay set d (row ∷ rows) c h =
    cond_both (row.0 == c) (string_of row) (by_strings (d ∷ []) rows c) (λ s. Stays set c (uppercase_or_itself c s))
    (λ _. cond_both (row.3 == 0) (row.1 ∷ row.2 ∷ []) (row.1 ∷ row.2 ∷ row.3 ∷ []) (λ s. Stays set c (uppercase_or_itself c s)) (λ _. refl) (λ _. refl))
    (λ _. strings-stay set d rows c h)

-- ---- Digits and spaces

abbrev is_caseless : Intervals → Type 0
is_caseless set = (list_all (fold_apart set) simple_folding_rows ≡ true) × (list_all (run_apart set) uppercase_runs ≡ true)

digits-caseless : is_caseless digit_class
unfolding simple_folding_rows uppercase_runs
digits-caseless = (refl, refl)

spaces-caseless : is_caseless space_class
unfolding simple_folding_rows uppercase_runs
spaces-caseless = (refl, refl)

canonical-stays : (set : Intervals) → is_caseless set → (icase unicode : Bool) (c : ℕ) → Stays set c (canonical_character icase unicode c)
unfolding canonicalize simple_folding to_uppercase
canonical-stays set h false unicode c = refl
canonical-stays set h true true c = fold-stays set simple_folding_rows c h.0
canonical-stays set h true false c =
    cond_both (nat_lt 0xFFFF c) c (uppercase_or_itself c (to_uppercase c)) (λ d. Stays set c d) (λ _. refl)
    (λ _. strings-stay set (by_runs uppercase_runs c) uppercase_strings c (runs-stay set uppercase_runs c h.1))

-- ---- All class escapes

abbrev Closed : Flags → (ℕ → Bool) → Type 0
Closed flags test = (c d : ℕ) → canonical_character flags.icase flags.unicode c ≡ canonical_character flags.icase flags.unicode d → test c ≡ test d

caseless-closed : (flags : Flags) (set : Intervals) → is_caseless set → Closed flags (in_intervals set)
caseless-closed flags set h c d same =
    sym (canonical-stays set h flags.icase flags.unicode c) ∙ ap (in_intervals set) same ∙ canonical-stays set h flags.icase flags.unicode d

word-closed : (flags : Flags) → Closed flags (word_characters flags)
word-closed flags c d same = word-folds flags.icase flags.unicode c ∙ ap (is_word_char false) same ∙ sym (word-folds flags.icase flags.unicode d)

-- A set that is chosen from closed sets is closed.
choose : (flags : Flags) (b : Bool) (x : InvertibleSet) (o : Option InvertibleSet) (s : InvertibleSet) → Closed flags x.0 → (o ≡ Some s → Closed flags s.0)
    → (if b then Some x else o) ≡ Some s → Closed flags s.0
choose flags true x o s h k e = subst (λ y. Closed flags y.0) (Some_inj e) h
choose flags false x o s h k e = k e

pub classes-are-closed : EcmaScriptClassesAreClosed
classes-are-closed flags letter s e =
    let d = caseless-closed flags digit_class digits-caseless in
    let w = word-closed flags in
    let p = caseless-closed flags space_class spaces-caseless in
    choose flags (letter ∈ "d") (in_intervals digit_class, false) _ s d (λ e.
    choose flags (letter ∈ "D") (in_intervals digit_class, true) _ s d (λ e.
    choose flags (letter ∈ "s") (in_intervals space_class, false) _ s p (λ e.
    choose flags (letter ∈ "S") (in_intervals space_class, true) _ s p (λ e.
    choose flags (letter ∈ "w") (word_characters flags, false) _ s w (λ e.
    choose flags (letter ∈ "W") (word_characters flags, true) None s w (λ e. absurd (true≢false (sym (ap is_some e)))) e) e) e) e) e) e
