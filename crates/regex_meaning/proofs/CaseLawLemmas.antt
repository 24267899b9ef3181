-- The laws of `canonicalize` hold: which characters match each other, and which fold into ASCII.
use Rattle.std.proofs.Common.{◌≡◌, ℕ, suc, ◌+◌, ◌-◌, ◌<◌, ◌≤◌, Bool, true, false, not, ◌&&◌, ◌||◌, ◌==◌, nat_le, nat_lt, List, [], ◌∷◌, slice_index_or, refl, sym, ap, subst, ◌∙◌, arith, leb-true}
use Rattle.std.proofs.Common.{eqb-true, eq-eqb, true≢false, inl, inr, ⊎_elim, ◌⊎◌}
use Rattle.std.specs.Prelude.{if◌then◌else◌}
use Rattle.std.specs.Bool.{beq}
use Rattle.std.specs.List.{list_all}
use Rattle.std.proofs.lemmas.Bool.{cond_both, and_parts, or_cases, or_left, or_right, ltb-true, lt-ltb, le-leb, cases_lt}
use Rattle.std.specs.Char.Unicode.ToUppercase.{to_uppercase, uppercase_runs, uppercase_strings}
use Rattle.std.specs.Char.Unicode.Rows.{Row, in_run, by_runs, by_strings, string_of}
use Rattle.ucd_table.specs.Rows.{value_in}
use Rattle.ucd_table.proofs.Computing.{tables}
use Rattle.ucd_table.proofs.Facts.{tree_value-tree_of, same_from_beq}
use Rattle.ucd_table.proofs.TrieCheck.{all_below, all_below-at}
use Rattle.ucd_case.specs.CaseFolding.{simple_folding, simple_fold}
use Rattle.ucd_case.specs.SimpleFoldingRows.{simple_folding_rows}
use Rattle.ucd_case.proofs.CaseFoldingLemmas.{simple_folding_stepped}
use Rattle.regex_meaning.specs.Text.{fold_code_point, is_word_char, nonascii_folds_to_ascii_word_char}
use Rattle.regex_meaning.specs.Canonical.{uppercase_or_itself, canonicalize}
use Rattle.regex_meaning.specs.CaseLaws.{OnlyTwoCharactersFoldIntoAscii, ProfileFoldsTableAsUnicodeDoes, WordCharacterIffAsciiWordFold}

abbrev folded : (ℕ → List ℕ) → ℕ → ℕ
folded f c = slice_index_or (f c) 0 c

-- The two characters have equal foldings.
abbrev goes : (ℕ → List ℕ) → (c d : ℕ) → Bool
goes f c d = folded f d == folded f c

abbrev run_goes : (ℕ → List ℕ) → Row → Bool
run_goes f run = all_below (λ i. not (in_run run (run.0 + i)) || goes f (run.0 + i) (uppercase_or_itself (run.0 + i) ((run.3 + i) ∷ []))) (suc (run.1 - run.0))

runs_go : list_all (run_goes simple_folding) uppercase_runs ≡ true
unfolding tables simple_folding_stepped uppercase_runs
runs_go =
    subst (λ f. list_all (run_goes f) uppercase_runs ≡ true) (sym (tree_value-tree_of simple_folding simple_folding_stepped)) refl

goes-itself : (f : ℕ → List ℕ) (c : ℕ) → goes f c c ≡ true
goes-itself f c = eq-eqb (folded f c) (folded f c) refl

goes-single : (f : ℕ → List ℕ) (c : ℕ) → goes f c (uppercase_or_itself c (c ∷ [])) ≡ true
goes-single f c =
    cond_both (nat_lt 0xFFFF c || (nat_le 128 c && nat_lt c 128)) c c (λ d. goes f c d ≡ true) (λ _. goes-itself f c) (λ _. goes-itself f c)

by_runs-goes : (f : ℕ → List ℕ) (runs : List Row) (c : ℕ) → list_all (run_goes f) runs ≡ true → goes f c (uppercase_or_itself c (by_runs runs c ∷ [])) ≡ true
unfolding by_runs
by_runs-goes f [] c h = goes-single f c
by_runs-goes f (run ∷ runs) c h =
    let parts = and_parts (run_goes f run) (list_all (run_goes f) runs) h in
    cond_both (in_run run c) (run.3 + (c - run.0)) (by_runs runs c) (λ d. goes f c (uppercase_or_itself c (d ∷ [])) ≡ true)
    (λ inside.
    let ends = and_parts (nat_le run.0 c) (nat_le c run.1) (and_parts (nat_le run.0 c && nat_le c run.1) _ inside).0 in
    let le = leb-true run.0 c ends.0 in
    let below = leb-true c run.1 ends.1 in
    let at : run.0 + (c - run.0) ≡ c = omega arith in
    let found = all_below-at (λ i. not (in_run run (run.0 + i)) || goes f (run.0 + i) (uppercase_or_itself (run.0 + i) ((run.3 + i) ∷ []))) (suc (run.1 - run.0)) (c - run.0) parts.0 (omega arith) in
    let there : (not (in_run run c) || goes f c (uppercase_or_itself c ((run.3 + (c - run.0)) ∷ []))) ≡ true =
    subst (λ x. (not (in_run run x) || goes f x (uppercase_or_itself x ((run.3 + (c - run.0)) ∷ []))) ≡ true) at found in
    sym (ap (λ b. not b || goes f c (uppercase_or_itself c ((run.3 + (c - run.0)) ∷ []))) inside) ∙ there)
    (λ _. by_runs-goes f runs c parts.1)

by_strings-goes : (f : ℕ → List ℕ) (d : ℕ) (rows : List Row) (c : ℕ) → goes f c (uppercase_or_itself c (d ∷ [])) ≡ true → goes f c (uppercase_or_itself c (by_strings (d ∷ []) rows c)) ≡ true
unfolding by_strings
by_strings-goes f d [] c h = h
by_strings-goes f d (row ∷ rows) c h =
    cond_both (row.0 == c) (string_of row) (by_strings (d ∷ []) rows c) (λ s. goes f c (uppercase_or_itself c s) ≡ true)
    (λ _. cond_both (row.3 == 0) (row.1 ∷ row.2 ∷ []) (row.1 ∷ row.2 ∷ row.3 ∷ []) (λ s. goes f c (uppercase_or_itself c s) ≡ true) (λ _. goes-itself f c) (λ _. goes-itself f c))
    (λ _. by_strings-goes f d rows c h)

pub canonicalize-folds : (c : ℕ) → simple_fold (canonicalize false c) ≡ simple_fold c
unfolding canonicalize to_uppercase
canonicalize-folds c =
    cond_both (nat_lt 0xFFFF c) c (uppercase_or_itself c (to_uppercase c)) (λ d. simple_fold d ≡ simple_fold c)
    (λ _. refl)
    (λ _. eqb-true _ _ (by_strings-goes simple_folding (by_runs uppercase_runs c) uppercase_strings c (by_runs-goes simple_folding uppercase_runs c runs_go)))

-- Characters that become the same without `u` become the same with `u`.
pub alike-folds : (c d : ℕ) → canonicalize false c ≡ canonicalize false d → canonicalize true c ≡ canonicalize true d
unfolding canonicalize
alike-folds c d same = sym (canonicalize-folds c) ∙ ap simple_fold same ∙ canonicalize-folds d

-- ---- Folding into ASCII

-- A row that reaches beyond ASCII does not fold into ASCII, unless it is U+017F or U+212A alone.
abbrev row_stays : ℕ × ℕ × List ℕ → Bool
row_stays r =
    (nat_lt r.1 128 || nat_le 128 (slice_index_or r.2 0 128)) || ((r.0 == 0x017F && r.1 == 0x017F) || (r.0 == 0x212A && r.1 == 0x212A))

rows_stay : list_all row_stays simple_folding_rows ≡ true
unfolding simple_folding_rows
rows_stay = refl

first-or : (v : List ℕ) (c : ℕ) → 128 ≤ c → slice_index_or v 0 c < 128 → slice_index_or v 0 128 < 128
first-or [] c le lt = absurd (omega (arith, le, lt))
first-or (d ∷ ds) c le lt = lt

between : (c d : ℕ) → d ≤ c → c ≤ d → (c == d) ≡ true
between c d x y = eq-eqb c d (omega (arith, x, y))

row-into : (r : ℕ × ℕ × List ℕ) (c : ℕ) → row_stays r ≡ true → r.0 ≤ c → c ≤ r.1 → 128 ≤ c → slice_index_or r.2 0 c < 128
    → nonascii_folds_to_ascii_word_char c ≡ true
row-into r c h low high le lt =
    ⊎_elim (λ e. ⊎_elim (λ f. let g = ltb-true r.1 128 f in absurd (omega (arith, g, high, le))) (λ f. let g = leb-true 128 (slice_index_or r.2 0 128) f in let k = first-or r.2 c le lt in absurd (omega (arith, g, k))) (or_cases (nat_lt r.1 128) (nat_le 128 (slice_index_or r.2 0 128)) e))
    (λ e. ⊎_elim (λ f. or_left (c == 0x017F) _ (at 0x017F f)) (λ f. or_right (c == 0x017F) (c == 0x212A) (at 0x212A f)) (or_cases (r.0 == 0x017F && r.1 == 0x017F) _ e))
    (or_cases (nat_lt r.1 128 || nat_le 128 (slice_index_or r.2 0 128)) _ h)
  where
    at : (d : ℕ) → (r.0 == d && r.1 == d) ≡ true → (c == d) ≡ true
    at d f =
        let p = and_parts (r.0 == d) (r.1 == d) f in
        let x = eqb-true r.0 d p.0 in let y = eqb-true r.1 d p.1 in
        between c d (omega (arith, x, low)) (omega (arith, y, high))

rows-into : (rows : List (ℕ × ℕ × List ℕ)) (c : ℕ) → list_all row_stays rows ≡ true → 128 ≤ c → slice_index_or (value_in [] rows c) 0 c < 128
    → nonascii_folds_to_ascii_word_char c ≡ true
unfolding value_in
rows-into [] c h le lt = absurd (omega (arith, le, lt))
rows-into (r ∷ rows) c h le lt = by (nat_le r.0 c && nat_le c r.1) refl (λ k. rows-into rows c (and_parts (row_stays r) _ h).1 le k)
  where
    by : (b : Bool) → (nat_le r.0 c && nat_le c r.1) ≡ b
        → (slice_index_or (value_in [] rows c) 0 c < 128 → nonascii_folds_to_ascii_word_char c ≡ true) → nonascii_folds_to_ascii_word_char c ≡ true
    by true e later =
        let p = and_parts (nat_le r.0 c) (nat_le c r.1) e in
        row-into r c (and_parts (row_stays r) _ h).0 (leb-true r.0 c p.0) (leb-true c r.1 p.1) le (subst (λ (x : Bool). slice_index_or (if x then r.2 else value_in [] rows c) 0 c < 128) e lt)
    by false e later = later (subst (λ (x : Bool). slice_index_or (if x then r.2 else value_in [] rows c) 0 c < 128) e lt)

-- Without `u`, no character beyond ASCII becomes an ASCII character.
upper-stays : (c : ℕ) (s : List ℕ) → 128 ≤ c → uppercase_or_itself c s < 128 → ⊥
upper-stays c [] le lt = omega (arith, le, lt)
upper-stays c (d ∷ e ∷ s) le lt = omega (arith, le, lt)
upper-stays c (d ∷ []) le lt = by (nat_lt 0xFFFF d) (nat_le 128 c && nat_lt d 128) refl lt
  where
    by : (x y : Bool) → (nat_le 128 c && nat_lt d 128) ≡ y → (if x || y then c else d) < 128 → ⊥
    by true y e lt = omega (arith, le, lt)
    by false true e lt = omega (arith, le, lt)
    by false false e lt = true≢false (sym (rw (le-leb 128 c le, lt-ltb d 128 lt) refl) ∙ e)

pub into-ascii : OnlyTwoCharactersFoldIntoAscii
unfolding canonicalize simple_folding
into-ascii true c le lt = rows-into simple_folding_rows c rows_stay le lt
into-ascii false c le lt = absurd (by (nat_lt 0xFFFF c) lt)
  where
    by : (b : Bool) → (if b then c else uppercase_or_itself c (to_uppercase c)) < 128 → ⊥
    by true lt = omega (arith, le, lt)
    by false lt = upper-stays c (to_uppercase c) le lt

-- ---- The profile's table, and word characters

abbrev folds_alike : Bool → ℕ → Bool
folds_alike unicode c = canonicalize unicode c == fold_code_point unicode c

ascii-alike : (unicode : Bool) → all_below (folds_alike unicode) 128 ≡ true
unfolding canonicalize fold_code_point tables simple_folding simple_folding_rows to_uppercase uppercase_runs uppercase_strings by_runs by_strings
ascii-alike true = refl
ascii-alike false = refl

long-s-alike : (unicode : Bool) → folds_alike unicode 0x017F ≡ true
unfolding canonicalize fold_code_point value_in simple_folding simple_folding_rows to_uppercase uppercase_runs uppercase_strings by_runs by_strings
long-s-alike true = refl
long-s-alike false = refl

kelvin-alike : (unicode : Bool) → folds_alike unicode 0x212A ≡ true
unfolding canonicalize fold_code_point value_in simple_folding simple_folding_rows to_uppercase uppercase_runs uppercase_strings by_runs by_strings
kelvin-alike true = refl
kelvin-alike false = refl

at-two : (P : ℕ → Type 0) (c : ℕ) → P 0x017F → P 0x212A → nonascii_folds_to_ascii_word_char c ≡ true → P c
at-two P c s k e =
    ⊎_elim (λ f. subst P (sym (eqb-true c 0x017F f)) s) (λ f. subst P (sym (eqb-true c 0x212A f)) k) (or_cases (c == 0x017F) (c == 0x212A) e)

pub profile-folds : ProfileFoldsTableAsUnicodeDoes
profile-folds unicode c e =
    eqb-true _ _ (⊎_elim (λ f. all_below-at (folds_alike unicode) 128 c (ascii-alike unicode) (ltb-true c 128 f)) (λ f. at-two (λ d. folds_alike unicode d ≡ true) c (long-s-alike unicode) (kelvin-alike unicode) f) (or_cases (nat_lt c 128) _ e))

abbrev same_word : Bool → ℕ → Bool
same_word unicode c = beq (is_word_char unicode c) (is_word_char false (canonicalize unicode c))

ascii-words : (unicode : Bool) → all_below (same_word unicode) 128 ≡ true
unfolding canonicalize tables simple_folding simple_folding_rows to_uppercase uppercase_runs uppercase_strings by_runs by_strings
ascii-words true = refl
ascii-words false = refl

two-words : (c : ℕ) → nonascii_folds_to_ascii_word_char c ≡ true → same_word true c ≡ true
unfolding canonicalize value_in simple_folding simple_folding_rows
two-words c e = at-two (λ d. same_word true d ≡ true) c refl refl e

no-word : (c : ℕ) → 128 ≤ c → is_word_char false c ≡ false
no-word c le = grind arith

beyond-word : (unicode : Bool) (c : ℕ) → 128 ≤ c → (unicode && nonascii_folds_to_ascii_word_char c) ≡ false → is_word_char unicode c ≡ false
beyond-word unicode c le e = let h = no-word c le in grind arith

folds-beyond : (unicode : Bool) (c : ℕ) → 128 ≤ c → (unicode && nonascii_folds_to_ascii_word_char c) ≡ false → 128 ≤ canonicalize unicode c
folds-beyond unicode c le e = by (cases_lt (canonicalize unicode c) 128)
  where
    by : (canonicalize unicode c < 128) ⊎ (128 ≤ canonicalize unicode c) → 128 ≤ canonicalize unicode c
    by (inl lt) = absurd (true≢false (sym (into-ascii unicode c le lt) ∙ e))
    by (inr ge) = ge

word-ignoring-case : (unicode : Bool) (c : ℕ) → is_word_char unicode c ≡ is_word_char false (canonicalize unicode c)
word-ignoring-case unicode c = by (cases_lt c 128)
  where
    beyond : (unicode : Bool) (b : Bool) → 128 ≤ c → (unicode && nonascii_folds_to_ascii_word_char c) ≡ b → is_word_char unicode c ≡ is_word_char false (canonicalize unicode c)
    beyond true true le e = same_from_beq _ _ (two-words c e)
    beyond false true le e = absurd (true≢false (sym e))
    beyond unicode false le e = beyond-word unicode c le e ∙ sym (no-word (canonicalize unicode c) (folds-beyond unicode c le e))

    by : (c < 128) ⊎ (128 ≤ c) → is_word_char unicode c ≡ is_word_char false (canonicalize unicode c)
    by (inl lt) = same_from_beq _ _ (all_below-at (same_word unicode) 128 c (ascii-words unicode) lt)
    by (inr le) = beyond unicode _ le refl

pub word-folds : WordCharacterIffAsciiWordFold
word-folds false unicode c = refl
word-folds true unicode c = word-ignoring-case unicode c
