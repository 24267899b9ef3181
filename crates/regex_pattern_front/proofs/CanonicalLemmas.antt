-- Each case that the code of `canonicalize` distinguishes has the specified value.
use Rattle.std.proofs.Common.{◌≡◌, ℕ, ◌+◌, ◌-◌, ◌≤◌, ◌<◌, Bool, true, false, ◌&&◌, ◌||◌, ◌==◌, nat_le, nat_lt, List, [], ◌∷◌, ◌++◌, Option, None, Some, slice_index_or, refl, sym, ap, ap₂, ◌∙◌, arith}
use Rattle.std.proofs.Common.{eqb-true, inl, inr, ◌⊎◌}
use Rattle.std.specs.Prelude.{if◌then◌else◌}
use Rattle.std.specs.List.{list_all}
use Rattle.std.specs.Char.{OutOfScalarRange}
use Rattle.std.specs.Char.Unicode.ToUppercase.{to_uppercase, uppercase_runs, uppercase_strings}
use Rattle.std.specs.Char.Unicode.Rows.{Row, in_run, string_of, by_runs, by_strings}
use Rattle.std.proofs.lemmas.Bool.{and_parts, leb-true, ltb-true, lt-ltb, or_cases}
use Rattle.ucd_table.specs.Rows.{value_in}
use Rattle.ucd_case.specs.CaseFolding.{simple_folding, simple_fold}
use Rattle.ucd_case.specs.SimpleFoldingRows.{simple_folding_rows}
use Rattle.regex_meaning.specs.Text.{fold_code_point, nonascii_folds_to_ascii_word_char}
use Rattle.regex_meaning.proofs.CaseLawLemmas.{profile-folds}
use Rattle.regex_meaning.specs.Canonical.{uppercase_or_itself, canonicalize}

-- ---- Characters of ASCII

pub folds-in-ascii : (unicode : Bool) (c : ℕ) → c < 128 → fold_code_point unicode c ≡ canonicalize unicode c
folds-in-ascii unicode c lt = sym (profile-folds unicode c (ap (λ b. b || nonascii_folds_to_ascii_word_char c) (lt-ltb c 128 lt)))

-- ---- Characters

pub folds-simply : (c : ℕ) → simple_fold c ≡ canonicalize true c
unfolding canonicalize
folds-simply c = refl

pub itself-past-units : (c : ℕ) → 0xFFFF < c → c ≡ canonicalize false c
unfolding canonicalize
itself-past-units c lt = sym (ap (λ b. if b then c else uppercase_or_itself c (to_uppercase c)) (lt-ltb 0xFFFF c lt))

pub by-forms : (c : ℕ) (forms : List ℕ) → c ≤ 0xFFFF → forms ≡ to_uppercase c → uppercase_or_itself c forms ≡ canonicalize false c
unfolding canonicalize
by-forms c forms le e =
    ap (uppercase_or_itself c) e ∙ sym (ap (λ b. if b then c else uppercase_or_itself c (to_uppercase c)) (not-past (nat_lt 0xFFFF c) refl))
  where
    not-past : (b : Bool) → nat_lt 0xFFFF c ≡ b → b ≡ false
    not-past true h = let lt = ltb-true 0xFFFF c h in absurd (omega (arith, lt, le))
    not-past false h = refl

abbrev chars_of : Option ℕ → List ℕ
chars_of None = []
chars_of (Some c) = c ∷ []

pub several-forms : (first second third : Option ℕ) (f g c : ℕ) → first ≡ Some f → second ≡ Some g → c ≤ 0xFFFF
    → (chars_of first ++ (chars_of second ++ chars_of third)) ≡ to_uppercase c → c ≡ canonicalize false c
several-forms first second third f g c e k le forms =
    by-forms c (f ∷ g ∷ chars_of third) le (sym (ap₂ (λ x y. chars_of x ++ (chars_of y ++ chars_of third)) e k) ∙ forms)

pub one-form : (first second third : Option ℕ) (f c : ℕ) → first ≡ Some f → second ≡ None → third ≡ None → c ≤ 0xFFFF
    → (chars_of first ++ (chars_of second ++ chars_of third)) ≡ to_uppercase c → uppercase_or_itself c (f ∷ []) ≡ canonicalize false c
one-form first second third f c e k n le forms =
    by-forms c (f ∷ []) le (sym (ap (λ x. chars_of x ++ (chars_of second ++ chars_of third)) e ∙ ap₂ (λ y z. f ∷ (chars_of y ++ chars_of z)) k n) ∙ forms)

-- ---- Surrogates and numbers beyond the characters

-- If no row has a number of a range, the table gives the default for each number of the range.
pub outside : {V : Type 0} (default : V) (rows : List (ℕ × ℕ × V)) (low high c : ℕ) → list_all (λ r. nat_lt r.1 low || nat_lt high r.0) rows ≡ true → low ≤ c → c ≤ high
    → value_in default rows c ≡ default
unfolding value_in
outside default [] low high c h from to = refl
outside default (r ∷ rows) low high c h from to = by (nat_le r.0 c && nat_le c r.1) refl (outside default rows low high c parts.1 from to)
  where
    parts : ((nat_lt r.1 low || nat_lt high r.0) ≡ true) × (list_all (λ r. nat_lt r.1 low || nat_lt high r.0) rows ≡ true)
    parts = and_parts (nat_lt r.1 low || nat_lt high r.0) _ h

    beside : (nat_le r.0 c && nat_le c r.1) ≡ true → (nat_lt r.1 low ≡ true) ⊎ (nat_lt high r.0 ≡ true) → r.2 ≡ default
    beside e (inl x) = let p = and_parts (nat_le r.0 c) (nat_le c r.1) e in let y = ltb-true r.1 low x in let z = leb-true c r.1 p.1 in absurd (omega (arith, y, z, from))
    beside e (inr x) = let p = and_parts (nat_le r.0 c) (nat_le c r.1) e in let y = ltb-true high r.0 x in let z = leb-true r.0 c p.0 in absurd (omega (arith, y, z, to))

    by : (b : Bool) → (nat_le r.0 c && nat_le c r.1) ≡ b → value_in default rows c ≡ default → (if b then r.2 else value_in default rows c) ≡ default
    by true e later = beside e (or_cases (nat_lt r.1 low) (nat_lt high r.0) parts.0)
    by false e later = later

no-surrogate-folds : list_all (λ r. nat_lt r.1 0xD800 || nat_lt 0xDFFF r.0) simple_folding_rows ≡ true
unfolding simple_folding_rows
no-surrogate-folds = refl

nothing-beyond-folds : (c : ℕ) → list_all (λ r. nat_lt r.1 0x11_0000 || nat_lt c r.0) simple_folding_rows ≡ true
unfolding simple_folding_rows
nothing-beyond-folds c = refl

-- No run and no row of the uppercase forms has a surrogate.
abbrev run_apart : Row → Bool
run_apart r = nat_lt r.1 0xD800 || nat_lt 0xDFFF r.0

runs-apart : list_all run_apart uppercase_runs ≡ true
unfolding uppercase_runs
runs-apart = refl

abbrev row_apart : Row → Bool
row_apart r = nat_lt r.0 0xD800 || nat_lt 0xDFFF r.0

strings-apart : list_all row_apart uppercase_strings ≡ true
unfolding uppercase_strings
strings-apart = refl

by_runs-apart : (runs : List Row) (c : ℕ) → list_all run_apart runs ≡ true → 0xD800 ≤ c → c ≤ 0xDFFF → by_runs runs c ≡ c
unfolding by_runs
by_runs-apart [] c h from to = refl
by_runs-apart (run ∷ runs) c h from to = by (in_run run c) refl (by_runs-apart runs c parts.1 from to)
  where
    parts : (run_apart run ≡ true) × (list_all run_apart runs ≡ true)
    parts = and_parts (run_apart run) (list_all run_apart runs) h

    beside : in_run run c ≡ true → (nat_lt run.1 0xD800 ≡ true) ⊎ (nat_lt 0xDFFF run.0 ≡ true) → run.3 + (c - run.0) ≡ c
    beside e x =
        let p = and_parts (nat_le run.0 c && nat_le c run.1) _ e in
        let q = and_parts (nat_le run.0 c) (nat_le c run.1) p.0 in
        absurd (elsewhere (leb-true run.0 c q.0) (leb-true c run.1 q.1) x)
      where
        elsewhere : run.0 ≤ c → c ≤ run.1 → (nat_lt run.1 0xD800 ≡ true) ⊎ (nat_lt 0xDFFF run.0 ≡ true) → ⊥
        elsewhere low high (inl x) = let y = ltb-true run.1 0xD800 x in omega (arith, y, high, from)
        elsewhere low high (inr x) = let y = ltb-true 0xDFFF run.0 x in omega (arith, y, low, to)

    by : (b : Bool) → in_run run c ≡ b → by_runs runs c ≡ c → (if b then run.3 + (c - run.0) else by_runs runs c) ≡ c
    by true e later = beside e (or_cases (nat_lt run.1 0xD800) (nat_lt 0xDFFF run.0) parts.0)
    by false e later = later

by_strings-apart : (default : List ℕ) (rows : List Row) (c : ℕ) → list_all row_apart rows ≡ true → 0xD800 ≤ c → c ≤ 0xDFFF
    → by_strings default rows c ≡ default
unfolding by_strings
by_strings-apart default [] c h from to = refl
by_strings-apart default (row ∷ rows) c h from to = by (row.0 == c) refl (by_strings-apart default rows c parts.1 from to)
  where
    parts : (row_apart row ≡ true) × (list_all row_apart rows ≡ true)
    parts = and_parts (row_apart row) (list_all row_apart rows) h

    beside : row.0 ≡ c → (nat_lt row.0 0xD800 ≡ true) ⊎ (nat_lt 0xDFFF row.0 ≡ true) → string_of row ≡ default
    beside e (inl x) = let y = ltb-true row.0 0xD800 x in absurd (omega (arith, y, e, from))
    beside e (inr x) = let y = ltb-true 0xDFFF row.0 x in absurd (omega (arith, y, e, to))

    by : (b : Bool) → (row.0 == c) ≡ b → by_strings default rows c ≡ default → (if b then string_of row else by_strings default rows c) ≡ default
    by true e later = beside (eqb-true row.0 c e) (or_cases (nat_lt row.0 0xD800) (nat_lt 0xDFFF row.0) parts.0)
    by false e later = later

itself-or-itself : (c : ℕ) → uppercase_or_itself c (c ∷ []) ≡ c
itself-or-itself c = by (nat_lt 0xFFFF c || (nat_le 128 c && nat_lt c 128))
  where
    by : (b : Bool) → (if b then c else c) ≡ c
    by true = refl
    by false = refl

pub no-character : (unicode : Bool) (c : ℕ) → OutOfScalarRange c → c ≡ canonicalize unicode c
unfolding canonicalize simple_folding to_uppercase
no-character true c (inl r) = sym (ap (λ v. slice_index_or v 0 c) (outside [] simple_folding_rows 0xD800 0xDFFF c no-surrogate-folds r.0 r.1))
no-character true c (inr far) = sym (ap (λ v. slice_index_or v 0 c) (outside [] simple_folding_rows 0x11_0000 c c (nothing-beyond-folds c) far (omega arith)))
no-character false c (inl r) =
    let one : by_strings (by_runs uppercase_runs c ∷ []) uppercase_strings c ≡ c ∷ [] =
    by_strings-apart (by_runs uppercase_runs c ∷ []) uppercase_strings c strings-apart r.0 r.1 ∙ ap (λ d. d ∷ []) (by_runs-apart uppercase_runs c runs-apart r.0 r.1) in
    sym (itself-or-itself c) ∙ by-forms c (c ∷ []) (omega (arith, r.1)) (sym one)
no-character false c (inr far) = itself-past-units c (omega (arith, far))
