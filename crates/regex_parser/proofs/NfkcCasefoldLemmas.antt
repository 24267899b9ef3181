-- The computed set of Changes_When_NFKC_Casefolded has exactly the specified members.
use Rattle.std.proofs.Common.{◌≡◌, ◌⊎◌, ℕ, ◌+◌, ◌≤◌, Bool, true, false, not, ◌&&◌, ◌||◌, nat_le, nat_lt, nat_eq, List, [], ◌∷◌, ◌++◌, length, refl, sym, ap, ap₂, subst, ◌∙◌, arith, bytes_eq}
use Rattle.std.proofs.Common.{eqb-true, encode_utf8_all, append-nil, inl, inr}
use Rattle.std.specs.Prelude.{if◌then◌else◌, encode_utf8, flat_map}
use Rattle.std.specs.Int.{is_in_range}
use Rattle.std.specs.List.{list_all}
use Rattle.std.specs.Str.{chars, IsUtf8}
use Rattle.std.specs.Char.{OutOfScalarRange}
use Rattle.std.proofs.lemmas.Bool.{and_parts, or_cases, ltb-true, leb-true, eqb-false}
use Rattle.std.proofs.lemmas.Bool.Decides.{nat_tests}
use Rattle.std.proofs.lemmas.Str.{encodes_same, encodes-chars}
use Rattle.std.proofs.Math.Bool.{or-false}
use lib.Pointwise.{bytes_decides}
use Rattle.ucd_table.specs.Rows.{in_ranges}
use Rattle.ucd_case.specs.CaseFolding.{full_folding, full_fold}
use Rattle.ucd_case.specs.FullFoldingRows.{full_folding_rows}
use Rattle.ucd_derived.specs.Binary.{is_default_ignorable_code_point}
use Rattle.ucd_derived.specs.DefaultIgnorableCodePointRanges.{default_ignorable_code_point_ranges}
use Rattle.ucd_normal.specs.Decomposition.{decomposition, any_mapping, expand, compatibility_decomposition, or_itself}
use Rattle.ucd_normal.specs.DecompositionRows.{decomposition_rows, Tag}
use Rattle.ucd_normal.specs.DecompositionRows.Tag.{canonical}
use Rattle.unicode_normalization.specs.Forms.{Nfkc, nfkc, normalize, decomposed}
use Rattle.unicode_normalization.specs.Decompose.{decompose}
use Rattle.unicode_normalization.specs.Order.{is_starter, canonical_order, sink}
use Rattle.unicode_normalization.specs.Compose.{compose, compose_after}
use Rattle.unicode_normalization.specs.Hangul.{is_syllable, decompose_hangul}
use Rattle.regex_meaning.specs.Outcomes.{in_intervals}
use Rattle.regex_meaning.specs.UnicodeProperties.{has_property, changes_when_nfkc_casefolded, is_nfkc_casefolded}
use Rattle.regex_meaning.proofs.BoolLemmas.{same-truth}
use Rattle.regex_parser.specs.ClassReaderContracts.{is_in_any_interval}
use Rattle.regex_pattern_front.specs.declared.codepointset.Interval.{Interval}
use Rattle.regex_pattern_front.proofs.CanonicalLemmas.{outside}
use Rattle.regex_parser.proofs.ClassMemberListLemmas.{held-append}

-- ---- Numbers that are characters

pub ignorable-changes : (c : ℕ) → is_default_ignorable_code_point c ≡ true → true ≡ not (is_nfkc_casefolded c)
unfolding is_nfkc_casefolded
ignorable-changes c e = sym (ap (λ b. not (not b && bytes_eq (nfkc (full_fold c)) (c ∷ []))) e)

pub changes-if_not_same : (c : ℕ) (folded normalized itself : List ℕ) (differs : Bool) → is_default_ignorable_code_point c ≡ false → IsUtf8 folded → folded ≡ encode_utf8_all (full_fold c)
    → normalized ≡ encode_utf8_all (nfkc (chars folded)) → itself ≡ encode_utf8 c → differs ≡ not (bytes_eq normalized itself) → differs ≡ not (is_nfkc_casefolded c)
unfolding is_nfkc_casefolded
changes-if_not_same c folded normalized itself differs e utf8 f n i d =
    d ∙ ap not (same-truth (bytes_eq normalized itself) (bytes_eq (nfkc (full_fold c)) (c ∷ [])) on back)
    ∙ sym (ap (λ b. not (not b && bytes_eq (nfkc (full_fold c)) (c ∷ []))) e)
  where
    characters : chars folded ≡ full_fold c
    characters = encodes_same (chars folded) (full_fold c) (encodes-chars folded utf8 ∙ f)

    text : normalized ≡ encode_utf8_all (nfkc (full_fold c))
    text = n ∙ ap (λ x. encode_utf8_all (nfkc x)) characters

    one : itself ≡ encode_utf8_all (c ∷ [])
    one = i ∙ sym (append-nil (encode_utf8 c))

    on : bytes_eq normalized itself ≡ true → bytes_eq (nfkc (full_fold c)) (c ∷ []) ≡ true
    on h = (bytes_decides (nfkc (full_fold c)) (c ∷ [])).1 (encodes_same _ _ (sym text ∙ (bytes_decides normalized itself).0 h ∙ one))

    back : bytes_eq (nfkc (full_fold c)) (c ∷ []) ≡ true → bytes_eq normalized itself ≡ true
    back h = (bytes_decides normalized itself).1 (text ∙ ap encode_utf8_all ((bytes_decides (nfkc (full_fold c)) (c ∷ [])).0 h) ∙ sym one)

-- ---- Numbers that are no characters

-- Ranges that lie outside `low` to `high` contain no number between them.
ranges-outside : (ranges : List (ℕ × ℕ)) (low high c : ℕ) → list_all (λ r. nat_lt r.1 low || nat_lt high r.0) ranges ≡ true → low ≤ c → c ≤ high → in_ranges ranges c ≡ false
unfolding in_ranges
ranges-outside [] low high c h from to = refl
ranges-outside (r ∷ ranges) low high c h from to = ap₂ ◌||◌ (beside (nat_le r.0 c && nat_le c r.1) refl (or_cases (nat_lt r.1 low) (nat_lt high r.0) parts.0)) (ranges-outside ranges low high c parts.1 from to)
  where
    parts : ((nat_lt r.1 low || nat_lt high r.0) ≡ true) × (list_all (λ r. nat_lt r.1 low || nat_lt high r.0) ranges ≡ true)
    parts = and_parts (nat_lt r.1 low || nat_lt high r.0) _ h

    beside : (b : Bool) → (nat_le r.0 c && nat_le c r.1) ≡ b → (nat_lt r.1 low ≡ true) ⊎ (nat_lt high r.0 ≡ true) → b ≡ false
    beside false e x = refl
    beside true e (inl x) = let p = and_parts (nat_le r.0 c) (nat_le c r.1) e in let y = ltb-true r.1 low x in let z = leb-true c r.1 p.1 in absurd (omega (arith, y, z, from))
    beside true e (inr x) = let p = and_parts (nat_le r.0 c) (nat_le c r.1) e in let y = ltb-true high r.0 x in let z = leb-true r.0 c p.0 in absurd (omega (arith, y, z, to))

-- `AreApart low high` states that no row of the three tables meets `low` to `high`.
record AreApart (low high : ℕ) : Type 0 where
  pub folds : list_all (λ r. nat_lt r.1 low || nat_lt high r.0) full_folding_rows ≡ true
  pub decomposes : list_all (λ r. nat_lt r.1 low || nat_lt high r.0) decomposition_rows ≡ true
  pub ignorable : list_all (λ r. nat_lt r.1 low || nat_lt high r.0) default_ignorable_code_point_ranges ≡ true

surrogates-apart : AreApart 0xD800 0xDFFF
unfolding full_folding_rows decomposition_rows default_ignorable_code_point_ranges
surrogates-apart = record { folds = refl; decomposes = refl; ignorable = refl }

beyond-apart : (c : ℕ) → AreApart 0x11_0000 c
unfolding full_folding_rows decomposition_rows default_ignorable_code_point_ranges
beyond-apart c = record { folds = refl; decomposes = refl; ignorable = refl }

alone-composed : (c : ℕ) → compose (c ∷ []) ≡ c ∷ []
unfolding compose compose_after
alone-composed c = by (is_starter c)
  where
    by : (b : Bool) → (if b then c ∷ [] else c ∷ []) ≡ c ∷ []
    by true = refl
    by false = refl

none-decomposed : (c : ℕ) → any_mapping c ≡ [] → compatibility_decomposition c ≡ []
unfolding compatibility_decomposition expand
none-decomposed c e = ap (λ xs. flat_map (λ x. or_itself x (expand any_mapping 2 x)) xs) e

itself-decomposed : (c : ℕ) → any_mapping c ≡ [] → is_syllable c ≡ false → decompose Nfkc c ≡ c ∷ []
unfolding decompose
itself-decomposed c e f = ap (λ b. if b then decompose_hangul c else or_itself c (compatibility_decomposition c)) f ∙ ap (or_itself c) (none-decomposed c e)

decomposed-alone : (c : ℕ) → decompose Nfkc c ≡ c ∷ [] → nfkc (c ∷ []) ≡ c ∷ []
unfolding normalize decomposed canonical_order sink
decomposed-alone c e = ap (λ x. compose (canonical_order (x ++ []))) e ∙ alone-composed c

not-mapped : (c : ℕ) → any_mapping c ≡ [] → is_syllable c ≡ false → nfkc (c ∷ []) ≡ c ∷ []
not-mapped c e f = decomposed-alone c (itself-decomposed c e f)

none-left : (xs : List ℕ) → length xs ≡ 0 → xs ≡ []
none-left [] e = refl
none-left (x ∷ xs) e = absurd (omega (arith, e))

pub mapped-to-itself : (c : ℕ) (folding : List ℕ) → folding ≡ full_folding c → length folding ≡ 0 → decompose Nfkc c ≡ c ∷ [] → nfkc (full_fold c) ≡ c ∷ []
mapped-to-itself c folding is e f = ap (λ x. nfkc (or_itself c x)) (sym is ∙ none-left folding e) ∙ decomposed-alone c f

pub itself-unchanged : (c : ℕ) → is_default_ignorable_code_point c ≡ false → nfkc (full_fold c) ≡ c ∷ [] → false ≡ not (is_nfkc_casefolded c)
unfolding is_nfkc_casefolded
itself-unchanged c e f = sym (ap₂ (λ b d. not (not b && d)) e ((bytes_decides (nfkc (full_fold c)) (c ∷ [])).1 f))

unchanged : (low high c : ℕ) → AreApart low high → low ≤ c → c ≤ high → is_syllable c ≡ false → false ≡ not (is_nfkc_casefolded c)
unfolding is_nfkc_casefolded is_default_ignorable_code_point full_folding decomposition
unchanged low high c a from to s =
    let ignorable : is_default_ignorable_code_point c ≡ false = ranges-outside default_ignorable_code_point_ranges low high c a.ignorable from to in
    let folds : full_fold c ≡ c ∷ [] = ap (or_itself c) (outside [] full_folding_rows low high c a.folds from to) in
    let mapped : any_mapping c ≡ [] = ap (λ (t : Tag × List ℕ). t.1) (outside (canonical, []) decomposition_rows low high c a.decomposes from to) in
    let same : bytes_eq (nfkc (full_fold c)) (c ∷ []) ≡ true = (bytes_decides _ _).1 (ap nfkc folds ∙ not-mapped c mapped s) in
    sym (ap₂ (λ b d. not (not b && d)) ignorable same)

no-syllable : (c : ℕ) → 0xD800 ≤ c → is_syllable c ≡ false
no-syllable c h = grind (arith, nat_tests)

pub no-character-changes : (c : ℕ) → OutOfScalarRange c → false ≡ not (is_nfkc_casefolded c)
no-character-changes c (inl r) = unchanged 0xD800 0xDFFF c surrogates-apart r.0 r.1 (no-syllable c r.0)
no-character-changes c (inr far) = unchanged 0x11_0000 c c (beyond-apart c) far (omega arith) (no-syllable c (omega arith))

-- ---- All code points

single-same : (c : ℕ) → is_in_range c c c ≡ true
single-same c = grind (arith, nat_tests)

single-other : (c d : ℕ) → (d ≡ c → ⊥) → is_in_range c c d ≡ false
single-other c d e = grind (arith, nat_tests)

below-other : (c d : ℕ) → (d ≡ c → ⊥) → nat_lt d c ≡ nat_lt d (c + 1)
below-other c d e = grind (arith, nat_tests)

below-next : (c : ℕ) → nat_lt c (c + 1) ≡ true
below-next c = grind (arith, nat_tests)

below-same : (c : ℕ) → nat_lt c c ≡ false
below-same c = grind (arith, nat_tests)

-- The intervals contain exactly the numbers below `c` that pass the test.
abbrev pub HoldsBelow : (test : ℕ → Bool) → List Interval → (c : ℕ) → Type 0
HoldsBelow test intervals c = (d : ℕ) → is_in_any_interval intervals d ≡ (nat_lt d c && test d)

pub holds-none : (test : ℕ → Bool) → HoldsBelow test [] 0
holds-none test d = sym (ap (λ b. b && test d) (none d))
  where
    none : (d : ℕ) → nat_lt d 0 ≡ false
    none d = grind (arith, nat_tests)

pub holds-more : (test : ℕ → Bool) (old : List Interval) (c : ℕ) → true ≡ test c → HoldsBelow test old c → HoldsBelow test (old ++ record { first = c; last = c } ∷ []) (c + 1)
holds-more test old c e h d = held-append old (record { first = c; last = c } ∷ []) d ∙ by (nat_eq d c) refl
  where
    by : (b : Bool) → nat_eq d c ≡ b → (is_in_any_interval old d || (is_in_range c c d || false)) ≡ (nat_lt d (c + 1) && test d)
    by true f =
        let g : c ≡ d = sym (eqb-true d c f) in
        subst (λ x. (is_in_any_interval old x || (is_in_range c c x || false)) ≡ (nat_lt x (c + 1) && test x)) g
        (ap₂ (λ a b. a || (b || false)) (h c ∙ ap (λ b. b && test c) (below-same c)) (single-same c) ∙ sym (ap₂ ◌&&◌ (below-next c) (sym e)))
    by false f =
        ap₂ (λ a b. a || (b || false)) (h d) (single-other c d (eqb-false d c f)) ∙ or-false (nat_lt d c && test d) ∙ ap (λ b. b && test d) (below-other c d (eqb-false d c f))

pub holds-same : (test : ℕ → Bool) (old : List Interval) (c : ℕ) → false ≡ test c → HoldsBelow test old c → HoldsBelow test old (c + 1)
holds-same test old c e h d = h d ∙ by (nat_eq d c) refl
  where
    by : (b : Bool) → nat_eq d c ≡ b → (nat_lt d c && test d) ≡ (nat_lt d (c + 1) && test d)
    by true f =
        let g : c ≡ d = sym (eqb-true d c f) in
        subst (λ x. (nat_lt x c && test x) ≡ (nat_lt x (c + 1) && test x)) g (ap (λ b. b && test c) (below-same c) ∙ e ∙ sym (ap (λ b. b && test c) (below-next c)))
    by false f = ap (λ b. b && test d) (below-other c d (eqb-false d c f))

pub holds-all : (intervals : List Interval) (set : List (ℕ × ℕ)) (c : ℕ) → c ≡ 0x11_0000 → HoldsBelow (λ d. not (is_nfkc_casefolded d)) intervals c
    → ((d : ℕ) → in_intervals set d ≡ is_in_any_interval intervals d) → (d : ℕ) → in_intervals set d ≡ has_property changes_when_nfkc_casefolded d
unfolding has_property
holds-all intervals set c e h s d = s d ∙ h d ∙ ap (λ b. b && not (is_nfkc_casefolded d)) (ap (nat_lt d) e ∙ within d)
  where
    within : (d : ℕ) → nat_lt d 0x11_0000 ≡ nat_le d 0x10_FFFF
    within d = grind (arith, nat_tests)
