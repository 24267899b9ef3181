-- Replacing matches by themselves keeps a text, flags round-trip, and escaping is injective.
use Rattle.std.proofs.Common.{◌≡◌, ℕ, ◌+◌, ◌-◌, ◌≤◌, Bool, true, false, List, [], ◌∷◌, ◌++◌, map, drop, max, refl, sym, ap, ◌∙◌, arith, append-nil, drop-drop, codes}
use Rattle.std.specs.Prelude.{if◌then◌else◌, ◌==◌, slice_range}
use Rattle.std.proofs.lemmas.List.{take-append-drop}
use Rattle.std.proofs.lemmas.Bool.{cases_Bool}
use mathlib.Core.Logic.{inl, inr}
use Rattle.regex_meaning.specs.NumberListHelpers.{contains}
use Rattle.regex_meaning.specs.Tree.{Flags}
use Rattle.regex_meaning.specs.MatchGroupsByNumberAndName.{Answer}
use Rattle.regex_meaning.specs.Replace.{expansion, replaced}
use Rattle.regex_meaning.specs.FlagLettersAndEscaping.{flags_text, flags_from_letters, syntax_characters, with_backslash_if_syntax, escape}
use Rattle.regex_meaning.specs.Laws.{AreAscendingDisjointAnswersFrom}

-- ---- Replaced texts

order-lower : (low from : ℕ) (ms : List Answer) → low ≤ from → AreAscendingDisjointAnswersFrom from ms → AreAscendingDisjointAnswersFrom low ms
order-lower low from [] le h = tt
order-lower low from (m ∷ ms) le h = (omega arith, h.1, h.2)

-- A range followed by the text after it is the text from the start of the range.
range-then : (text : List ℕ) (a b : ℕ) → a ≤ b → slice_range text a b ++ drop b text ≡ drop a text
range-then text a b le =
    let on : drop b text ≡ drop (b - a) (drop a text) = (let e : a + (b - a) ≡ b = omega arith in rw (drop-drop (b - a) a text, e) refl) in
    rw on (take-append-drop (b - a) (drop a text))

whole : (text : List ℕ) (m : Answer) → expansion text m (codes "$0") ≡ slice_range text m.range.0 m.range.1
unfolding expansion
whole text m = append-nil (slice_range text m.range.0 m.range.1)

pub replaced-whole : (text : List ℕ) (from : ℕ) (ms : List Answer) → AreAscendingDisjointAnswersFrom from ms
    → replaced text from (map (λ m. (m, expansion text m (codes "$0"))) ms) ≡ drop from text
unfolding replaced
replaced-whole text from [] h = refl
replaced-whole text from (m ∷ ms) h =
    let rest = replaced-whole text m.range.1 ms (order-lower m.range.1 (max (m.range.0 + 1) m.range.1) ms (omega arith) h.2) in
    rw (whole text m, rest, range-then text m.range.0 m.range.1 h.1) (range-then text from m.range.0 h.0)

-- ---- Flags

for-both : (P : Bool → Type 0) → P true → P false → (b : Bool) → P b
for-both P t f true = t
for-both P t f false = f

abbrev flags : (icase multiline dot_all no_opt unicode unicode_sets : Bool) → Flags
flags i m s n u v = record { icase = i; multiline = m; dot_all = s; no_opt = n; unicode = u; unicode_sets = v }

read-back : (n i m s u v : Bool) → flags_from_letters (flags_text (flags i m s n u v)) ≡ flags i m s false u v
unfolding flags_text flags_from_letters
read-back n =
    for-both _ (for-both _ (for-both _ (for-both _ (for-both _ refl refl) (for-both _ refl refl)) (for-both _ (for-both _ refl refl) (for-both _ refl refl)))
    (for-both _ (for-both _ (for-both _ refl refl) (for-both _ refl refl)) (for-both _ (for-both _ refl refl) (for-both _ refl refl))))
    (for-both _ (for-both _ (for-both _ (for-both _ refl refl) (for-both _ refl refl)) (for-both _ (for-both _ refl refl) (for-both _ refl refl)))
    (for-both _ (for-both _ (for-both _ refl refl) (for-both _ refl refl)) (for-both _ (for-both _ refl refl) (for-both _ refl refl))))

pub flags-read_back : (f : Flags) → flags_from_letters (flags_text f) ≡ record f { no_opt = false }
flags-read_back f = read-back f.no_opt f.icase f.multiline f.dot_all f.unicode f.unicode_sets

-- ---- Escaped texts

-- This undoes the escaping, so a character behind a backslash is itself.
unescape : (in_lookbehind : Bool) → List ℕ → List ℕ
unescape in_lookbehind [] = []
unescape true (c ∷ cs) = c ∷ unescape false cs
unescape false (c ∷ cs) = if c == 92 then unescape true cs else c ∷ unescape false cs

not-first : (c d : ℕ) (ds : List ℕ) → contains (d ∷ ds) c ≡ false → (c == d) ≡ false
not-first c d ds h = elim (cases_Bool (c == d)) [
  | inl e ↦ absurd (grind (arith, e, h))
  | inr e ↦ e
]

unescape-escaped : (c : ℕ) (rest : List ℕ) → unescape false (with_backslash_if_syntax c ++ rest) ≡ c ∷ unescape false rest
unfolding unescape
unescape-escaped c rest = elim (cases_Bool (contains syntax_characters c)) [
  | inl e ↦ rw e refl
  | inr e ↦ let other : (c == 92) ≡ false = not-first c 92 (codes "^$.|?*+()[]{}") e in rw (e, other) refl
]

unescape-escape : (t : List ℕ) → unescape false (escape t) ≡ t
unfolding escape unescape
unescape-escape [] = refl
unescape-escape (c ∷ t) = unescape-escaped c (escape t) ∙ ap (λ (cs : List ℕ). c ∷ cs) (unescape-escape t)

pub escape-injective : (s t : List ℕ) → escape s ≡ escape t → s ≡ t
escape-injective s t e = sym (unescape-escape s) ∙ ap (unescape false) e ∙ unescape-escape t
