-- The boundaries of a UTF-16 text are the offsets that cut no surrogate pair.
use Rattle.std.proofs.Common.{◌≡◌, ℕ, zero, suc, ◌+◌, ◌<◌, Bool, true, false, cond, not, ◌&&◌, List, [], ◌∷◌, length, map, refl, sym, ap, ◌∙◌, arith, zero-add, eq-eqb, ne_eqb, lt-ltb, le-leb}
use Rattle.std.proofs.Common.{leb-true, is_some, nat_eq, nat_le, nat_lt, Some, None, slice_index}
use Rattle.std.specs.List.{list_any, position_or_len}
use Rattle.std.proofs.lemmas.Bool.{cases_Bool, lt-leb, and_parts}
use mathlib.Core.Logic.{inl, inr}
use Rattle.regex_meaning.specs.NumberListHelpers.{contains}
use Rattle.regex_meaning.specs.Text.{is_high_surrogate, is_low_surrogate, decode_surrogate_pair, utf16_width, utf16_characters, offsets_from, is_unit_boundary, utf16_text}
use Rattle.regex_meaning.specs.Text.{width_of_single_unit_character}
use Rattle.regex_meaning.specs.CodeUnitOffsets.{place_at, units}
use Rattle.regex_meaning.specs.Laws.{is_within_pair}
use Rattle.std.proofs.Math.Bool.{and-false}
use Rattle.regex_meaning.specs.CodeUnits.{AreU16Units}
use Rattle.regex_meaning.proofs.BoolLemmas.{le-same}

any-position : (test : ℕ → Bool) (xs : List ℕ) → list_any test xs ≡ nat_lt (position_or_len test xs) (length xs)
any-position test [] = refl
any-position test (x ∷ xs) = elim (cases_Bool (test x)) [
  | inl e ↦ rw e (sym (lt-ltb 0 (suc (length xs)) (omega arith)))
  | inr e ↦ rw e (any-position test xs ∙ le-same (suc (position_or_len test xs)) (length xs) (suc (1 + position_or_len test xs)) (suc (length xs))
      (λ h. omega arith) (λ h. omega arith))
]

some-cond : (b : Bool) (n : ℕ) → is_some (cond b (Some n) None) ≡ b
some-cond true n = refl
some-cond false n = refl

-- An offset is a unit boundary exactly if it is the offset of a place.
pub unit_boundary-place_at : (units : List ℕ) (unicode : Bool) (i : ℕ) → is_unit_boundary units i ≡ is_some (place_at (utf16_text units unicode) i)
unit_boundary-place_at units unicode i =
    any-position (nat_eq i) (offsets_from 0 (map utf16_width (utf16_characters units)))
    ∙ sym (some-cond _ _)

-- ---- Between units

-- No offset stands before the first one.
pub none-before : (ws : List ℕ) (at i : ℕ) → i < at → contains (offsets_from at ws) i ≡ false
none-before [] at i less = rw (ne_eqb i at (omega arith)) refl
none-before (w ∷ ws) at i less = rw (ne_eqb i at (omega arith)) (none-before ws (at + w) i (omega arith))

abbrev pub is_between : List ℕ → ℕ → Bool
is_between units i = nat_le i (length units) && not (is_within_pair units i)

pub single-width : (u : ℕ) → u < 0x1_0000 → utf16_width u ≡ 1
single-width u less = rw (lt-leb 0x1_0000 u less) refl

pair-width : (u v : ℕ) → utf16_width (decode_surrogate_pair u v) ≡ 2
pair-width u v = rw (le-leb 0x1_0000 (decode_surrogate_pair u v) (omega arith)) refl

-- A low surrogate is no high surrogate.
pub low-not_high : (v : ℕ) → is_low_surrogate v ≡ true → is_high_surrogate v ≡ false
low-not_high v h =
    let above = leb-true 0xDC00 v (and_parts (nat_le 0xDC00 v) (nat_le v 0xDFFF) h).0 in
    rw (lt-leb v 0xDBFF (omega arith)) (and-false (nat_le 0xD800 v))

here : (at : ℕ) (rest : List ℕ) → contains (at ∷ rest) (at + 0) ≡ true
here at rest = rw (eq-eqb (at + 0) at (omega arith)) refl

further : (at k : ℕ) (rest : List ℕ) → 0 < k → contains (at ∷ rest) (at + k) ≡ contains rest (at + k)
further at k rest more = rw (ne_eqb (at + k) at (omega arith)) refl

at-start : (us : List ℕ) → is_between us 0 ≡ true
at-start us = rw (le-leb 0 (length us) (omega arith)) refl

-- If the offsets of the units are their boundaries, so are those with a single unit before them.
step-single : (u : ℕ) (us : List ℕ) (at k : ℕ) (rest : List ℕ) → ((j : ℕ) → contains rest (at + 1 + j) ≡ is_between us j)
    → (is_high_surrogate u && is_low_surrogate (slice_index us 0)) ≡ false → contains (at ∷ rest) (at + k) ≡ is_between (u ∷ us) k
step-single u us at zero rest more apart = here at rest ∙ sym (at-start (u ∷ us))
step-single u us at (suc zero) rest more apart =
    let e : at + 1 ≡ at + 1 + 0 = omega arith in
    further at 1 rest (omega arith) ∙ ap (contains rest) e ∙ more 0 ∙ at-start us
    ∙ sym (rw (apart, le-leb 1 (suc (length us)) (omega arith)) refl)
step-single u us at (suc (suc j)) rest more apart =
    let e : at + suc (suc j) ≡ at + 1 + suc j = omega arith in
    further at (suc (suc j)) rest (omega arith) ∙ ap (contains rest) e ∙ more (suc j)
    ∙ ap (λ (b : Bool). b && not (is_within_pair us (suc j)))
    (le-same (suc j) (length us) (suc (suc j)) (suc (length us)) (λ h. omega arith) (λ h. omega arith))

-- If the offsets of the units are their boundaries, so are those with a surrogate pair before them.
step-pair : (u v : ℕ) (us : List ℕ) (at k : ℕ) (ws : List ℕ) → ((j : ℕ) → contains (offsets_from (at + 2) ws) (at + 2 + j) ≡ is_between us j)
    → is_high_surrogate u ≡ true → is_low_surrogate v ≡ true
    → contains (at ∷ offsets_from (at + 2) ws) (at + k) ≡ is_between (u ∷ v ∷ us) k
step-pair u v us at zero ws more high low = here at (offsets_from (at + 2) ws) ∙ sym (at-start (u ∷ v ∷ us))
step-pair u v us at (suc zero) ws more high low =
    further at 1 (offsets_from (at + 2) ws) (omega arith) ∙ none-before ws (at + 2) (at + 1) (omega arith)
    ∙ sym (rw (high, low) (and-false (nat_le 1 (suc (suc (length us))))))
step-pair u v us at (suc (suc zero)) ws more high low =
    let e : at + 2 ≡ at + 2 + 0 = omega arith in
    further at 2 (offsets_from (at + 2) ws) (omega arith) ∙ ap (contains (offsets_from (at + 2) ws)) e ∙ more 0 ∙ at-start us
    ∙ sym (rw (low-not_high v low, le-leb 2 (suc (suc (length us))) (omega arith)) refl)
step-pair u v us at (suc (suc (suc i))) ws more high low =
    let e : at + suc (suc (suc i)) ≡ at + 2 + suc i = omega arith in
    further at (suc (suc (suc i))) (offsets_from (at + 2) ws) (omega arith) ∙ ap (contains (offsets_from (at + 2) ws)) e ∙ more (suc i)
    ∙ ap (λ (b : Bool). b && not (is_within_pair us (suc i)))
    (le-same (suc i) (length us) (suc (suc (suc i))) (suc (suc (length us))) (λ h. omega arith) (λ h. omega arith))

pub behind-first : (u : ℕ) (us : List ℕ) → AreU16Units (u ∷ us) → AreU16Units us
behind-first u us small k inside = small (suc k) (omega arith)

-- These are the offsets of the characters of the units.
abbrev unit_offsets : ℕ → List ℕ → List ℕ
unit_offsets at units = offsets_from at (map utf16_width (utf16_characters units))

unit_boundary-from : (units : List ℕ) (at k : ℕ) → AreU16Units units → contains (unit_offsets at units) (at + k) ≡ is_between units k
unit_boundary-from [] at zero small = here at []
unit_boundary-from [] at (suc k) small =
    further at (suc k) [] (omega arith) ∙ sym (rw (lt-leb (suc k) 0 (omega arith)) refl)
unit_boundary-from (u ∷ []) at k small =
    rw (single-width u (small 0 (omega arith)))
    (step-single u [] at k ((at + 1) ∷ []) (λ j. unit_boundary-from [] (at + 1) j (behind-first u [] small)) (and-false (is_high_surrogate u)))
unit_boundary-from (u ∷ v ∷ us) at k small = elim (cases_Bool (is_high_surrogate u && is_low_surrogate v)) [
  | inl pair ↦
      let both = and_parts (is_high_surrogate u) (is_low_surrogate v) pair in
      rw (pair, pair-width u v)
      (step-pair u v us at k (map utf16_width (utf16_characters us))
      (λ j. unit_boundary-from us (at + 2) j (behind-first v us (behind-first u (v ∷ us) small))) both.0 both.1)
  | inr apart ↦
      rw (apart, single-width u (small 0 (omega arith)))
      (step-single u (v ∷ us) at k (unit_offsets (at + 1) (v ∷ us))
      (λ j. unit_boundary-from (v ∷ us) (at + 1) j (behind-first u (v ∷ us) small)) apart)
]

-- An offset is a unit boundary exactly if it is within the units and cuts no pair.
pub unit_boundary-between : (units : List ℕ) (i : ℕ) → AreU16Units units → is_unit_boundary units i ≡ is_between units i
unit_boundary-between units i small =
    let e : i ≡ 0 + i = omega arith in
    ap (contains (unit_offsets 0 units)) e ∙ unit_boundary-from units 0 i small

-- ---- Lengths in units

last-single : (cs : List ℕ) (at : ℕ) → slice_index (offsets_from at (map width_of_single_unit_character cs)) (length cs) ≡ at + length cs
last-single [] at = omega arith
last-single (c ∷ cs) at = let more = last-single cs (at + 1) in omega arith

two-on : (at n : ℕ) → at + 2 + n ≡ at + suc (suc n)
two-on at n = omega arith

one-on : (at n : ℕ) → at + 1 + n ≡ at + suc n
one-on at n = omega arith

last-utf16 : (us : List ℕ) (at : ℕ) → AreU16Units us → slice_index (unit_offsets at us) (length (utf16_characters us)) ≡ at + length us
last-utf16 [] at small = omega arith
last-utf16 (u ∷ []) at small = rw (single-width u (small 0 (omega arith))) refl
last-utf16 (u ∷ v ∷ us) at small = elim (cases_Bool (is_high_surrogate u && is_low_surrogate v)) [
  | inl pair ↦
      rw (pair, pair-width u v)
      (last-utf16 us (at + 2) (behind-first v us (behind-first u (v ∷ us) small)) ∙ two-on at (length us))
  | inr apart ↦
      rw (apart, single-width u (small 0 (omega arith)))
      (last-utf16 (v ∷ us) (at + 1) (behind-first u (v ∷ us) small) ∙ one-on at (length (v ∷ us)))
]

pub units-utf16 : (us : List ℕ) (unicode : Bool) → AreU16Units us → units (utf16_text us unicode) ≡ length us
units-utf16 us unicode small = last-utf16 us 0 small ∙ zero-add (length us)
