-- A text has the same matches in UTF-8 as in UTF-16, and in ASCII as in UTF-8.
use Rattle.std.proofs.Common.{◌≡◌, ℕ, suc, ◌+◌, ◌-◌, ◌<◌, Bool, true, false, List, [], ◌∷◌, map, Option, Some, None, refl, sym, ap, ◌∙◌, arith, ne_eqb, lt-ltb, le-leb, leb-true}
use Rattle.std.specs.Prelude.{if◌then◌else◌, nat_le, ◌==◌, IsAscii, chars}
use Rattle.std.specs.Option.{option_map_or}
use Rattle.std.specs.Char.{len_utf8}
use Rattle.std.proofs.lemmas.Bool.{cases_Bool, and_parts}
use Rattle.std.proofs.lemmas.Str.{chars-IsAscii}
use mathlib.Core.Logic.{inl, inr}
use Rattle.regex_meaning.specs.Tree.{Node}
use Rattle.regex_meaning.specs.Text.{Text, is_scalar, is_ascii_lowercase, is_ascii_uppercase, to_ascii_lowercase, to_ascii_uppercase, fold_code_point, fold_char, fold_ascii, offsets_from}
use Rattle.regex_meaning.specs.Text.{width_of_single_unit_character, utf16_width, utf16_characters, utf8_text, ascii_text, utf16_text}
use Rattle.regex_meaning.specs.CodeUnitOffsets.{place_at}
use Rattle.regex_meaning.specs.FirstAndAllMatches.{match_list}
use Rattle.regex_meaning.specs.MatchGroupsByNumberAndName.{answer, answers_from}
use Rattle.regex_meaning.proofs.EachElementLemmas.{Each, Each-all}
use Rattle.regex_meaning.proofs.TextsOfSameCharacters.{match_list-same}

-- ---- Folds

same-branches : (b : Bool) (c : ℕ) → (if b then c else c) ≡ c
same-branches true c = refl
same-branches false c = refl

pub small-scalar : (c : ℕ) → c < 0xD800 → is_scalar c ≡ true
small-scalar c less = rw (le-leb 0 c (omega arith), le-leb c 0xD7FF (omega arith)) refl

kept : (folded c : ℕ) → is_scalar folded ≡ true → (if is_scalar folded then folded else c) ≡ folded
kept folded c e = rw e refl

lower-kept : (c : ℕ) → (if is_scalar (to_ascii_lowercase c) then to_ascii_lowercase c else c) ≡ to_ascii_lowercase c
lower-kept c = elim (cases_Bool (is_ascii_uppercase c)) [
  | inl e ↦
      let most = leb-true c 90 (and_parts (nat_le 65 c) (nat_le c 90) e).1 in
      rw e (kept (c + 32) c (small-scalar (c + 32) (omega arith)))
  | inr e ↦ rw e (same-branches (is_scalar c) c)
]

upper-kept : (c : ℕ) → (if is_scalar (to_ascii_uppercase c) then to_ascii_uppercase c else c) ≡ to_ascii_uppercase c
upper-kept c = elim (cases_Bool (is_ascii_lowercase c)) [
  | inl e ↦
      let most = leb-true c 122 (and_parts (nat_le 97 c) (nat_le c 122) e).1 in
      rw e (kept (c - 32) c (small-scalar (c - 32) (omega arith)))
  | inr e ↦ rw e (same-branches (is_scalar c) c)
]

-- Folding a number as a `char` gives the same as folding it as a code point.
pub fold_char-fold_code_point : (unicode : Bool) (c : ℕ) → fold_char unicode c ≡ fold_code_point unicode c
unfolding fold_code_point
fold_char-fold_code_point false c = upper-kept c
fold_char-fold_code_point true c = elim (cases_Bool (c == 0x017F)) [
  | inl e ↦ rw e refl
  | inr e ↦ elim (cases_Bool (c == 0x212A)) [
    | inl f ↦ rw (e, f) refl
    | inr f ↦ rw (e, f) (lower-kept c)
  ]
]

pub fold_ascii-fold_code_point : (unicode : Bool) (c : ℕ) → c < 128 → fold_ascii unicode c ≡ fold_code_point unicode c
unfolding fold_code_point
fold_ascii-fold_code_point false c less = refl
fold_ascii-fold_code_point true c less = rw (ne_eqb c 0x017F (omega arith), ne_eqb c 0x212A (omega arith)) refl

-- ---- UTF-8 and UTF-16

pub utf8-utf16 : (root : Node) (bytes units : List ℕ) (unicode : Bool) (place : ℕ) → chars bytes ≡ utf16_characters units
    → match_list root (utf8_text bytes unicode) place ≡ match_list root (utf16_text units unicode) place
utf8-utf16 root bytes units unicode place e =
    match_list-same (chars bytes) unicode (offsets_from 0 (map len_utf8 (chars bytes))) (offsets_from 0 (map utf16_width (utf16_characters units)))
    (fold_char unicode) (fold_code_point unicode) (λ c. Unit {0}) (Each-all (λ c. Unit {0}) (λ c. tt) (chars bytes))
    (λ c d p q. rw (fold_char-fold_code_point unicode c, fold_char-fold_code_point unicode d) refl) root place
    ∙ ap (λ (cs : List ℕ). match_list root (record {
      characters = cs;
      offsets = offsets_from 0 (map utf16_width (utf16_characters units));
      unicode = unicode;
      fold = fold_code_point unicode;
    }) place) e

-- ---- ASCII and UTF-8

ascii-each : (bytes : List ℕ) → IsAscii bytes → Each (λ c. c < 128) bytes
ascii-each [] h = tt
ascii-each (b ∷ bytes) h = (h 0, ascii-each bytes (λ i. h (suc i)))

ascii-widths : (bytes : List ℕ) → IsAscii bytes → map len_utf8 bytes ≡ map width_of_single_unit_character bytes
ascii-widths [] h = refl
ascii-widths (b ∷ bytes) h = let small = h 0 in rw (lt-ltb b 0x80 small, ascii-widths bytes (λ i. h (suc i))) refl

module _ (root : Node) (bytes : List ℕ) (unicode : Bool) (ascii : IsAscii bytes) where
  -- This text of these characters and offsets folds as UTF-8 does.
  abbrev folding : List ℕ → List ℕ → Text
  folding cs offsets = record { characters = cs; offsets = offsets; unicode = unicode; fold = fold_char unicode }

  lists : (place : ℕ) → match_list root (ascii_text bytes unicode) place ≡ match_list root (folding bytes (offsets_from 0 (map width_of_single_unit_character bytes))) place
  lists place =
      match_list-same bytes unicode (offsets_from 0 (map width_of_single_unit_character bytes)) (offsets_from 0 (map width_of_single_unit_character bytes))
      (fold_ascii unicode) (fold_char unicode) (λ c. c < 128) (ascii-each bytes ascii)
      (λ c d p q. rw (
        fold_ascii-fold_code_point unicode c p,
        fold_ascii-fold_code_point unicode d q,
        fold_char-fold_code_point unicode c,
        fold_char-fold_code_point unicode d,
      ) refl) root place

  answers-at : (at : Option ℕ)
      → option_map_or (λ place. map (answer root (ascii_text bytes unicode)) (match_list root (ascii_text bytes unicode) place)) at []
      ≡ option_map_or (λ place. map (answer root (ascii_text bytes unicode)) (match_list root (folding bytes (offsets_from 0 (map width_of_single_unit_character bytes))) place)) at []
  answers-at None = refl
  answers-at (Some place) = ap (map (answer root (ascii_text bytes unicode))) (lists place)

  offsets-same : offsets_from 0 (map width_of_single_unit_character bytes) ≡ offsets_from 0 (map len_utf8 (chars bytes))
  offsets-same = rw (chars-IsAscii bytes ascii, ascii-widths bytes ascii) refl

  pub ascii-utf8 : (start : ℕ) → answers_from root (ascii_text bytes unicode) start ≡ answers_from root (utf8_text bytes unicode) start
  unfolding answers_from
  ascii-utf8 start =
      answers-at (place_at (ascii_text bytes unicode) start)
      ∙ ap (λ (cs : List ℕ). answers_from root (folding cs (offsets_from 0 (map width_of_single_unit_character bytes))) start) (sym (chars-IsAscii bytes ascii))
      ∙ ap (λ (offsets : List ℕ). answers_from root (folding (chars bytes) offsets) start) offsets-same
