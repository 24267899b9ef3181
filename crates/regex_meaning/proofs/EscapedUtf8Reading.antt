-- Escaping the UTF-8 bytes of a text escapes its characters.
use Rattle.std.proofs.Common.{◌≡◌, ℕ, ◌≤◌, Bool, true, false, inl, inr, List, [], ◌∷◌, ◌++◌, flat_map, refl, sym, ap, ap₂, subst, ◌∙◌, arith, lit<, append-nil}
use Rattle.std.specs.Prelude.{◌||◌, nat_lt, nat_eq, if◌then◌else◌, chars, IsTrue}
use Rattle.std.specs.List.{list_all}
use Rattle.std.specs.Char.{encode_utf8}
use Rattle.std.specs.Str.{is_utf8}
use Rattle.std.proofs.Math.Utf8.{encodes, scalars}
use Rattle.std.proofs.lemmas.Grind.{flat_map-append}
use Rattle.std.proofs.lemmas.Str.{encode_ascii, encodes-append, encodes-chars, chars-encodes, scalars-chars, IsUtf8-from_is_utf8}
use Rattle.std.proofs.lemmas.Bool.{cases_Bool, ne_eqb, ltb-true, and_from}
use Rattle.std.proofs.lemmas.Bool.Decides.{leb_tells}
use Rattle.regex_meaning.specs.NumberListHelpers.{contains}
use Rattle.regex_meaning.specs.FlagLettersAndEscaping.{syntax_characters, with_backslash_if_syntax, escape}
use Rattle.regex_meaning.proofs.BoolLemmas.{and-left, and-right}
use Rattle.regex_meaning.specs.Grammar.{Parses}
use Rattle.regex_meaning.specs.GrammarLaws.{literal_tree, EscapedUtf8ParsesAsLiteral}
use Rattle.regex_meaning.proofs.NonAsciiUtf8Bytes.{encode-stays}
use Rattle.regex_meaning.proofs.EscapedTextReading.{escaped_text_parses_as_literal}

-- A number at or above a limit is not in a list whose members are below the limit.
contains-beyond : (limit n : ℕ) (members : List ℕ) → limit ≤ n → list_all (λ x. nat_lt x limit) members ≡ true → contains members n ≡ false
contains-beyond limit n [] le all = refl
contains-beyond limit n (x ∷ xs) le all =
    let less = ltb-true x limit (and-left _ _ all) in
    let other : nat_eq n x ≡ false = ne_eqb n x (λ e. omega arith) in
    ap₂ (λ a b. a || b) other (contains-beyond limit n xs le (and-right _ _ all))

-- A byte that is no ASCII character is not escaped.
escaped-beyond : (byte : ℕ) → 128 ≤ byte → with_backslash_if_syntax byte ≡ byte ∷ []
escaped-beyond byte le = rw (contains-beyond 128 byte syntax_characters le refl)

-- The mark of a syntax character is a backslash, and other characters have none.
abbrev pub mark : ℕ → List ℕ
mark c = if contains syntax_characters c then 92 ∷ [] else []

-- An escaped character is its mark and then the character.
escaped-marked : (c : ℕ) → with_backslash_if_syntax c ≡ mark c ++ c ∷ []
escaped-marked c = elim (cases_Bool (contains syntax_characters c)) [
  | inl e ↦ rw e refl
  | inr e ↦ rw e refl
]

escape-encode : (c : ℕ) → escape (encode_utf8 c) ≡ mark c ++ encode_utf8 c
unfolding escape
escape-encode c = elim (leb_tells 128 c) [
  | inl (e, high) ↦ rw (contains-beyond 128 c syntax_characters high refl) (encode-stays with_backslash_if_syntax escaped-beyond c high)
  | inr (e, low) ↦ rw (encode_ascii c low, append-nil) (escaped-marked c)
]

pub escape-next : (text rest : List ℕ) (c : ℕ) → text ≡ encode_utf8 c ++ rest → escape text ≡ (mark c ++ encode_utf8 c) ++ escape rest
unfolding escape
escape-next text rest c e = ap (λ t. escape t) e ∙ flat_map-append with_backslash_if_syntax (encode_utf8 c) rest ∙ ap (λ (t : List ℕ). t ++ flat_map with_backslash_if_syntax rest) (escape-encode c)

-- ---- The characters of an escaped text

-- The bytes of an escaped character are its mark and then the bytes of the character.
escaped-encodes : (c : ℕ) → encodes (with_backslash_if_syntax c) ≡ mark c ++ encode_utf8 c
escaped-encodes c = elim (cases_Bool (contains syntax_characters c)) [
  | inl e ↦ rw e (encodes-append (92 ∷ []) (c ∷ []) ∙ ap₂ (λ a b. a ++ b) (one 92 ∙ encode_ascii 92 (lit< tt)) (one c))
  | inr e ↦ rw e (one c)
]
  where
    one : (c : ℕ) → encodes (c ∷ []) ≡ encode_utf8 c
    one c = append-nil (encode_utf8 c)

escape-encodes : (cs : List ℕ) → escape (encodes cs) ≡ encodes (escape cs)
unfolding escape
escape-encodes [] = refl
escape-encodes (c ∷ cs) =
    escape-next (encodes (c ∷ cs)) (encodes cs) c refl ∙ ap₂ (λ a b. a ++ b) (sym (escaped-encodes c)) (escape-encodes cs)
    ∙ sym (encodes-append (with_backslash_if_syntax c) (escape cs))

escape-scalars : (cs : List ℕ) → scalars cs ≡ true → scalars (escape cs) ≡ true
unfolding escape
escape-scalars [] h = refl
escape-scalars (c ∷ cs) h = by (contains syntax_characters c) (escape-scalars cs (and-right _ (scalars cs) h))
  where
    by : (b : Bool) → scalars (escape cs) ≡ true → scalars ((if b then 92 ∷ c ∷ [] else c ∷ []) ++ escape cs) ≡ true
    by true f = and_from _ _ refl (and_from _ _ (and-left _ (scalars cs) h) f)
    by false f = and_from _ _ (and-left _ (scalars cs) h) f

escape-chars : (bytes : List ℕ) → IsTrue (is_utf8 bytes) → chars (escape bytes) ≡ escape (chars bytes)
escape-chars bytes h =
    let is = IsUtf8-from_is_utf8 bytes h in
    ap (λ t. chars (escape t)) (sym (encodes-chars bytes is)) ∙ ap chars (escape-encodes (chars bytes)) ∙ chars-encodes (escape (chars bytes)) (escape-scalars (chars bytes) (scalars-chars bytes is))

pub escaped_utf8_parses_as_literal : EscapedUtf8ParsesAsLiteral
escaped_utf8_parses_as_literal flags bytes h =
    subst (λ text. Parses flags text (literal_tree flags (chars bytes))) (sym (escape-chars bytes h)) (escaped_text_parses_as_literal flags (chars bytes))
