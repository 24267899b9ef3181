-- The text that remains after some characters begins at their end in the pattern.
use Rattle.std.proofs.Common.{◌≡◌, ℕ, ◌+◌, ◌-◌, ◌≤◌, ◌⊎◌, true, false, List, [], ◌∷◌, ◌++◌, length, drop, chars, refl, sym, ◌∙◌, ap, inl, inr, arith}
use Rattle.std.specs.Prelude.{Option, Some, None, is_some, slice_get, encode_utf8, encode_utf8_all}
use Rattle.std.specs.Option.{MatchOption}
use Rattle.std.specs.Str.{IsUtf8}
use Rattle.std.proofs.Math.Seq.{drop-append_seam}
use Rattle.std.proofs.Math.Utf8.{scalars, scalar}
use Rattle.regex_meaning.proofs.BoolLemmas.{and-right}
use Rattle.std.proofs.lemmas.Str.{encodes-chars, chars-encodes, chars-nil, scalars-chars}
use Rattle.std.proofs.lemmas.List.{append_assoc, append_cancel_left, append-nil, drop_all, length-append}

pub record StandsBehind (text rest : List ℕ) (count : ℕ) : Type 0 where
  pub before : List ℕ
  pub past : List ℕ
  pub whole : text ≡ before ++ rest
  pub spelled : chars text ≡ past ++ chars rest
  pub counted : length past ≡ count
  pub utf8 : IsUtf8 rest

pub behind-none : (text : List ℕ) → IsUtf8 text → StandsBehind text text 0
behind-none text u = record { before = []; past = []; whole = refl; spelled = refl; counted = refl; utf8 = u }

-- The text `t` is what remains of `s` behind its first character `c`.
record IsBehindFirst (s t : List ℕ) (c : ℕ) : Type 0 where
  spelled : chars s ≡ c ∷ chars t
  utf8 : IsUtf8 t

behind_first : (s t : List ℕ) (c : ℕ) → IsUtf8 s → Some c ≡ slice_get (chars s) 0 → s ≡ encode_utf8 c ++ t → IsBehindFirst s t c
behind_first s t c u first front = by (chars s) refl
  where
    by : (cs : List ℕ) → cs ≡ chars s → IsBehindFirst s t c
    by [] e = absurd (cc (ap (λ (xs : List ℕ). slice_get xs 0) e))
    by (d ∷ ds) e =
        let same : c ≡ d = cc (ap (λ (xs : List ℕ). slice_get xs 0) e) in
        let scalars_of : scalars (d ∷ ds) ≡ true = ap scalars e ∙ scalars-chars s u in
        let rest_are : scalars ds ≡ true = and-right (scalar d) (scalars ds) scalars_of in
        let spells : encode_utf8 d ++ encode_utf8_all ds ≡ s = ap encode_utf8_all e ∙ encodes-chars s u in
        let left : encode_utf8 d ++ encode_utf8_all ds ≡ encode_utf8 d ++ t = spells ∙ front ∙ ap (λ x. encode_utf8 x ++ t) same in
        let is : encode_utf8_all ds ≡ t = append_cancel_left (encode_utf8 d) (encode_utf8_all ds) t left in
        let read : ds ≡ chars t = sym (chars-encodes ds rest_are) ∙ ap chars is in
        record { spelled = sym e ∙ ap (λ x. x ∷ ds) (sym same) ∙ ap (λ xs. c ∷ xs) read; utf8 = (ds, (rest_are, is)) }

pub behind-next : (text s t : List ℕ) (n : ℕ) (r : Option ℕ) (NoneIs : Type 0) → is_some r ≡ true → MatchOption r NoneIs (λ c. s ≡ encode_utf8 c ++ t) → r ≡ slice_get (chars s) 0 → StandsBehind text s n → StandsBehind text t (n + 1)
behind-next text s t n None NoneIs some front first b = absurd (cc)
behind-next text s t n (Some c) NoneIs some front first b =
    let here = behind_first s t c b.utf8 first front in
    record {
      before = b.before ++ encode_utf8 c;
      past = b.past ++ c ∷ [];
      whole = b.whole ∙ ap (λ xs. b.before ++ xs) front ∙ sym (append_assoc b.before (encode_utf8 c) t);
      spelled = b.spelled ∙ ap (λ xs. b.past ++ xs) here.spelled ∙ sym (append_assoc b.past (c ∷ []) (chars t));
      counted = length-append b.past (c ∷ []) ∙ ap (λ m. m + 1) b.counted;
      utf8 = here.utf8;
    }

pub behind-rest : (text rest : List ℕ) (n at : ℕ) → StandsBehind text rest n → (n ≡ at) ⊎ ((length rest ≡ 0) × (n ≤ at)) → chars rest ≡ drop at (chars text)
behind-rest text rest n at b (inl e) = sym (ap (λ (xs : List ℕ). drop at xs) b.spelled ∙ ap (λ m. drop m (b.past ++ chars rest)) (sym e ∙ sym b.counted) ∙ drop-append_seam b.past (chars rest))
behind-rest text [] n at b (inr h) =
    let all : chars text ≡ b.past = b.spelled ∙ ap (λ xs. b.past ++ xs) chars-nil ∙ append-nil b.past in
    let few : length (chars text) ≤ at = omega (arith, ap length all, b.counted, h.1) in
    chars-nil ∙ sym (drop_all at (chars text) few)
behind-rest text (c ∷ rest) n at b (inr h) = absurd (omega (arith, h.0))

-- The rest of a text begins at the difference of the lengths.
pub rest-begins : (text rest : List ℕ) (n : ℕ) → StandsBehind text rest n → drop (length text - length rest) text ≡ rest
rest-begins text rest n b =
    let sum : length text ≡ length b.before + length rest = ap length b.whole ∙ length-append b.before rest in
    let at : length text - length rest ≡ length b.before = omega (arith, sum) in
    ap (λ m. drop m text) at ∙ ap (λ (xs : List ℕ). drop (length b.before) xs) b.whole ∙ drop-append_seam b.before rest

pub rest-fits : (text rest : List ℕ) (n : ℕ) → StandsBehind text rest n → length rest ≤ length text
rest-fits text rest n b = omega (arith, ap length b.whole, length-append b.before rest)

-- No character is left, and `Same` holds, if no character came.
pub nothing-behind : (s : List ℕ) (r : Option ℕ) (Same : Type 0) (Q : ℕ → Type 0) → is_some r ≡ false → MatchOption r ((length s ≡ 0) × Same) Q → (length s ≡ 0) × Same
nothing-behind s None Same Q none steps = steps
nothing-behind s (Some c) Same Q none steps = absurd (cc)
