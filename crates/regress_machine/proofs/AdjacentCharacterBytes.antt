-- Characters occur next to a position exactly if their UTF-8 bytes occur next to its offset.
use Rattle.std.proofs.Common.{◌≡◌, ℕ, zero, suc, ◌+◌, ◌-◌, ◌≤◌, List, [], ◌∷◌, ◌++◌, length, map, take, drop, get_or, true, refl, ap, ◌∙◌, sym, arith, append_assoc, zero-add, reverse, length-append}
use Rattle.std.specs.Prelude.{◌&&◌, nat_eq, encode_utf8_all, chars}
use Rattle.std.specs.Char.{encode_utf8 as encode, len_utf8}
use Rattle.std.specs.Str.{IsCharBoundary}
use Rattle.std.specs.List.{list_all, starts_with}
use Rattle.std.proofs.lemmas.Str.{chars-encodes, length-encode, len_utf8_bounds, encodes-append, encode_same, IsUtf8-take, IsCharBoundary-at_seam}
use Rattle.std.proofs.lemmas.List.{reverse-append, reverse-reverse, take-append-drop, length-take-le}
use Rattle.std.proofs.Math.Seq.{take-append_seam, drop-append_seam, take-add}
use lib.Utf8.{scalar, scalars}
use Rattle.regex_meaning.specs.Text.{Text, Direction, rightwards, leftwards, last_place, moved, offsets_from, is_scalar}
use Rattle.regex_meaning.specs.CodeUnitOffsets.{offset}
use Rattle.regex_meaning.specs.OutcomesWithStepTicks.{nearest_first}
use Rattle.regress_machine.specs.Machine.{offset_moved_in_direction}
use Rattle.regress_machine.specs.TextsForBytePrograms.{HasUtf8CharactersAndOffsets}
use Rattle.regress_machine.proofs.SingleCharacterTests.{scalar_of}
use Rattle.regress_machine.proofs.AdjacentCharacterLemmas.{stands, in_reading_order}
use Rattle.regex_meaning.proofs.BoolLemmas.{same-truth, and-left, and-right}
use Rattle.std.proofs.lemmas.Bool.{and_from, eq-eqb, eqb-true}

-- ---- Fronts of lists

pub starts-stands : (ds cs : List ℕ) → starts_with nat_eq ds cs ≡ stands nat_eq cs ds
starts-stands ds [] = refl
starts-stands [] (c ∷ cs) = refl
starts-stands (d ∷ ds) (c ∷ cs) = ap (λ b. nat_eq c d && b) (starts-stands ds cs)

pub stands-front : (xs ys : List ℕ) → stands nat_eq xs ys ≡ true → ys ≡ xs ++ drop (length xs) ys
stands-front [] ys h = refl
stands-front (x ∷ xs) [] h = cc
stands-front (x ∷ xs) (y ∷ ys) h =
    let e = eqb-true x y (and-left (nat_eq x y) _ h) in
    ap (λ (l : List ℕ). y ∷ l) (stands-front xs ys (and-right (nat_eq x y) _ h)) ∙ ap (λ (z : ℕ). z ∷ (xs ++ drop (length xs) ys)) (sym e)

pub front-stands : (xs zs : List ℕ) → stands nat_eq xs (xs ++ zs) ≡ true
front-stands [] zs = refl
front-stands (x ∷ xs) zs = and_from (nat_eq x x) (stands nat_eq xs (xs ++ zs)) (eq-eqb x x refl) (front-stands xs zs)

pub front-is : (xs ys zs : List ℕ) → ys ≡ xs ++ zs → stands nat_eq xs ys ≡ true
front-is xs ys zs e = ap (stands nat_eq xs) e ∙ front-stands xs zs

-- ---- Fronts and ends of texts

-- If a text's bytes begin with the bytes of characters, the text begins with these characters.
pub first_characters : (xs ds rest : List ℕ) → encode_utf8_all ds ≡ encode_utf8_all xs ++ rest → (zs : List ℕ) × (ds ≡ xs ++ zs)
first_characters [] ds rest e = (ds, refl)
first_characters (x ∷ xs) [] rest e =
    let l = ap length e ∙ length-append (encode x ++ encode_utf8_all xs) rest in
    let m = length-append (encode x) (encode_utf8_all xs) in
    let w = length-encode x in
    let b = len_utf8_bounds x in
    absurd (omega (arith, l, m, w, b.0))
first_characters (x ∷ xs) (d ∷ ds) rest e =
    let s = encode_same d x (encode_utf8_all ds) (encode_utf8_all xs ++ rest) (e ∙ append_assoc (encode x) (encode_utf8_all xs) rest) in
    let later = first_characters xs ds rest s.1 in
    (later.0, ap (λ (c : ℕ). c ∷ ds) s.0 ∙ ap (λ (l : List ℕ). x ∷ l) later.1)

-- If a text's bytes end with the bytes of characters, the text ends with these characters.
last_characters : (xs ds rest : List ℕ) → scalars xs ≡ true → scalars ds ≡ true → encode_utf8_all ds ≡ rest ++ encode_utf8_all xs → (zs : List ℕ) × (ds ≡ zs ++ xs)
last_characters xs ds rest s t e =
    let boundary : IsCharBoundary (encode_utf8_all ds) (length rest) = IsCharBoundary-at_seam (encode_utf8_all ds) rest (encode_utf8_all xs) e (xs, (s, refl)) in
    let front = IsUtf8-take (encode_utf8_all ds) (length rest) (ds, (t, refl)) boundary in
    let zs = front.0 in
    let is : encode_utf8_all zs ≡ rest = front.1.1 ∙ ap (take (length rest)) e ∙ take-append_seam rest (encode_utf8_all xs) in
    let both : encode_utf8_all ds ≡ encode_utf8_all (zs ++ xs) = e ∙ ap (λ (l : List ℕ). l ++ encode_utf8_all xs) (sym is) ∙ sym (encodes-append zs xs) in
    (zs, sym (chars-encodes ds t) ∙ ap chars both ∙ chars-encodes (zs ++ xs) (all_scalars zs xs front.1.0 s))
  where
    all_scalars : (zs xs : List ℕ) → scalars zs ≡ true → scalars xs ≡ true → scalars (zs ++ xs) ≡ true
    all_scalars [] xs s t = t
    all_scalars (z ∷ zs) xs s t = and_from (scalar z) (scalars (zs ++ xs)) (and-left (scalar z) _ s) (all_scalars zs xs (and-right (scalar z) _ s) t)

pub scalars_of : (cs : List ℕ) → list_all is_scalar cs ≡ true → scalars cs ≡ true
scalars_of [] h = refl
scalars_of (c ∷ cs) h = and_from (scalar c) (scalars cs) (scalar_of c (and-left (is_scalar c) _ h)) (scalars_of cs (and-right (is_scalar c) _ h))

pub last-of : (xs ds r : List ℕ) → reverse ds ≡ reverse xs ++ r → ds ≡ reverse r ++ xs
last-of xs ds r e = sym (reverse-reverse ds) ∙ ap reverse e ∙ reverse-append (reverse xs) r ∙ ap (λ (l : List ℕ). reverse r ++ l) (reverse-reverse xs)

reversed : (xs ds zs : List ℕ) → ds ≡ zs ++ xs → reverse ds ≡ reverse xs ++ reverse zs
reversed xs ds zs e = ap reverse e ∙ reverse-append zs xs

module _ (text : Text) where
  -- Characters begin a text, in reading order, exactly if their bytes begin its bytes.
  pub bytes-stand : (d : Direction) (xs ds : List ℕ) → scalars xs ≡ true → scalars ds ≡ true
      → stands nat_eq (in_reading_order text d (encode_utf8_all xs)) (in_reading_order text d (encode_utf8_all ds))
      ≡ stands nat_eq (in_reading_order text d xs) (in_reading_order text d ds)
  bytes-stand rightwards xs ds s t =
      same-truth (stands nat_eq (encode_utf8_all xs) (encode_utf8_all ds)) (stands nat_eq xs ds)
      (λ h. let front = first_characters xs ds (drop (length (encode_utf8_all xs)) (encode_utf8_all ds)) (stands-front (encode_utf8_all xs) (encode_utf8_all ds) h) in
      front-is xs ds front.0 front.1)
      (λ h.
      let rest = drop (length xs) ds in
      front-is (encode_utf8_all xs) (encode_utf8_all ds) (encode_utf8_all rest) (ap encode_utf8_all (stands-front xs ds h) ∙ encodes-append xs rest))
  bytes-stand leftwards xs ds s t =
      let bs = encode_utf8_all xs in
      let es = encode_utf8_all ds in
      same-truth (stands nat_eq (reverse bs) (reverse es)) (stands nat_eq (reverse xs) (reverse ds))
      (λ h.
      let r = drop (length (reverse bs)) (reverse es) in
      let end = last_characters xs ds (reverse r) s t (last-of bs es r (stands-front (reverse bs) (reverse es) h)) in
      front-is (reverse xs) (reverse ds) (reverse end.0) (reversed xs ds end.0 end.1))
      (λ h.
      let r = drop (length (reverse xs)) (reverse ds) in
      let e = last-of xs ds r (stands-front (reverse xs) (reverse ds) h) in
      front-is (reverse bs) (reverse es) (reverse (encode_utf8_all (reverse r)))
      (reversed bs es (encode_utf8_all (reverse r)) (ap encode_utf8_all e ∙ encodes-append (reverse r) xs)))

  -- ---- Offsets

  -- These are the characters on a side of a place, in the order of the text.
  abbrev pub side : Direction → ℕ → List ℕ
  side rightwards p = drop p text.characters
  side leftwards p = take p text.characters

  pub nearest-side : (d : Direction) (p : ℕ) → nearest_first text d p ≡ in_reading_order text d (side d p)
  nearest-side rightwards p = refl
  nearest-side leftwards p = refl

  pub scalars-side : (d : Direction) (p : ℕ) → scalars text.characters ≡ true → scalars (side d p) ≡ true
  scalars-side rightwards p h = behind p text.characters h
    where
      behind : (n : ℕ) (cs : List ℕ) → scalars cs ≡ true → scalars (drop n cs) ≡ true
      behind zero cs h = h
      behind (suc n) [] h = h
      behind (suc n) (c ∷ cs) h = behind n cs (and-right (scalar c) _ h)
  scalars-side leftwards p h = before p text.characters h
    where
      before : (n : ℕ) (cs : List ℕ) → scalars cs ≡ true → scalars (take n cs) ≡ true
      before zero cs h = refl
      before (suc n) [] h = h
      before (suc n) (c ∷ cs) h = and_from (scalar c) (scalars (take n cs)) (and-left (scalar c) _ h) (before n cs (and-right (scalar c) _ h))

  offsets-are : (cs : List ℕ) (at p : ℕ) → p ≤ length cs → get_or (offsets_from at (map len_utf8 cs)) p 0 ≡ at + length (encode_utf8_all (take p cs))
  offsets-are [] at zero le = omega arith
  offsets-are [] at (suc p) le = absurd (omega arith)
  offsets-are (c ∷ cs) at zero le = omega arith
  offsets-are (c ∷ cs) at (suc p) le =
      let more = offsets-are cs (at + len_utf8 c) p (omega arith) in
      let l = length-append (encode c) (encode_utf8_all (take p cs)) in
      let w = length-encode c in
      omega (arith, more, l, w)

  -- The offset of a place is the length of the bytes before it.
  pub offset-is : HasUtf8CharactersAndOffsets text → (p : ℕ) → p ≤ last_place text → offset text p ≡ length (encode_utf8_all (take p text.characters))
  offset-is reads p inside = ap (λ (os : List ℕ). get_or os p 0) reads.offsets ∙ offsets-are text.characters 0 p inside ∙ zero-add _

  -- These are the bytes of the text.
  abbrev pub bytes : List ℕ
  bytes = encode_utf8_all text.characters

  parted : (p : ℕ) → bytes ≡ encode_utf8_all (take p text.characters) ++ encode_utf8_all (drop p text.characters)
  parted p = ap encode_utf8_all (sym (take-append-drop p text.characters)) ∙ encodes-append (take p text.characters) (drop p text.characters)

  -- These are the bytes on a side of an offset, nearest first.
  abbrev pub bytes_near : Direction → ℕ → List ℕ
  bytes_near rightwards at = drop at bytes
  bytes_near leftwards at = reverse (take at bytes)

  pub bytes_near-side : HasUtf8CharactersAndOffsets text → (d : Direction) (p : ℕ) → p ≤ last_place text
      → bytes_near d (offset text p) ≡ in_reading_order text d (encode_utf8_all (side d p))
  bytes_near-side reads rightwards p inside =
      let a = encode_utf8_all (take p text.characters) in
      let b = encode_utf8_all (drop p text.characters) in
      ap (λ n. drop n bytes) (offset-is reads p inside) ∙ ap (drop (length a)) (parted p) ∙ drop-append_seam a b
  bytes_near-side reads leftwards p inside =
      let a = encode_utf8_all (take p text.characters) in
      let b = encode_utf8_all (drop p text.characters) in
      ap (λ n. reverse (take n bytes)) (offset-is reads p inside) ∙ ap (λ (l : List ℕ). reverse (take (length a) l)) (parted p) ∙ ap reverse (take-append_seam a b)

  pub offset-inside : HasUtf8CharactersAndOffsets text → (p : ℕ) → p ≤ last_place text → offset text p ≤ length bytes
  offset-inside reads p inside =
      let o = offset-is reads p inside in
      let a = encode_utf8_all (take p text.characters) in
      let b = encode_utf8_all (drop p text.characters) in
      let l = ap length (parted p) ∙ length-append a b in
      omega (arith, o, l)

  -- Behind characters next to a place, the offset has moved by the length of their bytes.
  pub offset-moved : HasUtf8CharactersAndOffsets text → (d : Direction) (xs : List ℕ) (p : ℕ) → p ≤ last_place text
      → stands nat_eq (in_reading_order text d xs) (nearest_first text d p) ≡ true → moved text d (length xs) p ≤ last_place text
      → offset text (moved text d (length xs) p) ≡ offset_moved_in_direction d (length (encode_utf8_all xs)) (offset text p)
  offset-moved reads rightwards xs p inside h within =
      let cs = text.characters in
      let n = length xs in
      let a = encode_utf8_all (take p cs) in
      let zs = drop n (drop p cs) in
      let first : take n (drop p cs) ≡ xs = ap (take n) (stands-front xs (drop p cs) h) ∙ take-append_seam xs zs in
      let all : encode_utf8_all (take (p + n) cs) ≡ a ++ encode_utf8_all xs =
      ap encode_utf8_all (take-add p n cs ∙ ap (λ (l : List ℕ). take p cs ++ l) first) ∙ encodes-append (take p cs) xs in
      let l = ap length all ∙ length-append a (encode_utf8_all xs) in
      let o = offset-is reads p inside in
      let e = offset-is reads (p + n) within in
      omega (arith, l, o, e)
  offset-moved reads leftwards xs p inside h within =
      let cs = text.characters in
      let n = length xs in
      let r = drop (length (reverse xs)) (reverse (take p cs)) in
      let zs = reverse r in
      let is : take p cs ≡ zs ++ xs = last-of xs (take p cs) r (stands-front (reverse xs) (reverse (take p cs)) h) in
      let long : p ≡ length zs + n = sym (length-take-le p cs inside) ∙ ap length is ∙ length-append zs xs in
      let whole : cs ≡ zs ++ (xs ++ drop p cs) = sym (take-append-drop p cs) ∙ ap (λ (l : List ℕ). l ++ drop p cs) is ∙ append_assoc zs xs (drop p cs) in
      let before : take (p - n) cs ≡ zs =
      ap (λ m. take m cs) (let e : p - n ≡ length zs = omega (arith, long) in e) ∙ ap (take (length zs)) whole ∙ take-append_seam zs (xs ++ drop p cs) in
      let l = ap (λ (l : List ℕ). length (encode_utf8_all l)) is ∙ ap length (encodes-append zs xs) ∙ length-append (encode_utf8_all zs) (encode_utf8_all xs) in
      let o = offset-is reads p inside in
      let e = offset-is reads (p - n) within ∙ ap (λ (l : List ℕ). length (encode_utf8_all l)) before in
      omega (arith, l, o, e)
