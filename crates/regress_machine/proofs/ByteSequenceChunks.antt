-- The chunks of a byte sequence occur one after another exactly if the whole sequence occurs.
use Rattle.std.proofs.Common.{◌≡◌, ℕ, zero, suc, ◌+◌, ◌≤◌, List, [], ◌∷◌, ◌++◌, length, map, take, drop, Bool, true, refl, ap, ◌∙◌, sym, arith, append-nil, reverse, length-append, length-drop}
use Rattle.std.specs.Prelude.{◌&&◌, nat_eq}
use Rattle.std.specs.List.{concat}
use Rattle.std.proofs.lemmas.List.{reverse-append, length-reverse, take-append-drop}
use Rattle.std.proofs.lemmas.List.Folds.{concat-append}
use Rattle.regex_meaning.specs.Text.{Text, Direction, rightwards, leftwards}
use Rattle.regex_meaning.specs.CompilationRelation.{chunks, first_chunks_of_bytes}
use Rattle.regress_machine.proofs.AdjacentCharacterLemmas.{and_assoc, stands, in_reading_order, length-reading}

-- Chunks stand in bytes if each one begins the bytes that the ones before it leave.
abbrev pub chunks_stand : List (List ℕ) → List ℕ → Bool
chunks_stand [] bs = true
chunks_stand (c ∷ cs) bs = stands nat_eq c bs && chunks_stand cs (drop (length c) bs)

stands-append : (xs ys ds : List ℕ) → stands nat_eq (xs ++ ys) ds ≡ (stands nat_eq xs ds && stands nat_eq ys (drop (length xs) ds))
stands-append [] ys ds = refl
stands-append (x ∷ xs) ys [] = refl
stands-append (x ∷ xs) ys (d ∷ ds) = ap (λ b. nat_eq x d && b) (stands-append xs ys ds) ∙ and_assoc (nat_eq x d) (stands nat_eq xs ds) (stands nat_eq ys (drop (length xs) ds))

pub chunks_stand-concat : (cs : List (List ℕ)) (bs : List ℕ) → chunks_stand cs bs ≡ stands nat_eq (concat cs) bs
chunks_stand-concat [] bs = refl
chunks_stand-concat (c ∷ cs) bs = ap (λ b. stands nat_eq c bs && b) (chunks_stand-concat cs (drop (length c) bs)) ∙ sym (stands-append c (concat cs) bs)

-- This is the length of all chunks together.
abbrev pub total : List (List ℕ) → ℕ
total [] = 0
total (c ∷ cs) = length c + total cs

-- ---- The chunks of a list of bytes are that list

concat-first_chunks_of_bytes : (count : ℕ) (bs : List ℕ) → length bs ≤ count → concat (first_chunks_of_bytes count bs) ≡ bs
concat-first_chunks_of_bytes zero [] le = refl
concat-first_chunks_of_bytes zero (b ∷ bs) le = absurd (omega arith)
concat-first_chunks_of_bytes (suc count) [] le = refl
concat-first_chunks_of_bytes (suc count) (b ∷ bs) le =
    let l = length-drop 15 bs in
    ap (λ (l : List ℕ). b ∷ (take 15 bs ++ l)) (concat-first_chunks_of_bytes count (drop 15 bs) (omega (arith, l))) ∙ ap (λ (l : List ℕ). b ∷ l) (take-append-drop 15 bs)

concat-reversed : (cs : List (List ℕ)) → concat (map reverse (reverse cs)) ≡ reverse (concat cs)
concat-reversed [] = refl
concat-reversed (c ∷ cs) =
    ap (λ (l : List (List ℕ)). concat (map reverse l)) (reverse-append (c ∷ []) cs)
    ∙ ap concat (map-append (reverse cs) (c ∷ []))
    ∙ concat-append (map reverse (reverse cs)) (reverse c ∷ [])
    ∙ ap (λ (l : List ℕ). concat (map reverse (reverse cs)) ++ l) (append-nil (reverse c))
    ∙ ap (λ (l : List ℕ). l ++ reverse c) (concat-reversed cs)
    ∙ sym (reverse-append c (concat cs))
  where
    map-append : (xs ys : List (List ℕ)) → map reverse (xs ++ ys) ≡ map reverse xs ++ map reverse ys
    map-append [] ys = refl
    map-append (x ∷ xs) ys = ap (λ (l : List (List ℕ)). reverse x ∷ l) (map-append xs ys)

-- The code has the last chunk first if bytes are read leftwards.
abbrev pub in_code_order : Direction → List (List ℕ) → List (List ℕ)
in_code_order rightwards cs = cs
in_code_order leftwards cs = reverse cs

-- These are the chunks with their bytes in reading order.
abbrev pub chunks_read : Direction → List (List ℕ) → List (List ℕ)
chunks_read rightwards cs = cs
chunks_read leftwards cs = map reverse cs

module _ (text : Text) where
  pub chunks_read-cons : (d : Direction) (c : List ℕ) (cs : List (List ℕ)) → chunks_read d (c ∷ cs) ≡ in_reading_order text d c ∷ chunks_read d cs
  chunks_read-cons rightwards c cs = refl
  chunks_read-cons leftwards c cs = refl

  pub concat-chunks : (d : Direction) (bytes : List ℕ) → concat (chunks_read d (in_code_order d (chunks bytes))) ≡ in_reading_order text d bytes
  concat-chunks rightwards bytes = concat-first_chunks_of_bytes (length bytes) bytes (omega arith)
  concat-chunks leftwards bytes = concat-reversed (chunks bytes) ∙ ap reverse (concat-first_chunks_of_bytes (length bytes) bytes (omega arith))

  total-read : (d : Direction) (cs : List (List ℕ)) → total cs ≡ length (concat (chunks_read d cs))
  total-read rightwards [] = refl
  total-read rightwards (c ∷ cs) = let l = length-append c (concat cs) in let m = total-read rightwards cs in omega (arith, l, m)
  total-read leftwards [] = refl
  total-read leftwards (c ∷ cs) =
      let l = length-append (reverse c) (concat (map reverse cs)) in
      let m = total-read leftwards cs in
      let r = length-reverse c in
      omega (arith, l, m, r)

  pub total-chunks : (d : Direction) (bytes : List ℕ) → total (in_code_order d (chunks bytes)) ≡ length bytes
  total-chunks d bytes = total-read d (in_code_order d (chunks bytes)) ∙ ap length (concat-chunks d bytes) ∙ length-reading text d bytes
