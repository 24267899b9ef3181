-- Loops over bytes compute unions of byte sets, sets of first bytes and lists of members.
use Rattle.std.proofs.Common.{◌≡◌, ℕ, ◌+◌, ◌-◌, ◌<◌, ◌≤◌, suc, Bool, true, false, ◌||◌, List, [], ◌∷◌, filter, map, length, drop, get_or, slice_get, Some, None, drop-cons, refl, sym, ap, ◌∙◌, arith}
use Rattle.std.proofs.Common.{if◌then◌else◌}
use Rattle.std.specs.Prelude.{◌==◌, ◌&&◌, nat_le}
use Rattle.std.specs.List.{list_any}
use Rattle.std.proofs.lemmas.List.{drop_all}
use Rattle.regex_meaning.specs.NumberListHelpers.{contains, numbers_from}
use Rattle.regex_meaning.specs.Tree.{Intervals}
use Rattle.regex_meaning.specs.StartPredicate.{bytes_that_pass, chars_with_first_byte, intersects, union_of_byte_sets, first_byte_as_set}
use Rattle.regex_pattern_front.proofs.ByteSetMemberLemmas.{contains-bytes_where, bytes_where-same}
use Rattle.regress_program.specs.JoinedStarts.{set_bytes_from}
use Rattle.std.proofs.Math.Bool.{or-false, or_assoc}

or-comm : (s t : Bool) → (s || t) ≡ (t || s)
or-comm true true = refl
or-comm true false = refl
or-comm false true = refl
or-comm false false = refl

-- ---- Unions

pub union-none : (p : ℕ → Bool) → union_of_byte_sets (bytes_that_pass p) [] ≡ bytes_that_pass p
union-none p = bytes_where-same _ _ (λ b h. or-false (contains (bytes_that_pass p) b) ∙ contains-bytes_where p b h)

pub union-more : (old new rest : List ℕ) (byte : ℕ) → new ≡ bytes_that_pass (λ b. b == byte || contains old b)
    → union_of_byte_sets new rest ≡ union_of_byte_sets old (byte ∷ rest)
union-more old new rest byte e = bytes_where-same _ _ (λ b h.
    ap (λ t. t || contains rest b) (ap (λ s. contains s b) e ∙ contains-bytes_where (λ c. c == byte || contains old c) b h ∙ or-comm (b == byte) (contains old b))
    ∙ or_assoc (contains old b) (b == byte) (contains rest b))

-- A union with the next byte and then with those behind it is one with all of them.
pub union-next : (old new bytes : List ℕ) (i : ℕ) → i < length bytes → new ≡ bytes_that_pass (λ b. b == get_or bytes i 0 || contains old b)
    → union_of_byte_sets new (drop (i + 1) bytes) ≡ union_of_byte_sets old (drop i bytes)
union-next old new bytes i h e =
    let next : suc i ≡ i + 1 = omega arith in
    union-more old new (drop (i + 1) bytes) (get_or bytes i 0) e
    ∙ ap (union_of_byte_sets old) (sym (drop-cons bytes i 0 h ∙ ap (λ (k : ℕ). get_or bytes i 0 ∷ drop k bytes) next))

-- The first byte of an empty list adds nothing to a set.
pub union-no_first : (p : ℕ → Bool) (bytes : List ℕ) → slice_get bytes 0 ≡ None → bytes_that_pass p ≡ union_of_byte_sets (bytes_that_pass p) (first_byte_as_set bytes)
union-no_first p [] h = sym (union-none p)
union-no_first p (x ∷ xs) h = cc

pub union-first : (old new bytes : List ℕ) (byte : ℕ) → slice_get bytes 0 ≡ Some byte → new ≡ bytes_that_pass (λ b. b == byte || contains old b)
    → new ≡ union_of_byte_sets old (first_byte_as_set bytes)
union-first old new [] byte h e = cc
union-first old new (x ∷ xs) byte h e =
    let is : byte ≡ x = cc in
    e ∙ bytes_where-same _ _ (λ b k. or-comm (b == byte) (contains old b) ∙ ap (λ t. contains old b || t) (ap (λ y. b == y) is ∙ sym (or-false (b == x))))

pub union-comm : (xs ys : List ℕ) → union_of_byte_sets xs ys ≡ union_of_byte_sets ys xs
union-comm xs ys = bytes_where-same _ _ (λ b h. or-comm (contains xs b) (contains ys b))

-- A union with two lists that starts from the empty set is the union of both lists.
pub union-both : (xs ys : List ℕ) → union_of_byte_sets (union_of_byte_sets [] xs) ys ≡ union_of_byte_sets xs ys
union-both xs ys = bytes_where-same _ _ (λ b h. ap (λ t. t || contains ys b) (contains-bytes_where (contains xs) b h))

pub union-assoc : (xs ys zs : List ℕ) → union_of_byte_sets (union_of_byte_sets xs ys) zs ≡ union_of_byte_sets xs (union_of_byte_sets ys zs)
union-assoc xs ys zs = bytes_where-same _ _ (λ b h.
    ap (λ t. t || contains zs b) (contains-bytes_where (λ c. contains xs c || contains ys c) b h)
    ∙ or_assoc (contains xs b) (contains ys b) (contains zs b)
    ∙ ap (λ t. contains xs b || t) (sym (contains-bytes_where (λ c. contains ys c || contains zs c) b h)))

or-twice : (s t : Bool) → (s || (s || t)) ≡ (s || t)
or-twice true t = refl
or-twice false t = refl

-- A second union with the same set changes nothing.
pub union-again : (xs ys : List ℕ) → union_of_byte_sets xs (union_of_byte_sets xs ys) ≡ union_of_byte_sets xs ys
union-again xs ys = bytes_where-same _ _ (λ b h.
    ap (λ t. contains xs b || t) (contains-bytes_where (λ c. contains xs c || contains ys c) b h) ∙ or-twice (contains xs b) (contains ys b))

pub union-same : (xs ys : List ℕ) → union_of_byte_sets (union_of_byte_sets xs ys) ys ≡ union_of_byte_sets xs ys
union-same xs ys = union-comm (union_of_byte_sets xs ys) ys ∙ ap (union_of_byte_sets ys) (union-comm xs ys) ∙ union-again ys xs ∙ union-comm ys xs

-- ---- First bytes

-- This is the set together with the first bytes of these code points.
abbrev pub with_first_bytes : List ℕ → Intervals → List ℕ
with_first_bytes set intervals = bytes_that_pass (λ b. contains set b || intersects (chars_with_first_byte b) intervals)

meet-none : (xs : Intervals) → intersects xs [] ≡ false
meet-none [] = refl
meet-none (x ∷ xs) = meet-none xs

pub first_bytes-none : (p : ℕ → Bool) → with_first_bytes (bytes_that_pass p) [] ≡ bytes_that_pass p
first_bytes-none p =
    bytes_where-same _ _ (λ b h. ap (λ t. contains (bytes_that_pass p) b || t) (meet-none (chars_with_first_byte b)) ∙ or-false (contains (bytes_that_pass p) b) ∙ contains-bytes_where p b h)

four : (s t u v : Bool) → ((s || t) || (u || v)) ≡ (((s || false) || u) || (t || v))
four true t u v = refl
four false true true v = refl
four false true false v = refl
four false false u v = refl

touches : (x y : ℕ × ℕ) → Bool
touches x y = nat_le x.0 x.1 && nat_le y.0 y.1 && nat_le x.0 y.1 && nat_le y.0 x.1

meet-cons : (xs : Intervals) (y : ℕ × ℕ) (ys : Intervals) → intersects xs (y ∷ ys) ≡ (intersects xs (y ∷ []) || intersects xs ys)
unfolding touches
meet-cons [] y ys = refl
meet-cons (x ∷ xs) y ys =
    ap (λ t. (touches x y || list_any (touches x) ys) || t) (meet-cons xs y ys)
    ∙ four (touches x y) (list_any (touches x) ys) (intersects xs (y ∷ [])) (intersects xs ys)

pub first_bytes-more : (old new : List ℕ) (i : ℕ × ℕ) (rest : Intervals) → new ≡ with_first_bytes old (i ∷ [])
    → with_first_bytes new rest ≡ with_first_bytes old (i ∷ rest)
first_bytes-more old new i rest e = bytes_where-same _ _ (λ b h.
    ap (λ t. t || intersects (chars_with_first_byte b) rest) (ap (λ s. contains s b) e ∙ contains-bytes_where (λ c. contains old c || intersects (chars_with_first_byte c) (i ∷ [])) b h)
    ∙ or_assoc (contains old b) (intersects (chars_with_first_byte b) (i ∷ [])) (intersects (chars_with_first_byte b) rest)
    ∙ ap (λ t. contains old b || t) (sym (meet-cons (chars_with_first_byte b) i rest)))

-- The first bytes of the next item and then of those behind it are those of all of them.
pub first_bytes-next : {A : Type 0} (f : A → ℕ × ℕ) (old new : List ℕ) (items : List A) (i : ℕ) (d : A) → i < length items
    → new ≡ with_first_bytes old (f (get_or items i d) ∷ []) → with_first_bytes new (map f (drop (i + 1) items)) ≡ with_first_bytes old (map f (drop i items))
first_bytes-next {A = A} f old new items i d h e =
    let next : suc i ≡ i + 1 = omega arith in
    first_bytes-more old new (f (get_or items i d)) (map f (drop (i + 1) items)) e
    ∙ ap (λ (xs : List A). with_first_bytes old (map f xs)) (sym (drop-cons items i d h ∙ ap (λ (k : ℕ). get_or items i d ∷ drop k items) next))

-- If no item is left, no first bytes are added.
pub first_bytes-end : {A : Type 0} (f : A → ℕ × ℕ) (p : ℕ → Bool) (items : List A) (i : ℕ) → length items ≤ i
    → bytes_that_pass p ≡ with_first_bytes (bytes_that_pass p) (map f (drop i items))
first_bytes-end {A = A} f p items i h = sym (first_bytes-none p) ∙ ap (λ (xs : List A). with_first_bytes (bytes_that_pass p) (map f xs)) (sym (drop_all i items h))

-- ---- The list of members

bytes_from-cons : (set : List ℕ) (n : ℕ) → n < 256 → set_bytes_from set n ≡ (if contains set n then n ∷ set_bytes_from set (n + 1) else set_bytes_from set (n + 1))
unfolding set_bytes_from
bytes_from-cons set n h = let e : 256 - n ≡ suc (256 - (n + 1)) = omega arith in ap (λ k. filter (contains set) (numbers_from n k)) e

pub bytes_from-next : (set : List ℕ) (n : ℕ) → n < 256 → contains set n ≡ true → set_bytes_from set n ≡ n ∷ set_bytes_from set (n + 1)
bytes_from-next set n h e = bytes_from-cons set n h ∙ ap (λ t. if t then n ∷ set_bytes_from set (n + 1) else set_bytes_from set (n + 1)) e

pub bytes_from-skip : (set : List ℕ) (n : ℕ) → n < 256 → contains set n ≡ false → set_bytes_from set n ≡ set_bytes_from set (n + 1)
bytes_from-skip set n h e = bytes_from-cons set n h ∙ ap (λ t. if t then n ∷ set_bytes_from set (n + 1) else set_bytes_from set (n + 1)) e

pub bytes_from-end : (set : List ℕ) (n : ℕ) → 256 ≤ n → set_bytes_from set n ≡ []
unfolding set_bytes_from
bytes_from-end set n h = let e : 256 - n ≡ 0 = omega arith in ap (λ k. filter (contains set) (numbers_from n k)) e

from_first : (set : List ℕ) → set_bytes_from set 0 ≡ bytes_that_pass (contains set)
unfolding set_bytes_from bytes_that_pass
from_first set = refl

pub bytes_from-all : (p : ℕ → Bool) → set_bytes_from (bytes_that_pass p) 0 ≡ bytes_that_pass p
bytes_from-all p = from_first (bytes_that_pass p) ∙ bytes_where-same _ p (contains-bytes_where p)
