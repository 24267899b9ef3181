-- A join of abstract start predicates allows each text that one of the joined predicates allows.
use Rattle.std.proofs.Common.{◌≡◌, ℕ, zero, suc, ◌+◌, ◌-◌, ◌<◌, ◌≤◌, Bool, true, false, ◌||◌, List, [], ◌∷◌, ◌++◌, map, length, take, drop, flat_map, refl, sym, arith}
use Rattle.std.specs.Prelude.{if◌then◌else◌, nat_lt, nat_eq, ◌==◌, encode_utf8_all, slice_get, min, max}
use Rattle.std.specs.List.{list_any, list_all, starts_with}
use Rattle.std.specs.Char.{encode_utf8 as encode}
use lib.Pointwise.{pointwise}
use Rattle.std.specs.Int.{is_in_range}
use mathlib.Core.Logic.{◌⊎◌, inl, inr}
use Rattle.regex_meaning.specs.Tree.{Intervals, BracketContents, bracket}
use Rattle.regex_meaning.specs.Text.{Text, is_scalar}
use Rattle.regex_meaning.specs.Outcomes.{is_some_and, in_intervals, accepts}
use Rattle.regex_meaning.specs.StartPredicate.{AbstractStartPredicate, open_ended, arbitrary, sequence, one_of, join, common_prefix_or_first_bytes, common_prefix, union_of_byte_sets}
use Rattle.regex_meaning.specs.StartPredicate.{first_byte_as_set, first_byte_is_one_of, utf8_bytes_of_text_from_place, interval_minus, intervals_minus, intersects}
use Rattle.regex_meaning.specs.StartPredicate.{code_points_of_class, first_bytes, chars_with_first_byte}
use Rattle.regex_meaning.specs.NumberListHelpers.{contains}
use Rattle.regex_meaning.proofs.FirstByteOfCharacter.{in_range-true, true-in_range, scalar-below, contains-bytes_where, first_of_char, FirstOf}
use Rattle.std.proofs.lemmas.Bool.{cases_lt, not-true, and_from, or_left, or_right, lt-ltb, eq-eqb, eqb-true}
use Rattle.regex_meaning.proofs.BoolLemmas.{or-false-left, or-false-right, and-left, and-right}

-- An abstract start predicate says this of the bytes from a place and of the end of an outcome.
abbrev pub Says : AbstractStartPredicate → List ℕ → (place end : ℕ) → Type 0
Says open_ended bytes place end = end ≡ place
Says arbitrary bytes place end = Unit {0}
Says (sequence bs) bytes place end = (0 < length bs) × (starts_with nat_eq bytes bs ≡ true)
Says (one_of members) bytes place end = first_byte_is_one_of members bytes ≡ true

-- The first number of the list, if it has one, is a byte.
abbrev pub BeginsInByte : List ℕ → Type 0
BeginsInByte [] = Unit {0}
BeginsInByte (b ∷ bs) = b < 256

-- What a set of first bytes says does not depend on the end of the outcome.
says-any-end : (members : List ℕ) (bytes : List ℕ) (p e f : ℕ) → Says (one_of members) bytes p e → Says (one_of members) bytes p f
says-any-end members bytes p e f h = h

-- ---- Joins

pub starts-shared-left : (bytes xs ys : List ℕ) → starts_with nat_eq bytes xs ≡ true → starts_with nat_eq bytes (common_prefix xs ys) ≡ true
starts-shared-left bytes [] ys h = h
starts-shared-left bytes (x ∷ xs) [] h = refl
starts-shared-left [] (x ∷ xs) (y ∷ ys) h = grind arith
starts-shared-left (b ∷ bytes) (x ∷ xs) (y ∷ ys) h = go (x == y)
    (and_from _ _ (and-left (nat_eq x b) _ h) (starts-shared-left bytes xs ys (and-right (nat_eq x b) _ h)))
  where
    go : (e : Bool) → starts_with nat_eq (b ∷ bytes) (x ∷ common_prefix xs ys) ≡ true → starts_with nat_eq (b ∷ bytes) (if e then x ∷ common_prefix xs ys else []) ≡ true
    go true k = k
    go false k = refl

starts-shared-right : (bytes xs ys : List ℕ) → starts_with nat_eq bytes ys ≡ true → starts_with nat_eq bytes (common_prefix xs ys) ≡ true
starts-shared-right bytes [] ys h = refl
starts-shared-right bytes (x ∷ xs) [] h = refl
starts-shared-right [] (x ∷ xs) (y ∷ ys) h = grind arith
starts-shared-right (b ∷ bytes) (x ∷ xs) (y ∷ ys) h = go (x == y) refl (starts-shared-right bytes xs ys (and-right (nat_eq y b) _ h))
  where
    go : (e : Bool) → (x == y) ≡ e → starts_with nat_eq bytes (common_prefix xs ys) ≡ true → starts_with nat_eq (b ∷ bytes) (if e then x ∷ common_prefix xs ys else []) ≡ true
    go true e k = and_from _ _ (rw (eqb-true x y e) (and-left (nat_eq y b) _ h)) k
    go false e k = refl

-- Bytes that start with a non-empty sequence begin with a member of its first-byte set.
pub starts-first : (bytes xs : List ℕ) → 0 < length xs → starts_with nat_eq bytes xs ≡ true → first_byte_is_one_of (first_byte_as_set xs) bytes ≡ true
starts-first bytes [] l h = absurd (omega arith)
starts-first [] (x ∷ xs) l h = grind arith
starts-first (b ∷ bytes) (x ∷ xs) l h = or_left _ _ (eq-eqb b x (sym (eqb-true x b (and-left (nat_eq x b) _ h))))

begins-union-left : (bytes xs ys : List ℕ) → BeginsInByte bytes → first_byte_is_one_of xs bytes ≡ true → first_byte_is_one_of (union_of_byte_sets xs ys) bytes ≡ true
begins-union-left [] xs ys i h = h
begins-union-left (b ∷ bytes) xs ys i h = contains-bytes_where (λ c. contains xs c || contains ys c) b i (or_left _ (contains ys b) h)

begins-union-right : (bytes xs ys : List ℕ) → BeginsInByte bytes → first_byte_is_one_of ys bytes ≡ true → first_byte_is_one_of (union_of_byte_sets xs ys) bytes ≡ true
begins-union-right [] xs ys i h = h
begins-union-right (b ∷ bytes) xs ys i h = contains-bytes_where (λ c. contains xs c || contains ys c) b i (or_right (contains xs b) _ h)

says-sequence_or : (front firsts bytes : List ℕ) (p e : ℕ) → starts_with nat_eq bytes front ≡ true → first_byte_is_one_of firsts bytes ≡ true
    → Says (common_prefix_or_first_bytes front firsts) bytes p e
says-sequence_or [] firsts bytes p e h k = k
says-sequence_or (b ∷ bs) firsts bytes p e h k = (omega arith, h)

pub join-left : (x y : AbstractStartPredicate) (bytes : List ℕ) (p e : ℕ) → BeginsInByte bytes → Says x bytes p e → Says (join x y) bytes p e
join-left (sequence xs) (sequence ys) bytes p e i h =
    says-sequence_or (common_prefix xs ys) _ bytes p e (starts-shared-left bytes xs ys h.1)
    (begins-union-left bytes (first_byte_as_set xs) (first_byte_as_set ys) i (starts-first bytes xs h.0 h.1))
join-left (sequence xs) (one_of ys) bytes p e i h = begins-union-left bytes (first_byte_as_set xs) ys i (starts-first bytes xs h.0 h.1)
join-left (one_of xs) (sequence ys) bytes p e i h = begins-union-left bytes xs (first_byte_as_set ys) i h
join-left (one_of xs) (one_of ys) bytes p e i h = begins-union-left bytes xs ys i h
join-left _ _ bytes p e i h = tt

pub join-right : (x y : AbstractStartPredicate) (bytes : List ℕ) (p e : ℕ) → BeginsInByte bytes → Says y bytes p e → Says (join x y) bytes p e
join-right (sequence xs) (sequence ys) bytes p e i h =
    says-sequence_or (common_prefix xs ys) _ bytes p e (starts-shared-right bytes xs ys h.1)
    (begins-union-right bytes (first_byte_as_set xs) (first_byte_as_set ys) i (starts-first bytes ys h.0 h.1))
join-right (sequence xs) (one_of ys) bytes p e i h = begins-union-right bytes (first_byte_as_set xs) ys i h
join-right (one_of xs) (sequence ys) bytes p e i h = begins-union-right bytes xs (first_byte_as_set ys) i (starts-first bytes ys h.0 h.1)
join-right (one_of xs) (one_of ys) bytes p e i h = begins-union-right bytes xs ys i h
join-right _ _ bytes p e i h = tt

-- ---- Texts

-- Each character of the text is a Unicode scalar value.
abbrev pub OfChars : Text → Type 0
OfChars text = list_all is_scalar text.characters ≡ true

drop-chars : (n : ℕ) (cs : List ℕ) → list_all is_scalar cs ≡ true → list_all is_scalar (drop n cs) ≡ true
drop-chars zero cs h = h
drop-chars (suc n) [] h = h
drop-chars (suc n) (c ∷ cs) h = drop-chars n cs (and-right (is_scalar c) _ h)

byte-first : (cs : List ℕ) → list_all is_scalar cs ≡ true → BeginsInByte (encode_utf8_all cs)
byte-first [] h = tt
byte-first (c ∷ cs) h = let f = first_of_char c (and-left (is_scalar c) _ h) in rw f.is f.lead.is_byte

pub from-byte : (text : Text) → OfChars text → (place : ℕ) → BeginsInByte (utf8_bytes_of_text_from_place text place)
from-byte text h place = byte-first (drop place text.characters) (drop-chars place text.characters h)

-- If a set has the first byte of each passing character, the bytes at one begin with a member.
pub next-says : (test : ℕ → Bool) (members : List ℕ)
    → ((c : ℕ) (f : FirstOf c) → is_scalar c ≡ true → test c ≡ true → contains members f.byte ≡ true)
    → (cs : List ℕ) (place : ℕ) → list_all is_scalar cs ≡ true → is_some_and (slice_get cs place) test ≡ true
    → first_byte_is_one_of members (encode_utf8_all (drop place cs)) ≡ true
next-says test members h [] place s t = grind arith
next-says test members h (c ∷ cs) zero s t =
    let scalar = and-left (is_scalar c) _ s in
    let f = first_of_char c scalar in rw f.is (h c f scalar t)
next-says test members h (c ∷ cs) (suc place) s t = next-says test members h cs place (and-right (is_scalar c) _ s) t

-- If a list is the front of another, it stays so when the same list is put before both.
cancel-front : (xs ys zs : List ℕ) → pointwise nat_eq ys (take (length ys) zs) ≡ true
    → pointwise nat_eq (xs ++ ys) (take (length (xs ++ ys)) (xs ++ zs)) ≡ true
cancel-front [] ys zs h = h
cancel-front (x ∷ xs) ys zs h = and_from _ _ (eq-eqb x x refl) (cancel-front xs ys zs h)

pub spelled-bytes : (cs ds : List ℕ) → pointwise nat_eq cs (take (length cs) ds) ≡ true
    → starts_with nat_eq (encode_utf8_all ds) (encode_utf8_all cs) ≡ true
spelled-bytes [] ds h = refl
spelled-bytes (c ∷ cs) [] h = grind arith
spelled-bytes (c ∷ cs) (d ∷ ds) h =
    rw (eqb-true c d (and-left (nat_eq c d) _ h))
    (cancel-front (encode d) (encode_utf8_all cs) (encode_utf8_all ds) (spelled-bytes cs ds (and-right (nat_eq c d) _ h)))

-- ---- Sets of characters

any-append-left : (test : (ℕ × ℕ) → Bool) (xs ys : Intervals) → list_any test xs ≡ true → list_any test (xs ++ ys) ≡ true
any-append-left test [] ys h = grind arith
any-append-left test (x ∷ xs) ys h = go (test x) h (any-append-left test xs ys)
  where
    go : (b : Bool) → (b || list_any test xs) ≡ true → (list_any test xs ≡ true → list_any test (xs ++ ys) ≡ true) → (b || list_any test (xs ++ ys)) ≡ true
    go true h k = refl
    go false h k = k h

any-append-right : (test : (ℕ × ℕ) → Bool) (xs ys : Intervals) → list_any test ys ≡ true → list_any test (xs ++ ys) ≡ true
any-append-right test [] ys h = h
any-append-right test (x ∷ xs) ys h = or_right (test x) _ (any-append-right test xs ys h)

in-outside : (other this : ℕ × ℕ) (c : ℕ) → is_in_range this.0 this.1 c ≡ true → is_in_range other.0 other.1 c ≡ false → in_intervals (interval_minus other this) c ≡ true
in-outside other this c h k = go (nat_lt other.1 other.0) refl
  where
    r : (this.0 ≤ c) × (c ≤ this.1)
    r = true-in_range this.0 this.1 c h

    before : Intervals
    before = if nat_lt this.0 other.0 then (this.0, min this.1 (other.0 - 1)) ∷ [] else []

    behind : Intervals
    behind = if nat_lt other.1 this.1 then (max this.0 (other.1 + 1), this.1) ∷ [] else []

    within : (c < other.0) ⊎ (other.0 ≤ c) → (other.1 < c) ⊎ (c ≤ other.1) → in_intervals (before ++ behind) c ≡ true
    within (inl l) m =
        any-append-left (λ i. is_in_range i.0 i.1 c) before behind
        (rw (lt-ltb this.0 other.0 (omega (arith, r.0))) (or_left _ _ (in_range-true this.0 (min this.1 (other.0 - 1)) c r.0 (omega (arith, r.1)))))
    within (inr l) (inl m) =
        any-append-right (λ i. is_in_range i.0 i.1 c) before behind
        (rw (lt-ltb other.1 this.1 (omega (arith, r.1))) (or_left _ _ (in_range-true (max this.0 (other.1 + 1)) this.1 c (omega (arith, r.0)) r.1)))
    within (inr l) (inr m) = let e = in_range-true other.0 other.1 c l m in cc (e, k)

    go : (b : Bool) → nat_lt other.1 other.0 ≡ b → in_intervals (if b then this ∷ [] else before ++ behind) c ≡ true
    go true e = or_left _ _ h
    go false e = within (cases_lt c other.0) (cases_lt other.1 c)

in-each-outside : (other : ℕ × ℕ) (these : Intervals) (c : ℕ) → in_intervals these c ≡ true → is_in_range other.0 other.1 c ≡ false
    → in_intervals (flat_map (interval_minus other) these) c ≡ true
in-each-outside other [] c h k = h
in-each-outside other (this ∷ these) c h k = go (is_in_range this.0 this.1 c) refl (λ i. in-each-outside other these c i k)
  where
    go : (b : Bool) → is_in_range this.0 this.1 c ≡ b → (in_intervals these c ≡ true → in_intervals (flat_map (interval_minus other) these) c ≡ true)
        → in_intervals (interval_minus other this ++ flat_map (interval_minus other) these) c ≡ true
    go true e next = any-append-left (λ i. is_in_range i.0 i.1 c) (interval_minus other this) _ (in-outside other this c e k)
    go false e next = any-append-right (λ i. is_in_range i.0 i.1 c) (interval_minus other this) _ (next (rw e at h))

in-without : (these others : Intervals) (c : ℕ) → in_intervals these c ≡ true → in_intervals others c ≡ false → in_intervals (intervals_minus these others) c ≡ true
in-without these [] c h k = h
in-without these (other ∷ others) c h k =
    in-without (flat_map (interval_minus other) these) others c
    (in-each-outside other these c h (or-false-left (is_in_range other.0 other.1 c) _ k)) (or-false-right (is_in_range other.0 other.1 c) _ k)

-- The first byte of a character in the intervals is among the first bytes of the intervals.
pub first-byte-in : (ivs : Intervals) (c : ℕ) (f : FirstOf c) → in_intervals ivs c ≡ true → contains (first_bytes ivs) f.byte ≡ true
first-byte-in ivs c f h = contains-bytes_where (λ b. intersects (chars_with_first_byte b) ivs) f.byte f.lead.is_byte (f.lead.meets ivs h)

pub in-singles : (members : List ℕ) (c : ℕ) → contains members c ≡ true → in_intervals (map (λ d. (d, d)) members) c ≡ true
in-singles [] c h = h
in-singles (d ∷ members) c h = go (c == d) refl (in-singles members c)
  where
    go : (b : Bool) → (c == d) ≡ b → (contains members c ≡ true → in_intervals (map (λ e. (e, e)) members) c ≡ true)
        → (is_in_range d d c || in_intervals (map (λ e. (e, e)) members) c) ≡ true
    go true e next = let same = eqb-true c d e in or_left _ _ (in_range-true d d c (omega arith) (omega arith))
    go false e next = or_right (is_in_range d d c) _ (next (rw e at h))

pub in-bracket : (contents : BracketContents) (c : ℕ) → is_scalar c ≡ true → accepts (bracket contents) c ≡ true → in_intervals (code_points_of_class contents) c ≡ true
in-bracket contents c s h = go contents.invert refl
  where
    go : (b : Bool) → contents.invert ≡ b → in_intervals (if b then intervals_minus ((0, 0x10_FFFF) ∷ []) contents.intervals else contents.intervals) c ≡ true
    go true e =
        in-without ((0, 0x10_FFFF) ∷ []) contents.intervals c (or_left _ _ (in_range-true 0 0x10_FFFF c (omega arith) (let l = scalar-below c s in omega arith)))
        (not-true (in_intervals contents.intervals c) (rw e at h))
    go false e = rw e at h
