-- Adding the intervals of a bracket one by one keeps its read lengths right for each key.
use Rattle.std.proofs.Common.{◌≡◌, ◌≢◌, ◌<◌, ◌≤◌, ℕ, suc, ◌+◌, Bool, true, false, ◌||◌, Some, List, length, map, take, get_or, set, get_or-set_same, get_or-set_other, refl, sym, ap, ◌∙◌, subst}
use Rattle.std.proofs.Common.{arith, inl, inr}
use mathlib.Core.Logic.{◌⊎◌}
use Rattle.std.specs.Prelude.{min, max}
use Rattle.std.specs.Int.{is_in_range}
use Rattle.std.proofs.lemmas.Bool.{cases_eq, cases_lt, lt-ltb, le-ltb}
use Rattle.regex_meaning.specs.CodeUnits.{Encoding, code_units_of_character}
use Rattle.regex_meaning.specs.Outcomes.{in_intervals, exclusive_or}
use Rattle.regex_meaning.proofs.FirstByteOfCharacter.{in_range-below, in_range-above}
use Rattle.regex_meaning.proofs.OptionLemmas.{some-same}
use Rattle.regex_pattern_front.specs.Intervals.{interval_of}
use Rattle.regex_pattern_front.specs.declared.codepointset.Interval.{Interval}
use Rattle.regress_machine.specs.FirstSetTables.{is_character_in_encoding, first_unit_key}
use Rattle.regress_program.specs.TableKeysOfUnits.{key, is_16_bit_encoding, first_utf8_byte, IsSurrogatePairOf, HasKeysBetween, is_read_length_right}
use Rattle.regress_program.specs.ClassReadLengths.{IsReadLengthRightForKey, IsReadLengthWithInterval, LacksPairsOfKey, IntervalKeepsLength}
use Rattle.regress_program.proofs.TableKeysOfUnitsLemmas.{first-key-at, first-key-below, key_of_first}
use Rattle.regress_program.proofs.RangeAcceptanceLemmas.{ascii-key, no_interval}
use Rattle.regress_program.proofs.ClassReadLengthsLemmas.{more-intervals}

-- ---- The keys of an interval

lead-more : (a c : ℕ) → 128 ≤ a → a ≤ c → first_utf8_byte a ≤ first_utf8_byte c
lead-more a c past more = elim (cases_lt c 0x800) [
  | inl c2 ↦
      rw (le-ltb a 0x80 past, lt-ltb a 0x800 (omega (arith, more, c2)), le-ltb c 0x80 (omega (arith, past, more)), lt-ltb c 0x800 c2)
      (omega (arith, more))
  | inr c3 ↦ elim (cases_lt a 0x800) [
    | inl a2 ↦ elim (cases_lt c 0x1_0000) [
      | inl d ↦
          rw (le-ltb a 0x80 past, lt-ltb a 0x800 a2, le-ltb c 0x80 (omega (arith, past, more)), le-ltb c 0x800 c3, lt-ltb c 0x1_0000 d)
          (omega (arith, a2, c3))
      | inr d ↦
          rw (le-ltb a 0x80 past, lt-ltb a 0x800 a2, le-ltb c 0x80 (omega (arith, past, more)), le-ltb c 0x800 c3, le-ltb c 0x1_0000 d)
          (omega (arith, a2, d))
    ]
    | inr a3 ↦ elim (cases_lt c 0x1_0000) [
      | inl d ↦
          rw (
            le-ltb a 0x80 past,
            le-ltb a 0x800 a3,
            lt-ltb a 0x1_0000 (omega (arith, more, d)),
            le-ltb c 0x80 (omega (arith, past, more)),
            le-ltb c 0x800 c3,
            lt-ltb c 0x1_0000 d,
          ) (omega (arith, more))
      | inr d ↦ elim (cases_lt a 0x1_0000) [
        | inl a4 ↦
            rw (
              le-ltb a 0x80 past,
              le-ltb a 0x800 a3,
              lt-ltb a 0x1_0000 a4,
              le-ltb c 0x80 (omega (arith, past, more)),
              le-ltb c 0x800 c3,
              le-ltb c 0x1_0000 d,
            ) (omega (arith, a4, d))
        | inr a4 ↦
            rw (
              le-ltb a 0x80 past,
              le-ltb a 0x800 a3,
              le-ltb a 0x1_0000 a4,
              le-ltb c 0x80 (omega (arith, past, more)),
              le-ltb c 0x800 c3,
              le-ltb c 0x1_0000 d,
            ) (omega (arith, more))
      ]
    ]
  ]
]

-- A character whose first unit has a key beyond ASCII is beyond ASCII.
past-ascii : (wide : Bool) (c k : ℕ) → key_of_first wide c ≡ k → 128 ≤ k → 128 ≤ c
past-ascii wide c k is past = elim (cases_lt c 128) [
  | inl low ↦ (let own = ascii-key wide c low in absurd (omega (arith, own, is, past, low)))
  | inr high ↦ high
]

pub bytes-between : (i : Interval) (from first last : ℕ) → from ≡ max i.first 128 → first ≡ first_utf8_byte from → last ≡ min (first_utf8_byte i.last) 255
    → HasKeysBetween false i first last
bytes-between i from first last begins f l e w c is low most k past at =
    let same : first_utf8_byte c ≡ k = some-same (first_utf8_byte c) k (sym (first-key-at e false w c is) ∙ at) in
    let beyond : 128 ≤ c = past-ascii false c k same past in
    let below : first_utf8_byte c < 256 = first-key-below e false w c is in
    let up : first_utf8_byte from ≤ first_utf8_byte c = lead-more from c (omega (arith, begins)) (omega (arith, begins, low, beyond)) in
    let down : first_utf8_byte c ≤ first_utf8_byte i.last = lead-more c i.last beyond most in
    inr (omega (arith, f, up, same), omega (arith, l, down, below, same))

-- ---- The read length at one key

pub step-asked : (wide : Bool) (test : ℕ → Bool) (k step : ℕ) → step ≡ 5 → IsReadLengthRightForKey wide test k step
step-asked wide test k step asks e w c is first = rw asks refl

step-alike : (wide : Bool) (f g : ℕ → Bool) (k step : ℕ) → ((c : ℕ) → f c ≡ g c) → IsReadLengthRightForKey wide f k step → IsReadLengthRightForKey wide g k step
step-alike wide f g k step same h e w c is first =
    subst (λ b. is_read_length_right step b (length (code_units_of_character e c)) ≡ true) (same c) (h e w c is first)

or-none : (a b : Bool) → b ≡ false → (a || b) ≡ a
or-none true b none = refl
or-none false b none = none

-- A read length stays right if no character of its key is in the interval.
step-stays : (wide inverted : Bool) (i : Interval) (k step : ℕ)
    → ((e : Encoding) → is_16_bit_encoding e ≡ wide → (c : ℕ) → is_character_in_encoding e c ≡ true → first_unit_key e (key wide) c ≡ Some k → is_in_range i.first i.last c ≡ false)
    → IsReadLengthWithInterval wide inverted i k step step
step-stays wide inverted i k step none taken before e w c is first =
    subst (λ b. is_read_length_right step (exclusive_or inverted b) (length (code_units_of_character e c)) ≡ true)
    (sym (or-none (taken c) (is_in_range i.first i.last c) (none e w c is first))) (before e w c is first)

-- ---- All keys of an interval

-- From 128 on, a length is right with the interval, whether or not its key is between the keys.
pub interval-added : (wide inverted : Bool) (i : Interval) (first last k old left new : ℕ) → HasKeysBetween wide i first last → 128 ≤ k
    → IntervalKeepsLength wide i k old left → (first ≤ k → k ≤ last → (left ≡ 5) ⊎ LacksPairsOfKey wide i k → IsReadLengthWithInterval wide inverted i k left new)
    → ((k < first) ⊎ (last < k) → new ≡ left) → IsReadLengthWithInterval wide inverted i k old new
interval-added wide inverted i first last k old left new between past leaves there elsewhere taken before =
    elim (cases_lt k first) [
      | inl a ↦ outside leaves (inl a) (elsewhere (inl a))
      | inr a ↦ elim (cases_lt last k) [
        | inl b ↦ outside leaves (inr b) (elsewhere (inr b))
        | inr b ↦ within leaves a b
      ]
    ]
  where
    New : ℕ → Type 0
    New n = IsReadLengthRightForKey wide (λ c. exclusive_or inverted (taken c || is_in_range i.first i.last c)) k n

    Old : ℕ → Type 0
    Old n = IsReadLengthRightForKey wide (λ c. exclusive_or inverted (taken c)) k n

    within : IntervalKeepsLength wide i k old left → first ≤ k → k ≤ last → New new
    within (inl asks) a b = there a b (inl asks) taken (step-asked wide _ k left asks)
    within (inr stays) a b = there a b (inr stays.1) taken (subst Old (sym stays.0) before)

    not-there : LacksPairsOfKey wide i k → (k < first) ⊎ (last < k) → (e : Encoding) → is_16_bit_encoding e ≡ wide → (c : ℕ) → is_character_in_encoding e c ≡ true
        → first_unit_key e (key wide) c ≡ Some k → is_in_range i.first i.last c ≡ false
    not-there none side e w c is at = elim (cases_lt c i.first) [
      | inl low ↦ in_range-below i.first i.last c low
      | inr low ↦ elim (cases_lt i.last c) [
        | inl high ↦ in_range-above i.first i.last c low high
        | inr high ↦ by (between e w c is low high k past at) side
      ]
    ]
      where
        by : IsSurrogatePairOf wide k c ⊎ ((first ≤ k) × (k ≤ last)) → (k < first) ⊎ (last < k) → is_in_range i.first i.last c ≡ false
        by (inl pair) away = none c pair
        by (inr keys) (inl away) = absurd (omega (arith, keys.0, away))
        by (inr keys) (inr away) = absurd (omega (arith, keys.1, away))

    outside : IntervalKeepsLength wide i k old left → (k < first) ⊎ (last < k) → new ≡ left → New new
    outside (inl asks) side same = step-asked wide _ k new (same ∙ asks)
    outside (inr stays) side same =
        subst New (sym (same ∙ stays.0)) (step-stays wide inverted i k old (not-there stays.1 side) taken before)

-- If the next key gets its length, all keys up to it have their lengths with the interval.
pub key-added : (wide inverted : Bool) (i : Interval) (first key step : ℕ) (left steps : List ℕ) → length steps ≡ 256 → key < 256
    → get_or steps key 0 ≡ get_or left key 0
    → ((get_or steps key 0 ≡ 5) ⊎ LacksPairsOfKey wide i key → IsReadLengthWithInterval wide inverted i key (get_or steps key 0) step)
    → ((k : ℕ) → first ≤ k → k < key → (get_or left k 0 ≡ 5) ⊎ LacksPairsOfKey wide i k → IsReadLengthWithInterval wide inverted i k (get_or left k 0) (get_or steps k 0))
    → (k : ℕ) → first ≤ k → k < key + 1 → (get_or left k 0 ≡ 5) ⊎ LacksPairsOfKey wide i k
    → IsReadLengthWithInterval wide inverted i k (get_or left k 0) (get_or (set steps key step) k 0)
key-added wide inverted i first key step left steps sized inside same one before k low below leaves = by (cases_eq k key)
  where
    S : ℕ → Type 0
    S n = IsReadLengthWithInterval wide inverted i k (get_or left k 0) n

    L : ℕ → Type 0
    L n = (n ≡ 5) ⊎ LacksPairsOfKey wide i key

    B : ℕ → Type 0
    B n = IsReadLengthWithInterval wide inverted i key n step

    K : ℕ → Type 0
    K n = (get_or left n 0 ≡ 5) ⊎ LacksPairsOfKey wide i n

    A : ℕ → Type 0
    A n = IsReadLengthWithInterval wide inverted i n (get_or left n 0) step

    by : (k ≡ key) ⊎ (k ≢ key) → S (get_or (set steps key step) k 0)
    by (inl e) =
        subst S (sym (ap (λ n. get_or (set steps key step) n 0) e ∙ get_or-set_same steps key step 0 (omega (arith, inside, sized))))
        (subst A (sym e) (subst B same (one (subst L (sym same) (subst K e leaves)))))
    by (inr ne) = subst S (sym (get_or-set_other steps key k step 0 ne)) (before k low (omega (arith, below, ne)) leaves)

pub key-elsewhere : (first key step : ℕ) (left steps : List ℕ) → first ≤ key
    → ((k : ℕ) → (k < first) ⊎ (key ≤ k) → get_or steps k 0 ≡ get_or left k 0)
    → (k : ℕ) → (k < first) ⊎ (key + 1 ≤ k) → get_or (set steps key step) k 0 ≡ get_or left k 0
key-elsewhere first key step left steps past same k (inl low) =
    get_or-set_other steps key k step 0 (λ e. omega (arith, e, low, past)) ∙ same k (inl low)
key-elsewhere first key step left steps past same k (inr high) =
    get_or-set_other steps key k step 0 (λ e. omega (arith, e, high)) ∙ same k (inr (omega (arith, high)))

-- A key that is not between the first and the last is not between the first and the loop's key.
pub past-keys : (first last key k : ℕ) → (first < key → key ≤ last + 1) → (k < first) ⊎ (last < k) → (k < first) ⊎ (key ≤ k)
past-keys first last key k most (inl low) = inl low
past-keys first last key k most (inr high) = elim (cases_lt first key) [
  | inl a ↦ (let ends = most a in inr (omega (arith, ends, high)))
  | inr a ↦ elim (cases_lt k first) [ inl b ↦ inl b | inr b ↦ inr (omega (arith, a, b)) ]
]

-- ---- All intervals of a bracket

pub none-yet : (wide inverted : Bool) (k step : ℕ) → inverted ≡ false → step ≡ 0 → IsReadLengthRightForKey wide (λ c. exclusive_or inverted false) k step
none-yet wide true k step plain zero_there = absurd (let never : true ≡ false = plain in cc)
none-yet wide false k step plain zero_there = λ e w c is first. rw zero_there refl

pub all-yet : (wide inverted : Bool) (k step : ℕ) → inverted ≡ true → IsReadLengthRightForKey wide (λ c. true) k step → IsReadLengthRightForKey wide (λ c. exclusive_or inverted false) k step
all-yet wide true k step turned all = all
all-yet wide false k step turned all = absurd (let never : false ≡ true = turned in cc)

pub interval-more : (wide : Bool) (is : List Interval) (cps : List (ℕ × ℕ)) → map interval_of is ≡ cps → (inverted : Bool) (n k old new : ℕ) → n < length is
    → IsReadLengthWithInterval wide inverted (get_or is n no_interval) k old new → IsReadLengthRightForKey wide (λ c. exclusive_or inverted (in_intervals (take n cps) c)) k old
    → IsReadLengthRightForKey wide (λ c. exclusive_or inverted (in_intervals (take (n + 1) cps) c)) k new
interval-more wide is cps same inverted n k old new below with_one before =
    let i = get_or is n no_interval in
    let more : suc n ≡ n + 1 = omega arith in
    let P : ℕ → Type 0 = λ m. IsReadLengthRightForKey wide (λ c. exclusive_or inverted (in_intervals (take m cps) c)) k new in
    let Q : List (ℕ × ℕ) → Type 0 = λ l. IsReadLengthRightForKey wide (λ c. exclusive_or inverted (in_intervals (take (suc n) l) c)) k new in
    let R : List (ℕ × ℕ) → Type 0 = λ l. IsReadLengthRightForKey wide (λ c. exclusive_or inverted (in_intervals (take n l) c)) k old in
    subst P more (subst Q same
    (step-alike wide (λ c. exclusive_or inverted (in_intervals (take n (map interval_of is)) c || is_in_range i.first i.last c))
    (λ c. exclusive_or inverted (in_intervals (take (suc n) (map interval_of is)) c)) k new
    (λ c. ap (exclusive_or inverted) (sym (more-intervals is n c below)))
    (with_one (λ c. in_intervals (take n (map interval_of is)) c) (subst R (sym same) before))))
