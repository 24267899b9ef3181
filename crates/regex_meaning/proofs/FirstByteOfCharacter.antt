-- The UTF-8 encoding of a character begins with a byte that is no continuation byte.
use Rattle.std.proofs.Common.{◌≡◌, ◌≢◌, ℕ, zero, suc, ◌+◌, ◌-◌, ◌*◌, ◌/◌, ◌<◌, ◌≤◌, Bool, true, false, ◌&&◌, List, [], ◌∷◌, drop, filter, refl, sym, arith, T, eq-eqb}
use mathlib.Core.Logic.{◌⊎◌, inl, inr}
use Rattle.std.specs.Prelude.{if◌then◌else◌, nat_le, ◌==◌}
use Rattle.std.specs.Char.{encode_utf8 as encode}
use Rattle.std.specs.List.{list_any}
use Rattle.std.specs.Int.{is_in_range}
use Rattle.regex_meaning.specs.NumberListHelpers.{contains, numbers_from}
use Rattle.regex_meaning.specs.Tree.{Intervals}
use Rattle.regex_meaning.specs.Text.{is_scalar}
use Rattle.regex_meaning.specs.Outcomes.{in_intervals}
use Rattle.regex_meaning.specs.StartPredicate.{bytes_that_pass, chars_with_first_byte, intersects}
use Rattle.regex_meaning.proofs.BoolLemmas.{and-left, and-right}
use Rattle.std.proofs.lemmas.Bool.{cases_lt, and_from, or_left, or_right, lt-ltb, le-leb, leb-true, le-ltb, lt-leb, ne_eqb, eqb-true}

-- ---- Tests

pub T-true : (b : Bool) → T b → b ≡ true
T-true true t = refl
T-true false t = absurd t

pub true-T : (b : Bool) → b ≡ true → T b
true-T b h = rw h tt

pub in_range-true : (lo hi c : ℕ) → lo ≤ c → c ≤ hi → is_in_range lo hi c ≡ true
in_range-true lo hi c h k = and_from _ _ (le-leb lo c h) (le-leb c hi k)

pub true-in_range : (lo hi c : ℕ) → is_in_range lo hi c ≡ true → (lo ≤ c) × (c ≤ hi)
true-in_range lo hi c h = (leb-true lo c (and-left _ _ h), leb-true c hi (and-right _ _ h))

pub in_range-below : (lo hi c : ℕ) → c < lo → is_in_range lo hi c ≡ false
in_range-below lo hi c h = rw (lt-leb lo c h)

pub in_range-above : (lo hi c : ℕ) → lo ≤ c → hi < c → is_in_range lo hi c ≡ false
in_range-above lo hi c k h = rw (le-leb lo c k) (lt-leb c hi h)

-- ---- Sets of bytes

pub contains-cons : (x : ℕ) (xs : List ℕ) (b : ℕ) → contains xs b ≡ true → contains (x ∷ xs) b ≡ true
contains-cons x xs b h = or_right _ _ h

hit : (c : Bool) (x b : ℕ) (rest : List ℕ) → c ≡ true → x ≡ b → contains (if c then x ∷ rest else rest) b ≡ true
hit true x b rest h e = or_left _ _ (eq-eqb b x (sym e))
hit false x b rest h e = grind arith

miss : (c : Bool) (x b : ℕ) (rest : List ℕ) → contains rest b ≡ true → contains (if c then x ∷ rest else rest) b ≡ true
miss true x b rest h = or_right _ _ h
miss false x b rest h = h

contains-filter : (test : ℕ → Bool) (b first count : ℕ) → first ≤ b → b < first + count → test b ≡ true
    → contains (filter test (numbers_from first count)) b ≡ true
contains-filter test b first zero h k t = absurd (omega arith)
contains-filter test b first (suc count) h k t =
    go (first == b) refl (λ ne. contains-filter test b (first + 1) count (omega arith) (omega arith) t)
  where
    rest : List ℕ
    rest = filter test (numbers_from (first + 1) count)

    go : (e : Bool) → (first == b) ≡ e → (first ≢ b → contains rest b ≡ true) → contains (if test first then first ∷ rest else rest) b ≡ true
    go true e next = let same = eqb-true first b e in hit (test first) first b rest (rw same t) same
    go false e next = miss (test first) first b rest (next (λ same. cc (eq-eqb first b same, e)))

pub contains-bytes_where : (test : ℕ → Bool) (b : ℕ) → b < 256 → test b ≡ true → contains (bytes_that_pass test) b ≡ true
unfolding bytes_that_pass
contains-bytes_where test b h t = contains-filter test b 0 256 (omega arith) (omega arith) t

-- ---- The first byte of a character

-- An interval that contains `c` meets each list of intervals that contains `c`.
meets-any : (lo hi c : ℕ) (ivs : Intervals) → lo ≤ c → c ≤ hi → in_intervals ivs c ≡ true
    → list_any (λ y. nat_le lo hi && nat_le y.0 y.1 && nat_le lo y.1 && nat_le y.0 hi) ivs ≡ true
meets-any lo hi c [] h k t = t
meets-any lo hi c (y ∷ ys) h k t = go (is_in_range y.0 y.1 c) refl (λ rest. meets-any lo hi c ys h k rest)
  where
    here : ℕ × ℕ → Bool
    here z = nat_le lo hi && nat_le z.0 z.1 && nat_le lo z.1 && nat_le z.0 hi

    go : (b : Bool) → is_in_range y.0 y.1 c ≡ b → (in_intervals ys c ≡ true → list_any here ys ≡ true) → list_any here (y ∷ ys) ≡ true
    go true e next =
        let r = true-in_range y.0 y.1 c e in
        let first : lo ≤ y.1 = omega arith in
        let second : y.0 ≤ hi = omega arith in
        let third : y.0 ≤ y.1 = omega arith in
        let fourth : lo ≤ hi = omega arith in
        or_left _ _ (and_from _ _ (and_from _ _ (and_from _ _ (le-leb lo hi fourth) (le-leb y.0 y.1 third)) (le-leb lo y.1 first)) (le-leb y.0 hi second))
    go false e next = or_right _ _ (next (rw e at t))

meet-one : (lo hi c : ℕ) (ivs : Intervals) → lo ≤ c → c ≤ hi → in_intervals ivs c ≡ true → intersects ((lo, hi) ∷ []) ivs ≡ true
meet-one lo hi c ivs h k t = or_left _ _ (meets-any lo hi c ivs h k t)

-- A first byte of `c` is no continuation byte, and its characters meet each set with `c`.
pub record Lead (c b : ℕ) : Type 0 where
  pub is_byte : b < 256
  pub begins : is_in_range 0x80 0xBF b ≡ false
  pub meets : (ivs : Intervals) → in_intervals ivs c ≡ true → intersects (chars_with_first_byte b) ivs ≡ true

begun_by-2 : (b : ℕ) → 0xC2 ≤ b → b ≤ 0xDF → chars_with_first_byte b ≡ ((b - 0xC0) * 0x40, (b - 0xC0) * 0x40 + 0x3F) ∷ []
begun_by-2 b h k = rw (le-ltb b 0x80 (omega arith), in_range-true 0xC2 0xDF b h k)

begun_by-3 : (b : ℕ) → 0xE1 ≤ b → b ≤ 0xEF → chars_with_first_byte b ≡ ((b - 0xE0) * 0x1000, (b - 0xE0) * 0x1000 + 0xFFF) ∷ []
begun_by-3 b h k =
    rw (le-ltb b 0x80 (omega arith), in_range-above 0xC2 0xDF b (omega arith) (omega arith), ne_eqb b 0xE0 (omega arith), in_range-true 0xE1 0xEF b h k)

begun_by-4 : (b : ℕ) → 0xF1 ≤ b → b ≤ 0xF3 → chars_with_first_byte b ≡ ((b - 0xF0) * 0x4_0000, (b - 0xF0) * 0x4_0000 + 0x3_FFFF) ∷ []
begun_by-4 b h k =
    rw (
      le-ltb b 0x80 (omega arith),
      in_range-above 0xC2 0xDF b (omega arith) (omega arith),
      ne_eqb b 0xE0 (omega arith),
      in_range-above 0xE1 0xEF b (omega arith) (omega arith),
      ne_eqb b 0xF0 (omega arith),
      in_range-true 0xF1 0xF3 b h k,
    )

begun_by-1 : (b : ℕ) → b < 0x80 → chars_with_first_byte b ≡ (b, b) ∷ []
begun_by-1 b h = rw (lt-ltb b 0x80 h)

-- The encoding of a character is a first byte of the character and then the rest.
pub record FirstOf (c : ℕ) : Type 0 where
  pub byte : ℕ
  pub rest : List ℕ
  pub is : encode c ≡ byte ∷ rest
  pub lead : Lead c byte

pub encode-1 : (c : ℕ) → c < 128 → encode c ≡ c ∷ []
unfolding encode
encode-1 c h = rw (lt-ltb c 128 h)

rest-of : List ℕ → List ℕ
rest-of bs = drop 1 bs

encode-2 : (c : ℕ) → 128 ≤ c → c < 2048 → encode c ≡ (192 + c / 64) ∷ rest-of (encode c)
unfolding encode rest-of
encode-2 c h k = rw (le-ltb c 128 h, lt-ltb c 2048 k)

encode-3 : (c : ℕ) → 2048 ≤ c → c < 65536 → encode c ≡ (224 + c / 4096) ∷ rest-of (encode c)
unfolding encode rest-of
encode-3 c h k = rw (le-ltb c 128 (omega arith), le-ltb c 2048 h, lt-ltb c 65536 k)

encode-4 : (c : ℕ) → 65536 ≤ c → encode c ≡ (240 + c / 262144) ∷ rest-of (encode c)
unfolding encode rest-of
encode-4 c h = rw (le-ltb c 128 (omega arith), le-ltb c 2048 (omega arith), le-ltb c 65536 h)

-- A byte that begins the characters of one interval is a first byte of each of them.
lead-by : (c b low high : ℕ) → b < 256 → is_in_range 0x80 0xBF b ≡ false → chars_with_first_byte b ≡ (low, high) ∷ [] → low ≤ c → c ≤ high → Lead c b
lead-by c b low high is begins only h k = record {
  is_byte = is;
  begins = begins;
  meets = λ ivs t. rw only (meet-one low high c ivs h k t);
}

-- If a byte from `first` on begins `many` characters in its turn, it is a first byte of each.
lead-up : (c b first many : ℕ) → 0xC0 ≤ first → first ≤ b → b < 256 → chars_with_first_byte b ≡ ((b - first) * many, (b - first) * many + (many - 1)) ∷ []
    → (b - first) * many ≤ c → c ≤ (b - first) * many + (many - 1) → Lead c b
lead-up c b first many high from is only h k =
    lead-by c b ((b - first) * many) ((b - first) * many + (many - 1)) is (in_range-above 0x80 0xBF b (omega arith) (omega arith)) only h k

-- A byte that equals this one is a first byte of each character that this one begins.
lead-one : (c b this low high : ℕ) → b ≡ this → this < 256 → is_in_range 0x80 0xBF this ≡ false → chars_with_first_byte this ≡ (low, high) ∷ [] → low ≤ c → c ≤ high → Lead c b
lead-one c b this low high same is begins only h k = rw same (lead-by c this low high is begins only h k)

lead-1 : (c : ℕ) → c < 128 → Lead c c
lead-1 c h = lead-by c c c c (omega arith) (in_range-below 0x80 0xBF c h) (begun_by-1 c h) (omega arith) (omega arith)

lead-2 : (c : ℕ) → 128 ≤ c → c < 2048 → Lead c (192 + c / 64)
lead-2 c h k = lead-up c (192 + c / 64) 0xC0 0x40 (omega arith) (omega arith) (omega arith) (begun_by-2 (192 + c / 64) (omega arith) (omega arith)) (omega arith) (omega arith)

lead-3 : (c : ℕ) → 4096 ≤ c → c < 65536 → Lead c (224 + c / 4096)
lead-3 c h k = lead-up c (224 + c / 4096) 0xE0 0x1000 (omega arith) (omega arith) (omega arith) (begun_by-3 (224 + c / 4096) (omega arith) (omega arith)) (omega arith) (omega arith)

lead-3-low : (c : ℕ) → 2048 ≤ c → c < 4096 → Lead c (224 + c / 4096)
lead-3-low c h k = lead-one c (224 + c / 4096) 0xE0 0x800 0xFFF (omega arith) (omega arith) refl refl h (omega arith)

lead-4 : (c : ℕ) → 0x4_0000 ≤ c → c < 0x10_0000 → Lead c (240 + c / 262144)
lead-4 c h k = lead-up c (240 + c / 262144) 0xF0 0x4_0000 (omega arith) (omega arith) (omega arith) (begun_by-4 (240 + c / 262144) (omega arith) (omega arith)) (omega arith) (omega arith)

lead-4-low : (c : ℕ) → 0x1_0000 ≤ c → c < 0x4_0000 → Lead c (240 + c / 262144)
lead-4-low c h k = lead-one c (240 + c / 262144) 0xF0 0x1_0000 0x3_FFFF (omega arith) (omega arith) refl refl h (omega arith)

lead-4-high : (c : ℕ) → 0x10_0000 ≤ c → c < 0x11_0000 → Lead c (240 + c / 262144)
lead-4-high c h k = lead-one c (240 + c / 262144) 0xF4 0x10_0000 0x10_FFFF (omega arith) (omega arith) refl refl h (omega arith)

pub scalar-below : (c : ℕ) → is_scalar c ≡ true → c < 0x11_0000
scalar-below c h = go (is_in_range 0 0xD7FF c) refl
  where
    go : (b : Bool) → is_in_range 0 0xD7FF c ≡ b → c < 0x11_0000
    go true e = let r = true-in_range 0 0xD7FF c e in omega arith
    go false e = let r = true-in_range 0xE000 0x10_FFFF c (rw e at h) in omega arith

first_past-2 : (c : ℕ) → 2048 ≤ c → c < 0x11_0000 → (c < 65536) ⊎ (65536 ≤ c) → FirstOf c
first_past-2 c h k (inl l) = go (cases_lt c 4096)
  where
    go : (c < 4096) ⊎ (4096 ≤ c) → FirstOf c
    go (inl m) = record { byte = 224 + c / 4096; rest = rest-of (encode c); is = encode-3 c h l; lead = lead-3-low c h m }
    go (inr m) = record { byte = 224 + c / 4096; rest = rest-of (encode c); is = encode-3 c h l; lead = lead-3 c m l }
first_past-2 c h k (inr l) = go (cases_lt c 0x4_0000) (cases_lt c 0x10_0000)
  where
    go : (c < 0x4_0000) ⊎ (0x4_0000 ≤ c) → (c < 0x10_0000) ⊎ (0x10_0000 ≤ c) → FirstOf c
    go (inl m) n = record { byte = 240 + c / 262144; rest = rest-of (encode c); is = encode-4 c l; lead = lead-4-low c l m }
    go (inr m) (inl n) = record { byte = 240 + c / 262144; rest = rest-of (encode c); is = encode-4 c l; lead = lead-4 c m n }
    go (inr m) (inr n) = record { byte = 240 + c / 262144; rest = rest-of (encode c); is = encode-4 c l; lead = lead-4-high c n k }

pub first_of_char : (c : ℕ) → is_scalar c ≡ true → FirstOf c
first_of_char c scalar = go (cases_lt c 128) (cases_lt c 2048)
  where
    go : (c < 128) ⊎ (128 ≤ c) → (c < 2048) ⊎ (2048 ≤ c) → FirstOf c
    go (inl l) m = record { byte = c; rest = []; is = encode-1 c l; lead = lead-1 c l }
    go (inr l) (inl m) = record { byte = 192 + c / 64; rest = rest-of (encode c); is = encode-2 c l m; lead = lead-2 c l m }
    go (inr l) (inr m) = first_past-2 c m (scalar-below c scalar) (cases_lt c 65536)
