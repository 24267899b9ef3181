-- A required prefix fits where each of its units is allowed, and its searches find the first such
-- offset.
use Rattle.std.proofs.Common.{◌≡◌, ℕ, zero, suc, ◌+◌, ◌-◌, ◌*◌, ◌%◌, ◌^◌, ◌<◌, ◌≤◌, bit_or, subst, Bool, true, false, ◌&&◌, List, length, drop, take, Option, Some, None, refl, ap, sym, ◌∙◌, arith}
use Rattle.std.proofs.Common.{slice_get}
use Rattle.std.specs.Prelude.{◌==◌, option_map, slice_index}
use Rattle.std.specs.Int.{bit_at}
use Rattle.std.proofs.lemmas.Bool.{and_from, cases_lt, eq-eqb, eqb-true, false_from_ne_true, and_right, and_left}
use Rattle.std.proofs.lemmas.Option.{slice_get-get_or, slice_get_past}
use Rattle.std.proofs.lemmas.List.{length-drop, length-take, get_or-drop, get_or-take}
use mathlib.Core.Logic.{◌⊎◌, inl, inr}
use Rattle.memchr.specs.Find.{IsFirstByte, is_byte, OccursAt, FindsNeedle}
use Rattle.memchr.proofs.lemmas.ShiftLemmas.{Window, Ends, IsState, IsState-next}
use Rattle.regex_pattern_front.specs.FirstPassingIndex.{IsFirstPassingIndex}
use Rattle.regex_meaning.proofs.BoolLemmas.{and-left, and-right}
use Rattle.regress_machine.specs.RequiredPrefixes.{AllowedUnitsAhead, unit_is_allowed}
use Rattle.regress_machine.proofs.ExcludedCharLoopExits.{slice_get-behind}
use Rattle.regress_program.specs.declared.required_prefix_types.Prefix.{Prefix}
use Rattle.regress_program.specs.declared.required_prefix_types.Literal.{Literal}
use Rattle.regress_program.specs.declared.required_prefix_types.RequiredUnitAndOffset.{RequiredUnitAndOffset}
use Rattle.regress_program.specs.PrefixesAndPrefilters.{units_allowed_by_prefix, prefix_allows_units_at, IsOnlyUnitAllowedAtPosition, IsLiteralForcedByPrefix}
use Rattle.regress_program.specs.TableKeysOfUnits.{key}

-- The key of a byte is the byte.
pub own-key : (o : Option ℕ) → option_map (key false) o ≡ o
own-key None = refl
own-key (Some u) = refl

module _ (allowed : AllowedUnitsAhead) (us : List ℕ) (at : ℕ) where
  -- `stands` says whether the unit `ahead` units on is allowed there.
  abbrev pub stands : ℕ → Bool
  stands ahead = unit_is_allowed allowed ahead (slice_get us (at + ahead))

  -- If a unit is not allowed, the prefix does not fit.
  pub fits-fails : (len ahead : ℕ) → ahead < len → stands ahead ≡ false → prefix_allows_units_at allowed us at len ≡ false
  fits-fails zero ahead less none = absurd (omega (arith, less))
  fits-fails (suc len) ahead less none = elim (cases_lt ahead len) [
    | inl before ↦ and_left (prefix_allows_units_at allowed us at len) (stands len) (fits-fails len ahead before none)
    | inr last ↦
        let same : ahead ≡ len = omega (arith, less, last) in
        and_right (prefix_allows_units_at allowed us at len) (stands len) (ap stands (sym same) ∙ none)
  ]

  -- If the prefix fits, each of its units is allowed.
  pub fits-each : (len ahead : ℕ) → ahead < len → prefix_allows_units_at allowed us at len ≡ true → stands ahead ≡ true
  fits-each zero ahead less all = absurd (omega (arith, less))
  fits-each (suc len) ahead less all = elim (cases_lt ahead len) [
    | inl before ↦ fits-each len ahead before (and-left (prefix_allows_units_at allowed us at len) (stands len) all)
    | inr last ↦
        let same : ahead ≡ len = omega (arith, less, last) in
        ap stands same ∙ and-right (prefix_allows_units_at allowed us at len) (stands len) all
  ]

  pub fits-all : (len : ℕ) → ((ahead : ℕ) → ahead < len → stands ahead ≡ true) → prefix_allows_units_at allowed us at len ≡ true
  fits-all zero each = refl
  fits-all (suc len) each =
      and_from (prefix_allows_units_at allowed us at len) (stands len) (fits-all len (λ ahead less. each ahead (omega (arith, less)))) (each len (omega arith))

  -- If the prefix does not fit, one of its units is not allowed.
  pub fits-not : (len : ℕ) → prefix_allows_units_at allowed us at len ≡ false → (ahead : ℕ) × (ahead < len) × (stands ahead ≡ false)
  fits-not zero none = cc
  fits-not (suc len) none = by (fits-not len) (stands len) refl
    where
      left : (a b : Bool) → b ≡ true → (a && b) ≡ false → a ≡ false
      left true b h k = cc
      left false b h k = refl

      by : (prefix_allows_units_at allowed us at len ≡ false → (ahead : ℕ) × (ahead < len) × (stands ahead ≡ false)) → (b : Bool) → stands len ≡ b
          → (ahead : ℕ) × (ahead < suc len) × (stands ahead ≡ false)
      by before false here = (len, omega arith, here)
      by before true here =
          let one = before (left (prefix_allows_units_at allowed us at len) (stands len) here none) in
          let less = one.1 in
          (one.0, omega (arith, less), one.2)

  -- If the first units fit and each of `more` units is allowed, all of them fit.
  pub fits-row : (from more : ℕ) → prefix_allows_units_at allowed us at from ≡ true → ((i : ℕ) → i < more → stands (from + i) ≡ true) → prefix_allows_units_at allowed us at (from + more) ≡ true
  fits-row from more before each = fits-all (from + more) (λ ahead less. elim (cases_lt ahead from) [
    | inl early ↦ fits-each from ahead early before
    | inr late ↦
        let same : from + (ahead - from) ≡ ahead = omega (arith, late) in
        ap stands (sym same) ∙ each (ahead - from) (omega (arith, less, late))
  ])

  -- If the first units do not fit, more units do not either.
  pub fits-still : (from to : ℕ) → from ≤ to → prefix_allows_units_at allowed us at from ≡ false → prefix_allows_units_at allowed us at to ≡ false
  fits-still from to le none =
      let one = fits-not from none in
      let less = one.1 in
      fits-fails to one.0 (omega (arith, less, le)) one.2

  -- If the first units fit and the next one is allowed, one more fits.
  pub fits-more : (len : ℕ) → prefix_allows_units_at allowed us at len ≡ true → stands len ≡ true → prefix_allows_units_at allowed us at (suc len) ≡ true
  fits-more len all here = and_from (prefix_allows_units_at allowed us at len) (stands len) all here

  -- A prefix that goes past the last unit does not fit.
  pub fits-past : (len ahead : ℕ) → ahead < len → length us ≤ at + ahead → prefix_allows_units_at allowed us at len ≡ false
  fits-past len ahead less past = fits-fails len ahead less (ap (unit_is_allowed allowed ahead) (slice_get_past us (at + ahead) past))

  -- A prefix that fits is within the units.
  pub fits-within : (len : ℕ) → 0 < len → prefix_allows_units_at allowed us at len ≡ true → at + len ≤ length us
  fits-within len some all = elim (cases_lt (length us) (at + len)) [
    | inl short ↦
        let none = fits-past len (len - 1) (omega (arith, some)) (omega (arith, short, some)) in
        let never : true ≡ false = sym all ∙ none in
        cc
    | inr inside ↦ inside
  ]

  -- ---- Units of a list, one after another

  unit-there : (ahead : ℕ) → at + ahead < length us → stands ahead ≡ allowed ahead (slice_index us (at + ahead))
  unit-there ahead inside = ap (unit_is_allowed allowed ahead) (slice_get-get_or us (at + ahead) 0 inside)

  -- If the next unit of the list is allowed, one more unit fits.
  pub fits-next : (len : ℕ) → at + len < length us → prefix_allows_units_at allowed us at len ≡ true → allowed len (slice_index us (at + len)) ≡ true → prefix_allows_units_at allowed us at (len + 1) ≡ true
  fits-next len inside all here =
      ap (prefix_allows_units_at allowed us at) (let z : len + 1 ≡ suc len = omega arith in z) ∙ and_from (prefix_allows_units_at allowed us at len) (stands len) all (unit-there len inside ∙ here)

  pub fits-unless : (len ahead : ℕ) → ahead < len → at + ahead < length us → allowed ahead (slice_index us (at + ahead)) ≡ false → prefix_allows_units_at allowed us at len ≡ false
  fits-unless len ahead less inside here = fits-fails len ahead less (unit-there ahead inside ∙ here)

  -- If fewer units are left than the prefix has, it does not fit.
  pub fits-short : (len : ℕ) → at ≤ length us → length us - at < len → prefix_allows_units_at allowed us at len ≡ false
  fits-short len inside few = fits-past len (length us - at) few (omega (arith, inside))

-- The prefix fits in the units without the first ones exactly if it does behind these.
pub fits-behind : (allowed : AllowedUnitsAhead) (us : List ℕ) (from i len : ℕ) → prefix_allows_units_at allowed (drop from us) i len ≡ prefix_allows_units_at allowed us (from + i) len
fits-behind allowed us from i zero = refl
fits-behind allowed us from i (suc len) =
    ap (λ b. b && unit_is_allowed allowed len (slice_get (drop from us) (i + len))) (fits-behind allowed us from i len)
    ∙ ap (λ o. prefix_allows_units_at allowed us (from + i) len && unit_is_allowed allowed len o)
    (slice_get-behind from (i + len) us ∙ ap (slice_get us) (let z : from + (i + len) ≡ from + i + len = omega arith in z))

-- ---- Fits by the bits of masks

module _ (prefix : Prefix) (us : List ℕ) (at : ℕ) where
  -- The mask of a unit has a clear bit for a position.
  abbrev pub Clear : (ahead unit : ℕ) → Type 0
  Clear ahead unit = bit_at (slice_index prefix.masks unit) ahead ≡ 0

  pub fits-window : prefix_allows_units_at (units_allowed_by_prefix prefix) us at prefix.len ≡ true → Window (λ t b. Clear t b) (slice_index us) prefix.len at
  fits-window all t less = by (cases_lt (at + t) (length us))
    where
      by : (at + t < length us) ⊎ (length us ≤ at + t) → Clear t (slice_index us (at + t))
      by (inl inside) =
          eqb-true (bit_at (slice_index prefix.masks (slice_index us (at + t))) t) 0
          (sym (ap (unit_is_allowed (units_allowed_by_prefix prefix) t) (slice_get-get_or us (at + t) 0 inside)) ∙ fits-each (units_allowed_by_prefix prefix) us at prefix.len t less all)
      by (inr past) =
          let never : true ≡ false = sym all ∙ fits-past (units_allowed_by_prefix prefix) us at prefix.len t less past in
          cc

  pub window-fits : at + prefix.len ≤ length us → Window (λ t b. Clear t b) (slice_index us) prefix.len at → prefix_allows_units_at (units_allowed_by_prefix prefix) us at prefix.len ≡ true
  window-fits inside window =
      fits-all (units_allowed_by_prefix prefix) us at prefix.len (λ t less.
      ap (unit_is_allowed (units_allowed_by_prefix prefix) t) (slice_get-get_or us (at + t) 0 (omega (arith, inside, less)))
      ∙ eq-eqb (bit_at (slice_index prefix.masks (slice_index us (at + t))) t) 0 (window t less))

-- ---- Fits by a rare unit

module _ (prefix : Prefix) (rare : RequiredUnitAndOffset) (is : IsOnlyUnitAllowedAtPosition prefix rare) (us : List ℕ) (bytes : (i : ℕ) → slice_index us i < 256) where
  -- If another byte stands at the place of the rare unit, the prefix does not fit.
  pub rare-fails : (at : ℕ) → (at + rare.ahead < length us → slice_index us (at + rare.ahead) ≡ rare.unit → ⊥) → prefix_allows_units_at (units_allowed_by_prefix prefix) us at prefix.len ≡ false
  rare-fails at other = by (cases_lt (at + rare.ahead) (length us))
    where
      by : (at + rare.ahead < length us) ⊎ (length us ≤ at + rare.ahead) → prefix_allows_units_at (units_allowed_by_prefix prefix) us at prefix.len ≡ false
      by (inl inside) =
          fits-fails (units_allowed_by_prefix prefix) us at prefix.len rare.ahead is.inside
          (ap (unit_is_allowed (units_allowed_by_prefix prefix) rare.ahead) (slice_get-get_or us (at + rare.ahead) 0 inside)
          ∙ false_from_ne_true (units_allowed_by_prefix prefix rare.ahead (slice_index us (at + rare.ahead)))
          (λ may. other inside (is.only (slice_index us (at + rare.ahead)) (bytes (at + rare.ahead)) may)))
      by (inr past) = fits-past (units_allowed_by_prefix prefix) us at prefix.len rare.ahead is.inside past

  -- If no unit is left for the rare one and the prefix has not fitted before, it fits nowhere.
  pub rare-past : (at : ℕ) → length us ≤ at + rare.ahead → ((k : ℕ) → k < at → prefix_allows_units_at (units_allowed_by_prefix prefix) us k prefix.len ≡ false)
      → (k : ℕ) → prefix_allows_units_at (units_allowed_by_prefix prefix) us k prefix.len ≡ false
  rare-past at past before k = elim (cases_lt k at) [
    | inl early ↦ before k early
    | inr late ↦ rare-fails k (λ inside same. absurd (omega (arith, past, inside, late)))
  ]

-- ---- Fits by a literal

module _ (prefix : Prefix) (literal : Literal) (is : IsLiteralForcedByPrefix prefix literal) (us : List ℕ) (bytes : (i : ℕ) → slice_index us i < 256) (at : ℕ)
    (fit : prefix_allows_units_at (units_allowed_by_prefix prefix) us at prefix.len ≡ true) where
  -- If the prefix fits, each unit of the literal stands at its place.
  pub literal-reads : (i : ℕ) → i < literal.len → slice_index us (at + (literal.ahead + i)) ≡ slice_index literal.units i
  literal-reads i less = by (cases_lt (at + (literal.ahead + i)) (length us))
    where
      within : literal.ahead + i < prefix.len
      within = let inside = is.inside in omega (arith, inside, less)

      by : (at + (literal.ahead + i) < length us) ⊎ (length us ≤ at + (literal.ahead + i)) → slice_index us (at + (literal.ahead + i)) ≡ slice_index literal.units i
      by (inl there) =
          (is.alone i less).only (slice_index us (at + (literal.ahead + i))) (bytes (at + (literal.ahead + i)))
          (sym (ap (unit_is_allowed (units_allowed_by_prefix prefix) (literal.ahead + i)) (slice_get-get_or us (at + (literal.ahead + i)) 0 there))
          ∙ fits-each (units_allowed_by_prefix prefix) us at prefix.len (literal.ahead + i) within fit)
      by (inr past) =
          let never : true ≡ false = sym fit ∙ fits-past (units_allowed_by_prefix prefix) us at prefix.len (literal.ahead + i) within past in
          cc

-- Where the literal occurs, the prefix fits through the literal if it fits before it.
pub literal-fits : (prefix : Prefix) (literal : Literal) → IsLiteralForcedByPrefix prefix literal → (us : List ℕ) (at : ℕ) → length (take literal.len literal.units) ≡ literal.len
    → OccursAt us (take literal.len literal.units) (at + literal.ahead) → prefix_allows_units_at (units_allowed_by_prefix prefix) us at literal.ahead ≡ true
    → prefix_allows_units_at (units_allowed_by_prefix prefix) us at (literal.ahead + literal.len) ≡ true
literal-fits prefix literal is us at full there before =
    fits-row (units_allowed_by_prefix prefix) us at literal.ahead literal.len before (λ i less.
    let fewer : i < length (take literal.len literal.units) = omega (arith, less, full) in
    let same : at + (literal.ahead + i) ≡ at + literal.ahead + i = omega arith in
    unit-there (units_allowed_by_prefix prefix) us at (literal.ahead + i) (let inside = there.fits in omega (arith, inside, fewer))
    ∙ ap (units_allowed_by_prefix prefix (literal.ahead + i))
    (ap (slice_index us) same ∙ there.reads i fewer ∙ get_or-take literal.len literal.units i 0 less)
    ∙ (is.alone i less).stands)

-- ---- Searches for the first fit

module _ (prefix : Prefix) (us : List ℕ) (at : ℕ) where
  abbrev Fits : ℕ → Bool
  Fits k = prefix_allows_units_at (units_allowed_by_prefix prefix) us k prefix.len

  -- If no fit ends so far or behind the next unit, none ends up to there.
  pub none-more : 0 < prefix.len → ((k : ℕ) → k + prefix.len ≤ at → Fits k ≡ false)
      → ((k : ℕ) → k + prefix.len ≡ at + 1 → Window (λ t b. bit_at (slice_index prefix.masks b) t ≡ 0) (slice_index us) prefix.len k → ⊥)
      → (k : ℕ) → k + prefix.len ≤ at + 1 → Fits k ≡ false
  none-more some before never k le = elim (cases_lt (k + prefix.len) (at + 1)) [
    | inl less ↦ before k (omega (arith, less))
    | inr last ↦ false_from_ne_true (Fits k) (λ fit. never k (omega (arith, le, last)) (fits-window prefix us k fit))
  ]

  -- If no fit ends within the units, there is none.
  pub none-found : 0 < prefix.len → length us ≤ at → ((k : ℕ) → k + prefix.len ≤ at → Fits k ≡ false) → (k : ℕ) → k < length us → Fits k ≡ false
  none-found some end before k less =
      false_from_ne_true (Fits k) (λ fit.
      let inside = fits-within (units_allowed_by_prefix prefix) us k prefix.len some fit in
      let none = before k (omega (arith, inside, end)) in
      let never : true ≡ false = sym fit ∙ none in
      cc)

  -- If the window of the masks is clear, its offset is the first fit.
  pub window-found : 0 < prefix.len → (to : ℕ) → to + prefix.len ≡ at → at ≤ length us
      → Window (λ t b. bit_at (slice_index prefix.masks b) t ≡ 0) (slice_index us) prefix.len to → ((k : ℕ) → k + prefix.len ≤ at - 1 → Fits k ≡ false)
      → IsFirstPassingIndex Fits (length us) to
  window-found some to there inside window before = record {
    within = omega (arith, some, there, inside);
    passes = window-fits prefix us to (omega (arith, there, inside)) window;
    none_before = λ k less. before k (omega (arith, less, there));
  }

-- The next unit leads to the next state, and its bit says whether a fit ends there.
pub record Tells (prefix : Prefix) (us : List ℕ) (at state : ℕ) (clear : Bool) : Type 0 where
  pub next : IsState (λ t b. bit_at (slice_index prefix.masks b) t ≡ 0) (slice_index us) prefix.len (at + 1) state
  pub ends : clear ≡ true → Ends (λ t b. bit_at (slice_index prefix.masks b) t ≡ 0) (slice_index us) (at + 1) prefix.len
  pub goes_on : clear ≡ false → Ends (λ t b. bit_at (slice_index prefix.masks b) t ≡ 0) (slice_index us) (at + 1) prefix.len → ⊥

pub tells-more : (prefix : Prefix) (us : List ℕ) (at state key : ℕ) (clear : Bool) → 0 < prefix.len
    → IsState (λ t b. bit_at (slice_index prefix.masks b) t ≡ 0) (slice_index us) prefix.len at state → key ≡ slice_index us at
    → clear ≡ (bit_at ((bit_or state (slice_index prefix.masks key) * 2) % 2 ^ 16) prefix.len == 0)
    → Tells prefix us at ((bit_or state (slice_index prefix.masks (slice_index us at)) * 2) % 2 ^ 16) clear
tells-more prefix us at state key clear some old is test =
    let n = prefix.len in
    let mask = slice_index prefix.masks (slice_index us at) in
    let now = (bit_or state mask * 2) % 2 ^ 16 in
    let short : n < 16 = omega (arith, prefix.short) in
    let next = IsState-next (λ t b. bit_at (slice_index prefix.masks b) t ≡ 0) (slice_index us) n at state mask short old (λ j l. (λ x. x, λ x. x)) in
    let told : clear ≡ (bit_at now n == 0) = subst (λ k. clear ≡ (bit_at ((bit_or state (slice_index prefix.masks k) * 2) % 2 ^ 16) n == 0)) is test in
    let all = next.each n some (omega (arith, short)) in
    record {
      next = next;
      ends = λ yes. all.0 (eqb-true (bit_at now n) 0 (sym told ∙ yes));
      goes_on = λ no ends. let never : true ≡ false = sym (eq-eqb (bit_at now n) 0 (all.1 ends)) ∙ sym told ∙ no in cc;
    }

-- The units that are taken from a literal are at most as many as its length.
pub needle-short : (literal : Literal) → length (take literal.len literal.units) ≤ literal.len
needle-short literal = let n = length-take literal.len literal.units in omega (arith, n)

module _ (prefix : Prefix) (literal : Literal) (is : IsLiteralForcedByPrefix prefix literal) (some : 0 < prefix.len) (us : List ℕ) (bytes : (i : ℕ) → slice_index us i < 256)
    (at : ℕ) (rest needle : List ℕ) (cut : rest ≡ drop (at + literal.ahead) us) (taken : needle ≡ take literal.len literal.units)
    (short : length needle ≤ literal.len) (before : (k : ℕ) → k < at → prefix_allows_units_at (units_allowed_by_prefix prefix) us k prefix.len ≡ false) where
  abbrev FitAll : ℕ → Bool
  FitAll k = prefix_allows_units_at (units_allowed_by_prefix prefix) us k prefix.len

  length-left : length rest ≡ length us - (at + literal.ahead)
  length-left = ap (λ (l : List ℕ). length l) cut ∙ length-drop (at + literal.ahead) us

  -- Where the prefix fits, the literal occurs in the rest.
  literal-occurs : (k : ℕ) → at ≤ k → FitAll k ≡ true → OccursAt rest needle (k - at)
  literal-occurs k le fit = record {
    fits =
        let within = fits-within (units_allowed_by_prefix prefix) us k prefix.len some fit in
        let inside = is.inside in
        omega (arith, le, within, inside, length-left, short);
    reads = λ j less.
        let fewer : j < literal.len = omega (arith, less, short) in
        ap (λ (l : List ℕ). slice_index l (k - at + j)) cut ∙ get_or-drop (at + literal.ahead) us (k - at + j) 0
        ∙ ap (slice_index us) (let z : at + literal.ahead + (k - at + j) ≡ k + (literal.ahead + j) = omega (arith, le) in z)
        ∙ literal-reads prefix literal is us bytes k fit j fewer
        ∙ sym (ap (λ (l : List ℕ). slice_index l j) taken ∙ get_or-take literal.len literal.units j 0 fewer);
  }

  -- If the literal does not occur in the rest, the prefix fits nowhere.
  pub literal-none : FindsNeedle rest needle 0 None → (k : ℕ) → FitAll k ≡ false
  literal-none none k = elim (cases_lt k at) [
    | inl early ↦ before k early
    | inr late ↦ false_from_ne_true (FitAll k) (λ fit.
        let there = literal-occurs k late fit in
        none (k - at) (omega arith) (let inside = there.fits in omega (arith, inside)) there)
  ]

  -- If no unit is left for the literal, the prefix fits nowhere.
  pub literal-past : length us ≤ at + literal.ahead → (k : ℕ) → FitAll k ≡ false
  literal-past past k = elim (cases_lt k at) [
    | inl early ↦ before k early
    | inr late ↦ fits-past (units_allowed_by_prefix prefix) us k prefix.len (prefix.len - 1) (omega (arith, some)) (let inside = is.inside in let more = is.some in omega (arith, past, late, inside, more))
  ]

  -- If the literal is found `more` units on, the prefix fits at no offset before that.
  module _ (more : ℕ) (found : FindsNeedle rest needle 0 (Some more)) where
    pub literal-inside : at + literal.ahead < length us → at + more ≤ length us
    literal-inside room = let inside = found.1.fits in omega (arith, inside, length-left, room)

    pub literal-before : (k : ℕ) → k < at + more → FitAll k ≡ false
    literal-before k less = elim (cases_lt k at) [
      | inl early ↦ before k early
      | inr late ↦ false_from_ne_true (FitAll k) (λ fit.
          found.0.before (k - at) (omega arith) (omega (arith, late, less)) (literal-occurs k late fit))
    ]

    -- If the prefix fits where the literal is found, that is within the units.
    pub literal-within : FitAll (at + more) ≡ true → at + more < length us
    literal-within fit = let within = fits-within (units_allowed_by_prefix prefix) us (at + more) prefix.len some fit in omega (arith, within, some)

    -- If the prefix does not fit where the literal is found, it fits nowhere up to there.
    pub literal-behind : FitAll (at + more) ≡ false → (k : ℕ) → k < at + more + 1 → FitAll k ≡ false
    literal-behind none k less = elim (cases_lt k (at + more)) [
      | inl early ↦ literal-before k early
      | inr here ↦ let same : at + more ≡ k = omega (arith, less, here) in ap FitAll (sym same) ∙ none
    ]

module _ (prefix : Prefix) (rare : RequiredUnitAndOffset) (is : IsOnlyUnitAllowedAtPosition prefix rare) (us : List ℕ) (bytes : (i : ℕ) → slice_index us i < 256) (at : ℕ) (rest : List ℕ)
    (cut : rest ≡ drop (at + rare.ahead) us) where
  abbrev FitsAt : ℕ → Bool
  FitsAt k = prefix_allows_units_at (units_allowed_by_prefix prefix) us k prefix.len

  length-rest : length rest ≡ length us - (at + rare.ahead)
  length-rest = ap (λ (l : List ℕ). length l) cut ∙ length-drop (at + rare.ahead) us

  -- If the rare unit is not among the next `n` units, the prefix does not fit at their offsets.
  rare-excluded : (n : ℕ) → ((i : ℕ) → i < n → is_byte rare.unit (slice_index rest i) ≡ true → ⊥) → (k : ℕ) → at ≤ k → k < at + n → FitsAt k ≡ false
  rare-excluded n none k le less =
      rare-fails prefix rare is us bytes k (λ inside same.
      none (k - at) (omega (arith, le, less))
      (eq-eqb (slice_index rest (k - at)) rare.unit
      (ap (λ (l : List ℕ). slice_index l (k - at)) cut ∙ get_or-drop (at + rare.ahead) us (k - at) 0
      ∙ ap (slice_index us) (let z : at + rare.ahead + (k - at) ≡ k + rare.ahead = omega (arith, le) in z) ∙ same)))

  -- If the rest has no rare unit and the prefix has not fitted before, it fits nowhere.
  pub rare-none : IsFirstByte (is_byte rare.unit) rest None → ((k : ℕ) → k < at → FitsAt k ≡ false) → (k : ℕ) → FitsAt k ≡ false
  rare-none none before k = elim (cases_lt k at) [
    | inl early ↦ before k early
    | inr late ↦ elim (cases_lt k (at + length rest)) [
      | inl near ↦ rare-excluded (length rest) (λ i less. none i (omega arith) less) k late near
      | inr far ↦ rare-fails prefix rare is us bytes k (λ inside same. absurd (omega (arith, far, inside, length-rest)))
    ]
  ]

  -- If the rare unit is found `more` units on, the prefix fits at no offset before that.
  module _ (more : ℕ) (found : IsFirstByte (is_byte rare.unit) rest (Some more)) (before : (k : ℕ) → k < at → FitsAt k ≡ false) where
    pub rare-inside : at + more < length us
    rare-inside = let high = found.0.high in omega (arith, high, length-rest)

    pub rare-before : (k : ℕ) → k < at + more → FitsAt k ≡ false
    rare-before k less = elim (cases_lt k at) [
      | inl early ↦ before k early
      | inr late ↦ rare-excluded more (λ i fewer. found.0.before i (omega arith) fewer) k late less
    ]

    -- If the prefix does not fit where the rare unit is found, it fits nowhere up to there.
    pub rare-behind : FitsAt (at + more) ≡ false → (k : ℕ) → k < at + more + 1 → FitsAt k ≡ false
    rare-behind none k less = elim (cases_lt k (at + more)) [
      | inl early ↦ rare-before k early
      | inr here ↦ let same : at + more ≡ k = omega (arith, less, here) in ap FitsAt (sym same) ∙ none
    ]
