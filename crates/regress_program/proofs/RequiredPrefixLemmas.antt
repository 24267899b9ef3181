-- The prefix that the analysis derives from the operations is required where a match starts.
use Rattle.std.proofs.Common.{◌≡◌, ◌≢◌, ◌<◌, ◌≤◌, ℕ, zero, suc, ◌+◌, ◌-◌, ◌*◌, ◌/◌, ◌%◌, ◌^◌, min, max, Bool, true, false, not, ◌&&◌, ◌||◌, Option, Some, None, List, length, slice_get, slice_set}
use Rattle.std.proofs.Common.{get_or, refl, sym, ap, ◌∙◌, subst, arith, bit_and, div-add-mod', pow_pos}
use mathlib.Core.Logic.{◌⊎◌, inl, inr}
use Rattle.std.specs.Prelude.{◌==◌, if◌then◌else◌, slice_index, slice_index_or}
use Rattle.std.specs.Int.{bit_at}
use Rattle.std.proofs.lemmas.Bool.{cases_lt, lt-ltb, le-ltb, eqb-true, eq-eqb, ne_eqb, and_right}
use Rattle.std.proofs.lemmas.Nat.Bits.{bit_at_or, bit_at_and, bit_at_ones, bit_at_ones_above, bit_at_cat_low, bit_at_cat_high, bit_at-lt, bit_at-zero}
use Rattle.std.proofs.lemmas.Grind.{get_or-set_at}
use Rattle.std.proofs.lemmas.List.{get_or_past, get_or-set_other, length-set}
use Rattle.std.proofs.lemmas.Option.{slice_get-get_or, slice_get_within}
use Rattle.regex_meaning.specs.Text.{Text}
use Rattle.regex_meaning.specs.CodeUnits.{Encoding, code_units_of_character}
use Rattle.regex_meaning.specs.CompilationRelation.{Program, Insn, Char, CharSet, ByteSet, AsciiBracket, Bracket, MatchAny, MatchAnyExceptLineTerminator, StartOfLine, WordBoundary}
use Rattle.regex_meaning.specs.CompilationRelation.{WordBoundaryUnicodeICase, Jump, EnterLoop, Loop1CharBody, ResetCaptureGroup}
use Rattle.regex_meaning.specs.CompilationRelation.{BeginCaptureGroup, EndCaptureGroup, Lookahead, Lookbehind}
use Rattle.regex_meaning.proofs.OptionLemmas.{some-same}
use Rattle.regress_machine.specs.Machine.{test_of}
use Rattle.regress_program.specs.InsnsAsSpec.{insn_as_spec_insn}
use Rattle.regress_machine.specs.FailingInsnsAtOffset.{insn_may_find}
use Rattle.regress_machine.specs.FirstSetTables.{is_character_in_encoding, first_unit_key}
use Rattle.regress_machine.specs.RequiredPrefixes.{AllowedUnitsAhead, unit_is_allowed}
use Rattle.regress_machine.proofs.RequiredPrefixLemmas.{prefix-none, prefix-less, prefix-on, prefix-either, AreUnits, Reads, prefix-reads, prefix-run}
use Rattle.regress_machine.proofs.GroupAndAssertionOutcomes.{slice_get_some}
use Rattle.regress_program.specs.declared.first_set_type.FirstSet.{FirstSet}
use Rattle.regress_program.specs.declared.char_class_tables.Class.{Class}
use Rattle.regress_program.specs.declared.required_prefix_types.Prefix.{Prefix}
use Rattle.regress_program.specs.declared.required_prefix_analysis.OpPrefixContribution.{OpPrefixContribution}
use Rattle.regress_program.specs.declared.required_prefix_analysis.OpPrefixContribution.TheVariants as ahead
use Rattle.regress_program.specs.declared.ops.CharLoopBounds.{CharLoopBounds}
use Rattle.regress_program.specs.declared.ops.CountedLoop.{CountedLoop}
use Rattle.regress_program.specs.declared.ops.WordBoundaryKind as edge
use Rattle.regress_program.specs.declared.ops.LookaroundAndNextOp as look
use Rattle.regress_program.specs.declared.ops.Op.{Op}
use Rattle.regress_program.specs.declared.ops.Op.TheVariants as op
use Rattle.regress_program.specs.declared.ops.CharLoop as run
use Rattle.regress_program.specs.declared.plan.Plan.{Plan}
use Rattle.regress_program.specs.TableKeysOfUnits.{key, is_16_bit_encoding, is_read_length_right, read_length_at_key, unit_table_of_set}
use Rattle.regress_program.specs.Plans.{IsClassRightForProgram, reads_class_char, op_as_char_loop, IsOpOf}
use Rattle.regress_program.specs.PrefixesAndPrefilters.{units_allowed_by_prefix, PrefixAt, IsRequiredPrefixFromInsn, ExcludesKeys}
use Rattle.regress_program.specs.RequiredPrefixAnalysis.{joined_masks, allowed_first_then_after, allows_only_key, units_allowed_by_first_set, falls_through, ExtendsPrefix, AllowsEitherPrefix}
use Rattle.regress_program.specs.RequiredPrefixAnalysis.{IsPrefixSoFar, AreOpsOfProgram, PrefixAfter}
use Rattle.regress_program.specs.RequiredPrefixAnalysis.{PrefixBeginsWith, FollowsFromSuccessors, IsOpPrefixContributionOf, IsPrefixOfCharLoop}
use Rattle.regress_program.proofs.TableKeysOfUnitsLemmas.{first-key-at, first-key-below, key_of_first}
use Rattle.regress_program.proofs.ClosedFirstSetsLemmas.{told-some}
use Rattle.regress_program.proofs.AppendedEntryLemmas.{runs-of}
use Rattle.regress_program.proofs.RangeAcceptanceLemmas.{ascii-key}
use Rattle.regress_program.proofs.ClassReadLengthsLemmas.{one-unit}

-- ---- Masks

-- A bit of a shifted mask below 16 is not changed by cutting the mask to 16 bits.
moved-bit : (mask count ahead : ℕ) → ahead < 16 → bit_at (mask * 2 ^ count % 2 ^ 16) ahead ≡ bit_at (mask * 2 ^ count + 0) ahead
moved-bit mask count ahead less =
    let all : ℕ = mask * 2 ^ count in
    let parts : all / 2 ^ 16 * 2 ^ 16 + all % 2 ^ 16 ≡ all = div-add-mod' all (2 ^ 16) in
    sym (bit_at_cat_low (all / 2 ^ 16) 16 (all % 2 ^ 16) ahead less) ∙ ap (λ v. bit_at v ahead) parts ∙ ap (λ v. bit_at v ahead) (let z : all ≡ all + 0 = omega arith in z)

-- The first `count` bits of joined masks are those of the first mask.
joined-first : (first count behind ahead : ℕ) → ahead < count → count < 16 → bit_at (joined_masks first count behind) ahead ≡ bit_at first ahead
joined-first first count behind ahead less few =
    let low : bit_at (bit_and first (2 ^ count - 1)) ahead ≡ min (bit_at first ahead) 1 =
    bit_at_and first (2 ^ count - 1) ahead ∙ ap (λ b. min (bit_at first ahead) b) (bit_at_ones count ahead less) in
    let high : bit_at (behind * 2 ^ count % 2 ^ 16) ahead ≡ 0 =
    moved-bit behind count ahead (omega (arith, less, few)) ∙ bit_at_cat_low behind count 0 ahead less ∙ bit_at-zero ahead in
    let small = bit_at-lt first ahead in
    bit_at_or (bit_and first (2 ^ count - 1)) (behind * 2 ^ count % 2 ^ 16) ahead
    ∙ (let z : max (bit_at (bit_and first (2 ^ count - 1)) ahead) (bit_at (behind * 2 ^ count % 2 ^ 16) ahead) ≡ bit_at first ahead = omega (arith, low, high, small) in z)

-- The other bits of joined masks are those of the second mask.
joined-behind : (first count behind ahead : ℕ) → count ≤ ahead → ahead < 16 → bit_at (joined_masks first count behind) ahead ≡ bit_at behind (ahead - count)
joined-behind first count behind ahead more few =
    let low : bit_at (bit_and first (2 ^ count - 1)) ahead ≡ min (bit_at first ahead) 0 =
    bit_at_and first (2 ^ count - 1) ahead ∙ ap (λ b. min (bit_at first ahead) b) (bit_at_ones_above count ahead more) in
    let high : bit_at (behind * 2 ^ count % 2 ^ 16) ahead ≡ bit_at behind (ahead - count) =
    moved-bit behind count ahead few ∙ bit_at_cat_high behind count 0 ahead (pow_pos count) more in
    bit_at_or (bit_and first (2 ^ count - 1)) (behind * 2 ^ count % 2 ^ 16) ahead
    ∙ (let z : max (bit_at (bit_and first (2 ^ count - 1)) ahead) (bit_at (behind * 2 ^ count % 2 ^ 16) ahead) ≡ bit_at behind (ahead - count) = omega (arith, low, high) in z)

-- A bit that one of two masks lacks is not in both.
and-clear : (x y ahead : ℕ) → (bit_at x ahead ≡ 0) ⊎ (bit_at y ahead ≡ 0) → bit_at (bit_and x y) ahead ≡ 0
and-clear x y ahead (inl none) = bit_at_and x y ahead ∙ (let z : min (bit_at x ahead) (bit_at y ahead) ≡ 0 = omega (arith, none) in z)
and-clear x y ahead (inr none) = bit_at_and x y ahead ∙ (let z : min (bit_at x ahead) (bit_at y ahead) ≡ 0 = omega (arith, none) in z)

-- A bit that is in both masks is in each of them.
both-set : (x y ahead : ℕ) → (bit_at (bit_and x y) ahead == 0) ≡ false → ((bit_at x ahead == 0) ≡ false) × ((bit_at y ahead == 0) ≡ false)
both-set x y ahead set = (by-first (bit_at x ahead == 0) refl, by-second (bit_at y ahead == 0) refl)
  where
    no : bit_at (bit_and x y) ahead ≡ 0 → true ≡ false
    no clear = sym (ap (λ b. b == 0) clear) ∙ set

    by-first : (b : Bool) → (bit_at x ahead == 0) ≡ b → (bit_at x ahead == 0) ≡ false
    by-first false is = is
    by-first true is = is ∙ no (and-clear x y ahead (inl (eqb-true (bit_at x ahead) 0 is)))

    by-second : (b : Bool) → (bit_at y ahead == 0) ≡ b → (bit_at y ahead == 0) ≡ false
    by-second false is = is
    by-second true is = is ∙ no (and-clear x y ahead (inr (eqb-true (bit_at y ahead) 0 is)))

-- If all masks from a key on and that of the next key have a bit, these keys are excluded.
pub barred-next : (prefix : Prefix) (from key mask_excluding_keys ahead : ℕ)
    → ((ahead : ℕ) → (bit_at mask_excluding_keys ahead == 0) ≡ false → ExcludesKeys prefix from key ahead)
    → (bit_at (bit_and mask_excluding_keys (slice_index prefix.masks key)) ahead == 0) ≡ false → ExcludesKeys prefix from (key + 1) ahead
barred-next prefix from key mask_excluding_keys ahead before set k more less =
    let both = both-set mask_excluding_keys (slice_index prefix.masks key) ahead set in
    elim (cases_lt k key) [
      | inl early ↦ before ahead both.0 k more early
      | inr last ↦
          let here : k ≡ key = omega (arith, less, last) in
          ap (λ i. bit_at (slice_index prefix.masks i) ahead == 0) here ∙ both.1
    ]

-- The `count` bits from `from` on are clear, as zeros were shifted in.
pub clear-between : (from count ahead : ℕ) → from + count < 16 → from ≤ ahead → ahead < from + count → bit_at (joined_masks 65535 from (65535 * 2 ^ count % 2 ^ 16)) ahead ≡ 0
clear-between from count ahead room more less =
    joined-behind 65535 from (65535 * 2 ^ count % 2 ^ 16) ahead more (omega (arith, room, less))
    ∙ moved-bit 65535 count (ahead - from) (omega (arith, room, less))
    ∙ bit_at_cat_low 65535 count 0 (ahead - from) (omega (arith, more, less)) ∙ bit_at-zero (ahead - from)

-- A key without a mask is allowed.
allowed-past : (prefix : Prefix) (ahead k : ℕ) → length prefix.masks ≤ k → units_allowed_by_prefix prefix ahead k ≡ true
allowed-past prefix ahead k past = ap (λ m. bit_at m ahead == 0) (get_or_past prefix.masks k 0 past) ∙ ap (λ b. b == 0) (bit_at-zero ahead)

-- ---- Masks that are changed one by one

-- The masks before `index` are changed, and the others are as before.
pub record AreChanged (old masks : List ℕ) (change : (k mask : ℕ) → ℕ) (index : ℕ) : Type 0 where
  pub sized : length masks ≡ 256
  pub changed : (k : ℕ) → k < index → get_or masks k 0 ≡ change k (get_or old k 0)
  pub same : (k : ℕ) → index ≤ k → get_or masks k 0 ≡ get_or old k 0

pub change-none : (masks : List ℕ) (change : (k mask : ℕ) → ℕ) → length masks ≡ 256 → AreChanged masks masks change 0
change-none masks change sized = record { sized = sized; changed = λ k less. absurd (omega (arith, less)); same = λ k le. refl }

pub change-next : (old masks : List ℕ) (change : (k mask : ℕ) → ℕ) (index new : ℕ) → AreChanged old masks change index → index < 256
    → new ≡ change index (get_or masks index 0) → AreChanged old (slice_set masks index new) change (index + 1)
change-next old masks change index new are below is = record {
  sized = length-set masks index new ∙ are.sized;
  changed = λ k less. by k less (cases_lt k index);
  same = λ k more. get_or-set_other masks index k new 0 (λ same. omega (arith, more, same)) ∙ are.same k (omega (arith, more));
}
  where
    by : (k : ℕ) → k < index + 1 → (k < index) ⊎ (index ≤ k) → get_or (slice_set masks index new) k 0 ≡ change k (get_or old k 0)
    by k less (inl before) = get_or-set_other masks index k new 0 (λ same. omega (arith, before, same)) ∙ are.changed k before
    by k less (inr last) =
        let here : k ≡ index = omega (arith, less, last) in
        get_or-set_at masks index k new 0 here (let sized = are.sized in omega (arith, below, sized))
        ∙ is ∙ ap (change index) (are.same index (omega arith)) ∙ ap (λ i. change i (get_or old i 0)) (sym here)

-- ---- A prefix followed by units

then-early : (count : ℕ) (first after : AllowedUnitsAhead) (ahead k : ℕ) → ahead < count → allowed_first_then_after count first after ahead k ≡ first ahead k
then-early count first after ahead k less = ap (λ (b : Bool). if b then first ahead k else after (ahead - count) k) (lt-ltb ahead count less)

then-late : (count : ℕ) (first after : AllowedUnitsAhead) (ahead k : ℕ) → count ≤ ahead → allowed_first_then_after count first after ahead k ≡ after (ahead - count) k
then-late count first after ahead k more = ap (λ (b : Bool). if b then first ahead k else after (ahead - count) k) (le-ltb ahead count more)

-- A prefix whose masks are joined with those of another one is extended by that one.
pub then-of : (p q prefix : Prefix) → length prefix.masks ≡ 256 → prefix.len ≡ min (p.len + q.len) 15
    → ((k : ℕ) → k < 256 → get_or prefix.masks k 0 ≡ joined_masks (get_or p.masks k 0) p.len (get_or q.masks k 0)) → ExtendsPrefix p q.len (units_allowed_by_prefix q) prefix
then-of p q prefix sized len each = record { len = len; within = λ ahead k less h. by ahead k less h (cases_lt k 256) }
  where
    here : (ahead k : ℕ) → ahead < prefix.len → k < 256 → allowed_first_then_after p.len (units_allowed_by_prefix p) (units_allowed_by_prefix q) ahead k ≡ true → (ahead < p.len) ⊎ (p.len ≤ ahead)
        → units_allowed_by_prefix prefix ahead k ≡ true
    here ahead k less below h (inl early) =
        let short = p.short in
        ap (λ m. bit_at m ahead == 0) (each k below)
        ∙ ap (λ b. b == 0) (joined-first (get_or p.masks k 0) p.len (get_or q.masks k 0) ahead early (omega (arith, short)))
        ∙ sym (then-early p.len (units_allowed_by_prefix p) (units_allowed_by_prefix q) ahead k early) ∙ h
    here ahead k less below h (inr late) =
        ap (λ m. bit_at m ahead == 0) (each k below)
        ∙ ap (λ b. b == 0) (joined-behind (get_or p.masks k 0) p.len (get_or q.masks k 0) ahead late (omega (arith, less, len)))
        ∙ sym (then-late p.len (units_allowed_by_prefix p) (units_allowed_by_prefix q) ahead k late) ∙ h

    by : (ahead k : ℕ) → ahead < prefix.len → allowed_first_then_after p.len (units_allowed_by_prefix p) (units_allowed_by_prefix q) ahead k ≡ true → (k < 256) ⊎ (256 ≤ k) → units_allowed_by_prefix prefix ahead k ≡ true
    by ahead k less h (inl below) = here ahead k less below h (cases_lt ahead p.len)
    by ahead k less h (inr past) = allowed-past prefix ahead k (omega (arith, past, sized))

-- A prefix is extended by units if the bits of these units' keys are cleared.
pub then-cleared : (p prefix : Prefix) (count : ℕ) (has : ℕ → Bool) → length prefix.masks ≡ 256 → prefix.len ≡ min (p.len + count) 15
    → ((k : ℕ) → k < 256 → (ahead : ℕ) → (bit_at (get_or p.masks k 0) ahead ≡ 0) ⊎ ((has k ≡ true) × (p.len ≤ ahead) × (ahead < prefix.len)) → bit_at (get_or prefix.masks k 0) ahead ≡ 0)
    → ExtendsPrefix p count (λ ahead k. has k) prefix
then-cleared p prefix count has sized len each = record { len = len; within = λ ahead k less h. by ahead k less h (cases_lt k 256) }
  where
    here : (ahead k : ℕ) → ahead < prefix.len → k < 256 → allowed_first_then_after p.len (units_allowed_by_prefix p) (λ ahead k. has k) ahead k ≡ true → (ahead < p.len) ⊎ (p.len ≤ ahead)
        → units_allowed_by_prefix prefix ahead k ≡ true
    here ahead k less below h (inl early) =
        eq-eqb (bit_at (get_or prefix.masks k 0) ahead) 0
        (each k below ahead (inl (eqb-true (bit_at (get_or p.masks k 0) ahead) 0 (sym (then-early p.len (units_allowed_by_prefix p) (λ ahead k. has k) ahead k early) ∙ h))))
    here ahead k less below h (inr late) =
        eq-eqb (bit_at (get_or prefix.masks k 0) ahead) 0
        (each k below ahead (inr (sym (then-late p.len (units_allowed_by_prefix p) (λ ahead k. has k) ahead k late) ∙ h, late, less)))

    by : (ahead k : ℕ) → ahead < prefix.len → allowed_first_then_after p.len (units_allowed_by_prefix p) (λ ahead k. has k) ahead k ≡ true → (k < 256) ⊎ (256 ≤ k) → units_allowed_by_prefix prefix ahead k ≡ true
    by ahead k less h (inl below) = here ahead k less below h (cases_lt ahead p.len)
    by ahead k less h (inr past) = allowed-past prefix ahead k (omega (arith, past, sized))

-- A prefix is extended by units of a set if `kept` masks the bits of the keys in the set.
pub units-cleared : (p prefix : Prefix) (count kept : ℕ) (has : ℕ → Bool) → length prefix.masks ≡ 256 → prefix.len ≡ min (p.len + count) 15
    → ((ahead : ℕ) → p.len ≤ ahead → ahead < prefix.len → bit_at kept ahead ≡ 0)
    → ((k : ℕ) → k < 256 → get_or prefix.masks k 0 ≡ bit_and (get_or p.masks k 0) (if has k then kept else 65535)) → ExtendsPrefix p count (λ ahead k. has k) prefix
units-cleared p prefix count kept has sized len clear each = then-cleared p prefix count has sized len
    (λ k below ahead w.
    ap (λ m. bit_at m ahead) (each k below) ∙ and-clear (get_or p.masks k 0) (if has k then kept else 65535) ahead (by k ahead w))
  where
    by : (k ahead : ℕ) → (bit_at (get_or p.masks k 0) ahead ≡ 0) ⊎ ((has k ≡ true) × (p.len ≤ ahead) × (ahead < prefix.len))
        → (bit_at (get_or p.masks k 0) ahead ≡ 0) ⊎ (bit_at (if has k then kept else 65535) ahead ≡ 0)
    by k ahead (inl none) = inl none
    by k ahead (inr here) = inr (ap (λ (b : Bool). bit_at (if b then kept else 65535) ahead) here.0 ∙ clear ahead here.1 here.2)

-- A prefix is extended by one unit if the bit of its key is cleared.
pub unit-cleared : (p prefix : Prefix) (key at kept : ℕ) → at ≡ key → length p.masks ≡ 256 → at < 256 → p.len < 15 → prefix.len ≡ p.len + 1
    → ((ahead : ℕ) → p.len ≤ ahead → ahead < p.len + 1 → bit_at kept ahead ≡ 0)
    → prefix.masks ≡ slice_set p.masks at (bit_and (get_or p.masks at 0) kept) → ExtendsPrefix p 1 (allows_only_key key) prefix
unit-cleared p prefix key at kept here sized low room len clear is = then-cleared p prefix 1 (λ k. k == key)
    (ap length is ∙ length-set p.masks at (bit_and (get_or p.masks at 0) kept) ∙ sized) (omega (arith, len, room))
    (λ k below ahead w. ap (λ (l : List ℕ). bit_at (get_or l k 0) ahead) is ∙ by k ahead w (k == key) refl)
  where
    cleared : ℕ
    cleared = bit_and (get_or p.masks at 0) kept

    masked : (k ahead : ℕ) → k ≡ at → (bit_at (get_or p.masks k 0) ahead ≡ 0) ⊎ (((k == key) ≡ true) × (p.len ≤ ahead) × (ahead < prefix.len))
        → (bit_at (get_or p.masks at 0) ahead ≡ 0) ⊎ (bit_at kept ahead ≡ 0)
    masked k ahead same (inl none) = inl (ap (λ i. bit_at (get_or p.masks i 0) ahead) (sym same) ∙ none)
    masked k ahead same (inr at_end) = let less = at_end.2 in inr (clear ahead at_end.1 (omega (arith, less, len)))

    by : (k ahead : ℕ) → (bit_at (get_or p.masks k 0) ahead ≡ 0) ⊎ (((k == key) ≡ true) × (p.len ≤ ahead) × (ahead < prefix.len)) → (b : Bool) → (k == key) ≡ b
        → bit_at (get_or (slice_set p.masks at (bit_and (get_or p.masks at 0) kept)) k 0) ahead ≡ 0
    by k ahead w true q =
        let same : k ≡ at = eqb-true k key q ∙ sym here in
        ap (λ m. bit_at m ahead) (get_or-set_at p.masks at k cleared 0 same (omega (arith, low, sized))) ∙ and-clear (get_or p.masks at 0) kept ahead (masked k ahead same w)
    by k ahead (inl none) false q =
        ap (λ m. bit_at m ahead) (get_or-set_other p.masks at k cleared 0 (λ same. let t = eq-eqb k key (same ∙ here) in let f : true ≡ false = sym t ∙ q in cc)) ∙ none
    by k ahead (inr at_end) false q = let f : true ≡ false = sym at_end.0 ∙ q in cc

-- A prefix of joined masks allows what either of two prefixes allows.
pub either-of : (a b prefix : Prefix) → length prefix.masks ≡ 256 → prefix.len ≡ min a.len b.len
    → ((k : ℕ) → k < 256 → get_or prefix.masks k 0 ≡ joined_masks (bit_and (get_or a.masks k 0) (get_or b.masks k 0)) prefix.len 65535) → AllowsEitherPrefix a b prefix
either-of a b prefix sized len each = record {
  first = omega (arith, len);
  second = omega (arith, len);
  within_first = λ ahead k less h. by ahead k less (inl (eqb-true (bit_at (get_or a.masks k 0) ahead) 0 h)) (cases_lt k 256);
  within_second = λ ahead k less h. by ahead k less (inr (eqb-true (bit_at (get_or b.masks k 0) ahead) 0 h)) (cases_lt k 256);
}
  where
    by : (ahead k : ℕ) → ahead < prefix.len → (bit_at (get_or a.masks k 0) ahead ≡ 0) ⊎ (bit_at (get_or b.masks k 0) ahead ≡ 0) → (k < 256) ⊎ (256 ≤ k) → units_allowed_by_prefix prefix ahead k ≡ true
    by ahead k less h (inl below) =
        let short = prefix.short in
        let both : ℕ = bit_and (get_or a.masks k 0) (get_or b.masks k 0) in
        eq-eqb (bit_at (get_or prefix.masks k 0) ahead) 0
        (ap (λ m. bit_at m ahead) (each k below) ∙ joined-first both prefix.len 65535 ahead less (omega (arith, short)) ∙ and-clear (get_or a.masks k 0) (get_or b.masks k 0) ahead h)
    by ahead k less h (inr past) = allowed-past prefix ahead k (omega (arith, past, sized))

-- ---- Prefixes made from those of operations

-- A prefix of no units is required at each instruction.
none-prefix : (wide : Bool) (program : Program) (ip : ℕ) (allowed : AllowedUnitsAhead) → PrefixAt wide program ip 0 allowed
none-prefix wide program ip allowed = λ e same. prefix-none e (key wide) program ip allowed

-- A shorter prefix that allows at least as much is required, too.
pub less-prefix : (wide : Bool) (program : Program) (ip len most : ℕ) (a b : AllowedUnitsAhead) → PrefixAt wide program ip most a → len ≤ most
    → ((ahead k : ℕ) → ahead < len → a ahead k ≡ true → b ahead k ≡ true) → PrefixAt wide program ip len b
less-prefix wide program ip len most a b prefix le within = λ e same. prefix-less e (key wide) program ip len most a b (prefix e same) le within

pub prefix-unknown : (wide : Bool) (program : Program) (ip : ℕ) (prefix : Prefix) → prefix.len ≡ 0 → IsRequiredPrefixFromInsn wide program ip prefix
prefix-unknown wide program ip prefix none =
    let P : ℕ → Type 0 = λ n. PrefixAt wide program ip n (units_allowed_by_prefix prefix) in
    subst P (sym none) (none-prefix wide program ip (units_allowed_by_prefix prefix))

pub prefix-of-either : (wide : Bool) (program : Program) (ip x y : ℕ) (a b prefix : Prefix) → FollowsFromSuccessors wide program ip (ahead.UnionOf x y) → IsRequiredPrefixFromInsn wide program x a → IsRequiredPrefixFromInsn wide program y b
    → AllowsEitherPrefix a b prefix → IsRequiredPrefixFromInsn wide program ip prefix
prefix-of-either wide program ip x y a b prefix leads first second either =
    leads prefix.len (units_allowed_by_prefix prefix)
    (less-prefix wide program x prefix.len a.len (units_allowed_by_prefix a) (units_allowed_by_prefix prefix) first either.first either.within_first)
    (less-prefix wide program y prefix.len b.len (units_allowed_by_prefix b) (units_allowed_by_prefix prefix) second either.second either.within_second)

-- ---- Prefixes along a path of operations

-- A path starts with an empty prefix at its first instruction.
pub path-start : (wide : Bool) (program : Program) (ip : ℕ) (prefix : Prefix) → prefix.len ≡ 0 → IsPrefixSoFar wide program ip prefix ip
path-start wide program ip prefix none = record {
  so_far = prefix-unknown wide program ip prefix none;
  on = λ room len allowed there.
      less-prefix wide program ip (prefix.len + len) len allowed (allowed_first_then_after prefix.len (units_allowed_by_prefix prefix) allowed) there (omega (arith, none))
      (λ ahead k less h.
      then-late prefix.len (units_allowed_by_prefix prefix) allowed ahead k (omega (arith, none)) ∙ ap (λ n. allowed n k) (let z : ahead - prefix.len ≡ ahead = omega (arith, none) in z) ∙ h);
}

-- At an operation with the same prefix as another one, the path goes on to that one.
pub path-at : (wide : Bool) (program : Program) (from ip to : ℕ) (prefix : Prefix) → IsPrefixSoFar wide program from prefix ip → FollowsFromSuccessors wide program ip (ahead.SameAs to) → IsPrefixSoFar wide program from prefix to
path-at wide program from ip to prefix path leads = record { so_far = path.so_far; on = λ room len allowed there. path.on room len allowed (leads len allowed there) }

-- The prefix of the operation at the end of the path follows the prefix so far.
pub path-then : (wide : Bool) (program : Program) (from ip len : ℕ) (prefix next : Prefix) (allowed : AllowedUnitsAhead) → IsPrefixSoFar wide program from prefix ip → prefix.len < 15
    → PrefixAt wide program ip len allowed → ExtendsPrefix prefix len allowed next → IsRequiredPrefixFromInsn wide program from next
path-then wide program from ip len prefix next allowed path room there is =
    less-prefix wide program from next.len (prefix.len + len) (allowed_first_then_after prefix.len (units_allowed_by_prefix prefix) allowed) (units_allowed_by_prefix next) (path.on room len allowed there)
    (let l = is.len in omega (arith, l)) (λ ahead k less h. is.within ahead k less h)

-- An operation that begins with units has a prefix of these units.
pub units-there : (wide : Bool) (program : Program) (ip count : ℕ) (units : AllowedUnitsAhead) (to : Option ℕ) → PrefixBeginsWith wide program ip units count to
    → PrefixAt wide program ip count units
units-there wide program ip count units to leads =
    less-prefix wide program ip count (count + 0) (allowed_first_then_after count units units) units (leads 0 units (nothing to))
    (omega arith) (λ ahead k less h. sym (then-early count units units ahead k less) ∙ h)
  where
    nothing : (to : Option ℕ) → PrefixAfter wide program to 0 units
    nothing None = refl
    nothing (Some next) = none-prefix wide program next units

pub path-last : (wide : Bool) (program : Program) (from ip count : ℕ) (units : AllowedUnitsAhead) (to : Option ℕ) (prefix next : Prefix) → IsPrefixSoFar wide program from prefix ip → prefix.len < 15
    → PrefixBeginsWith wide program ip units count to → ExtendsPrefix prefix count units next → IsRequiredPrefixFromInsn wide program from next
path-last wide program from ip count units to prefix next path room leads is =
    path-then wide program from ip count prefix next units path room (units-there wide program ip count units to leads) is

-- Behind an operation that begins with units, the path goes on with these units.
pub path-units : (wide : Bool) (program : Program) (from ip count to : ℕ) (units : AllowedUnitsAhead) (prefix next : Prefix) → IsPrefixSoFar wide program from prefix ip → prefix.len < 15
    → PrefixBeginsWith wide program ip units count (Some to) → ExtendsPrefix prefix count units next → IsPrefixSoFar wide program from next to
path-units wide program from ip count to units prefix next path room leads is = record {
  so_far = path-last wide program from ip count units (Some to) prefix next path room leads is;
  on = λ more len allowed there.
      let all : next.len ≡ prefix.len + count = let l = is.len in omega (arith, l, more) in
      less-prefix wide program from (next.len + len) (prefix.len + (count + len))
      (allowed_first_then_after prefix.len (units_allowed_by_prefix prefix) (allowed_first_then_after count units allowed)) (allowed_first_then_after next.len (units_allowed_by_prefix next) allowed)
      (path.on room (count + len) (allowed_first_then_after count units allowed) (leads len allowed there)) (omega (arith, all))
      (λ ahead k less h. by allowed all ahead k h (cases_lt ahead next.len));
}
  where
    behind : (allowed : AllowedUnitsAhead) → next.len ≡ prefix.len + count → (ahead k : ℕ) → allowed_first_then_after prefix.len (units_allowed_by_prefix prefix) (allowed_first_then_after count units allowed) ahead k ≡ true
        → ahead < next.len → (ahead < prefix.len) ⊎ (prefix.len ≤ ahead) → allowed_first_then_after prefix.len (units_allowed_by_prefix prefix) units ahead k ≡ true
    behind allowed all ahead k h less (inl early) =
        then-early prefix.len (units_allowed_by_prefix prefix) units ahead k early
        ∙ sym (then-early prefix.len (units_allowed_by_prefix prefix) (allowed_first_then_after count units allowed) ahead k early) ∙ h
    behind allowed all ahead k h less (inr late) =
        then-late prefix.len (units_allowed_by_prefix prefix) units ahead k late
        ∙ sym (then-early count units allowed (ahead - prefix.len) k (omega (arith, less, late, all)))
        ∙ sym (then-late prefix.len (units_allowed_by_prefix prefix) (allowed_first_then_after count units allowed) ahead k late) ∙ h

    by : (allowed : AllowedUnitsAhead) → next.len ≡ prefix.len + count → (ahead k : ℕ) → allowed_first_then_after prefix.len (units_allowed_by_prefix prefix) (allowed_first_then_after count units allowed) ahead k ≡ true
        → (ahead < next.len) ⊎ (next.len ≤ ahead) → allowed_first_then_after next.len (units_allowed_by_prefix next) allowed ahead k ≡ true
    by allowed all ahead k h (inl early) =
        then-early next.len (units_allowed_by_prefix next) allowed ahead k early
        ∙ is.within ahead k early (behind allowed all ahead k h early (cases_lt ahead prefix.len))
    by allowed all ahead k h (inr late) =
        let past : prefix.len ≤ ahead = omega (arith, late, all) in
        let beyond : count ≤ ahead - prefix.len = omega (arith, late, all) in
        then-late next.len (units_allowed_by_prefix next) allowed ahead k late
        ∙ ap (λ n. allowed n k) (let z : ahead - next.len ≡ ahead - prefix.len - count = omega (arith, late, all) in z)
        ∙ sym (then-late count units allowed (ahead - prefix.len) k beyond)
        ∙ sym (then-late prefix.len (units_allowed_by_prefix prefix) (allowed_first_then_after count units allowed) ahead k past) ∙ h

-- At an operation that leads to two others, the prefix goes on with what either of them allows.
pub path-either : (wide : Bool) (program : Program) (from ip x y : ℕ) (prefix a b either next : Prefix) → IsPrefixSoFar wide program from prefix ip → prefix.len < 15
    → FollowsFromSuccessors wide program ip (ahead.UnionOf x y) → IsRequiredPrefixFromInsn wide program x a → IsRequiredPrefixFromInsn wide program y b → AllowsEitherPrefix a b either → ExtendsPrefix prefix either.len (units_allowed_by_prefix either) next
    → IsRequiredPrefixFromInsn wide program from next
path-either wide program from ip x y prefix a b either next path room leads first second of is =
    path-then wide program from ip either.len prefix next (units_allowed_by_prefix either) path room (prefix-of-either wide program ip x y a b either leads first second of) is

-- ---- Prefixes of operations

module _ (plan : Plan) {wide : Bool} (program : Program) (ops : AreOpsOfProgram wide program plan) where
  -- Each operation of the plan belongs to an instruction of the program.
  pub insn-of : (o : Op) (ip : ℕ) → slice_get plan.ops.items ip ≡ Some o → (insn : Insn) × (slice_get program.insns ip ≡ Some insn) × IsOpOf program plan o ip insn
  insn-of o ip there =
      let same = ops.as_many in
      let insn = slice_get_some program.insns ip (let below = slice_get_within plan.ops.items ip o there in omega (arith, below, same)) in
      (insn.0, insn.1, ops.each ip o insn.0 there insn.1)

-- A row that was read is the row of its table.
pub row-there : {A : Type 0} (rows seen : List A) → seen ≡ rows → (n : ℕ) (row : A) → n < length seen → row ≡ get_or seen n row → slice_get rows n ≡ Some row
row-there rows seen same n row inside is = ap (λ l. slice_get l n) (sym same) ∙ slice_get-get_or seen n row inside ∙ ap Some (sym is)

-- Equal operations have the same prefix.
pub said-as : (plan : Plan) (ip : ℕ) (said : OpPrefixContribution) (o shown : Op) → o ≡ shown → IsOpPrefixContributionOf plan shown ip said → IsOpPrefixContributionOf plan o ip said
said-as plan ip said o shown is leads = let P : Op → Type 0 = λ x. IsOpPrefixContributionOf plan x ip said in subst P (sym is) leads

-- The prefix of a char loop is the prefix of its operation.
pub said-of-run : (plan : Plan) (ip : ℕ) (said : OpPrefixContribution) (o : Op) (r : run.CharLoop) → op_as_char_loop o ≡ Some r → IsPrefixOfCharLoop plan r ip said → IsOpPrefixContributionOf plan o ip said
said-of-run plan ip said o r is leads wide program ops there =
    let i = insn-of plan program ops o ip there in
    let h = runs-of program plan o r ip i.0 is i.2 in
    leads wide program ops h.0 i.0 i.1 h.1

-- An instruction that can only lead to another one has the same prefix as that one.
led-on : (wide : Bool) (program : Program) (ip to : ℕ) (insn form : Insn) → slice_get program.insns ip ≡ Some insn → insn ≡ form
    → ((may : ℕ → Bool) → may to ≡ false → (text : Text) (at : ℕ) → insn_may_find program text at may (Some form) ip ≡ false) → FollowsFromSuccessors wide program ip (ahead.SameAs to)
led-on wide program ip to insn form there is leads len allowed prefix =
    λ e same. prefix-on e (key wide) program ip to len allowed (prefix e same)
    (λ may never text at.
    let P : Option Insn → Type 0 = λ o. insn_may_find program text at may o ip ≡ false in
    subst P (sym (there ∙ ap Some is)) (leads may never text at))

said-line : (plan : Plan) (ip : ℕ) (multiline : Bool) → IsOpPrefixContributionOf plan (op.LineStart multiline) ip (ahead.SameAs (ip + 1))
said-line plan ip multiline wide program ops there =
    let i = insn-of plan program ops (op.LineStart multiline) ip there in
    led-on wide program ip (ip + 1) i.0 (StartOfLine multiline) i.1 i.2 (λ may never text at. and_right _ (may (ip + 1)) never)

said-open : (plan : Plan) (ip slot : ℕ) → IsOpPrefixContributionOf plan (op.OpenGroup slot) ip (ahead.SameAs (ip + 1))
said-open plan ip slot wide program ops there =
    let i = insn-of plan program ops (op.OpenGroup slot) ip there in
    led-on wide program ip (ip + 1) i.0 (BeginCaptureGroup slot) i.1 i.2 (λ may never text at. never)

said-close : (plan : Plan) (ip slot : ℕ) → IsOpPrefixContributionOf plan (op.CloseGroup slot) ip (ahead.SameAs (ip + 1))
said-close plan ip slot wide program ops there =
    let i = insn-of plan program ops (op.CloseGroup slot) ip there in
    led-on wide program ip (ip + 1) i.0 (EndCaptureGroup slot) i.1 i.2 (λ may never text at. never)

said-reset : (plan : Plan) (ip slot : ℕ) → IsOpPrefixContributionOf plan (op.ResetGroup slot) ip (ahead.SameAs (ip + 1))
said-reset plan ip slot wide program ops there =
    let i = insn-of plan program ops (op.ResetGroup slot) ip there in
    led-on wide program ip (ip + 1) i.0 (ResetCaptureGroup slot) i.1 i.2 (λ may never text at. never)

said-edge : (plan : Plan) (ip : ℕ) (e : edge.WordBoundaryKind) → IsOpPrefixContributionOf plan (op.WordEdge e) ip (ahead.SameAs (ip + 1))
said-edge plan ip e wide program ops there =
    let i = insn-of plan program ops (op.WordEdge e) ip there in by e.unicode_icase i.0 i.1 i.2
  where
    by : (icase : Bool) (insn : Insn) → slice_get program.insns ip ≡ Some insn → insn ≡ (if icase then WordBoundaryUnicodeICase e.invert else WordBoundary e.invert)
        → FollowsFromSuccessors wide program ip (ahead.SameAs (ip + 1))
    by true insn there is = led-on wide program ip (ip + 1) insn (WordBoundaryUnicodeICase e.invert) there is (λ may never text at. and_right _ (may (ip + 1)) never)
    by false insn there is = led-on wide program ip (ip + 1) insn (WordBoundary e.invert) there is (λ may never text at. and_right _ (may (ip + 1)) never)

-- An operation that falls through has the same prefix as the next one.
pub said-on : (plan : Plan) (ip : ℕ) (o : Op) → falls_through o ≡ true → IsOpPrefixContributionOf plan o ip (ahead.SameAs (ip + 1))
said-on plan ip (op.LineStart multiline) h = said-line plan ip multiline
said-on plan ip (op.WordEdge e) h = said-edge plan ip e
said-on plan ip (op.OpenGroup slot) h = said-open plan ip slot
said-on plan ip (op.CloseGroup slot) h = said-close plan ip slot
said-on plan ip (op.ResetGroup slot) h = said-reset plan ip slot
said-on plan ip _ h = cc

pub said-go : (plan : Plan) (ip to : ℕ) → IsOpPrefixContributionOf plan (op.Goto to) ip (ahead.SameAs to)
said-go plan ip to wide program ops there =
    let i = insn-of plan program ops (op.Goto to) ip there in
    led-on wide program ip to i.0 (Jump to) i.1 i.2 (λ may never text at. never)

pub said-look : (plan : Plan) (ip : ℕ) (l : look.LookaroundAndNextOp) → IsOpPrefixContributionOf plan (op.Look l) ip (ahead.SameAs l.past)
said-look plan ip l wide program ops there =
    let i = insn-of plan program ops (op.Look l) ip there in by l.forward i.0 i.1 i.2.start_group i.2.end_group i.2.insn_is
  where
    never-then : (a b : Bool) → a ≡ false → (a && b) ≡ false
    never-then true b h = cc
    never-then false b h = refl

    by : (forward : Bool) (insn : Insn) → slice_get program.insns ip ≡ Some insn → (first last : ℕ)
        → insn ≡ (if forward then Lookahead l.negate first last l.past else Lookbehind l.negate first last l.past) → FollowsFromSuccessors wide program ip (ahead.SameAs l.past)
    by true insn there first last is =
        led-on wide program ip l.past insn (Lookahead l.negate first last l.past) there is (λ may never text at. never-then (may l.past) _ never)
    by false insn there first last is = led-on wide program ip l.past insn (Lookbehind l.negate first last l.past) there is (λ may never text at. never)

pub said-either : (plan : Plan) (ip other : ℕ) → IsOpPrefixContributionOf plan (op.Either other) ip (ahead.UnionOf (ip + 1) other)
said-either plan ip other wide program ops there len allowed first second =
    let i = insn-of plan program ops (op.Either other) ip there in
    λ e same. prefix-either e (key wide) program ip (ip + 1) other len allowed (first e same) (second e same)
    (λ may none never text at.
    let P : Option Insn → Type 0 = λ o. insn_may_find program text at may o ip ≡ false in
    subst P (sym (i.1 ∙ ap Some i.2)) (ap (λ b. b || may other) none ∙ never))

-- The head of a loop with a required iteration has the same prefix as the body.
pub said-entry : (plan : Plan) (ip number : ℕ) (counted : CountedLoop) → slice_get plan.counted.items number ≡ Some counted → 0 < counted.min
    → IsOpPrefixContributionOf plan (op.Enter number) ip (ahead.SameAs (ip + 1))
said-entry plan ip number counted here some wide program ops there =
    let i = insn-of plan program ops (op.Enter number) ip there in
    let r = i.2.row in
    let row : Some counted ≡ Some r.counted = sym here ∙ r.is_there in
    let same : counted ≡ r.counted = cc in
    let least : counted.min ≡ i.2.fields.min_iters = ap (λ (c : CountedLoop). c.min) same ∙ r.is_row.4 in
    led-on wide program ip (ip + 1) i.0 (EnterLoop i.2.fields) i.1 i.2.insn_is
    (λ may never text at.
    ap (λ b. b || i.2.fields.min_iters == 0 && may i.2.fields.exit) never
    ∙ ap (λ b. b && may i.2.fields.exit) (ne_eqb i.2.fields.min_iters 0 (λ z. omega (arith, z, least, some))))

-- ---- Operations that read a character

-- Each accepted character has one unit, and its key is allowed at `count` units.
abbrev UnitsOf : (wide : Bool) (test : ℕ → Bool) (count : ℕ) → AllowedUnitsAhead → Type 0
UnitsOf wide test count allowed = (e : Encoding) → is_16_bit_encoding e ≡ wide → AreUnits e (key wide) test count allowed

-- An instruction that reads a character of one unit begins with that unit.
reads-prefix : (wide : Bool) (program : Program) (ip : ℕ) (insn : Insn) (units : AllowedUnitsAhead) → slice_get program.insns ip ≡ Some insn
    → ((e : Encoding) → Reads e (key wide) program insn)
    → ((test : ℕ → Bool) → test_of program (Some insn) ≡ Some test → (count : ℕ) (allowed : AllowedUnitsAhead) → UnitsOf wide test count (allowed_first_then_after count units allowed))
    → PrefixBeginsWith wide program ip units 1 (Some (ip + 1))
reads-prefix wide program ip insn units there reads are len allowed prefix = λ e same.
    prefix-reads e (key wide) program ip len insn (allowed_first_then_after 1 units allowed) allowed there (reads e) (λ test t. are test t 1 allowed e same)
    (λ ahead k.
    then-late 1 units allowed (ahead + 1) k (omega arith) ∙ ap (λ n. allowed n k) (let z : ahead + 1 - 1 ≡ ahead = omega arith in z))
    (prefix e same)

-- An operation that reads an ASCII character begins with that character as its unit.
pub said-unit : (plan : Plan) (ip c : ℕ) → c < 128 → IsOpPrefixContributionOf plan (op.UnitChar c) ip (ahead.OneUnit c (ip + 1))
said-unit plan ip c low wide program ops there =
    let i = insn-of plan program ops (op.UnitChar c) ip there in
    reads-prefix wide program ip (Char c) (allows_only_key c) (i.1 ∙ ap Some i.2) (λ e text s. refl)
    (λ test t count allowed e same.
    let P : (ℕ → Bool) → Type 0 = λ test. AreUnits e (key wide) test count (allowed_first_then_after count (allows_only_key c) allowed) in
    let tested : (λ d. c == d) ≡ test = some-same (λ d. c == d) test t in
    subst P tested (record {
      keys = λ d is accepted ahead less.
          let one : c ≡ d = eqb-true c d accepted in
          let at : first_unit_key e (key wide) d ≡ Some c =
          first-key-at e wide same d is ∙ ap Some (ap (key_of_first wide) (sym one) ∙ ascii-key wide c low) in
          ap (unit_is_allowed (allowed_first_then_after count (allows_only_key c) allowed) ahead) at ∙ then-early count (allows_only_key c) allowed ahead c less ∙ eq-eqb c c refl;
      single = λ d is accepted. ap (λ (d : ℕ). length (code_units_of_character e d)) (sym (eqb-true c d accepted)) ∙ one-unit e c low;
    }))

-- The characters of a class of single units have one unit, whose key is in the first set.
class-units : (wide : Bool) (program : Program) (class : Class) (set : FirstSet) (insn : Insn) → IsClassRightForProgram wide program class → class.single_unit ≡ true
    → insn ≡ insn_as_spec_insn class.insn
    → ((k : ℕ) → k < 256 → (unit_table_of_set set).keys k ≡ not (slice_index_or class.steps k 0 == 0)) → (test : ℕ → Bool) → test_of program (Some insn) ≡ Some test
    → (count : ℕ) (allowed : AllowedUnitsAhead) → UnitsOf wide test count (allowed_first_then_after count (units_allowed_by_first_set set) allowed)
class-units wide program class set insn is single_unit same keys test t count allowed e units = record {
  keys = λ c character accepted ahead less.
      ap (unit_is_allowed (allowed_first_then_after count (units_allowed_by_first_set set) allowed) ahead) (first-key-at e wide units c character)
      ∙ then-early count (units_allowed_by_first_set set) allowed ahead (key_of_first wide c) less
      ∙ keys (key_of_first wide c) (first-key-below e wide units c character)
      ∙ ap not (ne_eqb (slice_index_or class.steps (key_of_first wide c) 0) 0 (some c character accepted));
  single = λ c character accepted.
      let step = slice_index_or class.steps (key_of_first wide c) 0 in
      let one : step ≡ 1 = let most = is.single_unit single_unit (key_of_first wide c) in least step (some c character accepted) most in
      let h : is_read_length_right 1 true (length (code_units_of_character e c)) ≡ true = ap (λ s. is_read_length_right s true (length (code_units_of_character e c))) (sym one) ∙ ap (λ a. is_read_length_right step a (length (code_units_of_character e c))) (sym accepted) ∙ told c character in
      sym (eqb-true 1 (length (code_units_of_character e c)) h);
}
  where
    told : (c : ℕ) → is_character_in_encoding e c ≡ true → is_read_length_right (slice_index_or class.steps (key_of_first wide c) 0) (test c) (length (code_units_of_character e c)) ≡ true
    told c character =
        ap (λ o. is_read_length_right (read_length_at_key class.steps o) (test c) (length (code_units_of_character e c))) (sym (first-key-at e wide units c character))
        ∙ is.steps test (ap (λ i. test_of program (Some i)) (sym same) ∙ t) e units c character

    some : (c : ℕ) → is_character_in_encoding e c ≡ true → test c ≡ true → slice_index_or class.steps (key_of_first wide c) 0 ≢ 0
    some c character accepted = told-some (slice_index_or class.steps (key_of_first wide c) 0) (length (code_units_of_character e c)) (test c) (told c character) accepted

    least : (n : ℕ) → n ≢ 0 → n ≤ 1 → n ≡ 1
    least zero none most = absurd (none refl)
    least (suc n) none most = omega (arith, most)

reads-as : (wide : Bool) (program : Program) (insn : Insn) → reads_class_char insn ≡ true → (e : Encoding) → Reads e (key wide) program insn
reads-as wide program (CharSet members) r = λ e text s. refl
reads-as wide program (ByteSet members) r = λ e text s. refl
reads-as wide program (AsciiBracket members) r = λ e text s. refl
reads-as wide program (Bracket index) r = λ e text s. refl
reads-as wide program MatchAny r = λ e text s. refl
reads-as wide program MatchAnyExceptLineTerminator r = λ e text s. refl
reads-as wide program _ r = cc

pub said-class : (plan : Plan) (ip number : ℕ) (class : Class) (set : FirstSet) → slice_get plan.classes.items number ≡ Some class → class.single_unit ≡ true
    → ((k : ℕ) → k < 256 → (unit_table_of_set set).keys k ≡ not (slice_index_or class.steps k 0 == 0)) → IsOpPrefixContributionOf plan (op.One number) ip (ahead.Units set 1 (Some (ip + 1)))
said-class plan ip number class set here single_unit keys wide program ops there =
    let i = insn-of plan program ops (op.One number) ip there in
    let h = i.2.0 in
    let same = some-same h.class class (sym h.is_there ∙ here) in
    reads-prefix wide program ip i.0 (units_allowed_by_first_set set) i.1 (reads-as wide program i.0 i.2.1)
    (class-units wide program class set i.0 (ops.classes number class here) single_unit (h.is_class ∙ ap (λ (c : Class). insn_as_spec_insn c.insn) same) keys)

pub said-run : (plan : Plan) (ip : ℕ) (r : run.CharLoop) (class : Class) (bounds : CharLoopBounds) (set : FirstSet) (to : Option ℕ) → slice_get plan.classes.items r.class ≡ Some class
    → slice_get plan.bounds.items r.bounds ≡ Some bounds → class.single_unit ≡ true
    → ((k : ℕ) → k < 256 → (unit_table_of_set set).keys k ≡ not (slice_index_or class.steps k 0 == 0))
    → ((to ≡ Some (ip + 2)) × (bounds.min ≡ bounds.max)) ⊎ (to ≡ None) → IsPrefixOfCharLoop plan r ip (ahead.Units set bounds.min to)
said-run plan ip r class bounds set to here bounded single_unit keys way wide program ops greedy insn there runs len allowed behind =
    λ e same. prefix-run e (key wide) program ip len bounds.min bounds.max greedy (allowed_first_then_after bounds.min (units_allowed_by_first_set set) allowed) allowed
    (there ∙ ap Some (runs.insn_is ∙ ap (λ (b : CharLoopBounds). Loop1CharBody b.min b.max greedy) same_bounds)) (λ test t. are test t e same)
    (λ ahead k.
    then-late bounds.min (units_allowed_by_first_set set) allowed (bounds.min + ahead) k (omega arith)
    ∙ ap (λ n. allowed n k) (let z : bounds.min + ahead - bounds.min ≡ ahead = omega arith in z))
    (exactly way) (prefix way e same)
  where
    same_bounds : runs.bounds ≡ bounds
    same_bounds = let e : Some runs.bounds ≡ Some bounds = sym runs.are_there ∙ bounded in cc

    are : (test : ℕ → Bool) → test_of program (slice_get program.insns (ip + 1)) ≡ Some test
        → UnitsOf wide test bounds.min (allowed_first_then_after bounds.min (units_allowed_by_first_set set) allowed)
    are test t = by (slice_get program.insns (ip + 1)) refl t
      where
        by : (o : Option Insn) → slice_get program.insns (ip + 1) ≡ o → test_of program o ≡ Some test
            → UnitsOf wide test bounds.min (allowed_first_then_after bounds.min (units_allowed_by_first_set set) allowed)
        by None at t = cc
        by (Some read) at t =
            let h = runs.body read at in
            let same = some-same h.class class (sym h.is_there ∙ here) in
            class-units wide program class set read (ops.classes r.class class here) single_unit (h.is_class ∙ ap (λ (c : Class). insn_as_spec_insn c.insn) same) keys test t bounds.min allowed

    exactly : ((to ≡ Some (ip + 2)) × (bounds.min ≡ bounds.max)) ⊎ (to ≡ None) → (bounds.min ≡ bounds.max) ⊎ (len ≡ 0)
    exactly (inl more) = inl more.1
    exactly (inr none) = let P : Option ℕ → Type 0 = λ o. PrefixAfter wide program o len allowed in inr (subst P none behind)

    prefix : ((to ≡ Some (ip + 2)) × (bounds.min ≡ bounds.max)) ⊎ (to ≡ None) → PrefixAt wide program (ip + 2) len allowed
    prefix (inl more) = let P : Option ℕ → Type 0 = λ o. PrefixAfter wide program o len allowed in subst P more.0 behind
    prefix (inr none) =
        let P : Option ℕ → Type 0 = λ o. PrefixAfter wide program o len allowed in
        let zero_len : len ≡ 0 = subst P none behind in
        let Q : ℕ → Type 0 = λ n. PrefixAt wide program (ip + 2) n allowed in
        subst Q (sym zero_len) (none-prefix wide program (ip + 2) allowed)
