-- Exits of a char loop find nothing if the table of the instruction after it excludes the next
-- units.
use Rattle.std.proofs.Common.{◌≡◌, ◌<◌, ◌≤◌, ℕ, zero, suc, ◌+◌, List, [], ◌∷◌, Some, Bool, true, false, refl, ap, ◌∙◌, sym, arith, slice_get, drop, length, cond}
use Rattle.std.specs.List.{prefix_len}
use Rattle.regex_meaning.specs.Text.{Text, rightwards}
use Rattle.regex_meaning.specs.CodeUnitOffsets.{offset}
use Rattle.regex_meaning.specs.OutcomesWithStepTicks.{nearest_first}
use Rattle.regex_meaning.specs.CodeUnits.{Encoding}
use Rattle.regex_meaning.specs.CompilationRelation.{Program}
use Rattle.regex_meaning.proofs.CodeUnitOffsetsLemmas.{place_at-offset}
use Rattle.regress_machine.specs.Machine.{State}
use Rattle.regress_machine.specs.FirstSetTables.{AllowedNextKeys, table_allows_key_or_end, is_character_in_encoding, HasUnitsForTables, first_unit_key, unit_key_at, AreCovered}
use Rattle.regress_machine.specs.CharLoopExitStatesByPreference.{behind, StatesAfterCharsFindNothing}
use Rattle.regress_machine.proofs.FirstUnitsOfCharacters.{passes-one}
use Rattle.regress_machine.proofs.FirstSetTableLemmas.{seen-next, covered-nothing}

-- Each character of a run passes the test.
pub one-of-run : (test : ℕ → Bool) (xs : List ℕ) (n : ℕ) → n < prefix_len test xs → (c : ℕ) × (slice_get xs n ≡ Some c) × (test c ≡ true)
one-of-run test [] n less = absurd (omega (arith, less))
one-of-run test (x ∷ xs) n less = by (λ m l. one-of-run test xs m l) (test x) refl n less
  where
    by : ((m : ℕ) → m < prefix_len test xs → (c : ℕ) × (slice_get xs m ≡ Some c) × (test c ≡ true)) → (b : Bool) → test x ≡ b
        → (n : ℕ) → n < cond b (1 + prefix_len test xs) 0 → (c : ℕ) × (slice_get (x ∷ xs) n ≡ Some c) × (test c ≡ true)
    by more true e zero less = (x, refl, e)
    by more true e (suc n) less = more n (omega (arith, less))
    by more false e n less = absurd (omega (arith, less))

pub slice_get-behind : (p n : ℕ) (xs : List ℕ) → slice_get (drop p xs) n ≡ slice_get xs (p + n)
slice_get-behind zero n xs = ap (slice_get xs) (let e : n ≡ 0 + n = omega arith in e)
slice_get-behind (suc p) n [] = refl
slice_get-behind (suc p) n (x ∷ xs) = slice_get-behind p n xs ∙ ap (slice_get (x ∷ xs)) (let e : suc (p + n) ≡ suc p + n = omega arith in e)

pub inside-of : (xs : List ℕ) (n c : ℕ) → slice_get xs n ≡ Some c → n < length xs
inside-of [] n c e = cc
inside-of (x ∷ xs) zero c e = omega arith
inside-of (x ∷ xs) (suc n) c e = let more = inside-of xs n c e in omega (arith, more)

module _ (e : Encoding) (key : ℕ → ℕ) (program : Program) (text : Text) (tables : ℕ → AllowedNextKeys) (units : HasUnitsForTables e text) (all : AreCovered e key program tables)
    (place : ℕ) (s : State) where
  -- If the table behind the loop excludes the units at its exits, the exits find nothing.
  pub places-excluded : (least count : ℕ)
      → ((n : ℕ) → least ≤ n → n < least + count → table_allows_key_or_end (tables (s.ip + 2)) (unit_key_at e key text (offset text (place + n))) ≡ false)
      → StatesAfterCharsFindNothing program text rightwards place s least count
  places-excluded least count excludes = λ n le less. covered-nothing e key program text tables units all (behind text rightwards place s n) (excludes n le less)

  -- Exits before accepted characters find nothing if the table behind the loop excludes these.
  pub run-excluded : (test : ℕ → Bool) → ((c : ℕ) → is_character_in_encoding e c ≡ true → test c ≡ true → table_allows_key_or_end (tables (s.ip + 2)) (first_unit_key e key c) ≡ false)
      → (least count : ℕ) → least + count ≤ prefix_len test (nearest_first text rightwards place) → StatesAfterCharsFindNothing program text rightwards place s least count
  run-excluded test disjoint least count within = places-excluded least count excludes
    where
      excludes : (n : ℕ) → least ≤ n → n < least + count → table_allows_key_or_end (tables (s.ip + 2)) (unit_key_at e key text (offset text (place + n))) ≡ false
      excludes n le less =
          let one = one-of-run test (drop place text.characters) n (omega (arith, less, within)) in
          let c = one.0 in
          let here : slice_get text.characters (place + n) ≡ Some one.0 = sym (slice_get-behind place n text.characters) ∙ one.1 in
          let inside = inside-of text.characters (place + n) one.0 here in
          let at = place_at-offset text (place + n) units.is_text (omega (arith, inside)) in
          ap (table_allows_key_or_end (tables (s.ip + 2))) (seen-next e key text units (offset text (place + n)) (place + n) at (Some one.0) here)
          ∙ disjoint one.0 (passes-one (is_character_in_encoding e) text.characters (place + n) one.0 units.characters here) one.2
