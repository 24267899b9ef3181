-- The required prefix of an instruction follows from those of its successors, and excludes matches.
use Rattle.std.proofs.Common.{◌≡◌, ◌<◌, ◌≤◌, ℕ, zero, suc, ◌+◌, ◌-◌, min, List, [], ◌∷◌, Option, Some, None, Bool, true, false, not, ◌||◌, refl, ap, ◌∙◌, sym, subst, arith, slice_get, length, drop}
use Rattle.std.specs.Prelude.{◌==◌}
use Rattle.std.specs.List.{prefix_len}
use Rattle.std.proofs.lemmas.Bool.{eq-eqb, eqb-true, cases_lt}
use mathlib.Core.Logic.{◌⊎◌, inl, inr}
use Rattle.regex_meaning.specs.Text.{Text, rightwards, next_character, moved}
use Rattle.regex_meaning.specs.CodeUnitOffsets.{offset, place_at}
use Rattle.regex_meaning.specs.Outcomes.{is_some_and}
use Rattle.regex_meaning.specs.OutcomesWithStepTicks.{nearest_first}
use Rattle.regex_meaning.specs.CodeUnits.{Encoding, code_units_of_character}
use Rattle.regex_meaning.specs.CompilationRelation.{Program, Insn, Loop1CharBody}
use Rattle.regex_meaning.proofs.EachElementLemmas.{Each-map}
use Rattle.regex_meaning.proofs.CodeUnitOffsetsLemmas.{offset-place_at, place_at-offset}
use Rattle.regex_meaning.proofs.BoolLemmas.{false-by-implication}
use Rattle.regress_machine.specs.Machine.{State, running, Next, with_some, go_if, scan, act, act_on, test_of, next_insn_at_place, read_one, char_loop_states}
use Rattle.regress_machine.specs.SearchFindsFirstOutcomeAtPlace.{state_before_first_insn}
use Rattle.regress_machine.specs.ThreadSimulation.{FindsNothing}
use Rattle.regress_machine.specs.FailingInsnsAtOffset.{insn_may_find}
use Rattle.regress_machine.specs.FirstSetTables.{is_character_in_encoding, HasUnitsForTables, first_unit_key, unit_key_at}
use Rattle.regress_machine.specs.CharLoopExitStatesByPreference.{behind, StatesAfterCharsFindNothing}
use Rattle.regress_machine.specs.RequiredPrefixes.{AllowedUnitsAhead, unit_is_allowed, IsRequiredPrefix, RequiredPrefixesExclude}
use Rattle.regress_machine.proofs.FailureByStepInduction.{NothingBelow, NothingNext, EachNothing, turn-nothing, nothing-go, nothing-goes, nothing-in_turn, nothing-below-none, finds-nothing}
use Rattle.regress_machine.proofs.FailingInsnLemmas.{insn-nothing}
use Rattle.regress_machine.proofs.ExcludedCharLoopExits.{one-of-run, slice_get-behind, inside-of}
use Rattle.regress_machine.proofs.RunningAndWaitingThreads.{EachFindsNothing}
use Rattle.regress_machine.proofs.CharLoopExitStateLemmas.{most-excluded, fewest-excluded}
use Rattle.regress_machine.proofs.ExcludedMatchStartLemmas.{nothing-no-match}
use Rattle.regress_machine.proofs.FirstSetTableLemmas.{seen-next}
use Rattle.regress_machine.proofs.FirstUnitsOfCharacters.{passes-one, one-unit-on}

-- A state that finds nothing finds nothing in searches of fewer than any number of steps.
pub nothing-below : (program : Program) (text : Text) (n : ℕ) (s : State) → FindsNothing program text rightwards (running s)
    → NothingBelow program text n rightwards 1 (running s ∷ [])
nothing-below program text n s h = record { within = λ turns vs f few q. h.within turns vs f q }

module _ (program : Program) (text : Text) (s : State) where
  -- A state finds nothing if its step leaves only what finds nothing.
  pub nothing-turned : ((n : ℕ) → NothingNext program text n rightwards (act program text rightwards s)) → FindsNothing program text rightwards (running s)
  nothing-turned next = finds-nothing program text rightwards (running s) by
    where
      by : (n : ℕ) → NothingBelow program text n rightwards 1 (running s ∷ [])
      by zero = nothing-below-none program text rightwards s
      by (suc n) = turn-nothing program text n rightwards s (act program text rightwards s) refl (next n)

same-number : (n : ℕ) → (n == n) ≡ true
same-number n = eq-eqb n n refl

module _ (e : Encoding) (key : ℕ → ℕ) (program : Program) where
  abbrev Prefix : (ip len : ℕ) → AllowedUnitsAhead → Type 0
  Prefix ip len allowed = IsRequiredPrefix e key program ip len allowed

  -- Each instruction has a required prefix of no units.
  pub prefix-none : (ip : ℕ) (allowed : AllowedUnitsAhead) → Prefix ip 0 allowed
  prefix-none ip allowed = record { excludes = λ text units s is ahead less bar. absurd (omega (arith, less)) }

  -- A shorter prefix that allows at least as much is a required prefix, too.
  pub prefix-less : (ip len most : ℕ) (a b : AllowedUnitsAhead) → Prefix ip most a → len ≤ most → ((ahead k : ℕ) → ahead < len → a ahead k ≡ true → b ahead k ≡ true) → Prefix ip len b
  prefix-less ip len most a b prefix le within = record {
    excludes = λ text units s is ahead less bar.
        prefix.excludes text units s is ahead (omega (arith, less, le)) (by ahead less (unit_key_at e key text (s.pos + ahead)) bar);
  }
    where
      by : (ahead : ℕ) → ahead < len → (o : Option ℕ) → unit_is_allowed b ahead o ≡ false → unit_is_allowed a ahead o ≡ false
      by ahead less None bar = refl
      by ahead less (Some k) bar = false-by-implication (a ahead k) (b ahead k) (within ahead k less) bar

  -- ---- Instructions that read no character

  -- An instruction has a prefix if it leads only to instructions that have it.
  prefix-account : (ip len : ℕ) (allowed : AllowedUnitsAhead) (may : ℕ → Bool) → ((to : ℕ) → may to ≡ false → Prefix to len allowed)
      → ((text : Text) (at : ℕ) → insn_may_find program text at may (slice_get program.insns ip) ip ≡ false) → Prefix ip len allowed
  prefix-account ip len allowed may prefixes none = record {
    excludes = λ text units s is ahead less bar.
        finds-nothing program text rightwards (running s) (by text units s is ahead less bar);
  }
    where
      by : (text : Text) → HasUnitsForTables e text → (s : State) → s.ip ≡ ip → (ahead : ℕ) → ahead < len → unit_is_allowed allowed ahead (unit_key_at e key text (s.pos + ahead)) ≡ false
          → (n : ℕ) → NothingBelow program text n rightwards 1 (running s ∷ [])
      by text units s is ahead less bar zero = nothing-below-none program text rightwards s
      by text units s is ahead less bar (suc n) =
          insn-nothing program text units.is_text may n s
          (λ u there never. nothing-below program text n u
          ((prefixes u.ip never).excludes text units u refl ahead less (ap (λ at. unit_is_allowed allowed ahead (unit_key_at e key text (at + ahead))) there ∙ bar)))
          (let P : ℕ → Type 0 = λ i. insn_may_find program text s.pos may (slice_get program.insns i) i ≡ false in subst P (sym is) (none text s.pos))

  -- An instruction that can only lead to another one at its offset has the prefix of that one.
  pub prefix-on : (ip to len : ℕ) (allowed : AllowedUnitsAhead) → Prefix to len allowed
      → ((may : ℕ → Bool) → may to ≡ false → (text : Text) (at : ℕ) → insn_may_find program text at may (slice_get program.insns ip) ip ≡ false) → Prefix ip len allowed
  prefix-on ip to len allowed prefix leads =
      prefix-account ip len allowed (λ i. not (i == to)) (λ i never. let P : ℕ → Type 0 = λ i. Prefix i len allowed in subst P (sym (only i to never)) prefix)
      (leads (λ i. not (i == to)) (ap not (same-number to)))
    where
      not-not : (b : Bool) → not b ≡ false → b ≡ true
      not-not true h = refl
      not-not false h = cc

      only : (i to : ℕ) → not (i == to) ≡ false → i ≡ to
      only i to never = eqb-true i to (not-not (i == to) never)

  -- An instruction that leads to either of two others has a prefix that both of these have.
  pub prefix-either : (ip a b len : ℕ) (allowed : AllowedUnitsAhead) → Prefix a len allowed → Prefix b len allowed
      → ((may : ℕ → Bool) → may a ≡ false → may b ≡ false → (text : Text) (at : ℕ) → insn_may_find program text at may (slice_get program.insns ip) ip ≡ false) → Prefix ip len allowed
  prefix-either ip a b len allowed first second leads =
      prefix-account ip len allowed may (λ i never. by i (i == a) refl (i == b) refl never)
      (leads may (ap (λ x. not (x || a == b)) (same-number a)) (ap (λ x. not (b == a || x)) (same-number b) ∙ ap not (or-true (b == a))))
    where
      may : ℕ → Bool
      may i = not (i == a || i == b)

      or-true : (x : Bool) → (x || true) ≡ true
      or-true true = refl
      or-true false = refl

      by : (i : ℕ) (x : Bool) → (i == a) ≡ x → (y : Bool) → (i == b) ≡ y → not (i == a || i == b) ≡ false → Prefix i len allowed
      by i true p y q never = let P : ℕ → Type 0 = λ i. Prefix i len allowed in subst P (sym (eqb-true i a p)) first
      by i false p true q never = let P : ℕ → Type 0 = λ i. Prefix i len allowed in subst P (sym (eqb-true i b q)) second
      by i false p false q never = let never2 : not (false || false) ≡ false = ap (λ x. not (x || false)) (sym p) ∙ ap (λ y. not (i == a || y)) (sym q) ∙ never in cc

-- ---- Characters of one unit

-- A test accepts single-unit characters alone, and their keys are allowed at `count` units.
pub record AreUnits (e : Encoding) (key : ℕ → ℕ) (test : ℕ → Bool) (count : ℕ) (allowed : AllowedUnitsAhead) : Type 0 where
  pub keys : (c : ℕ) → is_character_in_encoding e c ≡ true → test c ≡ true → (ahead : ℕ) → ahead < count → unit_is_allowed allowed ahead (first_unit_key e key c) ≡ true
  pub single : (c : ℕ) → is_character_in_encoding e c ≡ true → test c ≡ true → length (code_units_of_character e c) ≡ 1

module _ (e : Encoding) (key : ℕ → ℕ) (text : Text) (units : HasUnitsForTables e text) (test : ℕ → Bool) (count : ℕ) (allowed : AllowedUnitsAhead) (are : AreUnits e key test count allowed)
    (p c : ℕ) (there : slice_get text.characters p ≡ Some c) (accepted : test c ≡ true) where
  character : is_character_in_encoding e c ≡ true
  character = passes-one (is_character_in_encoding e) text.characters p c units.characters there

  -- The next place is one unit on.
  next-unit : offset text (p + 1) ≡ offset text p + 1
  next-unit = one-unit-on e text units.spelled p c there (are.single c character accepted)

  -- The unit at the place of an accepted character is allowed.
  allowed-there : (at : ℕ) → place_at text at ≡ Some p → (ahead : ℕ) → ahead < count → unit_is_allowed allowed ahead (unit_key_at e key text at) ≡ true
  allowed-there at here ahead less = ap (unit_is_allowed allowed ahead) (seen-next e key text units at p here (Some c) there) ∙ are.keys c character accepted ahead less

true-false : {A : Type 0} (b : Bool) → b ≡ true → b ≡ false → A
true-false true h k = cc
true-false false h k = cc

module _ (e : Encoding) (key : ℕ → ℕ) (program : Program) where
  -- ---- Instructions that read one character

  -- The instruction reads one character that its test accepts.
  abbrev pub Reads : Insn → Type 0
  Reads insn = (text : Text) (s : State)
      → act_on program text rightwards (Some insn) s ≡ with_some (test_of program (Some insn)) (λ test. read_one text test rightwards s)

  module _ (ip len : ℕ) (insn : Insn) (before after : AllowedUnitsAhead) (there : slice_get program.insns ip ≡ Some insn) (reads : Reads insn)
      (are : (test : ℕ → Bool) → test_of program (Some insn) ≡ Some test → AreUnits e key test 1 before)
      (on : (ahead k : ℕ) → before (ahead + 1) k ≡ after ahead k) (prefix : IsRequiredPrefix e key program (ip + 1) len after) where
    nothing-read : (text : Text) → HasUnitsForTables e text → (s : State) → s.ip ≡ ip → (ahead : ℕ) → ahead < 1 + len
        → unit_is_allowed before ahead (unit_key_at e key text (s.pos + ahead)) ≡ false → (test : ℕ → Bool) → test_of program (Some insn) ≡ Some test
        → (n : ℕ) → NothingNext program text n rightwards (read_one text test rightwards s)
    nothing-read text units s is ahead less bar test e_test n = by (place_at text s.pos) refl
      where
        nothing-behind : (p c : ℕ) → place_at text s.pos ≡ Some p → slice_get text.characters p ≡ Some c → test c ≡ true
            → NothingBelow program text n rightwards 1 (running (next_insn_at_place text (moved text rightwards 1 p) s) ∷ [])
        nothing-behind p c here next accepted = at ahead less bar
          where
            units_of : AreUnits e key test 1 before
            units_of = are test e_test

            moved_on : offset text (p + 1) ≡ s.pos + 1
            moved_on = next-unit e key text units test 1 before units_of p c next accepted ∙ ap (λ n. n + 1) (offset-place_at text s.pos p units.is_text here).0

            same_key : (before_key after_key : AllowedUnitsAhead) (ahead : ℕ) → ((k : ℕ) → before_key (ahead + 1) k ≡ after_key ahead k) → (o : Option ℕ)
                → unit_is_allowed before_key (ahead + 1) o ≡ unit_is_allowed after_key ahead o
            same_key x y ahead f None = refl
            same_key x y ahead f (Some k) = f k

            at : (ahead : ℕ) → ahead < 1 + len → unit_is_allowed before ahead (unit_key_at e key text (s.pos + ahead)) ≡ false
                → NothingBelow program text n rightwards 1 (running (next_insn_at_place text (moved text rightwards 1 p) s) ∷ [])
            at zero less bar =
                true-false (unit_is_allowed before 0 (unit_key_at e key text s.pos))
                (allowed-there e key text units test 1 before units_of p c next accepted s.pos here 0 (omega arith))
                (ap (λ at. unit_is_allowed before 0 (unit_key_at e key text at)) (let z : s.pos ≡ s.pos + 0 = omega arith in z) ∙ bar)
            at (suc ahead) less bar =
                nothing-below program text n (next_insn_at_place text (moved text rightwards 1 p) s)
                (prefix.excludes text units (next_insn_at_place text (moved text rightwards 1 p) s) (ap (λ i. i + 1) is) ahead (omega (arith, less))
                (ap (λ at. unit_is_allowed after ahead (unit_key_at e key text (at + ahead))) moved_on
                ∙ sym (same_key before after ahead (on ahead) (unit_key_at e key text (s.pos + 1 + ahead)))
                ∙ ap (λ j. unit_is_allowed before j (unit_key_at e key text (s.pos + 1 + ahead))) (let z : ahead + 1 ≡ suc ahead = omega arith in z)
                ∙ ap (λ at. unit_is_allowed before (suc ahead) (unit_key_at e key text at)) (let z : s.pos + 1 + ahead ≡ s.pos + suc ahead = omega arith in z) ∙ bar))

        by : (o : Option ℕ) → place_at text s.pos ≡ o
            → NothingNext program text n rightwards (with_some o (λ p. go_if (is_some_and (next_character text rightwards p) test) (next_insn_at_place text (moved text rightwards 1 p) s)))
        by None here = tt
        by (Some p) here = next (slice_get text.characters p) refl
          where
            next : (o : Option ℕ) → slice_get text.characters p ≡ o
                → NothingNext program text n rightwards (go_if (is_some_and o test) (next_insn_at_place text (moved text rightwards 1 p) s))
            next None is = nothing-goes program text n rightwards
            next (Some c) is = accepted (test c) refl
              where
                accepted : (b : Bool) → test c ≡ b → NothingNext program text n rightwards (go_if b (next_insn_at_place text (moved text rightwards 1 p) s))
                accepted true t = nothing-go program text n rightwards (next_insn_at_place text (moved text rightwards 1 p) s) (nothing-behind p c here is t)
                accepted false t = nothing-goes program text n rightwards

    -- A read has the prefix of its own unit, followed by that of the next instruction.
    pub prefix-reads : IsRequiredPrefix e key program ip (1 + len) before
    prefix-reads = record {
      excludes = λ text units s is ahead less bar.
          nothing-turned program text s (λ n.
          let P : Next → Type 0 = λ x. NothingNext program text n rightwards x in
          subst P (sym (ap (λ i. act_on program text rightwards (slice_get program.insns i) s) is ∙ ap (λ o. act_on program text rightwards o s) there ∙ reads text s))
          (by text units s is ahead less bar n (test_of program (Some insn)) refl));
    }
      where
        by : (text : Text) → HasUnitsForTables e text → (s : State) → s.ip ≡ ip → (ahead : ℕ) → ahead < 1 + len
            → unit_is_allowed before ahead (unit_key_at e key text (s.pos + ahead)) ≡ false → (n : ℕ)
            → (o : Option (ℕ → Bool)) → test_of program (Some insn) ≡ o → NothingNext program text n rightwards (with_some o (λ test. read_one text test rightwards s))
        by text units s is ahead less bar n None t = tt
        by text units s is ahead less bar n (Some test) t = nothing-read text units s is ahead less bar test t n

  -- ---- Char loops

  module _ (ip len least most : ℕ) (greedy : Bool) (before after : AllowedUnitsAhead) (there : slice_get program.insns ip ≡ Some (Loop1CharBody least most greedy))
      (are : (test : ℕ → Bool) → test_of program (slice_get program.insns (ip + 1)) ≡ Some test → AreUnits e key test least before)
      (on : (ahead k : ℕ) → before (least + ahead) k ≡ after ahead k) (exactly : (least ≡ most) ⊎ (len ≡ 0)) (prefix : IsRequiredPrefix e key program (ip + 2) len after) where
    module _ (text : Text) (units : HasUnitsForTables e text) (s : State) (is : s.ip ≡ ip) (ahead : ℕ) (less : ahead < least + len)
        (bar : unit_is_allowed before ahead (unit_key_at e key text (s.pos + ahead)) ≡ false) (test : ℕ → Bool) (units_of : AreUnits e key test least before)
        (p : ℕ) (here : place_at text s.pos ≡ Some p) where
      abbrev accepted : ℕ
      accepted = prefix_len test (nearest_first text rightwards p)

      one-there : (i : ℕ) → i < accepted → (c : ℕ) × (slice_get text.characters (p + i) ≡ Some c) × (test c ≡ true)
      one-there i less =
          let one = one-of-run test (drop p text.characters) i less in (one.0, sym (slice_get-behind p i text.characters) ∙ one.1, one.2)

      single-run : (i : ℕ) → i ≤ accepted → offset text (p + i) ≡ s.pos + i
      single-run zero le =
          ap (offset text) (let z : p + 0 ≡ p = omega arith in z) ∙ (offset-place_at text s.pos p units.is_text here).0 ∙ (let z : s.pos ≡ s.pos + 0 = omega arith in z)
      single-run (suc i) le =
          let one = one-there i (omega (arith, le)) in
          ap (offset text) (let z : p + suc i ≡ p + i + 1 = omega arith in z)
          ∙ next-unit e key text units test least before units_of (p + i) one.0 one.1 one.2
          ∙ ap (λ n. n + 1) (single-run i (omega (arith, le))) ∙ (let z : s.pos + i + 1 ≡ s.pos + suc i = omega arith in z)

      -- If `ahead` is below the minimum, at most `ahead` characters are accepted.
      few : ahead < least → accepted ≤ ahead
      few early = elim (cases_lt ahead accepted) [
        | inl more ↦
            let one = one-there ahead more in
            let inside = inside-of text.characters (p + ahead) one.0 one.1 in
            let at = place_at-offset text (p + ahead) units.is_text (omega (arith, inside)) in
            true-false (unit_is_allowed before ahead (unit_key_at e key text (s.pos + ahead)))
            (ap (λ at. unit_is_allowed before ahead (unit_key_at e key text at)) (sym (single-run ahead (omega (arith, more))))
            ∙ allowed-there e key text units test least before units_of (p + ahead) one.0 one.1 one.2 (offset text (p + ahead)) at ahead early) bar
        | inr none ↦ none
      ]

      same-stand : (i : ℕ) (o : Option ℕ) → unit_is_allowed before (least + i) o ≡ unit_is_allowed after i o
      same-stand i None = refl
      same-stand i (Some k) = on i k

      run-behind : StatesAfterCharsFindNothing program text rightwards p s least (min most accepted + 1 - least)
      run-behind n le more = elim (cases_lt ahead least) [
        | inl early ↦ let none = few early in absurd (omega (arith, le, more, none, early))
        | inr late ↦
            let exact : n ≡ least = by exactly late in
            let where_to : offset text (p + n) ≡ s.pos + n = single-run n (omega (arith, le, more)) in
            prefix.excludes text units (behind text rightwards p s n) (ap (λ i. i + 2) is) (ahead - least) (omega (arith, less, late))
            (ap (λ at. unit_is_allowed after (ahead - least) (unit_key_at e key text (at + (ahead - least)))) where_to
            ∙ sym (same-stand (ahead - least) (unit_key_at e key text (s.pos + n + (ahead - least))))
            ∙ ap (λ j. unit_is_allowed before j (unit_key_at e key text (s.pos + n + (ahead - least)))) (let z : least + (ahead - least) ≡ ahead = omega (arith, late) in z)
            ∙ ap (λ at. unit_is_allowed before ahead (unit_key_at e key text at)) (let z : s.pos + n + (ahead - least) ≡ s.pos + ahead = omega (arith, late, exact) in z) ∙ bar)
      ]
        where
          by : (least ≡ most) ⊎ (len ≡ 0) → least ≤ ahead → n ≡ least
          by (inl same) late = omega (arith, le, more, same)
          by (inr none) late = absurd (omega (arith, less, none, late))

      run-each : (n : ℕ) → EachNothing program text n rightwards (char_loop_states text greedy rightwards least (min most accepted) p s)
      run-each n = by greedy
        where
          below : (ss : List State) → EachFindsNothing program text rightwards ss → EachNothing program text n rightwards ss
          below ss each = Each-map (λ u. FindsNothing program text rightwards (running u)) (λ u. NothingBelow program text n rightwards 1 (running u ∷ []))
              (λ u h. nothing-below program text n u h) ss each

          by : (greedy : Bool) → EachNothing program text n rightwards (char_loop_states text greedy rightwards least (min most accepted) p s)
          by true = below _ (most-excluded program text rightwards p s least (min most accepted + 1 - least) run-behind)
          by false = below _ (fewest-excluded program text rightwards p s least (min most accepted + 1 - least) run-behind)

    -- A char loop has the prefix of its fewest characters, followed by that of what is behind it.
    pub prefix-run : IsRequiredPrefix e key program ip (least + len) before
    prefix-run = record {
      excludes = λ text units s is ahead less bar.
          nothing-turned program text s (λ n.
          let P : Next → Type 0 = λ x. NothingNext program text n rightwards x in
          subst P (sym (ap (λ i. act_on program text rightwards (slice_get program.insns i) s) is ∙ ap (λ o. act_on program text rightwards o s) there))
          (by text units s is ahead less bar n (test_of program (slice_get program.insns (s.ip + 1))) (ap (λ i. test_of program (slice_get program.insns (i + 1))) (sym is))));
    }
      where
        by : (text : Text) → HasUnitsForTables e text → (s : State) → s.ip ≡ ip → (ahead : ℕ) → ahead < least + len
            → unit_is_allowed before ahead (unit_key_at e key text (s.pos + ahead)) ≡ false → (n : ℕ)
            → (o : Option (ℕ → Bool)) → test_of program (slice_get program.insns (ip + 1)) ≡ o
            → NothingNext program text n rightwards (with_some o (λ test. with_some (place_at text s.pos) (λ p. scan text least most greedy test rightwards p s)))
        by text units s is ahead less bar n None t = tt
        by text units s is ahead less bar n (Some test) t = at (place_at text s.pos) refl
          where
            at : (o : Option ℕ) → place_at text s.pos ≡ o → NothingNext program text n rightwards (with_some o (λ p. scan text least most greedy test rightwards p s))
            at None here = tt
            at (Some p) here =
                nothing-in_turn program text n rightwards (char_loop_states text greedy rightwards least (min most (prefix_len test (nearest_first text rightwards p))) p s)
                (run-each text units s is ahead less bar test (are test t) p here n)

-- ---- The start of a match

pub prefixes-exclude : RequiredPrefixesExclude
prefixes-exclude e key program tree text len allowed can units prefix place inside ahead less bar =
    nothing-no-match program tree text can place inside (prefix.excludes text units (state_before_first_insn program (offset text place)) refl ahead less bar)
