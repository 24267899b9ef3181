-- Successive iterations of one code unit each may be executed at once if the loop can only
-- continue.
use Rattle.std.proofs.Common.{◌≡◌, ◌<◌, ℕ, zero, suc, ◌+◌, List, [], ◌∷◌, Option, Some, None, Bool, true, false, refl, ap, ◌∙◌, sym, subst, arith, length, slice_get, slice_set}
use Rattle.regex_meaning.specs.Text.{Text, Direction, rightwards, next_character, moved}
use Rattle.regex_meaning.specs.CodeUnitOffsets.{offset, place_at}
use Rattle.regex_meaning.specs.Outcomes.{is_some_and}
use Rattle.regex_meaning.specs.CodeUnits.{Encoding, code_units_of_character}
use Rattle.regex_meaning.specs.CompilationRelation.{Program, LoopFields, EnterLoop, LoopAgain}
use Rattle.regex_meaning.proofs.CodeUnitOffsetsLemmas.{offset-place_at}
use Rattle.regress_machine.specs.Machine.{LoopData, State, running, goes, stuck, with_some, go_if, next_insn_at_place, read_one, act}
use Rattle.regress_machine.specs.ForcedOneUnitLoopIterations.{state_in_iteration, MayIterate, IterationMayRepeat}
use Rattle.regress_machine.specs.ThreadSimulation.{Simulates, FindsNothing}
use Rattle.regress_machine.specs.FirstSetTables.{HasUnitsForTables, is_character_in_encoding, first_unit_key, unit_key_at}
use Rattle.regress_machine.proofs.ThreadSimulationLemmas.{simulates-then, simulates-fewer, simulates-goes}
use Rattle.regress_machine.proofs.LoopHeadSimulation.{again, leave, again-counts, stuck-simulates}
use Rattle.regress_machine.proofs.InsnSimulationLemmas.{loop-inside}
use Rattle.regress_machine.proofs.FirstSetTableLemmas.{seen-next}
use Rattle.regress_machine.proofs.FirstUnitsOfCharacters.{passes-one, one-unit-on}

-- ---- Lists in which an element is replaced

pub set-twice : {X : Type 0} (xs : List X) (i : ℕ) (x y : X) → slice_set (slice_set xs i x) i y ≡ slice_set xs i y
set-twice [] i x y = refl
set-twice (z ∷ xs) zero x y = refl
set-twice (z ∷ xs) (suc i) x y = ap (λ l. z ∷ l) (set-twice xs i x y)

set-there : {X : Type 0} (xs : List X) (i : ℕ) (x old : X) → slice_get xs i ≡ Some old → slice_get (slice_set xs i x) i ≡ Some x
set-there [] i x old e = cc
set-there (y ∷ xs) zero x old e = refl
set-there (y ∷ xs) (suc i) x old e = set-there xs i x old e

-- ---- One character of one unit

-- A state with key `k` next is stuck, or reads the next character, which has that key.
pub data ReadsNext (e : Encoding) (key : ℕ → ℕ) (program : Program) (text : Text) (s : State) (k : ℕ) : Type 0 where
  cannot : act program text rightwards s ≡ stuck → ReadsNext e key program text s k
  reads : (p c : ℕ) → place_at text s.pos ≡ Some p → next_character text rightwards p ≡ Some c → is_character_in_encoding e c ≡ true → first_unit_key e key c ≡ Some k
      → act program text rightwards s ≡ goes (running (next_insn_at_place text (moved text rightwards 1 p) s) ∷ []) → ReadsNext e key program text s k

pub reads-next : (e : Encoding) (key : ℕ → ℕ) (program : Program) (text : Text) → HasUnitsForTables e text → (s : State) (test : ℕ → Bool) (k : ℕ)
    → act program text rightwards s ≡ read_one text test rightwards s → unit_key_at e key text s.pos ≡ Some k
    → ((c : ℕ) → is_character_in_encoding e c ≡ true → first_unit_key e key c ≡ Some k → test c ≡ true) → ReadsNext e key program text s k
reads-next e key program text units s test k acts seen accepted = at_place (place_at text s.pos) refl
  where
    at_place : (o : Option ℕ) → place_at text s.pos ≡ o → ReadsNext e key program text s k
    at_place None here =
        cannot (acts ∙ ap (λ o. with_some o (λ p. go_if (is_some_and (next_character text rightwards p) test) (next_insn_at_place text (moved text rightwards 1 p) s))) here)
    at_place (Some p) here = by (next_character text rightwards p) refl
      where
        by : (o : Option ℕ) → next_character text rightwards p ≡ o → ReadsNext e key program text s k
        by None is = let never : Some k ≡ None = sym seen ∙ seen-next e key text units s.pos p here None is in cc
        by (Some c) is =
            let first : first_unit_key e key c ≡ Some k = sym (seen-next e key text units s.pos p here (Some c) is) ∙ seen in
            let character = passes-one (is_character_in_encoding e) text.characters p c units.characters is in
            let passes : is_some_and (next_character text rightwards p) test ≡ true = ap (λ o. is_some_and o test) is ∙ accepted c character first in
            reads p c here is character first
            (acts ∙ ap (λ o. with_some o (λ p. go_if (is_some_and (next_character text rightwards p) test) (next_insn_at_place text (moved text rightwards 1 p) s))) here
            ∙ ap (λ b. go_if b (next_insn_at_place text (moved text rightwards 1 p) s)) passes)

-- If each character with the key has one unit, the state that reads one moves on by one unit.
pub reads-unit : (e : Encoding) (key : ℕ → ℕ) (program : Program) (text : Text) → HasUnitsForTables e text → (s : State) (k : ℕ) → ReadsNext e key program text s k
    → ((c : ℕ) → is_character_in_encoding e c ≡ true → first_unit_key e key c ≡ Some k → length (code_units_of_character e c) ≡ 1)
    → Simulates program text false rightwards 1 (running (record s { ip = s.ip + 1; pos = s.pos + 1 }) ∷ []) (running s ∷ [])
reads-unit e key program text units s k (cannot is) one = stuck-simulates program text rightwards false 1 _ s is
reads-unit e key program text units s k (reads p c here is character first acts) one =
    let from = offset-place_at text s.pos p units.is_text here in
    let to : offset text (moved text rightwards 1 p) ≡ s.pos + 1 =
    one-unit-on e text units.spelled p c is (one c character first) ∙ ap (λ n. n + 1) from.0 in
    simulates-goes program text false rightwards s _ (acts ∙ ap (λ pos. goes (running (record s { ip = s.ip + 1; pos = pos }) ∷ [])) to)

-- ---- One iteration

module _ (program : Program) (text : Text) (d : Direction) (s : State) where
  -- If leaving finds nothing and the body reads a unit, the loop goes on to its next end.
  pub round : (begin : ℕ) (f : LoopFields) → slice_get program.insns s.ip ≡ Some (LoopAgain begin) → slice_get program.insns begin ≡ Some (EnterLoop f)
      → (e : LoopData) → slice_get s.loops f.loop_id ≡ Some e → MayIterate f e s.pos
      → FindsNothing program text d (running (leave f begin (e.iters + 1) s))
      → Simulates program text false d 0 (running (record (again f begin (e.iters + 1) s) { ip = s.ip; pos = s.pos + 1 }) ∷ []) (running (again f begin (e.iters + 1) s) ∷ [])
      → Simulates program text false d 1 (running (state_in_iteration s f.loop_id (e.iters + 1) s.pos (s.pos + 1)) ∷ []) (running s ∷ [])
  round begin f here there e known may none body =
      let more = may.more in
      let turn = again-counts program text d s f begin e here there known (omega (arith, more)) may.moves in
      simulates-fewer program text d 1 (1 + 0) _ _ (omega arith)
      (simulates-then program text false d 1 0 _ _ _ (loop-inside program text d s f begin (e.iters + 1) turn more may.enough none) body)

  -- ---- Several iterations

  module _ (begin : ℕ) (f : LoopFields) (here : slice_get program.insns s.ip ≡ Some (LoopAgain begin)) (there : slice_get program.insns begin ≡ Some (EnterLoop f))
      (e : LoopData) (known : slice_get s.loops f.loop_id ≡ Some e) where
    -- This is the state behind `n + 1` more iterations of one unit each.
    abbrev behind : ℕ → State
    behind n = state_in_iteration s f.loop_id (e.iters + suc n) (s.pos + n) (s.pos + suc n)

    abbrev data_behind : ℕ → LoopData
    data_behind n = record { iters = e.iters + suc n; entry = s.pos + n }

    once-more : (n : ℕ) → MayIterate f (data_behind n) (s.pos + suc n) → IterationMayRepeat program text d (behind n)
        → Simulates program text false d 1 (running (behind (suc n)) ∷ []) (running (behind n) ∷ [])
    once-more n may goes_round =
        let to = goes_round begin f here there (data_behind n) (set-there s.loops f.loop_id (data_behind n) e known) may in
        let iters : e.iters + suc n + 1 ≡ e.iters + suc (suc n) = omega arith in
        let at : s.pos + suc n + 1 ≡ s.pos + suc (suc n) = omega arith in
        subst (λ at. Simulates program text false d 1 (running (state_in_iteration s f.loop_id (e.iters + suc (suc n)) (s.pos + suc n) at) ∷ []) (running (behind n) ∷ [])) at
        (subst (λ i. Simulates program text false d 1 (running (state_in_iteration s f.loop_id i (s.pos + suc n) (s.pos + suc n + 1)) ∷ []) (running (behind n) ∷ [])) iters
        (subst (λ ls. Simulates program text false d 1 (running (record s { pos = s.pos + suc n + 1; loops = ls }) ∷ []) (running (behind n) ∷ []))
        (set-twice s.loops f.loop_id (data_behind n) (record { iters = e.iters + suc n + 1; entry = s.pos + suc n })) to))

    -- The state behind `n + 1` iterations of one unit each simulates the state before them.
    pub rounds : (n : ℕ) → MayIterate f e s.pos → e.iters + suc n < f.max_iters
        → ((i : ℕ) → i < suc n → (t : State) → t.ip ≡ s.ip → t.pos ≡ s.pos + i → IterationMayRepeat program text d t)
        → Simulates program text false d 1 (running (behind n) ∷ []) (running s ∷ [])
    rounds zero may more each =
        let to = each 0 (omega arith) s refl (omega arith) begin f here there e known may in
        let iters : e.iters + 1 ≡ e.iters + suc zero = omega arith in
        let at : s.pos + 1 ≡ s.pos + suc zero = omega arith in
        let entry : s.pos ≡ s.pos + zero = omega arith in
        subst (λ at. Simulates program text false d 1 (running (state_in_iteration s f.loop_id (e.iters + suc zero) (s.pos + zero) at) ∷ []) (running s ∷ [])) at
        (subst (λ i. Simulates program text false d 1 (running (state_in_iteration s f.loop_id i (s.pos + zero) (s.pos + 1)) ∷ []) (running s ∷ [])) iters
        (subst (λ at. Simulates program text false d 1 (running (state_in_iteration s f.loop_id (e.iters + 1) at (s.pos + 1)) ∷ []) (running s ∷ [])) entry to))
    rounds (suc n) may more each =
        let enough = may.enough in
        let so_far = rounds n may (omega (arith, more)) (λ i less t state_with_ip at_pos. each i (omega (arith, less)) t state_with_ip at_pos) in
        let next = once-more n
        (record { more = omega (arith, more); enough = omega (arith, enough); moves = λ same. absurd (omega (arith, same)) })
        (each (suc n) (omega arith) (behind n) refl refl) in
        simulates-fewer program text d 1 (1 + 1) _ _ (omega arith) (simulates-then program text false d 1 1 _ _ _ so_far next)
