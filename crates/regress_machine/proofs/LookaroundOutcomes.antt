-- The code of a lookaround finds the outcomes of that node.
use Rattle.std.proofs.Common.{◌≡◌, ℕ, ◌+◌, ◌≤◌, List, [], ◌∷◌, ◌++◌, length, map, Option, Some, None, Bool, true, false, refl, ap, ◌∙◌, sym, arith, append-nil}
use Rattle.std.specs.Prelude.{if◌then◌else◌}
use Rattle.regex_meaning.specs.Tree.{Lookaround, Node, lookaround, group_ids}
use Rattle.regex_meaning.specs.Text.{Text, Direction, rightwards, leftwards}
use Rattle.regex_meaning.specs.CodeUnitOffsets.{HasRisingPlaceOffsets}
use Rattle.regex_meaning.specs.Outcomes.{Groups, Outcome, lookaround_outcomes, direction_of}
use Rattle.regex_meaning.specs.OutcomesWithStepTicks.{TickOrOutcome, tick, pair, outcomes_without_ticks, ticks, ticks_to_first, outcomes_replaced_by_lists, ticks_before_outcomes, ticked}
use Rattle.regex_meaning.specs.CompilationRelation.{Program, Counters, counters_after_insn, IsCode, Goal, Lookahead, Lookbehind, lookaround_insn}
use Rattle.regex_meaning.proofs.OutcomeDirectionLemmas.{IsAtOrAheadInDirection-refl}
use Rattle.regress_machine.specs.Machine.{LoopData, State, running, asks, state_with_ip, state_at_next_ip, after_lookaround, act_on}
use Rattle.regress_machine.proofs.ThreadYieldLemmas.{Ending, EndIs, first_outcome_among_ticks, Yields, yields_none, yields_same, yields_end, yields_asks}
use Rattle.regress_machine.proofs.UnchangedGroupsAndLoops.{Kept, kept_itself, kept_more, inside_itself}
use Rattle.regress_machine.proofs.NodeCodeOutcomes.{and_then-ticks, state_at, Reached, GoesOn, Enters, here, act_at, Finds}

-- These are the outcomes of a lookaround whose contents have this first outcome.
abbrev looked_first : (negate : Bool) → Option Outcome → ℕ → Groups → List Outcome
looked_first false None place groups = []
looked_first false (Some o) place groups = record { end = place; groups = o.groups } ∷ []
looked_first true None place groups = record { end = place; groups = groups } ∷ []
looked_first true (Some o) place groups = []

looked-pairs : (negate : Bool) (items : List TickOrOutcome) (p : ℕ) (g : Groups) → lookaround_outcomes negate (outcomes_without_ticks items) p g ≡ looked_first negate (first_outcome_among_ticks items) p g
looked-pairs false [] p g = refl
looked-pairs true [] p g = refl
looked-pairs negate (tick ∷ items) p g = looked-pairs negate items p g
looked-pairs false (pair o ∷ items) p g = refl
looked-pairs true (pair o ∷ items) p g = refl

module _ (program : Program) (text : Text) (is_text : HasRisingPlaceOffsets text) where
  -- An end of the contents has the outcome's place and groups and keeps all that is not theirs.
  abbrev Inner : Direction → (ip p : ℕ) → (ids : List ℕ) → (lo hi : ℕ) → Groups → List ℕ → List LoopData → Ending
  Inner d ip p ids lo hi g s ls o t =
      (s' : List ℕ) × ((ls' : List LoopData) × (t ≡ state_at program text is_text ip o.end o.groups s' ls') × Reached program text is_text d p (length g) o × Kept ids lo hi s s' ls ls')

  asks-if : (d : Direction) (backwards negate : Bool) (start_group end_group c : ℕ) (t : State)
      → act_on program text d (Some (if backwards then Lookbehind negate start_group end_group c else Lookahead negate start_group end_group c)) t
      ≡ asks (if backwards then leftwards else rightwards) negate (state_at_next_ip t) (state_with_ip c t)
  asks-if d true negate start_group end_group c t = refl
  asks-if d false negate start_group end_group c t = refl

  resumed_yields : (d inner : Direction) (negate : Bool) (E : Ending) (ip exit : ℕ) (p : ℕ) (ids : List ℕ) (lo hi : ℕ) (g : Groups) (s : List ℕ) (ls : List LoopData) (k : Outcome → List TickOrOutcome)
      → Enters program text is_text p g s ls hi
      → GoesOn program text is_text d E exit p ids lo hi g s ls k
      → (first : Option Outcome) (e : Option State) → EndIs (Inner inner ip p ids lo hi g s ls) first e
      → Yields program text d E (after_lookaround negate (state_at program text is_text exit p g s ls) e) (outcomes_replaced_by_lists (map pair (looked_first negate first p g)) k)
  resumed_yields d inner false E ip exit p ids lo hi g s ls k enters on None e is = rw is (yields_none program text d E)
  resumed_yields d inner true E ip exit p ids lo hi g s ls k enters on None e is =
      let o : Outcome = record { end = p; groups = g } in
      rw is (yields_same program text d E _ (k o) (k o ++ []) (sym (append-nil (k o)))
      (on.at o s ls (here program text is_text d p g enters.inside enters.fit) (kept_itself ids lo hi s ls)))
  resumed_yields d inner true E ip exit p ids lo hi g s ls k enters on (Some o) e is = rw is.1 (yields_none program text d E)
  resumed_yields d inner false E ip exit p ids lo hi g s ls k enters on (Some o) e is =
      let w = state_at program text is_text exit p g s ls in
      let s' = is.2.0 in
      let ls' = is.2.1.0 in
      let r = is.2.1.2 in
      let kept = is.2.1.3 in
      let there : Outcome = record { end = p; groups = o.groups } in
      let states : after_lookaround false w e ≡ running (state_at program text is_text exit p o.groups s' ls') ∷ [] =
      ap (after_lookaround false w) is.1 ∙ ap (λ (t : State). running (record t { ip = w.ip; pos = w.pos }) ∷ []) is.2.1.1 in
      rw states (yields_same program text d E _ (k there) (k there ++ []) (sym (append-nil (k there)))
      (on.at there s' ls' (record { onward = IsAtOrAheadInDirection-refl text d p; inside = enters.inside; same_groups = r.same_groups; fit = r.fit }) kept))

  pub lookaround_finds : (d : Direction) (behind : Bool) (l : Lookaround) (contents : Node) → Finds program text is_text (direction_of l) l.backwards contents
      → Finds program text is_text d behind (lookaround l contents)
  unfolding IsCode ticked
  lookaround_finds d behind l contents find E m n p g s ls k code enters on =
      let j = code.0 in
      let inner = direction_of l in
      let ids = group_ids contents in
      let t = state_at program text is_text m.insn p g s ls in
      let u = state_at program text is_text (m.insn + 1) p g s ls in
      let w = state_at program text is_text n.insn p g s ls in
      let items = ticks_before_outcomes (ticked text contents inner p g) in
      let same_end : j.loop ≡ n.loop = ap (λ (m : Counters). m.loop) code.3.1 in
      let F = Inner inner j.insn p ids m.loop n.loop g s ls in
      let inside : Yields program text inner F (running u ∷ []) items =
      find F (counters_after_insn m) j p g s ls (λ o. tick ∷ pair o ∷ []) code.2
      (record { inside = enters.inside; fit = enters.fit; groups = enters.groups; starts = enters.starts; loops = omega (arith, enters.loops) })
      (record {
        at = λ o s' ls' r kept.
            let v = state_at program text is_text j.insn o.end o.groups s' ls' in
            yields_end program text inner F v o (act_at program text is_text inner v Goal code.3.0)
            (s', (ls', refl, r, kept_more ids ids m.loop j.loop m.loop n.loop s s' ls ls' (inside_itself ids) (let le : m.loop ≤ m.loop = omega arith in le) (let le : j.loop ≤ n.loop = omega arith in le) kept));
      }) in
      yields_same program text d E (running t ∷ []) (tick ∷ (ticks (ticks_to_first items) ++ outcomes_replaced_by_lists (map pair (looked_first l.negate (first_outcome_among_ticks items) p g)) k)) _
      (ap (λ (os : List Outcome). tick ∷ (ticks (ticks_to_first items) ++ outcomes_replaced_by_lists (map pair os) k)) (sym (looked-pairs l.negate items p g))
      ∙ ap (λ (l : List TickOrOutcome). tick ∷ l) (sym (and_then-ticks (ticks_to_first items) (map pair (lookaround_outcomes l.negate (outcomes_without_ticks items) p g)) k)))
      (yields_asks program text d inner E F t u w l.negate items _
      (act_at program text is_text d t (lookaround_insn l n.insn) code.1 ∙ asks-if d l.backwards l.negate l.start_group l.end_group n.insn t) inside
      (λ e is. resumed_yields d inner l.negate E j.insn n.insn p ids m.loop n.loop g s ls k enters on (first_outcome_among_ticks items) e is))
