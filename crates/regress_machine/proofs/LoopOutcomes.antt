-- The code of a loop finds the outcomes of that node, iteration by iteration.
use Rattle.std.proofs.Common.{◌≡◌, ℕ, zero, suc, ◌+◌, ◌-◌, ◌<◌, ◌≤◌, List, [], ◌∷◌, ◌++◌, length, map, Option, Some, None, Bool, true, false, refl, ap, ◌∙◌, sym, subst, arith, append-nil, slice_get}
use Rattle.std.proofs.Common.{slice_set, length-set, lt-ltb, nat_eq, nat_lt, nat_le, eq-eqb, ne_eqb, eqb-true, nltb→le}
use Rattle.std.proofs.lemmas.List.{length-map}
use Rattle.std.proofs.lemmas.Bool.{eqb-false}
use Rattle.std.specs.Prelude.{option_map, not, if◌then◌else◌, ◌&&◌, ◌==◌}
use Rattle.regex_meaning.specs.NumberListHelpers.{numbers_from}
use Rattle.regex_meaning.specs.Laws.{IsAtOrAheadInDirection}
use Rattle.regex_meaning.specs.Tree.{Quantifier, Node, loop, group_ids}
use Rattle.regex_meaning.specs.Text.{Text, Direction, rightwards, leftwards, last_place, characters_ahead}
use Rattle.regex_meaning.specs.CodeUnitOffsets.{HasRisingPlaceOffsets, offset}
use Rattle.regex_meaning.specs.Outcomes.{Groups, Outcome, with_groups_cleared, max_iterations, Repetition, repetition}
use Rattle.regex_meaning.specs.OutcomesWithStepTicks.{TickOrOutcome, tick, pair, ticks, outcomes_replaced_by_lists, ticked_preferred, ticked_bounded_repeat, ticked}
use Rattle.regex_meaning.specs.CompilationRelation.{Program, LoopFields, Insn, Counters, counters_after_insn, HasInsnsBetween, IsCode, ResetCaptureGroup, EnterLoop, LoopAgain}
use Rattle.regex_meaning.proofs.CodeUnitOffsetsLemmas.{offset-injective}
use Rattle.regress_machine.specs.Machine.{LoopData, State, Thread, running, waiting, goes, go, with_some, only_if, first_running_and_others_waiting, choice_in_order_of_greediness}
use Rattle.regress_machine.specs.Machine.{iterate_or_leave_at_loop_head, effect_at_iteration_end, loop_again_effect, act}
use Rattle.regress_machine.proofs.ThreadYieldLemmas.{Ending, Yields, yields_none, yields_append, yields_same, yields_turn, yields_wait}
use Rattle.regress_machine.proofs.UnchangedGroupsAndLoops.{Kept, kept_itself, kept_more, kept_both, inside_itself, slice_get-set_same, slice_get-set_other}
use Rattle.regress_machine.proofs.NodeCodeOutcomes.{over, state_at, RangeFits, Fit, Reached, GoesOn, Enters, here, reached_both, act_at, Finds, at_mark, Rising, and_then-append, and_then-and_then}
use Rattle.regress_machine.proofs.NodeCodeOutcomes.{and_then-ticks}
use Rattle.regress_machine.proofs.GroupAndAssertionOutcomes.{map-set}
use Rattle.regex_meaning.proofs.EachElementLemmas.{Each-set}

-- ---- Items

and_then-ways : (a b greedy : Bool) (again leave : List TickOrOutcome) (k : Outcome → List TickOrOutcome)
    → outcomes_replaced_by_lists (ticked_preferred a b greedy again leave) k ≡ ticked_preferred a b greedy (outcomes_replaced_by_lists again k) (outcomes_replaced_by_lists leave k)
and_then-ways false false greedy again leave k = refl
and_then-ways true false greedy again leave k = refl
and_then-ways false true greedy again leave k = refl
and_then-ways true true true again leave k = and_then-append again (tick ∷ leave) k
and_then-ways true true false again leave k = and_then-append leave (tick ∷ again) k

-- ---- Groups

length-with_groups_cleared : (first n : ℕ) (g : Groups) → length (with_groups_cleared first n g) ≡ length g
length-with_groups_cleared first zero g = refl
length-with_groups_cleared first (suc n) g = length-with_groups_cleared (first + 1) n (slice_set g first None) ∙ length-set g first None

-- ---- Loop counters

pub same_loop : (program : Program) (is : List Insn) (m n : Counters) → HasInsnsBetween program is m n → n.loop ≡ m.loop
same_loop program [] m n h = ap (λ (m : Counters). m.loop) (sym h)
same_loop program (i ∷ is) m n h = same_loop program is (counters_after_insn m) n h.1

-- The `count` numbers from `first` on are below `bound`.
abbrev pub AreBelow : (first count bound : ℕ) → Type 0
AreBelow first count bound = (i : ℕ) → first ≤ i → i < first + count → i < bound

-- ---- Iterations

module _ (program : Program) (text : Text) (is_text : HasRisingPlaceOffsets text) where
  Fit-with_groups_cleared : (first n : ℕ) (g : Groups) → Fit program text is_text g → Fit program text is_text (with_groups_cleared first n g)
  Fit-with_groups_cleared first zero g f = f
  Fit-with_groups_cleared first (suc n) g f = Fit-with_groups_cleared (first + 1) n (slice_set g first None) (Each-set (RangeFits program text is_text) g first None f tt)

  resets_yield : (d : Direction) (E : Ending) (first count : ℕ) (i k : Counters) (p : ℕ) (g : Groups) (s : List ℕ) (ls : List LoopData) (items : List TickOrOutcome)
      → HasInsnsBetween program (map ResetCaptureGroup (numbers_from first count)) i k → AreBelow first count (length g)
      → Yields program text d E (running (state_at program text is_text k.insn p (with_groups_cleared first count g) s ls) ∷ []) items
      → Yields program text d E (running (state_at program text is_text i.insn p g s ls) ∷ []) (ticks count ++ items)
  resets_yield d E first zero i k p g s ls items has room y = at_mark program text is_text d E i k p g s ls items has y
  resets_yield d E first (suc count) i k p g s ls items has room y =
      let t = state_at program text is_text i.insn p g s ls in
      let f : Option (ℕ × ℕ) → Option (ℕ × ℕ) = option_map (λ (r : ℕ × ℕ). (offset text r.0, offset text r.1)) in
      let len : length (over program text is_text g) ≡ length g = length-map g f in
      let in_g : first < length g = room first (omega arith) (omega arith) in
      let in_over : first < length (over program text is_text g) = omega arith in
      let g1 = slice_set g first None in
      let u = state_at program text is_text (i.insn + 1) p g1 s ls in
      let turn : act program text d t ≡ go u =
      act_at program text is_text d t (ResetCaptureGroup first) has.0
      ∙ ap (λ b. only_if b (go (record t { ip = i.insn + 1; groups = slice_set (over program text is_text g) first None }))) (lt-ltb first (length (over program text is_text g)) in_over)
      ∙ ap (λ h. go (record t { ip = i.insn + 1; groups = h })) (map-set f g first None) in
      let later : AreBelow (first + 1) count (length g1) = λ j le less. let in_j : j < length g = room j (omega arith) (omega arith) in omega (arith, length-set g first None) in
      yields_turn program text d E t (running u ∷ []) (ticks count ++ items) turn
      (resets_yield d E (first + 1) count (counters_after_insn i) k p g1 s ls items has.1 later y)

  -- At the head of a loop, its two ways yield their items in the order that the loop prefers.
  ways_yield : (d : Direction) (E : Ending) (a b greedy : Bool) (again leave : State) (xs ys : List TickOrOutcome)
      → (a ≡ true → Yields program text d E (running again ∷ []) xs) → (b ≡ true → Yields program text d E (running leave ∷ []) ys)
      → Yields program text d E (first_running_and_others_waiting (choice_in_order_of_greediness greedy (if a then again ∷ [] else []) (if b then leave ∷ [] else []))) (ticked_preferred a b greedy xs ys)
  ways_yield d E false false true again leave xs ys p q = yields_none program text d E
  ways_yield d E false false false again leave xs ys p q = yields_none program text d E
  ways_yield d E true false true again leave xs ys p q = p refl
  ways_yield d E true false false again leave xs ys p q = p refl
  ways_yield d E false true true again leave xs ys p q = q refl
  ways_yield d E false true false again leave xs ys p q = q refl
  ways_yield d E true true true again leave xs ys p q =
      yields_append program text d E (running again ∷ []) (waiting leave ∷ []) xs (tick ∷ ys) (p refl) (yields_wait program text d E leave [] ys (q refl))
  ways_yield d E true true false again leave xs ys p q =
      yields_append program text d E (running leave ∷ []) (waiting again ∷ []) ys (tick ∷ xs) (q refl) (yields_wait program text d E again [] xs (p refl))

  same_place : (p e : ℕ) → p ≤ last_place text → e ≤ last_place text → (offset text p == offset text e) ≡ nat_eq e p
  same_place p e h k = by (nat_eq e p) refl
    where
      by : (b : Bool) → nat_eq e p ≡ b → (offset text p == offset text e) ≡ b
      by true q = let same : p ≡ e = sym (eqb-true e p q) in eq-eqb (offset text p) (offset text e) (ap (offset text) same)
      by false q = ne_eqb (offset text p) (offset text e) (λ same. eqb-false e p q (sym (offset-injective text p e is_text h k same)))

  -- After an iteration, fewer turns are needed: characters were read or the minimum is nearer.
  falls : (d : Direction) (least i p e turns : ℕ) (a : Bool) → IsAtOrAheadInDirection text d p e → p ≤ last_place text → e ≤ last_place text
      → nat_eq e p ≡ a → (a && nat_lt least (i + 1)) ≡ false
      → least - i + characters_ahead text d p + 1 ≤ suc turns → least - (i + 1) + characters_ahead text d e + 1 ≤ turns
  falls rightwards least i p e turns true on h k same kept fuel =
      let e_is : e ≡ p = eqb-true e p same in let le : i + 1 ≤ least = nltb→le least (i + 1) (rw kept tt) in omega (arith, on.0, on.1)
  falls rightwards least i p e turns false on h k same kept fuel =
      let apart = eqb-false e p same in omega (arith, on.0, on.1, apart)
  falls leftwards least i p e turns true on h k same kept fuel =
      let e_is : e ≡ p = eqb-true e p same in let le : i + 1 ≤ least = nltb→le least (i + 1) (rw kept tt) in omega (arith, on.0)
  falls leftwards least i p e turns false on h k same kept fuel =
      let apart = eqb-false e p same in omega (arith, on.0, apart)

  module _ (d : Direction) (behind : Bool) (q : Quantifier) (first end : ℕ) (loopee : Node) (find : Finds program text is_text d behind loopee) (rise : Rising program text is_text behind loopee)
      (E : Ending) (m j l n : Counters) (p0 : ℕ) (g0 : Groups) (s0 : List ℕ) (ls0 : List LoopData) (k : Outcome → List TickOrOutcome)
      (enter : slice_get program.insns m.insn ≡ Some (EnterLoop (record { loop_id = m.loop; min_iters = q.min; max_iters = max_iterations q; greedy = q.greedy; exit = n.insn })))
      (clear : HasInsnsBetween program (map ResetCaptureGroup (numbers_from first (end - first))) (counters_after_insn (record m { loop = m.loop + 1 })) j)
      (body : IsCode program behind loopee j l)
      (jump : slice_get program.insns l.insn ≡ Some (LoopAgain m.insn))
      (last : counters_after_insn l ≡ n)
      (enters : Enters program text is_text p0 g0 s0 ls0 n.loop)
      (room : AreBelow first (end - first) (length g0))
      (on : GoesOn program text is_text d E n.insn p0 (group_ids loopee) m.loop n.loop g0 s0 ls0 k) where
    abbrev pub fields : LoopFields
    fields = record { loop_id = m.loop; min_iters = q.min; max_iters = max_iterations q; greedy = q.greedy; exit = n.insn }

    abbrev pub rounds : Repetition TickOrOutcome
    rounds = repetition q (λ p g. ticks (end - first) ++ ticked text loopee d p (with_groups_cleared first (end - first) g))

    abbrev pub data_at : ℕ → ℕ → LoopData
    data_at i p = record { iters = i; entry = offset text p }

    abbrev pub again_state : (i p : ℕ) → Groups → List ℕ → List LoopData → State
    again_state i p g s ls = state_at program text is_text (m.insn + 1) p g s (slice_set ls m.loop (data_at i p))

    abbrev pub leave_state : (p : ℕ) → Groups → List ℕ → List LoopData → State
    leave_state p g s ls = state_at program text is_text n.insn p g s ls

    abbrev pub threads : (i p : ℕ) → Groups → List ℕ → List LoopData → List Thread
    threads i p g s ls =
        first_running_and_others_waiting (choice_in_order_of_greediness q.greedy (if nat_lt i (max_iterations q) then again_state i p g s ls ∷ [] else []) (if nat_le q.min i then leave_state p g s ls ∷ [] else []))

    -- Between iterations, a place is reached, and all that is not the loop's own is kept.
    pub record Stands (p : ℕ) (g : Groups) (s : List ℕ) (ls : List LoopData) : Type 0 where
      pub reached : Reached program text is_text d p0 (length g0) (record { end = p; groups = g })
      pub kept : Kept (group_ids loopee) m.loop n.loop s0 s ls0 ls

    j_loop : j.loop ≡ m.loop + 1
    j_loop = same_loop program (map ResetCaptureGroup (numbers_from first (end - first))) (counters_after_insn (record m { loop = m.loop + 1 })) j clear

    l_loop : l.loop ≡ n.loop
    l_loop = ap (λ (m : Counters). m.loop) last

    in_loops : (ls : List LoopData) → length ls ≡ length ls0 → m.loop < length ls
    in_loops ls e = let a = rise j l body in omega (arith, j_loop, l_loop, enters.loops)

    turn_is : (i : ℕ) (t : State) → m.loop < length t.loops
        → iterate_or_leave_at_loop_head fields m.insn i t
        ≡ goes (first_running_and_others_waiting (choice_in_order_of_greediness q.greedy (if nat_lt i (max_iterations q) then record t { ip = m.insn + 1; loops = slice_set t.loops m.loop (record { iters = i; entry = t.pos }) } ∷ [] else []) (if nat_le q.min i then record t { ip = n.insn } ∷ [] else [])))
    turn_is i t h =
        ap (λ b. only_if b (goes (first_running_and_others_waiting (choice_in_order_of_greediness q.greedy (if nat_lt i (max_iterations q) then record t { ip = m.insn + 1; loops = slice_set t.loops m.loop (record { iters = i; entry = t.pos }) } ∷ [] else []) (if nat_le q.min i then record t { ip = n.insn } ∷ [] else []))))) (lt-ltb m.loop (length t.loops) h)

    leaves : (p : ℕ) (g : Groups) (s : List ℕ) (ls : List LoopData) → Stands p g s ls
        → Yields program text d E (running (leave_state p g s ls) ∷ []) (outcomes_replaced_by_lists (pair (record { end = p; groups = g }) ∷ []) k)
    leaves p g s ls h =
        let o : Outcome = record { end = p; groups = g } in
        yields_same program text d E _ (k o) (k o ++ []) (sym (append-nil (k o))) (on.at o s ls h.reached h.kept)

    -- The beginning of an iteration sets the loop's own data alone.
    begun : (i p : ℕ) (s : List ℕ) (ls : List LoopData) → length ls ≡ length ls0
        → Kept (group_ids loopee) m.loop n.loop s s ls (slice_set ls m.loop (data_at i p))
    begun i p s ls e =
        let a = rise j l body in
        record {
          starts_length = refl;
          starts = λ x h. refl;
          loops_length = length-set ls m.loop (data_at i p);
          below = λ x less. slice_get-set_other ls m.loop x (data_at i p) (omega arith);
          above = λ x le. slice_get-set_other ls m.loop x (data_at i p) (omega (arith, j_loop, l_loop));
        }

    -- An iteration yields the outcomes of the body, each followed by what `k'` says of it.
    iterates : (i p : ℕ) (g : Groups) (s : List ℕ) (ls : List LoopData) (k' : Outcome → List TickOrOutcome) → Stands p g s ls
        → ((o : Outcome) (s' : List ℕ) (ls' : List LoopData) → IsAtOrAheadInDirection text d p o.end → Stands o.end o.groups s' ls' → slice_get ls' m.loop ≡ Some (data_at i p)
        → Yields program text d E (running (state_at program text is_text l.insn o.end o.groups s' ls') ∷ []) (k' o))
        → Yields program text d E (running (again_state i p g s ls) ∷ []) (ticks (end - first) ++ outcomes_replaced_by_lists (ticked text loopee d p (with_groups_cleared first (end - first) g)) k')
    iterates i p g s ls k' h next_round =
        let ids = group_ids loopee in
        let count = end - first in
        let entry = data_at i p in
        let ls1 = slice_set ls m.loop entry in
        let g1 = with_groups_cleared first count g in
        let len_g : length g ≡ length g0 = h.reached.same_groups in
        let len_g1 : length g1 ≡ length g0 = length-with_groups_cleared first count g ∙ len_g in
        let len_ls1 : length ls1 ≡ length ls0 = length-set ls m.loop entry ∙ h.kept.loops_length in
        let own = in_loops ls h.kept.loops_length in
        let a = rise j l body in
        resets_yield d E first count (counters_after_insn (record m { loop = m.loop + 1 })) j p g s ls1 _ clear (subst (AreBelow first count) (sym len_g) room)
        (find E j l p g1 s ls1 k' body
        (record {
          inside = h.reached.inside;
          fit = Fit-with_groups_cleared first count g h.reached.fit;
          groups = len_g1 ∙ enters.groups;
          starts = h.kept.starts_length ∙ enters.starts ∙ sym len_g1;
          loops = omega (arith, l_loop, enters.loops);
        })
        (record {
          at = λ o s' ls' r kept.
              next_round o s' ls' r.onward
              (record {
                reached = reached_both program text is_text d p0 p (length g0) g1 o (sym len_g1) h.reached.onward r;
                kept = kept_both ids m.loop n.loop s0 s s' ls0 ls ls' h.kept
                    (kept_both ids m.loop n.loop s s s' ls ls1 ls' (begun i p s ls h.kept.loops_length)
                    (kept_more ids ids j.loop l.loop m.loop n.loop s s' ls1 ls' (inside_itself ids) (omega (arith, j_loop)) (omega (arith, l_loop)) kept));
              })
              (kept.below m.loop (omega (arith, j_loop)) ∙ slice_get-set_same ls m.loop entry own);
        }))

    -- The end of an iteration yields a tick, and the items of its threads unless it is refused.
    round_yields : (t : State) (ts : List Thread) (c : Bool) (items : List TickOrOutcome) → act program text d t ≡ (if c then goes [] else goes ts)
        → (c ≡ false → Yields program text d E ts (outcomes_replaced_by_lists items k)) → Yields program text d E (running t ∷ []) (tick ∷ outcomes_replaced_by_lists (if not c then items else []) k)
    round_yields t ts true items e y = yields_turn program text d E t [] [] e (yields_none program text d E)
    round_yields t ts false items e y = yields_turn program text d E t ts (outcomes_replaced_by_lists items k) e (y refl)

    again_is : (i p e : ℕ) (h : Groups) (s' : List ℕ) (ls' : List LoopData) → nat_lt i (max_iterations q) ≡ true → p ≤ last_place text → e ≤ last_place text
        → length ls' ≡ length ls0 → slice_get ls' m.loop ≡ Some (data_at i p)
        → act program text d (state_at program text is_text l.insn e h s' ls')
        ≡ (if nat_eq e p && nat_lt q.min (i + 1) then goes [] else goes (threads (i + 1) e h s' ls'))
    again_is i p e h s' ls' few in_p in_e len got =
        let v = state_at program text is_text l.insn e h s' ls' in
        let more = iterate_or_leave_at_loop_head fields m.insn (i + 1) v in
        act_at program text is_text d v (LoopAgain m.insn) jump
        ∙ ap (λ o. loop_again_effect o m.insn v) enter
        ∙ ap (λ o. with_some o (λ x. effect_at_iteration_end fields m.insn x v)) got
        ∙ ap (λ b. only_if b (if offset text p == offset text e && nat_lt q.min (i + 1) then goes [] else more)) few
        ∙ ap (λ b. if b && nat_lt q.min (i + 1) then goes [] else more) (same_place p e in_p in_e)
        ∙ ap (λ x. if nat_eq e p && nat_lt q.min (i + 1) then goes [] else x) (turn_is (i + 1) v (in_loops ls' len))

    pub rounds_yield : (turns i p : ℕ) (g : Groups) (s : List ℕ) (ls : List LoopData) → Stands p g s ls
        → q.min - i + characters_ahead text d p + 1 ≤ turns
        → Yields program text d E (threads i p g s ls) (outcomes_replaced_by_lists (ticked_bounded_repeat rounds turns i p g) k)
    unfolding ticked_bounded_repeat
    rounds_yield zero i p g s ls h fuel = absurd (omega arith)
    rounds_yield (suc turns) i p g s ls h fuel =
        let count = end - first in
        let items = ticked text loopee d p (with_groups_cleared first count g) in
        let further = λ (o : Outcome). ticked_bounded_repeat rounds turns (i + 1) o.end o.groups in
        let dropped = λ (o : Outcome). nat_eq o.end p && nat_lt q.min (i + 1) in
        let again = outcomes_replaced_by_lists (ticks count ++ items) (λ o. tick ∷ (if not (dropped o) then further o else [])) in
        let leave : List TickOrOutcome = pair (record { end = p; groups = g }) ∷ [] in
        let k' = λ (o : Outcome). tick ∷ outcomes_replaced_by_lists (if not (dropped o) then further o else []) k in
        let again_items : ticks count ++ outcomes_replaced_by_lists items k' ≡ outcomes_replaced_by_lists again k =
        sym (and_then-and_then (ticks count ++ items) (λ o. tick ∷ (if not (dropped o) then further o else [])) k ∙ and_then-ticks count items k') in
        yields_same program text d E _ _ _ (sym (and_then-ways (nat_lt i (max_iterations q)) (nat_le q.min i) q.greedy again leave k))
        (ways_yield d E (nat_lt i (max_iterations q)) (nat_le q.min i) q.greedy (again_state i p g s ls) (leave_state p g s ls) (outcomes_replaced_by_lists again k) (outcomes_replaced_by_lists leave k)
        (λ few. yields_same program text d E _ _ _ again_items
        (iterates i p g s ls k' h
        (λ o s' ls' onward stands got.
        let v = state_at program text is_text l.insn o.end o.groups s' ls' in
        round_yields v (threads (i + 1) o.end o.groups s' ls') (dropped o) (further o)
        (again_is i p o.end o.groups s' ls' few h.reached.inside stands.reached.inside stands.kept.loops_length got)
        (λ kept.
        rounds_yield turns (i + 1) o.end o.groups s' ls' stands
        (falls d q.min i p o.end turns (nat_eq o.end p) onward h.reached.inside stands.reached.inside refl kept fuel)))))
        (λ may. leaves p g s ls h))

  pub loop_finds : (d : Direction) (behind : Bool) (q : Quantifier) (first end : ℕ) (loopee : Node) → Finds program text is_text d behind loopee → Rising program text is_text behind loopee
      → (E : Ending) (m n : Counters) (p : ℕ) (g : Groups) (s : List ℕ) (ls : List LoopData) (k : Outcome → List TickOrOutcome)
      → AreBelow first (end - first) (length g)
      → IsCode program behind (loop q first end loopee) m n → Enters program text is_text p g s ls n.loop
      → GoesOn program text is_text d E n.insn p (group_ids loopee) m.loop n.loop g s ls k
      → Yields program text d E (running (state_at program text is_text m.insn p g s ls) ∷ []) (outcomes_replaced_by_lists (ticked text (loop q first end loopee) d p g) k)
  unfolding IsCode ticked
  loop_finds d behind q first end loopee find rise E m n p g s ls k room code enters on =
      let j = code.0 in
      let l = code.1 in
      let enter = code.2.0 in
      let clear = code.2.1 in
      let t = state_at program text is_text m.insn p g s ls in
      let ids = group_ids loopee in
      let own = in_loops d behind q first end loopee find rise E m j l n p g s ls k enter clear code.3 code.4.0 code.4.1 enters room on ls refl in
      yields_turn program text d E t (threads d behind q first end loopee find rise E m j l n p g s ls k enter clear code.3 code.4.0 code.4.1 enters room on 0 p g s ls) _
      (act_at program text is_text d t (EnterLoop (fields d behind q first end loopee find rise E m j l n p g s ls k enter clear code.3 code.4.0 code.4.1 enters room on)) enter
      ∙ turn_is d behind q first end loopee find rise E m j l n p g s ls k enter clear code.3 code.4.0 code.4.1 enters room on 0 t own)
      (rounds_yield d behind q first end loopee find rise E m j l n p g s ls k enter clear code.3 code.4.0 code.4.1 enters room on
      (q.min - 0 + characters_ahead text d p + 1) 0 p g s ls
      (record { reached = here program text is_text d p g enters.inside enters.fit; kept = kept_itself ids m.loop n.loop s ls })
      (omega arith))

  pub loop_rising : (behind : Bool) (q : Quantifier) (first end : ℕ) (loopee : Node) → Rising program text is_text behind loopee → Rising program text is_text behind (loop q first end loopee)
  unfolding IsCode
  loop_rising behind q first end loopee rise m n code =
      let a = rise code.0 code.1 code.3 in
      let b = same_loop program (map ResetCaptureGroup (numbers_from first (end - first))) (counters_after_insn (record m { loop = m.loop + 1 })) code.0 code.2.1 in
      let c = ap (λ (m : Counters). m.loop) code.4.1 in
      omega (arith, a, b, c)
