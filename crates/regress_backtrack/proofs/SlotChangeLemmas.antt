-- A change of one slot changes one group or one loop of the state and nothing else.
use Rattle.std.proofs.Common.{◌≡◌, ℕ, zero, suc, ◌+◌, ◌-◌, ◌<◌, ◌≤◌, Bool, false, List, [], ◌∷◌, ◌++◌, length, length-append, map, take, drop, replicate, get_or, slice_set, slice_get, Option, Some}
use Rattle.std.proofs.Common.{refl, ap, sym, ◌∙◌, arith}
use mathlib.Core.Logic.{◌⊎◌, inl, inr}
use Rattle.std.proofs.lemmas.Bool.{cases_lt, lt-ltb, le-ltb}
use Rattle.std.proofs.lemmas.List.{take-set-le, drop-set-lt, drop-set-add, get_or-take, length-replicate, get_or-replicate, get_or_append_left, get_or-append_right, take_more, take_more_set}
use Rattle.std.proofs.Math.Seq.{take-set-lt}
use Rattle.std.specs.Prelude.{Result, Ok, Err, OnOk, option_map}
use Rattle.regress_machine.specs.Machine.{State, LoopData}
use Rattle.regress_machine.proofs.GroupAndAssertionOutcomes.{map-set}
use Rattle.regex_meaning.specs.Outcomes.{Groups}
use Rattle.regress_backtrack.specs.declared.state.GroupOrLoopState.{GroupOrLoopState}
use Rattle.regress_backtrack.specs.State.{StateModel, range_of_group_slot, loop_data_in_slot, machine_state_with_slots, current_thread_state_of, SetsSlotUndoably, ChangesStateUndoably}

pub ok-more : {X E A B : Type 0} (r : Result X E) → (A → B) → OnOk r A → OnOk r B
ok-more (Ok x) f a = f a
ok-more (Err e) f a = tt

-- Setting a slot undoably changes the state as the new slot shows.
pub becomes : (change : State → State) (slot : ℕ) (value : GroupOrLoopState) (h h' : StateModel)
    → ((ip pos : ℕ) → machine_state_with_slots h.groups (slice_set h.slots slot value) ip pos ≡ change (current_thread_state_of h ip pos)) → SetsSlotUndoably slot value h h' → ChangesStateUndoably change h h'
becomes change slot value h h' state set = record {
  groups = set.groups;
  choice_points = set.choice_points;
  behind = set.behind;
  state = λ ip pos. ap (λ g. machine_state_with_slots g h'.slots ip pos) set.groups ∙ ap (λ l. machine_state_with_slots h.groups l ip pos) set.slots ∙ state ip pos;
}

abbrev state_by : (ip pos : ℕ) → Groups → List ℕ → List LoopData → State
state_by ip pos gs ss ls = record { ip = ip; pos = pos; groups = gs; starts = ss; loops = ls }

same-state : (ip pos : ℕ) (gs gs' : Groups) (ss ss' : List ℕ) (ls ls' : List LoopData) → gs ≡ gs' → ss ≡ ss' → ls ≡ ls'
    → state_by ip pos gs ss ls ≡ state_by ip pos gs' ss' ls'
same-state ip pos gs gs' ss ss' ls ls' p q r = rw (p, q, r) refl

numbers-kept : (row : List GroupOrLoopState) (i : ℕ) (v x : GroupOrLoopState) → x ≡ get_or row i x → v.at ≡ x.at → map (λ s. s.at) (slice_set row i v) ≡ map (λ s. s.at) row
numbers-kept [] i v x e f = refl
numbers-kept (y ∷ row) zero v x e f = ap (λ n. n ∷ map (λ s. s.at) row) (f ∙ ap (λ (s : GroupOrLoopState). s.at) e)
numbers-kept (y ∷ row) (suc i) v x e f = ap (λ l. y.at ∷ l) (numbers-kept row i v x e f)

module _ (groups : ℕ) (slots : List GroupOrLoopState) (ip pos : ℕ) where
  module _ (i : ℕ) (less : i < groups) (v : GroupOrLoopState) where
    abbrev prefix : List GroupOrLoopState
    prefix = take groups slots

    ranges : map range_of_group_slot (take groups (slice_set slots i v)) ≡ slice_set (map range_of_group_slot prefix) i (range_of_group_slot v)
    ranges = ap (map range_of_group_slot) (take-set-lt groups slots i v less) ∙ sym (map-set range_of_group_slot prefix i v)

    loops : map loop_data_in_slot (drop groups (slice_set slots i v)) ≡ map loop_data_in_slot (drop groups slots)
    loops = ap (map loop_data_in_slot) (drop-set-lt groups slots i v less)

    -- Setting a group's slot sets the group's range and start.
    pub opens : machine_state_with_slots groups (slice_set slots i v) ip pos ≡ record (machine_state_with_slots groups slots ip pos) { groups = slice_set (map range_of_group_slot prefix) i (range_of_group_slot v); starts = slice_set (map (λ (s : GroupOrLoopState). s.at) prefix) i v.at }
    opens =
        same-state ip pos _ _ _ _ _ _ ranges
        (ap (map (λ s. s.at)) (take-set-lt groups slots i v less) ∙ sym (map-set (λ (s : GroupOrLoopState). s.at) prefix i v)) loops

    -- Setting a group's slot with an equal start sets only the group's range.
    pub keeps : (x : GroupOrLoopState) → x ≡ get_or slots i x → v.at ≡ x.at
        → machine_state_with_slots groups (slice_set slots i v) ip pos ≡ record (machine_state_with_slots groups slots ip pos) { groups = slice_set (map range_of_group_slot prefix) i (range_of_group_slot v) }
    keeps x e f =
        same-state ip pos _ _ _ _ _ _ ranges
        (ap (map (λ s. s.at)) (take-set-lt groups slots i v less) ∙ numbers-kept prefix i v x (e ∙ sym (get_or-take groups slots i x less)) f) loops

  -- Setting a loop's slot sets the loop's data.
  pub enters : (id : ℕ) (v : GroupOrLoopState) → machine_state_with_slots groups (slice_set slots (groups + id) v) ip pos ≡ record (machine_state_with_slots groups slots ip pos) { loops = slice_set (map loop_data_in_slot (drop groups slots)) id (loop_data_in_slot v) }
  enters id v =
      let before = take-set-le groups slots (groups + id) v (omega arith) in
      same-state ip pos _ _ _ _ _ _
      (ap (map range_of_group_slot) before) (ap (map (λ s. s.at)) before)
      (ap (map loop_data_in_slot) (drop-set-add groups slots id v) ∙ sym (map-set loop_data_in_slot (drop groups slots) id v))

-- ---- Fields of slots

-- A field of a group's slot is read from the list of the groups' fields.
pub of-group : {X : Type 0} (f : GroupOrLoopState → X) (groups : ℕ) (slots : List GroupOrLoopState) (i : ℕ) (s : GroupOrLoopState) → i < groups → slice_get slots i ≡ Some s
    → slice_get (map f (take groups slots)) i ≡ Some (f s)
of-group f groups [] i s less e = cc
of-group f zero (x ∷ slots) i s less e = absurd (omega (arith, less))
of-group f (suc groups) (x ∷ slots) zero s less e = ap (option_map f) e
of-group f (suc groups) (x ∷ slots) (suc i) s less e = of-group f groups slots i s (omega (arith, less)) e
