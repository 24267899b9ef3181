-- The operations on a state of the executor have the effects of the machine's instructions.
use Rattle.std.proofs.Common.{◌≡◌, ℕ, zero, suc, ◌+◌, ◌-◌, min, get_or, List, [], ◌∷◌, length, map, reverse, Option, Some, None, Bool, true, false, ap, ap₂, sym, ◌∙◌, slice_get, slice_set}
use Rattle.std.proofs.lemmas.List.{reverse-reverse}
use Rattle.std.specs.Prelude.{if◌then◌else◌, nat_lt}
use Rattle.std.specs.List.{prefix_len}
use Rattle.regex_meaning.specs.Text.{Text, Direction, moved}
use Rattle.regex_meaning.specs.CodeUnitOffsets.{offset, place_at, offset as text_offset}
use Rattle.regex_meaning.specs.OutcomesWithStepTicks.{nearest_first}
use Rattle.regex_meaning.specs.Outcomes.{Groups}
use Rattle.regex_meaning.specs.NumberListHelpers.{numbers_from}
use Rattle.regress_machine.specs.Machine as machine
use Rattle.regress_machine.specs.Machine.{Next, running, goes, scans, first_running_and_others_waiting, range_swapped_if_leftwards, scan, with_some, go}
use Rattle.regex_meaning.proofs.ListLemmas.{map-reverse}
use Rattle.regress_machine.proofs.GroupAndAssertionOutcomes.{map-set}
use Rattle.regress_machine.proofs.InsnsNotStuck.{by-some, can-then, can-only, by-only}
use Rattle.regress_pikevm.specs.declared.pikevm.states.State.{State}
use Rattle.regress_pikevm.specs.States.{offset_range_of_group, groups_as_offset_ranges, loop_data_in_offsets, machine_state_of, states_by_priority}
use Rattle.regress_machine.specs.InsnEffects.{state_after_char_loop_to_offset, IsReached, IsNotStuck, begin_capture_group_effect, end_capture_group_effect, reset_capture_group_effect}
use Rattle.regress_machine.specs.InsnEffects.{body_entered_with_iteration_count}

-- ---- Groups and loops

module _ {P : Type 0} (offset : P → ℕ) (s : State P) where
  pub opens : (id : ℕ) → IsNotStuck (begin_capture_group_effect id (machine_state_of offset s))
      → goes (running (record (machine_state_of offset s) { ip = s.ip + 1; groups = groups_as_offset_ranges offset (slice_set s.groups.items id None); starts = map offset (slice_set s.starts.items id s.pos) }) ∷ []) ≡ begin_capture_group_effect id (machine_state_of offset s)
  opens id can =
      ap₂ (λ gs ss. goes (running (record (machine_state_of offset s) { ip = s.ip + 1; groups = gs; starts = ss }) ∷ []))
      (sym (map-set {X = Option (P × P)} {Y = Option (ℕ × ℕ)} (offset_range_of_group offset) s.groups.items id None)) (sym (map-set offset s.starts.items id s.pos))
      ∙ by-only _ _ can

  pub resets : (id : ℕ) → IsNotStuck (reset_capture_group_effect id (machine_state_of offset s))
      → goes (running (record (machine_state_of offset s) { ip = s.ip + 1; groups = groups_as_offset_ranges offset (slice_set s.groups.items id None) }) ∷ []) ≡ reset_capture_group_effect id (machine_state_of offset s)
  resets id can =
      ap (λ gs. goes (running (record (machine_state_of offset s) { ip = s.ip + 1; groups = gs }) ∷ []))
      (sym (map-set {X = Option (P × P)} {Y = Option (ℕ × ℕ)} (offset_range_of_group offset) s.groups.items id None))
      ∙ by-only _ _ can

  pub enters : (id begin k : ℕ)
      → record (machine_state_of offset s) { ip = begin + 1; loops = map (loop_data_in_offsets offset) (slice_set s.loops.items id (record { iters = k; entry = s.pos })) } ≡ body_entered_with_iteration_count id begin k (machine_state_of offset s)
  enters id begin k =
      ap (λ ls. record (machine_state_of offset s) { ip = begin + 1; loops = ls }) (sym (map-set (loop_data_in_offsets offset) s.loops.items id (record { iters = k; entry = s.pos })))

-- The element at an index of a mapped list is the function's value at the element of the list.
fetched : {X Y : Type 0} (f : X → Y) (xs : List X) (i : ℕ) (x : X) (y : Y) → x ≡ get_or xs i x → slice_get (map f xs) i ≡ Some y → y ≡ f x
fetched f [] i x y e h = cc
fetched f (z ∷ xs) zero x y e h = let same : f z ≡ y = cc in sym same ∙ ap f (sym e)
fetched f (z ∷ xs) (suc i) x y e h = fetched f xs i x y e h

pub by-index : {X Y : Type 0} (f : X → Y) (xs : List X) (i : ℕ) (x : X) (next : Y → Next) (n : Next) → x ≡ get_or xs i x
    → IsNotStuck (with_some (slice_get (map f xs) i) next) → n ≡ next (f x) → n ≡ with_some (slice_get (map f xs) i) next
by-index f xs i x next n e can h = by-some (slice_get (map f xs) i) next n can (λ y q. h ∙ ap next (sym (fetched f xs i x y e q)))

module _ {P : Type 0} (offset : P → ℕ) (s : State P) where
  pub closes : (id : ℕ) (d : Direction) (start : P) (range : P × P) → start ≡ get_or s.starts.items id start
      → (offset range.0, offset range.1) ≡ range_swapped_if_leftwards d (offset start) (offset s.pos) → IsNotStuck (end_capture_group_effect id d (machine_state_of offset s))
      → goes (running (record (machine_state_of offset s) { ip = s.ip + 1; groups = groups_as_offset_ranges offset (slice_set s.groups.items id (Some range)) }) ∷ []) ≡ end_capture_group_effect id d (machine_state_of offset s)
  closes id d start range e same can =
      let gs : Groups = groups_as_offset_ranges offset s.groups.items in
      let end : ℕ → Next = λ from. go (record (machine_state_of offset s) { ip = s.ip + 1; groups = slice_set gs id (Some (range_swapped_if_leftwards d from (offset s.pos))) }) in
      by-index offset s.starts.items id start end
      (goes (running (record (machine_state_of offset s) { ip = s.ip + 1; groups = groups_as_offset_ranges offset (slice_set s.groups.items id (Some range)) }) ∷ []))
      e (can-only (nat_lt id (length gs)) (with_some (slice_get (map offset s.starts.items) id) end) can)
      (ap (λ gs. goes (running (record (machine_state_of offset s) { ip = s.ip + 1; groups = gs }) ∷ []))
      (sym (map-set {X = Option (P × P)} {Y = Option (ℕ × ℕ)} (offset_range_of_group offset) s.groups.items id (Some range)) ∙ ap (λ (r : ℕ × ℕ). slice_set gs id (Some r)) same))
      ∙ by-only (nat_lt id (length gs)) (with_some (slice_get (map offset s.starts.items) id) end) can

-- ---- Loops over one character

pub scanned : {P : Type 0} (offset : P → ℕ) (text : Text) (o : Option (ℕ → Bool)) (d : Direction) (s : machine.State) (least most : ℕ) (greedy : Bool) (tries : ℕ)
    (before states : List (State P))
    → IsNotStuck (with_some o (λ test. with_some (place_at text s.pos) (λ p. scan text least most greedy test d p s)))
    → ((test : ℕ → Bool) (p : ℕ) → o ≡ Some test → place_at text s.pos ≡ Some p → IsReached text test d least most p s tries (map (λ s. machine_state_of offset s) before))
    → states ≡ (if greedy then before else reverse before)
    → scans tries (first_running_and_others_waiting (states_by_priority offset states)) ≡ with_some o (λ test. with_some (place_at text s.pos) (λ p. scan text least most greedy test d p s))
scanned {P} offset text o d s least most greedy tries before states can reached e =
    by-some o (λ test. with_some (place_at text s.pos) (λ p. scan text least most greedy test d p s)) (scans tries (first_running_and_others_waiting (states_by_priority offset states))) can (λ test q.
    by-some (place_at text s.pos) (λ p. scan text least most greedy test d p s) (scans tries (first_running_and_others_waiting (states_by_priority offset states)))
    (can-then o (λ test. with_some (place_at text s.pos) (λ p. scan text least most greedy test d p s)) test q can) (λ p r. each test p (reached test p q r)))
  where
    each : (test : ℕ → Bool) (p : ℕ) → IsReached text test d least most p s tries (map (λ s. machine_state_of offset s) before)
        → scans tries (first_running_and_others_waiting (states_by_priority offset states)) ≡ scan text least most greedy test d p s
    each test p h =
        ap (λ n. scans n (first_running_and_others_waiting (states_by_priority offset states))) h.tried
        ∙ ap (λ l. scans (min most (prefix_len test (nearest_first text d p) + 1)) (first_running_and_others_waiting l)) (by greedy e)
      where
        offset' : ℕ → ℕ
        offset' n = text_offset text (moved text d n p)

        counts : List ℕ
        counts = numbers_from least (min most (prefix_len test (nearest_first text d p)) + 1 - least)

        to_state : ℕ → machine.State
        to_state n = state_after_char_loop_to_offset (offset' n) s

        by : (greedy : Bool) → states ≡ (if greedy then before else reverse before) → states_by_priority offset states ≡ map to_state (if greedy then reverse counts else counts)
        by true e = ap (λ l. states_by_priority offset l) e ∙ map-reverse (λ s. machine_state_of offset s) before ∙ ap reverse h.are ∙ sym (map-reverse to_state counts)
        by false e = ap (λ l. states_by_priority offset l) e ∙ ap (map (λ s. machine_state_of offset s)) (reverse-reverse before) ∙ h.are
