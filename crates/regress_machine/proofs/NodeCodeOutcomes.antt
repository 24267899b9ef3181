-- The code of a node finds the node's outcomes, each followed by what the code after it finds.
use Rattle.std.proofs.Common.{◌≡◌, ℕ, zero, suc, ◌+◌, ◌≤◌, List, [], ◌∷◌, ◌++◌, length, map, Option, Some, None, Bool, true, false, refl, ap, ◌∙◌, sym, subst, arith, append_assoc, append-nil}
use Rattle.std.proofs.Common.{slice_get, le_refl}
use Rattle.std.specs.Prelude.{option_map, if◌then◌else◌}
use Rattle.regex_meaning.specs.Laws.{Each, IsAtOrAheadInDirection}
use Rattle.regex_meaning.specs.Tree.{Node, cat, alt, group_ids}
use Rattle.regex_meaning.specs.Text.{Text, Direction, rightwards, leftwards, last_place, next_character, moved}
use Rattle.regex_meaning.specs.CodeUnitOffsets.{HasRisingPlaceOffsets, offset}
use Rattle.regex_meaning.specs.Outcomes.{Groups, Outcome, is_some_and, one_character}
use Rattle.regex_meaning.specs.OutcomesWithStepTicks.{TickOrOutcome, tick, pair, ticks, outcomes_replaced_by_lists, ticks_before_outcomes, ticked}
use Rattle.regex_meaning.specs.CompilationRelation.{Program, Insn, Counters, counters_after_insn, HasInsnsBetween, IsCode, Alt, Jump}
use Rattle.regex_meaning.proofs.OutcomeDirectionLemmas.{IsAtOrAheadInDirection-refl, IsAtOrAheadInDirection-trans, one_character-onward}
use Rattle.regex_meaning.proofs.CodeUnitOffsetsLemmas.{place_at-offset}
use Rattle.regress_machine.specs.Machine.{LoopData, State, running, waiting, with_some, go_if, next_insn_at_place, read_one, act_on, act}
use Rattle.regress_machine.proofs.ThreadYieldLemmas.{Ending, Yields, yields_none, yields_append, yields_same, yields_turn, yields_wait}
use Rattle.regress_machine.proofs.UnchangedGroupsAndLoops.{Kept, kept_itself, kept_more, kept_both, inside_left, inside_right}

-- ---- Items

pub and_then-append : (xs ys : List TickOrOutcome) (k : Outcome → List TickOrOutcome) → outcomes_replaced_by_lists (xs ++ ys) k ≡ outcomes_replaced_by_lists xs k ++ outcomes_replaced_by_lists ys k
and_then-append [] ys k = refl
and_then-append (tick ∷ xs) ys k = ap (λ (l : List TickOrOutcome). tick ∷ l) (and_then-append xs ys k)
and_then-append (pair o ∷ xs) ys k = ap (λ (l : List TickOrOutcome). k o ++ l) (and_then-append xs ys k) ∙ sym (append_assoc (k o) (outcomes_replaced_by_lists xs k) (outcomes_replaced_by_lists ys k))

pub and_then-and_then : (xs : List TickOrOutcome) (j k : Outcome → List TickOrOutcome) → outcomes_replaced_by_lists (outcomes_replaced_by_lists xs j) k ≡ outcomes_replaced_by_lists xs (λ o. outcomes_replaced_by_lists (j o) k)
and_then-and_then [] j k = refl
and_then-and_then (tick ∷ xs) j k = ap (λ (l : List TickOrOutcome). tick ∷ l) (and_then-and_then xs j k)
and_then-and_then (pair o ∷ xs) j k = and_then-append (j o) (outcomes_replaced_by_lists xs j) k ∙ ap (λ (l : List TickOrOutcome). outcomes_replaced_by_lists (j o) k ++ l) (and_then-and_then xs j k)

pub and_then-pairs : (xs : List TickOrOutcome) (k : Outcome → List TickOrOutcome) → outcomes_replaced_by_lists (ticks_before_outcomes xs) k ≡ outcomes_replaced_by_lists xs (λ o. tick ∷ k o)
and_then-pairs xs k = and_then-and_then xs (λ o. tick ∷ pair o ∷ []) k ∙ same xs
  where
    same : (xs : List TickOrOutcome) → outcomes_replaced_by_lists xs (λ o. tick ∷ (k o ++ [])) ≡ outcomes_replaced_by_lists xs (λ o. tick ∷ k o)
    same [] = refl
    same (tick ∷ xs) = ap (λ (l : List TickOrOutcome). tick ∷ l) (same xs)
    same (pair o ∷ xs) = ap (λ (l : List TickOrOutcome). (tick ∷ l) ++ outcomes_replaced_by_lists xs (λ o. tick ∷ (k o ++ []))) (append-nil (k o)) ∙ ap (λ (l : List TickOrOutcome). (tick ∷ k o) ++ l) (same xs)

pub and_then-ticks : (n : ℕ) (xs : List TickOrOutcome) (k : Outcome → List TickOrOutcome) → outcomes_replaced_by_lists (ticks n ++ xs) k ≡ ticks n ++ outcomes_replaced_by_lists xs k
and_then-ticks zero xs k = refl
and_then-ticks (suc n) xs k = ap (λ (l : List TickOrOutcome). tick ∷ l) (and_then-ticks n xs k)

-- ---- Code

-- This is the direction that code is compiled for.
abbrev pub direction_at : (behind : Bool) → Direction
direction_at behind = if behind then leftwards else rightwards

module _ (program : Program) (text : Text) (is_text : HasRisingPlaceOffsets text) where
  -- ---- States

  abbrev pub over : Groups → Groups
  over g = map (option_map (λ (r : ℕ × ℕ). (offset text r.0, offset text r.1))) g

  abbrev pub state_at : (ip place : ℕ) → Groups → List ℕ → List LoopData → State
  state_at ip p g s ls = record { ip = ip; pos = offset text p; groups = over g; starts = s; loops = ls }

  abbrev pub RangeFits : Option (ℕ × ℕ) → Type 0
  RangeFits None = Unit {0}
  RangeFits (Some r) = (r.0 ≤ r.1) × (r.1 ≤ last_place text)

  -- The ranges of the groups fit the text.
  abbrev pub Fit : Groups → Type 0
  Fit g = Each RangeFits g

  -- A place and groups are reached from a place if they are onward, inside the text and fit it.
  pub record Reached (d : Direction) (from : ℕ) (groups : ℕ) (o : Outcome) : Type 0 where
    pub onward : IsAtOrAheadInDirection text d from o.end
    pub inside : o.end ≤ last_place text
    pub same_groups : length o.groups ≡ groups
    pub fit : Fit o.groups

  pub inside_by : (d : Direction) (p e : ℕ) → p ≤ last_place text → IsAtOrAheadInDirection text d p e → e ≤ last_place text
  inside_by rightwards p e h on = omega (arith, on.0, on.1)
  inside_by leftwards p e h on = omega (arith, on.0)

  -- Behind each outcome of the node, the state yields what `k` says, whatever its own loops hold.
  pub record GoesOn (d : Direction) (E : Ending) (ip p : ℕ) (ids : List ℕ) (lo hi : ℕ) (g : Groups) (s : List ℕ) (ls : List LoopData) (k : Outcome → List TickOrOutcome) : Type 0 where
    pub at : (o : Outcome) (s' : List ℕ) (ls' : List LoopData) → Reached d p (length g) o → Kept ids lo hi s s' ls ls'
        → Yields program text d E (running (state_at ip o.end o.groups s' ls') ∷ []) (k o)

  -- At the entry of a node's code, the place is inside the text, and groups and loops fit.
  pub record Enters (p : ℕ) (g : Groups) (s : List ℕ) (ls : List LoopData) (hi : ℕ) : Type 0 where
    pub inside : p ≤ last_place text
    pub fit : Fit g
    pub groups : length g ≡ program.groups
    pub starts : length s ≡ length g
    pub loops : hi ≤ length ls

  pub here : (d : Direction) (p : ℕ) (g : Groups) → p ≤ last_place text → Fit g → Reached d p (length g) (record { end = p; groups = g })
  here d p g h f = record { onward = IsAtOrAheadInDirection-refl text d p; inside = h; same_groups = refl; fit = f }

  pub reached_both : (d : Direction) (p e n : ℕ) (g : Groups) (o : Outcome) → n ≡ length g → IsAtOrAheadInDirection text d p e → Reached d e (length g) o → Reached d p n o
  reached_both d p e n g o same on r = record {
    onward = IsAtOrAheadInDirection-trans text d p e o.end on r.onward;
    inside = r.inside;
    same_groups = r.same_groups ∙ sym same;
    fit = r.fit;
  }

  -- ---- One instruction

  pub act_at : (d : Direction) (s : State) (i : Insn) → slice_get program.insns s.ip ≡ Some i → act program text d s ≡ act_on program text d (Some i) s
  act_at d s i e = ap (λ o. act_on program text d o s) e

  pub leaf_yields : (d : Direction) (E : Ending) (s u : State) (b : Bool) (o : Outcome) (k : Outcome → List TickOrOutcome) → act program text d s ≡ go_if b u
      → (b ≡ true → Yields program text d E (running u ∷ []) (k o)) → Yields program text d E (running s ∷ []) (outcomes_replaced_by_lists (tick ∷ map pair (if b then o ∷ [] else [])) k)
  leaf_yields d E s u b o k e y = by b refl e
    where
      by : (c : Bool) → b ≡ c → act program text d s ≡ go_if c u → Yields program text d E (running s ∷ []) (outcomes_replaced_by_lists (tick ∷ map pair (if c then o ∷ [] else [])) k)
      by true q e = yields_turn program text d E s (running u ∷ []) (k o ++ []) e (yields_same program text d E (running u ∷ []) (k o) (k o ++ []) (sym (append-nil (k o))) (y q))
      by false q e = yields_turn program text d E s [] [] e (yields_none program text d E)

  -- The code of a node yields its outcomes, each followed by the items of the code behind it.
  abbrev pub Finds : Direction → Bool → Node → Type 1
  Finds d behind node = (E : Ending) (m n : Counters) (p : ℕ) (g : Groups) (s : List ℕ) (ls : List LoopData) (k : Outcome → List TickOrOutcome)
      → IsCode program behind node m n → Enters p g s ls n.loop → GoesOn d E n.insn p (group_ids node) m.loop n.loop g s ls k
      → Yields program text d E (running (state_at m.insn p g s ls) ∷ []) (outcomes_replaced_by_lists (ticked text node d p g) k)

  -- If two positions in the code are equal, the states at both yield the same items.
  pub at_mark : (d : Direction) (E : Ending) (m n : Counters) (p : ℕ) (g : Groups) (s : List ℕ) (ls : List LoopData) (items : List TickOrOutcome) → m ≡ n
      → Yields program text d E (running (state_at n.insn p g s ls) ∷ []) items → Yields program text d E (running (state_at m.insn p g s ls) ∷ []) items
  at_mark d E m n p g s ls items e y = subst (λ (m : Counters). Yields program text d E (running (state_at m.insn p g s ls) ∷ []) items) (sym e) y

  pub each_when : (P : Outcome → Type 0) (b : Bool) (o : Outcome) → Each P (if b then o ∷ [] else []) → b ≡ true → P o
  each_when P true o h e = h.0
  each_when P false o h e = cc

  pub one_character_finds : (d : Direction) (test : ℕ → Bool) (i : Insn) (E : Ending) (m n : Counters) (p : ℕ) (ids : List ℕ) (g : Groups) (s : List ℕ) (ls : List LoopData) (k : Outcome → List TickOrOutcome)
      → ((t : State) → act_on program text d (Some i) t ≡ read_one text test d t)
      → HasInsnsBetween program (i ∷ []) m n → Enters p g s ls n.loop → GoesOn d E n.insn p ids m.loop n.loop g s ls k
      → Yields program text d E (running (state_at m.insn p g s ls) ∷ []) (outcomes_replaced_by_lists (tick ∷ map pair (one_character text test d p g)) k)
  one_character_finds d test i E m n p ids g s ls k is has enters on =
      let b = is_some_and (next_character text d p) test in
      let e = moved text d 1 p in
      let t = state_at m.insn p g s ls in
      let u = state_at (m.insn + 1) e g s ls in
      let o : Outcome = record { end = e; groups = g } in
      let turn : act program text d t ≡ go_if b u =
      act_at d t i has.0 ∙ is t
      ∙ ap (λ q. with_some q (λ p. go_if (is_some_and (next_character text d p) test) (next_insn_at_place text (moved text d 1 p) t))) (place_at-offset text p is_text enters.inside) in
      leaf_yields d E t u b o k turn (λ yes.
      let onward : IsAtOrAheadInDirection text d p e = each_when (λ (o : Outcome). IsAtOrAheadInDirection text d p o.end) b o (one_character-onward text test d p g) yes in
      at_mark d E (counters_after_insn m) n e g s ls (k o) has.1
      (on.at o s ls (record { onward = onward; inside = inside_by d p e enters.inside onward; same_groups = refl; fit = enters.fit }) (kept_itself ids m.loop n.loop s ls)))

  -- ---- Kinds of node

  pub nothing_finds : (d : Direction) (E : Ending) (m n : Counters) (p : ℕ) (ids : List ℕ) (g : Groups) (s : List ℕ) (ls : List LoopData) (k : Outcome → List TickOrOutcome)
      → m ≡ n → Enters p g s ls n.loop → GoesOn d E n.insn p ids m.loop n.loop g s ls k
      → Yields program text d E (running (state_at m.insn p g s ls) ∷ []) (outcomes_replaced_by_lists (pair (record { end = p; groups = g }) ∷ []) k)
  nothing_finds d E m n p ids g s ls k same enters on =
      let o : Outcome = record { end = p; groups = g } in
      yields_same program text d E _ (k o) (k o ++ []) (sym (append-nil (k o)))
      (at_mark d E m n p g s ls (k o) same (on.at o s ls (here d p g enters.inside enters.fit) (kept_itself ids m.loop n.loop s ls)))

  -- The number of loops does not fall from the start to the end of a node's code.
  abbrev pub Rising : Bool → Node → Type 0
  Rising behind node = (m n : Counters) → IsCode program behind node m n → m.loop ≤ n.loop

  pub cat_finds : (d : Direction) (behind : Bool) (first rest : Node) → Rising behind first → Rising behind rest → Finds d behind first → Finds d behind rest → Finds d behind (cat first rest)
  unfolding IsCode ticked
  cat_finds d behind first rest rise_first rise_rest find_first find_rest E m n p g s ls k code enters on =
      let j = code.0 in
      let lo_j = rise_first m j code.1 in
      let j_hi = rise_rest j n code.2 in
      let a = group_ids first in
      let b = group_ids rest in
      yields_same program text d E _ _ _ (sym (and_then-and_then (ticked text first d p g) (λ o. ticked text rest d o.end o.groups) k))
      (find_first E m j p g s ls (λ o. outcomes_replaced_by_lists (ticked text rest d o.end o.groups) k) code.1
      (record { inside = enters.inside; fit = enters.fit; groups = enters.groups; starts = enters.starts; loops = omega (arith, enters.loops) })
      (record {
        at = λ o s' ls' r kept.
            find_rest E j n o.end o.groups s' ls' k code.2
            (record { inside = r.inside; fit = r.fit; groups = r.same_groups ∙ enters.groups; starts = kept.starts_length ∙ enters.starts ∙ sym r.same_groups; loops = omega (arith, enters.loops, kept.loops_length) })
            (record {
              at = λ o2 s2 ls2 r2 kept2.
                  on.at o2 s2 ls2 (reached_both d p o.end (length g) o.groups o2 (sym r.same_groups) r.onward r2)
                  (kept_both (a ++ b) m.loop n.loop s s' s2 ls ls' ls2
                  (kept_more a (a ++ b) m.loop j.loop m.loop n.loop s s' ls ls' (inside_left a b) (le_refl m.loop) j_hi kept)
                  (kept_more b (a ++ b) j.loop n.loop m.loop n.loop s' s2 ls' ls2 (inside_right a b) lo_j (le_refl n.loop) kept2));
            });
      }))

  pub alt_finds : (d : Direction) (behind : Bool) (left right : Node) → Rising behind left → Rising behind right → Finds d behind left → Finds d behind right → Finds d behind (alt left right)
  unfolding IsCode ticked
  alt_finds d behind left right rise_left rise_right find_left find_right E m n p g s ls k code enters on =
      let j = code.0 in
      let lo_j = rise_left (counters_after_insn m) j code.2 in
      let j_hi = rise_right (counters_after_insn j) n code.4 in
      let a = group_ids left in
      let b = group_ids right in
      let t = state_at m.insn p g s ls in
      let u = state_at (m.insn + 1) p g s ls in
      let v = state_at (j.insn + 1) p g s ls in
      let in_left = outcomes_replaced_by_lists (ticked text left d p g) (λ o. tick ∷ k o) in
      let in_right = outcomes_replaced_by_lists (ticked text right d p g) k in
      yields_turn program text d E t (running u ∷ waiting v ∷ []) _ (act_at d t (Alt (j.insn + 1)) code.1)
      (yields_same program text d E _ (in_left ++ (tick ∷ in_right)) _
      (ap (λ (l : List TickOrOutcome). l ++ (tick ∷ in_right)) (sym (and_then-pairs (ticked text left d p g) k)) ∙ sym (and_then-append (ticks_before_outcomes (ticked text left d p g)) (tick ∷ ticked text right d p g) k))
      (yields_append program text d E (running u ∷ []) (waiting v ∷ []) in_left (tick ∷ in_right)
      (find_left E (counters_after_insn m) j p g s ls (λ o. tick ∷ k o) code.2
      (record { inside = enters.inside; fit = enters.fit; groups = enters.groups; starts = enters.starts; loops = omega (arith, enters.loops) })
      (record {
        at = λ o s' ls' r kept.
            let w = state_at j.insn o.end o.groups s' ls' in
            yields_turn program text d E w (running (state_at n.insn o.end o.groups s' ls') ∷ []) (k o) (act_at d w (Jump n.insn) code.3)
            (on.at o s' ls' r (kept_more a (a ++ b) m.loop j.loop m.loop n.loop s s' ls ls' (inside_left a b) (le_refl m.loop) j_hi kept));
      }))
      (yields_wait program text d E v [] in_right
      (find_right E (counters_after_insn j) n p g s ls k code.4 enters
      (record {
        at = λ o s' ls' r kept.
            on.at o s' ls' r (kept_more b (a ++ b) j.loop n.loop m.loop n.loop s s' ls ls' (inside_right a b) lo_j (le_refl n.loop) kept);
      })))))
