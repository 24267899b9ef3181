-- Dropping changes of slots that were logged before keeps what undoing the changes restores.
use Rattle.std.proofs.Common.{◌≡◌, ℕ, zero, suc, ◌+◌, ◌-◌, ◌<◌, ◌≤◌, Bool, true, false, true≢false, List, [], ◌∷◌, ◌++◌, length, map, take, drop, slice_set}
use Rattle.std.proofs.Common.{length-set, refl, ap, sym, ◌∙◌, subst, arith}
use mathlib.Core.Logic.{◌⊎◌, inl, inr}
use Rattle.std.proofs.lemmas.Bool.{cases_lt, eq-eqb, eqb-true, ltb-true, and_parts}
use Rattle.std.proofs.lemmas.List.{append-nil, append_assoc, get_or-set_other, drop_more, take_more_set, drop_all, length-drop, length-map, length-take-le, take-append-drop, drop-map, take-take}
use Rattle.std.proofs.lemmas.List.{get_or-take, get_or-drop, drop-drop, length-take}
use Rattle.std.specs.List.{take-map}
use Rattle.std.proofs.lemmas.List.Elements.{All-append, All-set}
use Rattle.std.proofs.lemmas.List.Folds.{list_all-append}
use Rattle.std.proofs.lemmas.Grind.{get_or-set_at}
use Rattle.std.proofs.Math.Seq.{map-set_same, take-append_seam, drop-append_seam}
use Rattle.std.specs.Prelude.{◌&&◌, ◌==◌, IsTrue, nat_lt, slice_index_or}
use Rattle.std.specs.List.{All}
use Rattle.regress_machine.proofs.ForcedIterationLemmas.{set-twice}
use Rattle.regress_backtrack.specs.declared.state.GroupOrLoopState.{GroupOrLoopState}
use Rattle.regress_backtrack.specs.declared.state.UndoEntry.{UndoEntry}
use Rattle.regress_backtrack.specs.declared.state.ChoicePoint.{ChoicePoint}
use Rattle.regress_backtrack.specs.State.{undone, are_slot_numbers_below, logical_slot_value, logical_undo_entry, IsStateInvariant, AreLoggedInOrder, AreSlotsUnset, LogIsCompacted}
use Rattle.regress_backtrack.specs.UndoLog.{ChangesAreCompacted}
use Rattle.regress_backtrack.proofs.UndoLogLemmas.{undone-last, undone-append, undone-in-two}
use Rattle.regress_backtrack.proofs.LogicalSlotLemmas.{covers, Covers, length-undone, seen-undone}

-- None of these changes is of the slot.
abbrev IsUntouched : List UndoEntry → (slot : ℕ) → Type 0
IsUntouched changes i = (slots : List GroupOrLoopState) (d : GroupOrLoopState) → slice_index_or (undone slots changes) i d ≡ slice_index_or slots i d

-- The first changes after number `from` were compacted to `left`, and `rest` follows.
pub record Keeps (slots : List GroupOrLoopState) (later : List UndoEntry) (from : ℕ) (now : List GroupOrLoopState) (left rest : List UndoEntry) : Type 0 where
  pub long : length now ≡ length slots
  pub values : (begun : ℕ) → map (logical_slot_value begun) now ≡ map (logical_slot_value begun) slots
  pub within : IsTrue (are_slot_numbers_below (length slots) (left ++ rest))
  pub before : undone now (left ++ rest) ≡ undone slots later
  pub old_noted : All (λ c. c.old.noted ≤ from) left
  pub noted : (k : ℕ) (d : GroupOrLoopState) → k < length now → ((slice_index_or now k d).noted ≤ from) ⊎ IsUntouched left k

pub keeps-none : (slots : List GroupOrLoopState) (later : List UndoEntry) (from : ℕ) → IsTrue (are_slot_numbers_below (length slots) later) → Keeps slots later from slots [] later
keeps-none slots later from within = record {
  long = refl;
  values = λ begun. refl;
  within = within;
  before = refl;
  old_noted = λ k d less. absurd (omega (arith, less));
  noted = λ k d less. inr (λ s e. refl);
}

-- The value of a slot that is logged later does not affect the slots before.
relogged : (slots : List GroupOrLoopState) (xs : List UndoEntry) (c : UndoEntry) (ys : List UndoEntry) (w : GroupOrLoopState) → undone (slice_set slots c.slot w) (xs ++ c ∷ ys) ≡ undone slots (xs ++ c ∷ ys)
relogged slots [] c ys w = by (covers slots ys c.slot w)
  where
    by : Covers slots ys c.slot w → undone (slice_set slots c.slot w) (c ∷ ys) ≡ undone slots (c ∷ ys)
    by (inl e) = ap (λ l. slice_set l c.slot c.old) e
    by (inr e) = ap (λ l. slice_set l c.slot c.old) e.1 ∙ set-twice (undone slots ys) c.slot w c.old
relogged slots (x ∷ xs) c ys w = ap (λ l. slice_set l x.slot x.old) (relogged slots xs c ys w)

module _ (slots : List GroupOrLoopState) (later : List UndoEntry) (from : ℕ) (now : List GroupOrLoopState) (left : List UndoEntry) (c : UndoEntry) (rest : List UndoEntry) (so : Keeps slots later from now left (c ∷ rest)) where
  parts : (are_slot_numbers_below (length slots) left && (nat_lt c.slot (length slots) && are_slot_numbers_below (length slots) rest)) ≡ true
  parts = sym (list_all-append (λ c. nat_lt c.slot (length slots)) left (c ∷ rest)) ∙ so.within

  later_parts : (nat_lt c.slot (length slots) ≡ true) × (are_slot_numbers_below (length slots) rest ≡ true)
  later_parts = and_parts (nat_lt c.slot (length slots)) (are_slot_numbers_below (length slots) rest) (and_parts (are_slot_numbers_below (length slots) left) (nat_lt c.slot (length slots) && are_slot_numbers_below (length slots) rest) parts).1

  pub keeps-inside : c.slot < length now
  keeps-inside = let less = ltb-true c.slot (length slots) later_parts.0 in let long = so.long in omega (arith, less, long)

  -- A change is kept.
  module _ (w d : GroupOrLoopState) (values : (begun : ℕ) → logical_slot_value begun w ≡ logical_slot_value begun (slice_index_or now c.slot d)) (now_few : w.noted ≤ from) (old_few : c.old.noted ≤ from) where
    seam : (left ++ c ∷ []) ++ rest ≡ left ++ c ∷ rest
    seam = append_assoc left (c ∷ []) rest

    one : All (λ c. c.old.noted ≤ from) (c ∷ [])
    one zero d less = old_few
    one (suc k) d less = absurd (omega (arith, less))

    untouched : (k : ℕ) → (k ≡ c.slot → ⊥) → IsUntouched left k → IsUntouched (left ++ c ∷ []) k
    untouched k apart u s d = ap (λ l. slice_index_or l k d) (undone-last s left c) ∙ u (slice_set s c.slot c.old) d ∙ get_or-set_other s c.slot k c.old d apart

    noted-at : (k : ℕ) (d : GroupOrLoopState) → k < length now → (b : Bool) → (c.slot == k) ≡ b → ((slice_index_or (slice_set now c.slot w) k d).noted ≤ from) ⊎ IsUntouched (left ++ c ∷ []) k
    noted-at k d less true e =
        let same = get_or-set_at now c.slot k w d (sym (eqb-true c.slot k e)) keeps-inside in
        inl (subst (λ (s : GroupOrLoopState). s.noted ≤ from) (sym same) now_few)
    noted-at k d less false e = by (so.noted k d less)
      where
        apart : k ≡ c.slot → ⊥
        apart at = absurd (true≢false (sym (eq-eqb c.slot k (sym at)) ∙ e))

        by : ((slice_index_or now k d).noted ≤ from) ⊎ IsUntouched left k → ((slice_index_or (slice_set now c.slot w) k d).noted ≤ from) ⊎ IsUntouched (left ++ c ∷ []) k
        by (inl few) = inl (subst (λ (s : GroupOrLoopState). s.noted ≤ from) (sym (get_or-set_other now c.slot k w d apart)) few)
        by (inr u) = inr (untouched k apart u)

    pub keeps-change : Keeps slots later from (slice_set now c.slot w) (left ++ c ∷ []) rest
    keeps-change = record {
      long = length-set now c.slot w ∙ so.long;
      values = λ begun. map-set_same (logical_slot_value begun) now c.slot w d (values begun) ∙ so.values begun;
      within = subst (λ l. IsTrue (are_slot_numbers_below (length slots) l)) (sym seam) so.within;
      before = ap (undone (slice_set now c.slot w)) seam ∙ relogged now left c rest w ∙ so.before;
      old_noted = All-append (λ c. c.old.noted ≤ from) left (c ∷ []) so.old_noted one;
      noted = λ k d less. noted-at k d (let long = length-set now c.slot w in omega (arith, less, long)) (c.slot == k) refl;
    }

  -- A change of a slot is dropped that was logged before.
  module _ (few : All (λ s. s.noted ≤ from) (undone slots later)) (late : from < c.old.noted) where
    restored : undone (slice_set (undone now rest) c.slot c.old) left ≡ undone slots later
    restored = sym (undone-append now left (c ∷ rest)) ∙ so.before

    same-before : Covers (undone now rest) left c.slot c.old → undone now (left ++ rest) ≡ undone slots later
    same-before (inl e) = undone-append now left rest ∙ sym e ∙ restored
    same-before (inr e) =
        let is : slice_set (undone (undone now rest) left) c.slot c.old ≡ undone slots later = sym e.1 ∙ restored in
        let inside : c.slot < length (undone (undone now rest) left) =
        (let a = length-undone (undone now rest) left in let b = length-undone now rest in let at = keeps-inside in omega (arith, a, b, at)) in
        let here : slice_index_or (undone slots later) c.slot c.old ≡ c.old =
        ap (λ l. slice_index_or l c.slot c.old) (sym is) ∙ get_or-set_at (undone (undone now rest) left) c.slot c.slot c.old c.old refl inside in
        let within : c.slot < length (undone slots later) = (let a = length-undone slots later in let at = keeps-inside in let long = so.long in omega (arith, a, at, long)) in
        let most = few c.slot c.old within in
        let number = ap (λ (s : GroupOrLoopState). s.noted) here in
        absurd (omega (arith, most, number, late))

    pub keeps-fewer : Keeps slots later from now left rest
    keeps-fewer = record {
      long = so.long;
      values = so.values;
      within =
          list_all-append (λ c. nat_lt c.slot (length slots)) left rest
          ∙ ap (λ b. b && are_slot_numbers_below (length slots) rest) (and_parts (are_slot_numbers_below (length slots) left) (nat_lt c.slot (length slots) && are_slot_numbers_below (length slots) rest) parts).0
          ∙ later_parts.1;
      before = same-before (covers (undone now rest) left c.slot c.old);
      old_noted = so.old_noted;
      noted = so.noted;
    }

-- ---- The loop

-- The changes after number `from` are compacted up to `index`.
pub record Compacts (from : ℕ) (slots : List GroupOrLoopState) (log : List UndoEntry) (now : List GroupOrLoopState) (kept index : ℕ) (log' : List UndoEntry) : Type 0 where
  pub left : List UndoEntry
  pub low : from ≤ kept
  pub inside : kept ≤ index
  pub most : index ≤ length log
  pub room : length log ≤ length log'
  pub kept_is : take kept log' ≡ take from log ++ left
  pub same : (k : ℕ) (d : UndoEntry) → index ≤ k → k < length log → slice_index_or log' k d ≡ slice_index_or log k d
  pub part : Keeps slots (drop from log) from now left (drop index log)

pub compacts-none : (from : ℕ) (slots : List GroupOrLoopState) (log log' : List UndoEntry) (n : ℕ) → log ≡ take n log' → n ≤ length log' → from ≤ n → IsTrue (are_slot_numbers_below (length slots) log)
    → Compacts from slots log slots from from log'
compacts-none from slots log log' n is room low within =
    let long : length log ≡ n = ap length is ∙ length-take-le n log' room in
    record {
      left = [];
      low = omega arith;
      inside = omega arith;
      most = omega (arith, long, low);
      room = omega (arith, long, room);
      kept_is = sym (append-nil (take from log) ∙ ap (take from) is ∙ take-take from n log' low);
      same = λ k d low less. sym (ap (λ l. slice_index_or l k d) is ∙ get_or-take n log' k d (omega (arith, less, long)));
      part = keeps-none slots (drop from log) from (and_parts (are_slot_numbers_below (length slots) (take from log)) (are_slot_numbers_below (length slots) (drop from log))
          (sym (list_all-append (λ c. nat_lt c.slot (length slots)) (take from log) (drop from log)) ∙ ap (are_slot_numbers_below (length slots)) (take-append-drop from log) ∙ within)).1;
    }

module _ (from : ℕ) (slots : List GroupOrLoopState) (log : List UndoEntry) (now : List GroupOrLoopState) (kept index : ℕ) (log' : List UndoEntry) (so : Compacts from slots log now kept index log')
    (less : index < length log) (c : UndoEntry) (c_is : c ≡ slice_index_or log' index c) where
  next : drop index log ≡ c ∷ drop (index + 1) log
  next = drop_more log index c less ∙ ap (λ c. c ∷ drop (index + 1) log) (sym (c_is ∙ so.same index c (omega arith) less))

  part-next : Keeps slots (drop from log) from now so.left (c ∷ drop (index + 1) log)
  part-next = subst (λ rest. Keeps slots (drop from log) from now so.left rest) next so.part

  pub compacts-change : (w d : GroupOrLoopState) → ((begun : ℕ) → logical_slot_value begun w ≡ logical_slot_value begun (slice_index_or now c.slot d)) → w.noted ≤ from → c.old.noted ≤ from
      → Compacts from slots log (slice_set now c.slot w) (kept + 1) (index + 1) (slice_set log' kept c)
  compacts-change w d values now_few old_few =
      let low = so.low in
      let inside = so.inside in
      let room = so.room in
      record {
        left = so.left ++ c ∷ [];
        low = omega (arith, low);
        inside = omega (arith, inside);
        most = omega (arith, less);
        room = (let long = length-set log' kept c in omega (arith, room, long));
        kept_is = take_more_set log' kept c (omega (arith, inside, less, room)) ∙ ap (λ l. l ++ c ∷ []) so.kept_is ∙ append_assoc (take from log) so.left (c ∷ []);
        same = λ k d after before. get_or-set_other log' kept k c d (λ at. absurd (omega (arith, at, after, inside))) ∙ so.same k d (omega (arith, after)) before;
        part = keeps-change slots (drop from log) from now so.left c (drop (index + 1) log) part-next w d values now_few old_few;
      }

  pub compacts-fewer : All (λ s. s.noted ≤ from) (undone slots (drop from log)) → from < c.old.noted → Compacts from slots log now kept (index + 1) log'
  compacts-fewer few late =
      let inside = so.inside in
      record {
        left = so.left;
        low = so.low;
        inside = omega (arith, inside);
        most = omega (arith, less);
        room = so.room;
        kept_is = so.kept_is;
        same = λ k d after before. so.same k d (omega (arith, after)) before;
        part = keeps-fewer slots (drop from log) from now so.left c (drop (index + 1) log) part-next few late;
      }

-- All changes were looked at.
pub compacts-all : (from : ℕ) (slots : List GroupOrLoopState) (log : List UndoEntry) (now : List GroupOrLoopState) (kept index : ℕ) (log' : List UndoEntry) → Compacts from slots log now kept index log'
    → length log ≤ index → from ≤ length log → IsTrue (are_slot_numbers_below (length slots) log) → All (λ s. s.noted ≤ from) (undone slots (drop from log)) → ChangesAreCompacted from slots log now (take kept log')
compacts-all from slots log now kept index log' so over low within few =
    let k : Keeps slots (drop from log) from now so.left [] = subst (λ rest. Keeps slots (drop from log) from now so.left rest) (drop_all index log over) so.part in
    let seam : take from log ++ so.left ≡ take kept log' = sym so.kept_is in
    let first : length (take from log) ≡ from = length-take-le from log low in
    let rest_is : drop from (take kept log') ≡ so.left = ap (drop from) so.kept_is ∙ ap (λ n. drop n (take from log ++ so.left)) (sym first) ∙ drop-append_seam (take from log) so.left in
    let undone_is : undone now so.left ≡ undone slots (drop from log) = ap (undone now) (sym (append-nil so.left)) ∙ k.before in
    let long = k.long in
    record {
      kept = ap (take from) so.kept_is ∙ ap (λ n. take n (take from log ++ so.left)) (sym first) ∙ take-append_seam (take from log) so.left;
      before = ap (undone now) rest_is ∙ undone_is;
      within =
          subst (λ n. IsTrue (are_slot_numbers_below n (take kept log'))) (sym long)
          (ap (are_slot_numbers_below (length slots)) so.kept_is
          ∙ list_all-append (λ c. nat_lt c.slot (length slots)) (take from log) so.left
          ∙ ap (λ b. b && are_slot_numbers_below (length slots) so.left) (and_parts (are_slot_numbers_below (length slots) (take from log)) (are_slot_numbers_below (length slots) (drop from log))
          (sym (list_all-append (λ c. nat_lt c.slot (length slots)) (take from log) (drop from log)) ∙ ap (are_slot_numbers_below (length slots)) (take-append-drop from log) ∙ within)).0
          ∙ ap (are_slot_numbers_below (length slots)) (sym (append-nil so.left)) ∙ k.within);
      slot_count = long;
      values = k.values;
      noted = λ i d less. few-now i d less (k.noted i d less) undone_is;
      old_noted = subst (All (λ c. c.old.noted ≤ from)) (sym rest_is) k.old_noted;
    }
  where
    few-now : (i : ℕ) (d : GroupOrLoopState) → i < length now → ((slice_index_or now i d).noted ≤ from) ⊎ IsUntouched so.left i → undone now so.left ≡ undone slots (drop from log) → (slice_index_or now i d).noted ≤ from
    few-now i d less (inl most) is = most
    few-now i d less (inr u) is =
        let same : slice_index_or now i d ≡ slice_index_or (undone slots (drop from log)) i d = sym (u now d) ∙ ap (λ l. slice_index_or l i d) is in
        let long = ap length is ∙ sym refl in
        let longer = length-undone now so.left in
        subst (λ (s : GroupOrLoopState). s.noted ≤ from) (sym same) (few i d (omega (arith, less, long, longer)))

-- ---- The state

-- Undoing changes whose old values have log numbers of at most `n` gives slots with such numbers.
few-undone : (n : ℕ) (slots : List GroupOrLoopState) (changes : List UndoEntry) → All (λ s. s.noted ≤ n) slots → All (λ c. c.old.noted ≤ n) changes → All (λ s. s.noted ≤ n) (undone slots changes)
few-undone n slots [] few old_few = few
few-undone n slots (c ∷ changes) few old_few =
    All-set (λ s. s.noted ≤ n) (undone slots changes) c.slot c.old (old_few 0 c (omega arith)) (few-undone n slots changes few (λ k d less. old_few (suc k) d (omega (arith, less))))

few-more : (m n : ℕ) (slots : List GroupOrLoopState) → m ≤ n → All (λ s. s.noted ≤ m) slots → All (λ s. s.noted ≤ n) slots
few-more m n slots le few k d less = let most = few k d less in omega (arith, most, le)

all-drop : {X : Type 0} (P : X → Type 0) (n : ℕ) (xs : List X) → All P xs → All P (drop n xs)
all-drop P n xs all k d less = subst P (sym (get_or-drop n xs k d)) (all (n + k) d (let long = length-drop n xs in omega (arith, less, long)))

split-undone : (slots : List GroupOrLoopState) (log : List UndoEntry) (n from : ℕ) → n ≤ from → from ≤ length log → undone slots (drop n log) ≡ undone (undone slots (drop from log)) (drop n (take from log))
split-undone slots log n from le inside = sym (undone-in-two slots log n from le inside)

module _ (from : ℕ) (slots : List GroupOrLoopState) (log : List UndoEntry) (slots' : List GroupOrLoopState) (log' : List UndoEntry) (so : ChangesAreCompacted from slots log slots' log') (inside : from ≤ length log) where
  inside' : from ≤ length log'
  inside' = let a = ap length so.kept in let b = length-take-le from log inside in let c = length-take from log' in omega (arith, a, b, c)

  early : (n : ℕ) → n ≤ from → undone slots' (drop n log') ≡ undone slots (drop n log)
  early n le =
      split-undone slots' log' n from le inside' ∙ ap (λ l. undone l (drop n (take from log'))) so.before
      ∙ ap (λ l. undone (undone slots (drop from log)) (drop n l)) so.kept ∙ sym (split-undone slots log n from le inside)

  pub order-compacted : AreLoggedInOrder slots log → AreLoggedInOrder slots' log'
  order-compacted order n most = by (cases_lt from n)
    where
      by : (from < n) ⊎ (n ≤ from) → All (λ s. s.noted ≤ n) (undone slots' (drop n log'))
      by (inl late) =
          let number : from + (n - from) ≡ n = omega (arith, late) in
          let rest : drop n log' ≡ drop (n - from) (drop from log') = ap (λ n. drop n log') (sym number) ∙ sym (drop-drop (n - from) from log') in
          few-more from n (undone slots' (drop n log')) (omega (arith, late))
          (few-undone from slots' (drop n log') so.noted (subst (All (λ c. c.old.noted ≤ from)) (sym rest) (all-drop (λ c. c.old.noted ≤ from) (n - from) (drop from log') so.old_noted)))
      by (inr le) = subst (All (λ s. s.noted ≤ n)) (sym (early n le)) (order n (omega (arith, le, inside)))

  pub unset-compacted : AreSlotsUnset (undone slots log) → AreSlotsUnset (undone slots' log')
  unset-compacted unset = subst AreSlotsUnset (sym (early 0 (omega arith))) unset

module _ (groups : ℕ) (slots : List GroupOrLoopState) (log_len free : ℕ) (log : List UndoEntry) (choice_point_len : ℕ) (choice_points : List ChoicePoint) (there : IsStateInvariant groups slots log_len free log choice_point_len choice_points)
    (from : ℕ) (inside : from ≤ log_len) (slots' : List GroupOrLoopState) (log_len' : ℕ) (log' : List UndoEntry) (room : length log' ≡ length log) (shorter : log_len' ≤ log_len)
    (so : ChangesAreCompacted from slots (take log_len log) slots' (take log_len' log')) where
  used : length (take log_len log) ≡ log_len
  used = length-take-le log_len log there.1

  pub compacted-there : IsStateInvariant groups slots' log_len' free log' choice_point_len choice_points
  compacted-there =
      let now = so.slot_count in
      let in_log : from ≤ length (take log_len log) = (let u = used in omega (arith, u, inside)) in (
        (let g = there.0 in omega (arith, g, now)),
        (let most = there.1 in omega (arith, most, room, shorter)),
        there.2,
        so.within,
        unset-compacted from slots (take log_len log) slots' (take log_len' log') so in_log there.4,
        order-compacted from slots (take log_len log) slots' (take log_len' log') so in_log there.5,
        (let fits = there.6 in omega (arith, fits, room)),
      )

  pub compacted-seen : (begun : ℕ) (others : List ChoicePoint)
      → LogIsCompacted from (record { groups = groups; slots = map (logical_slot_value begun) slots; log = map (logical_undo_entry begun) (take log_len log); choice_points = others })
      (record { groups = groups; slots = map (logical_slot_value begun) slots'; log = map (logical_undo_entry begun) (take log_len' log'); choice_points = others })
  compacted-seen begun others =
      let f = logical_undo_entry begun in
      let v = logical_slot_value begun in
      let old = take log_len log in
      let new = take log_len' log' in
      record {
        groups = refl;
        slots = so.values begun;
        kept = take-map f from new ∙ ap (map f) so.kept ∙ sym (take-map f from old);
        before =
            ap (undone (map v slots')) (drop-map f from new) ∙ sym (seen-undone begun slots' (drop from new)) ∙ ap (map v) so.before
            ∙ seen-undone begun slots (drop from old) ∙ ap (undone (map v slots)) (sym (drop-map f from old));
        shorter =
            (let a = length-map old f in let b = length-map new f in let u = used in let n = length-take-le log_len' log' (let most = there.1 in omega (arith, most, room, shorter)) in
            omega (arith, a, b, u, n, shorter));
        choice_points = refl;
      }
