-- A search sees the slots that were set since it began, and logs each slot once after a choice point.
use Rattle.std.proofs.Common.{◌≡◌, ℕ, zero, suc, ◌+◌, ◌-◌, ◌<◌, ◌≤◌, Bool, false, true, true≢false, List, [], ◌∷◌, ◌++◌, length, length-append, length-set, map, take, drop, replicate, slice_get}
use Rattle.std.proofs.Common.{slice_set, Some, lt-ltb, refl, ap, ap₂, sym, ◌∙◌, subst, arith}
use mathlib.Core.Logic.{◌⊎◌, inl, inr}
use Rattle.std.proofs.lemmas.Bool.{cases_lt, eq-eqb, eqb-true, ne_eqb}
use Rattle.std.proofs.lemmas.List.{take_more, take_more_set, length-map, map-append, drop-map, drop_all, drop-append-le, length-take-le, set_comm, get_or-set_other}
use Rattle.std.proofs.lemmas.List.Elements.{All-set}
use Rattle.std.proofs.lemmas.List.Folds.{list_all-append}
use Rattle.std.proofs.Math.Seq.{take-append_seam, drop-append_seam, take-length, drop-length, map-set_same}
use Rattle.std.specs.Prelude.{◌&&◌, ◌==◌, IsTrue, nat_lt, slice_index_or, if◌then◌else◌}
use Rattle.std.specs.List.{All}
use Rattle.regress_machine.proofs.GroupAndAssertionOutcomes.{map-set}
use Rattle.regress_machine.proofs.ForcedIterationLemmas.{set-twice}
use Rattle.regress_backtrack.specs.declared.state.GroupOrLoopState.{GroupOrLoopState}
use Rattle.regress_backtrack.specs.declared.state.UndoEntry.{UndoEntry}
use Rattle.regress_backtrack.specs.declared.state.ChoicePoint.{ChoicePoint}
use Rattle.regress_backtrack.specs.State.{StateModel, undo_entry_logged_for_slot, undone, slot_placeholder, initial_slot, IsSlotUnsetAndUnlogged, SlotsAreUnsetAndUnlogged, AreSlotsUnset}
use Rattle.regress_backtrack.specs.State.{AreLoggedInOrder, log_len_at_choice_point, logical_slot_value}
use Rattle.regress_backtrack.specs.State.{logical_undo_entry, are_slot_numbers_below, IsStateInvariant, initial_state, SetsSlotUndoably, ChangesFromNumberAreUndone}
use Rattle.regress_backtrack.specs.UndoLog.{IsLoggedOnce}
use Rattle.regress_backtrack.specs.UndoLog.IsLoggedOnce.{once, already}
use Rattle.regress_backtrack.proofs.UndoLogLemmas.{since-last, undone-last, set-back, set-behind, behind-longer, behind-still}

pub take-replicate : {X : Type 0} (n m : ℕ) (x : X) → take n (replicate (n + m) x) ≡ replicate n x
take-replicate zero m x = refl
take-replicate (suc n) m x =
    let e : suc n + m ≡ suc (n + m) = omega arith in
    ap (λ k. take (suc n) (replicate k x)) e ∙ ap (λ l. x ∷ l) (take-replicate n m x)

pub drop-replicate : {X : Type 0} (n m : ℕ) (x : X) → drop n (replicate (n + m) x) ≡ replicate m x
drop-replicate zero m x = let e : 0 + m ≡ m = omega arith in ap (λ k. replicate k x) e
drop-replicate (suc n) m x =
    let e : suc n + m ≡ suc (n + m) = omega arith in
    ap (λ k. drop (suc n) (replicate k x)) e ∙ drop-replicate n m x

-- ---- The last choice point

-- The choice point stores how many changes were logged when it was pushed.
pub since-read : (choice_points : List ChoicePoint) (d : ChoicePoint) → 0 < length choice_points → (slice_index_or choice_points (length choice_points - 1) d).log ≡ log_len_at_choice_point choice_points
since-read choice_points d some =
    let one_more : length choice_points - 1 + 1 ≡ length choice_points = omega (arith, some) in
    let all : take (length choice_points - 1) choice_points ++ slice_index_or choice_points (length choice_points - 1) d ∷ [] ≡ choice_points =
    sym (take_more choice_points (length choice_points - 1) d (omega (arith, some))) ∙ ap (λ n. take n choice_points) one_more ∙ take-length choice_points in
    sym (since-last 0 (take (length choice_points - 1) choice_points) (slice_index_or choice_points (length choice_points - 1) d)) ∙ ap log_len_at_choice_point all

-- ---- The slots that a search sees

-- A slot that was set is seen with its own value.
pub seen-set : (begun n : ℕ) (s : GroupOrLoopState) → s.is_set ≡ true → s.noted ≡ 0 → logical_slot_value begun (record s { noted = n }) ≡ s
seen-set begun n s set none = ap (λ b. if b then record s { noted = 0 } else initial_slot begun) set ∙ ap (λ n. record s { noted = n }) (sym none)

-- Slots that were neither set nor logged are seen with their initial values.
pub seen-fresh : (begun : ℕ) (slots : List GroupOrLoopState) → SlotsAreUnsetAndUnlogged slots → map (logical_slot_value begun) slots ≡ replicate (length slots) (initial_slot begun)
seen-fresh begun [] fresh = refl
seen-fresh begun (s ∷ slots) fresh =
    ap₂ (λ s l. s ∷ l) (ap (λ b. if b then record s { noted = 0 } else initial_slot begun) (fresh 0 slot_placeholder (omega arith)).0)
    (seen-fresh begun slots (λ k d less. fresh (suc k) d (omega (arith, less))))

-- Undone changes are also undone in the slots that the search sees.
pub seen-undone : (begun : ℕ) (slots : List GroupOrLoopState) (changes : List UndoEntry)
    → map (logical_slot_value begun) (undone slots changes) ≡ undone (map (logical_slot_value begun) slots) (map (logical_undo_entry begun) changes)
seen-undone begun slots [] = refl
seen-undone begun slots (c ∷ changes) =
    sym (map-set (logical_slot_value begun) (undone slots changes) c.slot c.old)
    ∙ ap (λ l. slice_set l c.slot (logical_slot_value begun c.old)) (seen-undone begun slots changes)

seen-at : (begun : ℕ) (slots : List GroupOrLoopState) (i : ℕ) (d e : GroupOrLoopState) → i < length slots
    → slice_index_or (map (logical_slot_value begun) slots) i e ≡ logical_slot_value begun (slice_index_or slots i d)
seen-at begun [] i d e less = absurd (omega (arith, less))
seen-at begun (s ∷ slots) zero d e less = refl
seen-at begun (s ∷ slots) (suc i) d e less = seen-at begun slots i d e (omega (arith, less))

pub held-same : (slots : List GroupOrLoopState) (i : ℕ) (d e : GroupOrLoopState) → i < length slots → slice_index_or slots i d ≡ slice_index_or slots i e
held-same [] i d e less = absurd (omega (arith, less))
held-same (s ∷ slots) zero d e less = refl
held-same (s ∷ slots) (suc i) d e less = held-same slots i d e (omega (arith, less))

seen-get : (begun : ℕ) (slots : List GroupOrLoopState) (i : ℕ) (s : GroupOrLoopState) → i < length slots → s ≡ slice_index_or slots i s → slice_get (map (logical_slot_value begun) slots) i ≡ Some (logical_slot_value begun s)
seen-get begun [] i s less e = absurd (omega (arith, less))
seen-get begun (x ∷ slots) zero s less e = ap (λ s. Some (logical_slot_value begun s)) (sym e)
seen-get begun (x ∷ slots) (suc i) s less e = seen-get begun slots i s (omega (arith, less)) e

pub length-undone : (slots : List GroupOrLoopState) (changes : List UndoEntry) → length (undone slots changes) ≡ length slots
length-undone slots [] = refl
length-undone slots (c ∷ changes) = length-set (undone slots changes) c.slot c.old ∙ length-undone slots changes

pub length-seen : (begun : ℕ) (slots : List GroupOrLoopState) → length (map (logical_slot_value begun) slots) ≡ length slots
length-seen begun slots = length-map slots (logical_slot_value begun)

-- ---- A change that is logged

abbrev change : (slot : ℕ) → GroupOrLoopState → UndoEntry
change slot old = record { old = old; slot = slot }

within-more : (n : ℕ) (changes : List UndoEntry) (c : UndoEntry) → IsTrue (are_slot_numbers_below n changes) → c.slot < n → IsTrue (are_slot_numbers_below n (changes ++ c ∷ []))
within-more n changes c within less =
    list_all-append (λ c. nat_lt c.slot n) changes (c ∷ []) ∙ ap₂ (λ a b. a && (b && true)) within (lt-ltb c.slot n less)

within-fewer : (n : ℕ) (changes : List UndoEntry) (c : UndoEntry) → IsTrue (are_slot_numbers_below n (changes ++ c ∷ [])) → IsTrue (are_slot_numbers_below n changes)
within-fewer n changes c within = by (are_slot_numbers_below n changes) refl
  where
    by : (b : Bool) → are_slot_numbers_below n changes ≡ b → IsTrue (are_slot_numbers_below n changes)
    by true e = e
    by false e = absurd (true≢false (sym within ∙ list_all-append (λ c. nat_lt c.slot n) changes (c ∷ []) ∙ ap (λ b. b && (nat_lt c.slot n && true)) e))

-- ---- The order of the log

abbrev notes : List GroupOrLoopState → List ℕ
notes slots = map (λ s. s.noted) slots

note-at : (slots : List GroupOrLoopState) (k : ℕ) (d : GroupOrLoopState) → slice_index_or (notes slots) k d.noted ≡ (slice_index_or slots k d).noted
note-at [] k d = refl
note-at (s ∷ slots) zero d = refl
note-at (s ∷ slots) (suc k) d = note-at slots k d

notes-undone : (slots slots' : List GroupOrLoopState) (changes : List UndoEntry) → notes slots' ≡ notes slots → notes (undone slots' changes) ≡ notes (undone slots changes)
notes-undone slots slots' [] e = e
notes-undone slots slots' (c ∷ changes) e =
    sym (map-set (λ (s : GroupOrLoopState). s.noted) (undone slots' changes) c.slot c.old)
    ∙ ap (λ l. slice_set l c.slot c.old.noted) (notes-undone slots slots' changes e)
    ∙ map-set (λ (s : GroupOrLoopState). s.noted) (undone slots changes) c.slot c.old

same-notes : (n : ℕ) (slots slots' : List GroupOrLoopState) → notes slots' ≡ notes slots → All (λ s. s.noted ≤ n) slots → All (λ s. s.noted ≤ n) slots'
same-notes n slots slots' e all k d less =
    let long = sym (length-map slots' (λ (s : GroupOrLoopState). s.noted)) ∙ ap length e ∙ length-map slots (λ (s : GroupOrLoopState). s.noted) in
    let same = sym (note-at slots' k d) ∙ ap (λ l. slice_index_or l k d.noted) e ∙ note-at slots k d in
    let most = all k d (omega (arith, less, long)) in
    omega (arith, most, same)

-- Setting a slot keeps the order of the log if the slot's log number is kept.
noted-kept : (slots : List GroupOrLoopState) (changes : List UndoEntry) (i : ℕ) (v d : GroupOrLoopState) → v.noted ≡ (slice_index_or slots i d).noted → AreLoggedInOrder slots changes → AreLoggedInOrder (slice_set slots i v) changes
noted-kept slots changes i v d e noted n most =
    same-notes n (undone slots (drop n changes)) (undone (slice_set slots i v) (drop n changes))
    (notes-undone slots (slice_set slots i v) (drop n changes) (map-set_same (λ (s : GroupOrLoopState). s.noted) slots i v d e)) (noted n most)

-- Setting a slot after its old value was logged keeps the order of the log.
noted-more : (slots : List GroupOrLoopState) (changes : List UndoEntry) (i : ℕ) (v old : GroupOrLoopState) → old ≡ slice_index_or slots i old → v.noted ≤ length changes + 1
    → AreLoggedInOrder slots changes → AreLoggedInOrder (slice_set slots i v) (changes ++ record { old = old; slot = i } ∷ [])
noted-more slots changes i v old old_is last noted n most = by (cases_lt (length changes) n)
  where
    c : UndoEntry
    c = record { old = old; slot = i }

    all : List UndoEntry
    all = changes ++ c ∷ []

    by : (length changes < n) ⊎ (n ≤ length changes) → All (λ s. s.noted ≤ n) (undone (slice_set slots i v) (drop n all))
    by (inl more) =
        let none : drop n all ≡ [] = drop_all n all (let long = length-append changes (c ∷ []) in omega (arith, long, more)) in
        let whole : undone slots (drop (length changes) changes) ≡ slots = ap (undone slots) (drop-length changes) in
        subst (λ l. All (λ s. s.noted ≤ n) (undone (slice_set slots i v) l)) (sym none)
        (All-set (λ s. s.noted ≤ n) slots i v (omega (arith, last, more))
        (λ k d less. let few = subst (All (λ s. s.noted ≤ length changes)) whole (noted (length changes) (omega arith)) k d less in omega (arith, few, more)))
    by (inr few) =
        subst (All (λ s. s.noted ≤ n))
        (sym (ap (undone (slice_set slots i v)) (drop-append-le n changes (c ∷ []) few) ∙ undone-last (slice_set slots i v) (drop n changes) c
        ∙ ap (λ s. undone s (drop n changes)) (ap (slice_set (slice_set slots i v) i) old_is ∙ set-back slots i v old)))
        (noted n few)

noted-fewer : (slots : List GroupOrLoopState) (changes : List UndoEntry) (c : UndoEntry) → AreLoggedInOrder slots (changes ++ c ∷ []) → AreLoggedInOrder (slice_set slots c.slot c.old) changes
noted-fewer slots changes c noted n most =
    subst (All (λ s. s.noted ≤ n)) (ap (undone slots) (drop-append-le n changes (c ∷ []) most) ∙ undone-last slots (drop n changes) c)
    (noted n (let long = length-append changes (c ∷ []) in omega (arith, most, long)))

-- ---- A slot that was logged already

-- The changes set the slot again, or none of them does.
abbrev pub Covers : List GroupOrLoopState → List UndoEntry → (i : ℕ) → GroupOrLoopState → Type 0
Covers slots changes i v =
    (undone (slice_set slots i v) changes ≡ undone slots changes)
    ⊎ (((d : GroupOrLoopState) → slice_index_or (undone slots changes) i d ≡ slice_index_or slots i d) × (undone (slice_set slots i v) changes ≡ slice_set (undone slots changes) i v))

pub covers : (slots : List GroupOrLoopState) (changes : List UndoEntry) (i : ℕ) (v : GroupOrLoopState) → Covers slots changes i v
covers slots [] i v = inr (λ d. refl, refl)
covers slots (c ∷ changes) i v = by (covers slots changes i v)
  where
    other : ((d : GroupOrLoopState) → slice_index_or (undone slots changes) i d ≡ slice_index_or slots i d) → undone (slice_set slots i v) changes ≡ slice_set (undone slots changes) i v
        → (b : Bool) → (c.slot == i) ≡ b → Covers slots (c ∷ changes) i v
    other same is true e =
        let at : c.slot ≡ i = eqb-true c.slot i e in
        inl (ap (λ l. slice_set l c.slot c.old) is ∙ ap (λ k. slice_set (slice_set (undone slots changes) k v) c.slot c.old) (sym at) ∙ set-twice (undone slots changes) c.slot v c.old)
    other same is false e =
        let apart : i ≡ c.slot → ⊥ = λ at. absurd (true≢false (sym (eq-eqb c.slot i (sym at)) ∙ e)) in
        inr (
          λ d. get_or-set_other (undone slots changes) c.slot i c.old d apart ∙ same d,
          ap (λ l. slice_set l c.slot c.old) is ∙ set_comm (undone slots changes) i c.slot v c.old apart,
        )

    by : Covers slots changes i v → Covers slots (c ∷ changes) i v
    by (inl e) = inl (ap (λ l. slice_set l c.slot c.old) e)
    by (inr e) = other e.0 e.1 (c.slot == i) refl

-- The value of a slot that was logged after `n` changes does not affect the slots before.
covered : (slots : List GroupOrLoopState) (changes : List UndoEntry) (n i : ℕ) (v d : GroupOrLoopState) → AreLoggedInOrder slots changes → n ≤ length changes → i < length slots
    → n < (slice_index_or slots i d).noted → undone (slice_set slots i v) (drop n changes) ≡ undone slots (drop n changes)
covered slots changes n i v d noted most inside late = by (covers slots (drop n changes) i v)
  where
    by : Covers slots (drop n changes) i v → undone (slice_set slots i v) (drop n changes) ≡ undone slots (drop n changes)
    by (inl e) = e
    by (inr e) =
        let few = noted n most i d (let long = length-undone slots (drop n changes) in omega (arith, inside, long)) in
        let same = ap (λ (s : GroupOrLoopState). s.noted) (e.0 d) in
        absurd (omega (arith, few, same, late))

module _ (groups : ℕ) (slots : List GroupOrLoopState) (log_len free : ℕ) (log : List UndoEntry) (choice_point_len : ℕ) (choice_points : List ChoicePoint) (there : IsStateInvariant groups slots log_len free log choice_point_len choice_points) where
  -- A slot is set, and its log entry has this number.
  module _ (i : ℕ) (value : GroupOrLoopState) (less : i < length slots) (n log_len' free' : ℕ) (log' : List UndoEntry) (fits : log_len' ≤ length log') (free_fits : free' ≤ length log') where
    abbrev old : GroupOrLoopState
    old = slice_index_or slots i slot_placeholder

    old_is : old ≡ slice_index_or slots i old
    old_is = held-same slots i slot_placeholder old less

    abbrev put : GroupOrLoopState
    put = record value { noted = n }

    abbrev now : List GroupOrLoopState
    now = slice_set slots i put

    abbrev so_far : List UndoEntry
    so_far = take log_len log

    -- A search sees these states before and after the change.
    abbrev view : List GroupOrLoopState → List UndoEntry → List ChoicePoint → (begun : ℕ) → StateModel
    view slots changes others begun = record { groups = groups; slots = map (logical_slot_value begun) slots; log = map (logical_undo_entry begun) changes; choice_points = others }

    abbrev SeenSet : (begun : ℕ) → List ChoicePoint → List UndoEntry → Type 0
    SeenSet begun others changes = SetsSlotUndoably i value (view slots so_far others begun) (view now changes others begun)

    there-with : (changes : List UndoEntry) → take log_len' log' ≡ changes → IsTrue (are_slot_numbers_below (length slots) changes) → AreSlotsUnset (undone now changes) → AreLoggedInOrder now changes
        → IsStateInvariant groups now log_len' free' log' choice_point_len choice_points
    there-with changes are within unset noted =
        let row = length-set slots i put in (
          (let g = there.0 in omega (arith, g, row)),
          fits,
          there.2,
          subst (λ l. IsTrue (are_slot_numbers_below (length now) l)) (sym are) (subst (λ n. IsTrue (are_slot_numbers_below n changes)) (sym row) within),
          subst (λ l. AreSlotsUnset (undone now l)) (sym are) unset,
          subst (AreLoggedInOrder now) (sym are) noted,
          free_fits,
        )

    slots-seen : (begun : ℕ) → value.is_set ≡ true → value.noted ≡ 0 → map (logical_slot_value begun) now ≡ slice_set (map (logical_slot_value begun) slots) i value
    slots-seen begun set none = sym (map-set (logical_slot_value begun) slots i put) ∙ ap (slice_set (map (logical_slot_value begun) slots) i) (seen-set begun n value set none)

    -- The old value of the slot is logged after the earlier changes.
    back : undone now (so_far ++ change i old ∷ []) ≡ undone slots so_far
    back = undone-last now so_far (change i old) ∙ ap (λ s. undone s so_far) (ap (slice_set now i) old_is ∙ set-back slots i put old)

    once-there : n ≤ log_len + 1 → take log_len' log' ≡ so_far ++ change i old ∷ [] → IsStateInvariant groups now log_len' free' log' choice_point_len choice_points
    once-there last are =
        let used = length-take-le log_len log there.1 in
        there-with (so_far ++ change i old ∷ []) are (within-more (length slots) so_far (change i old) there.3 less)
        (subst AreSlotsUnset (sym back) there.4) (noted-more slots so_far i put old old_is (omega (arith, last, used)) there.5)

    once-seen : (begun : ℕ) (others : List ChoicePoint) → value.is_set ≡ true → value.noted ≡ 0 → SeenSet begun others (so_far ++ change i old ∷ [])
    once-seen begun others set none = record {
      groups = refl;
      slots = slots-seen begun set none;
      behind = behind-still (view slots so_far others begun) (view now (so_far ++ change i old ∷ []) others begun)
          (set-behind (map (logical_slot_value begun) slots) (map (logical_undo_entry begun) so_far) i value _ _ (slots-seen begun set none)
          (map-append (logical_undo_entry begun) so_far (change i old ∷ [])
          ∙ ap (λ o. map (logical_undo_entry begun) so_far ++ change i o ∷ []) (ap (logical_slot_value begun) old_is ∙ sym (seen-at begun slots i old slot_placeholder less))));
      choice_points = refl;
    }

    -- The slot was logged since the last choice point.
    already-there : 0 < old.noted → n ≡ old.noted → take log_len' log' ≡ so_far → IsStateInvariant groups now log_len' free' log' choice_point_len choice_points
    already-there late same are =
        let held = ap (λ (s : GroupOrLoopState). s.noted) old_is in
        there-with so_far are there.3 (subst AreSlotsUnset (sym (covered slots so_far 0 i put old there.5 (omega arith) less (omega (arith, late, held)))) there.4)
        (noted-kept slots so_far i put old (same ∙ held) there.5)

    already-seen : (begun : ℕ) (others : List ChoicePoint) → value.is_set ≡ true → value.noted ≡ 0 → log_len_at_choice_point others < old.noted → SeenSet begun others so_far
    already-seen begun others set none late = record {
      groups = refl;
      slots = slots-seen begun set none;
      behind = record {
        longer = omega arith;
        behind = λ s l short b.
            let used = length-map so_far (logical_undo_entry begun) in
            let most = behind-longer s l (map (logical_slot_value begun) slots) (map (logical_undo_entry begun) so_far) b in
            let held = ap (λ (s : GroupOrLoopState). s.noted) old_is in
            let same = covered slots so_far (length l) i put old there.5 (omega (arith, most, used)) less (omega (arith, short, late, held)) in
            let seen_so = drop-map (logical_undo_entry begun) (length l) so_far in
            record {
              kept = b.kept;
              before =
                  ap (undone (map (logical_slot_value begun) now)) seen_so ∙ sym (seen-undone begun now (drop (length l) so_far)) ∙ ap (map (logical_slot_value begun)) same
                  ∙ seen-undone begun slots (drop (length l) so_far) ∙ ap (undone (map (logical_slot_value begun) slots)) (sym seen_so) ∙ b.before;
            };
      };
      choice_points = refl;
    }

    pub set-there : (log_len_at_choice_point : ℕ) → IsLoggedOnce (undo_entry_logged_for_slot slots i) log_len_at_choice_point log_len log log_len' log' n → IsStateInvariant groups now log_len' free' log' choice_point_len choice_points
    set-there log_len_at_choice_point (once last more are) = once-there last (ap (λ k. take k log') more ∙ are)
    set-there log_len_at_choice_point (already late same kept are) = already-there (omega (arith, late)) same (ap (λ k. take k log') kept ∙ are)

    pub set-seen : (begun : ℕ) (others : List ChoicePoint) → value.is_set ≡ true → value.noted ≡ 0 → IsLoggedOnce (undo_entry_logged_for_slot slots i) (log_len_at_choice_point others) log_len log log_len' log' n
        → SeenSet begun others (take log_len' log')
    set-seen begun others set none (once last more are) = subst (SeenSet begun others) (sym (ap (λ k. take k log') more ∙ are)) (once-seen begun others set none)
    set-seen begun others set none (already late same kept are) = subst (SeenSet begun others) (sym (ap (λ k. take k log') kept ∙ are)) (already-seen begun others set none late)

  -- The last change is undone.
  module _ (some : 0 < log_len) (c : UndoEntry) (c_is : c ≡ slice_index_or log (log_len - 1) c) where
    abbrev before : List UndoEntry
    before = take (log_len - 1) log

    split : take log_len log ≡ before ++ c ∷ []
    split =
        let one : log_len ≡ log_len - 1 + 1 = omega (arith, some) in
        let most = there.1 in
        ap (λ n. take n log) one ∙ take_more log (log_len - 1) c (omega (arith, some, most)) ∙ ap (λ c. before ++ c ∷ []) (sym c_is)

    pub back-there : IsStateInvariant groups (slice_set slots c.slot c.old) (log_len - 1) free log choice_point_len choice_points
    back-there =
        let row = length-set slots c.slot c.old in (
          (let g = there.0 in omega (arith, g, row)),
          (let most = there.1 in omega (arith, most)),
          there.2,
          subst (λ n. IsTrue (are_slot_numbers_below n before)) (sym row) (within-fewer (length slots) before c (subst (λ l. IsTrue (are_slot_numbers_below (length slots) l)) split there.3)),
          subst AreSlotsUnset (ap (undone slots) split ∙ undone-last slots before c) there.4,
          noted-fewer slots before c (subst (AreLoggedInOrder slots) split there.5),
          there.6,
        )

    pub back-seen : (begun : ℕ) (others : List ChoicePoint)
        → ChangesFromNumberAreUndone (length (map (logical_undo_entry begun) (take log_len log)) - 1) (record { groups = groups; slots = map (logical_slot_value begun) slots; log = map (logical_undo_entry begun) (take log_len log); choice_points = others })
        (record { groups = groups; slots = map (logical_slot_value begun) (slice_set slots c.slot c.old); log = map (logical_undo_entry begun) before; choice_points = others })
    back-seen begun others =
        let whole : map (logical_undo_entry begun) (take log_len log) ≡ map (logical_undo_entry begun) before ++ logical_undo_entry begun c ∷ [] =
        ap (map (logical_undo_entry begun)) split ∙ map-append (logical_undo_entry begun) before (c ∷ []) in
        let fewer : length (map (logical_undo_entry begun) (take log_len log)) - 1 ≡ length (map (logical_undo_entry begun) before) =
        ap (λ l. length l - 1) whole ∙ (let n = length-append (map (logical_undo_entry begun) before) (logical_undo_entry begun c ∷ []) in omega (arith, n)) in
        record {
          groups = refl;
          slots =
              sym (map-set (logical_slot_value begun) slots c.slot c.old)
              ∙ ap (undone (map (logical_slot_value begun) slots)) (sym (ap₂ (λ n l. drop n l) fewer whole ∙ drop-append_seam (map (logical_undo_entry begun) before) (logical_undo_entry begun c ∷ [])));
          log = sym (ap₂ (λ n l. take n l) fewer whole ∙ take-append_seam (map (logical_undo_entry begun) before) (logical_undo_entry begun c ∷ []));
          choice_points = refl;
        }

-- ---- The state before a search

no-changes : (begun : ℕ) (changes : List UndoEntry) → map (logical_undo_entry begun) changes ≡ [] → changes ≡ []
no-changes begun [] e = refl
no-changes begun (c ∷ changes) e = cc

-- If no change is left to undo, no slot was set or logged.
pub fresh-now : (begun : ℕ) (slots : List GroupOrLoopState) (changes : List UndoEntry) → AreSlotsUnset (undone slots changes) → AreLoggedInOrder slots changes → map (logical_undo_entry begun) changes ≡ []
    → SlotsAreUnsetAndUnlogged slots
fresh-now begun slots changes unset noted none =
    let no_more = no-changes begun changes none in
    let are_unset = subst (λ l. AreSlotsUnset (undone slots l)) no_more unset in
    let are_few = subst (λ l. All (λ s. s.noted ≤ 0) (undone slots l)) no_more (noted 0 (omega arith)) in
    λ k d less. (are_unset k d less, are_few k d less)

-- If no slot was set or logged, all slots are unset.
pub fresh-unset : (slots : List GroupOrLoopState) → SlotsAreUnsetAndUnlogged slots → AreSlotsUnset slots
fresh-unset slots fresh k d less = (fresh k d less).0

pub fresh-noted : (slots : List GroupOrLoopState) → SlotsAreUnsetAndUnlogged slots → AreLoggedInOrder slots []
fresh-noted slots fresh n most =
    subst (λ l. All (λ s. s.noted ≤ n) (undone slots l)) (sym (drop_all n [] (omega arith))) (λ k d less. let none = (fresh k d less).1 in omega (arith, none))

pub begun-laid_out : (groups loops at : ℕ) (slots : List GroupOrLoopState) → SlotsAreUnsetAndUnlogged slots → length slots ≡ groups + loops
    → record { groups = groups; slots = map (logical_slot_value at) slots; log = []; choice_points = [] } ≡ initial_state groups loops at
begun-laid_out groups loops at slots fresh long =
    ap (λ s. record { groups = groups; slots = s; log = []; choice_points = [] }) (seen-fresh at slots fresh ∙ ap (λ n. replicate n (initial_slot at)) long)

-- If the slots before `n` and the new value are fresh, so are the slots up to `n`.
pub fresh-more : (slots : List GroupOrLoopState) (n : ℕ) (v : GroupOrLoopState) → IsSlotUnsetAndUnlogged v → ((k : ℕ) (d : GroupOrLoopState) → k < n → IsSlotUnsetAndUnlogged (slice_index_or slots k d))
    → n < length slots → (k : ℕ) (d : GroupOrLoopState) → k < n + 1 → IsSlotUnsetAndUnlogged (slice_index_or (slice_set slots n v) k d)
fresh-more [] n v e before inside k d less = absurd (omega (arith, inside))
fresh-more (x ∷ slots) zero v e before inside zero d less = e
fresh-more (x ∷ slots) zero v e before inside (suc k) d less = absurd (omega (arith, less))
fresh-more (x ∷ slots) (suc n) v e before inside zero d less = before 0 d (omega arith)
fresh-more (x ∷ slots) (suc n) v e before inside (suc k) d less =
    fresh-more slots n v e (λ k d less. before (suc k) d (omega (arith, less))) (omega (arith, inside)) k d (omega (arith, less))

-- If a change is seen in the log, the log is not empty.
pub some-logged : (begun log_len : ℕ) (log : List UndoEntry) → 0 < length (map (logical_undo_entry begun) (take log_len log)) → 0 < log_len
some-logged begun zero log some = absurd (omega (arith, some))
some-logged begun (suc n) log some = omega arith
