-- A list of changes to groups has the same effect if it is applied twice.
use Rattle.std.proofs.Common.{◌≡◌, ℕ, zero, suc, List, [], ◌∷◌, length, Option, Some, None, refl, ap, ◌∙◌, sym, subst, arith, slice_get, slice_set}
use Rattle.std.specs.Prelude.{option_map}
use Rattle.std.proofs.lemmas.List.{length-set}
use Rattle.regex_meaning.specs.Text.{Direction}
use Rattle.regex_meaning.specs.Outcomes.{Groups}
use Rattle.regress_machine.specs.Machine.{range_swapped_if_leftwards}
use Rattle.regress_machine.proofs.UnchangedGroupsAndLoops.{slice_get-set_other}

-- These are the groups of a state and their starts.
pub record Slots : Type 0 where
  pub groups : Groups
  pub starts : List ℕ

-- A note is a change of a group at an offset.
pub data Note : Type 0 where
  wiped : (id : ℕ) → Note
  begun : (id pos : ℕ) → Note
  closed : (d : Direction) (id pos : ℕ) → Note

abbrev pub range_to : Direction → (pos start : ℕ) → ℕ × ℕ
range_to d pos start = range_swapped_if_leftwards d start pos

abbrev pub noted : Note → Slots → Slots
noted (wiped id) J = record J { groups = slice_set J.groups id None }
noted (begun id pos) J = record { groups = slice_set J.groups id None; starts = slice_set J.starts id pos }
noted (closed d id pos) J = record J { groups = slice_set J.groups id (option_map (range_to d pos) (slice_get J.starts id)) }

-- The notes of a list are applied, the last one first.
abbrev pub applied : List Note → Slots → Slots
applied [] J = J
applied (n ∷ ns) J = noted n (applied ns J)

-- ---- Lengths

pub record AsMany (J K : Slots) : Type 0 where
  pub groups : length J.groups ≡ length K.groups
  pub starts : length J.starts ≡ length K.starts

as-many-noted : (n : Note) (J K : Slots) → AsMany J K → AsMany (noted n J) K
as-many-noted (wiped id) J K h = record { groups = length-set J.groups id None ∙ h.groups; starts = h.starts }
as-many-noted (begun id pos) J K h = record { groups = length-set J.groups id None ∙ h.groups; starts = length-set J.starts id pos ∙ h.starts }
as-many-noted (closed d id pos) J K h =
    record { groups = length-set J.groups id (option_map (range_to d pos) (slice_get J.starts id)) ∙ h.groups; starts = h.starts }

pub as-many : (ns : List Note) (J K : Slots) → AsMany J K → AsMany (applied ns J) K
as-many [] J K h = h
as-many (n ∷ ns) J K h = as-many-noted n (applied ns J) K (as-many ns J K h)

-- ---- One slot

-- A value replaces the value of an option if there is one.
abbrev put : {X : Type 0} → X → Option X → Option X
put x o = option_map (λ y. x) o

put-twice : {X : Type 0} (x y : X) (o : Option X) → put x (put y o) ≡ put x o
put-twice x y None = refl
put-twice x y (Some z) = refl

data Same (i j : ℕ) : Type 0 where
  same : i ≡ j → Same i j
  other : (j ≡ i → ⊥) → Same i j

same-next : (i j : ℕ) → Same i j → Same (suc i) (suc j)
same-next i j (same e) = same (ap suc e)
same-next i j (other n) = other (λ e. n (omega (arith, e)))

decide : (i j : ℕ) → Same i j
decide zero zero = same refl
decide zero (suc j) = other (λ e. absurd (omega (arith, e)))
decide (suc i) zero = other (λ e. absurd (omega (arith, e)))
decide (suc i) (suc j) = same-next i j (decide i j)

set-here : {X : Type 0} (xs : List X) (i : ℕ) (x : X) → slice_get (slice_set xs i x) i ≡ put x (slice_get xs i)
set-here [] i x = refl
set-here (y ∷ xs) zero x = refl
set-here (y ∷ xs) (suc i) x = set-here xs i x

pub by-slots : {X : Type 0} (xs ys : List X) → length xs ≡ length ys → ((i : ℕ) → slice_get xs i ≡ slice_get ys i) → xs ≡ ys
by-slots [] [] l h = refl
by-slots [] (y ∷ ys) l h = absurd (omega (arith, l))
by-slots (x ∷ xs) [] l h = absurd (omega (arith, l))
by-slots (x ∷ xs) (y ∷ ys) l h =
    let first : Some x ≡ Some y = h zero in
    let heads : x ≡ y = cc in
    ap (λ x. x ∷ xs) heads ∙ ap (λ xs. y ∷ xs) (by-slots xs ys (omega (arith, l)) (λ i. h (suc i)))

-- ---- The effect of notes on one group

module _ (id : ℕ) where
  abbrev start_in : Slots → Option ℕ
  start_in J = slice_get J.starts id

  abbrev group_in : Slots → Option (Option (ℕ × ℕ))
  group_in J = slice_get J.groups id

  -- The start is kept, or set to a value that does not depend on the earlier slots.
  data OnStart (ns : List Note) : Type 0 where
    start_kept : ((J : Slots) → start_in (applied ns J) ≡ start_in J) → OnStart ns
    start_put : (at : ℕ) → ((J : Slots) → start_in (applied ns J) ≡ put at (start_in J)) → OnStart ns

  -- The group is kept, or set to a value that the start determines.
  data OnGroup (ns : List Note) : Type 0 where
    group_kept : ((J : Slots) → group_in (applied ns J) ≡ group_in J) → OnGroup ns
    group_put : (by : Option ℕ → Option (ℕ × ℕ)) → ((J : Slots) → group_in (applied ns J) ≡ put (by (start_in (applied ns J))) (group_in J)) → OnGroup ns

  record OnSlot (ns : List Note) : Type 0 where
    start : OnStart ns
    group : OnGroup ns

  put-start : (ns : List Note) (at : ℕ) → OnStart ns → (J : Slots) → put at (start_in (applied ns J)) ≡ put at (start_in J)
  put-start ns at (start_kept h) J = ap (put at) (h J)
  put-start ns at (start_put b h) J = ap (put at) (h J) ∙ put-twice at b (start_in J)

  put-group : (ns : List Note) (v : Option (ℕ × ℕ)) → OnGroup ns → (J : Slots) → put v (group_in (applied ns J)) ≡ put v (group_in J)
  put-group ns v (group_kept h) J = ap (put v) (h J)
  put-group ns v (group_put by h) J = ap (put v) (h J) ∙ put-twice v (by (start_in (applied ns J))) (group_in J)

  -- A note of another group keeps this group's start.
  start-elsewhere : (n : Note) (ns : List Note) → ((J : Slots) → start_in (noted n J) ≡ start_in J) → OnStart ns → OnStart (n ∷ ns)
  start-elsewhere n ns e (start_kept h) = start_kept (λ J. e (applied ns J) ∙ h J)
  start-elsewhere n ns e (start_put at h) = start_put at (λ J. e (applied ns J) ∙ h J)

  group-elsewhere : (n : Note) (ns : List Note) → ((J : Slots) → start_in (noted n J) ≡ start_in J) → ((J : Slots) → group_in (noted n J) ≡ group_in J) → OnGroup ns → OnGroup (n ∷ ns)
  group-elsewhere n ns s e (group_kept h) = group_kept (λ J. e (applied ns J) ∙ h J)
  group-elsewhere n ns s e (group_put by h) =
      group_put by (λ J. e (applied ns J) ∙ h J ∙ ap (λ o. put (by o) (group_in J)) (sym (s (applied ns J))))

  note-wiped : (i : ℕ) (ns : List Note) → Same i id → OnSlot ns → OnSlot (wiped i ∷ ns)
  note-wiped i ns (same e) h = record {
    start = start-elsewhere (wiped i) ns (λ J. refl) h.start;
    group = group_put (λ o. None) (λ J. subst (λ i. slice_get (slice_set (applied ns J).groups i None) id ≡ put None (group_in (applied ns J))) (sym e) (set-here (applied ns J).groups id None) ∙ put-group ns None h.group J);
  }
  note-wiped i ns (other n) h = record {
    start = start-elsewhere (wiped i) ns (λ J. refl) h.start;
    group = group-elsewhere (wiped i) ns (λ J. refl) (λ J. slice_get-set_other J.groups i id None n) h.group;
  }

  note-begun : (i at : ℕ) (ns : List Note) → Same i id → OnSlot ns → OnSlot (begun i at ∷ ns)
  note-begun i at ns (same e) h = record {
    start = start_put at (λ J. subst (λ i. slice_get (slice_set (applied ns J).starts i at) id ≡ put at (start_in (applied ns J))) (sym e) (set-here (applied ns J).starts id at) ∙ put-start ns at h.start J);
    group = group_put (λ o. None) (λ J. subst (λ i. slice_get (slice_set (applied ns J).groups i None) id ≡ put None (group_in (applied ns J))) (sym e) (set-here (applied ns J).groups id None) ∙ put-group ns None h.group J);
  }
  note-begun i at ns (other n) h = record {
    start = start-elsewhere (begun i at) ns (λ J. slice_get-set_other J.starts i id at n) h.start;
    group = group-elsewhere (begun i at) ns (λ J. slice_get-set_other J.starts i id at n) (λ J. slice_get-set_other J.groups i id None n) h.group;
  }

  note-closed : (d : Direction) (i at : ℕ) (ns : List Note) → Same i id → OnSlot ns → OnSlot (closed d i at ∷ ns)
  note-closed d i at ns (same e) h = record {
    start = start-elsewhere (closed d i at) ns (λ J. refl) h.start;
    group = group_put (option_map (range_to d at)) (λ J.
        subst (λ i. slice_get (slice_set (applied ns J).groups i (option_map (range_to d at) (slice_get (applied ns J).starts i))) id ≡ put (option_map (range_to d at) (start_in (applied ns J))) (group_in (applied ns J))) (sym e)
        (set-here (applied ns J).groups id (option_map (range_to d at) (start_in (applied ns J))))
        ∙ put-group ns (option_map (range_to d at) (start_in (applied ns J))) h.group J);
  }
  note-closed d i at ns (other n) h = record {
    start = start-elsewhere (closed d i at) ns (λ J. refl) h.start;
    group = group-elsewhere (closed d i at) ns (λ J. refl) (λ J. slice_get-set_other J.groups i id (option_map (range_to d at) (slice_get J.starts i)) n) h.group;
  }

  on-slot : (ns : List Note) → OnSlot ns
  on-slot [] = record { start = start_kept (λ J. refl); group = group_kept (λ J. refl) }
  on-slot (wiped i ∷ ns) = note-wiped i ns (decide i id) (on-slot ns)
  on-slot (begun i at ∷ ns) = note-begun i at ns (decide i id) (on-slot ns)
  on-slot (closed d i at ∷ ns) = note-closed d i at ns (decide i id) (on-slot ns)

  start-twice : (ns : List Note) (J : Slots) → OnStart ns → start_in (applied ns (applied ns J)) ≡ start_in (applied ns J)
  start-twice ns J (start_kept h) = h (applied ns J)
  start-twice ns J (start_put at h) = h (applied ns J) ∙ ap (put at) (h J) ∙ put-twice at at (start_in J) ∙ sym (h J)

  group-twice : (ns : List Note) (J : Slots) → start_in (applied ns (applied ns J)) ≡ start_in (applied ns J) → OnGroup ns → group_in (applied ns (applied ns J)) ≡ group_in (applied ns J)
  group-twice ns J s (group_kept h) = h (applied ns J)
  group-twice ns J s (group_put by h) =
      h (applied ns J) ∙ ap (λ o. put (by o) (group_in (applied ns J))) s ∙ ap (put (by (start_in (applied ns J)))) (h J)
      ∙ put-twice (by (start_in (applied ns J))) (by (start_in (applied ns J))) (group_in J) ∙ sym (h J)

-- ---- The effect of a list of notes on all groups

pub applied-twice : (ns : List Note) (J : Slots) → applied ns (applied ns J) ≡ applied ns J
applied-twice ns J = ap (λ gs. record { groups = gs; starts = (applied ns (applied ns J)).starts }) groups ∙ ap (λ ss. record { groups = (applied ns J).groups; starts = ss }) starts
  where
    lengths : AsMany (applied ns (applied ns J)) (applied ns J)
    lengths = as-many ns (applied ns J) (applied ns J) (record { groups = refl; starts = refl })

    starts : (applied ns (applied ns J)).starts ≡ (applied ns J).starts
    starts = by-slots (applied ns (applied ns J)).starts (applied ns J).starts lengths.starts (λ i. start-twice i ns J (on-slot i ns).start)

    groups : (applied ns (applied ns J)).groups ≡ (applied ns J).groups
    groups = by-slots (applied ns (applied ns J)).groups (applied ns J).groups lengths.groups (λ i. group-twice i ns J (start-twice i ns J (on-slot i ns).start) (on-slot i ns).group)
