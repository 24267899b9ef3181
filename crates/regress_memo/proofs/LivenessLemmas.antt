-- States that agree in everything live keep agreeing in each step, and their searches end alike.
use Rattle.std.proofs.Common.{◌≡◌, ℕ, zero, suc, ◌+◌, ◌-◌, ◌≤◌, ◌<◌, min, map, reverse, List, [], ◌∷◌, ◌++◌, Option, Some, None, Bool, true, false, not, ◌&&◌, ◌||◌, refl, ap, ◌∙◌, sym, subst, arith}
use Rattle.std.proofs.Common.{slice_get, slice_set, length, take, drop, length-take}
use Rattle.std.specs.Prelude.{◌⊎◌, if◌then◌else◌, nat_lt, nat_le, nat_eq, ◌==◌, encode_utf8_all}
use Rattle.std.specs.List.{prefix_len}
use Rattle.std.proofs.lemmas.Bool.{cases_lt, eq-eqb, eqb-true, eqb-false, ne_eqb, leb-true, ltb-true, lt-ltb, le-leb, ltb-false, or_left, or_right}
use mathlib.Core.Logic.{inl, inr}
use Rattle.std.proofs.lemmas.List.{length-set, length-reverse}
use Rattle.std.proofs.lemmas.List.Sums.{prefix_len-le-length}
use Rattle.regex_meaning.specs.Tree.{Sameness}
use Rattle.regex_meaning.specs.NumberListHelpers.{numbers_from}
use Rattle.regex_meaning.specs.Text.{Text, Direction, rightwards, leftwards, next_character, moved, characters_ahead}
use Rattle.regex_meaning.specs.CodeUnitOffsets.{HasRisingPlaceOffsets, units, offset, place_at}
use Rattle.regex_meaning.specs.Outcomes.{is_some_and, Groups}
use Rattle.regex_meaning.specs.OutcomesWithStepTicks.{nearest_first}
use Rattle.regex_meaning.specs.CompilationRelation.{Program, LoopFields, Insn, Goal, JustFail, Char, CharSet, ByteSet, ByteSeq, AsciiBracket, Bracket, MatchAny, MatchAnyExceptLineTerminator, Alt}
use Rattle.regex_meaning.specs.CompilationRelation.{Jump, EnterLoop, LoopAgain, ResetCaptureGroup, Loop1CharBody}
use Rattle.regex_meaning.specs.CompilationRelation.{BeginCaptureGroup, EndCaptureGroup, BackRef, Lookahead, Lookbehind}
use Rattle.regex_meaning.proofs.BoolLemmas.{and-left, and-right, same-truth}
use Rattle.regex_meaning.proofs.EachElementLemmas.{Each, Each-map, Each-reverse}
use Rattle.regex_meaning.proofs.CodeUnitOffsetsLemmas.{offset-place_at, offset-less}
use Rattle.regress_machine.specs.Machine.{LoopData, State, Thread, running, waiting, Next, goes, state_with_ip, state_at_next_ip, with_some, only_if, go_if, first_running_and_others_waiting}
use Rattle.regress_machine.specs.Machine.{occurs_beside_offset, offset_moved_in_direction, read_one, stay_if}
use Rattle.regress_machine.specs.Machine.{choice_in_order_of_greediness, range_swapped_if_leftwards, iterate_or_leave_at_loop_head, effect_at_iteration_end, loop_again_effect, test_of, read_bytes}
use Rattle.regress_machine.specs.Machine.{backref_read, read_group, char_loop_states, scan, act_on, act, after_lookaround, search}
use Rattle.regress_machine.proofs.NearestCharacterLemmas.{Beside, nothing_left, one_more, beside, length-nearest}
use Rattle.regress_machine.proofs.UnchangedGroupsAndLoops.{slice_get-set_same, slice_get-set_other}
use Rattle.regress_machine.proofs.OffsetsInsideText.{act-inside, offset-inside, NextIn}
use Rattle.regress_machine.proofs.CharLoopRepetitions.{numbers_between}
use Rattle.regress_machine.proofs.AdjacentCharacterLemmas.{stands-length}
use Rattle.regress_machine.proofs.AdjacentCharacterBytes.{starts-stands}
use Rattle.regress_memo.specs.ThreadBisimulation.{AlikeThreads, AlikeEnds, AlikeAnswers, AreAlikeLookaroundSearches, AlikeNext, IsBisimulation}
use Rattle.regress_memo.specs.Liveness.{Liveness, IsConsistentEdge, IsConsistentPlainEdge, none, IsUnlimited, LoopCountDecidesExit, by_count, by_minimum, never_empty, IsConsistentIterationStart}
use Rattle.regress_memo.specs.Liveness.{IsConsistentIterationEnd, outermost, IsKeptIn}
use Rattle.regress_memo.specs.Liveness.{IsRepeated, IsConsistentLookaround, IsSoundLivenessAt, IsNotAheadInDirection, units_left_in_direction, IsSound, Similar, SimilarAt, World, Agree}
use Rattle.regress_memo.specs.Liveness.{IsLivenessFor, LiveDataDecideSearchResult, LiveDataDecideThreadLists}
use Rattle.regress_memo.proofs.ThreadBisimulationLemmas.{end-alike}

-- ---- Disjunctions of tests

data Either (a b : Bool) : Type 0 where
  first : a ≡ true → Either a b
  second : b ≡ true → Either a b

either : (a b : Bool) → (a || b) ≡ true → Either a b
either true b h = first refl
either false b h = second h

-- ---- Offsets that are passed

-- `from` is not ahead of `to`, and differs from it if a character is read.
pub record Moves (d : Direction) (reads : Bool) (from to : ℕ) : Type 0 where
  pub passed : IsNotAheadInDirection d from to
  pub further : reads ≡ true → from ≡ to → ⊥

stays : (d : Direction) (at : ℕ) → Moves d false at at
stays rightwards at = record { passed = omega arith; further = λ e. cc }
stays leftwards at = record { passed = omega arith; further = λ e. cc }

stays-at : (d : Direction) (at to : ℕ) → to ≡ at → Moves d false at to
stays-at d at to e = subst (λ t. Moves d false at t) (sym e) (stays d at)

pub passed-on : (d : Direction) (e p q : ℕ) → IsNotAheadInDirection d e p → IsNotAheadInDirection d p q → IsNotAheadInDirection d e q
passed-on rightwards e p q a b = omega (arith, a, b)
passed-on leftwards e p q a b = omega (arith, a, b)

pub not-here : (d : Direction) (e p q : ℕ) → IsNotAheadInDirection d e p → IsNotAheadInDirection d p q → (p ≡ q → ⊥) → (e == q) ≡ false
not-here rightwards e p q a b n = ne_eqb e q (λ same. n (omega (arith, a, b, same)))
not-here leftwards e p q a b n = ne_eqb e q (λ same. n (omega (arith, a, b, same)))

pub still-not-here : (d : Direction) (e p q : ℕ) → IsNotAheadInDirection d e p → IsNotAheadInDirection d p q → (e == p) ≡ false → (e == q) ≡ false
still-not-here rightwards e p q a b n = ne_eqb e q (λ same. eqb-false e p n (omega (arith, a, b, same)))
still-not-here leftwards e p q a b n = ne_eqb e q (λ same. eqb-false e p n (omega (arith, a, b, same)))

few-later : (top : ℕ) (d : Direction) (e p k more : ℕ) → IsNotAheadInDirection d e p → (e == p) ≡ false → k + units_left_in_direction top d e ≤ top + more → p ≤ top
    → k + 1 + units_left_in_direction top d p ≤ top + more
few-later top rightwards e p k more a n f in_text = elim (cases_lt e p) [
  | inl less ↦ omega (arith, f, less, in_text)
  | inr le ↦ absurd (eqb-false e p n (omega (arith, a, le)))
]
few-later top leftwards e p k more a n f in_text = elim (cases_lt p e) [
  | inl less ↦ omega (arith, f, less)
  | inr le ↦ absurd (eqb-false e p n (omega (arith, a, le)))
]

-- A count that is at most `more` meets the bound on iterations at each offset of the text.
few-first : (top : ℕ) (d : Direction) (p k more : ℕ) → k ≤ more → p ≤ top → k + units_left_in_direction top d p ≤ top + more
few-first top rightwards p k more le in_text = omega (arith, le)
few-first top leftwards p k more le in_text = omega (arith, le, in_text)

-- The minimum of a loop is at most `more`, or the iteration is not empty.
abbrev MayBeEmpty : (empty : Bool) (least more : ℕ) → Type 0
MayBeEmpty empty least more = (least ≤ more) ⊎ (empty ≡ false)

-- The bound on iterations still holds after one more iteration.
few-more : (top : ℕ) (d : Direction) (e p k more least : ℕ) → IsNotAheadInDirection d e p → k + units_left_in_direction top d e ≤ top + more → p ≤ top → MayBeEmpty (e == p) least more
    → (b : Bool) → (e == p) ≡ b → (e == p && nat_lt least (k + 1)) ≡ false → k + 1 + units_left_in_direction top d p ≤ top + more
few-more top d e p k more least passed few in_text (inr not_here) b is q = few-later top d e p k more passed not_here few in_text
few-more top d e p k more least passed few in_text (inl asked) false is q = few-later top d e p k more passed is few in_text
few-more top d e p k more least passed few in_text (inl asked) true is q =
    let not_yet : nat_lt least (k + 1) ≡ false = ap (λ b. b && nat_lt least (k + 1)) (sym is) ∙ q in
    let le = ltb-false least (k + 1) not_yet in
    few-first top d p (k + 1) more (omega (arith, le, asked)) in_text

-- ---- Numbers that are the same up to a bound

same-count : (j k n : ℕ) → min j n ≡ min k n → j ≤ n → k ≤ n → j ≡ k
same-count j k n e p q = omega (arith, e, p, q)

one-more-each : (j k n : ℕ) → min j n ≡ min k n → min (j + 1) n ≡ min (k + 1) n
one-more-each j k n e = omega (arith, e)

-- Of counts that agree up to `n`, both have reached a minimum up to `n`, or neither has.
both-reach : (least n j k : ℕ) → min j n ≡ min k n → least ≤ n → nat_le least j ≡ nat_le least k
both-reach least n j k e le =
    same-truth _ _ (λ h. let p = leb-true least j h in le-leb least k (omega (arith, p, e, le))) (λ h. let p = leb-true least k h in le-leb least j (omega (arith, p, e, le)))

both-past : (least n j k : ℕ) → min j n ≡ min k n → least ≤ n → nat_lt least (j + 1) ≡ nat_lt least (k + 1)
both-past least n j k e le =
    same-truth _ _
    (λ h. let p = ltb-true least (j + 1) h in lt-ltb least (k + 1) (omega (arith, p, e, le)))
    (λ h. let p = ltb-true least (k + 1) h in lt-ltb least (j + 1) (omega (arith, p, e, le)))

-- Counts that agree up to `n` both reach a minimum up to `n + 1` by one more, or neither does.
both-come : (least n j k : ℕ) → min j n ≡ min k n → least ≤ n + 1 → nat_le least (j + 1) ≡ nat_le least (k + 1)
both-come least n j k e le =
    same-truth _ _
    (λ h. let p = leb-true least (j + 1) h in le-leb least (k + 1) (omega (arith, p, e, le)))
    (λ h. let p = leb-true least (k + 1) h in le-leb least (j + 1) (omega (arith, p, e, le)))

-- ---- Movements in a text

module _ (text : Text) (is : HasRisingPlaceOffsets text) where
  -- `Moves` relates an offset to the one `n` characters on, if so many are ahead.
  pub moves-on : (d : Direction) (at p n : ℕ) → place_at text at ≡ Some p → n ≤ characters_ahead text d p → Moves d (nat_lt 0 n) at (offset text (moved text d n p))
  moves-on rightwards at p zero e few =
      let o = (offset-place_at text at p is e).0 in
      let z : moved text rightwards 0 p ≡ p = omega arith in
      stays-at rightwards at (offset text (moved text rightwards 0 p)) (ap (offset text) z ∙ o)
  moves-on leftwards at p zero e few =
      let o = (offset-place_at text at p is e).0 in
      let z : moved text leftwards 0 p ≡ p = omega arith in
      stays-at leftwards at (offset text (moved text leftwards 0 p)) (ap (offset text) z ∙ o)
  moves-on rightwards at p (suc n) e few =
      let o = offset-place_at text at p is e in
      let less = offset-less text p (p + suc n) is (omega arith) (omega (arith, few)) in
      let same = o.0 in
      record { passed = omega (arith, less, same); further = λ x y. omega (arith, less, same, y) }
  moves-on leftwards at p (suc n) e few =
      let o = offset-place_at text at p is e in
      let inside = o.1 in
      let less = offset-less text (p - suc n) p is (omega (arith, few)) inside in
      let same = o.0 in
      record { passed = omega (arith, less, same); further = λ x y. omega (arith, less, same, y) }

  -- `Moves` relates an offset to the one behind the next character, if that passes a test.
  pub moves-one : (d : Direction) (at p : ℕ) (test : ℕ → Bool) → place_at text at ≡ Some p → is_some_and (next_character text d p) test ≡ true → Moves d true at (offset text (moved text d 1 p))
  moves-one d at p test e h = by (beside text d p (offset-place_at text at p is e).1)
    where
      by : Beside text d p → Moves d true at (offset text (moved text d 1 p))
      by (nothing_left absent nothing left) = let no_more : is_some_and None test ≡ true = ap (λ o. is_some_and o test) (sym absent) ∙ h in cc
      by (one_more c some rest left within) = moves-on d at p 1 e (omega (arith, left))

-- ---- States that agree

module _ (a : Liveness) (top : ℕ) where
  -- Sound data of a loop stays sound at the next instruction if the loop is not entered.
  sound-on : (d : Direction) (reads : Bool) (begun entered : ℕ → Bool) (ip next pos to l : ℕ) → IsConsistentEdge a reads begun entered ip next → entered l ≡ false → Moves d reads pos to
      → (x : LoopData) → IsSound a top d pos ip l x → IsSound a top d to next l x
  sound-on d reads begun entered ip next pos to l leads out m x s = record {
    passed = passed-on d x.entry pos to s.passed m.passed;
    moved = λ h. by reads refl h;
    all = s.all;
    few = s.few;
  }
    where
      by : (b : Bool) → reads ≡ b → a.moved next l ≡ true → (x.entry == to) ≡ false
      by true e h = not-here d x.entry pos to s.passed m.passed (m.further e)
      by false e h = still-not-here d x.entry pos to s.passed m.passed (s.moved (leads.moved l h out e))

  similar-on : (d : Direction) (reads : Bool) (begun entered : ℕ → Bool) (ip next pos to l : ℕ) → IsConsistentEdge a reads begun entered ip next → entered l ≡ false → Moves d reads pos to
      → (x y : Option LoopData) → SimilarAt a top d pos ip l x y → SimilarAt a top d to next l x y
  similar-on d reads begun entered ip next pos to l leads out m None None s = tt
  similar-on d reads begun entered ip next pos to l leads out m None (Some y) s = absurd s
  similar-on d reads begun entered ip next pos to l leads out m (Some x) None s = absurd s
  similar-on d reads begun entered ip next pos to l leads out m (Some x) (Some y) s = record {
    left = sound-on d reads begun entered ip next pos to l leads out m x s.left;
    right = sound-on d reads begun entered ip next pos to l leads out m y s.right;
    empty = λ h. by reads refl h;
    count = s.count;
  }
    where
      neither : (x.entry == to) ≡ false → (y.entry == to) ≡ false → (x.entry == to) ≡ (y.entry == to)
      neither p q = p ∙ sym q

      as_before : (b : Bool) → (x.entry == pos) ≡ b → (x.entry == pos) ≡ (y.entry == pos) → (x.entry == to) ≡ (y.entry == to)
      as_before true e same = let p = eqb-true x.entry pos e in let q = eqb-true y.entry pos (sym same ∙ e) in ap (λ (n : ℕ). n == to) (p ∙ sym q)
      as_before false e same =
          neither (still-not-here d x.entry pos to s.left.passed m.passed e) (still-not-here d y.entry pos to s.right.passed m.passed (sym same ∙ e))

      kept : Either (a.empty ip l) (a.moved ip l) → (x.entry == to) ≡ (y.entry == to)
      kept (first h) = as_before (x.entry == pos) refl (s.empty h)
      kept (second h) = neither (still-not-here d x.entry pos to s.left.passed m.passed (s.left.moved h)) (still-not-here d y.entry pos to s.right.passed m.passed (s.right.moved h))

      by : (b : Bool) → reads ≡ b → a.empty next l ≡ true → (x.entry == to) ≡ (y.entry == to)
      by true e h = neither (not-here d x.entry pos to s.left.passed m.passed (m.further e)) (not-here d y.entry pos to s.right.passed m.passed (m.further e))
      by false e h = kept (either (a.empty ip l) (a.moved ip l) (leads.empty l h out e))

  -- States agree if each part that is live does: groups, starts, loop data.
  pub agree-of : (w : World) (d : Direction) (s t : State) → s.ip ≡ t.ip → s.pos ≡ t.pos → s.pos ≤ top → length s.groups ≡ length t.groups → (a.groups ≡ true → s.groups ≡ t.groups)
      → length s.starts ≡ length t.starts → ((id : ℕ) → (a.start s.ip id || w.starts id) ≡ true → slice_get s.starts id ≡ slice_get t.starts id) → length s.loops ≡ length t.loops
      → ((l : ℕ) → a.inside s.ip l ≡ true → SimilarAt a top d s.pos s.ip l (slice_get s.loops l) (slice_get t.loops l)) → ((l : ℕ) → w.kept l ≡ true → IsKeptIn a top w s t l) → Agree a top w d s t
  agree-of w d s t ip pos within as_many_groups groups as_many_starts starts as_many_loops loops kept = record {
    ip = ip;
    pos = pos;
    within = within;
    as_many_groups = as_many_groups;
    groups = groups;
    as_many_starts = as_many_starts;
    starts = starts;
    as_many_loops = as_many_loops;
    loops = loops;
    kept = kept;
  }

  module _ (w : World) (d : Direction) (s t : State) (g : Agree a top w d s t) where
    abbrev R : State → State → Type 0
    R u v = Agree a top w d u v

    starts-on : (begun entered : ℕ → Bool) (reads : Bool) (next id : ℕ) → IsConsistentEdge a reads begun entered s.ip next → begun id ≡ false → (a.start next id || w.starts id) ≡ true
        → slice_get s.starts id ≡ slice_get t.starts id
    starts-on begun entered reads next id leads old h = by (either (a.start next id) (w.starts id) h)
      where
        by : Either (a.start next id) (w.starts id) → slice_get s.starts id ≡ slice_get t.starts id
        by (first e) = g.starts id (or_left (a.start s.ip id) (w.starts id) (leads.start id e old))
        by (second e) = g.starts id (or_right (a.start s.ip id) (w.starts id) e)

    -- States still agree at the next instruction if nothing but groups is written.
    groups-on : (reads : Bool) (next to : ℕ) (xs ys : Groups) → IsConsistentPlainEdge a reads s.ip next → Moves d reads s.pos to → to ≤ top → length xs ≡ length ys → (a.groups ≡ true → xs ≡ ys)
        → R (record s { ip = next; pos = to; groups = xs }) (record t { ip = next; pos = to; groups = ys })
    groups-on reads next to xs ys leads m in_text as_many same =
        agree-of _ _ _ _ refl refl in_text as_many same g.as_many_starts (λ id h. starts-on (none a) (none a) reads next id leads refl h) g.as_many_loops
        (λ l h. similar-on d reads (none a) (none a) s.ip next s.pos to l leads refl m (slice_get s.loops l) (slice_get t.loops l) (g.loops l (leads.inside l h refl)))
        (λ l h. let k = g.kept l h in record { left = k.left; right = k.right; writes = leads.writes l k.writes })

    agree-on : (reads : Bool) (next to : ℕ) → IsConsistentPlainEdge a reads s.ip next → Moves d reads s.pos to → to ≤ top
        → R (record s { ip = next; pos = to }) (record t { ip = next; pos = to })
    agree-on reads next to leads m in_text = groups-on reads next to s.groups t.groups leads m in_text g.as_many_groups g.groups

    -- States still agree at the next instruction if the offset stays the same.
    pub agree-here : (next : ℕ) → IsConsistentPlainEdge a false s.ip next → R (state_with_ip next s) (record t { ip = next; pos = s.pos })
    agree-here next leads = agree-on false next s.pos leads (stays d s.pos) g.within

    -- States still agree after a group has begun.
    agree-begun : (id : ℕ) → IsConsistentEdge a false (λ i. i == id) (none a) s.ip (s.ip + 1) → id < length s.starts
        → R (record s { ip = s.ip + 1; groups = slice_set s.groups id None; starts = slice_set s.starts id s.pos })
        (record t { ip = s.ip + 1; pos = s.pos; groups = slice_set t.groups id None; starts = slice_set t.starts id s.pos })
    agree-begun id leads within =
        agree-of _ _ _ _ refl refl g.within (length-set s.groups id None ∙ g.as_many_groups ∙ sym (length-set t.groups id None)) (λ h. ap (λ (xs : Groups). slice_set xs id None) (g.groups h)) (length-set s.starts id s.pos ∙ g.as_many_starts ∙ sym (length-set t.starts id s.pos)) (λ i h. by i h (i == id) refl) g.as_many_loops
        (λ l h. similar-on d false (λ i. i == id) (none a) s.ip (s.ip + 1) s.pos s.pos l leads refl (stays d s.pos) (slice_get s.loops l) (slice_get t.loops l) (g.loops l (leads.inside l h refl)))
        (λ l h. let k = g.kept l h in record { left = k.left; right = k.right; writes = leads.writes l k.writes })
      where
        there : id < length t.starts
        there = let same = g.as_many_starts in omega (arith, same, within)

        by : (i : ℕ) → (a.start (s.ip + 1) i || w.starts i) ≡ true → (b : Bool) → (i == id) ≡ b → slice_get (slice_set s.starts id s.pos) i ≡ slice_get (slice_set t.starts id s.pos) i
        by i h true e =
            let same = eqb-true i id e in
            subst (λ j. slice_get (slice_set s.starts id s.pos) j ≡ slice_get (slice_set t.starts id s.pos) j) (sym same)
            (slice_get-set_same s.starts id s.pos within ∙ sym (slice_get-set_same t.starts id s.pos there))
        by i h false e =
            let other : i ≡ id → ⊥ = eqb-false i id e in
            slice_get-set_other s.starts id i s.pos other
            ∙ starts-on (λ i. i == id) (none a) false (s.ip + 1) i leads e h
            ∙ sym (slice_get-set_other t.starts id i s.pos other)

    -- Each count is at most the passed offsets and the count asked for, added up.
    abbrev AreFew : LoopFields → ℕ → ℕ → Type 0
    AreFew f j k = (j + units_left_in_direction top d s.pos ≤ top + a.up_to f.loop_id) × (k + units_left_in_direction top d s.pos ≤ top + a.up_to f.loop_id)

    -- States still agree after an iteration of a loop has begun.
    agree-entered : (f : LoopFields) (begin j k : ℕ) → IsConsistentIterationStart a f s.ip begin → f.loop_id < length s.loops
        → min j (a.up_to f.loop_id) ≡ min k (a.up_to f.loop_id) → (a.counted f.loop_id ≡ false → AreFew f j k)
        → (a.counted f.loop_id ≡ true → (j ≤ a.up_to f.loop_id) × (k ≤ a.up_to f.loop_id))
        → R (record s { ip = begin + 1; loops = slice_set s.loops f.loop_id (record { iters = j; entry = s.pos }) })
        (record t { ip = begin + 1; pos = s.pos; loops = slice_set t.loops f.loop_id (record { iters = k; entry = s.pos }) })
    agree-entered f begin j k e within count few all =
        agree-of _ _ _ _ refl refl g.within g.as_many_groups g.groups g.as_many_starts (λ i h. starts-on (none a) (λ l. l == f.loop_id) false (begin + 1) i e.again refl h) (length-set s.loops f.loop_id x ∙ g.as_many_loops ∙ sym (length-set t.loops f.loop_id y))
        (λ l h. by l h (l == f.loop_id) refl)
        (λ l h. still l (g.kept l h))
      where
        x : LoopData
        x = record { iters = j; entry = s.pos }

        y : LoopData
        y = record { iters = k; entry = s.pos }

        there : f.loop_id < length t.loops
        there = let same = g.as_many_loops in omega (arith, same, within)

        not-moved : a.moved (begin + 1) f.loop_id ≡ true → (s.pos == s.pos) ≡ false
        not-moved h = let no = e.again.fresh f.loop_id (eq-eqb f.loop_id f.loop_id refl) in cc

        new : Similar a top d s.pos (begin + 1) f.loop_id x y
        new = record {
          left = record { passed = (stays d s.pos).passed; moved = not-moved; all = λ h. (all h).0; few = λ h. (few h).0 };
          right = record { passed = (stays d s.pos).passed; moved = not-moved; all = λ h. (all h).1; few = λ h. (few h).1 };
          empty = λ h. refl;
          count = count;
        }

        by : (l : ℕ) → a.inside (begin + 1) l ≡ true → (b : Bool) → (l == f.loop_id) ≡ b
            → SimilarAt a top d s.pos (begin + 1) l (slice_get (slice_set s.loops f.loop_id x) l) (slice_get (slice_set t.loops f.loop_id y) l)
        by l h true q =
            let same = eqb-true l f.loop_id q in
            subst (λ i. SimilarAt a top d s.pos (begin + 1) i (slice_get (slice_set s.loops f.loop_id x) i) (slice_get (slice_set t.loops f.loop_id y) i)) (sym same)
            (subst (λ o. SimilarAt a top d s.pos (begin + 1) f.loop_id o (slice_get (slice_set t.loops f.loop_id y) f.loop_id)) (sym (slice_get-set_same s.loops f.loop_id x within))
            (subst (λ o. SimilarAt a top d s.pos (begin + 1) f.loop_id (Some x) o) (sym (slice_get-set_same t.loops f.loop_id y there)) new))
        by l h false q =
            let other : l ≡ f.loop_id → ⊥ = eqb-false l f.loop_id q in
            subst (λ o. SimilarAt a top d s.pos (begin + 1) l o (slice_get (slice_set t.loops f.loop_id y) l)) (sym (slice_get-set_other s.loops f.loop_id l x other))
            (subst (λ o. SimilarAt a top d s.pos (begin + 1) l (slice_get s.loops l) o) (sym (slice_get-set_other t.loops f.loop_id l y other))
            (similar-on d false (none a) (λ l. l == f.loop_id) s.ip (begin + 1) s.pos s.pos l e.again q (stays d s.pos) (slice_get s.loops l) (slice_get t.loops l) (g.loops l (e.again.inside l h q))))

        still : (l : ℕ) → IsKeptIn a top w s t l
            → IsKeptIn a top w (record s { ip = begin + 1; loops = slice_set s.loops f.loop_id x }) (record t { ip = begin + 1; pos = s.pos; loops = slice_set t.loops f.loop_id y }) l
        still l k =
            let other : l ≡ f.loop_id → ⊥ = λ same. let no = ap (a.writes s.ip) same in let yes = e.writes in let written = k.writes in cc in
            record {
              left = slice_get-set_other s.loops f.loop_id l x other ∙ k.left;
              right = slice_get-set_other t.loops f.loop_id l y other ∙ k.right;
              writes = e.again.writes l k.writes;
            }

    -- ---- The contents of a lookaround, and the continuation behind it

    abbrev pub contents-world : (continuation : ℕ) → World
    contents-world continuation = record {
      starts = λ id. w.starts id || a.start continuation id;
      kept = λ l. not (a.writes (s.ip + 1) l);
      left = s.loops;
      right = t.loops;
    }

    module _ (continuation : ℕ) (looks : IsConsistentLookaround a s.ip continuation) (inner : Direction) where
      pub agree-inside : Agree a top (contents-world continuation) inner (state_at_next_ip s) (record t { ip = s.ip + 1; pos = s.pos })
      agree-inside =
          agree-of _ _ _ _ refl refl g.within g.as_many_groups g.groups g.as_many_starts (λ id h. by id (either (a.start (s.ip + 1) id) (w.starts id || a.start continuation id) h)) g.as_many_loops
          (λ l h. let apart = looks.apart l in cc)
          (λ l h. record { left = refl; right = refl; writes = unwritten (a.writes (s.ip + 1) l) h })
        where
          unwritten : (b : Bool) → not b ≡ true → b ≡ false
          unwritten true h = cc
          unwritten false h = refl

          later : (id : ℕ) → Either (w.starts id) (a.start continuation id) → slice_get s.starts id ≡ slice_get t.starts id
          later id (first e) = g.starts id (or_right (a.start s.ip id) (w.starts id) e)
          later id (second e) = g.starts id (or_left (a.start s.ip id) (w.starts id) (looks.on.start id e refl))

          by : (id : ℕ) → Either (a.start (s.ip + 1) id) (w.starts id || a.start continuation id) → slice_get s.starts id ≡ slice_get t.starts id
          by id (first e) = g.starts id (or_left (a.start s.ip id) (w.starts id) (looks.start id e))
          by id (second e) = later id (either (w.starts id) (a.start continuation id) e)

      agree-behind : (u v : State) → Agree a top (contents-world continuation) inner u v → R (record u { ip = continuation; pos = s.pos }) (record v { ip = continuation; pos = s.pos })
      agree-behind u v h =
          agree-of _ _ _ _ refl refl g.within h.as_many_groups h.groups h.as_many_starts (λ id e. h.starts id (or_right (a.start u.ip id) (w.starts id || a.start continuation id) (turned (a.start continuation id) (w.starts id) e))) h.as_many_loops
          (λ l e. here l e (h.kept l (rw (looks.left l e) refl)))
          (λ l e. let k = g.kept l e in still l k (h.kept l (rw (looks.writes l k.writes) refl)))
        where
          turned : (b c : Bool) → (b || c) ≡ true → (c || b) ≡ true
          turned true true e = refl
          turned true false e = refl
          turned false true e = refl
          turned false false e = e

          here : (l : ℕ) → a.inside continuation l ≡ true → IsKeptIn a top (contents-world continuation) u v l
              → SimilarAt a top d s.pos continuation l (slice_get u.loops l) (slice_get v.loops l)
          here l e k =
              subst (λ o. SimilarAt a top d s.pos continuation l o (slice_get v.loops l)) (sym k.left)
              (subst (λ o. SimilarAt a top d s.pos continuation l (slice_get s.loops l) o) (sym k.right)
              (similar-on d false (none a) (none a) s.ip continuation s.pos s.pos l looks.on refl (stays d s.pos) (slice_get s.loops l) (slice_get t.loops l)
              (g.loops l (looks.on.inside l e refl))))

          still : (l : ℕ) → IsKeptIn a top w s t l → IsKeptIn a top (contents-world continuation) u v l
              → IsKeptIn a top w (record u { ip = continuation; pos = s.pos }) (record v { ip = continuation; pos = s.pos }) l
          still l k q = record { left = q.left ∙ k.left; right = q.right ∙ k.right; writes = looks.on.writes l k.writes }

      alike-resumed : (negate : Bool) (x y : Option State) → AlikeEnds (Agree a top (contents-world continuation) inner) x y
          → AlikeThreads (Agree a top w d) (after_lookaround negate (state_with_ip continuation s) x) (after_lookaround negate (record t { ip = continuation; pos = s.pos }) y)
      alike-resumed false None None h = tt
      alike-resumed true None None h = (agree-here continuation looks.on, tt)
      alike-resumed false (Some u) (Some v) h = (agree-behind u v h, tt)
      alike-resumed true (Some u) (Some v) h = tt
      alike-resumed negate None (Some v) h = absurd h
      alike-resumed negate (Some u) None h = absurd h

      alike-asked : (negate : Bool) → AreAlikeLookaroundSearches (λ w d. Agree a top w d) w d inner negate (state_at_next_ip s) (state_with_ip continuation s) (record t { ip = s.ip + 1; pos = s.pos }) (record t { ip = continuation; pos = s.pos })
      alike-asked negate = record {
        world = contents-world continuation;
        contents = agree-inside;
        behind = λ x y h. alike-resumed negate x y h;
      }

-- ---- The results of two states in one step

-- Both values are present, or neither is.
abbrev pub BothThere : {X : Type 0} → Option X → Option X → Type 0
BothThere None None = Unit {0}
BothThere (Some x) (Some y) = Unit {0}
BothThere _ _ = ⊥

pub both-there : {X : Type 0} (xs ys : List X) (i : ℕ) → length xs ≡ length ys → BothThere (slice_get xs i) (slice_get ys i)
both-there [] [] i e = tt
both-there (x ∷ xs) [] i e = absurd (omega (arith, e))
both-there [] (y ∷ ys) i e = absurd (omega (arith, e))
both-there (x ∷ xs) (y ∷ ys) zero e = tt
both-there (x ∷ xs) (y ∷ ys) (suc i) e = both-there xs ys i (omega (arith, e))

module _ (a : Liveness) (top : ℕ) (w : World) (d : Direction) where
  abbrev Same : State → State → Type 0
  Same s t = Agree a top w d s t

  abbrev SameNext : Next → Next → Type 0
  SameNext x y = AlikeNext (λ w d. Agree a top w d) w d x y

  abbrev SameStates : List State → List State → Type 0
  SameStates [] [] = Unit {0}
  SameStates (s ∷ ss) (t ∷ ts) = Same s t × SameStates ss ts
  SameStates _ _ = ⊥

  states-append : (ss ts us vs : List State) → SameStates ss ts → SameStates us vs → SameStates (ss ++ us) (ts ++ vs)
  states-append [] [] us vs h k = k
  states-append (s ∷ ss) (t ∷ ts) us vs h k = (h.0, states-append ss ts us vs h.1 k)
  states-append [] (t ∷ ts) us vs h k = absurd h
  states-append (s ∷ ss) [] us vs h k = absurd h

  states-choice_in_order_of_greediness : (greedy : Bool) (ss ts us vs : List State) → SameStates ss ts → SameStates us vs → SameStates (choice_in_order_of_greediness greedy ss us) (choice_in_order_of_greediness greedy ts vs)
  states-choice_in_order_of_greediness true ss ts us vs h k = states-append ss ts us vs h k
  states-choice_in_order_of_greediness false ss ts us vs h k = states-append us vs ss ts k h

  states-waiting : (ss ts : List State) → SameStates ss ts → AlikeThreads (Agree a top w d) (map waiting ss) (map waiting ts)
  states-waiting [] [] h = tt
  states-waiting (s ∷ ss) (t ∷ ts) h = (h.0, states-waiting ss ts h.1)
  states-waiting [] (t ∷ ts) h = absurd h
  states-waiting (s ∷ ss) [] h = absurd h

  states-in_turn : (ss ts : List State) → SameStates ss ts → AlikeThreads (Agree a top w d) (first_running_and_others_waiting ss) (first_running_and_others_waiting ts)
  states-in_turn [] [] h = tt
  states-in_turn (s ∷ ss) (t ∷ ts) h = (h.0, states-waiting ss ts h.1)
  states-in_turn [] (t ∷ ts) h = absurd h
  states-in_turn (s ∷ ss) [] h = absurd h

  states-if : (b c : Bool) (s t : State) → b ≡ c → (b ≡ true → Same s t) → SameStates (if b then s ∷ [] else []) (if c then t ∷ [] else [])
  states-if true true s t e h = (h refl, tt)
  states-if false false s t e h = tt
  states-if true false s t e h = cc
  states-if false true s t e h = cc

  states-map : (P : ℕ → Type 0) (f g : ℕ → State) → ((n : ℕ) → P n → Same (f n) (g n)) → (ns : List ℕ) → Each P ns → SameStates (map f ns) (map g ns)
  states-map P f g h [] k = tt
  states-map P f g h (n ∷ ns) k = (h n k.0, states-map P f g h ns k.1)

  same-some : {X : Type 0} (o : Option X) (f g : X → Next) → ((x : X) → o ≡ Some x → SameNext (f x) (g x)) → SameNext (with_some o f) (with_some o g)
  same-some None f g h = tt
  same-some (Some x) f g h = h x refl

  same-both : {X : Type 0} (o p : Option X) (f g : X → Next) → BothThere o p → ((x y : X) → o ≡ Some x → p ≡ Some y → SameNext (f x) (g y)) → SameNext (with_some o f) (with_some p g)
  same-both None None f g both h = tt
  same-both (Some x) (Some y) f g both h = h x y refl refl
  same-both None (Some y) f g both h = absurd both
  same-both (Some x) None f g both h = absurd both

  same-only : (b c : Bool) (x y : Next) → b ≡ c → (b ≡ true → SameNext x y) → SameNext (only_if b x) (only_if c y)
  same-only true true x y e h = h refl
  same-only false false x y e h = tt
  same-only true false x y e h = cc
  same-only false true x y e h = cc

  same-go_if : (b : Bool) (s t : State) → (b ≡ true → Same s t) → SameNext (go_if b s) (go_if b t)
  same-go_if true s t h = (h refl, tt)
  same-go_if false s t h = tt

  same-dropped : (b c : Bool) (x y : Next) → b ≡ c → (b ≡ false → SameNext x y) → SameNext (if b then goes [] else x) (if c then goes [] else y)
  same-dropped true true x y e h = tt
  same-dropped false false x y e h = h refl
  same-dropped true false x y e h = cc
  same-dropped false true x y e h = cc

  -- ---- Heads of loops

  module _ (s t : State) (g : Agree a top w d s t) where
    -- `beside_it` is the second state at the first one's instruction and offset.
    abbrev beside_it : State
    beside_it = record t { ip = s.ip; pos = s.pos }

    same-loop : (f : LoopFields) (begin j k : ℕ) → IsConsistentIterationStart a f s.ip begin → nat_lt j f.max_iters ≡ nat_lt k f.max_iters → nat_le f.min_iters j ≡ nat_le f.min_iters k
        → min j (a.up_to f.loop_id) ≡ min k (a.up_to f.loop_id) → (a.counted f.loop_id ≡ false → AreFew a top w d s t g f j k)
        → SameNext (iterate_or_leave_at_loop_head f begin j s) (iterate_or_leave_at_loop_head f begin k beside_it)
    same-loop f begin j k e again leave count few =
        same-only (nat_lt f.loop_id (length s.loops)) (nat_lt f.loop_id (length t.loops)) _ _ (ap (nat_lt f.loop_id) g.as_many_loops)
        (λ within. states-in_turn _ _
        (states-choice_in_order_of_greediness f.greedy _ _ _ _
        (states-if (nat_lt j f.max_iters) (nat_lt k f.max_iters) _ _ again (λ h. agree-entered a top w d s t g f begin j k e (ltb-true f.loop_id (length s.loops) within) count few (counted-ones h)))
        (states-if (nat_le f.min_iters j) (nat_le f.min_iters k) _ _ leave (λ h. agree-here a top w d s t g f.exit e.leave))))
      where
        counted-ones : nat_lt j f.max_iters ≡ true → a.counted f.loop_id ≡ true → (j ≤ a.up_to f.loop_id) × (k ≤ a.up_to f.loop_id)
        counted-ones h o =
            let most = e.few o in
            let less = ltb-true j f.max_iters h in
            let less' = ltb-true k f.max_iters (sym again ∙ h) in
            (omega (arith, most, less), omega (arith, most, less'))

    same-enter : (f : LoopFields) → IsConsistentIterationStart a f s.ip s.ip → SameNext (iterate_or_leave_at_loop_head f s.ip 0 s) (iterate_or_leave_at_loop_head f s.ip 0 beside_it)
    same-enter f e = same-loop f s.ip 0 0 e refl refl refl (λ h. (none-yet, none-yet))
      where
        none-yet : 0 + units_left_in_direction top d s.pos ≤ top + a.up_to f.loop_id
        none-yet = few-first top d s.pos 0 (a.up_to f.loop_id) (omega arith) g.within

    same-again : (f : LoopFields) (begin : ℕ) (x y : LoopData) → IsConsistentIterationEnd a top f s.ip begin → Similar a top d s.pos s.ip f.loop_id x y
        → SameNext (effect_at_iteration_end f begin x s) (effect_at_iteration_end f begin y beside_it)
    same-again f begin x y r h = by r.decides
      where
        here : (x.entry == s.pos) ≡ (y.entry == s.pos)
        here = from (either (a.empty s.ip f.loop_id) (a.moved s.ip f.loop_id) r.empty)
          where
            from : Either (a.empty s.ip f.loop_id) (a.moved s.ip f.loop_id) → (x.entry == s.pos) ≡ (y.entry == s.pos)
            from (first e) = h.empty e
            from (second e) = h.left.moved e ∙ sym (h.right.moved e)

        both : (can : nat_lt x.iters f.max_iters ≡ nat_lt y.iters f.max_iters)
            → (drop : (x.entry == s.pos && nat_lt f.min_iters (x.iters + 1)) ≡ (y.entry == s.pos && nat_lt f.min_iters (y.iters + 1)))
            → ((x.entry == s.pos && nat_lt f.min_iters (x.iters + 1)) ≡ false → SameNext (iterate_or_leave_at_loop_head f begin (x.iters + 1) s) (iterate_or_leave_at_loop_head f begin (y.iters + 1) beside_it))
            → SameNext (effect_at_iteration_end f begin x s) (effect_at_iteration_end f begin y beside_it)
        both can drop more = same-only _ _ _ _ can (λ h. same-dropped _ _ _ _ drop more)

        bounded : (z : LoopData) → IsSound a top d s.pos s.ip f.loop_id z → IsUnlimited a top f → nat_lt z.iters f.max_iters ≡ true
        bounded z sound u = let few = sound.few u.counted in let far = u.beyond in lt-ltb z.iters f.max_iters (omega (arith, few, far))

        on : (z : LoopData) → IsSound a top d s.pos s.ip f.loop_id z → IsUnlimited a top f → MayBeEmpty (z.entry == s.pos) f.min_iters (a.up_to f.loop_id)
            → (z.entry == s.pos && nat_lt f.min_iters (z.iters + 1)) ≡ false → z.iters + 1 + units_left_in_direction top d s.pos ≤ top + a.up_to f.loop_id
        on z sound u may q = few-more top d z.entry s.pos z.iters (a.up_to f.loop_id) f.min_iters sound.passed (sound.few u.counted) g.within may (z.entry == s.pos) refl q

        unlimited : IsUnlimited a top f → f.min_iters ≤ a.up_to f.loop_id + 1
            → MayBeEmpty (x.entry == s.pos) f.min_iters (a.up_to f.loop_id) → MayBeEmpty (y.entry == s.pos) f.min_iters (a.up_to f.loop_id)
            → (drop : (x.entry == s.pos && nat_lt f.min_iters (x.iters + 1)) ≡ (y.entry == s.pos && nat_lt f.min_iters (y.iters + 1)))
            → SameNext (effect_at_iteration_end f begin x s) (effect_at_iteration_end f begin y beside_it)
        unlimited u le p p' drop =
            both (bounded x h.left u ∙ sym (bounded y h.right u)) drop (λ q. more (on x h.left u p q) (on y h.right u p' (sym drop ∙ q)))
          where
            more : x.iters + 1 + units_left_in_direction top d s.pos ≤ top + a.up_to f.loop_id → y.iters + 1 + units_left_in_direction top d s.pos ≤ top + a.up_to f.loop_id
                → SameNext (iterate_or_leave_at_loop_head f begin (x.iters + 1) s) (iterate_or_leave_at_loop_head f begin (y.iters + 1) beside_it)
            more i j =
                let far = u.beyond in
                same-loop f begin (x.iters + 1) (y.iters + 1) r.enters
                (lt-ltb (x.iters + 1) f.max_iters (omega (arith, i, far)) ∙ sym (lt-ltb (y.iters + 1) f.max_iters (omega (arith, j, far))))
                (both-come f.min_iters (a.up_to f.loop_id) x.iters y.iters h.count le)
                (one-more-each x.iters y.iters (a.up_to f.loop_id) h.count) (λ c. (i, j))

        by : LoopCountDecidesExit a top f (a.moved s.ip f.loop_id) → SameNext (effect_at_iteration_end f begin x s) (effect_at_iteration_end f begin y beside_it)
        by (by_count c) =
            let same = same-count x.iters y.iters (a.up_to f.loop_id) h.count (h.left.all c) (h.right.all c) in
            both (ap (λ n. nat_lt n f.max_iters) same)
            (ap (λ b. b && nat_lt f.min_iters (x.iters + 1)) here ∙ ap (λ n. y.entry == s.pos && nat_lt f.min_iters (n + 1)) same)
            (λ q. same-loop f begin (x.iters + 1) (y.iters + 1) r.enters (ap (λ n. nat_lt (n + 1) f.max_iters) same) (ap (λ n. nat_le f.min_iters (n + 1)) same)
            (one-more-each x.iters y.iters (a.up_to f.loop_id) h.count) (λ e. cc))
        by (by_minimum u asked) =
            unlimited u (omega (arith, asked)) (inl asked) (inl asked)
            (ap (λ b. b && nat_lt f.min_iters (x.iters + 1)) here
            ∙ ap (λ b. y.entry == s.pos && b) (both-past f.min_iters (a.up_to f.loop_id) x.iters y.iters h.count asked))
        by (never_empty u asked moved) =
            let p = h.left.moved moved in
            let q = h.right.moved moved in
            unlimited u asked (inr p) (inr q)
            (ap (λ b. b && nat_lt f.min_iters (x.iters + 1)) p ∙ sym (ap (λ b. b && nat_lt f.min_iters (y.iters + 1)) q))

    same-repeated : (o : Option Insn) (begin : ℕ) → IsRepeated a top o s.ip begin → SameNext (loop_again_effect o begin s) (loop_again_effect o begin beside_it)
    same-repeated (Some (EnterLoop f)) begin r =
        with_data (slice_get s.loops f.loop_id) (slice_get t.loops f.loop_id) (g.loops f.loop_id r.inside)
      where
        with_data : (o p : Option LoopData) → SimilarAt a top d s.pos s.ip f.loop_id o p → SameNext (with_some o (λ x. effect_at_iteration_end f begin x s)) (with_some p (λ x. effect_at_iteration_end f begin x beside_it))
        with_data None None h = tt
        with_data (Some x) (Some y) h = same-again f begin x y r h
        with_data None (Some y) h = absurd h
        with_data (Some x) None h = absurd h
    same-repeated _ begin r = tt

-- ---- Steps of states that agree

module _ (program : Program) (text : Text) (is : HasRisingPlaceOffsets text) (a : Liveness) (w : World) (d : Direction) (s t : State) (g : Agree a (units text) w d s t) where
  abbrev Turn : Next → Next → Type 0
  Turn x y = AlikeNext (λ w d. Agree a (units text) w d) w d x y

  abbrev there : State
  there = record t { ip = s.ip; pos = s.pos }

  moves-less : (m n at to : ℕ) → m ≤ n → Moves d (nat_lt 0 n) at to → Moves d (nat_lt 0 m) at to
  moves-less m n at to le h = record { passed = h.passed; further = λ e. h.further (let less = ltb-true 0 m e in lt-ltb 0 n (omega (arith, less, le))) }

  moves-any : (reads : Bool) (at to : ℕ) → Moves d reads at to → Moves d false at to
  moves-any reads at to h = record { passed = h.passed; further = λ e. cc }

  turn-read : (o : Option (ℕ → Bool)) → IsConsistentPlainEdge a true s.ip (s.ip + 1) → Turn (with_some o (λ test. read_one text test d s)) (with_some o (λ test. read_one text test d there))
  turn-read o leads =
      same-some a (units text) w d o _ _ (λ test e. same-some a (units text) w d (place_at text s.pos) _ _ (λ p at.
      same-go_if a (units text) w d (is_some_and (next_character text d p) test) _ _ (λ h.
      agree-on a (units text) w d s t g true (s.ip + 1) (offset text (moved text d 1 p)) leads (moves-one text is d s.pos p test at h) (offset-inside text is (moved text d 1 p)))))

  turn-stay : (holds : ℕ → Bool) → IsConsistentPlainEdge a false s.ip (s.ip + 1) → Turn (stay_if text holds s) (stay_if text holds there)
  turn-stay holds leads =
      same-some a (units text) w d (place_at text s.pos) _ _ (λ p at.
      same-go_if a (units text) w d (holds p) _ _ (λ h.
      agree-on a (units text) w d s t g false (s.ip + 1) (offset text p) leads (stays-at d s.pos (offset text p) (offset-place_at text s.pos p is at).0) (offset-inside text is p)))

  turn-again : (sameness : Sameness) (from to p : ℕ) → place_at text s.pos ≡ Some p → IsConsistentPlainEdge a false s.ip (s.ip + 1) → Turn (backref_read text sameness d from to p s) (backref_read text sameness d from to p there)
  turn-again sameness from to p at leads =
      same-go_if a (units text) w d _ _ _ (λ h.
      agree-on a (units text) w d s t g false (s.ip + 1) _ leads (moves-any _ s.pos _ (moves-on text is d s.pos p _ at (leb-true _ _ (and-left _ _ h)))) (offset-inside text is _))

  turn-group : (sameness : Sameness) (o : Option (ℕ × ℕ)) → IsConsistentPlainEdge a false s.ip (s.ip + 1) → Turn (read_group text sameness d o s) (read_group text sameness d o there)
  turn-group sameness None leads =
      same-some a (units text) w d (place_at text s.pos) _ _ (λ p at.
      (agree-on a (units text) w d s t g false (s.ip + 1) (offset text p) leads (stays-at d s.pos (offset text p) (offset-place_at text s.pos p is at).0) (offset-inside text is p), tt))
  turn-group sameness (Some range) leads =
      same-some a (units text) w d (place_at text s.pos) _ _ (λ p at.
      same-some a (units text) w d (place_at text range.0) _ _ (λ from at_from.
      same-some a (units text) w d (place_at text range.1) _ _ (λ to at_to.
      turn-again sameness from to p at leads)))

  -- `Moves` relates an offset to the one behind literal bytes that are there.
  bytes-move : (d : Direction) (all bytes : List ℕ) (at : ℕ) → occurs_beside_offset all d bytes at ≡ true → Moves d (nat_lt 0 (length bytes)) at (offset_moved_in_direction d (length bytes) at)
  bytes-move rightwards all bytes at h = record { passed = omega arith; further = λ e q. let some = ltb-true 0 (length bytes) e in omega (arith, some, q) }
  bytes-move leftwards all bytes at h = record {
    passed = omega arith;
    further = λ e q.
        let some = ltb-true 0 (length bytes) e in
        let short = stands-length nat_eq (reverse bytes) (reverse (take at all)) (sym (starts-stands (reverse (take at all)) (reverse bytes)) ∙ h) in
        let m = length-reverse bytes in
        let n = length-reverse (take at all) in
        let k = length-take at all in
        omega (arith, some, q, short, m, n, k);
  }

  turn-bytes : (bytes : List ℕ) → IsConsistentPlainEdge a (nat_lt 0 (length bytes)) s.ip (s.ip + 1) → NextIn (units text) (read_bytes text bytes d s) → Turn (read_bytes text bytes d s) (read_bytes text bytes d there)
  turn-bytes bytes leads inside =
      same-go_if a (units text) w d (occurs_beside_offset (encode_utf8_all text.characters) d bytes s.pos) _ _ (λ h.
      agree-on a (units text) w d s t g (nat_lt 0 (length bytes)) (s.ip + 1) (offset_moved_in_direction d (length bytes) s.pos) leads
      (bytes-move d (encode_utf8_all text.characters) bytes s.pos h) (by (occurs_beside_offset (encode_utf8_all text.characters) d bytes s.pos) h inside))
    where
      by : (b : Bool) → b ≡ true → NextIn (units text) (go_if b (record s { ip = s.ip + 1; pos = offset_moved_in_direction d (length bytes) s.pos })) → offset_moved_in_direction d (length bytes) s.pos ≤ units text
      by true e h = h.0
      by false e h = cc

  -- States that agree still agree behind a loop over one character.
  module _ (least most : ℕ) (greedy : Bool) (leads : IsConsistentPlainEdge a (nat_lt 0 least) s.ip (s.ip + 2)) where
    module _ (test : ℕ → Bool) (p : ℕ) (at : place_at text s.pos ≡ Some p) where
      abbrev last : ℕ
      last = min most (prefix_len test (nearest_first text d p))

      abbrev IsReached : ℕ → Type 0
      IsReached n = (least ≤ n) × (n ≤ characters_ahead text d p)

      few : last ≤ characters_ahead text d p
      few =
          let l = prefix_len-le-length test (nearest_first text d p) in
          let m = length-nearest text d p (offset-place_at text s.pos p is at).1 in
          omega (arith, l, m)

      reached : Each IsReached (numbers_from least (last + 1 - least))
      reached = Each-map _ IsReached (λ n h. let lo = h.0 in let hi = h.1 in let f = few in (lo, omega (arith, lo, hi, f))) _ (numbers_between least (last + 1 - least))

      in_order : (greedy : Bool) → Each IsReached (if greedy then reverse (numbers_from least (last + 1 - least)) else numbers_from least (last + 1 - least))
      in_order true = Each-reverse IsReached _ reached
      in_order false = reached

      states : SameStates a (units text) w d (char_loop_states text greedy d least last p s) (char_loop_states text greedy d least last p there)
      states =
          states-map a (units text) w d IsReached _ _
          (λ n h. agree-on a (units text) w d s t g (nat_lt 0 least) (s.ip + 2) (offset text (moved text d n p)) leads
          (moves-less least n s.pos _ h.0 (moves-on text is d s.pos p n at h.1)) (offset-inside text is (moved text d n p)))
          _ (in_order greedy)

    turn-run : (o : Option (ℕ → Bool))
        → Turn (with_some o (λ test. with_some (place_at text s.pos) (λ p. scan text least most greedy test d p s)))
        (with_some o (λ test. with_some (place_at text s.pos) (λ p. scan text least most greedy test d p there)))
    turn-run o =
        same-some a (units text) w d o _ _ (λ test e. same-some a (units text) w d (place_at text s.pos) _ _ (λ p at.
        (refl, states-in_turn a (units text) w d _ _ (states test p at))))

  turn-closed : (id : ℕ) → IsConsistentPlainEdge a false s.ip (s.ip + 1) → (a.groups ≡ true → a.start s.ip id ≡ true) → Turn (act_on program text d (Some (EndCaptureGroup id)) s) (act_on program text d (Some (EndCaptureGroup id)) there)
  turn-closed id leads asks_start =
      same-only a (units text) w d (nat_lt id (length s.groups)) (nat_lt id (length t.groups)) _ _ (ap (nat_lt id) g.as_many_groups) (λ h.
      same-both a (units text) w d (slice_get s.starts id) (slice_get t.starts id) _ _ (both-there s.starts t.starts id g.as_many_starts) (λ x y e f. (
        groups-on a (units text) w d s t g false (s.ip + 1) s.pos (slice_set s.groups id (Some (range_swapped_if_leftwards d x s.pos))) (slice_set t.groups id (Some (range_swapped_if_leftwards d y s.pos))) leads (stays d s.pos) g.within
            (length-set s.groups id (Some (range_swapped_if_leftwards d x s.pos)) ∙ g.as_many_groups ∙ sym (length-set t.groups id (Some (range_swapped_if_leftwards d y s.pos))))
            (λ q. ap (λ xs. slice_set xs id (Some (range_swapped_if_leftwards d x s.pos))) (g.groups q)
            ∙ ap (λ v. slice_set t.groups id (Some (range_swapped_if_leftwards d v s.pos))) (same-start x y (sym e ∙ g.starts id (or_left (a.start s.ip id) (w.starts id) (asks_start q)) ∙ f))),
        tt,
      )))
    where
      same-start : (x y : ℕ) → Some x ≡ Some y → x ≡ y
      same-start x y e = cc

  turn-begun : (id : ℕ) → IsConsistentEdge a false (λ i. i == id) (none a) s.ip (s.ip + 1) → Turn (act_on program text d (Some (BeginCaptureGroup id)) s) (act_on program text d (Some (BeginCaptureGroup id)) there)
  turn-begun id leads =
      same-only a (units text) w d (nat_lt id (length s.groups) && nat_lt id (length s.starts)) (nat_lt id (length t.groups) && nat_lt id (length t.starts)) _ _
      (ap (λ n. nat_lt id n && nat_lt id (length s.starts)) g.as_many_groups ∙ ap (λ n. nat_lt id (length t.groups) && nat_lt id n) g.as_many_starts)
      (λ h. (agree-begun a (units text) w d s t g id leads (ltb-true id (length s.starts) (and-right _ _ h)), tt))

  turn-reset : (id : ℕ) → IsConsistentPlainEdge a false s.ip (s.ip + 1) → Turn (act_on program text d (Some (ResetCaptureGroup id)) s) (act_on program text d (Some (ResetCaptureGroup id)) there)
  turn-reset id leads =
      same-only a (units text) w d (nat_lt id (length s.groups)) (nat_lt id (length t.groups)) _ _ (ap (nat_lt id) g.as_many_groups)
      (λ h. (
        groups-on a (units text) w d s t g false (s.ip + 1) s.pos (slice_set s.groups id None) (slice_set t.groups id None) leads (stays d s.pos) g.within
            (length-set s.groups id None ∙ g.as_many_groups ∙ sym (length-set t.groups id None)) (λ q. ap (λ (xs : Groups). slice_set xs id None) (g.groups q)),
        tt,
      ))

  turn-back : (group : ℕ) (sameness : Sameness) → IsConsistentPlainEdge a false s.ip (s.ip + 1) → a.groups ≡ true → Turn (act_on program text d (Some (BackRef group sameness)) s) (act_on program text d (Some (BackRef group sameness)) there)
  turn-back group sameness leads asked_groups =
      subst (λ (xs : Groups). Turn (with_some (slice_get s.groups group) (λ range. read_group text sameness d range s)) (with_some (slice_get xs group) (λ range. read_group text sameness d range there)))
      (g.groups asked_groups)
      (same-some a (units text) w d (slice_get s.groups group) _ _ (λ range e. turn-group sameness range leads))

  turn-alike : (o : Option Insn) → IsSoundLivenessAt a (units text) program o s.ip → NextIn (units text) (act_on program text d o s) → Turn (act_on program text d o s) (act_on program text d o there)
  turn-alike None r inside = tt
  turn-alike (Some Goal) r inside =
      agree-of a (units text) _ _ _ _ refl refl g.within g.as_many_groups g.groups g.as_many_starts g.starts g.as_many_loops
      g.loops
      (λ l h. let k = g.kept l h in record { left = k.left; right = k.right; writes = k.writes })
  turn-alike (Some JustFail) r inside = tt
  turn-alike (Some (Char c)) r inside = turn-read (test_of program (Some (Char c))) r
  turn-alike (Some (CharSet members)) r inside = turn-read (test_of program (Some (CharSet members))) r
  turn-alike (Some (ByteSet members)) r inside = turn-read (test_of program (Some (ByteSet members))) r
  turn-alike (Some (ByteSeq bytes)) r inside = turn-bytes bytes r inside
  turn-alike (Some (AsciiBracket members)) r inside = turn-read (test_of program (Some (AsciiBracket members))) r
  turn-alike (Some (Bracket index)) r inside = turn-read (test_of program (Some (Bracket index))) r
  turn-alike (Some MatchAny) r inside = turn-read (test_of program (Some MatchAny)) r
  turn-alike (Some MatchAnyExceptLineTerminator) r inside = turn-read (test_of program (Some MatchAnyExceptLineTerminator)) r
  turn-alike (Some (Alt secondary)) r inside = (agree-here a (units text) w d s t g (s.ip + 1) r.0, (agree-here a (units text) w d s t g secondary r.1, tt))
  turn-alike (Some (Jump target)) r inside = (agree-here a (units text) w d s t g target r, tt)
  turn-alike (Some (EnterLoop f)) r inside = same-enter a (units text) w d s t g f r
  turn-alike (Some (LoopAgain begin)) r inside = same-repeated a (units text) w d s t g (slice_get program.insns begin) begin r
  turn-alike (Some (ResetCaptureGroup id)) r inside = turn-reset id r
  turn-alike (Some (Loop1CharBody least most greedy)) r inside = turn-run least most greedy r (test_of program (slice_get program.insns (s.ip + 1)))
  turn-alike (Some (BeginCaptureGroup id)) r inside = turn-begun id r
  turn-alike (Some (EndCaptureGroup id)) r inside = turn-closed id r.0 r.1
  turn-alike (Some (BackRef group sameness)) r inside = turn-back group sameness r.0 r.1
  turn-alike (Some (Lookahead negate start_group end_group continuation)) r inside = (refl, refl, alike-asked a (units text) w d s t g continuation r rightwards negate)
  turn-alike (Some (Lookbehind negate start_group end_group continuation)) r inside = (refl, refl, alike-asked a (units text) w d s t g continuation r leftwards negate)
  turn-alike (Some _) r inside = turn-stay _ r

-- ---- The law

module _ (program : Program) (text : Text) (a : Liveness) (acc : IsLivenessFor program text a) where
  pub agree-kept : IsBisimulation (λ w d. Agree a (units text) w d) program text
  agree-kept = record { kept = λ w d s t g. by w d s t g }
    where
      by : (w : World) (d : Direction) (s t : State) → Agree a (units text) w d s t → AlikeNext (λ w d. Agree a (units text) w d) w d (act program text d s) (act program text d t)
      by w d s t g =
          subst (λ i. AlikeNext (λ w d. Agree a (units text) w d) w d (act program text d s) (act program text d (record t { ip = i }))) g.ip
          (subst (λ p. AlikeNext (λ w d. Agree a (units text) w d) w d (act program text d s) (act program text d (record t { ip = s.ip; pos = p }))) g.pos
          (turn-alike program text acc.is_text a w d s t g (slice_get program.insns s.ip) (acc.right.right s.ip)
          (act-inside text acc.is_text program d (slice_get program.insns s.ip) s (acc.bytes s.ip) g.within)))

  pub threads-alike : (turns : ℕ) (w : World) (d : Direction) (ts us : List Thread) → AlikeThreads (Agree a (units text) w d) ts us
      → AlikeAnswers (Agree a (units text) w d) (search program text turns d ts) (search program text turns d us)
  threads-alike turns w d ts us h = end-alike (λ w d. Agree a (units text) w d) program text agree-kept turns w d ts us h

pub agreeing-alike : LiveDataDecideSearchResult
agreeing-alike program text a acc turns d s t g = threads-alike program text a acc turns outermost d (running s ∷ []) (running t ∷ []) (g, tt)

pub rows-alike : LiveDataDecideThreadLists
rows-alike program text a acc turns w d ts us h = threads-alike program text a acc turns w d ts us h
