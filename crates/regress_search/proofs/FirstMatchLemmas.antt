-- The first match from an offset is the one found there, or else the first match from the next
-- offset.
use Rattle.std.proofs.Common.{◌≡◌, ℕ, ◌+◌, ◌-◌, ◌<◌, ◌≤◌, List, [], ◌∷◌, Option, Some, None, Bool, true, false, refl, ap, ap₂, sym, ◌∙◌, subst, arith, ltb→lt, lt-ltb, nltb→le, get_or, le_refl}
use Rattle.std.proofs.lemmas.Bool.{le-ltb}
use Rattle.std.proofs.lemmas.Option.{slice_get_past, slice_get-get_or}
use Rattle.std.specs.Prelude.{option_map, option_and_then, if◌then◌else◌, nat_lt, is_some, IsTrue}
use Rattle.std.specs.Option.{option_or}
use Rattle.regex_meaning.specs.Tree.{Tree, Flags}
use Rattle.regex_meaning.specs.Text.{Text, rightwards, last_place}
use Rattle.regex_meaning.specs.CodeUnitOffsets.{HasRisingPlaceOffsets, IsBoundary, offset, place_at, read, read_at, units}
use Rattle.regex_meaning.specs.Outcomes.{Groups, Outcome}
use Rattle.regex_meaning.specs.FirstAndAllMatches.{Found, first_outcome, match_at, first_match, place_after_match, no_groups}
use Rattle.regex_meaning.specs.MatchGroupsByNumberAndName.{Answer, answer, group_names_by_id}
use Rattle.regex_meaning.specs.SearchAnswers.{first_found, first_answer, next_start}
use Rattle.regex_meaning.specs.OutcomesWithStepTicks.{TickOrOutcome, tick, pair, outcomes_without_ticks, items_at}
use Rattle.regex_meaning.proofs.OutcomeTicksLemmas.{pairs-ticked}
use Rattle.regex_meaning.proofs.FirstAndAllMatchesLemmas.{first-unfolds, first-past, stands-first, StandsFrom}
use Rattle.regex_meaning.proofs.CodeUnitOffsetsLemmas.{place_at-offset, offset-place_at, offset-IsBoundary, offset-less, offset-le}
use Rattle.regex_pattern_front.specs.AstToSpecTree.{tree_of}
use Rattle.regex_pattern_front.specs.declared.ir.Regex.{Regex}
use Rattle.regress_program.specs.CompilationOfTreesAsFunction.{compiled}
use Rattle.regress_machine.specs.SearchFindsFirstOutcomeAtPlace.{first_outcome_among_ticks, end_in_offsets, groups_in_offsets}
use Rattle.regress_search.specs.MatchesAsSpecAnswers.{answer_from_parts}
use Rattle.regress_search.specs.AttemptsAndStarts.{match_end_and_groups_at, next_search_offset}

-- ---- Parts of answers

pub same-answer : (a b c d : ℕ) (xs ys : Groups) (ns ms : List (List ℕ)) → a ≡ c → b ≡ d → xs ≡ ys → ns ≡ ms
    → answer_from_parts a b xs ns ≡ answer_from_parts c d ys ms
same-answer a b c d xs ys ns ms p q r s = rw (p, q, r, s) refl

pub names-compiled : (tree : Tree) → (compiled tree).group_names ≡ group_names_by_id tree.root
unfolding compiled
names-compiled tree = refl

pub flags-compiled : (tree : Tree) → (compiled tree).flags ≡ tree.flags
unfolding compiled
flags-compiled tree = refl

-- A text made with a program's flags has the Unicode mode of the program's pattern.
pub read-as : {text made : Text} {flags : Flags} {re run : Regex} → text ≡ made → made.unicode ≡ flags.unicode → flags ≡ (compiled (tree_of run)).flags → run ≡ re
    → text.unicode ≡ (tree_of re).flags.unicode
read-as {run = run} is said told same =
    ap (λ (t : Text). t.unicode) is ∙ said ∙ ap (λ (f : Flags). f.unicode) (told ∙ flags-compiled (tree_of run)) ∙ ap (λ (re : Regex). (tree_of re).flags.unicode) same

-- ---- Items of an attempt

abbrev pub found_by : (place : ℕ) → Outcome → Found
found_by p o = record { start = p; end = o.end; groups = o.groups }

first-pairs : (p : ℕ) (items : List TickOrOutcome) → first_outcome p (outcomes_without_ticks items) ≡ option_map (found_by p) (first_outcome_among_ticks items)
first-pairs p [] = refl
first-pairs p (tick ∷ items) = first-pairs p items
first-pairs p (pair o ∷ items) = refl

module _ (tree : Tree) (text : Text) where
  -- The first match from `first` is that from the boundary `at`.
  pub record GoesFrom (first at : ℕ) : Type 0 where
    pub same : first_found tree.root text first ≡ first_found tree.root text at
    pub boundary : IsBoundary text at

module _ (tree : Tree) (text : Text) (is : HasRisingPlaceOffsets text) where
  pub match-first : (p : ℕ) → match_at tree.root text p ≡ option_map (found_by p) (first_outcome_among_ticks (items_at tree text p))
  match-first p = ap (first_outcome p) (sym (pairs-ticked text tree.root rightwards p (no_groups tree.root))) ∙ first-pairs p (items_at tree text p)

  -- ---- Attempts at the offset of a place

  end-at : (at p : ℕ) → place_at text at ≡ Some p → match_end_and_groups_at tree text at ≡ option_map (end_in_offsets text) (first_outcome_among_ticks (items_at tree text p))
  end-at at p e = ap (option_and_then (λ place. option_map (end_in_offsets text) (first_outcome_among_ticks (items_at tree text place)))) e

  pub found-at : (at p : ℕ) → place_at text at ≡ Some p → first_found tree.root text at ≡ first_match tree.root text p
  found-at at p e = ap (option_and_then (first_match tree.root text)) e

  -- The first answer from `at` ends at the boundary `e`, where the list continues.
  pub record IsFoundAt (at e : ℕ) (gs : Groups) : Type 0 where
    pub first : first_answer tree.root text at ≡ Some (record { range = (at, e); captures = gs; names = group_names_by_id tree.root })
    pub behind : next_start tree.root text at ≡ next_search_offset text at e
    pub boundary : IsBoundary text e

  read-place : (p : ℕ) → p ≤ last_place text → read text rightwards (offset text p) ≡ read_at text rightwards p
  read-place p inside = ap (option_and_then (read_at text rightwards)) (place_at-offset text p is inside)

  pub read-inside : (p : ℕ) → p < last_place text → (c : ℕ) × (read text rightwards (offset text p) ≡ Some (c, offset text (p + 1)))
  read-inside p less = (
    get_or text.characters p 0,
    read-place p (omega arith) ∙ ap (option_map (λ (c : ℕ). (c, offset text (p + 1)))) (slice_get-get_or text.characters p 0 less),
  )

  pub read-end : (p : ℕ) → p ≤ last_place text → last_place text ≤ p → read text rightwards (offset text p) ≡ None
  read-end p inside past = read-place p inside ∙ ap (option_map (λ (c : ℕ). (c, offset text (p + 1)))) (slice_get_past text.characters p past)

  behind-end : (e : ℕ) → e ≤ last_place text
      → option_map (offset text) (if nat_lt e (last_place text) then Some (e + 1) else None) ≡ option_map (λ (r : ℕ × ℕ). r.1) (read text rightwards (offset text e))
  behind-end e inside = by (nat_lt e (last_place text)) refl
    where
      by : (b : Bool) → nat_lt e (last_place text) ≡ b
          → option_map (offset text) (if b then Some (e + 1) else None) ≡ option_map (λ (r : ℕ × ℕ). r.1) (read text rightwards (offset text e))
      by true q = let less = ltb→lt e (last_place text) (rw q tt) in sym (ap (option_map (λ (r : ℕ × ℕ). r.1)) (read-inside e less).1)
      by false q = let past = nltb→le e (last_place text) (rw q tt) in sym (ap (option_map (λ (r : ℕ × ℕ). r.1)) (read-end e inside past))

  behind-is : (m : Found) → m.start ≤ m.end → m.end ≤ last_place text
      → option_map (offset text) (place_after_match tree.root text m) ≡ next_search_offset text (offset text m.start) (offset text m.end)
  behind-is m le inside = by (nat_lt m.start m.end) refl
    where
      by : (b : Bool) → nat_lt m.start m.end ≡ b
          → option_map (offset text) (if b then Some m.end else if nat_lt m.end (last_place text) then Some (m.end + 1) else None)
          ≡ next_search_offset text (offset text m.start) (offset text m.end)
      by true q =
          let less = offset-less text m.start m.end is (ltb→lt m.start m.end (rw q tt)) inside in
          sym (ap (λ b. if b then Some (offset text m.end) else option_map (λ (r : ℕ × ℕ). r.1) (read text rightwards (offset text m.end))) (lt-ltb (offset text m.start) (offset text m.end) less))
      by false q =
          let same : m.start ≡ m.end = let ge = nltb→le m.start m.end (rw q tt) in omega arith in
          let e = ap (offset text) same in
          let not_less : nat_lt (offset text m.start) (offset text m.end) ≡ false = le-ltb (offset text m.start) (offset text m.end) (omega (arith, e)) in
          behind-end m.end inside
          ∙ sym (ap (λ b. if b then Some (offset text m.end) else option_map (λ (r : ℕ × ℕ). r.1) (read text rightwards (offset text m.end))) not_less)

  -- If the first outcome at a place has this end and these groups, a match is found there.
  found-by : (at p e : ℕ) (gs : Groups) (o : Outcome) → place_at text at ≡ Some p → first_outcome_among_ticks (items_at tree text p) ≡ Some o
      → end_in_offsets text o ≡ (e, gs) → IsFoundAt at e gs
  found-by at p e gs o q fp same =
      let place = offset-place_at text at p is q in
      let m : Found = found_by p o in
      let first : first_match tree.root text p ≡ Some m =
      first-unfolds tree.root text p place.1 ∙ ap (λ x. option_or x (first_match tree.root text (p + 1))) (match-first p ∙ ap (option_map (found_by p)) fp) in
      let stands = subst (StandsFrom tree.root text p) first (stands-first tree.root text p) in
      let here : first_found tree.root text at ≡ Some m = found-at at p q ∙ first in
      let end_is : offset text o.end ≡ e = ap (λ (x : ℕ × Groups). x.0) same in
      let groups_are : groups_in_offsets text o.groups ≡ gs = ap (λ (x : ℕ × Groups). x.1) same in
      record {
        first = ap (option_map (answer tree.root text)) here
            ∙ ap Some (same-answer (offset text p) (offset text o.end) at e (groups_in_offsets text o.groups) gs (group_names_by_id tree.root) (group_names_by_id tree.root) place.0 end_is groups_are refl);
        behind = ap (λ x. option_map (offset text) (option_and_then (place_after_match tree.root text) x)) here
            ∙ behind-is m stands.1 stands.2 ∙ ap₂ (next_search_offset text) place.0 end_is;
        boundary = subst (IsBoundary text) end_is (offset-IsBoundary text o.end is stands.2);
      }

  pub found-here : (at e : ℕ) (gs : Groups) → IsBoundary text at → match_end_and_groups_at tree text at ≡ Some (e, gs) → IsFoundAt at e gs
  found-here at e gs on end = by (place_at text at) refl on
    where
      by_first : (p : ℕ) → place_at text at ≡ Some p → (fp : Option Outcome) → first_outcome_among_ticks (items_at tree text p) ≡ fp → option_map (end_in_offsets text) fp ≡ Some (e, gs) → IsFoundAt at e gs
      by_first p q None f g = cc
      by_first p q (Some o) f g = found-by at p e gs o q f (cc)

      by : (o : Option ℕ) → place_at text at ≡ o → IsTrue (is_some o) → IsFoundAt at e gs
      by None q on = cc
      by (Some p) q on =
          by_first p q (first_outcome_among_ticks (items_at tree text p)) refl (sym (end-at at p q) ∙ end)

  -- If an attempt finds no end, no match begins at the place.
  pub none-at : (at p : ℕ) → place_at text at ≡ Some p → match_end_and_groups_at tree text at ≡ None → match_at tree.root text p ≡ None
  none-at at p q none = match-first p ∙ by (first_outcome_among_ticks (items_at tree text p)) (sym (end-at at p q) ∙ none)
    where
      by : (fp : Option Outcome) → option_map (end_in_offsets text) fp ≡ None → option_map (found_by p) fp ≡ None
      by None e = refl
      by (Some o) e = cc

  -- If no match begins at the place, an attempt finds no end.
  pub vain-at : (at p : ℕ) → place_at text at ≡ Some p → match_at tree.root text p ≡ None → match_end_and_groups_at tree text at ≡ None
  vain-at at p q none = end-at at p q ∙ by (first_outcome_among_ticks (items_at tree text p)) (sym (match-first p) ∙ none)
    where
      by : (fp : Option Outcome) → option_map (found_by p) fp ≡ None → option_map (end_in_offsets text) fp ≡ None
      by None e = refl
      by (Some o) e = cc

  pub on-from : (at p : ℕ) → place_at text at ≡ Some p → match_end_and_groups_at tree text at ≡ None → first_found tree.root text at ≡ first_match tree.root text (p + 1)
  on-from at p q none =
      let place = offset-place_at text at p is q in
      found-at at p q ∙ first-unfolds tree.root text p place.1 ∙ ap (λ x. option_or x (first_match tree.root text (p + 1))) (none-at at p q none)

  -- The first match from `at` is that from the later boundary `next`.
  pub record GoesOnAt (at next : ℕ) : Type 0 where
    pub same : first_found tree.root text at ≡ first_found tree.root text next
    pub boundary : IsBoundary text next
    pub ahead : at < next
    pub inside : next ≤ units text

  later : (at p next : ℕ) → offset text p ≡ at → offset text p < offset text (p + 1) → offset text (p + 1) ≡ next → at < next
  later at p next a less b = omega (arith, a, b)

  pub found-on : (at next c : ℕ) → match_end_and_groups_at tree text at ≡ None → read text rightwards at ≡ Some (c, next) → GoesOnAt at next
  found-on at next c none on = by (place_at text at) refl
    where
      by : (o : Option ℕ) → place_at text at ≡ o → GoesOnAt at next
      by None q = let none_read : Option (ℕ × ℕ) = None in let no : none_read ≡ Some (c, next) = sym (ap (option_and_then (read_at text rightwards)) q) ∙ on in cc
      by (Some p) q =
          let place = offset-place_at text at p is q in
          let here : read_at text rightwards p ≡ Some (c, next) = sym (ap (option_and_then (read_at text rightwards)) q) ∙ on in
          by_less (nat_lt p (last_place text)) refl place here
        where
          by_less : (b : Bool) → nat_lt p (last_place text) ≡ b → (offset text p ≡ at) × (p ≤ last_place text) → read_at text rightwards p ≡ Some (c, next) → GoesOnAt at next
          by_less false l place here =
              let past = nltb→le p (last_place text) (rw l tt) in
              let none_read : Option (ℕ × ℕ) = None in let no : none_read ≡ Some (c, next) = sym (ap (option_map (λ (c : ℕ). (c, offset text (p + 1)))) (slice_get_past text.characters p past)) ∙ here in cc
          by_less true l place here =
              let less = ltb→lt p (last_place text) (rw l tt) in
              let inside : p + 1 ≤ last_place text = omega arith in
              let read_is : Some (get_or text.characters p 0, offset text (p + 1)) ≡ Some (c, next) =
              sym (ap (option_map (λ (c : ℕ). (c, offset text (p + 1)))) (slice_get-get_or text.characters p 0 less)) ∙ here in
              let pair_is : (get_or text.characters p 0, offset text (p + 1)) ≡ (c, next) = cc in
              let next_is : offset text (p + 1) ≡ next = ap (λ (x : ℕ × ℕ). x.1) pair_is in
              let next_candidate_start : place_at text next ≡ Some (p + 1) = ap (place_at text) (sym next_is) ∙ place_at-offset text (p + 1) is inside in
              record {
                same = on-from at p q none ∙ sym (found-at next (p + 1) next_candidate_start);
                boundary = ap is_some next_candidate_start;
                ahead = later at p next place.0 (offset-less text p (p + 1) is (let e : p < p + 1 = omega arith in e) inside) next_is;
                inside = let le = offset-le text (p + 1) (last_place text) is inside (le_refl (last_place text)) in omega (arith, le, next_is);
              }

  pub found-none : (at : ℕ) → IsBoundary text at → match_end_and_groups_at tree text at ≡ None → read text rightwards at ≡ None → first_found tree.root text at ≡ None
  found-none at on none past = by (place_at text at) refl on
    where
      by : (o : Option ℕ) → place_at text at ≡ o → IsTrue (is_some o) → first_found tree.root text at ≡ None
      by None q on = cc
      by (Some p) q on =
          let place = offset-place_at text at p is q in
          let here : read_at text rightwards p ≡ None = sym (ap (option_and_then (read_at text rightwards)) q) ∙ past in
          on-from at p q none ∙ first-past tree.root text (p + 1) (at_last (nat_lt p (last_place text)) refl here)
        where
          at_last : (b : Bool) → nat_lt p (last_place text) ≡ b → read_at text rightwards p ≡ None → last_place text < p + 1
          at_last false l here = let le = nltb→le p (last_place text) (rw l tt) in omega arith
          at_last true l here =
              let less = ltb→lt p (last_place text) (rw l tt) in
              let some_read : Option (ℕ × ℕ) = Some (get_or text.characters p 0, offset text (p + 1)) in let no : some_read ≡ None = sym (ap (option_map (λ (c : ℕ). (c, offset text (p + 1)))) (slice_get-get_or text.characters p 0 less)) ∙ here in cc

  pub goes-from_itself : (at : ℕ) → IsBoundary text at → GoesFrom tree text at at
  goes-from_itself at on = record { same = refl; boundary = on }

  -- If an attempt at `at` finds no end, the search goes on from the next offset.
  pub goes-on : (first at next : ℕ) → GoesFrom tree text first at → match_end_and_groups_at tree text at ≡ None → Some next ≡ option_map (λ (r : ℕ × ℕ). r.1) (read text rightwards at)
      → GoesFrom tree text first next × (units text - next < units text - at)
  goes-on first at next g none e = by (read text rightwards at) refl e
    where
      by : (r : Option (ℕ × ℕ)) → read text rightwards at ≡ r → Some next ≡ option_map (λ (r : ℕ × ℕ). r.1) r → GoesFrom tree text first next × (units text - next < units text - at)
      by None q e = cc
      by (Some r) q e =
          let same : next ≡ r.1 = cc in
          let f = found-on at r.1 r.0 none q in (
            record { same = g.same ∙ f.same ∙ ap (first_found tree.root text) (sym same); boundary = subst (IsBoundary text) (sym same) f.boundary },
            omega (arith, f.ahead, f.inside, same),
          )

  pub found-first : (first at e : ℕ) (gs : Groups) → GoesFrom tree text first at → match_end_and_groups_at tree text at ≡ Some (e, gs)
      → (Some (answer_from_parts at e gs (group_names_by_id tree.root)) ≡ first_answer tree.root text first) × (next_search_offset text at e ≡ next_start tree.root text first) × IsBoundary text e
  found-first first at e gs g end =
      let f = found-here at e gs g.boundary end in (
        sym (ap (option_map (answer tree.root text)) g.same ∙ f.first),
        sym (ap (λ x. option_map (offset text) (option_and_then (place_after_match tree.root text) x)) g.same ∙ f.behind),
        f.boundary,
      )

  pub found-last : (first at : ℕ) → GoesFrom tree text first at → match_end_and_groups_at tree text at ≡ None → None ≡ option_map (λ (r : ℕ × ℕ). r.1) (read text rightwards at)
      → None ≡ first_answer tree.root text first
  found-last first at g none past =
      sym (ap (option_map (answer tree.root text)) (g.same ∙ found-none at g.boundary none (by (read text rightwards at) past)))
    where
      by : (r : Option (ℕ × ℕ)) → None ≡ option_map (λ (r : ℕ × ℕ). r.1) r → r ≡ None
      by None e = refl
      by (Some r) e = cc
