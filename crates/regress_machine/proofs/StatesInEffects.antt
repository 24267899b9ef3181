-- A property holds of all states in an effect if it holds of the states that its parts leave.
use Rattle.std.proofs.Common.{◌≡◌, ℕ, ◌+◌, List, [], ◌∷◌, map, length, Option, Some, None, Bool, true, false, ◌&&◌, refl, slice_get, slice_set}
use Rattle.std.specs.Prelude.{if◌then◌else◌, nat_lt, nat_le, ◌==◌}
use Rattle.regex_meaning.specs.CompilationRelation.{Insn, LoopFields, EnterLoop}
use Rattle.regex_meaning.proofs.EachElementLemmas.{Each, Each-append}
use Rattle.regress_machine.specs.Machine.{State, Thread, running, waiting, Next, goes, scans, ends, asks, stuck, with_some, only_if, go_if, first_running_and_others_waiting}
use Rattle.regress_machine.specs.Machine.{choice_in_order_of_greediness, iterate_or_leave_at_loop_head, effect_at_iteration_end, loop_again_effect, state_with_ip}

module _ (Good : State → Type 0) where
  abbrev pub IsOfThread : Thread → Type 0
  IsOfThread (running s) = Good s
  IsOfThread (waiting s) = Good s

  abbrev pub IsOfNext : Next → Type 0
  IsOfNext (goes ts) = Each IsOfThread ts
  IsOfNext (scans tries ts) = Each IsOfThread ts
  IsOfNext (ends s) = Good s
  IsOfNext (asks d negate u s) = Good u × Good s
  IsOfNext stuck = Unit {0}

  of-waiting : (ss : List State) → Each Good ss → Each IsOfThread (map waiting ss)
  of-waiting [] h = tt
  of-waiting (s ∷ ss) h = (h.0, of-waiting ss h.1)

  pub of-in_turn : (ss : List State) → Each Good ss → Each IsOfThread (first_running_and_others_waiting ss)
  of-in_turn [] h = tt
  of-in_turn (s ∷ ss) h = (h.0, of-waiting ss h.1)

  of-choice_in_order_of_greediness : (greedy : Bool) (xs ys : List State) → Each Good xs → Each Good ys → Each Good (choice_in_order_of_greediness greedy xs ys)
  of-choice_in_order_of_greediness true xs ys h k = Each-append Good xs ys h k
  of-choice_in_order_of_greediness false xs ys h k = Each-append Good ys xs k h

  of-one_if : (b : Bool) (s : State) → Good s → Each Good (if b then s ∷ [] else [])
  of-one_if true s h = (h, tt)
  of-one_if false s h = tt

  pub of-with_some : {X : Type 0} (o : Option X) (f : X → Next) → ((x : X) → o ≡ Some x → IsOfNext (f x)) → IsOfNext (with_some o f)
  of-with_some None f h = tt
  of-with_some (Some x) f h = h x refl

  pub of-only_if : (b : Bool) (x : Next) → IsOfNext x → IsOfNext (only_if b x)
  of-only_if true x h = h
  of-only_if false x h = tt

  pub of-go_if : (b : Bool) (s : State) → (b ≡ true → Good s) → IsOfNext (go_if b s)
  of-go_if true s h = (h refl, tt)
  of-go_if false s h = tt

  of-dropped : (b : Bool) (x : Next) → IsOfNext x → IsOfNext (if b then goes [] else x)
  of-dropped true x h = tt
  of-dropped false x h = h

  pub of-map : (f : ℕ → State) (ns : List ℕ) → Each (λ n. Good (f n)) ns → Each Good (map f ns)
  of-map f [] h = tt
  of-map f (n ∷ ns) h = (h.0, of-map f ns h.1)

  pub of-loop_turn : (f : LoopFields) (begin k : ℕ) (s : State)
      → Good (record s { ip = begin + 1; loops = slice_set s.loops f.loop_id (record { iters = k; entry = s.pos }) })
      → Good (state_with_ip f.exit s) → IsOfNext (iterate_or_leave_at_loop_head f begin k s)
  of-loop_turn f begin k s h l =
      let again : State = record s { ip = begin + 1; loops = slice_set s.loops f.loop_id (record { iters = k; entry = s.pos }) } in
      let leave : State = state_with_ip f.exit s in
      let agains = if nat_lt k f.max_iters then again ∷ [] else [] in
      let leaves = if nat_le f.min_iters k then leave ∷ [] else [] in
      of-only_if (nat_lt f.loop_id (length s.loops)) (goes (first_running_and_others_waiting (choice_in_order_of_greediness f.greedy agains leaves)))
      (of-in_turn (choice_in_order_of_greediness f.greedy agains leaves)
      (of-choice_in_order_of_greediness f.greedy agains leaves (of-one_if (nat_lt k f.max_iters) again h) (of-one_if (nat_le f.min_iters k) leave l)))

  pub of-again_at : (o : Option Insn) (begin : ℕ) (s : State)
      → ((f : LoopFields) → o ≡ Some (EnterLoop f)
      → ((k : ℕ) → Good (record s { ip = begin + 1; loops = slice_set s.loops f.loop_id (record { iters = k; entry = s.pos }) })) × Good (state_with_ip f.exit s))
      → IsOfNext (loop_again_effect o begin s)
  of-again_at (Some (EnterLoop f)) begin s h =
      of-with_some (slice_get s.loops f.loop_id) (λ d. effect_at_iteration_end f begin d s) (λ d e.
      of-only_if (nat_lt d.iters f.max_iters) (if d.entry == s.pos && nat_lt f.min_iters (d.iters + 1) then goes [] else iterate_or_leave_at_loop_head f begin (d.iters + 1) s)
      (of-dropped (d.entry == s.pos && nat_lt f.min_iters (d.iters + 1)) (iterate_or_leave_at_loop_head f begin (d.iters + 1) s)
      (of-loop_turn f begin (d.iters + 1) s ((h f refl).0 (d.iters + 1)) (h f refl).1)))
  of-again_at _ begin s h = tt
