-- At its head a loop begins an iteration, takes its exit or does both, as its counts allow.
use Rattle.std.proofs.Common.{◌≡◌, ◌<◌, ◌≤◌, ℕ, ◌+◌, List, [], ◌∷◌, Option, Some, None, Bool, true, false, refl, ap, ◌∙◌, arith, slice_get, slice_set, length}
use Rattle.std.specs.Prelude.{◌&&◌, ◌==◌, if◌then◌else◌, nat_lt, nat_le}
use Rattle.std.proofs.lemmas.Bool.{le-ltb, lt-ltb, le-leb, leb-true, eq-eqb, eqb-true}
use Rattle.regex_meaning.specs.Text.{Text, Direction}
use Rattle.regex_meaning.specs.CompilationRelation.{Program, LoopFields, EnterLoop, LoopAgain}
use Rattle.regress_machine.specs.Machine.{LoopData, State, Thread, running, Next, goes, stuck, state_with_ip, with_some, only_if, first_running_and_others_waiting, choice_in_order_of_greediness}
use Rattle.regress_machine.specs.Machine.{iterate_or_leave_at_loop_head, effect_at_iteration_end, loop_again_effect, act_on, act}
use Rattle.regress_machine.proofs.MachineSearchLemmas.{never_stuck}
use Rattle.regress_machine.specs.ThreadSimulation.{Simulates}

-- ---- Steps at which the machine is stuck

module _ (program : Program) (text : Text) (d : Direction) (exact : Bool) (n : ℕ) (us : List Thread) (s : State) where
  -- Any threads simulate a state at which the machine is stuck, as no search from it answers.
  pub stuck-simulates : act program text d s ≡ stuck → Simulates program text exact d n us (running s ∷ [])
  stuck-simulates is = record { within = λ turns vs f e. absurd (never_stuck program text turns d s vs f is e) }

  pub only-simulates : (b : Bool) (x : Next) → act program text d s ≡ only_if b x
      → (b ≡ true → act program text d s ≡ x → Simulates program text exact d n us (running s ∷ [])) → Simulates program text exact d n us (running s ∷ [])
  only-simulates true x is h = h refl is
  only-simulates false x is h = stuck-simulates is

  pub some-simulates : {X : Type 0} (o : Option X) (f : X → Next) → act program text d s ≡ with_some o f
      → ((x : X) → o ≡ Some x → act program text d s ≡ f x → Simulates program text exact d n us (running s ∷ [])) → Simulates program text exact d n us (running s ∷ [])
  some-simulates None f is h = stuck-simulates is
  some-simulates (Some x) f is h = h x refl is

-- ---- The threads that the head of a loop leaves

module _ (f : LoopFields) (begin k : ℕ) (s : State) where
  -- This is the state at the beginning of iteration `k`.
  abbrev pub again : State
  again = record s { ip = begin + 1; loops = slice_set s.loops f.loop_id (record { iters = k; entry = s.pos }) }

  -- This is the state behind the loop.
  abbrev pub leave : State
  leave = state_with_ip f.exit s

  abbrev ways : (more out : Bool) → Next
  ways more out = goes (first_running_and_others_waiting (choice_in_order_of_greediness f.greedy (if more then again ∷ [] else []) (if out then leave ∷ [] else [])))

  head : f.loop_id < length s.loops → (more out : Bool) → nat_lt k f.max_iters ≡ more → nat_le f.min_iters k ≡ out → iterate_or_leave_at_loop_head f begin k s ≡ ways more out
  head inside more out m o =
      ap (λ b. only_if b (ways (nat_lt k f.max_iters) (nat_le f.min_iters k))) (lt-ltb f.loop_id (length s.loops) inside)
      ∙ ap (λ b. ways b (nat_le f.min_iters k)) m ∙ ap (λ b. ways more b) o

  not-more : f.max_iters ≤ k → nat_lt k f.max_iters ≡ false
  not-more le = le-ltb k f.max_iters le

  not-out : k < f.min_iters → nat_le f.min_iters k ≡ false
  not-out less = by (nat_le f.min_iters k) refl
    where
      by : (b : Bool) → nat_le f.min_iters k ≡ b → b ≡ false
      by true e = let le = leb-true f.min_iters k e in absurd (omega (arith, le, less))
      by false e = refl

  pub head-greedy : f.loop_id < length s.loops → k < f.max_iters → f.min_iters ≤ k → f.greedy ≡ true → iterate_or_leave_at_loop_head f begin k s ≡ goes (first_running_and_others_waiting (again ∷ leave ∷ []))
  head-greedy inside more out greedy =
      head inside true true (lt-ltb k f.max_iters more) (le-leb f.min_iters k out) ∙ ap (λ b. goes (first_running_and_others_waiting (choice_in_order_of_greediness b (again ∷ []) (leave ∷ [])))) greedy

  pub head-lazy : f.loop_id < length s.loops → k < f.max_iters → f.min_iters ≤ k → f.greedy ≡ false → iterate_or_leave_at_loop_head f begin k s ≡ goes (first_running_and_others_waiting (leave ∷ again ∷ []))
  head-lazy inside more out lazy =
      head inside true true (lt-ltb k f.max_iters more) (le-leb f.min_iters k out) ∙ ap (λ b. goes (first_running_and_others_waiting (choice_in_order_of_greediness b (again ∷ []) (leave ∷ [])))) lazy

  -- Below its minimum, a loop begins another iteration and cannot be left.
  pub head-again : f.loop_id < length s.loops → k < f.max_iters → k < f.min_iters → iterate_or_leave_at_loop_head f begin k s ≡ goes (running again ∷ [])
  head-again inside more few = head inside true false (lt-ltb k f.max_iters more) (not-out few) ∙ by f.greedy
    where
      by : (b : Bool) → goes (first_running_and_others_waiting (choice_in_order_of_greediness b (again ∷ []) [])) ≡ goes (running again ∷ [])
      by true = refl
      by false = refl

  -- At its maximum, a loop can only be left.
  pub head-leave : f.loop_id < length s.loops → f.max_iters ≤ k → f.min_iters ≤ k → iterate_or_leave_at_loop_head f begin k s ≡ goes (running leave ∷ [])
  head-leave inside full out = head inside false true (not-more full) (le-leb f.min_iters k out) ∙ by f.greedy
    where
      by : (b : Bool) → goes (first_running_and_others_waiting (choice_in_order_of_greediness b [] (leave ∷ []))) ≡ goes (running leave ∷ [])
      by true = refl
      by false = refl

  pub head-dead : f.loop_id < length s.loops → f.max_iters ≤ k → k < f.min_iters → iterate_or_leave_at_loop_head f begin k s ≡ goes []
  head-dead inside full few = head inside false false (not-more full) (not-out few) ∙ by f.greedy
    where
      by : (b : Bool) → goes (first_running_and_others_waiting (choice_in_order_of_greediness b [] [])) ≡ goes []
      by true = refl
      by false = refl

-- ---- The steps that lead to the head of a loop

module _ (program : Program) (text : Text) (d : Direction) (s : State) (f : LoopFields) where
  pub enter-turn : slice_get program.insns s.ip ≡ Some (EnterLoop f) → act program text d s ≡ iterate_or_leave_at_loop_head f s.ip 0 s
  enter-turn here = ap (λ i. act_on program text d i s) here

  module _ (begin : ℕ) (e : LoopData) (here : slice_get program.insns s.ip ≡ Some (LoopAgain begin)) (there : slice_get program.insns begin ≡ Some (EnterLoop f))
      (known : slice_get s.loops f.loop_id ≡ Some e) (before : e.iters < f.max_iters) where
    again-by : (b : Bool) → (e.entry == s.pos && nat_lt f.min_iters (e.iters + 1)) ≡ b → act program text d s ≡ (if b then goes [] else iterate_or_leave_at_loop_head f begin (e.iters + 1) s)
    again-by b is =
        ap (λ i. act_on program text d i s) here
        ∙ ap (λ i. loop_again_effect i begin s) there
        ∙ ap (λ o. with_some o (λ e. effect_at_iteration_end f begin e s)) known
        ∙ ap (λ b. only_if b (if e.entry == s.pos && nat_lt f.min_iters (e.iters + 1) then goes [] else iterate_or_leave_at_loop_head f begin (e.iters + 1) s)) (lt-ltb e.iters f.max_iters before)
        ∙ ap (λ b. if b then goes [] else iterate_or_leave_at_loop_head f begin (e.iters + 1) s) is

    -- An empty iteration beyond the minimum fails.
    pub again-empty : e.entry ≡ s.pos → f.min_iters ≤ e.iters → act program text d s ≡ goes []
    again-empty same enough =
        again-by true (ap (λ b. b && nat_lt f.min_iters (e.iters + 1)) (eq-eqb e.entry s.pos same) ∙ lt-ltb f.min_iters (e.iters + 1) (omega (arith, enough)))

    -- An iteration that is not empty, or is still required, leads to the head of the loop.
    pub again-counts : (e.entry ≡ s.pos → e.iters < f.min_iters) → act program text d s ≡ iterate_or_leave_at_loop_head f begin (e.iters + 1) s
    again-counts moves = again-by false (by (e.entry == s.pos) refl)
      where
        by : (b : Bool) → (e.entry == s.pos) ≡ b → (b && nat_lt f.min_iters (e.iters + 1)) ≡ false
        by true same = let few = moves (eqb-true e.entry s.pos same) in le-ltb f.min_iters (e.iters + 1) (omega (arith, few))
        by false same = refl
