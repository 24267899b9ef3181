-- The operation of an executor at an instruction simulates the step of the machine there.
use Rattle.std.proofs.Common.{◌≡◌, ◌<◌, ◌≤◌, ℕ, ◌+◌, ◌-◌, min, List, [], ◌∷◌, Some, None, Bool, true, false, refl, ap, ◌∙◌, sym, slice_get, slice_set, length}
use Rattle.std.specs.Prelude.{◌&&◌, if◌then◌else◌, nat_lt}
use Rattle.std.specs.List.{prefix_len}
use Rattle.regex_meaning.specs.Text.{Text, Direction}
use Rattle.regex_meaning.specs.CodeUnitOffsets.{place_at}
use Rattle.regex_meaning.specs.OutcomesWithStepTicks.{nearest_first}
use Rattle.regex_meaning.specs.CompilationRelation.{Program, LoopFields, JustFail, Jump, Alt, EnterLoop, LoopAgain, ResetCaptureGroup, Loop1CharBody, BeginCaptureGroup, EndCaptureGroup}
use Rattle.regress_machine.specs.Machine.{LoopData, State, Thread, running, waiting, goes, scans, state_with_ip, state_at_next_ip, go_if, with_some, only_if, first_running_and_others_waiting}
use Rattle.regress_machine.specs.Machine.{iterate_or_leave_at_loop_head, effect_at_iteration_end, loop_again_effect, test_of, scan, act_on, act}
use Rattle.regress_machine.specs.Machine.{range_swapped_if_leftwards, go}
use Rattle.regress_machine.specs.ThreadSimulation.{Simulates, FindsNothing}
use Rattle.regress_machine.specs.CharLoopExitStatesByPreference.{most_first, fewest_first}
use Rattle.regress_machine.proofs.RunningAndWaitingThreads.{both-ways, first-way, second-way, no-way, only-way, only-way-excluded, dead-end}
use Rattle.regress_machine.proofs.LoopHeadSimulation.{only-simulates, some-simulates, again, leave, head-greedy, head-lazy, head-again, head-leave, head-dead}
use Rattle.regress_machine.proofs.CharLoopExitStateLemmas.{run-turn}
use Rattle.std.proofs.lemmas.Bool.{ltb-true}

module _ (program : Program) (text : Text) (d : Direction) (s : State) where
  -- The state continues as `u` if the condition holds, and fails otherwise.
  pub arm-if : (exact found : Bool) (u : State) → act program text d s ≡ go_if found u
      → Simulates program text exact d 1 (if found then running u ∷ [] else []) (running s ∷ [])
  arm-if exact true u is = only-way program text d s u is exact
  arm-if exact false u is = dead-end program text d exact s is

  pub arm-fail : (exact : Bool) → slice_get program.insns s.ip ≡ Some JustFail → Simulates program text exact d 1 [] (running s ∷ [])
  arm-fail exact here = dead-end program text d exact s (ap (λ i. act_on program text d i s) here)

  pub arm-jump : (exact : Bool) (target : ℕ) → slice_get program.insns s.ip ≡ Some (Jump target)
      → Simulates program text exact d 1 (running (state_with_ip target s) ∷ []) (running s ∷ [])
  arm-jump exact target here = only-way program text d s (state_with_ip target s) (ap (λ i. act_on program text d i s) here) exact

  -- ---- Alternatives

  module _ (secondary : ℕ) (here : slice_get program.insns s.ip ≡ Some (Alt secondary)) where
    alt-turn : act program text d s ≡ goes (first_running_and_others_waiting (state_at_next_ip s ∷ state_with_ip secondary s ∷ []))
    alt-turn = ap (λ i. act_on program text d i s) here

    pub alt-both : (exact : Bool) → Simulates program text exact d 1 (running (state_at_next_ip s) ∷ waiting (state_with_ip secondary s) ∷ []) (running s ∷ [])
    alt-both exact = both-ways program text d s (state_at_next_ip s) (state_with_ip secondary s) alt-turn exact

    pub alt-here : FindsNothing program text d (running (state_with_ip secondary s)) → Simulates program text false d 1 (running (state_at_next_ip s) ∷ []) (running s ∷ [])
    alt-here none = first-way program text d s (state_at_next_ip s) (state_with_ip secondary s) alt-turn none

    pub alt-there : FindsNothing program text d (running (state_at_next_ip s)) → Simulates program text false d 1 (running (state_with_ip secondary s) ∷ []) (running s ∷ [])
    alt-there none = second-way program text d s (state_at_next_ip s) (state_with_ip secondary s) alt-turn none

    pub alt-none : FindsNothing program text d (running (state_at_next_ip s)) → FindsNothing program text d (running (state_with_ip secondary s))
        → Simulates program text false d 1 [] (running s ∷ [])
    alt-none here_none there_none = no-way program text d s (state_at_next_ip s) (state_with_ip secondary s) alt-turn here_none there_none

  -- ---- Groups

  pub arm-reset : (exact : Bool) (id : ℕ) → slice_get program.insns s.ip ≡ Some (ResetCaptureGroup id)
      → Simulates program text exact d 1 (running (record s { ip = s.ip + 1; groups = slice_set s.groups id None }) ∷ []) (running s ∷ [])
  arm-reset exact id here =
      let u = record s { ip = s.ip + 1; groups = slice_set s.groups id None } in
      only-simulates program text d exact 1 (running u ∷ []) s (nat_lt id (length s.groups)) (go u) (ap (λ i. act_on program text d i s) here)
      (λ inside is. only-way program text d s u is exact)

  pub arm-open : (exact : Bool) (id : ℕ) → slice_get program.insns s.ip ≡ Some (BeginCaptureGroup id)
      → Simulates program text exact d 1 (running (record s { ip = s.ip + 1; groups = slice_set s.groups id None; starts = slice_set s.starts id s.pos }) ∷ []) (running s ∷ [])
  arm-open exact id here =
      let u = record s { ip = s.ip + 1; groups = slice_set s.groups id None; starts = slice_set s.starts id s.pos } in
      only-simulates program text d exact 1 (running u ∷ []) s (nat_lt id (length s.groups) && nat_lt id (length s.starts)) (go u) (ap (λ i. act_on program text d i s) here)
      (λ inside is. only-way program text d s u is exact)

  pub arm-close : (exact : Bool) (id start : ℕ) → slice_get program.insns s.ip ≡ Some (EndCaptureGroup id) → slice_get s.starts id ≡ Some start
      → Simulates program text exact d 1 (running (record s { ip = s.ip + 1; groups = slice_set s.groups id (Some (range_swapped_if_leftwards d start s.pos)) }) ∷ []) (running s ∷ [])
  arm-close exact id start here known =
      let u = record s { ip = s.ip + 1; groups = slice_set s.groups id (Some (range_swapped_if_leftwards d start s.pos)) } in
      only-simulates program text d exact 1 (running u ∷ []) s (nat_lt id (length s.groups)) (go u)
      (ap (λ i. act_on program text d i s) here
      ∙ ap (λ o. only_if (nat_lt id (length s.groups)) (with_some o (λ start. go (record s { ip = s.ip + 1; groups = slice_set s.groups id (Some (range_swapped_if_leftwards d start s.pos)) })))) known)
      (λ inside is. only-way program text d s u is exact)

  -- ---- The head of a loop

  -- A state at the head of a loop is about to begin iteration `k`.
  module _ (f : LoopFields) (begin k : ℕ) (is : act program text d s ≡ iterate_or_leave_at_loop_head f begin k s) where
    abbrev on : State
    on = again f begin k s

    abbrev out : State
    out = leave f begin k s

    with-slot : (exact : Bool) (n : ℕ) (us : List Thread) → (f.loop_id < length s.loops → Simulates program text exact d n us (running s ∷ [])) → Simulates program text exact d n us (running s ∷ [])
    with-slot exact n us h =
        only-simulates program text d exact n us s (nat_lt f.loop_id (length s.loops)) _ is (λ inside there. h (ltb-true f.loop_id (length s.loops) inside))

    pub loop-again : (exact : Bool) → k < f.max_iters → k < f.min_iters → Simulates program text exact d 1 (running on ∷ []) (running s ∷ [])
    loop-again exact more few = with-slot exact 1 (running on ∷ []) (λ inside. only-way program text d s on (is ∙ head-again f begin k s inside more few) exact)

    pub loop-again-excluded : k < f.max_iters → k < f.min_iters → FindsNothing program text d (running on) → Simulates program text false d 1 [] (running s ∷ [])
    loop-again-excluded more few none = with-slot false 1 [] (λ inside. only-way-excluded program text d s on (is ∙ head-again f begin k s inside more few) none)

    pub loop-leave : (exact : Bool) → f.max_iters ≤ k → f.min_iters ≤ k → Simulates program text exact d 1 (running out ∷ []) (running s ∷ [])
    loop-leave exact full enough = with-slot exact 1 (running out ∷ []) (λ inside. only-way program text d s out (is ∙ head-leave f begin k s inside full enough) exact)

    pub loop-dead : (exact : Bool) → f.max_iters ≤ k → k < f.min_iters → Simulates program text exact d 1 [] (running s ∷ [])
    loop-dead exact full few = with-slot exact 1 [] (λ inside. dead-end program text d exact s (is ∙ head-dead f begin k s inside full few))

    -- Both another iteration and the exit are allowed.
    module _ (more : k < f.max_iters) (enough : f.min_iters ≤ k) where
      pub loop-greedy : (exact : Bool) → f.greedy ≡ true → Simulates program text exact d 1 (running on ∷ waiting out ∷ []) (running s ∷ [])
      loop-greedy exact greedy =
          with-slot exact 1 (running on ∷ waiting out ∷ []) (λ inside. both-ways program text d s on out (is ∙ head-greedy f begin k s inside more enough greedy) exact)

      pub loop-lazy : (exact : Bool) → f.greedy ≡ false → Simulates program text exact d 1 (running out ∷ waiting on ∷ []) (running s ∷ [])
      loop-lazy exact lazy =
          with-slot exact 1 (running out ∷ waiting on ∷ []) (λ inside. both-ways program text d s out on (is ∙ head-lazy f begin k s inside more enough lazy) exact)

      -- What simulates the state for either preference of the loop simulates it.
      by-preference : (us : List Thread) → (act program text d s ≡ goes (first_running_and_others_waiting (on ∷ out ∷ [])) → Simulates program text false d 1 us (running s ∷ []))
          → (act program text d s ≡ goes (first_running_and_others_waiting (out ∷ on ∷ [])) → Simulates program text false d 1 us (running s ∷ [])) → Simulates program text false d 1 us (running s ∷ [])
      by-preference us first second = with-slot false 1 us (λ inside. by inside f.greedy refl)
        where
          by : f.loop_id < length s.loops → (b : Bool) → f.greedy ≡ b → Simulates program text false d 1 us (running s ∷ [])
          by inside true greedy = first (is ∙ head-greedy f begin k s inside more enough greedy)
          by inside false lazy = second (is ∙ head-lazy f begin k s inside more enough lazy)

      pub loop-inside : FindsNothing program text d (running out) → Simulates program text false d 1 (running on ∷ []) (running s ∷ [])
      loop-inside none = by-preference (running on ∷ []) (λ e. first-way program text d s on out e none) (λ e. second-way program text d s out on e none)

      pub loop-outside : FindsNothing program text d (running on) → Simulates program text false d 1 (running out ∷ []) (running s ∷ [])
      loop-outside none = by-preference (running out ∷ []) (λ e. second-way program text d s on out e none) (λ e. first-way program text d s out on e none)

      pub loop-neither : FindsNothing program text d (running on) → FindsNothing program text d (running out) → Simulates program text false d 1 [] (running s ∷ [])
      loop-neither none_on none_out = by-preference [] (λ e. no-way program text d s on out e none_on none_out) (λ e. no-way program text d s out on e none_out none_on)

  -- A simulation of the end of an iteration may assume loop data below the maximum.
  pub arm-again : (exact : Bool) (n : ℕ) (us : List Thread) (begin : ℕ) (f : LoopFields) → slice_get program.insns s.ip ≡ Some (LoopAgain begin) → slice_get program.insns begin ≡ Some (EnterLoop f)
      → ((e : LoopData) → slice_get s.loops f.loop_id ≡ Some e → e.iters < f.max_iters → Simulates program text exact d n us (running s ∷ [])) → Simulates program text exact d n us (running s ∷ [])
  arm-again exact n us begin f here there h =
      some-simulates program text d exact n us s (slice_get s.loops f.loop_id) (λ e. effect_at_iteration_end f begin e s)
      (ap (λ i. act_on program text d i s) here ∙ ap (λ i. loop_again_effect i begin s) there)
      (λ e known is. only-simulates program text d exact n us s (nat_lt e.iters f.max_iters) _ is (λ before there. h e known (ltb-true e.iters f.max_iters before)))

  -- ---- Char loops

  module _ (least most_iters : ℕ) (greedy : Bool) (here : slice_get program.insns s.ip ≡ Some (Loop1CharBody least most_iters greedy)) where
    -- A simulation of a char loop may assume a test of its character and a place.
    pub arm-run : (exact : Bool) (n : ℕ) (us : List Thread)
        → ((test : ℕ → Bool) (place : ℕ) → test_of program (slice_get program.insns (s.ip + 1)) ≡ Some test → place_at text s.pos ≡ Some place
        → Simulates program text exact d n us (running s ∷ [])) → Simulates program text exact d n us (running s ∷ [])
    arm-run exact n us h =
        some-simulates program text d exact n us s (test_of program (slice_get program.insns (s.ip + 1))) (λ test. with_some (place_at text s.pos) (λ p. scan text least most_iters greedy test d p s))
        (ap (λ i. act_on program text d i s) here)
        (λ test one is. some-simulates program text d exact n us s (place_at text s.pos) (λ p. scan text least most_iters greedy test d p s) is (λ place at there. h test place one at))

  module _ (least most_iters : ℕ) (test : ℕ → Bool) (place : ℕ) (one : test_of program (slice_get program.insns (s.ip + 1)) ≡ Some test) (at : place_at text s.pos ≡ Some place)
      (total : ℕ) (all : total ≡ min most_iters (prefix_len test (nearest_first text d place)) + 1 - least) where
    -- This is the number of characters that the machine tries.
    abbrev tries : ℕ
    tries = min most_iters (prefix_len test (nearest_first text d place) + 1)

    pub greedy-turn : slice_get program.insns s.ip ≡ Some (Loop1CharBody least most_iters true)
        → act program text d s ≡ scans tries (first_running_and_others_waiting (most_first text d place s least total))
    greedy-turn here =
        run-turn program text d place s least most_iters true test here one at ∙ ap (λ n. scans tries (first_running_and_others_waiting (most_first text d place s least n))) (sym all)

    pub lazy-turn : slice_get program.insns s.ip ≡ Some (Loop1CharBody least most_iters false)
        → act program text d s ≡ scans tries (first_running_and_others_waiting (fewest_first text d place s least total))
    lazy-turn here =
        run-turn program text d place s least most_iters false test here one at ∙ ap (λ n. scans tries (first_running_and_others_waiting (fewest_first text d place s least n))) (sym all)
