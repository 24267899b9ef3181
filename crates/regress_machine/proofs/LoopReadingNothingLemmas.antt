-- The last required iteration of a loop that reads nothing may replace any other required one.
use Rattle.std.proofs.Common.{◌≡◌, ◌<◌, ◌≤◌, ℕ, zero, suc, ◌+◌, ◌-◌, List, [], ◌∷◌, Option, Some, None, Bool, true, false, refl, ap, ap₂, ◌∙◌, sym, subst, arith, length, slice_get, slice_set}
use Rattle.std.specs.Prelude.{◌⊎◌, ◌&&◌, ◌==◌, nat_lt, option_map, if◌then◌else◌}
use Rattle.std.proofs.lemmas.Bool.{cases_lt, lt-ltb, ltb-true, eqb-true, eqb-false, and_from}
use Rattle.std.proofs.lemmas.List.{length-set}
use Rattle.std.proofs.lemmas.Option.{slice_get_within}
use mathlib.Core.Logic.{inl, inr}
use Rattle.regex_meaning.specs.Text.{Text, Direction}
use Rattle.regex_meaning.specs.CompilationRelation.{Program, LoopFields, Insn, Jump, Alt, EnterLoop, LoopAgain, ResetCaptureGroup, BeginCaptureGroup, EndCaptureGroup}
use Rattle.regex_meaning.proofs.BoolLemmas.{and-left, and-right}
use Rattle.regress_machine.specs.Machine.{LoopData, State, Thread, running, waiting, state_with_ip, with_some, only_if, go, range_swapped_if_leftwards, iterate_or_leave_at_loop_head, act_on, act}
use Rattle.regress_machine.proofs.UnchangedGroupsAndLoops.{slice_get-set_same, slice_get-set_other}
use Rattle.regress_machine.specs.LoopsReadingNothing.{ReadsNothingAndLeadsOnward, ReadsNothingUntil, LastRequiredEmptyIterationReplacesOthers}
use Rattle.regress_machine.specs.ThreadSimulation.{Simulates}
use Rattle.regress_machine.proofs.ThreadSimulationLemmas.{simulates-same, simulates-then, simulates-fewer, simulates-goes, simulates-waits, simulates-both, simulates-twice}
use Rattle.regress_machine.proofs.LoopHeadSimulation.{again, again-counts, only-simulates, some-simulates}
use Rattle.regress_machine.proofs.InsnSimulationLemmas.{arm-again, loop-again}
use Rattle.regress_machine.proofs.ForcedIterationLemmas.{set-twice}
use Rattle.regress_machine.proofs.GroupAndAssertionOutcomes.{slice_get_some}

-- ---- The effects of successive instructions on one group

-- An effect keeps a group, unsets it, closes it, begins it, or makes its range empty here.
data Effect : Type 0 where
  keeps : Effect
  unset : Effect
  spans : Effect
  begun : Effect
  empty : Effect

-- A property holds of each effect if it holds of these five.
abbrev each-effect : (P : Effect → Type 0) → P keeps → P unset → P spans → P begun → P empty → (e : Effect) → P e
each-effect P a b c d f keeps = a
each-effect P a b c d f unset = b
each-effect P a b c d f spans = c
each-effect P a b c d f begun = d
each-effect P a b c d f empty = f

abbrev then_reset : Effect → Effect
then_reset e = each-effect (λ e. Effect) unset unset unset begun begun e

abbrev then_close : Effect → Effect
then_close e = each-effect (λ e. Effect) spans spans spans empty empty e

abbrev Range : Type 0
Range = Option (ℕ × ℕ)

module _ (d : Direction) (at : ℕ) where
  abbrev group_by : Effect → Option Range → Option ℕ → Option Range
  group_by e g start = each-effect (λ e. Option Range) g (Some None) (option_map (λ n. Some (range_swapped_if_leftwards d n at)) start) (Some None) (Some (Some (range_swapped_if_leftwards d at at))) e

  abbrev start_by : Effect → Option ℕ → Option ℕ
  start_by e start = each-effect (λ e. Option ℕ) start start start (Some at) (Some at) e

  group-reset : (e : Effect) (g : Option Range) (start : Option ℕ) → Some None ≡ group_by (then_reset e) g start
  group-reset e g start = each-effect (λ e. Some None ≡ group_by (then_reset e) g start) refl refl refl refl refl e

  start-reset : (e : Effect) (start : Option ℕ) → start_by e start ≡ start_by (then_reset e) start
  start-reset e start = each-effect (λ e. start_by e start ≡ start_by (then_reset e) start) refl refl refl refl refl e

  group-close : (e : Effect) (g : Option Range) (start : Option ℕ) (n : ℕ) → Some n ≡ start_by e start → Some (Some (range_swapped_if_leftwards d n at)) ≡ group_by (then_close e) g start
  group-close e g start n is =
      let closed : (o : Option ℕ) → Some n ≡ o → Some (Some (range_swapped_if_leftwards d n at)) ≡ option_map (λ n. Some (range_swapped_if_leftwards d n at)) o = λ o same. ap (option_map (λ n. Some (range_swapped_if_leftwards d n at))) same in
      each-effect (λ e. Some n ≡ start_by e start → Some (Some (range_swapped_if_leftwards d n at)) ≡ group_by (then_close e) g start) (closed start) (closed start) (closed start) (closed (Some at)) (closed (Some at)) e is

  start-close : (e : Effect) (start : Option ℕ) → start_by e start ≡ start_by (then_close e) start
  start-close e start = each-effect (λ e. start_by e start ≡ start_by (then_close e) start) refl refl refl refl refl e

  -- The same effect on a group a second time changes nothing.
  group-twice : (e : Effect) (g : Option Range) (start : Option ℕ) → group_by e g start ≡ group_by e (group_by e g start) (start_by e start)
  group-twice e g start = each-effect (λ e. group_by e g start ≡ group_by e (group_by e g start) (start_by e start)) refl refl refl refl refl e

  start-twice : (e : Effect) (start : Option ℕ) → start_by e start ≡ start_by e (start_by e start)
  start-twice e start = each-effect (λ e. start_by e start ≡ start_by e (start_by e start)) refl refl refl refl refl e

  -- A state at an offset comes of another one by an effect on each group, with the same loops.
  record Came (x : State) (e : ℕ → Effect) (y : State) : Type 0 where
    groups : (i : ℕ) → slice_get y.groups i ≡ group_by (e i) (slice_get x.groups i) (slice_get x.starts i)
    starts : (i : ℕ) → slice_get y.starts i ≡ start_by (e i) (slice_get x.starts i)
    pos : y.pos ≡ at
    loops : y.loops ≡ x.loops
    groups_length : length y.groups ≡ length x.groups
    starts_length : length y.starts ≡ length x.starts

-- ---- One way through the body

-- This changes the effect on one group alone.
abbrev at_one : (id : ℕ) → (Effect → Effect) → (ℕ → Effect) → ℕ → Effect
at_one id change e i = if id == i then change (e i) else e i

data Path (program : Program) (stop : ℕ) : (ip : ℕ) → Type 0 where
  stops : Path program stop stop
  jumps : (ip to : ℕ) → slice_get program.insns ip ≡ Some (Jump to) → Path program stop to → Path program stop ip
  resets : (ip id : ℕ) → slice_get program.insns ip ≡ Some (ResetCaptureGroup id) → Path program stop (ip + 1) → Path program stop ip
  opens : (ip id : ℕ) → slice_get program.insns ip ≡ Some (BeginCaptureGroup id) → Path program stop (ip + 1) → Path program stop ip
  closes : (ip id : ℕ) → slice_get program.insns ip ≡ Some (EndCaptureGroup id) → Path program stop (ip + 1) → Path program stop ip

module _ {program : Program} {stop : ℕ} where
  -- These are the effects of a way through the body after other effects.
  effects : {ip : ℕ} → Path program stop ip → (ℕ → Effect) → ℕ → Effect
  effects stops e = e
  effects (jumps ip to is rest) e = effects rest e
  effects (resets ip id is rest) e = effects rest (at_one id then_reset e)
  effects (opens ip id is rest) e = effects rest (at_one id (λ x. begun) e)
  effects (closes ip id is rest) e = effects rest (at_one id then_close e)

module _ (d : Direction) (at : ℕ) (x y : State) (e : ℕ → Effect) (came : Came d at x e y) where
  came-on : (ip : ℕ) → Came d at x e (state_with_ip ip y)
  came-on ip = record { groups = came.groups; starts = came.starts; pos = came.pos; loops = came.loops; groups_length = came.groups_length; starts_length = came.starts_length }

  -- A change to the range of one group changes the effect on that group alone.
  group-set : (id : ℕ) (change : Effect → Effect) (r : Option (ℕ × ℕ)) → id < length y.groups
      → Some r ≡ group_by d at (change (e id)) (slice_get x.groups id) (slice_get x.starts id)
      → (i : ℕ) → slice_get (slice_set y.groups id r) i ≡ group_by d at (at_one id change e i) (slice_get x.groups i) (slice_get x.starts i)
  group-set id change r inside is i = by (id == i) refl
    where
      by : (b : Bool) → (id == i) ≡ b → slice_get (slice_set y.groups id r) i ≡ group_by d at (if b then change (e i) else e i) (slice_get x.groups i) (slice_get x.starts i)
      by true same =
          subst (λ i. slice_get (slice_set y.groups id r) i ≡ group_by d at (change (e i)) (slice_get x.groups i) (slice_get x.starts i)) (eqb-true id i same)
          (slice_get-set_same y.groups id r inside ∙ is)
      by false other = slice_get-set_other y.groups id i r (λ q. eqb-false id i other (sym q)) ∙ came.groups i

  came-reset : (id ip : ℕ) → id < length y.groups → Came d at x (at_one id then_reset e) (record y { ip = ip; groups = slice_set y.groups id None })
  came-reset id ip inside = record {
    groups = group-set id then_reset None inside (group-reset d at (e id) (slice_get x.groups id) (slice_get x.starts id));
    starts = λ i. came.starts i ∙ by i (id == i);
    pos = came.pos;
    loops = came.loops;
    groups_length = length-set y.groups id None ∙ came.groups_length;
    starts_length = came.starts_length;
  }
    where
      by : (i : ℕ) (b : Bool) → start_by d at (e i) (slice_get x.starts i) ≡ start_by d at (if b then then_reset (e i) else e i) (slice_get x.starts i)
      by i true = start-reset d at (e i) (slice_get x.starts i)
      by i false = refl

  came-open : (id ip : ℕ) → id < length y.groups → id < length y.starts
      → Came d at x (at_one id (λ x. begun) e) (record y { ip = ip; groups = slice_set y.groups id None; starts = slice_set y.starts id y.pos })
  came-open id ip inside begins = record {
    groups = group-set id (λ x. begun) None inside refl;
    starts = λ i. by i (id == i) refl;
    pos = came.pos;
    loops = came.loops;
    groups_length = length-set y.groups id None ∙ came.groups_length;
    starts_length = length-set y.starts id y.pos ∙ came.starts_length;
  }
    where
      by : (i : ℕ) (b : Bool) → (id == i) ≡ b → slice_get (slice_set y.starts id y.pos) i ≡ start_by d at (if b then begun else e i) (slice_get x.starts i)
      by i true same =
          subst (λ i. slice_get (slice_set y.starts id y.pos) i ≡ Some at) (eqb-true id i same) (slice_get-set_same y.starts id y.pos begins ∙ ap Some came.pos)
      by i false other = slice_get-set_other y.starts id i y.pos (λ q. eqb-false id i other (sym q)) ∙ came.starts i

  came-close : (id ip n : ℕ) → id < length y.groups → slice_get y.starts id ≡ Some n
      → Came d at x (at_one id then_close e) (record y { ip = ip; groups = slice_set y.groups id (Some (range_swapped_if_leftwards d n y.pos)) })
  came-close id ip n inside began = record {
    groups = subst (λ p. (i : ℕ) → slice_get (slice_set y.groups id (Some (range_swapped_if_leftwards d n p))) i ≡ group_by d at (at_one id then_close e i) (slice_get x.groups i) (slice_get x.starts i))
        (sym came.pos)
        (group-set id then_close (Some (range_swapped_if_leftwards d n at)) inside
        (group-close d at (e id) (slice_get x.groups id) (slice_get x.starts id) n (sym began ∙ came.starts id)));
    starts = λ i. came.starts i ∙ by i (id == i);
    pos = came.pos;
    loops = came.loops;
    groups_length = length-set y.groups id (Some (range_swapped_if_leftwards d n y.pos)) ∙ came.groups_length;
    starts_length = came.starts_length;
  }
    where
      by : (i : ℕ) (b : Bool) → start_by d at (e i) (slice_get x.starts i) ≡ start_by d at (if b then then_close (e i) else e i) (slice_get x.starts i)
      by i true = start-close d at (e i) (slice_get x.starts i)
      by i false = refl

came-itself : (d : Direction) (x : State) → Came d x.pos x (λ i. keeps) x
came-itself d x = record { groups = λ i. refl; starts = λ i. refl; pos = refl; loops = refl; groups_length = refl; starts_length = refl }

-- ---- Equal lists

same-row : {X : Type 0} (xs ys : List X) → ((i : ℕ) → slice_get xs i ≡ slice_get ys i) → xs ≡ ys
same-row [] [] same = refl
same-row [] (y ∷ ys) same = let never : None ≡ Some y = same 0 in cc
same-row (x ∷ xs) [] same = let never : Some x ≡ None = same 0 in cc
same-row (x ∷ xs) (y ∷ ys) same =
    let first : Some x ≡ Some y = same 0 in
    let is : x ≡ y = cc in
    ap₂ (λ z zs. z ∷ zs) is (same-row xs ys (λ i. same (suc i)))

set-known : {X : Type 0} (xs : List X) (i : ℕ) (x y : X) → slice_get (slice_set xs i x) i ≡ Some y → y ≡ x
set-known [] i x y is = cc
set-known (z ∷ xs) zero x y is = cc
set-known (z ∷ xs) (suc i) x y is = set-known xs i x y is

abbrev state_of : (ip pos : ℕ) → List (Option (ℕ × ℕ)) → List ℕ → List LoopData → State
state_of ip pos groups starts loops = record { ip = ip; pos = pos; groups = groups; starts = starts; loops = loops }

state-by : (ip ip' pos pos' : ℕ) (groups groups' : List (Option (ℕ × ℕ))) (starts starts' : List ℕ) (loops loops' : List LoopData)
    → ip ≡ ip' → pos ≡ pos' → groups ≡ groups' → starts ≡ starts' → loops ≡ loops'
    → state_of ip pos groups starts loops ≡ state_of ip' pos' groups' starts' loops'
state-by ip ip' pos pos' groups groups' starts starts' loops loops' a b c d e = rw (a, b, c, d, e) refl

-- ---- The way to the end of the body

module _ (program : Program) (text : Text) (d : Direction) where
  turn-at : (y : State) (ip : ℕ) (insn : Insn) → y.ip ≡ ip → slice_get program.insns ip ≡ Some insn → act program text d y ≡ act_on program text d (Some insn) y
  turn-at y ip insn here is = ap (λ n. act_on program text d (slice_get program.insns n) y) here ∙ ap (λ i. act_on program text d i y) is

  -- These are the states that instructions which change a group leave.
  abbrev unset_at : (id : ℕ) → State → State
  unset_at id y = record y { ip = y.ip + 1; groups = slice_set y.groups id None }

  abbrev begun_at : (id : ℕ) → State → State
  begun_at id y = record y { ip = y.ip + 1; groups = slice_set y.groups id None; starts = slice_set y.starts id y.pos }

  abbrev closed_at : (id n : ℕ) → State → State
  closed_at id n y = record y { ip = y.ip + 1; groups = slice_set y.groups id (Some (range_swapped_if_leftwards d n y.pos)) }

  module _ (stop at : ℕ) where
    abbrev Onto : List Thread → State → Type 0
    Onto us y = Simulates program text false d 0 us (running y ∷ [])

    one-on : (y u : State) (us : List Thread) → act program text d y ≡ go u → Onto us u → Onto us y
    one-on y u us is on =
        simulates-fewer program text d 0 (1 + 0) us (running y ∷ []) (omega arith)
        (simulates-then program text false d 1 0 (running y ∷ []) (running u ∷ []) us (simulates-goes program text false d y (running u ∷ []) is) on)

    -- What simulates the thread at the end of the way simulates the thread at its beginning.
    forward : {ip : ℕ} (path : Path program stop ip) (x y : State) (e : ℕ → Effect) → y.ip ≡ ip → Came d at x e y → (us : List Thread)
        → ((z : State) → z.ip ≡ stop → Came d at x (effects path e) z → Onto us z) → Onto us y
    unfolding effects
    forward stops x y e here came us h = h y here came
    forward (jumps ip to is rest) x y e here came us h =
        one-on y (state_with_ip to y) us (turn-at y ip (Jump to) here is) (forward rest x (state_with_ip to y) e refl (came-on d at x y e came to) us h)
    forward (resets ip id is rest) x y e here came us h =
        only-simulates program text d false 0 us y (nat_lt id (length y.groups)) (go (unset_at id y)) (turn-at y ip (ResetCaptureGroup id) here is)
        (λ inside turn. one-on y (unset_at id y) us turn
        (forward rest x (unset_at id y) (at_one id then_reset e) (ap (λ n. n + 1) here)
        (came-reset d at x y e came id (y.ip + 1) (ltb-true id (length y.groups) inside)) us h))
    forward (opens ip id is rest) x y e here came us h =
        only-simulates program text d false 0 us y (nat_lt id (length y.groups) && nat_lt id (length y.starts)) (go (begun_at id y)) (turn-at y ip (BeginCaptureGroup id) here is)
        (λ both turn. one-on y (begun_at id y) us turn
        (forward rest x (begun_at id y) (at_one id (λ x. begun) e) (ap (λ n. n + 1) here)
        (came-open d at x y e came id (y.ip + 1) (ltb-true id (length y.groups) (and-left _ _ both)) (ltb-true id (length y.starts) (and-right _ _ both))) us h))
    forward (closes ip id is rest) x y e here came us h =
        only-simulates program text d false 0 us y (nat_lt id (length y.groups)) (with_some (slice_get y.starts id) (λ n. go (closed_at id n y))) (turn-at y ip (EndCaptureGroup id) here is)
        (λ inside turn. some-simulates program text d false 0 us y (slice_get y.starts id) (λ n. go (closed_at id n y)) turn
        (λ n began on. one-on y (closed_at id n y) us on
        (forward rest x (closed_at id n y) (at_one id then_close e) (ap (λ n. n + 1) here)
        (came-close d at x y e came id (y.ip + 1) n (ltb-true id (length y.groups) inside) began) us h)))

    -- ---- Two threads that take the same steps

    both-on : (y z u v : State) → act program text d y ≡ go u → act program text d z ≡ go v → Onto (running u ∷ []) v → Onto (running y ∷ []) z
    both-on y z u v is is' on = simulates-both program text d y z (running u ∷ []) (running v ∷ []) is is' on

    -- At the end of the body, two states are the same if the effects leave the same groups in both.
    module _ (w x : State) (loops : w.loops ≡ x.loops) (groups_length : length w.groups ≡ length x.groups) (starts_length : length w.starts ≡ length x.starts) where
      record SameBehind (e : ℕ → Effect) : Type 0 where
        groups : (i : ℕ) → group_by d at (e i) (slice_get w.groups i) (slice_get w.starts i) ≡ group_by d at (e i) (slice_get x.groups i) (slice_get x.starts i)
        starts : (i : ℕ) → start_by d at (e i) (slice_get w.starts i) ≡ start_by d at (e i) (slice_get x.starts i)

      same-behind : (e : ℕ → Effect) (y z : State) → SameBehind e → y.ip ≡ z.ip → Came d at w e y → Came d at x e z → y ≡ z
      same-behind e y z same here a b =
          let ip = here in
          let pos : y.pos ≡ z.pos = a.pos ∙ sym b.pos in
          let groups : y.groups ≡ z.groups = same-row y.groups z.groups (λ i. a.groups i ∙ same.groups i ∙ sym (b.groups i)) in
          let starts : y.starts ≡ z.starts = same-row y.starts z.starts (λ i. a.starts i ∙ same.starts i ∙ sym (b.starts i)) in
          let ls : y.loops ≡ z.loops = a.loops ∙ loops ∙ sym b.loops in
          state-by y.ip z.ip y.pos z.pos y.groups z.groups y.starts z.starts y.loops z.loops ip pos groups starts ls

      alike : {ip : ℕ} (path : Path program stop ip) (y z : State) (e : ℕ → Effect) → y.ip ≡ ip → z.ip ≡ ip → Came d at w e y → Came d at x e z
          → SameBehind (effects path e) → Onto (running y ∷ []) z
      unfolding effects
      alike stops y z e here there a b same =
          subst (λ z. Onto (running y ∷ []) z) (same-behind e y z same (here ∙ sym there) a b) (simulates-same program text false d (running y ∷ []))
      alike (jumps ip to is rest) y z e here there a b same =
          both-on y z (state_with_ip to y) (state_with_ip to z) (turn-at y ip (Jump to) here is) (turn-at z ip (Jump to) there is)
          (alike rest (state_with_ip to y) (state_with_ip to z) e refl refl (came-on d at w y e a to) (came-on d at x z e b to) same)
      alike (resets ip id is rest) y z e here there a b same =
          only-simulates program text d false 0 (running y ∷ []) z (nat_lt id (length z.groups)) (go (unset_at id z)) (turn-at z ip (ResetCaptureGroup id) there is)
          (λ inside turn.
          let in_z = ltb-true id (length z.groups) inside in
          let in_y : id < length y.groups = omega (arith, in_z, a.groups_length, b.groups_length, groups_length) in
          both-on y z (unset_at id y) (unset_at id z)
          (turn-at y ip (ResetCaptureGroup id) here is ∙ ap (λ b. only_if b (go (unset_at id y))) (lt-ltb id (length y.groups) in_y)) turn
          (alike rest (unset_at id y) (unset_at id z) (at_one id then_reset e) (ap (λ n. n + 1) here) (ap (λ n. n + 1) there)
          (came-reset d at w y e a id (y.ip + 1) in_y) (came-reset d at x z e b id (z.ip + 1) in_z) same))
      alike (opens ip id is rest) y z e here there a b same =
          only-simulates program text d false 0 (running y ∷ []) z (nat_lt id (length z.groups) && nat_lt id (length z.starts)) (go (begun_at id z))
          (turn-at z ip (BeginCaptureGroup id) there is)
          (λ both turn.
          let in_z = ltb-true id (length z.groups) (and-left _ _ both) in
          let in_y : id < length y.groups = omega (arith, in_z, a.groups_length, b.groups_length, groups_length) in
          let begins_z : id < length z.starts = ltb-true id (length z.starts) (and-right _ _ both) in
          let begins_y : id < length y.starts = omega (arith, begins_z, a.starts_length, b.starts_length, starts_length) in
          both-on y z (begun_at id y) (begun_at id z)
          (turn-at y ip (BeginCaptureGroup id) here is
          ∙ ap (λ b. only_if b (go (begun_at id y))) (and_from _ _ (lt-ltb id (length y.groups) in_y) (lt-ltb id (length y.starts) begins_y))) turn
          (alike rest (begun_at id y) (begun_at id z) (at_one id (λ x. begun) e) (ap (λ n. n + 1) here) (ap (λ n. n + 1) there)
          (came-open d at w y e a id (y.ip + 1) in_y begins_y) (came-open d at x z e b id (z.ip + 1) in_z begins_z) same))
      alike (closes ip id is rest) y z e here there a b same =
          only-simulates program text d false 0 (running y ∷ []) z (nat_lt id (length z.groups)) (with_some (slice_get z.starts id) (λ n. go (closed_at id n z)))
          (turn-at z ip (EndCaptureGroup id) there is)
          (λ inside turn. some-simulates program text d false 0 (running y ∷ []) z (slice_get z.starts id) (λ n. go (closed_at id n z)) turn
          (λ n began on.
          let in_z = ltb-true id (length z.groups) inside in
          let in_y : id < length y.groups = omega (arith, in_z, a.groups_length, b.groups_length, groups_length) in
          let begins_z : id < length z.starts = slice_get_within z.starts id n began in
          let m = slice_get_some y.starts id (omega (arith, begins_z, a.starts_length, b.starts_length, starts_length)) in
          both-on y z (closed_at id m.0 y) (closed_at id n z)
          (turn-at y ip (EndCaptureGroup id) here is ∙ ap (λ b. only_if b (with_some (slice_get y.starts id) (λ n. go (closed_at id n y)))) (lt-ltb id (length y.groups) in_y)
          ∙ ap (λ o. with_some o (λ n. go (closed_at id n y))) m.1) on
          (alike rest (closed_at id m.0 y) (closed_at id n z) (at_one id then_close e) (ap (λ n. n + 1) here) (ap (λ n. n + 1) there)
          (came-close d at w y e a id (y.ip + 1) m.0 in_y m.1) (came-close d at x z e b id (z.ip + 1) n in_z began) same)))

-- ---- Several ways that change no group

data Ways (program : Program) (stop : ℕ) : (ip : ℕ) → Type 0 where
  arrives : Ways program stop stop
  leads : (ip to : ℕ) → slice_get program.insns ip ≡ Some (Jump to) → Ways program stop to → Ways program stop ip
  forks : (ip other : ℕ) → slice_get program.insns ip ≡ Some (Alt other) → Ways program stop (ip + 1) → Ways program stop other → Ways program stop ip

module _ (program : Program) (text : Text) (d : Direction) (stop : ℕ) (us : List Thread) (z : State) where
  abbrev IntoFrom : ℕ → Type 0
  IntoFrom ip = Simulates program text false d 0 us (running (state_with_ip ip z) ∷ [])

  silent : {ip : ℕ} → Ways program stop ip → IntoFrom stop → IntoFrom ip
  silent arrives on = on
  silent (leads ip to is rest) on = one-on program text d stop z.pos (state_with_ip ip z) (state_with_ip to z) us (ap (λ i. act_on program text d i (state_with_ip ip z)) is) (silent rest on)
  silent (forks ip other is next rest) on =
      let after = state_with_ip other z in
      let waits = simulates-fewer program text d 0 (1 + 0) us (waiting after ∷ []) (omega arith)
      (simulates-then program text false d 1 0 (waiting after ∷ []) (running after ∷ []) us (simulates-waits program text false d after) (silent rest on)) in
      simulates-fewer program text d 0 (1 + 0) us (running (state_with_ip ip z) ∷ []) (omega arith)
      (simulates-then program text false d 1 0 (running (state_with_ip ip z) ∷ []) (running (state_with_ip (ip + 1) z) ∷ waiting after ∷ []) us
      (simulates-goes program text false d (state_with_ip ip z) (running (state_with_ip (ip + 1) z) ∷ waiting after ∷ []) (ap (λ i. act_on program text d i (state_with_ip ip z)) is))
      (simulates-twice program text d us (running (state_with_ip (ip + 1) z)) (waiting after) (silent next on) waits))

-- ---- Required iterations

module _ (program : Program) (text : Text) (d : Direction) (begin stop : ℕ) (f : LoopFields)
    (goes_back : slice_get program.insns stop ≡ Some (LoopAgain begin)) (enters : slice_get program.insns begin ≡ Some (EnterLoop f))
    (last : ℕ) (least : f.min_iters ≡ last + 1) (fits : f.min_iters ≤ f.max_iters) where
  -- What simulates the next iteration simulates the end of a required one before the last.
  next-begins : (k : ℕ) (s z : State) → k < last → z.ip ≡ stop → z.loops ≡ slice_set s.loops f.loop_id (record { iters = k; entry = s.pos })
      → (us : List Thread) → Simulates program text false d 0 us (running (again f begin (k + 1) z) ∷ []) → Simulates program text false d 0 us (running z ∷ [])
  next-begins k s z few here loops us on =
      arm-again program text d z false 0 us begin f (ap (slice_get program.insns) here ∙ goes_back) enters
      (λ e known before.
      let e_is : e ≡ record { iters = k; entry = s.pos } =
      set-known s.loops f.loop_id (record { iters = k; entry = s.pos }) e (sym (ap (λ ls. slice_get ls f.loop_id) loops) ∙ known) in
      let iters : e.iters ≡ k = ap (λ (e : LoopData). e.iters) e_is in
      let turn : act program text d z ≡ iterate_or_leave_at_loop_head f begin (k + 1) z =
      again-counts program text d z f begin e (ap (slice_get program.insns) here ∙ goes_back) enters known before (λ same. omega (arith, iters, few, least))
      ∙ ap (λ n. iterate_or_leave_at_loop_head f begin (n + 1) z) iters in
      simulates-fewer program text d 0 (1 + 0) us (running z ∷ []) (omega arith)
      (simulates-then program text false d 1 0 (running z ∷ []) (running (again f begin (k + 1) z) ∷ []) us
      (loop-again program text d z f begin (k + 1) turn false (omega (arith, few, least, fits)) (omega (arith, few, least))) on))

  -- If iteration `k` is the last required one, that one simulates it.
  last-will-do : (k : ℕ) (s : State) → k + 0 ≡ last → Simulates program text false d 0 (running (again f begin last s) ∷ []) (running (again f begin k s) ∷ [])
  last-will-do k s at =
      let same : last ≡ k = omega (arith, at) in
      subst (λ k. Simulates program text false d 0 (running (again f begin last s) ∷ []) (running (again f begin k s) ∷ [])) same
      (simulates-same program text false d (running (again f begin last s) ∷ []))

  -- ---- Required iterations with one way through the body

  module _ (path : Path program stop (begin + 1)) where
    abbrev done : ℕ → Effect
    done = effects path (λ i. keeps)

    -- The last required iteration from before the body simulates the one from behind it.
    last-alike : (k : ℕ) (s z : State) → Came d s.pos (again f begin k s) done z
        → Simulates program text false d 0 (running (again f begin last s) ∷ []) (running (again f begin last z) ∷ [])
    last-alike k s z came =
        let w = again f begin last s in
        let x = again f begin last z in
        let set : slice_set z.loops f.loop_id (record { iters = last; entry = z.pos }) ≡ slice_set s.loops f.loop_id (record { iters = last; entry = s.pos }) =
        ap (λ p. slice_set z.loops f.loop_id (record { iters = last; entry = p })) came.pos
        ∙ ap (λ ls. slice_set ls f.loop_id (record { iters = last; entry = s.pos })) came.loops
        ∙ set-twice s.loops f.loop_id (record { iters = k; entry = s.pos }) (record { iters = last; entry = s.pos }) in
        alike program text d stop s.pos w x (sym set) (sym came.groups_length) (sym came.starts_length) path w x (λ i. keeps) refl refl (came-itself d w)
        (subst (λ p. Came d p x (λ i. keeps) x) came.pos (came-itself d x))
        (record {
          groups = λ i. group-twice d s.pos (done i) (slice_get s.groups i) (slice_get s.starts i)
              ∙ ap₂ (λ g n. group_by d s.pos (done i) g n) (sym (came.groups i)) (sym (came.starts i));
          starts = λ i. start-twice d s.pos (done i) (slice_get s.starts i) ∙ ap (start_by d s.pos (done i)) (sym (came.starts i));
        })

    straight-will-do : (n k : ℕ) (s : State) → k + n ≡ last → Simulates program text false d 0 (running (again f begin last s) ∷ []) (running (again f begin k s) ∷ [])
    straight-will-do zero k s at = last-will-do k s at
    straight-will-do (suc n) k s at =
        forward program text d stop s.pos path (again f begin k s) (again f begin k s) (λ i. keeps) refl (came-itself d (again f begin k s)) (running (again f begin last s) ∷ [])
        (λ z here came.
        next-begins k s z (omega (arith, at)) here came.loops (running (again f begin last s) ∷ [])
        (simulates-then program text false d 0 0 (running (again f begin (k + 1) z) ∷ []) (running (again f begin last z) ∷ []) (running (again f begin last s) ∷ [])
        (straight-will-do n (k + 1) z (omega (arith, at))) (last-alike k s z came)))

  -- ---- Required iterations with several ways that change no group

  module _ (ways : Ways program stop (begin + 1)) where
    silent-will-do : (n k : ℕ) (s : State) → k + n ≡ last → Simulates program text false d 0 (running (again f begin last s) ∷ []) (running (again f begin k s) ∷ [])
    silent-will-do zero k s at = last-will-do k s at
    silent-will-do (suc n) k s at =
        let us = running (again f begin last s) ∷ [] in
        let z = state_with_ip stop (again f begin k s) in
        let twice = set-twice s.loops f.loop_id (record { iters = k; entry = s.pos }) (record { iters = last; entry = s.pos }) in
        silent program text d stop us z ways
        (next-begins k s z (omega (arith, at)) refl refl us
        (subst (λ ls. Simulates program text false d 0 (running (record (again f begin last s) { loops = ls }) ∷ []) (running (again f begin (k + 1) z) ∷ [])) twice
        (silent-will-do n (k + 1) z (omega (arith, at)))))

-- ---- Ways of either kind

module _ (program : Program) (from stop : ℕ) (inside : stop < length program.insns) where
  -- A way exists from each instruction if it follows from the ways of later instructions.
  module _ (Way : ℕ → Type 0) (there : Way stop) (forks : Bool)
      (on : (ip : ℕ) → (insn : Insn) → slice_get program.insns ip ≡ Some insn → ReadsNothingAndLeadsOnward forks stop ip insn → ((to : ℕ) → ip < to → to ≤ stop → Way to) → ip < stop → Way ip)
      (reads : ReadsNothingUntil forks program from stop) where
    way-from : (n ip : ℕ) → from ≤ ip → ip ≤ stop → stop ≤ ip + n → Way ip
    way-from zero ip after before near = let same : stop ≡ ip = omega (arith, before, near) in subst Way same there
    way-from (suc n) ip after before near =
        by (λ to further within. way-from n to (omega (arith, after, further)) within (omega (arith, near, further))) (cases_lt ip stop)
      where
        by : ((to : ℕ) → ip < to → to ≤ stop → Way to) → (ip < stop) ⊎ (stop ≤ ip) → Way ip
        by rest (inl less) = let insn = slice_get_some program.insns ip (omega (arith, less, inside)) in on ip insn.0 insn.1 (reads ip after less insn.0 insn.1) rest less
        by rest (inr le) = let same : stop ≡ ip = omega (arith, before, le) in subst Way same there

  path-on : (ip : ℕ) → (insn : Insn) → slice_get program.insns ip ≡ Some insn → ReadsNothingAndLeadsOnward false stop ip insn → ((to : ℕ) → ip < to → to ≤ stop → Path program stop to) → ip < stop
      → Path program stop ip
  path-on ip insn there (inl to) rest less = jumps ip to.0 (there ∙ ap Some to.1) (rest to.0 to.2 to.3)
  path-on ip insn there (inr (id, inl is)) rest less = resets ip id (there ∙ ap Some is) (rest (ip + 1) (omega arith) (omega (arith, less)))
  path-on ip insn there (inr (id, inr (inl is))) rest less = opens ip id (there ∙ ap Some is) (rest (ip + 1) (omega arith) (omega (arith, less)))
  path-on ip insn there (inr (id, inr (inr is))) rest less = closes ip id (there ∙ ap Some is) (rest (ip + 1) (omega arith) (omega (arith, less)))

  ways-on : (ip : ℕ) → (insn : Insn) → slice_get program.insns ip ≡ Some insn → ReadsNothingAndLeadsOnward true stop ip insn → ((to : ℕ) → ip < to → to ≤ stop → Ways program stop to) → ip < stop
      → Ways program stop ip
  ways-on ip insn there (inl to) rest less = leads ip to.0 (there ∙ ap Some to.1) (rest to.0 to.2 to.3)
  ways-on ip insn there (inr other) rest less =
      forks ip other.0 (there ∙ ap Some other.1) (rest (ip + 1) (omega arith) (omega (arith, less))) (rest other.0 other.2 other.3)

pub last-iteration-will-do : LastRequiredEmptyIterationReplacesOthers
last-iteration-will-do program text d begin f idle fits k few s = by idle.forks idle.reads_nothing
  where
    inside : idle.stop < length program.insns
    inside = slice_get_within program.insns idle.stop (LoopAgain begin) idle.goes_back

    by : (forks : Bool) → ReadsNothingUntil forks program (begin + 1) idle.stop
        → Simulates program text false d 0 (running (again f begin (f.min_iters - 1) s) ∷ []) (running (again f begin k s) ∷ [])
    by false reads =
        let behind = idle.behind in
        straight-will-do program text d begin idle.stop f idle.goes_back idle.enters (f.min_iters - 1) (omega (arith, few)) fits
        (way-from program (begin + 1) idle.stop inside (λ ip. Path program idle.stop ip) stops false (path-on program (begin + 1) idle.stop inside) reads idle.stop (begin + 1)
        (omega arith) (omega (arith, behind)) (omega arith)) (f.min_iters - 1 - k) k s (omega (arith, few))
    by true reads =
        let behind = idle.behind in
        silent-will-do program text d begin idle.stop f idle.goes_back idle.enters (f.min_iters - 1) (omega (arith, few)) fits
        (way-from program (begin + 1) idle.stop inside (λ ip. Ways program idle.stop ip) arrives true (ways-on program (begin + 1) idle.stop inside) reads idle.stop (begin + 1)
        (omega arith) (omega (arith, behind)) (omega arith)) (f.min_iters - 1 - k) k s (omega (arith, few))
