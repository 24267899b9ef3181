-- After each turn of the executor the remaining states find the end of the search in fewer steps.
use Rattle.std.proofs.Common.{◌≡◌, inl, inr, ℕ, ◌<◌, ◌≤◌, List, [], ◌∷◌, ◌++◌, Option, Some, None, Bool, refl, ap, sym, ◌∙◌, subst, arith, map, reverse, append-nil, replicate, take, ◌-◌}
use Rattle.std.proofs.lemmas.List.{map-append, reverse-append}
use Rattle.std.proofs.lemmas.Simd.{map-map}
use Rattle.regex_meaning.proofs.ListLemmas.{map-replicate}
use Rattle.std.specs.Prelude.{option_map, IsTrue, IsSome, slice_get}
use Rattle.regex_meaning.specs.Text.{Text, Direction}
use Rattle.regex_meaning.specs.CodeUnitOffsets.{HasRisingPlaceOffsets, units}
use Rattle.regex_meaning.specs.CompilationRelation.{Program, Insn}
use Rattle.regex_meaning.specs.Tree.{Tree}
use Rattle.regress_input.specs.CharAndByteReadsFromOffset.{direction_of_forward_flag}
use Rattle.regress_program.specs.SearchableTexts.{IsByteText}
use Rattle.regress_search.proofs.LiteralBytesInCode.{literal-reads}
use Rattle.regress_program.specs.CompilationOfTreesAsFunction.{compiled}
use Rattle.regress_machine.specs.TextsForBytePrograms.{HasUtf8CharactersAndOffsets, tree_contains_byte_nodes}
use Rattle.regress_machine.specs.Machine as machine
use Rattle.regress_machine.specs.Machine.{Thread, running, waiting, first_running_and_others_waiting, Next, goes, scans, ends, asks, after_lookaround, act, search}
use Rattle.regress_machine.specs.SearchFindsFirstOutcomeAtPlace.{state_before_first_insn, end_and_groups_of_state}
use Rattle.regress_machine.specs.ExecutorLoopInvariantAndSpentSteps.{steps_of}
use Rattle.regress_machine.proofs.RemainingThreads.{steps_left, Remains, Left, left-waits, remains-can, remains-inside, remains-ends, remains-none, left-goes, left-scans, left-asks}
use Rattle.regress_pikevm.specs.declared.pikevm.states.State.{State}
use Rattle.regress_pikevm.specs.declared.pikevm.states.NextStates.{NextStates}
use Rattle.regress_pikevm.specs.declared.pikevm.states.NextStates.TheVariants.{Dead, Continue, Fork, Lookaround}
use Rattle.regress_pikevm.specs.States.{loop_data_in_offsets, effect_of_next_states, machine_state_of, states_by_priority, threads_of_stack, TakesFirstOfPendingThreads}
use Rattle.regress_machine.specs.InsnEffects.{IsNotStuck, is_byte_sequence_insn, end_of_search}

-- ---- The stack

waiting-push : {P : Type 0} (offset : P → ℕ) (xs : List (State P)) (s : State P) → threads_of_stack offset (xs ++ s ∷ []) ≡ waiting (machine_state_of offset s) ∷ threads_of_stack offset xs
waiting-push offset xs s = ap (λ l. map (λ s. waiting (machine_state_of offset s)) l) (reverse-append xs (s ∷ []))

pub waiting-append : {P : Type 0} (offset : P → ℕ) (xs ys : List (State P)) → threads_of_stack offset (xs ++ ys) ≡ threads_of_stack offset ys ++ threads_of_stack offset xs
waiting-append offset xs ys =
    ap (λ l. map (λ s. waiting (machine_state_of offset s)) l) (reverse-append xs ys) ∙ map-append (λ s. waiting (machine_state_of offset s)) (reverse ys) (reverse xs)

-- If nothing can be popped, the stack is empty.
pub popped-none : {X : Type 0} (xs ys : List X) (n : ℕ) → xs ≡ ys ++ [] → n ≡ 0 → ys ≡ take (n - 1) xs → xs ≡ []
popped-none xs ys n e z r = e ∙ append-nil ys ∙ r ∙ ap (λ m. take (m - 1) xs) z

-- The last state of a scan runs, and the others wait above the stack in order of priority.
pub scan-threads : {P : Type 0} (offset : P → ℕ) (states rest stack : List (State P)) (s : State P) → states ≡ rest ++ s ∷ []
    → running (machine_state_of offset s) ∷ threads_of_stack offset (stack ++ rest) ≡ first_running_and_others_waiting (states_by_priority offset states) ++ threads_of_stack offset stack
scan-threads offset states rest stack s e =
    let order : states_by_priority offset states ≡ machine_state_of offset s ∷ states_by_priority offset rest =
    ap (states_by_priority offset) e ∙ ap (map (λ s. machine_state_of offset s)) (reverse-append rest (s ∷ [])) in
    ap (λ l. running (machine_state_of offset s) ∷ l) (waiting-append offset stack rest ∙ ap (λ l. l ++ threads_of_stack offset stack) (sym (map-map waiting (λ s. machine_state_of offset s) (reverse rest))))
    ∙ ap (λ l. first_running_and_others_waiting l ++ threads_of_stack offset stack) (sym order)

-- ---- The first state

copies-are : {X Y : Type 0} (f : X → Y) (xs : List X) (n m : ℕ) (x : X) → xs ≡ replicate n x → n ≡ m → map f xs ≡ replicate m (f x)
copies-are f xs n m x e same = ap (map f) e ∙ map-replicate f n x ∙ ap (λ n. replicate n (f x)) same

pub initial-is : (P : Type 0) (offset : P → ℕ) (program : Program) (s : State P) (groups loops : ℕ) → s.ip ≡ 0 → s.groups.items ≡ replicate groups None
    → s.starts.items ≡ replicate groups s.pos → s.loops.items ≡ replicate loops (record { iters = 0; entry = s.pos }) → groups ≡ program.groups → loops ≡ program.loops
    → machine_state_of offset s ≡ state_before_first_insn program (offset s.pos)
initial-is P offset program s groups loops i g st ls eg el =
    let a = copies-are {X = Option (P × P)} {Y = Option (ℕ × ℕ)} (option_map (λ r. (offset r.0, offset r.1))) s.groups.items groups program.groups None g eg in
    let b = copies-are offset s.starts.items groups program.groups s.pos st eg in
    let c = copies-are (loop_data_in_offsets offset) s.loops.items loops program.loops (record { iters = 0; entry = s.pos }) ls el in
    rw (i, a, b, c) refl

-- ---- Turns of the executor

-- The text has UTF-8 offsets if the code of a tree has instructions that match byte sequences.
pub reads-literals : (tree : Tree) (text : Text) {are_bytes : Bool} → (IsTrue (tree_contains_byte_nodes tree.root) → IsByteText text are_bytes)
    → (i : ℕ) (insn : Insn) → slice_get (compiled tree).insns i ≡ Some insn → IsTrue (is_byte_sequence_insn insn) → HasUtf8CharactersAndOffsets text
reads-literals tree text bytes i insn q l = (bytes (literal-reads tree i insn q l)).reads

-- The state that was popped runs, and the states left on the stack wait behind it.
pub record TakenUp {P : Type 0} (offset : P → ℕ) (program : Program) (text : Text) (turns : ℕ) (d : Direction) (top : ℕ) (end : Option machine.State) (ts : List Thread) (s : State P) (rest : List (State P)) : Type 0 where
  is : HasRisingPlaceOffsets text
  reads : (i : ℕ) (insn : Insn) → slice_get program.insns i ≡ Some insn → IsTrue (is_byte_sequence_insn insn) → HasUtf8CharactersAndOffsets text
  few : steps_left program text turns d ts ≤ top
  remains : Remains program text turns d top end (running (machine_state_of offset s) ∷ threads_of_stack offset rest)
  no_more : steps_left program text turns d (running (machine_state_of offset s) ∷ threads_of_stack offset rest) ≤ steps_left program text turns d ts

-- The first premise of each lemma determines these implicit arguments.
module _ {program : Program} {text : Text} {turns : ℕ} {d : Direction} {top : ℕ} {end : Option machine.State} {ts : List Thread} where
  pub taken-up : {P : Type 0} (offset : P → ℕ) → Remains program text turns d top end ts → HasRisingPlaceOffsets text
      → ((i : ℕ) (insn : Insn) → slice_get program.insns i ≡ Some insn → IsTrue (is_byte_sequence_insn insn) → HasUtf8CharactersAndOffsets text)
      → (s : State P) (rest : List (State P)) → TakesFirstOfPendingThreads offset ts (Some s) rest → TakenUp offset program text turns d top end ts s rest
  taken-up offset r is reads s rest (inl e) = record {
    is = is;
    reads = reads;
    few = r.few;
    remains = subst (Remains program text turns d top end) e r;
    no_more = let same = ap (steps_left program text turns d) e in omega (arith, same);
  }
  taken-up offset r is reads s rest (inr e) =
      let w = left-waits program text turns d top end (machine_state_of offset s) (threads_of_stack offset rest) (subst (Remains program text turns d top end) e r) in
      let same = ap (steps_left program text turns d) e in
      record { is = is; reads = reads; few = r.few; remains = w.remains; no_more = omega (arith, same, w.fewer) }

  pub turn-none : Remains program text turns d top end ts → ts ≡ [] → None ≡ end
  turn-none r e = remains-none program text turns d top end (subst (Remains program text turns d top end) e r)

  module _ {P : Type 0} {offset : P → ℕ} {s : State P} {rest : List (State P)} (up : TakenUp offset program text turns d top end ts s rest) where
    abbrev taken : List Thread
    taken = running (machine_state_of offset s) ∷ threads_of_stack offset rest

    then-left : (after : List Thread) → Left program text turns d top end taken after → Left program text turns d top end ts after
    then-left after l = record { remains = l.remains; fewer = let a = l.fewer in let b = up.no_more in omega (arith, a, b) }

    pub turn-can : IsNotStuck (act program text d (machine_state_of offset s))
    turn-can = remains-can program text turns d top end (machine_state_of offset s) (threads_of_stack offset rest) up.remains

    pub turn-inside : offset s.pos ≤ units text
    turn-inside = remains-inside program text turns d top end (machine_state_of offset s) (threads_of_stack offset rest) up.remains

    turn-goes : {n : Next} (ss : List Thread) {after : List Thread} → n ≡ act program text d (machine_state_of offset s) → goes ss ≡ n → after ≡ ss ++ threads_of_stack offset rest
        → Left program text turns d top end ts after
    turn-goes ss {after = after} e g a =
        then-left after (subst (Left program text turns d top end taken) (sym a)
        (left-goes program text turns d top end up.is up.reads (machine_state_of offset s) ss (threads_of_stack offset rest) up.remains (sym (g ∙ e))))

    -- A turn of the executor fails, continues with one state or forks into two.
    module _ (turn : NextStates P) (is : effect_of_next_states offset turn ≡ act program text d (machine_state_of offset s)) where
      pub turn-dead : turn ≡ Dead → Left program text turns d top end ts (threads_of_stack offset rest)
      turn-dead was = turn-goes [] is (ap (effect_of_next_states offset) (sym was)) refl

      pub turn-go : (next : State P) → turn ≡ Continue next → Left program text turns d top end ts (running (machine_state_of offset next) ∷ threads_of_stack offset rest)
      turn-go next was = turn-goes (running (machine_state_of offset next) ∷ []) is (ap (effect_of_next_states offset) (sym was)) refl

      pub turn-fork_thread_at_insn : (preferred other : State P) (stack : List (State P)) → turn ≡ Fork preferred other → stack ≡ rest ++ other ∷ []
          → Left program text turns d top end ts (running (machine_state_of offset preferred) ∷ threads_of_stack offset stack)
      turn-fork_thread_at_insn preferred other stack was pushed =
          turn-goes (running (machine_state_of offset preferred) ∷ waiting (machine_state_of offset other) ∷ []) is (ap (effect_of_next_states offset) (sym was))
          (ap (λ l. running (machine_state_of offset preferred) ∷ l) (ap (threads_of_stack offset) pushed ∙ waiting-push offset rest other))

    pub turn-scans : {n : Next} (tries : ℕ) (ss : List Thread) {after : List Thread} → n ≡ act program text d (machine_state_of offset s) → scans tries ss ≡ n → after ≡ ss ++ threads_of_stack offset rest
        → Left program text turns d top end ts after
    turn-scans tries ss {after = after} e g a =
        then-left after (subst (Left program text turns d top end taken) (sym a)
        (left-scans program text turns d top end up.is up.reads (machine_state_of offset s) tries ss (threads_of_stack offset rest) up.remains (sym (g ∙ e))))

    pub turn-ends : {n : Next} (t : machine.State) → n ≡ act program text d (machine_state_of offset s) → ends t ≡ n → Some t ≡ end
    turn-ends t e g = remains-ends program text turns d top end (machine_state_of offset s) t (threads_of_stack offset rest) up.remains (sym (g ∙ e))

    -- A lookaround's search has an answer and takes fewer steps than the bound.
    pub record AskedOf (inner : Direction) (negate : Bool) (u w : machine.State) : Type 0 where
      pub answers : IsSome (search program text turns inner (running u ∷ []))
      pub inside : u.pos ≤ units text
      pub fewer : steps_of (search program text turns inner (running u ∷ [])) < top
      pub behind : Left program text turns d top end ts (after_lookaround negate w (end_of_search (search program text turns inner (running u ∷ []))) ++ threads_of_stack offset rest)

    turn-asks : {n : Next} (u w : machine.State) (inner : Direction) (negate : Bool) → n ≡ act program text d (machine_state_of offset s) → asks inner negate u w ≡ n
        → AskedOf inner negate u w
    turn-asks u w inner negate e g =
        let a = left-asks program text turns d top end up.is up.reads (machine_state_of offset s) u w inner negate (threads_of_stack offset rest) up.remains (sym (g ∙ e)) in
        record {
          answers = a.answers;
          inside = a.inside;
          fewer = let f = a.fewer in let m = up.no_more in let few = up.few in omega (arith, f, m, few);
          behind = then-left _ a.behind;
        }

    pub turn-ask : (turn : NextStates P) → effect_of_next_states offset turn ≡ act program text d (machine_state_of offset s) → (forward negate : Bool) (inner after : State P) → turn ≡ Lookaround forward negate inner after
        → AskedOf (direction_of_forward_flag forward) negate (machine_state_of offset inner) (machine_state_of offset after)
    turn-ask turn is forward negate inner after was = turn-asks (machine_state_of offset inner) (machine_state_of offset after) (direction_of_forward_flag forward) negate is (ap (effect_of_next_states offset) (sym was))

    asked-left : {inner : Direction} {negate : Bool} {u w : machine.State} {l : List Thread} → AskedOf inner negate u w
        → l ≡ after_lookaround negate w (end_of_search (search program text turns inner (running u ∷ []))) → Left program text turns d top end ts (l ++ threads_of_stack offset rest)
    asked-left a e = subst (λ l. Left program text turns d top end ts (l ++ threads_of_stack offset rest)) (sym e) a.behind

    -- After a lookaround the search continues with the threads that its result leaves.
    pub turn-resumed : (turn : NextStates P) → effect_of_next_states offset turn ≡ act program text d (machine_state_of offset s) → (forward negate : Bool) (inner after : State P) → turn ≡ Lookaround forward negate inner after
        → {l : List Thread} → l ≡ after_lookaround negate (machine_state_of offset after) (end_of_search (search program text turns (direction_of_forward_flag forward) (running (machine_state_of offset inner) ∷ [])))
        → Left program text turns d top end ts (l ++ threads_of_stack offset rest)
    turn-resumed turn is forward negate inner after was e = asked-left (turn-ask turn is forward negate inner after was) e

pub map-end : {P : Type 0} (offset : P → ℕ) (o : Option (State P)) → option_map (λ s. end_and_groups_of_state (machine_state_of offset s)) o ≡ option_map end_and_groups_of_state (option_map (λ s. machine_state_of offset s) o)
map-end offset None = refl
map-end offset (Some s) = refl

pub less-by : (x y n : ℕ) → x < y → y ≡ n → x < n
less-by x y n less e = omega (arith, less, e)
