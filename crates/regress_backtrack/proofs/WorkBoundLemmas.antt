-- Without backreferences, the events of a search cost at most the steps of the machine's search, and
-- it ends as the machine's search does.
use Rattle.std.proofs.Common.{◌≡◌, ◌≤◌, ℕ, ◌+◌, List, [], ◌∷◌, ◌++◌, map, Option, Some, None, Bool, true, false, refl, ap, sym, subst, arith, slice_get, true≢false}
use Rattle.regex_meaning.proofs.OptionLemmas.{some-same}
use Rattle.regex_meaning.specs.Text.{Text, Direction, rightwards, leftwards}
use Rattle.regex_meaning.specs.CodeUnits.{text_units_in_encoding}
use Rattle.regex_meaning.specs.CodeUnitOffsets.{place_at}
use Rattle.regex_meaning.specs.CompilationRelation.{Program, Insn}
use Rattle.regex_meaning.specs.CompilationRelation as layout
use Rattle.regress_machine.specs.Machine.{State, Thread, Found, running, waiting, Next, goes, scans, ends, asks, stuck, with_some, scan, test_of, act, act_on, after_lookaround, search}
use Rattle.regress_machine.specs.Machine.{first_running_and_others_waiting}
use Rattle.regress_machine.specs.InsnEffects.{tested_char_count_of_step}
use Rattle.regress_machine.specs.ThreadSimulation.{Within, Simulates}
use Rattle.regress_machine.specs.ExecutorLoopInvariantAndSpentSteps.{IsSearchFinishedWithinSteps}
use Rattle.regress_machine.proofs.MachineSearchLemmas.{asked-inner}
use Rattle.regress_machine.proofs.ThreadSimulationLemmas.{within-start, within-simulates, simulates-same, simulates-fewer, simulates-waits, simulates-behind, drops-prefix, nothing-waits}
use Rattle.regress_machine.proofs.RunningAndWaitingThreads.{loosely, takes-up, goes-then, scans-then}
use Rattle.regress_machine.proofs.ExecutorLoopLemmas.{left-ends, left-none, simulates-asked}
use Rattle.regress_machine.proofs.LiveAlternationArmLemmas.{arms-turn}
use Rattle.regress_program.specs.CompilationOfTreesAsFunction.{compiled}
use Rattle.regress_backtrack.specs.RepeatableLoopBodies.{IsNoBackreference, HasNoBackreference}
use Rattle.regress_backtrack.specs.ThreadsLeftByOps.{AreThoseLeft, none_is_there, is_left_out, is_kept, ends_search, threads_after_step, TakesUp, one_runs, none_runs, LeftByOp, by_step, by_arms}
use Rattle.regress_backtrack.specs.ThreadsLeftByOps.{by_no, by_yes, by_iteration}
use Rattle.regress_backtrack.specs.WorkOfOps.{max_at_once, work_beyond_one}
use Rattle.regress_backtrack.specs.WorkOfSearches.{cost_of_op, HasCome, to_no_end, to_an_end, Course, nothing_yet, then_executes, then_resumes, then_looks}
use Rattle.regress_backtrack.specs.WorkOfAttempts.{AttemptsCostAtMostTheirSteps, threads_of_attempt}
use Rattle.regress_backtrack.proofs.LoopBeforeGoalTurns.{simulates-end, simulates-end-waiting}
use Rattle.regress_backtrack.proofs.OpWorkLemmas.{asks-alone}

-- ---- An operation costs at most what the machine's step takes

most-at-once : (greedy : Bool) (d : Direction) (least most : ℕ) → max_at_once greedy d least most ≤ most
most-at-once true d least most = omega arith
most-at-once false rightwards least most = omega arith
most-at-once false leftwards least most = omega arith

-- A loop with a smaller maximum tries no more characters.
loop-most : (text : Text) (s : State) (d : Direction) (least few most : ℕ) (greedy : Bool) (test : Option (ℕ → Bool)) (p : Option ℕ) → few ≤ most
    → tested_char_count_of_step (with_some test (λ test. with_some p (λ p. scan text least few greedy test d p s)))
    ≤ tested_char_count_of_step (with_some test (λ test. with_some p (λ p. scan text least most greedy test d p s)))
loop-most text s d least few most greedy None p le = omega arith
loop-most text s d least few most greedy (Some test) None le = omega arith
loop-most text s d least few most greedy (Some test) (Some p) le = omega (arith, le)

module _ (program : Program) (text : Text) (d : Direction) (s : State) where
  beyond-most : (o : Option Insn) → ((insn : Insn) → o ≡ Some insn → IsNoBackreference insn) → work_beyond_one program text d s o ≤ tested_char_count_of_step (act_on program text d o s)
  beyond-most (Some (layout.Loop1CharBody least most greedy)) free =
      loop-most text s d least (max_at_once greedy d least most) most greedy (test_of program (slice_get program.insns (s.ip + 1))) (place_at text s.pos) (most-at-once greedy d least most)
  beyond-most (Some (layout.BackRef group same)) free = absurd (free (layout.BackRef group same) refl)
  beyond-most None free = omega arith
  beyond-most (Some layout.Goal) free = omega arith
  beyond-most (Some layout.JustFail) free = omega arith
  beyond-most (Some (layout.Char c)) free = omega arith
  beyond-most (Some (layout.CharSet members)) free = omega arith
  beyond-most (Some (layout.ByteSet members)) free = omega arith
  beyond-most (Some (layout.ByteSeq bytes)) free = omega arith
  beyond-most (Some (layout.AsciiBracket members)) free = omega arith
  beyond-most (Some (layout.Bracket index)) free = omega arith
  beyond-most (Some layout.MatchAny) free = omega arith
  beyond-most (Some layout.MatchAnyExceptLineTerminator) free = omega arith
  beyond-most (Some (layout.StartOfLine multiline)) free = omega arith
  beyond-most (Some (layout.EndOfLine multiline)) free = omega arith
  beyond-most (Some (layout.WordBoundary invert)) free = omega arith
  beyond-most (Some (layout.WordBoundaryUnicodeICase invert)) free = omega arith
  beyond-most (Some (layout.Alt secondary)) free = omega arith
  beyond-most (Some (layout.Jump target)) free = omega arith
  beyond-most (Some (layout.EnterLoop f)) free = omega arith
  beyond-most (Some (layout.LoopAgain begin)) free = omega arith
  beyond-most (Some (layout.ResetCaptureGroup id)) free = omega arith
  beyond-most (Some (layout.BeginCaptureGroup id)) free = omega arith
  beyond-most (Some (layout.EndCaptureGroup id)) free = omega arith
  beyond-most (Some (layout.Lookahead n start end continuation)) free = omega arith
  beyond-most (Some (layout.Lookbehind n start end continuation)) free = omega arith

module _ (program : Program) (text : Text) (code_units : List ℕ) where
  -- ---- States that are left out take steps

  left-waits : (d : Direction) (some all : List State) → AreThoseLeft program text code_units d some all → Simulates program text false d 0 (map waiting some) (map waiting all)
  left-waits d some0 all0 none_is_there = simulates-same program text false d []
  left-waits d some0 all0 (is_left_out s some all dead rest) =
      simulates-fewer program text d 0 1 (map waiting some) (map waiting (s ∷ all)) (omega arith)
      (loosely program text d 1 0 (map waiting (s ∷ all)) (map waiting all) (map waiting some)
      (drops-prefix program text d (waiting s) (map waiting all) (nothing-waits program text d s (dead s refl refl))) (left-waits d some all rest))
  left-waits d some0 all0 (is_kept s some all rest) = simulates-behind program text d 0 (map waiting some) (map waiting all) (waiting s ∷ []) (left-waits d some all rest)
  left-waits d some0 all0 (ends_search s all goal) = simulates-end-waiting program text false d s (ap (λ o. act_on program text d o s) goal) (map waiting all)

  left-runs : (d : Direction) (some all : List State) → AreThoseLeft program text code_units d some all
      → Simulates program text false d 0 (first_running_and_others_waiting some) (first_running_and_others_waiting all)
  left-runs d some0 all0 none_is_there = simulates-same program text false d []
  left-runs d some0 all0 (is_left_out s some all dead rest) =
      simulates-fewer program text d 0 1 (first_running_and_others_waiting some) (first_running_and_others_waiting (s ∷ all)) (omega arith)
      (loosely program text d 1 0 (first_running_and_others_waiting (s ∷ all)) (map waiting all) (first_running_and_others_waiting some)
      (drops-prefix program text d (running s) (map waiting all) (dead s refl refl))
      (loosely program text d 0 0 (map waiting all) (map waiting some) (first_running_and_others_waiting some) (left-waits d some all rest) (takes-up program text d some)))
  left-runs d some0 all0 (is_kept s some all rest) = simulates-behind program text d 0 (map waiting some) (map waiting all) (running s ∷ []) (left-waits d some all rest)
  left-runs d some0 all0 (ends_search s all goal) = simulates-end program text false d s (ap (λ o. act_on program text d o s) goal) (map waiting all)

  -- ---- An operation

  module _ (plain : HasNoBackreference program) where
    module _ (d : Direction) (s : State) where
      abbrev beyond : ℕ
      beyond = work_beyond_one program text d s (slice_get program.insns s.ip)

      beyond-tested : (n : Next) → act program text d s ≡ n → beyond ≤ tested_char_count_of_step n
      beyond-tested n is = subst (λ n. beyond ≤ tested_char_count_of_step n) is (beyond-most program text d s (slice_get program.insns s.ip) (λ insn there. plain s.ip insn there))

      abbrev Replacing : (n : ℕ) → List Thread → Type 0
      Replacing n us = Simulates program text false d n us (running s ∷ [])

      in-one : (us vs : List Thread) → beyond ≡ 0 → us ≡ vs → Replacing 1 vs → Replacing (1 + beyond) us
      in-one us vs none same simulates =
          subst (Replacing (1 + beyond)) (sym same) (simulates-fewer program text d (1 + beyond) 1 vs (running s ∷ []) (omega (arith, none)) simulates)

      step-simulates : (us : List Thread) (all states : List State) → threads_after_step (act program text d s) ≡ Some (first_running_and_others_waiting all)
          → AreThoseLeft program text code_units d states all → us ≡ first_running_and_others_waiting states → Replacing (1 + beyond) us
      step-simulates us all states leaves left same = by (act program text d s) refl leaves
        where
          runs : (ts : List Thread) → Some ts ≡ Some (first_running_and_others_waiting all) → Simulates program text false d 0 us ts
          runs ts e =
              subst (λ us. Simulates program text false d 0 us ts) (sym same)
              (subst (λ ts. Simulates program text false d 0 (first_running_and_others_waiting states) ts) (sym (some-same ts (first_running_and_others_waiting all) e)) (left-runs d states all left))

          by : (n : Next) → act program text d s ≡ n → threads_after_step n ≡ Some (first_running_and_others_waiting all) → Replacing (1 + beyond) us
          by (goes ts) is e =
              let most = beyond-tested (goes ts) is in
              simulates-fewer program text d (1 + beyond) 1 us (running s ∷ []) (omega (arith, most)) (goes-then program text d s ts us is (runs ts e))
          by (scans tries ts) is e =
              let most = beyond-tested (scans tries ts) is in
              simulates-fewer program text d (1 + beyond) (1 + tries) us (running s ∷ []) (omega (arith, most)) (scans-then program text d s tries ts us is (runs ts e))
          by (ends t) is e = cc
          by (asks inner negate contents past) is e = cc
          by stuck is e = cc

      op-simulates : (us : List Thread) → LeftByOp program text code_units d s us → Replacing (1 + beyond) us
      op-simulates us (by_step all states leaves left same) = step-simulates us all states leaves left same
      op-simulates us (by_arms may count arms live dead same) =
          in-one us _ (ap (work_beyond_one program text d s) live.2) same
          (arms-turn program text d s may (λ ip excluded. dead ip excluded (record s { ip = ip }) refl refl) count s.ip arms live)
      op-simulates us (by_no inner negate contents past asked dead same) = in-one us [] (asks-alone program text d s inner negate contents past asked) same (dead s refl refl)
      op-simulates us (by_yes inner negate contents past asked passes same) =
          in-one us (running past ∷ []) (asks-alone program text d s inner negate contents past asked) same (passes s refl refl inner negate contents past asked)
      op-simulates us (by_iteration begin next later f back enters turn may same) = in-one us _ (ap (work_beyond_one program text d s) back) same (may s (omega arith) turn)

    -- ---- A choice point

    module _ (d : Direction) (turns work : ℕ) (f : Found) where
      abbrev Left : (n : ℕ) → List Thread → Type 0
      Left n ts = Within program text false turns d n ts f

      takes-within : (ts us : List Thread) → TakesUp program text code_units d ts us → Left work ts → Left (work + 1) us
      takes-within ts us (one_runs out s rest vain before after) w =
          let gone = within-simulates program text false turns d work 0 [] (map waiting out) (waiting s ∷ rest) f (left-waits d [] out vain) (subst (Left work) before w) in
          subst (Left (work + 1)) (sym after)
          (subst (λ n. Left n (running s ∷ rest)) (omega arith)
          (within-simulates program text false turns d (work + 0) 1 (running s ∷ []) (waiting s ∷ []) rest f (simulates-waits program text false d s) gone))
      takes-within ts us (none_runs s out dead vain before) w =
          within-simulates program text false turns d work 1 [] (map waiting (s ∷ out)) us f
          (loosely program text d 1 0 (map waiting (s ∷ out)) (map waiting out) []
          (drops-prefix program text d (waiting s) (map waiting out) (nothing-waits program text d s (dead s refl refl))) (left-waits d [] out vain))
          (subst (Left work) before w)

      -- The search has ended.
      comes-finished : (ts : List Thread) (last : ℕ) (end : Option State) → HasCome program text code_units d ts last end → Left work ts → IsSearchFinishedWithinSteps false (work + last) end f
      comes-finished ts last end (to_no_end none) w =
          subst (λ n. IsSearchFinishedWithinSteps false n None f) (omega arith) (left-none program text false turns d work f (subst (Left work) none w))
      comes-finished ts last end (to_an_end s rest is ended) w =
          let over = left-ends program text false turns d work s s rest f ended (subst (Left work) is w) in
          let most = beyond-tested d s (ends s) ended in
          let few = over.few in
          record { ends_so = over.ends_so; few = omega (arith, few, most); counted = λ c. absurd (true≢false (sym c)) }

    -- ---- A course

    course-within : (d : Direction) (first : List Thread) (work : ℕ) (now : List Thread) (turns : ℕ) (f : Found) → Course program text code_units d first work now → search program text turns d first ≡ Some f
        → Within program text false turns d work now f
    course-within d first work now turns f (nothing_yet d0 first0) e = within-start program text false turns d first f e
    course-within d first work now turns f (then_executes d0 first0 before s us rest c left) e =
        within-simulates program text false turns d before (cost_of_op program text code_units d s) us (running s ∷ []) rest f (op-simulates d s us left)
        (course-within d first before (running s ∷ rest) turns f c e)
    course-within d first work now turns f (then_resumes d0 first0 before ts us c takes) e = takes-within d turns before f ts us takes (course-within d first before ts turns f c e)
    course-within d first work now turns f (then_looks d0 inner first0 before inside last s contents past negate rest ts end c asked run come) e =
        let w = course-within d first before (running s ∷ rest) turns f c e in
        let a = asked-inner program text turns d inner negate s contents past rest w.found asked w.searches in
        let over = comes-finished inner turns inside a.found ts last end come (course-within inner (running contents ∷ []) inside ts turns a.found run a.searches) in
        subst (λ n. Within program text false turns d n (after_lookaround negate past end ++ rest) f) (omega arith)
        (within-simulates program text false turns d before (1 + (inside + last)) (after_lookaround negate past end) (running s ∷ []) rest f
        (simulates-asked program text d false inner negate s contents past turns (inside + last) end a.found asked a.searches over) w)

pub attempts-bounded : AttemptsCostAtMostTheirSteps
attempts-bounded e tree text at cost turns f plain c found =
    let units = text_units_in_encoding e text in
    let left = course-within (compiled tree) text units plain rightwards (threads_of_attempt tree at) c.work c.now turns f c.course found in
    let over = comes-finished (compiled tree) text units plain rightwards turns c.work f c.now c.last c.end c.come left in
    let few = over.few in
    let sum = c.is_sum in
    (over.ends_so, omega (arith, few, sum))
