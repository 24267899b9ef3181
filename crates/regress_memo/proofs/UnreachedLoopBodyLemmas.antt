-- No thread reaches the body of a char loop if no successor of an instruction is one.
use Rattle.std.proofs.Common.{◌≡◌, ◌≤◌, ◌<◌, ◌-◌, ℕ, zero, suc, ◌+◌, Bool, true, false, List, [], ◌∷◌, Option, Some, None, refl, ap, ◌∙◌, sym, subst, arith, length, map, slice_get}
use mathlib.Core.Logic.{inl, inr}
use Rattle.std.specs.List.{sum_by}
use Rattle.std.proofs.lemmas.Bool.{cases_lt}
use Rattle.std.proofs.lemmas.List.{length-map}
use Rattle.std.proofs.lemmas.Option.{slice_get_past}
use Rattle.std.proofs.lemmas.List.Sums.{sum_by-cons}
use Rattle.regex_meaning.specs.Laws.{Each}
use Rattle.regex_meaning.specs.CompilationRelation.{Program, Insn, EnterLoop, Loop1CharBody}
use Rattle.regress_machine.specs.Machine.{Thread, running, waiting}
use Rattle.regress_program.specs.InsnsAsSpec.{insn_as_spec_insn}
use Rattle.regress_program.specs.declared.instructions.Insn as declared
use Rattle.regress_memo.specs.UnboundedCharLoopMemoKeys.{char_loop_greediness_at, insn_before}
use Rattle.regress_memo.specs.ThreadPotentials.{Potentials, potential_of, CoversOne, CoversTwo, CoversRepeat, AreCovering}
use Rattle.regress_memo.proofs.ThreadPotentialLemmas.{turns-weighed}
use Rattle.regress_memo.specs.declared.analysis_result.MemoAnalysis.{MemoAnalysis}
use Rattle.regress_memo.specs.declared.successors.Successors.{Successors}
use Rattle.regress_memo.specs.declared.successors.Successors.TheVariants.{Ends, One, Two, Enter, Again, Run, LookaroundSuccessor, Same}
use Rattle.regress_memo.specs.UnreachedCharLoopBodies.{are_char_loop_successors, IsNotLoopBody, EntersPastBodies, FlowsPastBodies, CharLoopBodiesAreUnreached}
use Rattle.regress_memo.specs.Successors.{DeclaredInsnsEqualProgramInsns, successors_of_insn_if_any}
use Rattle.regress_memo.specs.AnalysisChecks.{IsConsistentAt}
use Rattle.regress_memo.specs.CheckedAnalysis.{IsAnalysisOf, ip_of}
use Rattle.regress_memo.proofs.AnalysisCheckLemmas.{EnoughBy, has-enough}

-- ---- Checks of successors

no-run : (x : Option Insn) (ip : ℕ) → are_char_loop_successors (successors_of_insn_if_any ip x) ≡ false → char_loop_greediness_at x ≡ None
no-run (Some (Loop1CharBody least most greedy)) ip e = cc
no-run _ ip e = refl

-- An instruction is not a loop body if the one before it is no char loop.
pub no-body : (program : Program) (insns : List declared.Insn) (ip : ℕ) → DeclaredInsnsEqualProgramInsns program insns → 0 < ip
    → are_char_loop_successors (successors_of_insn_if_any (ip - 1) (slice_get (map insn_as_spec_insn insns) (ip - 1))) ≡ false → IsNotLoopBody program ip
no-body program insns zero has some e = absurd (omega (arith, some))
no-body program insns (suc ip) has some e =
    let at : suc ip - 1 ≡ ip = omega arith in
    no-run (slice_get program.insns ip) ip
    (ap (λ xs. are_char_loop_successors (successors_of_insn_if_any ip (slice_get xs ip))) has ∙ subst (λ k. are_char_loop_successors (successors_of_insn_if_any k (slice_get (map insn_as_spec_insn insns) k)) ≡ false) at e)

-- If each instruction flows past loop bodies, so do all indices, even past the last one.
pub past-all : (program : Program) (insns : List declared.Insn) → DeclaredInsnsEqualProgramInsns program insns
    → ((k : ℕ) → k < length insns → FlowsPastBodies program (successors_of_insn_if_any k (slice_get program.insns k)) k)
    → (ip : ℕ) → FlowsPastBodies program (successors_of_insn_if_any ip (slice_get program.insns ip)) ip
past-all program insns has each ip = elim (cases_lt ip (length insns)) [
  | inl less ↦ each ip less
  | inr past ↦
      let long = length-map insns insn_as_spec_insn in
      let none : slice_get (map insn_as_spec_insn insns) ip ≡ None = slice_get_past (map insn_as_spec_insn insns) ip (omega (arith, past, long)) in
      subst (λ o. FlowsPastBodies program (successors_of_insn_if_any ip o) ip) (sym (ap (λ xs. slice_get xs ip) has ∙ none)) tt
]

-- ---- Steps that avoid loop bodies

abbrev heavy : Option Bool → ℕ
heavy None = 0
heavy (Some greedy) = 2

abbrev bodies-weigh : Program → Potentials
bodies-weigh program = record { at = λ ip. heavy (char_loop_greediness_at (insn_before program ip)); left = λ ip. 1 }

light-body : (x : Option Bool) → heavy x ≤ 1 → x ≡ None
light-body None le = refl
light-body (Some greedy) le = absurd (omega (arith, le))

module _ (program : Program) where
  one : (ip next : ℕ) → IsNotLoopBody program next → CoversOne (bodies-weigh program) ip next
  one ip next e = let light : heavy (char_loop_greediness_at (insn_before program next)) ≡ 0 = ap heavy e in omega (arith, light)

  two : (ip next other : ℕ) → IsNotLoopBody program next → IsNotLoopBody program other → CoversTwo (bodies-weigh program) ip next other
  two ip next other e f =
      let light : heavy (char_loop_greediness_at (insn_before program next)) ≡ 0 = ap heavy e in
      let light_other : heavy (char_loop_greediness_at (insn_before program other)) ≡ 0 = ap heavy f in
      omega (arith, light, light_other)

  repeated : (x : Option Insn) (ip begin : ℕ) → EntersPastBodies program x begin → CoversRepeat (bodies-weigh program) x ip begin
  repeated (Some (EnterLoop f)) ip begin h = two ip (begin + 1) f.exit h.0 h.1
  repeated _ ip begin h = tt

  module _ (t : MemoAnalysis) where
    enough-by : (s : Successors) (ip : ℕ) → IsConsistentAt t program s ip → FlowsPastBodies program s ip → EnoughBy (bodies-weigh program) program s ip
    enough-by Ends ip r h = tt
    enough-by (One n) ip r h = one ip n.to h
    enough-by (Two other) ip r h = two ip (ip + 1) other h.0 h.1
    enough-by (Enter f) ip r h = two ip (ip + 1) f.exit h.0 h.1
    enough-by (Again begin) ip r h = repeated (slice_get program.insns begin) ip begin h
    enough-by (Run b) ip r h = tt
    enough-by (LookaroundSuccessor l) ip r h = one ip l.past h.1
    enough-by Same ip r h = absurd r

    all-enough : IsAnalysisOf program t → ((ip : ℕ) → FlowsPastBodies program (successors_of_insn_if_any ip (slice_get program.insns ip)) ip)
        → AreCovering (bodies-weigh program) program
    all-enough of past = record {
      enough = λ ip.
          has-enough (bodies-weigh program) program (slice_get program.insns ip) ip
          (enough-by (successors_of_insn_if_any ip (slice_get program.insns ip)) ip (of.steps ip) (past ip));
    }

  light : (ts : List Thread) → sum_by (potential_of (bodies-weigh program)) ts ≤ 1 → Each (λ u. IsNotLoopBody program (ip_of u)) ts
  light [] le = tt
  light (running s ∷ ts) le =
      let sum = sum_by-cons (potential_of (bodies-weigh program)) (running s) ts in
      (light-body (char_loop_greediness_at (insn_before program s.ip)) (omega (arith, le, sum)), light ts (omega (arith, le, sum)))
  light (waiting s ∷ ts) le =
      let sum = sum_by-cons (potential_of (bodies-weigh program)) (waiting s) ts in
      (light-body (char_loop_greediness_at (insn_before program s.ip)) (omega (arith, le, sum)), light ts (omega (arith, le, sum)))

pub bodies-apart : CharLoopBodiesAreUnreached
bodies-apart program t of past text d s ts turn =
    light program ts (turns-weighed.weighed program text (bodies-weigh program) (all-enough program t of past) d s ts turn)
