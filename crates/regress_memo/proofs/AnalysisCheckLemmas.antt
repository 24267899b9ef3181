-- The checks of an instruction imply that the analysis is sound there and that potentials cover its
-- step.
use Rattle.std.proofs.Common.{◌≡◌, ◌<◌, ◌^◌, ℕ, ◌+◌, true, false, List, Option, Some, None, ap, ◌∙◌, sym, subst, map, slice_get}
use Rattle.std.proofs.lemmas.Bool.{le-leb, lt-leb}
use Rattle.regex_meaning.specs.CompilationRelation.{Program, Insn, Goal, JustFail, Alt, EnterLoop, LoopAgain, ResetCaptureGroup, Loop1CharBody, BeginCaptureGroup, EndCaptureGroup, BackRef, Lookahead}
use Rattle.regex_meaning.specs.CompilationRelation.{Lookbehind}
use Rattle.regex_meaning.specs.CompilationRelation as layout
use Rattle.regress_program.specs.InsnsAsSpec.{insn_as_spec_insn}
use Rattle.regress_program.specs.declared.instructions.Insn as declared
use Rattle.regress_memo.specs.Liveness.{IsConsistentIterationStart, IsRepeated, IsConsistentLookaround, IsSoundLivenessAt}
use Rattle.regress_memo.specs.SkippedLookarounds.{lookaround_at}
use Rattle.regress_memo.specs.SkippedLookarounds as behind
use Rattle.regress_memo.specs.GroupPreservingInsns.{IsSilentAt, IsSilentAgain}
use Rattle.regress_memo.specs.ThreadPotentials.{Potentials, CoversOne, CoversTwo, CoversRepeat, CoversInsn}
use Rattle.regress_memo.specs.declared.analysis_result.MemoAnalysis.{MemoAnalysis}
use Rattle.regress_memo.specs.declared.analysis_result.LoopProgressFact.TheVariants.{Inside}
use Rattle.regress_memo.specs.declared.successors.LookaroundSuccessor as look
use Rattle.regress_memo.specs.declared.successors.Successors.{Successors}
use Rattle.regress_memo.specs.declared.successors.Successors.TheVariants.{Ends, One, Two, Enter, Again, Run, LookaroundSuccessor, Same}
use Rattle.regress_memo.specs.AnalysisAsPotentials.{insn_analysis_of, enclosing_loops_of, states_loop_fact, analysis_as_liveness, potentials_of, groups_stay_unchanged_from, insn_direction}
use Rattle.regress_memo.specs.Successors.{DeclaredInsnsEqualProgramInsns, successors_of_insn_if_any}
use Rattle.regress_memo.specs.AnalysisChecks.{MayBeginIteration, MayRepeatLoopAt, IsolatesLookaround, IsConsistentAt, IsCoveredAt}
use Rattle.regress_memo.proofs.LoopFactFlowLemmas.{holds-in, below-from}

pub at-step : (P : Successors → Type 0) (program : Program) (insns : List declared.Insn) (ip : ℕ) (s : Successors) → DeclaredInsnsEqualProgramInsns program insns
    → s ≡ successors_of_insn_if_any ip (slice_get (map insn_as_spec_insn insns) ip) → P s → P (successors_of_insn_if_any ip (slice_get program.insns ip))
at-step P program insns ip s has is p =
    let e : s ≡ successors_of_insn_if_any ip (slice_get program.insns ip) = is ∙ ap (λ xs. successors_of_insn_if_any ip (slice_get xs ip)) (sym has) in
    subst P e p

module _ (t : MemoAnalysis) (program : Program) where
  -- ---- The analysis as liveness

  module _ (top : ℕ) (less : top < 2 ^ 63) where
    enters : (f : layout.LoopFields) (ip begin : ℕ) → MayBeginIteration t f ip begin → IsConsistentIterationStart (analysis_as_liveness t) f ip begin
    enters f ip begin h = record {
      again = h.again.liveness;
      leave = h.leave.liveness;
      writes = le-leb (insn_analysis_of t ip).from f.loop_id h.writes;
      few = h.few;
    }

    repeated : (x : Option Insn) (ip begin : ℕ) → MayRepeatLoopAt t x ip begin → IsRepeated (analysis_as_liveness t) top x ip begin
    repeated (Some (EnterLoop f)) ip begin h = record {
      enters = enters f ip begin h.begins;
      inside = h.loop_iteration_state.inside;
      empty = h.loop_iteration_state.empty;
      decides = h.loop_iteration_state.decides top less;
    }
    repeated _ ip begin h = tt

    looks : (l : look.LookaroundSuccessor) (ip : ℕ) → IsolatesLookaround t l ip → IsConsistentLookaround (analysis_as_liveness t) ip l.past
    looks l ip h = record {
      on = h.on.liveness;
      start = λ id e. cc;
      apart = λ i. ap (λ rows. states_loop_fact Inside i rows) h.apart;
      left = λ i e.
          let found = holds-in Inside i (enclosing_loops_of t l.past) e in
          let before = h.left found.k found.row found.there in
          lt-leb (insn_analysis_of t (ip + 1)).from i (subst (λ n. n < (insn_analysis_of t (ip + 1)).from) found.is before);
      writes = λ i e. below-from (insn_analysis_of t ip).from (insn_analysis_of t (ip + 1)).from i h.from e;
    }

    pub right-at : (x : Option Insn) (ip : ℕ) → IsConsistentAt t program (successors_of_insn_if_any ip x) ip → IsSoundLivenessAt (analysis_as_liveness t) top program x ip
    right-at None ip h = tt
    right-at (Some Goal) ip h = tt
    right-at (Some JustFail) ip h = tt
    right-at (Some (Alt secondary)) ip h = (h.0.liveness, h.1.liveness)
    right-at (Some (EnterLoop f)) ip h = enters f ip ip h
    right-at (Some (LoopAgain begin)) ip h = repeated (slice_get program.insns begin) ip begin h
    right-at (Some (Loop1CharBody least most greedy)) ip h = h.liveness
    right-at (Some (BeginCaptureGroup id)) ip h =
        let on = h.0.liveness in
        record {
          start = λ i e b. cc;
          inside = on.inside;
          moved = on.moved;
          empty = on.empty;
          fresh = on.fresh;
          writes = on.writes;
        }
    right-at (Some (EndCaptureGroup id)) ip h = (h.0.liveness, λ e. cc)
    right-at (Some (BackRef group icase)) ip h = absurd h
    right-at (Some (Lookahead negate start_group end_group continuation)) ip h = looks _ ip h
    right-at (Some (Lookbehind negate start_group end_group continuation)) ip h = looks _ ip h
    right-at (Some _) ip h = h.0.liveness

-- ---- Weights

-- The potentials cover what a step leaves, by the successors of the instruction.
abbrev pub EnoughBy : Potentials → Program → Successors → (ip : ℕ) → Type 0
EnoughBy w program Ends ip = Unit {0}
EnoughBy w program (One n) ip = CoversOne w ip n.to
EnoughBy w program (Two other) ip = CoversTwo w ip (ip + 1) other
EnoughBy w program (Enter f) ip = CoversTwo w ip (ip + 1) f.exit
EnoughBy w program (Again begin) ip = CoversRepeat w (slice_get program.insns begin) ip begin
EnoughBy w program (Run b) ip = Unit {0}
EnoughBy w program (LookaroundSuccessor l) ip = CoversOne w ip l.past
EnoughBy w program Same ip = CoversOne w ip (ip + 1)

module _ (w : Potentials) (program : Program) where
  pub has-enough : (x : Option Insn) (ip : ℕ) → EnoughBy w program (successors_of_insn_if_any ip x) ip → CoversInsn w program x ip
  has-enough None ip h = tt
  has-enough (Some Goal) ip h = tt
  has-enough (Some JustFail) ip h = tt
  has-enough (Some _) ip h = h

module _ (t : MemoAnalysis) (program : Program) where
  enough-by : (s : Successors) (ip : ℕ) → IsCoveredAt t program s ip → EnoughBy (potentials_of t) program s ip
  enough-by (Run b) ip h = tt
  enough-by Ends ip h = h
  enough-by (One n) ip h = h
  enough-by (Two other) ip h = h
  enough-by (Enter f) ip h = h
  enough-by (Again begin) ip h = h
  enough-by (LookaroundSuccessor l) ip h = h
  enough-by Same ip h = h

  pub enough-at : (x : Option Insn) (ip : ℕ) → IsCoveredAt t program (successors_of_insn_if_any ip x) ip → CoversInsn (potentials_of t) program x ip
  enough-at x ip h = has-enough (potentials_of t) program x ip (enough-by (successors_of_insn_if_any ip x) ip h)

  -- ---- Groups

  silent-again : (x : Option Insn) (ip begin : ℕ) → MayRepeatLoopAt t x ip begin → groups_stay_unchanged_from t ip ≡ true → IsSilentAgain (groups_stay_unchanged_from t) x begin
  silent-again (Some (EnterLoop f)) ip begin h s = (h.begins.again.silent s, h.begins.leave.silent s)
  silent-again _ ip begin h s = tt

  pub silent-at : (x : Option Insn) (ip : ℕ) → IsConsistentAt t program (successors_of_insn_if_any ip x) ip → groups_stay_unchanged_from t ip ≡ true
      → IsSilentAt (groups_stay_unchanged_from t) program x ip
  silent-at None ip h s = tt
  silent-at (Some Goal) ip h s = tt
  silent-at (Some JustFail) ip h s = tt
  silent-at (Some (Alt secondary)) ip h s = (h.0.silent s, h.1.silent s)
  silent-at (Some (EnterLoop f)) ip h s = (h.again.silent s, h.leave.silent s)
  silent-at (Some (LoopAgain begin)) ip h s = silent-again (slice_get program.insns begin) ip begin h s
  silent-at (Some (ResetCaptureGroup id)) ip h s = let e = h.1 s in cc
  silent-at (Some (Loop1CharBody least most greedy)) ip h s = h.silent s
  silent-at (Some (BeginCaptureGroup id)) ip h s = let e = h.1 s in cc
  silent-at (Some (EndCaptureGroup id)) ip h s = let e = h.1 s in cc
  silent-at (Some (BackRef group icase)) ip h s = absurd h
  silent-at (Some (Lookahead negate start_group end_group continuation)) ip h s = (h.silent s, h.on.silent s)
  silent-at (Some (Lookbehind negate start_group end_group continuation)) ip h s = (h.silent s, h.on.silent s)
  silent-at (Some _) ip h s = h.0.silent s

  -- ---- Lookarounds

  pub look-right : (x : Option Insn) (l : behind.LookaroundInsn) (ip : ℕ) → lookaround_at x ≡ Some l → IsConsistentAt t program (successors_of_insn_if_any ip x) ip → insn_direction t (ip + 1) ≡ l.inner
  look-right (Some (Lookahead negate start_group end_group continuation)) l ip e h =
      subst (λ (l : behind.LookaroundInsn). insn_direction t (ip + 1) ≡ l.inner) (some-is _ _ e) h.way
    where
      some-is : (a b : behind.LookaroundInsn) → Some a ≡ Some b → a ≡ b
      some-is a b e = cc
  look-right (Some (Lookbehind negate start_group end_group continuation)) l ip e h =
      subst (λ (l : behind.LookaroundInsn). insn_direction t (ip + 1) ≡ l.inner) (some-is _ _ e) h.way
    where
      some-is : (a b : behind.LookaroundInsn) → Some a ≡ Some b → a ≡ b
      some-is a b e = cc
  look-right _ l ip e h = cc
