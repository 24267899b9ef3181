-- The work bound of a memo analysis: the work of all searches of a text, per position of the text.
use Rattle.std.specs.Prelude.{◌≡◌, ◌≤◌, ◌<◌, ℕ, ◌+◌, ◌*◌, ◌^◌, true, false, if◌then◌else◌, List, [], ◌∷◌, Option, Some, slice_get}
use Rattle.std.specs.List.{sum_by}
use Rattle.regex_meaning.specs.Text.{Text}
use Rattle.regex_meaning.specs.CodeUnitOffsets.{HasRisingPlaceOffsets, units}
use Rattle.regex_meaning.specs.CompilationRelation.{Program, Insn, Loop1CharBody}
use Rattle.regress_machine.specs.SearchFindsFirstOutcomeAtPlace.{state_before_first_insn}
use Rattle.regress_machine.specs.Machine.{State, Thread, running, Found, state_at_next_ip, search}
use Rattle.regress_memo.specs.Liveness.{ReadsAsBytes}
use Rattle.regress_memo.specs.SkippedLookarounds.{LookaroundInsn, lookaround_at}
use Rattle.regress_memo.specs.DelayedMemoizationWorkBudget.{AreInTwoStages}
use Rattle.regress_memo.specs.AmortizedStepCosts.{potential_by}
use Rattle.regress_memo.specs.MemoPlanChecksAndGuarantees.{plan_steps_below_record}
use Rattle.regress_memo.specs.declared.analysis_result.MemoAnalysis.{MemoAnalysis}
use Rattle.regress_memo.specs.declared.analysis_result.InsnAnalysis.{InsnAnalysis}
use Rattle.regress_memo.specs.declared.successors.Successors.{Successors}
use Rattle.regress_memo.specs.declared.successors.Successors.TheVariants.{Run as AsRun, LookaroundSuccessor as AsLook}
use Rattle.regress_memo.specs.UnreachedCharLoopBodies.{FlowsPastBodies}
use Rattle.regress_memo.specs.ClosedLookarounds.{HasClosedContents, HasClosedContentsIfLookaround}
use Rattle.regress_memo.specs.AnalysisChecks.{unlimited}
use Rattle.regress_memo.specs.AnalysisAsPotentials.{insn_analysis_of, analysis_as_liveness, key_code_questions_of, recorded, potentials_of, key_cost_of, insn_direction}
use Rattle.regress_memo.specs.Successors.{successors_of_insn_if_any}
use Rattle.regress_memo.specs.CheckedAnalysis.{IsAnalysisOf}

-- The cost of an instruction's keys at one position. 0 if it does not record.
abbrev pub insn_keys_cost_per_position : InsnAnalysis → ℕ
insn_keys_cost_per_position x = if x.records then x.key_cost * x.codes else 0

-- The cost of all keys at one position.
abbrev pub all_keys_cost_per_position : MemoAnalysis → ℕ
all_keys_cost_per_position t = sum_by insn_keys_cost_per_position t.lines.items

-- The work per position, if failures are memoized from the first attempt on.
abbrev pub work_per_position : MemoAnalysis → ℕ
work_per_position t = (all_keys_cost_per_position t + (insn_analysis_of t 0).ready) * 3

-- ---- What a work bound requires in addition to a correct analysis

module _ (t : MemoAnalysis) where
  -- The potential left by a lookaround also covers its contents. Nothing in the lookaround records,
  -- so no record is discarded when its contents match.
  pub record LookIsBounded (past ip : ℕ) : Type 0 where
    pub contents : (insn_analysis_of t (ip + 1)).ready + (insn_analysis_of t past).ready ≤ (insn_analysis_of t ip).left
    pub silent : (inner : ℕ) → ip ≤ inner → inner < past → (insn_analysis_of t inner).records ≡ false

  -- The requirements for lookarounds and for lazy char loops. Each exit of a lazy char loop without
  -- a maximum has a record, so the loop has to be searched to the right.
  pub record InsnIsBounded (x : Option Insn) (ip : ℕ) : Type 0 where
    pub look : (l : LookaroundInsn) → lookaround_at x ≡ Some l → LookIsBounded l.continuation ip
    pub lazy : (least : ℕ) → x ≡ Some (Loop1CharBody least unlimited false) → (insn_analysis_of t ip).forward ≡ true

  -- The same requirements in terms of the instruction's successors.
  abbrev pub IsStepWorkBounded : Successors → (ip : ℕ) → Type 0
  IsStepWorkBounded (AsLook l) ip =
      ((insn_analysis_of t (ip + 1)).ready + (insn_analysis_of t l.past).ready ≤ (insn_analysis_of t ip).left)
      × ((inner : ℕ) → ip ≤ inner → inner < l.past → (insn_analysis_of t inner).records ≡ false)
  IsStepWorkBounded (AsRun b) ip = b.greedy ≡ false → b.most ≡ unlimited → (insn_analysis_of t ip).forward ≡ true
  IsStepWorkBounded _ ip = Unit {0}

  -- Each thread has some potential. No thread reaches the body of a char loop, because its keys
  -- belong to the loop. The contents of lookarounds are closed.
  pub record IsWorkBounded (program : Program) : Type 0 where
    pub ready : (ip : ℕ) → 1 ≤ (insn_analysis_of t ip).ready
    pub past : (ip : ℕ) → FlowsPastBodies program (successors_of_insn_if_any ip (slice_get program.insns ip)) ip
    pub closed : (ip : ℕ)
        → HasClosedContentsIfLookaround program (successors_of_insn_if_any ip (slice_get program.insns ip)) ip
    pub insns : (ip : ℕ) → InsnIsBounded (slice_get program.insns ip) ip

-- ---- Contents that record nothing

-- Nothing records in a lookaround at `ip` that continues at `past`.
abbrev pub RecordsNothing : MemoAnalysis → (past ip : ℕ) → Type 0
RecordsNothing t past ip = (inner : ℕ) → ip ≤ inner → inner < past → (insn_analysis_of t inner).records ≡ false

module _ (t : MemoAnalysis) (program : Program) where
  -- What lookarounds require whose contents record nothing, in whatever program they are.
  pub record BoundsSilentContents : Type 0 where
    pub ready : (ip : ℕ) → 1 ≤ (insn_analysis_of t ip).ready
    pub contents : (ip : ℕ) (l : LookaroundInsn) → lookaround_at (slice_get program.insns ip) ≡ Some l
        → (insn_analysis_of t (ip + 1)).ready + (insn_analysis_of t l.continuation).ready ≤ (insn_analysis_of t ip).left
    pub closed : (ip : ℕ) (l : LookaroundInsn) → lookaround_at (slice_get program.insns ip) ≡ Some l
        → RecordsNothing t l.continuation ip → HasClosedContents ip l.continuation program

-- ---- Laws

-- The search of a lookaround's contents that record nothing takes few steps, also if contents of
-- other lookarounds record.
abbrev pub SilentContentsTakeFewSteps : Type 0
SilentContentsTakeFewSteps = (program : Program) (t : MemoAnalysis) → IsAnalysisOf program t
    → BoundsSilentContents t program
    → (text : Text) (s : State) (l : LookaroundInsn) → lookaround_at (slice_get program.insns s.ip) ≡ Some l
    → RecordsNothing t l.continuation s.ip
    → (turns : ℕ) (f : Found) → search program text turns l.inner (running (state_at_next_ip s) ∷ []) ≡ Some f
    → f.steps ≤ (insn_analysis_of t (s.ip + 1)).ready

-- The search of a lookaround's contents takes at most as many steps as the potential of their first
-- instruction.
abbrev pub ContentsTakeFewSteps : Type 0
ContentsTakeFewSteps = (program : Program) (t : MemoAnalysis) → IsAnalysisOf program t → IsWorkBounded t program
    → (text : Text) (s : State) (l : LookaroundInsn) → lookaround_at (slice_get program.insns s.ip) ≡ Some l
    → (turns : ℕ) (f : Found) → search program text turns l.inner (running (state_at_next_ip s) ∷ []) ≡ Some f
    → f.steps ≤ (insn_analysis_of t (s.ip + 1)).ready

-- The threads with which an attempt begins at an offset.
abbrev pub initial_threads : Program → ℕ → List Thread
initial_threads program at = running (state_before_first_insn program at) ∷ []

-- Searches in two stages with a bounded analysis do at most the work per position that it states,
-- plus the work allowed in the first stage and one more step.
abbrev pub AnalysesBoundTotalWork : Type 0
AnalysesBoundTotalWork = (program : Program) (t : MemoAnalysis) → IsAnalysisOf program t
    → (text : Text) → HasRisingPlaceOffsets text → ReadsAsBytes program text → units text < 2 ^ 63 → (at_first work : ℕ)
    → AreInTwoStages program text (analysis_as_liveness t) (key_code_questions_of t) (insn_direction t) (recorded t)
    (plan_steps_below_record program) (key_cost_of t)
    (potential_by program (potentials_of t) (key_cost_of t) (recorded t)) (initial_threads program) at_first work
    → work ≤ (at_first + 1 + work_per_position t) * (units text + 1)
