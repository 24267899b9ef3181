-- A checked memo analysis, and the laws that it satisfies.
use Rattle.std.specs.Prelude.{◌≡◌, ◌≤◌, ◌<◌, ℕ, ◌+◌, ◌*◌, ◌^◌, min, Bool, true, false, ◌==◌, if◌then◌else◌, List, [], Option, Some, None, slice_get, length}
use Rattle.regex_meaning.specs.Laws.{Each}
use Rattle.regex_meaning.specs.Text.{Text, Direction, rightwards}
use Rattle.regex_meaning.specs.CodeUnitOffsets.{HasRisingPlaceOffsets, units}
use Rattle.regex_meaning.specs.CompilationRelation.{Program, Loop1CharBody}
use Rattle.regress_machine.specs.Machine.{State, Thread, running, waiting, LoopData, goes, act}
use Rattle.regress_memo.specs.Liveness.{IsSoundLiveness, ReadsAsBytes}
use Rattle.regress_memo.specs.SkippedLookarounds.{LookaroundInsn, lookaround_at, AsksOnly}
use Rattle.regress_memo.specs.LoopDataKeyCodes.{bool_as_digit, plan_codes}
use Rattle.regress_memo.specs.AmortizedStepCosts.{AreCostsCovered}
use Rattle.regress_memo.specs.MemoPlanChecksAndGuarantees.{IsPlan, PlanServes, plan_steps_below_record}
use Rattle.regress_memo.specs.GroupPreservingInsns.{AreGroupPreserving}
use Rattle.regress_memo.specs.MemoSearch.{Key}
use Rattle.regress_memo.specs.declared.analysis_result.MemoAnalysis.{MemoAnalysis}
use Rattle.regress_memo.specs.declared.loop_data_key_codes.LoopCountAndIterationStart.{LoopCountAndIterationStart}
use Rattle.regress_memo.specs.declared.analysis_result.EnclosingLoop.{EnclosingLoop}
use Rattle.regress_memo.specs.AnalysisAsPotentials.{insn_analysis_of, enclosing_loops_of, analysis_as_liveness, key_code_questions_of, recorded, potentials_of, key_cost_of, insn_direction}
use Rattle.regress_memo.specs.AnalysisAsPotentials.{groups_stay_unchanged_from, memo_codes_before_insn, number_of_memo_codes_at_insn, memo_bit_index_of_key}
use Rattle.regress_memo.specs.AnalysisChecks.{IsCharLoopChecked, IsConsistentAt, max_codes_per_insn}
use Rattle.regress_memo.specs.Successors.{successors_of_insn_if_any}

-- The numbers of codes are right and small, and the bits of each instruction come before those of
-- the next one.
pub record HasDisjointCodes (t : MemoAnalysis) : Type 0 where
  pub few : (ip : ℕ) → plan_codes (key_code_questions_of t) ip ≤ max_codes_per_insn
  pub counted : (ip : ℕ) → ip < length t.lines.items
      → plan_codes (key_code_questions_of t) ip ≡ (insn_analysis_of t ip).codes
  pub apart : (ip : ℕ) → ip < length t.lines.items → memo_codes_before_insn t ip + number_of_memo_codes_at_insn t
      ip ≤ memo_codes_before_insn t (ip + 1)

-- The first instruction has no enclosing loop and is searched to the right.
pub record FirstInsnForwardOutsideLoops (t : MemoAnalysis) : Type 0 where
  pub rows : enclosing_loops_of t 0 ≡ []
  pub forward : insn_direction t 0 ≡ rightwards

module _ (program : Program) (t : MemoAnalysis) where
  -- The analysis of the program is correct: its facts are sound, the numbers of codes are small,
  -- and costs are covered.
  pub record IsAnalysisOf : Type 0 where
    pub starts : FirstInsnForwardOutsideLoops t
    pub steps : (ip : ℕ) → IsConsistentAt t program (successors_of_insn_if_any ip (slice_get program.insns ip)) ip
    pub right : (top : ℕ) → top < 2 ^ 63 → IsSoundLiveness (analysis_as_liveness t) top program
    pub coded : HasDisjointCodes t
    pub paid : AreCostsCovered program (potentials_of t) (key_cost_of t) (recorded t)
    pub runs : (ip least most : ℕ) (greedy : Bool) → slice_get program.insns ip ≡ Some (Loop1CharBody least most greedy)
        → IsCharLoopChecked t program (record { least = least; most = most; greedy = greedy }) ip
    pub silent : AreGroupPreserving (groups_stay_unchanged_from t) program
    pub ways : (ip : ℕ) (look : LookaroundInsn) → lookaround_at (slice_get program.insns ip) ≡ Some look
        → insn_direction t (ip + 1) ≡ look.inner

  -- The analysis is a memo plan of the program in a text of fewer than 2^63 code units.
  pub record IsMemoPlanForText (text : Text) : Type 0 where
    pub plan : IsPlan program text (analysis_as_liveness t) (key_code_questions_of t) (insn_direction t) (recorded t)
        (plan_steps_below_record program)
    pub serves : PlanServes program text (analysis_as_liveness t) (key_code_questions_of t) (insn_direction t)
        (recorded t) (plan_steps_below_record program)
    pub only : AsksOnly (key_code_questions_of t) (analysis_as_liveness t)

-- A loop's number of finished iterations, and the offset at which the current iteration began.
abbrev pub loop_iteration_state_as_spec : LoopCountAndIterationStart → LoopData
loop_iteration_state_as_spec r = record { iters = r.iters; entry = r.entry }

-- The number of values that the digit of an entry may have. Counts of the loop are distinguished up
-- to `up_to`.
abbrev pub radix_of_loop_digit : (up_to : ℕ) → EnclosingLoop → ℕ
radix_of_loop_digit up_to r = (if r.empty then 2 else 1) * (up_to + 1)

-- The digit of an entry, given the data of its loop. 0 if the state has no such loop.
abbrev pub digit_of : (up_to at : ℕ) → Option LoopData → EnclosingLoop → ℕ
digit_of up_to at None r = 0
digit_of up_to at (Some x) r = if r.empty then bool_as_digit (x.entry == at) + 2 * min x.iters up_to
    else min x.iters up_to

-- The instruction of the key exists and records, and the key's offset and code are in range.
pub record IsRecordableMemoKey (t : MemoAnalysis) (places : ℕ) (k : Key) : Type 0 where
  pub there : k.ip < length t.lines.items
  pub records : (insn_analysis_of t k.ip).records ≡ true
  pub at : k.at < places
  pub code : k.code < (insn_analysis_of t k.ip).codes

-- ---- Laws

-- A correct analysis is a memo plan of its program in each text.
abbrev pub AnalysesAreMemoPlans : Type 0
AnalysesAreMemoPlans = (program : Program) (t : MemoAnalysis) → IsAnalysisOf program t
    → (text : Text) → HasRisingPlaceOffsets text → ReadsAsBytes program text → units text < 2 ^ 63
    → IsMemoPlanForText program t text

-- The instruction of a thread.
abbrev pub ip_of : Thread → ℕ
ip_of (running s) = s.ip
ip_of (waiting s) = s.ip

-- A step leaves threads only at instructions that are searched in the same direction.
abbrev pub DirectionsAreKept : Type 0
DirectionsAreKept = (program : Program) (t : MemoAnalysis) → IsAnalysisOf program t
    → (text : Text) (d : Direction) (s : State) (ts : List Thread)
    → insn_direction t s.ip ≡ d → act program text d s ≡ goes ts → Each (λ u. insn_direction t (ip_of u) ≡ d) ts

-- Different keys have different bits.
abbrev pub KeysHaveDistinctBits : Type 0
KeysHaveDistinctBits = (program : Program) (t : MemoAnalysis) → IsAnalysisOf program t → (places : ℕ) (j k : Key)
    → IsRecordableMemoKey t places j → IsRecordableMemoKey t places k
    → memo_bit_index_of_key t places j.ip j.at j.code ≡ memo_bit_index_of_key t places k.ip k.at k.code → j ≡ k
