-- What a memo table records, given the memo analysis of a program.
use Rattle.std.specs.Prelude.{ℕ, Bool, ◌&&◌, ◌==◌, Option, nat_le}
use Rattle.regress_memo.specs.declared.analysis_result.MemoAnalysis.{MemoAnalysis}
use Rattle.regress_memo.specs.AnalysisAsPotentials.{analysis_as_liveness, key_code_questions_of, insn_direction, insn_analysis_of, groups_stay_unchanged_from}
use Rattle.regress_memo.specs.Laws.{analysis_keys}
use Rattle.regress_memo.specs.MemoContents.{has_failure, has_success}
use Rattle.regress_memo.specs.MemoContractView.{MemoView}
use Rattle.regress_search.specs.TreePlanAndText.{SearchInput}
use Rattle.regress_backtrack.specs.FailureMemo.{MemoScheme, AreFailuresSound, AreEndsSound, scheme_of_optional_memo, failures_of_optional_memo}

-- From this instruction on, groups stay unchanged, and only loops with the number `loops` or a
-- greater one may be written. No loop with live data encloses the instruction.
abbrev pub keeps_state_from : MemoAnalysis → (ip loops : ℕ) → Bool
keeps_state_from t ip loops =
    groups_stay_unchanged_from t ip
    && (((insn_analysis_of t ip).first == (insn_analysis_of t ip).end) && nat_le loops (insn_analysis_of t ip).from)

-- The scheme of a memo analysis: its liveness, its keys, and which searches keep the state.
abbrev pub scheme_of : MemoAnalysis → MemoScheme
scheme_of t = record {
  liveness = analysis_as_liveness t;
  keys = λ program text. analysis_keys program text t;
  questions = key_code_questions_of t;
  way = insn_direction t;
  records = λ ip. (insn_analysis_of t ip).records;
  keeps_state = keeps_state_from t;
}

-- If there is a memo, the failures and the ends that it records are right.
abbrev pub IsMemoRight : {B : Type 0} → (known : B → MemoView) → SearchInput → Option B → Type 0
IsMemoRight known w o =
    AreFailuresSound w (scheme_of_optional_memo (λ b. scheme_of (known b).memo_analysis) o)
    (failures_of_optional_memo (λ b. has_failure (known b)) o)
    × AreEndsSound w (scheme_of_optional_memo (λ b. scheme_of (known b).memo_analysis) o)
    (failures_of_optional_memo (λ b. has_success (known b)) o)
