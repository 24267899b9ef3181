-- The contents of a memo analysis as liveness, questions, potentials and costs.
use Rattle.std.specs.Prelude.{ℕ, ◌+◌, ◌*◌, Bool, true, false, if◌then◌else◌, ◌&&◌, ◌||◌, ◌==◌, List, [], ◌∷◌, length, unwrap_or, slice_get, slice_range, nat_le, nat_lt}
use Rattle.regex_meaning.specs.Text.{Direction, rightwards, leftwards}
use Rattle.regress_memo.specs.Liveness.{Liveness}
use Rattle.regress_memo.specs.LoopDataKeyCodes.{Question, is_empty, how_many}
use Rattle.regress_memo.specs.ThreadPotentials.{Potentials}
use Rattle.regress_memo.specs.declared.analysis_result.EnclosingLoop.{EnclosingLoop}
use Rattle.regress_memo.specs.declared.analysis_result.LoopCountsDistinguishedUpTo.{LoopCountsDistinguishedUpTo}
use Rattle.regress_memo.specs.declared.analysis_result.InsnAnalysis.{InsnAnalysis}
use Rattle.regress_memo.specs.declared.analysis_result.MemoAnalysis.{MemoAnalysis}
use Rattle.regress_memo.specs.declared.analysis_result.LoopProgressFact.{LoopProgressFact}
use Rattle.regress_memo.specs.declared.analysis_result.LoopProgressFact.TheVariants.{Inside, Moved, Empty}

-- ---- Instructions and enclosing loops

-- The default analysis of an instruction: no enclosing loop, and no cost.
abbrev pub no_insn_analysis : InsnAnalysis
no_insn_analysis = record {
  first = 0;
  end = 0;
  from = 65536;
  forward = true;
  silent = false;
  records = false;
  ready = 1;
  left = 0;
  key_cost = 0;
  codes = 1;
  base = 0;
}

-- The analysis of an instruction. It is the default if the table has no entry.
abbrev pub insn_analysis_of : MemoAnalysis → (ip : ℕ) → InsnAnalysis
insn_analysis_of t ip = unwrap_or (slice_get t.lines.items ip) no_insn_analysis

-- The entries in an instruction's range. Empty if the range is invalid.
abbrev pub rows_in : List EnclosingLoop → InsnAnalysis → List EnclosingLoop
rows_in rows line =
    if nat_le line.first line.end && nat_le line.end (length rows) then slice_range rows line.first line.end else []

-- The enclosing loops of an instruction.
abbrev pub enclosing_loops_of : MemoAnalysis → (ip : ℕ) → List EnclosingLoop
enclosing_loops_of t ip = rows_in t.rows.items (insn_analysis_of t ip)

-- Whether the entry states this fact of its loop.
abbrev pub enclosing_loop_has_fact : LoopProgressFact → EnclosingLoop → Bool
enclosing_loop_has_fact Inside r = true
enclosing_loop_has_fact Moved r = r.moved
enclosing_loop_has_fact Empty r = r.empty

-- Whether one of the entries states this fact of loop `l`.
abbrev pub states_loop_fact : LoopProgressFact → (l : ℕ) → List EnclosingLoop → Bool
states_loop_fact said l [] = false
states_loop_fact said l (r ∷ rows) = ((r.id == l) && enclosing_loop_has_fact said r) || states_loop_fact said l rows

-- Whether it is known that the loop's iteration has read a character, or the key distinguishes
-- whether it has.
abbrev pub knows_iteration_reads : (l : ℕ) → List EnclosingLoop → Bool
knows_iteration_reads l rows = states_loop_fact Empty l rows || states_loop_fact Moved l rows

-- The count bound of a loop whose iteration count is never distinguished.
abbrev pub undistinguished_count_bound : LoopCountsDistinguishedUpTo
undistinguished_count_bound = record { up_to = 0; counted = false }

-- The count bound of a loop.
abbrev pub count_bound_of : MemoAnalysis → (l : ℕ) → LoopCountsDistinguishedUpTo
count_bound_of t l = unwrap_or (slice_get t.counts.items l) undistinguished_count_bound

-- ---- Liveness

-- The analysis as a `Liveness`: which loop states matter at an instruction.
abbrev pub analysis_as_liveness : MemoAnalysis → Liveness
analysis_as_liveness t = record {
  groups = false;
  start = λ ip id. false;
  inside = λ ip l. states_loop_fact Inside l (enclosing_loops_of t ip);
  moved = λ ip l. states_loop_fact Moved l (enclosing_loops_of t ip);
  empty = λ ip l. states_loop_fact Empty l (enclosing_loops_of t ip);
  up_to = λ l. (count_bound_of t l).up_to;
  counted = λ l. (count_bound_of t l).counted;
  writes = λ ip l. nat_le (insn_analysis_of t ip).from l;
}

-- ---- Questions: the properties of loop states that a memo key distinguishes

-- Adds the question whether the loop's iteration is empty, if the entry needs it.
abbrev pub with_emptiness_question : EnclosingLoop → List Question → List Question
with_emptiness_question r qs = if r.empty then is_empty r.id ∷ qs else qs

-- Adds the question about the loop's iteration count, if counts are distinguished.
abbrev pub with_count_question : EnclosingLoop → (up_to : ℕ) → List Question → List Question
with_count_question r up_to qs = if nat_lt 0 up_to then how_many r.id up_to ∷ qs else qs

-- The questions about the given enclosing loops.
abbrev pub questions_on : (up_to : ℕ → ℕ) → List EnclosingLoop → List Question
questions_on up_to [] = []
questions_on up_to (r ∷ rows) = with_emptiness_question r (with_count_question r (up_to r.id) (questions_on up_to rows))

-- The questions at an instruction.
abbrev pub key_code_questions_of : MemoAnalysis → (ip : ℕ) → List Question
key_code_questions_of t ip = questions_on (λ l. (count_bound_of t l).up_to) (enclosing_loops_of t ip)

-- ---- Recording instructions and costs

-- The indices of the recording instructions in a list that begins at index `first`.
abbrev pub recorded_from : (first : ℕ) → List InsnAnalysis → List ℕ
recorded_from first [] = []
recorded_from first (x ∷ lines) =
    if x.records then first ∷ recorded_from (first + 1) lines else recorded_from (first + 1) lines

-- The indices of the recording instructions.
abbrev pub recorded : MemoAnalysis → List ℕ
recorded t = recorded_from 0 t.lines.items

-- Two potentials for each instruction: that of a thread there, and that of the threads that the
-- instruction leaves.
abbrev pub potentials_of : MemoAnalysis → Potentials
potentials_of t = record { at = λ ip. (insn_analysis_of t ip).ready; left = λ ip. (insn_analysis_of t ip).left }

-- The cost of a key at an instruction.
abbrev pub key_cost_of : MemoAnalysis → (ip : ℕ) → ℕ
key_cost_of t ip = (insn_analysis_of t ip).key_cost

-- The direction in which an instruction is searched.
abbrev pub insn_direction : MemoAnalysis → (ip : ℕ) → Direction
insn_direction t ip = if (insn_analysis_of t ip).forward then rightwards else leftwards

-- Whether capture groups stay unchanged from this instruction on.
abbrev pub groups_stay_unchanged_from : MemoAnalysis → (ip : ℕ) → Bool
groups_stay_unchanged_from t ip = (insn_analysis_of t ip).silent

-- ---- Bits

-- The number of codes at all recording instructions before this one.
abbrev pub memo_codes_before_insn : MemoAnalysis → (ip : ℕ) → ℕ
memo_codes_before_insn t ip = if nat_lt ip (length t.lines.items) then (insn_analysis_of t ip).base else t.codes

-- The number of codes at an instruction that have bits. 0 if it does not record.
abbrev pub number_of_memo_codes_at_insn : MemoAnalysis → (ip : ℕ) → ℕ
number_of_memo_codes_at_insn t ip = if (insn_analysis_of t ip).records then (insn_analysis_of t ip).codes else 0

-- The bit index of a key in a memo table for `places` offsets.
abbrev pub memo_bit_index_of_key : MemoAnalysis → (places ip at code : ℕ) → ℕ
memo_bit_index_of_key t places ip at code =
    memo_codes_before_insn t ip * places + (at * (insn_analysis_of t ip).codes + code)
