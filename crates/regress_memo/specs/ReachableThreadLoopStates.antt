-- Soundness of a thread's loop data, for each enclosing loop.
use Rattle.std.specs.Prelude.{◌≡◌, ◌≤◌, ℕ, ◌+◌, Bool, true, false, ◌==◌, if◌then◌else◌, Option, Some}
use Rattle.regex_meaning.specs.Text.{Direction, rightwards, leftwards}
use Rattle.regress_machine.specs.Machine.{LoopData}
use Rattle.regress_memo.specs.Liveness.{IsNotAheadInDirection, units_left_in_direction}
use Rattle.regress_memo.specs.declared.analysis_result.EnclosingLoop.{EnclosingLoop}
use Rattle.regress_memo.specs.declared.analysis_result.LoopCountsDistinguishedUpTo.{LoopCountsDistinguishedUpTo}
use Rattle.regress_memo.specs.declared.analysis_result.MemoAnalysis.{MemoAnalysis}
use Rattle.regress_memo.specs.AnalysisAsPotentials.{count_bound_of}

-- The direction of an instruction.
abbrev pub direction_from_forward : (forward : Bool) → Direction
direction_from_forward forward = if forward then rightwards else leftwards

-- If the count is never higher than `up_to`, the loop has at most `up_to` iterations. Otherwise it
-- has at most `up_to` more than the code units that were passed.
abbrev pub IsAtMost : Bool → (up_to : ℕ) (d : Direction) (top : ℕ) → LoopData → Type 0
IsAtMost true up_to d top x = x.iters ≤ up_to
IsAtMost false up_to d top x = x.iters + units_left_in_direction top d x.entry ≤ top + up_to

-- The number of iterations is within the loop's count bound.
abbrev pub IsWithinCountBound : LoopCountsDistinguishedUpTo → (d : Direction) (top : ℕ) → LoopData → Type 0
IsWithinCountBound count d top x = IsAtMost count.counted count.up_to d top x

-- The data of a loop are sound, given its count bound and whether a character is known to have been
-- read.
pub record LoopDataFitsLoopFacts (count : LoopCountsDistinguishedUpTo) (reads : Bool) (d : Direction) (top at : ℕ)
    (x : LoopData) : Type 0 where
  pub passed : IsNotAheadInDirection d x.entry at
  pub moved : reads ≡ true → (x.entry == at) ≡ false
  pub few : IsWithinCountBound count d top x

-- The data of an entry's loop are sound, if the state has this loop.
abbrev pub ThreadLoopStateFitsAnalysis : MemoAnalysis → (d : Direction) (top at : ℕ) → Option LoopData → EnclosingLoop
    → Type 0
ThreadLoopStateFitsAnalysis t d top at held row = (x : LoopData) → held ≡ Some x
    → LoopDataFitsLoopFacts (count_bound_of t row.id) row.moved d top at x
