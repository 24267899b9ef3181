-- What contracts see of a memo table, and the invariant that it has a bit for each key.
use Rattle.std.specs.Prelude.{◌≡◌, ◌≤◌, ◌<◌, ◌^◌, ℕ, ◌*◌, Bool, true, List, length}
use Rattle.regress_memo.specs.declared.analysis_result.MemoAnalysis.{MemoAnalysis}
use Rattle.regress_memo.specs.CheckedAnalysis.{HasDisjointCodes}

-- A memo table: its memo analysis, its number of offsets, and the words of its two bit sets.
pub record MemoView : Type 0 where
  pub memo_analysis : MemoAnalysis
  pub places : ℕ
  pub records_successes : Bool
  pub failures : List ℕ
  pub ends : List ℕ

-- The number of keys fits in 64 bits, and each bit set that is used has a bit for each key.
pub record HasRoom (t : MemoAnalysis) (places : ℕ) (records_successes : Bool) (failures ends : List ℕ) : Type 0 where
  pub coded : HasDisjointCodes t
  pub fits : t.codes * places < 2 ^ 64
  pub for_failures : t.codes * places ≤ 64 * length failures
  pub for_ends : records_successes ≡ true → t.codes * places ≤ 64 * length ends
