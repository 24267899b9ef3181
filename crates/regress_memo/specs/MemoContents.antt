-- The contents of a memo table: what it knows of keys.
use Rattle.std.specs.Prelude.{◌≡◌, ℕ, Bool, false, if◌then◌else◌, ◌&&◌, ◌||◌, ◌==◌, List, length, Option, Some, None, nat_lt}
use Rattle.regress_machine.specs.Machine.{State}
use Rattle.regress_memo.specs.MemoSearch.{Key}
use Rattle.regress_memo.specs.LoopDataKeyCodes.{plan_code, key_of}
use Rattle.regress_memo.specs.declared.analysis_result.MemoAnalysis.{MemoAnalysis}
use Rattle.regress_memo.specs.AnalysisAsPotentials.{insn_analysis_of, key_code_questions_of, memo_bit_index_of_key}
use Rattle.regress_memo.specs.declared.memo.ThreadMemoKey.{ThreadMemoKey as Stored}
use Rattle.regress_memo.specs.BitSet.{is_set}
use Rattle.regress_memo.specs.MemoContractView.{MemoView}

-- ---- Keys

-- A `ThreadMemoKey` as a key of `regress_memo`.
abbrev pub memo_key_as_spec : Stored → Key
memo_key_as_spec k = record { ip = k.ip; at = k.at; code = k.code }

-- Whether two keys are equal.
abbrev pub same_key : Key → Key → Bool
same_key j k = (j.ip == k.ip) && ((j.at == k.at) && (j.code == k.code))

-- The key of a running thread's state. `None` if its instruction does not record.
abbrev pub memo_key_at : MemoAnalysis → State → Option Key
memo_key_at t s = if (insn_analysis_of t s.ip).records then Some (key_of (plan_code (key_code_questions_of t)) s)
    else None

-- Whether a key has a bit. This is the test for `IsRecordableMemoKey`.
abbrev pub has_bit : MemoAnalysis → (places : ℕ) → Key → Bool
has_bit t places k =
    nat_lt k.ip (length t.lines.items)
    && ((insn_analysis_of t k.ip).records && (nat_lt k.at places && nat_lt k.code (insn_analysis_of t k.ip).codes))

-- Whether the key has a bit and that bit is set.
abbrev pub is_noted : MemoAnalysis → (places : ℕ) → (words : List ℕ) → Key → Bool
is_noted t places words k = has_bit t places k && is_set words (memo_bit_index_of_key t places k.ip k.at k.code)

-- ---- Known keys

-- Whether the key is known to fail.
abbrev pub has_failure : MemoView → Key → Bool
has_failure m k = is_noted m.memo_analysis m.places m.failures k

-- Whether the key is known to succeed. Always false if successes are not recorded.
abbrev pub has_success : MemoView → Key → Bool
has_success m k = m.records_successes && is_noted m.memo_analysis m.places m.ends k

-- Whether the key is known to fail or to succeed.
abbrev pub knows : MemoView → Key → Bool
knows m k = has_failure m k || has_success m k

-- Two tables belong to the same analysis, have the same number of offsets, and record the same
-- kinds of facts.
pub record SameKeys (m n : MemoView) : Type 0 where
  pub memo_analysis : n.memo_analysis ≡ m.memo_analysis
  pub places : n.places ≡ m.places
  pub records_successes : n.records_successes ≡ m.records_successes

-- A table of this analysis for `count` offsets without any known key.
pub record IsEmptyMemo (t : MemoAnalysis) (count : ℕ) (wanted : Bool) (m : MemoView) : Type 0 where
  pub memo_analysis : m.memo_analysis ≡ t
  pub places : m.places ≡ count
  pub records_successes : m.records_successes ≡ wanted
  pub failures : (k : Key) → has_failure m k ≡ false
  pub ends : (k : Key) → has_success m k ≡ false

-- The key becomes known to fail, and nothing else changes.
pub record RecordsFailure (k : Key) (m n : MemoView) : Type 0 where
  pub same : SameKeys m n
  pub failures : (j : Key) → has_failure n j ≡ (has_failure m j || same_key j k)
  pub ends : (j : Key) → has_success n j ≡ has_success m j

-- The key becomes known to succeed, and nothing else changes.
pub record RecordsSuccess (k : Key) (m n : MemoView) : Type 0 where
  pub same : SameKeys m n
  pub failures : (j : Key) → has_failure n j ≡ has_failure m j
  pub ends : (j : Key) → has_success n j ≡ (has_success m j || same_key j k)
