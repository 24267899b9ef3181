-- The total of a table of potentials. The costs of all recording instructions are linear in the
-- size of the program.
use Rattle.std.specs.Prelude.{◌≤◌, ℕ, ◌+◌, Bool, if◌then◌else◌, List, [], ◌∷◌}
use Rattle.std.specs.List.{sum_by, flat_map}
use Rattle.regex_meaning.specs.NumberListHelpers.{numbers_from}
use Rattle.regress_memo.specs.DistinctLists.{AreDistinct, AreIn}

-- The instructions in a list that do not record.
abbrev pub unrecorded : (records : ℕ → Bool) → List ℕ → List ℕ
unrecorded records [] = []
unrecorded records (ip ∷ ips) = if records ip then unrecorded records ips else ip ∷ unrecorded records ips

-- A graph of `count` instructions: which of them record, the successors of each, and two amounts
-- for each (for the threads that it leaves, and for a thread before its step).
pub record Edges : Type 0 where
  pub count : ℕ
  pub records : ℕ → Bool
  pub to : ℕ → List ℕ
  pub own : ℕ → ℕ
  pub before : ℕ → ℕ

module _ (e : Edges) (at left : ℕ → ℕ) where
  -- Potentials are no higher than needed, and at most one edge leads to each instruction that does
  -- not record.
  pub record IsTight : Type 0 where
    pub leaves : (ip : ℕ) → left ip ≤ e.own ip + sum_by at (e.to ip)
    pub ready : (ip : ℕ) → at ip ≤ e.before ip + (if e.records ip then 1 else left ip + 1)
    pub one_way : AreDistinct (unrecorded e.records (flat_map e.to (numbers_from 0 e.count)))
    pub inside : AreIn (unrecorded e.records (flat_map e.to (numbers_from 0 e.count))) (numbers_from 0 e.count)

  -- The sum of the potentials left by recording instructions.
  abbrev pub left_by_recorded : ℕ
  left_by_recorded = sum_by (λ ip. if e.records ip then left ip else 0) (numbers_from 0 e.count)

-- The sum over all instructions of their own amounts, plus, for each edge, 1 and the amount of its
-- target before the step.
abbrev pub ways_and_own : Edges → ℕ
ways_and_own e = sum_by (λ ip. e.own ip + sum_by (λ to. e.before to + 1) (e.to ip)) (numbers_from 0 e.count)

-- ---- Laws

-- A potential that is passed on is counted once, at the recording instruction where its path
-- begins.
abbrev pub RecordingCostsAreLinear : Type 0
RecordingCostsAreLinear = (e : Edges) (at left : ℕ → ℕ) → IsTight e at left
    → left_by_recorded e at left ≤ ways_and_own e
