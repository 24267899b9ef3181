-- The work that suffices for all searches of a text, if memoization begins only after some work.
use Rattle.std.specs.Prelude.{◌≡◌, ◌≤◌, ℕ, ◌+◌, ◌*◌, List}
use Rattle.std.specs.List.{sum_by}
use Rattle.regex_meaning.specs.Text.{Text, Direction}
use Rattle.regex_meaning.specs.CodeUnitOffsets.{units}
use Rattle.regex_meaning.specs.CompilationRelation.{Program}
use Rattle.regress_machine.specs.Machine.{Thread}
use Rattle.regress_memo.specs.Liveness.{Liveness}
use Rattle.regress_memo.specs.MemoSearch.{Key}
use Rattle.regress_memo.specs.LoopDataKeyCodes.{Question, plan_codes}
use Rattle.regress_memo.specs.UnboundedCharLoopMemoKeys.{plan_keys}
use Rattle.regress_memo.specs.MemoPlanChecksAndGuarantees.{IsPlan}
use Rattle.regress_memo.specs.SuccessiveMatches.{Attempted, ready_at}

-- The cost of all keys at one offset.
abbrev pub all_keys_cost_at_one_offset : (questions : ℕ → List Question) (ips : List ℕ) (key_cost : ℕ → ℕ) → ℕ
all_keys_cost_at_one_offset questions ips key_cost = sum_by (λ ip. key_cost ip * plan_codes questions ip) ips

-- The work that suffices for each offset, if `at_first` is allowed for each offset before
-- memoization begins.
abbrev pub enough_for_one : (at_first ready key_cost : ℕ) → ℕ
enough_for_one at_first ready key_cost = at_first + 1 + 3 * (ready + key_cost)

module _ (program : Program) (text : Text) (a : Liveness) (questions : ℕ → List Question)
    (way : ℕ → Direction) (ips : List ℕ) (taken : Key → ℕ) (key_cost : ℕ → ℕ) (weight : List Thread → ℕ)
    (row : ℕ → List Thread) where
  -- A search in two stages. In the first stage, nothing is memoized. It ends with the first step
  -- after which more than `at_first` units of work were done for each offset; a step reads each
  -- unit at most once. Then the current attempt begins again, and from there on failures are
  -- memoized.
  pub record AreInTwoStages (at_first work : ℕ) : Type 0 where
    pub early : ℕ
    pub late : ℕ
    pub from : ℕ
    pub next : ℕ
    pub looks : ℕ
    pub memory : List Key
    pub starts : List ℕ
    pub few : early ≤ at_first * (units text + 1) + (units text + 1)
    pub remembered : Attempted program text a (plan_keys program text a questions way ips taken) (λ k. key_cost k.ip)
        weight row
        from next looks late memory starts
    pub from_inside : from ≤ units text + 1
    pub next_inside : next ≤ units text + 1
    pub all : work ≡ early + late

  -- The initial potential of an attempt at any offset is at most `ready`.
  abbrev pub StandsReady : (ready : ℕ) → Type 0
  StandsReady ready = (at : ℕ) → ready_at program text a (plan_keys program text a questions way ips taken)
      (λ k. key_cost k.ip) weight row at ≤ ready

-- ---- Laws

-- The work of both stages together is within this budget for each offset.
abbrev pub WorkBudgetsSuffice : Type 0
WorkBudgetsSuffice = (program : Program) (text : Text) (a : Liveness) (questions : ℕ → List Question)
    (way : ℕ → Direction) (ips : List ℕ) (taken : Key → ℕ) (key_cost : ℕ → ℕ) (weight : List Thread → ℕ)
    (row : ℕ → List Thread)
    → IsPlan program text a questions way ips taken
    → (at_first ready work : ℕ) → StandsReady program text a questions way ips taken key_cost weight row ready
    → AreInTwoStages program text a questions way ips taken key_cost weight row at_first work
    → work ≤ enough_for_one at_first ready (all_keys_cost_at_one_offset questions ips key_cost) * (units text + 1)
