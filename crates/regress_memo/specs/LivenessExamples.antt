-- Examples of liveness analyses: for `(?:ab)*c` positions alone decide, and for `(?:a*){2,}b`
-- positions and six codes decide.
use Rattle.std.specs.Prelude.{◌≡◌, ◌<◌, ℕ, zero, suc, ◌+◌, Bool, true, false, if◌then◌else◌, ◌&&◌, ◌==◌, List, [], ◌∷◌, nat_le}
use Rattle.regex_meaning.specs.Tree.{Flags}
use Rattle.regex_meaning.specs.Text.{Text, Direction, rightwards}
use Rattle.regex_meaning.specs.CodeUnitOffsets.{HasRisingPlaceOffsets, units}
use Rattle.regex_meaning.specs.StartPredicate.{StartPredicate}
use Rattle.regex_meaning.specs.CompilationRelation.{Program, Insn, Goal, Char, EnterLoop, LoopAgain, Loop1CharBody}
use Rattle.regress_memo.specs.Liveness.{Liveness, IsSoundLiveness}
use Rattle.regress_memo.specs.MemoKeys.{NoGroupsAreLive, OnlyPositionsAreLive}
use Rattle.regress_memo.specs.LoopDataKeyCodes.{Question, is_empty, how_many, plan_codes, AsksAll}
use Rattle.regress_memo.specs.UnboundedCharLoopMemoKeys.{CharLoopRecords}
use Rattle.regress_memo.specs.SkippedLookarounds.{AsksOnly}
use Rattle.regress_memo.specs.MemoSearch.{Key}
use Rattle.regress_memo.specs.MemoPlanChecksAndGuarantees.{IsPlan}
use Rattle.regress_memo.specs.ThreadPotentials.{Potentials}
use Rattle.regress_memo.specs.AmortizedStepCosts.{AreCostsCovered, GreedyLoopIsCovered}

-- A program with these instructions, one loop and no group.
abbrev pub of_insns : List Insn → Flags → StartPredicate → Program
of_insns insns flags start = record {
  insns = insns;
  brackets = [];
  loops = 1;
  groups = 0;
  flags = flags;
  group_names = [];
  start_pred = start;
}

-- The program of `(?:ab)*c`.
abbrev pub ab_loop_example_program : (most : ℕ) → Flags → StartPredicate → Program
ab_loop_example_program most =
    of_insns (EnterLoop (record { loop_id = 0; min_iters = 0; max_iters = most; greedy = true; exit = 4 }) ∷ Char
    97 ∷ Char 98 ∷ LoopAgain 0 ∷ Char 99 ∷ Goal ∷ [])

-- The liveness analysis of `(?:ab)*c`.
abbrev pub ab_loop_example_liveness : Liveness
ab_loop_example_liveness = record {
  groups = false;
  start = λ ip id. false;
  inside = λ ip l. (l == 0) && (nat_le 1 ip && nat_le ip 3);
  moved = λ ip l. (l == 0) && (nat_le 2 ip && nat_le ip 3);
  empty = λ ip l. false;
  up_to = λ l. 0;
  counted = λ l. false;
  writes = λ ip l. true;
}

-- The program of `(?:a*){2,}b`. An iteration may be empty, and two iterations are required, so both
-- facts are live in the loop.
abbrev pub two_required_program : (most : ℕ) → Flags → StartPredicate → Program
two_required_program most =
    of_insns
    (EnterLoop (record { loop_id = 0; min_iters = 2; max_iters = most; greedy = true; exit = 4 })
    ∷ Loop1CharBody 0 most true ∷ Char 97 ∷ LoopAgain 0 ∷ Char 98 ∷ Goal ∷ [])

-- Whether an instruction is inside the loop.
abbrev pub in_loop : (ip : ℕ) → Bool
in_loop ip = nat_le 1 ip && nat_le ip 3

-- The liveness analysis of `(?:a*){2,}b`.
abbrev pub twice_account : Liveness
twice_account = record {
  groups = false;
  start = λ ip id. false;
  inside = λ ip l. (l == 0) && in_loop ip;
  moved = λ ip l. false;
  empty = λ ip l. (l == 0) && in_loop ip;
  up_to = λ l. 2;
  counted = λ l. false;
  writes = λ ip l. true;
}

-- The questions of `(?:a*){2,}b`.
abbrev pub twice_questions : (ip : ℕ) → List Question
twice_questions ip = if in_loop ip then is_empty 0 ∷ how_many 0 2 ∷ [] else []

-- The potential of a thread at each instruction. The positions of the char loop and the ends of
-- iterations record.
abbrev pub twice_at : (ip : ℕ) → ℕ
twice_at zero = 6
twice_at (suc zero) = 2
twice_at (suc (suc (suc (suc zero)))) = 2
twice_at _ = 1

-- The potential of the threads that each instruction leaves.
abbrev pub twice_left : (ip : ℕ) → ℕ
twice_left zero = 5
twice_left (suc (suc zero)) = 1
twice_left (suc (suc (suc zero))) = 5
twice_left (suc (suc (suc (suc zero)))) = 1
twice_left _ = 0

-- Both potentials as one value.
abbrev pub twice_weights : Potentials
twice_weights = record { at = twice_at; left = twice_left }

-- The analysis of `(?:a*){2,}b` is sound and complete: it has codes, keys, a plan and costs.
pub record TwiceIsRight : Type 0 where
  pub right : (top most : ℕ) (flags : Flags) (start : StartPredicate) → top + 2 < most
      → IsSoundLiveness twice_account top (two_required_program most flags start)
  pub no_groups : NoGroupsAreLive twice_account
  pub asks : AsksAll twice_questions twice_account
  pub only : AsksOnly twice_questions twice_account
  pub codes : plan_codes twice_questions 3 ≡ 6
  pub one_code : plan_codes twice_questions 4 ≡ 1
  -- The char loop of the pattern has keys.
  pub run : (most : ℕ) (flags : Flags) (start : StartPredicate)
      → CharLoopRecords (two_required_program most flags start) twice_account twice_questions (λ ip. rightwards)
      (2 ∷ [])
      rightwards (λ c. 97 == c) true 1
  -- The pattern has a plan in each text in which the maximum is out of reach.
  pub plan : (text : Text) (most : ℕ) (flags : Flags) (start : StartPredicate) → HasRisingPlaceOffsets text
      → units text + 2 < most
      → (way : ℕ → Direction) (ips : List ℕ) (taken : Key → ℕ)
      → IsPlan (two_required_program most flags start) text twice_account twice_questions way ips taken
  -- Costs of 6 for each key suffice.
  pub paid : (most : ℕ) (flags : Flags) (start : StartPredicate)
      → AreCostsCovered (two_required_program most flags start) twice_weights (λ ip. 6) (2 ∷ 3 ∷ [])
  pub run_paid : (most : ℕ) (flags : Flags) (start : StartPredicate)
      → GreedyLoopIsCovered (two_required_program most flags start) twice_weights (λ ip. 6) (2 ∷ 3 ∷ []) 0 1

-- Both analyses are sound, and in the first one positions alone decide.
pub record LivenessExamplesAreRight : Type 0 where
  pub right : (top most : ℕ) (flags : Flags) (start : StartPredicate) → top < most
      → IsSoundLiveness ab_loop_example_liveness top (ab_loop_example_program most flags start)
  pub alone : OnlyPositionsAreLive ab_loop_example_liveness
  pub twice : TwiceIsRight
