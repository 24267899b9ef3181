-- The checks of a memo analysis at each instruction.
use Rattle.std.specs.Prelude.{◌≡◌, ◌≢◌, ◌≤◌, ◌<◌, ℕ, ◌+◌, ◌-◌, ◌*◌, ◌^◌, Bool, true, false, ◌==◌, if◌then◌else◌, [], Option, Some, None, nat_lt, slice_get}
use Rattle.regex_meaning.specs.Text.{rightwards, leftwards}
use Rattle.regex_meaning.specs.CompilationRelation.{Program, Insn, EnterLoop}
use Rattle.regex_meaning.specs.CompilationRelation as layout
use Rattle.regress_program.specs.InsnsAsSpec.{loop_fields_as_spec}
use Rattle.regress_memo.specs.Liveness.{IsConsistentEdge, none, LoopCountDecidesExit}
use Rattle.regress_memo.specs.LoopDataKeyCodes.{plan_codes}
use Rattle.regress_memo.specs.ThreadPotentials.{CoversOne, CoversTwo, CoversRepeat}
use Rattle.regress_memo.specs.AmortizedStepCosts.{GreedyLoopIsCovered, LazyLoopIsCovered}
use Rattle.regress_memo.specs.declared.analysis_result.EnclosingLoop.{EnclosingLoop}
use Rattle.regress_memo.specs.declared.analysis_result.MemoAnalysis.{MemoAnalysis}
use Rattle.regress_memo.specs.declared.analysis_result.LoopProgressFact.TheVariants.{Inside, Moved}
use Rattle.regress_memo.specs.declared.successors.Successors.{Successors}
use Rattle.regress_memo.specs.declared.successors.Successors.TheVariants.{Ends, One, Two, Enter, Again, Run, LookaroundSuccessor, Same}
use Rattle.regress_memo.specs.declared.successors.LookaroundSuccessor as look
use Rattle.regress_memo.specs.declared.successors.CharLoopMinMaxAndGreed as bounds
use Rattle.regress_memo.specs.AnalysisAsPotentials.{insn_analysis_of, enclosing_loops_of, states_loop_fact, knows_iteration_reads, count_bound_of, analysis_as_liveness, key_code_questions_of}
use Rattle.regress_memo.specs.AnalysisAsPotentials.{recorded, potentials_of, key_cost_of, insn_direction}
use Rattle.regress_memo.specs.AnalysisAsPotentials.{groups_stay_unchanged_from, memo_codes_before_insn, number_of_memo_codes_at_insn}

-- Whether `l` is the loop that is entered.
abbrev pub is_entered : Option ℕ → (l : ℕ) → Bool
is_entered None l = false
is_entered (Some id) l = l == id

-- The maximum of a loop without a maximum.
abbrev pub unlimited : ℕ
unlimited = 18446744073709551615

-- The maximum number of codes at an instruction.
abbrev pub max_codes_per_insn : ℕ
max_codes_per_insn = 64

module _ (t : MemoAnalysis) where
  -- ---- Edges from an instruction to a successor

  -- The entry `row` at a successor follows from the entries at `ip`.
  pub record LoopFactsFlow (reads : Bool) (entered : Option ℕ) (ip : ℕ) (row : EnclosingLoop) : Type 0 where
    pub fresh : is_entered entered row.id ≡ true → row.moved ≡ false
    pub inside : is_entered entered row.id ≡ false → states_loop_fact Inside row.id (enclosing_loops_of t ip) ≡ true
    pub moved : is_entered entered row.id ≡ false → reads ≡ false → row.moved ≡ true
        → states_loop_fact Moved row.id (enclosing_loops_of t ip) ≡ true
    pub empty : is_entered entered row.id ≡ false → reads ≡ false → row.empty ≡ true
        → knows_iteration_reads row.id (enclosing_loops_of t ip) ≡ true

  -- All entries at the successor follow from the entries at `ip`.
  abbrev pub AllLoopFactsFlow : (reads : Bool) (entered : Option ℕ) (ip next : ℕ) → Type 0
  AllLoopFactsFlow reads entered ip next = (k : ℕ) (row : EnclosingLoop)
      → slice_get (enclosing_loops_of t next) k ≡ Some row
      → LoopFactsFlow reads entered ip row

  -- An edge is consistent: its facts follow, the direction stays the same, and if groups are known
  -- to stay unchanged before it, they are after it.
  pub record IsConsistentFlow (reads : Bool) (entered : Option ℕ) (ip next : ℕ) : Type 0 where
    pub liveness : IsConsistentEdge (analysis_as_liveness t) reads (none (analysis_as_liveness t)) (is_entered entered)
        ip next
    pub way : insn_direction t next ≡ insn_direction t ip
    pub silent : groups_stay_unchanged_from t ip ≡ true → groups_stay_unchanged_from t next ≡ true

  -- ---- Loops

  -- For texts of fewer than 2^63 units, the distinguished iteration counts decide how the loop
  -- continues.
  abbrev pub CountDecides : (f : layout.LoopFields) (moved : Bool) → Type 0
  CountDecides f moved = (top : ℕ) → top < 2 ^ 63 → LoopCountDecidesExit (analysis_as_liveness t) top f moved

  -- The edges to the loop's body and to its exit are consistent.
  pub record MayBeginIteration (f : layout.LoopFields) (ip begin : ℕ) : Type 0 where
    pub again : IsConsistentFlow false (Some f.loop_id) ip (begin + 1)
    pub leave : IsConsistentFlow false None ip f.exit
    pub writes : (insn_analysis_of t ip).from ≤ f.loop_id
    pub few : (count_bound_of t f.loop_id).counted ≡ true → f.max_iters ≤ (count_bound_of t f.loop_id).up_to + 1

  -- An iteration may end here, and the facts decide how the loop continues.
  pub record MayEndIteration (f : layout.LoopFields) (ip : ℕ) : Type 0 where
    pub inside : states_loop_fact Inside f.loop_id (enclosing_loops_of t ip) ≡ true
    pub empty : knows_iteration_reads f.loop_id (enclosing_loops_of t ip) ≡ true
    pub decides : CountDecides f (states_loop_fact Moved f.loop_id (enclosing_loops_of t ip))

  -- An iteration may end here, and another one may begin.
  pub record MayRepeatLoop (f : layout.LoopFields) (ip begin : ℕ) : Type 0 where
    pub begins : MayBeginIteration f ip begin
    pub loop_iteration_state : MayEndIteration f ip

  -- `MayRepeatLoop` for a loop head. Other instructions satisfy it.
  abbrev pub MayRepeatLoopAt : Option Insn → (ip begin : ℕ) → Type 0
  MayRepeatLoopAt (Some (EnterLoop f)) ip begin = MayRepeatLoop f ip begin
  MayRepeatLoopAt _ ip begin = Unit {0}

  -- ---- Lookarounds

  -- All loops that enclose the instruction have numbers below `from`.
  abbrev pub LoopsAreBefore : (ip from : ℕ) → Type 0
  LoopsAreBefore ip from = (k : ℕ) (row : EnclosingLoop) → slice_get (enclosing_loops_of t ip) k ≡ Some row
      → row.id < from

  -- The contents of a lookaround are isolated: no loop around them encloses them, and they write
  -- the data of none.
  pub record IsolatesLookaround (l : look.LookaroundSuccessor) (ip : ℕ) : Type 0 where
    pub on : IsConsistentFlow false None ip l.past
    pub apart : enclosing_loops_of t (ip + 1) ≡ []
    pub left : LoopsAreBefore l.past (insn_analysis_of t (ip + 1)).from
    pub from : (insn_analysis_of t ip).from ≤ (insn_analysis_of t (ip + 1)).from
    pub way : insn_direction t (ip + 1) ≡ (if l.forward then rightwards else leftwards)
    pub silent : groups_stay_unchanged_from t ip ≡ true → groups_stay_unchanged_from t (ip + 1) ≡ true

  -- ---- Char loops

  -- The potential covers a char loop without a maximum, and the costs of the keys cover its exits.
  pub record CoversUnboundedLoop (b : bounds.CharLoopMinMaxAndGreed) (ip : ℕ) : Type 0 where
    pub greedy : b.greedy ≡ true → b.least + 2 ≤ (insn_analysis_of t ip).ready
    pub lazy : b.greedy ≡ false
        → b.least + 2 + ((insn_analysis_of t (ip + 2)).ready + ((insn_analysis_of t (ip + 2)).ready + 1))
        ≤ (insn_analysis_of t ip).ready
    pub places : (insn_analysis_of t (ip + 2)).ready + 3 ≤ (insn_analysis_of t (ip + 1)).key_cost

  -- The potential left by a char loop with a maximum covers each exit and each character.
  abbrev pub CoversBoundedLoop : bounds.CharLoopMinMaxAndGreed → (ip : ℕ) → Type 0
  CoversBoundedLoop b ip =
      b.most + 1 + (b.most + 1 - b.least) * ((insn_analysis_of t (ip + 2)).ready + 1) ≤ (insn_analysis_of t ip).left

  -- If a char loop has no maximum, its body records and has the keys of the loop. If it has one, it
  -- leaves a thread for each exit.
  pub record IsCharLoopChecked (program : Program) (b : bounds.CharLoopMinMaxAndGreed) (ip : ℕ) : Type 0 where
    pub way : insn_direction t (ip + 1) ≡ insn_direction t ip
    pub records : b.most ≡ unlimited → (insn_analysis_of t (ip + 1)).records ≡ true
    pub asks : b.most ≡ unlimited → key_code_questions_of t (ip + 1) ≡ key_code_questions_of t (ip + 2)
    pub greedy : b.most ≡ unlimited → b.greedy ≡ true
        → GreedyLoopIsCovered program (potentials_of t) (key_cost_of t) (recorded t) b.least ip
    pub lazy : b.most ≡ unlimited → b.greedy ≡ false
        → LazyLoopIsCovered program (potentials_of t) (key_cost_of t) (recorded t) b.least ip
    pub limited : b.most ≢ unlimited → CoversBoundedLoop b ip

  -- ---- Each instruction

  -- The cost of the key covers an instruction that records. The potential covers any other
  -- instruction.
  pub record IsInsnCostCovered (ip : ℕ) : Type 0 where
    pub recorded : (insn_analysis_of t ip).records ≡ true
        → (insn_analysis_of t ip).left + 2 ≤ (insn_analysis_of t ip).ready + (insn_analysis_of t ip).key_cost
    pub passed : (insn_analysis_of t ip).records ≡ false
        → (insn_analysis_of t ip).left + 1 ≤ (insn_analysis_of t ip).ready

  -- The number of codes of an instruction is right and small, and its bits come before those of the
  -- next instruction.
  pub record HasDisjointCodesAt (ip : ℕ) : Type 0 where
    pub codes : plan_codes (key_code_questions_of t) ip ≡ (insn_analysis_of t ip).codes
    pub few : (insn_analysis_of t ip).codes ≤ max_codes_per_insn
    pub apart : memo_codes_before_insn t ip + number_of_memo_codes_at_insn t ip ≤ memo_codes_before_insn t (ip + 1)

  module _ (program : Program) where
    -- The facts at an instruction are consistent with those at its successors.
    abbrev pub IsConsistentAt : Successors → (ip : ℕ) → Type 0
    IsConsistentAt Ends ip = Unit {0}
    IsConsistentAt (One n) ip = IsConsistentFlow n.reads None ip n.to
        × (groups_stay_unchanged_from t ip ≡ true → n.silent ≡ true)
    IsConsistentAt (Two other) ip = IsConsistentFlow false None ip (ip + 1) × IsConsistentFlow false None ip other
    IsConsistentAt (Enter f) ip = MayBeginIteration (loop_fields_as_spec f) ip ip
    IsConsistentAt (Again begin) ip = MayRepeatLoopAt (slice_get program.insns begin) ip begin
    IsConsistentAt (Run b) ip = IsConsistentFlow (nat_lt 0 b.least) None ip (ip + 2)
    IsConsistentAt (LookaroundSuccessor l) ip = IsolatesLookaround l ip
    IsConsistentAt Same ip = ⊥

    -- The potential left by an instruction covers the threads at its successors.
    abbrev pub IsCoveredAt : Successors → (ip : ℕ) → Type 0
    IsCoveredAt Ends ip = Unit {0}
    IsCoveredAt (One n) ip = CoversOne (potentials_of t) ip n.to
    IsCoveredAt (Two other) ip = CoversTwo (potentials_of t) ip (ip + 1) other
    IsCoveredAt (Enter f) ip = CoversTwo (potentials_of t) ip (ip + 1) f.exit
    IsCoveredAt (Again begin) ip = CoversRepeat (potentials_of t) (slice_get program.insns begin) ip begin
    IsCoveredAt (Run b) ip = IsCharLoopChecked program b ip
    IsCoveredAt (LookaroundSuccessor l) ip = CoversOne (potentials_of t) ip l.past
    IsCoveredAt Same ip = CoversOne (potentials_of t) ip (ip + 1)

    -- All checks of an instruction succeed.
    pub record IsInsnChecked (step : Successors) (ip : ℕ) : Type 0 where
      pub right : IsConsistentAt step ip
      pub enough : IsCoveredAt step ip
      pub paid : IsInsnCostCovered ip
      pub codes : HasDisjointCodesAt ip
