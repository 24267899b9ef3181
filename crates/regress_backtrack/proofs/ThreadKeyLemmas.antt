-- The memo key of a state is a key of its thread, and the memo knows exactly the recorded keys.
use Rattle.std.proofs.Common.{◌≡◌, ℕ, Bool, true, false, [], ◌∷◌, ◌&&◌, Option, Some, None, refl, ap, sym, ◌∙◌, subst, slice_get, if◌then◌else◌, zero, suc, ◌-◌, List, arith}
use Rattle.std.specs.Prelude.{◌⊎◌, IsTrue, is_some, IfSome, not}
use mathlib.Core.Logic.{inl, inr}
use mathlib.Core.Bool.{beq}
use Rattle.std.proofs.lemmas.Bool.{or_cases, or_left, or_right, both_ways}
use Rattle.regex_meaning.specs.Text.{Direction, rightwards, leftwards}
use Rattle.regex_meaning.specs.CodeUnitOffsets.{units}
use Rattle.regex_meaning.specs.CompilationRelation.{Program, Insn}
use Rattle.regex_meaning.specs.CompilationRelation as layout
use Rattle.regress_input.specs.CharAndByteReadsFromOffset.{direction_of_forward_flag}
use Rattle.regress_machine.specs.Machine.{State, Thread, LoopData, running}
use Rattle.regress_memo.specs.Liveness.{SimilarAt, Agree, outermost}
use Rattle.regress_memo.specs.LoopDataKeyCodes.{HasSlotsOfProgram}
use Rattle.regress_memo.specs.MemoKeys.{IsSoundState}
use Rattle.regress_memo.specs.UnboundedCharLoopMemoKeys.{char_loop_greediness_at, insn_before}
use Rattle.regress_memo.specs.MemoSearch.{Key}
use Rattle.regress_memo.specs.declared.analysis_result.MemoAnalysis.{MemoAnalysis}
use Rattle.regress_memo.specs.AnalysisAsPotentials.{insn_analysis_of, analysis_as_liveness, insn_direction, memo_bit_index_of_key}
use Rattle.regress_program.specs.declared.ops.Op.{Op}
use Rattle.regress_program.specs.declared.ops.Op.TheVariants.{Goal, Fail, UnitChar, Char, Bytes, One, LineStart, LineEnd, WordEdge, Goto, Either, Enter, LoopEnd, OpenGroup, CloseGroup, ResetGroup}
use Rattle.regress_program.specs.declared.ops.Op.TheVariants.{MatchBackref, Look}
use Rattle.regress_program.specs.declared.plan.Plan.{Plan}
use Rattle.regress_program.specs.Plans.{reads_class_char, op_as_char_loop, IsOpOf}
use Rattle.regress_memo.specs.BitSet.{is_set}
use Rattle.regress_memo.specs.MemoContractView.{MemoView}
use Rattle.regress_memo.specs.MemoContents.{memo_key_at, has_bit, has_failure, has_success, same_key, RecordsFailure, RecordsSuccess}
use Rattle.regress_memo.proofs.MemoTableLawLemmas.{thread-key}
use Rattle.regress_memo.proofs.MemoContentsLemmas.{same-is, same-itself, bit-there}
use Rattle.regress_memo.specs.CheckedAnalysis.{IsRecordableMemoKey}
use Rattle.regress_search.specs.TreePlanAndText.{SearchInput, program_of}
use Rattle.regress_backtrack.specs.declared.failure_memo.RecordKey.{RecordKey as Stored}
use Rattle.regress_backtrack.specs.FailureMemo.{KeyStandsForThreadsInDirection, record_key_as_spec}
use Rattle.regress_backtrack.specs.FailuresInMemoTable.{scheme_of}

-- A sound state agrees with itself if no group is compared.
module _ (t : MemoAnalysis) (top : ℕ) (d : Direction) (s : State) (sound : IsSoundState (analysis_as_liveness t) top d s) where
  similar : (l : ℕ) → (analysis_as_liveness t).inside s.ip l ≡ true → (o : Option LoopData) → slice_get s.loops l ≡ o
      → SimilarAt (analysis_as_liveness t) top d s.pos s.ip l o o
  similar l inside None e = tt
  similar l inside (Some x) e =
      let same = sound.loops l x inside e in
      record { left = same; right = same; empty = λ h. refl; count = refl }

  pub agrees-itself : Agree (analysis_as_liveness t) top outermost d s s
  agrees-itself = record {
    ip = refl;
    pos = refl;
    within = sound.within;
    as_many_groups = refl;
    groups = λ e. refl;
    as_many_starts = refl;
    starts = λ id e. refl;
    as_many_loops = refl;
    loops = λ l inside. similar l inside (slice_get s.loops l) refl;
    kept = λ l e. cc;
  }

pub heads : (b : Bool) → (if b then rightwards else leftwards) ≡ direction_of_forward_flag b
heads true = refl
heads false = refl

-- A sound thread that stands at no loop's body has its key.
pub key-of-thread : (w : SearchInput) (t : MemoAnalysis) (forward : Bool) (s : State) (k : Key) → memo_key_at t s ≡ Some k
    → char_loop_greediness_at (insn_before (program_of w) s.ip) ≡ None → (insn_analysis_of t s.ip).forward ≡ forward → HasSlotsOfProgram (program_of w) s
    → IsSoundState (analysis_as_liveness t) (units w.text) (insn_direction t s.ip) s → KeyStandsForThreadsInDirection w (scheme_of t) forward k (running s ∷ [])
key-of-thread w t forward s k is no_body line of sound =
    let way : insn_direction t s.ip ≡ direction_of_forward_flag forward = heads (insn_analysis_of t s.ip).forward ∙ ap (λ b. direction_of_forward_flag b) line in
    thread-key (program_of w) w.text t (direction_of_forward_flag forward) s k is no_body way of
    (agrees-itself t (units w.text) (direction_of_forward_flag forward) s (subst (λ d. IsSoundState (analysis_as_liveness t) (units w.text) d s) way sound))

-- ---- Bodies of loops

-- An instruction that reads one character is no char loop.
reads-no-run : (insn : Insn) → reads_class_char insn ≡ true → char_loop_greediness_at (Some insn) ≡ None
reads-no-run (layout.Loop1CharBody a b g) e = cc
reads-no-run _ e = refl

edge-no-run : (b invert : Bool) (insn : Insn) → insn ≡ (if b then layout.WordBoundaryUnicodeICase invert else layout.WordBoundary invert)
    → char_loop_greediness_at (Some insn) ≡ None
edge-no-run true invert insn e = ap (λ i. char_loop_greediness_at (Some i)) e
edge-no-run false invert insn e = ap (λ i. char_loop_greediness_at (Some i)) e

look-no-run : (b negate : Bool) (from to past : ℕ) (insn : Insn)
    → insn ≡ (if b then layout.Lookahead negate from to past else layout.Lookbehind negate from to past) → char_loop_greediness_at (Some insn) ≡ None
look-no-run true negate from to past insn e = ap (λ i. char_loop_greediness_at (Some i)) e
look-no-run false negate from to past insn e = ap (λ i. char_loop_greediness_at (Some i)) e

module _ (program : Program) (plan : Plan) (ip : ℕ) (insn : Insn) where
  -- An operation that is no char loop is one of an instruction that is none.
  pub no-run : (op : Op) → IsOpOf program plan op ip insn → is_some (op_as_char_loop op) ≡ false → char_loop_greediness_at (Some insn) ≡ None
  no-run Goal e h = ap (λ i. char_loop_greediness_at (Some i)) e
  no-run Fail e h = ap (λ i. char_loop_greediness_at (Some i)) e
  no-run (UnitChar c) e h = ap (λ i. char_loop_greediness_at (Some i)) e
  no-run (Char c) e h = ap (λ i. char_loop_greediness_at (Some i)) e
  no-run (LineStart m) e h = ap (λ i. char_loop_greediness_at (Some i)) e
  no-run (LineEnd m) e h = ap (λ i. char_loop_greediness_at (Some i)) e
  no-run (Goto t) e h = ap (λ i. char_loop_greediness_at (Some i)) e
  no-run (Either t) e h = ap (λ i. char_loop_greediness_at (Some i)) e
  no-run (OpenGroup t) e h = ap (λ i. char_loop_greediness_at (Some i)) e
  no-run (CloseGroup t) e h = ap (λ i. char_loop_greediness_at (Some i)) e
  no-run (ResetGroup t) e h = ap (λ i. char_loop_greediness_at (Some i)) e
  no-run (MatchBackref t) e h = ap (λ i. char_loop_greediness_at (Some i)) e
  no-run (Bytes n) e h = ap (λ i. char_loop_greediness_at (Some i)) e.insn_is
  no-run (Enter n) e h = ap (λ i. char_loop_greediness_at (Some i)) e.insn_is
  no-run (LoopEnd n) e h = ap (λ i. char_loop_greediness_at (Some i)) e.insn_is
  no-run (One n) e h = reads-no-run insn e.1
  no-run (WordEdge w) e h = edge-no-run w.unicode_icase w.invert insn e
  no-run (Look l) e h = look-no-run l.forward l.negate e.start_group e.end_group l.past insn e.insn_is
  no-run _ e h = cc

pub no-run-before : (program : Program) (ip : ℕ) → ((insn : Insn) → slice_get program.insns (ip - 1) ≡ Some insn → char_loop_greediness_at (Some insn) ≡ None)
    → char_loop_greediness_at (insn_before program ip) ≡ None
no-run-before program zero h = refl
no-run-before program (suc ip) h = by (slice_get program.insns ip) refl
  where
    by : (o : Option Insn) → slice_get program.insns ip ≡ o → char_loop_greediness_at o ≡ None
    by None e = refl
    by (Some insn) e = let less : suc ip - 1 ≡ ip = omega arith in h insn (ap (λ n. slice_get program.insns n) less ∙ e)

-- ---- Known failures and ends

module _ (m : MemoView) (k : Key) where
  -- A key without a bit is not known to fail.
  pub unknown : (b : Bool) → b ≡ false → (IsRecordableMemoKey m.memo_analysis m.places k → IsTrue b) → b ≡ has_failure m k
  unknown b none has = by (has_bit m.memo_analysis m.places k) refl
    where
      by : (h : Bool) → has_bit m.memo_analysis m.places k ≡ h → b ≡ has_failure m k
      by false e = none ∙ sym (ap (λ h. h && is_set m.failures (memo_bit_index_of_key m.memo_analysis m.places k.ip k.at k.code)) e)
      by true e = absurd (both_ways b none (has (bit-there m.memo_analysis m.places k e)))

  -- A key without a bit is not known to find an end.
  pub unknown-end : (b : Bool) → b ≡ false → (IsRecordableMemoKey m.memo_analysis m.places k → IsTrue b) → b ≡ has_success m k
  unknown-end b none has = by (has_bit m.memo_analysis m.places k) refl
    where
      off : (b : Bool) → (b && false) ≡ false
      off true = refl
      off false = refl

      by : (h : Bool) → has_bit m.memo_analysis m.places k ≡ h → b ≡ has_success m k
      by false e =
          none ∙ sym (off m.records_successes)
          ∙ sym (ap (λ h. m.records_successes && (h && is_set m.ends (memo_bit_index_of_key m.memo_analysis m.places k.ip k.at k.code))) e)
      by true e = absurd (both_ways b none (has (bit-there m.memo_analysis m.places k e)))

  pub found-more : (n : MemoView) → RecordsSuccess k m n → (j : Key) → has_success n j ≡ true → (has_success m j ≡ true) ⊎ (j ≡ k)
  found-more n notes j known = elim (or_cases (has_success m j) (same_key j k) (sym (notes.ends j) ∙ known)) [
    | inl e ↦ inl e
    | inr e ↦ inr (same-is j k e)
  ]

  pub noted-more : (n : MemoView) → RecordsFailure k m n → (j : Key) → has_failure n j ≡ true → (has_failure m j ≡ true) ⊎ (j ≡ k)
  noted-more n notes j known = elim (or_cases (has_failure m j) (same_key j k) (sym (notes.failures j) ∙ known)) [
    | inl e ↦ inl e
    | inr e ↦ inr (same-is j k e)
  ]

  -- A failure that was recorded is known, and earlier failures stay known.
  pub noted-itself : (n : MemoView) → RecordsFailure k m n → has_failure n k ≡ true
  noted-itself n notes = notes.failures k ∙ or_right (has_failure m k) (same_key k k) (same-itself k)

  pub noted-kept : (n : MemoView) → RecordsFailure k m n → (j : Key) → has_failure m j ≡ true → has_failure n j ≡ true
  noted-kept n notes j known = notes.failures j ∙ or_left (has_failure m j) (same_key j k) known

-- A key stored in the memo stands for the threads of the equal key.
pub stored-key : (w : SearchInput) (t : MemoAnalysis) (forward : Bool) (ts : List Thread) (key : Key) (o : Option Stored)
    → IfSome o (λ k. record_key_as_spec k ≡ key) → KeyStandsForThreadsInDirection w (scheme_of t) forward key ts → IfSome o (λ k. KeyStandsForThreadsInDirection w (scheme_of t) forward (record_key_as_spec k) ts)
stored-key w t forward ts key None same of = tt
stored-key w t forward ts key (Some k) same of = subst (λ j. KeyStandsForThreadsInDirection w (scheme_of t) forward j ts) (sym same) of

pub same-way : (a b : Bool) → not (beq a b) ≡ false → a ≡ b
same-way true true e = refl
same-way false false e = refl
same-way true false e = cc
same-way false true e = cc
