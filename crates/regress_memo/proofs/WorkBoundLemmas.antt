-- The potentials and key costs of an analysis bound the work of all searches of a text.
use Rattle.std.proofs.Common.{◌≡◌, ◌≤◌, ◌<◌, ℕ, zero, suc, ◌+◌, ◌*◌, List, [], ◌∷◌, Bool, true, false, if◌then◌else◌, length, map, slice_get, take, Option, Some, None, refl, ap, sym, subst, ◌∙◌}
use Rattle.std.proofs.Common.{arith, sum_by}
use mathlib.Core.Logic.{inl, inr}
use Rattle.std.proofs.lemmas.Bool.{cases_lt}
use Rattle.std.proofs.lemmas.List.{length-map}
use Rattle.std.proofs.lemmas.Option.{slice_get_past}
use Rattle.std.specs.Prelude.{unwrap_or}
use Rattle.std.proofs.lemmas.List.Sums.{sum_by-cons}
use Rattle.regex_meaning.specs.CodeUnitOffsets.{units}
use Rattle.regex_meaning.specs.CompilationRelation.{Program, Insn, Loop1CharBody, Lookahead, Lookbehind}
use Rattle.regress_program.specs.InsnsAsSpec.{insn_as_spec_insn}
use Rattle.regress_program.specs.declared.instructions.Insn as declared
use Rattle.regress_memo.specs.SkippedLookarounds.{LookaroundInsn, lookaround_at}
use Rattle.regress_machine.specs.SearchFindsFirstOutcomeAtPlace.{state_before_first_insn}
use Rattle.regress_machine.specs.Machine.{running}
use Rattle.regress_memo.specs.DelayedMemoizationWorkBudget.{all_keys_cost_at_one_offset, enough_for_one}
use Rattle.regress_memo.specs.LoopDataKeyCodes.{plan_codes}
use Rattle.regress_memo.specs.AmortizedStepCosts.{potential_by}
use Rattle.regress_memo.specs.MemoPlanChecksAndGuarantees.{plan_steps_below_record}
use Rattle.regress_memo.specs.MemoSearch.{one_thread}
use Rattle.regress_memo.proofs.WorkBudgetLemmas.{budgets-enough}
use Rattle.regress_memo.proofs.StepCostLemmas.{one-weighs}
use Rattle.regress_memo.specs.declared.analysis_result.MemoAnalysis.{MemoAnalysis}
use Rattle.regress_memo.specs.declared.analysis_result.InsnAnalysis.{InsnAnalysis}
use Rattle.regress_memo.specs.AnalysisAsPotentials.{no_insn_analysis, insn_analysis_of, analysis_as_liveness, key_code_questions_of, recorded_from, recorded, potentials_of, key_cost_of}
use Rattle.regress_memo.specs.AnalysisAsPotentials.{insn_direction}
use Rattle.regress_memo.specs.CheckedAnalysis.{HasDisjointCodes}
use Rattle.regress_memo.specs.AnalysisChecks.{unlimited}
use Rattle.regress_memo.specs.Successors.{DeclaredInsnsEqualProgramInsns, successors_of_insn_if_any}
use Rattle.regress_memo.specs.WorkBound.{LookIsBounded, InsnIsBounded, IsStepWorkBounded, insn_keys_cost_per_position, all_keys_cost_per_position, work_per_position, initial_threads}
use Rattle.regress_memo.specs.WorkBound.{AnalysesBoundTotalWork}
use Rattle.regress_memo.proofs.CheckedAnalysisLemmas.{ledgers-serve}

-- The costs of instructions that record add up to the key costs of their lines.
pub of-lines : (f : ℕ → ℕ) (first : ℕ) (lines : List InsnAnalysis)
    → ((i : ℕ) (x : InsnAnalysis) → slice_get lines i ≡ Some x → x.records ≡ true → f (first + i) ≡ x.key_cost * x.codes)
    → sum_by f (recorded_from first lines) ≡ sum_by insn_keys_cost_per_position lines
of-lines f first [] same = omega arith
of-lines f first (x ∷ lines) same = by x.records refl (of-lines f (first + 1) lines next)
  where
    next : (i : ℕ) (y : InsnAnalysis) → slice_get lines i ≡ Some y → y.records ≡ true → f (first + 1 + i) ≡ y.key_cost * y.codes
    next i y e on = let at : first + 1 + i ≡ first + suc i = omega arith in ap f at ∙ same (suc i) y e on

    by : (b : Bool) → x.records ≡ b → sum_by f (recorded_from (first + 1) lines) ≡ sum_by insn_keys_cost_per_position lines
        → sum_by f (if b then first ∷ recorded_from (first + 1) lines else recorded_from (first + 1) lines) ≡ sum_by insn_keys_cost_per_position (x ∷ lines)
    by true e l =
        let a = sum_by-cons f first (recorded_from (first + 1) lines) in
        let b = sum_by-cons insn_keys_cost_per_position x lines in
        let at : first + 0 ≡ first = omega arith in
        let here = same 0 x refl e in
        let there = ap f at in
        let its : insn_keys_cost_per_position x ≡ x.key_cost * x.codes = ap (λ b. if b then x.key_cost * x.codes else 0) e in
        omega (arith, a, b, here, there, its, l)
    by false e l =
        let b = sum_by-cons insn_keys_cost_per_position x lines in
        let its : insn_keys_cost_per_position x ≡ 0 = ap (λ b. if b then x.key_cost * x.codes else 0) e in
        omega (arith, b, its, l)

nothing : (i : ℕ) (x : InsnAnalysis) → slice_get [] i ≡ Some x → ⊥
nothing i x e = cc

pub inside : (lines : List InsnAnalysis) (i : ℕ) (x : InsnAnalysis) → slice_get lines i ≡ Some x → i < length lines
inside [] i x e = absurd (nothing i x e)
inside (y ∷ lines) zero x e = omega arith
inside (y ∷ lines) (suc i) x e = let l = inside lines i x e in omega (arith, l)

module _ (t : MemoAnalysis) (coded : HasDisjointCodes t) where
  abbrev cost : ℕ → ℕ
  cost ip = key_cost_of t ip * plan_codes (key_code_questions_of t) ip

  as-written : (i : ℕ) (x : InsnAnalysis) → slice_get t.lines.items i ≡ Some x → x.records ≡ true → cost (0 + i) ≡ x.key_cost * x.codes
  as-written i x e on =
      let at : 0 + i ≡ i = omega arith in
      let there : insn_analysis_of t i ≡ x = ap (λ o. unwrap_or o no_insn_analysis) e in
      let codes : plan_codes (key_code_questions_of t) i ≡ x.codes = coded.counted i (inside t.lines.items i x e) ∙ ap (λ (y : InsnAnalysis). y.codes) there in
      ap cost at ∙ ap (λ (y : InsnAnalysis). y.key_cost * plan_codes (key_code_questions_of t) i) there ∙ ap (λ n. x.key_cost * n) codes

  pub costs-of-all : all_keys_cost_at_one_offset (key_code_questions_of t) (recorded t) (key_cost_of t) ≡ all_keys_cost_per_position t
  costs-of-all = of-lines cost 0 t.lines.items as-written

pub ledgers-bound : AnalysesBoundTotalWork
ledgers-bound program t of text is_text bytes less at_first work stages =
    let plan = (ledgers-serve program t of text is_text bytes less).plan in
    let enough = budgets-enough program text (analysis_as_liveness t) (key_code_questions_of t) (insn_direction t) (recorded t) (plan_steps_below_record program) (key_cost_of t)
    (potential_by program (potentials_of t) (key_cost_of t) (recorded t)) (initial_threads program) plan at_first (insn_analysis_of t 0).ready work
    (λ at. let x = one-weighs program (potentials_of t) (key_cost_of t) (recorded t) (one_thread (running (state_before_first_insn program at))) in omega (arith, x)) stages in
    let same = costs-of-all t of.coded in
    let number : enough_for_one at_first (insn_analysis_of t 0).ready (all_keys_cost_at_one_offset (key_code_questions_of t) (recorded t) (key_cost_of t)) ≡ at_first + 1 + work_per_position t =
    omega (arith, same) in
    let all = ap (λ n. n * (units text + 1)) number in
    omega (arith, enough, all)

-- The key costs of the first lines and of the next one add up to those of one line more.
pub cost-more : (lines : List InsnAnalysis) (i : ℕ) (x : InsnAnalysis) → slice_get lines i ≡ Some x
    → sum_by insn_keys_cost_per_position (take (i + 1) lines) ≡ sum_by insn_keys_cost_per_position (take i lines) + insn_keys_cost_per_position x
cost-more [] i x e = absurd (nothing i x e)
cost-more (y ∷ lines) zero x e =
    let a = sum_by-cons insn_keys_cost_per_position y [] in
    let same : y ≡ x = cc in
    let its = ap insn_keys_cost_per_position same in
    omega (arith, a, its)
cost-more (y ∷ lines) (suc i) x e =
    let at : suc i + 1 ≡ suc (i + 1) = omega arith in
    let on = ap (λ n. sum_by insn_keys_cost_per_position (take n (y ∷ lines))) at in
    let a = sum_by-cons insn_keys_cost_per_position y (take (i + 1) lines) in
    let b = sum_by-cons insn_keys_cost_per_position y (take i lines) in
    let l = cost-more lines i x e in
    omega (arith, on, a, b, l)

pub cost-all : (lines : List InsnAnalysis) (i : ℕ) → length lines ≤ i → sum_by insn_keys_cost_per_position (take i lines) ≡ sum_by insn_keys_cost_per_position lines
cost-all [] zero le = refl
cost-all [] (suc i) le = refl
cost-all (y ∷ lines) zero le = absurd (omega (arith, le))
cost-all (y ∷ lines) (suc i) le =
    let a = sum_by-cons insn_keys_cost_per_position y (take i lines) in
    let b = sum_by-cons insn_keys_cost_per_position y lines in
    let l = cost-all lines i (omega (arith, le)) in
    omega (arith, a, b, l)

-- ---- Checks of each line

pub ready-all : (lines : List InsnAnalysis) → ((k : ℕ) (x : InsnAnalysis) → slice_get lines k ≡ Some x → 1 ≤ x.ready)
    → (ip : ℕ) → 1 ≤ (unwrap_or (slice_get lines ip) no_insn_analysis).ready
ready-all lines each ip = by (slice_get lines ip) refl
  where
    by : (o : Option InsnAnalysis) → slice_get lines ip ≡ o → 1 ≤ (unwrap_or o no_insn_analysis).ready
    by None e = omega arith
    by (Some x) e = each ip x e

module _ (t : MemoAnalysis) where
  bounded-look : (x : Option Insn) (ip : ℕ) (its : LookaroundInsn) → lookaround_at x ≡ Some its
      → ((least : ℕ) → x ≡ Some (Loop1CharBody least unlimited false) → ⊥) → LookIsBounded t its.continuation ip → InsnIsBounded t x ip
  bounded-look x ip its is no_run h = record {
    look = λ l e. subst (λ (l : LookaroundInsn). LookIsBounded t l.continuation ip) (some-is (sym is ∙ e)) h;
    lazy = λ least e. absurd (no_run least e);
  }
    where
      some-is : {l : LookaroundInsn} → Some its ≡ Some l → its ≡ l
      some-is e = cc

  bounded-insn : (x : Option Insn) (ip : ℕ) → IsStepWorkBounded t (successors_of_insn_if_any ip x) ip → InsnIsBounded t x ip
  bounded-insn (Some (Lookahead negate start_group end_group continuation)) ip h =
      bounded-look (Some (Lookahead negate start_group end_group continuation)) ip _ refl (λ least e. cc) (record { contents = h.0; silent = h.1 })
  bounded-insn (Some (Lookbehind negate start_group end_group continuation)) ip h =
      bounded-look (Some (Lookbehind negate start_group end_group continuation)) ip _ refl (λ least e. cc) (record { contents = h.0; silent = h.1 })
  bounded-insn (Some (Loop1CharBody least most greedy)) ip h = record {
    look = λ l e. absurd (no-look e);
    lazy = λ few e. let g : greedy ≡ false = cc in let m : most ≡ unlimited = cc in h g m;
  }
    where
      no-look : {l : LookaroundInsn} → None ≡ Some l → ⊥
      no-look e = cc
  bounded-insn x ip h = record { look = λ l e. cc; lazy = λ least e. cc }

  pub bounded-all : (program : Program) (insns : List declared.Insn) → DeclaredInsnsEqualProgramInsns program insns
      → ((ip : ℕ) → ip < length insns → IsStepWorkBounded t (successors_of_insn_if_any ip (slice_get (map insn_as_spec_insn insns) ip)) ip)
      → (ip : ℕ) → InsnIsBounded t (slice_get program.insns ip) ip
  bounded-all program insns has each ip =
      subst (λ all. InsnIsBounded t (slice_get all ip) ip) (sym has) (elim (cases_lt ip (length insns)) [
        | inl less ↦ bounded-insn (slice_get (map insn_as_spec_insn insns) ip) ip (each ip less)
        | inr past ↦
            let long = length-map insns insn_as_spec_insn in
            let none : slice_get (map insn_as_spec_insn insns) ip ≡ None = slice_get_past (map insn_as_spec_insn insns) ip (omega (arith, past, long)) in
            subst (λ o. InsnIsBounded t o ip) (sym none) (bounded-insn None ip tt)
      ])
