-- Attempts in two stages take exactly what they cost.
use Rattle.std.proofs.Common.{◌≡◌, ◌+◌, ◌-◌, ◌*◌, ◌≤◌, ◌<◌, ℕ, Bool, true, false, Option, Some, None, Result, Ok, Err, ap, refl, subst, sym, ◌∙◌, arith}
use Rattle.std.specs.Prelude.{IfErr, IfOk, min}
use Rattle.std.specs.Result.{is_err}
use Rattle.regress_search.specs.declared.exec.SearchError.{SearchError}
use Rattle.regress_search.specs.declared.exec.SearchError.TheVariants.{Memory, StepLimit}
use Rattle.regress_search.specs.SearchEffects.{IsRefusedByWorkLimit, SpendsNeedOrReachesLimit, TellsIfStepLimitReached}
use Rattle.std.proofs.Math.Logic.{∥∥₁_map, ∥∥₁_elim}
use Rattle.std.proofs.Math.Nat.{add-mul}
use Rattle.std.proofs.Props.{props}
use mathlib.Core.Path.{fun_ext}
use Rattle.regex_meaning.specs.CodeUnits.{Encoding}
use Rattle.regex_meaning.specs.CodeUnitOffsets.{HasRisingPlaceOffsets, units}
use Rattle.regex_meaning.specs.Text.{Text}
use Rattle.regex_meaning.specs.Tree.{Tree}
use Rattle.regress_input.proofs.BoundaryPositions.{boundary_inside}
use Rattle.regress_search.specs.CostsOfSearches.{CostsMoreThanLeft, Failures, SkipCostsMoreThanLeft, SkipSpendsExactCost, SpendsExactCost, units_skipped}
use Rattle.regress_search.specs.AttemptsAndStarts.{NextStartSkipsNoMatch}
use Rattle.regress_backtrack.specs.WorkOfAttempts.{no_failures}
use Rattle.regress_bounded.specs.CostsOfAttempts.{AttemptCosts, NoFailuresAreKnown}
use Rattle.std.specs.Arc.{arc_value}
use Rattle.regress_program.specs.CompilationOfTreesAsFunction.{compiled}
use Rattle.regress_bounded.specs.declared.work_bound.WorkBound.{WorkBound}
use Rattle.regress_bounded.specs.WorkBoundForAllMatches.{AnalysisBoundsProgram, TreeHasWorkBound, first_stage_work_per_position, most_memo_codes_per_insn}
use Rattle.regress_bounded.specs.WorkBoundForAllMatches.{program_size, second_stage_work_per_position, work_per_unit}
use Rattle.regress_bounded.specs.CostsOfStages.{FirstStageCosts, StagesCost, in_first, in_second, in_both}

module _ (e : Encoding) (tree : Tree) (text : Text) (before : Failures) (at : ℕ) where
  -- The first stage makes the attempt. If it reaches its limit, it has all the work.
  pub made-in-first : {X E : Type 0} (left reserve left' : ℕ) (r : Result X E) (out : Bool) (after : Failures) → (out ≡ true → reserve ≡ 0)
      → SpendsExactCost (FirstStageCosts e tree text before at) left r out left' after
      → SpendsExactCost (StagesCost e tree text before at) (left + reserve) r out (left' + reserve) after
  made-in-first left reserve left' (Ok x) out after all h =
      (h.0, in_first h.0 (Some after) h.1, let spent = h.2 in omega (arith, spent))
  made-in-first left reserve left' (Err x) true after all h =
      ∥∥₁_map h (λ more. (more.0, in_first more.0 None more.1, let less = more.2 in let none = all refl in omega (arith, less, none)))
  made-in-first left reserve left' (Err x) false after all h = omega (arith, h)

  -- The second stage makes the attempt.
  pub made-in-second : {X E : Type 0} (left left' : ℕ) (r : Result X E) (out : Bool) (after : Failures)
      → SpendsExactCost (AttemptCosts tree text before at) left r out left' after
      → SpendsExactCost (StagesCost e tree text before at) left r out left' after
  made-in-second left left' (Ok x) out after h = (h.0, in_second h.0 (Some after) h.1, h.2)
  made-in-second left left' (Err x) false after h = h
  made-in-second left left' (Err x) true after h = ∥∥₁_map h (λ more. (more.0, in_second more.0 None more.1, more.2))

  -- The first stage begins the attempt, and the second one repeats it.
  pub made-in-both : {X E : Type 0} (left reserve left' : ℕ) (r : Result X E) (out : Bool) (after : Failures)
      → CostsMoreThanLeft (FirstStageCosts e tree text before at) left
      → SpendsExactCost (AttemptCosts tree text before at) reserve r out left' after
      → SpendsExactCost (StagesCost e tree text before at) (left + reserve) r out left' after
  made-in-both left reserve left' (Ok x) out after begun h =
      (left + h.0, in_both left h.0 (Some after) begun h.1, let spent = h.2 in omega (arith, spent))
  made-in-both left reserve left' (Err x) false after begun h = omega (arith, h)
  made-in-both left reserve left' (Err x) true after begun h =
      ∥∥₁_map h (λ more. (left + more.0, in_both left more.0 None begun more.1, let less = more.2 in omega (arith, less)))

-- A skip costs at most the rest of the text. If it costs more than what is left of the work that pays
-- for that, some of this work was not given.
pub refused-for-lack : (may_skip : Bool) (tree : Tree) (text : Text) → HasRisingPlaceOffsets text → (at left lacking : ℕ) → units text ≤ at + (left + lacking)
    → SkipCostsMoreThanLeft may_skip tree text at left → 0 < lacking
refused-for-lack may_skip tree text is at left lacking pays (may, more) = ∥∥₁_elim more (Prim.hlevel props) (λ skip. short skip.0 skip.1 skip.2)
  where
    short : (next : Option ℕ) → NextStartSkipsNoMatch tree text at next → left < units_skipped text at next → 0 < lacking
    short None skips less = omega (arith, pays, less)
    short (Some to) skips less = let inside = boundary_inside text is to skips.0 in omega (arith, pays, less, inside)

-- What is left for the second stage is enough if all work is.
pub reserve-is-enough : (first second places work : ℕ) → (first + second) * places ≤ work → second * places ≤ work - min (first * places) work
reserve-is-enough first second places work all = let sum = add-mul first second places in omega (arith, all, sum)

-- What holds of a returned value and implies another statement.
pub ok-map : {X E : Type 0} {P Q : X → Type 0} (r : Result X E) → ((x : X) → P x → Q x) → IfOk r P → IfOk r Q
ok-map (Ok x) f h = f x h
ok-map (Err e) f h = tt

-- A copy of a work bound is one of the same tree.
pub same-bound : (tree : Tree) (old new : WorkBound) → arc_value new.memo_analysis ≡ arc_value old.memo_analysis → new.per_unit ≡ old.per_unit
    → TreeHasWorkBound tree old → TreeHasWorkBound tree new
same-bound tree old new analysis per_unit = λ bound. ∥∥₁_map bound (λ b. record {
  has = subst (AnalysisBoundsProgram (compiled tree)) (sym analysis) b.has;
  per_unit = per_unit ∙ b.per_unit ∙ ap work_per_unit (sym analysis);
  few = subst (λ t. new.per_unit ≤ 64 * (program_size (compiled tree) * most_memo_codes_per_insn t)) (sym analysis) (subst (λ n. n ≤ 64 * (program_size (compiled tree) * most_memo_codes_per_insn (arc_value old.memo_analysis))) (sym per_unit) b.few);
})

-- If all the work is enough, what the first stage is not given is enough for the second one.
pub reserve-suffices : (tree : Tree) (old new : WorkBound) → arc_value new.memo_analysis ≡ arc_value old.memo_analysis → TreeHasWorkBound tree old
    → (text : Text) (unit_count work given : ℕ) → unit_count ≡ units text → given ≡ min (first_stage_work_per_position * (unit_count + 1)) work
    → {per_unit : ℕ} → per_unit * (unit_count + 1) ≤ work → per_unit ≡ old.per_unit
    → second_stage_work_per_position (arc_value new.memo_analysis) * (units text + 1) ≤ work - given
reserve-suffices tree old new analysis bound text unit_count work given count is {per_unit} all same = ∥∥₁_elim bound (Prim.hlevel props) (λ b.
    let second = second_stage_work_per_position (arc_value new.memo_analysis) in
    let sum : per_unit ≡ first_stage_work_per_position + second = same ∙ b.per_unit ∙ ap work_per_unit (sym analysis) in
    let enough : (first_stage_work_per_position + second) * (unit_count + 1) ≤ work = subst (λ n. n * (unit_count + 1) ≤ work) sum all in
    subst (λ n. second * (n + 1) ≤ work - given) count
    (subst (λ n. second * (unit_count + 1) ≤ work - n) (sym is) (reserve-is-enough first_stage_work_per_position second (unit_count + 1) work enough)))

-- What holds of one of two equal options' values holds of the other's.
pub held : {A : Type 0} (P : A → Type 0) (a x : A) → Some a ≡ Some x → P a → P x
held P a x e p = subst P (let same : a ≡ x = cc e in same) p

-- No failures are known to a new memo table.
pub no-failures-known : (failures : Failures) → NoFailuresAreKnown failures → failures ≡ no_failures
no-failures-known failures none = fun_ext (λ ip. fun_ext (λ at. fun_ext (λ code. none ip at code)))

-- An attempt for which the work of the first stage does not suffice costs more than that.
pub more-than-first-left : {X E : Type 0} (costs : (cost : ℕ) → (after : Option Failures) → Type 0) (left left' : ℕ) (r : Result X E) (out : Bool) (after : Failures)
    → IfOk r (λ x. out ≡ false) → out ≡ true → SpendsExactCost costs left r out left' after → CostsMoreThanLeft costs left
more-than-first-left costs left left' (Ok x) out after within exhausted h = absurd (let no : ⊥ = cc in no)
more-than-first-left costs left left' (Err e) true after within exhausted h = h
more-than-first-left costs left left' (Err e) false after within exhausted h = absurd (let no : ⊥ = cc in no)

-- ---- Skips of the first stage

module _ {P : Type 0} (offset : P → ℕ) (tree : Tree) (text : Text) (at left left' reserve : ℕ) where
  -- A refused skip was refused for want of work that was not given.
  pub refused-lacks : (r : Result (Option P) SearchError) → HasRisingPlaceOffsets text → (lacking : ℕ) → units text ≤ at + (left + lacking)
      → SkipSpendsExactCost offset true tree text at left r left' → is_err r ≡ true → 0 < lacking
  refused-lacks (Ok next) is lacking pays h e = absurd (let no : ⊥ = cc in no)
  refused-lacks (Err x) is lacking pays h e = refused-for-lack true tree text is at left lacking pays h

  -- If a skip is refused, no work is kept for the second stage. A skip is paid of all the work.
  pub paid-of-all : (r : Result (Option P) SearchError) → (is_err r ≡ true → reserve ≡ 0) → SkipSpendsExactCost offset true tree text at left r left'
      → SkipSpendsExactCost offset true tree text at (left + reserve) r (left' + reserve)
  paid-of-all (Ok next) none h = (h.0, (let paid = h.1 in omega (arith, paid)))
  paid-of-all (Err x) none h = subst (λ n. SkipCostsMoreThanLeft true tree text at n) (let no = none refl in omega (arith, no)) h

pub refused-out : {X : Type 0} (r : Result X SearchError) (steps out enough : Bool) → IfErr r (λ e. IsRefusedByWorkLimit e steps out enough) → is_err r ≡ true → out ≡ true
refused-out (Ok x) steps out enough h e = absurd (let no : ⊥ = cc in no)
refused-out (Err x) steps out enough h e = h.2

-- What an attempt of the second stage costs, with the tree, the text, the failures and the work that it was given.
pub costs-same : {tree tree' : Tree} {text text' : Text} {failures failures' : Failures} {left left' : ℕ} → tree ≡ tree' → text ≡ text' → failures ≡ failures' → left ≡ left'
    → {X E : Type 0} (at : ℕ) (r : Result X E) (out : Bool) (now : ℕ) (after : Failures) → SpendsExactCost (AttemptCosts tree text failures at) left r out now after
    → SpendsExactCost (AttemptCosts tree' text' failures' at) left' r out now after
costs-same {tree} {tree'} {text} {text'} {failures} {failures'} {left} {left'} t x f l at r out now after h =
    subst (λ n. SpendsExactCost (AttemptCosts tree' text' failures' at) n r out now after) l
    (subst (λ m. SpendsExactCost (AttemptCosts tree' text' m at) left r out now after) f
    (subst (λ y. SpendsExactCost (AttemptCosts tree' y failures at) left r out now after) x
    (subst (λ z. SpendsExactCost (AttemptCosts z text failures at) left r out now after) t h)))

-- ---- Attempts without a step limit

pub unlimited-steps : {X : Type 0} (need : ℕ) (r : Result X SearchError) → IfErr r (λ e. e ≡ Memory) → SpendsNeedOrReachesLimit need None r None
unlimited-steps need (Ok x) h = (refl, refl)
unlimited-steps need (Err Memory) h = (tt, tt)
unlimited-steps need (Err StepLimit) h = absurd (let no : ⊥ = cc h in no)

pub unlimited-cause : {X : Type 0} (r : Result X SearchError) → IfErr r (λ e. e ≡ Memory) → TellsIfStepLimitReached r false
unlimited-cause (Ok x) h = refl
unlimited-cause (Err e) h = h
