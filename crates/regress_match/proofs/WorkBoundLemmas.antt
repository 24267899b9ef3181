-- Searches within a work budget return the matches in order, and no bound exceeds the stated limit.
use Rattle.std.proofs.Common.{◌≡◌, ◌≤◌, ◌<◌, ◌⊎◌, ◌+◌, ◌*◌, ℕ, suc, Bool, List, [], ◌∷◌, length, max, true, false, refl, sym, ap, ◌∙◌, subst, inl, inr, nat_le, nat_lt, if◌then◌else◌, arith}
use Rattle.std.specs.Arc.{arc_value}
use Rattle.std.specs.List.{fold}
use Rattle.std.specs.Prelude.{Option, Some, None, Result, Ok, Err, IfErr, IsErrAnd, slice_get, unwrap_or}
use Rattle.std.proofs.Math.Logic.{∥∥₁_elim}
use Rattle.std.proofs.Math.Nat.{mul-le-mul_left, mul-le-mul_right}
use Rattle.std.proofs.Props.{props}
use Rattle.std.proofs.lemmas.Bool.{ltb-false, ltb-true}
use Rattle.std.proofs.lemmas.Bool.Decides.{leb_tells}
use Rattle.regex_meaning.specs.Laws.{Each}
use Rattle.regex_meaning.specs.CodeUnitOffsets.{units}
use Rattle.regex_meaning.specs.Text.{Text}
use Rattle.regex_meaning.specs.Tree.{Tree}
use Rattle.regress_search.specs.MatchesWithinWork.{RemainingAnswersAndWork}
use Rattle.regress_search.specs.CostsOfCalls.{WorkMatchesView, without_costs}
use Rattle.regress_search.specs.CostsOfSearches.{Failures, WorkCosts}
use Rattle.regress_bounded.specs.CostsOfAttempts.{BeginsSearchesForTreeInText}
use Rattle.regress_search.specs.declared.exec.work_matches.WorkError.TheVariants.{Memory, WorkLimit}
use Rattle.regress_memo.specs.AnalysisAsPotentials.{no_insn_analysis}
use Rattle.regress_memo.specs.CheckedAnalysis.{HasDisjointCodes}
use Rattle.regress_memo.specs.declared.analysis_result.InsnAnalysis.{InsnAnalysis}
use Rattle.regress_memo.specs.declared.analysis_result.MemoAnalysis.{MemoAnalysis}
use Rattle.regress_program.specs.CompilationOfTreesAsFunction.{compiled}
use Rattle.regress_bounded.specs.Unboundedness.{HasOnlySimpleLookarounds, IsReasonForUnboundedness}
use Rattle.regress_bounded.specs.declared.work_bound.Unbounded.{Unbounded}
use Rattle.regress_bounded.specs.WorkBoundForAllMatches.{TreeHasWorkBound, IsWorkBoundOfTree, most_memo_codes_per_insn, program_size}
use Rattle.regress_bounded.specs.declared.work_bound.WorkBound.{WorkBound}
use Rattle.regress_match.specs.WorkBounds.{WorkLimitedNextResult, ResultsAreMatchesWithinWork, BoundedView, NextCallsYieldWithinWork, SearchesReturnMatchesWithinWork, WorkPerUnitLimitSuffices}
use Rattle.regress_match.specs.WorkBounds.{NextCallsYieldAtTotalCost, IsNoAllocationFailure, IsNoError, NextCallsYieldAtCost, CallCostsAreWorkSpent, CallsWithinWorkReturnMatches}
use Rattle.regress_match.specs.WorkBounds.{IsPatternUnboundedBy, YieldsMatchesIfWorkSuffices, enough_work_for_text, max_of_two, work_per_unit_limit}
use Rattle.regress_match.specs.ProgramTreesAndAnswers.{tree_for_byte_units, tree_for_16_bit_units}
use Rattle.regress_match.specs.declared.api.regex.Regex.{Regex}

-- ---- Successive calls

-- A search that has ended returns no more matches.
ended-None : (s t : RemainingAnswersAndWork) (rs : List WorkLimitedNextResult) → s.remaining.ended ≡ true → NextCallsYieldWithinWork s rs t → Each (λ r. r ≡ None) rs
ended-None s t [] e h = tt
ended-None s t (None ∷ rs) e (u, h, k) = (refl, ended-None u t rs h.0.1.2 k)
ended-None s t (Some (Ok m) ∷ rs) e (u, h, k) = absurd (cc (sym e ∙ h.0.1))
ended-None s t (Some (Err x) ∷ rs) e (u, h, k) = absurd (cc (sym e ∙ h.0.1))

-- The results are the matches in order, unless the work is too little.
calls-Answer : (too_little : Type 0) (s t : RemainingAnswersAndWork) (rs : List WorkLimitedNextResult)
    → (s.enough ≡ true) ⊎ too_little → NextCallsYieldWithinWork s rs t → ResultsAreMatchesWithinWork too_little s.remaining.answers rs
calls-Answer too_little s t [] e h = tt
calls-Answer too_little s t (None ∷ rs) e (u, h, k) = (h.0.0, ended-None u t rs h.0.1.2 k)
calls-Answer too_little s t (Some (Ok m) ∷ rs) (inl e) (u, h, k) = (u.remaining.answers, h.0.0, calls-Answer too_little u t rs (inl (h.0.4 e)) k)
calls-Answer too_little s t (Some (Ok m) ∷ rs) (inr l) (u, h, k) = (u.remaining.answers, h.0.0, calls-Answer too_little u t rs (inr l) k)
calls-Answer too_little s t (Some (Err Memory) ∷ rs) e (u, h, k) = ended-None u t rs h.0.2.2 k
calls-Answer too_little s t (Some (Err WorkLimit) ∷ rs) (inl e) (u, h, k) = absurd (cc (sym e ∙ h.0.0.0))
calls-Answer too_little s t (Some (Err WorkLimit) ∷ rs) (inr l) (u, h, k) = (l, ended-None u t rs h.0.2.2 k)

-- No call increases the work that is left.
calls-left : (s t : RemainingAnswersAndWork) (rs : List WorkLimitedNextResult) → NextCallsYieldWithinWork s rs t → t.left ≤ s.left
calls-left s t [] e = subst (λ (x : RemainingAnswersAndWork). t.left ≤ x.left) e (omega arith)
calls-left s t (r ∷ rs) (u, h, k) = let less : t.left ≤ u.left = calls-left u t rs k in let fewer : u.left ≤ s.left = h.1 in omega (arith, less, fewer)

pub searches-ResultsAreMatchesWithinWork : SearchesReturnMatchesWithinWork
searches-ResultsAreMatchesWithinWork tree text start per_unit work it t rs y k = (
  subst (λ ms. ResultsAreMatchesWithinWork (work < enough_work_for_text per_unit text) ms rs) y.answers (calls-Answer _ it t rs (by (leb_tells (enough_work_for_text per_unit text) work)) k),
  subst (λ n. t.left ≤ n) y.left (calls-left it t rs k),
)
  where
    by : ((nat_le (enough_work_for_text per_unit text) work ≡ true) × (enough_work_for_text per_unit text ≤ work)) ⊎ ((nat_le (enough_work_for_text per_unit text) work ≡ false) × (work < enough_work_for_text per_unit text))
        → (it.enough ≡ true) ⊎ (work < enough_work_for_text per_unit text)
    by (inl (e, l)) = inl (y.enough l)
    by (inr (e, l)) = inr l

-- ---- The cost of calls

module _ {P : Type 0} (costs : WorkCosts) (tree_of : P → Tree) (text_of : P → Text) (failures_of : P → Failures) where
  -- If no call returns an error, the calls take exactly their costs.
  calls-spent : (s t : WorkMatchesView P) (rs : List WorkLimitedNextResult) → NextCallsYieldAtCost costs tree_of text_of failures_of s rs t
      → Each IsNoError rs → (cost : ℕ) × NextCallsYieldAtTotalCost costs tree_of text_of failures_of s rs cost t × (s.left ≡ cost + t.left)
  calls-spent s t [] h n = (0, (h, refl), (let same : s.left ≡ t.left = ap (λ (v : WorkMatchesView P). v.left) (sym h) in omega (arith, same)))
  calls-spent s t (None ∷ rs) (u, h, k) n =
      let cost = h.1 in
      let later = calls-spent u t rs k n.1 in
      (cost.0 + later.0, (u, cost.0, later.0, h, cost.1, later.1, refl), (let first = cost.2 in let rest = later.2 in omega (arith, first, rest)))
  calls-spent s t (Some (Ok m) ∷ rs) (u, h, k) n =
      let cost = h.1 in
      let later = calls-spent u t rs k n.1 in
      (cost.0 + later.0, (u, cost.0, later.0, h, cost.1, later.1, refl), (let first = cost.2 in let rest = later.2 in omega (arith, first, rest)))
  calls-spent s t (Some (Err e) ∷ rs) h n = absurd n.0

  -- If the work is enough and no allocation fails, no call returns an error.
  no-error : (s t : WorkMatchesView P) (rs : List WorkLimitedNextResult) → s.enough ≡ true → NextCallsYieldAtCost costs tree_of text_of failures_of s rs t
      → Each IsNoAllocationFailure rs → Each IsNoError rs
  no-error s t [] e h n = tt
  no-error s t (None ∷ rs) e (u, h, k) n = (tt, no-error u t rs (h.0.0.2 e) k n.1)
  no-error s t (Some (Ok m) ∷ rs) e (u, h, k) n = (tt, no-error u t rs (h.0.0.4 e) k n.1)
  no-error s t (Some (Err Memory) ∷ rs) e h n = absurd n.0
  no-error s t (Some (Err WorkLimit) ∷ rs) e (u, h, k) n = absurd (cc (sym e ∙ h.0.0.0.0))

  pub searches-cost : CallCostsAreWorkSpent costs tree_of text_of failures_of
  searches-cost tree text start per_unit work it t rs y big k n =
      let all = calls-spent it t rs k (no-error it t rs (y.enough big) k n) in
      (all.0, all.1, sym y.left ∙ all.2)

  calls-within : (s t : WorkMatchesView P) (rs : List WorkLimitedNextResult) → NextCallsYieldAtCost costs tree_of text_of failures_of s rs t
      → NextCallsYieldWithinWork (without_costs s) rs (without_costs t)
  calls-within s t [] e = ap without_costs e
  calls-within s t (r ∷ rs) (u, h, k) = (without_costs u, h.0, calls-within u t rs k)

  pub calls-return : CallsWithinWorkReturnMatches costs tree_of text_of failures_of
  calls-return it t rs k =
      let within = calls-within it t rs k in
      (calls-Answer (Unit {0}) (without_costs it) (without_costs t) rs (inr tt) within, calls-left (without_costs it) (without_costs t) rs within, calls-spent it t rs k)

-- ---- Sufficient work

-- A work bound of a program is the bound of a pattern's program if both are equal.
pub bound-came : {X : Type 0} (of : X → Tree) (program own : X) (bound : WorkBound) → TreeHasWorkBound (of program) bound → program ≡ own → TreeHasWorkBound (of own) bound
bound-came of program own bound is same = subst (λ p. TreeHasWorkBound (of p) bound) same is

-- An equal program has only simple lookarounds, and no backreference, too.
pub plain-came : {X : Type 0} (of : X → Tree) (program own : X) → HasOnlySimpleLookarounds (of program) → program ≡ own → HasOnlySimpleLookarounds (of own)
plain-came of program own is same = subst (λ p. HasOnlySimpleLookarounds (of p)) same is

-- The pattern is unbounded because its 16-bit program is, or else its byte program is.
module _ {X : Type 0} (re : Regex) (r : Result X Unbounded) (e : Unbounded) (is : IsErrAnd r (λ f. f ≡ e)) where
  handed-on : (P : Unbounded → Type 0) → P e → IfErr r P
  handed-on P p = by r is
    where
      by : (r : Result X Unbounded) → IsErrAnd r (λ f. f ≡ e) → IfErr r P
      by (Ok x) h = absurd h
      by (Err f) h = subst P (sym h) p

  pub units-unbounded : (tree : Tree) → tree ≡ tree_for_16_bit_units re → IsReasonForUnboundedness tree e → IfErr r (IsPatternUnboundedBy re)
  units-unbounded tree same refused = handed-on (IsPatternUnboundedBy re) (inl (subst (λ t. IsReasonForUnboundedness t e) same refused))

  pub bytes-unbounded : (tree : Tree) → tree ≡ tree_for_byte_units re → HasOnlySimpleLookarounds (tree_for_16_bit_units re) → IsReasonForUnboundedness tree e → IfErr r (IsPatternUnboundedBy re)
  bytes-unbounded tree same plain refused = handed-on (IsPatternUnboundedBy re) (inr (plain, subst (λ t. IsReasonForUnboundedness t e) same refused))

-- Either number is at most the higher one.
pub max_of_two-left : (a b : ℕ) → a ≤ max_of_two a b
max_of_two-left a b = by (nat_lt a b) refl
  where
    by : (t : Bool) → nat_lt a b ≡ t → a ≤ (if t then b else a)
    by true e = let less : a < b = ltb-true a b e in omega (arith, less)
    by false e = omega arith

pub max_of_two-right : (a b : ℕ) → b ≤ max_of_two a b
max_of_two-right a b = by (nat_lt a b) refl
  where
    by : (t : Bool) → nat_lt a b ≡ t → b ≤ (if t then b else a)
    by true e = omega arith
    by false e = ltb-false a b e

-- Matches that are yielded within a bound are yielded within a higher one.
more-Yields : {tree : Tree} {text : Text} {few many work start : ℕ} {it : RemainingAnswersAndWork} → few ≤ many → YieldsMatchesIfWorkSuffices tree text start few work it
    → YieldsMatchesIfWorkSuffices tree text start many work it
more-Yields {tree} {text} {few} {many} {work} {start} {it} l y = record {
  answers = y.answers;
  unlimited = y.unlimited;
  text_end = y.text_end;
  left = y.left;
  enough = λ e. let less : enough_work_for_text few text ≤ enough_work_for_text many text = mul-le-mul_right (units text + 1) l in y.enough (omega (arith, less, e));
}

-- The same holds for a bounded pattern and the program of one of its trees.
pub bound-Yields : {b : BoundedView} {own : Tree} {few many work start : ℕ} {it : RemainingAnswersAndWork}
    (of : Regex → Tree) (re : Regex) (text_of : Bool → Text) → few ≤ many → record { re = re; per_unit = many } ≡ b → own ≡ of re
    → YieldsMatchesIfWorkSuffices own (text_of own.flags.unicode) start few work it
    → YieldsMatchesIfWorkSuffices (of b.re) (text_of (of b.re).flags.unicode) start b.per_unit work it
bound-Yields {b} {own} {few} {many} {work} {start} {it} of re text_of l view same y =
    subst (λ (v : BoundedView). YieldsMatchesIfWorkSuffices (of v.re) (text_of (of v.re).flags.unicode) start v.per_unit work it) view
    (subst (λ (t : Tree). YieldsMatchesIfWorkSuffices t (text_of t.flags.unicode) start many work it) same (more-Yields l y))

-- A bounded pattern begins its searches as the program of its tree does.
pub bound-Begins : {b : BoundedView} {own its_tree : Tree} {its_text : Text} {failures : Failures} {position : Option ℕ} {many start : ℕ}
    (of : Regex → Tree) (re : Regex) (text_of : Bool → Text) → record { re = re; per_unit = many } ≡ b → own ≡ of re
    → BeginsSearchesForTreeInText own (text_of own.flags.unicode) start its_tree its_text failures position
    → BeginsSearchesForTreeInText (of b.re) (text_of (of b.re).flags.unicode) start its_tree its_text failures position
bound-Begins {its_tree = its_tree} {its_text = its_text} {failures = failures} {position = position} {start = start} of re text_of view same y =
    subst (λ (v : BoundedView). BeginsSearchesForTreeInText (of v.re) (text_of (of v.re).flags.unicode) start its_tree its_text failures position) view
    (subst (λ (t : Tree). BeginsSearchesForTreeInText t (text_of t.flags.unicode) start its_tree its_text failures position) same y)

-- ---- The limit of all bounds

-- Each instruction has at most 64 codes, so the maximum of all of them is at most 64.
codes-each : (xs : List InsnAnalysis) → ((i : ℕ) → i < length xs → (unwrap_or (slice_get xs i) no_insn_analysis).codes ≤ 64) → Each (λ x. x.codes ≤ 64) xs
codes-each [] h = tt
codes-each (x ∷ xs) h = (h 0 (omega arith), codes-each xs (λ i l. h (suc i) (omega (arith, l))))

codes-most : (xs : List InsnAnalysis) (most : ℕ) → most ≤ 64 → Each (λ x. x.codes ≤ 64) xs → fold (λ most x. max most x.codes) most xs ≤ 64
codes-most [] most l h = l
codes-most (x ∷ xs) most l h = let few : x.codes ≤ 64 = h.0 in codes-most xs (max most x.codes) (omega (arith, l, few)) h.1

codes-few : (t : MemoAnalysis) → HasDisjointCodes t → most_memo_codes_per_insn t ≤ 64
codes-few t h = codes-most t.lines.items 0 (omega arith) (codes-each t.lines.items (λ i l. subst (λ n. n ≤ 64) (h.counted i l) (h.few i)))

bound-limited : (tree : Tree) (bound : WorkBound) → TreeHasWorkBound tree bound → bound.per_unit ≤ 64 * (64 * program_size (compiled tree))
bound-limited tree bound is = ∥∥₁_elim is (Prim.hlevel props) (λ (b : IsWorkBoundOfTree tree bound).
    let size = program_size (compiled tree) in
    let codes = most_memo_codes_per_insn (arc_value bound.memo_analysis) in
    let few : size * codes ≤ size * 64 = mul-le-mul_left size (codes-few (arc_value bound.memo_analysis) b.has.memo_analysis.coded) in
    let all : bound.per_unit ≤ 64 * (size * codes) = b.few in
    omega (arith, few, all))

max_of_two-most : (a b m n : ℕ) → a ≤ 64 * (64 * m) → b ≤ 64 * (64 * n) → max_of_two a b ≤ 64 * (64 * max_of_two m n)
max_of_two-most a b m n l k = by (nat_lt a b)
  where
    by : (t : Bool) → (if t then b else a) ≤ 64 * (64 * max_of_two m n)
    by true = let more : n ≤ max_of_two m n = max_of_two-right m n in omega (arith, k, more)
    by false = let more : m ≤ max_of_two m n = max_of_two-left m n in omega (arith, l, more)

pub bounds-limited : WorkPerUnitLimitSuffices
bounds-limited re per_unit (bytes, units', are, is) =
    let least : per_unit ≤ work_per_unit_limit re =
    subst (λ n. n ≤ work_per_unit_limit re) (sym is)
    (max_of_two-most bytes.per_unit units'.per_unit (program_size (compiled (tree_for_byte_units re))) (program_size (compiled (tree_for_16_bit_units re)))
    (bound-limited (tree_for_byte_units re) bytes are.bound_for_bytes) (bound-limited (tree_for_16_bit_units re) units' are.bound_for_units)) in
    (least, λ text. mul-le-mul_right (units text + 1) least)
