-- Loop facts that flow along an edge make the edge consistent for the liveness analysis.
use Rattle.std.proofs.Common.{◌≡◌, ◌<◌, ◌≤◌, ℕ, zero, suc, ◌+◌, Bool, true, false, ◌&&◌, ◌||◌, List, [], ◌∷◌, Option, Some, refl, ap, ◌∙◌, sym, subst, arith, length, get_or, slice_get, if◌then◌else◌}
use Rattle.std.specs.Prelude.{◌==◌, nat_le}
use mathlib.Core.Logic.{inl, inr}
use Rattle.std.proofs.lemmas.Bool.{cases_lt, eq-eqb, eqb-true, le-leb, lt-leb, and_parts, or_left, or_right}
use Rattle.std.proofs.lemmas.Option.{slice_get-get_or, slice_get_within}
use Rattle.regex_meaning.specs.Text.{rightwards, leftwards}
use Rattle.regress_memo.specs.declared.analysis_result.EnclosingLoop.{EnclosingLoop}
use Rattle.regress_memo.specs.declared.analysis_result.InsnAnalysis.{InsnAnalysis}
use Rattle.regress_memo.specs.declared.analysis_result.MemoAnalysis.{MemoAnalysis}
use Rattle.regress_memo.specs.declared.analysis_result.LoopProgressFact.{LoopProgressFact}
use Rattle.regress_memo.specs.declared.analysis_result.LoopProgressFact.TheVariants.{Inside, Moved, Empty}
use Rattle.regress_memo.specs.AnalysisAsPotentials.{insn_analysis_of, enclosing_loops_of, enclosing_loop_has_fact, states_loop_fact, knows_iteration_reads, groups_stay_unchanged_from}
use Rattle.regress_memo.specs.AnalysisChecks.{is_entered, LoopFactsFlow, AllLoopFactsFlow, IsConsistentFlow}

-- ---- Rows that state a fact

pub holds-there : (said : LoopProgressFact) (l : ℕ) (rows : List EnclosingLoop) (k : ℕ) (r : EnclosingLoop) → slice_get rows k ≡ Some r → r.id ≡ l → enclosing_loop_has_fact said r ≡ true
    → states_loop_fact said l rows ≡ true
holds-there said l [] k r there is h = cc
holds-there said l (x ∷ rows) zero r there is h =
    let same : x ≡ r = cc in
    or_left ((x.id == l) && enclosing_loop_has_fact said x) (states_loop_fact said l rows)
    (subst (λ (y : EnclosingLoop). ((y.id == l) && enclosing_loop_has_fact said y) ≡ true) (sym same) (ap (λ b. b && enclosing_loop_has_fact said r) (eq-eqb r.id l is) ∙ h))
holds-there said l (x ∷ rows) (suc k) r there is h =
    or_right ((x.id == l) && enclosing_loop_has_fact said x) (states_loop_fact said l rows) (holds-there said l rows k r there is h)

pub holds-more : (said : LoopProgressFact) (l : ℕ) (r : EnclosingLoop) (rows : List EnclosingLoop) → states_loop_fact said l rows ≡ true → states_loop_fact said l (r ∷ rows) ≡ true
holds-more said l r rows h = or_right ((r.id == l) && enclosing_loop_has_fact said r) (states_loop_fact said l rows) h

-- One of the rows is of the loop `l` and states the fact.
pub record Says (said : LoopProgressFact) (l : ℕ) (rows : List EnclosingLoop) : Type 0 where
  pub k : ℕ
  pub row : EnclosingLoop
  pub there : slice_get rows k ≡ Some row
  pub is : row.id ≡ l
  pub says_it : enclosing_loop_has_fact said row ≡ true

pub holds-in : (said : LoopProgressFact) (l : ℕ) (rows : List EnclosingLoop) → states_loop_fact said l rows ≡ true → Says said l rows
holds-in said l [] h = cc
holds-in said l (x ∷ rows) h = by (λ k. holds-in said l rows k) ((x.id == l) && enclosing_loop_has_fact said x) refl
  where
    by : (states_loop_fact said l rows ≡ true → Says said l rows) → (b : Bool) → ((x.id == l) && enclosing_loop_has_fact said x) ≡ b → Says said l (x ∷ rows)
    by on true e =
        let both = and_parts (x.id == l) (enclosing_loop_has_fact said x) e in
        record { k = 0; row = x; there = refl; is = eqb-true x.id l both.0; says_it = both.1 }
    by on false e =
        let rest : states_loop_fact said l rows ≡ true = sym (ap (λ b. b || states_loop_fact said l rows) e) ∙ h in
        let found = on rest in
        record { k = suc found.k; row = found.row; there = found.there; is = found.is; says_it = found.says_it }

-- ---- Facts of each row

module _ {A : Type 0} (P : A → Type 0) (rows : List A) (n : ℕ) (before : (k : ℕ) → k < n → (row : A) → slice_get rows k ≡ Some row → P row) where
  pub rows-more : (d : A) → n < length rows → P (get_or rows n d) → (k : ℕ) → k < n + 1 → (row : A) → slice_get rows k ≡ Some row → P row
  rows-more d less here k below row there = elim (cases_lt k n) [
    | inl early ↦ before k early row there
    | inr late ↦
        let is : n ≡ k = omega (arith, below, late) in
        let read : slice_get rows k ≡ Some (get_or rows n d) = ap (λ i. slice_get rows i) (sym is) ∙ slice_get-get_or rows n d less in
        let same : get_or rows n d ≡ row = cc in
        subst P same here
  ]

  pub rows-all : (all : List A) → rows ≡ all → length rows ≤ n → (k : ℕ) (row : A) → slice_get all k ≡ Some row → P row
  rows-all all same long k row there =
      let here : slice_get rows k ≡ Some row = ap (λ xs. slice_get xs k) same ∙ there in
      let within : k < length rows = slice_get_within rows k row here in
      before k (omega (arith, within, long)) row here

-- ---- Facts that flow from an instruction to another one

pub below-from : (a b l : ℕ) → a ≤ b → nat_le a l ≡ false → nat_le b l ≡ false
below-from a b l le h = elim (cases_lt l a) [
  | inl less ↦ lt-leb b l (omega (arith, less, le))
  | inr ge ↦ let e : nat_le a l ≡ true = le-leb a l ge in cc
]

module _ (t : MemoAnalysis) (reads : Bool) (entered : Option ℕ) (ip next : ℕ) (rows : AllLoopFactsFlow t reads entered ip next) where
  -- Loop facts flow to the row that states a fact of a loop.
  at-row : (said : LoopProgressFact) (l : ℕ) (found : Says said l (enclosing_loops_of t next)) → LoopFactsFlow t reads entered ip found.row
  at-row said l found = rows found.k found.row found.there

  not-entered : (l i : ℕ) → i ≡ l → is_entered entered l ≡ false → is_entered entered i ≡ false
  not-entered l i is h = ap (λ j. is_entered entered j) is ∙ h

  fresh : (l : ℕ) → is_entered entered l ≡ true → (b : Bool) → states_loop_fact Moved l (enclosing_loops_of t next) ≡ b → b ≡ false
  fresh l h false e = refl
  fresh l h true e =
      let found = holds-in Moved l (enclosing_loops_of t next) e in
      let not_moved : found.row.moved ≡ false = (at-row Moved l found).fresh (ap (λ j. is_entered entered j) found.is ∙ h) in
      let moved : found.row.moved ≡ true = found.says_it in
      cc

  pub leads-on : (insn_analysis_of t ip).from ≤ (insn_analysis_of t next).from → (insn_analysis_of t ip).forward ≡ (insn_analysis_of t next).forward
      → (groups_stay_unchanged_from t ip ≡ true → groups_stay_unchanged_from t next ≡ true) → IsConsistentFlow t reads entered ip next
  leads-on from forward silent = record {
    liveness = record {
      start = λ id h b. cc;
      inside = λ l h e.
          let found = holds-in Inside l (enclosing_loops_of t next) h in
          subst (λ i. states_loop_fact Inside i (enclosing_loops_of t ip) ≡ true) found.is
          ((at-row Inside l found).inside (not-entered l found.row.id found.is e));
      moved = λ l h e r.
          let found = holds-in Moved l (enclosing_loops_of t next) h in
          subst (λ i. states_loop_fact Moved i (enclosing_loops_of t ip) ≡ true) found.is
          ((at-row Moved l found).moved (not-entered l found.row.id found.is e) r found.says_it);
      empty = λ l h e r.
          let found = holds-in Empty l (enclosing_loops_of t next) h in
          subst (λ i. knows_iteration_reads i (enclosing_loops_of t ip) ≡ true) found.is
          ((at-row Empty l found).empty (not-entered l found.row.id found.is e) r found.says_it);
      fresh = λ l h. fresh l h (states_loop_fact Moved l (enclosing_loops_of t next)) refl;
      writes = λ l h. below-from (insn_analysis_of t ip).from (insn_analysis_of t next).from l from h;
    };
    way = ap (λ f. if f then rightwards else leftwards) (sym forward);
    silent = silent;
  }

  -- The flow between two instructions is consistent if the given lines of both fit each other.
  pub lines-lead : (here there : InsnAnalysis) → here ≡ insn_analysis_of t ip → there ≡ insn_analysis_of t next → here.from ≤ there.from → here.forward ≡ there.forward
      → (here.silent ≡ true → there.silent ≡ true) → IsConsistentFlow t reads entered ip next
  lines-lead here there is_here is_there from forward silent =
      let from_here = ap (λ (x : InsnAnalysis). x.from) is_here in
      let from_there = ap (λ (x : InsnAnalysis). x.from) is_there in
      leads-on (omega (arith, from, from_here, from_there))
      (sym (ap (λ (x : InsnAnalysis). x.forward) is_here) ∙ forward ∙ ap (λ (x : InsnAnalysis). x.forward) is_there)
      (λ h. sym (ap (λ (x : InsnAnalysis). x.silent) is_there) ∙ silent (ap (λ (x : InsnAnalysis). x.silent) is_here ∙ h))
