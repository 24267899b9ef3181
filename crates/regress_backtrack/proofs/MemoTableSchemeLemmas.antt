-- A key of a memo table decides what its threads find, and a table without failures is right.
use Rattle.std.proofs.Common.{◌≡◌, ◌<◌, ◌^◌, ℕ, Bool, List, Option, Some, None, true, false, refl, sym, subst}
use Rattle.std.specs.Prelude.{IsSome}
use Rattle.std.proofs.lemmas.Bool.{both_ways}
use Rattle.regex_meaning.specs.Text.{Text, Direction}
use Rattle.regex_meaning.specs.CodeUnitOffsets.{HasRisingPlaceOffsets, units}
use Rattle.regex_meaning.specs.CompilationRelation.{Program}
use Rattle.regress_machine.specs.Machine.{State, Thread, Found, search}
use Rattle.regress_machine.specs.ThreadSimulation.{AllFindNothing}
use Rattle.regress_memo.specs.Liveness.{Liveness, IsLivenessFor, Agree, outermost, ReadsAsBytes}
use Rattle.regress_memo.specs.ThreadBisimulation.{AlikeThreads, AlikeEnds, AlikeAnswers}
use Rattle.regress_memo.specs.MemoSearch.{Key, KeyStandsFor, FindEnd}
use Rattle.regress_memo.proofs.FailingThreadLists.{row-ends, row-alone, row-shared, same-answers}
use Rattle.regress_memo.proofs.LivenessLemmas.{rows-alike}
use Rattle.regress_memo.specs.declared.analysis_result.MemoAnalysis.{MemoAnalysis}
use Rattle.regress_memo.specs.AnalysisAsPotentials.{analysis_as_liveness}
use Rattle.regress_memo.specs.CheckedAnalysis.{IsAnalysisOf}
use Rattle.regress_memo.proofs.CheckedAnalysisLemmas.{ledgers-serve}
use Rattle.regress_memo.specs.MemoContractView.{MemoView}
use Rattle.regress_memo.specs.Laws.{analysis_keys}
use Rattle.regress_memo.specs.MemoContents.{has_failure, has_success, IsEmptyMemo}
use Rattle.regress_backtrack.specs.FailureMemo.{AreFailuresSoundIn, AreEndsSoundIn, KeyStandsForThreads, FindNoEnd, KeyFails, KeyFindsEnd}
use Rattle.regress_backtrack.proofs.StatePreservationLemmas.{keeps-state}
use Rattle.regress_backtrack.proofs.CharLoopKeyLemmas.{of-run}
use Rattle.regress_backtrack.specs.FailuresInMemoTable.{scheme_of}

-- If threads find an end, threads that agree with them find one.
module _ (program : Program) (text : Text) (a : Liveness) (acc : IsLivenessFor program text a) (d : Direction) where
  some-ends : (x y : Option State) → AlikeEnds (Agree a (units text) outermost d) x y → IsSome x → IsSome y
  some-ends None y h i = cc
  some-ends (Some x) None h i = absurd h
  some-ends (Some x) (Some y) h i = refl

  end-shared : (ts us : List Thread) → AlikeThreads (Agree a (units text) outermost d) ts us → FindEnd program text d ts → FindEnd program text d us
  end-shared ts us h some turns g q = by (search program text turns d ts) refl
    where
      by : (r : Option Found) → search program text turns d ts ≡ r → IsSome g.end
      by (Some f) e = some-ends f.end g.end (same-answers program text a acc d turns ts us f g h e q).1 (some turns f e)
      by None e =
          absurd
          (subst (λ o. AlikeAnswers (Agree a (units text) outermost d) None o) q
          (subst (λ o. AlikeAnswers (Agree a (units text) outermost d) o (search program text turns d us)) e (rows-alike program text a acc turns outermost d ts us h)))

-- The analysis gives sound terms of the memo, and its keys decide what threads find.
module _ (program : Program) (text : Text) (t : MemoAnalysis) (of : IsAnalysisOf program t) (is : HasRisingPlaceOffsets text) (bytes : ReadsAsBytes program text)
    (fits : units text < 2 ^ 63) where
  -- If threads of a key find no end, the key fails.
  all-fail : (d : Direction) (k : Key) (ts : List Thread) → KeyStandsForThreads program text (scheme_of t) d k ts → FindNoEnd program text d ts
      → KeyFails program text (scheme_of t) k
  all-fail d k ts stands found e us other turns f h =
      let serves = ledgers-serve program t of text is bytes fits in
      let keys = serves.serves.keys in
      let a = analysis_as_liveness t in
      let all = analysis_keys program text t in
      let same : d ≡ e = keys.one_way d e k ts us stands other in
      let alike = keys.alike e k ts us (subst (λ x. KeyStandsFor program text a all x k ts) same stands) other in
      let nothing = subst (λ x. AllFindNothing program text x ts) same (row-alone program text d ts found) in
      row-ends program text e turns us f (row-shared program text a serves.plan.liveness e ts us alike nothing) h

  -- If threads of a key find an end, the key finds an end.
  all-find : (d : Direction) (k : Key) (ts : List Thread) → KeyStandsForThreads program text (scheme_of t) d k ts → FindEnd program text d ts
      → KeyFindsEnd program text (scheme_of t) k
  all-find d k ts stands found e us other =
      let serves = ledgers-serve program t of text is bytes fits in
      let keys = serves.serves.keys in
      let a = analysis_as_liveness t in
      let all = analysis_keys program text t in
      let same : d ≡ e = keys.one_way d e k ts us stands other in
      let alike = keys.alike e k ts us (subst (λ x. KeyStandsFor program text a all x k ts) same stands) other in
      end-shared program text a serves.plan.liveness e ts us alike (subst (λ x. FindEnd program text x ts) same found)

  pub begun-right : (failed : Key → Bool) → ((k : Key) → failed k ≡ false) → AreFailuresSoundIn program text (scheme_of t) failed
  begun-right failed none = record {
    shared = all-fail;
    end_shared = all-find;
    runs = λ d k ts r.
        let own = of-run program text t of is bytes fits d k ts r in
        record {
          fails = (λ found. all-fail d k ts own found, λ fails. fails d ts own);
          finds = (λ found. all-find d k ts own found, λ finds. finds d ts own);
        };
    keeps = λ s keeps within. keeps-state program text t of (ledgers-serve program t of text is bytes fits).plan.liveness s keeps within;
    fails = λ k h. absurd (both_ways (failed k) (none k) h);
  }

  -- An empty memo is sound.
  pub memory-right : (m : MemoView) (places : ℕ) (wanted : Bool) → IsEmptyMemo t places wanted m
      → AreFailuresSoundIn program text (scheme_of m.memo_analysis) (has_failure m) × AreEndsSoundIn program text (scheme_of m.memo_analysis) (has_success m)
  memory-right m places wanted b = (
    subst (λ (x : MemoAnalysis). AreFailuresSoundIn program text (scheme_of x) (has_failure m)) (sym b.memo_analysis) (begun-right (has_failure m) b.failures),
    record { finds = λ k h. absurd (both_ways (has_success m k) (b.ends k) h) },
  )
