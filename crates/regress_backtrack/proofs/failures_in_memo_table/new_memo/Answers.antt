use Rattle.std.proofs.Common.{◌≤◌, ◌*◌, ◌^◌, ◌+◌, false, sym, subst}
use Rattle.std.specs.Prelude.{IfSome, MatchOption}
use Rattle.regex_meaning.specs.CompilationRelation.{Program}
use Rattle.regress_memo.specs.Successors.{DeclaredInsnsEqualProgramInsns}
use Rattle.regress_memo.specs.CheckedAnalysis.{IsAnalysisOf}
use Rattle.regress_memo.specs.MemoContents.{IsEmptyMemo, has_failure, has_success}
use Rattle.regress_search.specs.TreePlanAndText.{program_of}
use Rattle.regress_backtrack.specs.FailuresInMemoTable.{scheme_of}
use Rattle.regress_backtrack.specs.FailureMemo.{AreFailuresSoundIn, AreEndsSoundIn}
use Rattle.regress_backtrack.proofs.MemoTableSchemeLemmas.{memory-right}
use Rattle.regress_backtrack.proofs.failures_in_memo_table.new_memo.Goals as goal

pub returns : goal.returns
returns g c =
    let it = c.args.context.now in
    let w = g.W.SearchContext.searching it in
    let t = c.in-Some.memo_analysis in
    let of : IsAnalysisOf (program_of w) t =
    subst (λ o. IfSome o (λ memo_analysis. (program : Program) → DeclaredInsnsEqualProgramInsns program c.args.insns.now → IsAnalysisOf program memo_analysis)) c.in-Some.is
    c.in_ok-memo_analysis.ensures.of (program_of w) (sym c.requires) in
    let places = c.text_end-places.result + 1 in
    let wanted = c.reads_recorded_ends-records_ends.result in
    let begun = subst (λ o. MatchOption o (2 ^ 64 ≤ t.codes * places) (IsEmptyMemo t places wanted)) c.in-Some-2.is c.in_ok-memo.ensures in
    subst (λ m. AreFailuresSoundIn (program_of w) w.text (scheme_of m.memo_analysis) (has_failure m) × AreEndsSoundIn (program_of w) w.text (scheme_of m.memo_analysis) (has_success m))
    (sym c.in_ok-memo-2.ensures.ok)
    (memory-right (program_of w) w.text t of (g.met.W.SearchContext.is_text it) (λ ip x there l. (g.met.W.SearchContext.literals it ip x there l).reads)
    (g.met.W.SearchContext.offsets_fit it) c.in-Some-2.memo places wanted begun)
