use Rattle.std.proofs.Common.{◌≡◌, ◌≤◌, ◌^◌, ◌+◌, ◌*◌, false, ap, sym, subst, ◌∙◌, arith}
use Rattle.std.specs.Arc.{arc_value}
use Rattle.std.specs.Prelude.{MatchOption}
use Rattle.std.proofs.Math.Logic.{∥∥₁_map, ∥∥₁_elim}
use Rattle.std.proofs.Props.{props}
use Rattle.regex_meaning.specs.CodeUnitOffsets.{units}
use Rattle.regex_pattern_front.specs.AstToSpecTree.{tree_of}
use Rattle.regress_memo.specs.MemoContents.{IsEmptyMemo}
use Rattle.regress_program.specs.CompilationOfTreesAsFunction.{compiled}
use Rattle.regress_pikevm.proofs.ExecutorTurnLemmas.{reads-literals}
use Rattle.regress_bounded.proofs.AttemptResultLemmas.{begun-right, begun-walked}
use Rattle.regress_bounded.proofs.memoizing_executor.MemoizingExecutor.over.Goals as goal

pub empty_memo_table-requires : goal.empty_memo_table-requires
empty_memo_table-requires g c = ∥∥₁_elim c.requires.bound (Prim.hlevel props) (λ b. b.has.memo_analysis.coded)

pub invariant_of-result : goal.invariant_of-result
invariant_of-result g c =
    let searched = c.args.searched in
    let tree = tree_of searched.program.now in
    let program = compiled tree in
    let text = g.Input.InputIndexer.text searched.input in
    let is = g.met.Input.InputIndexer.is_text searched.input in
    let short = g.met.Input.InputIndexer.offsets_fit searched.input in
    let bytes = reads-literals tree text searched.bytes in
    let t = arc_value c.args.bound.now.memo_analysis in
    let m = c.in-Some.memo in
    let places = c.unit_count-places.result + 1 in
    let begun' : IsEmptyMemo t places false m = subst (λ o. MatchOption o (2 ^ 64 ≤ t.codes * places) (IsEmptyMemo t places false)) c.in-Some.is c.in_ok-memo.ensures in
    let begun : IsEmptyMemo t (units text + 1) false m = subst (λ n. IsEmptyMemo t (n + 1) false m) c.unit_count-places.ensures begun' in
    record {
      right = ∥∥₁_map c.requires.bound (λ b. begun-right program text is bytes short t b.has m begun);
      walked = λ e. ∥∥₁_map c.requires.bound (λ b. begun-walked program text is bytes short t b.has m begun c.args.work (c.requires.suffices e));
      spent = λ e. absurd (let no : ⊥ = cc in no);
    }

pub returns-clause-fresh : goal.returns-clause-fresh
returns-clause-fresh g c = λ ip at code.
    let t = arc_value c.args.bound.now.memo_analysis in
    let places = c.unit_count-places.result + 1 in
    let begun : IsEmptyMemo t places false c.in-Some.memo = subst (λ o. MatchOption o (2 ^ 64 ≤ t.codes * places) (IsEmptyMemo t places false)) c.in-Some.is c.in_ok-memo.ensures in
    begun.failures (record { ip = ip; at = at; code = code })
