use Rattle.std.proofs.Common.{◌≡◌, ◌≤◌, ◌+◌, true, false, ap, sym, subst, ◌∙◌, arith}
use Rattle.std.proofs.lemmas.Bool.{leb-true}
use Rattle.regex_pattern_front.specs.AstToSpecTree.{tree_of}
use Rattle.regress_input.proofs.BoundaryPositions.{boundary_inside}
use Rattle.regress_machine.specs.SearchFindsFirstOutcomeAtPlace.{TreeProgramCanSearchText}
use Rattle.regress_program.specs.CompilationOfTreesAsFunction.{compiled}
use Rattle.regress_search.specs.MatchesWithinWork.{least_offset_after_match}
use Rattle.regress_search.proofs.SearchableProgramLemmas.{can-search}
use Rattle.regress_bounded.specs.CostsOfAttempts.{AttemptCosts, failures_of}
use Rattle.regress_bounded.specs.WorkOfSuccessiveAttempts.{AttemptsLeaveEnoughWork}
use Rattle.regress_search.proofs.SearchCostLemmas.{stops-out, stops-without}
use Rattle.regress_bounded.proofs.AttemptResultLemmas.{exact-cost, found-inside, more-than-left, none-left, on-by-none, on-by-found, never-wanted}
use Rattle.regress_bounded.proofs.memoizing_executor.MemoizingExecutor.attempt.Goals.{then-self, else-self, in-Work, in_default, Start}
use Rattle.regress_bounded.proofs.memoizing_executor.MemoizingExecutor.attempt.Given.{Over}
use Rattle.regress_bounded.proofs.memoizing_executor.MemoizingExecutor.attempt.Goals as goal

-- how the tree is searched
can : (g : Over) (c : Start g)
    → TreeProgramCanSearchText (compiled (tree_of c.args.self.now.searched.program.now)) (tree_of c.args.self.now.searched.program.now) (g.Input.InputIndexer.text c.args.self.now.searched.input)
can g c =
    let searched = c.args.self.now.searched in
    can-search (tree_of searched.program.now) (g.Input.InputIndexer.text searched.input) searched.well_formed (g.met.Input.InputIndexer.is_text searched.input) searched.unicode
    (λ reads. (searched.bytes reads).reads)

-- ---- An end is found

pub least_offset_after_match-self-requires : goal.least_offset_after_match-self-requires
least_offset_after_match-self-requires g c =
    let self = c.args.self.now in
    let inside = found-inside g.Input.Position.PositionType.offset (can g (goal.at.least_offset_after_match-self-requires g c).Start) (g.Input.Position.PositionType.offset c.args.pos) c.requires self.progress c.preferred_final_state.new.progress c.in-Ok-Some.field-0-is self.right c.in-Ok-Some.ensures.runs in
    let short = g.met.Input.InputIndexer.offsets_fit self.searched.input in
    let end_is = c.to_offset.ensures in
    omega (arith, inside, short, end_is)

pub invariant_of-self : goal.invariant_of-self
invariant_of-self g c = record {
  right = c.preferred_final_state.ensures.sound;
  walked = λ on.
      let turn : (c.args.self.now.enough ≡ true) × (c.args.self.now.ahead ≤ g.Input.Position.PositionType.offset c.args.pos) = elim c.if-self.branch [
        | then-self w ↦ (
          w.if-self.true,
          let e = sym w.self-is ∙ on in let at_is = c.to_offset-at.ensures in omega (arith, leb-true c.args.self.now.ahead c.to_offset-at.result e, at_is),
        )
        | else-self w ↦ absurd (let never : false ≡ true = sym w.if-self.false ∙ sym w.self-is ∙ on in let no : ⊥ = cc in no)
      ] in
      let end_is = ap (λ n. least_offset_after_match n c.to_offset.result) c.to_offset-at.ensures ∙ ap (least_offset_after_match (g.Input.Position.PositionType.offset c.args.pos)) c.to_offset.ensures in
      subst (AttemptsLeaveEnoughWork (compiled (tree_of c.args.self.now.searched.program.now)) (g.Input.InputIndexer.text c.args.self.now.searched.input) c.preferred_final_state.new.progress) (sym (c.least_offset_after_match-self.ensures ∙ end_is))
      (on-by-found g.Input.Position.PositionType.offset (can g (goal.at.invariant_of-self g c).Start) (g.Input.Position.PositionType.offset c.args.pos) c.requires c.args.self.now.progress c.preferred_final_state.new.progress
      (g.met.Input.InputIndexer.is_text c.args.self.now.searched.input) c.args.self.now.right c.preferred_final_state.ensures.memo_analysis (c.args.self.now.walked turn.0) turn.1
      c.in-Ok-Some.field-0-is c.in-Ok-Some.ensures.runs);
  spent = λ e. absurd (let no : ⊥ = cc in no);
}

-- ---- None is

pub overflow_add-self : goal.overflow_add-self
overflow_add-self g c =
    let input = c.args.self.now.searched.input in
    let inside = boundary_inside (g.Input.InputIndexer.text input) (g.met.Input.InputIndexer.is_text input) (g.Input.Position.PositionType.offset c.args.pos) c.requires in
    let short = g.met.Input.InputIndexer.offsets_fit input in
    let at_is = c.to_offset-at.ensures in
    omega (arith, inside, short, at_is)

pub invariant_of-self-in-Ok-None : goal.invariant_of-self-in-Ok-None
invariant_of-self-in-Ok-None g c = record {
  right = c.preferred_final_state.ensures.sound;
  walked = λ on.
      let turn : (c.args.self.now.enough ≡ true) × (c.args.self.now.ahead ≤ g.Input.Position.PositionType.offset c.args.pos) = elim c.if-self.branch [
        | then-self w ↦ (
          w.if-self.true,
          let e = sym w.self-is ∙ on in let at_is = c.to_offset-at.ensures in omega (arith, leb-true c.args.self.now.ahead c.to_offset-at.result e, at_is),
        )
        | else-self w ↦ absurd (let never : false ≡ true = sym w.if-self.false ∙ sym w.self-is ∙ on in let no : ⊥ = cc in no)
      ] in
      subst (λ n. AttemptsLeaveEnoughWork (compiled (tree_of c.args.self.now.searched.program.now)) (g.Input.InputIndexer.text c.args.self.now.searched.input) c.preferred_final_state.new.progress (n + 1)) (sym c.to_offset-at.ensures)
      (on-by-none g.Input.Position.PositionType.offset (can g (goal.at.invariant_of-self-in-Ok-None g c).Start) (g.Input.Position.PositionType.offset c.args.pos) c.requires c.args.self.now.progress c.preferred_final_state.new.progress
      (g.met.Input.InputIndexer.is_text c.args.self.now.searched.input) c.args.self.now.right c.preferred_final_state.ensures.memo_analysis (c.args.self.now.walked turn.0) turn.1
      c.in-Ok-None.field-0-is c.in-Ok-None.ensures.runs);
  spent = λ e. absurd (let no : ⊥ = cc in no);
}

-- ---- It is given up

pub invariant_of-self-in-Err : goal.invariant_of-self-in-Err
invariant_of-self-in-Err g c =
    let self = c.args.self.now in
    record {
      right = c.preferred_final_state.ensures.sound;
      walked = λ e. absurd (let no : ⊥ = cc in no);
      spent = λ e. elim c.match-matches.branch [
        | in-Work w ↦ none-left g.Input.Position.PositionType.offset (can g (goal.at.invariant_of-self-in-Err g c).Start) (g.Input.Position.PositionType.offset c.args.pos) c.requires self.progress c.preferred_final_state.new.progress c.in-Err.refusal self.right c.in-Err.ensures.runs w.in-Work.is
        | in_default w ↦ absurd (let never : false ≡ true = sym w.self-is ∙ e in let no : ⊥ = cc in no)
      ];
    }

pub returns-after-matches-clause-work : goal.returns-after-matches-clause-work
returns-after-matches-clause-work g c =
    let self = c.args.self.now in
    λ turn. elim c.match-matches.branch [
      | in-Work w ↦ absurd (never-wanted g.Input.Position.PositionType.offset (can g (goal.at.returns-after-matches-clause-work g c).Start) (g.Input.Position.PositionType.offset c.args.pos) c.requires self.progress c.preferred_final_state.new.progress (g.met.Input.InputIndexer.is_text self.searched.input) self.right c.preferred_final_state.ensures.memo_analysis (self.walked turn.is) turn.past
          c.in-Err.refusal c.in-Err.ensures.runs w.in-Work.is)
      | in_default w ↦ (w.self-is, tt)
    ]

-- ---- Costs

pub returns-in-Ok-Some-clause-cost : goal.returns-in-Ok-Some-clause-cost
returns-in-Ok-Some-clause-cost g c =
    exact-cost g.Input.Position.PositionType.offset (can g (goal.at.returns-in-Ok-Some-clause-cost g c).Start) (g.Input.Position.PositionType.offset c.args.pos) c.requires c.args.self.now.progress
    c.preferred_final_state.new.progress c.args.self.now.right c.preferred_final_state.ensures.left _ c.in-Ok-Some.ensures.runs

pub returns-in-Ok-None-clause-cost : goal.returns-in-Ok-None-clause-cost
returns-in-Ok-None-clause-cost g c =
    exact-cost g.Input.Position.PositionType.offset (can g (goal.at.returns-in-Ok-None-clause-cost g c).Start) (g.Input.Position.PositionType.offset c.args.pos) c.requires c.args.self.now.progress
    c.preferred_final_state.new.progress c.args.self.now.right c.preferred_final_state.ensures.left _ c.in-Ok-None.ensures.runs

pub returns-after-matches-clause-cost : goal.returns-after-matches-clause-cost
returns-after-matches-clause-cost g c =
    let self = c.args.self.now in
    let at = g.Input.Position.PositionType.offset c.args.pos in
    let costs = AttemptCosts (tree_of self.searched.program.now) (g.Input.InputIndexer.text self.searched.input) (failures_of self.progress.memo) at in
    let new = c.preferred_final_state.new.progress in
    elim c.match-matches.branch [
      | in-Work w ↦ stops-out costs self.progress.left _ new.left w.self-is
          (more-than-left g.Input.Position.PositionType.offset (can g (goal.at.returns-after-matches-clause-cost g c).Start) at c.requires self.progress new self.right
          c.in-Err.refusal c.in-Err.ensures.runs w.in-Work.is)
      | in_default w ↦ stops-without costs self.progress.left _ new.left w.self-is c.preferred_final_state.ensures.left
    ]
