use Rattle.std.proofs.Common.{◌≡◌, ◌≤◌, ◌<◌, ◌+◌, ◌*◌, ◌-◌, true, false, ap, sym, subst, ◌∙◌, arith}
use Rattle.std.specs.Arc.{arc_value}
use Rattle.std.proofs.Math.Logic.{∥∥₁_map, ∥∥₁_elim}
use Rattle.std.proofs.Props.{props}
use Rattle.std.proofs.lemmas.Bool.{leb-true}
use Rattle.regex_pattern_front.specs.AstToSpecTree.{tree_of}
use Rattle.regress_bounded.specs.WorkBoundForAllMatches.{TreeHasWorkBound}
use Rattle.regress_bounded.proofs.StagesLemmas.{same-bound, reserve-suffices}
use Rattle.regress_bounded.proofs.executor.BoundedExecutor.from_first_stage.Goals as goal

pub invariant_of-result : goal.invariant_of-result
invariant_of-result g c =
    let tree = tree_of c.args.first.executor.search.program.regex in
    let text = g.Input.InputIndexer.text c.args.first.executor.search.searched.input in
    let given = c.requires.given in
    record {
      bounded = same-bound tree c.args.bound.now c.in_ok-bound.bound c.in_ok-bound.ensures.analysis c.in_ok-bound.ensures.per_unit c.requires.bound;
      program = λ x none. absurd (let no : ⊥ = cc in no);
      text = λ x none. absurd (let no : ⊥ = cc in no);
      sum = let left = c.requires.left in let fits = c.ranges.work.fits in omega (arith, left, given, fits);
      suffices = λ e. reserve-suffices tree c.args.bound.now c.in_ok-bound.bound c.in_ok-bound.ensures.analysis c.requires.bound text c.args.unit_count c.args.work c.args.given c.requires.unit_count given
          (leb-true (c.per_unit.result * (c.args.unit_count + 1)) c.args.work (sym c.is_work_enough_for_places-enough.ensures ∙ e)) c.per_unit.ensures;
      all_given = λ some.
          let lacking = c.saturating_sub-lacking.ensures in let full = c.full_work_of_first_stage.ensures in omega (arith, some, lacking, full, given);
      spent = λ e. absurd (let no : ⊥ = cc in no);
    }
