use Rattle.std.proofs.Common.{◌≡◌, Some, true, subst}
use Rattle.std.specs.Prelude.{IfSome}
use Rattle.regress_input.specs.CharAndByteReadsFromOffset.{direction_of_forward_flag}
use Rattle.regress_memo.proofs.ThreadListSuccessLemmas.{rows-reach}
use Rattle.regress_search.specs.TreePlanAndText.{program_of}
use Rattle.regress_backtrack.specs.FailureMemo.{record_key_as_spec}
use Rattle.regress_backtrack.specs.MemoizedCharLoops.{DecidesLoopRest}
use Rattle.regress_backtrack.proofs.KnownEndLemmas.{rest-key}
use Rattle.regress_backtrack.proofs.CharLoopTurns.{rows-of, run-with, bounds-inside, class-inside, readable, tested}
use Rattle.regress_backtrack.proofs.MemoizedCharLoopLemmas.{run-over, run-near}
use Rattle.regress_backtrack.proofs.memoized_ends.known_end_of_loop.Goals as goal

pub class_with_number-class-requires : goal.class_with_number-class-requires
class_with_number-class-requires g c = class-inside (rows-of (g.met.W.SearchContext.is_text c.args.context.now) c.requires.run.run c.requires.executable)

pub char_loop_bounds_with_number-requires : goal.char_loop_bounds_with_number-requires
char_loop_bounds_with_number-requires g c = bounds-inside (rows-of (g.met.W.SearchContext.is_text c.args.context.now) c.requires.run.run c.requires.executable)

pub advance_over_class_at_most-near-requires-clause-class : goal.advance_over_class_at_most-near-requires-clause-class
advance_over_class_at_most-near-requires-clause-class g c =
    readable (run-with (g.met.W.SearchContext.is_text c.args.context.now) c.requires.run.run c.requires.executable c.char_loop_bounds_with_number.ensures c.class_with_number-class.ensures.there) c.class_with_number-class.ensures.class
    (g.met.W.SearchContext.literals c.args.context.now)

pub advance_over_class_at_most-near-requires-clause-at : goal.advance_over_class_at_most-near-requires-clause-at
advance_over_class_at_most-near-requires-clause-at g c = (rows-of (g.met.W.SearchContext.is_text c.args.context.now) c.requires.run.run c.requires.executable).boundary

pub rest_is_known_to_find_end-requires-clause-run : goal.rest_is_known_to_find_end-requires-clause-run
rest_is_known_to_find_end-requires-clause-run g c =
    let here = run-with (g.met.W.SearchContext.is_text c.args.context.now) c.requires.run.run c.requires.executable c.char_loop_bounds_with_number.ensures c.class_with_number-class.ensures.there in
    run-over here (c.requires.run.most _ c.char_loop_bounds_with_number.ensures) (g.met.W.SearchContext.offsets_fit c.args.context.now)

pub rest_is_known_to_find_end-requires-clause-class : goal.rest_is_known_to_find_end-requires-clause-class
rest_is_known_to_find_end-requires-clause-class g c =
    readable (run-with (g.met.W.SearchContext.is_text c.args.context.now) c.requires.run.run c.requires.executable c.char_loop_bounds_with_number.ensures c.class_with_number-class.ensures.there) c.class_with_number-class.ensures.class
    (g.met.W.SearchContext.literals c.args.context.now)

pub rest_is_known_to_find_end-requires-clause-at : goal.rest_is_known_to_find_end-requires-clause-at
rest_is_known_to_find_end-requires-clause-at g c =
    let here = run-with (g.met.W.SearchContext.is_text c.args.context.now) c.requires.run.run c.requires.executable c.char_loop_bounds_with_number.ensures c.class_with_number-class.ensures.there in
    let t = tested here in
    (run-near here (c.requires.run.most _ c.char_loop_bounds_with_number.ensures) (g.met.W.SearchContext.offsets_fit c.args.context.now) t.0 t.1 c.advance_over_class_at_most-near.ensures c.if-count-least.false).0

pub returns-then-rest_is_known_to_find_end : goal.returns-then-rest_is_known_to_find_end
returns-then-rest_is_known_to_find_end g c =
    let it = c.args.context.now in
    let w = g.W.SearchContext.searching it in
    let is = g.met.W.SearchContext.is_text it in
    let d = g.Dir.Direction.FORWARD in
    let here = run-with is c.requires.run.run c.requires.executable c.char_loop_bounds_with_number.ensures c.class_with_number-class.ensures.there in
    let t = tested here in
    let most = c.requires.run.most _ c.char_loop_bounds_with_number.ensures in
    let fits = g.met.W.SearchContext.offsets_fit it in
    let near = run-near here most fits t.0 t.1 c.advance_over_class_at_most-near.ensures c.if-count-least.false in
    let finds = c.rest_is_known_to_find_end.ensures c.if-rest_is_known_to_find_end.true in
    let tells = subst (λ o. IfSome o (λ k. DecidesLoopRest w (g.M.FailureMemo.terms c.args.memo.now) d (record { ip = c.args.here.ip; at = c.advance_over_class_at_most-near.result.0 }) (record_key_as_spec k) c.args.memory.now)) c.in-Some.is c.key_of_loop_rest.ensures in (
      (rows-reach (program_of w) w.text (direction_of_forward_flag d)).simulated 1 _ _ near.1 (finds t.0 t.1),
      rest-key is (run-over here most fits) near.0 t.0 t.1 tells finds,
    )
