use Rattle.std.proofs.Common.{◌≡◌, ◌-◌, true, sym, ap, ◌∙◌, subst, arith}
use Rattle.std.specs.Prelude.{is_some}
use Rattle.regress_backtrack.specs.FailureMemo.{record_key_as_spec}
use Rattle.regress_backtrack.specs.KnownEnds.{IsKnownEnd, AreLastLazyExits}
use Rattle.regress_backtrack.specs.MemoizedCharLoops.{DecidesLoopRest}
use Rattle.regress_backtrack.proofs.KnownEndLemmas.{rightwards-exits, exits-behind, lazy-known}
use Rattle.regress_backtrack.proofs.GroupAndLoopOperations.{some-is}
use Rattle.regress_backtrack.proofs.memoized_ends.known_end_of_lazy_exits.Goals as goal

pub overflow_sub-from : goal.overflow_sub-from
overflow_sub-from g c =
    let last = some-is (AreLastLazyExits g.Dir.Direction.FORWARD c.args.base c.args.memory.now) c.in-Some.is c.choice_point_of_last_lazy_exits.ensures in
    let two = (exits-behind (g.W.SearchContext.searching c.args.context.now) c.args.base c.args.here c.args.memory.now c.in-Some.exits (rightwards-exits last) c.requires.standing).1.behind in
    omega (arith, two)

pub is_unbounded_lazy-requires : goal.is_unbounded_lazy-requires
is_unbounded_lazy-requires g c =
    let last = some-is (AreLastLazyExits g.Dir.Direction.FORWARD c.args.base c.args.memory.now) c.in-Some.is c.choice_point_of_last_lazy_exits.ensures in
    record { there = ap is_some (exits-behind (g.W.SearchContext.searching c.args.context.now) c.args.base c.args.here c.args.memory.now c.in-Some.exits (rightwards-exits last) c.requires.standing).1.run }

pub returns-then-is_known_to_find_end : goal.returns-then-is_known_to_find_end
returns-then-is_known_to_find_end g c =
    let w = g.W.SearchContext.searching c.args.context.now in
    let t = g.M.FailureMemo.terms c.args.memo.now in
    let h = c.args.memory.now in
    let m = c.in-Some.exits in
    let key = c.in-Some-key_of_loop_rest.key in
    let last = some-is (AreLastLazyExits g.Dir.Direction.FORWARD c.args.base h) c.in-Some.is c.choice_point_of_last_lazy_exits.ensures in
    let loop = c.is_unbounded_lazy.ensures c.if-not-is_unbounded_lazy.false in
    let tells = some-is (λ k. DecidesLoopRest w t true (record { ip = m.ip - 2; at = m.next }) (record_key_as_spec k) h) c.in-Some-key_of_loop_rest.is c.key_of_loop_rest.ensures in
    let finds = c.requires.ends.finds (record_key_as_spec key) (sym c.is_known_to_find_end.ensures ∙ c.if-is_known_to_find_end.true) in
    subst (λ f. IsKnownEnd w t f c.args.base c.args.here h key) (sym last.rightwards)
    (lazy-known w c.args.base c.args.here h m (rightwards-exits last) c.requires.standing (g.met.W.SearchContext.is_text c.args.context.now) t key loop tells finds)
