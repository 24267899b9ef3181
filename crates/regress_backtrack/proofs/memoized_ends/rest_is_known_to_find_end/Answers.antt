use Rattle.std.proofs.Common.{true, false, Some, sym, ◌∙◌, subst}
use Rattle.std.specs.Prelude.{IfSome}
use Rattle.regress_program.specs.InsnsAsSpec.{insn_as_spec_insn}
use Rattle.regress_machine.specs.Machine.{test_of}
use Rattle.regress_search.specs.TreePlanAndText.{program_of}
use Rattle.regress_search.proofs.CharLoopReach.{some-of}
use Rattle.regress_backtrack.specs.FailureMemo.{record_key_as_spec}
use Rattle.regress_backtrack.specs.MemoizedCharLoops.{DecidesLoopRest}
use Rattle.regress_backtrack.proofs.KnownEndLemmas.{seeking-begin, seeking-found, seeking-goes}
use Rattle.regress_backtrack.proofs.memoized_ends.rest_is_known_to_find_end.Goals as goal

pub places-init : goal.places-init
places-init g c = seeking-begin c.requires.at

pub returns-then-is_known_to_find_end : goal.returns-then-is_known_to_find_end
returns-then-is_known_to_find_end g c = λ found.
    let w = g.W.SearchContext.searching c.args.context.now in
    let t = g.M.FailureMemo.terms c.args.memo.now in
    let tells = subst (λ o. IfSome o (λ k. DecidesLoopRest w t g.Dir.Direction.FORWARD (record { ip = c.args.from.ip; at = c.places.at }) (record_key_as_spec k) c.args.memory.now)) c.in-Some.is c.key_of_loop_rest.ensures in
    seeking-found (g.met.W.SearchContext.is_text c.args.context.now) c.requires.run c.places.invariant tells
    (c.requires.ends.finds (record_key_as_spec c.in-Some.key) (sym c.is_known_to_find_end.ensures ∙ c.if-is_known_to_find_end.true))

pub read_class_char-requires-clause-at : goal.read_class_char-requires-clause-at
read_class_char-requires-clause-at g c = c.places.invariant.boundary

pub places-smaller : goal.places-smaller
places-smaller g c =
    let test = some-of (test_of (program_of (g.W.SearchContext.searching c.args.context.now)) (Some (insn_as_spec_insn c.args.class.now.insn))) c.requires.class.tests in
    (seeking-goes (g.met.W.SearchContext.is_text c.args.context.now) c.requires.run c.places.invariant test.0 test.1 c.read_class_char.ensures c.in-Some-read_class_char.is).fewer

pub places-preserved : goal.places-preserved
places-preserved g c =
    let test = some-of (test_of (program_of (g.W.SearchContext.searching c.args.context.now)) (Some (insn_as_spec_insn c.args.class.now.insn))) c.requires.class.tests in
    (seeking-goes (g.met.W.SearchContext.is_text c.args.context.now) c.requires.run c.places.invariant test.0 test.1 c.read_class_char.ensures c.in-Some-read_class_char.is).seeking
