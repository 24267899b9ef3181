use Rattle.std.proofs.Common.{◌≡◌, ◌<◌, ◌^◌, ◌+◌, Some, ap, sym, subst, ◌∙◌, arith, length, slice_get, rules}
use Rattle.std.specs.Prelude.{IsSome, IfSome}
use Rattle.regex_pattern_front.specs.AstToSpecTree.{tree_of}
use Rattle.regress_machine.specs.Machine.{test_of}
use Rattle.regress_program.specs.CompilationOfTreesAsFunction.{compiled}
use Rattle.regress_program.specs.InsnsAsSpec.{insn_as_spec_insn}
use Rattle.regress_memo.specs.CheckedAnalysis.{IsRecordableMemoKey}
use Rattle.regress_memo.specs.MemoContents.{memo_key_as_spec}
use Rattle.regress_bounded.proofs.LazyLoopTurnsAndResumption.{rest-of, back-known-over, back-known-goes, back-over, back-goes, back-place, back-boundary, back-tested, back-keyed}
use Rattle.regress_bounded.proofs.CharLoopBodyInsns.{body-insn, body-below, body-fits, body-spelled}
use Rattle.regress_bounded.proofs.StepResultLemmas.{goes-short}
use Rattle.regress_bounded.proofs.unbounded_char_loops.resume_lazy_char_loop.Given.{Over}
use Rattle.regress_bounded.proofs.unbounded_char_loops.resume_lazy_char_loop.Goals.{After-index-insns-state}
use Rattle.regress_bounded.proofs.unbounded_char_loops.resume_lazy_char_loop.Goals as goal

-- ---- Its key

pub unreachable-requires : goal.unreachable-requires
unreachable-requires g c = back-keyed c.args.stack.now.items c.args.state c.requires.stands c.in_default.is c.key_at.ensures.key

pub fails-requires : goal.fails-requires
fails-requires g c =
    subst (λ o. IfSome o (λ key. IsRecordableMemoKey c.args.progress.now.memo.memo_analysis c.args.progress.now.memo.places (memo_key_as_spec key))) c.in-Some.is
    (c.key_at.ensures.bit (back-place c.args.stack.now.items c.args.state c.requires.stands))

-- ---- It is known to fail

pub returns-in_err-spend-clause-continues : goal.returns-in_err-spend-clause-continues
returns-in_err-spend-clause-continues g c = λ b h.
    goes-short h c.args.stack.now.items c.spend.new.self c.from_residual.result c.in_err-spend.field-0.0 c.from_residual.ensures.1 c.in_err-spend.ensures.over.0
    (back-known-over c.args.stack.now.items c.args.state h c.in-Some.is c.key_at.ensures.key (sym c.fails.ensures ∙ c.if-fails.true) c.spend.new.self c.in_err-spend.ensures.over.1)

pub returns-then-fails-clause-continues : goal.returns-then-fails-clause-continues
returns-then-fails-clause-continues g c = λ b h.
    back-known-goes c.args.stack.now.items c.args.state h c.in-Some.is c.key_at.ensures.key (sym c.fails.ensures ∙ c.if-fails.true) c.spend.new.self c.spend.ensures.memo c.in_ok-spend.ensures.spent

-- ---- What it reads

pub overflow_add-state : goal.overflow_add-state
overflow_add-state g c =
    let short : length c.args.insns.now < 2 ^ 64 = search rules in
    let few = body-fits c.args.searched.now.program.now c.args.insns.now c.requires.code c.args.state.ip (back-tested c.args.stack.now.items c.args.state c.requires.stands) short in
    omega (arith, few)

pub take_nearest_exit-requires-clause-at : goal.take_nearest_exit-requires-clause-at
take_nearest_exit-requires-clause-at g c = back-boundary c.args.stack.now.items c.args.state c.requires.stands

pub bounds-insns-state : goal.bounds-insns-state
bounds-insns-state g c =
    body-below c.args.searched.now.program.now c.args.insns.now c.requires.code c.args.state.ip (back-tested c.args.stack.now.items c.args.state c.requires.stands)

pub offset_bounds-insns-state : goal.offset_bounds-insns-state
offset_bounds-insns-state g c =
    let tested = back-tested c.args.stack.now.items c.args.state c.requires.stands in
    let below = body-below c.args.searched.now.program.now c.args.insns.now c.requires.code c.args.state.ip tested in
    search rules

pub overflow_add-state-2 : goal.overflow_add-state-2
overflow_add-state-2 g c =
    let short : length c.args.insns.now < 2 ^ 64 = search rules in
    let few = body-fits c.args.searched.now.program.now c.args.insns.now c.requires.code c.args.state.ip (back-tested c.args.stack.now.items c.args.state c.requires.stands) short in
    omega (arith, few)

pub take_nearest_exit-requires-clause-within : goal.take_nearest_exit-requires-clause-within
take_nearest_exit-requires-clause-within g c =
    let short : length c.args.insns.now < 2 ^ 64 = search rules in
    body-fits c.args.searched.now.program.now c.args.insns.now c.requires.code c.args.state.ip (back-tested c.args.stack.now.items c.args.state c.requires.stands) short

-- the instruction that it reads by
body : (g : Over) (c : After-index-insns-state g)
    → slice_get (compiled (tree_of c.args.searched.now.program.now)).insns (c.args.state.ip + 1) ≡ Some (insn_as_spec_insn c.index-insns-state.result)
body g c =
    let tested = back-tested c.args.stack.now.items c.args.state c.requires.stands in
    body-insn c.args.searched.now.program.now c.args.insns.now c.requires.code c.args.state.ip tested c.index-insns-state.result c.index-insns-state.is

pub take_nearest_exit-requires-clause-test : goal.take_nearest_exit-requires-clause-test
take_nearest_exit-requires-clause-test g c =
    let tested = back-tested c.args.stack.now.items c.args.state c.requires.stands in
    subst (λ o. IsSome (test_of (compiled (tree_of c.args.searched.now.program.now)) o)) (body g (goal.at.take_nearest_exit-requires-clause-test g c).After-index-insns-state) tested

pub take_nearest_exit-requires-clause-bytes : goal.take_nearest_exit-requires-clause-bytes
take_nearest_exit-requires-clause-bytes g c =
    body-spelled c.args.searched.now.program.now c.args.searched.now.bytes c.args.state.ip c.index-insns-state.result
    (body g (goal.at.take_nearest_exit-requires-clause-bytes g c).After-index-insns-state)

-- ---- It is not

pub returns-in_err-spend-2-clause-continues : goal.returns-in_err-spend-2-clause-continues
returns-in_err-spend-2-clause-continues g c = λ b h.
    goes-short h c.args.stack.now.items c.spend-2.new.self c.from_residual-in_err-spend-2.result c.in_err-spend-2.field-0.0 c.from_residual-in_err-spend-2.ensures.1 c.in_err-spend-2.ensures.over.0
    (back-over c.args.stack.now.items c.args.state h c.in-Some.is c.key_at.ensures.key (sym c.fails.ensures ∙ c.if-fails.false) c.spend-2.new.self c.in_err-spend-2.ensures.over.1)

pub returns-clause-continues : goal.returns-clause-continues
returns-clause-continues g c = λ b h.
    let rest = rest-of c.args.stack.now.items c.args.state h in
    let near = c.in_ok-next.ensures rest.test rest.place (sym (ap (test_of (compiled (tree_of c.args.searched.now.program.now))) (body g (goal.at.returns-clause-continues g c).After-index-insns-state)) ∙ rest.run.body) rest.at in
    back-goes c.args.stack.now.items c.args.state h c.in-Some.is c.key_at.ensures.key (sym c.fails.ensures ∙ c.if-fails.false) c.in_ok-next.next c.push_entry.new.stack.items c.take_nearest_exit.new.stack.items
    c.in_ok-push_entry.ensures near c.spend-2.new.self c.spend-2.ensures.memo c.in_ok-spend-2.ensures.spent
