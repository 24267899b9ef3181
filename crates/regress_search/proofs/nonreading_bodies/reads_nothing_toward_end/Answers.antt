use Rattle.std.proofs.Common.{◌≡◌, Bool, true, false, Option, Some, ap, slice_get, sym, subst, ◌∙◌, Bor}
use Rattle.std.specs.Prelude.{option_map}
use Rattle.std.proofs.lemmas.Bool.{not-true}
use mathlib.Core.Logic.{inl, inr}
use Rattle.regress_program.specs.declared.ops.Op.{Op}
use Rattle.regress_machine.specs.LoopsReadingNothing.{ReadsNothingAndLeadsOnward}
use Rattle.regress_search.proofs.nonreading_bodies.reads_nothing_toward_end.Goals as goal

-- the operation that was found stands there
found : (at : Option Op) {o : Option (Bor Op)} {x : Bor Op} {op : Op} → option_map (λ (o : Bor Op). o.now) o ≡ at → o ≡ Some x → x.now ≡ op → at ≡ Some op
found at is here op = sym is ∙ ap (option_map (λ (o : Bor Op). o.now)) here ∙ ap Some op

pub returns-in-Some-Goto : goal.returns-in-Some-Goto
returns-in-Some-Goto g c = λ yes insn is.
    let s = c.in-Some-Goto in
    let nearer = c.is_jump_forward_up_to_end.ensures yes in
    inl (s.to, c.op_at.ensures.plan_fits.each c.args.ip _ insn (found (slice_get (g.W.SearchContext.searching c.args.context.now).plan.ops.items c.args.ip) c.op_at.ensures.op s.is s.field-0-is) is, nearer.0, nearer.1)

pub returns-then-forks : goal.returns-then-forks
returns-then-forks g c = λ yes insn is.
    let s = c.in-Some-Either in
    let nearer = c.is_jump_forward_up_to_end-then-forks.ensures yes in
    subst (λ forks. ReadsNothingAndLeadsOnward forks c.args.end c.args.ip insn) (sym c.if-forks.true)
    (inr (s.other, c.op_at.ensures.plan_fits.each c.args.ip _ insn (found (slice_get (g.W.SearchContext.searching c.args.context.now).plan.ops.items c.args.ip) c.op_at.ensures.op s.is s.field-0-is) is, nearer.0, nearer.1))

pub returns-in-Some-ResetGroup : goal.returns-in-Some-ResetGroup
returns-in-Some-ResetGroup g c = λ yes insn is.
    let s = c.in-Some-ResetGroup in
    subst (λ forks. ReadsNothingAndLeadsOnward forks c.args.end c.args.ip insn) (sym (not-true c.args.forks yes))
    (inr (s.field-0-0, inl (c.op_at.ensures.plan_fits.each c.args.ip _ insn (found (slice_get (g.W.SearchContext.searching c.args.context.now).plan.ops.items c.args.ip) c.op_at.ensures.op s.is s.field-0-is) is)))

pub returns-in-Some-OpenGroup : goal.returns-in-Some-OpenGroup
returns-in-Some-OpenGroup g c = λ yes insn is.
    let s = c.in-Some-OpenGroup in
    subst (λ forks. ReadsNothingAndLeadsOnward forks c.args.end c.args.ip insn) (sym (not-true c.args.forks yes))
    (inr (s.field-0-0, inr (inl (c.op_at.ensures.plan_fits.each c.args.ip _ insn (found (slice_get (g.W.SearchContext.searching c.args.context.now).plan.ops.items c.args.ip) c.op_at.ensures.op s.is s.field-0-is) is))))

pub returns-in-Some-CloseGroup : goal.returns-in-Some-CloseGroup
returns-in-Some-CloseGroup g c = λ yes insn is.
    let s = c.in-Some-CloseGroup in
    subst (λ forks. ReadsNothingAndLeadsOnward forks c.args.end c.args.ip insn) (sym (not-true c.args.forks yes))
    (inr (s.field-0-0, inr (inr (c.op_at.ensures.plan_fits.each c.args.ip _ insn (found (slice_get (g.W.SearchContext.searching c.args.context.now).plan.ops.items c.args.ip) c.op_at.ensures.op s.is s.field-0-is) is))))
