use Rattle.std.proofs.Common.{ℕ, Option, subst, arith}
use Rattle.regress_program.specs.declared.required_prefix_analysis.OpPrefixContribution.TheVariants as ahead
use Rattle.regress_program.specs.RequiredPrefixAnalysis.{allows_only_key, units_allowed_by_first_set, FollowsFromSuccessors}
use Rattle.regress_program.proofs.RequiredPrefixLemmas.{path-start, path-at, path-last, path-units, path-either}
use Rattle.regress_program.proofs.required_prefix_analysis.+prefix_at.Goals as goal

pub path-init : goal.path-init
path-init t c = (omega arith, λ wide program ops. path-start wide program c.args.from c.unrestricted_prefix-prefix.result c.unrestricted_prefix-prefix.ensures)

pub returns-in-Unknown : goal.returns-in-Unknown
returns-in-Unknown t c = λ wide program ops. (c.path.invariant.1 wide program ops).so_far

pub path-preserved-in-SameAs : goal.path-preserved-in-SameAs
path-preserved-in-SameAs t c = (
  omega (arith, c.path.invariant.0),
  λ wide program ops.
      path-at wide program c.args.from c.path.ip c.in-SameAs.to c.path.prefix (c.path.invariant.1 wide program ops) (c.in-SameAs.ensures wide program ops),
)

pub path-preserved-in-OneUnit : goal.path-preserved-in-OneUnit
path-preserved-in-OneUnit t c = (
  omega (arith, c.path.invariant.0),
  λ wide program ops.
      path-units wide program c.args.from c.path.ip 1 c.in-OneUnit.to (allows_only_key c.in-OneUnit.key) c.path.prefix c.add_unit.new.self (c.path.invariant.1 wide program ops)
      c.if-prefix-lt-MOST.true (c.in-OneUnit.ensures wide program ops) c.add_unit.ensures,
)

pub returns-then-either-eq0 : goal.returns-then-either-eq0
returns-then-either-eq0 t c = λ wide program ops. (c.path.invariant.1 wide program ops).so_far

pub returns-in-UnionOf : goal.returns-in-UnionOf
returns-in-UnionOf t c = λ wide program ops.
    path-either wide program c.args.from c.path.ip c.in-UnionOf.a c.in-UnionOf.b c.path.prefix c.prefix_at-either.result c.prefix_at.result c.or.new.self c.add_prefix.new.self
    (c.path.invariant.1 wide program ops) c.if-prefix-lt-MOST.true (c.in-UnionOf.ensures wide program ops) (c.prefix_at-either.ensures wide program ops)
    (c.prefix_at.ensures wide program ops) c.or.ensures c.add_prefix.ensures

pub returns-in_default : goal.returns-in_default
returns-in_default t c = λ wide program ops.
    path-last wide program c.args.from c.path.ip c.in-Units.count (units_allowed_by_first_set c.in-Units.set) c.in-Units.to c.path.prefix c.add_units.new.self (c.path.invariant.1 wide program ops)
    c.if-prefix-lt-MOST.true (c.in-Units.ensures wide program ops) c.add_units.ensures

pub path-preserved : goal.path-preserved
path-preserved t c = (
  omega (arith, c.path.invariant.0),
  λ wide program ops.
      let P : Option ℕ → Type 0 = λ to. FollowsFromSuccessors wide program c.path.ip (ahead.Units c.in-Units.set c.in-Units.count to) in
      path-units wide program c.args.from c.path.ip c.in-Units.count c.in-Some.next (units_allowed_by_first_set c.in-Units.set) c.path.prefix c.add_units.new.self (c.path.invariant.1 wide program ops)
      c.if-prefix-lt-MOST.true (subst P c.in-Some.is (c.in-Units.ensures wide program ops)) c.add_units.ensures,
)

pub returns-after-path : goal.returns-after-path
returns-after-path t c = λ wide program ops. (c.path.invariant.1 wide program ops).so_far

pub returns-else-prefix-lt-MOST : goal.returns-else-prefix-lt-MOST
returns-else-prefix-lt-MOST t c = λ wide program ops. (c.path.invariant.1 wide program ops).so_far
