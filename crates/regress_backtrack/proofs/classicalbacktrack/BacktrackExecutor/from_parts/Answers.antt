use Rattle.std.proofs.Common.{rules, sym, subst}
use Rattle.regress_program.specs.declared.plan.Plan.{Plan}
use Rattle.regress_program.specs.LeadingCharLoops.{OnlyOpensGroups}
use Rattle.regress_backtrack.proofs.LeapMemoryLemmas.{no-leap-yet}
use Rattle.regress_backtrack.proofs.classicalbacktrack.BacktrackExecutor.from_parts.Goals as goal

pub invariant_of-result : goal.invariant_of-result
invariant_of-result g c =
    let s = c.new-search.result in
    record {
      right = search rules;
      opened = subst (λ (plan : Plan). OnlyOpensGroups s.program.plan plan.leading_loop.opens) (sym c.plan.ensures.plan) c.plan.ensures.plan_fits.leading_loop;
      no_match_in_last_leap = no-leap-yet _ _ (g.met.Input.InputIndexer.is_text s.searched.input) _ _ c.new-leap.ensures.from c.new-leap.ensures.to;
    }
