use Rattle.std.proofs.Common.{◌≡◌, ap, refl, string_bytes}
use Rattle.regress_search.specs.MatchesAsSpecAnswers.{answer_of}
use Rattle.regress_search.specs.RemainingAnswers.{RemainingView}
use Rattle.regress_match.proofs.ClosureReplacementLemmas.{IsBegun, begins, ends, goes-answered, refuses-answered}
use Rattle.regress_match.specs.StringClosures.{ClosureCanBeCalled}
use Rattle.regress_match.proofs.MatchRangeLemmas.{IsReached, reached-none, takes-next}
use Rattle.regress_match.proofs.StringClosureLemmas.{callable-all, callable-next, callable-rest}
use Rattle.regress_match.proofs.api.replace.closures.replace_each_match.Given as given
use Rattle.regress_match.proofs.api.replace.closures.replace_each_match.Given.{Over}
use Rattle.regress_match.proofs.api.replace.closures.replace_each_match.Goals.{In_ok-append_closure_result}
use Rattle.regress_match.proofs.api.replace.closures.replace_each_match.Goals as goal

pub loop-item-init : goal.loop-item-init
loop-item-init g c =
    let into : c.into_iter-item-iterator.result ≡ c.args.matches = c.into_iter-item-iterator.ensures.into_iter_gives in
    record {
      can = tt;
      finite = tt;
      reached = reached-none c.args.text.now 0 c.args.matches c.into_iter-item-iterator.result c.utf8.text c.requires.in_text into;
      callable = callable-all _ c.into_iter-item-iterator.result.answers c.args.matches.answers c.requires.executable (ap (λ (it : RemainingView). it.answers) into);
      begun = begins _ string_bytes c.args.text.now c.args.matches.answers c.into_iter-item-iterator.result.answers _ (ap (λ (it : RemainingView). it.answers) into) c.new-made.ensures.bytes;
    }

pub with-requires : goal.with-requires
with-requires g c =
    callable-next _ c.loop-item.item-iterator.answers c.next.new.self.answers _ c.loop-item.invariant.callable
    (takes-next c.args.text.now _ _ c.loop-item.item-iterator c.next.new.self _ c.in_ok-found.found c.loop-item.invariant.reached c.in-Some.ensures.steps c.in_ok-found.was).next

pub returns-in_err-append_closure_result-clause-refused : goal.returns-in_err-append_closure_result-clause-refused
returns-in_err-append_closure_result-clause-refused g c = λ _.
    let takes = takes-next c.args.text.now _ _ c.loop-item.item-iterator c.next.new.self _ c.in_ok-found.found c.loop-item.invariant.reached c.in-Some.ensures.steps c.in_ok-found.was in
    refuses-answered _ string_bytes c.args.text.now c.args.matches.answers c.loop-item.item-iterator.answers c.loop-item.from (string_bytes c.loop-item.made) c.loop-item.invariant.begun
    c.next.new.self.answers (answer_of c.in_ok-found.found) c.with.result takes.next
    (_, refl, c.with.ensures) _ c.in_err-append_closure_result.field-0.0 c.from_residual-in_err-append_closure_result.ensures.1 c.in_err-append_closure_result.ensures.refused

-- what holds once an answer is written
written : (g : Over) (c : In_ok-append_closure_result g)
    → IsReached c.args.text.now c.args.matches.limited c.in_ok-from.from c.next.new.self × ClosureCanBeCalled (given.F-pre g c.args.with) c.next.new.self.answers
    × IsBegun (given.F-post g c.args.with) string_bytes c.args.text.now c.args.matches.answers c.next.new.self.answers c.in_ok-from.from (string_bytes c.append_closure_result.new.made)
written g c =
    let takes = takes-next c.args.text.now _ _ c.loop-item.item-iterator c.next.new.self _ c.in_ok-found.found c.loop-item.invariant.reached c.in-Some.ensures.steps c.in_ok-found.was in (
      takes.reached c.in_ok-from.from c.in_ok-from.ensures.behind,
      callable-rest _ c.loop-item.item-iterator.answers c.next.new.self.answers (answer_of c.in_ok-found.found) c.loop-item.invariant.callable takes.next,
      goes-answered _ string_bytes c.args.text.now c.args.matches.answers c.loop-item.item-iterator.answers c.loop-item.from (string_bytes c.loop-item.made) c.loop-item.invariant.begun
          c.next.new.self.answers (answer_of c.in_ok-found.found) c.with.result takes.next (_, refl, c.with.ensures)
          c.in_ok-from.from (string_bytes c.append_text_before_match.new.made) (string_bytes c.append_closure_result.new.made) c.in_ok-from.ensures.made c.in_ok-append_closure_result.ensures.made c.in_ok-from.ensures.behind,
    )

pub loop-item-preserved : goal.loop-item-preserved
loop-item-preserved g c = let w = written g (goal.at.loop-item-preserved g c).In_ok-append_closure_result in record { can = tt; finite = tt; reached = w.0; callable = w.1; begun = w.2 }

pub loop-item-preserved-in_ok-append_closure_result : goal.loop-item-preserved-in_ok-append_closure_result
loop-item-preserved-in_ok-append_closure_result g c = let w = written g (goal.at.loop-item-preserved-in_ok-append_closure_result g c).In_ok-append_closure_result in record { can = tt; finite = tt; reached = w.0; callable = w.1; begun = w.2 }

pub returns-clause-made : goal.returns-clause-made
returns-clause-made g c =
    ends _ string_bytes c.args.text.now c.args.matches.answers c.loop-item.item-iterator.answers c.loop-item.from (string_bytes c.loop-item.made) c.loop-item.invariant.begun
    _ c.in-None.ensures.steps.0 c.in_ok-append_text_after_last_match.ensures
