use Rattle.std.proofs.Common.{◌∙◌, ◌++◌, ap, map, refl}
use Rattle.std.proofs.lemmas.List.{take_rest}
use Rattle.regress_search.specs.MatchesAsSpecAnswers.{answer_of}
use Rattle.regress_match.proofs.ClosureReplacementLemmas.{ends, goes-answered, refuses-answered}
use Rattle.regress_match.proofs.StringClosureLemmas.{callable-next, callable-rest}
use Rattle.use_regexp.specs.Replace.{units_of}
use Rattle.use_regexp.proofs.Replaced.{map-none, stand-behind}
use Rattle.use_regexp.proofs.replacing.replace_matches_by_closure.Goals as goal

pub with-requires : goal.with-requires
with-requires g c =
    callable-next _ (map answer_of c.loop-found.rest.now) (map answer_of c.in-Some.behind.now) _ c.loop-found.invariant.callable (ap (map answer_of) c.in-Some.ensures.cases.0)

pub returns-in_err-push_closure_result-clause-refused : goal.returns-in_err-push_closure_result-clause-refused
returns-in_err-push_closure_result-clause-refused g c =
    refuses-answered _ units_of c.args.text.now (map answer_of c.args.matches.now) (map answer_of c.loop-found.rest.now) c.loop-found.from c.loop-found.made.items
    c.loop-found.invariant.begun (map answer_of c.in-Some.behind.now) (answer_of c.in-Some.found.now) c.with.result (ap (map answer_of) c.in-Some.ensures.cases.0)
    (_, refl, c.with.ensures) _ c.in_err-push_closure_result.field-0.0 c.from_residual-in_err-push_closure_result.ensures.1 c.in_err-push_closure_result.ensures.refused

pub loop-found-preserved : goal.loop-found-preserved
loop-found-preserved g c =
    let left = map answer_of c.loop-found.rest.now in
    let rest = map answer_of c.in-Some.behind.now in
    let m = answer_of c.in-Some.found.now in
    let next = ap (map answer_of) c.in-Some.ensures.cases.0 in
    record {
      stand = stand-behind c.args.text.now c.loop-found.from c.in_ok-from.from left rest m c.loop-found.invariant.stand next c.in_ok-from.ensures.behind;
      callable = callable-rest _ left rest m c.loop-found.invariant.callable next;
      begun =
          goes-answered _ units_of c.args.text.now (map answer_of c.args.matches.now) left c.loop-found.from c.loop-found.made.items c.loop-found.invariant.begun
          rest m c.with.result next (_, refl, c.with.ensures)
          c.in_ok-from.from c.append_units_before_match.new.made.items c.push_closure_result.new.made.items c.in_ok-from.ensures.made c.in_ok-push_closure_result.ensures.made c.in_ok-from.ensures.behind;
    }

pub returns-clause-made : goal.returns-clause-made
returns-clause-made g c =
    let text = c.args.text.now in
    ends _ units_of text (map answer_of c.args.matches.now) (map answer_of c.loop-found.rest.now) c.loop-found.from c.loop-found.made.items c.loop-found.invariant.begun
    _ (map-none answer_of c.loop-found.rest.now c.in_default.ensures.cases)
    (c.in_ok-extend_from_slice.ensures.items ∙ ap (λ t. c.loop-found.made.items ++ t) (take_rest text c.loop-found.from))
