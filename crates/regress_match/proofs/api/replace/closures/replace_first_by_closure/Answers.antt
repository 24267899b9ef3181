use Rattle.std.proofs.Common.{ap, refl, string_bytes, take, []}
use Rattle.std.proofs.lemmas.Str.{IsCharBoundary-start}
use Rattle.regress_search.specs.MatchesAsSpecAnswers.{answer_of}
use Rattle.regress_match.proofs.ClosureReplacementLemmas.{begins, ends, goes-answered, refuses-answered}
use Rattle.regress_match.proofs.MatchRangeLemmas.{reached-none, takes-next}
use Rattle.regress_match.proofs.api.replace.closures.replace_first_by_closure.Goals as goal

pub append_text_after_last_match-requires : goal.append_text_after_last_match-requires
append_text_after_last_match-requires g c = IsCharBoundary-start c.args.text.now c.utf8.text

pub returns-in_default-clause-made : goal.returns-in_default-clause-made
returns-in_default-clause-made g c =
    let all = take 1 c.args.matches.answers in
    ends _ string_bytes c.args.text.now all all 0 (string_bytes c.new-made.result) (begins _ string_bytes c.args.text.now all all _ refl c.new-made.ensures.bytes) _ (ap (take 1) c.in_default.ensures.steps.0) c.in_ok-append_text_after_last_match.ensures

pub append_text_before_match-requires-clause-boundary : goal.append_text_before_match-requires-clause-boundary
append_text_before_match-requires-clause-boundary g c = IsCharBoundary-start c.args.text.now c.utf8.text

pub returns-in_err-append_closure_result-clause-refused : goal.returns-in_err-append_closure_result-clause-refused
returns-in_err-append_closure_result-clause-refused g c = λ _.
    let all = take 1 c.args.matches.answers in
    let takes = takes-next c.args.text.now _ _ c.args.matches c.next.new.self _ c.in_ok-found.found (reached-none c.args.text.now 0 c.args.matches c.args.matches c.utf8.text c.requires.in_text refl) c.in-Some.ensures.steps c.in_ok-found.was in
    let next = ap (take 1) takes.next in
    refuses-answered _ string_bytes c.args.text.now all all 0 (string_bytes c.new-made.result) (begins _ string_bytes c.args.text.now all all _ refl c.new-made.ensures.bytes) [] (answer_of c.in_ok-found.found) c.with.result next
    (_, refl, c.with.ensures) _ c.in_err-append_closure_result.field-0.0 c.from_residual-in_err-append_closure_result.ensures.1 c.in_err-append_closure_result.ensures.refused

pub returns-clause-made : goal.returns-clause-made
returns-clause-made g c =
    let all = take 1 c.args.matches.answers in
    let takes = takes-next c.args.text.now _ _ c.args.matches c.next.new.self _ c.in_ok-found.found (reached-none c.args.text.now 0 c.args.matches c.args.matches c.utf8.text c.requires.in_text refl) c.in-Some.ensures.steps c.in_ok-found.was in
    let next = ap (take 1) takes.next in
    let went = goes-answered _ string_bytes c.args.text.now all all 0 (string_bytes c.new-made.result) (begins _ string_bytes c.args.text.now all all _ refl c.new-made.ensures.bytes) [] (answer_of c.in_ok-found.found) c.with.result next
    (_, refl, c.with.ensures) c.in_ok-behind.behind (string_bytes c.append_text_before_match.new.made) (string_bytes c.append_closure_result.new.made) c.in_ok-behind.ensures.made c.in_ok-append_closure_result.ensures.made c.in_ok-behind.ensures.behind in
    ends _ string_bytes c.args.text.now all [] c.in_ok-behind.behind (string_bytes c.append_closure_result.new.made) went _ refl c.in_ok-append_text_after_last_match-2.ensures
