use Rattle.std.proofs.Common.{◌∙◌, ◌++◌, ap, refl, drop, string_bytes, slice_range, take, []}
use Rattle.std.proofs.lemmas.Str.{IsCharBoundary-start}
use Rattle.regex_meaning.specs.Replace.{expansion, replaced}
use Rattle.regress_search.specs.MatchesAsSpecAnswers.{answer_of}
use Rattle.regress_match.specs.ExpansionsAndMatchRanges.{matches_with_expansions}
use Rattle.regress_match.proofs.MatchRangeLemmas.{reached-none, takes-next}
use Rattle.regress_match.proofs.StringClosureLemmas.{replaced-more, replaced-end}
use Rattle.regress_match.proofs.api.replace.expand_first.Goals as goal

pub append_text_after_last_match-requires : goal.append_text_after_last_match-requires
append_text_after_last_match-requires g c = IsCharBoundary-start c.args.text.now c.utf8.text

pub returns-in_default-clause-made : goal.returns-in_default-clause-made
returns-in_default-clause-made g c =
    replaced-end c.args.text.now (λ m. expansion c.args.text.now m c.args.replacement.now) [] _ _ 0 (take 1 c.args.matches.answers) refl (ap (take 1) c.in_default.ensures.steps.0)
    (c.in_ok-append_text_after_last_match.ensures ∙ ap (λ bs. bs ++ drop 0 c.args.text.now) c.new-made.ensures.bytes)

pub append_text_before_match-requires-clause-rising : goal.append_text_before_match-requires-clause-rising
append_text_before_match-requires-clause-rising g c =
    (takes-next _ _ _ _ _ _ c.in_ok-found.found (reached-none c.args.text.now 0 c.args.matches c.args.matches c.utf8.text c.requires refl) c.in-Some.ensures.steps c.in_ok-found.was).before.0

pub append_text_before_match-requires-clause-boundary : goal.append_text_before_match-requires-clause-boundary
append_text_before_match-requires-clause-boundary g c = IsCharBoundary-start c.args.text.now c.utf8.text

pub append_text_before_match-requires-clause-fits : goal.append_text_before_match-requires-clause-fits
append_text_before_match-requires-clause-fits g c =
    (takes-next _ _ _ _ _ _ c.in_ok-found.found (reached-none c.args.text.now 0 c.args.matches c.args.matches c.utf8.text c.requires refl) c.in-Some.ensures.steps c.in_ok-found.was).fits

pub returns-clause-made : goal.returns-clause-made
returns-clause-made g c =
    let takes = takes-next c.args.text.now _ _ c.args.matches c.next.new.self _ c.in_ok-found.found (reached-none c.args.text.now 0 c.args.matches c.args.matches c.utf8.text c.requires refl) c.in-Some.ensures.steps c.in_ok-found.was in
    let text = c.args.text.now in
    let replacement = c.args.replacement.now in
    let all = take 1 c.args.matches.answers in
    let made = c.in_ok-from.ensures.made ∙ ap (λ bs. bs ++ slice_range text 0 c.in_ok-found.found.range.start) c.new-made.ensures.bytes in
    let more = replaced-more text (λ m. expansion text m replacement) [] (string_bytes c.append_text_before_match.new.made) (string_bytes c.expand.new.out) (replaced text 0 (matches_with_expansions text replacement all)) 0 c.in_ok-from.from all []
    (answer_of c.in_ok-found.found) refl (ap (take 1) takes.next) made c.in_ok-expand.ensures c.in_ok-from.ensures.behind in
    replaced-end text (λ m. expansion text m replacement) (string_bytes c.expand.new.out) _ (replaced text 0 (matches_with_expansions text replacement all)) c.in_ok-from.from [] more refl c.in_ok-append_text_after_last_match-2.ensures
