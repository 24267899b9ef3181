use Rattle.std.proofs.Common.{◌≡◌, ◌∙◌, ◌++◌, ap, string_bytes}
use Rattle.regex_meaning.specs.Replace.{expansion, replaced}
use Rattle.regress_search.specs.RemainingAnswers.{RemainingView}
use Rattle.regress_match.specs.ExpansionsAndMatchRanges.{matches_with_expansions}
use Rattle.regress_match.proofs.MatchRangeLemmas.{IsReached, reached-none, takes-next}
use Rattle.regress_match.proofs.StringClosureLemmas.{replaced-more, replaced-end}
use Rattle.regress_match.proofs.api.replace.expand_each.Given.{Over}
use Rattle.regress_match.proofs.api.replace.expand_each.Goals.{In_ok-expand}
use Rattle.regress_match.proofs.api.replace.expand_each.Goals as goal

pub loop-item-init : goal.loop-item-init
loop-item-init g c =
    let text = c.args.text.now in
    let replacement = c.args.replacement.now in
    let left = c.into_iter-item-iterator.result in
    record {
      can = tt;
      finite = tt;
      reached = reached-none text 0 c.args.matches left c.utf8.text c.requires c.into_iter-item-iterator.ensures.into_iter_gives;
      begun =
          ap (λ bs. bs ++ replaced text 0 (matches_with_expansions text replacement left.answers)) c.new-made.ensures.bytes
          ∙ ap (λ (it : RemainingView). replaced text 0 (matches_with_expansions text replacement it.answers)) c.into_iter-item-iterator.ensures.into_iter_gives;
    }

pub append_text_before_match-requires-clause-rising : goal.append_text_before_match-requires-clause-rising
append_text_before_match-requires-clause-rising g c = (takes-next _ _ _ _ _ _ c.in_ok-found.found c.loop-item.invariant.reached c.in-Some.ensures.steps c.in_ok-found.was).before.0

pub append_text_before_match-requires-clause-boundary : goal.append_text_before_match-requires-clause-boundary
append_text_before_match-requires-clause-boundary g c = c.loop-item.invariant.reached.boundary

pub append_text_before_match-requires-clause-fits : goal.append_text_before_match-requires-clause-fits
append_text_before_match-requires-clause-fits g c = (takes-next _ _ _ _ _ _ c.in_ok-found.found c.loop-item.invariant.reached c.in-Some.ensures.steps c.in_ok-found.was).fits

-- what holds once a match is expanded
written : (g : Over) (c : In_ok-expand g)
    → IsReached c.args.text.now c.args.matches.limited c.in_ok-from.from c.next.new.self
    × (string_bytes c.expand.new.out ++ replaced c.args.text.now c.in_ok-from.from (matches_with_expansions c.args.text.now c.args.replacement.now c.next.new.self.answers)
    ≡ replaced c.args.text.now 0 (matches_with_expansions c.args.text.now c.args.replacement.now c.args.matches.answers))
written g c =
    let takes = takes-next c.args.text.now _ _ c.loop-item.item-iterator c.next.new.self _ c.in_ok-found.found c.loop-item.invariant.reached c.in-Some.ensures.steps c.in_ok-found.was in (
      takes.reached c.in_ok-from.from c.in_ok-from.ensures.behind,
      replaced-more c.args.text.now (λ m. expansion c.args.text.now m c.args.replacement.now) (string_bytes c.loop-item.made) (string_bytes c.append_text_before_match.new.made) (string_bytes c.expand.new.out) _ c.loop-item.from c.in_ok-from.from
          c.loop-item.item-iterator.answers c.next.new.self.answers _ c.loop-item.invariant.begun takes.next c.in_ok-from.ensures.made c.in_ok-expand.ensures c.in_ok-from.ensures.behind,
    )

pub loop-item-preserved : goal.loop-item-preserved
loop-item-preserved g c = let w = written g (goal.at.loop-item-preserved g c).In_ok-expand in record { can = tt; finite = tt; reached = w.0; begun = w.1 }

pub loop-item-preserved-in_ok-expand : goal.loop-item-preserved-in_ok-expand
loop-item-preserved-in_ok-expand g c = let w = written g (goal.at.loop-item-preserved-in_ok-expand g c).In_ok-expand in record { can = tt; finite = tt; reached = w.0; begun = w.1 }

pub returns-clause-made : goal.returns-clause-made
returns-clause-made g c =
    replaced-end c.args.text.now (λ m. expansion c.args.text.now m c.args.replacement.now) (string_bytes c.loop-item.made) _ _ c.loop-item.from c.loop-item.item-iterator.answers c.loop-item.invariant.begun
    c.in-None.ensures.steps.0 c.in_ok-append_text_after_last_match.ensures
