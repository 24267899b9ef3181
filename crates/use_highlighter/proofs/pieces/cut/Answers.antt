use Rattle.std.proofs.Common.{◌≡◌, ◌∙◌, ◌++◌, ◌∷◌, ℕ, [], false, ap, ap₂}
use Rattle.std.specs.Prelude.{Some, None}
use Rattle.std.proofs.lemmas.Str.{IsCharBoundary-end}
use Rattle.regress_search.specs.MatchesAsSpecAnswers.{answer_of}
use Rattle.regress_search.specs.RemainingAnswers.{RemainingView}
use Rattle.regress_match.specs.ProgramTreesAndAnswers.{utf8_answers}
use Rattle.regress_match.proofs.MatchRangeLemmas.{IsReached, reached-unlimited, takes-next}
use Rattle.use_highlighter.specs.Tokens.{names_of}
use Rattle.use_highlighter.proofs.Rows.{IsCutTo, cut-more, cut-none, cut-rest, piece}
use Rattle.use_highlighter.proofs.pieces.cut.Goals.{In_ok-push-2}
use Rattle.use_highlighter.proofs.pieces.cut.Goals as goal

pub loop-item-init : goal.loop-item-init
loop-item-init c = record {
  can = tt;
  finite = tt;
  reached = reached-unlimited c.args.text.now _ _ c.utf8.text c.in_ok-item-items.ensures.answers.unlimited c.in_ok-item-items.ensures.in_text c.into_iter-item-iterator.ensures.into_iter_gives;
  cut = cut-none c.args.text.now (names_of c.args.tokens.now) _ c.into_iter-item-iterator.result.answers c.new-pieces.result.items
      (ap (λ (it : RemainingView). it.answers) c.into_iter-item-iterator.ensures.into_iter_gives ∙ c.in_ok-item-items.ensures.answers.answers) c.new-pieces.ensures.items;
}

-- what holds once a match is cut
cut-to : (c : In_ok-push-2) (to : ℕ) → to ≡ (answer_of c.in_ok-found.found).range.1
    → IsReached c.args.text.now false to c.next.new.self
    × IsCutTo c.args.text.now (names_of c.args.tokens.now) (utf8_answers c.args.re.now c.args.text.now 0) c.next.new.self.answers to c.push-in-loop-item.new.pieces.items
cut-to c to is =
    let text = c.args.text.now in
    let found = c.in_ok-found.found in
    let so_far = c.loop-item.pieces.items in
    let takes = takes-next text false c.loop-item.from c.loop-item.item-iterator c.next.new.self _ found c.loop-item.invariant.reached c.in-Some.ensures.steps c.in_ok-found.was in (
      takes.reached to is,
      cut-more text (names_of c.args.tokens.now) _ c.loop-item.item-iterator.answers c.next.new.self.answers (answer_of found) c.loop-item.from to c.token_of-token.result
          so_far c.push.new.pieces.items c.push-in-loop-item.new.pieces.items c.loop-item.invariant.cut takes.next takes.before takes.fits.whole is c.token_of-token.ensures
          (c.in_ok-push.ensures ∙ ap (λ start. so_far ++ piece c.loop-item.from start None ∷ []) c.start.ensures)
          (c.in_ok-push-2.ensures ∙ ap₂ (λ start end. c.push.new.pieces.items ++ piece start end (Some c.token_of-token.result) ∷ []) c.start-in-loop-item.ensures c.end.ensures),
    )

pub loop-item-preserved : goal.loop-item-preserved
loop-item-preserved c = let w = cut-to (goal.at.loop-item-preserved c).In_ok-push-2 c.end-from.result c.end-from.ensures in record { can = tt; finite = tt; reached = w.0; cut = w.1 }

pub loop-item-preserved-in_ok-push-2 : goal.loop-item-preserved-in_ok-push-2
loop-item-preserved-in_ok-push-2 c = let w = cut-to (goal.at.loop-item-preserved-in_ok-push-2 c).In_ok-push-2 c.end-from.result c.end-from.ensures in record { can = tt; finite = tt; reached = w.0; cut = w.1 }

pub returns-clause-cut : goal.returns-clause-cut
returns-clause-cut c =
    cut-rest c.args.text.now (names_of c.args.tokens.now) _ c.loop-item.item-iterator.answers c.loop-item.from c.loop-item.pieces.items c.push-2.new.pieces.items c.loop-item.invariant.cut
    c.in-None.ensures.steps.0 (c.loop-item.invariant.reached.boundary.0, c.loop-item.invariant.reached.boundary, IsCharBoundary-end c.args.text.now) c.in_ok-push-3.ensures
