use Rattle.std.proofs.Common.{◌≡◌, ◌∙◌, ◌++◌, false, ap, string_bytes}
use Rattle.regress_search.specs.MatchesAsSpecAnswers.{answer_of}
use Rattle.regress_search.specs.RemainingAnswers.{RemainingView}
use Rattle.regress_match.proofs.MatchRangeLemmas.{IsReached, reached-unlimited, takes-next}
use Rattle.use_grep.specs.Selecting.{colored, colored_from}
use Rattle.use_grep.proofs.Parts.{painted-more, painted-end}
use Rattle.use_grep.proofs.select.colored.Goals.{In_ok-from}
use Rattle.use_grep.proofs.select.colored.Goals as goal

pub loop-item-init : goal.loop-item-init
loop-item-init c = record {
  can = tt;
  finite = tt;
  reached =
      reached-unlimited c.args.line.now _ _ c.utf8.line c.in_ok-item-items.ensures.answers.unlimited c.in_ok-item-items.ensures.in_text
      c.into_iter-item-iterator.ensures.into_iter_gives;
  made =
      ap (λ bs. bs ++ colored_from c.args.line.now c.args.paint.start.now c.args.paint.end.now 0 c.into_iter-item-iterator.result.answers) c.new-made.ensures.bytes
      ∙ ap (colored_from c.args.line.now c.args.paint.start.now c.args.paint.end.now 0) (ap (λ (it : RemainingView). it.answers) c.into_iter-item-iterator.ensures.into_iter_gives ∙ c.in_ok-item-items.ensures.answers.answers);
}

pub push_match-requires-clause-before : goal.push_match-requires-clause-before
push_match-requires-clause-before c = (takes-next _ _ _ _ _ _ c.in_ok-found.found c.loop-item.invariant.reached c.in-Some.ensures.steps c.in_ok-found.was).before

pub push_match-requires-clause-fits : goal.push_match-requires-clause-fits
push_match-requires-clause-fits c = (takes-next _ _ _ _ _ _ c.in_ok-found.found c.loop-item.invariant.reached c.in-Some.ensures.steps c.in_ok-found.was).fits

-- what holds once a match is painted
written : (c : In_ok-from)
    → IsReached c.args.line.now false c.in_ok-from.from c.next.new.self
    × (string_bytes c.push_match.new.made ++ colored_from c.args.line.now c.args.paint.start.now c.args.paint.end.now c.in_ok-from.from c.next.new.self.answers ≡ colored c.args.re.now c.args.line.now c.args.paint.start.now c.args.paint.end.now)
written c =
    let line = c.args.line.now in
    let takes = takes-next line _ _ c.loop-item.item-iterator c.next.new.self _ c.in_ok-found.found c.loop-item.invariant.reached c.in-Some.ensures.steps c.in_ok-found.was in (
      takes.reached c.in_ok-from.from c.in_ok-from.ensures.behind,
      painted-more line c.args.paint.start.now c.args.paint.end.now (string_bytes c.loop-item.made) (string_bytes c.push_match.new.made) _ c.loop-item.from c.in_ok-from.from c.loop-item.item-iterator.answers c.next.new.self.answers
          (answer_of c.in_ok-found.found) c.loop-item.invariant.made takes.next c.in_ok-from.ensures.made c.in_ok-from.ensures.behind,
    )

pub loop-item-preserved : goal.loop-item-preserved
loop-item-preserved c = let w = written (goal.at.loop-item-preserved c).In_ok-from in record { can = tt; finite = tt; reached = w.0; made = w.1 }

pub loop-item-preserved-in_ok-from : goal.loop-item-preserved-in_ok-from
loop-item-preserved-in_ok-from c = let w = written (goal.at.loop-item-preserved-in_ok-from c).In_ok-from in record { can = tt; finite = tt; reached = w.0; made = w.1 }

pub returns-clause-colored : goal.returns-clause-colored
returns-clause-colored c =
    painted-end c.args.line.now c.args.paint.start.now c.args.paint.end.now (string_bytes c.loop-item.made) _ _ c.loop-item.from c.loop-item.item-iterator.answers c.loop-item.invariant.made c.in-None.ensures.steps.0 c.in_ok-push_rest_of_line.ensures
