use Rattle.std.proofs.Common.{◌∙◌, ◌++◌, ap, map}
use Rattle.std.proofs.lemmas.List.{take_rest}
use Rattle.regress_search.specs.MatchesAsSpecAnswers.{answer_of}
use Rattle.regress_match.proofs.StringClosureLemmas.{replaced-end, replaced-more}
use Rattle.use_regexp.specs.Template.{substitution}
use Rattle.use_regexp.proofs.Replaced.{map-none, stand-behind}
use Rattle.use_regexp.proofs.replacing.replace_matches_by_template.Goals as goal

pub loop-found-preserved : goal.loop-found-preserved
loop-found-preserved c =
    let next = ap (map answer_of) c.in-Some.ensures.cases.0 in
    let from = c.loop-found.from in
    record {
      stand = stand-behind c.args.text.now from c.in_ok-from.from _ (map answer_of c.in-Some.behind.now) _ c.loop-found.invariant.stand next c.in_ok-from.ensures.behind;
      whole =
          replaced-more c.args.text.now (λ m. substitution c.args.text.now m c.args.template.now) c.loop-found.made.items c.append_units_before_match.new.made.items c.substitute.new.out.items _ from c.in_ok-from.from
          (map answer_of c.loop-found.rest.now) (map answer_of c.in-Some.behind.now) (answer_of c.in-Some.found.now) c.loop-found.invariant.whole next
          c.in_ok-from.ensures.made c.in_ok-substitute.ensures c.in_ok-from.ensures.behind;
    }

pub returns : goal.returns
returns c =
    let text = c.args.text.now in
    replaced-end text (λ m. substitution text m c.args.template.now) c.loop-found.made.items _ _ c.loop-found.from (map answer_of c.loop-found.rest.now) c.loop-found.invariant.whole
    (map-none answer_of c.loop-found.rest.now c.in_default.ensures.cases)
    (c.in_ok-extend_from_slice.ensures.items ∙ ap (λ t. c.loop-found.made.items ++ t) (take_rest text c.loop-found.from))
