use Rattle.std.proofs.Common.{◌≡◌, ◌∙◌, ap, map, sym}
use Rattle.std.specs.Prelude.{Some, option_map}
use Rattle.regress_search.specs.MatchesAsSpecAnswers.{answer_of}
use Rattle.use_regexp.specs.Exec.{found}
use Rattle.use_regexp.proofs.TurnLemmas.{found-stands, goes-end, goes-more, goes-none, turn-smaller}
use Rattle.use_regexp.proofs.pattern.Pattern.all_matches_from_index.Goals as goal

pub turns-init : goal.turns-init
turns-init c = goes-none c.args.self.now c.args.text.now c.args.first c.new-matches.result.items c.new-matches.ensures.items

pub turns-preserved : goal.turns-preserved
turns-preserved c =
    goes-more c.args.self.now c.args.text.now c.args.first c.turns.last c.index_after_match-last.result c.turns.matches.items c.push_match.new.matches.items c.in-Some.found c.turns.invariant
    (sym c.in_ok-found.ensures.found ∙ ap (option_map answer_of) c.in-Some.is) c.index_after_match-last.ensures c.in_ok-push_match.ensures

pub turns-smaller : goal.turns-smaller
turns-smaller c =
    let e : found c.args.self.now c.args.text.now c.turns.last ≡ Some (answer_of c.in-Some.found) = sym c.in_ok-found.ensures.found ∙ ap (option_map answer_of) c.in-Some.is in
    turn-smaller c.args.self.now c.args.text.now c.turns.last c.index_after_match-last.result (answer_of c.in-Some.found) c.requires
    (found-stands c.args.self.now c.args.text.now (λ k _. (c.type_inv.text k).fits) c.turns.last (answer_of c.in-Some.found) e) c.index_after_match-last.ensures

pub returns-clause-taken : goal.returns-clause-taken
returns-clause-taken c =
    goes-end c.args.self.now c.args.text.now c.args.first c.turns.last (map answer_of c.turns.matches.items) c.turns.invariant
    (sym c.in_ok-found.ensures.found ∙ ap (option_map answer_of) c.in_default.is)
