use Rattle.std.proofs.Common.{◌∙◌, ap, map}
use Rattle.std.specs.Option.{option_to_list}
use Rattle.std.proofs.lemmas.Result.{IfOk-weaker}
use Rattle.regress_search.specs.MatchesAsSpecAnswers.{answer_of}
use Rattle.use_regexp.proofs.TurnLemmas.{taken-all, taken-one}
use Rattle.use_regexp.proofs.pattern.Pattern.matches_of_call.Goals as goal

pub returns-then-self-clause-taken : goal.returns-then-self-clause-taken
returns-then-self-clause-taken c =
    IfOk-weaker c.all_matches_from_index.result _ _
    (λ v h. taken-all c.args.self.now c.args.text.now c.args.first c.args.last_index (map answer_of v.items) c.if-self.true h) c.all_matches_from_index.ensures.taken

pub returns-clause-taken : goal.returns-clause-taken
returns-clause-taken c =
    taken-one c.args.self.now c.args.text.now c.args.first c.args.last_index (map answer_of c.in_ok-matches.matches.items) c.if-self.false
    (c.in_ok-matches.ensures ∙ ap option_to_list c.in_ok-found.ensures.found)
