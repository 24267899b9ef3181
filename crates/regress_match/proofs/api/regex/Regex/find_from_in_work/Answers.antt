use Rattle.std.proofs.Common.{◌≡◌, ◌∙◌, ap, nat_le, not, rules, subst, sym}
use Rattle.regress_match.specs.ProgramTreesAndAnswers.{utf8_answers}
use Rattle.regress_match.specs.ExpansionsAndMatchRanges.{MatchesFitTextInOrderFrom}
use Rattle.regress_match.proofs.MatchRangeLemmas.{matches-stand}
use Rattle.regress_match.proofs.SearchStartLemmas.{utf8_start, utf8_units}
use Rattle.regress_match.proofs.api.regex.Regex.find_from_in_work.Goals as goal

pub new-matches-requires : goal.new-matches-requires
new-matches-requires c = utf8_start _ c.args.text.now _ c.in_ok-executor.ensures.text c.utf8.text c.args.start c.requires

pub returns-clause-ended : goal.returns-clause-ended
returns-clause-ended c =
    c.new-matches.ensures.ended
    ∙ ap (λ n. not (nat_le c.args.start n)) (utf8_units _ c.args.text.now _ c.in_ok-executor.ensures.text c.utf8.text)

pub returns-clause-in_text : goal.returns-clause-in_text
returns-clause-in_text c =
    let text = c.args.text.now in
    let yields : c.new-matches.result.remaining.answers ≡ utf8_answers c.args.self.now text c.args.start = search rules in
    subst (MatchesFitTextInOrderFrom text c.args.start) (sym yields) (matches-stand c.args.self.now text c.args.start c.utf8.text)
