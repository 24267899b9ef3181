use Rattle.std.proofs.Common.{◌≡◌, ◌∙◌, ap, nat_le, not, rules, subst, sym}
use Rattle.regress_match.specs.ProgramTreesAndAnswers.{ascii_answers}
use Rattle.regress_match.specs.ExpansionsAndMatchRanges.{MatchesFitTextInOrderFrom}
use Rattle.regress_match.proofs.MatchRangeLemmas.{ascii-stand}
use Rattle.regress_match.proofs.SearchStartLemmas.{ascii_start, ascii_units}
use Rattle.regress_match.proofs.api.regex.Regex.find_from_ascii_in_work.Goals as goal

pub new-matches-requires : goal.new-matches-requires
new-matches-requires c = ascii_start _ c.args.text.now _ c.in_ok-executor.ensures.text c.args.start

pub returns-clause-ended : goal.returns-clause-ended
returns-clause-ended c =
    c.new-matches.ensures.ended
    ∙ ap (λ n. not (nat_le c.args.start n)) (ascii_units _ c.args.text.now _ c.in_ok-executor.ensures.text)

pub returns-clause-in_text : goal.returns-clause-in_text
returns-clause-in_text c =
    let text = c.args.text.now in
    let yields : c.new-matches.result.remaining.answers ≡ ascii_answers c.args.self.now text c.args.start = search rules in
    subst (MatchesFitTextInOrderFrom text c.args.start) (sym yields) (ascii-stand c.args.self.now text c.args.start c.utf8.text c.requires)
