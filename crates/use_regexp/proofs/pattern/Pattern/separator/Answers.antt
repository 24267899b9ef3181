use Rattle.std.specs.Prelude.{option_map}
use Rattle.regress_search.specs.MatchesAsSpecAnswers.{answer_of}
use Rattle.use_regexp.proofs.SplitLemmas.{separator-is, separator-stands-if}
use Rattle.use_regexp.proofs.pattern.Pattern.separator.Goals as goal

pub returns-clause-found : goal.returns-clause-found
returns-clause-found c =
    separator-is c.args.self.now c.args.text.now c.args.from (option_map answer_of c.in_ok-first.first) (option_map answer_of c.in_ok-chosen.chosen) _
    c.in_ok-first.ensures.found c.in_ok-chosen.ensures.chosen c.before_end.ensures

pub returns-clause-stands : goal.returns-clause-stands
returns-clause-stands c =
    separator-stands-if c.args.self.now c.args.text.now (λ k _. (c.type_inv.text k).fits) c.args.from _ (returns-clause-found c)
