use Rattle.std.proofs.Common.{◌≡◌, ◌++◌, ◌-◌, length}
use Rattle.regress_search.specs.MatchesAsSpecAnswers.{answer_of}
use Rattle.use_regexp.specs.Template.{said_in}
use Rattle.use_regexp.proofs.template.substitute.Given as goal

abbrev pub invariant-signs : goal.invariant-signs
invariant-signs l =
    l.out.items ++ said_in l.text (answer_of l.found) (length l.template - l._turn) l.rest
    ≡ l.initial.out.items ++ said_in l.text (answer_of l.found) (length l.template) l.template
