use Rattle.std.proofs.Common.{◌∙◌, ap}
use Rattle.regex_meaning.specs.StartPredicate.{first_bytes}
use Rattle.regress_program.proofs.FirstBytesOfSetsLemmas.{first_bytes-inverted}
use Rattle.regress_program.proofs.startpredicate.first_bytes_of_chars_and_classes.first_bytes_of_class.Goals as goal

pub returns-in_ok-outside-clause-bytes : goal.returns-in_ok-outside-clause-bytes
returns-in_ok-outside-clause-bytes c =
    rw c.if-contents.true
    (c.first_bytes_of_intervals.ensures ∙ ap first_bytes c.intervals.ensures ∙ first_bytes-inverted c.args.contents.now.cps _ c.in_ok-outside.ensures.members)
