use Rattle.std.proofs.Common.{◌∙◌, ap, sym}
use Rattle.std.specs.Prelude.{nat_lt, ◌&&◌}
use Rattle.regex_meaning.specs.Outcomes.{in_intervals}
use Rattle.regex_meaning.specs.StartPredicate.{bytes_that_pass}
use Rattle.regex_meaning.proofs.BoolLemmas.{and-right}
use Rattle.regress_program.proofs.AsciiIntervalMembers.{ascii_bytes}
use Rattle.regress_program.proofs.emit.brackets.ascii_bitmap.Goals as goal

pub returns-clause-members : goal.returns-clause-members
returns-clause-members c =
    c.ascii_members.ensures ∙ ap (λ xs. bytes_that_pass (λ b. nat_lt b 128 && in_intervals xs b)) c.intervals.ensures
    ∙ ascii_bytes c.args.contents.now.cps (and-right _ _ (sym c.if-not-is_ascii.ensures))
