use Rattle.std.proofs.Common.{◌∙◌, ap, sym}
use Rattle.std.proofs.lemmas.List.Folds.{list_all-map}
use Rattle.std.specs.Prelude.{nat_lt, ◌||◌}
use Rattle.std.specs.List.{list_all}
use Rattle.regex_pattern_front.specs.Intervals.{interval_of}
use Rattle.regress_program.proofs.emit.brackets.is_ascii.Goals as goal

pub returns-then-not-contents : goal.returns-then-not-contents
returns-then-not-contents c =
    let sets = ap (list_all (λ i. nat_lt i.1 128 || nat_lt i.1 i.0)) c.intervals.ensures in
    let seen = list_all-map (λ i. nat_lt i.1 128 || nat_lt i.1 i.0) interval_of c.intervals.result.now in
    rw c.if-not-contents.true (c.intervals_are_ascii.ensures ∙ sym seen ∙ sets)
