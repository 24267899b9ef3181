use Rattle.std.proofs.Common.{◌∙◌, ◌++◌, map, sym, ap, append-nil, true, false}
use Rattle.std.specs.List.{list_any}
use Rattle.regex_meaning.specs.Outcomes.{in_intervals}
use Rattle.regex_meaning.specs.CharacterClasses.{single_code_point_interval}
use Rattle.regex_pattern_front.specs.Intervals.{interval_of}
use Rattle.regex_parser.proofs.LetterCaseClosureLemmas.{closing-as}
use Rattle.regex_parser.proofs.ClassReaderLemmas.{ok-on}
use Rattle.regex_parser.proofs.character_class_parser.add_letter_fold_variants.Goals as goal

pub returns-then-not-has_any : goal.returns-then-not-has_any
returns-then-not-has_any c =
    sym (append-nil (map interval_of c.args.intervals.now.items))
    ∙ ap (λ x. map interval_of c.args.intervals.now.items ++ x)
    (closing-as (in_intervals c.args.set.now) c.args.upper c.args.unicode c.in_ok-letters.letters.items false c.in_ok-letters.ensures
    (sym c.if-not-has_any.true ∙ c.has_any.ensures ∙ ap (λ x. list_any (in_intervals c.args.set.now) x) c.deref.ensures.value))

pub returns : goal.returns
returns c =
    ok-on _ c.add_each.result c.add_each.ensures
    (λ h. h
    ∙ ap (λ x. map interval_of c.args.intervals.now.items ++ x)
    (ap (λ x. map single_code_point_interval x) c.deref-2.ensures.value
    ∙ closing-as (in_intervals c.args.set.now) c.args.upper c.args.unicode c.in_ok-letters.letters.items true c.in_ok-letters.ensures
    (sym c.if-not-has_any.false ∙ c.has_any.ensures ∙ ap (λ x. list_any (in_intervals c.args.set.now) x) c.deref.ensures.value)))
