use Rattle.std.proofs.Common.{◌∙◌, ap, refl}
use Rattle.std.proofs.lemmas.Bool.{not-true, not-false}
use Rattle.regex_meaning.specs.Outcomes.{in_intervals}
use Rattle.regex_parser.specs.ClassReaderContracts.{is_in_any_interval}
use Rattle.regex_pattern_front.specs.AstToSpecTree.{spec_flags_of}
use Rattle.regex_parser.proofs.ClassReaderLemmas.{ok-both}
use Rattle.regex_parser.proofs.EcmaClassLemmas.{closure-plain, closure-all}
use Rattle.regex_parser.proofs.ecmascript_classes.canonical_closure.Goals as goal

pub returns-then-not-flags : goal.returns-then-not-flags
returns-then-not-flags c =
    closure-plain (spec_flags_of c.args.flags) (is_in_any_interval c.args.intervals.items) c.in_ok-set.set (not-true c.args.flags.icase c.if-not-flags.true) c.in_ok-set.ensures.apart
    (λ d. c.in_ok-set.ensures.members d ∙ ap (λ x. is_in_any_interval x d) c.deref.ensures.value)

pub returns : goal.returns
returns c =
    ok-both c.from_intervals-2.result c.from_intervals-2.ensures.members c.from_intervals-2.ensures.apart
    (λ s members apart. closure-all (spec_flags_of c.args.flags) (is_in_any_interval c.args.intervals.items) (in_intervals c.in_ok-set.set) c.args.intervals.items c.add_canonical_variants.new.intervals.items s
    (not-false c.args.flags.icase c.if-not-flags.false) (λ d. refl)
    (λ d. c.in_ok-set.ensures.members d ∙ ap (λ x. is_in_any_interval x d) c.deref.ensures.value)
    c.in_ok-add_canonical_variants.ensures
    apart (λ d. members d ∙ ap (λ x. is_in_any_interval x d) c.deref-2.ensures.value))
