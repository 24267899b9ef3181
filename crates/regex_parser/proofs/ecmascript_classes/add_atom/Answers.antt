use Rattle.std.proofs.Common.{◌∙◌, ap, sym, ◌||◌, false}
use Rattle.regex_meaning.specs.Outcomes.{in_intervals}
use Rattle.regex_meaning.specs.EcmaClasses.{class_member_contains}
use Rattle.regex_parser.specs.ClassReaderContracts.{is_in_any_interval}
use Rattle.regex_parser.specs.declared.ecmascript_classes.AtomValue.TheVariants.{Letter}
use Rattle.regex_pattern_front.specs.AstToSpecTree.{spec_flags_of}
use Rattle.regex_parser.specs.EcmaClassContracts.{member_of_atom}
use Rattle.regex_parser.proofs.EcmaClassLemmas.{adds-set}
use Rattle.regex_parser.proofs.ecmascript_classes.add_atom.Goals as goal

pub returns-in_ok-append_intervals-in-Letter : goal.returns-in_ok-append_intervals-in-Letter
returns-in_ok-append_intervals-in-Letter c =
    let f = spec_flags_of c.args.flags in
    λ d. ap (λ x. is_in_any_interval x d) c.in_ok-append_intervals-in-Letter.ensures
    ∙ adds-set c.args.intervals.now.items c.intervals.result.now (member_of_atom f (Letter c.in-Letter.escape))
    (λ e. ap (λ x. in_intervals x e) c.intervals.ensures ∙ c.in_ok-set-in-Letter.ensures e) d
    ∙ ap (λ a. is_in_any_interval c.args.intervals.now.items d || (class_member_contains (member_of_atom f a) d || false)) (sym c.in-Letter.is)
