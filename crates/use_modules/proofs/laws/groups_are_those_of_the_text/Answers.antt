use Rattle.regress_match.specs.ProgramTreesAndAnswers.{tree_for_16_bit_units}
use Rattle.use_modules.proofs.laws.groups_are_those_of_the_text.Goals as goal

pub returns : goal.returns
returns c = λ flags pattern is.
    let tree = tree_for_16_bit_units c.args.re.now in
    ((c.scan_counts_pattern_groups.ensures flags pattern tree is.parsed).0, c.scan_finds_group_names.ensures flags pattern tree is.parsed)
