use Rattle.std.proofs.Common.{◌∙◌, ap, sym, subst, ◌∷◌, [], map, string_bytes}
use Rattle.std.specs.Prelude.{IfSome, option_map}
use Rattle.regex_meaning.specs.Replace.{literal, group_part, named_part, text_of}
use Rattle.regress_search.specs.MatchesAsSpecAnswers.{answer_of, range_as_pair}
use Rattle.regress_match.specs.ReplacementPartsAsSpecParts.{spec_parts_of_substitution}
use Rattle.regress_match.specs.ExpansionsAndMatchRanges.{IsCharBoundaryRange}
use Rattle.regress_match.proofs.ReplacementExpansionLemmas.{named-fits, dollar-written, part-written}
use Rattle.regress_match.proofs.api.replace.expansion.append_part_expansion.Goals as goal

pub append_text_of_range-requires-in-Named : goal.append_text_of_range-requires-in-Named
append_text_of_range-requires-in-Named c =
    subst (λ r. IfSome r (IsCharBoundaryRange c.args.text.now)) (sym c.named_group.ensures) (named-fits c.args.text.now (answer_of c.args.found.now) c.requires c.in-Named.name.now)

pub returns-in_ok-push-in-Dollar : goal.returns-in_ok-push-in-Dollar
returns-in_ok-push-in-Dollar c =
    dollar-written c.args.text.now (answer_of c.args.found.now) c.push_str.result _ (string_bytes c.push.new.self) (string_bytes c.args.out.now) c.in-Dollar.behind.now (spec_parts_of_substitution c.args.part)
    c.in_ok-push-in-Dollar.ensures.bytes c.push_str.ensures.bytes
    (ap spec_parts_of_substitution c.in-Dollar.is ∙ ap (λ b. literal 36 ∷ map literal b.now) (sym c.in-Dollar.behind-is))

pub returns-in-Group : goal.returns-in-Group
returns-in-Group c =
    part-written c.args.text.now (answer_of c.args.found.now) c.append_text_of_range.result _ (string_bytes c.args.out.now) (option_map range_as_pair c.group.result) (group_part c.in-Group.number) (spec_parts_of_substitution c.args.part)
    c.append_text_of_range.ensures (ap (text_of c.args.text.now (answer_of c.args.found.now)) c.group.ensures)
    (ap spec_parts_of_substitution c.in-Group.is ∙ ap (λ n. group_part n ∷ []) (sym c.in-Group.number-is))

pub returns-in-Named : goal.returns-in-Named
returns-in-Named c =
    part-written c.args.text.now (answer_of c.args.found.now) c.append_text_of_range-in-Named.result _ (string_bytes c.args.out.now) (option_map range_as_pair c.named_group.result) (named_part c.in-Named.name.now)
    (spec_parts_of_substitution c.args.part) c.append_text_of_range-in-Named.ensures (ap (text_of c.args.text.now (answer_of c.args.found.now)) c.named_group.ensures)
    (ap spec_parts_of_substitution c.in-Named.is ∙ ap (λ b. named_part b.now ∷ []) (sym c.in-Named.name-is))
