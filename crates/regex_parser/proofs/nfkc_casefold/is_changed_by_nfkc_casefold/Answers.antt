use Rattle.std.proofs.Common.{◌++◌, sym, ap, ◌∙◌}
use Rattle.std.specs.Prelude.{encode_utf8}
use Rattle.regex_parser.proofs.NfkcCasefoldLemmas.{ignorable-changes, itself-unchanged, changes-if_not_same}
use Rattle.regex_parser.proofs.nfkc_casefold.is_changed_by_nfkc_casefold.Goals as goal

pub returns-then-is_default_ignorable_code_point : goal.returns-then-is_default_ignorable_code_point
returns-then-is_default_ignorable_code_point c = ignorable-changes c.args.c (sym c.is_default_ignorable_code_point.ensures ∙ c.if-is_default_ignorable_code_point.true)

pub returns-then-is_mapped_to_itself : goal.returns-then-is_mapped_to_itself
returns-then-is_mapped_to_itself c =
    itself-unchanged c.args.c (sym c.is_default_ignorable_code_point.ensures ∙ c.if-is_default_ignorable_code_point.false)
    (c.is_mapped_to_itself.ensures c.if-is_mapped_to_itself.true)

pub returns : goal.returns
returns c =
    changes-if_not_same c.args.c c.as_str.result.now c.as_str-2.result.now c.as_str-3.result.now c.ne.result
    (sym c.is_default_ignorable_code_point.ensures ∙ c.if-is_default_ignorable_code_point.false) c.as_str.utf8
    (c.as_str.ensures.value ∙ c.in_ok-folded.ensures) (c.as_str-2.ensures.value ∙ c.in_ok-normalized.ensures)
    (c.as_str-3.ensures.value ∙ c.in_ok-push.ensures.bytes ∙ ap (λ x. x ++ encode_utf8 c.args.c) c.new-itself.ensures.bytes) c.ne.ensures
