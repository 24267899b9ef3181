use Rattle.std.proofs.Common.{◌∙◌, sym, refl}
use Rattle.regex_parser.specs.GrouplessTermContracts.{pattern_context}
use Rattle.regex_parser.proofs.EcmaTermLemmas.{number-reference, no-begin, no-names, no-name_reference, name-reference, err-reference}
use Rattle.regex_parser.proofs.ecmascript_terms.read_reference.Goals as goal

pub returns-then-is_nonzero_digit-clause-text : goal.returns-then-is_nonzero_digit-clause-text
returns-then-is_nonzero_digit-clause-text c = λ groups known.
    number-reference c.args.flags c.args.groups.count c.args.groups.named c.args.numbers.now groups _ _ c.peek.result c.read_group_number.result known c.peek.ensures.text
    (sym c.is_nonzero_digit.ensures ∙ c.if-is_nonzero_digit.true) c.read_group_number.ensures.text

pub returns-then-not-groups-clause-text : goal.returns-then-not-groups-clause-text
returns-then-not-groups-clause-text c = λ groups known. (
  refl,
  no-begin (pattern_context c.args.flags groups) _ c.peek.result c.peek.ensures.text (sym c.is_nonzero_digit.ensures ∙ c.if-is_nonzero_digit.false),
  λ h rest e. no-names known c.if-not-groups.true h,
)

pub returns-then-not-eat-clause-text : goal.returns-then-not-eat-clause-text
returns-then-not-eat-clause-text c = λ groups known. (
  c.if-not-eat.ensures.text.0,
  no-begin (pattern_context c.args.flags groups) _ c.peek.result c.peek.ensures.text (sym c.is_nonzero_digit.ensures ∙ c.if-is_nonzero_digit.false),
  λ h. c.if-not-eat.ensures.text.1,
)

pub returns-in_err-read_named_group-clause-text : goal.returns-in_err-read_named_group-clause-text
returns-in_err-read_named_group-clause-text c = λ groups known.
    err-reference (pattern_context c.args.flags groups) _ _ c.from_residual.result _ c.from_residual.ensures.1 (λ x h. h)
    (λ r. no-name_reference c.args.flags c.args.groups.count c.args.groups.named c.args.numbers.now groups _ _ known c.if-not-groups.false c.if-not-eat.ensures.text
    (c.in_err-read_named_group.ensures.text r))

pub returns-clause-text : goal.returns-clause-text
returns-clause-text c = λ groups known.
    name-reference c.args.flags c.args.groups.count c.args.groups.named c.args.numbers.now groups _ _ _ _ known c.if-not-groups.false c.if-not-eat.ensures.text
    c.in_ok-read_named_group.ensures.text.0
