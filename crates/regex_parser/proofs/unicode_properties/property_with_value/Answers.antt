use Rattle.std.proofs.Common.{◌∙◌, sym}
use Rattle.regex_parser.proofs.ClassReaderLemmas.{ok-map}
use Rattle.regex_parser.proofs.PropertyTableLemmas.{with-category, with-script, with-extension, with-none}
use Rattle.regex_parser.proofs.unicode_properties.property_with_value.Goals as goal

pub returns-then-is_either : goal.returns-then-is_either
returns-then-is_either c =
    ok-map c.general_category_named.result c.general_category_named.ensures
    (λ p h. h ∙ with-category c.args.property.now c.args.value.now (sym c.is_either.ensures ∙ c.if-is_either.true))

pub returns-then-is_either-2 : goal.returns-then-is_either-2
returns-then-is_either-2 c =
    ok-map c.listed_value.result c.listed_value.ensures
    (λ p h. h ∙ with-script c.args.property.now c.args.value.now (sym c.is_either.ensures ∙ c.if-is_either.false) (sym c.is_either-2.ensures ∙ c.if-is_either-2.true))

pub returns-then-is_either-3 : goal.returns-then-is_either-3
returns-then-is_either-3 c =
    ok-map c.listed_value-then-is_either-3.result c.listed_value-then-is_either-3.ensures
    (λ p h. h ∙ with-extension c.args.property.now c.args.value.now (sym c.is_either.ensures ∙ c.if-is_either.false) (sym c.is_either-2.ensures ∙ c.if-is_either-2.false)
    (sym c.is_either-3.ensures ∙ c.if-is_either-3.true))

pub returns : goal.returns
returns c =
    with-none c.args.property.now c.args.value.now (sym c.is_either.ensures ∙ c.if-is_either.false) (sym c.is_either-2.ensures ∙ c.if-is_either-2.false)
    (sym c.is_either-3.ensures ∙ c.if-is_either-3.false)
