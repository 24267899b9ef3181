use Rattle.std.proofs.Common.{◌∙◌, ap, true, false}
use Rattle.regex_meaning.specs.CharacterClasses.{has_set_operation}
use Rattle.regex_parser.proofs.ClassReaderLemmas.{sets-closed, sets-by}
use Rattle.regex_parser.proofs.character_class_parser.no_set_operation.Goals as goal

pub returns-then-c : goal.returns-then-c
returns-then-c c = c.loop-c.invariant ∙ sets-closed _ _ c.in-Some.c c.in-Some.ensures.text c.if-c.true

pub returns-then-begins_nested_class_or_operation : goal.returns-then-begins_nested_class_or_operation
returns-then-begins_nested_class_or_operation c =
    c.loop-c.invariant
    ∙ sets-by _ _ c.in-Some.c _ _ true c.in-Some.ensures.text c.if-c.false c.peek.ensures.text c.begins_nested_class_or_operation.ensures c.if-begins_nested_class_or_operation.true

pub loop-c-preserved : goal.loop-c-preserved
loop-c-preserved c =
    c.loop-c.invariant
    ∙ sets-by _ _ c.in-Some.c _ _ false c.in-Some.ensures.text c.if-c.false c.peek.ensures.text c.begins_nested_class_or_operation.ensures c.if-begins_nested_class_or_operation.false

pub returns : goal.returns
returns c = c.loop-c.invariant ∙ ap has_set_operation c.in_default.ensures.text
