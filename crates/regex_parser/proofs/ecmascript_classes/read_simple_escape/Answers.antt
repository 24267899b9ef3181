use Rattle.std.proofs.Common.{◌∙◌}
use Rattle.std.proofs.lemmas.Bool.{not-true, not-false}
use Rattle.regex_meaning.specs.EcmaClasses.{backspace, dash}
use Rattle.regex_pattern_front.specs.AstToSpecTree.{spec_flags_of}
use Rattle.regex_parser.proofs.EcmaClassLemmas.{control-escape, no-dash}
use Rattle.regex_parser.proofs.ecmascript_classes.read_simple_escape.Goals as goal

pub returns-then-eat-clause-text : goal.returns-then-eat-clause-text
returns-then-eat-clause-text c = backspace c.if-eat.ensures.text

pub returns-then-not-flags-clause-text : goal.returns-then-not-flags-clause-text
returns-then-not-flags-clause-text c =
    control-escape (spec_flags_of c.args.flags) c.args.reader.now.rest.now _ c.read_class_control.result (not-true c.args.flags.unicode c.if-not-flags.true) c.if-eat.ensures.text.1
    (rw c.if-eat.ensures.text.0 at c.read_class_control.ensures.text)

pub returns-then-eat-2-clause-text : goal.returns-then-eat-2-clause-text
returns-then-eat-2-clause-text c = dash (not-false c.args.flags.unicode c.if-not-flags.false) (rw c.if-eat.ensures.text.0 at c.if-eat-2.ensures.text)

pub returns-else-eat-2-clause-text : goal.returns-else-eat-2-clause-text
returns-else-eat-2-clause-text c = (
  c.if-eat-2.ensures.text.0 ∙ c.if-eat.ensures.text.0,
  no-dash (not-false c.args.flags.unicode c.if-not-flags.false) c.if-eat.ensures.text.1 (rw c.if-eat.ensures.text.0 at c.if-eat-2.ensures.text.1),
)
