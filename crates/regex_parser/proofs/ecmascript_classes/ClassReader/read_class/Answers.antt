use Rattle.regex_parser.proofs.EcmaClassLemmas.{class-read}
use Rattle.regex_parser.proofs.ecmascript_classes.ClassReader.read_class.Goals as goal

pub returns-clause-text : goal.returns-clause-text
returns-clause-text c = class-read c.eat-invert.result c.eat-invert.ensures.text c.in_ok-read_ranges.ensures.text.1 c.in_ok-read_ranges.ensures.text.2
