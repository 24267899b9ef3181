use Rattle.std.proofs.Common.{◌≡◌, refl, false}
use Rattle.std.specs.Prelude.{◌&&◌}
use Rattle.std.proofs.lemmas.Bool.{and_right}
use Rattle.regex_meaning.specs.CharacterClasses.{has_set_operation}
use Rattle.regex_parser.proofs.ClassReaderLemmas.{class-read}
use Rattle.regex_parser.proofs.character_class_parser.read_class.Goals.{then-flags+in_ok-no_set_operation, else-flags}
use Rattle.regex_parser.proofs.character_class_parser.read_class.Goals as goal

pub returns-clause-text : goal.returns-clause-text
returns-clause-text c =
    let none : (c.args.flags.unicode_sets && has_set_operation c.args.reader.now.rest.now) ≡ false =
    elim c.if-flags.branch [
      | then-flags+in_ok-no_set_operation w ↦ and_right c.args.flags.unicode_sets _ w.in_ok-no_set_operation.ensures
      | else-flags w ↦ rw w.if-flags.false refl
    ] in
    class-read c.eat-invert.result none c.eat-invert.ensures.text c.in_ok-ranges.ensures.text.1 c.in_ok-ranges.ensures.text.2
