use Rattle.std.proofs.Common.{◌≡◌, false, sym, ap, ◌∙◌}
use Rattle.regex_parser.specs.EcmaReaderContracts.{is_allowed_as_name_character}
use Rattle.regex_parser.proofs.EscapeLemmas.{scalar-same}
use Rattle.regex_parser.proofs.EcmaNameLemmas.{no-character}
use Rattle.regex_parser.proofs.ecmascript_group_name_reader.read_name_character.Goals.{in_default-from_u32-via-in-Some-from_u32+else-is_allowed_in_name, in_default-from_u32-via-in_default-from_u32}
use Rattle.regex_parser.proofs.ecmascript_group_name_reader.read_name_character.Goals as goal

pub returns-in_default-from_u32-clause-text : goal.returns-in_default-from_u32-clause-text
returns-in_default-from_u32-clause-text c =
    let none : is_allowed_as_name_character c.args.is_first c.in-Some.c ≡ false = elim c.in_default-from_u32.branch [
      | in_default-from_u32-via-in-Some-from_u32+else-is_allowed_in_name w ↦
          let same : w.in-Some-from_u32.letter ≡ c.in-Some.c = scalar-same c.from_u32.ensures.value w.in-Some-from_u32.is in
          ap (is_allowed_as_name_character c.args.is_first) (sym same) ∙ sym w.is_allowed_in_name.ensures ∙ w.if-is_allowed_in_name.false
      | in_default-from_u32-via-in_default-from_u32 w ↦ no-character c.args.is_first c.in-Some.c (rw w.in_default-from_u32.is at c.from_u32.ensures.cases)
    ] in
    (c.in-Some.ensures.text c.args.is_first).1 none
