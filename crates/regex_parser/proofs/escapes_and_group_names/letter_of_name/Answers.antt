use Rattle.std.proofs.Common.{◌≡◌, ◌∙◌, sym, false}
use Rattle.std.specs.Prelude.{if◌then◌else◌}
use Rattle.regex_meaning.specs.EscapesNamesQuantifiers.{is_ascii_identifier_start, is_ascii_identifier_part}
use Rattle.regex_parser.proofs.EscapeLemmas.{scalar-same}
use Rattle.regex_parser.proofs.GroupNameLemmas.{no_letter_of_name}
use Rattle.regex_parser.proofs.escapes_and_group_names.letter_of_name.Goals as goal

pub returns-in_default : goal.returns-in_default
returns-in_default c =
    let none : (if c.args.is_first then is_ascii_identifier_start c.in-Some.letter else is_ascii_identifier_part c.in-Some.letter) ≡ false =
    sym c.is_allowed_in_name.ensures ∙ c.if-is_allowed_in_name.false in
    let same : c.in-Some.letter ≡ c.args.c = scalar-same {o = c.from_u32.result} {c = c.args.c} {x = c.in-Some.letter} c.from_u32.ensures.value c.in-Some.is in
    rw same at none

pub returns-in_default-2 : goal.returns-in_default-2
returns-in_default-2 c = no_letter_of_name c.args.c c.args.is_first (rw c.in_default.is at c.from_u32.ensures.cases)
