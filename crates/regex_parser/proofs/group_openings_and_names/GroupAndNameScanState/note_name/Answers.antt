use Rattle.std.proofs.Common.{◌∷◌, [], refl, ap, string_bytes}
use Rattle.regex_parser.specs.CodePointReaderContracts.{is_syntax_error}
use Rattle.regex_parser.specs.SyntaxDialects.{spec_syntax_of}
use Rattle.regex_parser.proofs.GroupScanLemmas.{records-named, records-nameless, opens-wrong, name-positive, on-all}
use Rattle.regex_parser.proofs.group_openings_and_names.GroupAndNameScanState.note_name.Goals as goal

pub returns-in-Ok : goal.returns-in-Ok
returns-in-Ok c =
    let S = spec_syntax_of c.args.self.now.syntax in
    on-all _ _ _ c.number.result c.number.ensures.same c.number.ensures.named c.number.ensures.numbers
    (λ same some numbers. records-named S c.args.self.now c.number.new.self c.args.reader.rest.now c.read_name.new.reader.rest.now (string_bytes c.in-Ok.name)
    c.saturating_add-self.result c.in-Ok.ensures.text (name-positive c.args.self.now.syntax c.args.reader.rest.now c.read_name.new.reader.rest.now (string_bytes c.in-Ok.name) c.in-Ok.ensures.text) c.saturating_add-self.ensures same some numbers)

pub returns-in-Err-Refused : goal.returns-in-Err-Refused
returns-in-Err-Refused c =
    let S = spec_syntax_of c.args.self.now.syntax in
    let here = c.args.reader.rest.now in
    records-nameless S c.args.self.now (record c.args.self.now { groups = c.saturating_add-self.result }) ((63 ∷ 60 ∷ here) ∷ [])
    (opens-wrong S here (c.in-Err-Refused.ensures.text (ap is_syntax_error c.in-Err-Refused.field-0-is)) c.requires.0 c.requires.1) c.saturating_add-self.ensures refl refl refl
