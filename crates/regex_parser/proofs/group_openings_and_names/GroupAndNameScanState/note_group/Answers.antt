use Rattle.std.proofs.Common.{◌∷◌, [], refl, sym, subst}
use Rattle.regex_parser.specs.GroupReaderContracts.{RecordsFurtherGroupsInScan}
use Rattle.regex_parser.specs.SyntaxDialects.{spec_syntax_of}
use Rattle.regex_parser.proofs.ClassReaderLemmas.{ok-on}
use Rattle.regex_parser.proofs.GroupScanLemmas.{records-none, records-nameless, opens-capture, opens-plain, opens-look, opens-none}
use Rattle.regex_parser.proofs.group_openings_and_names.GroupAndNameScanState.note_group.Goals as goal

pub returns-in-Ok-Capture : goal.returns-in-Ok-Capture
returns-in-Ok-Capture c =
    let S = spec_syntax_of c.args.self.now.syntax in
    let t = rw c.in-Ok-Capture.field-0-is at c.in-Ok-Capture.ensures.text in
    records-nameless S c.args.self.now (record c.args.self.now { groups = c.saturating_add-self.result }) (c.args.reader.rest.now ∷ []) (opens-capture S c.args.reader.rest.now t.1) c.saturating_add-self.ensures refl refl refl

pub note_name-requires : goal.note_name-requires
note_name-requires c =
    let t = rw c.in-Ok-Named.field-0-is at c.in-Ok-Named.ensures.text in (t.1, t.2)

pub returns-in-Ok-Named : goal.returns-in-Ok-Named
returns-in-Ok-Named c =
    let S = spec_syntax_of c.args.self.now.syntax in
    let t = rw c.in-Ok-Named.field-0-is at c.in-Ok-Named.ensures.text in
    ok-on _ c.note_name.result c.note_name.ensures
    (λ h. subst (λ x. RecordsFurtherGroupsInScan S c.args.self.now c.note_name.new.self (x ∷ [])) (sym t.0) h)

pub returns-in-Ok-Plain : goal.returns-in-Ok-Plain
returns-in-Ok-Plain c =
    let S = spec_syntax_of c.args.self.now.syntax in
    let t = rw c.in-Ok-Plain.field-0-is at c.in-Ok-Plain.ensures.text in
    records-none S c.args.self.now c.args.self.now (c.args.reader.rest.now ∷ []) (opens-plain S c.args.reader.rest.now c.read_group_kind.new.reader.rest.now t) refl refl refl refl

pub returns-in-Ok-Look : goal.returns-in-Ok-Look
returns-in-Ok-Look c =
    let S = spec_syntax_of c.args.self.now.syntax in
    let t = rw c.in-Ok-Look.field-0-is at c.in-Ok-Look.ensures.text in
    records-none S c.args.self.now c.args.self.now (c.args.reader.rest.now ∷ [])
    (opens-look S c.in-Ok-Look.field-0-0 c.in-Ok-Look.field-0-1 c.args.reader.rest.now c.read_group_kind.new.reader.rest.now t) refl refl refl refl

pub returns-in-Err : goal.returns-in-Err
returns-in-Err c =
    let S = spec_syntax_of c.args.self.now.syntax in
    let t = c.in-Err.ensures.text in
    records-none S c.args.self.now c.args.self.now (c.args.reader.rest.now ∷ []) (opens-none S c.args.reader.rest.now t.0 t.1 t.3) refl refl refl refl
