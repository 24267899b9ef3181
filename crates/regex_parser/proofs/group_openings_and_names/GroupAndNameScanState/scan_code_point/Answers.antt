use Rattle.std.proofs.Common.{◌∙◌, sym, refl}
use Rattle.regex_parser.specs.SyntaxDialects.{spec_syntax_of}
use Rattle.regex_parser.proofs.ClassReaderLemmas.{ok-on}
use Rattle.regex_parser.proofs.GroupScanLemmas.{processes-none, processes-opened}
use Rattle.regex_parser.proofs.group_openings_and_names.GroupAndNameScanState.scan_code_point.Goals as goal

pub returns-then-c : goal.returns-then-c
returns-then-c c =
    processes-none (spec_syntax_of c.args.self.now.syntax) c.args.self.now _ c.args.c c.args.reader.rest.now (rw c.if-c.true refl) (rw c.if-c.true refl) refl refl refl

pub returns-then-c-2 : goal.returns-then-c-2
returns-then-c-2 c =
    processes-none (spec_syntax_of c.args.self.now.syntax) c.args.self.now _ c.args.c c.args.reader.rest.now (rw c.if-c-2.true refl) (rw c.if-c-2.true refl) refl refl refl

pub returns : goal.returns
returns c =
    ok-on _ c.note_group.result c.note_group.ensures
    (λ h. processes-opened (spec_syntax_of c.args.self.now.syntax) c.args.self.now c.note_group.new.self c.args.c c.args.reader.rest.now c.if-c.false c.if-c-2.false (sym c.may_open.ensures ∙ c.if-not-may_open.false) h)
