use Rattle.std.proofs.Common.{◌≡◌, false, ◌∙◌, sym, length}
use Rattle.std.proofs.lemmas.List.{length-map}
use Rattle.regex_meaning.specs.CompilationRelation.{is_uninverted_ascii_class}
use Rattle.regex_pattern_front.specs.AstToSpecTree.{class_as_spec}
use Rattle.regress_program.specs.EmitterStateAndAppendedCode.{emitter_state}
use Rattle.regress_program.proofs.AppendedCodeLemmas.{with_code-ascii, with_code-bracket}
use Rattle.regress_program.proofs.emit.emitter.Emitter.emit_bracket.Goals as goal

pub returns-in_ok-append_insn-in-Some : goal.returns-in_ok-append_insn-in-Some
returns-in_ok-append_insn-in-Some c =
    let same = with_code-ascii c.args.mode.unicode c.args.mode.behind (class_as_spec c.args.contents.now) (emitter_state c.args.self.now) (sym c.in-Some.ensures.found) in
    rw (same, ← c.in-Some.ensures.members) c.in_ok-append_insn-in-Some.ensures

pub returns-in_ok-add_bracket-in-None : goal.returns-in_ok-add_bracket-in-None
returns-in_ok-add_bracket-in-None c =
    let wide : is_uninverted_ascii_class (class_as_spec c.args.contents.now) ≡ false = sym c.in-None.ensures.found in
    let index : c.len-index.result ≡ length (emitter_state c.args.self.now).brackets =
    c.len-index.ensures ∙ c.args.self.now.brackets.ok.0 ∙ sym (length-map c.args.self.now.brackets.items class_as_spec) in
    with_code-bracket c.args.mode.unicode c.args.mode.behind (class_as_spec c.args.contents.now)
    (emitter_state c.args.self.now) (emitter_state c.append_insn-in-None.new.self) (emitter_state c.add_bracket.new.self) c.len-index.result wide index c.in_ok-append_insn-in-None.ensures c.in_ok-add_bracket-in-None.ensures
