use Rattle.std.proofs.Common.{◌∙◌, sym, subst}
use Rattle.regex_meaning.specs.EcmaEscapesAndNames.{CharacterEscape}
use Rattle.regex_parser.specs.GrouplessTermContracts.{pattern_context}
use Rattle.regex_pattern_front.proofs.GrouplessNodeLemmas.{leaf-Char}
use Rattle.regex_parser.proofs.EcmaTermLemmas.{parameters-same, escape-read, control-read, slash-read}
use Rattle.regex_parser.proofs.groupless_terms.GrouplessTermReader.read_ecmascript_escape.Goals as goal

pub returns-then-eat-clause-leaf : goal.returns-then-eat-clause-leaf
returns-then-eat-clause-leaf c = c.boundary.ensures.leaf c.args.self.now.references

pub returns-then-eat-2-clause-leaf : goal.returns-then-eat-2-clause-leaf
returns-then-eat-2-clause-leaf c = c.boundary-then-eat-2.ensures.leaf c.args.self.now.references

pub returns-then-not-is_control_without_unicode-clause-text : goal.returns-then-not-is_control_without_unicode-clause-text
returns-then-not-is_control_without_unicode-clause-text c = λ groups known.
    escape-read (pattern_context c.args.self.now.flags groups) c.args.self.now.reader.rest.now c.eat.new.self.rest.now c.eat-2.new.self.rest.now _ c.read_ecmascript_atom_escape.result
    c.if-eat.ensures.text c.if-eat-2.ensures.text (sym c.is_control_without_unicode.ensures ∙ c.if-not-is_control_without_unicode.true) (c.read_ecmascript_atom_escape.ensures.text groups known)

pub returns-in-Ok-clause-text : goal.returns-in-Ok-clause-text
returns-in-Ok-clause-text c = λ groups known.
    let f = c.args.self.now.flags in
    let p = c.grammar_parameters-parameters in
    control-read (pattern_context f groups) c.args.self.now.reader.rest.now c.eat.new.self.rest.now c.eat-2.new.self.rest.now _ c.in-Ok.c c.ecmascript_character.result
    c.if-eat.ensures.text c.if-eat-2.ensures.text (sym c.is_control_without_unicode.ensures ∙ c.if-not-is_control_without_unicode.false)
    (subst (λ x. CharacterEscape x c.eat-2.new.self.rest.now c.read_character_escape.new.reader.rest.now c.in-Ok.c)
    (parameters-same f groups p.result c.args.groups.named p.ensures.0 p.ensures.1 known.names) c.in-Ok.ensures.text)
    c.ecmascript_character.ensures.atom c.ecmascript_character.ensures.node c.ecmascript_character.ensures.memory

pub returns-in-Err-clause-leaf : goal.returns-in-Err-clause-leaf
returns-in-Err-clause-leaf c = rw c.atom.ensures.node (leaf-Char c.args.self.now.references 92)

pub returns-in-Err-clause-text : goal.returns-in-Err-clause-text
returns-in-Err-clause-text c = λ groups known.
    let f = c.args.self.now.flags in
    let p = c.grammar_parameters-parameters in
    slash-read (pattern_context f groups) c.args.self.now.reader.rest.now c.eat.new.self.rest.now c.eat-2.new.self.rest.now c.atom.result
    c.if-eat.ensures.text.0 c.if-eat-2.ensures.text.0 (sym c.is_control_without_unicode.ensures ∙ c.if-not-is_control_without_unicode.false)
    (λ end d x. c.in-Err.ensures.text end d (subst (λ y. CharacterEscape y c.eat-2.new.self.rest.now end d)
    (sym (parameters-same f groups p.result c.args.groups.named p.ensures.0 p.ensures.1 known.names)) x))
    c.atom.ensures.atom c.atom.ensures.node
