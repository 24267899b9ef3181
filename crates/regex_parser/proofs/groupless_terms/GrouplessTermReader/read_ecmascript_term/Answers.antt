use Rattle.std.proofs.Common.{[], ◌∷◌, ◌∙◌, sym}
use Rattle.std.proofs.lemmas.Bool.{ne_eqb}
use Rattle.regex_pattern_front.specs.AstToSpecTree.{class_as_spec}
use Rattle.regex_parser.specs.GrouplessTermContracts.{pattern_context}
use Rattle.regex_pattern_front.proofs.GrouplessNodeLemmas.{leaf-Char}
use Rattle.regex_parser.proofs.EcmaTermLemmas.{class-term, class-none, err-term, alone-none-ecma, brace-term, character-term}
use Rattle.regex_parser.proofs.groupless_terms.GrouplessTermReader.read_ecmascript_term.Goals as goal

pub returns-in_err-read_class-clause-text : goal.returns-in_err-read_class-clause-text
returns-in_err-read_class-clause-text c = λ apart groups known.
    err-term (pattern_context c.args.self.now.flags groups) (c.args.c ∷ c.args.self.now.reader.rest.now) _ c.from_residual.result _ c.from_residual.ensures.1 (λ x h. h)
    (λ r. class-none (pattern_context c.args.self.now.flags groups) c.args.c c.args.groups.named c.args.self.now.reader.rest.now c.if-c-2.true known.names (c.in_err-read_class.ensures.text r))

pub returns-then-c-2-clause-text : goal.returns-then-c-2-clause-text
returns-then-c-2-clause-text c = λ apart groups known.
    class-term (pattern_context c.args.self.now.flags groups) c.args.c c.args.groups.named c.args.self.now.reader.rest.now _ c.bracket.result (class_as_spec c.in_ok-read_class.field-0) c.if-c-2.true known.names
    c.in_ok-read_class.ensures.text c.bracket.ensures.atom c.bracket.ensures.node

pub returns-in-Some-clause-leaf : goal.returns-in-Some-clause-leaf
returns-in-Some-clause-leaf c = c.in-Some.ensures.leaf c.args.self.now.references

pub returns-in-Some-cause_if_wrong_alone-clause-text : goal.returns-in-Some-cause_if_wrong_alone-clause-text
returns-in-Some-cause_if_wrong_alone-clause-text c = λ apart groups known r.
    alone-none-ecma (pattern_context c.args.self.now.flags groups) c.args.c c.args.self.now.reader.rest.now c.in-Some-cause_if_wrong_alone.ensures

pub returns-then-is_brace_or_closing_bracket-clause-leaf : goal.returns-then-is_brace_or_closing_bracket-clause-leaf
returns-then-is_brace_or_closing_bracket-clause-leaf c = rw c.atom.ensures.node (leaf-Char c.args.self.now.references c.args.c)

pub returns-then-is_brace_or_closing_bracket-clause-text : goal.returns-then-is_brace_or_closing_bracket-clause-text
returns-then-is_brace_or_closing_bracket-clause-text c = λ apart groups known.
    let is = sym c.is_brace_or_closing_bracket.ensures ∙ c.if-is_brace_or_closing_bracket.true in
    brace-term (pattern_context c.args.self.now.flags groups) c.args.c c.args.self.now.reader.rest.now c.atom.result is (c.in_default-cause_if_wrong_alone.ensures.1 is) c.atom.ensures.atom c.atom.ensures.node

pub returns-clause-text : goal.returns-clause-text
returns-clause-text c = λ apart groups known.
    character-term (pattern_context c.args.self.now.flags groups) c.args.c c.args.self.now.reader.rest.now c.ecmascript_character.result
    (ne_eqb c.args.c 92 c.if-c.false) (ne_eqb c.args.c 91 c.if-c-2.false) (c.in_default.ensures.ecma [] []) c.in_default-cause_if_wrong_alone.ensures.0
    (sym c.is_brace_or_closing_bracket.ensures ∙ c.if-is_brace_or_closing_bracket.false) apart
    c.ecmascript_character.ensures.atom c.ecmascript_character.ensures.node c.ecmascript_character.ensures.memory
