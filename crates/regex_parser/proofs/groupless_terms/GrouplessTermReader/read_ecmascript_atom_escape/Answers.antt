use Rattle.std.proofs.Common.{arith, length, ◌≤◌}
use Rattle.regex_parser.specs.GrouplessTermContracts.{pattern_context}
use Rattle.regex_parser.proofs.DialectTermLemmas.{reference-within}
use Rattle.regex_parser.proofs.EcmaTermLemmas.{parameters-same, nothing-before, atom-none, atom-character, err-escape}
use Rattle.regex_parser.proofs.groupless_terms.GrouplessTermReader.read_ecmascript_atom_escape.Goals as goal

pub returns-in_err-c-clause-text : goal.returns-in_err-c-clause-text
returns-in_err-c-clause-text c = λ groups known.
    let f = c.args.self.now.flags in
    let p = c.grammar_parameters-parameters in
    err-escape (pattern_context f groups) _ _ c.from_residual-in_err-c.result _ c.from_residual-in_err-c.ensures.1 (λ x h. h)
    (λ r. atom-none (nothing-before f groups _ _ _ c.in_ok-reference.reference c.in_ok-contents.field-0 c.in_default.is c.in_default-2.is (c.in_ok-reference.ensures.text groups known) c.in_ok-contents.ensures.text)
    (parameters-same f groups p.result c.args.groups.named p.ensures.0 p.ensures.1 known.names) c.in_err-c.ensures.text)

pub returns-clause-text : goal.returns-clause-text
returns-clause-text c = λ groups known.
    let f = c.args.self.now.flags in
    let p = c.grammar_parameters-parameters in
    atom-character _ c.in_ok-c.c c.ecmascript_character.result
    (nothing-before f groups _ _ _ c.in_ok-reference.reference c.in_ok-contents.field-0 c.in_default.is c.in_default-2.is (c.in_ok-reference.ensures.text groups known) c.in_ok-contents.ensures.text)
    (parameters-same f groups p.result c.args.groups.named p.ensures.0 p.ensures.1 known.names) c.in_ok-c.ensures.text
    c.ecmascript_character.ensures.atom c.ecmascript_character.ensures.node c.ecmascript_character.ensures.memory

pub returns-in-Some-clause-bounded : goal.returns-in-Some-clause-bounded
returns-in-Some-clause-bounded c = λ groups known.
    let w = pattern_context c.args.self.now.flags groups in
    let few : c.in-Some.group ≤ length groups = reference-within w _ _ c.in-Some.group (rw c.in-Some.is at (c.in_ok-reference.ensures.text groups known)) in
    omega (arith, few, c.ecmascript_reference.ensures.references)
