use Rattle.std.proofs.Common.{◌∙◌, sym, refl, [], ◌∷◌}
use Rattle.regex_meaning.specs.Grammar.{character_escape}
use Rattle.regex_meaning.proofs.GroupNameScanLemmas.{scanned}
use Rattle.regex_parser.specs.GrouplessTermContracts.{pattern_context, NoSimpleAtom}
use Rattle.std.specs.BTreeMap.{get_by_text}
use Rattle.regex_parser.proofs.ClassReaderLemmas.{no_class}
use Rattle.regex_parser.proofs.GrouplessTermLemmas.{leaf-of, read-leaf, read-err, character-read, in-all}
use Rattle.regex_parser.proofs.BackreferenceLemmas.{class-escaped, reference-none, reference-read, reference-passed, unescaped-none}
use Rattle.regex_parser.proofs.groupless_terms.GrouplessTermReader.atom_escape.Goals as goal

pub returns-in-Some-clause-passed : goal.returns-in-Some-clause-passed
returns-in-Some-clause-passed c =
    scanned.past_leaf (pattern_context c.args.self.now.flags []) _ _ _ (class-escaped c.args.self.now.flags [] _ _ c.peek-letter.result c.next.result c.in-Some.escape c.in_ok-contents.contents
    c.peek-letter.ensures.text c.next.ensures.text c.in-Some.ensures c.in_ok-contents.ensures.set c.in_ok-contents.ensures.invert)

pub returns-in-Some-clause-text : goal.returns-in-Some-clause-text
returns-in-Some-clause-text c = λ groups known.
    read-leaf (NoSimpleAtom (pattern_context c.args.self.now.flags groups) (92 ∷ c.args.self.now.reader.rest.now)) (pattern_context c.args.self.now.flags groups) _ _ c.bracket.result _ (leaf-of _ _ _ c.bracket.result _ c.bracket.ensures.atom c.bracket.ensures.node
    (class-escaped c.args.self.now.flags groups _ _ c.peek-letter.result c.next.result c.in-Some.escape c.in_ok-contents.contents
    c.peek-letter.ensures.text c.next.ensures.text c.in-Some.ensures c.in_ok-contents.ensures.set c.in_ok-contents.ensures.invert))

pub returns-in_err-group-clause-text : goal.returns-in_err-group-clause-text
returns-in_err-group-clause-text c = λ groups known.
    read-err (NoSimpleAtom (pattern_context c.args.self.now.flags groups) (92 ∷ c.args.self.now.reader.rest.now)) (pattern_context c.args.self.now.flags groups) _ _ c.from_residual-in_err-group.result _ _ _ c.from_residual-in_err-group.ensures.1 (λ x h. h)
    (λ r. reference-none c.args.self.now.numbers groups known c.args.self.now.flags c.args.self.now.reader.rest.now c.peek-letter.result c.peek-letter.ensures.text
    (sym c.begins_backreference.ensures ∙ c.if-begins_backreference.true) (c.in_err-group.ensures.text r))

pub returns-then-begins_backreference-clause-passed : goal.returns-then-begins_backreference-clause-passed
returns-then-begins_backreference-clause-passed c =
    rw c.reference.ensures.moves (reference-passed (λ x. get_by_text c.args.self.now.numbers x) c.args.self.now.reader.rest.now _ _ c.peek-letter.result c.peek-letter.ensures.text
    (sym c.begins_backreference.ensures ∙ c.if-begins_backreference.true) c.in_ok-group.ensures.text)

pub returns-then-begins_backreference-clause-text : goal.returns-then-begins_backreference-clause-text
returns-then-begins_backreference-clause-text c = λ groups known.
    rw c.reference.ensures.moves (reference-read c.args.self.now.numbers groups known c.args.self.now.flags c.args.self.now.reader.rest.now _ c.peek-letter.result c.reference.result _ c.in_ok-group.group _
    c.peek-letter.ensures.text (sym c.begins_backreference.ensures ∙ c.if-begins_backreference.true) c.in_ok-group.ensures.text c.reference.ensures.atom c.reference.ensures.node c.reference.ensures.references)

pub returns-in_err-c-clause-text : goal.returns-in_err-c-clause-text
returns-in_err-c-clause-text c = λ groups known.
    read-err (NoSimpleAtom (pattern_context c.args.self.now.flags groups) (92 ∷ c.args.self.now.reader.rest.now)) (pattern_context c.args.self.now.flags groups) _ _ c.from_residual-in_err-c.result _ _ _ c.from_residual-in_err-c.ensures.1 (λ x h. h)
    (λ r. unescaped-none (pattern_context c.args.self.now.flags groups) c.args.self.now.reader.rest.now c.peek-letter.result c.peek-letter.ensures.text
    (no_class c.args.self.now.reader.rest.now c.peek-letter.result c.peek-letter.ensures.text (sym c.in_default.ensures))
    (sym c.begins_backreference.ensures ∙ c.if-begins_backreference.false) c.in_err-c.ensures.text)

pub returns-clause-passed : goal.returns-clause-passed
returns-clause-passed c =
    in-all c.character.result (scanned.past_leaf (pattern_context c.args.self.now.flags []) _ _ _ (character_escape refl c.in_ok-c.ensures.text))

pub returns-clause-text : goal.returns-clause-text
returns-clause-text c = λ groups known.
    character-read (NoSimpleAtom (pattern_context c.args.self.now.flags groups) (92 ∷ c.args.self.now.reader.rest.now)) (pattern_context c.args.self.now.flags groups) _ _ _ c.character.result _ c.character.ensures.atom c.character.ensures.node c.character.ensures.memory
    (character_escape refl c.in_ok-c.ensures.text)
