use Rattle.std.proofs.Common.{[], ◌∷◌}
use Rattle.std.proofs.lemmas.Bool.{ne_eqb}
use Rattle.regex_meaning.proofs.GroupNameScanLemmas.{scanned}
use Rattle.regex_parser.specs.GrouplessTermContracts.{pattern_context, NoTerm}
use Rattle.regex_parser.proofs.GrouplessTermLemmas.{read-leaf, read-err, character-read, in-all, passed-of, alone, alone-none, bracket-none, bracket-read}
use Rattle.regex_parser.proofs.groupless_terms.GrouplessTermReader.read_profile_term.Goals as goal

pub returns-in_err-contents-clause-text : goal.returns-in_err-contents-clause-text
returns-in_err-contents-clause-text c = λ apart groups known.
    read-err (NoTerm (pattern_context c.args.self.now.flags groups) (c.args.c ∷ c.args.self.now.reader.rest.now)) (pattern_context c.args.self.now.flags groups) _ _ c.from_residual.result _ _ _ c.from_residual.ensures.1 (λ x h. h)
    (λ r. bracket-none (pattern_context c.args.self.now.flags groups) c.args.c _ c.if-c-2.true (c.in_err-contents.ensures.text r))

pub returns-then-c-2-clause-passed : goal.returns-then-c-2-clause-passed
returns-then-c-2-clause-passed c = λ apart.
    passed-of (pattern_context c.args.self.now.flags []) c.args.c _ _ c.bracket.result apart
    (bracket-read c.args.self.now.flags [] c.args.c _ _ c.bracket.result _ c.if-c-2.true c.in_ok-contents.ensures.text c.bracket.ensures.atom c.bracket.ensures.node)

pub returns-then-c-2-clause-text : goal.returns-then-c-2-clause-text
returns-then-c-2-clause-text c = λ apart groups known.
    read-leaf (NoTerm (pattern_context c.args.self.now.flags groups) (c.args.c ∷ c.args.self.now.reader.rest.now)) (pattern_context c.args.self.now.flags groups) _ _ c.bracket.result _
    (bracket-read c.args.self.now.flags groups c.args.c _ _ c.bracket.result _ c.if-c-2.true c.in_ok-contents.ensures.text c.bracket.ensures.atom c.bracket.ensures.node)

pub returns-in-Some-clause-leaf : goal.returns-in-Some-clause-leaf
returns-in-Some-clause-leaf c = c.in-Some.ensures.leaf c.args.self.now.references

pub returns-in-Some-clause-passed : goal.returns-in-Some-clause-passed
returns-in-Some-clause-passed c = λ apart.
    passed-of (pattern_context c.args.self.now.flags []) c.args.c _ _ c.in-Some.leaf apart (c.in-Some.ensures.text [] c.args.self.now.reader.rest.now)

pub returns-in-Some-cause_if_wrong_alone-clause-text : goal.returns-in-Some-cause_if_wrong_alone-clause-text
returns-in-Some-cause_if_wrong_alone-clause-text c = λ apart groups known r.
    alone-none (pattern_context c.args.self.now.flags groups) c.args.c c.args.self.now.reader.rest.now c.in-Some-cause_if_wrong_alone.ensures

pub returns-clause-passed : goal.returns-clause-passed
returns-clause-passed c = λ apart.
    in-all c.character.result (scanned.past_leaf (pattern_context c.args.self.now.flags []) _ _ _ (alone c.args.self.now.flags [] c.args.c c.args.self.now.reader.rest.now
    (ne_eqb c.args.c 92 c.if-c.false) (ne_eqb c.args.c 91 c.if-c-2.false) (c.in_default.ensures.text [] []) c.in_default-cause_if_wrong_alone.ensures apart))

pub returns-clause-text : goal.returns-clause-text
returns-clause-text c = λ apart groups known.
    character-read (NoTerm (pattern_context c.args.self.now.flags groups) (c.args.c ∷ c.args.self.now.reader.rest.now)) (pattern_context c.args.self.now.flags groups) _ _ _ c.character.result _ c.character.ensures.atom c.character.ensures.node c.character.ensures.memory
    (alone c.args.self.now.flags groups c.args.c c.args.self.now.reader.rest.now
    (ne_eqb c.args.c 92 c.if-c.false) (ne_eqb c.args.c 91 c.if-c-2.false) (c.in_default.ensures.text [] []) c.in_default-cause_if_wrong_alone.ensures apart)
