use Rattle.std.proofs.Common.{◌∷◌, subst, sym}
use Rattle.regex_parser.specs.GrouplessTermContracts.{pattern_context, IsTermReadIn}
use Rattle.regex_parser.specs.SyntaxDialects.{spec_syntax_of, AreGroupsKnownIn}
use Rattle.regex_parser.proofs.DialectTermLemmas.{profile-known, profile-term, ecmascript-known, ecmascript-term}
use Rattle.regex_parser.proofs.groupless_terms.GrouplessTermReader.read_term_without_group.Goals as goal

pub returns-in-Profile-clause-text : goal.returns-in-Profile-clause-text
returns-in-Profile-clause-text c = λ apart groups known.
    let l = c.args.self.now in
    let k = profile-known l.flags l.groups.count l.groups.named l.numbers groups
    (subst (λ x. AreGroupsKnownIn (spec_syntax_of x) l.flags l.groups.count l.groups.named l.numbers groups) c.in-Profile.is known) in
    subst (λ x. IsTermReadIn (spec_syntax_of x) (pattern_context l.flags groups) (c.args.c ∷ l.reader.rest.now) c.read_profile_term.result l.references
    c.read_profile_term.new.self.references c.read_profile_term.new.self.reader.rest.now) (sym c.in-Profile.is)
    (profile-term _ _ _ c.read_profile_term.result _ _ (c.read_profile_term.ensures.passed apart) (c.read_profile_term.ensures.text apart groups k))

pub returns-in-EcmaScript2018-clause-text : goal.returns-in-EcmaScript2018-clause-text
returns-in-EcmaScript2018-clause-text c = λ apart groups known.
    let l = c.args.self.now in
    let k = ecmascript-known l.flags l.groups.count l.groups.named l.numbers groups
    (subst (λ x. AreGroupsKnownIn (spec_syntax_of x) l.flags l.groups.count l.groups.named l.numbers groups) c.in-EcmaScript2018.is known) in
    subst (λ x. IsTermReadIn (spec_syntax_of x) (pattern_context l.flags groups) (c.args.c ∷ l.reader.rest.now) c.read_ecmascript_term.result l.references
    c.read_ecmascript_term.new.self.references c.read_ecmascript_term.new.self.reader.rest.now) (sym c.in-EcmaScript2018.is)
    (ecmascript-term _ c.args.c _ _ c.read_ecmascript_term.result _ _ apart (c.read_ecmascript_term.ensures.bounded groups k) (c.read_ecmascript_term.ensures.text apart groups k))
