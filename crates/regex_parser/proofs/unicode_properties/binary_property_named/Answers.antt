use Rattle.std.proofs.Common.{[], ◌∙◌, sym, refl}
use Rattle.regex_parser.specs.PropertyReaderContracts.{words_of}
use Rattle.regex_parser.specs.declared.unicode_properties.TheConstants.{BINARY_NAMES}
use Rattle.regex_parser.proofs.PropertyNameLemmas.{listed-scalar, binary-none, binary-found}
use Rattle.regex_parser.proofs.PropertyTableLemmas.{binary-ascii, binary-any, binary-assigned, binary-casefolded, binary-rest}
use Rattle.regex_parser.proofs.unicode_properties.binary_property_named.Goals as goal

pub returns-then-is_word : goal.returns-then-is_word
returns-then-is_word c = binary-ascii c.args.name.now (sym c.is_word.ensures ∙ c.if-is_word.true)

pub returns-then-is_word-2 : goal.returns-then-is_word-2
returns-then-is_word-2 c = binary-any c.args.name.now (sym c.is_word.ensures ∙ c.if-is_word.false) (sym c.is_word-2.ensures ∙ c.if-is_word-2.true)

pub returns-then-is_word-3 : goal.returns-then-is_word-3
returns-then-is_word-3 c =
    binary-assigned c.args.name.now (sym c.is_word.ensures ∙ c.if-is_word.false) (sym c.is_word-2.ensures ∙ c.if-is_word-2.false) (sym c.is_word-3.ensures ∙ c.if-is_word-3.true)

pub returns-then-is_either : goal.returns-then-is_either
returns-then-is_either c =
    binary-casefolded c.args.name.now (sym c.is_word.ensures ∙ c.if-is_word.false) (sym c.is_word-2.ensures ∙ c.if-is_word-2.false) (sym c.is_word-3.ensures ∙ c.if-is_word-3.false)
    (sym c.is_either.ensures ∙ c.if-is_either.true)

pub returns-then-not-is_listed : goal.returns-then-not-is_listed
returns-then-not-is_listed c =
    binary-none (words_of BINARY_NAMES.now) c.args.name.now (sym c.is_listed.ensures ∙ c.if-not-is_listed.true)
    ∙ binary-rest c.args.name.now (sym c.is_word.ensures ∙ c.if-is_word.false) (sym c.is_word-2.ensures ∙ c.if-is_word-2.false) (sym c.is_word-3.ensures ∙ c.if-is_word-3.false)
    (sym c.is_either.ensures ∙ c.if-is_either.false)

pub returns-in-Ok : goal.returns-in-Ok
returns-in-Ok c =
    let listed = sym c.is_listed.ensures ∙ c.if-not-is_listed.false in
    binary-found (words_of BINARY_NAMES.now) c.args.name.now c.deref.result.now _ listed
    (c.deref.ensures.value ∙ c.in_ok-loose.ensures (listed-scalar [] BINARY_NAMES.now c.args.name.now refl refl listed)) c.in-Ok.ensures.found
    ∙ binary-rest c.args.name.now (sym c.is_word.ensures ∙ c.if-is_word.false) (sym c.is_word-2.ensures ∙ c.if-is_word-2.false) (sym c.is_word-3.ensures ∙ c.if-is_word-3.false)
    (sym c.is_either.ensures ∙ c.if-is_either.false)

pub returns : goal.returns
returns c =
    let listed = sym c.is_listed.ensures ∙ c.if-not-is_listed.false in
    binary-found (words_of BINARY_NAMES.now) c.args.name.now c.deref.result.now _ listed
    (c.deref.ensures.value ∙ c.in_ok-loose.ensures (listed-scalar [] BINARY_NAMES.now c.args.name.now refl refl listed)) c.in-Err.ensures.found
    ∙ binary-rest c.args.name.now (sym c.is_word.ensures ∙ c.if-is_word.false) (sym c.is_word-2.ensures ∙ c.if-is_word-2.false) (sym c.is_word-3.ensures ∙ c.if-is_word-3.false)
    (sym c.is_either.ensures ∙ c.if-is_either.false)
