use Rattle.std.proofs.Common.{[], ◌∙◌, sym, refl}
use Rattle.regex_parser.specs.PropertyReaderContracts.{words_of}
use Rattle.regex_parser.proofs.PropertyNameLemmas.{bytes-scalar, listed-scalar, listed-none, listed-found}
use Rattle.regex_parser.proofs.unicode_properties.listed_value.Goals as goal

pub returns-then-not-is_listed : goal.returns-then-not-is_listed
returns-then-not-is_listed c = listed-none (words_of c.args.names.now) c.args.property.now c.args.value.now (sym c.is_listed.ensures ∙ c.if-not-is_listed.true)

pub returns-in-Ok : goal.returns-in-Ok
returns-in-Ok c =
    let listed = sym c.is_listed.ensures ∙ c.if-not-is_listed.false in
    listed-found (words_of c.args.names.now) c.args.property.now c.args.value.now c.deref.result.now _ listed
    (c.deref.ensures.value ∙ c.in_ok-loose.ensures (listed-scalar [] c.args.names.now c.args.value.now refl (bytes-scalar c.args.names.now c.type_inv.names) listed)) c.in-Ok.ensures.found

pub returns : goal.returns
returns c =
    let listed = sym c.is_listed.ensures ∙ c.if-not-is_listed.false in
    listed-found (words_of c.args.names.now) c.args.property.now c.args.value.now c.deref.result.now _ listed
    (c.deref.ensures.value ∙ c.in_ok-loose.ensures (listed-scalar [] c.args.names.now c.args.value.now refl (bytes-scalar c.args.names.now c.type_inv.names) listed)) c.in-Err.ensures.found
