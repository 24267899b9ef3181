use Rattle.std.proofs.Common.{◌<◌, ◌∙◌, ap, bytes_eq, length, map, refl, string_bytes, sym, arith}
use Rattle.std.proofs.lemmas.List.{length-map}
use Rattle.regress_c.proofs.GroupNumberLemmas.{here, later, nowhere}
use Rattle.regress_c.proofs.text_replies.index_of_first_equal_name.Goals as goal

pub returns-then-eq-clause-index : goal.returns-then-eq-clause-index
returns-then-eq-clause-index c =
    let names = c.args.names.now in
    let inside : c.loop-index.index < length names = omega arith in
    here string_bytes names c.loop-index.index c.index-names-index.result inside c.index-names-index.is c.args.name.now
    (ap (bytes_eq c.args.name.now) (sym c.as_bytes.ensures.value) ∙ sym c.if-eq.ensures) c.loop-index.invariant

pub loop-index-preserved : goal.loop-index-preserved
loop-index-preserved c =
    let names = c.args.names.now in
    let inside : c.loop-index.index < length names = omega arith in
    later string_bytes names c.loop-index.index c.index-names-index.result inside c.index-names-index.is c.args.name.now
    (ap (bytes_eq c.args.name.now) (sym c.as_bytes.ensures.value) ∙ sym c.if-eq.ensures) c.loop-index.invariant

pub returns-clause-index : goal.returns-clause-index
returns-clause-index c =
    let past = length-map c.args.names.now string_bytes in
    nowhere c.args.name.now (map string_bytes c.args.names.now) c.loop-index.index (omega (arith, past)) c.loop-index.invariant
