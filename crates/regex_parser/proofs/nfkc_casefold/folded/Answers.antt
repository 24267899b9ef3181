use Rattle.std.proofs.Common.{◌++◌, take, sym, ap, ap₂, ◌∙◌, append-nil, encode_utf8_all}
use Rattle.std.specs.Prelude.{encode_utf8}
use Rattle.std.proofs.lemmas.List.{take_more}
use Rattle.std.proofs.lemmas.Str.{encodes-append}
use Rattle.regex_parser.proofs.nfkc_casefold.folded.Goals as goal

pub loop-character-preserved : goal.loop-character-preserved
loop-character-preserved c =
    let folding = c.full_folding-folding.result.now in
    let i = c.loop-character.character-index in
    c.in_ok-push-2.ensures.bytes ∙ ap₂ ◌++◌ c.loop-character.invariant (ap encode_utf8 c.character-item.is ∙ sym (append-nil _))
    ∙ sym (ap encode_utf8_all (take_more folding i _ c.loop-character-test.true) ∙ encodes-append (take i folding) _)
