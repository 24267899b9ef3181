use Rattle.std.proofs.Common.{sym, ◌∙◌, ap}
use Rattle.std.proofs.lemmas.List.{map-id}
use Rattle.regress_input.specs.Utf16CharactersAtOffsets.{if_utf16_boundary}
use Rattle.regress_input.proofs.code_units.Utf16CodeUnitEncodingCodeUnitEncoding.unless_splitting_pair.Goals as goal

pub returns : goal.returns
returns c = c.offset_if_boundary.ensures ∙ ap (λ us. if_utf16_boundary us c.args.to) (sym (map-id c.args.all.now))
