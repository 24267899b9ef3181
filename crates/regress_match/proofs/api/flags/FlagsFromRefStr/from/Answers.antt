use Rattle.std.proofs.Common.{◌∙◌}
use Rattle.regress_match.proofs.FlagLemmas.{contains-by, flags-by_letters}
use Rattle.regress_match.proofs.api.flags.FlagsFromRefStr.from.Goals as goal

pub returns : goal.returns
returns c =
    let bytes = c.as_bytes-letters.result.now in
    flags-by_letters c.args.letters.now bytes c.contains.result c.contains-2.result c.contains-3.result c.contains-4.result c.contains-5.result
    c.as_bytes-letters.ensures.value
    (c.contains.ensures.value ∙ contains-by 105 bytes) (c.contains-2.ensures.value ∙ contains-by 109 bytes) (c.contains-3.ensures.value ∙ contains-by 115 bytes)
    (c.contains-4.ensures.value ∙ contains-by 117 bytes) (c.contains-5.ensures.value ∙ contains-by 118 bytes)
