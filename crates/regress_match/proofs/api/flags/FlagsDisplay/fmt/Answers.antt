use Rattle.std.proofs.Output.{has_written_of_eq}
use Rattle.regress_match.specs.PublicFlagsAsSpecFlags.{spec_flags_of}
use Rattle.regress_match.proofs.FlagLemmas.{flags_text-parts}
use Rattle.regress_match.proofs.api.flags.FlagsDisplay.fmt.Goals as goal

pub returns-clause-writes : goal.returns-clause-writes
returns-clause-writes g c =
    let parts = flags_text-parts (spec_flags_of c.args.self.now) _ _ _ _ _
    c.letter_if_set_else_empty-multiline.ensures c.letter_if_set_else_empty-icase.ensures c.letter_if_set_else_empty-dot_all.ensures c.letter_if_set_else_empty-unicode.ensures c.letter_if_set_else_empty-unicode_sets.ensures in
    λ plain ok. has_written_of_eq _ _ _ _ _ parts (c.write.ensures.writes plain ok)
