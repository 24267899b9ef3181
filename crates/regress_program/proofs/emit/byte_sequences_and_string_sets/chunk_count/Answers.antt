use Rattle.std.proofs.Common.{sym, ◌∙◌}
use Rattle.regress_program.proofs.ByteAndStringCodeLemmas.{length-chunks}
use Rattle.regress_program.proofs.emit.byte_sequences_and_string_sets.chunk_count.Goals as goal

pub returns : goal.returns
returns c = c.div_ceil.ensures ∙ sym (length-chunks c.args.bytes.now)
