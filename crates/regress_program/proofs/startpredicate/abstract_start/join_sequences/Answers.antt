use Rattle.std.proofs.Common.{◌∙◌, ap, sym}
use Rattle.std.proofs.lemmas.Bool.{eqb-true}
use Rattle.regex_meaning.specs.StartPredicate.{union_of_byte_sets, first_byte_as_set}
use Rattle.regress_program.proofs.JoinedStartsLemmas.{first_bytes_alone}
use Rattle.regress_program.proofs.startpredicate.abstract_start.join_sequences.Goals as goal

pub returns : goal.returns
returns c =
    let xs = c.args.xs.now in
    first_bytes_alone xs c.args.ys.now c.common_prefix-front.result.now _ _ c.common_prefix-front.ensures (eqb-true _ 0 (sym c.if-not-is_empty.ensures))
    (c.add_first_byte_of_sequence.ensures ∙ ap (λ s. union_of_byte_sets s (first_byte_as_set xs)) c.default-set.ensures)
    c.add_first_byte_of_sequence-2.ensures
