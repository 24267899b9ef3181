use Rattle.std.proofs.Common.{refl, ap, ◌∙◌, get_or, [], Ok, Err, arith}
use Rattle.std.specs.Prelude.{◌-◌}
use Rattle.regress_c.specs.declared.refusal.Refusal.TheVariants.{NoGroup}
use Rattle.regress_c.proofs.text_replies.write_group_name.Goals as goal
use Rattle.regress_c.proofs.text_replies.write_group_name.Goals.{then-number-eq0-via-then-number-eq0, then-number-eq0-via-else-number-eq0+then-group_count-number}

pub returns-then-number-eq0 : goal.returns-then-number-eq0
returns-then-number-eq0 c = elim c.then-number-eq0.branch [
  | then-number-eq0-via-then-number-eq0 w ↦ (Err NoGroup, λ h. absurd (omega arith), c.reply.ensures, refl)
  | then-number-eq0-via-else-number-eq0+then-group_count-number w ↦
      (Err NoGroup, λ h. let e = w.group_count.ensures.count in absurd (omega arith), c.reply.ensures, refl)
]

pub returns : goal.returns
returns c =
    let few = c.group_count.ensures.count in
    let name = c.as_bytes.ensures.value ∙ c.name_at-name.ensures ∙ ap (λ ns. get_or ns (c.args.number - 1) []) c.group_names.ensures in
    (Ok c.as_bytes.result.now, (omega arith, omega arith, name), c.write_text_if_room.ensures.reply, c.write_text_if_room.ensures.written)
