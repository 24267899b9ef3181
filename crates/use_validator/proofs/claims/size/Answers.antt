use Rattle.std.proofs.Common.{◌∙◌, Some, ap, chars, length, option_map, sym}
use Rattle.use_validator.specs.Values.{item_count, member_count}
use Rattle.use_validator.proofs.Counts.{items-counted, members-counted}
use Rattle.use_validator.proofs.claims.size.Goals as goal

pub returns-in-Some : goal.returns-in-Some
returns-in-Some c =
    rw (c.in-Characters.is) (ap Some c.char_count.ensures ∙ ap (option_map (λ text. length (chars text))) c.in-Some.ensures)

pub returns-in-Some-as_array : goal.returns-in-Some-as_array
returns-in-Some-as_array c =
    let row = c.in-Some-as_array.items.now in
    rw (c.in-Items.is)
    (ap Some (c.len.ensures ∙ row.ok.0 ∙ sym (items-counted row.items)) ∙ ap (option_map item_count) c.in-Some-as_array.ensures)

pub returns-in-Some-as_object : goal.returns-in-Some-as_object
returns-in-Some-as_object c =
    rw (c.in-Members.is)
    (ap Some (c.len-in-Some-as_object.ensures.len ∙ sym (members-counted _)) ∙ ap (option_map member_count) c.in-Some-as_object.ensures)
