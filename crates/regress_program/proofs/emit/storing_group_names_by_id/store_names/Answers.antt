use Rattle.std.proofs.Common.{◌∙◌, ap, refl, map, string_bytes}
use Rattle.regex_meaning.specs.MatchGroupsByNumberAndName.{capturing_group_ids_and_names}
use Rattle.regex_pattern_front.specs.AstToSpecTree.{spec_node_of}
use Rattle.regress_program.specs.StoringGroupNamesById.{with_names_stored_by_id, pending_names_stored, names_in_pending_part}
use Rattle.regress_program.proofs.StoringGroupNamesLemmas.{next-filed, next-less}
use Rattle.regress_program.proofs.emit.storing_group_names_by_id.store_names.Goals as goal

pub loop-next-init : goal.loop-next-init
unfolding names_in_pending_part
loop-next-init c =
    let items = rw c.in_ok-rest.ensures.items at c.in_ok-push.ensures.items in
    record {
      long = refl;
      with_names_stored_by_id = ap (λ x. pending_names_stored x (map string_bytes c.args.names.now)) items;
    }

pub loop-next-smaller : goal.loop-next-smaller
loop-next-smaller c =
    next-less c.loop-next.rest.items c.pop.new.self.items c.store_pending.new.rest.items c.in-Some.next
    (map string_bytes c.loop-next.names) (map string_bytes c.store_pending.new.names) c.in-Some.ensures.items c.in_ok-store_pending.ensures.with_names_stored_by_id

pub loop-next-preserved : goal.loop-next-preserved
loop-next-preserved c = record {
  long = c.store_pending.ensures.long ∙ c.loop-next.invariant.long;
  with_names_stored_by_id =
      next-filed c.loop-next.rest.items c.pop.new.self.items c.store_pending.new.rest.items c.in-Some.next
      (map string_bytes c.loop-next.names) (map string_bytes c.store_pending.new.names)
      (with_names_stored_by_id (capturing_group_ids_and_names (spec_node_of c.args.root.now)) (map string_bytes c.args.names.now))
      c.in-Some.ensures.items c.loop-next.invariant.with_names_stored_by_id c.in_ok-store_pending.ensures.with_names_stored_by_id;
}
