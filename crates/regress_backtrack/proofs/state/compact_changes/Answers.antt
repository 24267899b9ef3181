use Rattle.std.proofs.Common.{◌<◌, length, take, refl, ap, ◌∙◌, length-set, arith}
use Rattle.std.proofs.lemmas.List.{length-take-le}
use Rattle.regress_backtrack.specs.State.{logical_slot_value}
use Rattle.regress_backtrack.proofs.LogCompactionLemmas.{compacts-none, compacts-change, compacts-fewer, compacts-all}
use Rattle.regress_backtrack.proofs.state.compact_changes.Goals.{then-change-from, else-change-from}
use Rattle.regress_backtrack.proofs.state.compact_changes.Goals as goal

pub loop-index-init : goal.loop-index-init
loop-index-init c = (compacts-none c.args.from c.args.slots.now.items (take c.args.log_len c.args.log.now.items) c.args.log.now.items c.args.log_len refl c.requires.log_len c.requires.from c.requires.slots, refl)

pub loop-index-preserved : goal.loop-index-preserved
loop-index-preserved c =
    let l = c.loop-index in
    let change = c.index-change.result.now in
    let before = c.args.slots.now.items in
    let used = take c.args.log_len c.args.log.now.items in
    let inside : l.index < length used = (let long = length-take-le c.args.log_len c.args.log.now.items c.requires.log_len in omega (arith, long, c.loop-index-test.true)) in
    elim c.if-change-from.branch [
      | then-change-from w ↦
          let slot = w.index_mut-then-change-from in
          rw (w.log-is, w.slots-is, w.kept-is) (
            compacts-change c.args.from before used l.slots.items l.kept l.index l.log.items l.invariant.0 inside change c.index-change.ensures
                (record (slot.result.now) { noted = change.old.noted }) slot.result.now (λ begun. ap (logical_slot_value begun) slot.ensures.value) w.if-change-from.true w.if-change-from.true,
            length-set l.log.items l.kept change ∙ l.invariant.1,
          )
      | else-change-from w ↦
          rw (w.log-is, w.slots-is, w.kept-is)
          (compacts-fewer c.args.from before used l.slots.items l.kept l.index l.log.items l.invariant.0 inside change c.index-change.ensures c.requires.noted w.if-change-from.false, l.invariant.1)
    ]

pub returns-clause-compacted : goal.returns-clause-compacted
returns-clause-compacted c =
    let l = c.loop-index in
    let used = length-take-le c.args.log_len c.args.log.now.items c.requires.log_len in
    compacts-all c.args.from c.args.slots.now.items (take c.args.log_len c.args.log.now.items) l.slots.items l.kept l.index l.log.items l.invariant.0
    (omega (arith, used, c.loop-index-test.false)) (omega (arith, used, c.requires.from)) c.requires.slots c.requires.noted
