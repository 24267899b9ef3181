use Rattle.std.proofs.Common.{◌∙◌, ap, refl, true, length}
use Rattle.std.proofs.lemmas.Bool.{and_from}
use Rattle.regex_meaning.specs.Tree.{every_node_passes}
use Rattle.regex_meaning.specs.WellFormedTrees.{set_sizes_and_characters_fit_instructions}
use Rattle.regex_pattern_front.specs.AstToSpecTree.{spec_node_of}
use Rattle.regress_program.specs.EmitterStateAndAppendedCode.{node_with_char_loops_if_enabled, emitter_state, with_code}
use Rattle.regress_program.specs.PendingEmission.{are_emittable, is_emittable, with_all_pending, with_pending}
use Rattle.regress_program.proofs.PendingEmissionLemmas.{fits-of, next-can, next-code, next-less, next-ready}
use Rattle.regress_program.proofs.emit.emitter.Emitter.emit.Goals as goal

pub loop-next-init : goal.loop-next-init
unfolding with_pending is_emittable
loop-next-init c =
    let s = emitter_state c.args.self.now in
    let items = rw c.in_ok-rest.ensures.items at c.in_ok-push.ensures.items in
    record {
      code = ap (λ x. with_all_pending x s) items;
      ready = ap (are_emittable (length s.insns)) items ∙ and_from (every_node_passes set_sizes_and_characters_fit_instructions (spec_node_of c.args.node.now)) true c.requires.sets refl;
    }

pub emit_pending-requires : goal.emit_pending-requires
emit_pending-requires c =
    let m = c.args.mode in
    let n = node_with_char_loops_if_enabled m.narrow (spec_node_of c.args.node.now) in
    let s = emitter_state c.args.self.now in
    next-can c.loop-next.rest.items c.pop.new.self.items c.in-Some.next (emitter_state c.loop-next.self) (with_code m.unicode m.behind n s)
    c.in-Some.ensures.items c.loop-next.invariant.code (fits-of m.unicode m.behind n s c.requires.room) c.loop-next.invariant.ready

pub loop-next-smaller : goal.loop-next-smaller
loop-next-smaller c =
    next-less c.loop-next.rest.items c.pop.new.self.items c.emit_pending.new.rest.items c.in-Some.next (emitter_state c.loop-next.self) (emitter_state c.emit_pending.new.self)
    c.in-Some.ensures.items c.in_ok-emit_pending.ensures

pub loop-next-preserved : goal.loop-next-preserved
loop-next-preserved c =
    let m = c.args.mode in
    let rest = c.loop-next.rest.items in
    let left = c.pop.new.self.items in
    let more = c.emit_pending.new.rest.items in
    let next = c.in-Some.next in
    let s = emitter_state c.loop-next.self in
    let t = emitter_state c.emit_pending.new.self in
    let end = with_code m.unicode m.behind (node_with_char_loops_if_enabled m.narrow (spec_node_of c.args.node.now)) (emitter_state c.args.self.now) in
    record {
      code = next-code rest left more next s t end c.in-Some.ensures.items c.loop-next.invariant.code c.in_ok-emit_pending.ensures;
      ready = next-ready rest left more next s t c.in-Some.ensures.items c.loop-next.invariant.ready c.in_ok-emit_pending.ensures;
    }
