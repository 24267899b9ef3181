use Rattle.std.proofs.Common.{arith, length}
use Rattle.std.specs.Prelude.{nat_lt}
use Rattle.std.proofs.lemmas.Bool.{and_from}
use Rattle.regex_meaning.specs.Tree.{alt, every_node_passes}
use Rattle.regex_meaning.specs.CompilationRelation.{Alt}
use Rattle.regex_meaning.specs.WellFormedTrees.{set_sizes_and_characters_fit_instructions}
use Rattle.regex_pattern_front.specs.AstToSpecTree.{spec_node_of}
use Rattle.regress_program.specs.InnerNodeCountMeasure.{inner_node_count}
use Rattle.regress_program.specs.EmitterStateAndAppendedCode.{node_with_char_loops_if_enabled, emitter_state, with_code}
use Rattle.regress_program.specs.PendingEmission.{node_measure, pending_measure, is_emittable, with_pending}
use Rattle.regress_program.proofs.PendingEmissionLemmas.{begun-two, grows-put, place-put, put-alternatives}
use Rattle.regress_program.proofs.emit.emitter.Emitter.begin_alternatives.Goals as goal

pub returns : goal.returns
unfolding with_pending is_emittable pending_measure inner_node_count
returns c =
    let m = c.args.mode in
    let a = node_with_char_loops_if_enabled m.narrow (spec_node_of c.args.first.now) in
    let b = node_with_char_loops_if_enabled m.narrow (spec_node_of c.args.others.now) in
    let s = emitter_state c.args.self.now in
    let t = emitter_state c.append_insn.new.self in
    let branch = c.next-branch.result in
    let place = place-put (Alt 0) branch s t c.in_ok-append_insn.ensures c.next-branch.ensures in
    begun-two (with_code m.unicode m.behind (alt a b)) (node_measure (alt a b)) c.args.rest.now.items c.push.new.self.items c.push-2.new.self.items _ _ s t
    c.in_ok-push.ensures.items c.in_ok-push-2.ensures.items
    (put-alternatives m.unicode m.behind a b branch s t c.in_ok-append_insn.ensures c.next-branch.ensures)
    (grows-put (Alt 0) s t c.in_ok-append_insn.ensures)
    (and_from (nat_lt branch (length t.insns)) (every_node_passes set_sizes_and_characters_fit_instructions (spec_node_of c.args.others.now)) place c.requires.others)
    c.requires.first (omega arith)
