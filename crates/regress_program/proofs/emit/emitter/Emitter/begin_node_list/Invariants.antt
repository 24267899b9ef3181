use Rattle.std.proofs.Common.{◌≡◌, ◌≤◌, length, IsTrue}
use Rattle.regex_meaning.specs.Tree.{every_node_passes}
use Rattle.regex_meaning.specs.WellFormedTrees.{set_sizes_and_characters_fit_instructions}
use Rattle.regress_program.specs.LeafNodesAndOptimizableLoops.{spec_cat_of_children}
use Rattle.regress_program.specs.InnerNodeCountMeasure.{inner_node_count}
use Rattle.regress_program.specs.EmitterStateAndAppendedCode.{HasIndexRoomForNode, node_with_char_loops_if_enabled, emitter_state, with_code}
use Rattle.regress_program.proofs.PendingEmissionLemmas.{Grows}
use Rattle.regress_program.proofs.emit.emitter.Emitter.begin_node_list.Given as goal

abbrev pub invariant-loop-first : goal.invariant-loop-first
invariant-loop-first l =
    let m = l.fn.mode in
    let row = node_with_char_loops_if_enabled m.narrow (spec_cat_of_children l.left) in
    let whole = node_with_char_loops_if_enabled m.narrow (spec_cat_of_children l.fn.nodes) in
    record {
      rest : l.rest.items ≡ l.fn.rest.items;
      grows : Grows (emitter_state l.fn.self) (emitter_state l.self);
      sets : IsTrue (every_node_passes set_sizes_and_characters_fit_instructions (spec_cat_of_children l.left));
      room : HasIndexRoomForNode (emitter_state l.self) row;
      light : inner_node_count row ≤ inner_node_count whole;
      code : with_code m.unicode m.behind row (emitter_state l.self) ≡ with_code m.unicode m.behind whole (emitter_state l.fn.self);
    }

abbrev pub decreases-loop-first : goal.decreases-loop-first
decreases-loop-first l = length l.left
