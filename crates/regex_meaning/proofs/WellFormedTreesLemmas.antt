-- A tree is well formed exactly if each clause of the definition holds.
use Rattle.std.proofs.Common.{Bool, ◌&&◌, length}
use Rattle.std.specs.Prelude.{IsTrue}
use Rattle.regex_meaning.specs.Tree.{Node, group_ids, every_node_passes}
use Rattle.regex_meaning.specs.WellFormedTrees.{IsWellFormed, is_well_formed, only_goal_node_is_last, each_id_stands_once, has_exact_group_range, refers_to_a_group, has_order_in_quantifier}
use Rattle.regex_meaning.specs.WellFormedTrees.{has_one_character_body, has_text_in_sequence, set_sizes_and_characters_fit_instructions}
use Rattle.std.proofs.lemmas.Bool.{and_from}
use Rattle.regex_meaning.proofs.BoolLemmas.{and-left, and-right}

pub record Clauses (root : Node) : Type 0 where
  pub goal_last : IsTrue (only_goal_node_is_last root)
  pub ids : IsTrue (each_id_stands_once root)
  pub enclosed : IsTrue (every_node_passes has_exact_group_range root)
  pub references : IsTrue (every_node_passes (refers_to_a_group (length (group_ids root))) root)
  pub quantifiers : IsTrue (every_node_passes has_order_in_quantifier root)
  pub bodies : IsTrue (every_node_passes has_one_character_body root)
  pub sequences : IsTrue (every_node_passes has_text_in_sequence root)
  pub sets : IsTrue (every_node_passes set_sizes_and_characters_fit_instructions root)

eight : (a b c d e f g h : Bool) → IsTrue (a && b && c && d && e && f && g && h)
    → IsTrue a × IsTrue b × IsTrue c × IsTrue d × IsTrue e × IsTrue f × IsTrue g × IsTrue h
eight a b c d e f g h all =
    let to_g = and-left (a && b && c && d && e && f && g) h all in
    let to_f = and-left (a && b && c && d && e && f) g to_g in
    let to_e = and-left (a && b && c && d && e) f to_f in
    let to_d = and-left (a && b && c && d) e to_e in
    let to_c = and-left (a && b && c) d to_d in
    let to_b = and-left (a && b) c to_c in (
      and-left a b to_b,
      and-right a b to_b,
      and-right (a && b) c to_c,
      and-right (a && b && c) d to_d,
      and-right (a && b && c && d) e to_e,
      and-right (a && b && c && d && e) f to_f,
      and-right (a && b && c && d && e && f) g to_g,
      and-right (a && b && c && d && e && f && g) h all,
    )

pub clauses : (root : Node) → IsWellFormed root → Clauses root
unfolding is_well_formed
clauses root h =
    let p = eight _ _ _ _ _ _ _ _ h in
    record {
      goal_last = p.0;
      ids = p.1;
      enclosed = p.2;
      references = p.3;
      quantifiers = p.4;
      bodies = p.5;
      sequences = p.6;
      sets = p.7;
    }

pub by_clauses : (root : Node) → Clauses root → IsWellFormed root
unfolding is_well_formed
by_clauses root c =
    and_from _ _ (and_from _ _ (and_from _ _ (and_from _ _ (and_from _ _ (and_from _ _ (and_from _ _ c.goal_last c.ids) c.enclosed) c.references) c.quantifiers) c.bodies) c.sequences) c.sets
