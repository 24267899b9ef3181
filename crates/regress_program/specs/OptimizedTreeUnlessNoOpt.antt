-- The tree to run: the tree whose program is executed.
use Rattle.std.specs.Prelude.{Bool, true, false, if◌then◌else◌}
use Rattle.regex_meaning.specs.Tree.{Tree}
use Rattle.regex_pattern_front.specs.OptimizedTrees.{optimized}

-- The optimized tree, or the tree itself if the flag `no_opt` is set.
abbrev pub optimized_tree_unless_no_opt : Tree → Tree
optimized_tree_unless_no_opt tree = record {
  root = if tree.flags.no_opt then tree.root
      else optimized tree.root;
  flags = tree.flags;
}

-- The tree whose code is planned. It is the tree itself for a program for bytes, and the tree to
-- run for a program for 16-bit code units.
abbrev pub planned_tree : (wide : Bool) → Tree → Tree
planned_tree false tree = tree
planned_tree true tree = optimized_tree_unless_no_opt tree
