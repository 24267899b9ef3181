-- Which texts the program of a tree can search.
use Rattle.std.specs.Prelude.{◌≡◌, IsTrue}
use Rattle.regex_meaning.specs.Tree.{Tree}
use Rattle.regex_meaning.specs.Text.{Text}
use Rattle.regex_meaning.specs.WellFormedTrees.{is_well_formed}
use Rattle.regress_machine.specs.TextsForBytePrograms.{HasUtf8CharactersAndOffsets, tree_contains_byte_nodes}

-- The tree is well formed, and the text is read as the tree's flags say. If the program reads
-- bytes, it is a byte text.
pub record TreeCanSearchText (tree : Tree) (text : Text) : Type 0 where
  pub well_formed : IsTrue (is_well_formed tree.root)
  pub unicode : text.unicode ≡ tree.flags.unicode
  pub bytes : IsTrue (tree_contains_byte_nodes tree.root) → HasUtf8CharactersAndOffsets text
