-- The program of a well-formed tree can be searched with in each text of the tree's Unicode mode.
use Rattle.std.proofs.Common.{◌≡◌, ℕ, suc, List, [], ◌∷◌, true, false, refl, ap, sym, ◌∙◌}
use Rattle.std.specs.Prelude.{IsTrue, IsAscii, nat_lt}
use Rattle.std.specs.List.{list_all}
use Rattle.regex_meaning.specs.Tree.{Tree}
use Rattle.regex_meaning.specs.Text.{Text}
use Rattle.regex_meaning.specs.CodeUnitOffsets.{HasRisingPlaceOffsets}
use Rattle.regex_meaning.specs.WellFormedTrees.{is_well_formed}
use Rattle.regress_program.specs.CompilationOfTreesAsFunction.{compiled}
use Rattle.regress_program.proofs.CompiledTreeLemmas.{compiled-is_code}
use Rattle.regress_machine.specs.TextsForBytePrograms.{HasUtf8CharactersAndOffsets, tree_contains_byte_nodes}
use Rattle.regress_machine.specs.SearchFindsFirstOutcomeAtPlace.{TreeProgramCanSearchText}
use Rattle.std.proofs.lemmas.Bool.{and_from, lt-ltb}

pub can-search : (tree : Tree) (text : Text) → IsTrue (is_well_formed tree.root) → HasRisingPlaceOffsets text → text.unicode ≡ tree.flags.unicode
    → (IsTrue (tree_contains_byte_nodes tree.root) → HasUtf8CharactersAndOffsets text) → TreeProgramCanSearchText (compiled tree) tree text
can-search tree text w is u b = record {
  code = (compiled-is_code tree w).code;
  well_formed = w;
  is_text = is;
  unicode = u;
  bytes = b;
}

-- If bytes are ASCII, each of them is less than 128.
pub all-ascii : (bytes : List ℕ) → IsAscii bytes → list_all (λ b. nat_lt b 128) bytes ≡ true
all-ascii [] h = refl
all-ascii (b ∷ bytes) h = and_from (nat_lt b 128) (list_all (λ b. nat_lt b 128) bytes) (lt-ltb b 128 (h 0)) (all-ascii bytes (λ i. h (suc i)))

-- No tree that reads bytes is equal to one that reads none.
pub without-bytes : {P : Type 0} (tree run : Tree) → run ≡ tree → tree_contains_byte_nodes tree.root ≡ false → IsTrue (tree_contains_byte_nodes run.root) → P
without-bytes tree run same none reads = cc (sym reads ∙ ap (λ (t : Tree). tree_contains_byte_nodes t.root) same ∙ none)
