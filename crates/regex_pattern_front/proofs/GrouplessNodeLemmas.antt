-- Each node without groups that the parser makes is a well-formed subtree.
use Rattle.regex_meaning.specs.Tree.{by_case}
use Rattle.std.proofs.Common.{◌≡◌, ℕ, ◌<◌, ◌≤◌, Bool, true, false, ◌&&◌, [], length, refl, arith, Vec, Global}
use Rattle.std.specs.Prelude.{nat_le}
use Rattle.std.proofs.lemmas.Bool.{le-leb}
pub use Rattle.regex_meaning.proofs.PatternTreeLemmas.{few_members}
use Rattle.regex_meaning.proofs.PatternTreeLemmas.{leaf-reference}
use Rattle.regex_pattern_front.specs.AstToSpecTree.{spec_node_of}
use Rattle.regex_pattern_front.specs.SubtreeListInvariants.{IsSoundSubtreeWithGroupIds, AreSoundSubtrees, IsWellFormedGrouplessSubtree}
use Rattle.regex_pattern_front.specs.declared.ir.AnchorType.{AnchorType}
use Rattle.regex_pattern_front.specs.declared.ir.Node.TheVariants.{Empty, Char, CharSet, Bracket, MatchAny, MatchAnyExceptLineTerminator, Anchor, WordBoundary, BackRef}
use Rattle.regex_pattern_front.specs.declared.types.BracketContents.{BracketContents}
use Rattle.regex_pattern_front.proofs.SubtreeListLemmas.{part-leaf}

module _ (greatest : ℕ) where
  leaf-Empty : IsWellFormedGrouplessSubtree greatest (spec_node_of Empty)
  unfolding spec_node_of
  leaf-Empty = record { goals = refl; ids = refl; sound = refl }

  pub leaf-Char : (c : ℕ) → IsWellFormedGrouplessSubtree greatest (spec_node_of (Char c))
  unfolding spec_node_of
  leaf-Char c = record { goals = refl; ids = refl; sound = refl }

  pub leaf-CharSet : (members : Vec ℕ Global) → length members.items ≤ 4 → IsWellFormedGrouplessSubtree greatest (spec_node_of (CharSet members))
  unfolding spec_node_of
  leaf-CharSet members few = record { goals = refl; ids = refl; sound = le-leb (length members.items) 4 few }

  pub leaf-Bracket : (contents : BracketContents) → IsWellFormedGrouplessSubtree greatest (spec_node_of (Bracket contents))
  unfolding spec_node_of
  leaf-Bracket contents = record { goals = refl; ids = refl; sound = refl }

  pub leaf-MatchAny : IsWellFormedGrouplessSubtree greatest (spec_node_of MatchAny)
  unfolding spec_node_of
  leaf-MatchAny = record { goals = refl; ids = refl; sound = refl }

  pub leaf-MatchAnyExceptLineTerminator : IsWellFormedGrouplessSubtree greatest (spec_node_of MatchAnyExceptLineTerminator)
  unfolding spec_node_of
  leaf-MatchAnyExceptLineTerminator = record { goals = refl; ids = refl; sound = refl }

  pub leaf-Anchor : (type : AnchorType) (multiline : Bool) → IsWellFormedGrouplessSubtree greatest (spec_node_of (Anchor type multiline))
  unfolding spec_node_of
  leaf-Anchor type multiline = record { goals = refl; ids = refl; sound = refl }

  pub leaf-WordBoundary : (invert unicode_icase : Bool) → IsWellFormedGrouplessSubtree greatest (spec_node_of (WordBoundary invert unicode_icase))
  unfolding spec_node_of
  leaf-WordBoundary invert unicode_icase = record { goals = refl; ids = refl; sound = refl }

  pub leaf-BackRef : (group : ℕ) (icase : Bool) → 0 < group → group ≤ greatest → IsWellFormedGrouplessSubtree greatest (spec_node_of (BackRef group icase))
  unfolding spec_node_of
  leaf-BackRef group icase h k = leaf-reference greatest group (by_case icase) h k

  -- In place of no subtrees, the empty node is a sound subtree.
  pub part-Empty : (first end : ℕ) → AreSoundSubtrees first end greatest [] → IsSoundSubtreeWithGroupIds first end greatest (spec_node_of Empty)
  part-Empty first end a =
      let same : end ≡ first = omega (arith, a.count) in
      rw same (part-leaf first greatest (spec_node_of Empty) leaf-Empty)
