-- A start predicate and its copies tell whether the tree is anchored.
use Rattle.std.proofs.Common.{◌≡◌, ℕ, List, [], ◌∷◌, Bool, true, false, refl, ap, sym, ◌∙◌, subst}
use Rattle.std.specs.Prelude.{if◌then◌else◌}
use Rattle.regex_meaning.specs.Tree.{Tree}
use Rattle.regex_meaning.specs.StartPredicate as predicate
use Rattle.regex_meaning.specs.StartPredicate.{AbstractStartPredicate, open_ended, arbitrary, sequence, one_of, abstract_start_predicate, resolved_start_predicate, start_anchored, start_predicate}
use Rattle.regex_pattern_front.specs.declared.ir.Regex.{Regex}
use Rattle.regress_program.specs.CompilationOfTreesAsFunction.{compiled}
use Rattle.regress_program.specs.StartPredicates.{IsCopyOfPredicate, IsStartPredicateOfTree, is_anchored_predicate, is_anchored_tree}
use Rattle.regress_program.specs.declared.insn.start_predicate_type.StartPredicate.{StartPredicate}
use Rattle.regress_program.specs.declared.insn.start_predicate_type.StartPredicate.TheVariants.{Arbitrary, ByteSet1, ByteSet2, ByteSet3, ByteSeq, ByteBracket, StartAnchored}

again : (p copy : StartPredicate) (re : Regex) → copy ≡ p → IsStartPredicateOfTree p re → IsStartPredicateOfTree copy re
again p copy re same is = let P : StartPredicate → Type 0 = λ s. IsStartPredicateOfTree s re in subst P (sym same) is

-- A copy of a start predicate is one of the same tree.
pub copy-start : (p copy : StartPredicate) (re : Regex) → IsCopyOfPredicate p copy → IsStartPredicateOfTree p re → IsStartPredicateOfTree copy re
copy-start (ByteSeq bytes) (ByteSeq copy) re same is = record { predicate = ap (λ (l : List ℕ). predicate.start_byte_sequence l) same ∙ is.predicate; short = tt }
copy-start (ByteSeq bytes) Arbitrary re same is = again (ByteSeq bytes) Arbitrary re same is
copy-start (ByteSeq bytes) (ByteSet1 set) re same is = again (ByteSeq bytes) (ByteSet1 set) re same is
copy-start (ByteSeq bytes) (ByteSet2 set) re same is = again (ByteSeq bytes) (ByteSet2 set) re same is
copy-start (ByteSeq bytes) (ByteSet3 set) re same is = again (ByteSeq bytes) (ByteSet3 set) re same is
copy-start (ByteSeq bytes) (ByteBracket set) re same is = again (ByteSeq bytes) (ByteBracket set) re same is
copy-start (ByteSeq bytes) StartAnchored re same is = again (ByteSeq bytes) StartAnchored re same is
copy-start Arbitrary copy re same is = again Arbitrary copy re same is
copy-start (ByteSet1 set) copy re same is = again (ByteSet1 set) copy re same is
copy-start (ByteSet2 set) copy re same is = again (ByteSet2 set) copy re same is
copy-start (ByteSet3 set) copy re same is = again (ByteSet3 set) copy re same is
copy-start (ByteBracket set) copy re same is = again (ByteBracket set) copy re same is
copy-start StartAnchored copy re same is = again StartAnchored copy re same is

-- ---- Anchored trees

unanchored : (b : AbstractStartPredicate) → is_anchored_predicate (resolved_start_predicate b) ≡ false
unanchored open_ended = refl
unanchored arbitrary = refl
unanchored (sequence []) = refl
unanchored (sequence (b ∷ [])) = refl
unanchored (sequence (b ∷ c ∷ bs)) = refl
unanchored (one_of []) = refl
unanchored (one_of (b ∷ bs)) = refl

-- The start predicate of a tree is anchored exactly if the tree is.
pub anchored-predicate : (tree : Tree) → is_anchored_predicate (start_predicate tree) ≡ is_anchored_tree tree
unfolding start_predicate
anchored-predicate tree = by (is_anchored_tree tree)
  where
    by : (b : Bool) → is_anchored_predicate (if b then start_anchored else resolved_start_predicate (abstract_start_predicate tree.root)) ≡ b
    by true = refl
    by false = unanchored (abstract_start_predicate tree.root)

pub anchored-compiled : (tree : Tree) → is_anchored_predicate (compiled tree).start_pred ≡ is_anchored_tree tree
unfolding compiled
anchored-compiled tree = anchored-predicate tree
