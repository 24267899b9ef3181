-- The start predicates of programs, and when computing one allocates memory.
use Rattle.std.specs.Prelude.{◌≡◌, ◌<◌, Bool, true, false, not, ◌&&◌, ◌||◌, length, nat_lt, ⊤}
use Rattle.regex_meaning.specs.Tree.{Node, byte_sequence, cat, alt, bracket, capture_group, loop, loop_1_char_body, Tree}
use Rattle.regex_meaning.specs.StartPredicate as predicate
use Rattle.regex_meaning.specs.StartPredicate.{AbstractStartPredicate, start_anchored, open_ended, sequence, abstract_start_predicate, is_anchored}
use Rattle.regex_pattern_front.specs.ByteSetMembers.{member_bytes_of_byte_bitmap}
use Rattle.regex_pattern_front.specs.AstToSpecTree.{tree_of}
use Rattle.regex_pattern_front.specs.declared.ir.Regex.{Regex}
use Rattle.regress_program.specs.InsnsAsSpec.{start_predicate_as_spec}
use Rattle.regress_program.specs.CompilationOfTreesAsFunction.{compiled}
use Rattle.regress_program.specs.declared.insn.start_predicate_type.StartPredicate.{StartPredicate}
use Rattle.regress_program.specs.declared.insn.start_predicate_type.StartPredicate.TheVariants.{ByteSeq, ByteBracket}

-- A set of bytes that is stored as a bitmap has more than three members. Smaller sets are arrays.
abbrev pub HasOverThreeBytes : StartPredicate → Type 0
HasOverThreeBytes (ByteBracket set) = 3 < length (member_bytes_of_byte_bitmap set)
HasOverThreeBytes _ = ⊤

-- A copy: the same variant with the same bytes.
abbrev pub IsCopyOfPredicate : (p copy : StartPredicate) → Type 0
IsCopyOfPredicate (ByteSeq bytes) (ByteSeq copy) = copy.items ≡ bytes.items
IsCopyOfPredicate p copy = copy ≡ p

-- The value is the start predicate of the tree.
pub record IsStartPredicateOfTree (p : StartPredicate) (tree : Regex) : Type 0 where
  pub predicate : start_predicate_as_spec p ≡ (compiled (tree_of tree)).start_pred
  pub short : HasOverThreeBytes p

-- The predicate says that the tree matches only at the left end.
abbrev pub is_anchored_predicate : predicate.StartPredicate → Bool
is_anchored_predicate start_anchored = true
is_anchored_predicate _ = false

-- Every alternative of the tree begins with `^`, outside loops and lookarounds, and the flag `m` is
-- not set. So the tree matches only at the left end.
abbrev pub is_anchored_tree : Tree → Bool
is_anchored_tree tree = not tree.flags.multiline && is_anchored tree.root

-- The predicate says that the node reads nothing.
abbrev pub predicate_says_reads_nothing : AbstractStartPredicate → Bool
predicate_says_reads_nothing open_ended = true
predicate_says_reads_nothing _ = false

-- The predicate says that the node begins with a byte sequence.
abbrev pub predicate_is_byte_sequence : AbstractStartPredicate → Bool
predicate_is_byte_sequence (sequence bytes) = true
predicate_is_byte_sequence _ = false

-- A byte sequence or an inverted class may be reached before it is known what the node begins with.
unfoldable pub making_node_start_predicate_may_allocate : Node → Bool
making_node_start_predicate_may_allocate (byte_sequence bytes) = true
making_node_start_predicate_may_allocate (bracket contents) = contents.invert
making_node_start_predicate_may_allocate (cat first rest) = making_node_start_predicate_may_allocate
    first || predicate_says_reads_nothing (abstract_start_predicate first) && making_node_start_predicate_may_allocate
    rest
making_node_start_predicate_may_allocate (alt left right) =
    making_node_start_predicate_may_allocate left || making_node_start_predicate_may_allocate right
making_node_start_predicate_may_allocate (capture_group id name contents) =
    making_node_start_predicate_may_allocate contents
making_node_start_predicate_may_allocate (loop q start_group end_group loopee) =
    nat_lt 0 q.min && making_node_start_predicate_may_allocate loopee
making_node_start_predicate_may_allocate (loop_1_char_body q loopee) =
    nat_lt 0 q.min && making_node_start_predicate_may_allocate loopee
making_node_start_predicate_may_allocate _ = false

-- Computing the tree's start predicate may allocate memory.
abbrev pub start_predicate_may_allocate : Tree → Bool
start_predicate_may_allocate tree = not (is_anchored_tree tree) && making_node_start_predicate_may_allocate tree.root
