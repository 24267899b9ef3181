-- The program of a tree, as a function.
use Rattle.std.specs.Prelude.{ℕ, ◌+◌, ◌-◌, Bool, false, List, [], ◌∷◌, ◌++◌, map, length, if◌then◌else◌}
use Rattle.regex_meaning.specs.NumberListHelpers.{numbers_from}
use Rattle.regex_meaning.specs.Tree.{BracketContents, Node, empty, goal, char, char_set, byte_set, byte_sequence, cat, end_of_cat, alt, bracket, string_set, match_any}
use Rattle.regex_meaning.specs.Tree.{match_any_except_line_terminator, anchor, word_boundary, capture_group, back_ref}
use Rattle.regex_meaning.specs.Tree.{lookaround, loop, loop_1_char_body, Tree, group_ids}
use Rattle.regex_meaning.specs.Text.{expand_code_point}
use Rattle.regex_meaning.specs.Outcomes.{max_iterations, in_intervals}
use Rattle.regex_meaning.specs.StartPredicate.{start_predicate, bytes_that_pass}
use Rattle.regex_meaning.specs.MatchGroupsByNumberAndName.{group_names_by_id}
use Rattle.regex_meaning.specs.CompilationRelation.{Insn, Goal, JustFail, Char, ByteSeq, AsciiBracket, Bracket, MatchAny, MatchAnyExceptLineTerminator, Alt, Jump, EnterLoop, LoopAgain}
use Rattle.regex_meaning.specs.CompilationRelation.{ResetCaptureGroup, Loop1CharBody, BeginCaptureGroup, EndCaptureGroup, BackRef, Program}
use Rattle.regex_meaning.specs.CompilationRelation.{char_set_insn, byte_set_insn, case_variants_insn, anchor_insn, word_boundary_insn, lookaround_insn, reversed_if_in_lookbehind}
use Rattle.regex_meaning.specs.CompilationRelation.{is_uninverted_ascii_class, chunks}

-- ---- Counts

-- The number of instructions of a set of strings. Each string but the last has a branch before it
-- and a jump after it.
abbrev pub strings_size : List (List ℕ) → ℕ
strings_size [] = 1
strings_size (s ∷ []) = length s
strings_size (s ∷ t ∷ more) = length s + 2 + strings_size (t ∷ more)

-- The number of instructions of a node.
unfoldable pub node_insn_count : Node → ℕ
node_insn_count empty = 0
node_insn_count end_of_cat = 0
node_insn_count (byte_sequence bytes) = length (chunks bytes)
node_insn_count (cat first rest) = node_insn_count first + node_insn_count rest
node_insn_count (alt left right) = node_insn_count left + node_insn_count right + 2
node_insn_count (string_set strings icase) = strings_size strings
node_insn_count (capture_group id name contents) = node_insn_count contents + 2
node_insn_count (lookaround l contents) = node_insn_count contents + 2
node_insn_count (loop q start_group end_group loopee) = (end_group - start_group) + node_insn_count loopee + 2
node_insn_count (loop_1_char_body q loopee) = node_insn_count loopee + 1
node_insn_count _ = 1

-- The number of instructions of a node without those of its children.
abbrev pub insn_count_without_children : Node → ℕ
insn_count_without_children empty = 0
insn_count_without_children end_of_cat = 0
insn_count_without_children (cat first rest) = 0
insn_count_without_children (byte_sequence bytes) = length (chunks bytes)
insn_count_without_children (alt left right) = 2
insn_count_without_children (string_set strings icase) = strings_size strings
insn_count_without_children (capture_group id name contents) = 2
insn_count_without_children (lookaround l contents) = 2
insn_count_without_children (loop q start_group end_group loopee) = (end_group - start_group) + 2
insn_count_without_children _ = 1

-- The number of loops of a node that are not char loops.
unfoldable pub loop_count : Node → ℕ
loop_count (cat first rest) = loop_count first + loop_count rest
loop_count (alt left right) = loop_count left + loop_count right
loop_count (capture_group id name contents) = loop_count contents
loop_count (lookaround l contents) = loop_count contents
loop_count (loop q start_group end_group loopee) = loop_count loopee + 1
loop_count (loop_1_char_body q loopee) = loop_count loopee
loop_count _ = 0

-- The brackets of a node that are stored in the list of brackets, and not in an instruction.
unfoldable pub brackets_of : Node → List BracketContents
brackets_of (bracket contents) = if is_uninverted_ascii_class contents then [] else contents ∷ []
brackets_of (cat first rest) = brackets_of first ++ brackets_of rest
brackets_of (alt left right) = brackets_of left ++ brackets_of right
brackets_of (capture_group id name contents) = brackets_of contents
brackets_of (lookaround l contents) = brackets_of contents
brackets_of (loop q start_group end_group loopee) = brackets_of loopee
brackets_of (loop_1_char_body q loopee) = brackets_of loopee
brackets_of _ = []

-- ---- Instructions

-- The code of a string: one instruction for each code point, with its case variants.
abbrev pub string_code : (unicode icase behind : Bool) → List ℕ → List Insn
string_code unicode icase behind string =
    map (λ c. case_variants_insn (expand_code_point c icase unicode)) (reversed_if_in_lookbehind behind string)

-- The code of a set of strings whose first instruction is at index `at`.
abbrev pub strings_code : (unicode icase behind : Bool) → List (List ℕ) → (at : ℕ) → List Insn
strings_code unicode icase behind [] at = JustFail ∷ []
strings_code unicode icase behind (s ∷ []) at = string_code unicode icase behind s
strings_code unicode icase behind (s ∷ t ∷ more) at =
    let second = at + length s + 2 in
    Alt second ∷ (string_code unicode icase behind s
    ++ Jump (second + strings_size (t ∷ more)) ∷ strings_code unicode icase behind (t ∷ more) second)

-- The instructions that reset the groups from `start_group` up to `end_group`, exclusive.
abbrev pub group_reset_insns : (start_group end_group : ℕ) → List Insn
group_reset_insns start_group end_group = map ResetCaptureGroup (numbers_from start_group (end_group - start_group))

-- The code of a node. Its first instruction is at index `at`, and its loops and brackets are
-- numbered from `loops` and `brackets` on.
unfoldable pub code_of : (unicode behind : Bool) → Node → (at loops brackets : ℕ) → List Insn
code_of unicode behind empty at loops brackets = []
code_of unicode behind goal at loops brackets = Goal ∷ []
code_of unicode behind (char c) at loops brackets = Char c ∷ []
code_of unicode behind (char_set members) at loops brackets = char_set_insn members ∷ []
code_of unicode behind (byte_set members) at loops brackets = byte_set_insn members ∷ []
code_of unicode behind (byte_sequence bytes) at loops brackets =
    map ByteSeq (reversed_if_in_lookbehind behind (chunks bytes))
code_of unicode behind end_of_cat at loops brackets = []
code_of unicode behind (cat first rest) at loops brackets =
    code_of unicode behind first at loops brackets
    ++ code_of unicode behind rest (at + node_insn_count first) (loops + loop_count first)
    (brackets + length (brackets_of first))
code_of unicode behind (alt left right) at loops brackets =
    let second = at + node_insn_count left + 2 in
    Alt second ∷ (code_of unicode behind left (at + 1) loops brackets
    ++ Jump (second + node_insn_count right) ∷ code_of unicode behind right second (loops + loop_count left)
    (brackets + length (brackets_of left)))
code_of unicode behind (bracket contents) at loops brackets =
    (if is_uninverted_ascii_class contents then AsciiBracket (bytes_that_pass (in_intervals contents.intervals))
    else Bracket brackets) ∷ []
code_of unicode behind (string_set strings icase) at loops brackets = strings_code unicode icase behind strings at
code_of unicode behind match_any at loops brackets = MatchAny ∷ []
code_of unicode behind match_any_except_line_terminator at loops brackets = MatchAnyExceptLineTerminator ∷ []
code_of unicode behind (anchor type multiline) at loops brackets = anchor_insn type multiline ∷ []
code_of unicode behind (word_boundary invert unicode_icase) at loops brackets =
    word_boundary_insn invert unicode_icase ∷ []
code_of unicode behind (capture_group id name contents) at loops brackets =
    BeginCaptureGroup id ∷ (code_of unicode behind contents (at + 1) loops brackets ++ EndCaptureGroup id ∷ [])
code_of unicode behind (back_ref group sameness) at loops brackets = BackRef (group - 1) sameness ∷ []
code_of unicode behind (lookaround l contents) at loops brackets =
    lookaround_insn l (at + node_insn_count contents + 2)
    ∷ (code_of unicode l.backwards contents (at + 1) loops brackets ++ Goal ∷ [])
code_of unicode behind (loop q start_group end_group loopee) at loops brackets =
    let body = at + 1 + (end_group - start_group) in
    let exit = body + node_insn_count loopee + 1 in
    EnterLoop (record {
      loop_id =
          loops;
      min_iters = q.min;
      max_iters = max_iterations q;
      greedy = q.greedy;
      exit = exit;
    })
    ∷ (group_reset_insns start_group end_group ++ (code_of unicode behind loopee body (loops + 1) brackets ++ LoopAgain
    at ∷ []))
code_of unicode behind (loop_1_char_body q loopee) at loops brackets =
    Loop1CharBody q.min (max_iterations q) q.greedy ∷ code_of unicode behind loopee (at + 1) loops brackets

-- ---- The whole program

-- The program of a tree.
unfoldable pub compiled : Tree → Program
compiled tree = record {
  insns = code_of tree.flags.unicode false tree.root 0 0 0;
  brackets = brackets_of tree.root;
  loops = loop_count tree.root;
  groups = length (group_ids tree.root);
  flags = tree.flags;
  group_names = group_names_by_id tree.root;
  start_pred = start_predicate tree;
}
