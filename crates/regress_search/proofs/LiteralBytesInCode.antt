-- The program of a tree that reads no bytes has no literal bytes.
use Rattle.std.proofs.Common.{◌≡◌, ℕ, zero, suc, ◌+◌, ◌-◌, List, [], ◌∷◌, ◌++◌, length, map, Some, Bool, true, false, ◌||◌, refl, subst, slice_get}
use Rattle.std.specs.Prelude.{if◌then◌else◌, IsTrue}
use Rattle.regex_meaning.specs.NumberListHelpers.{numbers_from}
use Rattle.regex_meaning.specs.Tree.{Node, AnchorType, start_of_line, end_of_line, empty, goal, char, char_set, byte_set, byte_sequence, cat, end_of_cat, alt, bracket, string_set, match_any}
use Rattle.regex_meaning.specs.Tree.{match_any_except_line_terminator, anchor, word_boundary}
use Rattle.regex_meaning.specs.Tree.{capture_group, back_ref, lookaround, loop, loop_1_char_body, Tree}
use Rattle.regex_meaning.specs.Text.{expand_code_point}
use Rattle.regex_meaning.specs.Outcomes.{in_intervals}
use Rattle.regex_meaning.specs.StartPredicate.{bytes_that_pass}
use Rattle.regex_meaning.specs.CompilationRelation.{Insn, Jump, ResetCaptureGroup, EndCaptureGroup, LoopAgain, Goal, AsciiBracket, Bracket, Lookahead, Lookbehind, char_set_insn, case_variants_insn}
use Rattle.regex_meaning.specs.CompilationRelation.{anchor_insn, word_boundary_insn, reversed_if_in_lookbehind, is_uninverted_ascii_class}
use Rattle.regex_meaning.specs.CompilationRelation.{tree_contains_byte_nodes}
use Rattle.regress_program.specs.CompilationOfTreesAsFunction.{node_insn_count, strings_size, loop_count, brackets_of, string_code, strings_code, code_of, compiled}
use Rattle.regress_machine.specs.InsnEffects.{is_byte_sequence_insn}
use Rattle.regex_meaning.proofs.BoolLemmas.{or-false-left, or-false-right}

-- None of the instructions has literal bytes.
abbrev plain : List Insn → Type 0
plain [] = Unit {0}
plain (x ∷ xs) = (is_byte_sequence_insn x ≡ false) × plain xs

plain-append : (xs ys : List Insn) → plain xs → plain ys → plain (xs ++ ys)
plain-append [] ys h k = k
plain-append (x ∷ xs) ys h k = (h.0, plain-append xs ys h.1 k)

plain-map : {X : Type 0} (f : X → Insn) → ((x : X) → is_byte_sequence_insn (f x) ≡ false) → (xs : List X) → plain (map f xs)
plain-map f h [] = tt
plain-map f h (x ∷ xs) = (h x, plain-map f h xs)

plain-if : (b : Bool) (x y : Insn) → is_byte_sequence_insn x ≡ false → is_byte_sequence_insn y ≡ false → is_byte_sequence_insn (if b then x else y) ≡ false
plain-if true x y h k = h
plain-if false x y h k = k

plain-char_set : (members : List ℕ) → is_byte_sequence_insn (char_set_insn members) ≡ false
plain-char_set [] = refl
plain-char_set (first ∷ rest) = refl

plain-spelling : (spellings : List ℕ) → is_byte_sequence_insn (case_variants_insn spellings) ≡ false
plain-spelling [] = refl
plain-spelling (c ∷ []) = refl
plain-spelling (c ∷ d ∷ more) = refl

plain-anchor : (type : AnchorType) (multiline : Bool) → is_byte_sequence_insn (anchor_insn type multiline) ≡ false
plain-anchor start_of_line multiline = refl
plain-anchor end_of_line multiline = refl

plain-word_boundary : (invert unicode_icase : Bool) → is_byte_sequence_insn (word_boundary_insn invert unicode_icase) ≡ false
plain-word_boundary invert true = refl
plain-word_boundary invert false = refl

module _ (unicode : Bool) where
  plain-string : (icase behind : Bool) (string : List ℕ) → plain (string_code unicode icase behind string)
  plain-string icase behind string = plain-map (λ c. case_variants_insn (expand_code_point c icase unicode)) (λ c. plain-spelling (expand_code_point c icase unicode)) (reversed_if_in_lookbehind behind string)

  plain-strings : (icase behind : Bool) (strings : List (List ℕ)) (at : ℕ) → plain (strings_code unicode icase behind strings at)
  plain-strings icase behind [] at = (refl, tt)
  plain-strings icase behind (s ∷ []) at = plain-string icase behind s
  plain-strings icase behind (s ∷ t ∷ more) at =
      let second = at + length s + 2 in (
        refl,
        plain-append (string_code unicode icase behind s) (Jump (second + strings_size (t ∷ more)) ∷ strings_code unicode icase behind (t ∷ more) second)
            (plain-string icase behind s) (refl, plain-strings icase behind (t ∷ more) second),
      )

  code-plain : (behind : Bool) (node : Node) (at loops brackets : ℕ) → tree_contains_byte_nodes node ≡ false → plain (code_of unicode behind node at loops brackets)
  unfolding code_of
  code-plain behind empty at loops brackets h = tt
  code-plain behind goal at loops brackets h = (refl, tt)
  code-plain behind (char c) at loops brackets h = (refl, tt)
  code-plain behind (char_set members) at loops brackets h = (plain-char_set members, tt)
  code-plain behind (byte_set members) at loops brackets h = cc
  code-plain behind (byte_sequence bytes) at loops brackets h = cc
  code-plain behind end_of_cat at loops brackets h = tt
  code-plain behind (cat first rest) at loops brackets h =
      plain-append (code_of unicode behind first at loops brackets)
      (code_of unicode behind rest (at + node_insn_count first) (loops + loop_count first) (brackets + length (brackets_of first)))
      (code-plain behind first at loops brackets (or-false-left (tree_contains_byte_nodes first) (tree_contains_byte_nodes rest) h))
      (code-plain behind rest (at + node_insn_count first) (loops + loop_count first) (brackets + length (brackets_of first)) (or-false-right (tree_contains_byte_nodes first) (tree_contains_byte_nodes rest) h))
  code-plain behind (alt left right) at loops brackets h =
      let second = at + node_insn_count left + 2 in (
        refl,
        plain-append (code_of unicode behind left (at + 1) loops brackets)
            (Jump (second + node_insn_count right) ∷ code_of unicode behind right second (loops + loop_count left) (brackets + length (brackets_of left)))
            (code-plain behind left (at + 1) loops brackets (or-false-left (tree_contains_byte_nodes left) (tree_contains_byte_nodes right) h))
            (refl, code-plain behind right second (loops + loop_count left) (brackets + length (brackets_of left)) (or-false-right (tree_contains_byte_nodes left) (tree_contains_byte_nodes right) h)),
      )
  code-plain behind (bracket contents) at loops brackets h =
      (plain-if (is_uninverted_ascii_class contents) (AsciiBracket (bytes_that_pass (in_intervals contents.intervals))) (Bracket brackets) refl refl, tt)
  code-plain behind (string_set strings icase) at loops brackets h = plain-strings icase behind strings at
  code-plain behind match_any at loops brackets h = (refl, tt)
  code-plain behind match_any_except_line_terminator at loops brackets h = (refl, tt)
  code-plain behind (anchor type multiline) at loops brackets h = (plain-anchor type multiline, tt)
  code-plain behind (word_boundary invert unicode_icase) at loops brackets h = (plain-word_boundary invert unicode_icase, tt)
  code-plain behind (capture_group id name contents) at loops brackets h =
      (refl, plain-append (code_of unicode behind contents (at + 1) loops brackets) (EndCaptureGroup id ∷ []) (code-plain behind contents (at + 1) loops brackets h) (refl, tt))
  code-plain behind (back_ref group icase) at loops brackets h = (refl, tt)
  code-plain behind (lookaround l contents) at loops brackets h =
      let continuation = at + node_insn_count contents + 2 in (
        plain-if l.backwards (Lookbehind l.negate l.start_group l.end_group continuation) (Lookahead l.negate l.start_group l.end_group continuation) refl refl,
        plain-append (code_of unicode l.backwards contents (at + 1) loops brackets) (Goal ∷ []) (code-plain l.backwards contents (at + 1) loops brackets h) (refl, tt),
      )
  code-plain behind (loop q start_group end_group loopee) at loops brackets h =
      let body = at + 1 + (end_group - start_group) in (
        refl,
        plain-append (map ResetCaptureGroup (numbers_from start_group (end_group - start_group))) (code_of unicode behind loopee body (loops + 1) brackets ++ LoopAgain at ∷ [])
            (plain-map ResetCaptureGroup (λ id. refl) (numbers_from start_group (end_group - start_group)))
            (plain-append (code_of unicode behind loopee body (loops + 1) brackets) (LoopAgain at ∷ []) (code-plain behind loopee body (loops + 1) brackets h) (refl, tt)),
      )
  code-plain behind (loop_1_char_body q loopee) at loops brackets h = (refl, code-plain behind loopee (at + 1) loops brackets h)

plain-at : (xs : List Insn) (i : ℕ) (x : Insn) → plain xs → slice_get xs i ≡ Some x → is_byte_sequence_insn x ≡ false
plain-at [] i x h e = cc
plain-at (y ∷ xs) zero x h e = let same : y ≡ x = cc in subst (λ z. is_byte_sequence_insn z ≡ false) same h.0
plain-at (y ∷ xs) (suc i) x h e = plain-at xs i x h.1 e

-- If an instruction has literal bytes, the tree reads bytes.
pub literal-reads : (tree : Tree) (i : ℕ) (insn : Insn) → slice_get (compiled tree).insns i ≡ Some insn → IsTrue (is_byte_sequence_insn insn) → IsTrue (tree_contains_byte_nodes tree.root)
unfolding compiled
literal-reads tree i insn e literal = by (tree_contains_byte_nodes tree.root) refl
  where
    by : (b : Bool) → tree_contains_byte_nodes tree.root ≡ b → IsTrue b
    by true q = refl
    by false q =
        let none : is_byte_sequence_insn insn ≡ false = plain-at (code_of tree.flags.unicode false tree.root 0 0 0) i insn (code-plain tree.flags.unicode false tree.root 0 0 0 q) e in
        cc
