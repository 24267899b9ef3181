-- The program compiled from a well-formed tree satisfies the compilation relation.
use Rattle.std.proofs.Common.{◌≡◌, ℕ, ◌+◌, ◌-◌, Bool, true, false, List, [], ◌∷◌, ◌++◌, map, length, refl, sym, ap, subst, ◌∙◌, arith, append_assoc, append-nil, length-append, slice_get, Some}
use Rattle.std.proofs.Common.{if◌then◌else◌}
use Rattle.std.specs.Prelude.{MatchBool}
use Rattle.regex_meaning.specs.Tree.{Node, BracketContents, empty, goal, char, char_set, byte_set, byte_sequence, cat, end_of_cat, alt, bracket, string_set, match_any}
use Rattle.regex_meaning.specs.Tree.{match_any_except_line_terminator, anchor, word_boundary, capture_group, back_ref, lookaround, loop, loop_1_char_body, Tree}
use Rattle.regex_meaning.specs.Outcomes.{max_iterations, in_intervals}
use Rattle.regex_meaning.specs.StartPredicate.{bytes_that_pass}
use Rattle.regex_meaning.specs.WellFormedTrees.{IsWellFormed}
use Rattle.regex_meaning.specs.CompilationRelation.{Insn, JustFail, Char, MatchAny, MatchAnyExceptLineTerminator, BackRef, Alt, Jump, EnterLoop, LoopAgain, Goal, BeginCaptureGroup, EndCaptureGroup}
use Rattle.regex_meaning.specs.CompilationRelation.{Loop1CharBody, AsciiBracket, Bracket, ByteSeq, Counters, Program, HasInsnsBetween, char_set_insn}
use Rattle.regex_meaning.specs.CompilationRelation.{IsStringCode, AreStringsCode, IsCode, IsByteProgramOfTree, lookaround_insn, reversed_if_in_lookbehind, is_uninverted_ascii_class, byte_set_insn}
use Rattle.regex_meaning.specs.CompilationRelation.{anchor_insn, word_boundary_insn, chunks}
use Rattle.regex_meaning.proofs.StartPredicateSoundness.{predicate-sound}
use Rattle.regress_program.specs.CompilationOfTreesAsFunction.{node_insn_count, strings_size, loop_count, brackets_of, string_code, strings_code, group_reset_insns, code_of, compiled}
use Rattle.regress_program.proofs.AppendedCodeLemmas.{length-code_of, length-string_code, length-resets}

abbrev mark : (insn loop bracket : ℕ) → Counters
mark i l b = record { insn = i; loop = l; bracket = b }

slice_get-seam : {A : Type 0} → (pre : List A) (x : A) (post : List A) → slice_get (pre ++ x ∷ post) (length pre) ≡ Some x
slice_get-seam [] x post = refl
slice_get-seam (y ∷ pre) x post = slice_get-seam pre x post

same_mark : (i i' l l' b b' : ℕ) → i ≡ i' → l ≡ l' → b ≡ b' → mark i l b ≡ mark i' l' b'
same_mark i i' l l' b b' ei el eb = ap (λ x. mark x l b) ei ∙ ap (λ x. mark i' x b) el ∙ ap (λ x. mark i' l' x) eb

module _ (p : Program) where
  -- An instruction between others is found at its place.
  has_one : (pre post : List Insn) (x : Insn) (at : ℕ) → at ≡ length pre → p.insns ≡ pre ++ x ∷ post → slice_get p.insns at ≡ Some x
  has_one pre post x at a e = ap (λ is. slice_get is at) e ∙ ap (λ n. slice_get (pre ++ x ∷ post) n) a ∙ slice_get-seam pre x post

  has_all : (xs pre post : List Insn) (at l b end : ℕ) → at ≡ length pre → p.insns ≡ pre ++ (xs ++ post) → end ≡ at + length xs
      → HasInsnsBetween p xs (record { insn = at; loop = l; bracket = b }) (record { insn = end; loop = l; bracket = b })
  has_all [] pre post at l b end a e n = ap (λ i. let m : Counters = record { insn = i; loop = l; bracket = b } in m) (omega arith)
  has_all (x ∷ xs) pre post at l b end a e n = (
    has_one pre (xs ++ post) x at a e,
    has_all xs (pre ++ x ∷ []) post (at + 1) l b end (omega (arith, length-append pre (x ∷ []))) (e ∙ sym (append_assoc pre (x ∷ []) (xs ++ post))) (omega arith),
  )

  string_is_code : (icase d : Bool) (s : List ℕ) (pre post : List Insn) (at l b : ℕ) (n : Counters) → at ≡ length pre
      → p.insns ≡ pre ++ (string_code p.flags.unicode icase d s ++ post) → n ≡ mark (at + length s) l b
      → IsStringCode p icase d s (mark at l b) n
  string_is_code icase d s pre post at l b n a e k =
      subst (λ x. IsStringCode p icase d s (mark at l b) x) (sym k)
      (has_all (string_code p.flags.unicode icase d s) pre post at l b (at + length s) a e (omega (arith, length-string_code p.flags.unicode icase d s)))

  -- A single instruction between others lies between its counters.
  single : (x : Insn) (pre post : List Insn) (at l b : ℕ) (n : Counters) → at ≡ length pre → p.insns ≡ pre ++ x ∷ post
      → n ≡ mark (at + 1) (l + 0) (b + 0) → HasInsnsBetween p (x ∷ []) (mark at l b) n
  single x pre post at l b n a e k =
      subst (λ m. HasInsnsBetween p (x ∷ []) (mark at l b) m) (sym (k ∙ same_mark (at + 1) (at + 1) (l + 0) l (b + 0) b refl (omega arith) (omega arith)))
      (has_all (x ∷ []) pre post at l b (at + 1) a e refl)

  -- The second of two parts stands behind the code before it and the first part.
  behind : (pre xs ys post : List Insn) → p.insns ≡ pre ++ ((xs ++ ys) ++ post) → p.insns ≡ (pre ++ xs) ++ (ys ++ post)
  behind pre xs ys post e = e ∙ ap (λ is. pre ++ is) (append_assoc xs ys post) ∙ sym (append_assoc pre xs (ys ++ post))

  -- The brackets of the second of two parts stand behind those before it and of the first part.
  brackets_behind : (pre xs ys post : List BracketContents) → p.brackets ≡ pre ++ ((xs ++ ys) ++ post) → p.brackets ≡ (pre ++ xs) ++ (ys ++ post)
  brackets_behind pre xs ys post e = e ∙ ap (λ is. pre ++ is) (append_assoc xs ys post) ∙ sym (append_assoc pre xs (ys ++ post))

  strings_are_code : (icase d : Bool) (strings : List (List ℕ)) (pre post : List Insn) (at l b : ℕ) (n : Counters) → at ≡ length pre
      → p.insns ≡ pre ++ (strings_code p.flags.unicode icase d strings at ++ post) → n ≡ mark (at + strings_size strings) l b
      → AreStringsCode p icase d strings (mark at l b) n
  strings_are_code icase d [] pre post at l b n a e k =
      subst (λ x. HasInsnsBetween p (JustFail ∷ []) (mark at l b) x) (sym k) (has_all (JustFail ∷ []) pre post at l b (at + 1) a e refl)
  strings_are_code icase d (s ∷ []) pre post at l b n a e k = string_is_code icase d s pre post at l b n a e k
  strings_are_code icase d (s ∷ t ∷ more) pre post at l b n a e k =
      let u = p.flags.unicode in
      let second = at + length s + 2 in
      let branch = Alt second in
      let cs = string_code u icase d s in
      let jump = Jump (second + strings_size (t ∷ more)) in
      let later = strings_code u icase d (t ∷ more) second in
      let e1 : p.insns ≡ (pre ++ branch ∷ []) ++ (cs ++ (jump ∷ (later ++ post))) =
      e ∙ ap (λ is. pre ++ branch ∷ is) (append_assoc cs (jump ∷ later) post) ∙ sym (append_assoc pre (branch ∷ []) (cs ++ (jump ∷ (later ++ post)))) in
      let pre1 = pre ++ branch ∷ [] in
      let e2 : p.insns ≡ (pre1 ++ cs) ++ (jump ∷ (later ++ post)) = e1 ∙ sym (append_assoc pre1 cs (jump ∷ (later ++ post))) in
      let e3 : p.insns ≡ ((pre1 ++ cs) ++ jump ∷ []) ++ (later ++ post) = e2 ∙ sym (append_assoc (pre1 ++ cs) (jump ∷ []) (later ++ post)) in
      let a1 : at + 1 ≡ length pre1 = omega (arith, length-append pre (branch ∷ [])) in
      let a2 : at + 1 + length s ≡ length (pre1 ++ cs) = omega (arith, length-append pre1 cs, length-string_code u icase d s) in
      let a3 : at + 1 + length s + 1 ≡ length ((pre1 ++ cs) ++ jump ∷ []) = omega (arith, length-append (pre1 ++ cs) (jump ∷ [])) in
      let at_second : at + 1 + length s + 1 ≡ second = omega arith in
      let at_end : second + strings_size (t ∷ more) ≡ n.insn = omega (arith, ap (λ m. m.insn) k) in (
        mark (at + 1 + length s) l b,
        has_one pre ((cs ++ jump ∷ later) ++ post) branch at a e ∙ ap (λ i. Some (Alt i)) (sym at_second),
        string_is_code icase d s pre1 (jump ∷ (later ++ post)) (at + 1) l b (mark (at + 1 + length s) l b) a1 e1 refl,
        has_one (pre1 ++ cs) (later ++ post) jump (at + 1 + length s) a2 e2 ∙ ap (λ i. Some (Jump i)) at_end,
        strings_are_code icase d (t ∷ more) ((pre1 ++ cs) ++ jump ∷ []) post (at + 1 + length s + 1) l b n a3
            (e3 ∙ ap (λ i. ((pre1 ++ cs) ++ jump ∷ []) ++ (strings_code u icase d (t ∷ more) i ++ post)) (sym at_second))
            (k ∙ same_mark _ _ l l b b (omega arith) refl refl),
      )

  -- The code of a bracket is an ASCII bracket or refers to the bracket's contents.
  bracket_is_code : (ascii : Bool) (contents : BracketContents) (pre post : List Insn) (pre_b post_b : List BracketContents) (at l b : ℕ) (n : Counters) → at ≡ length pre
      → p.insns ≡ pre ++ (((if ascii then AsciiBracket (bytes_that_pass (in_intervals contents.intervals)) else Bracket b) ∷ []) ++ post)
      → b ≡ length pre_b → p.brackets ≡ pre_b ++ ((if ascii then [] else contents ∷ []) ++ post_b)
      → n ≡ mark (at + 1) (l + 0) (b + length (if ascii then [] else contents ∷ []))
      → MatchBool ascii (HasInsnsBetween p (AsciiBracket (bytes_that_pass (in_intervals contents.intervals)) ∷ []) (mark at l b) n)
      (HasInsnsBetween p (Bracket b ∷ []) (mark at l (b + 1)) n × (slice_get p.brackets b ≡ Some contents))
  bracket_is_code true contents pre post pre_b post_b at l b n a e ab eb k = single (AsciiBracket (bytes_that_pass (in_intervals contents.intervals))) pre post at l b n a e k
  bracket_is_code false contents pre post pre_b post_b at l b n a e ab eb k = (
    single (Bracket b) pre post at l (b + 1) n a e (k ∙ same_mark (at + 1) (at + 1) (l + 0) (l + 0) (b + 1) (b + 1 + 0) refl refl (omega arith)),
    ap (λ bs. slice_get bs b) eb ∙ ap (λ i. slice_get (pre_b ++ contents ∷ post_b) i) ab ∙ slice_get-seam pre_b contents post_b,
  )

  code_stands : (d : Bool) (node : Node) (pre post : List Insn) (pre_b post_b : List BracketContents) (at l b : ℕ) (n : Counters)
      → at ≡ length pre → p.insns ≡ pre ++ (code_of p.flags.unicode d node at l b ++ post)
      → b ≡ length pre_b → p.brackets ≡ pre_b ++ (brackets_of node ++ post_b)
      → n ≡ mark (at + node_insn_count node) (l + loop_count node) (b + length (brackets_of node))
      → IsCode p d node (mark at l b) n
  unfolding IsCode code_of node_insn_count loop_count brackets_of
  code_stands d empty pre post pre_b post_b at l b n a e ab eb k = sym (k ∙ same_mark (at + 0) at (l + 0) l (b + 0) b (omega arith) (omega arith) (omega arith))
  code_stands d goal pre post pre_b post_b at l b n a e ab eb k = single Goal pre post at l b n a e k
  code_stands d (char c) pre post pre_b post_b at l b n a e ab eb k = single (Char c) pre post at l b n a e k
  code_stands d (char_set members) pre post pre_b post_b at l b n a e ab eb k = single (char_set_insn members) pre post at l b n a e k
  code_stands d (byte_set members) pre post pre_b post_b at l b n a e ab eb k = single (byte_set_insn members) pre post at l b n a e k
  code_stands d (byte_sequence bytes) pre post pre_b post_b at l b n a e ab eb k =
      let cs = map ByteSeq (reversed_if_in_lookbehind d (chunks bytes)) in
      let len : length cs ≡ length (chunks bytes) = length-code_of p.flags.unicode d (byte_sequence bytes) at l b in
      subst (λ x. HasInsnsBetween p cs (mark at l b) x) (sym (k ∙ same_mark _ _ (l + 0) l (b + 0) b refl (omega arith) (omega arith)))
      (has_all cs pre post at l b (at + length (chunks bytes)) a e (omega arith))
  code_stands d (cat first rest) pre post pre_b post_b at l b n a e ab eb k =
      let u = p.flags.unicode in
      let ca = code_of u d first at l b in
      let ba = brackets_of first in
      let bb = brackets_of rest in
      let cb = code_of u d rest (at + node_insn_count first) (l + loop_count first) (b + length ba) in (
        mark (at + node_insn_count first) (l + loop_count first) (b + length ba),
        code_stands d first pre (cb ++ post) pre_b (bb ++ post_b) at l b (mark (at + node_insn_count first) (l + loop_count first) (b + length ba)) a
            (e ∙ ap (λ is. pre ++ is) (append_assoc ca cb post)) ab (eb ∙ ap (λ is. pre_b ++ is) (append_assoc ba bb post_b)) refl,
        code_stands d rest (pre ++ ca) post (pre_b ++ ba) post_b (at + node_insn_count first) (l + loop_count first) (b + length ba) n
            (omega (arith, length-append pre ca, length-code_of u d first at l b)) (behind pre ca cb post e)
            (omega (arith, length-append pre_b ba)) (brackets_behind pre_b ba bb post_b eb)
            (k ∙ same_mark _ _ _ _ _ _ (omega arith) (omega arith) (omega (arith, length-append ba bb))),
      )
  code_stands d end_of_cat pre post pre_b post_b at l b n a e ab eb k = sym (k ∙ same_mark (at + 0) at (l + 0) l (b + 0) b (omega arith) (omega arith) (omega arith))
  code_stands d (alt left right) pre post pre_b post_b at l b n a e ab eb k =
      let u = p.flags.unicode in
      let second = at + node_insn_count left + 2 in
      let branch = Alt second in
      let ba = brackets_of left in
      let bb = brackets_of right in
      let ca = code_of u d left (at + 1) l b in
      let jump = Jump (second + node_insn_count right) in
      let cb = code_of u d right second (l + loop_count left) (b + length ba) in
      let pre1 = pre ++ branch ∷ [] in
      let e1 : p.insns ≡ pre1 ++ (ca ++ (jump ∷ (cb ++ post))) =
      e ∙ ap (λ is. pre ++ branch ∷ is) (append_assoc ca (jump ∷ cb) post) ∙ sym (append_assoc pre (branch ∷ []) (ca ++ (jump ∷ (cb ++ post)))) in
      let e2 : p.insns ≡ (pre1 ++ ca) ++ (jump ∷ (cb ++ post)) = e1 ∙ sym (append_assoc pre1 ca (jump ∷ (cb ++ post))) in
      let pre2 = (pre1 ++ ca) ++ jump ∷ [] in
      let e3 : p.insns ≡ pre2 ++ (cb ++ post) = e2 ∙ sym (append_assoc (pre1 ++ ca) (jump ∷ []) (cb ++ post)) in
      let a1 : at + 1 ≡ length pre1 = omega (arith, length-append pre (branch ∷ [])) in
      let a2 : at + 1 + node_insn_count left ≡ length (pre1 ++ ca) = omega (arith, length-append pre1 ca, length-code_of u d left (at + 1) l b) in
      let a3 : at + 1 + node_insn_count left + 1 ≡ length pre2 = omega (arith, length-append (pre1 ++ ca) (jump ∷ [])) in
      let at_second : at + 1 + node_insn_count left + 1 ≡ second = omega arith in
      let at_end : second + node_insn_count right ≡ n.insn = omega (arith, ap (λ m. m.insn) k) in (
        mark (at + 1 + node_insn_count left) (l + loop_count left) (b + length ba),
        has_one pre ((ca ++ jump ∷ cb) ++ post) branch at a e ∙ ap (λ i. Some (Alt i)) (sym at_second),
        code_stands d left pre1 (jump ∷ (cb ++ post)) pre_b (bb ++ post_b) (at + 1) l b (mark (at + 1 + node_insn_count left) (l + loop_count left) (b + length ba)) a1 e1
            ab (eb ∙ ap (λ is. pre_b ++ is) (append_assoc ba bb post_b)) refl,
        has_one (pre1 ++ ca) (cb ++ post) jump (at + 1 + node_insn_count left) a2 e2 ∙ ap (λ i. Some (Jump i)) at_end,
        code_stands d right pre2 post (pre_b ++ ba) post_b (at + 1 + node_insn_count left + 1) (l + loop_count left) (b + length ba) n a3
            (e3 ∙ ap (λ i. pre2 ++ (code_of u d right i (l + loop_count left) (b + length ba) ++ post)) (sym at_second))
            (omega (arith, length-append pre_b ba)) (brackets_behind pre_b ba bb post_b eb)
            (k ∙ same_mark _ _ _ _ _ _ (omega arith) (omega arith) (omega (arith, length-append ba bb))),
      )
  code_stands d (bracket contents) pre post pre_b post_b at l b n a e ab eb k = bracket_is_code (is_uninverted_ascii_class contents) contents pre post pre_b post_b at l b n a e ab eb k
  code_stands d (string_set strings icase) pre post pre_b post_b at l b n a e ab eb k =
      strings_are_code icase d strings pre post at l b n a e (k ∙ same_mark _ _ (l + 0) l (b + 0) b refl (omega arith) (omega arith))
  code_stands d match_any pre post pre_b post_b at l b n a e ab eb k = single MatchAny pre post at l b n a e k
  code_stands d match_any_except_line_terminator pre post pre_b post_b at l b n a e ab eb k = single MatchAnyExceptLineTerminator pre post at l b n a e k
  code_stands d (anchor type multiline) pre post pre_b post_b at l b n a e ab eb k = single (anchor_insn type multiline) pre post at l b n a e k
  code_stands d (word_boundary invert unicode_icase) pre post pre_b post_b at l b n a e ab eb k = single (word_boundary_insn invert unicode_icase) pre post at l b n a e k
  code_stands d (capture_group id name contents) pre post pre_b post_b at l b n a e ab eb k =
      let u = p.flags.unicode in
      let open_group = BeginCaptureGroup id in
      let inside = code_of u d contents (at + 1) l b in
      let close = EndCaptureGroup id in
      let pre1 = pre ++ open_group ∷ [] in
      let e1 : p.insns ≡ pre1 ++ (inside ++ (close ∷ post)) =
      e ∙ ap (λ is. pre ++ open_group ∷ is) (append_assoc inside (close ∷ []) post) ∙ sym (append_assoc pre (open_group ∷ []) (inside ++ (close ∷ post))) in
      let e2 : p.insns ≡ (pre1 ++ inside) ++ close ∷ post = e1 ∙ sym (append_assoc pre1 inside (close ∷ post)) in
      let a1 : at + 1 ≡ length pre1 = omega (arith, length-append pre (open_group ∷ [])) in
      let a2 : at + 1 + node_insn_count contents ≡ length (pre1 ++ inside) = omega (arith, length-append pre1 inside, length-code_of u d contents (at + 1) l b) in
      let m = mark (at + 1 + node_insn_count contents) (l + loop_count contents) (b + length (brackets_of contents)) in (
        m,
        has_one pre ((inside ++ close ∷ []) ++ post) open_group at a e,
        code_stands d contents pre1 (close ∷ post) pre_b post_b (at + 1) l b m a1 e1 ab eb refl,
        single close (pre1 ++ inside) post (at + 1 + node_insn_count contents) (l + loop_count contents) (b + length (brackets_of contents)) n a2 e2
            (k ∙ same_mark _ _ _ _ _ _ (omega arith) (omega arith) (omega arith)),
      )
  code_stands d (back_ref group icase) pre post pre_b post_b at l b n a e ab eb k = single (BackRef (group - 1) icase) pre post at l b n a e k
  code_stands d (lookaround look contents) pre post pre_b post_b at l b n a e ab eb k =
      let u = p.flags.unicode in
      let head = lookaround_insn look (at + node_insn_count contents + 2) in
      let inside = code_of u look.backwards contents (at + 1) l b in
      let pre1 = pre ++ head ∷ [] in
      let e1 : p.insns ≡ pre1 ++ (inside ++ (Goal ∷ post)) =
      e ∙ ap (λ is. pre ++ head ∷ is) (append_assoc inside (Goal ∷ []) post) ∙ sym (append_assoc pre (head ∷ []) (inside ++ (Goal ∷ post))) in
      let e2 : p.insns ≡ (pre1 ++ inside) ++ Goal ∷ post = e1 ∙ sym (append_assoc pre1 inside (Goal ∷ post)) in
      let a1 : at + 1 ≡ length pre1 = omega (arith, length-append pre (head ∷ [])) in
      let a2 : at + 1 + node_insn_count contents ≡ length (pre1 ++ inside) = omega (arith, length-append pre1 inside, length-code_of u look.backwards contents (at + 1) l b) in
      let m = mark (at + 1 + node_insn_count contents) (l + loop_count contents) (b + length (brackets_of contents)) in
      let at_end : at + node_insn_count contents + 2 ≡ n.insn = omega (arith, ap (λ m. m.insn) k) in (
        m,
        has_one pre ((inside ++ Goal ∷ []) ++ post) head at a e ∙ ap (λ i. Some (lookaround_insn look i)) at_end,
        code_stands look.backwards contents pre1 (Goal ∷ post) pre_b post_b (at + 1) l b m a1 e1 ab eb refl,
        single Goal (pre1 ++ inside) post (at + 1 + node_insn_count contents) (l + loop_count contents) (b + length (brackets_of contents)) n a2 e2
            (k ∙ same_mark _ _ _ _ _ _ (omega arith) (omega arith) (omega arith)),
      )
  code_stands d (loop q g h loopee) pre post pre_b post_b at l b n a e ab eb k =
      let u = p.flags.unicode in
      let body = at + 1 + (h - g) in
      let head = λ (exit : ℕ). EnterLoop (record { loop_id = l; min_iters = q.min; max_iters = max_iterations q; greedy = q.greedy; exit = exit }) in
      let exit = body + node_insn_count loopee + 1 in
      let rs = group_reset_insns g h in
      let inside = code_of u d loopee body (l + 1) b in
      let again = LoopAgain at in
      let heads = head exit ∷ rs in
      let at_end : exit ≡ n.insn = omega (arith, ap (λ m. m.insn) k) in
      let e1 : p.insns ≡ pre ++ (heads ++ (inside ++ (again ∷ post))) =
      e ∙ ap (λ is. pre ++ head exit ∷ is) (append_assoc rs (inside ++ again ∷ []) post ∙ ap (λ is. rs ++ is) (append_assoc inside (again ∷ []) post)) in
      let pre1 = pre ++ heads in
      let e2 : p.insns ≡ pre1 ++ (inside ++ (again ∷ post)) = e1 ∙ sym (append_assoc pre heads (inside ++ (again ∷ post))) in
      let e3 : p.insns ≡ (pre1 ++ inside) ++ again ∷ post = e2 ∙ sym (append_assoc pre1 inside (again ∷ post)) in
      let a1 : body ≡ length pre1 = omega (arith, length-append pre heads, length-resets g h) in
      let a2 : body + node_insn_count loopee ≡ length (pre1 ++ inside) = omega (arith, length-append pre1 inside, length-code_of u d loopee body (l + 1) b) in
      let m1 = mark body (l + 1) b in
      let m2 = mark (body + node_insn_count loopee) (l + 1 + loop_count loopee) (b + length (brackets_of loopee)) in (
        m1,
        m2,
        subst (λ x. HasInsnsBetween p (head x ∷ rs) (mark at (l + 1) b) m1) at_end (has_all heads pre (inside ++ (again ∷ post)) at (l + 1) b body a e1 (omega (arith, length-resets g h))),
        code_stands d loopee pre1 (again ∷ post) pre_b post_b body (l + 1) b m2 a1 e2 ab eb refl,
        single again (pre1 ++ inside) post (body + node_insn_count loopee) (l + 1 + loop_count loopee) (b + length (brackets_of loopee)) n a2 e3
            (k ∙ same_mark _ _ _ _ _ _ (omega arith) (omega arith) (omega arith)),
      )
  code_stands d (loop_1_char_body q loopee) pre post pre_b post_b at l b n a e ab eb k =
      let head = Loop1CharBody q.min (max_iterations q) q.greedy in (
        has_one pre (code_of p.flags.unicode d loopee (at + 1) l b ++ post) head at a e,
        code_stands d loopee (pre ++ head ∷ []) post pre_b post_b (at + 1) l b n (omega (arith, length-append pre (head ∷ [])))
            (e ∙ sym (append_assoc pre (head ∷ []) (code_of p.flags.unicode d loopee (at + 1) l b ++ post))) ab eb
            (k ∙ same_mark _ _ _ _ _ _ (omega arith) refl refl),
      )

-- The program has as many instructions as the tree needs.
pub compiled-length : (t : Tree) → length (compiled t).insns ≡ node_insn_count t.root
unfolding compiled
compiled-length t = length-code_of t.flags.unicode false t.root 0 0 0

-- The program compiled from a well-formed tree is a byte program of that tree.
pub compiled-is_code : (t : Tree) → IsWellFormed t.root → IsByteProgramOfTree (compiled t) t
unfolding compiled
compiled-is_code t w =
    let p = compiled t in
    let len : length p.insns ≡ node_insn_count t.root = length-code_of t.flags.unicode false t.root 0 0 0 in
    record {
      code = record {
        code = code_stands p false t.root [] [] [] [] 0 0 0 (mark (length p.insns) p.loops (length p.brackets)) refl (sym (append-nil p.insns)) refl (sym (append-nil p.brackets))
            (same_mark _ _ _ _ _ _ (omega arith) (omega arith) (omega arith));
        groups = refl;
        flags = refl;
        names = refl;
      };
      start_pred = refl;
      start_is_sound = predicate-sound t w;
    }
