-- The code that the emitter appends for each kind of node has the specified instructions and
-- length.
use Rattle.std.proofs.Common.{◌≡◌, ℕ, ◌+◌, ◌-◌, ◌<◌, ◌^◌, Bool, true, false, List, [], ◌∷◌, ◌++◌, length, refl, sym, ap, ◌∙◌, arith, append_assoc, append-nil, length-append, slice_set}
use Rattle.std.proofs.Math.Seq.{set-append_seam}
use Rattle.std.proofs.lemmas.List.{length-map, length-reverse}
use Rattle.regex_meaning.specs.NumberListHelpers.{numbers_from}
use Rattle.regex_meaning.specs.Tree.{BracketContents, Quantifier, Lookaround, Node, empty, goal, char, char_set, byte_set, byte_sequence, cat, end_of_cat, alt, bracket, string_set, match_any}
use Rattle.regex_meaning.specs.Tree.{match_any_except_line_terminator, anchor, word_boundary}
use Rattle.regex_meaning.specs.Tree.{capture_group, back_ref, lookaround, loop, loop_1_char_body}
use Rattle.regex_meaning.specs.Outcomes.{max_iterations, in_intervals}
use Rattle.regex_meaning.specs.StartPredicate.{bytes_that_pass}
use Rattle.regex_meaning.specs.CompilationRelation.{Insn, AsciiBracket, Bracket, is_uninverted_ascii_class, Alt, Jump, EnterLoop, LoopAgain, Loop1CharBody, Goal, BeginCaptureGroup, lookaround_insn}
use Rattle.regex_meaning.specs.CompilationRelation.{EndCaptureGroup, ByteSeq, ResetCaptureGroup, reversed_if_in_lookbehind, chunks}
use Rattle.regress_program.specs.CompilationOfTreesAsFunction.{node_insn_count, strings_size, loop_count, brackets_of, string_code, strings_code, group_reset_insns, code_of}
use Rattle.regress_program.specs.EmitterStateAndAppendedCode.{EmitterState, HasIndexRoomForNode, with_code, with_insn_appended, with_insns_appended, with_insn_at, with_loop, with_bracket_table_entry}
use Rattle.regex_meaning.proofs.ListLemmas.{length-numbers_from}

-- ---- States

pub same_state : (s t : EmitterState) → s.insns ≡ t.insns → s.loops ≡ t.loops → s.brackets ≡ t.brackets → s ≡ t
same_state s t ei el eb =
    ap (λ x. let r : EmitterState = record { insns = x; loops = s.loops; brackets = s.brackets } in r) ei
    ∙ ap (λ x. let r : EmitterState = record { insns = t.insns; loops = x; brackets = s.brackets } in r) el
    ∙ ap (λ x. let r : EmitterState = record { insns = t.insns; loops = t.loops; brackets = x } in r) eb

-- ---- The length of code

pub length-reversed_if_in_lookbehind : {A : Type 0} → (d : Bool) (xs : List A) → length (reversed_if_in_lookbehind d xs) ≡ length xs
length-reversed_if_in_lookbehind true xs = length-reverse xs
length-reversed_if_in_lookbehind false xs = refl

pub length-resets : (g e : ℕ) → length (group_reset_insns g e) ≡ e - g
length-resets g e = length-map (numbers_from g (e - g)) ResetCaptureGroup ∙ length-numbers_from g (e - g)

pub length-string_code : (u icase d : Bool) (s : List ℕ) → length (string_code u icase d s) ≡ length s
length-string_code u icase d s = length-map (reversed_if_in_lookbehind d s) _ ∙ length-reversed_if_in_lookbehind d s

pub length-strings_code : (u icase d : Bool) (strings : List (List ℕ)) (at : ℕ) → length (strings_code u icase d strings at) ≡ strings_size strings
length-strings_code u icase d [] at = refl
length-strings_code u icase d (s ∷ []) at = length-string_code u icase d s
length-strings_code u icase d (s ∷ t ∷ more) at =
    let later = strings_code u icase d (t ∷ more) (at + length s + 2) in
    omega (
      arith,
      length-strings_code u icase d (t ∷ more) (at + length s + 2),
      length-string_code u icase d s,
      length-append (string_code u icase d s) (Jump (at + length s + 2 + strings_size (t ∷ more)) ∷ later),
    )

pub length-code_of : (u d : Bool) (n : Node) (at l b : ℕ) → length (code_of u d n at l b) ≡ node_insn_count n
unfolding code_of node_insn_count
length-code_of u d empty at l b = refl
length-code_of u d goal at l b = refl
length-code_of u d (char c) at l b = refl
length-code_of u d (char_set members) at l b = refl
length-code_of u d (byte_set members) at l b = refl
length-code_of u d (byte_sequence bytes) at l b = length-map (reversed_if_in_lookbehind d (chunks bytes)) ByteSeq ∙ length-reversed_if_in_lookbehind d (chunks bytes)
length-code_of u d (cat first rest) at l b =
    omega (
      arith,
      length-append (code_of u d first at l b) (code_of u d rest (at + node_insn_count first) (l + loop_count first) (b + length (brackets_of first))),
      length-code_of u d first at l b,
      length-code_of u d rest (at + node_insn_count first) (l + loop_count first) (b + length (brackets_of first)),
    )
length-code_of u d end_of_cat at l b = refl
length-code_of u d (alt left right) at l b =
    let second = at + node_insn_count left + 2 in
    let r = code_of u d right second (l + loop_count left) (b + length (brackets_of left)) in
    omega (
      arith,
      length-append (code_of u d left (at + 1) l b) (Jump (second + node_insn_count right) ∷ r),
      length-code_of u d left (at + 1) l b,
      length-code_of u d right second (l + loop_count left) (b + length (brackets_of left)),
    )
length-code_of u d (bracket contents) at l b = refl
length-code_of u d (string_set strings icase) at l b = length-strings_code u icase d strings at
length-code_of u d match_any at l b = refl
length-code_of u d match_any_except_line_terminator at l b = refl
length-code_of u d (anchor type multiline) at l b = refl
length-code_of u d (word_boundary invert unicode_icase) at l b = refl
length-code_of u d (capture_group id name contents) at l b =
    omega (arith, length-append (code_of u d contents (at + 1) l b) (EndCaptureGroup id ∷ []), length-code_of u d contents (at + 1) l b)
length-code_of u d (back_ref group icase) at l b = refl
length-code_of u d (lookaround k contents) at l b =
    omega (arith, length-append (code_of u k.backwards contents (at + 1) l b) (Goal ∷ []), length-code_of u k.backwards contents (at + 1) l b)
length-code_of u d (loop q g e loopee) at l b =
    let body = code_of u d loopee (at + 1 + (e - g)) (l + 1) b in
    omega (
      arith,
      length-append (group_reset_insns g e) (body ++ LoopAgain at ∷ []),
      length-append body (LoopAgain at ∷ []),
      length-resets g e,
      length-code_of u d loopee (at + 1 + (e - g)) (l + 1) b,
    )
length-code_of u d (loop_1_char_body q loopee) at l b = omega (arith, length-code_of u d loopee (at + 1) l b)

pub length-with_code : (u d : Bool) (n : Node) (s : EmitterState) → length (with_code u d n s).insns ≡ length s.insns + node_insn_count n
length-with_code u d n s = omega (arith, length-append s.insns (code_of u d n (length s.insns) s.loops (length s.brackets)), length-code_of u d n (length s.insns) s.loops (length s.brackets))

-- ---- Node lists

pub with_code-end_of_cat : (u d : Bool) (s : EmitterState) → with_code u d end_of_cat s ≡ s
unfolding code_of loop_count brackets_of
with_code-end_of_cat u d s = same_state (with_code u d end_of_cat s) s (append-nil s.insns) (omega arith) (append-nil s.brackets)

pub with_code-cat : (u d : Bool) (a b : Node) (s : EmitterState) → with_code u d (cat a b) s ≡ with_code u d b (with_code u d a s)
unfolding code_of loop_count brackets_of
with_code-cat u d a b s =
    let at = length s.insns in
    let k = length s.brackets in
    let ca = code_of u d a at s.loops k in
    let len : length (s.insns ++ ca) ≡ at + node_insn_count a = length-with_code u d a s in
    let len_b = length-append s.brackets (brackets_of a) in
    same_state (with_code u d (cat a b) s) (with_code u d b (with_code u d a s))
    (sym (append_assoc s.insns ca (code_of u d b (at + node_insn_count a) (s.loops + loop_count a) (k + length (brackets_of a))))
    ∙ ap (λ n. (s.insns ++ ca) ++ code_of u d b n (s.loops + loop_count a) (k + length (brackets_of a))) (sym len)
    ∙ ap (λ n. (s.insns ++ ca) ++ code_of u d b (length (s.insns ++ ca)) (s.loops + loop_count a) n) (sym len_b))
    (omega arith)
    (sym (append_assoc s.brackets (brackets_of a) (brackets_of b)))

-- ---- Alternatives

-- The two jumps of an alternative are replaced once their targets are known.
alt_patched : (ca_at cb_at : ℕ → List Insn) (na nb : ℕ) (base c1 c2 c3 c4 c5 : List Insn) (x y : Insn)
    → ((m : ℕ) → length (ca_at m) ≡ na) → ((m : ℕ) → length (cb_at m) ≡ nb)
    → c1 ≡ base ++ x ∷ [] → c2 ≡ c1 ++ ca_at (length c1) → c3 ≡ c2 ++ y ∷ []
    → c4 ≡ slice_set c3 (length base) (Alt (length c3)) → c5 ≡ c4 ++ cb_at (length c4)
    → slice_set c5 (length c2) (Jump (length c5))
    ≡ base ++ Alt (length base + na + 2) ∷ (ca_at (length base + 1) ++ Jump (length base + na + 2 + nb) ∷ cb_at (length base + na + 2))
alt_patched ca_at cb_at na nb base c1 c2 c3 c4 c5 x y la lb e1 e2 e3 e4 e5 =
    let s = length base in
    let ca = ca_at (s + 1) in
    let second = s + na + 2 in
    let cb = cb_at second in
    let i = Alt second in
    let len1 : length c1 ≡ s + 1 = ap length e1 ∙ length-append base (x ∷ []) in
    let e2' : c2 ≡ c1 ++ ca = e2 ∙ ap (λ n. c1 ++ ca_at n) len1 in
    let all3 : c3 ≡ ((base ++ x ∷ []) ++ ca) ++ y ∷ [] = cc in
    let flat3 : ((base ++ x ∷ []) ++ ca) ++ y ∷ [] ≡ base ++ x ∷ (ca ++ y ∷ []) = simp append_assoc in
    let len2 : length c2 ≡ s + 1 + na = omega (arith, ap length e2', length-append c1 ca, la (s + 1)) in
    let len3 : length c3 ≡ second = omega (arith, ap length e3, length-append c2 (y ∷ [])) in
    let e4' : c4 ≡ (base ++ i ∷ ca) ++ y ∷ [] =
    e4 ∙ ap (λ n. slice_set c3 s (Alt n)) len3 ∙ ap (λ c. slice_set c s i) (all3 ∙ flat3) ∙ set-append_seam base x (ca ++ y ∷ []) i ∙ sym (append_assoc base (i ∷ ca) (y ∷ [])) in
    let len4 : length c4 ≡ second = omega (arith, ap length e4', length-append (base ++ i ∷ ca) (y ∷ []), length-append base (i ∷ ca), la (s + 1)) in
    let e5' : c5 ≡ (base ++ i ∷ ca) ++ y ∷ cb =
    e5 ∙ ap (λ n. c4 ++ cb_at n) len4 ∙ ap (λ c. c ++ cb) e4' ∙ append_assoc (base ++ i ∷ ca) (y ∷ []) cb in
    let len5 : length c5 ≡ second + nb = omega (arith, ap length e5, length-append c4 (cb_at (length c4)), lb (length c4)) in
    let at_jump : length c2 ≡ length (base ++ i ∷ ca) = omega (arith, length-append base (i ∷ ca), la (s + 1)) in
    let j = Jump (second + nb) in
    ap (λ n. slice_set c5 (length c2) (Jump n)) len5
    ∙ ap (λ c. slice_set c (length c2) j) e5'
    ∙ ap (λ n. slice_set ((base ++ i ∷ ca) ++ y ∷ cb) n j) at_jump
    ∙ set-append_seam (base ++ i ∷ ca) y cb j
    ∙ append_assoc base (i ∷ ca) (j ∷ cb)

pub with_code-alt : (u d : Bool) (a b : Node) (s s1 s2 s3 s4 s5 s6 : EmitterState) (x y : Insn)
    → s1 ≡ with_insn_appended x s → s2 ≡ with_code u d a s1 → s3 ≡ with_insn_appended y s2 → s4 ≡ with_insn_at (length s.insns) (Alt (length s3.insns)) s3
    → s5 ≡ with_code u d b s4 → s6 ≡ with_insn_at (length s2.insns) (Jump (length s5.insns)) s5
    → s6 ≡ with_code u d (alt a b) s
unfolding code_of loop_count brackets_of
with_code-alt u d a b s s1 s2 s3 s4 s5 s6 x y e1 e2 e3 e4 e5 e6 =
    let k = length s.brackets in
    let ca_at = λ (m : ℕ). code_of u d a m s.loops k in
    let cb_at = λ (m : ℕ). code_of u d b m (s.loops + loop_count a) (k + length (brackets_of a)) in
    let in_loops : s6.loops ≡ s.loops + (loop_count a + loop_count b) =
    omega (arith, ap (λ r. r.loops) e1, ap (λ r. r.loops) e2, ap (λ r. r.loops) e3, ap (λ r. r.loops) e4, ap (λ r. r.loops) e5, ap (λ r. r.loops) e6) in
    let b1 : s1.brackets ≡ s.brackets = ap (λ r. r.brackets) e1 in
    let b2 : s2.brackets ≡ s.brackets ++ brackets_of a = ap (λ r. r.brackets) e2 ∙ ap (λ r. r ++ brackets_of a) b1 in
    let b4 : s4.brackets ≡ s.brackets ++ brackets_of a = ap (λ r. r.brackets) e4 ∙ ap (λ r. r.brackets) e3 ∙ b2 in
    let b6 : s6.brackets ≡ s.brackets ++ (brackets_of a ++ brackets_of b) =
    ap (λ r. r.brackets) e6 ∙ ap (λ r. r.brackets) e5 ∙ ap (λ r. r ++ brackets_of b) b4 ∙ append_assoc s.brackets (brackets_of a) (brackets_of b) in
    let l1 : s1.loops ≡ s.loops = ap (λ r. r.loops) e1 in
    let l4 : s4.loops ≡ s.loops + loop_count a = omega (arith, ap (λ r. r.loops) e2, ap (λ r. r.loops) e3, ap (λ r. r.loops) e4) in
    let k4 : length s4.brackets ≡ k + length (brackets_of a) = ap length b4 ∙ length-append s.brackets (brackets_of a) in
    let i2 : s2.insns ≡ s1.insns ++ ca_at (length s1.insns) =
    ap (λ r. r.insns) e2 ∙ ap (λ n. s1.insns ++ code_of u d a (length s1.insns) n (length s1.brackets)) l1 ∙ ap (λ r. s1.insns ++ code_of u d a (length s1.insns) s.loops (length r)) b1 in
    let i5 : s5.insns ≡ s4.insns ++ cb_at (length s4.insns) =
    ap (λ r. r.insns) e5 ∙ ap (λ n. s4.insns ++ code_of u d b (length s4.insns) n (length s4.brackets)) l4 ∙ ap (λ n. s4.insns ++ code_of u d b (length s4.insns) (s.loops + loop_count a) n) k4 in
    same_state s6 (with_code u d (alt a b) s)
    (ap (λ r. r.insns) e6
    ∙ alt_patched ca_at cb_at (node_insn_count a) (node_insn_count b) s.insns s1.insns s2.insns s3.insns s4.insns s5.insns x y
    (λ m. length-code_of u d a m s.loops k) (λ m. length-code_of u d b m (s.loops + loop_count a) (k + length (brackets_of a)))
    (ap (λ r. r.insns) e1) i2 (ap (λ r. r.insns) e3) (ap (λ r. r.insns) e4) i5)
    in_loops b6

-- ---- Room for indices

pub room-first : (s : EmitterState) (a b : Node) → HasIndexRoomForNode s (cat a b) → HasIndexRoomForNode s a
unfolding node_insn_count loop_count
room-first s a b r = record { insns = omega (arith, r.insns); loops = omega (arith, r.loops) }

pub room-rest : (u d : Bool) (s t : EmitterState) (a b : Node) → HasIndexRoomForNode s (cat a b) → t ≡ with_code u d a s → HasIndexRoomForNode t b
unfolding node_insn_count loop_count
room-rest u d s t a b r e = record { insns = omega (arith, r.insns, ap (λ x. length x.insns) e, length-with_code u d a s); loops = omega (arith, r.loops, ap (λ x. x.loops) e) }

length-with_insn : (x : Insn) (s : EmitterState) → length (with_insn_appended x s).insns ≡ length s.insns + 1
length-with_insn x s = length-append s.insns (x ∷ [])

-- ---- Code between a head and a tail

-- The code of a node follows the instruction before it.
after_head : (u d : Bool) (n : Node) (s s1 s2 : EmitterState) (x : Insn) → s1 ≡ with_insn_appended x s → s2 ≡ with_code u d n s1
    → s2.insns ≡ s.insns ++ x ∷ code_of u d n (length s.insns + 1) s.loops (length s.brackets)
after_head u d n s s1 s2 x e1 e2 =
    let at = length s.insns in
    let len : length s1.insns ≡ at + 1 = ap (λ r. length r.insns) e1 ∙ length-with_insn x s in
    let code = λ (m : ℕ) (l : ℕ) (b : ℕ). code_of u d n m l b in
    ap (λ r. r.insns) e2
    ∙ ap (λ m. s1.insns ++ code m s1.loops (length s1.brackets)) len
    ∙ ap (λ l. s1.insns ++ code (at + 1) l (length s1.brackets)) (ap (λ r. r.loops) e1)
    ∙ ap (λ bs. s1.insns ++ code (at + 1) s.loops (length bs)) (ap (λ r. r.brackets) e1)
    ∙ ap (λ is. is ++ code (at + 1) s.loops (length s.brackets)) (ap (λ r. r.insns) e1)
    ∙ append_assoc s.insns (x ∷ []) (code (at + 1) s.loops (length s.brackets))

-- The code of a node stands between one instruction and another one.
between : (u d : Bool) (n : Node) (s s1 s2 s3 : EmitterState) (x y : Insn) → s1 ≡ with_insn_appended x s → s2 ≡ with_code u d n s1 → s3 ≡ with_insn_appended y s2
    → s3.insns ≡ s.insns ++ x ∷ (code_of u d n (length s.insns + 1) s.loops (length s.brackets) ++ y ∷ [])
between u d n s s1 s2 s3 x y e1 e2 e3 =
    ap (λ r. r.insns) e3 ∙ ap (λ is. is ++ y ∷ []) (after_head u d n s s1 s2 x e1 e2)
    ∙ append_assoc s.insns (x ∷ code_of u d n (length s.insns + 1) s.loops (length s.brackets)) (y ∷ [])

pub with_code-capture_group : (u d : Bool) (id : ℕ) (name : List ℕ) (n : Node) (s s1 s2 s3 : EmitterState)
    → s1 ≡ with_insn_appended (BeginCaptureGroup id) s → s2 ≡ with_code u d n s1 → s3 ≡ with_insn_appended (EndCaptureGroup id) s2 → s3 ≡ with_code u d (capture_group id name n) s
unfolding code_of loop_count brackets_of
with_code-capture_group u d id name n s s1 s2 s3 e1 e2 e3 =
    same_state s3 (with_code u d (capture_group id name n) s) (between u d n s s1 s2 s3 (BeginCaptureGroup id) (EndCaptureGroup id) e1 e2 e3)
    (omega (arith, ap (λ r. r.loops) e1, ap (λ r. r.loops) e2, ap (λ r. r.loops) e3))
    (ap (λ r. r.brackets) e3 ∙ ap (λ r. r.brackets) e2 ∙ ap (λ r. r.brackets ++ brackets_of n) e1)

pub with_code-loop_1_char_body : (u d : Bool) (q : Quantifier) (n : Node) (s s1 s2 : EmitterState)
    → s1 ≡ with_insn_appended (Loop1CharBody q.min (max_iterations q) q.greedy) s → s2 ≡ with_code u d n s1 → s2 ≡ with_code u d (loop_1_char_body q n) s
unfolding code_of loop_count brackets_of
with_code-loop_1_char_body u d q n s s1 s2 e1 e2 =
    same_state s2 (with_code u d (loop_1_char_body q n) s) (after_head u d n s s1 s2 (Loop1CharBody q.min (max_iterations q) q.greedy) e1 e2)
    (omega (arith, ap (λ r. r.loops) e1, ap (λ r. r.loops) e2))
    (ap (λ r. r.brackets) e2 ∙ ap (λ r. r.brackets ++ brackets_of n) e1)

pub length-between : (u d : Bool) (n : Node) (s s1 s2 s3 : EmitterState) (x y : Insn) → s1 ≡ with_insn_appended x s → s2 ≡ with_code u d n s1 → s3 ≡ with_insn_appended y s2
    → length s3.insns ≡ length s.insns + node_insn_count n + 2
length-between u d n s s1 s2 s3 x y e1 e2 e3 =
    omega (arith, ap (λ z. length z.insns) e1, length-with_insn x s, ap (λ z. length z.insns) e2, length-with_code u d n s1, ap (λ z. length z.insns) e3, length-with_insn y s2)

-- The code of a lookaround is right once its head is replaced by one with the known length.
pub with_code-lookaround : (u d : Bool) (l : Lookaround) (n : Node) (s s1 s2 s3 s4 : EmitterState) (x : Insn)
    → s1 ≡ with_insn_appended x s → s2 ≡ with_code u l.backwards n s1 → s3 ≡ with_insn_appended Goal s2 → s4 ≡ with_insn_at (length s.insns) (lookaround_insn l (length s3.insns)) s3
    → s4 ≡ with_code u d (lookaround l n) s
unfolding code_of loop_count brackets_of
with_code-lookaround u d l n s s1 s2 s3 s4 x e1 e2 e3 e4 =
    let at = length s.insns in
    let inside = code_of u l.backwards n (at + 1) s.loops (length s.brackets) in
    let len = length-between u l.backwards n s s1 s2 s3 x Goal e1 e2 e3 in
    same_state s4 (with_code u d (lookaround l n) s)
    (ap (λ r. r.insns) e4
    ∙ ap (λ is. slice_set is at (lookaround_insn l (length s3.insns))) (between u l.backwards n s s1 s2 s3 x Goal e1 e2 e3)
    ∙ set-append_seam s.insns x (inside ++ Goal ∷ []) (lookaround_insn l (length s3.insns))
    ∙ ap (λ m. s.insns ++ lookaround_insn l m ∷ (inside ++ Goal ∷ [])) len)
    (omega (arith, ap (λ r. r.loops) e1, ap (λ r. r.loops) e2, ap (λ r. r.loops) e3, ap (λ r. r.loops) e4))
    (ap (λ r. r.brackets) e4 ∙ ap (λ r. r.brackets) e3 ∙ ap (λ r. r.brackets) e2 ∙ ap (λ r. r.brackets ++ brackets_of n) e1)

-- ---- Loops

-- The resets of a loop add one instruction for each of its groups.
length-resets_done : (g e : ℕ) (s s1 s2 s3 : EmitterState) (x : Insn) → s1 ≡ with_insn_appended x s → s2 ≡ with_loop s1 → s3 ≡ with_insns_appended (group_reset_insns g e) s2
    → length s3.insns ≡ length s.insns + 1 + (e - g)
length-resets_done g e s s1 s2 s3 x e1 e2 e3 =
    omega (arith, ap (λ r. length r.insns) e1, length-with_insn x s, ap (λ r. length r.insns) e2, ap (λ r. length r.insns) e3, length-append s2.insns (group_reset_insns g e), length-resets g e)

pub length-loop : (u d : Bool) (n : Node) (g e : ℕ) (s s1 s2 s3 s4 s5 : EmitterState) (x y : Insn) → s1 ≡ with_insn_appended x s → s2 ≡ with_loop s1 → s3 ≡ with_insns_appended (group_reset_insns g e) s2
    → s4 ≡ with_code u d n s3 → s5 ≡ with_insn_appended y s4 → length s5.insns ≡ length s.insns + 1 + (e - g) + node_insn_count n + 1
length-loop u d n g e s s1 s2 s3 s4 s5 x y e1 e2 e3 e4 e5 =
    omega (arith, length-resets_done g e s s1 s2 s3 x e1 e2 e3, ap (λ r. length r.insns) e4, length-with_code u d n s3, ap (λ r. length r.insns) e5, length-with_insn y s4)

pub with_code-loop : (u d : Bool) (q : Quantifier) (g e : ℕ) (n : Node) (head : ℕ → Insn) (s s1 s2 s3 s4 s5 s6 : EmitterState) (x : Insn)
    → ((exit : ℕ) → head exit ≡ EnterLoop (record { loop_id = s.loops; min_iters = q.min; max_iters = max_iterations q; greedy = q.greedy; exit = exit }))
    → s1 ≡ with_insn_appended x s → s2 ≡ with_loop s1 → s3 ≡ with_insns_appended (group_reset_insns g e) s2 → s4 ≡ with_code u d n s3 → s5 ≡ with_insn_appended (LoopAgain (length s.insns)) s4
    → s6 ≡ with_insn_at (length s.insns) (head (length s5.insns)) s5 → s6 ≡ with_code u d (loop q g e n) s
unfolding code_of loop_count brackets_of
with_code-loop u d q g e n head s s1 s2 s3 s4 s5 s6 x is_head e1 e2 e3 e4 e5 e6 =
    let at = length s.insns in
    let body = at + 1 + (e - g) in
    let b = length s.brackets in
    let rs = group_reset_insns g e in
    let inside = code_of u d n body (s.loops + 1) b in
    let again = LoopAgain at in
    let len3 = length-resets_done g e s s1 s2 s3 x e1 e2 e3 in
    let loops3 : s3.loops ≡ s.loops + 1 = omega (arith, ap (λ r. r.loops) e1, ap (λ r. r.loops) e2, ap (λ r. r.loops) e3) in
    let brackets3 : s3.brackets ≡ s.brackets = ap (λ r. r.brackets) e3 ∙ ap (λ r. r.brackets) e2 ∙ ap (λ r. r.brackets) e1 in
    let insns3 : s3.insns ≡ (s.insns ++ x ∷ []) ++ rs = ap (λ r. r.insns) e3 ∙ ap (λ r. r.insns ++ rs) e2 ∙ ap (λ r. r.insns ++ rs) e1 in
    let insns4 : s4.insns ≡ ((s.insns ++ x ∷ []) ++ rs) ++ inside =
    ap (λ r. r.insns) e4
    ∙ ap (λ m. s3.insns ++ code_of u d n m s3.loops (length s3.brackets)) len3
    ∙ ap (λ l. s3.insns ++ code_of u d n body l (length s3.brackets)) loops3
    ∙ ap (λ bs. s3.insns ++ code_of u d n body (s.loops + 1) (length bs)) brackets3
    ∙ ap (λ is. is ++ inside) insns3 in
    let insns5 : s5.insns ≡ (((s.insns ++ x ∷ []) ++ rs) ++ inside) ++ again ∷ [] = ap (λ r. r.insns) e5 ∙ ap (λ is. is ++ again ∷ []) insns4 in
    let flat : (((s.insns ++ x ∷ []) ++ rs) ++ inside) ++ again ∷ [] ≡ s.insns ++ x ∷ (rs ++ (inside ++ again ∷ [])) = simp append_assoc in
    let len5 = length-loop u d n g e s s1 s2 s3 s4 s5 x again e1 e2 e3 e4 e5 in
    let rest = rs ++ (inside ++ again ∷ []) in
    same_state s6 (with_code u d (loop q g e n) s)
    (ap (λ r. r.insns) e6
    ∙ ap (λ is. slice_set is at (head (length s5.insns))) (insns5 ∙ flat)
    ∙ set-append_seam s.insns x rest (head (length s5.insns))
    ∙ ap (λ m. s.insns ++ head m ∷ rest) len5
    ∙ ap (λ h. s.insns ++ h ∷ rest) (is_head (body + node_insn_count n + 1)))
    (omega (arith, ap (λ r. r.loops) e4, ap (λ r. r.loops) e5, ap (λ r. r.loops) e6))
    (ap (λ r. r.brackets) e6 ∙ ap (λ r. r.brackets) e5 ∙ ap (λ r. r.brackets) e4 ∙ ap (λ bs. bs ++ brackets_of n) brackets3)

-- ---- Room for the indices of inner nodes

pub loop_fits : (q : Quantifier) (g h : ℕ) (n : Node) (s s1 : EmitterState) (x : Insn) → HasIndexRoomForNode s (loop q g h n) → s1 ≡ with_insn_appended x s → s1.loops + 1 < 2 ^ 16
unfolding loop_count
loop_fits q g h n s s1 x r e = omega (arith, r.loops, ap (λ y. y.loops) e)

pub room-unnamed : (id : ℕ) (name : List ℕ) (n : Node) (s : EmitterState) → HasIndexRoomForNode s (capture_group id name n) → HasIndexRoomForNode s (capture_group id [] n)
unfolding node_insn_count loop_count
room-unnamed id name n s r = record { insns = r.insns; loops = r.loops }

-- ---- Brackets

pub with_code-ascii : (u d : Bool) (contents : BracketContents) (s : EmitterState) → is_uninverted_ascii_class contents ≡ true
    → with_code u d (bracket contents) s ≡ with_insn_appended (AsciiBracket (bytes_that_pass (in_intervals contents.intervals))) s
unfolding code_of loop_count brackets_of
with_code-ascii u d contents s ascii =
    same_state (with_code u d (bracket contents) s) (with_insn_appended (AsciiBracket (bytes_that_pass (in_intervals contents.intervals))) s)
    (rw ascii) (omega arith) (rw ascii (append-nil s.brackets))

pub with_code-bracket : (u d : Bool) (contents : BracketContents) (s s1 s2 : EmitterState) (index : ℕ) → is_uninverted_ascii_class contents ≡ false
    → index ≡ length s.brackets → s1 ≡ with_insn_appended (Bracket index) s → s2 ≡ with_bracket_table_entry contents s1 → s2 ≡ with_code u d (bracket contents) s
unfolding code_of loop_count brackets_of
with_code-bracket u d contents s s1 s2 index ascii i e1 e2 =
    same_state s2 (with_code u d (bracket contents) s)
    (rw ascii (ap (λ r. r.insns) e2 ∙ ap (λ r. r.insns) e1 ∙ ap (λ n. s.insns ++ Bracket n ∷ []) i))
    (omega (arith, ap (λ r. r.loops) e1, ap (λ r. r.loops) e2))
    (rw ascii (ap (λ r. r.brackets) e2 ∙ ap (λ r. r.brackets ++ contents ∷ []) e1))
