-- A compiled program has a lookaround or a backreference exactly if its tree has one.
use Rattle.std.proofs.Common.{◌≡◌, ℕ, ◌+◌, ◌-◌, Bool, true, false, List, [], ◌∷◌, ◌++◌, ◌||◌, not, map, length, refl, ap, ◌∙◌, if◌then◌else◌}
use Rattle.std.specs.List.{list_any}
use Rattle.std.proofs.Math.Bool.{or-false}
use Rattle.std.proofs.lemmas.List.Folds.{list_any-append}
use Rattle.regex_meaning.specs.NumberListHelpers.{numbers_from}
use Rattle.regex_meaning.specs.Tree.{Node, AnchorType, Lookaround, empty, goal, char, char_set, byte_set, byte_sequence, cat, end_of_cat, alt, bracket, fold_nodes, string_set, match_any}
use Rattle.regex_meaning.specs.Tree.{match_any_except_line_terminator, anchor, word_boundary, capture_group, back_ref}
use Rattle.regex_meaning.specs.Tree.{lookaround, loop, loop_1_char_body, start_of_line, end_of_line}
use Rattle.regex_meaning.specs.Text.{expand_code_point}
use Rattle.regex_meaning.specs.CompilationRelation.{Insn, AsciiBracket, Bracket, ByteSeq, EndCaptureGroup, Goal, Jump, LoopAgain, Lookahead, Lookbehind, ResetCaptureGroup, anchor_insn, byte_set_insn}
use Rattle.regex_meaning.specs.CompilationRelation.{case_variants_insn, char_set_insn, chunks}
use Rattle.regex_meaning.specs.Outcomes.{in_intervals}
use Rattle.regex_meaning.specs.StartPredicate.{bytes_that_pass}
use Rattle.regex_meaning.specs.CompilationRelation.{is_uninverted_ascii_class, lookaround_insn, reversed_if_in_lookbehind, word_boundary_insn}
use Rattle.regress_program.specs.CompilationOfTreesAsFunction.{brackets_of, code_of, group_reset_insns, loop_count, node_insn_count, string_code, strings_code, strings_size}
use Rattle.regress_bounded.specs.Unboundedness.{is_lookaround_or_backref_insn, is_lookaround_or_backref_node}

-- The flag chooses between lookarounds and backreferences.
module _ (looks : Bool) where
  -- Instructions have a lookaround or a backreference.
  abbrev has : List Insn → Bool
  has = list_any (is_lookaround_or_backref_insn looks)

  has-char_set : (members : List ℕ) → is_lookaround_or_backref_insn looks (char_set_insn members) ≡ false
  has-char_set [] = refl
  has-char_set (c ∷ cs) = refl

  has-byte_set : (members : List ℕ) → is_lookaround_or_backref_insn looks (byte_set_insn members) ≡ false
  has-byte_set [] = refl
  has-byte_set (b ∷ []) = refl
  has-byte_set (b ∷ c ∷ bytes) = refl

  has-variants : (cs : List ℕ) → is_lookaround_or_backref_insn looks (case_variants_insn cs) ≡ false
  has-variants [] = refl
  has-variants (c ∷ []) = refl
  has-variants (c ∷ d ∷ more) = refl

  has-anchor : (type : AnchorType) (multiline : Bool) → is_lookaround_or_backref_insn looks (anchor_insn type multiline) ≡ false
  has-anchor start_of_line multiline = refl
  has-anchor end_of_line multiline = refl

  has-boundary : (invert icase : Bool) → is_lookaround_or_backref_insn looks (word_boundary_insn invert icase) ≡ false
  has-boundary invert true = refl
  has-boundary invert false = refl

  has-look : (l : Lookaround) (to : ℕ) → is_lookaround_or_backref_insn looks (lookaround_insn l to) ≡ looks
  has-look l to = by l.backwards
    where
      by : (b : Bool) → is_lookaround_or_backref_insn looks (if b then Lookbehind l.negate l.start_group l.end_group to else Lookahead l.negate l.start_group l.end_group to) ≡ looks
      by true = refl
      by false = refl

  has-none : {X : Type 0} (f : X → Insn) → ((x : X) → is_lookaround_or_backref_insn looks (f x) ≡ false) → (xs : List X) → has (map f xs) ≡ false
  has-none f none [] = refl
  has-none f none (x ∷ xs) = ap (λ b. b || has (map f xs)) (none x) ∙ has-none f none xs

  has-string : (unicode icase behind : Bool) (s : List ℕ) → has (string_code unicode icase behind s) ≡ false
  has-string unicode icase behind s = has-none (λ c. case_variants_insn (expand_code_point c icase unicode)) (λ c. has-variants (expand_code_point c icase unicode)) (reversed_if_in_lookbehind behind s)

  has-strings : (unicode icase behind : Bool) (strings : List (List ℕ)) (at : ℕ) → has (strings_code unicode icase behind strings at) ≡ false
  has-strings unicode icase behind [] at = refl
  has-strings unicode icase behind (s ∷ []) at = has-string unicode icase behind s
  has-strings unicode icase behind (s ∷ t ∷ more) at =
      let second = at + length s + 2 in
      let later = strings_code unicode icase behind (t ∷ more) second in
      list_any-append (is_lookaround_or_backref_insn looks) (string_code unicode icase behind s) (Jump (second + strings_size (t ∷ more)) ∷ later)
      ∙ ap (λ b. b || has later) (has-string unicode icase behind s) ∙ has-strings unicode icase behind (t ∷ more) second

  -- The code of a node has one, at any position in a program, if the node has one.
  pub has-code : (u d : Bool) (n : Node) (at l b : ℕ) → has (code_of u d n at l b) ≡ fold_nodes ◌||◌ (is_lookaround_or_backref_node looks) n
  unfolding code_of
  has-code u d empty at l b = refl
  has-code u d goal at l b = refl
  has-code u d (char c) at l b = refl
  has-code u d (char_set members) at l b = ap (λ x. x || false) (has-char_set members)
  has-code u d (byte_set members) at l b = ap (λ x. x || false) (has-byte_set members)
  has-code u d (byte_sequence bytes) at l b = has-none ByteSeq (λ x. refl) (reversed_if_in_lookbehind d (chunks bytes))
  has-code u d end_of_cat at l b = refl
  has-code u d (cat first rest) at l b =
      let one = has-code u d first at l b in
      let other = has-code u d rest (at + node_insn_count first) (l + loop_count first) (b + length (brackets_of first)) in
      list_any-append (is_lookaround_or_backref_insn looks) (code_of u d first at l b) _ ∙ (λ i. one i || other i)
  has-code u d (alt left right) at l b =
      let one = has-code u d left (at + 1) l b in
      let other = has-code u d right (at + node_insn_count left + 2) (l + loop_count left) (b + length (brackets_of left)) in
      let second = at + node_insn_count left + 2 in
      let later = code_of u d right second (l + loop_count left) (b + length (brackets_of left)) in
      list_any-append (is_lookaround_or_backref_insn looks) (code_of u d left (at + 1) l b) (Jump (second + node_insn_count right) ∷ later) ∙ (λ i. one i || other i)
  has-code u d (bracket contents) at l b = by (is_uninverted_ascii_class contents)
    where
      by : (t : Bool) → has ((if t then AsciiBracket (bytes_that_pass (in_intervals contents.intervals)) else Bracket b) ∷ []) ≡ false
      by true = refl
      by false = refl
  has-code u d (string_set strings icase) at l b = has-strings u icase d strings at
  has-code u d match_any at l b = refl
  has-code u d match_any_except_line_terminator at l b = refl
  has-code u d (anchor type multiline) at l b = ap (λ x. x || false) (has-anchor type multiline)
  has-code u d (word_boundary invert icase) at l b = ap (λ x. x || false) (has-boundary invert icase)
  has-code u d (capture_group id name contents) at l b =
      list_any-append (is_lookaround_or_backref_insn looks) (code_of u d contents (at + 1) l b) (EndCaptureGroup id ∷ []) ∙ or-false (has (code_of u d contents (at + 1) l b)) ∙ has-code u d contents (at + 1) l b
  has-code u d (back_ref group same) at l b = or-false (not looks)
  has-code u d (lookaround look contents) at l b =
      let inside = list_any-append (is_lookaround_or_backref_insn looks) (code_of u look.backwards contents (at + 1) l b) (Goal ∷ [])
      ∙ or-false (has (code_of u look.backwards contents (at + 1) l b)) ∙ has-code u look.backwards contents (at + 1) l b in
      let head = has-look look (at + node_insn_count contents + 2) in
      (λ i. head i || inside i)
  has-code u d (loop q start_group end_group loopee) at l b =
      let body = at + 1 + (end_group - start_group) in
      let inside = code_of u d loopee body (l + 1) b in
      list_any-append (is_lookaround_or_backref_insn looks) (group_reset_insns start_group end_group) (inside ++ LoopAgain at ∷ [])
      ∙ ap (λ x. x || has (inside ++ LoopAgain at ∷ [])) (has-none ResetCaptureGroup (λ x. refl) (numbers_from start_group (end_group - start_group)))
      ∙ list_any-append (is_lookaround_or_backref_insn looks) inside (LoopAgain at ∷ []) ∙ or-false (has inside) ∙ has-code u d loopee body (l + 1) b
  has-code u d (loop_1_char_body q loopee) at l b = has-code u d loopee (at + 1) l b
