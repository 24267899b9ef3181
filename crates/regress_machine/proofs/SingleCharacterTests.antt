-- The instruction of a node of one character tests exactly what the node accepts.
use Rattle.std.proofs.Common.{◌≡◌, ℕ, zero, suc, ◌+◌, ◌<◌, ◌≤◌, List, [], ◌∷◌, ◌++◌, length, map, drop, Some, Bool, true, false, ◌&&◌, ◌||◌, refl, ap, ◌∙◌, sym, subst, arith, append-nil, slice_get}
use Rattle.std.proofs.Common.{drop_of_length-le}
use Rattle.std.specs.Prelude.{nat_le, nat_lt, nat_eq, ◌==◌, encode_utf8_all, chars, option_and_then, MatchBool}
use Rattle.std.specs.List.{list_all}
use Rattle.std.specs.Char.{encode_utf8 as encode, len_utf8}
use Rattle.std.specs.Str.{is_utf8}
use Rattle.std.specs.Int.{is_in_range}
use Rattle.std.proofs.lemmas.Slice.Eq.{bytes_eq-Decides}
use Rattle.std.proofs.lemmas.Str.{chars-encodes, length-encode, len_utf8_bounds}
use Rattle.std.proofs.lemmas.List.{take_all}
use lib.Pointwise.{pointwise}
use lib.Utf8.{scalar}
use Rattle.regex_meaning.specs.NumberListHelpers.{contains}
use Rattle.regex_meaning.specs.Laws.{Each}
use Rattle.regex_meaning.specs.Tree.{BracketContents, Node, char, char_set, byte_set, byte_sequence, bracket, match_any, match_any_except_line_terminator}
use Rattle.regex_meaning.specs.Text.{Text, is_scalar}
use Rattle.regex_meaning.specs.Outcomes.{accepts, exclusive_or, in_intervals}
use Rattle.regex_meaning.specs.StartPredicate.{bytes_that_pass}
use Rattle.regex_meaning.specs.WellFormedTrees.{is_one_character, has_text_in_sequence, set_sizes_and_characters_fit_instructions}
use Rattle.regex_meaning.specs.CompilationRelation.{Program, Insn, Counters, HasInsnsBetween, IsCode, JustFail, Char, CharSet, ByteSet, ByteSeq, AsciiBracket, Bracket, MatchAny}
use Rattle.regex_meaning.specs.CompilationRelation.{MatchAnyExceptLineTerminator, padded, reversed_if_in_lookbehind, is_uninverted_ascii_class, chunks, first_chunks_of_bytes}
use Rattle.regex_meaning.proofs.FirstByteOfCharacter.{true-in_range, encode-1}
use Rattle.regress_machine.specs.Machine.{test_of}
use Rattle.regress_machine.specs.TextsForBytePrograms.{HasUtf8CharactersAndOffsets, tree_contains_byte_nodes}
use Rattle.regress_machine.proofs.SingleCharacterOutcomes.{contains-padded, ascii_accepts}
use Rattle.regex_meaning.proofs.BoolLemmas.{same-truth, and-left, and-right}
use Rattle.regex_meaning.proofs.EachElementLemmas.{Each-all}
use Rattle.std.proofs.lemmas.Bool.{and_from, or_left, lt-ltb, le-leb, ltb-true, le-ltb, eq-eqb, eqb-true}

-- ---- Tests

pub or_false : (x : Bool) → (x || false) ≡ true → x ≡ true
or_false true h = refl
or_false false h = h

pub each_scalar : (P : ℕ → Type 0) → ((c : ℕ) → is_scalar c ≡ true → P c) → (cs : List ℕ) → list_all is_scalar cs ≡ true → Each P cs
each_scalar P h [] s = tt
each_scalar P h (c ∷ cs) s = (h c (and-left (is_scalar c) _ s), each_scalar P h cs (and-right (is_scalar c) _ s))

-- ---- Characters as bytes

pub scalar_of : (c : ℕ) → is_scalar c ≡ true → scalar c ≡ true
scalar_of c h = go (is_in_range 0 0xD7FF c) refl
  where
    go : (b : Bool) → is_in_range 0 0xD7FF c ≡ b → scalar c ≡ true
    go true e = let r = true-in_range 0 0xD7FF c e in rw (lt-ltb c 55296 (omega (arith, r.1))) refl
    go false e =
        let r = true-in_range 0xE000 0x10_FFFF c (rw e at h) in
        rw (le-ltb c 55296 (omega (arith, r.0)), le-leb 57344 c r.0, lt-ltb c 1114112 (omega (arith, r.1))) refl

pub chars_of_one : (c : ℕ) → is_scalar c ≡ true → chars (encode_utf8_all (c ∷ [])) ≡ c ∷ []
chars_of_one c h = chars-encodes (c ∷ []) (and_from (scalar c) true (scalar_of c h) refl)

pub utf8_text_of : (bytes : List ℕ) → is_utf8 bytes ≡ true → encode_utf8_all (chars bytes) ≡ bytes
unfolding is_utf8
utf8_text_of bytes u = (bytes_eq-Decides (encode_utf8_all (chars bytes)) bytes).0 (and-right _ _ u)

pub sequence_test : (bytes : List ℕ) → is_utf8 bytes ≡ true → (d : ℕ) → is_scalar d ≡ true
    → pointwise nat_eq (encode_utf8_all (d ∷ [])) bytes ≡ pointwise nat_eq (chars bytes) (d ∷ [])
sequence_test bytes u d s =
    same-truth (pointwise nat_eq (encode_utf8_all (d ∷ [])) bytes) (pointwise nat_eq (chars bytes) (d ∷ []))
    (λ h. let e = (bytes_eq-Decides (encode_utf8_all (d ∷ [])) bytes).0 h in
    (bytes_eq-Decides (chars bytes) (d ∷ [])).1 (ap chars (sym e) ∙ chars_of_one d s))
    (λ h. let e = (bytes_eq-Decides (chars bytes) (d ∷ [])).0 h in
    (bytes_eq-Decides (encode_utf8_all (d ∷ [])) bytes).1 (ap encode_utf8_all (sym e) ∙ utf8_text_of bytes u))

pub low_scalar : (b : ℕ) → b < 128 → is_scalar b ≡ true
low_scalar b h = or_left _ _ (and_from _ _ (le-leb 0 b (omega arith)) (le-leb b 0xD7FF (omega arith)))

pub byte_test : (b : ℕ) → b < 128 → (d : ℕ) → is_scalar d ≡ true → pointwise nat_eq (encode_utf8_all (d ∷ [])) (b ∷ []) ≡ contains (b ∷ []) d
byte_test b low d s =
    let is : encode_utf8_all (b ∷ []) ≡ b ∷ [] = ap (λ (l : List ℕ). l ++ []) (encode-1 b low) in
    same-truth (pointwise nat_eq (encode_utf8_all (d ∷ [])) (b ∷ [])) (contains (b ∷ []) d)
    (λ h. let e = (bytes_eq-Decides (encode_utf8_all (d ∷ [])) (b ∷ [])).0 h in
    let f : d ∷ [] ≡ b ∷ [] = sym (chars_of_one d s) ∙ ap chars (e ∙ sym is) ∙ chars_of_one b (low_scalar b low) in
    or_left _ _ (eq-eqb d b (cc)))
    (λ h. let e : d ≡ b = eqb-true d b (or_false (nat_eq d b) h) in
    (bytes_eq-Decides (encode_utf8_all (d ∷ [])) (b ∷ [])).1 (ap (λ (c : ℕ). encode_utf8_all (c ∷ [])) e ∙ is))

-- ---- Chunks

pub no_chunks : (n : ℕ) → first_chunks_of_bytes n [] ≡ []
no_chunks zero = refl
no_chunks (suc n) = refl

pub short_chunk : (bytes : List ℕ) → 0 < length bytes → length bytes ≤ 16 → chunks bytes ≡ bytes ∷ []
short_chunk [] h k = absurd (omega arith)
short_chunk (b ∷ bytes) h k =
    let l : length bytes ≤ 15 = omega arith in
    ap (λ (t : List ℕ). (b ∷ t) ∷ first_chunks_of_bytes (length bytes) (drop 15 bytes)) (take_all 15 bytes l)
    ∙ ap (λ (t : List ℕ). (b ∷ bytes) ∷ first_chunks_of_bytes (length bytes) t) (drop_of_length-le bytes {i = 15} l)
    ∙ ap (λ (t : List (List ℕ)). (b ∷ bytes) ∷ t) (no_chunks (length bytes))

pub one_of_length : (cs : List ℕ) → (length cs == 1) ≡ true → (c : ℕ) × (cs ≡ c ∷ [])
one_of_length [] h = cc
one_of_length (c ∷ []) h = (c, refl)
one_of_length (c ∷ d ∷ cs) h = absurd (let e = eqb-true (length (c ∷ d ∷ cs)) 1 h in omega arith)

-- The bytes of a single character make one chunk.
pub one_chunk : (bytes : List ℕ) → is_utf8 bytes ≡ true → (length (chars bytes) == 1) ≡ true → chunks bytes ≡ bytes ∷ []
one_chunk bytes u one =
    let c = one_of_length (chars bytes) one in
    let e : length (encode_utf8_all (c.0 ∷ [])) ≡ length bytes = ap length (ap encode_utf8_all (sym c.1) ∙ utf8_text_of bytes u) in
    let f : length (encode_utf8_all (c.0 ∷ [])) ≡ len_utf8 c.0 = ap length (append-nil (encode c.0)) ∙ length-encode c.0 in
    let g = len_utf8_bounds c.0 in
    short_chunk bytes (omega (arith, g.0)) (omega (arith, g.1))

ordered_one : (behind : Bool) (x : List ℕ) → reversed_if_in_lookbehind behind (x ∷ []) ≡ x ∷ []
ordered_one true x = refl
ordered_one false x = refl

-- ---- Instructions

module _ (program : Program) (text : Text) where
  -- The code is one instruction, which tests what the node accepts.
  pub record ReadsOne (node : Node) (m n : Counters) : Type 0 where
    pub test : ℕ → Bool
    pub test_is : test_of program (slice_get program.insns m.insn) ≡ Some test
    pub same : Each (λ c. test c ≡ accepts node c) text.characters
    pub end : n.insn ≡ m.insn + 1

  insn-after : (i : Insn) (m n : Counters) → HasInsnsBetween program (i ∷ []) m n → n.insn ≡ m.insn + 1
  insn-after i m n has = ap (λ (m : Counters). m.insn) (sym has.1)

  reads_by : (node : Node) (i : Insn) (test : ℕ → Bool) (m n : Counters) → HasInsnsBetween program (i ∷ []) m n → test_of program (Some i) ≡ Some test
      → Each (λ c. test c ≡ accepts node c) text.characters → ReadsOne node m n
  reads_by node i test m n has is same = record {
    test = test;
    test_is = ap (test_of program) has.0 ∙ is;
    same = same;
    end = insn-after i m n has;
  }

  exactly : (node : Node) → Each (λ c. accepts node c ≡ accepts node c) text.characters
  exactly node = Each-all (λ c. accepts node c ≡ accepts node c) (λ c. refl) text.characters

  sequence_reads : (behind : Bool) (bytes : List ℕ) (m n : Counters) → is_utf8 bytes ≡ true → (length (chars bytes) == 1) ≡ true → HasUtf8CharactersAndOffsets text
      → HasInsnsBetween program (map ByteSeq (reversed_if_in_lookbehind behind (chunks bytes))) m n → ReadsOne (byte_sequence bytes) m n
  sequence_reads behind bytes m n u one reads has =
      let is : reversed_if_in_lookbehind behind (chunks bytes) ≡ bytes ∷ [] = ap (reversed_if_in_lookbehind behind) (one_chunk bytes u one) ∙ ordered_one behind bytes in
      reads_by (byte_sequence bytes) (ByteSeq bytes) (λ d. pointwise nat_eq (encode_utf8_all (d ∷ [])) bytes) m n
      (subst (λ (cs : List (List ℕ)). HasInsnsBetween program (map ByteSeq cs) m n) is has) refl
      (each_scalar (λ d. pointwise nat_eq (encode_utf8_all (d ∷ [])) bytes ≡ pointwise nat_eq (chars bytes) (d ∷ [])) (sequence_test bytes u) text.characters reads.scalars)

  byte_reads : (b : ℕ) (m n : Counters) → b < 128 → HasUtf8CharactersAndOffsets text → HasInsnsBetween program (ByteSeq (b ∷ []) ∷ []) m n → ReadsOne (byte_set (b ∷ [])) m n
  byte_reads b m n low reads has =
      reads_by (byte_set (b ∷ [])) (ByteSeq (b ∷ [])) (λ d. pointwise nat_eq (encode_utf8_all (d ∷ [])) (b ∷ [])) m n has refl
      (each_scalar (λ d. pointwise nat_eq (encode_utf8_all (d ∷ [])) (b ∷ []) ≡ contains (b ∷ []) d) (byte_test b low) text.characters reads.scalars)

  bracket_reads : (contents : BracketContents) (m n : Counters) (b : Bool) → is_uninverted_ascii_class contents ≡ b
      → MatchBool b (HasInsnsBetween program (AsciiBracket (bytes_that_pass (in_intervals contents.intervals)) ∷ []) m n)
      (HasInsnsBetween program (Bracket m.bracket ∷ []) (record m { bracket = m.bracket + 1 }) n × (slice_get program.brackets m.bracket ≡ Some contents))
      → ReadsOne (bracket contents) m n
  bracket_reads contents m n true e has =
      let members = bytes_that_pass (in_intervals contents.intervals) in
      reads_by (bracket contents) (AsciiBracket members) (contains members) m n has refl
      (Each-all (λ c. contains members c ≡ accepts (bracket contents) c) (ascii_accepts contents e) text.characters)
  bracket_reads contents m n false e has = record {
    test = accepts (bracket contents);
    test_is = ap (test_of program) has.0.0
        ∙ ap (option_and_then (λ (contents : BracketContents). Some (λ c. exclusive_or contents.invert (in_intervals contents.intervals c)))) has.1;
    same = exactly (bracket contents);
    end = insn-after (Bracket m.bracket) (record m { bracket = m.bracket + 1 }) n has.0;
  }

  pub reads_one : (behind : Bool) (node : Node) → is_one_character node ≡ true → has_text_in_sequence node ≡ true → set_sizes_and_characters_fit_instructions node ≡ true
      → (tree_contains_byte_nodes node ≡ true → HasUtf8CharactersAndOffsets text) → (m n : Counters) → IsCode program behind node m n → ReadsOne node m n
  unfolding IsCode
  reads_one behind (char c) one spelt fits reads m n code = reads_by (char c) (Char c) (accepts (char c)) m n code refl (exactly (char c))
  reads_one behind (char_set []) one spelt fits reads m n code = reads_by (char_set []) JustFail (λ d. false) m n code refl (exactly (char_set []))
  reads_one behind (char_set (c ∷ cs)) one spelt fits reads m n code =
      reads_by (char_set (c ∷ cs)) (CharSet (padded c cs)) (contains (padded c cs)) m n code refl
      (Each-all (λ d. contains (padded c cs) d ≡ contains (c ∷ cs) d) (contains-padded c cs) text.characters)
  reads_one behind (byte_set []) one spelt fits reads m n code = reads_by (byte_set []) JustFail (λ d. false) m n code refl (exactly (byte_set []))
  reads_one behind (byte_set (b ∷ [])) one spelt fits reads m n code =
      byte_reads b m n (ltb-true b 128 (and-left (nat_lt b 128) true (and-right (nat_le (length (b ∷ [])) 4) (nat_lt b 128 && true) fits))) (reads refl) code
  reads_one behind (byte_set (b ∷ c ∷ bytes)) one spelt fits reads m n code =
      reads_by (byte_set (b ∷ c ∷ bytes)) (ByteSet (b ∷ c ∷ bytes)) (contains (b ∷ c ∷ bytes)) m n code refl (exactly (byte_set (b ∷ c ∷ bytes)))
  reads_one behind (byte_sequence bytes) one spelt fits reads m n code =
      sequence_reads behind bytes m n (and-right (nat_lt 0 (length bytes)) _ spelt) one (reads refl) code
  reads_one behind (bracket contents) one spelt fits reads m n code = bracket_reads contents m n (is_uninverted_ascii_class contents) refl code
  reads_one behind match_any one spelt fits reads m n code = reads_by match_any MatchAny (accepts match_any) m n code refl (exactly match_any)
  reads_one behind match_any_except_line_terminator one spelt fits reads m n code =
      reads_by match_any_except_line_terminator MatchAnyExceptLineTerminator (accepts match_any_except_line_terminator) m n code refl (exactly match_any_except_line_terminator)
  reads_one behind _ one spelt fits reads m n code = cc
