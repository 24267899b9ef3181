-- Tables of bits that pass their checks satisfy the conditions of first-set tables.
use Rattle.std.proofs.Common.{◌≡◌, ◌<◌, ◌≤◌, ℕ, ◌+◌, List, [], ◌∷◌, length, get_or, Option, Some, None, Bool, true, false, ◌||◌, refl, ap, ◌∙◌, sym, subst, slice_get}
use Rattle.std.specs.Prelude.{◌==◌, unwrap_or}
use Rattle.std.proofs.lemmas.Option.{unwrap_or-slice_get, slice_get_past}
use Rattle.std.proofs.lemmas.Bool.{cases_lt, eqb-true}
use mathlib.Core.Logic.{inl, inr}
use Rattle.regex_meaning.specs.Laws.{Each}
use Rattle.regex_meaning.specs.CodeUnits.{Encoding, utf8, utf16, ucs2}
use Rattle.regex_meaning.specs.CompilationRelation.{Program, Insn, Goal, JustFail, Char, CharSet, ByteSet, ByteSeq, AsciiBracket, Bracket, MatchAny, MatchAnyExceptLineTerminator, EndOfLine, Alt}
use Rattle.regex_meaning.specs.CompilationRelation.{EnterLoop, LoopAgain, Loop1CharBody, BackRef, Lookahead}
use Rattle.regress_machine.specs.Machine.{test_of}
use Rattle.regress_machine.specs.FirstSetTables.{AllowedNextKeys, table_allows_key_or_end, unit_table_of, TableAllowsAll, IsSubtable, AllowsWhatBothAllow, first_unit_key, AllowsAcceptedChars}
use Rattle.regress_machine.specs.FirstSetTables.{AllowsFirstByteOf, AllowsLineEnds, AllowsLoopRepeat, IsCovered}

-- ---- Bits

-- A bit behind the end of a table counts as set.
bit-there : (bits : List Bool) (k : ℕ) → unwrap_or (slice_get bits k) true ≡ get_or bits k true
bit-there bits k = unwrap_or-slice_get bits k true

bit-past : (bits : List Bool) (k : ℕ) → length bits ≤ k → unwrap_or (slice_get bits k) true ≡ true
bit-past bits k past = ap (λ o. unwrap_or o true) (slice_get_past bits k past)

-- If each bit is set, the table allows all units and the end.
pub bits-all : (bits : List Bool) → ((k : ℕ) → k < length bits → get_or bits k true ≡ true) → TableAllowsAll (unit_table_of bits true)
bits-all bits h None = refl
bits-all bits h (Some k) = elim (cases_lt k (length bits)) [
  | inl less ↦ bit-there bits k ∙ h k less
  | inr past ↦ bit-past bits k past
]

-- If the second table has each bit of the first one, the first one is its subtable.
pub bits-within : (xs ys : List Bool) (a b : Bool) → (a ≡ true → b ≡ true)
    → ((k : ℕ) → k < length ys → get_or xs k true ≡ true → get_or ys k true ≡ true) → IsSubtable (unit_table_of xs a) (unit_table_of ys b)
bits-within xs ys a b ends h None allowed = ends allowed
bits-within xs ys a b ends h (Some k) allowed = elim (cases_lt k (length ys)) [
  | inl less ↦ bit-there ys k ∙ h k less (sym (bit-there xs k) ∙ allowed)
  | inr past ↦ bit-past ys k past
]

pub bits-both-within : (xs ys zs : List Bool) (a b c : Bool) → (a ≡ true → b ≡ true → c ≡ true)
    → ((k : ℕ) → k < length zs → get_or xs k true ≡ true → get_or ys k true ≡ true → get_or zs k true ≡ true)
    → AllowsWhatBothAllow (unit_table_of xs a) (unit_table_of ys b) (unit_table_of zs c)
bits-both-within xs ys zs a b c ends h None first second = ends first second
bits-both-within xs ys zs a b c ends h (Some k) first second = elim (cases_lt k (length zs)) [
  | inl less ↦ bit-there zs k ∙ h k less (sym (bit-there xs k) ∙ first) (sym (bit-there ys k) ∙ second)
  | inr past ↦ bit-past zs k past
]

-- ---- Characters

module _ (e : Encoding) (key : ℕ → ℕ) where
  -- A table that contains the class of the accepted characters allows these characters.
  pub accepted-within : (o : Option (ℕ → Bool)) (class table : AllowedNextKeys) → AllowsAcceptedChars e key o class → IsSubtable class table → AllowsAcceptedChars e key o table
  accepted-within None class table has within = tt
  accepted-within (Some test) class table has within = λ c is accepted. within (first_unit_key e key c) (has c is accepted)

  either : (a b : Bool) (P : Type 0) → (a ≡ true → P) → (b ≡ true → P) → (a || b) ≡ true → P
  either true b P f g h = f refl
  either false b P f g h = g h

  -- A table allows the line ends that another one allows if it has its end and line terminators.
  pub edges-of : (multiline : Bool) (other table : AllowedNextKeys) → (other.end ≡ true → table.end ≡ true)
      → (multiline ≡ true → Each (λ c. table_allows_key_or_end other (first_unit_key e key c) ≡ true → table_allows_key_or_end table (first_unit_key e key c) ≡ true) (0x0A ∷ 0x0D ∷ 0x2028 ∷ 0x2029 ∷ []))
      → AllowsLineEnds e key multiline other table
  edges-of multiline other table ends each = record {
    end = ends;
    terminators = λ many c is.
        let four = each many in
        either (c == 0x0A || c == 0x0D || c == 0x2028) (c == 0x2029) (So c)
        (λ h. either (c == 0x0A || c == 0x0D) (c == 0x2028) (So c)
        (λ h. either (c == 0x0A) (c == 0x0D) (So c) (λ h. there c 0x0A h four.0) (λ h. there c 0x0D h four.1.0) h)
        (λ h. there c 0x2028 h four.1.1.0) h) (λ h. there c 0x2029 h four.1.1.1.0) is;
  }
    where
      So : ℕ → Type 0
      So c = table_allows_key_or_end other (first_unit_key e key c) ≡ true → table_allows_key_or_end table (first_unit_key e key c) ≡ true

      there : (c d : ℕ) → (c == d) ≡ true → So d → So c
      there c d h so = subst So (sym (eqb-true c d h)) so

-- ---- Tables that allow all

module _ (e : Encoding) (key : ℕ → ℕ) (program : Program) (tables : ℕ → AllowedNextKeys) where
  accepted-by-all : (o : Option (ℕ → Bool)) (table : AllowedNextKeys) → TableAllowsAll table → AllowsAcceptedChars e key o table
  accepted-by-all None table all = tt
  accepted-by-all (Some test) table all = λ c is accepted. all (first_unit_key e key c)

  repeated-by-all : (i : Option Insn) (begin : ℕ) (table : AllowedNextKeys) → TableAllowsAll table → AllowsLoopRepeat e key program tables i begin table
  repeated-by-all (Some (EnterLoop f)) begin table all = (λ seen h. all seen, λ seen h. all seen)
  repeated-by-all _ begin table all = tt

  -- An instruction whose table allows all is covered.
  pub covered-by-all : (i : Option Insn) (ip : ℕ) → TableAllowsAll (tables ip) → IsCovered e key program tables i ip
  covered-by-all None ip all = tt
  covered-by-all (Some Goal) ip all = all
  covered-by-all (Some JustFail) ip all = tt
  covered-by-all (Some (Char c)) ip all = accepted-by-all (test_of program (Some (Char c))) (tables ip) all
  covered-by-all (Some (CharSet members)) ip all = accepted-by-all (test_of program (Some (CharSet members))) (tables ip) all
  covered-by-all (Some (ByteSet members)) ip all = accepted-by-all (test_of program (Some (ByteSet members))) (tables ip) all
  covered-by-all (Some (ByteSeq bytes)) ip all = by e bytes
    where
      by : (e : Encoding) (bytes : List ℕ) → AllowsFirstByteOf e key e bytes (tables ip)
      by utf8 [] = all
      by utf8 (b ∷ bytes) = all (Some (key b))
      by utf16 bytes = all
      by ucs2 bytes = all
  covered-by-all (Some (AsciiBracket members)) ip all = accepted-by-all (test_of program (Some (AsciiBracket members))) (tables ip) all
  covered-by-all (Some (Bracket index)) ip all = accepted-by-all (test_of program (Some (Bracket index))) (tables ip) all
  covered-by-all (Some MatchAny) ip all = accepted-by-all (test_of program (Some MatchAny)) (tables ip) all
  covered-by-all (Some MatchAnyExceptLineTerminator) ip all = accepted-by-all (test_of program (Some MatchAnyExceptLineTerminator)) (tables ip) all
  covered-by-all (Some (EndOfLine multiline)) ip all = record { end = λ h. all None; terminators = λ many c is h. all (first_unit_key e key c) }
  covered-by-all (Some (Alt secondary)) ip all = (λ seen h. all seen, λ seen h. all seen)
  covered-by-all (Some (EnterLoop f)) ip all = record { inside = λ seen h. all seen; outside = λ none seen h. all seen }
  covered-by-all (Some (LoopAgain begin)) ip all = repeated-by-all (slice_get program.insns begin) begin (tables ip) all
  covered-by-all (Some (Loop1CharBody min_iters max_iters greedy)) ip all = record {
    accepted = λ some. accepted-by-all (test_of program (slice_get program.insns (ip + 1))) (tables ip) all;
    behind = λ none seen h. all seen;
  }
  covered-by-all (Some (BackRef group icase)) ip all = all
  covered-by-all (Some (Lookahead true start_group end_group continuation)) ip all = λ seen h. all seen
  covered-by-all (Some (Lookahead false start_group end_group continuation)) ip all = λ seen h k. all seen
  covered-by-all (Some _) ip all = λ seen h. all seen
