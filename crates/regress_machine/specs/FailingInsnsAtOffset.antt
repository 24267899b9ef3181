-- Instructions from which a search finds nothing at an offset. The text to the right of the offset
-- decides this.
use Rattle.std.specs.Prelude.{◌≡◌, ℕ, ◌+◌, Bool, true, false, ◌&&◌, ◌||◌, ◌==◌, Option, Some, None, nat_lt, slice_get, encode_utf8_all}
use Rattle.regex_meaning.specs.Tree.{start_of_line, end_of_line}
use Rattle.regex_meaning.specs.Text.{Text, rightwards, next_character}
use Rattle.regex_meaning.specs.CodeUnitOffsets.{HasRisingPlaceOffsets, place_at}
use Rattle.regex_meaning.specs.Outcomes.{is_some_and, exclusive_or, anchor_holds, is_at_word_boundary}
use Rattle.regex_meaning.specs.CompilationRelation.{Program, Insn, Goal, Char, CharSet, ByteSet, ByteSeq, AsciiBracket, Bracket, MatchAny, MatchAnyExceptLineTerminator, StartOfLine, EndOfLine}
use Rattle.regex_meaning.specs.CompilationRelation.{WordBoundary, WordBoundaryUnicodeICase, Alt, Jump, Lookahead, Lookbehind}
use Rattle.regex_meaning.specs.CompilationRelation.{EnterLoop, LoopAgain, ResetCaptureGroup, Loop1CharBody, BeginCaptureGroup, EndCaptureGroup, BackRef}
use Rattle.regress_machine.specs.Machine.{State, running, test_of, occurs_beside_offset}
use Rattle.regress_machine.specs.ThreadSimulation.{FindsNothing}

module _ (text : Text) (at : ℕ) where
  -- Whether the offset is a boundary whose place satisfies the condition.
  abbrev pub holds_there : (ℕ → Bool) → Bool
  holds_there holds = is_some_and (place_at text at) holds

  -- Whether a character that passes the test begins at the offset.
  abbrev pub accepts_char_at_offset : Option (ℕ → Bool) → Bool
  accepts_char_at_offset None = false
  accepts_char_at_offset (Some test) = holds_there (λ p. is_some_and (next_character text rightwards p) test)

module _ (program : Program) (text : Text) (at : ℕ) (may : ℕ → Bool) where
  -- Whether a loop may find something at its start, after an iteration.
  abbrev pub may_repeat : Option Insn → (begin : ℕ) → Bool
  may_repeat (Some (EnterLoop f)) begin = may (begin + 1) || may f.exit
  may_repeat _ begin = false

  -- Whether an instruction may find something at the offset, given by `may` for its successors at
  -- that offset.
  abbrev pub insn_may_find : Option Insn → (ip : ℕ) → Bool
  insn_may_find (Some Goal) ip = true
  insn_may_find (Some (Char c)) ip = accepts_char_at_offset text at (test_of program (Some (Char c)))
  insn_may_find (Some (CharSet members)) ip = accepts_char_at_offset text at (test_of program (Some (CharSet members)))
  insn_may_find (Some (ByteSet members)) ip = accepts_char_at_offset text at (test_of program (Some (ByteSet members)))
  insn_may_find (Some (ByteSeq bytes)) ip = occurs_beside_offset (encode_utf8_all text.characters) rightwards bytes at
  insn_may_find (Some (AsciiBracket members)) ip =
      accepts_char_at_offset text at (test_of program (Some (AsciiBracket members)))
  insn_may_find (Some (Bracket index)) ip = accepts_char_at_offset text at (test_of program (Some (Bracket index)))
  insn_may_find (Some MatchAny) ip = accepts_char_at_offset text at (test_of program (Some MatchAny))
  insn_may_find (Some MatchAnyExceptLineTerminator) ip =
      accepts_char_at_offset text at (test_of program (Some MatchAnyExceptLineTerminator))
  insn_may_find (Some (StartOfLine multiline)) ip =
      holds_there text at (anchor_holds text start_of_line multiline) && may (ip + 1)
  insn_may_find (Some (EndOfLine multiline)) ip =
      holds_there text at (anchor_holds text end_of_line multiline) && may (ip + 1)
  insn_may_find (Some (WordBoundary invert)) ip =
      holds_there text at (λ p. exclusive_or invert (is_at_word_boundary text false p)) && may (ip + 1)
  insn_may_find (Some (WordBoundaryUnicodeICase invert)) ip =
      holds_there text at (λ p. exclusive_or invert (is_at_word_boundary text true p)) && may (ip + 1)
  insn_may_find (Some (Alt secondary)) ip = may (ip + 1) || may secondary
  insn_may_find (Some (Jump target)) ip = may target
  insn_may_find (Some (EnterLoop f)) ip = may (ip + 1) || f.min_iters == 0 && may f.exit
  insn_may_find (Some (LoopAgain begin)) ip = may_repeat (slice_get program.insns begin) begin
  insn_may_find (Some (ResetCaptureGroup id)) ip = may (ip + 1)
  insn_may_find (Some (Loop1CharBody min_iters max_iters greedy)) ip =
      nat_lt 0 max_iters && accepts_char_at_offset text at (test_of program (slice_get program.insns (ip + 1)))
      || min_iters == 0 && may (ip + 2)
  insn_may_find (Some (BeginCaptureGroup id)) ip = may (ip + 1)
  insn_may_find (Some (EndCaptureGroup id)) ip = may (ip + 1)
  insn_may_find (Some (BackRef group sameness)) ip = true
  insn_may_find (Some (Lookahead negate start_group end_group continuation)) ip =
      may continuation && (negate || may (ip + 1))
  insn_may_find (Some (Lookbehind negate start_group end_group continuation)) ip = may continuation
  insn_may_find _ ip = false

-- `may` is closed: each instruction that `may` excludes at the offset is also excluded by
-- `insn_may_find`.
pub record IsClosedSetOfInsnsThatMayFind (program : Program) (text : Text) (at : ℕ) (may : ℕ → Bool) : Type 0 where
  pub closed : (ip : ℕ) → may ip ≡ false → insn_may_find program text at may (slice_get program.insns ip) ip ≡ false

-- A state whose instruction is excluded at its offset finds nothing, whatever its groups and loops.
abbrev pub InsnsExcludedAtOffsetFindNothing : Type 0
InsnsExcludedAtOffsetFindNothing = (program : Program) (text : Text) → HasRisingPlaceOffsets text
    → (may : ℕ → Bool) (s : State)
    → IsClosedSetOfInsnsThatMayFind program text s.pos may → may s.ip ≡ false
    → FindsNothing program text rightwards (running s)
