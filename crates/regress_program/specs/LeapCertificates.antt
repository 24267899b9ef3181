-- Certificates of leaps: a set of instructions (`way`) from which every path leads to the goal.
use Rattle.std.specs.Prelude.{◌≡◌, ◌⊎◌, ℕ, ◌+◌, Bool, true, false, List, Option, Some, None, slice_get}
use Rattle.std.specs.List.{list_all}
use Rattle.regex_meaning.specs.CodeUnits.{Encoding, utf8, code_units_of_character}
use Rattle.regex_meaning.specs.CompilationRelation.{Program, LoopFields, Insn, Goal, JustFail, Char, CharSet, ByteSet, ByteSeq, AsciiBracket, Bracket, MatchAny, MatchAnyExceptLineTerminator, Alt}
use Rattle.regex_meaning.specs.CompilationRelation.{Jump, EnterLoop, LoopAgain, Loop1CharBody, BackRef, Lookahead, Lookbehind}
use Rattle.regress_machine.specs.Machine.{test_of}
use Rattle.regress_machine.specs.FirstSetTables.{is_character_in_encoding}
use Rattle.regress_program.specs.Leaps.{LeapToGoal}
use Rattle.regress_program.specs.PrefixesAndPrefilters.{PrefixAt}
use Rattle.regress_program.specs.TableKeysOfUnits.{key, is_16_bit_encoding}

module _ (e : Encoding) (key : ℕ → ℕ) (program : Program) (over way : ℕ → Bool) where
  -- The keys of all these units are in `over`.
  abbrev pub are_over : List ℕ → Bool
  are_over units = list_all (λ unit. over (key unit)) units

  -- If there is a test, the keys of the units of each character that it accepts are in `over`.
  abbrev pub AcceptsOnlyPassedUnits : Option (ℕ → Bool) → Type 0
  AcceptsOnlyPassedUnits None = Unit {0}
  AcceptsOnlyPassedUnits (Some test) = (c : ℕ) → is_character_in_encoding e c ≡ true → test c ≡ true
      → are_over (code_units_of_character e c) ≡ true

  -- An instruction that reads one character, and continues at the next one.
  pub record ReadsOver (insn : Insn) (ip : ℕ) : Type 0 where
    pub accepts : AcceptsOnlyPassedUnits (test_of program (Some insn))
    pub leads : way (ip + 1) ≡ true

  -- An instruction that reads a byte sequence, which occurs only in UTF-8.
  abbrev pub ReadsBytesOver : Encoding → List ℕ → (ip : ℕ) → Type 0
  ReadsBytesOver utf8 bytes ip = (are_over bytes ≡ true) × (way (ip + 1) ≡ true)
  ReadsBytesOver _ bytes ip = ⊥

  -- A loop over one character.
  pub record LoopsOver (ip : ℕ) : Type 0 where
    pub accepts : AcceptsOnlyPassedUnits (test_of program (slice_get program.insns (ip + 1)))
    pub leads : way (ip + 2) ≡ true

  -- The head of a loop leads to its body and, if the minimum is 0, to its exit.
  pub record EntersLoop (f : LoopFields) (ip : ℕ) : Type 0 where
    pub inside : way (ip + 1) ≡ true
    pub outside : f.min_iters ≡ 0 → way f.exit ≡ true

  -- The end of a loop's body leads to its body and its exit.
  abbrev pub RepeatsLoop : Option Insn → (begin : ℕ) → Type 0
  RepeatsLoop (Some (EnterLoop f)) begin = (way (begin + 1) ≡ true) × (way f.exit ≡ true)
  RepeatsLoop _ begin = Unit {0}

  -- A lookahead continues after it. The contents of a positive one may lead to the goal instead.
  abbrev pub LookaheadReachesGoal : (negate : Bool) (ip continuation : ℕ) → Type 0
  LookaheadReachesGoal negate ip continuation = (way continuation ≡ true) ⊎ ((negate ≡ false) × (way (ip + 1) ≡ true))

  -- The instruction leads only to members, and reads only units with keys in `over`. The
  -- instructions that are not listed continue at the next one.
  abbrev pub InsnReachesGoal : Option Insn → (ip : ℕ) → Type 0
  InsnReachesGoal None ip = Unit {0}
  InsnReachesGoal (Some Goal) ip = ⊥
  InsnReachesGoal (Some JustFail) ip = Unit {0}
  InsnReachesGoal (Some (Char c)) ip = ReadsOver (Char c) ip
  InsnReachesGoal (Some (CharSet members)) ip = ReadsOver (CharSet members) ip
  InsnReachesGoal (Some (ByteSet members)) ip = ReadsOver (ByteSet members) ip
  InsnReachesGoal (Some (ByteSeq bytes)) ip = ReadsBytesOver e bytes ip
  InsnReachesGoal (Some (AsciiBracket members)) ip = ReadsOver (AsciiBracket members) ip
  InsnReachesGoal (Some (Bracket index)) ip = ReadsOver (Bracket index) ip
  InsnReachesGoal (Some MatchAny) ip = ReadsOver MatchAny ip
  InsnReachesGoal (Some MatchAnyExceptLineTerminator) ip = ReadsOver MatchAnyExceptLineTerminator ip
  InsnReachesGoal (Some (Alt secondary)) ip = (way (ip + 1) ≡ true) × (way secondary ≡ true)
  InsnReachesGoal (Some (Jump target)) ip = way target ≡ true
  InsnReachesGoal (Some (EnterLoop f)) ip = EntersLoop f ip
  InsnReachesGoal (Some (LoopAgain begin)) ip = RepeatsLoop (slice_get program.insns begin) begin
  InsnReachesGoal (Some (Loop1CharBody min_iters max_iters greedy)) ip = LoopsOver ip
  InsnReachesGoal (Some (BackRef group sameness)) ip = ⊥
  InsnReachesGoal (Some (Lookahead negate start_group end_group continuation)) ip =
      LookaheadReachesGoal negate ip continuation
  InsnReachesGoal (Some (Lookbehind negate start_group end_group continuation)) ip = way continuation ≡ true
  InsnReachesGoal (Some _) ip = way (ip + 1) ≡ true

module _ (wide : Bool) (program : Program) (leap : LeapToGoal) (way : ℕ → Bool) where
  -- Each member must read the goal first, or leads only to members.
  abbrev pub MembersLeadToGoal : Type 0
  MembersLeadToGoal = (ip : ℕ) → way ip ≡ true
      → PrefixAt wide program ip 1 (λ ahead. leap.goal)
      ⊎ ((e : Encoding) → is_16_bit_encoding e ≡ wide
      → InsnReachesGoal e (key wide) program leap.over way (slice_get program.insns ip) ip)

  -- The instructions certify the leap.
  pub record CertifiesLeap : Type 0 where
    pub first : way 0 ≡ true
    pub lead : MembersLeadToGoal
