-- Successors of instructions.
use Rattle.std.specs.Prelude.{◌≡◌, ℕ, ◌+◌, Bool, true, false, List, Option, Some, None, length, map, nat_lt}
use Rattle.regex_meaning.specs.CompilationRelation.{Program, Insn, Goal, JustFail, Char, CharSet, ByteSet, ByteSeq, AsciiBracket, Bracket, MatchAny, MatchAnyExceptLineTerminator, Alt, Jump}
use Rattle.regex_meaning.specs.CompilationRelation.{EnterLoop, LoopAgain, ResetCaptureGroup, Loop1CharBody}
use Rattle.regex_meaning.specs.CompilationRelation.{BeginCaptureGroup, EndCaptureGroup, BackRef, Lookahead, Lookbehind}
use Rattle.regress_program.specs.InsnsAsSpec.{insn_as_spec_insn}
use Rattle.regress_program.specs.declared.instructions.Insn as declared
use Rattle.regress_memo.specs.declared.successors.Successors.{Successors}
use Rattle.regress_memo.specs.declared.successors.Successors.TheVariants.{Ends, One, Two, Enter, Again, Run, LookaroundSuccessor, Same}

-- The instructions of the program are these.
abbrev pub DeclaredInsnsEqualProgramInsns : Program → List declared.Insn → Type 0
DeclaredInsnsEqualProgramInsns program insns = program.insns ≡ map insn_as_spec_insn insns

-- The next instruction as the only successor.
abbrev pub fall_through : (ip : ℕ) → (reads silent : Bool) → Successors
fall_through ip reads silent = One (record { to = ip + 1; reads = reads; silent = silent })

-- The successors of an instruction. The instructions of the last case read nothing and continue at
-- the next one.
abbrev pub successors_of : (ip : ℕ) → Insn → Successors
successors_of ip Goal = Ends
successors_of ip JustFail = Ends
successors_of ip (Char c) = fall_through ip true true
successors_of ip (CharSet members) = fall_through ip true true
successors_of ip (ByteSet members) = fall_through ip true true
successors_of ip (ByteSeq bytes) = fall_through ip (nat_lt 0 (length bytes)) true
successors_of ip (AsciiBracket members) = fall_through ip true true
successors_of ip (Bracket index) = fall_through ip true true
successors_of ip MatchAny = fall_through ip true true
successors_of ip MatchAnyExceptLineTerminator = fall_through ip true true
successors_of ip (Alt secondary) = Two secondary
successors_of ip (Jump target) = One (record { to = target; reads = false; silent = true })
successors_of ip (EnterLoop f) =
    Enter (record {
      loop_id =
          f.loop_id;
      min_iters = f.min_iters;
      max_iters = f.max_iters;
      greedy = f.greedy;
      exit = f.exit;
    })
successors_of ip (LoopAgain begin) = Again begin
successors_of ip (ResetCaptureGroup id) = fall_through ip false false
successors_of ip (Loop1CharBody least most greedy) = Run (record { least = least; most = most; greedy = greedy })
successors_of ip (BeginCaptureGroup id) = fall_through ip false false
successors_of ip (EndCaptureGroup id) = fall_through ip false false
successors_of ip (BackRef group sameness) = Same
successors_of ip (Lookahead negate start_group end_group continuation) =
    LookaroundSuccessor (record { forward = true; negate = negate; past = continuation })
successors_of ip (Lookbehind negate start_group end_group continuation) =
    LookaroundSuccessor (record { forward = false; negate = negate; past = continuation })
successors_of ip _ = fall_through ip false true

-- Whether the instruction is the goal, which ends the search.
abbrev pub is_goal_insn : Insn → Bool
is_goal_insn Goal = true
is_goal_insn _ = false

-- Whether the instruction continues only at the next one: it reads no byte sequence and is no end,
-- jump, alternation or loop.
abbrev pub is_fall_through_insn : Insn → Bool
is_fall_through_insn Goal = false
is_fall_through_insn JustFail = false
is_fall_through_insn (ByteSeq bytes) = false
is_fall_through_insn (Alt secondary) = false
is_fall_through_insn (Jump target) = false
is_fall_through_insn (EnterLoop f) = false
is_fall_through_insn (LoopAgain begin) = false
is_fall_through_insn (Loop1CharBody least most greedy) = false
is_fall_through_insn _ = true

-- The successors of an instruction. None if the instruction does not exist.
abbrev pub successors_of_insn_if_any : (ip : ℕ) → Option Insn → Successors
successors_of_insn_if_any ip None = Ends
successors_of_insn_if_any ip (Some x) = successors_of ip x
