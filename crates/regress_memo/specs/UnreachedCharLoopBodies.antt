-- No thread reaches the body of a char loop, because the loop executes its body itself.
use Rattle.std.specs.Prelude.{◌≡◌, ℕ, ◌+◌, Bool, true, false, List, Option, Some, None, slice_get}
use Rattle.regex_meaning.specs.Laws.{Each}
use Rattle.regex_meaning.specs.Text.{Text, Direction}
use Rattle.regex_meaning.specs.CompilationRelation.{Program, Insn, EnterLoop}
use Rattle.regress_machine.specs.Machine.{State, Thread, goes, act}
use Rattle.regress_memo.specs.UnboundedCharLoopMemoKeys.{char_loop_greediness_at, insn_before}
use Rattle.regress_memo.specs.declared.analysis_result.MemoAnalysis.{MemoAnalysis}
use Rattle.regress_memo.specs.declared.successors.Successors.{Successors}
use Rattle.regress_memo.specs.declared.successors.Successors.TheVariants.{Ends, One, Two, Enter, Again, Run, LookaroundSuccessor, Same}
use Rattle.regress_memo.specs.Successors.{successors_of_insn_if_any}
use Rattle.regress_memo.specs.CheckedAnalysis.{IsAnalysisOf, ip_of}

-- Whether these are the successors of a char loop.
abbrev pub are_char_loop_successors : Successors → Bool
are_char_loop_successors (Run b) = true
are_char_loop_successors _ = false

module _ (program : Program) where
  -- The instruction before this one is not a char loop.
  abbrev pub IsNotLoopBody : (ip : ℕ) → Type 0
  IsNotLoopBody ip = char_loop_greediness_at (insn_before program ip) ≡ None

  -- ---- Successors

  -- If the instruction is a loop head, neither the start of the loop's body nor its exit is the
  -- body of a char loop.
  abbrev pub EntersPastBodies : Option Insn → (begin : ℕ) → Type 0
  EntersPastBodies (Some (EnterLoop f)) begin = IsNotLoopBody (begin + 1) × IsNotLoopBody f.exit
  EntersPastBodies _ begin = Unit {0}

  -- No successor of the instruction is the body of a char loop.
  abbrev pub FlowsPastBodies : Successors → (ip : ℕ) → Type 0
  FlowsPastBodies Ends ip = Unit {0}
  FlowsPastBodies (One n) ip = IsNotLoopBody n.to
  FlowsPastBodies (Two other) ip = IsNotLoopBody (ip + 1) × IsNotLoopBody other
  FlowsPastBodies (Enter f) ip = IsNotLoopBody (ip + 1) × IsNotLoopBody f.exit
  FlowsPastBodies (Again begin) ip = EntersPastBodies (slice_get program.insns begin) begin
  FlowsPastBodies (Run b) ip = IsNotLoopBody (ip + 2)
  FlowsPastBodies (LookaroundSuccessor l) ip = IsNotLoopBody (ip + 1) × IsNotLoopBody l.past
  FlowsPastBodies Same ip = Unit {0}

-- ---- Laws

-- If no instruction leads to the body of a char loop, then no step leaves a thread there.
abbrev pub CharLoopBodiesAreUnreached : Type 0
CharLoopBodiesAreUnreached = (program : Program) (t : MemoAnalysis) → IsAnalysisOf program t
    → ((ip : ℕ) → FlowsPastBodies program (successors_of_insn_if_any ip (slice_get program.insns ip)) ip)
    → (text : Text) (d : Direction) (s : State) (ts : List Thread)
    → act program text d s ≡ goes ts → Each (λ u. IsNotLoopBody program (ip_of u)) ts
