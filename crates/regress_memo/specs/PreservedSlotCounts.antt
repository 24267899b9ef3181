-- A step leaves states that have as many groups and loops as the program.
use Rattle.std.specs.Prelude.{◌≡◌, List}
use Rattle.regex_meaning.specs.Laws.{Each}
use Rattle.regex_meaning.specs.Text.{Text, Direction}
use Rattle.regex_meaning.specs.CompilationRelation.{Program}
use Rattle.regress_machine.specs.Machine.{State, Thread, running, waiting, goes, act}
use Rattle.regress_memo.specs.LoopDataKeyCodes.{HasSlotsOfProgram}

-- The state of a thread.
abbrev pub state_of_thread : Thread → State
state_of_thread (running s) = s
state_of_thread (waiting s) = s

-- ---- Laws

-- The states that a step leaves have as many groups and loops as the program.
abbrev pub StatesKeepSlots : Type 0
StatesKeepSlots = (program : Program) (text : Text) (d : Direction) (s : State) (ts : List Thread)
    → HasSlotsOfProgram program s → act program text d s ≡ goes ts
    → Each (λ u. HasSlotsOfProgram program (state_of_thread u)) ts
