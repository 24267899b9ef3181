-- Loops whose body reads nothing.
use Rattle.std.specs.Prelude.{◌≡◌, ◌<◌, ◌≤◌, ◌⊎◌, ℕ, ◌+◌, ◌-◌, Bool, true, false, [], ◌∷◌, Some, slice_get}
use Rattle.regex_meaning.specs.Text.{Text, Direction}
use Rattle.regex_meaning.specs.CompilationRelation.{Program, LoopFields, Insn, Jump, Alt, EnterLoop, LoopAgain, ResetCaptureGroup, BeginCaptureGroup, EndCaptureGroup}
use Rattle.regress_machine.specs.Machine.{State, running}
use Rattle.regress_machine.specs.InsnEffects.{body_entered_with_iteration_count}
use Rattle.regress_machine.specs.ThreadSimulation.{Simulates}

-- The instruction is a jump to a later instruction, at most to `stop`.
abbrev pub IsForwardJumpWithin : (stop ip : ℕ) → Insn → Type 0
IsForwardJumpWithin stop ip insn = (to : ℕ) × (insn ≡ Jump to) × (ip < to) × (to ≤ stop)

-- If `forks`, the instruction is an alternation whose secondary arm is later, at most at `stop`;
-- otherwise it resets, begins or ends a group.
abbrev pub ForksOrChanges : (forks : Bool) → (stop ip : ℕ) → Insn → Type 0
ForksOrChanges true stop ip insn = (other : ℕ) × (insn ≡ Alt other) × (ip < other) × (other ≤ stop)
ForksOrChanges false stop ip insn = (id : ℕ) × ((insn ≡ ResetCaptureGroup id)
    ⊎ ((insn ≡ BeginCaptureGroup id) ⊎ (insn ≡ EndCaptureGroup id)))

-- The instruction reads nothing and leads onward, so a thread at it keeps its position in the text.
abbrev pub ReadsNothingAndLeadsOnward : (forks : Bool) → (stop ip : ℕ) → Insn → Type 0
ReadsNothingAndLeadsOnward forks stop ip insn = IsForwardJumpWithin stop ip insn ⊎ ForksOrChanges forks stop ip insn

-- A thread from instruction `from` reaches `stop` without reading anything. On the way there is no
-- alternation, or no group is changed.
abbrev pub ReadsNothingUntil : (forks : Bool) → Program → (from stop : ℕ) → Type 0
ReadsNothingUntil forks program from stop =
    (ip : ℕ) → from ≤ ip → ip < stop → (insn : Insn) → slice_get program.insns ip ≡ Some insn
    → ReadsNothingAndLeadsOnward forks stop ip insn

-- The body of the loop that begins at `begin` reads nothing.
pub record LoopBodyReadsNothing (program : Program) (begin : ℕ) (f : LoopFields) : Type 0 where
  pub stop : ℕ
  pub behind : begin < stop
  pub enters : slice_get program.insns begin ≡ Some (EnterLoop f)
  pub goes_back : slice_get program.insns stop ≡ Some (LoopAgain begin)
  pub forks : Bool
  pub reads_nothing : ReadsNothingUntil forks program (begin + 1) stop

-- If the body of a loop reads nothing, its last required iteration may replace any other required
-- one.
abbrev pub LastRequiredEmptyIterationReplacesOthers : Type 0
LastRequiredEmptyIterationReplacesOthers = (program : Program) (text : Text) (d : Direction) (begin : ℕ)
    (f : LoopFields) → LoopBodyReadsNothing program begin f → f.min_iters ≤ f.max_iters
    → (k : ℕ) → k < f.min_iters → (s : State)
    → Simulates program text false d 0 (running (body_entered_with_iteration_count f.loop_id begin (f.min_iters - 1) s)
    ∷ []) (running (body_entered_with_iteration_count f.loop_id begin k s) ∷ [])
