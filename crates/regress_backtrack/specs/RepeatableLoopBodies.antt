-- Loop bodies for which it suffices to make one more required iteration than there are code units
-- left.
use Rattle.std.specs.Prelude.{◌≡◌, ◌<◌, ◌≤◌, ℕ, ◌+◌, ◌-◌, [], ◌∷◌, Some, Bool, true, false, slice_get}
use Rattle.regex_meaning.specs.Text.{Text, Direction}
use Rattle.regex_meaning.specs.CodeUnitOffsets.{HasRisingPlaceOffsets, units}
use Rattle.regex_meaning.specs.CompilationRelation.{Program, LoopFields, Insn, Goal, JustFail, Alt, Jump, EnterLoop, LoopAgain, ResetCaptureGroup, Loop1CharBody, BeginCaptureGroup, EndCaptureGroup}
use Rattle.regex_meaning.specs.CompilationRelation.{BackRef, Lookahead, Lookbehind}
use Rattle.regress_machine.specs.Machine.{State, running}
use Rattle.regress_machine.specs.InsnEffects.{body_entered_with_iteration_count}
use Rattle.regress_machine.specs.ThreadSimulation.{Simulates}
use Rattle.regress_memo.specs.Liveness.{units_left_in_direction, ReadsAsBytes}

-- If the instruction is a lookaround, it continues at instruction `to` or earlier.
abbrev pub LookaroundInsnContinuesBy : (to : ℕ) → Insn → Type 0
LookaroundInsnContinuesBy to (Lookahead negate start_group end_group continuation) = continuation ≤ to
LookaroundInsnContinuesBy to (Lookbehind negate start_group end_group continuation) = continuation ≤ to
LookaroundInsnContinuesBy to _ = Unit {0}

-- Each lookaround between the instructions `from` and `to` continues at `to` or earlier.
abbrev pub LookaroundsEndBy : Program → (from to : ℕ) → Type 0
LookaroundsEndBy program from to =
    (ip : ℕ) → from ≤ ip → ip < to → (insn : Insn) → slice_get program.insns ip ≡ Some insn
    → LookaroundInsnContinuesBy to insn

-- A thread may continue from instruction `ip` at `to`. `to` is later, at most `stop`, and not
-- inside a lookaround that begins between them.
pub record MayContinue (program : Program) (stop ip to : ℕ) : Type 0 where
  pub later : ip < to
  pub within : to ≤ stop
  pub whole : LookaroundsEndBy program ip to

module _ (changes : Bool) (program : Program) where
  -- The instruction continues at later instructions, up to `stop`. It changes no data of loops, and
  -- it changes groups only if that is allowed.
  abbrev pub StaysInBody : (stop ip : ℕ) → Insn → Type 0
  StaysInBody stop ip Goal = Unit {0}
  StaysInBody stop ip JustFail = Unit {0}
  StaysInBody stop ip (Alt other) = MayContinue program stop ip (ip + 1) × MayContinue program stop ip other
  StaysInBody stop ip (Jump to) = MayContinue program stop ip to
  StaysInBody stop ip (Loop1CharBody least most greedy) = MayContinue program stop ip (ip + 2)
  StaysInBody stop ip (Lookahead negate start_group end_group continuation) = MayContinue program stop ip continuation
  StaysInBody stop ip (Lookbehind negate start_group end_group continuation) = MayContinue program stop ip continuation
  StaysInBody stop ip (ResetCaptureGroup id) = (changes ≡ true) × MayContinue program stop ip (ip + 1)
  StaysInBody stop ip (BeginCaptureGroup id) = (changes ≡ true) × MayContinue program stop ip (ip + 1)
  StaysInBody stop ip (EndCaptureGroup id) = (changes ≡ true) × MayContinue program stop ip (ip + 1)
  StaysInBody stop ip (EnterLoop f) = ⊥
  StaysInBody stop ip (LoopAgain begin) = ⊥
  StaysInBody stop ip (BackRef group same) = ⊥
  StaysInBody stop ip _ = MayContinue program stop ip (ip + 1)

  -- Each instruction in `from..past` continues before `past`.
  abbrev pub AllStayInContents : (from past : ℕ) → Type 0
  AllStayInContents from past =
      (ip : ℕ) → from ≤ ip → ip < past → (insn : Insn) → slice_get program.insns ip ≡ Some insn
      → StaysInBody (past - 1) ip insn

  -- The contents of a lookaround are not empty and do not continue after it. `Goal` occurs only in
  -- the contents of a lookaround at instruction `from` or later.
  abbrev pub LookaroundContentsStayInside : (from ip : ℕ) → Insn → Type 0
  LookaroundContentsStayInside from ip Goal = LookaroundsEndBy program from ip → ⊥
  LookaroundContentsStayInside from ip (Lookahead negate start_group end_group continuation) = (ip + 1 < continuation)
      × AllStayInContents (ip + 1) continuation
  LookaroundContentsStayInside from ip (Lookbehind negate start_group end_group continuation) = (ip + 1 < continuation)
      × AllStayInContents (ip + 1) continuation
  LookaroundContentsStayInside from ip _ = Unit {0}

  -- Each instruction in `from..stop` satisfies `StaysInBody` and `LookaroundContentsStayInside`.
  abbrev pub IsClosedForwardBody : (from stop : ℕ) → Type 0
  IsClosedForwardBody from stop =
      (ip : ℕ) → from ≤ ip → ip < stop → (insn : Insn) → slice_get program.insns ip ≡ Some insn
      → StaysInBody stop ip insn × LookaroundContentsStayInside from ip insn

-- The instruction is not a backreference.
abbrev pub IsNoBackreference : Insn → Type 0
IsNoBackreference (BackRef group same) = ⊥
IsNoBackreference _ = Unit {0}

-- The program has no backreference.
abbrev pub HasNoBackreference : Program → Type 0
HasNoBackreference program = (ip : ℕ) (insn : Insn) → slice_get program.insns ip ≡ Some insn → IsNoBackreference insn

-- The body `from..stop` has no backreferences and no counted loops. It changes groups only if the
-- program has no backreference.
pub record IsRepeatableBody (program : Program) (from stop : ℕ) : Type 0 where
  pub changes : Bool
  pub plain : IsClosedForwardBody changes program from stop
  pub unread : changes ≡ true → HasNoBackreference program

-- The loop at `begin` has a repeatable body.
pub record HasRepeatableBody (program : Program) (begin : ℕ) (f : LoopFields) : Type 0 where
  pub stop : ℕ
  pub behind : begin < stop
  pub enters : slice_get program.insns begin ≡ Some (EnterLoop f)
  pub goes_back : slice_get program.insns stop ≡ Some (LoopAgain begin)
  pub body : IsRepeatableBody program (begin + 1) stop

-- The loop may begin iteration `to` instead of an earlier one, if it requires more iterations from
-- `to` on than there are code units left. One of that many iterations is empty, and what follows an
-- empty iteration does not depend on its number.
abbrev pub LaterIterationReplacesSurplus : Type 0
LaterIterationReplacesSurplus = (program : Program) (text : Text) → HasRisingPlaceOffsets text
    → ReadsAsBytes program text → (d : Direction) (begin : ℕ) (f : LoopFields) → HasRepeatableBody program begin f
    → f.min_iters ≤ f.max_iters → (k to : ℕ) (s : State) → k ≤ to
    → to + units_left_in_direction (units text) d s.pos + 2 ≤ f.min_iters
    → Simulates program text false d 0 (running (body_entered_with_iteration_count f.loop_id begin to s) ∷ [])
    (running (body_entered_with_iteration_count f.loop_id begin k s) ∷ [])
