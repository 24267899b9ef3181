-- Silent instructions: neither they nor the instructions after them change groups. Example: the
-- contents of a lookaround without groups.
use Rattle.std.specs.Prelude.{◌≡◌, ℕ, ◌+◌, Bool, true, [], ◌∷◌, length, Option, Some, None, slice_get}
use Rattle.regex_meaning.specs.Text.{Text, Direction}
use Rattle.regex_meaning.specs.CompilationRelation.{Program, Insn, Goal, JustFail, Alt, Jump, EnterLoop, LoopAgain, ResetCaptureGroup, Loop1CharBody, BeginCaptureGroup, EndCaptureGroup, Lookahead}
use Rattle.regex_meaning.specs.CompilationRelation.{Lookbehind}
use Rattle.regress_machine.specs.Machine.{State, running, Found, search}

module _ (silent : ℕ → Bool) where
  -- If the instruction is a loop head, the loop's body and its exit are silent.
  abbrev pub IsSilentAgain : Option Insn → (begin : ℕ) → Type 0
  IsSilentAgain (Some (EnterLoop f)) begin = (silent (begin + 1) ≡ true) × (silent f.exit ≡ true)
  IsSilentAgain _ begin = Unit {0}

  -- A silent instruction does not change groups, and its successors are silent.
  abbrev pub IsSilentAt : Program → Option Insn → (ip : ℕ) → Type 0
  IsSilentAt program None ip = Unit {0}
  IsSilentAt program (Some Goal) ip = Unit {0}
  IsSilentAt program (Some JustFail) ip = Unit {0}
  IsSilentAt program (Some (Alt secondary)) ip = (silent (ip + 1) ≡ true) × (silent secondary ≡ true)
  IsSilentAt program (Some (Jump target)) ip = silent target ≡ true
  IsSilentAt program (Some (EnterLoop f)) ip = (silent (ip + 1) ≡ true) × (silent f.exit ≡ true)
  IsSilentAt program (Some (LoopAgain begin)) ip = IsSilentAgain (slice_get program.insns begin) begin
  IsSilentAt program (Some (ResetCaptureGroup id)) ip = ⊥
  IsSilentAt program (Some (BeginCaptureGroup id)) ip = ⊥
  IsSilentAt program (Some (EndCaptureGroup id)) ip = ⊥
  IsSilentAt program (Some (Loop1CharBody least most greedy)) ip = silent (ip + 2) ≡ true
  IsSilentAt program (Some (Lookahead negate start_group end_group continuation)) ip = (silent (ip + 1) ≡ true)
      × (silent continuation ≡ true)
  IsSilentAt program (Some (Lookbehind negate start_group end_group continuation)) ip = (silent (ip + 1) ≡ true)
      × (silent continuation ≡ true)
  IsSilentAt program (Some x) ip = silent (ip + 1) ≡ true

  -- Each instruction that is marked as silent does not change groups, and its successors are marked
  -- too.
  pub record AreGroupPreserving (program : Program) : Type 0 where
    pub silent_at : (ip : ℕ) → silent ip ≡ true → IsSilentAt program (slice_get program.insns ip) ip

-- The states have equal groups, equal starts of groups, and the same number of loops.
pub record SameGroups (s t : State) : Type 0 where
  pub groups : s.groups ≡ t.groups
  pub starts : s.starts ≡ t.starts
  pub loops : length s.loops ≡ length t.loops

-- ---- Laws

-- A search from a silent instruction ends with the groups with which it began.
abbrev pub InsnsKeepGroupsToEnd : Type 0
InsnsKeepGroupsToEnd = (program : Program) (text : Text) (silent : ℕ → Bool) → AreGroupPreserving silent program
    → (d : Direction) (turns : ℕ) (u e : State) (f : Found) → silent u.ip ≡ true
    → search program text turns d (running u ∷ []) ≡ Some f → f.end ≡ Some e → SameGroups e u
