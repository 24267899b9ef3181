-- What continues after a lookaround whose contents have no groups and are not searched. The state
-- before the contents agrees with it.
use Rattle.std.specs.Prelude.{◌≡◌, ◌≤◌, ℕ, ◌+◌, Bool, true, false, List, [], ◌∷◌, Option, Some, None, slice_get}
use Rattle.regex_meaning.specs.Text.{Text, Direction, rightwards, leftwards}
use Rattle.regex_meaning.specs.CodeUnitOffsets.{units}
use Rattle.regex_meaning.specs.CompilationRelation.{Program, Insn, Lookahead, Lookbehind}
use Rattle.regress_machine.specs.Machine.{State, Thread, running, goes, scans, ends, Found, state_with_ip, state_at_next_ip, act, search}
use Rattle.regress_machine.specs.ThreadSimulation.{Simulates}
use Rattle.regress_memo.specs.ThreadBisimulation.{AlikeThreads, IsBisimulation}
use Rattle.regress_memo.specs.Liveness.{Liveness, World, Agree, IsLivenessFor}
use Rattle.regress_memo.specs.GroupPreservingInsns.{AreGroupPreserving}
use Rattle.regress_memo.specs.DistinctLists.{IsIn}
use Rattle.regress_memo.specs.MemoSearch.{FindEnd}
use Rattle.regress_memo.specs.ThreadPotentials.{Shape, has_shape}
use Rattle.regress_memo.specs.LoopDataKeyCodes.{Question, is_empty, how_many, plan_code}

-- A lookaround: the direction in which its contents are searched, whether it is negative, and the
-- instruction at which it continues.
pub record LookaroundInsn : Type 0 where
  pub inner : Direction
  pub negate : Bool
  pub continuation : ℕ

-- The lookaround of an instruction. `None` for other instructions.
abbrev pub lookaround_at : Option Insn → Option LookaroundInsn
lookaround_at (Some (Lookahead negate start_group end_group continuation)) =
    Some (record { inner = rightwards; negate = negate; continuation = continuation })
lookaround_at (Some (Lookbehind negate start_group end_group continuation)) =
    Some (record { inner = leftwards; negate = negate; continuation = continuation })
lookaround_at _ = None

module _ (program : Program) (text : Text) (a : Liveness) where
  -- The contents were not searched, so the machine's next state is not available. An available
  -- state agrees with it.
  pub record AgreesWithStateAfterLookaround (w : World) (d : Direction) (at_hand s : State) : Type 0 where
    pub behind : State
    pub agrees : Agree a (units text) w d at_hand behind
    pub simulates : Simulates program text false d 1 (running behind ∷ []) (running s ∷ [])

  -- `AgreesWithStateAfterLookaround` holds for a positive lookaround without groups whose contents are known to find an
  -- end.
  abbrev pub SuccessGoesOn : Type 0
  SuccessGoesOn = IsLivenessFor program text a → (silent : ℕ → Bool) → AreGroupPreserving silent program
      → (w : World) (d : Direction) (s : State) (look : LookaroundInsn)
      → lookaround_at (slice_get program.insns s.ip) ≡ Some look
      → look.negate ≡ false → silent (s.ip + 1) ≡ true → Agree a (units text) w d s s
      → FindEnd program text look.inner (running (state_at_next_ip s) ∷ [])
      → (turns : ℕ) (vs : List Thread) (f : Found) → search program text turns d (running s ∷ vs) ≡ Some f
      → AgreesWithStateAfterLookaround w d (state_with_ip look.continuation s) s

  -- A step from the available state leaves threads that agree with those of the machine. So an end
  -- has the same offset and, if groups are live, the same groups.
  pub record TurnsAtHand (w : World) (d : Direction) (s t : State) : Type 0 where
    pub goes : (ts : List Thread) → act program text d s ≡ goes ts
        → (us : List Thread) × (act program text d t ≡ goes us) × AlikeThreads (Agree a (units text) w d) ts us
    pub scans : (n : ℕ) (ts : List Thread) → act program text d s ≡ scans n ts
        → (us : List Thread) × (act program text d t ≡ scans n us) × AlikeThreads (Agree a (units text) w d) ts us
    pub ends : (e : State) → act program text d s ≡ ends e
        → (f : State) × (act program text d t ≡ ends f) × (e.pos ≡ f.pos) × (a.groups ≡ true → e.groups ≡ f.groups)

-- The questions are only about live data of enclosing loops.
module _ (questions : ℕ → List Question) (a : Liveness) where
  -- The questions of an instruction are only about live data.
  pub record AsksOnlyAt (ip : ℕ) : Type 0 where
    pub empty : (l : ℕ) → IsIn (is_empty l) (questions ip) → (a.inside ip l ≡ true) × (a.empty ip l ≡ true)
    pub count : (l most : ℕ) → IsIn (how_many l most) (questions ip) → (a.inside ip l ≡ true) × (most ≤ a.up_to l)

  -- The questions of all instructions are only about live data.
  pub record AsksOnly : Type 0 where
    pub only : (ip : ℕ) → AsksOnlyAt ip

-- ---- Laws

-- The available threads have to agree with the machine's threads, no more. They agree after all
-- steps, and they have the same keys.
pub record ThreadsStayEquivalent : Type 0 where
  pub behind : (program : Program) (text : Text) (a : Liveness) → SuccessGoesOn program text a
  pub turns : (program : Program) (text : Text) (a : Liveness) → IsLivenessFor program text a
      → IsBisimulation (λ (w : World) (d : Direction). Agree a (units text) w d) program text
  pub turned : (program : Program) (text : Text) (a : Liveness) → IsLivenessFor program text a
      → (w : World) (d : Direction) (s t : State) → Agree a (units text) w d s t → TurnsAtHand program text a w d s t
  pub keys : (program : Program) (text : Text) (a : Liveness) (questions : ℕ → List Question) → AsksOnly questions a
      → (w : World) (d : Direction) (xs : List Shape) (ts us : List Thread)
      → AlikeThreads (Agree a (units text) w d) ts us
      → has_shape program (plan_code questions) xs ts ≡ has_shape program (plan_code questions) xs us
