-- A state is sound exactly if the data of each enclosing loop fit the facts of the analysis.
use Rattle.std.proofs.Common.{◌≡◌, ◌≤◌, ◌+◌, ℕ, Bool, true, false, List, Some, refl, ap, ◌∙◌, sym, subst, slice_get}
use Rattle.regex_meaning.specs.Text.{Direction}
use Rattle.regress_machine.specs.Machine.{LoopData, State}
use Rattle.regress_memo.specs.Liveness.{units_left_in_direction, IsSound}
use Rattle.regress_memo.specs.MemoKeys.{IsSoundState}
use Rattle.regress_memo.specs.declared.analysis_result.EnclosingLoop.{EnclosingLoop}
use Rattle.regress_memo.specs.declared.analysis_result.MemoAnalysis.{MemoAnalysis}
use Rattle.regress_memo.specs.declared.analysis_result.LoopProgressFact.TheVariants.{Inside, Moved}
use Rattle.regress_memo.specs.AnalysisAsPotentials.{insn_analysis_of, enclosing_loops_of, states_loop_fact, count_bound_of, analysis_as_liveness, insn_direction}
use Rattle.regress_memo.specs.ReachableThreadLoopStates.{direction_from_forward, IsAtMost, ThreadLoopStateFitsAnalysis}
use Rattle.regress_memo.proofs.LoopFactFlowLemmas.{holds-there, holds-in}

-- ---- Bounds on iterations

all-asked : (b : Bool) (up_to : ℕ) (d : Direction) (top : ℕ) (x : LoopData) → IsAtMost b up_to d top x → b ≡ true → x.iters ≤ up_to
all-asked true up_to d top x h e = h
all-asked false up_to d top x h e = cc

few-asked : (b : Bool) (up_to : ℕ) (d : Direction) (top : ℕ) (x : LoopData) → IsAtMost b up_to d top x → b ≡ false
    → x.iters + units_left_in_direction top d x.entry ≤ top + up_to
few-asked true up_to d top x h e = cc
few-asked false up_to d top x h e = h

at-most : (b : Bool) (up_to : ℕ) (d : Direction) (top : ℕ) (x : LoopData) → (b ≡ true → x.iters ≤ up_to)
    → (b ≡ false → x.iters + units_left_in_direction top d x.entry ≤ top + up_to) → IsAtMost b up_to d top x
at-most true up_to d top x all few = all refl
at-most false up_to d top x all few = few refl

-- ---- Rows of enclosing loops

module _ (t : MemoAnalysis) (top : ℕ) where
  abbrev pub AreSoundRows : (ip at : ℕ) → List LoopData → Direction → Type 0
  AreSoundRows ip at loops d = (k : ℕ) (row : EnclosingLoop) → slice_get (enclosing_loops_of t ip) k ≡ Some row
      → ThreadLoopStateFitsAnalysis t d top at (slice_get loops row.id) row

  module _ (s : State) (d : Direction) where
    loop-sound : AreSoundRows s.ip s.pos s.loops d → (l : ℕ) (x : LoopData) → states_loop_fact Inside l (enclosing_loops_of t s.ip) ≡ true
        → slice_get s.loops l ≡ Some x → IsSound (analysis_as_liveness t) top d s.pos s.ip l x
    loop-sound rows l x inside held =
        let found = holds-in Inside l (enclosing_loops_of t s.ip) inside in
        let here = rows found.k found.row found.there x (ap (λ i. slice_get s.loops i) found.is ∙ held) in
        let few = subst (λ i. IsAtMost (count_bound_of t i).counted (count_bound_of t i).up_to d top x) found.is here.few in
        record {
          passed = here.passed;
          moved = λ h.
              let other = holds-in Moved l (enclosing_loops_of t s.ip) h in
              (rows other.k other.row other.there x (ap (λ i. slice_get s.loops i) other.is ∙ held)).moved other.says_it;
          all = λ e. all-asked (count_bound_of t l).counted (count_bound_of t l).up_to d top x few e;
          few = λ e. few-asked (count_bound_of t l).counted (count_bound_of t l).up_to d top x few e;
        }

    state-sound : AreSoundRows s.ip s.pos s.loops d → s.pos ≤ top → IsSoundState (analysis_as_liveness t) top d s
    state-sound rows within = record { within = within; loops = λ l x inside held. loop-sound rows l x inside held }

    rows-sound : IsSoundState (analysis_as_liveness t) top d s → AreSoundRows s.ip s.pos s.loops d
    rows-sound sound k row there x held =
        let here = sound.loops row.id x (holds-there Inside row.id (enclosing_loops_of t s.ip) k row there refl refl) held in
        record {
          passed = here.passed;
          moved = λ e. here.moved (holds-there Moved row.id (enclosing_loops_of t s.ip) k row there refl e);
          few = at-most (count_bound_of t row.id).counted (count_bound_of t row.id).up_to d top x here.all here.few;
        }

  -- ---- States at an instruction and an offset

  module _ (ip at : ℕ) (loops : List LoopData) (forward : Bool) (is : forward ≡ (insn_analysis_of t ip).forward) (s : State) (same_ip : s.ip ≡ ip) (same_at : s.pos ≡ at) (same_loops : s.loops ≡ loops) where
    direction : direction_from_forward forward ≡ insn_direction t ip
    direction = ap (λ b. direction_from_forward b) is

    pub sound-all : at ≤ top → AreSoundRows ip at loops (direction_from_forward forward) → IsSoundState (analysis_as_liveness t) top (insn_direction t ip) s
    sound-all within rows =
        state-sound s (insn_direction t ip)
        (subst (λ i. AreSoundRows i s.pos s.loops (insn_direction t ip)) (sym same_ip)
        (subst (λ p. AreSoundRows ip p s.loops (insn_direction t ip)) (sym same_at)
        (subst (λ ls. AreSoundRows ip at ls (insn_direction t ip)) (sym same_loops) (subst (λ d. AreSoundRows ip at loops d) direction rows))))
        (subst (λ p. p ≤ top) (sym same_at) within)

    pub sound-within : IsSoundState (analysis_as_liveness t) top (insn_direction t ip) s → at ≤ top
    sound-within sound = subst (λ p. p ≤ top) same_at sound.within

    pub sound-rows : IsSoundState (analysis_as_liveness t) top (insn_direction t ip) s → AreSoundRows ip at loops (direction_from_forward forward)
    sound-rows sound =
        subst (λ d. AreSoundRows ip at loops d) (sym direction)
        (subst (λ ls. AreSoundRows ip at ls (insn_direction t ip)) same_loops
        (subst (λ p. AreSoundRows ip p s.loops (insn_direction t ip)) same_at
        (subst (λ i. AreSoundRows i s.pos s.loops (insn_direction t ip)) same_ip (rows-sound s (insn_direction t ip) sound))))

    -- In a sound state, the loop data of each given row fits the facts of the analysis.
    pub sound-row-there : (rows : List EnclosingLoop) → rows ≡ enclosing_loops_of t ip → IsSoundState (analysis_as_liveness t) top (insn_direction t ip) s → (k : ℕ) (row : EnclosingLoop)
        → slice_get rows k ≡ Some row → ThreadLoopStateFitsAnalysis t (direction_from_forward forward) top at (slice_get loops row.id) row
    sound-row-there rows same sound k row there = sound-rows sound k row (ap (λ xs. slice_get xs k) (sym same) ∙ there)
