-- A step leaves threads at instructions that are searched in the same direction.
use Rattle.std.proofs.Common.{◌≡◌, ◌≤◌, ℕ, ◌+◌, Bool, true, false, List, [], ◌∷◌, Option, Some, refl, ap, ◌∙◌, arith, slice_get, if◌then◌else◌}
use Rattle.std.specs.List.{sum_by}
use Rattle.std.proofs.lemmas.List.Sums.{sum_by-cons}
use Rattle.regex_meaning.specs.Laws.{Each}
use Rattle.regex_meaning.specs.Text.{Direction, rightwards, leftwards}
use Rattle.regex_meaning.specs.CompilationRelation.{Program, Insn, EnterLoop}
use Rattle.regress_machine.specs.Machine.{Thread, running, waiting}
use Rattle.regress_memo.specs.ThreadPotentials.{Potentials, potential_of, CoversOne, CoversTwo, CoversRepeat, AreCovering, is_same_direction}
use Rattle.regress_memo.proofs.ThreadPotentialLemmas.{turns-weighed}
use Rattle.regress_memo.specs.declared.analysis_result.MemoAnalysis.{MemoAnalysis}
use Rattle.regress_memo.specs.declared.successors.Successors.{Successors}
use Rattle.regress_memo.specs.declared.successors.Successors.TheVariants.{Ends, One, Two, Enter, Again, Run, LookaroundSuccessor, Same}
use Rattle.regress_memo.specs.AnalysisAsPotentials.{insn_direction}
use Rattle.regress_memo.specs.Successors.{successors_of_insn_if_any}
use Rattle.regress_memo.specs.AnalysisChecks.{MayRepeatLoopAt, IsConsistentAt}
use Rattle.regress_memo.specs.CheckedAnalysis.{IsAnalysisOf, ip_of, DirectionsAreKept}
use Rattle.regress_memo.proofs.AnalysisCheckLemmas.{EnoughBy, has-enough}

same-way : (v d : Direction) → is_same_direction v d ≡ true → v ≡ d
same-way rightwards rightwards e = refl
same-way rightwards leftwards e = cc
same-way leftwards rightwards e = cc
same-way leftwards leftwards e = refl

is-same : (d : Direction) → is_same_direction d d ≡ true
is-same rightwards = refl
is-same leftwards = refl

-- `heavy` is zero for the direction of the search, and two for the other one.
abbrev heavy : Direction → Direction → ℕ
heavy d v = if is_same_direction v d then 0 else 2

abbrev room : Direction → Direction → ℕ
room d v = if is_same_direction v d then 1 else 5

abbrev ways-weigh : MemoAnalysis → Direction → Potentials
ways-weigh t d = record { at = λ ip. heavy d (insn_direction t ip); left = λ ip. room d (insn_direction t ip) }

room-for : (b : Bool) → (if b then 0 else 2) + (if b then 0 else 2) + 1 ≤ (if b then 1 else 5)
room-for true = omega arith
room-for false = omega arith

module _ (t : MemoAnalysis) (d : Direction) (program : Program) where
  one : (ip next : ℕ) → insn_direction t next ≡ insn_direction t ip → CoversOne (ways-weigh t d) ip next
  one ip next e =
      let same : heavy d (insn_direction t next) ≡ heavy d (insn_direction t ip) = ap (λ v. heavy d v) e in
      let fits = room-for (is_same_direction (insn_direction t ip) d) in
      omega (arith, same, fits)

  two : (ip next other : ℕ) → insn_direction t next ≡ insn_direction t ip → insn_direction t other ≡ insn_direction t ip → CoversTwo (ways-weigh t d) ip next other
  two ip next other e f =
      let same : heavy d (insn_direction t next) ≡ heavy d (insn_direction t ip) = ap (λ v. heavy d v) e in
      let same_other : heavy d (insn_direction t other) ≡ heavy d (insn_direction t ip) = ap (λ v. heavy d v) f in
      let fits = room-for (is_same_direction (insn_direction t ip) d) in
      omega (arith, same, same_other, fits)

  repeated : (x : Option Insn) (ip begin : ℕ) → MayRepeatLoopAt t x ip begin → CoversRepeat (ways-weigh t d) x ip begin
  repeated (Some (EnterLoop f)) ip begin h = two ip (begin + 1) f.exit h.begins.again.way h.begins.leave.way
  repeated _ ip begin h = tt

  enough-by : (s : Successors) (ip : ℕ) → IsConsistentAt t program s ip → EnoughBy (ways-weigh t d) program s ip
  enough-by Ends ip h = tt
  enough-by (One n) ip h = one ip n.to h.0.way
  enough-by (Two other) ip h = two ip (ip + 1) other h.0.way h.1.way
  enough-by (Enter f) ip h = two ip (ip + 1) f.exit h.again.way h.leave.way
  enough-by (Again begin) ip h = repeated (slice_get program.insns begin) ip begin h
  enough-by (Run b) ip h = tt
  enough-by (LookaroundSuccessor l) ip h = one ip l.past h.on.way
  enough-by Same ip h = absurd h

  all-enough : IsAnalysisOf program t → AreCovering (ways-weigh t d) program
  all-enough of = record {
    enough = λ ip.
        has-enough (ways-weigh t d) program (slice_get program.insns ip) ip (enough-by (successors_of_insn_if_any ip (slice_get program.insns ip)) ip (of.steps ip));
  }

  light-way : (v : Direction) → heavy d v ≤ 1 → (b : Bool) → is_same_direction v d ≡ b → v ≡ d
  light-way v le true e = same-way v d e
  light-way v le false e =
      let two_is : heavy d v ≡ 2 = ap (λ b. if b then 0 else 2) e in
      absurd (omega (arith, le, two_is))

  light : (ts : List Thread) → sum_by (potential_of (ways-weigh t d)) ts ≤ 1 → Each (λ u. insn_direction t (ip_of u) ≡ d) ts
  light [] le = tt
  light (running s ∷ ts) le =
      let sum = sum_by-cons (potential_of (ways-weigh t d)) (running s) ts in
      (light-way (insn_direction t s.ip) (omega (arith, le, sum)) (is_same_direction (insn_direction t s.ip) d) refl, light ts (omega (arith, le, sum)))
  light (waiting s ∷ ts) le =
      let sum = sum_by-cons (potential_of (ways-weigh t d)) (waiting s) ts in
      (light-way (insn_direction t s.ip) (omega (arith, le, sum)) (is_same_direction (insn_direction t s.ip) d) refl, light ts (omega (arith, le, sum)))

pub ways-stay : DirectionsAreKept
ways-stay program t of text d s ts way turn =
    let weighed = turns-weighed.weighed program text (ways-weigh t d) (all-enough t d program of) d s ts turn in
    let here : room d (insn_direction t s.ip) ≡ 1 = ap (λ v. room d v) way ∙ ap (λ b. if b then 1 else 5) (is-same d) in
    light t d program ts (omega (arith, weighed, here))
