-- Contents of lookarounds that are closed and record nothing are searched in few steps.
use Rattle.std.proofs.Common.{◌≡◌, ◌≤◌, ◌<◌, ℕ, zero, suc, ◌+◌, ◌-◌, Bool, true, false, ◌&&◌, Option, Some, None, List, [], ◌∷◌, ◌++◌}
use Rattle.std.proofs.Common.{refl, sym, ap, subst, ◌∙◌, arith, length, map, reverse, min, slice_get, sum_by, if◌then◌else◌}
use Rattle.std.specs.Prelude.{nat_lt, ◌≢◌}
use mathlib.Core.Logic.{inl, inr}
use Rattle.std.proofs.Math.Nat.{mul-le-mul_right}
use Rattle.std.proofs.lemmas.Bool.{cases_lt, ltb-true}
use Rattle.std.proofs.lemmas.List.{length-map, length-reverse}
use Rattle.std.proofs.lemmas.List.Sums.{sum_by-cons, sum_by-append}
use Rattle.std.proofs.lemmas.Option.{slice_get_past}
use Rattle.regex_meaning.specs.Laws.{Each}
use Rattle.regex_meaning.specs.NumberListHelpers.{numbers_from}
use Rattle.regex_meaning.specs.Text.{Text, Direction, moved}
use Rattle.regex_meaning.specs.CodeUnitOffsets.{place_at, offset}
use Rattle.regex_meaning.specs.OutcomesWithStepTicks.{nearest_first}
use Rattle.std.specs.List.{prefix_len}
use Rattle.regex_meaning.specs.CompilationRelation.{Program, Insn, EnterLoop, Loop1CharBody, Lookahead, Lookbehind}
use Rattle.regex_meaning.proofs.BoolLemmas.{and-left, and-right}
use Rattle.regex_meaning.proofs.EachElementLemmas.{Each-append}
use Rattle.regex_meaning.proofs.ListLemmas.{length-numbers_from}
use Rattle.regress_program.specs.InsnsAsSpec.{insn_as_spec_insn}
use Rattle.regress_program.specs.declared.instructions.Insn as declared
use Rattle.regress_machine.specs.Machine.{State, Thread, running, waiting, Next, goes, scans, ends, asks, stuck, Found, found_at, result_without_threads}
use Rattle.regress_machine.specs.Machine.{with_steps, after_lookaround, after_lookaround_search}
use Rattle.regress_machine.specs.Machine.{search_after_effect, first_running_and_others_waiting, with_some, scan, test_of, state_with_ip, state_at_next_ip, act, act_on, search}
use Rattle.regress_memo.specs.SkippedLookarounds.{LookaroundInsn, lookaround_at}
use Rattle.regress_memo.specs.ThreadPotentials.{Potentials, potential_of, CoversRepeat, AreCovering, is_one_of}
use Rattle.regress_memo.specs.declared.analysis_result.MemoAnalysis.{MemoAnalysis}
use Rattle.regress_memo.specs.declared.successors.Successors.{Successors}
use Rattle.regress_memo.specs.declared.successors.Successors.TheVariants.{Ends, One, Two, Enter, Again, Run, LookaroundSuccessor, Same}
use Rattle.regress_memo.specs.AnalysisAsPotentials.{insn_analysis_of, recorded, potentials_of}
use Rattle.regress_memo.specs.AnalysisChecks.{unlimited}
use Rattle.regress_memo.specs.CheckedAnalysis.{IsAnalysisOf, ip_of}
use Rattle.regress_memo.specs.WorkBound.{IsWorkBounded, RecordsNothing, BoundsSilentContents, ContentsTakeFewSteps, SilentContentsTakeFewSteps}
use Rattle.regress_memo.specs.Successors.{DeclaredInsnsEqualProgramInsns, successors_of_insn_if_any}
use Rattle.regress_memo.specs.ClosedLookarounds.{IsInContents, StaysInContents, HasClosedContents, HasClosedContentsIfLookaround}
use Rattle.regress_memo.proofs.AnalysisCheckLemmas.{EnoughBy, has-enough}
use Rattle.regress_memo.proofs.CappedCharLoopLemmas.{in-turn-weigh}
use Rattle.regress_memo.proofs.CheckedAnalysisLemmas.{recorded-is}
use Rattle.regress_memo.proofs.StepKindByInstruction.{asked-there, scans-run}
use Rattle.regress_memo.proofs.ThreadPotentialLemmas.{turns-weighed}

-- If each instruction of the program has closed contents, so have all indices, even past the last one.
pub closed-all : (program : Program) (insns : List declared.Insn) → DeclaredInsnsEqualProgramInsns program insns
    → ((k : ℕ) → k < length insns → HasClosedContentsIfLookaround program (successors_of_insn_if_any k (slice_get program.insns k)) k)
    → (ip : ℕ) → HasClosedContentsIfLookaround program (successors_of_insn_if_any ip (slice_get program.insns ip)) ip
closed-all program insns has each ip = elim (cases_lt ip (length insns)) [
  | inl less ↦ each ip less
  | inr past ↦
      let long = length-map insns insn_as_spec_insn in
      let none : slice_get (map insn_as_spec_insn insns) ip ≡ None = slice_get_past (map insn_as_spec_insn insns) ip (omega (arith, past, long)) in
      subst (λ o. HasClosedContentsIfLookaround program (successors_of_insn_if_any ip o) ip) (sym (ap (λ xs. slice_get xs ip) has ∙ none)) tt
]

closed-look : (program : Program) (x : Option Insn) (ip : ℕ) (l : LookaroundInsn) → lookaround_at x ≡ Some l
    → HasClosedContentsIfLookaround program (successors_of_insn_if_any ip x) ip → HasClosedContents ip l.continuation program
closed-look program (Some (Lookahead negate start_group end_group continuation)) ip l e h = subst (λ (l : LookaroundInsn). HasClosedContents ip l.continuation program) (same _ l e) h
  where
    same : (a b : LookaroundInsn) → Some a ≡ Some b → a ≡ b
    same a b e = cc
closed-look program (Some (Lookbehind negate start_group end_group continuation)) ip l e h = subst (λ (l : LookaroundInsn). HasClosedContents ip l.continuation program) (same _ l e) h
  where
    same : (a b : LookaroundInsn) → Some a ≡ Some b → a ≡ b
    same a b e = cc
closed-look program _ ip l e h = cc

-- ---- Threads stay inside contents

-- An instruction outside weighs two, so threads that weigh at most one are inside.
module _ (from past : ℕ) where
  abbrev is_inside : ℕ → Bool
  is_inside ip = nat_lt from ip && nat_lt ip past

  abbrev heavy : Bool → ℕ
  heavy b = if b then 0 else 2

  abbrev room : Bool → ℕ
  room b = if b then 1 else 5

  abbrev places-weigh : Potentials
  places-weigh = record { at = λ ip. heavy (is_inside ip); left = λ ip. room (is_inside ip) }

  yes-inside : (ip : ℕ) → IsInContents from past ip → is_inside ip ≡ true
  yes-inside ip h = let a = h.0 in let b = h.1 in grind arith

  inside-yes : (ip : ℕ) → is_inside ip ≡ true → IsInContents from past ip
  inside-yes ip e = (ltb-true from ip (and-left (nat_lt from ip) (nat_lt ip past) e), ltb-true ip past (and-right (nat_lt from ip) (nat_lt ip past) e))

  no-weight : (ip : ℕ) → IsInContents from past ip → heavy (is_inside ip) ≡ 0
  no-weight ip h = ap heavy (yes-inside ip h)

  at-most-two : (b : Bool) → heavy b ≤ 2
  at-most-two true = omega arith
  at-most-two false = omega arith

  module _ (program : Program) where
    outside-again : (x : Option Insn) (ip begin : ℕ) → is_inside ip ≡ false → CoversRepeat places-weigh x ip begin
    outside-again (Some (EnterLoop f)) ip begin e =
        let a = at-most-two (is_inside (begin + 1)) in let b = at-most-two (is_inside f.exit) in let r : room (is_inside ip) ≡ 5 = ap room e in omega (arith, a, b, r)
    outside-again _ ip begin e = tt

    enough-outside : (s : Successors) (ip : ℕ) → is_inside ip ≡ false → EnoughBy places-weigh program s ip
    enough-outside Ends ip e = tt
    enough-outside (One n) ip e = let a = at-most-two (is_inside n.to) in let r : room (is_inside ip) ≡ 5 = ap room e in omega (arith, a, r)
    enough-outside (Two other) ip e =
        let a = at-most-two (is_inside (ip + 1)) in let b = at-most-two (is_inside other) in let r : room (is_inside ip) ≡ 5 = ap room e in omega (arith, a, b, r)
    enough-outside (Enter f) ip e =
        let a = at-most-two (is_inside (ip + 1)) in let b = at-most-two (is_inside f.exit) in let r : room (is_inside ip) ≡ 5 = ap room e in omega (arith, a, b, r)
    enough-outside (Again begin) ip e = outside-again (slice_get program.insns begin) ip begin e
    enough-outside (Run b) ip e = tt
    enough-outside (LookaroundSuccessor l) ip e = let a = at-most-two (is_inside l.past) in let r : room (is_inside ip) ≡ 5 = ap room e in omega (arith, a, r)
    enough-outside Same ip e = let a = at-most-two (is_inside (ip + 1)) in let r : room (is_inside ip) ≡ 5 = ap room e in omega (arith, a, r)

    enough-inside : (s : Successors) (ip : ℕ) → is_inside ip ≡ true → StaysInContents from past s ip → EnoughBy places-weigh program s ip
    enough-inside Ends ip e h = tt
    enough-inside (One n) ip e h = let a = no-weight n.to h in omega (arith, a)
    enough-inside (Two other) ip e h = let a = no-weight (ip + 1) h.0 in let b = no-weight other h.1 in let r : room (is_inside ip) ≡ 1 = ap room e in omega (arith, a, b, r)
    enough-inside (Enter f) ip e h = absurd h
    enough-inside (Again begin) ip e h = absurd h
    enough-inside (Run b) ip e h = tt
    enough-inside (LookaroundSuccessor l) ip e h = let a = no-weight l.past h in omega (arith, a)
    enough-inside Same ip e h = absurd h

    all-enough : HasClosedContents from past program → AreCovering places-weigh program
    all-enough closed = record {
      enough = λ ip.
          has-enough places-weigh program (slice_get program.insns ip) ip (by ip (is_inside ip) refl);
    }
      where
        by : (ip : ℕ) (b : Bool) → is_inside ip ≡ b → EnoughBy places-weigh program (successors_of_insn_if_any ip (slice_get program.insns ip)) ip
        by ip true e = enough-inside (successors_of_insn_if_any ip (slice_get program.insns ip)) ip e (closed.stays ip (inside-yes ip e))
        by ip false e = enough-outside (successors_of_insn_if_any ip (slice_get program.insns ip)) ip e

  light-inside : (ip : ℕ) → heavy (is_inside ip) ≤ 1 → IsInContents from past ip
  light-inside ip le = by (is_inside ip) refl
    where
      by : (b : Bool) → is_inside ip ≡ b → IsInContents from past ip
      by true e = inside-yes ip e
      by false e = let two : heavy (is_inside ip) ≡ 2 = ap heavy e in absurd (omega (arith, le, two))

  abbrev pub AreInside : List Thread → Type 0
  AreInside ts = Each (λ u. IsInContents from past (ip_of u)) ts

  light : (ts : List Thread) → sum_by (potential_of places-weigh) ts ≤ 1 → AreInside ts
  light [] le = tt
  light (running s ∷ ts) le =
      let sum = sum_by-cons (potential_of places-weigh) (running s) ts in (light-inside s.ip (omega (arith, le, sum)), light ts (omega (arith, le, sum)))
  light (waiting s ∷ ts) le =
      let sum = sum_by-cons (potential_of places-weigh) (waiting s) ts in (light-inside s.ip (omega (arith, le, sum)), light ts (omega (arith, le, sum)))

  -- The threads that a step leaves are inside.
  left-inside : (program : Program) (text : Text) → HasClosedContents from past program → (d : Direction) (s : State) (ts : List Thread) → IsInContents from past s.ip
      → act program text d s ≡ goes ts → AreInside ts
  left-inside program text closed d s ts inside turn =
      let weighed = turns-weighed.weighed program text places-weigh (all-enough program closed) d s ts turn in
      let here : room (is_inside s.ip) ≡ 1 = ap room (yes-inside s.ip inside) in
      light ts (omega (arith, weighed, here))

-- ---- Char loops

-- The threads that a char loop leaves.
pub record LeavesExits (least most : ℕ) (s : State) (n : ℕ) (ts : List Thread) : Type 0 where
  pub states : List State
  pub are : ts ≡ first_running_and_others_waiting states
  pub few : n ≤ most
  pub as_many : length states ≤ most + 1 - least
  pub there : Each (λ (u : State). u.ip ≡ s.ip + 2) states

abbrev LeavesExitsIfScans : (least most : ℕ) → State → Next → Type 0
LeavesExitsIfScans least most s (scans n ts) = LeavesExits least most s n ts
LeavesExitsIfScans least most s _ = Unit {0}

module _ (text : Text) (d : Direction) (s : State) (least most : ℕ) (greedy : Bool) where
  exits-with : {X : Type 0} (o : Option X) (f : X → Next) → ((x : X) → LeavesExitsIfScans least most s (f x)) → LeavesExitsIfScans least most s (with_some o f)
  exits-with None f h = tt
  exits-with (Some x) f h = h x

  all-there : (place : ℕ) (ns : List ℕ)
      → Each (λ (u : State). u.ip ≡ s.ip + 2) (map (λ n. record s { ip = s.ip + 2; pos = offset text (moved text d n place) }) ns)
  all-there place [] = tt
  all-there place (n ∷ ns) = (refl, all-there place ns)

  count-of : (g : Bool) (first count : ℕ) → length (if g then reverse (numbers_from first count) else numbers_from first count) ≡ count
  count-of true first count = length-reverse (numbers_from first count) ∙ length-numbers_from first count
  count-of false first count = length-numbers_from first count

  scan-exits : (test : ℕ → Bool) (place : ℕ) → LeavesExitsIfScans least most s (scan text least most greedy test d place s)
  scan-exits test place =
      let furthest = min most (prefix_len test (nearest_first text d place)) in
      let places = if greedy then reverse (numbers_from least (furthest + 1 - least)) else numbers_from least (furthest + 1 - least) in
      let behind : ℕ → State = λ n. record s { ip = s.ip + 2; pos = offset text (moved text d n place) } in
      record {
        states = map behind places;
        are = refl;
        few = omega arith;
        as_many = let its = length-map places behind in let count = count-of greedy least (furthest + 1 - least) in omega (arith, its, count);
        there = all-there place places;
      }

  pub run-exits : (program : Program) (n : ℕ) (ts : List Thread) → slice_get program.insns s.ip ≡ Some (Loop1CharBody least most greedy) → act program text d s ≡ scans n ts
      → LeavesExits least most s n ts
  run-exits program n ts run turn =
      subst (LeavesExitsIfScans least most s) (sym (ap (λ o. act_on program text d o s) run) ∙ turn)
      (exits-with (test_of program (slice_get program.insns (s.ip + 1))) _ (λ test. exits-with (place_at text s.pos) _ (λ p. scan-exits test p)))

exits-inside : (from past ip : ℕ) (ss : List State) → IsInContents from past ip → Each (λ (u : State). u.ip ≡ ip) ss → AreInside from past (first_running_and_others_waiting ss)
exits-inside from past ip [] inside h = tt
exits-inside from past ip (s ∷ ss) inside h = (subst (IsInContents from past) (sym h.0) inside, waits ss h.1)
  where
    waits : (ss : List State) → Each (λ (u : State). u.ip ≡ ip) ss → AreInside from past (map waiting ss)
    waits [] h = tt
    waits (s ∷ ss) h = (subst (IsInContents from past) (sym h.0) inside, waits ss h.1)

-- ---- The steps of contents

-- A result with more steps is a result.
record IsStepped (n : ℕ) (o : Option Found) (f : Found) : Type 0 where
  found : Found
  is : o ≡ Some found
  steps : f.steps ≡ n + found.steps

stepped : (n : ℕ) (o : Option Found) (f : Found) → with_steps n o ≡ Some f → IsStepped n o f
stepped n None f e = cc
stepped n (Some g) f e = let is : record g { steps = n + g.steps } ≡ f = cc in record { found = g; is = refl; steps = sym (ap (λ (h : Found). h.steps) is) }

-- What continues after a lookaround weighs no more than its instruction.
pub weighs-no-more : (t : MemoAnalysis) (negate : Bool) (u : State) (end : Option State) → sum_by (potential_of (potentials_of t)) (after_lookaround negate u end) ≤ (insn_analysis_of t u.ip).ready
weighs-no-more t false u None = omega arith
weighs-no-more t false u (Some e) = let a = sum_by-cons (potential_of (potentials_of t)) (running (record e { ip = u.ip; pos = u.pos })) [] in omega (arith, a)
weighs-no-more t true u None = let a = sum_by-cons (potential_of (potentials_of t)) (running u) [] in omega (arith, a)
weighs-no-more t true u (Some e) = omega arith

module _ (program : Program) (t : MemoAnalysis) (of : IsAnalysisOf program t) (allows : BoundsSilentContents t program) (text : Text) where
  abbrev weight : List Thread → ℕ
  weight ts = sum_by (potential_of (potentials_of t)) ts

  -- The contents of a lookaround at `from` that continues at `past`. Nothing in them records.
  record AreContents (from past : ℕ) : Type 0 where
    closed : HasClosedContents from past program
    silent : (ip : ℕ) → IsInContents from past ip → (insn_analysis_of t ip).records ≡ false

  contents-at : (ip : ℕ) (l : LookaroundInsn) → lookaround_at (slice_get program.insns ip) ≡ Some l → RecordsNothing t l.continuation ip → AreContents ip l.continuation
  contents-at ip l is quiet = record {
    closed = allows.closed ip l is quiet;
    silent = λ inner inside. quiet inner (let a = inside.0 in omega (arith, a)) inside.1;
  }

  unrecorded : (ip : ℕ) → (insn_analysis_of t ip).records ≡ false → is_one_of (recorded t) ip ≡ false
  unrecorded ip off = by (is_one_of (recorded t) ip) refl
    where
      by : (b : Bool) → is_one_of (recorded t) ip ≡ b → is_one_of (recorded t) ip ≡ false
      by false e = e
      by true e = let never : true ≡ false = sym (recorded-is t ip e) ∙ off in cc

  module _ {from past : ℕ} (contents : AreContents from past) (d : Direction) (s : State) (inside : IsInContents from past s.ip) where
    -- The instruction's potential pays for its step and for what it leaves.
    passed : (insn_analysis_of t s.ip).left + 1 ≤ (insn_analysis_of t s.ip).ready
    passed = of.paid.passed s.ip (unrecorded s.ip (contents.silent s.ip inside))

    goes-weigh : (ts : List Thread) → act program text d s ≡ goes ts → 1 + weight ts ≤ (insn_analysis_of t s.ip).ready
    goes-weigh ts turn =
        let few = turns-weighed.weighed program text (potentials_of t) of.paid.enough d s ts turn in let pays = passed in omega (arith, few, pays)

    -- A char loop in the contents has a maximum, because the body of a loop without one records.
    record IsLimitedRun (n : ℕ) (ts : List Thread) : Type 0 where
      weighs : 1 + n + weight ts ≤ (insn_analysis_of t s.ip).ready
      stays : AreInside from past ts

    scans-weigh : (n : ℕ) (ts : List Thread) → act program text d s ≡ scans n ts → IsLimitedRun n ts
    scans-weigh n ts turn =
        let run = scans-run program text d s n ts turn in
        let exits = run-exits text d s run.least run.most run.greedy program n ts run.is turn in
        let behind : IsInContents from past (s.ip + 2) =
        subst (λ o. StaysInContents from past (successors_of_insn_if_any s.ip o) s.ip) run.is (contents.closed.stays s.ip inside) in
        let checked = of.runs s.ip run.least run.most run.greedy run.is in
        let limited : run.most ≢ unlimited = λ e.
        let on : (insn_analysis_of t (s.ip + 1)).records ≡ true = checked.records e in
        let off : (insn_analysis_of t (s.ip + 1)).records ≡ false = contents.silent (s.ip + 1) (let a = inside.0 in let b = behind.1 in (omega (arith, a), omega (arith, b))) in
        let never : true ≡ false = sym on ∙ off in cc in
        let covers = checked.limited limited in
        let weighed = in-turn-weigh (potentials_of t) (s.ip + 2) exits.states exits.there in
        let same = ap weight exits.are in
        let most = mul-le-mul_right ((insn_analysis_of t (s.ip + 2)).ready + 1) exits.as_many in
        let few = exits.few in
        let pays = passed in
        record {
          weighs = omega (arith, covers, weighed, same, most, few, pays);
          stays = subst (AreInside from past) (sym exits.are) (exits-inside from past (s.ip + 2) exits.states behind exits.there);
        }

  resumed-inside : (from past : ℕ) (negate : Bool) (u : State) (end : Option State) → IsInContents from past u.ip → AreInside from past (after_lookaround negate u end)
  resumed-inside from past false u None h = tt
  resumed-inside from past false u (Some e) h = (h, tt)
  resumed-inside from past true u None h = (h, tt)
  resumed-inside from past true u (Some e) h = tt

  look-behind : (from past : ℕ) (x : Option Insn) (ip : ℕ) (l : LookaroundInsn) → lookaround_at x ≡ Some l → StaysInContents from past (successors_of_insn_if_any ip x) ip
      → IsInContents from past l.continuation
  look-behind from past (Some (Lookahead negate start_group end_group continuation)) ip l e h = subst (λ (l : LookaroundInsn). IsInContents from past l.continuation) (same _ l e) h
    where
      same : (a b : LookaroundInsn) → Some a ≡ Some b → a ≡ b
      same a b e = cc
  look-behind from past (Some (Lookbehind negate start_group end_group continuation)) ip l e h = subst (λ (l : LookaroundInsn). IsInContents from past l.continuation) (same _ l e) h
    where
      same : (a b : LookaroundInsn) → Some a ≡ Some b → a ≡ b
      same a b e = cc
  look-behind from past _ ip l e h = cc

  -- Searches with this fuel take at most as many steps as the potential of their threads.
  abbrev AreFewSteps : (turns : ℕ) → Type 0
  AreFewSteps turns = (from past : ℕ) → AreContents from past → (d : Direction) (ts : List Thread) → AreInside from past ts → (f : Found) → search program text turns d ts ≡ Some f
      → f.steps ≤ weight ts

  -- A step inside contents, and what follows it.
  module _ (turns : ℕ) (fewer : AreFewSteps turns) (from past : ℕ) (c : AreContents from past) (d : Direction) (s : State) (ts : List Thread) (h : AreInside from past (running s ∷ ts)) (f : Found) where
    all : weight (running s ∷ ts) ≡ (insn_analysis_of t s.ip).ready + weight ts
    all = let a = sum_by-cons (potential_of (potentials_of t)) (running s) ts in omega (arith, a)

    joined : (ss : List Thread) → AreInside from past ss → AreInside from past (ss ++ ts)
    joined ss inside = Each-append (λ u. IsInContents from past (ip_of u)) ss ts inside h.1

    asked : (inner : Direction) (negate : Bool) (u v : State) → act program text d s ≡ asks inner negate u v → (o : Option Found) → search program text turns inner (running u ∷ []) ≡ o
        → after_lookaround_search (search program text turns d) negate v ts o ≡ Some f → f.steps ≤ weight (running s ∷ ts)
    asked inner negate u v is None q e = cc
    asked inner negate u v is (Some g) q e =
        let a = asked-there program text d s inner negate u v is in
        let on : IsInContents from past a.look.continuation = look-behind from past (slice_get program.insns s.ip) s.ip a.look a.there (c.closed.stays s.ip h.0) in
        let its = contents-at s.ip a.look a.there
        (λ inner le less. c.silent inner (let first = h.0.0 in let last = on.1 in (omega (arith, first, le), omega (arith, less, last)))) in
        let first_ip : u.ip ≡ s.ip + 1 = ap (λ (x : State). x.ip) a.first in
        let past_ip : v.ip ≡ a.look.continuation = ap (λ (x : State). x.ip) a.behind in
        let first : IsInContents s.ip a.look.continuation u.ip = let some = its.closed.some in (omega (arith, first_ip), omega (arith, first_ip, some)) in
        let contents = fewer s.ip a.look.continuation its inner (running u ∷ []) (first, tt) g q in
        let first_weighs = sum_by-cons (potential_of (potentials_of t)) (running u) [] in
        let first_ready : (insn_analysis_of t u.ip).ready ≡ (insn_analysis_of t (s.ip + 1)).ready = ap (λ ip. (insn_analysis_of t ip).ready) first_ip in
        let past_ready : (insn_analysis_of t v.ip).ready ≡ (insn_analysis_of t a.look.continuation).ready = ap (λ ip. (insn_analysis_of t ip).ready) past_ip in
        let behind : IsInContents from past v.ip = subst (IsInContents from past) (sym past_ip) on in
        let k = stepped (1 + g.steps) (search program text turns d (after_lookaround negate v g.end ++ ts)) f e in
        let few = fewer from past c d (after_lookaround negate v g.end ++ ts) (joined (after_lookaround negate v g.end) (resumed-inside from past negate v g.end behind)) k.found k.is in
        let sum = sum_by-append (potential_of (potentials_of t)) (after_lookaround negate v g.end) ts in
        let resumed = weighs-no-more t negate v g.end in
        let both = allows.contents s.ip a.look a.there in
        let pays = passed c d s h.0 in
        let whole = all in
        let n = k.steps in
        omega (arith, contents, first_weighs, first_ready, past_ready, few, sum, resumed, both, pays, whole, n)

    stepped-few : (x : Next) → act program text d s ≡ x → search_after_effect (λ d us. search program text turns d us) d x ts ≡ Some f → f.steps ≤ weight (running s ∷ ts)
    stepped-few (goes ss) is e =
        let g = stepped 1 (search program text turns d (ss ++ ts)) f e in
        let few = fewer from past c d (ss ++ ts) (joined ss (left-inside from past program text c.closed d s ss h.0 is)) g.found g.is in
        let sum = sum_by-append (potential_of (potentials_of t)) ss ts in
        let pays = goes-weigh c d s h.0 ss is in
        let whole = all in
        let n = g.steps in
        omega (arith, few, sum, pays, whole, n)
    stepped-few (scans tries ss) is e =
        let g = stepped (1 + tries) (search program text turns d (ss ++ ts)) f e in
        let run = scans-weigh c d s h.0 tries ss is in
        let few = fewer from past c d (ss ++ ts) (joined ss run.stays) g.found g.is in
        let sum = sum_by-append (potential_of (potentials_of t)) ss ts in
        let pays = run.weighs in
        let whole = all in
        let n = g.steps in
        omega (arith, few, sum, pays, whole, n)
    stepped-few (ends u) is e =
        let same : found_at u ≡ f = cc in let n = ap (λ (g : Found). g.steps) same in let some = allows.ready s.ip in let whole = all in omega (arith, n, some, whole)
    stepped-few (asks inner negate u v) is e = asked inner negate u v is (search program text turns inner (running u ∷ [])) refl e
    stepped-few stuck is e = cc

  -- A search inside contents takes at most as many steps as the potential of its threads.
  contents-few : (turns : ℕ) → AreFewSteps turns
  unfolding search
  contents-few zero from past c d [] h f e = let is : result_without_threads ≡ f = cc in let s = ap (λ (g : Found). g.steps) is in omega (arith, s)
  contents-few zero from past c d (u ∷ ts) h f e = cc
  contents-few (suc turns) from past c d [] h f e = let is : result_without_threads ≡ f = cc in let s = ap (λ (g : Found). g.steps) is in omega (arith, s)
  contents-few (suc turns) from past c d (waiting s ∷ ts) h f e =
      let g = stepped 1 (search program text turns d (running s ∷ ts)) f e in
      let few = contents-few turns from past c d (running s ∷ ts) h g.found g.is in
      let a = sum_by-cons (potential_of (potentials_of t)) (running s) ts in
      let b = sum_by-cons (potential_of (potentials_of t)) (waiting s) ts in
      let n = g.steps in
      omega (arith, few, a, b, n)
  contents-few (suc turns) from past c d (running s ∷ ts) h f e =
      stepped-few turns (λ from past c d ts h f e. contents-few turns from past c d ts h f e) from past c d s ts h f (act program text d s) refl e

pub silent-take-few : SilentContentsTakeFewSteps
silent-take-few program t of allows text s l is quiet turns f e =
    let its = contents-at program t of allows text s.ip l is quiet in
    let first : IsInContents s.ip l.continuation (s.ip + 1) = let some = its.closed.some in (omega arith, omega (arith, some)) in
    let few = contents-few program t of allows text turns s.ip l.continuation its l.inner (running (state_at_next_ip s) ∷ []) (first, tt) f e in
    let weighs = sum_by-cons (potential_of (potentials_of t)) (running (state_at_next_ip s)) [] in
    omega (arith, few, weighs)

-- A bounded analysis bounds all contents, because none record.
bounded-allows : (program : Program) (t : MemoAnalysis) → IsWorkBounded t program → BoundsSilentContents t program
bounded-allows program t bounded = record {
  ready = bounded.ready;
  contents = λ ip l is. ((bounded.insns ip).look l is).contents;
  closed = λ ip l is quiet. closed-look program (slice_get program.insns ip) ip l is (bounded.closed ip);
}

pub contents-take-few : ContentsTakeFewSteps
contents-take-few program t of bounded text s l is turns f e =
    silent-take-few program t of (bounded-allows program t bounded) text s l is ((bounded.insns s.ip).look l is).silent turns f e

-- A lookaround's potential pays for its step, for the steps of its contents, and for the thread that continues.
pub silent-weighs : (program : Program) (t : MemoAnalysis) → IsAnalysisOf program t → BoundsSilentContents t program → (text : Text) (s : State) (l : LookaroundInsn) → lookaround_at (slice_get program.insns s.ip) ≡ Some l
    → RecordsNothing t l.continuation s.ip → (turns : ℕ) (f : Found) → search program text turns l.inner (running (state_at_next_ip s) ∷ []) ≡ Some f
    → f.steps + 1 + sum_by (potential_of (potentials_of t)) (after_lookaround l.negate (state_with_ip l.continuation s) f.end) ≤ (insn_analysis_of t s.ip).ready
silent-weighs program t of allows text s l is quiet turns f e =
    let some = (allows.closed s.ip l is quiet).some in
    let few = silent-take-few program t of allows text s l is quiet turns f e in
    let resumed = weighs-no-more t l.negate (state_with_ip l.continuation s) f.end in
    let both = allows.contents s.ip l is in
    let pays = of.paid.passed s.ip (unrecorded program t of allows text s.ip (quiet s.ip (omega arith) (omega (arith, some)))) in
    omega (arith, few, resumed, both, pays)

pub look-weighs : (program : Program) (t : MemoAnalysis) → IsAnalysisOf program t → IsWorkBounded t program → (text : Text) (s : State) (l : LookaroundInsn) → lookaround_at (slice_get program.insns s.ip) ≡ Some l
    → (turns : ℕ) (f : Found) → search program text turns l.inner (running (state_at_next_ip s) ∷ []) ≡ Some f
    → f.steps + 1 + sum_by (potential_of (potentials_of t)) (after_lookaround l.negate (state_with_ip l.continuation s) f.end) ≤ (insn_analysis_of t s.ip).ready
look-weighs program t of bounded text s l is turns f e =
    silent-weighs program t of (bounded-allows program t bounded) text s l is ((bounded.insns s.ip).look l is).silent turns f e
