-- Steps of lookarounds and of char loops with a maximum are memo steps, and potentials cover them.
use Rattle.std.proofs.Common.{◌≡◌, ◌≤◌, ℕ, suc, ◌+◌, ◌-◌, ◌*◌, List, [], ◌∷◌, ◌++◌, map, length, false, refl, ap, sym, subst, arith, sum_by}
use Rattle.std.proofs.Math.Nat.{add-mul, mul-le-mul_right}
use Rattle.std.proofs.lemmas.List.Sums.{sum_by-cons, sum_by-append}
use Rattle.regex_meaning.specs.Laws.{Each}
use Rattle.regex_meaning.specs.Text.{Text, Direction, rightwards, leftwards}
use Rattle.regex_meaning.specs.CompilationRelation.{Program}
use Rattle.regress_machine.specs.Machine.{State, Thread, running, waiting, scans, first_running_and_others_waiting, act}
use Rattle.regress_machine.specs.ThreadSimulation.{Simulates}
use Rattle.regress_machine.proofs.ThreadSimulationLemmas.{simulates-fewer, simulates-scans}
use Rattle.regress_memo.specs.Liveness.{Liveness}
use Rattle.regress_memo.specs.MemoSearch.{Key, one_thread, key_record, thread_entries, threads_in, entry_potential, GoesOnward, ReachesBySteps, gives, learns}
use Rattle.regress_memo.specs.ThreadPotentials.{Potentials, potential_of}
use Rattle.regress_memo.specs.LoopDataKeyCodes.{Question, plan_code, key_of}
use Rattle.regress_memo.specs.UnboundedCharLoopMemoKeys.{plan_keys}
use Rattle.regress_memo.specs.AmortizedStepCosts.{potential_by, AreCostsCovered}
use Rattle.regress_memo.specs.MemoPlanChecksAndGuarantees.{IsPlan}
use Rattle.regress_memo.specs.CappedCharLoops.{LimitedRunIsPaid, ScanIsPaid, EndIsPaid, ScanGives, BoundedLoopCostsAreCovered, CharLoopScansAreMemoSteps, LookaroundCostsAreCovered}
use Rattle.regress_memo.proofs.RightwardStepLemmas.{turns-move-on}
use Rattle.regress_memo.proofs.StepCostLemmas.{tries-weigh, one-weighs}
use Rattle.regress_memo.proofs.MemoPlanLemmas.{bare-tries, own}
use Rattle.regress_memo.proofs.MemoSearchLemmas.{keys-bare, threads-tries}
use Rattle.regress_memo.proofs.ThreadPotentialLemmas.{turns-give}

-- ---- Char loops with a maximum

module _ (w : Potentials) (ip : ℕ) where
  waiting-weigh : (ss : List State) → Each (λ t. t.ip ≡ ip) ss → sum_by (potential_of w) (map waiting ss) ≤ length ss * (w.at ip + 1)
  waiting-weigh [] h = omega arith
  waiting-weigh (s ∷ ss) h =
      let a = sum_by-cons (potential_of w) (waiting s) (map waiting ss) in
      let l = waiting-weigh ss h.1 in
      let here = ap w.at h.0 in
      let m = add-mul 1 (length ss) (w.at ip + 1) in
      let same : suc (length ss) * (w.at ip + 1) ≡ (1 + length ss) * (w.at ip + 1) = ap (λ n. n * (w.at ip + 1)) (omega arith) in
      omega (arith, a, l, here, m, same)

  pub in-turn-weigh : (ss : List State) → Each (λ t. t.ip ≡ ip) ss → sum_by (potential_of w) (first_running_and_others_waiting ss) ≤ length ss * (w.at ip + 1)
  in-turn-weigh [] h = omega arith
  in-turn-weigh (s ∷ ss) h =
      let a = sum_by-cons (potential_of w) (running s) (map waiting ss) in
      let b = sum_by-cons (potential_of w) (waiting s) (map waiting ss) in
      let l = waiting-weigh (s ∷ ss) h in
      omega (arith, a, b, l)

module _ (program : Program) (w : Potentials) (key_cost : ℕ → ℕ) (ips : List ℕ) where
  abbrev weight : List Thread → ℕ
  weight ts = potential_by program w key_cost ips ts

  abbrev cost : Key → ℕ
  cost k = key_cost k.ip

  scan-weighs : (s : State) (least most : ℕ) (ss : List State) → LimitedRunIsPaid program w key_cost ips least most s.ip
      → length ss ≤ most + 1 - least → Each (λ t. t.ip ≡ s.ip + 2) ss
      → most + 1 + sum_by (entry_potential weight) (thread_entries (first_running_and_others_waiting ss)) ≤ w.left s.ip
  scan-weighs s least most ss enough few there =
      let x = tries-weigh program w key_cost ips (first_running_and_others_waiting ss) in
      let y = in-turn-weigh w (s.ip + 2) ss there in
      let z = mul-le-mul_right (w.at (s.ip + 2) + 1) few in
      omega (arith, enough, x, y, z)

  scan-paid : AreCostsCovered program w key_cost ips → (code : State → ℕ) (s : State) (least most : ℕ)
      → LimitedRunIsPaid program w key_cost ips least most s.ip → ScanIsPaid program w key_cost ips code s least most
  scan-paid paid code s least most enough = record {
    passed = λ n ss le few there off.
        let x = one-weighs program w key_cost ips (one_thread (running s)) in
        let y = scan-weighs s least most ss enough few there in
        let z = paid.passed s.ip off in
        omega (arith, x, y, z, le);
    recorded = λ n ss le few there on.
        let k = key_of code s in
        let x = one-weighs program w key_cost ips (one_thread (running s)) in
        let y = scan-weighs s least most ss enough few there in
        let z = paid.recorded s.ip on in
        let more = sum_by-append (entry_potential weight) (thread_entries (first_running_and_others_waiting ss)) (key_record k (running s ∷ []) ∷ []) in
        let one = one-weighs program w key_cost ips (key_record k (running s ∷ [])) in
        let its = ap (sum_by cost) (keys-bare (thread_entries (first_running_and_others_waiting ss)) (key_record k (running s ∷ []) ∷ []) (bare-tries (first_running_and_others_waiting ss))) in
        let last = sum_by-cons cost k [] in
        omega (arith, x, y, z, more, one, its, last, le);
  }

  end-paid : (s : State) → EndIsPaid program w key_cost ips s
  end-paid s = record {
    known = λ some. let x = one-weighs program w key_cost ips (one_thread (running s)) in omega (arith, x, some);
    short = λ least n paid le.
        let x = one-weighs program w key_cost ips (one_thread (running s)) in let y = paid.ready in omega (arith, x, y, le);
    short_lazy = λ least n paid le.
        let x = one-weighs program w key_cost ips (one_thread (running s)) in let y = paid.ready in omega (arith, x, y, le);
  }

pub others-paid : BoundedLoopCostsAreCovered
others-paid = record {
  scans = λ program w key_cost ips paid code s least most enough. scan-paid program w key_cost ips paid code s least most enough;
  ends = λ program w key_cost ips s. end-paid program w key_cost ips s;
}

-- ---- Char loops that leave threads

module _ (program : Program) (text : Text) (a : Liveness) (questions : ℕ → List Question) (way : ℕ → Direction) (ips : List ℕ)
    (taken : Key → ℕ) (plan : IsPlan program text a questions way ips taken) (memory : List Key) (s : State) where
  abbrev key : Key
  key = key_of (plan_code questions) s

  scans-onward : (d : Direction) (n : ℕ) (ts : List Thread) → act program text d s ≡ scans n ts → GoesOnward d (running s ∷ []) (thread_entries ts)
  scans-onward rightwards n ts e = turns-move-on.scans program text plan.liveness.is_text s n ts e
  scans-onward leftwards n ts e = tt

  scan-onward : (d : Direction) (n : ℕ) (ts : List Thread) → act program text d s ≡ scans n ts
      → GoesOnward d (running s ∷ []) (thread_entries ts ++ key_record key (running s ∷ []) ∷ [])
  scan-onward rightwards n ts e =
      turns-move-on.noted s.pos ts (running s ∷ []) key (turns-move-on.scans program text plan.liveness.is_text s n ts e) refl
  scan-onward leftwards n ts e = tt

  module _ (d : Direction) where
    scan-step : (n : ℕ) (ts : List Thread) → act program text d s ≡ scans n ts
        → Simulates program text false d 1 (threads_in (thread_entries ts)) (running s ∷ [])
    scan-step n ts e =
        subst (λ us. Simulates program text false d 1 us (running s ∷ [])) (sym (threads-tries ts))
        (simulates-fewer program text d 1 (1 + n) ts (running s ∷ []) (omega arith) (simulates-scans program text false d s n ts e))

    scan-gives : ScanGives program text a questions way ips taken d memory s
    scan-gives = record {
      turned = λ n ts e.
          (turns-give program text a (plan_keys program text a questions way ips taken) d memory).passed 1 (thread_entries ts) (running s ∷ [])
          (bare-tries ts) (scan-step n ts e) (scans-onward d n ts e);
      recorded = λ n ts e r.
          let one = r.one in
          (turns-give program text a (plan_keys program text a questions way ips taken) d memory).made 1 (thread_entries ts) (running s ∷ []) key
          (bare-tries ts) (scan-step n ts e) (own program text a questions way ips taken plan memory s d r)
          (omega (arith, one)) (omega (arith, one)) r.new (scan-onward d n ts e);
    }

pub scans-give : CharLoopScansAreMemoSteps
scans-give program text a questions way ips taken plan d memory s = scan-gives program text a questions way ips taken plan memory s d

-- ---- Lookarounds

pub looks-pay : LookaroundCostsAreCovered
looks-pay program text a keys d key_cost weight memory row work now learned front entries rest us more comes looked =
    let ready = sum_by (entry_potential weight) (thread_entries us) in
    let taught = looked.taught in
    let enough = looked.ready in
    let known : ReachesBySteps program text a keys d key_cost weight memory row (work + (more - ready)) (learned ++ now) (front ++ rest) =
    learns work (more - ready) now learned (front ++ rest) comes looked.learns.known (looked.learns.distinct looked.new looked.distinct)
    looked.learns.inside (omega (arith, taught)) in
    let on : ReachesBySteps program text a keys d key_cost weight memory row (work + (more - ready) + (1 + (more - (more - ready)))) (learned ++ now) (entries ++ rest) =
    gives (work + (more - ready)) (1 + (more - (more - ready))) (learned ++ now) front entries rest looked.front_bare known looked.gives
    (omega (arith, enough)) in
    let same : work + (more - ready) + (1 + (more - (more - ready))) ≡ work + (1 + more) = omega arith in
    subst (λ n. ReachesBySteps program text a keys d key_cost weight memory row n (learned ++ now) (entries ++ rest)) same on
