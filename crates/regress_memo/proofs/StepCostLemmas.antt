-- Potentials and key costs that pass their checks cover the steps of threads and of char loops.
use Rattle.std.proofs.Common.{◌≡◌, ◌≤◌, ℕ, zero, suc, ◌+◌, ◌-◌, List, [], ◌∷◌, map, length, reverse, Bool, refl, ap, ◌∙◌, arith, sum_by}
use Rattle.std.proofs.lemmas.List.{length-map, length-reverse}
use Rattle.std.proofs.lemmas.List.Sums.{sum_by-cons, sum_by-append}
use Rattle.regex_meaning.specs.Laws.{Each}
use Rattle.regex_meaning.specs.NumberListHelpers.{numbers_from}
use Rattle.regex_meaning.specs.Text.{Text, Direction, moved}
use Rattle.regex_meaning.specs.CompilationRelation.{Program}
use Rattle.regress_machine.specs.Machine.{State, Thread, running, waiting, first_running_and_others_waiting}
use Rattle.regress_machine.specs.CharLoopExitStatesByPreference.{behind, fewest_first, most_first}
use Rattle.regress_memo.specs.Liveness.{Liveness}
use Rattle.regress_memo.specs.MemoSearch.{Key, Entry, one_thread, thread_group, key_record, thread_entries, entry_potential}
use Rattle.regress_memo.specs.ThreadPotentials.{Potentials, potential_of, each_noted}
use Rattle.regress_memo.specs.LoopDataKeyCodes.{Question, key_of}
use Rattle.regress_memo.specs.CharLoopExitThreadLists.{passing, greedy_loop_threads, pending_loop_threads}
use Rattle.regress_memo.specs.UnboundedCharLoops.{key_behind}
use Rattle.regress_memo.specs.AmortizedStepCosts.{potential_by, IsCostCovered, AreCostsCovered, GreedyLoopIsCovered, GreedyLoopCoversGroup, LazyLoopIsCovered}
use Rattle.regress_memo.specs.AmortizedStepCosts.{ThreadIsPaid, places_from, key_on, RunTurnsArePaid, RunsAheadArePaid, StepCostsAreCovered}
use Rattle.regress_memo.proofs.MemoSearchLemmas.{keys-bare, keys-tries}
use Rattle.regress_memo.proofs.MemoPlanLemmas.{bare-tries}
use Rattle.regress_memo.proofs.ThreadPotentialLemmas.{turns-weighed, runs-pay}

module _ (program : Program) (w : Potentials) (key_cost : ℕ → ℕ) (ips : List ℕ) where
  abbrev weight : List Thread → ℕ
  weight ts = potential_by program w key_cost ips ts

  abbrev cost : Key → ℕ
  cost k = key_cost k.ip

  pub tries-weigh : (ts : List Thread) → sum_by (entry_potential weight) (thread_entries ts) ≡ sum_by (potential_of w) ts
  tries-weigh [] = refl
  tries-weigh (t ∷ ts) =
      let x = sum_by-cons (entry_potential weight) (one_thread t) (thread_entries ts) in
      let y = sum_by-cons (potential_of w) t ts in
      let l = tries-weigh ts in
      omega (arith, x, y, l)

  pub one-weighs : (e : Entry) → sum_by (entry_potential weight) (e ∷ []) ≡ entry_potential weight e
  one-weighs e = let x = sum_by-cons (entry_potential weight) e [] in omega (arith, x)

  module _ (paid : AreCostsCovered program w key_cost ips) (text : Text) (code : State → ℕ) (d : Direction) (s : State) where
    thread-paid : ThreadIsPaid program w key_cost ips text code d s
    thread-paid = record {
      taken_up = let x = one-weighs (one_thread (running s)) in let y = one-weighs (one_thread (waiting s)) in omega (arith, x, y);
      turned = λ ts e off.
          let x = one-weighs (one_thread (running s)) in
          let y = tries-weigh ts in
          let few = turns-weighed.weighed program text w paid.enough d s ts e in
          let enough = paid.passed s.ip off in
          let none = ap (sum_by cost) (keys-tries ts) in
          omega (arith, x, y, few, enough);
      recorded = λ ts e on.
          let k = key_of code s in
          let x = one-weighs (one_thread (running s)) in
          let y = tries-weigh ts in
          let z = sum_by-append (entry_potential weight) (thread_entries ts) (key_record k (running s ∷ []) ∷ []) in
          let one = one-weighs (key_record k (running s ∷ [])) in
          let few = turns-weighed.weighed program text w paid.enough d s ts e in
          let enough = paid.recorded s.ip on in
          let its = ap (sum_by cost) (keys-bare (thread_entries ts) (key_record k (running s ∷ []) ∷ []) (bare-tries ts)) in
          let last = sum_by-cons cost k [] in
          omega (arith, x, y, z, one, few, enough, its, last);
    }

  module _ (text : Text) (a : Liveness) (questions : ℕ → List Question) (way : ℕ → Direction) (taken : Key → ℕ) (d : Direction) (test : ℕ → Bool) (s : State) (place least : ℕ)
      (paid : GreedyLoopIsCovered program w key_cost ips least s.ip) where
    abbrev pair : ℕ → Thread × Key
    pair n = (waiting (behind text d place s n), key_behind program text a questions way ips taken d test s place n)

    abbrev places : ℕ → List (Thread × Key)
    places count = places_from program w key_cost ips text a questions way taken d test s place least count

    abbrev its-key : ℕ → Key
    its-key n = key_behind program text a questions way ips taken d test s place n

    each-paid : (ns : List ℕ) → Each (λ (x : Thread × Key). weight (x.0 ∷ []) + 2 ≤ cost x.1) (map pair ns)
    each-paid [] = tt
    each-paid (n ∷ ns) = let enough = paid.places in (omega (arith, enough), each-paid ns)

    length-numbers : (start count : ℕ) → length (numbers_from start count) ≡ count
    length-numbers start zero = refl
    length-numbers start (suc count) = let l = length-numbers (start + 1) count in omega (arith, l)

    so-many : (count : ℕ) → length (places count) ≡ count
    so-many count =
        length-map (reverse (numbers_from least count)) pair ∙ length-reverse (numbers_from least count) ∙ length-numbers least count

    run-paid : RunTurnsArePaid program w key_cost ips text a questions way taken d test s place least
    run-paid = record {
      known = λ n le.
          let many = so-many (n - least) in
          let x = one-weighs (one_thread (running s)) in
          let ready = paid.ready in
          let pay = runs-pay cost weight (greedy_loop_threads text test d 0 (moved text d n place) s) (places (n - least)) (least + 2) (w.at s.ip) (n + 2) ready (omega (arith, many, le)) (each-paid (reverse (numbers_from least (n - least)))) in
          omega (arith, pay, x);
      all = λ n le.
          let many = so-many (n - least) in
          let x = one-weighs (one_thread (running s)) in
          let ready = paid.ready in
          let enough = paid.places in
          let pay = runs-pay cost weight [] ((running (behind text d place s n), its-key n) ∷ places (n - least)) (least + 2) (w.at s.ip) (n + 2) ready (omega (arith, many, le))
          (omega (arith, enough), each-paid (reverse (numbers_from least (n - least)))) in
          omega (arith, pay, x);
    }

  module _ (text : Text) (a : Liveness) (questions : ℕ → List Question) (way : ℕ → Direction) (taken : Key → ℕ) (d : Direction) (test : ℕ → Bool) (s : State) (place least : ℕ)
      (paid : GreedyLoopCoversGroup program w key_cost ips least s.ip) where
    exits-weigh : (first count : ℕ) → weight (first_running_and_others_waiting (most_first text d first s 0 count)) ≤ w.at (s.ip + 2)
    exits-weigh first count = by (reverse (numbers_from 0 count))
      where
        by : (ns : List ℕ) → weight (first_running_and_others_waiting (map (behind text d first s) ns)) ≤ w.at (s.ip + 2)
        by [] = omega arith
        by (n ∷ ns) = omega arith

    without-group : GreedyLoopIsCovered program w key_cost ips least s.ip
    without-group = let enough = paid.ready in record { ready = omega (arith, enough); places = paid.places }

    ahead-paid : RunsAheadArePaid program w key_cost ips text a questions way taken d test s place least
    ahead-paid n le =
        let group = greedy_loop_threads text test d 0 (moved text d n place) s in
        let xs = places text a questions way taken d test s place least without-group (n - least) in
        let many = so-many text a questions way taken d test s place least without-group (n - least) in
        let x = one-weighs (one_thread (running s)) in
        let y = sum_by-cons (entry_potential weight) (thread_group group) (each_noted group xs) in
        let few = exits-weigh (moved text d n place) (passing text test d (moved text d n place) + 1 - 0) in
        let enough = paid.ready in
        let pay = runs-pay cost weight group xs (least + 2) (least + 2) (n + 2) (omega arith) (omega (arith, many, le))
        (each-paid text a questions way taken d test s place least without-group (reverse (numbers_from least (n - least)))) in
        omega (arith, pay, x, y, few, enough)

  module _ (text : Text) (a : Liveness) (questions : ℕ → List Question) (way : ℕ → Direction) (taken : Key → ℕ) (d : Direction) (test : ℕ → Bool) (s : State) (place least : ℕ)
      (paid : LazyLoopIsCovered program w key_cost ips least s.ip) where
    abbrev first-key : Key
    first-key = key_on program w key_cost ips text a questions way taken d test s place least 0

    kept-weighs : (n count : ℕ) → weight (map waiting (fewest_first text d place s n count)) ≤ w.at (s.ip + 2) + 1
    kept-weighs n zero = omega arith
    kept-weighs n (suc count) = omega arith

    lazy-up : IsCostCovered program w key_cost ips (least + 2) (one_thread (running s) ∷ [])
        (one_thread (running (behind text d place s least)) ∷ thread_group (pending_loop_threads text test d (least + 1) place s) ∷ [])
    lazy-up =
        let first = one-weighs (one_thread (running s)) in
        let x = sum_by-cons (entry_potential weight) (one_thread (running (behind text d place s least))) (thread_group (pending_loop_threads text test d (least + 1) place s) ∷ []) in
        let y = one-weighs (thread_group (pending_loop_threads text test d (least + 1) place s)) in
        let rest = kept-weighs (least + 1) (passing text test d place + 1 - (least + 1)) in
        let enough = paid.ready in
        omega (arith, first, x, y, rest, enough)

    lazy-again : IsCostCovered program w key_cost ips 2 (thread_group (pending_loop_threads text test d 0 place s) ∷ [])
        (one_thread (running (behind text d place s 0)) ∷ thread_group (pending_loop_threads text test d 1 place s) ∷ key_record first-key (pending_loop_threads text test d 0 place s) ∷ [])
    lazy-again =
        let some : passing text test d place + 1 - 0 ≡ suc (passing text test d place) = omega arith in
        let full : weight (pending_loop_threads text test d 0 place s) ≡ w.at (s.ip + 2) + 1 = ap (λ m. weight (map waiting (fewest_first text d place s 0 m))) some in
        let first = one-weighs (thread_group (pending_loop_threads text test d 0 place s)) in
        let k = key_record first-key (pending_loop_threads text test d 0 place s) in
        let x = sum_by-cons (entry_potential weight) (one_thread (running (behind text d place s 0))) (thread_group (pending_loop_threads text test d 1 place s) ∷ k ∷ []) in
        let y = sum_by-cons (entry_potential weight) (thread_group (pending_loop_threads text test d 1 place s)) (k ∷ []) in
        let z = one-weighs k in
        let rest = kept-weighs 1 (passing text test d place + 1 - 1) in
        let enough = paid.places in
        let last = sum_by-cons cost first-key [] in
        omega (arith, full, first, x, y, z, rest, enough, last)

pub turns-paid : StepCostsAreCovered
turns-paid = record {
  threads = λ program w key_cost ips paid text code d s. thread-paid program w key_cost ips paid text code d s;
  runs = λ program w key_cost ips text a questions way taken d test s place least paid.
      run-paid program w key_cost ips text a questions way taken d test s place least paid;
  runs_ahead = λ program w key_cost ips text a questions way taken d test s place least paid.
      ahead-paid program w key_cost ips text a questions way taken d test s place least paid;
  lazy_runs = λ program w key_cost ips text a questions way taken d test s place least paid. record {
    taken_up = lazy-up program w key_cost ips text a questions way taken d test s place least paid;
    again = lazy-again program w key_cost ips text a questions way taken d test s place least paid;
  };
}
