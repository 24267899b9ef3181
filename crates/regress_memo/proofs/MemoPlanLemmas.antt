-- A plan that passes its checks has keys that decide failure, memo steps, and linear work.
use Rattle.std.proofs.Common.{◌≡◌, ℕ, ◌+◌, ◌*◌, List, [], ◌∷◌, ◌++◌, Option, Some, None, Bool, true, false, refl, ap, ◌∙◌, sym, subst, arith, add-one, slice_get}
use Rattle.regex_meaning.specs.Text.{Text, Direction, rightwards, leftwards}
use Rattle.regex_meaning.specs.CodeUnitOffsets.{units, place_at}
use Rattle.regex_meaning.specs.CompilationRelation.{Program}
use Rattle.regress_machine.specs.Machine.{State, Thread, running, waiting, goes, asks, after_lookaround, state_with_ip, state_at_next_ip, act, test_of}
use Rattle.regress_machine.specs.ThreadSimulation.{Simulates}
use Rattle.regress_machine.proofs.ThreadSimulationLemmas.{simulates-goes, simulates-waits, simulates-asks}
use Rattle.regress_memo.specs.Liveness.{Liveness}
use Rattle.regress_memo.specs.MemoSearch.{Key, Keys, one_thread, key_record, thread_entries, threads_in, IsBare, GoesOnward, KeyStandsFor, IsMemoStep}
use Rattle.regress_memo.specs.LoopDataKeyCodes.{Question, plan_code, plan_codes, key_of}
use Rattle.regress_memo.specs.UnboundedCharLoopMemoKeys.{row_by, plan_rows, plan_keys, char_loop_greediness_at, insn_before}
use Rattle.regress_memo.specs.SkippedLookarounds.{LookaroundInsn, lookaround_at}
use Rattle.regress_memo.specs.MemoPlanChecksAndGuarantees.{IsPlan, RecordsNewKey, ThreadGives, LookGives, CheckedMemoPlansAreSound, steps_below_record_of_loop, ZeroOrOneStepBelowRecord}
use Rattle.regress_memo.proofs.SkippedLookaroundLemmas.{asks-there}
use Rattle.regress_memo.proofs.LoopDataKeyCodeLemmas.{plans-tell}
use Rattle.regress_memo.proofs.SharedMemoLookaroundLemmas.{looks-decided}
use Rattle.regress_memo.proofs.RightwardStepLemmas.{turns-move-on}
use Rattle.regress_memo.proofs.SuccessiveMatchLemmas.{attempts-few}
use Rattle.regress_memo.proofs.MemoSearchLemmas.{threads-tries}
use Rattle.regress_memo.proofs.ThreadPotentialLemmas.{places-keys, turns-give}

pub bare-tries : (ts : List Thread) → IsBare (thread_entries ts)
bare-tries [] = tt
bare-tries (t ∷ ts) = bare-tries ts

module _ (program : Program) (text : Text) (a : Liveness) (questions : ℕ → List Question) (way : ℕ → Direction) (ips : List ℕ) (taken : Key → ℕ) (plan : IsPlan program text a questions way ips taken) where
  abbrev keys : Keys
  keys = plan_keys program text a questions way ips taken

  module _ (memory : List Key) (s : State) where
    abbrev key : Key
    key = key_of (plan_code questions) s

    up-onward : (d : Direction) → GoesOnward d (waiting s ∷ []) (one_thread (running s) ∷ [])
    up-onward rightwards = (omega arith, tt, tt)
    up-onward leftwards = tt

    goes-onward : (d : Direction) (ts : List Thread) → act program text d s ≡ goes ts → GoesOnward d (running s ∷ []) (thread_entries ts)
    goes-onward rightwards ts e = turns-move-on.goes program text plan.liveness.is_text s ts e
    goes-onward leftwards ts e = tt

    noted-onward : (d : Direction) (ts : List Thread) → act program text d s ≡ goes ts → GoesOnward d (running s ∷ []) (thread_entries ts ++ key_record key (running s ∷ []) ∷ [])
    noted-onward rightwards ts e = turns-move-on.noted s.pos ts (running s ∷ []) key (turns-move-on.goes program text plan.liveness.is_text s ts e) refl
    noted-onward leftwards ts e = tt

    none-onward : (d : Direction) → GoesOnward d (running s ∷ []) []
    none-onward rightwards = tt
    none-onward leftwards = tt

    resumed-onward : (d : Direction) (negate : Bool) (t : State) → s.pos ≡ t.pos → (e : Option State) → GoesOnward d (running s ∷ []) (thread_entries (after_lookaround negate t e))
    resumed-onward leftwards negate t same e = tt
    resumed-onward rightwards false t same None = tt
    resumed-onward rightwards true t same None = (omega (arith, same), tt, tt)
    resumed-onward rightwards false t same (Some u) = (omega (arith, same), tt, tt)
    resumed-onward rightwards true t same (Some u) = tt

    module _ (d : Direction) where
      gives-on : (n : ℕ) (ts : List Thread) → Simulates program text false d n ts (running s ∷ []) → GoesOnward d (running s ∷ []) (thread_entries ts)
          → IsMemoStep program text a keys d memory (running s ∷ []) (thread_entries ts)
      gives-on n ts simulates on =
          (turns-give program text a keys d memory).passed n (thread_entries ts) (running s ∷ []) (bare-tries ts)
          (subst (λ us. Simulates program text false d n us (running s ∷ [])) (sym (threads-tries ts)) simulates) on

      step : (ts : List Thread) → act program text d s ≡ goes ts → Simulates program text false d 1 (threads_in (thread_entries ts)) (running s ∷ [])
      step ts e = subst (λ us. Simulates program text false d 1 us (running s ∷ [])) (sym (threads-tries ts)) (simulates-goes program text false d s ts e)

      pub own : RecordsNewKey program text a questions way ips taken d memory s → KeyStandsFor program text a keys d key (running s ∷ [])
      own r =
          plans-tell.has_key program text a questions way ips (plan_rows program text questions way) taken d s r.records r.goes r.of r.sound
          (ap (λ o. row_by program text questions way o (test_of program (slice_get program.insns s.ip)) (place_at text s.pos) key) r.no_body)

      thread-gives : ThreadGives program text a questions way ips taken d memory s
      thread-gives = record {
        taken_up = (turns-give program text a keys d memory).passed 1 (one_thread (running s) ∷ []) (waiting s ∷ []) tt (simulates-waits program text false d s) (up-onward d);
        turned = λ ts e. gives-on 1 ts (simulates-goes program text false d s ts e) (goes-onward d ts e);
        recorded = λ ts e r.
            let one = r.one in
            (turns-give program text a keys d memory).made 1 (thread_entries ts) (running s ∷ []) key (bare-tries ts) (step ts e) (own r)
            (omega (arith, one)) (omega (arith, one)) r.new (noted-onward d ts e);
      }

      module _ (look : LookaroundInsn) (is : lookaround_at (slice_get program.insns s.ip) ≡ Some look) where
        abbrev after-it : State
        after-it = state_with_ip look.continuation s

        asked : act program text d s ≡ asks look.inner look.negate (state_at_next_ip s) after-it
        asked = asks-there program text d s look (slice_get program.insns s.ip) is

        look-gives : LookGives program text a questions way ips taken d memory s look
        look-gives = record {
          searched = λ turns f e. gives-on (1 + f.steps) (after_lookaround look.negate after-it f.end)
              (simulates-asks program text false d look.inner look.negate s (state_at_next_ip s) after-it turns f asked e) (resumed-onward d look.negate after-it refl f.end);
          fails = λ none. gives-on 1 (after_lookaround look.negate after-it None)
              ((looks-decided program text d).fails look.inner look.negate s (state_at_next_ip s) after-it asked none) (resumed-onward d look.negate after-it refl None);
          reaches = λ negative found. gives-on 1 []
              ((looks-decided program text d).reaches look.inner s (state_at_next_ip s) after-it (asked ∙ ap (λ b. asks look.inner b (state_at_next_ip s) after-it) negative) found) (none-onward d);
        }

pub plans-take : ZeroOrOneStepBelowRecord
plans-take = record {
  threads = λ program k e. ap steps_below_record_of_loop e;
  greedy = λ program ip at code e. ap (λ i. steps_below_record_of_loop (char_loop_greediness_at (insn_before program i))) (add-one ip) ∙ ap steps_below_record_of_loop e;
  lazy = λ program ip at code e. ap (λ i. steps_below_record_of_loop (char_loop_greediness_at (insn_before program i))) (add-one ip) ∙ ap steps_below_record_of_loop e;
}

pub plans-serve : CheckedMemoPlansAreSound
plans-serve program text a questions way ips taken plan =
    let are = places-keys.are program text a way ips (plan_code questions) (plan_codes questions) (plan_rows program text questions way) taken plan.liveness plan.no_groups
    (plans-tell.tells questions a (units text) plan.asks) in
    record {
      keys = are;
      gives = λ d memory s. thread-gives program text a questions way ips taken plan memory s d;
      looks = λ d memory s look is. look-gives program text a questions way ips taken plan memory s d look is;
      linear = λ key_cost weight row from next looks work memory starts attempts last le.
          let few = attempts-few program text a (plan_keys program text a questions way ips taken) plan.liveness are (λ k. key_cost k.ip) weight row from next looks work memory starts attempts in
          let bound = few.linear last le in
          let cost = ap (λ n. 3 * n) (places-keys.cost ips (units text) (plan_codes questions) key_cost) in
          omega (arith, bound, cost);
    }
