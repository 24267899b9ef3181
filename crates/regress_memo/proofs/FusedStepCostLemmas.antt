-- The costs of successive steps that are executed at once are covered together.
use Rattle.std.proofs.Common.{◌≡◌, ◌≤◌, ℕ, ◌+◌, ◌-◌, true, List, [], ◌∷◌, ◌++◌, sym, ap, ◌∙◌, arith, append-nil, sum_by}
use Rattle.std.proofs.lemmas.List.Sums.{sum_by-cons, sum_by-append}
use Rattle.regex_meaning.specs.Text.{Text, Direction}
use Rattle.regex_meaning.specs.CompilationRelation.{Program}
use Rattle.regress_machine.specs.Machine.{State, Thread, running, goes, act}
use Rattle.regress_memo.specs.MemoSearch.{Key, Entry, one_thread, key_record, thread_entries, keys_in, IsBare, entry_potential}
use Rattle.regress_memo.specs.ThreadPotentials.{Potentials, is_one_of}
use Rattle.regress_memo.specs.AmortizedStepCosts.{potential_by, IsCostCovered, AreCostsCovered}
use Rattle.regress_memo.specs.FusedStepCosts.{IsPaidBut, FusedCostsAreCovered}
use Rattle.regress_memo.proofs.MemoSearchLemmas.{keys-bare, keys-joined}
use Rattle.regress_memo.proofs.StepCostLemmas.{tries-weigh, one-weighs}
use Rattle.regress_memo.proofs.ThreadPotentialLemmas.{turns-weighed}

module _ (program : Program) (w : Potentials) (key_cost : ℕ → ℕ) (ips : List ℕ) where
  abbrev weigh : List Entry → ℕ
  weigh entries = sum_by (entry_potential (potential_by program w key_cost ips)) entries

  abbrev cost : List Key → ℕ
  cost ks = sum_by (λ (k : Key). key_cost k.ip) ks

  abbrev But : (owed work : ℕ) (front entries : List Entry) → Type 0
  But owed work front entries = IsPaidBut program w key_cost ips owed work front entries

  joined : (owed more work next : ℕ) (front bare entries rest : List Entry) → IsBare bare
      → But owed work front (bare ++ rest) → But more next bare entries → But (owed + more) (work + next) front (entries ++ rest)
  joined owed more work next front bare entries rest b h k =
      let x = sum_by-append (entry_potential (potential_by program w key_cost ips)) bare rest in
      let y = sum_by-append (entry_potential (potential_by program w key_cost ips)) entries rest in
      let its : cost (keys_in (bare ++ rest)) ≡ cost (keys_in rest) = ap cost (keys-bare bare rest b) in
      let all : cost (keys_in (entries ++ rest)) ≡ cost (keys_in entries) + cost (keys_in rest) =
      ap cost (keys-joined entries rest) ∙ sum_by-append (λ (k : Key). key_cost k.ip) (keys_in entries) (keys_in rest) in
      omega (arith, h, k, x, y, its, all)

  left-out : (owed work : ℕ) (front first out rest : List Entry) → IsBare out
      → But owed work front (first ++ (out ++ rest)) → But owed work front (first ++ rest)
  left-out owed work front first out rest b h =
      let x = sum_by-append (entry_potential (potential_by program w key_cost ips)) first (out ++ rest) in
      let y = sum_by-append (entry_potential (potential_by program w key_cost ips)) out rest in
      let z = sum_by-append (entry_potential (potential_by program w key_cost ips)) first rest in
      let same : cost (keys_in (first ++ (out ++ rest))) ≡ cost (keys_in (first ++ rest)) =
      ap cost (keys-joined first (out ++ rest) ∙ ap (λ ks. keys_in first ++ ks) (keys-bare out rest b) ∙ sym (keys-joined first rest)) in
      omega (arith, h, x, y, z, same)

  unrecorded : AreCostsCovered program w key_cost ips → (text : Text) (d : Direction) (s : State) (ts : List Thread)
      → act program text d s ≡ goes ts → is_one_of ips s.ip ≡ true → But (key_cost s.ip - 1) 1 (one_thread (running s) ∷ []) (thread_entries ts)
  unrecorded paid text d s ts e on =
      let x = one-weighs program w key_cost ips (one_thread (running s)) in
      let y = tries-weigh program w key_cost ips ts in
      let few = turns-weighed.weighed program text w paid.enough d s ts e in
      let enough = paid.recorded s.ip on in
      omega (arith, x, y, few, enough)

  settled : (owed work : ℕ) (front bare : List Entry) (k : Key) (ts : List Thread) → IsBare bare
      → But owed work front bare → owed + 1 ≤ key_cost k.ip → IsCostCovered program w key_cost ips work front (bare ++ key_record k ts ∷ [])
  settled owed work front bare k ts b h enough =
      let x = sum_by-append (entry_potential (potential_by program w key_cost ips)) bare (key_record k ts ∷ []) in
      let y = one-weighs program w key_cost ips (key_record k ts) in
      let none : cost (keys_in (bare ++ [])) ≡ 0 = ap cost (keys-bare bare [] b) in
      let same : cost (keys_in bare) ≡ cost (keys_in (bare ++ [])) = ap (λ (row : List Entry). cost (keys_in row)) (sym (append-nil bare)) in
      let its : cost (keys_in (bare ++ key_record k ts ∷ [])) ≡ cost (k ∷ []) = ap cost (keys-bare bare (key_record k ts ∷ []) b) in
      let last = sum_by-cons (λ (j : Key). key_cost j.ip) k [] in
      omega (arith, h, enough, x, y, none, same, its, last)

pub chains-pay : FusedCostsAreCovered
chains-pay program w key_cost ips = record {
  alone = λ work front entries h. omega (arith, h);
  joined = joined program w key_cost ips;
  left_out = left-out program w key_cost ips;
  unrecorded = unrecorded program w key_cost ips;
  whole = λ work front entries h. omega (arith, h);
  settled = settled program w key_cost ips;
}
