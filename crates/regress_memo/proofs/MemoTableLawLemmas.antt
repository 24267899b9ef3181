-- The known keys of a memo table form a list that recording extends, and what is known of them is
-- true.
use Rattle.std.proofs.Common.{◌≡◌, ◌<◌, ◌≤◌, ℕ, ◌+◌, Bool, true, false, not, ◌&&◌, ◌||◌, List, [], ◌∷◌, Some, None, length, slice_get, if◌then◌else◌, refl, sym, ap, ◌∙◌, subst, arith}
use Rattle.std.specs.Prelude.{◌==◌, ◌*◌, min, nat_le, nat_lt, option_map, unwrap_or}
use mathlib.Core.Logic.{inl, inr}
use Rattle.std.proofs.lemmas.Bool.{both_ways, true≢false, true_from_ne_false, ltb-true, leb-true, or_cases, or_left, or_right, or_from, and_from, not-true, not_from_false}
use Rattle.std.proofs.Math.Bool.{or_assoc}
use Rattle.regex_meaning.proofs.BoolLemmas.{and-left, and-right}
use Rattle.regex_meaning.specs.Laws.{Each}
use Rattle.regex_meaning.specs.Text.{Text, Direction, moved}
use Rattle.regex_meaning.specs.CodeUnitOffsets.{place_at, offset, units}
use Rattle.regex_meaning.specs.CompilationRelation.{Program}
use Rattle.regress_machine.specs.Machine.{State, LoopData, Thread, running, test_of}
use Rattle.regress_machine.proofs.NearestCharacterLemmas.{moved-zero}
use Rattle.regress_machine.specs.CharLoopExitStatesByPreference.{behind}
use Rattle.regress_memo.specs.Liveness.{Agree, outermost}
use Rattle.regress_memo.specs.DistinctLists.{IsIn, IsNew, AreDistinct}
use Rattle.regress_memo.specs.LoopDataKeyCodes.{Question, is_empty, how_many, number_of_possible_answers, bool_as_digit, answer_to_loop_question, code_of, plan_code, plan_codes, key_of}
use Rattle.regress_memo.specs.LoopDataKeyCodes.{shape_of_only_thread_of_key, HasSlotsOfProgram}
use Rattle.regress_memo.specs.UnboundedCharLoopMemoKeys.{row_by, plan_rows, char_loop_greediness_at, insn_before, CharLoopRecords, run_key}
use Rattle.regress_memo.specs.MemoPlanChecksAndGuarantees.{plan_steps_below_record}
use Rattle.regress_memo.specs.MemoSearch.{Key, KeyStandsFor, IsKnown, known_to_fail, known_to_reach}
use Rattle.regress_memo.specs.ThreadPotentials.{is_one_of}
use Rattle.regress_memo.proofs.LoopDataKeyCodeLemmas.{plans-tell}
use Rattle.regress_memo.proofs.ThreadPotentialLemmas.{in-places}
use Rattle.regress_memo.specs.declared.analysis_result.MemoAnalysis.{MemoAnalysis}
use Rattle.regress_memo.specs.AnalysisAsPotentials.{insn_analysis_of, analysis_as_liveness, key_code_questions_of, insn_direction, recorded}
use Rattle.regress_memo.specs.CheckedAnalysis.{IsRecordableMemoKey, IsAnalysisOf}
use Rattle.regress_memo.proofs.CheckedAnalysisLemmas.{recorded-is, not-recorded}
use Rattle.regress_memo.specs.MemoContractView.{MemoView}
use Rattle.regress_memo.specs.MemoContents.{same_key, memo_key_at, has_failure, has_success, knows, IsEmptyMemo, RecordsFailure, RecordsSuccess}
use Rattle.regress_memo.specs.Laws.{analysis_keys, KeyFails, KeySucceeds, IsTrueOf, ListsExactlyKnownKeys, HasMemory, RecordingAddsKnownKeys, MemosAreSound, KeysAreThoseWithBits}
use Rattle.regress_memo.proofs.MemoContentsLemmas.{same-is, same-itself, bit-there, line-there}

-- ---- Lists without repetition

hold-none : (known : Key → Bool) → ((k : Key) → known k ≡ false) → ListsExactlyKnownKeys known []
hold-none known none = record { only = λ k h. absurd h; all = λ k h. both_ways (known k) (none k) h }

new-key : (known : Key → Bool) (k : Key) → known k ≡ false → (memory : List Key) → ((j : Key) → IsIn j memory → known j ≡ true) → IsNew k memory
new-key known k unknown [] only = tt
new-key known k unknown (j ∷ memory) only = (
  λ same. both_ways (known k) unknown (subst (λ i. known i ≡ true) same (only j (inl refl))),
  new-key known k unknown memory (λ i h. only i (inr h)),
)

hold-more : (k : Key) (before after : Key → Bool) (memory : List Key) → ((j : Key) → after j ≡ (before j || same_key j k))
    → ListsExactlyKnownKeys before memory → ListsExactlyKnownKeys after (k ∷ memory)
hold-more k before after memory more h = record { only = only; all = all }
  where
    only : (j : Key) → IsIn j (k ∷ memory) → after j ≡ true
    only j (inl is) = more j ∙ or_right (before j) (same_key j k) (subst (λ i. same_key i k ≡ true) is (same-itself k))
    only j (inr in_it) = more j ∙ or_left (before j) (same_key j k) (h.only j in_it)

    all : (j : Key) → after j ≡ true → IsIn j (k ∷ memory)
    all j known = elim (or_cases (before j) (same_key j k) (sym (more j) ∙ known)) [
      | inl e ↦ inr (h.all j e)
      | inr e ↦ inl (sym (same-is j k e))
    ]

hold-same : (before after : Key → Bool) (memory : List Key) → ((j : Key) → after j ≡ before j) → ListsExactlyKnownKeys before memory → ListsExactlyKnownKeys after memory
hold-same before after memory same h = record { only = λ j x. same j ∙ h.only j x; all = λ j known. h.all j (sym (same j) ∙ known) }

or-last : (a b c : Bool) → ((a || c) || b) ≡ ((a || b) || c)
or-last true b c = refl
or-last false true true = refl
or-last false true false = refl
or-last false false true = refl
or-last false false false = refl

pub memos-hold : RecordingAddsKnownKeys
memos-hold = record {
  begun = λ t places records_successes m b. (
    hold-none (has_failure m) b.failures,
    hold-none (knows m) (λ k. or_from (has_failure m k) (has_success m k) (b.failures k) (b.ends k)),
  );
  new = λ known memory k h unknown. new-key known k unknown memory h.only;
  failure = λ k m n memory notes h. hold-more k (has_failure m) (has_failure n) memory notes.failures h;
  known_failure = λ k m n memory notes h.
      hold-more k (knows m) (knows n) memory
      (λ j. ap (λ b. b || has_success n j) (notes.failures j) ∙ ap (λ b. (has_failure m j || same_key j k) || b) (notes.ends j)
      ∙ or-last (has_failure m j) (has_success m j) (same_key j k)) h;
  end = λ k m n memory notes h. hold-same (has_failure m) (has_failure n) memory notes.failures h;
  known_end = λ k m n memory notes h.
      hold-more k (knows m) (knows n) memory
      (λ j. ap (λ b. b || has_success n j) (notes.failures j) ∙ ap (λ b. has_failure m j || b) (notes.ends j)
      ∙ sym (or_assoc (has_failure m j) (has_success m j) (same_key j k))) h;
}

-- ---- Keys of a memo table

pub records-there : (t : MemoAnalysis) (ip : ℕ) → (insn_analysis_of t ip).records ≡ true → is_one_of (recorded t) ip ≡ true
records-there t ip records = true_from_ne_false (is_one_of (recorded t) ip) (λ other. true≢false (not-recorded t ip other true records))

module _ (program : Program) (text : Text) (t : MemoAnalysis) (of : IsAnalysisOf program t) where
  key-has-bit : (d : Direction) (k : Key) (ts : List Thread)
      → KeyStandsFor program text (analysis_as_liveness t) (analysis_keys program text t) d k ts → IsRecordableMemoKey t (units text + 1) k
  key-has-bit d k ts is =
      let h = is.is_of in
      let h1 = and-right (nat_lt k.code (plan_codes (key_code_questions_of t) k.ip)) _ h in
      let records : (insn_analysis_of t k.ip).records ≡ true = recorded-is t k.ip (and-left _ _ (and-right (nat_le k.at (units text)) _ h1)) in
      let there : k.ip < length t.lines.items = line-there t k.ip (insn_analysis_of t k.ip) refl records in
      let code : k.code < plan_codes (key_code_questions_of t) k.ip = ltb-true k.code (plan_codes (key_code_questions_of t) k.ip) (and-left _ _ h) in
      let within : k.at ≤ units text = leb-true k.at (units text) (and-left _ _ h1) in
      let counted = of.coded.counted k.ip there in
      record { there = there; records = records; at = omega (arith, within); code = omega (arith, code, counted) }

  key-inside : (k : Key) → IsRecordableMemoKey t (units text + 1) k → IsIn k (analysis_keys program text t).all
  key-inside k has =
      let counted = of.coded.counted k.ip has.there in
      let code = has.code in
      let at = has.at in
      in-places (units text) (plan_codes (key_code_questions_of t)) k.ip k.code k.at (omega (arith, at)) (omega (arith, code, counted))
      (recorded t) (records-there t k.ip has.records)

module _ (program : Program) (text : Text) (t : MemoAnalysis) where
  pub thread-key : (d : Direction) (s : State) (k : Key) → memo_key_at t s ≡ Some k → char_loop_greediness_at (insn_before program s.ip) ≡ None
      → insn_direction t s.ip ≡ d → HasSlotsOfProgram program s → Agree (analysis_as_liveness t) (units text) outermost d s s
      → KeyStandsFor program text (analysis_as_liveness t) (analysis_keys program text t) d k (running s ∷ [])
  thread-key d s k is no_body way of_program sound = by (insn_analysis_of t s.ip).records refl is
    where
      by : (b : Bool) → (insn_analysis_of t s.ip).records ≡ b → (if b then Some (key_of (plan_code (key_code_questions_of t)) s) else None) ≡ Some k
          → KeyStandsFor program text (analysis_as_liveness t) (analysis_keys program text t) d k (running s ∷ [])
      by false e h = cc
      by true e h =
          let key = key_of (plan_code (key_code_questions_of t)) s in
          let same : key ≡ k = cc in
          let rows = plan_rows program text (key_code_questions_of t) (insn_direction t) in
          let own : rows key ≡ shape_of_only_thread_of_key key =
          ap (λ o. row_by program text (key_code_questions_of t) (insn_direction t) o (test_of program (slice_get program.insns s.ip)) (place_at text s.pos) key) no_body in
          subst (λ j. KeyStandsFor program text (analysis_as_liveness t) (analysis_keys program text t) d j (running s ∷ [])) same
          (plans-tell.has_key program text (analysis_as_liveness t) (key_code_questions_of t) (insn_direction t) (recorded t) rows (plan_steps_below_record program) d s
          (records-there t s.ip e) way of_program sound own)

-- Answers to a question are the same for states of the same offset and loop data.
answer-same : (q : Question) (u v : State) → u.pos ≡ v.pos → u.loops ≡ v.loops → answer_to_loop_question q u ≡ answer_to_loop_question q v
answer-same (is_empty l) u v pos loops =
    ap (λ n. unwrap_or (option_map (λ (x : LoopData). bool_as_digit (x.entry == n)) (slice_get u.loops l)) 0) pos
    ∙ ap (λ ls. unwrap_or (option_map (λ (x : LoopData). bool_as_digit (x.entry == v.pos)) (slice_get ls l)) 0) loops
answer-same (how_many l most) u v pos loops = ap (λ ls. unwrap_or (option_map (λ (x : LoopData). min x.iters most) (slice_get ls l)) 0) loops

code-same : (qs : List Question) (u v : State) → u.pos ≡ v.pos → u.loops ≡ v.loops → code_of qs u ≡ code_of qs v
code-same [] u v pos loops = refl
code-same (q ∷ qs) u v pos loops =
    ap (λ n. n + number_of_possible_answers q * code_of qs u) (answer-same q u v pos loops) ∙ ap (λ n. answer_to_loop_question q v + number_of_possible_answers q * n) (code-same qs u v pos loops)

run-key-is : (program : Program) (text : Text) (t : MemoAnalysis) (d : Direction) (test : ℕ → Bool) (greedy : Bool) (s : State) (place : ℕ)
    → CharLoopRecords program (analysis_as_liveness t) (key_code_questions_of t) (insn_direction t) (recorded t) d test greedy s.ip
    → memo_key_at t (record s { ip = s.ip + 1; pos = offset text place })
    ≡ Some (run_key program text (analysis_as_liveness t) (key_code_questions_of t) (insn_direction t) (recorded t) (plan_steps_below_record program) d place s)
run-key-is program text t d test greedy s place r =
    let u : State = record s { ip = s.ip + 1; pos = offset text place } in
    let v : State = behind text d place s 0 in
    let records : (insn_analysis_of t (s.ip + 1)).records ≡ true = recorded-is t (s.ip + 1) r.records in
    let pos : offset text place ≡ offset text (moved text d 0 place) = ap (λ p. offset text p) (sym (moved-zero text d place)) in
    let code : code_of (key_code_questions_of t (s.ip + 1)) u ≡ code_of (key_code_questions_of t (s.ip + 2)) v =
    ap (λ qs. code_of qs u) r.asks ∙ code-same (key_code_questions_of t (s.ip + 2)) u v pos refl in
    let make : ℕ → Key = λ c. record { ip = s.ip + 1; at = offset text place; code = c } in
    ap (λ b. if b then Some (key_of (plan_code (key_code_questions_of t)) u) else None) records ∙ ap (λ c. Some (make c)) code

pub keys-are-there : KeysAreThoseWithBits
keys-are-there = record { has_bit = key-has-bit; inside = key-inside; thread = λ program text t of. thread-key program text t; run = run-key-is }

-- ---- Known keys are true

true-begun : (program : Program) (text : Text) (t : MemoAnalysis) (records_successes : Bool) (m : MemoView)
    → IsAnalysisOf program t → IsEmptyMemo t (units text + 1) records_successes m → IsTrueOf program text m
true-begun program text t records_successes m of b = record {
  of = subst (λ x. IsAnalysisOf program x) (sym b.memo_analysis) of;
  places = b.places;
  fails = λ k h. absurd (both_ways (has_failure m k) (b.failures k) h);
  reaches = λ k h. absurd (both_ways (has_success m k) (b.ends k) h);
}

module _ (program : Program) (text : Text) (k : Key) (m n : MemoView) where
  true-failure : RecordsFailure k m n → KeyFails program text m.memo_analysis k → IsTrueOf program text m → IsTrueOf program text n
  true-failure notes fails is = record {
    of = subst (λ t. IsAnalysisOf program t) (sym notes.same.memo_analysis) is.of;
    places = notes.same.places ∙ is.places;
    fails = λ j known.
        subst (λ t. KeyFails program text t j) (sym notes.same.memo_analysis)
        (elim (or_cases (has_failure m j) (same_key j k) (sym (notes.failures j) ∙ known)) [
          | inl e ↦ is.fails j e
          | inr e ↦ subst (λ i. KeyFails program text m.memo_analysis i) (sym (same-is j k e)) fails
        ]);
    reaches = λ j known. subst (λ t. KeySucceeds program text t j) (sym notes.same.memo_analysis) (is.reaches j (sym (notes.ends j) ∙ known));
  }

  true-end : RecordsSuccess k m n → KeySucceeds program text m.memo_analysis k → IsTrueOf program text m → IsTrueOf program text n
  true-end notes reaches is = record {
    of = subst (λ t. IsAnalysisOf program t) (sym notes.same.memo_analysis) is.of;
    places = notes.same.places ∙ is.places;
    fails = λ j known. subst (λ t. KeyFails program text t j) (sym notes.same.memo_analysis) (is.fails j (sym (notes.failures j) ∙ known));
    reaches = λ j known.
        subst (λ t. KeySucceeds program text t j) (sym notes.same.memo_analysis)
        (elim (or_cases (has_success m j) (same_key j k) (sym (notes.ends j) ∙ known)) [
          | inl e ↦ is.reaches j e
          | inr e ↦ subst (λ i. KeySucceeds program text m.memo_analysis i) (sym (same-is j k e)) reaches
        ]);
  }

-- ---- The list of known keys

-- `chosen` lists the keys that pass a test, without repetitions.
chosen : (f : Key → Bool) → List Key → List Key
chosen f [] = []
chosen f (k ∷ ks) = if f k then k ∷ chosen (λ j. f j && not (same_key j k)) ks else chosen f ks

chosen-are : (f : Key → Bool) (ks : List Key) (j : Key) → IsIn j (chosen f ks) → (f j ≡ true) × IsIn j ks
unfolding chosen
chosen-are f [] j h = absurd h
chosen-are f (k ∷ ks) j h = by (λ x. chosen-are (λ i. f i && not (same_key i k)) ks j x) (λ x. chosen-are f ks j x) (f k) refl h
  where
    by : (IsIn j (chosen (λ i. f i && not (same_key i k)) ks) → ((f j && not (same_key j k)) ≡ true) × IsIn j ks)
        → (IsIn j (chosen f ks) → (f j ≡ true) × IsIn j ks) → (b : Bool) → f k ≡ b
        → IsIn j (if b then k ∷ chosen (λ i. f i && not (same_key i k)) ks else chosen f ks) → (f j ≡ true) × IsIn j (k ∷ ks)
    by others on true e (inl is) = (subst (λ i. f i ≡ true) is e, inl is)
    by others on true e (inr x) = let r = others x in (and-left _ _ r.0, inr r.1)
    by others on false e x = let r = on x in (r.0, inr r.1)

in-chosen : (f : Key → Bool) (ks : List Key) (j : Key) → f j ≡ true → IsIn j ks → IsIn j (chosen f ks)
unfolding chosen
in-chosen f [] j h x = absurd x
in-chosen f (k ∷ ks) j h x = by (λ o y. in-chosen (λ i. f i && not (same_key i k)) ks j o y) (λ y. in-chosen f ks j h y) (f k) refl x
  where
    other : (b : Bool) → same_key j k ≡ b
        → (((f j && not (same_key j k)) ≡ true) → IsIn j (chosen (λ i. f i && not (same_key i k)) ks))
        → IsIn j (k ∷ chosen (λ i. f i && not (same_key i k)) ks)
    other true e on = inl (sym (same-is j k e))
    other false e on = inr (on (and_from (f j) (not (same_key j k)) h (not_from_false (same_key j k) e)))

    by : (((f j && not (same_key j k)) ≡ true) → IsIn j ks → IsIn j (chosen (λ i. f i && not (same_key i k)) ks))
        → (IsIn j ks → IsIn j (chosen f ks)) → (b : Bool) → f k ≡ b → IsIn j (k ∷ ks)
        → IsIn j (if b then k ∷ chosen (λ i. f i && not (same_key i k)) ks else chosen f ks)
    by others on true e (inl is) = inl is
    by others on true e (inr y) = other (same_key j k) refl (λ o. others o y)
    by others on false e (inl is) = absurd (both_ways (f k) e (subst (λ i. f i ≡ true) (sym is) h))
    by others on false e (inr y) = on y

each-in : (P : Key → Type 0) (ks : List Key) → ((k : Key) → IsIn k ks → P k) → Each P ks
each-in P [] h = tt
each-in P (k ∷ ks) h = (h k (inl refl), each-in P ks (λ j x. h j (inr x)))

chosen-distinct : (f : Key → Bool) (ks : List Key) → AreDistinct (chosen f ks)
unfolding chosen
chosen-distinct f [] = tt
chosen-distinct f (k ∷ ks) = by (chosen-distinct (λ i. f i && not (same_key i k)) ks) (chosen-distinct f ks) (f k)
  where
    new : IsNew k (chosen (λ i. f i && not (same_key i k)) ks)
    new =
        each-in (λ j. j ≡ k → ⊥) (chosen (λ i. f i && not (same_key i k)) ks)
        (λ j x same.
        let r = chosen-are (λ i. f i && not (same_key i k)) ks j x in
        both_ways (same_key j k) (not-true (same_key j k) (and-right (f j) (not (same_key j k)) r.0)) (subst (λ i. same_key i k ≡ true) (sym same) (same-itself k)))

    by : AreDistinct (chosen (λ i. f i && not (same_key i k)) ks) → AreDistinct (chosen f ks) → (b : Bool)
        → AreDistinct (if b then k ∷ chosen (λ i. f i && not (same_key i k)) ks else chosen f ks)
    by others on true = (new, others)
    by others on false = on

module _ (program : Program) (text : Text) (m : MemoView) (is : IsTrueOf program text m) where
  known-has-bit : (k : Key) → knows m k ≡ true → IsRecordableMemoKey m.memo_analysis (units text + 1) k
  known-has-bit k h =
      subst (λ n. IsRecordableMemoKey m.memo_analysis n k) is.places
      (elim (or_cases (has_failure m k) (has_success m k) h) [
        | inl e ↦ bit-there m.memo_analysis m.places k (and-left _ _ e)
        | inr e ↦ bit-there m.memo_analysis m.places k (and-left _ _ (and-right _ _ e))
      ])

  known-is : (k : Key) → knows m k ≡ true → IsKnown program text (analysis_as_liveness m.memo_analysis) (analysis_keys program text m.memo_analysis) k
  known-is k h = elim (or_cases (has_failure m k) (has_success m k) h) [
    | inl e ↦ known_to_fail (is.fails k e)
    | inr e ↦ known_to_reach (is.reaches k e)
  ]

  has-memory : (known : Key → Bool) → ((k : Key) → known k ≡ true → knows m k ≡ true) → HasMemory program text m known
  has-memory known some =
      let all = (analysis_keys program text m.memo_analysis).all in
      record {
        memory = chosen known all;
        holds = record {
          only = λ k h. (chosen-are known all k h).0;
          all = λ k h. in-chosen known all k h (key-inside program text m.memo_analysis is.of k (known-has-bit k (some k h)));
        };
        is = record {
          known =
              each-in (IsKnown program text (analysis_as_liveness m.memo_analysis) (analysis_keys program text m.memo_analysis)) (chosen known all)
              (λ k h. known-is k (some k (chosen-are known all k h).0));
          distinct = chosen-distinct known all;
          inside = each-in (λ k. IsIn k all) (chosen known all) (λ k h. (chosen-are known all k h).1);
        };
      }

pub memos-are-true : MemosAreSound
memos-are-true = record {
  begun = true-begun;
  failure = true-failure;
  end = true-end;
  failures = λ program text m is. has-memory program text m is (has_failure m) (λ k h. or_left (has_failure m k) (has_success m k) h);
  all = λ program text m is. has-memory program text m is (knows m) (λ k h. h);
}
