-- An analysis that passes the checks of each instruction is correct, and is a memo plan in each
-- text.
use Rattle.std.proofs.Common.{◌≡◌, ◌<◌, ◌≤◌, ℕ, zero, suc, ◌+◌, Bool, true, false, ◌&&◌, ◌||◌, List, [], ◌∷◌, ◌⊎◌, Option, Some, None, refl, ap, ◌∙◌, sym, subst, arith, length, map, slice_get}
use Rattle.std.proofs.Common.{if◌then◌else◌, take}
use Rattle.std.specs.Prelude.{◌==◌, nat_le, nat_lt, unwrap_or}
use mathlib.Core.Logic.{inl, inr}
use Rattle.std.proofs.lemmas.Bool.{cases_lt, eq-eqb, eqb-true, lt-ltb, and_parts}
use Rattle.std.proofs.lemmas.Option.{slice_get_past}
use Rattle.std.proofs.lemmas.List.{length-map}
use Rattle.regex_meaning.specs.StartPredicate.{start_arbitrary}
use Rattle.regex_meaning.specs.CompilationRelation.{Program, Insn}
use Rattle.regress_program.specs.InsnsAsSpec.{insn_as_spec_insn}
use Rattle.regress_program.specs.declared.instructions.Insn as declared
use Rattle.regress_memo.specs.LoopDataKeyCodes.{Question, is_empty, how_many, codes_of, plan_codes}
use Rattle.regress_memo.specs.DistinctLists.{IsIn}
use Rattle.regress_memo.specs.MemoPlanChecksAndGuarantees.{IsPlan, plan_steps_below_record}
use Rattle.regress_memo.proofs.MemoPlanLemmas.{plans-serve}
use Rattle.regress_memo.specs.ThreadPotentials.{is_one_of}
use Rattle.regress_memo.specs.declared.analysis_result.EnclosingLoop.{EnclosingLoop}
use Rattle.regress_memo.specs.declared.analysis_result.InsnAnalysis.{InsnAnalysis}
use Rattle.regress_memo.specs.declared.analysis_result.MemoAnalysis.{MemoAnalysis}
use Rattle.regress_memo.specs.declared.analysis_result.LoopProgressFact.TheVariants.{Inside, Empty}
use Rattle.regress_memo.specs.AnalysisAsPotentials.{no_insn_analysis, insn_analysis_of, rows_in, enclosing_loops_of, states_loop_fact, count_bound_of, analysis_as_liveness, with_count_question}
use Rattle.regress_memo.specs.AnalysisAsPotentials.{questions_on, key_code_questions_of, recorded_from, recorded, insn_direction}
use Rattle.regress_memo.specs.Successors.{DeclaredInsnsEqualProgramInsns, successors_of_insn_if_any}
use Rattle.regress_memo.specs.AnalysisChecks.{IsConsistentAt, IsCoveredAt, IsInsnCostCovered, IsInsnChecked}
use Rattle.regress_memo.specs.CheckedAnalysis.{IsAnalysisOf, FirstInsnForwardOutsideLoops, AnalysesAreMemoPlans}
use Rattle.regress_memo.proofs.LoopFactFlowLemmas.{holds-there, holds-more}
use Rattle.regress_memo.proofs.AnalysisCheckLemmas.{right-at, enough-at, silent-at, look-right}

-- ---- Instructions that record

-- An instruction whose line records is one of those that record.
is-recorded : (lines : List InsnAnalysis) (first k : ℕ) (x : InsnAnalysis) → slice_get lines k ≡ Some x → x.records ≡ true
    → is_one_of (recorded_from first lines) (first + k) ≡ true
is-recorded [] first k x there e = cc
is-recorded (y ∷ lines) first zero x there e =
    let same : y ≡ x = cc in
    let yes_y : y.records ≡ true = ap (λ (z : InsnAnalysis). z.records) same ∙ e in
    let here : (first == (first + 0)) ≡ true = eq-eqb first (first + 0) (omega arith) in
    ap (λ b. is_one_of (if b then first ∷ recorded_from (first + 1) lines else recorded_from (first + 1) lines) (first + 0)) yes_y
    ∙ ap (λ b. b || is_one_of (recorded_from (first + 1) lines) (first + 0)) here
is-recorded (y ∷ lines) first (suc k) x there e =
    let later : is_one_of (recorded_from (first + 1) lines) (first + 1 + k) ≡ true = is-recorded lines (first + 1) k x there e in
    let at : first + 1 + k ≡ first + suc k = omega arith in
    with-more (subst (λ n. is_one_of (recorded_from (first + 1) lines) n ≡ true) at later) y.records
  where
    or-yes : (a b : Bool) → b ≡ true → (a || b) ≡ true
    or-yes true b e = refl
    or-yes false b e = e

    with-more : is_one_of (recorded_from (first + 1) lines) (first + suc k) ≡ true → (b : Bool)
        → is_one_of (if b then first ∷ recorded_from (first + 1) lines else recorded_from (first + 1) lines) (first + suc k) ≡ true
    with-more h true = or-yes (first == (first + suc k)) (is_one_of (recorded_from (first + 1) lines) (first + suc k)) h
    with-more h false = h

-- The instruction `ip` has a line among `lines`, and that line records.
pub record Records (lines : List InsnAnalysis) (first ip : ℕ) : Type 0 where
  pub k : ℕ
  pub line : InsnAnalysis
  pub is : ip ≡ first + k
  pub there : slice_get lines k ≡ Some line
  pub records : line.records ≡ true

records-of : (lines : List InsnAnalysis) (first ip : ℕ) → is_one_of (recorded_from first lines) ip ≡ true → Records lines first ip
records-of [] first ip e = cc
records-of (y ∷ lines) first ip e = by (λ h. later (records-of lines (first + 1) ip h)) y.records refl e
  where
    later : Records lines (first + 1) ip → Records (y ∷ lines) first ip
    later r = record { k = suc r.k; line = r.line; is = let i = r.is in omega (arith, i); there = r.there; records = r.records }

    here : y.records ≡ true → (is_one_of (recorded_from (first + 1) lines) ip ≡ true → Records (y ∷ lines) first ip)
        → (b : Bool) → (first == ip) ≡ b → (b || is_one_of (recorded_from (first + 1) lines) ip) ≡ true → Records (y ∷ lines) first ip
    here r on true same h =
        let i = eqb-true first ip same in
        record { k = 0; line = y; is = omega (arith, i); there = refl; records = r }
    here r on false other h = on h

    by : (is_one_of (recorded_from (first + 1) lines) ip ≡ true → Records (y ∷ lines) first ip) → (b : Bool) → y.records ≡ b
        → is_one_of (if b then first ∷ recorded_from (first + 1) lines else recorded_from (first + 1) lines) ip ≡ true
        → Records (y ∷ lines) first ip
    by on true r h = here r on (first == ip) refl h
    by on false r h = on h

pub recorded-is : (t : MemoAnalysis) (ip : ℕ) → is_one_of (recorded t) ip ≡ true → (insn_analysis_of t ip).records ≡ true
recorded-is t ip h =
    let r = records-of t.lines.items 0 ip h in
    let at : ip ≡ r.k = let i = r.is in omega (arith, i) in
    let there : insn_analysis_of t ip ≡ r.line = ap (λ k. insn_analysis_of t k) at ∙ ap (λ o. unwrap_or o no_insn_analysis) r.there in
    ap (λ (x : InsnAnalysis). x.records) there ∙ r.records

pub not-recorded : (t : MemoAnalysis) (ip : ℕ) → is_one_of (recorded t) ip ≡ false → (b : Bool) → (insn_analysis_of t ip).records ≡ b → b ≡ false
not-recorded t ip h false e = refl
not-recorded t ip h true e = by (slice_get t.lines.items ip) refl
  where
    by : (o : Option InsnAnalysis) → slice_get t.lines.items ip ≡ o → true ≡ false
    by None none =
        let is : insn_analysis_of t ip ≡ no_insn_analysis = ap (λ o. unwrap_or o no_insn_analysis) none in
        let no : (insn_analysis_of t ip).records ≡ false = ap (λ (x : InsnAnalysis). x.records) is in cc
    by (Some x) there =
        let is : insn_analysis_of t ip ≡ x = ap (λ o. unwrap_or o no_insn_analysis) there in
        let r : x.records ≡ true = sym (ap (λ (x : InsnAnalysis). x.records) is) ∙ e in
        let one = is-recorded t.lines.items 0 ip x there r in
        let at : 0 + ip ≡ ip = omega arith in
        let one_at : is_one_of (recorded t) ip ≡ true = subst (λ n. is_one_of (recorded t) n ≡ true) at one in
        cc

-- ---- Questions of keys

in-if : (q x : Question) (b : Bool) (qs : List Question) → IsIn q qs → IsIn q (if b then x ∷ qs else qs)
in-if q x true qs h = inr h
in-if q x false qs h = h

head-if : (q x : Question) (b : Bool) (qs : List Question) → b ≡ true → x ≡ q → IsIn q (if b then x ∷ qs else qs)
head-if q x true qs e is = inl is
head-if q x false qs e is = cc

out-if : (q x : Question) (b : Bool) (qs : List Question) → IsIn q (if b then x ∷ qs else qs) → ((b ≡ true) × (x ≡ q)) ⊎ IsIn q qs
out-if q x true qs (inl is) = inl (refl, is)
out-if q x true qs (inr h) = inr h
out-if q x false qs h = inr h

module _ (up : ℕ → ℕ) where
  asked-empty : (l : ℕ) (rows : List EnclosingLoop) → states_loop_fact Empty l rows ≡ true → IsIn (is_empty l) (questions_on up rows)
  asked-empty l [] h = cc
  asked-empty l (r ∷ rows) h = by (λ k. asked-empty l rows k) ((r.id == l) && r.empty) refl
    where
      by : (states_loop_fact Empty l rows ≡ true → IsIn (is_empty l) (questions_on up rows)) → (b : Bool) → ((r.id == l) && r.empty) ≡ b
          → IsIn (is_empty l) (questions_on up (r ∷ rows))
      by on true e =
          let both = and_parts (r.id == l) r.empty e in
          head-if (is_empty l) (is_empty r.id) r.empty (with_count_question r (up r.id) (questions_on up rows)) both.1
          (ap (λ i. is_empty i) (eqb-true r.id l both.0))
      by on false e =
          in-if (is_empty l) (is_empty r.id) r.empty (with_count_question r (up r.id) (questions_on up rows))
          (in-if (is_empty l) (how_many r.id (up r.id)) (nat_lt 0 (up r.id)) (questions_on up rows)
          (on (sym (ap (λ b. b || states_loop_fact Empty l rows) e) ∙ h)))

  asked-count : (l : ℕ) (rows : List EnclosingLoop) → states_loop_fact Inside l rows ≡ true → 0 < up l → IsIn (how_many l (up l)) (questions_on up rows)
  asked-count l [] h some = cc
  asked-count l (r ∷ rows) h some = by (λ k. asked-count l rows k some) ((r.id == l) && true) refl
    where
      by : (states_loop_fact Inside l rows ≡ true → IsIn (how_many l (up l)) (questions_on up rows)) → (b : Bool) → ((r.id == l) && true) ≡ b
          → IsIn (how_many l (up l)) (questions_on up (r ∷ rows))
      by on true e =
          let is = eqb-true r.id l (and_parts (r.id == l) true e).0 in
          in-if (how_many l (up l)) (is_empty r.id) r.empty (with_count_question r (up r.id) (questions_on up rows))
          (head-if (how_many l (up l)) (how_many r.id (up r.id)) (nat_lt 0 (up r.id)) (questions_on up rows)
          (lt-ltb 0 (up r.id) (subst (λ i. 0 < up i) (sym is) some)) (ap (λ i. how_many i (up i)) is))
      by on false e =
          in-if (how_many l (up l)) (is_empty r.id) r.empty (with_count_question r (up r.id) (questions_on up rows))
          (in-if (how_many l (up l)) (how_many r.id (up r.id)) (nat_lt 0 (up r.id)) (questions_on up rows)
          (on (sym (ap (λ b. b || states_loop_fact Inside l rows) e) ∙ h)))

  empty-asked : (l : ℕ) (rows : List EnclosingLoop) → IsIn (is_empty l) (questions_on up rows) → (states_loop_fact Inside l rows ≡ true) × (states_loop_fact Empty l rows ≡ true)
  empty-asked l [] h = absurd h
  empty-asked l (r ∷ rows) h =
      by (λ k. empty-asked l rows k) (out-if (is_empty l) (is_empty r.id) r.empty (with_count_question r (up r.id) (questions_on up rows)) h)
    where
      behind : (IsIn (is_empty l) (questions_on up rows) → (states_loop_fact Inside l rows ≡ true) × (states_loop_fact Empty l rows ≡ true))
          → ((nat_lt 0 (up r.id) ≡ true) × (how_many r.id (up r.id) ≡ is_empty l)) ⊎ IsIn (is_empty l) (questions_on up rows)
          → (states_loop_fact Inside l (r ∷ rows) ≡ true) × (states_loop_fact Empty l (r ∷ rows) ≡ true)
      behind on (inl (b, e)) = (cc, cc)
      behind on (inr h) = let both = on h in (holds-more Inside l r rows both.0, holds-more Empty l r rows both.1)

      by : (IsIn (is_empty l) (questions_on up rows) → (states_loop_fact Inside l rows ≡ true) × (states_loop_fact Empty l rows ≡ true))
          → ((r.empty ≡ true) × (is_empty r.id ≡ is_empty l)) ⊎ IsIn (is_empty l) (with_count_question r (up r.id) (questions_on up rows))
          → (states_loop_fact Inside l (r ∷ rows) ≡ true) × (states_loop_fact Empty l (r ∷ rows) ≡ true)
      by on (inl (b, e)) =
          let is : r.id ≡ l = cc in
          (holds-there Inside l (r ∷ rows) 0 r refl is refl, holds-there Empty l (r ∷ rows) 0 r refl is b)
      by on (inr h) = behind on (out-if (is_empty l) (how_many r.id (up r.id)) (nat_lt 0 (up r.id)) (questions_on up rows) h)

  count-asked : (l most : ℕ) (rows : List EnclosingLoop) → IsIn (how_many l most) (questions_on up rows) → (states_loop_fact Inside l rows ≡ true) × (most ≤ up l)
  count-asked l most [] h = absurd h
  count-asked l most (r ∷ rows) h =
      by (λ k. count-asked l most rows k) (out-if (how_many l most) (is_empty r.id) r.empty (with_count_question r (up r.id) (questions_on up rows)) h)
    where
      behind : (IsIn (how_many l most) (questions_on up rows) → (states_loop_fact Inside l rows ≡ true) × (most ≤ up l))
          → ((nat_lt 0 (up r.id) ≡ true) × (how_many r.id (up r.id) ≡ how_many l most)) ⊎ IsIn (how_many l most) (questions_on up rows)
          → (states_loop_fact Inside l (r ∷ rows) ≡ true) × (most ≤ up l)
      behind on (inl (b, e)) =
          let is : r.id ≡ l = cc in
          let counts : up r.id ≡ most = cc in
          let same = ap up is in
          (holds-there Inside l (r ∷ rows) 0 r refl is refl, omega (arith, counts, same))
      behind on (inr h) = let both = on h in (holds-more Inside l r rows both.0, both.1)

      by : (IsIn (how_many l most) (questions_on up rows) → (states_loop_fact Inside l rows ≡ true) × (most ≤ up l))
          → ((r.empty ≡ true) × (is_empty r.id ≡ how_many l most)) ⊎ IsIn (how_many l most) (with_count_question r (up r.id) (questions_on up rows))
          → (states_loop_fact Inside l (r ∷ rows) ≡ true) × (most ≤ up l)
      by on (inl (b, e)) = let none : ⊥ = cc in absurd none
      by on (inr h) = behind on (out-if (how_many l most) (how_many r.id (up r.id)) (nat_lt 0 (up r.id)) (questions_on up rows) h)

-- ---- The whole analysis

module _ (t : MemoAnalysis) (program : Program) (insns : List declared.Insn) (starts : FirstInsnForwardOutsideLoops t) (long : length t.lines.items ≡ length insns) (has : DeclaredInsnsEqualProgramInsns program insns)
    (written : (ip : ℕ) → ip < length insns → IsInsnChecked t program (successors_of_insn_if_any ip (slice_get program.insns ip)) ip) where
  as-long : length program.insns ≡ length insns
  as-long = ap (λ (xs : List Insn). length xs) has ∙ length-map insns insn_as_spec_insn

  no-insn : (ip : ℕ) → length insns ≤ ip → slice_get program.insns ip ≡ None
  no-insn ip past = slice_get_past program.insns ip (let l = as-long in omega (arith, past, l))

  none-there : (ip : ℕ) → length insns ≤ ip → insn_analysis_of t ip ≡ no_insn_analysis
  none-there ip past = ap (λ o. unwrap_or o no_insn_analysis) (slice_get_past t.lines.items ip (omega (arith, past, long)))

  steps : (ip : ℕ) → IsConsistentAt t program (successors_of_insn_if_any ip (slice_get program.insns ip)) ip
  steps ip = elim (cases_lt ip (length insns)) [
    | inl less ↦ (written ip less).right
    | inr past ↦ subst (λ o. IsConsistentAt t program (successors_of_insn_if_any ip o) ip) (sym (no-insn ip past)) tt
  ]

  have-enough : (ip : ℕ) → IsCoveredAt t program (successors_of_insn_if_any ip (slice_get program.insns ip)) ip
  have-enough ip = elim (cases_lt ip (length insns)) [
    | inl less ↦ (written ip less).enough
    | inr past ↦ subst (λ o. IsCoveredAt t program (successors_of_insn_if_any ip o) ip) (sym (no-insn ip past)) tt
  ]

  no-rows : (b : Bool) (rows : List EnclosingLoop) → (if b then take 0 rows else []) ≡ []
  no-rows true rows = refl
  no-rows false rows = refl

  few : (ip : ℕ) → plan_codes (key_code_questions_of t) ip ≤ 64
  few ip = elim (cases_lt ip (length insns)) [
    | inl less ↦ let codes = (written ip less).codes in let e = codes.codes in let le = codes.few in omega (arith, e, le)
    | inr past ↦
        let none : enclosing_loops_of t ip ≡ [] = ap (λ (x : InsnAnalysis). rows_in t.rows.items x) (none-there ip past) ∙ no-rows (nat_le 0 0 && nat_le 0 (length t.rows.items)) t.rows.items in
        let one : plan_codes (key_code_questions_of t) ip ≡ 1 = ap (λ rows. codes_of (questions_on (λ l. (count_bound_of t l).up_to) rows)) none in
        omega (arith, one)
  ]

  paid-for : (ip : ℕ) → IsInsnCostCovered t ip
  paid-for ip = elim (cases_lt ip (length insns)) [
    | inl less ↦ (written ip less).paid
    | inr past ↦
        let none = none-there ip past in
        let no_records : (insn_analysis_of t ip).records ≡ false = ap (λ (x : InsnAnalysis). x.records) none in
        let no_left : (insn_analysis_of t ip).left ≡ 0 = ap (λ (x : InsnAnalysis). x.left) none in
        let one : (insn_analysis_of t ip).ready ≡ 1 = ap (λ (x : InsnAnalysis). x.ready) none in
        record { recorded = λ e. cc; passed = λ e. omega (arith, no_left, one) }
  ]

  pub whole : IsAnalysisOf program t
  whole = record {
    starts = starts;
    steps = steps;
    right = λ top less. record { right = λ ip. right-at t program top less (slice_get program.insns ip) ip (steps ip) };
    coded = record {
      few = few;
      counted = λ ip less. (written ip (omega (arith, less, long))).codes.codes;
      apart = λ ip less. (written ip (omega (arith, less, long))).codes.apart;
    };
    paid = record {
      enough = record { enough = λ ip. enough-at t program (slice_get program.insns ip) ip (have-enough ip) };
      recorded = λ ip h. (paid-for ip).recorded (recorded-is t ip h);
      passed = λ ip h. (paid-for ip).passed (not-recorded t ip h (insn_analysis_of t ip).records refl);
    };
    runs = λ ip least most greedy e. subst (λ o. IsCoveredAt t program (successors_of_insn_if_any ip o) ip) e (have-enough ip);
    silent = record { silent_at = λ ip s. silent-at t program (slice_get program.insns ip) ip (steps ip) s };
    ways = λ ip look e. look-right t program (slice_get program.insns ip) look ip e (steps ip);
  }

-- Some program has the given instructions.
pub some-program : (insns : List declared.Insn) → (program : Program) × DeclaredInsnsEqualProgramInsns program insns
some-program insns = (
  record {
    insns = map insn_as_spec_insn insns;
    brackets = [];
    loops = 0;
    groups = 0;
    flags = record { icase = false; multiline = false; dot_all = false; no_opt = false; unicode = false; unicode_sets = false };
    group_names = [];
    start_pred = start_arbitrary;
  },
  refl,
)

-- ---- Analyses as memo plans

pub ledgers-serve : AnalysesAreMemoPlans
ledgers-serve program t of text is_text bytes less =
    let up : ℕ → ℕ = λ l. (count_bound_of t l).up_to in
    let plan : IsPlan program text (analysis_as_liveness t) (key_code_questions_of t) (insn_direction t) (recorded t) (plan_steps_below_record program) = record {
      liveness = record { is_text = is_text; bytes = bytes; right = of.right _ less };
      no_groups = record { groups = refl; start = λ ip id. refl };
      asks = record {
        asks = λ ip. record {
          empty = λ l inside e. asked-empty up l (enclosing_loops_of t ip) e;
          count = λ l inside some. asked-count up l (enclosing_loops_of t ip) inside some;
        };
      };
    } in
    record {
      plan = plan;
      serves = plans-serve program text (analysis_as_liveness t) (key_code_questions_of t) (insn_direction t) (recorded t) (plan_steps_below_record program) plan;
      only = record {
        only = λ ip. record {
          empty = λ l h. empty-asked up l (enclosing_loops_of t ip) h;
          count = λ l most h. count-asked up l most (enclosing_loops_of t ip) h;
        };
      };
    }
