-- A memo table knows exactly the keys whose bits are set, and recording a key sets one more bit.
use Rattle.std.proofs.Common.{◌≡◌, ◌<◌, ℕ, Bool, true, false, ◌&&◌, ◌||◌, List, [], Some, None, length, if◌then◌else◌, refl, sym, ap, ◌∙◌, subst, arith}
use Rattle.std.specs.Prelude.{◌==◌, nat_lt, unwrap_or}
use mathlib.Core.Logic.{inl, inr}
use Rattle.std.proofs.lemmas.Bool.{both_ways, cases_lt, ltb-true, lt-ltb, eqb-true, eq-eqb, and_from, and_right, false_from_ne_true}
use Rattle.std.proofs.lemmas.Option.{slice_get_past}
use Rattle.regex_meaning.proofs.BoolLemmas.{and-left, and-right, same-truth}
use Rattle.regress_machine.specs.Machine.{State, LoopData}
use Rattle.regress_memo.specs.MemoSearch.{Key}
use Rattle.regress_memo.specs.LoopDataKeyCodes.{code_of, plan_code, plan_codes, key_of}
use Rattle.regress_memo.proofs.LoopDataKeyCodeLemmas.{plans-tell}
use Rattle.regress_memo.specs.declared.analysis_result.InsnAnalysis.{InsnAnalysis}
use Rattle.regress_memo.specs.declared.analysis_result.MemoAnalysis.{MemoAnalysis}
use Rattle.regress_memo.specs.AnalysisAsPotentials.{no_insn_analysis, insn_analysis_of, key_code_questions_of, memo_bit_index_of_key}
use Rattle.regress_memo.specs.CheckedAnalysis.{HasDisjointCodes, IsRecordableMemoKey}
use Rattle.regress_memo.proofs.BitsOfMemoKeys.{bits-apart}
use Rattle.regress_memo.specs.BitSet.{is_set}
use Rattle.regress_memo.specs.MemoContractView.{MemoView}
use Rattle.regress_memo.specs.MemoContents.{same_key, memo_key_at, has_bit, is_noted, RecordsFailure, RecordsSuccess}

-- ---- Keys that are the same

pub same-is : (j k : Key) → same_key j k ≡ true → j ≡ k
same-is j k h =
    let ip = eqb-true j.ip k.ip (and-left _ _ h) in
    let rest = and-right _ _ h in
    let at = eqb-true j.at k.at (and-left _ _ rest) in
    let code = eqb-true j.code k.code (and-right _ _ rest) in
    let make : ℕ → ℕ → ℕ → Key = λ i a c. record { ip = i; at = a; code = c } in
    ap (λ i. make i j.at j.code) ip ∙ ap (λ a. make k.ip a j.code) at ∙ ap (λ c. make k.ip k.at c) code

pub same-itself : (k : Key) → same_key k k ≡ true
same-itself k =
    and_from (k.ip == k.ip) _ (eq-eqb k.ip k.ip refl)
    (and_from (k.at == k.at) _ (eq-eqb k.at k.at refl) (eq-eqb k.code k.code refl))

-- ---- Bits of keys

module _ (t : MemoAnalysis) (places : ℕ) where
  pub bit-there : (k : Key) → has_bit t places k ≡ true → IsRecordableMemoKey t places k
  bit-there k h =
      let h1 = and-right _ _ h in
      let h2 = and-right _ _ h1 in
      record {
        there = ltb-true k.ip (length t.lines.items) (and-left _ _ h);
        records = and-left _ _ h1;
        at = ltb-true k.at places (and-left _ _ h2);
        code = ltb-true k.code (insn_analysis_of t k.ip).codes (and-right _ _ h2);
      }

  pub bit-is : (k : Key) → IsRecordableMemoKey t places k → has_bit t places k ≡ true
  bit-is k has =
      and_from (nat_lt k.ip (length t.lines.items)) _ (lt-ltb k.ip (length t.lines.items) has.there)
      (and_from (insn_analysis_of t k.ip).records _ has.records
      (and_from (nat_lt k.at places) _ (lt-ltb k.at places has.at) (lt-ltb k.code (insn_analysis_of t k.ip).codes has.code)))

  abbrev bit : Key → ℕ
  bit k = memo_bit_index_of_key t places k.ip k.at k.code

  pub none-noted : (words : List ℕ) → ((n : ℕ) → is_set words n ≡ false) → (k : Key) → is_noted t places words k ≡ false
  none-noted words none k = and_right (has_bit t places k) (is_set words (bit k)) (none (bit k))

  module _ (k : Key) (has : IsRecordableMemoKey t places k) where
    -- A key that has a bit is noted exactly if the bit is set.
    pub noted-is : (words : List ℕ) → is_set words (bit k) ≡ is_noted t places words k
    noted-is words = sym (ap (λ b. b && is_set words (bit k)) (bit-is k has))

    module _ (coded : HasDisjointCodes t) where
      -- Keys that have a bit have the same one exactly if they are the same key.
      bit-same : (j : Key) → IsRecordableMemoKey t places j → (bit j == bit k) ≡ same_key j k
      bit-same j has_j =
          same-truth (bit j == bit k) (same_key j k)
          (λ e. subst (λ i. same_key i k ≡ true) (sym (bits-apart t coded places j k has_j has (eqb-true (bit j) (bit k) e))) (same-itself k))
          (λ e. eq-eqb (bit j) (bit k) (ap (λ i. bit i) (same-is j k e)))

      -- If one more bit is set, the key of that bit is noted besides the others.
      pub noted-more : (old new : List ℕ) → ((i : ℕ) → is_set new i ≡ (is_set old i || i == bit k))
          → (j : Key) → is_noted t places new j ≡ (is_noted t places old j || same_key j k)
      noted-more old new more j = by (has_bit t places j) refl
        where
          by : (b : Bool) → has_bit t places j ≡ b → (b && is_set new (bit j)) ≡ ((b && is_set old (bit j)) || same_key j k)
          by true e = more (bit j) ∙ ap (λ b. is_set old (bit j) || b) (bit-same j (bit-there j e))
          by false e =
              sym (false_from_ne_true (same_key j k)
              (λ s. both_ways (has_bit t places j) e (bit-is j (subst (λ i. IsRecordableMemoKey t places i) (sym (same-is j k s)) has))))

-- ---- Codes of keys

-- An instruction that records is within the lines of the analysis.
pub line-there : (t : MemoAnalysis) (ip : ℕ) (x : InsnAnalysis) → x ≡ insn_analysis_of t ip → x.records ≡ true → ip < length t.lines.items
line-there t ip x is records = elim (cases_lt ip (length t.lines.items)) [
  | inl less ↦ less
  | inr past ↦
      let none : x ≡ no_insn_analysis = is ∙ ap (λ o. unwrap_or o no_insn_analysis) (slice_get_past t.lines.items ip past) in
      let unset : x.records ≡ false = ap (λ (y : InsnAnalysis). y.records) none in
      absurd (both_ways x.records unset records)
]

module _ (t : MemoAnalysis) (ip : ℕ) (x : InsnAnalysis) (is : x ≡ insn_analysis_of t ip) (records : x.records ≡ true) where
  records-so : (insn_analysis_of t ip).records ≡ true
  records-so = ap (λ (y : InsnAnalysis). y.records) (sym is) ∙ records

  -- The code of a state is less than the number of codes of its instruction.
  code-few : HasDisjointCodes t → (s : State) → s.ip ≡ ip → code_of (key_code_questions_of t ip) s < x.codes
  code-few coded s at =
      let below : code_of (key_code_questions_of t ip) s < plan_codes (key_code_questions_of t) ip =
      subst (λ i. code_of (key_code_questions_of t i) s < plan_codes (key_code_questions_of t) i) at (plans-tell.below (key_code_questions_of t) s) in
      let counted = coded.counted ip (line-there t ip x is records) in
      let same : x.codes ≡ (insn_analysis_of t ip).codes = ap (λ (y : InsnAnalysis). y.codes) is in
      omega (arith, below, counted, same)

  pub one-code : HasDisjointCodes t → x.codes ≡ 1 → (s : State) → s.ip ≡ ip → 0 ≡ code_of (key_code_questions_of t ip) s
  one-code coded one s at = let few = code-few coded s at in omega (arith, few, one)

  pub key-is : (s : State) (at code : ℕ) → s.ip ≡ ip → s.pos ≡ at → code ≡ code_of (key_code_questions_of t ip) s
      → Some (record { ip = ip; at = at; code = code }) ≡ memo_key_at t s
  key-is s at code here there same =
      let make : ℕ → ℕ → ℕ → Key = λ i a c. record { ip = i; at = a; code = c } in
      let its : code ≡ code_of (key_code_questions_of t s.ip) s = same ∙ ap (λ i. code_of (key_code_questions_of t i) s) (sym here) in
      let so : (insn_analysis_of t s.ip).records ≡ true = ap (λ i. (insn_analysis_of t i).records) here ∙ records-so in
      ap (λ i. Some (make i at code)) (sym here) ∙ ap (λ a. Some (make s.ip a code)) (sym there) ∙ ap (λ c. Some (make s.ip s.pos c)) its
      ∙ ap (λ b. if b then Some (key_of (plan_code (key_code_questions_of t)) s) else None) (sym so)

  pub code-bit : (places at code : ℕ) → code < x.codes → at < places → IsRecordableMemoKey t places (record { ip = ip; at = at; code = code })
  code-bit places at code few within = record {
    there = line-there t ip x is records;
    records = records-so;
    at = within;
    code = let same : x.codes ≡ (insn_analysis_of t ip).codes = ap (λ (y : InsnAnalysis). y.codes) is in omega (arith, few, same);
  }

  -- A code that each state of an offset and loop data has makes a key that can be recorded.
  pub told-bit : HasDisjointCodes t → (places at code : ℕ) (loops : List LoopData)
      → ((s : State) → s.pos ≡ at → s.loops ≡ loops → code ≡ code_of (key_code_questions_of t ip) s)
      → at < places → IsRecordableMemoKey t places (record { ip = ip; at = at; code = code })
  told-bit coded places at code loops told within =
      let s : State = record { ip = ip; pos = at; groups = []; starts = []; loops = loops } in
      let is : code ≡ code_of (key_code_questions_of t ip) s = told s refl refl in
      let few = code-few coded s refl in
      code-bit places at code (omega (arith, is, few)) within

-- ---- Noted keys

abbrev pub known_by : MemoAnalysis → (places : ℕ) → (records_successes : Bool) → (failures ends : List ℕ) → MemoView
known_by memo_analysis places records_successes failures ends = record { memo_analysis = memo_analysis; places = places; records_successes = records_successes; failures = failures; ends = ends }

module _ (m : MemoView) (coded : HasDisjointCodes m.memo_analysis) (k : Key) (has : IsRecordableMemoKey m.memo_analysis m.places k) (bit : ℕ)
    (its : bit ≡ memo_bit_index_of_key m.memo_analysis m.places k.ip k.at k.code) (new : List ℕ) where
  pub notes-failure : ((i : ℕ) → is_set new i ≡ (is_set m.failures i || i == bit)) → RecordsFailure k m (record m { failures = new })
  notes-failure more = record {
    same = record { memo_analysis = refl; places = refl; records_successes = refl };
    failures = noted-more m.memo_analysis m.places k has coded m.failures new (λ i. more i ∙ ap (λ b. is_set m.failures i || i == b) its);
    ends = λ j. refl;
  }

  pub notes-end : m.records_successes ≡ true → ((i : ℕ) → is_set new i ≡ (is_set m.ends i || i == bit)) → RecordsSuccess k m (record m { ends = new })
  notes-end wanted more = record {
    same = record { memo_analysis = refl; places = refl; records_successes = refl };
    failures = λ j. refl;
    ends = λ j.
        let one = noted-more m.memo_analysis m.places k has coded m.ends new (λ i. more i ∙ ap (λ b. is_set m.ends i || i == b) its) j in
        ap (λ b. b && is_noted m.memo_analysis m.places new j) wanted ∙ one
        ∙ ap (λ b. (b && is_noted m.memo_analysis m.places m.ends j) || same_key j k) (sym wanted);
  }
