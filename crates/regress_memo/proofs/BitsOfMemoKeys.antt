-- Different memo keys have different bits, all of which are within the memo table.
use Rattle.std.proofs.Common.{◌≡◌, ◌<◌, ◌≤◌, ℕ, zero, suc, ◌+◌, ◌-◌, ◌*◌, false, ap, ◌∙◌, sym, subst, arith, length, if◌then◌else◌}
use Rattle.std.specs.Prelude.{nat_lt}
use mathlib.Core.Logic.{inl, inr}
use Rattle.std.proofs.Math.Nat.{mul-le-mul_right}
use Rattle.std.proofs.lemmas.Bool.{cases_lt, lt-ltb, le-ltb}
use Rattle.regress_memo.specs.MemoSearch.{Key}
use Rattle.regress_memo.proofs.LoopDataKeyCodeLemmas.{digits-same}
use Rattle.regress_memo.specs.declared.analysis_result.InsnAnalysis.{InsnAnalysis}
use Rattle.regress_memo.specs.declared.analysis_result.MemoAnalysis.{MemoAnalysis}
use Rattle.regress_memo.specs.AnalysisAsPotentials.{insn_analysis_of, memo_codes_before_insn, number_of_memo_codes_at_insn, memo_bit_index_of_key}
use Rattle.regress_memo.specs.CheckedAnalysis.{HasDisjointCodes, IsRecordableMemoKey, KeysHaveDistinctBits}

module _ (t : MemoAnalysis) (coded : HasDisjointCodes t) where
  bases-below : (n ip : ℕ) → ip + n ≡ length t.lines.items → memo_codes_before_insn t ip ≤ t.codes
  bases-below zero ip e =
      let past : nat_lt ip (length t.lines.items) ≡ false = le-ltb ip (length t.lines.items) (omega (arith, e)) in
      let is : memo_codes_before_insn t ip ≡ t.codes = ap (λ b. if b then (insn_analysis_of t ip).base else t.codes) past in
      omega (arith, is)
  bases-below (suc n) ip e =
      let next = bases-below n (ip + 1) (omega (arith, e)) in
      let here = coded.apart ip (omega (arith, e)) in
      omega (arith, next, here)

  bases-rise : (n ip : ℕ) → ip + n < length t.lines.items → memo_codes_before_insn t ip + number_of_memo_codes_at_insn t ip ≤ memo_codes_before_insn t (ip + n + 1)
  bases-rise zero ip less =
      let same : memo_codes_before_insn t (ip + 1) ≡ memo_codes_before_insn t (ip + 0 + 1) = ap (λ k. memo_codes_before_insn t k) (omega arith) in
      let here = coded.apart ip (omega (arith, less)) in
      omega (arith, here, same)
  bases-rise (suc n) ip less =
      let before = bases-rise n ip (omega (arith, less)) in
      let same : memo_codes_before_insn t (ip + n + 1 + 1) ≡ memo_codes_before_insn t (ip + suc n + 1) = ap (λ k. memo_codes_before_insn t k) (omega arith) in
      let here = coded.apart (ip + n + 1) (omega (arith, less)) in
      omega (arith, before, here, same)

  module _ (places : ℕ) (k : Key) (has : IsRecordableMemoKey t places k) where
    width-is : number_of_memo_codes_at_insn t k.ip ≡ (insn_analysis_of t k.ip).codes
    width-is = ap (λ b. if b then (insn_analysis_of t k.ip).codes else 0) has.records

    pub base-is : memo_codes_before_insn t k.ip ≡ (insn_analysis_of t k.ip).base
    base-is = ap (λ b. if b then (insn_analysis_of t k.ip).base else t.codes) (lt-ltb k.ip (length t.lines.items) has.there)

    -- A key's bit is below `above * places` if the codes up to its instruction are at most `above`.
    pub within : (above : ℕ) → memo_codes_before_insn t k.ip + number_of_memo_codes_at_insn t k.ip ≤ above → memo_bit_index_of_key t places k.ip k.at k.code < above * places
    within above le =
        let row : suc k.at * (insn_analysis_of t k.ip).codes ≤ places * (insn_analysis_of t k.ip).codes =
        mul-le-mul_right (insn_analysis_of t k.ip).codes (omega (arith, has.at)) in
        let w = width-is in
        let all : (memo_codes_before_insn t k.ip + (insn_analysis_of t k.ip).codes) * places ≤ above * places = mul-le-mul_right places (omega (arith, le, w)) in
        let code = has.code in
        omega (arith, row, all, code)

    pub bit-fits : memo_bit_index_of_key t places k.ip k.at k.code < t.codes * places
    bit-fits =
        let there = has.there in
        elim (cases_lt (k.ip + 1) (length t.lines.items)) [
          | inl less ↦ fits (length t.lines.items - (k.ip + 1)) (omega (arith, less))
          | inr ge ↦ fits 0 (omega (arith, ge, there))
        ]
      where
        fits : (n : ℕ) → k.ip + 1 + n ≡ length t.lines.items → memo_bit_index_of_key t places k.ip k.at k.code < t.codes * places
        fits n e =
            let here = coded.apart k.ip has.there in
            let next = bases-below n (k.ip + 1) e in
            within t.codes (omega (arith, here, next))

    -- The bit that the line of a key's instruction yields is within the memo table.
    pub bit-bound : (x : InsnAnalysis) → x ≡ insn_analysis_of t k.ip → x.base * places + (k.at * x.codes + k.code) < t.codes * places
    bit-bound x is =
        let base : x.base * places ≡ memo_codes_before_insn t k.ip * places = ap (λ (y : InsnAnalysis). y.base * places) is ∙ ap (λ n. n * places) (sym base-is) in
        let row : k.at * x.codes ≡ k.at * (insn_analysis_of t k.ip).codes = ap (λ (y : InsnAnalysis). k.at * y.codes) is in
        let fits = bit-fits in
        omega (arith, base, row, fits)

  -- A key at an earlier instruction has an earlier bit.
  earlier : (places : ℕ) (j k : Key) → IsRecordableMemoKey t places j → IsRecordableMemoKey t places k → j.ip < k.ip
      → memo_bit_index_of_key t places j.ip j.at j.code < memo_bit_index_of_key t places k.ip k.at k.code
  earlier places j k has_j has_k less =
      let n : ℕ = k.ip - (j.ip + 1) in
      let there = has_k.there in
      let rise = bases-rise n j.ip (omega (arith, less, there)) in
      let same : memo_codes_before_insn t (j.ip + n + 1) ≡ memo_codes_before_insn t k.ip = ap (λ i. memo_codes_before_insn t i) (omega (arith, less)) in
      let inside = within places j has_j (memo_codes_before_insn t k.ip) (omega (arith, rise, same)) in
      omega (arith, inside)

  same-key : (places : ℕ) (j k : Key) → IsRecordableMemoKey t places j → IsRecordableMemoKey t places k → j.ip ≡ k.ip
      → memo_bit_index_of_key t places j.ip j.at j.code ≡ memo_bit_index_of_key t places k.ip k.at k.code → j ≡ k
  same-key places j k has_j has_k is e =
      let code : j.code < (insn_analysis_of t k.ip).codes = subst (λ i. j.code < (insn_analysis_of t i).codes) is has_j.code in
      let moved : memo_bit_index_of_key t places k.ip j.at j.code ≡ memo_bit_index_of_key t places k.ip k.at k.code = sym (ap (λ i. memo_bit_index_of_key t places i j.at j.code) is) ∙ e in
      let swapped : j.code + (insn_analysis_of t k.ip).codes * j.at ≡ k.code + (insn_analysis_of t k.ip).codes * k.at = omega (arith, moved) in
      let both = digits-same (insn_analysis_of t k.ip).codes j.code k.code j.at k.at code has_k.code swapped in
      let make : ℕ → ℕ → ℕ → Key = λ i a c. record { ip = i; at = a; code = c } in
      ap (λ i. make i j.at j.code) is ∙ ap (λ a. make k.ip a j.code) both.1 ∙ ap (λ c. make k.ip k.at c) both.0

pub bits-apart : (t : MemoAnalysis) → HasDisjointCodes t → (places : ℕ) (j k : Key) → IsRecordableMemoKey t places j → IsRecordableMemoKey t places k
    → memo_bit_index_of_key t places j.ip j.at j.code ≡ memo_bit_index_of_key t places k.ip k.at k.code → j ≡ k
bits-apart t coded places j k has_j has_k e = elim (cases_lt j.ip k.ip) [
  | inl less ↦ let before = earlier t coded places j k has_j has_k less in absurd (omega (arith, before, e))
  | inr ge ↦ elim (cases_lt k.ip j.ip) [
    | inl more ↦ let before = earlier t coded places k j has_k has_j more in absurd (omega (arith, before, e))
    | inr le ↦ same-key t coded places j k has_j has_k (omega (arith, ge, le)) e
  ]
]

pub keys-have-bits : KeysHaveDistinctBits
keys-have-bits program t of places j k has_j has_k e = bits-apart t of.coded places j k has_j has_k e
