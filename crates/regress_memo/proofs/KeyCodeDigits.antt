-- The code of a key is computed digit by digit, one enclosing loop after another.
use Rattle.std.proofs.Common.{◌≡◌, ◌<◌, ◌≤◌, ℕ, suc, ◌+◌, ◌*◌, min, Bool, true, false, List, [], ◌∷◌, Option, Some, None, refl, ap, ◌∙◌, sym, subst, arith, length, get_or, drop, slice_get}
use Rattle.std.proofs.Common.{if◌then◌else◌, add-one, drop-cons, drop_of_length-le}
use Rattle.std.specs.Prelude.{◌==◌, nat_lt, option_map, unwrap_or}
use Rattle.std.proofs.Math.Nat.{mul_assoc, mul-le-mul_left}
use Rattle.std.proofs.lemmas.Bool.{ltb-false}
use Rattle.regress_machine.specs.Machine.{LoopData, State}
use Rattle.regress_memo.specs.LoopDataKeyCodes.{Question, is_empty, how_many, bool_as_digit, answer_to_loop_question, code_of, codes_of}
use Rattle.regress_memo.specs.declared.analysis_result.EnclosingLoop.{EnclosingLoop}
use Rattle.regress_memo.specs.AnalysisAsPotentials.{with_emptiness_question, with_count_question, questions_on}
use Rattle.regress_memo.specs.CheckedAnalysis.{radix_of_loop_digit, digit_of}

-- ---- The number of codes

with-count-codes : (l n : ℕ) (qs : List Question) (b : Bool) → (b ≡ false → n ≡ 0)
    → codes_of (if b then how_many l n ∷ qs else qs) ≡ (n + 1) * codes_of qs
with-count-codes l n qs true h = refl
with-count-codes l n qs false h =
    let e : (n + 1) * codes_of qs ≡ (0 + 1) * codes_of qs = ap (λ m. (m + 1) * codes_of qs) (h refl) in
    omega (arith, e)

none-below : (n : ℕ) → nat_lt 0 n ≡ false → n ≡ 0
none-below n h = let le = ltb-false 0 n h in omega (arith, le)

with-empty-codes : (l n : ℕ) (qs : List Question) (x : ℕ) → codes_of qs ≡ (n + 1) * x → (b : Bool)
    → codes_of (if b then is_empty l ∷ qs else qs) ≡ ((if b then 2 else 1) * (n + 1)) * x
with-empty-codes l n qs x e true = ap (λ y. 2 * y) e ∙ sym (mul_assoc 2 (n + 1) x)
with-empty-codes l n qs x e false = let same : (1 * (n + 1)) * x ≡ (n + 1) * x = omega arith in e ∙ sym same

pub row-codes : (r : EnclosingLoop) (n : ℕ) (qs : List Question) → codes_of (with_emptiness_question r (with_count_question r n qs)) ≡ radix_of_loop_digit n r * codes_of qs
row-codes r n qs =
    with-empty-codes r.id n (with_count_question r n qs) (codes_of qs) (with-count-codes r.id n qs (nat_lt 0 n) (none-below n)) r.empty

-- ---- The code of a list of loops

of-none : (o : Option LoopData) → unwrap_or (option_map (λ (x : LoopData). min x.iters 0) o) 0 ≡ 0
of-none None = refl
of-none (Some x) = omega arith

with-count-code : (l n : ℕ) (qs : List Question) (s : State) (b : Bool) → (b ≡ false → n ≡ 0)
    → code_of (if b then how_many l n ∷ qs else qs) s ≡ answer_to_loop_question (how_many l n) s + (n + 1) * code_of qs s
with-count-code l n qs s true h = refl
with-count-code l n qs s false h =
    let none : answer_to_loop_question (how_many l n) s ≡ 0 = ap (λ m. answer_to_loop_question (how_many l m) s) (h refl) ∙ of-none (slice_get s.loops l) in
    let e : (n + 1) * code_of qs s ≡ (0 + 1) * code_of qs s = ap (λ m. (m + 1) * code_of qs s) (h refl) in
    omega (arith, none, e)

-- The digit of a loop is its capped count, joined with a bit for an empty iteration if asked.
digit-by : (r : EnclosingLoop) (n at : ℕ) (o : Option LoopData) (b : Bool) → r.empty ≡ b
    → digit_of n at o r
    ≡ (if b then unwrap_or (option_map (λ (x : LoopData). bool_as_digit (x.entry == at)) o) 0 + 2 * unwrap_or (option_map (λ (x : LoopData). min x.iters n) o) 0
    else unwrap_or (option_map (λ (x : LoopData). min x.iters n) o) 0)
digit-by r n at None true e = refl
digit-by r n at None false e = refl
digit-by r n at (Some x) true e = ap (λ b. if b then bool_as_digit (x.entry == at) + 2 * min x.iters n else min x.iters n) e
digit-by r n at (Some x) false e = ap (λ b. if b then bool_as_digit (x.entry == at) + 2 * min x.iters n else min x.iters n) e

with-empty-code : (r : EnclosingLoop) (n : ℕ) (qs : List Question) (s : State) (c : ℕ) → code_of qs s ≡ answer_to_loop_question (how_many r.id n) s + (n + 1) * c
    → (b : Bool) → r.empty ≡ b
    → code_of (if b then is_empty r.id ∷ qs else qs) s ≡ digit_of n s.pos (slice_get s.loops r.id) r + ((if b then 2 else 1) * (n + 1)) * c
with-empty-code r n qs s c e true is =
    let d = digit-by r n s.pos (slice_get s.loops r.id) true is in
    let times : 2 * code_of qs s ≡ 2 * (answer_to_loop_question (how_many r.id n) s + (n + 1) * c) = ap (λ y. 2 * y) e in
    omega (arith, d, times)
with-empty-code r n qs s c e false is =
    let d = digit-by r n s.pos (slice_get s.loops r.id) false is in
    omega (arith, d, e)

pub row-code : (r : EnclosingLoop) (n : ℕ) (qs : List Question) (s : State)
    → code_of (with_emptiness_question r (with_count_question r n qs)) s ≡ digit_of n s.pos (slice_get s.loops r.id) r + radix_of_loop_digit n r * code_of qs s
row-code r n qs s =
    with-empty-code r n (with_count_question r n qs) s (code_of qs s) (with-count-code r.id n qs s (nat_lt 0 n) (none-below n)) r.empty refl

bit-below : (b : Bool) → bool_as_digit b < 2
bit-below true = omega arith
bit-below false = omega arith

digit-two : (n at : ℕ) (o : Option LoopData) (r : EnclosingLoop) (b : Bool) → r.empty ≡ b → digit_of n at o r < (if b then 2 else 1) * (n + 1)
digit-two n at None r true e = omega arith
digit-two n at None r false e = omega arith
digit-two n at (Some x) r true e =
    let d = digit-by r n at (Some x) true e in
    let bit = bit-below (x.entry == at) in
    omega (arith, d, bit)
digit-two n at (Some x) r false e = let d = digit-by r n at (Some x) false e in omega (arith, d)

pub digit-below : (n at : ℕ) (o : Option LoopData) (r : EnclosingLoop) → digit_of n at o r < radix_of_loop_digit n r
digit-below n at o r = digit-two n at o r r.empty refl

-- ---- Codes of the first loops

codes-some : (qs : List Question) → 1 ≤ codes_of qs
codes-some [] = omega arith
codes-some (is_empty l ∷ qs) = let some = codes-some qs in omega (arith, some)
codes-some (how_many l most ∷ qs) =
    let le : (most + 1) * 1 ≤ (most + 1) * codes_of qs = mul-le-mul_left (most + 1) (codes-some qs) in
    omega (arith, le)

module _ (up : ℕ → ℕ) where
  pub few-more : (r : EnclosingLoop) (rest : List EnclosingLoop) (codes all : ℕ) → codes * codes_of (questions_on up (r ∷ rest)) ≡ all
      → (codes * radix_of_loop_digit (up r.id) r) * codes_of (questions_on up rest) ≡ all
  few-more r rest codes all e =
      mul_assoc codes (radix_of_loop_digit (up r.id) r) (codes_of (questions_on up rest))
      ∙ ap (λ y. codes * y) (sym (row-codes r (up r.id) (questions_on up rest))) ∙ e

  pub at-most-all : (rest : List EnclosingLoop) (codes all : ℕ) → codes * codes_of (questions_on up rest) ≡ all → codes ≤ all
  at-most-all rest codes all e =
      let le : codes * 1 ≤ codes * codes_of (questions_on up rest) = mul-le-mul_left codes (codes-some (questions_on up rest)) in
      omega (arith, le, e)

  -- The code of the first rows and the code of the remaining ones make up the code of all rows.
  pub record SoFar (rows rest : List EnclosingLoop) (at : ℕ) (loops : List LoopData) (code codes : ℕ) : Type 0 where
    pub product : codes * codes_of (questions_on up rest) ≡ codes_of (questions_on up rows)
    pub below : code < codes
    pub is : (s : State) → s.pos ≡ at → s.loops ≡ loops
        → code + codes * code_of (questions_on up rest) s ≡ code_of (questions_on up rows) s

  pub so-far-first : (rows : List EnclosingLoop) (at : ℕ) (loops : List LoopData) → SoFar rows rows at loops 0 1
  so-far-first rows at loops = record { product = omega arith; below = omega arith; is = λ s p l. omega arith }

  module _ (rows : List EnclosingLoop) (r : EnclosingLoop) (rest : List EnclosingLoop) (at : ℕ) (loops : List LoopData) (code codes : ℕ) (h : SoFar rows (r ∷ rest) at loops code codes) where
    pub few-so-far : codes * radix_of_loop_digit (up r.id) r ≤ codes_of (questions_on up rows)
    few-so-far = at-most-all rest (codes * radix_of_loop_digit (up r.id) r) _ (few-more r rest codes _ h.product)

    pub so-far-more : (o : Option LoopData) → o ≡ slice_get loops r.id
        → SoFar rows rest at loops (code + codes * digit_of (up r.id) at o r) (codes * radix_of_loop_digit (up r.id) r)
    so-far-more o held = record {
      product = few-more r rest codes _ h.product;
      below =
          let le : codes * suc (digit_of (up r.id) at o r) ≤ codes * radix_of_loop_digit (up r.id) r = mul-le-mul_left codes (digit-below (up r.id) at o r) in
          let below = h.below in
          omega (arith, le, below);
      is = λ s p l.
          let same : digit_of (up r.id) s.pos (slice_get s.loops r.id) r ≡ digit_of (up r.id) at o r =
          ap (λ q. digit_of (up r.id) q (slice_get s.loops r.id) r) p
          ∙ ap (λ ls. digit_of (up r.id) at (slice_get ls r.id) r) l ∙ ap (λ x. digit_of (up r.id) at x r) (sym held) in
          let whole = h.is s p l in
          let row = ap (λ y. codes * y) (row-code r (up r.id) (questions_on up rest) s ∙ ap (λ x. x + radix_of_loop_digit (up r.id) r * code_of (questions_on up rest) s) same) in
          let parts : codes * (digit_of (up r.id) at o r + radix_of_loop_digit (up r.id) r * code_of (questions_on up rest) s)
          ≡ codes * digit_of (up r.id) at o r + (codes * radix_of_loop_digit (up r.id) r) * code_of (questions_on up rest) s = omega arith in
          omega (arith, whole, row, parts);
    }

  -- ---- Codes with one more loop

  module _ (rows : List EnclosingLoop) (i : ℕ) (d : EnclosingLoop) (less : i < length rows) where
    rest-is : drop i rows ≡ get_or rows i d ∷ drop (i + 1) rows
    rest-is = drop-cons rows i d less ∙ ap (λ k. get_or rows i d ∷ drop k rows) (sym (add-one i))

    pub few-next : (codes n all : ℕ) → n ≡ radix_of_loop_digit (up (get_or rows i d).id) (get_or rows i d)
        → codes * codes_of (questions_on up (drop i rows)) ≡ all → (codes * n) * codes_of (questions_on up (drop (i + 1) rows)) ≡ all
    few-next codes n all is e =
        ap (λ m. (codes * m) * codes_of (questions_on up (drop (i + 1) rows))) is
        ∙ few-more (get_or rows i d) (drop (i + 1) rows) codes all (ap (λ xs. codes * codes_of (questions_on up xs)) (sym rest-is) ∙ e)

    module _ (at : ℕ) (loops : List LoopData) (code codes n : ℕ) (is : n ≡ radix_of_loop_digit (up (get_or rows i d).id) (get_or rows i d))
        (h : SoFar rows (drop i rows) at loops code codes) where
      whole : SoFar rows (get_or rows i d ∷ drop (i + 1) rows) at loops code codes
      whole = subst (λ xs. SoFar rows xs at loops code codes) rest-is h

      pub few-here : codes * n ≤ codes_of (questions_on up rows)
      few-here =
          let le = few-so-far rows (get_or rows i d) (drop (i + 1) rows) at loops code codes whole in
          let e = ap (λ m. codes * m) is in
          omega (arith, le, e)

      module _ (o : Option LoopData) (held : o ≡ slice_get loops (get_or rows i d).id) (bool_as_digit : ℕ)
          (digit_is : bool_as_digit ≡ digit_of (up (get_or rows i d).id) at o (get_or rows i d)) where
        more : SoFar rows (drop (i + 1) rows) at loops (code + codes * bool_as_digit) (codes * n)
        more =
            subst (λ x. SoFar rows (drop (i + 1) rows) at loops (code + codes * x) (codes * n)) (sym digit_is)
            (subst (λ m. SoFar rows (drop (i + 1) rows) at loops (code + codes * digit_of (up (get_or rows i d).id) at o (get_or rows i d)) (codes * m)) (sym is)
            (so-far-more rows (get_or rows i d) (drop (i + 1) rows) at loops code codes whole o held))

        pub so-far-next : (code' codes' : ℕ) → code' ≡ code + codes * bool_as_digit → codes' ≡ codes * n → SoFar rows (drop (i + 1) rows) at loops code' codes'
        so-far-next code' codes' code_is codes_is =
            subst (λ x. SoFar rows (drop (i + 1) rows) at loops x codes') (sym code_is)
            (subst (λ x. SoFar rows (drop (i + 1) rows) at loops (code + codes * bool_as_digit) x) (sym codes_is) more)

  pub so-far-done : (rows all : List EnclosingLoop) (i at : ℕ) (loops : List LoopData) (code codes : ℕ) → rows ≡ all → length rows ≤ i
      → SoFar rows (drop i rows) at loops code codes → (s : State) → s.pos ≡ at → s.loops ≡ loops → code ≡ code_of (questions_on up all) s
  so-far-done rows all i at loops code codes same long h s p l =
      let none : code_of (questions_on up (drop i rows)) s ≡ 0 = ap (λ xs. code_of (questions_on up xs) s) (drop_of_length-le rows long) in
      let zero_times : codes * code_of (questions_on up (drop i rows)) s ≡ codes * 0 = ap (λ x. codes * x) none in
      let is = h.is s p l in
      let e = ap (λ xs. code_of (questions_on up xs) s) same in
      omega (arith, zero_times, is, e)
