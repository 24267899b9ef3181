-- Equal key codes imply equal answers to all questions about live loop data.
use Rattle.std.proofs.Common.{◌≡◌, ◌<◌, ◌≤◌, ℕ, ◌+◌, ◌*◌, min, List, [], ◌∷◌, Option, Some, None, Bool, true, false, refl, ap, ◌∙◌, sym, subst, arith, slice_get, length}
use Rattle.std.specs.Prelude.{◌==◌, option_map, unwrap_or}
use mathlib.Core.Logic.{inl, inr}
use Rattle.std.proofs.Math.Nat.{mul-le-mul_left}
use Rattle.std.proofs.lemmas.Bool.{cases_lt, eq-eqb, le-leb, lt-ltb, and_from}
use Rattle.regex_meaning.specs.Text.{Text, Direction, rightwards, leftwards}
use Rattle.regex_meaning.specs.CodeUnitOffsets.{units}
use Rattle.regex_meaning.specs.CompilationRelation.{Program}
use Rattle.regress_machine.specs.Machine.{LoopData, State, running}
use Rattle.regress_memo.specs.Liveness.{Liveness}
use Rattle.regress_memo.specs.MemoKeys.{SamePlace}
use Rattle.regress_memo.specs.DistinctLists.{IsIn}
use Rattle.regress_memo.specs.MemoSearch.{Key}
use Rattle.regress_memo.specs.ThreadPotentials.{Shape, is_same_direction, stands_there, has_shape}
use Rattle.regress_memo.specs.LoopDataKeyCodes.{Question, is_empty, how_many, number_of_possible_answers, bool_as_digit, answer_to_loop_question, code_of, codes_of, plan_code, plan_codes, AsksAll}
use Rattle.regress_memo.specs.LoopDataKeyCodes.{HasSlotsOfProgram, key_of, shape_of_only_thread_of_key, ThreadHasKey, KeyCodesDistinguishLoopData}
use Rattle.regress_memo.proofs.MemoKeyLemmas.{unasked-count}

-- ---- Digits of equal codes

-- Of equal numbers with lower digits below the base, the first has no lesser upper digit.
less-apart : (r a b x y : ℕ) → a < r → b < r → a + r * x ≡ b + r * y → x < y → ⊥
less-apart r a b x y p q e less =
    let le : r * (x + 1) ≤ r * y = mul-le-mul_left r (omega (arith, less)) in
    omega (arith, p, e, le)

pub digits-same : (r a b x y : ℕ) → a < r → b < r → a + r * x ≡ b + r * y → (a ≡ b) × (x ≡ y)
digits-same r a b x y p q e = elim (cases_lt x y) [
  | inl less ↦ absurd (less-apart r a b x y p q e less)
  | inr ge ↦ elim (cases_lt y x) [
    | inl more ↦ absurd (less-apart r b a y x q p (sym e) more)
    | inr le ↦ let same : x ≡ y = omega (arith, ge, le) in let times = ap (λ n. r * n) same in (omega (arith, e, times), same)
  ]
]

digit-below : (r a n x : ℕ) → a < r → x < n → a + r * x < r * n
digit-below r a n x p q =
    let le : r * (x + 1) ≤ r * n = mul-le-mul_left r (omega (arith, q)) in
    omega (arith, p, le)

-- ---- Answers to questions

number-below : (o : Option LoopData) (number : LoopData → ℕ) (n : ℕ) → 0 < n → ((x : LoopData) → number x < n) → unwrap_or (option_map number o) 0 < n
number-below None number n some below = some
number-below (Some x) number n some below = below x

pub answer-below : (q : Question) (s : State) → answer_to_loop_question q s < number_of_possible_answers q
answer-below (is_empty l) s = number-below (slice_get s.loops l) _ 2 (omega arith) (λ x. bit (x.entry == s.pos))
  where
    bit : (b : Bool) → bool_as_digit b < 2
    bit true = omega arith
    bit false = omega arith
answer-below (how_many l most) s = number-below (slice_get s.loops l) _ (most + 1) (omega arith) (λ x. omega arith)

pub code-below : (qs : List Question) (s : State) → code_of qs s < codes_of qs
code-below [] s = omega arith
code-below (q ∷ qs) s = digit-below (number_of_possible_answers q) (answer_to_loop_question q s) (codes_of qs) (code_of qs s) (answer-below q s) (code-below qs s)

answers-same : (qs : List Question) (s t : State) → code_of qs s ≡ code_of qs t → (q : Question) → IsIn q qs → answer_to_loop_question q s ≡ answer_to_loop_question q t
answers-same [] s t e q h = absurd h
answers-same (r ∷ qs) s t e q h =
    let both = digits-same (number_of_possible_answers r) (answer_to_loop_question r s) (answer_to_loop_question r t) (code_of qs s) (code_of qs t) (answer-below r s) (answer-below r t) e in
    by both.0 (λ there. answers-same qs s t both.1 q there) h
  where
    by : (answer_to_loop_question r s ≡ answer_to_loop_question r t) → (IsIn q qs → answer_to_loop_question q s ≡ answer_to_loop_question q t) → IsIn q (r ∷ qs) → answer_to_loop_question q s ≡ answer_to_loop_question q t
    by same later (inl i) = subst (λ p. answer_to_loop_question p s ≡ answer_to_loop_question p t) i same
    by same later (inr there) = later there

-- The answer about a loop whose data is present is the number of that data.
pub answer-is : (o : Option LoopData) (x : LoopData) (number : LoopData → ℕ) → o ≡ Some x → unwrap_or (option_map number o) 0 ≡ number x
answer-is o x number e = ap (λ o. unwrap_or (option_map number o) 0) e

bit-same : (b c : Bool) → bool_as_digit b ≡ bool_as_digit c → b ≡ c
bit-same true true e = refl
bit-same false false e = refl
bit-same true false e = cc
bit-same false true e = cc

module _ (questions : ℕ → List Question) (a : Liveness) (asks : AsksAll questions a) (s t : State) (place : SamePlace s t) (same : plan_code questions s ≡ plan_code questions t) where
  all-same : (q : Question) → IsIn q (questions s.ip) → answer_to_loop_question q s ≡ answer_to_loop_question q t
  all-same q h = answers-same (questions s.ip) s t (same ∙ ap (λ i. code_of (questions i) t) (sym place.ip)) q h

  empty-same : (l : ℕ) (x y : LoopData) → a.inside s.ip l ≡ true → a.empty s.ip l ≡ true → slice_get s.loops l ≡ Some x → slice_get t.loops l ≡ Some y
      → (x.entry == s.pos) ≡ (y.entry == s.pos)
  empty-same l x y h asked e f =
      let u = answer-is (slice_get s.loops l) x (λ x. bool_as_digit (x.entry == s.pos)) e in
      let v = answer-is (slice_get t.loops l) y (λ x. bool_as_digit (x.entry == t.pos)) f in
      let both = all-same (is_empty l) ((asks.asks s.ip).empty l h asked) in
      bit-same (x.entry == s.pos) (y.entry == s.pos) (sym u ∙ both ∙ v ∙ ap (λ p. bool_as_digit (y.entry == p)) (sym place.pos))

  count-same : (l : ℕ) (x y : LoopData) → a.inside s.ip l ≡ true → slice_get s.loops l ≡ Some x → slice_get t.loops l ≡ Some y
      → min x.iters (a.up_to l) ≡ min y.iters (a.up_to l)
  count-same l x y h e f = elim (cases_lt 0 (a.up_to l)) [
    | inl asked ↦
        let u = answer-is (slice_get s.loops l) x (λ x. min x.iters (a.up_to l)) e in
        let v = answer-is (slice_get t.loops l) y (λ x. min x.iters (a.up_to l)) f in
        sym u ∙ all-same (how_many l (a.up_to l)) ((asks.asks s.ip).count l h asked) ∙ v
    | inr le ↦ unasked-count x.iters y.iters (a.up_to l) (omega (arith, le))
  ]

-- ---- Keys with equal codes

pub way-same : (w d : Direction) → w ≡ d → is_same_direction w d ≡ true
way-same rightwards rightwards e = refl
way-same leftwards leftwards e = refl
way-same rightwards leftwards e = cc
way-same leftwards rightwards e = cc

pub stands-here : (program : Program) (code : State → ℕ) (x : Shape) (s : State) → HasSlotsOfProgram program s → s.ip ≡ x.ip → s.pos ≡ x.pos → code s ≡ x.code
    → stands_there program code x s ≡ true
stands-here program code x s is ip pos same =
    and_from _ _ (eq-eqb s.ip x.ip ip) (and_from _ _ (eq-eqb s.pos x.pos pos) (and_from _ _ (eq-eqb (code s) x.code same)
    (and_from _ _ (eq-eqb (length s.groups) program.groups is.groups)
    (and_from _ _ (eq-eqb (length s.starts) program.groups is.starts) (eq-eqb (length s.loops) program.loops is.loops)))))

module _ (program : Program) (text : Text) (a : Liveness) (questions : ℕ → List Question) (way : ℕ → Direction) (ips : List ℕ) (rows : Key → List Shape) (taken : Key → ℕ) where
  thread-has-key : ThreadHasKey program text a questions way ips rows taken
  thread-has-key d s there is_on is sound own =
      let code = plan_code questions in
      let k = key_of code s in
      let alone : has_shape program code (shape_of_only_thread_of_key k) (running s ∷ []) ≡ true = and_from _ _ (stands-here program code (record { runs = true; ip = k.ip; pos = k.at; code = k.code }) s is refl refl refl) refl in
      record {
        is_of =
            and_from _ _ (lt-ltb (code s) (plan_codes questions s.ip) (code-below (questions s.ip) s))
            (and_from _ _ (le-leb s.pos (units text) sound.within)
            (and_from _ _ there (and_from _ _ (way-same (way s.ip) d is_on) (ap (λ row. has_shape program code row (running s ∷ [])) own ∙ alone))));
        sound = (sound, tt);
      }

pub plans-tell : KeyCodesDistinguishLoopData
plans-tell = record {
  tells = λ questions a top asks. record {
    tells = λ d s t p q place same. record {
      place = place;
      empty = empty-same questions a asks s t place same;
      count = count-same questions a asks s t place same;
    };
  };
  below = λ questions s. code-below (questions s.ip) s;
  has_key = λ program text a questions way ips rows taken. thread-has-key program text a questions way ips rows taken;
}
