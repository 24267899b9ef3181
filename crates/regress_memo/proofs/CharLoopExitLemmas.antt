-- The threads that a char loop leaves from a position on include those that it leaves from later
-- positions.
use Rattle.std.proofs.Common.{◌≡◌, ℕ, zero, suc, ◌+◌, ◌-◌, ◌≤◌, min, List, [], ◌∷◌, ◌++◌, map, cond, Bool, true, false, refl, ap, ap₂, ◌∙◌, sym, arith}
use Rattle.std.specs.Prelude.{if◌then◌else◌}
use Rattle.std.specs.List.{prefix_len}
use Rattle.std.proofs.lemmas.List.{map-append}
use Rattle.std.proofs.lemmas.List.Sums.{prefix_len-le-length}
use Rattle.regex_meaning.specs.Text.{Text, Direction, last_place, moved, characters_ahead}
use Rattle.regex_meaning.specs.OutcomesWithStepTicks.{nearest_first}
use Rattle.regress_machine.specs.Machine.{State, running, waiting, scans, first_running_and_others_waiting, char_loop_states}
use Rattle.regress_machine.proofs.NearestCharacterLemmas.{Beside, nothing_left, one_more, beside, length-nearest, moved-suc, moved-zero}
use Rattle.regress_machine.specs.CharLoopExitStatesByPreference.{behind, fewest_first, most_first}
use Rattle.regress_machine.proofs.CharLoopExitStateLemmas.{most-parts, most-first, behind-from, fewest-from, run-turn}
use Rattle.regress_memo.specs.CharLoopExitThreadLists.{passing, greedy_loop_threads, lazy_loop_threads, LazyRunGoesOn, CharLoopYieldsExits, GreedyThreadsSplit, LazyCharLoopThreadsUnfold}

turn-joined : (xs ys : List State) → (xs ≡ [] → ⊥) → first_running_and_others_waiting (xs ++ ys) ≡ first_running_and_others_waiting xs ++ map waiting ys
turn-joined [] ys some = absurd (some refl)
turn-joined (x ∷ xs) ys some = ap (λ ts. running x ∷ ts) (map-append waiting xs ys)

module _ (text : Text) (test : ℕ → Bool) (d : Direction) where
  pub passing-left : (place : ℕ) → place ≤ last_place text → passing text test d place ≤ characters_ahead text d place
  passing-left place inside =
      let l = prefix_len-le-length test (nearest_first text d place) in
      let m = length-nearest text d place inside in
      omega (arith, l, m)

  -- If a character passes, one fewer passes from the next place on, which is within the text.
  passing-one : (n place : ℕ) → suc n ≤ passing text test d place → Beside text d place → (passing text test d place ≡ 1 + passing text test d (moved text d 1 place)) × (moved text d 1 place ≤ last_place text)
  passing-one n place few (nothing_left absent nothing left) = let none : passing text test d place ≡ 0 = ap (prefix_len test) nothing in absurd (omega (arith, few, none))
  passing-one n place few (one_more c some rest left within) = (by (test c) refl, within)
    where
      by : (b : Bool) → test c ≡ b → passing text test d place ≡ 1 + passing text test d (moved text d 1 place)
      by true e = ap (prefix_len test) rest ∙ ap (λ b. cond b (1 + passing text test d (moved text d 1 place)) 0) e
      by false e = let none : passing text test d place ≡ 0 = ap (prefix_len test) rest ∙ ap (λ b. cond b (1 + passing text test d (moved text d 1 place)) 0) e in absurd (omega (arith, few, none))

  -- If `n` characters pass, `n` fewer pass from the place `n` characters further on.
  pub passing-on : (n place : ℕ) → place ≤ last_place text → n ≤ passing text test d place → n + passing text test d (moved text d n place) ≡ passing text test d place
  passing-on zero place inside few = let e = ap (passing text test d) (moved-zero text d place) in omega (arith, e)
  passing-on (suc n) place inside few =
      let one = passing-one n place few (beside text d place inside) in
      let same = one.0 in
      let later = passing-on n (moved text d 1 place) one.1 (omega (arith, few, same)) in
      let e = ap (passing text test d) (moved-suc text d n place) in
      omega (arith, same, later, e)

  module _ (place : ℕ) (s : State) where
    most-from : (m least count : ℕ) → most_first text d place s (m + least) count ≡ most_first text d (moved text d m place) s least count
    most-from m least zero = refl
    most-from m least (suc count) =
        let e : m + least + count ≡ m + (least + count) = omega arith in
        most-first text d place s (m + least) count
        ∙ ap₂ (λ u us. u ∷ us) (ap (behind text d place s) e ∙ behind-from text d place s m (least + count)) (most-from m least count)
        ∙ sym (most-first text d (moved text d m place) s least count)

    some-states : (least count : ℕ) → most_first text d place s least (suc count) ≡ [] → ⊥
    some-states least count e = let is = most-first text d place s least count in cc

    lazy-goes-on : place ≤ last_place text → LazyRunGoesOn text test d place s
    lazy-goes-on inside = record {
      begins = λ least le. ap first_running_and_others_waiting (counted least le);
      waits = λ n le.
          let sum = passing-on n place inside le in
          let same : passing text test d place + 1 - n ≡ passing text test d (moved text d n place) + 1 - 0 = omega (arith, sum, le) in
          let zero_on : n ≡ n + 0 = omega arith in
          ap (map waiting) (ap₂ (fewest_first text d place s) zero_on same ∙ fewest-from text d place s n 0 (passing text test d (moved text d n place) + 1 - 0));
      next = ap (map waiting) (counted 0 (omega arith));
      last = let none : passing text test d place + 1 - (passing text test d place + 1) ≡ 0 = omega arith in ap (λ k. map waiting (fewest_first text d place s (passing text test d place + 1) k)) none;
    }
      where
        counted : (least : ℕ) → least ≤ passing text test d place
            → fewest_first text d place s least (passing text test d place + 1 - least)
            ≡ behind text d place s least ∷ fewest_first text d place s (least + 1) (passing text test d place + 1 - (least + 1))
        counted least le =
            let more : passing text test d place + 1 - least ≡ suc (passing text test d place + 1 - (least + 1)) = omega (arith, le) in
            ap (fewest_first text d place s least) more

pub runs-leave : CharLoopYieldsExits
runs-leave program text test d place least most greedy s here one at few =
    let k = passing text test d place in
    let tries : min most (k + 1) ≡ k + 1 = omega (arith, few) in
    let last : min most k ≡ k = omega (arith, few) in
    run-turn program text d place s least most greedy test here one at
    ∙ ap₂ (λ m n. scans m (first_running_and_others_waiting (char_loop_states text greedy d least n place s))) tries last
    ∙ by greedy
  where
    by : (greedy : Bool) → scans (passing text test d place + 1) (first_running_and_others_waiting (char_loop_states text greedy d least (passing text test d place) place s))
        ≡ scans (passing text test d place + 1) (if greedy then greedy_loop_threads text test d least place s else lazy_loop_threads text test d least place s)
    by true = refl
    by false = refl

pub runs-begin : GreedyThreadsSplit
runs-begin text test d place least n s inside le few =
    let sum = passing-on text test d n place inside few in
    let q = moved text d n place in
    let k = passing text test d q in
    let all : passing text test d place + 1 - least ≡ (n - least) + suc k = omega (arith, sum, le) in
    let here : least + (n - least) ≡ n + 0 = omega (arith, le) in
    let whole : suc k ≡ k + 1 - 0 = omega arith in
    let nearer = most_first text d place s least (n - least) in
    ap (λ m. first_running_and_others_waiting (most_first text d place s least m)) all
    ∙ ap first_running_and_others_waiting (most-parts text d place s least (n - least) (suc k))
    ∙ ap (λ m. first_running_and_others_waiting (most_first text d place s m (suc k) ++ nearer)) here
    ∙ ap (λ us. first_running_and_others_waiting (us ++ nearer)) (most-from text test d place s n 0 (suc k))
    ∙ turn-joined (most_first text d q s 0 (suc k)) nearer (some-states text test d q s 0 k)
    ∙ ap (λ m. first_running_and_others_waiting (most_first text d q s 0 m) ++ map waiting nearer) whole

pub lazy-runs-go-on : LazyCharLoopThreadsUnfold
lazy-runs-go-on text test d place s inside = lazy-goes-on text test d place s inside
