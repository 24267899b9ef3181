-- The work budget suffices for all searches of a text if nothing is memoized at first.
use Rattle.std.proofs.Common.{◌≡◌, ◌≤◌, ℕ, zero, suc, ◌+◌, ◌*◌, ap, arith, sum_by}
use Rattle.std.proofs.Math.Nat.{mul-add, add-mul, mul-le-mul_left}
use Rattle.std.proofs.lemmas.List.Sums.{sum_by-cons}
use Rattle.regex_meaning.specs.NumberListHelpers.{numbers_from}
use Rattle.regex_meaning.specs.CodeUnitOffsets.{units}
use Rattle.regress_memo.specs.LoopDataKeyCodes.{plan_codes}
use Rattle.regress_memo.specs.UnboundedCharLoopMemoKeys.{plan_keys}
use Rattle.regress_memo.specs.SuccessiveMatches.{ready_at}
use Rattle.regress_memo.specs.DelayedMemoizationWorkBudget.{all_keys_cost_at_one_offset, WorkBudgetsSuffice}
use Rattle.regress_memo.proofs.SuccessiveMatchLemmas.{attempts-few}
use Rattle.regress_memo.proofs.MemoPlanLemmas.{plans-serve}
use Rattle.regress_memo.proofs.RecordingCostLemmas.{sum-le}
use Rattle.regress_memo.proofs.ThreadPotentialLemmas.{places-keys}

sum-same : (n first count : ℕ) → sum_by (λ i. n) (numbers_from first count) ≡ n * count
sum-same n first zero = omega arith
sum-same n first (suc count) =
    let a = sum_by-cons (λ (i : ℕ). n) first (numbers_from (first + 1) count) in
    let l = sum-same n (first + 1) count in
    let m = mul-add n count 1 in
    omega (arith, a, l, m)

-- The bounds of early and late work add up to a bound of all work.
whole : (n at_first ready key_cost early late : ℕ) → early ≤ at_first * n + n → late ≤ 3 * (ready * n) + 3 * (key_cost * n)
    → early + late ≤ (at_first + 1 + 3 * (ready + key_cost)) * n
whole n at_first ready key_cost early late few more =
    let a = add-mul (at_first + 1) (3 * (ready + key_cost)) n in
    let b = add-mul at_first 1 n in
    let c = add-mul (ready + ready + ready) (key_cost + key_cost + key_cost) n in
    let d = add-mul (ready + ready) ready n in
    let e = add-mul ready ready n in
    let f = add-mul (key_cost + key_cost) key_cost n in
    let g = add-mul key_cost key_cost n in
    let same : 3 * (ready + key_cost) ≡ (ready + ready + ready) + (key_cost + key_cost + key_cost) = omega arith in
    let h = ap (λ m. m * n) same in
    omega (arith, few, more, a, b, c, d, e, f, g, h)

-- The cost of offsets up to two given ones is at most three times that of all offsets.
twice : (ready top from next : ℕ) → from ≤ top + 1 → next ≤ top + 1 → ready * next + ready * (from + 1) ≤ 3 * (ready * (top + 1))
twice ready top from next low high =
    let a = mul-le-mul_left ready high in
    let b = mul-le-mul_left ready low in
    let c = mul-add ready from 1 in
    let d = mul-add ready top 1 in
    omega (arith, a, b, c, d)

pub budgets-enough : WorkBudgetsSuffice
budgets-enough program text a questions way ips taken key_cost weight row plan at_first ready work stands s =
    let keys = plan_keys program text a questions way ips taken in
    let are = (plans-serve program text a questions way ips taken plan).keys in
    let few = attempts-few program text a keys plan.liveness are (λ k. key_cost k.ip) weight row s.from s.next s.looks s.late s.memory s.starts s.remembered in
    let paid = few.paid in
    let same = sum-le (λ at. ready_at program text a keys (λ k. key_cost k.ip) weight row at) (λ at. ready) stands s.starts in
    let tried = few.tried_at (λ at. ready) in
    let here = sum-same ready 0 s.next in
    let there = sum-same ready 0 (s.from + 1) in
    let up = twice ready (units text) s.from s.next s.from_inside s.next_inside in
    let cost = places-keys.cost ips (units text) (plan_codes questions) key_cost in
    let late : s.late ≤ 3 * (ready * (units text + 1)) + 3 * (all_keys_cost_at_one_offset questions ips key_cost * (units text + 1)) = omega (arith, paid, same, tried, here, there, up, cost) in
    let all = s.all in
    let end = whole (units text + 1) at_first ready (all_keys_cost_at_one_offset questions ips key_cost) s.early s.late s.few late in
    omega (arith, all, end)
