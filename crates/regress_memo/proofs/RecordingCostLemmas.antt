-- The costs of all instructions that record are together linear in the program.
use Rattle.std.proofs.Common.{flat_map, ◌≡◌, ◌≤◌, ℕ, ◌+◌, List, [], ◌∷◌, Bool, true, false, refl, ap, arith, sum_by}
use Rattle.std.specs.Prelude.{if◌then◌else◌}
use Rattle.std.proofs.lemmas.List.Sums.{sum_by-cons, sum_by-append}
use Rattle.regex_meaning.specs.NumberListHelpers.{numbers_from}
use Rattle.regress_memo.specs.TotalCostsOfRecordingInsns.{unrecorded, RecordingCostsAreLinear}
use Rattle.regress_memo.proofs.DistinctListLemmas.{cost-few}

-- ---- Sums over lists

pub sum-le : {X : Type 0} (f g : X → ℕ) → ((x : X) → f x ≤ g x) → (xs : List X) → sum_by f xs ≤ sum_by g xs
sum-le f g le [] = omega arith
sum-le f g le (x ∷ xs) =
    let a = sum_by-cons f x xs in let b = sum_by-cons g x xs in let l = sum-le f g le xs in let one = le x in omega (arith, a, b, l, one)

sum-plus : {X : Type 0} (f g : X → ℕ) (xs : List X) → sum_by (λ x. f x + g x) xs ≡ sum_by f xs + sum_by g xs
sum-plus f g [] = omega arith
sum-plus f g (x ∷ xs) =
    let a = sum_by-cons f x xs in
    let b = sum_by-cons g x xs in
    let c = sum_by-cons (λ x. f x + g x) x xs in
    let l = sum-plus f g xs in
    omega (arith, a, b, c, l)

sum-flat : (g : ℕ → ℕ) (to : ℕ → List ℕ) (ips : List ℕ) → sum_by g (flat_map to ips) ≡ sum_by (λ ip. sum_by g (to ip)) ips
sum-flat g to [] = omega arith
sum-flat g to (ip ∷ ips) =
    let a = sum_by-append g (to ip) (flat_map to ips) in
    let b = sum_by-cons (λ ip. sum_by g (to ip)) ip ips in
    let l = sum-flat g to ips in
    omega (arith, a, b, l)

-- ---- Instructions that record, and others

module _ (records : ℕ → Bool) (left : ℕ → ℕ) where
  -- `bare` is what an instruction leaves if it does not record, and otherwise zero.
  abbrev bare : ℕ → ℕ
  bare ip = if records ip then 0 else left ip

  abbrev held : ℕ → ℕ
  held ip = if records ip then left ip else 0

  either : (ip : ℕ) → held ip + bare ip ≡ left ip
  either ip = by (records ip)
    where
      by : (b : Bool) → (if b then left ip else 0) + (if b then 0 else left ip) ≡ left ip
      by true = omega arith
      by false = omega arith

  up-to-one : (ip : ℕ) → (if records ip then 1 else left ip + 1) ≡ bare ip + 1
  up-to-one ip = by (records ip)
    where
      by : (b : Bool) → (if b then 1 else left ip + 1) ≡ (if b then 0 else left ip) + 1
      by true = omega arith
      by false = omega arith

  bare-alone : (ips : List ℕ) → sum_by bare (unrecorded records ips) ≡ sum_by bare ips
  bare-alone [] = refl
  bare-alone (ip ∷ ips) = by (records ip) refl (bare-alone ips)
    where
      by : (b : Bool) → records ip ≡ b → sum_by bare (unrecorded records ips) ≡ sum_by bare ips
          → sum_by bare (if b then unrecorded records ips else ip ∷ unrecorded records ips) ≡ sum_by bare (ip ∷ ips)
      by true e l =
          let a = sum_by-cons bare ip ips in
          let none : bare ip ≡ 0 = ap (λ b. if b then 0 else left ip) e in
          omega (arith, a, l, none)
      by false e l =
          let a = sum_by-cons bare ip ips in
          let b = sum_by-cons bare ip (unrecorded records ips) in
          omega (arith, a, b, l)

pub costs-few : RecordingCostsAreLinear
costs-few e at left t =
    let all = numbers_from 0 e.count in
    let off = bare e.records left in
    let on = held e.records left in
    let parts = sum-plus on off all in
    let whole = sum-le left (λ ip. on ip + off ip) (λ ip. let x = either e.records left ip in omega (arith, x)) all in
    let whole' = sum-le (λ ip. on ip + off ip) left (λ ip. let x = either e.records left ip in omega (arith, x)) all in
    let ready : (ip : ℕ) → at ip ≤ (e.before ip + 1) + off ip = λ ip. let x = up-to-one e.records left ip in let y = t.ready ip in omega (arith, x, y) in
    let to-one : (ip : ℕ) → left ip ≤ (e.own ip + sum_by (λ to. e.before to + 1) (e.to ip)) + sum_by off (e.to ip) = λ ip.
    let x = t.leaves ip in
    let y = sum-le at (λ to. (e.before to + 1) + off to) ready (e.to ip) in
    let z = sum-plus (λ to. e.before to + 1) off (e.to ip) in
    omega (arith, x, y, z) in
    let ways = sum-le left (λ ip. (e.own ip + sum_by (λ to. e.before to + 1) (e.to ip)) + sum_by off (e.to ip)) to-one all in
    let apart = sum-plus (λ ip. e.own ip + sum_by (λ to. e.before to + 1) (e.to ip)) (λ ip. sum_by off (e.to ip)) all in
    let flat = sum-flat off e.to all in
    let alone = bare-alone e.records left (flat_map e.to all) in
    let few = cost-few off (unrecorded e.records (flat_map e.to all)) all t.one_way t.inside in
    omega (arith, parts, whole, whole', ways, apart, flat, alone, few)
