-- The members that a class reader adds to its intervals, for the profile's grammar and for ECMAScript.
use Rattle.std.proofs.Common.{◌≡◌, ℕ, Bool, true, false, ◌||◌, List, [], ◌∷◌, ◌++◌, map, refl, sym, ap, ◌∙◌}
use Rattle.std.specs.List.{list_any}
use Rattle.std.proofs.lemmas.Bool.{ne_eqb}
use Rattle.std.proofs.lemmas.List.{map-append}
use Rattle.std.proofs.lemmas.List.Folds.{list_any-append}
use Rattle.std.proofs.Math.Bool.{or-false}
use Rattle.regex_meaning.specs.Outcomes.{in_intervals}
use Rattle.regex_meaning.specs.ReadingStatesAndDigits.{◌∈◌}
use Rattle.regex_pattern_front.specs.declared.codepointset.Interval.{Interval}
use Rattle.regex_pattern_front.specs.Intervals.{interval_of}
use Rattle.regex_parser.specs.ClassReaderContracts.{is_in_any_interval}

pub held-append : (xs ys : List Interval) (c : ℕ) → is_in_any_interval (xs ++ ys) c ≡ (is_in_any_interval xs c || is_in_any_interval ys c)
held-append xs ys c = ap (λ z. in_intervals z c) (map-append interval_of xs ys) ∙ list_any-append _ (map interval_of xs) (map interval_of ys)

-- `contains c m` says whether the member `m` contains the code point `c`.
module _ {M : Type 0} (contains : ℕ → M → Bool) where
  pub added-set : (xs ys : List Interval) (m : M) → ((c : ℕ) → is_in_any_interval ys c ≡ contains c m)
      → (c : ℕ) → is_in_any_interval (xs ++ ys) c ≡ (is_in_any_interval xs c || list_any (contains c) (m ∷ []))
  added-set xs ys m e c = held-append xs ys c ∙ ap (λ b. is_in_any_interval xs c || b) (e c ∙ sym (or-false (contains c m)))

  -- If `ms` are added first and `ns` then, both are added.
  pub added-more : (xs ys zs : List Interval) (ms ns : List M) → ((c : ℕ) → is_in_any_interval ys c ≡ (is_in_any_interval xs c || list_any (contains c) ms))
      → ((c : ℕ) → is_in_any_interval zs c ≡ (is_in_any_interval ys c || list_any (contains c) ns))
      → (c : ℕ) → is_in_any_interval zs c ≡ (is_in_any_interval xs c || list_any (contains c) (ms ++ ns))
  added-more xs ys zs ms ns a b c =
      b c ∙ ap (λ x. x || list_any (contains c) ns) (a c) ∙ assoc (is_in_any_interval xs c) (list_any (contains c) ms) (list_any (contains c) ns)
      ∙ ap (λ x. is_in_any_interval xs c || x) (sym (list_any-append (contains c) ms ns))
    where
      assoc : (x y z : Bool) → ((x || y) || z) ≡ (x || (y || z))
      assoc true y z = refl
      assoc false y z = refl

-- A code point other than `\` and `]` is a class atom by itself.
pub other_in_class : (c : ℕ) → (c ≡ 92 → ⊥) → (c ≡ 93 → ⊥) → c ∈ "\\]" ≡ false
other_in_class c e f = rw (ne_eqb c 92 e, ne_eqb c 93 f) refl
