-- Lists without duplicates, and lists that are contained in other lists.
use Rattle.std.specs.Prelude.{◌≡◌, List, [], ◌∷◌, ◌⊎◌}
use Rattle.regex_meaning.specs.Laws.{Each}

module _ {K : Type 0} where
  -- The key is in the list.
  abbrev pub IsIn : K → List K → Type 0
  IsIn k [] = ⊥
  IsIn k (j ∷ ks) = (j ≡ k) ⊎ IsIn k ks

  -- The key is not in the list.
  abbrev pub IsNew : K → List K → Type 0
  IsNew k ks = Each (λ j. j ≡ k → ⊥) ks

  -- No key occurs twice in the list.
  abbrev pub AreDistinct : List K → Type 0
  AreDistinct [] = Unit {0}
  AreDistinct (k ∷ ks) = IsNew k ks × AreDistinct ks

  -- All keys of the first list are in the second one.
  abbrev pub AreIn : List K → List K → Type 0
  AreIn ks all = Each (λ k. IsIn k all) ks
