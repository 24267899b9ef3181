-- `named_group` returns the range that `named_groups` lists for each name.
use Rattle.std.proofs.Common.{◌≡◌, ℕ, List, [], ◌∷◌, refl, bytes_eq}
use Rattle.std.specs.List.{list_any}
use Rattle.regex_meaning.specs.Laws.{Each}
use Rattle.regex_meaning.specs.MatchGroupsByNumberAndName.{Answer, named_group, named_groups, first_appearances, first_range, ids_named}
use Rattle.regex_meaning.proofs.EachElementLemmas.{Each-if, Each-image}

module _ (m : Answer) where
  -- The range of the name is the range of the first group of that name that matched.
  abbrev IsFirst : List ℕ → Type 0
  IsFirst name = named_group m name ≡ first_range m (ids_named m name)

  appear-first : (before names : List (List ℕ)) → Each IsFirst (first_appearances before names)
  appear-first before [] = tt
  appear-first before ([] ∷ names) = appear-first before names
  appear-first before ((c ∷ name) ∷ names) =
      Each-if IsFirst (list_any (bytes_eq (c ∷ name)) before) (first_appearances before names)
      ((c ∷ name) ∷ first_appearances ((c ∷ name) ∷ before) names) (appear-first before names)
      (refl, appear-first ((c ∷ name) ∷ before) names)

  pub named_groups-named_group : Each (λ named. named_group m named.0 ≡ named.1) (named_groups m)
  named_groups-named_group =
      Each-image IsFirst (λ named. named_group m named.0 ≡ named.1) (λ name. (name, first_range m (ids_named m name))) (λ name h. h)
      (first_appearances [] m.names) (appear-first [] m.names)
