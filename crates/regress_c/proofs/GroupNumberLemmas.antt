-- The number of a group is the index, from 1 on, of the first group name equal to the given name.
use Rattle.std.proofs.Common.{◌≡◌, ℕ, ◌+◌, ◌<◌, ◌≤◌, true, false, List, [], ◌∷◌, length, map, drop, get_or, slice_get, Option, Some, None, option_map, bytes_eq, sym, ap, ◌∙◌, arith}
use Rattle.std.proofs.Math.ListN.{drop_of_length-le}
use Rattle.regex_meaning.specs.MatchGroupsByNumberAndName.{group_names_by_id, ids_where}
use Rattle.regress_search.proofs.NamedGroupLookup.{ids-here}
use Rattle.regress_match.specs.ProgramTreesAndAnswers.{tree_for_byte_units}
use Rattle.regress_match.specs.declared.api.regex.Regex.{Regex}
use Rattle.regress_c.specs.Codes.{code_of_refusal}
use Rattle.regress_c.specs.GroupNumbers.{index_of_first_name, group_number_reply_of_handle, reply_for_number_if_any}
use Rattle.regress_c.specs.declared.refusal.Refusal.TheVariants.{NoGroup}

-- The first group name equal to `name` is the first one from index `i` on.
abbrev pub Sought : (name : List ℕ) (names : List (List ℕ)) (i : ℕ) → Type 0
Sought name names i = index_of_first_name name names ≡ slice_get (ids_where (bytes_eq name) i (drop i names)) 0

module _ {X : Type 0} (f : X → List ℕ) (xs : List X) (i : ℕ) (x : X) (h : i < length xs) (e : x ≡ get_or xs i x) (name : List ℕ) where
  pub here : bytes_eq name (f x) ≡ true → Sought name (map f xs) i → Some i ≡ index_of_first_name name (map f xs)
  here same sought = sym (sought ∙ ap (λ ids. slice_get ids 0) (ids-here f xs i x h e (bytes_eq name) true same))

  pub later : bytes_eq name (f x) ≡ false → Sought name (map f xs) i → Sought name (map f xs) (i + 1)
  later differs sought = sought ∙ ap (λ ids. slice_get ids 0) (ids-here f xs i x h e (bytes_eq name) false differs)

pub nowhere : (name : List ℕ) (names : List (List ℕ)) (i : ℕ) → length names ≤ i → Sought name names i → None ≡ index_of_first_name name names
nowhere name names i past sought = sym (sought ∙ ap (λ ns. slice_get (ids_where (bytes_eq name) i ns) 0) (drop_of_length-le names past))

-- ---- The reply

pub number-empty : (re : Regex) (name : List ℕ) → name ≡ [] → group_number_reply_of_handle (Some re) name ≡ record { code = code_of_refusal NoGroup; count = 0 }
number-empty re name e = ap (group_number_reply_of_handle (Some re)) e

pub number-found : (re : Regex) (name : List ℕ) (names : List (List ℕ)) (found : Option ℕ) → 0 < length name → names ≡ group_names_by_id (tree_for_byte_units re).root
    → found ≡ index_of_first_name name names → group_number_reply_of_handle (Some re) name ≡ reply_for_number_if_any (option_map (λ id. id + 1) found)
number-found re [] names found some n f = absurd (omega (arith, some))
number-found re (c ∷ name) names found some n f = ap (λ o. reply_for_number_if_any (option_map (λ id. id + 1) o)) (sym (f ∙ ap (index_of_first_name (c ∷ name)) n))
