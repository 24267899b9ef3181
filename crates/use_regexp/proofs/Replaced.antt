-- The matches that remain while matches are replaced in order.
use Rattle.std.proofs.Common.{◌≡◌, ℕ, List, [], ◌∷◌, length, map, refl, arith, sym, subst}
use Rattle.regex_meaning.specs.MatchGroupsByNumberAndName.{Answer}
use Rattle.use_regexp.specs.Replace.{AreRangesInOrderFrom}

-- Mapping an empty list gives an empty list.
pub map-none : {A B : Type 0} (f : A → B) (xs : List A) → length xs ≡ 0 → map f xs ≡ []
map-none f [] e = refl
map-none f (x ∷ xs) e = absurd (omega arith)

-- The remaining matches are after the end of a replaced match.
pub stand-behind : (us : List ℕ) (from to : ℕ) (left rest : List Answer) (m : Answer) → AreRangesInOrderFrom us from left → left ≡ m ∷ rest → to ≡ m.range.1
    → AreRangesInOrderFrom us to rest
stand-behind us from to left rest m stand e t = subst (λ at. AreRangesInOrderFrom us at rest) (sym t) (subst (AreRangesInOrderFrom us from) e stand).2
