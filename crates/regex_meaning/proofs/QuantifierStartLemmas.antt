-- A quantifier begins with `*`, `+`, `?` or `{`.
use Rattle.std.proofs.Common.{◌≡◌, ℕ, true, false, [], ◌∷◌, Option, refl}
use Rattle.regex_meaning.specs.ReadingStatesAndDigits.{RemainingCodePoints, ◌∈◌}
use Rattle.regex_meaning.specs.EscapesNamesQuantifiers.{QuantifierPrefix, star, plus, question, exactly, at_least, between, BeginsQuantifier}

abbrev pub head : RemainingCodePoints → ℕ
head [] = 0
head (c ∷ cs) = c

-- The prefix of a quantifier begins with one of four characters.
pub begins_prefix : {here there : RemainingCodePoints} {least : ℕ} {most : Option ℕ} → QuantifierPrefix here there least most → head here ∈ "*+?{" ≡ true
begins_prefix (star e) = rw e refl
begins_prefix (plus e) = rw e refl
begins_prefix (question e) = rw e refl
begins_prefix (exactly e leading_digits f) = rw e refl
begins_prefix (at_least e leading_digits f) = rw e refl
begins_prefix (between e ds f es g) = rw e refl

pub not_quantified : (here : RemainingCodePoints) → head here ∈ "*+?{" ≡ false → ¬ (BeginsQuantifier here)
not_quantified here other h = let is : head here ∈ "*+?{" ≡ true = begins_prefix h.3 in cc
