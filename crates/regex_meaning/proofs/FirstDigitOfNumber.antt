-- A number in a pattern begins with a digit of its base.
use Rattle.std.proofs.Common.{◌≡◌, ℕ, ◌<◌, Bool, true, false, [], ◌∷◌, length, refl, arith}
use Rattle.std.specs.Char.{is_digit}
use Rattle.regex_meaning.specs.ReadingStatesAndDigits.{RemainingCodePoints, Digits, digits_from, leading_digits}
use Rattle.regex_meaning.proofs.DisjunctionReadingLemmas.{first}

digit_first : (base : ℕ) (here : RemainingCodePoints) → 0 < length (leading_digits base here) → is_digit (first here) base ≡ true
digit_first base [] h = absurd (omega arith)
digit_first base (c ∷ cs) h = go (is_digit c base) refl
  where
    go : (b : Bool) → is_digit c base ≡ b → is_digit c base ≡ true
    go true e = e
    go false e = let k : length (leading_digits base (c ∷ cs)) ≡ 0 = rw e refl in absurd (omega arith)

pub digit_begins : {base : ℕ} {here there : RemainingCodePoints} {n : ℕ} → Digits base here there n → is_digit (first here) base ≡ true
digit_begins {base} {here} (digits_from h) = digit_first base here h
