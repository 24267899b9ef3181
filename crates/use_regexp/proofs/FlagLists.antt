-- Flags and the tests of their letters.
use Rattle.std.proofs.Common.{◌≡◌, ℕ, List, Bool, true, refl}
use Rattle.std.specs.Prelude.{Option, Some}
use Rattle.regex_meaning.specs.NumberListHelpers.{contains}
use Rattle.use_regexp.specs.Flags.{flags_of}
use Rattle.use_regexp.specs.Letters.{are_flags}
use Rattle.use_regexp.specs.declared.flags.Flags.{Flags}

abbrev pub flags_by : (d g i m s u y : Bool) → Flags
flags_by d g i m s u y = record { has_indices = d; global = g; ignore_case = i; multiline = m; dot_all = s; unicode = u; sticky = y }

pub flags-by_tests : (letters : List ℕ) (d g i m s u y : Bool) → are_flags letters ≡ true
    → d ≡ contains letters 100 → g ≡ contains letters 103 → i ≡ contains letters 105
    → m ≡ contains letters 109 → s ≡ contains letters 115 → u ≡ contains letters 117 → y ≡ contains letters 121
    → Some (flags_by d g i m s u y) ≡ flags_of letters
flags-by_tests letters d g i m s u y are ed eg ei em es eu ey = rw (are, ed, eg, ei, em, es, eu, ey) refl
