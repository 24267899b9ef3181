-- The letters of flags are ASCII, so they are valid UTF-8.
use Rattle.std.proofs.Common.{ℕ, ◌<◌, List, IsTrue, IsUtf8, arith}
use Rattle.std.proofs.lemmas.Bool.Decides.{nat_tests}
use Rattle.std.proofs.lemmas.Str.{IsUtf8-from_ascii}
use Rattle.std.proofs.lemmas.Str.Ascii.{IsAscii-from_all}
use Rattle.regress_c.specs.Reading.{AreFlags, is_flag_letter}

letter-small : (c : ℕ) → IsTrue (is_flag_letter c) → c < 128
letter-small c t = grind (arith, nat_tests)

pub AreFlags-IsUtf8 : (letters : List ℕ) → AreFlags letters → IsUtf8 letters
AreFlags-IsUtf8 letters all = IsUtf8-from_ascii letters (IsAscii-from_all letters (λ k d h. letter-small _ (all k d h)))
