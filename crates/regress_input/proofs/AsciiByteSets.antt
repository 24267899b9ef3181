-- The members of an ASCII byte set are below 128.
use Rattle.std.proofs.Common.{ℕ, ◌<◌, List, All}
use Rattle.std.proofs.lemmas.List.Elements.{filter_passes}
use Rattle.regex_meaning.specs.NumberListHelpers.{numbers_from}
use Rattle.regex_meaning.specs.StartPredicate.{bytes_that_pass}
use Rattle.regex_pattern_front.specs.ByteSetMembers.{is_ascii_bit_set}
use Rattle.std.proofs.lemmas.Bool.{ltb-true}
use Rattle.regex_meaning.proofs.BoolLemmas.{and-left}

-- Each byte whose bit is set in an `AsciiBitmap` is below 128.
pub below_128 : (bits : List ℕ) → All (λ b. b < 128) (bytes_that_pass (is_ascii_bit_set bits))
unfolding bytes_that_pass
below_128 bits = λ k d inside. ltb-true _ _ (and-left _ _ (filter_passes (is_ascii_bit_set bits) (numbers_from 0 256) k d inside))
