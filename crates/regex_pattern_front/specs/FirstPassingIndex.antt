-- The result of a search for the first index that passes a test.
use Rattle.std.specs.Prelude.{◌≡◌, ℕ, ◌<◌, Bool, true, false, List, Option, MatchOption, slice_index}
use Rattle.regex_meaning.specs.NumberListHelpers.{contains}

-- The index is the first of `count` indices at which the test passes.
pub record IsFirstPassingIndex (test : ℕ → Bool) (count index : ℕ) : Type 0 where
  pub within : index < count
  pub passes : test index ≡ true
  pub none_before : (k : ℕ) → k < index → test k ≡ false

-- The result is the first index at which the test passes, or `None` if there is none.
abbrev pub FindsFirstPassingIndex : (ℕ → Bool) → (count : ℕ) → Option ℕ → Type 0
FindsFirstPassingIndex test count found =
    MatchOption found ((k : ℕ) → k < count → test k ≡ false) (IsFirstPassingIndex test count)

-- Whether the byte at the index is a member.
abbrev pub is_member_byte_at_index : (members bytes : List ℕ) → (index : ℕ) → Bool
is_member_byte_at_index members bytes index = contains members (slice_index bytes index)
