-- Texts of 16-bit code units. With the flag `u` they are read as UTF-16.
use Rattle.std.specs.Prelude.{ℕ, zero, suc, ◌+◌, ◌-◌, Bool, ◌&&◌, List, if◌then◌else◌}
use Rattle.regex_meaning.specs.Laws.{is_within_pair}
use Rattle.regex_meaning.specs.Text.{utf16_characters}

module _ (unicode : Bool) where
  -- The characters of a pattern, or of a text.
  abbrev pub characters_of : List ℕ → List ℕ
  characters_of units = if unicode then utf16_characters units else units

  -- The index at which the character at an index begins. Within a surrogate pair, it is one unit
  -- before the index (21.2.2.2).
  abbrev pub character_start : List ℕ → (index : ℕ) → ℕ
  character_start text index = if unicode && is_within_pair text index then index - 1 else index

  -- The index after the character at an index (21.2.5.2.3, AdvanceStringIndex).
  abbrev pub advanced : List ℕ → (index : ℕ) → ℕ
  advanced text index = if unicode && is_within_pair text (suc index) then index + 2 else index + 1
