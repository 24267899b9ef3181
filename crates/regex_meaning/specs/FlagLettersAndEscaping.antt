-- The letters of flags, and the escaping of texts (rules of this crate).
use Rattle.std.specs.Prelude.{ℕ, Bool, false, List, [], ◌∷◌, ◌++◌, flat_map, if◌then◌else◌, codes}
use Rattle.regex_meaning.specs.NumberListHelpers.{contains}
use Rattle.regex_meaning.specs.Tree.{Flags}

-- The letter, if the flag is set.
abbrev pub letter_if_flag_set : Bool → ℕ → List ℕ
letter_if_flag_set set letter = if set then letter ∷ [] else []

-- The letters of the flags that are set, in the order `m i s u v`; `no_opt` has no letter.
unfoldable pub flags_text : Flags → List ℕ
flags_text flags =
    letter_if_flag_set flags.multiline 109 ++ letter_if_flag_set flags.icase 105 ++ letter_if_flag_set flags.dot_all 115
    ++ letter_if_flag_set flags.unicode 117 ++ letter_if_flag_set flags.unicode_sets 118

-- The flags whose letters occur in the text.
unfoldable pub flags_from_letters : List ℕ → Flags
flags_from_letters letters = record {
  icase = contains letters 105;
  multiline = contains letters 109;
  dot_all = contains letters 115;
  no_opt = false;
  unicode = contains letters 117;
  unicode_sets = contains letters 118;
}

-- SyntaxCharacter (21.2.1)
abbrev pub syntax_characters : List ℕ
syntax_characters = codes "\\^$.|?*+()[]{}"

-- The character, preceded by a backslash if it is a SyntaxCharacter.
abbrev pub with_backslash_if_syntax : ℕ → List ℕ
with_backslash_if_syntax c = if contains syntax_characters c then 92 ∷ c ∷ [] else c ∷ []

-- The text with a backslash before each syntax character.
unfoldable pub escape : List ℕ → List ℕ
escape text = flat_map with_backslash_if_syntax text
