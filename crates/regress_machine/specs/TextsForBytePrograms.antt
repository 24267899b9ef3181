-- Texts on which byte programs can run.
use Rattle.std.specs.Prelude.{◌≡◌, Bool, true, ℕ, List, map, nat_lt, IsTrue}
use Rattle.std.specs.Str.{is_utf8}
use Rattle.std.specs.List.{list_all}
use Rattle.std.specs.Char.{len_utf8}
pub use Rattle.regex_meaning.specs.CompilationRelation.{tree_contains_byte_nodes}
use Rattle.regex_meaning.specs.Text.{Text, is_scalar, offsets_from, utf8_text, ascii_text}

-- The characters of the text are those of a `str`, and its offsets are those of their UTF-8
-- encoding.
pub record HasUtf8CharactersAndOffsets (text : Text) : Type 0 where
  pub scalars : IsTrue (list_all is_scalar text.characters)
  pub offsets : text.offsets ≡ offsets_from 0 (map len_utf8 text.characters)

-- Texts of UTF-8 bytes and texts of ASCII bytes satisfy `HasUtf8CharactersAndOffsets`.
abbrev pub ByteTextsHaveUtf8Offsets : Type 0
ByteTextsHaveUtf8Offsets = (bytes : List ℕ) (unicode : Bool)
    → (is_utf8 bytes ≡ true → HasUtf8CharactersAndOffsets (utf8_text bytes unicode))
    × (list_all (λ b. nat_lt b 128) bytes ≡ true → HasUtf8CharactersAndOffsets (ascii_text bytes unicode))
