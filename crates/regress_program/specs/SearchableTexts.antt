-- The texts that byte programs can search.
use Rattle.std.specs.Prelude.{Bool, IsTrue}
use Rattle.regex_meaning.specs.Text.{Text}
use Rattle.regress_machine.specs.TextsForBytePrograms.{HasUtf8CharactersAndOffsets}

-- The text is in UTF-8 or ASCII, and its code units are bytes.
pub record IsByteText (text : Text) (are_bytes : Bool) : Type 0 where
  pub reads : HasUtf8CharactersAndOffsets text
  pub units : IsTrue are_bytes
