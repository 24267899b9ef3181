-- A byte is read only if code units are bytes, and all offsets of the text are then within the bytes.
use Rattle.std.proofs.Common.{◌≡◌, ℕ, ◌≤◌, Bool, true, false, List, length, Option, Some, IsTrue, refl, ap, arith}
use Rattle.regex_meaning.specs.Text.{Text}
use Rattle.regex_meaning.specs.CodeUnitOffsets.{HasRisingPlaceOffsets, units}
use Rattle.regress_input.specs.CharAndByteReadsFromOffset.{read_if_units_are_bytes, bytes_if_byte_units, IsEncodedInUtf8}
use Rattle.regress_input.proofs.ByteTestsOfCharacters.{units-bytes_of}

-- A byte is read only if the units of the text are bytes.
pub are_bytes : (are : Bool) (read : Option ℕ) (byte : ℕ) → read_if_units_are_bytes are read ≡ Some byte → (are ≡ true) × (read ≡ Some byte)
are_bytes true read byte e = (refl, e)
are_bytes false read byte e = absurd (cc)

-- If units are bytes, there are at least as many bytes as the text has units.
pub inside_bytes : (are : Bool) (text : Text) → HasRisingPlaceOffsets text → (IsTrue are → IsEncodedInUtf8 text) → (all : List ℕ) → Some all ≡ bytes_if_byte_units are text → units text ≤ length all
inside_bytes true text is_text in_utf8 all e = let same = some_same e in omega (arith, units-bytes_of text is_text (in_utf8 refl), ap length same)
  where
    some_same : {A : Type 0} {x y : A} → Some x ≡ Some y → x ≡ y
    some_same f = cc
inside_bytes false text is_text in_utf8 all e = absurd (cc)
