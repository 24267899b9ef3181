-- Worked rows of `canonicalize`: each exception of 21.2.2.8.2, in both modes.
use Rattle.std.specs.Prelude.{◌≡◌, ℕ, true, false, Bool, List, [], ◌∷◌, map, refl}
use Rattle.std.specs.Char.Unicode.ToUppercase.{uppercase_runs, uppercase_strings, to_uppercase}
use Rattle.std.specs.Char.Unicode.Rows.{by_runs, by_strings}
use Rattle.ucd_table.specs.Rows.{value_in}
use Rattle.ucd_case.specs.CaseFolding.{simple_folding}
use Rattle.ucd_case.specs.SimpleFoldingRows.{simple_folding_rows}
use Rattle.regex_meaning.specs.Canonical.{canonicalize}

-- A character, and its canonical character.
abbrev Rows : Type 0
Rows = List (ℕ × ℕ)

abbrev are_rows_of : Bool → Rows → Type 0
are_rows_of unicode rows = map (λ r. canonicalize unicode r.0) rows ≡ map (λ r. r.1) rows

-- Without `u`, the uppercase is one code unit: `é`, `ÿ`, `я`, both small sigmas, the micro sign,
-- `ɐ` and the combining iota subscript (U+0345).
one_code_unit : are_rows_of false ((0xE9, 0xC9) ∷ (0xFF, 0x0178) ∷ (0x044F, 0x042F) ∷ (0x03C3, 0x03A3)
    ∷ (0x03C2, 0x03A3) ∷ (0xB5, 0x039C) ∷ (0x0250, 0x2C6F) ∷ (0x0345, 0x0399) ∷ [])
unfolding canonicalize to_uppercase uppercase_runs uppercase_strings by_runs by_strings
one_code_unit = refl

-- Without `u`, the digraphs `DŽ`, `Dž` and `dž`, and `DZ`, `Dz` and `dz`, become the first of the
-- three.
digraphs : are_rows_of false ((0x01C4, 0x01C4) ∷ (0x01C5, 0x01C4) ∷ (0x01C6, 0x01C4) ∷ (0x01F1, 0x01F1)
    ∷ (0x01F2, 0x01F1) ∷ (0x01F3, 0x01F1) ∷ [])
unfolding canonicalize to_uppercase uppercase_runs uppercase_strings by_runs by_strings
digraphs = refl

-- Step 3.e: the uppercase of `ß`, of `ŉ`, of `ᾳ`, of `ﬁ` and of `և` is more than one code unit.
several_code_units : are_rows_of false ((0xDF, 0xDF) ∷ (0x0149, 0x0149) ∷ (0x1FB3, 0x1FB3) ∷ (0xFB01, 0xFB01)
    ∷ (0x0587, 0x0587) ∷ [])
unfolding canonicalize to_uppercase uppercase_runs uppercase_strings by_runs by_strings
several_code_units = refl

-- Step 3.g: the uppercase of `ı` and of the long s is in ASCII.
into_ascii : are_rows_of false ((0x0131, 0x0131) ∷ (0x017F, 0x017F) ∷ [])
unfolding canonicalize to_uppercase uppercase_runs uppercase_strings by_runs by_strings
into_ascii = refl

-- `İ`, `ẞ`, and the signs of the ohm, of the kelvin and of the angstrom are uppercase already
uppercase : are_rows_of false ((0x0130, 0x0130) ∷ (0x1E9E, 0x1E9E) ∷ (0x2126, 0x2126) ∷ (0x212A, 0x212A)
    ∷ (0x212B, 0x212B) ∷ [])
unfolding canonicalize to_uppercase uppercase_runs uppercase_strings by_runs by_strings
uppercase = refl

-- Small letters of Cherokee and of Georgian have uppercase letters. Half of a surrogate pair has
-- none, and neither has a letter of Deseret, which is a pair.
cherokee : are_rows_of false ((0xAB70, 0x13A0) ∷ (0x13F8, 0x13F0) ∷ (0x13A0, 0x13A0) ∷ (0x10D0, 0x1C90)
    ∷ (0xD801, 0xD801) ∷ (0x10428, 0x10428) ∷ [])
unfolding canonicalize to_uppercase uppercase_runs uppercase_strings by_runs by_strings
cherokee = refl

-- With `u`, the long s and the three signs fold to letters.
signs_with_unicode : are_rows_of true ((0x017F, 115) ∷ (0x212A, 107) ∷ (0x212B, 0xE5) ∷ (0x2126, 0x03C9)
    ∷ (0xB5, 0x03BC) ∷ [])
unfolding canonicalize simple_folding simple_folding_rows value_in
signs_with_unicode = refl

-- With `u`, `ẞ` folds to `ß`, the final sigma and the capital one to sigma, and `ᾼ` to `ᾳ`.
letters_with_unicode : are_rows_of true ((0x1E9E, 0xDF) ∷ (0xDF, 0xDF) ∷ (0x03C2, 0x03C3) ∷ (0x03A3, 0x03C3)
    ∷ (0x1FBC, 0x1FB3) ∷ (0x0345, 0x03B9) ∷ [])
unfolding canonicalize simple_folding simple_folding_rows value_in
letters_with_unicode = refl

-- With `u`, the titlecase digraphs fold to the small ones.
digraphs_with_unicode : are_rows_of true ((0x01C4, 0x01C6) ∷ (0x01C5, 0x01C6) ∷ (0x01C6, 0x01C6) ∷ (0x01F2, 0x01F3)
    ∷ [])
unfolding canonicalize simple_folding simple_folding_rows value_in
digraphs_with_unicode = refl

-- `İ` has only a full folding, and `ı` has none, because the Turkic mappings are excluded.
dotted_with_unicode : are_rows_of true ((0x0130, 0x0130) ∷ (0x0131, 0x0131) ∷ [])
unfolding canonicalize simple_folding simple_folding_rows value_in
dotted_with_unicode = refl

-- With `u`, Cherokee folds to its capital letters, and letters past U+FFFF fold.
beyond_with_unicode : are_rows_of true ((0xAB70, 0x13A0) ∷ (0x13F8, 0x13F0) ∷ (0x13A0, 0x13A0) ∷ (0x10400, 0x10428)
    ∷ (0x10428, 0x10428) ∷ [])
unfolding canonicalize simple_folding simple_folding_rows value_in
beyond_with_unicode = refl
