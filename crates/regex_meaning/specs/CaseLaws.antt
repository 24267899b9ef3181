-- Laws of `canonicalize`; `src/lib.rt` proves each.
use Rattle.std.specs.Prelude.{◌≡◌, ℕ, ◌<◌, ◌≤◌, Bool, true, false, ◌&&◌, ◌||◌, nat_lt, List, length, IsTrue}
use Rattle.regex_meaning.specs.Text.{fold_code_point, is_word_char, nonascii_folds_to_ascii_word_char}
use Rattle.regex_meaning.specs.Canonical.{canonicalize, canonical_character, AreCaseVariants}

-- Two characters that match each other without `u` match each other with it.
abbrev pub AlikeWithoutUnicodeIsAlikeWithUnicode : Type 0
AlikeWithoutUnicodeIsAlikeWithUnicode = (c d : ℕ) → canonicalize false c ≡ canonicalize false d
    → canonicalize true c ≡ canonicalize true d

-- The only characters beyond ASCII that fold into ASCII are U+017F and U+212A, and only with `u`.
abbrev pub OnlyTwoCharactersFoldIntoAscii : Type 0
OnlyTwoCharactersFoldIntoAscii = (unicode : Bool) (c : ℕ) → 128 ≤ c → canonicalize unicode c < 128
    → IsTrue (unicode && nonascii_folds_to_ascii_word_char c)

-- For ASCII, U+017F and U+212A, the profile's table agrees with *Canonicalize* over all of Unicode.
abbrev pub ProfileFoldsTableAsUnicodeDoes : Type 0
ProfileFoldsTableAsUnicodeDoes = (unicode : Bool) (c : ℕ) → IsTrue (nat_lt c 128 || nonascii_folds_to_ascii_word_char c)
    → canonicalize unicode c ≡ fold_code_point unicode c

-- A character is a word character if and only if its canonical form is one of the 63 word
-- characters of ASCII (21.2.2.6.1).
abbrev pub WordCharacterIffAsciiWordFold : Type 0
WordCharacterIffAsciiWordFold = (icase unicode : Bool) (c : ℕ)
    → is_word_char (icase && unicode) c ≡ is_word_char false (canonical_character icase unicode c)

-- Each character has a list of case variants.
abbrev pub EachCharacterHasCaseVariants : Type 0
EachCharacterHasCaseVariants = (icase unicode : Bool) (c : ℕ) → (members : List ℕ)
    × AreCaseVariants icase unicode c members

-- A character has at most four case variants.
abbrev pub CaseVariantsAreFew : Type 0
CaseVariantsAreFew = (icase unicode : Bool) (c : ℕ) (members : List ℕ) → AreCaseVariants icase unicode c members
    → length members ≤ 4
