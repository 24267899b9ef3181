-- Flags of regular expressions.
use Rattle.std.specs.Prelude.{ℕ, Bool, false, ◌||◌, List, ◌++◌, Option, Some, None, if◌then◌else◌}
use Rattle.regex_meaning.specs.FlagLettersAndEscaping.{letter_if_flag_set}
use Rattle.regex_meaning.specs.NumberListHelpers.{contains}
use Rattle.regex_meaning.specs.Tree as tree
use Rattle.use_regexp.specs.Letters.{are_flags}
use Rattle.use_regexp.specs.declared.flags.Flags.{Flags}

-- The flags with these letters.
abbrev pub flags_with_letters : List ℕ → Flags
flags_with_letters letters = record {
  has_indices = contains letters 100;
  global = contains letters 103;
  ignore_case = contains letters 105;
  multiline = contains letters 109;
  dot_all = contains letters 115;
  unicode = contains letters 117;
  sticky = contains letters 121;
}

-- The flags with these letters. `None` if the letters are invalid.
abbrev pub flags_of : List ℕ → Option Flags
flags_of letters = if are_flags letters then Some (flags_with_letters letters) else None

-- The letters of the flags that are set, in the order of the standard (22.2.6.4 of the 13th
-- edition).
abbrev pub letters_of : Flags → List ℕ
letters_of f =
    letter_if_flag_set f.has_indices 100 ++ letter_if_flag_set f.global 103 ++ letter_if_flag_set f.ignore_case 105
    ++ letter_if_flag_set f.multiline 109 ++ letter_if_flag_set f.dot_all 115
    ++ letter_if_flag_set f.unicode 117 ++ letter_if_flag_set f.sticky 121

-- The flags with which the pattern's tree is built.
abbrev pub tree_flags : Flags → tree.Flags
tree_flags f = record {
  icase = f.ignore_case;
  multiline = f.multiline;
  dot_all = f.dot_all;
  no_opt = false;
  unicode = f.unicode;
  unicode_sets = false;
}

-- Whether a search begins at `lastIndex` and sets it.
abbrev pub uses_last_index : Flags → Bool
uses_last_index f = f.global || f.sticky
