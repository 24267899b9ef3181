-- Valid letters of flags.
use Rattle.std.specs.Prelude.{ℕ, Bool, true, ◌&&◌, not, List, [], ◌∷◌, codes}
use Rattle.regex_meaning.specs.NumberListHelpers.{contains}

-- Each letter is the letter of a flag, and none occurs twice.
abbrev pub are_flags : List ℕ → Bool
are_flags [] = true
are_flags (c ∷ cs) = contains (codes "dgimsuy") c && (not (contains cs c) && are_flags cs)
