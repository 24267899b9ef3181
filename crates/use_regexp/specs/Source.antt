-- The source of a regular expression between slashes (21.2.3.2.4, EscapeRegExpPattern).
use Rattle.std.specs.Prelude.{ℕ, Bool, true, false, not, ◌&&◌, ◌||◌, List, [], ◌∷◌, ◌++◌, codes, if◌then◌else◌, ◌==◌}
use Rattle.regex_meaning.specs.Text.{is_line_terminator}
use Rattle.regex_meaning.specs.GroupOpeningScanWithoutParsing.{in_class_after}
use Rattle.use_regexp.specs.Flags.{letters_of}
use Rattle.use_regexp.specs.declared.flags.Flags.{Flags}

-- What follows the backslash in an escape: the name of a line terminator, or the unit itself.
abbrev pub escaped_unit_after_backslash : ℕ → List ℕ
escaped_unit_after_backslash c =
    if c == 0x0A then codes "n" else if c == 0x0D then codes "r"
    else if c == 0x2028 then codes "u2028" else if c == 0x2029 then codes "u2029" else c ∷ []

-- Whether a unit needs a backslash: it is a line terminator, or a slash outside of a class.
abbrev pub needs_backslash : (in_class : Bool) → ℕ → Bool
needs_backslash in_class c = is_line_terminator c || (c == 47 && not in_class)

-- The escaped units. `escaped` says whether a backslash precedes them, and `in_class` whether a
-- class is open.
abbrev pub escaped_from : (escaped in_class : Bool) → List ℕ → List ℕ
escaped_from escaped in_class [] = []
escaped_from true in_class (c ∷ cs) = escaped_unit_after_backslash c ++ escaped_from false in_class cs
escaped_from false in_class (c ∷ cs) =
    (if needs_backslash in_class c then 92 ∷ escaped_unit_after_backslash c else c ∷ [])
    ++ escaped_from (c == 92) (in_class_after in_class c) cs

-- The escaped source of a pattern. The empty pattern has the source `(?:)`.
abbrev pub escaped_source : List ℕ → List ℕ
escaped_source [] = codes "(?:)"
escaped_source (c ∷ cs) = escaped_from false false (c ∷ cs)

-- The literal `/source/flags` (21.2.5.15).
abbrev pub literal_of : (source : List ℕ) → Flags → List ℕ
literal_of source flags = 47 ∷ [] ++ escaped_source source ++ 47 ∷ [] ++ letters_of flags
