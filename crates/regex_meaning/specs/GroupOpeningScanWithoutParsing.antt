-- A scan for the groups of a pattern of any dialect that does not parse the pattern: a parenthesis
-- outside classes and escapes opens a group. The scan is not part of the grammar.
use Rattle.std.specs.Prelude.{◌≡◌, ◌==◌, ℕ, Bool, true, false, not, ◌&&◌, List, [], ◌∷◌, ◌++◌, codes, if◌then◌else◌}
use Rattle.regex_meaning.specs.ReadingStatesAndDigits.{RemainingCodePoints, ◌∈◌, begins_with_characters}
use Rattle.regex_meaning.specs.Grammar.{PatternDialect, lookaround_opener}

-- The text after each `(` that may open a group, in order. `in_class` says whether the text begins
-- inside a class.
unfoldable pub texts_after_parentheses : (in_class : Bool) → RemainingCodePoints → List RemainingCodePoints
texts_after_parentheses in_class [] = []
texts_after_parentheses in_class (c ∷ []) = if c ∈ "(" && not in_class then [] ∷ [] else []
texts_after_parentheses in_class (c ∷ d ∷ rest) =
    if c ∈ "\\" then texts_after_parentheses in_class rest
    else if c ∈ "[" then texts_after_parentheses true (d ∷ rest)
    else if c ∈ "]" then texts_after_parentheses false (d ∷ rest)
    else if c ∈ "(" && not in_class then (d ∷ rest) ∷ texts_after_parentheses in_class (d ∷ rest)
    else texts_after_parentheses in_class (d ∷ rest)

-- Whether a class is open after a code point that follows no backslash.
abbrev pub in_class_after : (in_class : Bool) → ℕ → Bool
in_class_after in_class c = if c == 91 then true else if c == 93 then false else in_class

-- The parentheses before these texts open capturing groups with these names. A name is empty if the
-- group has none.
pub data OpensGroups (s : PatternDialect) : (texts names : List RemainingCodePoints) → Type 0 where
  no_parenthesis : OpensGroups s [] []
  -- `(?:`
  opens_plain_group : {text : RemainingCodePoints} {texts names : List RemainingCodePoints} (here : RemainingCodePoints)
      → text ≡ codes "?:" ++ here → OpensGroups s texts names
      → OpensGroups s (text ∷ texts) names
  -- A lookaround.
  opens_lookaround : {text : RemainingCodePoints} {texts names : List RemainingCodePoints} (negate backwards : Bool)
      (here : RemainingCodePoints)
      → codes "(" ++ text ≡ codes (lookaround_opener negate backwards) ++ here → OpensGroups s texts names
      → OpensGroups s (text ∷ texts) names
  -- A group without a name.
  opens_group : {text : RemainingCodePoints} {texts names : List RemainingCodePoints}
      → begins_with_characters "?" text ≡ false → OpensGroups s texts names
      → OpensGroups s (text ∷ texts) ([] ∷ names)
  -- A group with a name.
  opens_named_group : {text name : RemainingCodePoints} {texts names : List RemainingCodePoints}
      (here there : RemainingCodePoints)
      → text ≡ codes "?<" ++ here → s.group_name here there name → OpensGroups s texts names
      → OpensGroups s (text ∷ texts) (name ∷ names)
