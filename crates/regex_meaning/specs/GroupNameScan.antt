-- A scan for the names of a pattern's groups that does not parse the pattern: a parenthesis outside
-- classes and escapes opens a group. The scan is not part of the grammar.
use Rattle.std.specs.Prelude.{Bool, true, false, not, ◌&&◌, ◌||◌, List, [], ◌∷◌, ◌++◌, length, take_while, drop, if◌then◌else◌}
use Rattle.regex_meaning.specs.ReadingStatesAndDigits.{RemainingCodePoints, ◌∈◌, begins_with_characters}
use Rattle.regex_meaning.specs.EscapesNamesQuantifiers.{is_ascii_identifier_part, is_name}

-- The name with which the text begins, if a `>` follows it. Otherwise empty.
abbrev pub group_name_at : RemainingCodePoints → RemainingCodePoints
group_name_at here =
    let name = take_while is_ascii_identifier_part here in
    if is_name name && begins_with_characters ">" (drop (length name) here) then name else []

-- The name of the capturing group that a `(` before this text opens, as a list. The name is empty
-- if the group has none, and the list is empty if the `(` opens no capturing group.
abbrev pub name_of_opened_group : RemainingCodePoints → List RemainingCodePoints
name_of_opened_group here =
    if begins_with_characters "?<=" here || begins_with_characters "?<!" here then []
    else if begins_with_characters "?<" here then group_name_at (drop 2 here) ∷ []
    else if begins_with_characters "?" here then [] else [] ∷ []

-- The names of the capturing groups that open in the text, in order. `in_class` says whether the
-- text begins inside a class.
unfoldable pub scanned_names_per_capturing_group : (in_class : Bool) → RemainingCodePoints → List RemainingCodePoints
scanned_names_per_capturing_group in_class [] = []
scanned_names_per_capturing_group in_class (c ∷ []) = if c ∈ "(" && not in_class then [] ∷ [] else []
scanned_names_per_capturing_group in_class (c ∷ d ∷ rest) =
    if c ∈ "\\" then scanned_names_per_capturing_group in_class rest
    else if c ∈ "[" then scanned_names_per_capturing_group true (d ∷ rest)
    else if c ∈ "]" then scanned_names_per_capturing_group false (d ∷ rest)
    else if c ∈ "(" && not in_class then name_of_opened_group (d ∷ rest) ++ scanned_names_per_capturing_group in_class
    (d ∷ rest)
    else scanned_names_per_capturing_group in_class (d ∷ rest)
