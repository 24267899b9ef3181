-- States, digits and names with which the grammar reads a pattern.
use Rattle.std.specs.Prelude.{ℕ, suc, ◌+◌, ◌*◌, ◌<◌, Bool, List, [], ◌∷◌, ◌++◌, nat_eq, length, drop, take_while, fold, codes, reverse, Option, Some, None, option_map, if◌then◌else◌}
use Rattle.std.specs.List.{starts_with}
use Rattle.std.specs.Char.{digit_value, is_digit}
use lib.Pointwise.{pointwise}
use Rattle.regex_meaning.specs.NumberListHelpers.{contains}
use Rattle.regex_meaning.specs.Tree.{Node, Flags, cat, end_of_cat}
use Prim.Native.String.{String}

-- The code points that are still to be read.
abbrev pub RemainingCodePoints : Type 0
RemainingCodePoints = List ℕ

-- A position in a pattern: the text that is still to be read, and the name of each group that has
-- opened (empty if it has none). So group ids, and the ranges of groups inside a loop or a
-- lookaround, are lengths of that list (*parenIndex* and *parenCount* of 21.2.2.5 and 21.2.2.8).
pub record ParseState : Type 0 where
  pub text : RemainingCodePoints
  pub opened : List RemainingCodePoints

-- What is known of the whole pattern: its flags, and the name of each of its groups. It is needed
-- because a reference may precede its group.
pub record PatternContext : Type 0 where
  pub flags : Flags
  pub groups : List RemainingCodePoints

-- The number of groups that have opened.
abbrev pub number_of_opened_groups : ParseState → ℕ
number_of_opened_groups p = length p.opened

-- The state before a terminal: `p ≡ "(" ▸ q` reads a `(` from p to q.
infixr 40 ◌▸◌
abbrev pub ◌▸◌ : String → ParseState → ParseState
word ▸ p = record p { text = codes word ++ p.text }

-- The state after a text that opens no group, with `there` left.
abbrev pub state_with_text_left : RemainingCodePoints → ParseState → ParseState
state_with_text_left there p = record p { text = there }

-- The state after a group with this name has opened.
abbrev pub with_opened_group : (name : RemainingCodePoints) → ParseState → ParseState
with_opened_group name p = record p { opened = p.opened ++ name ∷ [] }

-- Whether the character occurs in the string.
infix 60 ◌∈◌
abbrev pub ◌∈◌ : ℕ → String → Bool
c ∈ s = contains (codes s) c

-- Whether the text begins with these characters.
abbrev pub begins_with_characters : String → RemainingCodePoints → Bool
begins_with_characters word here = starts_with nat_eq here (codes word)

-- The longest prefix of digits.
abbrev pub leading_digits : (base : ℕ) → RemainingCodePoints → RemainingCodePoints
leading_digits base here = take_while (λ c. is_digit c base) here

-- The value of digits.
abbrev pub value_of_digits : (base : ℕ) → RemainingCodePoints → ℕ
value_of_digits base here = fold (λ n c. base * n + digit_value c) 0 here

-- DecimalDigits or HexDigits, and their value: at least one digit, and no further digit follows
pub data Digits (base : ℕ) (here : RemainingCodePoints) : (there : RemainingCodePoints) (n : ℕ) → Type 0 where
  digits_from : 0 < length (leading_digits base here)
      → Digits base here (drop (length (leading_digits base here)) here)
      (value_of_digits base (leading_digits base here))

-- The number of the first group with this name, counted from 1.
abbrev pub group_number_of : (name : RemainingCodePoints) → List RemainingCodePoints → Option ℕ
group_number_of name [] = None
group_number_of name (other ∷ names) = if pointwise nat_eq name other then Some 1
    else option_map suc (group_number_of name names)

-- A sequence of nodes.
abbrev pub sequence_node : List Node → Node
sequence_node [] = end_of_cat
sequence_node (n ∷ ns) = cat n (sequence_node ns)

-- The node of an alternative: its terms, in reverse order inside a lookbehind (21.2.2.4).
abbrev pub arm : (in_lookbehind : Bool) → List Node → Node
arm in_lookbehind terms = sequence_node (if in_lookbehind then reverse terms else terms)
