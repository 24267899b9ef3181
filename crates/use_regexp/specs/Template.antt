-- The expansion of a template for a match (21.1.3.16.1, GetSubstitution).
use Rattle.std.specs.Prelude.{◌≡◌, ℕ, zero, suc, ◌+◌, ◌-◌, ◌*◌, Bool, not, ◌&&◌, List, [], ◌∷◌, ◌++◌, length, take, drop, position, Option, None, if◌then◌else◌, nat_le, nat_lt, ◌==◌}
use Rattle.std.specs.List.{list_all}
use Rattle.std.specs.Option.{option_map_or}
use Rattle.std.specs.Char.{is_ascii_digit}
use Rattle.regex_meaning.specs.MatchGroupsByNumberAndName.{Answer, group, named_group, named_groups}
use Rattle.regex_meaning.specs.Replace.{text_of}

-- The expansion of the first part of a template, and the rest of the template.
pub record ExpansionAndRest : Type 0 where
  pub units : List ℕ
  pub rest : List ℕ

-- The expansion `units`, with the rest of the template.
abbrev pub expansion_and_rest : (units rest : List ℕ) → ExpansionAndRest
expansion_and_rest units rest = record { units = units; rest = rest }

-- The expansion is appended to the output, and `rest` is the rest of the template.
abbrev pub IsWritten : (before after rest : List ℕ) → ExpansionAndRest → Type 0
IsWritten before after rest s = (after ≡ before ++ s.units) × (rest ≡ s.rest)

-- Whether a unit is ASCII.
abbrev pub is_ascii : ℕ → Bool
is_ascii c = nat_lt c 128

-- Whether the unit is `>`, which ends a name.
abbrev pub is_greater_than_sign : ℕ → Bool
is_greater_than_sign c = c == 62

-- The number with a first digit and the digit after it. 0 if no digit follows.
abbrev pub two_digit_number_or_zero : (first : ℕ) → List ℕ → ℕ
two_digit_number_or_zero first [] = 0
two_digit_number_or_zero first (c ∷ cs) = if is_ascii_digit c then first * 10 + (c - 48) else 0

module _ (m : Answer) where
  -- Whether the pattern has a group with this number.
  abbrev pub has_group_of_number : (number : ℕ) → Bool
  has_group_of_number number = nat_lt 0 number && nat_le number (length m.captures)

  -- Whether the pattern has named groups.
  abbrev pub has_names : Bool
  has_names = not (length (named_groups m) == 0)

  -- The index at which a name after `$<` ends. `None` if it does not end, or if no group has a
  -- name.
  abbrev pub end_of_group_name : List ℕ → Option ℕ
  end_of_group_name rest = if has_names then position is_greater_than_sign rest else None

module _ (text : List ℕ) (m : Answer) where
  -- The text of the group with this name, which is ASCII. Empty if there is no such group or it did
  -- not match.
  abbrev pub named_text : (name : List ℕ) → List ℕ
  named_text name = if list_all is_ascii name then text_of text m (named_group m name) else []

  -- After `$` and a digit: the group with a number of two digits, or else of one digit. If there is
  -- neither, the `$` is literal.
  abbrev pub numbered : (digit : ℕ) → List ℕ → ExpansionAndRest
  numbered digit rest =
      let one = digit - 48 in
      let two = two_digit_number_or_zero one rest in
      if has_group_of_number m two then expansion_and_rest (text_of text m (group m two)) (drop 1 rest)
      else if has_group_of_number m one then expansion_and_rest (text_of text m (group m one)) rest
      else expansion_and_rest (36 ∷ digit ∷ []) rest

  -- After `$<`: the group with the name before `>`. If there is no name, the `$<` is literal.
  abbrev pub named : List ℕ → ExpansionAndRest
  named rest =
      option_map_or (λ (end : ℕ). expansion_and_rest (named_text (take end rest)) (drop (suc end) rest))
      (end_of_group_name m rest) (expansion_and_rest (36 ∷ 60 ∷ []) rest)

  -- `$` and one unit: `$&` is the match, `` $` `` the text before it, `$'` the text after it, and
  -- `$$` a `$`. Otherwise both units are literal.
  abbrev pub plain : (sign : ℕ) → List ℕ
  plain sign =
      if sign == 38 then text_of text m (group m 0)
      else if sign == 96 then take m.range.0 text
      else if sign == 39 then drop m.range.1 text
      else if sign == 36 then 36 ∷ []
      else 36 ∷ sign ∷ []

  -- The expansion after a `$`.
  abbrev pub expansion_after_dollar : List ℕ → ExpansionAndRest
  expansion_after_dollar [] = expansion_and_rest (36 ∷ []) []
  expansion_after_dollar (c ∷ rest) =
      if is_ascii_digit c then numbered c rest else if c == 60 then named rest else expansion_and_rest (plain c) rest

  -- The expansion of the first part of a template, which begins with the unit `first`.
  abbrev pub said : (first : ℕ) → List ℕ → ExpansionAndRest
  said c rest = if c == 36 then expansion_after_dollar rest else expansion_and_rest (c ∷ []) rest

  -- The expansion of a template, in at most `count` parts.
  abbrev pub said_in : (count : ℕ) → List ℕ → List ℕ
  said_in zero template = []
  said_in (suc count) [] = []
  said_in (suc count) (c ∷ rest) = (said c rest).units ++ said_in count (said c rest).rest

  -- The expansion of a template.
  unfoldable pub substitution : (template : List ℕ) → List ℕ
  substitution template = said_in (length template) template
