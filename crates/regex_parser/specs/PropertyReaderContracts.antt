-- Contracts of the readers of Unicode properties.
use Rattle.std.specs.Prelude.{◌≡◌, ◌||◌, ◌==◌, ℕ, Bool, true, false, nat_eq, List, [], ◌∷◌, ◌++◌, Option, Some, None, option_map, if◌then◌else◌}
use Rattle.std.specs.List.{list_all, list_any}
use Rattle.std.specs.Char.{is_ascii_alphanumeric}
use lib.Pointwise.{pointwise}
use Rattle.ucd_sets.specs.Loose.{normalize}
use Rattle.ucd_sets.specs.Lookup.{by_value}
use Rattle.regex_meaning.specs.ReadingStatesAndDigits.{RemainingCodePoints, ◌∈◌}
use Rattle.regex_meaning.specs.UnicodeProperties.{in_database, changes_when_nfkc_casefolded, Property as SpecProperty}
use Rattle.regex_meaning.specs.EcmaEscapesAndNames.{PropertyExpression}
use Rattle.regex_parser.specs.declared.unicode_properties.Property.{Property}
use Rattle.regex_parser.specs.declared.unicode_properties.Property.TheVariants.{InDatabase, ChangesWhenNfkcCasefolded}

-- A property, as the definitions have it.
abbrev pub spec_property_of : Property → SpecProperty
spec_property_of (InDatabase set) = in_database set
spec_property_of ChangesWhenNfkcCasefolded = changes_when_nfkc_casefolded

-- The words of a text, each of which is followed by a blank. `word` is the part of the first word
-- that has been read.
abbrev pub words_from : (word text : List ℕ) → List (List ℕ)
words_from word [] = []
words_from word (c ∷ text) = if c == 32 then word ∷ words_from [] text else words_from (word ++ c ∷ []) text

-- The words of a text, each of which is followed by a blank.
abbrev pub words_of : (text : List ℕ) → List (List ℕ)
words_of text = words_from [] text

-- The property with this value in the database, which compares names loosely. `None` if the value
-- is not one of these words.
abbrev pub listed_value : (words : List (List ℕ)) (property value : List ℕ) → Option SpecProperty
listed_value words property value =
    if list_any (λ word. pointwise nat_eq word value) words then option_map in_database
    (by_value property (normalize value)) else None

-- The letters, digits and `_` of a name.
abbrev pub is_name_character : ℕ → Bool
is_name_character c = is_ascii_alphanumeric c || c ∈ "_"

-- The characters of the name are read, as many as there are.
pub record AreNameCharactersRead (here name there : RemainingCodePoints) : Type 0 where
  pub is : here ≡ name ++ there
  pub all : list_all is_name_character name ≡ true
  pub ends : (c : ℕ) (rest : RemainingCodePoints) → there ≡ c ∷ rest → is_name_character c ≡ false

-- The property named after a `{`, if there is one. The expression must end with a `}`.
pub record IsPropertyNamed (here : RemainingCodePoints) (found : Option SpecProperty)
    (there : RemainingCodePoints) : Type 0 where
  pub on : (end : RemainingCodePoints) (p : SpecProperty) → found ≡ Some p → there ≡ 125 ∷ end
      → PropertyExpression (123 ∷ here) end p
  pub back : (end : RemainingCodePoints) (p : SpecProperty) → PropertyExpression (123 ∷ here) end p → (found ≡ Some p)
      × (there ≡ 125 ∷ end)
