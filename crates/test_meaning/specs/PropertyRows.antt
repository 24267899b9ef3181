-- Worked rows of the names of properties, and of the code points with these properties.
use Rattle.std.specs.Prelude.{◌≡◌, refl, Some, None, [], ◌∷◌, map, codes}
use Prim.Native.String.{String}
use Rattle.ucd_sets.specs.Names.{category_names, script_names}
use Rattle.ucd_sets.specs.declared.set.Set.TheVariants as set
use Rattle.ucd_category.specs.declared.GeneralCategory.TheVariants.{UppercaseLetter, DecimalNumber}
use Rattle.ucd_category.specs.declared.GeneralCategoryGroup.TheVariants.{Letter, Mark}
use Rattle.ucd_script.specs.declared.Script.TheVariants.{Greek, Coptic}
use Rattle.ucd_sets.specs.declared.property.BinaryProperty.TheVariants.{WhiteSpace, HexDigit}
use Rattle.regex_meaning.specs.UnicodeProperties.{in_database, changes_when_nfkc_casefolded, binary_property_names, property_named, property_with_value}

-- A category by its name and by its aliases, a group of them, and a binary property.
upper_case : property_named (codes "Lu") ≡ Some (in_database (set.Category UppercaseLetter))
unfolding category_names
upper_case = refl

digit : property_named (codes "digit") ≡ Some (in_database (set.Category DecimalNumber))
unfolding category_names
digit = refl

combining_mark : property_named (codes "Combining_Mark") ≡ Some (in_database (set.CategoryGroup Mark))
unfolding category_names
combining_mark = refl

space : property_named (codes "space") ≡ Some (in_database (set.Binary WhiteSpace))
unfolding category_names binary_property_names
space = refl

hex : property_named (codes "Hex") ≡ Some (in_database (set.Binary HexDigit))
unfolding category_names binary_property_names
hex = refl

any : property_named (codes "Any") ≡ Some (in_database set.Any)
unfolding category_names
any = refl

casefolded : property_named (codes "CWKCF") ≡ Some changes_when_nfkc_casefolded
unfolding category_names
casefolded = refl

-- A property with a value.
letter : property_with_value (codes "gc") (codes "L") ≡ Some (in_database (set.CategoryGroup Letter))
unfolding category_names
letter = refl

greek : property_with_value (codes "Script") (codes "Greek") ≡ Some (in_database (set.Script Greek))
unfolding script_names
greek = refl

coptic : property_with_value (codes "scx") (codes "Qaac") ≡ Some (in_database (set.ScriptExtension Coptic))
unfolding script_names
coptic = refl

-- Names are exact. The name of a script alone is not valid, and `Any` is not a category. Names of
-- Unicode that the tables do not have are invalid, and so are those of later editions.
no_names : map (λ name. property_named (codes name))
    ("lu" ∷ "IsLu" ∷ "Greek" ∷ "WSpace" ∷ "Grapheme_Link" ∷ "Other_Math" ∷ "Extended_Pictographic" ∷ "EComp" ∷ "" ∷ [])
    ≡ None ∷ None ∷ None ∷ None ∷ None ∷ None ∷ None ∷ None ∷ None ∷ []
unfolding category_names binary_property_names
no_names = refl

no_values : map (λ (p : String × String). property_with_value (codes p.0) (codes p.1))
    (("gc", "Any") ∷ ("General_Category", "Greek") ∷ ("sc", "Katakana_Or_Hiragana") ∷ ("script", "Greek")
    ∷ ("Age", "9.0") ∷ ("", "L") ∷ [])
    ≡ None ∷ None ∷ None ∷ None ∷ None ∷ None ∷ []
unfolding category_names script_names
no_values = refl
