-- Properties of Unicode by the names that ECMAScript has for them (ECMA-262, 9th edition, 21.2.1.1,
-- tables 54 to 57). Names are compared exactly.
use Rattle.std.specs.Prelude.{ℕ, Bool, not, ◌&&◌, ◌||◌, nat_le, nat_eq, bytes_eq, List, [], ◌∷◌, codes, Option, Some, None, option_map, if◌then◌else◌}
use Rattle.std.specs.Option.{option_or}
use lib.Pointwise.{pointwise}
use Prim.Native.String.{String}
use Rattle.ucd_case.specs.CaseFolding.{full_fold}
use Rattle.ucd_derived.specs.Binary.{is_default_ignorable_code_point}
use Rattle.unicode_normalization.specs.Forms.{nfkc}
use Rattle.ucd_sets.specs.Names.{category_names, script_names}
use Rattle.ucd_sets.specs.Sets.{in_set}
use Rattle.ucd_sets.specs.declared.set.Set.{Set}
use Rattle.ucd_sets.specs.declared.set.Set.TheVariants as set
use Rattle.ucd_sets.specs.declared.property.BinaryProperty.{BinaryProperty}
use Rattle.ucd_sets.specs.declared.property.BinaryProperty.TheVariants.{AsciiHexDigit, Alphabetic, BidiControl, BidiMirrored, CaseIgnorable, Cased, ChangesWhenCasefolded, ChangesWhenCasemapped}
use Rattle.ucd_sets.specs.declared.property.BinaryProperty.TheVariants.{ChangesWhenLowercased, ChangesWhenTitlecased, ChangesWhenUppercased, Dash, DefaultIgnorableCodePoint}
use Rattle.ucd_sets.specs.declared.property.BinaryProperty.TheVariants.{Deprecated, Diacritic, Emoji, EmojiComponent, EmojiModifier, EmojiModifierBase, EmojiPresentation, Extender, GraphemeBase}
use Rattle.ucd_sets.specs.declared.property.BinaryProperty.TheVariants.{GraphemeExtend, HexDigit, IdsBinaryOperator, IdsTrinaryOperator, IdContinue, IdStart, XidStart}
use Rattle.ucd_sets.specs.declared.property.BinaryProperty.TheVariants.{Ideographic, JoinControl, LogicalOrderException, Lowercase, Math, NoncharacterCodePoint, PatternSyntax, PatternWhiteSpace}
use Rattle.ucd_sets.specs.declared.property.BinaryProperty.TheVariants.{QuotationMark, Radical, RegionalIndicator, SentenceTerminal, SoftDotted, TerminalPunctuation}
use Rattle.ucd_sets.specs.declared.property.BinaryProperty.TheVariants.{UnifiedIdeograph, Uppercase, VariationSelector, WhiteSpace, XidContinue}

-- A property that a code point has or does not have: a set of the Unicode Character Database, or
-- Changes_When_NFKC_Casefolded.
pub data Property : Type 0 where
  in_database : Set → Property
  changes_when_nfkc_casefolded : Property

-- Whether NFKC_Casefold leaves the code point unchanged: it is not ignorable by default, and its
-- full case folding, normalized to NFKC, is the code point itself.
unfoldable pub is_nfkc_casefolded : ℕ → Bool
is_nfkc_casefolded c = not (is_default_ignorable_code_point c) && bytes_eq (nfkc (full_fold c)) (c ∷ [])

-- Whether the code point has the property.
unfoldable pub has_property : Property → ℕ → Bool
has_property (in_database s) c = nat_le c 0x10_FFFF && in_set s c
has_property changes_when_nfkc_casefolded c = nat_le c 0x10_FFFF && not (is_nfkc_casefolded c)

-- Whether the text is this word.
abbrev pub is_word : String → List ℕ → Bool
is_word word text = pointwise nat_eq (codes word) text

-- The value of the first row whose name is this text.
abbrev pub value_named : {V : Type 0} → List (String × V) → List ℕ → Option V
value_named [] name = None
value_named (row ∷ rows) name = if is_word row.0 name then Some row.1 else value_named rows name

-- Table 55, except ASCII, Any, Assigned and Changes_When_NFKC_Casefolded
unfoldable pub binary_property_names : List (String × BinaryProperty)
binary_property_names =
    ("ASCII_Hex_Digit", AsciiHexDigit) ∷ ("AHex", AsciiHexDigit)
    ∷ ("Alphabetic", Alphabetic) ∷ ("Alpha", Alphabetic)
    ∷ ("Bidi_Control", BidiControl) ∷ ("Bidi_C", BidiControl)
    ∷ ("Bidi_Mirrored", BidiMirrored) ∷ ("Bidi_M", BidiMirrored)
    ∷ ("Case_Ignorable", CaseIgnorable) ∷ ("CI", CaseIgnorable)
    ∷ ("Cased", Cased)
    ∷ ("Changes_When_Casefolded", ChangesWhenCasefolded) ∷ ("CWCF", ChangesWhenCasefolded)
    ∷ ("Changes_When_Casemapped", ChangesWhenCasemapped) ∷ ("CWCM", ChangesWhenCasemapped)
    ∷ ("Changes_When_Lowercased", ChangesWhenLowercased) ∷ ("CWL", ChangesWhenLowercased)
    ∷ ("Changes_When_Titlecased", ChangesWhenTitlecased) ∷ ("CWT", ChangesWhenTitlecased)
    ∷ ("Changes_When_Uppercased", ChangesWhenUppercased) ∷ ("CWU", ChangesWhenUppercased)
    ∷ ("Dash", Dash)
    ∷ ("Default_Ignorable_Code_Point", DefaultIgnorableCodePoint) ∷ ("DI", DefaultIgnorableCodePoint)
    ∷ ("Deprecated", Deprecated) ∷ ("Dep", Deprecated)
    ∷ ("Diacritic", Diacritic) ∷ ("Dia", Diacritic)
    ∷ ("Emoji", Emoji)
    ∷ ("Emoji_Component", EmojiComponent)
    ∷ ("Emoji_Modifier", EmojiModifier)
    ∷ ("Emoji_Modifier_Base", EmojiModifierBase)
    ∷ ("Emoji_Presentation", EmojiPresentation)
    ∷ ("Extender", Extender) ∷ ("Ext", Extender)
    ∷ ("Grapheme_Base", GraphemeBase) ∷ ("Gr_Base", GraphemeBase)
    ∷ ("Grapheme_Extend", GraphemeExtend) ∷ ("Gr_Ext", GraphemeExtend)
    ∷ ("Hex_Digit", HexDigit) ∷ ("Hex", HexDigit)
    ∷ ("IDS_Binary_Operator", IdsBinaryOperator) ∷ ("IDSB", IdsBinaryOperator)
    ∷ ("IDS_Trinary_Operator", IdsTrinaryOperator) ∷ ("IDST", IdsTrinaryOperator)
    ∷ ("ID_Continue", IdContinue) ∷ ("IDC", IdContinue)
    ∷ ("ID_Start", IdStart) ∷ ("IDS", IdStart)
    ∷ ("Ideographic", Ideographic) ∷ ("Ideo", Ideographic)
    ∷ ("Join_Control", JoinControl) ∷ ("Join_C", JoinControl)
    ∷ ("Logical_Order_Exception", LogicalOrderException) ∷ ("LOE", LogicalOrderException)
    ∷ ("Lowercase", Lowercase) ∷ ("Lower", Lowercase)
    ∷ ("Math", Math)
    ∷ ("Noncharacter_Code_Point", NoncharacterCodePoint) ∷ ("NChar", NoncharacterCodePoint)
    ∷ ("Pattern_Syntax", PatternSyntax) ∷ ("Pat_Syn", PatternSyntax)
    ∷ ("Pattern_White_Space", PatternWhiteSpace) ∷ ("Pat_WS", PatternWhiteSpace)
    ∷ ("Quotation_Mark", QuotationMark) ∷ ("QMark", QuotationMark)
    ∷ ("Radical", Radical)
    ∷ ("Regional_Indicator", RegionalIndicator) ∷ ("RI", RegionalIndicator)
    ∷ ("Sentence_Terminal", SentenceTerminal) ∷ ("STerm", SentenceTerminal)
    ∷ ("Soft_Dotted", SoftDotted) ∷ ("SD", SoftDotted)
    ∷ ("Terminal_Punctuation", TerminalPunctuation) ∷ ("Term", TerminalPunctuation)
    ∷ ("Unified_Ideograph", UnifiedIdeograph) ∷ ("UIdeo", UnifiedIdeograph)
    ∷ ("Uppercase", Uppercase) ∷ ("Upper", Uppercase)
    ∷ ("Variation_Selector", VariationSelector) ∷ ("VS", VariationSelector)
    ∷ ("White_Space", WhiteSpace) ∷ ("space", WhiteSpace)
    ∷ ("XID_Continue", XidContinue) ∷ ("XIDC", XidContinue)
    ∷ ("XID_Start", XidStart) ∷ ("XIDS", XidStart)
    ∷ []

-- Table 55: the binary property with this name
abbrev pub binary_property_named : List ℕ → Option Property
binary_property_named name =
    if is_word "ASCII" name then Some (in_database set.Ascii)
    else if is_word "Any" name then Some (in_database set.Any)
    else if is_word "Assigned" name then Some (in_database set.Assigned)
    else if is_word "Changes_When_NFKC_Casefolded" name || is_word "CWKCF" name then Some changes_when_nfkc_casefolded
    else option_map (λ p. in_database (set.Binary p)) (value_named binary_property_names name)

-- Table 56: a value of General_Category. Three binary properties among the database's names are
-- excluded.
abbrev pub general_category_named : List ℕ → Option Property
general_category_named name =
    if is_word "Any" name || is_word "ASCII" name || is_word "Assigned" name then None
    else option_map in_database (value_named category_names name)

-- LoneUnicodePropertyNameOrValue (early error): a value of General_Category, or a binary property
abbrev pub property_named : List ℕ → Option Property
property_named name = option_or (general_category_named name) (binary_property_named name)

-- UnicodePropertyName `=` UnicodePropertyValue (early errors): a property of table 54 and one of
-- its values. The value is in table 56 or, for scripts, is a name that the latest version of
-- Unicode has for a script (table 57).
abbrev pub property_with_value : (property value : List ℕ) → Option Property
property_with_value property value =
    if is_word "General_Category" property || is_word "gc" property then general_category_named value
    else if is_word "Script" property || is_word "sc" property then option_map (λ s. in_database (set.Script s))
    (value_named script_names value)
    else if is_word "Script_Extensions" property || is_word "scx" property then option_map
    (λ s. in_database (set.ScriptExtension s)) (value_named script_names value)
    else None
