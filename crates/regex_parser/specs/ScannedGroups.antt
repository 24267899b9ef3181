-- The groups that a scan finds in any text, for each dialect, even if the text is not a pattern.
-- These definitions are not part of the grammar.
use Rattle.std.specs.Prelude.{◌≡◌, ◌⊎◌, true, false, List, [], ◌∷◌, ◌++◌, codes}
use Rattle.regex_meaning.specs.Tree.{Node}
use Rattle.regex_meaning.specs.ReadingStatesAndDigits.{RemainingCodePoints, PatternContext, begins_with_characters}
use Rattle.regex_meaning.specs.EcmaGrammarWithAnnexB.{ecmascript}
use Rattle.regex_meaning.specs.EcmaGrammarLaws.{IsPatternDisjunction}
use Rattle.regex_meaning.specs.GroupOpeningScanWithoutParsing.{texts_after_parentheses}
use Rattle.regex_meaning.specs.Grammar.{PatternDialect}

-- The text does not begin with a name.
abbrev pub NoGroupName : PatternDialect → (here : RemainingCodePoints) → Type 0
NoGroupName s here = (there name : RemainingCodePoints) → s.group_name here there name → ⊥

-- The parentheses before these texts open groups with these names. A name is empty if the group has
-- none or if its name cannot be read. A parenthesis that opens no capturing group is skipped.
pub data ScansGroups (s : PatternDialect) : (texts names : List RemainingCodePoints) → Type 0 where
  scans_nothing : ScansGroups s [] []
  -- A group without a name.
  scans_group : {text : RemainingCodePoints} {texts names : List RemainingCodePoints}
      → begins_with_characters "?" text ≡ false → ScansGroups s texts names
      → ScansGroups s (text ∷ texts) ([] ∷ names)
  -- A group with a name.
  scans_named_group : {text name : RemainingCodePoints} {texts names : List RemainingCodePoints}
      (here there : RemainingCodePoints)
      → text ≡ codes "?<" ++ here → s.group_name here there name → ScansGroups s texts names
      → ScansGroups s (text ∷ texts) (name ∷ names)
  -- A group whose name cannot be read.
  scans_wrong_name : {text : RemainingCodePoints} {texts names : List RemainingCodePoints} (here : RemainingCodePoints)
      → text ≡ codes "?<" ++ here → NoGroupName s here
      → begins_with_characters "=" here ≡ false → begins_with_characters "!" here ≡ false → ScansGroups s texts names
      → ScansGroups s (text ∷ texts) ([] ∷ names)
  -- `(?` that is not followed by `<`, or a lookbehind
  scans_other : {text : RemainingCodePoints} {texts names : List RemainingCodePoints} (here : RemainingCodePoints)
      → text ≡ codes "?" ++ here
      → (begins_with_characters "<" here ≡ false) ⊎ ((begins_with_characters "<=" here ≡ true)
      ⊎ (begins_with_characters "<!" here ≡ true))
      → ScansGroups s texts names
      → ScansGroups s (text ∷ texts) names

-- The groups of a pattern of the whole language are those that a scan of its text finds.
abbrev pub EcmaScriptScanFindsGroups : Type 0
EcmaScriptScanFindsGroups =
    (w : PatternContext) (pattern : RemainingCodePoints) (groups names : List RemainingCodePoints) (n : Node)
    → IsPatternDisjunction w pattern groups n → ScansGroups ecmascript (texts_after_parentheses false pattern) names
    → groups ≡ names
