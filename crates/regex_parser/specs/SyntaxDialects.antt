-- The pattern languages as dialects of the grammar, and what a reader knows about the groups of a
-- pattern.
use Rattle.std.specs.Prelude.{◌≡◌, ℕ, ◌≤◌, Bool, List, length, String}
use Rattle.std.specs.BTreeMap.{BTreeMap, get_by_text}
use Rattle.regex_meaning.specs.ReadingStatesAndDigits.{RemainingCodePoints, group_number_of}
use Rattle.regex_meaning.specs.Grammar.{PatternDialect, profile}
use Rattle.regex_meaning.specs.EcmaGrammarWithAnnexB.{ecmascript, has_named_groups}
use Rattle.regex_pattern_front.specs.declared.flags.Flags.{Flags}
use Rattle.regex_parser.specs.declared.syntax.Syntax.{Syntax}
use Rattle.regex_parser.specs.declared.syntax.Syntax.TheVariants.{Profile, EcmaScript2018}
use Rattle.regex_pattern_front.specs.AstToSpecTree.{spec_flags_of}

-- The language as a dialect of the grammar.
abbrev pub spec_syntax_of : Syntax → PatternDialect
spec_syntax_of Profile = profile
spec_syntax_of EcmaScript2018 = ecmascript

-- What the reader knows about the groups of the pattern, which are within the limit: how many there
-- are, whether one has a name, and the number of each name that can be read.
pub record AreGroupsKnownIn {R : Type 0} (s : PatternDialect) (flags : Flags) (count : ℕ) (named : Bool)
    (numbers : BTreeMap (String R) ℕ) (groups : List RemainingCodePoints) : Type 0 where
  pub few : length groups ≤ 65535
  pub counted : count ≡ length groups
  pub names : named ≡ has_named_groups (record { flags = spec_flags_of flags; groups = groups })
  pub numbered : (here there name : RemainingCodePoints) → s.group_name here there name
      → get_by_text numbers name ≡ group_number_of name groups
