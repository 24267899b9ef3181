-- The pattern that is compiled from a source text and the letters of flags.
use Rattle.std.specs.Prelude.{◌≡◌, ℕ, List, Some}
use Rattle.regex_meaning.specs.EcmaGrammarWithAnnexB.{ecmascript}
use Rattle.regress_match.specs.ProgramTreesAndAnswers.{IsCompiledWithSyntax}
use Rattle.use_regexp.specs.Flags.{flags_of, tree_flags}
use Rattle.use_regexp.specs.Units.{characters_of}
use Rattle.use_regexp.specs.declared.pattern.Pattern.{Pattern}

-- `p` has the flags with these letters and this source, and its program is compiled from them.
pub record IsPatternOf (source letters : List ℕ) (p : Pattern) : Type 0 where
  pub flags : flags_of letters ≡ Some p.flags
  pub text : p.source.items ≡ source
  pub compiled : IsCompiledWithSyntax ecmascript (tree_flags p.flags) (characters_of p.flags.unicode source) p.re
