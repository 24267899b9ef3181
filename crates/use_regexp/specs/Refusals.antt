-- Why the constructor of a regular expression fails.
use Rattle.std.specs.Prelude.{◌≡◌, ℕ, List, Some, false}
use Rattle.regex_meaning.specs.EcmaGrammarWithAnnexB.{ecmascript}
use Rattle.regress_match.specs.CompileErrors.{IsPatternRefusedWithSyntax}
use Rattle.regress_match.specs.declared.api.compile_and_replace_errors.Error.{Error}
use Rattle.regress_match.specs.declared.api.compile_and_replace_errors.Error.TheVariants as error
use Rattle.use_regexp.specs.Flags.{flags_of, tree_flags}
use Rattle.use_regexp.specs.Letters.{are_flags}
use Rattle.use_regexp.specs.Units.{characters_of}
use Rattle.use_regexp.specs.declared.flags.Flags as flags
use Rattle.use_regexp.specs.declared.error.RegExpError.{RegExpError}
use Rattle.use_regexp.specs.declared.error.RegExpError.TheVariants.{Flags, Pattern, Memory}

-- The constructor's error for an error of the engine.
abbrev pub constructor_error_of : Error → RegExpError
constructor_error_of error.Memory = Memory
constructor_error_of e = Pattern e

-- The engine refuses the source with the flags of these letters, with this error.
pub record IsRefused (source letters : List ℕ) (e : Error) : Type 0 where
  pub flags : flags.Flags
  pub are : flags_of letters ≡ Some flags
  pub refused : IsPatternRefusedWithSyntax ecmascript (tree_flags flags) (characters_of flags.unicode source) e

-- When each error may occur, for a source and the letters of flags.
abbrev pub IsPossibleConstructorError : (source letters : List ℕ) → RegExpError → Type 0
IsPossibleConstructorError source letters Flags = are_flags letters ≡ false
IsPossibleConstructorError source letters (Pattern error.Memory) = ⊥
IsPossibleConstructorError source letters (Pattern e) = IsRefused source letters e
IsPossibleConstructorError source letters Memory = Unit {0}
