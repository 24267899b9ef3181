-- What the errors of the parser state about a pattern.
use Rattle.std.specs.Prelude.{ℕ, ◌≤◌, List, length}
use Rattle.regex_meaning.specs.Tree.{Flags}
use Rattle.regex_meaning.specs.Grammar.{PatternDialect, profile}
use Rattle.regex_parser.specs.ParserInvariants.{HasNoTreeIn, OpensTooManyGroups}
use Rattle.regex_parser.specs.declared.diagnosis.Diagnosis.{Diagnosis}
use Rattle.regex_parser.specs.declared.parse.ParseError.{ParseError}
use Rattle.regex_parser.specs.declared.parse.ParseError.TheVariants.{Memory, Syntax, TooManyGroups}

-- The dialect has no tree for the pattern, and the error is at a code point of the pattern or at
-- its end.
pub record IsDiagnosisIn (s : PatternDialect) (flags : Flags) (pattern : List ℕ) (d : Diagnosis) : Type 0 where
  pub none : HasNoTreeIn s flags pattern
  pub place : d.at ≤ length pattern

-- A syntax error has a diagnosis of the pattern. `TooManyGroups` says that the pattern opens too
-- many groups. An allocation failure says nothing about the pattern.
abbrev pub IsParseErrorIn : PatternDialect → Flags → (pattern : List ℕ) → ParseError → Type 0
IsParseErrorIn s flags pattern (Syntax d) = IsDiagnosisIn s flags pattern d
IsParseErrorIn s flags pattern TooManyGroups = OpensTooManyGroups pattern
IsParseErrorIn s flags pattern Memory = Unit {0}

-- `IsDiagnosisIn` for the profile.
abbrev pub IsDiagnosisOf : Flags → (pattern : List ℕ) → Diagnosis → Type 0
IsDiagnosisOf = IsDiagnosisIn profile

-- `IsParseErrorIn` for the profile.
abbrev pub IsParseErrorOf : Flags → (pattern : List ℕ) → ParseError → Type 0
IsParseErrorOf = IsParseErrorIn profile
