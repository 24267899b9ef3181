-- The errors of compiling a pattern: how the errors of the stages are reported, and when each one
-- occurs.
use Rattle.std.specs.Prelude.{◌≡◌, ℕ, List, Option, Some, None}
use Rattle.regex_meaning.specs.Tree.{Tree, Flags}
use Rattle.regex_meaning.specs.Grammar.{PatternDialect, ParsesBy, profile}
use Rattle.regex_parser.specs.ParserInvariants.{OpensTooManyGroups}
use Rattle.regress_program.specs.CompileRefusals.{TreeHasByteCompileErrorCause}
use Rattle.regex_parser.specs.ParseErrors.{IsDiagnosisIn}
use Rattle.regex_parser.specs.declared.diagnosis.Diagnosis.{Diagnosis}
use Rattle.regex_parser.specs.declared.parse.ParseError.{ParseError}
use Rattle.regex_parser.specs.declared.parse.ParseError.TheVariants as parse
use Rattle.regress_program.specs.declared.emit.EmitError.{EmitError}
use Rattle.regress_program.specs.declared.emit.EmitError.TheVariants as emit
use Rattle.regress_search.specs.declared.exec.SearchError.{SearchError}
use Rattle.regress_search.specs.declared.exec.SearchError.TheVariants as search
use Rattle.regress_match.specs.declared.api.compile_and_replace_errors.Error.{Error}
use Rattle.regress_match.specs.declared.api.compile_and_replace_errors.Error.TheVariants.{Parse, Emit, Memory}

-- The public error for a parse error. An allocation failure is `Memory` and too many groups are
-- `Emit`, whichever stage detects them.
abbrev pub error_of_parse : ParseError → Error
error_of_parse parse.Memory = Memory
error_of_parse parse.TooManyGroups = Emit emit.TooManyGroups
error_of_parse e = Parse e

-- The diagnosis in an error.
abbrev pub diagnosis_in_error : Error → Option Diagnosis
diagnosis_in_error (Parse (parse.Syntax diagnosis)) = Some diagnosis
diagnosis_in_error _ = None

-- The public error for an error of the emitter.
abbrev pub error_of_emit : EmitError → Error
error_of_emit emit.Memory = Memory
error_of_emit e = Emit e

-- The tree of a pattern of this syntax exceeds the limit that the error `e` names.
pub record ExceedsLimitWithSyntax (s : PatternDialect) (flags : Flags) (pattern : List ℕ) (e : EmitError) : Type 0 where
  pub tree : Tree
  pub parsed : ParsesBy s flags pattern tree
  pub refused : TreeHasByteCompileErrorCause e tree

-- `ExceedsLimitWithSyntax` for a pattern of the profile.
abbrev pub ExceedsLimit : Flags → (pattern : List ℕ) → EmitError → Type 0
ExceedsLimit = ExceedsLimitWithSyntax profile

-- When a pattern of this syntax is refused. `Syntax`: the grammar has no tree for it, and the
-- diagnosis is at one of its code points or at its end. `Emit`: it opens too many groups, or its
-- tree exceeds another limit. `Memory`: at any time, since no definition says when an allocation
-- fails.
abbrev pub IsPatternRefusedWithSyntax : PatternDialect → Flags → (pattern : List ℕ) → Error → Type 0
IsPatternRefusedWithSyntax s flags pattern (Parse (parse.Syntax d)) = IsDiagnosisIn s flags pattern d
IsPatternRefusedWithSyntax s flags pattern (Parse parse.TooManyGroups) = ⊥
IsPatternRefusedWithSyntax s flags pattern (Parse parse.Memory) = ⊥
IsPatternRefusedWithSyntax s flags pattern (Emit emit.TooManyGroups) = OpensTooManyGroups pattern
IsPatternRefusedWithSyntax s flags pattern (Emit emit.TooManyLoops) =
    ExceedsLimitWithSyntax s flags pattern emit.TooManyLoops
IsPatternRefusedWithSyntax s flags pattern (Emit emit.TooManyInstructions) =
    ExceedsLimitWithSyntax s flags pattern emit.TooManyInstructions
IsPatternRefusedWithSyntax s flags pattern (Emit emit.NotWellFormed) = ⊥
IsPatternRefusedWithSyntax s flags pattern (Emit emit.BytesInUnits) = ⊥
IsPatternRefusedWithSyntax s flags pattern (Emit emit.Memory) = ⊥
IsPatternRefusedWithSyntax s flags pattern Memory = Unit {0}

-- `IsPatternRefusedWithSyntax` for a pattern of the profile.
abbrev pub IsPatternRefusedWith : Flags → (pattern : List ℕ) → Error → Type 0
IsPatternRefusedWith = IsPatternRefusedWithSyntax profile

-- The error is `Memory`. A search without a step limit has no other error.
abbrev pub IsOutOfMemory : SearchError → Type 0
IsOutOfMemory e = e ≡ search.Memory
