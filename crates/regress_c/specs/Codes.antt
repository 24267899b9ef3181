-- The codes of refusals, and the refusal for each error of the crates below.
use Rattle.std.specs.Prelude.{ℕ, Result, Ok, Err}
use Rattle.regex_parser.specs.declared.parse.ParseError.TheVariants as parse
use Rattle.regress_program.specs.declared.emit.EmitError.TheVariants as emit
use Rattle.regress_search.specs.declared.exec.SearchError.{SearchError}
use Rattle.regress_search.specs.declared.exec.SearchError.TheVariants as search
use Rattle.regress_search.specs.declared.exec.work_matches.WorkError.{WorkError}
use Rattle.regress_search.specs.declared.exec.work_matches.WorkError.TheVariants as worked
use Rattle.regress_bounded.specs.declared.work_bound.Unbounded as unbounded
use Rattle.regress_bounded.specs.declared.work_bound.Unbounded.TheVariants as cause
use Rattle.regress_match.specs.declared.api.compile_and_replace_errors.Error.{Error}
use Rattle.regress_match.specs.declared.api.compile_and_replace_errors.Error.TheVariants as error
use Rattle.regress_c.specs.declared.refusal.Refusal.{Refusal}
use Rattle.regress_c.specs.declared.refusal.Refusal.TheVariants.{Empty, Full, NotUtf8, NotBoundary, ShortBuffer, Memory, StepLimit, Syntax, TooManyGroups, TooManyLoops, TooManyInstructions}
use Rattle.regress_c.specs.declared.refusal.Refusal.TheVariants.{UnknownFlag, TooLong, TooDeep, NoGroup, NotOpen, NotCounted, Unbounded, WorkLimit, UnknownSyntax}

-- The code of a call that succeeded.
abbrev pub done : ℕ
done = 0

-- The code of a search without a match.
abbrev pub no_match : ℕ
no_match = 1

-- The code of each reason for which no work bound is known.
abbrev pub code_of_unbounded_reason : unbounded.Unbounded → ℕ
code_of_unbounded_reason cause.Memory = 7
code_of_unbounded_reason cause.Lookaround = 19
code_of_unbounded_reason cause.Backreference = 22
code_of_unbounded_reason cause.Count = 23
code_of_unbounded_reason cause.BoundTooLarge = 24

-- The code of each refusal.
abbrev pub code_of_refusal : Refusal → ℕ
code_of_refusal Empty = 2
code_of_refusal Full = 3
code_of_refusal NotUtf8 = 4
code_of_refusal NotBoundary = 5
code_of_refusal ShortBuffer = 6
code_of_refusal Memory = 7
code_of_refusal StepLimit = 8
code_of_refusal Syntax = 9
code_of_refusal TooManyGroups = 10
code_of_refusal TooManyLoops = 11
code_of_refusal TooManyInstructions = 12
code_of_refusal UnknownFlag = 13
code_of_refusal TooLong = 14
code_of_refusal TooDeep = 15
code_of_refusal NoGroup = 16
code_of_refusal NotOpen = 17
code_of_refusal NotCounted = 18
code_of_refusal (Unbounded reason) = code_of_unbounded_reason reason
code_of_refusal WorkLimit = 20
code_of_refusal UnknownSyntax = 21

-- The code of a result.
abbrev pub code_of_result : {A : Type 0} → Result A Refusal → ℕ
code_of_result (Ok value) = done
code_of_result (Err refusal) = code_of_refusal refusal

-- The refusal for an error of compiling a pattern. All errors that are not listed are reported as
-- `Memory`.
abbrev pub refusal_of_compile_error : Error → Refusal
refusal_of_compile_error (error.Parse (parse.Syntax d)) = Syntax
refusal_of_compile_error (error.Emit emit.TooManyGroups) = TooManyGroups
refusal_of_compile_error (error.Emit emit.TooManyLoops) = TooManyLoops
refusal_of_compile_error (error.Emit emit.TooManyInstructions) = TooManyInstructions
refusal_of_compile_error _ = Memory

-- The refusal for an error of a search.
abbrev pub refusal_of_search_error : SearchError → Refusal
refusal_of_search_error search.Memory = Memory
refusal_of_search_error search.StepLimit = StepLimit

-- The refusal for an error of a search within a work budget.
abbrev pub refusal_of_work_error : WorkError → Refusal
refusal_of_work_error worked.Memory = Memory
refusal_of_work_error worked.WorkLimit = WorkLimit
