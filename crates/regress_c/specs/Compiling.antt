-- The results of compiling a pattern, and of copying a compiled one.
use Rattle.std.specs.Prelude.{◌≡◌, ◌<◌, ◌≤◌, ◌-◌, ◌^◌, ℕ, List, Option, Some, None, Result, Ok, Err, length}
use Rattle.regex_meaning.specs.Tree.{Flags}
use Rattle.regex_meaning.specs.FlagLettersAndEscaping.{flags_from_letters}
use Rattle.regex_parser.specs.ParenthesisDepth.{greatest_parenthesis_depth_in}
use Rattle.regex_parser.specs.SyntaxDialects.{spec_syntax_of}
use Rattle.regex_parser.specs.ParserInvariants.{HasNoTreeIn, OpensTooManyGroups}
use Rattle.regex_parser.specs.declared.syntax.Syntax as pattern
use Rattle.regex_parser.specs.declared.syntax.Syntax.TheVariants.{Profile}
use Rattle.regress_program.specs.declared.emit.EmitError.TheVariants as emit
use Rattle.regress_match.specs.ProgramTreesAndAnswers.{IsCompiledWithSyntax}
use Rattle.regress_match.specs.CompileErrors.{ExceedsLimitWithSyntax}
use Rattle.regress_match.specs.declared.api.regex.Regex.{Regex}
use Rattle.regress_c.specs.Codes.{code_of_refusal, code_of_result}
use Rattle.regress_c.specs.Reading.{AreFlags}
use Rattle.regress_c.specs.declared.compiling.Bounds.{Bounds}
use Rattle.regress_c.specs.declared.refusal.Refusal.{Refusal}
use Rattle.regress_c.specs.declared.refusal.Refusal.TheVariants.{Empty, Full, NotUtf8, Memory, Syntax, TooManyGroups, TooManyLoops, TooManyInstructions, UnknownFlag, UnknownSyntax, TooLong, TooDeep}

-- A pattern as the caller gives it: its language, whether it is valid in its encoding, its code
-- points, and the letters of its flags.
pub record GivenPattern : Type 1 where
  pub syntax : pattern.Syntax
  pub is_text : Type 0
  pub characters : List ℕ
  pub flags : List ℕ

-- The pattern with these fields.
abbrev pub given_with_syntax : pattern.Syntax → (is_text : Type 0) → (characters flags : List ℕ) → GivenPattern
given_with_syntax syntax is_text characters flags =
    record { syntax = syntax; is_text = is_text; characters = characters; flags = flags }

-- The pattern of the profile with these fields.
abbrev pub given : (is_text : Type 0) → (characters flags : List ℕ) → GivenPattern
given = given_with_syntax Profile

-- All letters are letters of flags, and the pattern is valid in its encoding.
pub record HasValidTextAndFlags (g : GivenPattern) : Type 0 where
  pub letters : AreFlags g.flags
  pub text : g.is_text

-- Bounds that do not limit patterns: both are the greatest `u64`.
abbrev pub unbounded : Bounds
unbounded = record { length = 2 ^ 64 - 1; nesting = 2 ^ 64 - 1 }

-- The length and the nesting depth of the pattern are within the bounds.
pub record IsPatternWithinBounds (bounds : Bounds) (characters : List ℕ) : Type 0 where
  pub length_is : length characters ≤ bounds.length
  pub nesting_is : greatest_parenthesis_depth_in characters ≤ bounds.nesting

-- When the pattern is refused because of what it says: the grammar has no tree for it, it opens too
-- many groups, or its tree exceeds another limit.
abbrev pub RefusesPattern : pattern.Syntax → Flags → (characters : List ℕ) → Refusal → Type 0
RefusesPattern syntax flags characters Syntax = HasNoTreeIn (spec_syntax_of syntax) flags characters
RefusesPattern syntax flags characters TooManyGroups = OpensTooManyGroups characters
RefusesPattern syntax flags characters TooManyLoops =
    ExceedsLimitWithSyntax (spec_syntax_of syntax) flags characters emit.TooManyLoops
RefusesPattern syntax flags characters TooManyInstructions =
    ExceedsLimitWithSyntax (spec_syntax_of syntax) flags characters emit.TooManyInstructions
RefusesPattern syntax flags characters _ = ⊥

-- The result of compiling: the compiled pattern, or a refusal.
abbrev pub IsCompileResult : GivenPattern → Bounds → Result Regex Refusal → Type 0
IsCompileResult g bounds (Ok re) =
    HasValidTextAndFlags g × IsPatternWithinBounds bounds g.characters × IsCompiledWithSyntax (spec_syntax_of g.syntax)
    (flags_from_letters g.flags) g.characters re
IsCompileResult g bounds (Err UnknownFlag) = ¬ AreFlags g.flags
IsCompileResult g bounds (Err NotUtf8) = ¬ g.is_text
IsCompileResult g bounds (Err Memory) = HasValidTextAndFlags g
IsCompileResult g bounds (Err TooLong) = HasValidTextAndFlags g × (bounds.length < length g.characters)
IsCompileResult g bounds (Err TooDeep) = HasValidTextAndFlags g
    × (bounds.nesting < greatest_parenthesis_depth_in g.characters)
IsCompileResult g bounds (Err refusal) = HasValidTextAndFlags g × IsPatternWithinBounds bounds g.characters
    × RefusesPattern g.syntax (flags_from_letters g.flags) g.characters refusal

-- The result of compiling into a handle that holds `held`. If the handle is not empty, the call is
-- refused.
abbrev pub IsCompileResultForHandle : (held : Option Regex) → GivenPattern → Bounds → Result Regex Refusal → Type 0
IsCompileResultForHandle None g bounds made = IsCompileResult g bounds made
IsCompileResultForHandle (Some re) g bounds made = made ≡ Err Full

-- The content of a handle after a result. Before, it held `held`.
abbrev pub handle_content_after_compiling : (held : Option Regex) → Result Regex Refusal → Option Regex
handle_content_after_compiling held (Ok re) = Some re
handle_content_after_compiling held (Err refusal) = held

-- The code and the final handle are those of some result of compiling.
abbrev pub RepliesCompileResult : (before : Option Regex) → GivenPattern → Bounds → (after : Option Regex) → (code : ℕ)
    → Type 0
RepliesCompileResult before g bounds after code = (made : Result Regex Refusal)
    × IsCompileResultForHandle before g bounds made × (code ≡ code_of_result made)
    × (after ≡ handle_content_after_compiling before made)

-- `RepliesCompileResult` for a pattern of the given language. If there is no language, the call is refused
-- and the handle is unchanged.
abbrev pub RepliesCompileResultWithSyntax :
    (before : Option Regex) → Option pattern.Syntax → (pattern.Syntax → GivenPattern) → Bounds → (after : Option Regex)
    → (code : ℕ) → Type 0
RepliesCompileResultWithSyntax before None g bounds after code = (code ≡ code_of_refusal UnknownSyntax)
    × (after ≡ before)
RepliesCompileResultWithSyntax before (Some syntax) g bounds after code =
    RepliesCompileResult before (g syntax) bounds after code

-- The result of copying: an equal pattern if the first handle holds one and the second is empty.
-- Otherwise the call is refused. An allocation may also fail.
abbrev pub IsCloneResultForHandle : (held into : Option Regex) → Result Regex Refusal → Type 0
IsCloneResultForHandle None into made = made ≡ Err Empty
IsCloneResultForHandle (Some re) (Some other) made = made ≡ Err Full
IsCloneResultForHandle (Some re) None (Ok copy) = copy ≡ re
IsCloneResultForHandle (Some re) None (Err refusal) = refusal ≡ Memory

-- The code and the final content of the second handle are those of some result of copying.
abbrev pub RepliesCloned : (held before after : Option Regex) → (code : ℕ) → Type 0
RepliesCloned held before after code = (made : Result Regex Refusal)
    × IsCloneResultForHandle held before made × (code ≡ code_of_result made)
    × (after ≡ handle_content_after_compiling before made)
