-- The patterns of a schema. Each is identified by its text.
use Rattle.std.specs.Prelude.{◌≡◌, ℕ, List, String, chars, codes, string_bytes}
use Rattle.std.specs.Global.{Global}
use Rattle.regex_meaning.specs.FlagLettersAndEscaping.{flags_from_letters}
use Rattle.regex_meaning.specs.Laws.{Each}
use Rattle.regex_meaning.specs.EcmaGrammarWithAnnexB.{ecmascript}
use Rattle.regress_match.specs.ProgramTreesAndAnswers.{IsCompiledWithSyntax}
use Rattle.regress_match.specs.declared.api.regex.Regex.{Regex}
use Rattle.use_validator.specs.Judge.{IsVerdictRight}
use Rattle.use_validator.specs.declared.judge.Verdict.{Verdict}

-- `re` is the compiled pattern with this text. It is read in the language of ECMAScript 2018, with
-- the flag `u`.
abbrev pub IsProgramOf : (text : List ℕ) → Regex → Type 0
IsProgramOf text re = IsCompiledWithSyntax ecmascript (flags_from_letters (codes "u")) (chars text) re

-- Each entry has a text and the compiled pattern with this text.
abbrev pub AreProgramsOf : List (String Global × Regex) → Type 0
AreProgramsOf entries = Each (λ e. IsProgramOf (string_bytes e.0) e.1) entries

-- `IsProgramOf` as a proposition.
abbrev pub IsProgramOfAsProposition : (text : List ℕ) → Regex → Type 0
IsProgramOfAsProposition text re = ∥ IsProgramOf text re ∥₁

-- `AreProgramsOf` as a proposition.
abbrev pub AreCompiledFromTheirTexts : List (String Global × Regex) → Type 0
AreCompiledFromTheirTexts entries = ∥ AreProgramsOf entries ∥₁

-- The verdict of the pattern with this text on a text, where the search is limited to `steps`
-- steps, or to work that suffices.
abbrev pub IsVerdictOf : (pattern text : List ℕ) → (steps : ℕ) → Verdict → Type 0
IsVerdictOf pattern text steps verdict = (re : Regex) × IsProgramOfAsProposition pattern re
    × IsVerdictRight re text steps verdict
