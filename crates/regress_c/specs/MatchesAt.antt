-- The match at one offset, in each encoding of the text.
use Rattle.std.specs.Prelude.{ℕ, List, [], ◌∷◌, Option, Some, None, false}
use Rattle.regex_meaning.specs.MatchGroupsByNumberAndName.{Answer}
use Rattle.regress_match.specs.ProgramTreesAndAnswers.{ucs2_answer_beginning_at, utf16_answer_beginning_at, utf8_answer_beginning_at}
use Rattle.regress_match.specs.declared.api.regex.Regex.{Regex}
use Rattle.regress_c.specs.Searching.{MatchesToCome}

-- The match as a list. Empty if there is none.
abbrev pub option_as_list : Option Answer → List Answer
option_as_list None = []
option_as_list (Some m) = m ∷ []

-- The match that begins at `at` in a UTF-8 text.
abbrev pub utf8_match_to_come_at : (text : List ℕ) → Regex → (at : ℕ) → MatchesToCome
utf8_match_to_come_at text re at =
    record { answers = option_as_list (utf8_answer_beginning_at re text at); limited = false }

-- The match that begins at `at` in a UTF-16 text.
abbrev pub utf16_match_to_come_at : (text : List ℕ) → Regex → (at : ℕ) → MatchesToCome
utf16_match_to_come_at text re at =
    record { answers = option_as_list (utf16_answer_beginning_at re text at); limited = false }

-- The match that begins at `at` in a UCS-2 text.
abbrev pub ucs2_match_to_come_at : (text : List ℕ) → Regex → (at : ℕ) → MatchesToCome
ucs2_match_to_come_at text re at =
    record { answers = option_as_list (ucs2_answer_beginning_at re text at); limited = false }
