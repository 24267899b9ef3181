-- The results of a search, in each encoding of its text.
use Rattle.std.specs.Prelude.{◌≡◌, ◌<◌, ◌⊎◌, ℕ, Bool, true, false, List, [], Option, Some, None, Result, Ok, Err, IsCharBoundary, IsTrue, IsUtf8, length, option_map, slice_get}
use Rattle.std.specs.Option.{IfNone}
use Rattle.std.specs.Borrow.{Bor}
use Rattle.regex_meaning.specs.MatchGroupsByNumberAndName.{Answer}
use Rattle.regex_meaning.specs.Text.{is_unit_boundary}
use Rattle.regress_search.specs.MatchesAsSpecAnswers.{answer_of}
use Rattle.regress_search.specs.declared.exec.Match.{Match}
use Rattle.regress_match.specs.ProgramTreesAndAnswers.{utf8_answers, utf16_answers, ucs2_answers}
use Rattle.regress_match.specs.declared.api.regex.Regex.{Regex}
use Rattle.regress_c.specs.Replies.{buffer_after_search, reply_to}
use Rattle.regress_c.specs.declared.refusal.Refusal.{Refusal}
use Rattle.regress_c.specs.declared.refusal.Refusal.TheVariants.{Empty, NotUtf8, NotBoundary, Memory, StepLimit}
use Rattle.regress_c.specs.declared.reply.Reply.{Reply}
use Rattle.regress_c.specs.declared.reply.Span.{Span}

-- The remaining matches, and whether a step limit follows them instead of the end.
pub record MatchesToCome : Type 0 where
  pub answers : List Answer
  pub limited : Bool

-- The matches in a UTF-8 text from `start` on.
abbrev pub utf8_matches_to_come : (text : List ℕ) → Regex → (start : ℕ) → MatchesToCome
utf8_matches_to_come text re start = record { answers = utf8_answers re text start; limited = false }

-- The matches in a UTF-16 text from `start` on.
abbrev pub utf16_matches_to_come : (text : List ℕ) → Regex → (start : ℕ) → MatchesToCome
utf16_matches_to_come text re start = record { answers = utf16_answers re text start; limited = false }

-- The matches in a UCS-2 text from `start` on.
abbrev pub ucs2_matches_to_come : (text : List ℕ) → Regex → (start : ℕ) → MatchesToCome
ucs2_matches_to_come text re start = record { answers = ucs2_answers re text start; limited = false }

-- The start does not split a character of the UTF-8 text, or is past the end.
abbrev pub can_start_utf8 : (text : List ℕ) → (start : ℕ) → Type 0
can_start_utf8 text start = IsCharBoundary text start ⊎ (length text < start)

-- The start does not split a surrogate pair of the UTF-16 text, or is past the end.
abbrev pub can_start_utf16 : (text : List ℕ) → (start : ℕ) → Type 0
can_start_utf16 text start = IsTrue (is_unit_boundary text start) ⊎ (length text < start)

-- The result is the first of the remaining matches, or `None` exactly if there is none and no step
-- limit. The search is refused at a step limit, or if an allocation fails.
abbrev pub IsFirstOfRemainingMatches : MatchesToCome → Result (Option Match) Refusal → Type 0
IsFirstOfRemainingMatches coming (Ok m) = (option_map answer_of m ≡ slice_get coming.answers 0)
    × IfNone m (coming.limited ≡ false)
IsFirstOfRemainingMatches coming (Err Memory) = Unit {0}
IsFirstOfRemainingMatches coming (Err StepLimit) = (coming.answers ≡ []) × (coming.limited ≡ true)
IsFirstOfRemainingMatches coming (Err _) = ⊥

-- The result after the text and the start are checked.
abbrev pub Finds : (is_text can_start : Type 0) → MatchesToCome → Result (Option Match) Refusal → Type 0
Finds is_text can_start coming (Err NotUtf8) = ¬ is_text
Finds is_text can_start coming (Err NotBoundary) = is_text × ¬ can_start
Finds is_text can_start coming found = is_text × can_start × IsFirstOfRemainingMatches coming found

-- The result is the text with these bytes, if they are UTF-8 and a search may start at `start`.
abbrev pub IsTextWithValidStart : (bytes : List ℕ) → (start : ℕ) → Result (Bor (List ℕ)) Refusal → Type 0
IsTextWithValidStart bytes start (Ok text) = (text.now ≡ bytes) × IsUtf8 bytes × can_start_utf8 bytes start
IsTextWithValidStart bytes start (Err NotUtf8) = ¬ IsUtf8 bytes
IsTextWithValidStart bytes start (Err NotBoundary) = IsUtf8 bytes × ¬ can_start_utf8 bytes start
IsTextWithValidStart bytes start (Err _) = ⊥

-- The result for the handle's pattern. The call is refused if the handle is empty.
abbrev pub IsFindResultOfHandle : (held : Option Regex) → (is_text can_start : Type 0) → (Regex → MatchesToCome)
    → Result (Option Match) Refusal → Type 0
IsFindResultOfHandle None is_text can_start coming found = found ≡ Err Empty
IsFindResultOfHandle (Some re) is_text can_start coming found = Finds is_text can_start (coming re) found

-- The reply and the final buffer are those of some result.
abbrev pub Replies : (held : Option Regex) → (is_text can_start : Type 0) → (Regex → MatchesToCome)
    → (before after : List Span) → Reply → Type 0
Replies held is_text can_start coming before after reply = (found : Result (Option Match) Refusal)
    × IsFindResultOfHandle held is_text can_start coming found × (reply ≡ reply_to found (length before))
    × (after ≡ buffer_after_search found before)
