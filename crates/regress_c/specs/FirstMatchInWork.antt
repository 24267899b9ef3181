-- The results of a search within a work budget.
use Rattle.std.specs.Prelude.{◌≡◌, ◌<◌, ◌≤◌, ℕ, List, Option, Some, None, Result, Ok, Err, IsUtf8, length, option_map, slice_get}
use Rattle.regex_meaning.specs.MatchGroupsByNumberAndName.{Answer}
use Rattle.regress_search.specs.MatchesAsSpecAnswers.{answer_of}
use Rattle.regress_search.specs.declared.exec.Match.{Match}
use Rattle.regress_match.specs.ProgramTreesAndAnswers.{bytes_as_utf8_text, utf8_answers}
use Rattle.regress_match.specs.WorkBounds.{IsHigherOfProgramWorkBounds, IsPatternUnboundedBy, enough_work_for_text}
use Rattle.regress_match.specs.declared.api.regex.Regex.{Regex}
use Rattle.regress_c.specs.Codes.{code_of_result}
use Rattle.regress_c.specs.Replies.{buffer_after_search, reply_to}
use Rattle.regress_c.specs.Searching.{can_start_utf8}
use Rattle.regress_c.specs.declared.refusal.Refusal.{Refusal}
use Rattle.regress_c.specs.declared.refusal.Refusal.TheVariants.{Empty, NotUtf8, NotBoundary, Memory, Unbounded, WorkLimit}
use Rattle.regress_c.specs.declared.reply.Reply.{Reply}
use Rattle.regress_c.specs.declared.reply.Span.{Span}

-- No work is left, and the budget was less than what the pattern's bound requires for the text.
abbrev pub IsWorkBudgetTooSmall : Regex → (text : List ℕ) → (work left : ℕ) → Type 0
IsWorkBudgetTooSmall re text work left = (left ≡ 0) × ((per_unit : ℕ) × IsHigherOfProgramWorkBounds re per_unit
    × (work < enough_work_for_text per_unit (bytes_as_utf8_text re text)))

-- The result of the search: the first match from `start` on, `None` exactly if there is none, or a
-- refusal.
abbrev pub IsFirstInWork : Regex → (text : List ℕ) → (start work : ℕ) → Result (Option Match) Refusal → (left : ℕ)
    → Type 0
IsFirstInWork re text start work (Ok m) left = (option_map answer_of m ≡ slice_get (utf8_answers re text start) 0)
    × (left ≤ work)
IsFirstInWork re text start work (Err Memory) left = left ≤ work
IsFirstInWork re text start work (Err (Unbounded reason)) left = (left ≡ work) × IsPatternUnboundedBy re reason
IsFirstInWork re text start work (Err WorkLimit) left = IsWorkBudgetTooSmall re text work left
IsFirstInWork re text start work (Err _) left = ⊥

-- The result after checking that the bytes are UTF-8 and that a search may start at `start`.
abbrev pub IsFindResultWithinWork : Regex → (text : List ℕ) → (start work : ℕ) → Result (Option Match) Refusal
    → (left : ℕ)
    → Type 0
IsFindResultWithinWork re text start work (Err NotUtf8) left = (¬ IsUtf8 text) × (left ≡ work)
IsFindResultWithinWork re text start work (Err NotBoundary) left = IsUtf8 text × (¬ can_start_utf8 text start)
    × (left ≡ work)
IsFindResultWithinWork re text start work found left = IsUtf8 text × can_start_utf8 text start
    × IsFirstInWork re text start work found left

-- The result for the handle's pattern. The call is refused if the handle is empty.
abbrev pub IsFindResultOfHandleWithinWork : (held : Option Regex) → (text : List ℕ) → (start work : ℕ)
    → Result (Option Match) Refusal
    → (left : ℕ) → Type 0
IsFindResultOfHandleWithinWork None text start work found left = (found ≡ Err Empty) × (left ≡ work)
IsFindResultOfHandleWithinWork (Some re) text start work found left =
    IsFindResultWithinWork re text start work found left

-- The reply and the final buffer are those of some result, and `left` is the work that is left.
abbrev pub RepliesInWork : (held : Option Regex) → (text : List ℕ) → (start work left : ℕ) → (before after : List Span)
    → Reply → Type 0
RepliesInWork held text start work left before after reply = (found : Result (Option Match) Refusal)
    × IsFindResultOfHandleWithinWork held text start work found left × (reply ≡ reply_to found (length before))
    × (after ≡ buffer_after_search found before)

-- The result is the work bound of the handle's pattern, or the reason why it has none.
abbrev pub IsWorkBoundResult : (held : Option Regex) → Result ℕ Refusal → Type 0
IsWorkBoundResult None result = result ≡ Err Empty
IsWorkBoundResult (Some re) (Ok per_unit) = IsHigherOfProgramWorkBounds re per_unit
IsWorkBoundResult (Some re) (Err (Unbounded reason)) = IsPatternUnboundedBy re reason
IsWorkBoundResult (Some re) (Err _) = ⊥

-- The caller's variable after a result. It held `before`.
abbrev pub number_after_work_bound : Result ℕ Refusal → (before : ℕ) → ℕ
number_after_work_bound (Ok per_unit) before = per_unit
number_after_work_bound (Err refusal) before = before

-- The code and the caller's final variable are those of some result.
abbrev pub RepliesWorkBound : (held : Option Regex) → (before after : ℕ) → (code : ℕ) → Type 0
RepliesWorkBound held before after code = (work_bound_or_refusal : Result ℕ Refusal)
    × IsWorkBoundResult held work_bound_or_refusal × (code ≡ code_of_result work_bound_or_refusal)
    × (after ≡ number_after_work_bound work_bound_or_refusal before)
