-- The matches that one call writes within a work budget, and why it stops.
use Rattle.std.specs.Prelude.{◌≡◌, ◌<◌, ◌≤◌, ◌+◌, ◌*◌, ◌++◌, ℕ, false, List, [], Option, Some, None, Result, Ok, Err, IsUtf8, flat_map, length}
use Rattle.regex_meaning.specs.Laws.{Each}
use Rattle.regex_meaning.specs.MatchGroupsByNumberAndName.{Answer}
use Rattle.regress_search.specs.MatchesWithinWork.{RemainingAnswersAndWork}
use Rattle.regress_search.specs.declared.exec.work_matches.WorkError.{WorkError}
use Rattle.regress_search.specs.declared.exec.work_matches.WorkError.TheVariants as worked
use Rattle.regress_match.specs.ProgramTreesAndAnswers.{utf8_answers}
use Rattle.regress_match.specs.WorkBounds.{IsPatternUnboundedBy}
use Rattle.regress_match.specs.declared.api.regex.Regex.{Regex}
use Rattle.regress_c.specs.Codes.{code_of_refusal, done, no_match, refusal_of_work_error}
use Rattle.regress_c.specs.FirstMatchInWork.{IsWorkBudgetTooSmall}
use Rattle.regress_c.specs.Replies.{spans_of, with_front_overwritten}
use Rattle.regress_c.specs.Searching.{can_start_utf8}
use Rattle.regress_c.specs.Texts.{range_count}
use Rattle.regress_c.specs.declared.refusal.Refusal.{Refusal}
use Rattle.regress_c.specs.declared.refusal.Refusal.TheVariants.{Empty, NotUtf8, NotBoundary, ShortBuffer, Memory, Unbounded}
use Rattle.regress_c.specs.declared.reply.Reply.{Reply}
use Rattle.regress_c.specs.declared.reply.Span.{Span}

-- ---- Matches of an iterator

-- Why no further match was written: there is no room for it, no match remains, or the search for it
-- failed.
pub data Ending : Type 0 where
  full : Ending
  over : Ending
  failed : WorkError → Ending

-- The code that reports why no further match was written.
abbrev pub code_of_ending : Ending → ℕ
code_of_ending full = done
code_of_ending over = no_match
code_of_ending (failed error) = code_of_refusal (refusal_of_work_error error)

-- The matches that were written, the matches that remain, and why no more were written.
pub record Written : Type 0 where
  pub found : List Answer
  pub rest : List Answer
  pub ending : Ending

-- The reply after matches were written: their number, and the code of why no more were written.
abbrev pub reply_after_writing : Written → Reply
reply_after_writing w = record { code = code_of_ending w.ending; count = length w.found }

-- The buffer after matches were written. It has the ranges of one match after another.
abbrev pub spans_written : Written → (before : List Span) → List Span
spans_written w before = with_front_overwritten (flat_map spans_of w.found) before

-- An iterator over matches with `ranges` ranges each. Its view is `before` at first and `behind` at
-- the end.
module _ (ranges room : ℕ) (before behind : RemainingAnswersAndWork) where
  -- When no further match of the iterator is written.
  abbrev pub IsEndingOfIterator : Written → Ending → Type 0
  IsEndingOfIterator w full = room < (length w.found + 1) * ranges
  IsEndingOfIterator w over = w.rest ≡ []
  IsEndingOfIterator w (failed worked.Memory) = Unit {0}
  IsEndingOfIterator w (failed worked.WorkLimit) = (before.enough ≡ false) × (behind.left ≡ 0)

  -- The matches of the iterator are those that were written, followed by those that remain.
  pub record IsWritten (w : Written) : Type 0 where
    pub answers : before.remaining.answers ≡ w.found ++ w.rest
    pub fewer : behind.left ≤ before.left
    pub ends : IsEndingOfIterator w w.ending

-- The matches of an iterator are written, and the reply says how many.
abbrev pub WritesMatchesWithinWork : (ranges : ℕ) → (before behind : RemainingAnswersAndWork) → (old new : List Span)
    → Reply
    → Type 0
WritesMatchesWithinWork ranges before behind old new reply = (w : Written)
    × IsWritten ranges (length old) before behind w × (reply ≡ reply_after_writing w) × (new ≡ spans_written w old)

-- ---- Matches in a text

-- A search with this pattern in a UTF-8 text. `work` is the work budget, `left` is the work that is
-- left, and `room` is the number of ranges that fit into the buffer.
module _ (re : Regex) (text : List ℕ) (work left room : ℕ) where
  -- When no further match is written. There is no room for its ranges, no match remains, an
  -- allocation failed, or the work did not suffice and none is left.
  abbrev pub IsEndingWithinWork : Written → Ending → Type 0
  IsEndingWithinWork w full = room < (length w.found + 1) * range_count re
  IsEndingWithinWork w over = w.rest ≡ []
  IsEndingWithinWork w (failed worked.Memory) = Unit {0}
  IsEndingWithinWork w (failed worked.WorkLimit) = IsWorkBudgetTooSmall re text work left

  -- The matches from `start` on are the written ones, followed by those that remain. There is room
  -- for at least one match.
  pub record IsRunWithinWork (start : ℕ) (w : Written) : Type 0 where
    pub answers : utf8_answers re text start ≡ w.found ++ w.rest
    pub fits : range_count re ≤ room
    pub fewer : left ≤ work
    pub ranges : Each (λ m. length (spans_of m) ≡ range_count re) w.found
    pub ends : IsEndingWithinWork w w.ending

-- When a call is refused before it searches. Then it takes no work.
abbrev pub RefusesAllInWork : Regex → (text : List ℕ) → (start : ℕ) → Refusal → Type 0
RefusesAllInWork re text start NotUtf8 = ¬ IsUtf8 text
RefusesAllInWork re text start NotBoundary = IsUtf8 text × ¬ can_start_utf8 text start
RefusesAllInWork re text start (Unbounded reason) = IsUtf8 text × can_start_utf8 text start
    × IsPatternUnboundedBy re reason
RefusesAllInWork re text start Memory = IsUtf8 text × can_start_utf8 text start
RefusesAllInWork re text start _ = ⊥

-- The outcome of a call: it wrote matches, had less room than the ranges of one match, or was
-- refused.
pub data Outcome : Type 0 where
  ran : Written → Outcome
  short : Outcome
  refused : Refusal → Outcome

-- The outcome of a call with this pattern.
abbrev pub IsFindAllOutcome : Regex → (text : List ℕ) → (start work left room : ℕ) → Outcome → Type 0
IsFindAllOutcome re text start work left room (ran w) = IsUtf8 text × can_start_utf8 text start
    × IsRunWithinWork re text work left room start w
IsFindAllOutcome re text start work left room short = IsUtf8 text × can_start_utf8 text start × (room < range_count re)
    × (left ≡ work)
IsFindAllOutcome re text start work left room (refused refusal) = RefusesAllInWork re text start refusal × (left ≡ work)

-- The reply for an outcome.
abbrev pub outcome_reply : Regex → Outcome → Reply
outcome_reply re (ran w) = reply_after_writing w
outcome_reply re short = record { code = code_of_refusal ShortBuffer; count = range_count re }
outcome_reply re (refused refusal) = record { code = code_of_refusal refusal; count = 0 }

-- The buffer after an outcome.
abbrev pub spans_after_outcome : Outcome → (before : List Span) → List Span
spans_after_outcome (ran w) before = spans_written w before
spans_after_outcome short before = before
spans_after_outcome (refused refusal) before = before

-- The reply, the work that is left and the final buffer are those of some outcome.
abbrev pub RepliesOutcome : Regex → (text : List ℕ) → (start work left : ℕ) → (before after : List Span) → Reply
    → Type 0
RepliesOutcome re text start work left before after reply = (o : Outcome)
    × IsFindAllOutcome re text start work left (length before) o × (reply ≡ outcome_reply re o)
    × (after ≡ spans_after_outcome o before)

-- The reply of a call. If the call is refused, neither the work nor the buffer changes.
abbrev pub FillsInWork : Regex → (text : List ℕ) → (start work left : ℕ) → (before after : List Span)
    → Result Reply Refusal → Type 0
FillsInWork re text start work left before after (Ok reply) = RepliesOutcome re text start work left before after reply
FillsInWork re text start work left before after (Err refusal) = RefusesAllInWork re text start refusal × (left ≡ work)
    × (after ≡ before)

-- The reply, the work that is left and the final buffer for the handle's pattern. The call is
-- refused if the handle is empty.
abbrev pub RepliesAllInWork : (held : Option Regex) → (text : List ℕ) → (start work left : ℕ)
    → (before after : List Span) → Reply → Type 0
RepliesAllInWork None text start work left before after reply =
    (reply ≡ record { code = code_of_refusal Empty; count = 0 }) × (left ≡ work) × (after ≡ before)
RepliesAllInWork (Some re) text start work left before after reply =
    RepliesOutcome re text start work left before after reply
