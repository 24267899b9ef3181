-- The matches that one call writes within a work limit, and what they cost in units of work.
use Rattle.std.specs.Prelude.{◌≡◌, ◌<◌, ◌+◌, ℕ, Bool, true, List, Option, Some, None, Result, Ok, Err, flat_map, length}
use Rattle.regex_meaning.specs.CodeUnitOffsets.{offset_within}
use Rattle.regex_meaning.specs.CodeUnits.{ucs2, utf16, utf8}
use Rattle.regex_meaning.specs.Text.{Text}
use Rattle.regex_meaning.specs.Tree.{Tree}
use Rattle.regress_backtrack.specs.WorkOfAttempts.{no_failures, work_costs}
use Rattle.regress_search.specs.CostsOfSearches.{Failures, LeavesWorkWithoutResult, SearchCosts, TakesExactCost, WorkCosts}
use Rattle.regress_match.specs.Resuming.{offset_after_first_match}
use Rattle.regress_match.specs.declared.api.regex.Regex.{Regex}
use Rattle.regress_c.specs.Codes.{code_of_refusal}
use Rattle.regress_c.specs.NextMatches.{Fills, HasSameText, IsNextStartOnBoundary, IsRunOfCall, Run, code_of_stop_reason}
use Rattle.regress_c.specs.NextMatches.{number_of_ranges, text_of_search_in_encoding, tree_for_encoding}
use Rattle.regress_c.specs.Opening.{encoding_of}
use Rattle.regress_c.specs.Replies.{spans_of, with_front_overwritten}
use Rattle.regress_c.specs.declared.next_in_work.FilledInWork.{FilledInWork}
use Rattle.regress_c.specs.declared.next_matches.Stop.{Stop}
use Rattle.regress_c.specs.declared.next_matches.Stop.TheVariants.{Full, Over, Refused}
use Rattle.regress_c.specs.declared.refusal.Refusal.{Refusal}
use Rattle.regress_c.specs.declared.refusal.Refusal.TheVariants.{Empty, NotBoundary, NotOpen, ShortBuffer, Memory, WorkLimit}
use Rattle.regress_c.specs.declared.reply.Reply.{Reply}
use Rattle.regress_c.specs.declared.reply.Span.{Span}
use Rattle.regress_c.specs.declared.search.Encoding.{Encoding}
use Rattle.regress_c.specs.declared.search.Encoding.TheVariants.{Utf8, Utf16, Ucs2}
use Rattle.regress_c.specs.declared.search.Search.{Search}

-- ---- Costs

module _ (costs : WorkCosts) (tree : Tree) (text : Text) where
  -- The search for the next match at the offset `at` or later costs this.
  abbrev pub SearchFromCosts : (before : Failures) → (at cost : ℕ) → (after : Option Failures) → Type 0
  SearchFromCosts before at = SearchCosts costs tree text before (offset_within text at)

  -- The searches for the first `count` matches from `start` on cost `cost` in total. The list
  -- continues at `next`, with the known failures `now`.
  pub data MatchesCost (before : Failures) (start : ℕ) : (count cost : ℕ) (now : Failures) (next : ℕ) → Type 0 where
    no_matches : MatchesCost before start 0 0 before start
    one_more : (count cost last at : ℕ) (now after : Failures) → MatchesCost before start count cost now at
        → SearchFromCosts now at last (Some after)
        → MatchesCost before start (count + 1) (cost + last) after (offset_after_first_match tree text at)

  -- The work left after the search that stops a call. It begins at `at`, with `rest` work left.
  -- `out` says whether it reached the work limit. A call that stops as `Full` does not search.
  abbrev pub StopLeavesWork : (now : Failures) → (at rest : ℕ) → Stop → (out : Bool) → (left : ℕ) → Type 0
  StopLeavesWork now at rest Full out left = left ≡ rest
  StopLeavesWork now at rest Over out left = (after : Failures)
      × TakesExactCost (SearchFromCosts now at) rest left after
  StopLeavesWork now at rest (Refused error) out left = LeavesWorkWithoutResult (SearchFromCosts now at) rest out left

  -- Of `work` work, a call takes what its matches cost and what the search costs that stops it.
  -- `left` is left.
  pub record TakesWorkOfMatches (before : Failures) (start work count : ℕ) (stop : Stop) (out : Bool) (left : ℕ)
      : Type 0 where
    pub cost : ℕ
    pub rest : ℕ
    pub now : Failures
    pub at : ℕ
    pub matches : MatchesCost before start count cost now at
    pub spent : work ≡ cost + rest
    pub stops : StopLeavesWork now at rest stop out left

-- ---- Calls

-- The code that reports why a call stopped. `out` says whether the last search reached the work
-- limit.
abbrev pub code_of_stop_in_work : Stop → (out : Bool) → ℕ
code_of_stop_in_work (Refused error) true = code_of_refusal WorkLimit
code_of_stop_in_work stop out = code_of_stop_reason stop

-- No work is left if the search reached the work limit.
abbrev pub IsWorkSpentIf : (out : Bool) → (left : ℕ) → Type 0
IsWorkSpentIf out left = out ≡ true → left ≡ 0

-- A call for matches from `start` on, at these costs, which had `work` work and leaves `left`.
module _ (costs : WorkCosts) (tree : Tree) (text : Text) (start work left : ℕ) where
  -- The call takes the work of its matches and of the search that stops it.
  abbrev pub TakesWorkOfCall : (count : ℕ) → Stop → (out : Bool) → Type 0
  TakesWorkOfCall count stop out =
      TakesWorkOfMatches costs tree text no_failures start work count stop out left × IsWorkSpentIf out left

  -- The matches of the tree are written, as by a call without a limit, and their work is taken.
  abbrev pub WritesInWork : (before after : List Span) → FilledInWork → Type 0
  WritesInWork before after f = Fills tree text None start before after f.filled None
      × TakesWorkOfCall f.filled.matches f.filled.stop f.out

  -- This is so, or the call is refused, and neither the buffer nor the work changes.
  abbrev pub FillsInWorkFrom : (can_start : Type 0) → (before after : List Span) → Result FilledInWork Refusal → Type 0
  FillsInWorkFrom can_start before after (Ok f) = WritesInWork before after f
  FillsInWorkFrom can_start before after (Err NotBoundary) = (¬ can_start) × (left ≡ work) × (after ≡ before)
  FillsInWorkFrom can_start before after (Err Memory) = (left ≡ work) × (after ≡ before)
  FillsInWorkFrom can_start before after (Err _) = ⊥

-- The costs of searches of a text in this encoding.
abbrev pub costs_in_encoding : Encoding → WorkCosts
costs_in_encoding Utf8 = work_costs utf8
costs_in_encoding Utf16 = work_costs utf16
costs_in_encoding Ucs2 = work_costs ucs2

-- A search with this pattern in this encoding.
module _ (re : Regex) (s : Search) (e : Encoding) (work left : ℕ) where
  -- A call takes the work of its matches and of the search that stops it.
  abbrev pub TakesWorkInEncoding : (count : ℕ) → Stop → (out : Bool) → Type 0
  TakesWorkInEncoding count stop out =
      TakesWorkOfCall (costs_in_encoding e) (tree_for_encoding re e) (text_of_search_in_encoding re s e) s.next
      work left count stop out

  -- The matches are written and their work is taken, or the call is refused.
  abbrev pub FillsInWork : (before after : List Span) → Result FilledInWork Refusal → Type 0
  FillsInWork before after result =
      FillsInWorkFrom (costs_in_encoding e) (tree_for_encoding re e) (text_of_search_in_encoding re s e) s.next
      work left (IsNextStartOnBoundary s e) before after result

-- The outcome of a call: it ran, and its last search reached the work limit or not; it had less
-- room than the `ranges` of one match; or it was refused.
pub data OutcomeInWork : Type 0 where
  ran : Run → (out : Bool) → OutcomeInWork
  short : (ranges : ℕ) → OutcomeInWork
  refused : Refusal → OutcomeInWork

-- When an open search that has room for one match is refused.
abbrev pub RefusesSearchInWork : Search → Encoding → Refusal → Type 0
RefusesSearchInWork s e NotBoundary = ¬ IsNextStartOnBoundary s e
RefusesSearchInWork s e Memory = Unit {0}
RefusesSearchInWork s e _ = ⊥

-- The outcome of a search with this pattern in this encoding.
abbrev pub IsOutcomeInWork : Regex → Search → Encoding → (work left room : ℕ) → OutcomeInWork → Type 0
IsOutcomeInWork re s e work left room (ran run out) =
    IsRunOfCall (tree_for_encoding re e) (text_of_search_in_encoding re s e) None s.next room run
    × TakesWorkInEncoding re s e work left (length run.found) run.stop out
IsOutcomeInWork re s e work left room (short ranges) = (ranges ≡ number_of_ranges (tree_for_encoding re e))
    × (room < ranges) × (left ≡ work)
IsOutcomeInWork re s e work left room (refused r) = RefusesSearchInWork s e r × (left ≡ work)

-- The outcome of a search with this pattern. The call is refused if the search is not open.
abbrev pub IsOutcomeInWorkIfOpen : Regex → Search → Option Encoding → (work left room : ℕ) → OutcomeInWork → Type 0
IsOutcomeInWorkIfOpen re s None work left room went = (went ≡ refused NotOpen) × (left ≡ work)
IsOutcomeInWorkIfOpen re s (Some e) work left room went = IsOutcomeInWork re s e work left room went

-- The outcome of a search with the handle's pattern. The call is refused if the handle is empty.
abbrev pub IsOutcomeInWorkOfHandle : (held : Option Regex) → Search → (work left room : ℕ) → OutcomeInWork → Type 0
IsOutcomeInWorkOfHandle None s work left room went = (went ≡ refused Empty) × (left ≡ work)
IsOutcomeInWorkOfHandle (Some re) s work left room went =
    IsOutcomeInWorkIfOpen re s (encoding_of s.encoding) work left room went

-- The reply for an outcome.
abbrev pub reply_in_work : OutcomeInWork → Reply
reply_in_work (ran run out) = record { code = code_of_stop_in_work run.stop out; count = length run.found }
reply_in_work (short ranges) = record { code = code_of_refusal ShortBuffer; count = ranges }
reply_in_work (refused r) = record { code = code_of_refusal r; count = 0 }

-- The offset at which the search continues after an outcome.
abbrev pub next_offset_in_work : OutcomeInWork → (next : ℕ) → ℕ
next_offset_in_work (ran run out) next = run.next
next_offset_in_work _ next = next

-- The buffer after an outcome.
abbrev pub spans_in_work : OutcomeInWork → (before : List Span) → List Span
spans_in_work (ran run out) before = with_front_overwritten (flat_map spans_of run.found) before
spans_in_work _ before = before

-- The reply, the search, the work that is left and the final buffer are those of some outcome.
pub record RepliesNextInWork (held : Option Regex) (s s' : Search) (work left : ℕ) (before after : List Span)
    (reply : Reply) : Type 0 where
  pub went : OutcomeInWork
  pub goes : IsOutcomeInWorkOfHandle held s work left (length before) went
  pub reply_is : reply ≡ reply_in_work went
  pub same_text : HasSameText s s'
  pub next : s'.next ≡ next_offset_in_work went s.next
  pub written : after ≡ spans_in_work went before
