-- The matches that one call writes, and the offset at which the search continues.
use Rattle.regex_meaning.specs.CodeUnitOffsets.{IsBoundaryOrPastEnd, units}
use Rattle.std.specs.Prelude.{◌≡◌, ◌≢◌, ◌<◌, ◌+◌, ◌*◌, ℕ, false, List, [], ◌++◌, Option, Some, None, Result, Ok, Err, IsSome, flat_map, length}
use Rattle.regex_meaning.specs.Laws.{Each}
use Rattle.regex_meaning.specs.MatchGroupsByNumberAndName.{Answer}
use Rattle.regex_meaning.specs.StepBudget.{IsBudgetAtMost, answers_within, finishes_within}
use Rattle.regex_meaning.specs.Text.{Text}
use Rattle.regex_meaning.specs.Tree.{Tree, group_ids}
use Rattle.regress_search.specs.declared.exec.SearchError.TheVariants.{Memory, StepLimit}
use Rattle.regress_match.specs.ProgramTreesAndAnswers.{units_as_ucs2_text, units_as_utf16_text, bytes_as_utf8_text, tree_for_byte_units, tree_for_16_bit_units}
use Rattle.regress_match.specs.Resuming.{IsExhaustedFrom, AreFoundInOrder, step_budget_after_first_match}
use Rattle.regress_match.specs.declared.api.regex.Regex.{Regex}
use Rattle.regress_c.specs.Codes.{code_of_refusal, done, no_match, refusal_of_search_error}
use Rattle.regress_c.specs.Opening.{encoding_of}
use Rattle.regress_c.specs.Replies.{spans_of, with_front_overwritten}
use Rattle.regress_c.specs.Searching.{can_start_utf8, can_start_utf16}
use Rattle.regress_c.specs.declared.next_matches.Stop.{Stop}
use Rattle.regress_c.specs.declared.next_matches.Stop.TheVariants.{Full, Over, Refused}
use Rattle.regress_c.specs.declared.next_matches.Filled.{Filled}
use Rattle.regress_c.specs.declared.refusal.Refusal.{Refusal}
use Rattle.regress_c.specs.declared.refusal.Refusal.TheVariants as refusal
use Rattle.regress_c.specs.declared.reply.Reply.{Reply}
use Rattle.regress_c.specs.declared.reply.Span.{Span}
use Rattle.regress_c.specs.declared.search.Encoding.{Encoding}
use Rattle.regress_c.specs.declared.search.Encoding.TheVariants.{Utf8, Utf16, Ucs2}
use Rattle.regress_c.specs.declared.search.Search.{Search}

-- ---- Written matches

-- One call. It has the matches that were found, the offset after them, the offset at which the list
-- continues (past the end of the text if no match remains), why no more were found, the steps that
-- were left when the search for more stopped, and the steps that are left after the call.
pub record Run : Type 0 where
  pub found : List Answer
  pub behind : ℕ
  pub next : ℕ
  pub stop : Stop
  pub steps : Option ℕ
  pub left : Option ℕ

-- The number of ranges of a match: one for the whole match, and one for each group.
abbrev pub number_of_ranges : Tree → ℕ
number_of_ranges tree = length (group_ids tree.root) + 1

-- A search with the pattern's tree in a text.
module _ (tree : Tree) (text : Text) where
  -- Why the call stopped: there is no room for one more match, no match remains, an allocation
  -- failed, or the steps do not suffice for the next match. If no match remains, the search
  -- continues past the end. Finding this out takes exactly the steps that it needs. After an
  -- allocation failure, at least as many steps are left as after a result.
  abbrev pub Stops : (room : ℕ) → Run → Stop → Type 0
  Stops room run Full = (room < (length run.found + 1) * number_of_ranges tree) × (run.left ≡ run.steps)
  Stops room run Over =
      (units text < run.next) × IsExhaustedFrom tree text run.steps run.next
      × IsExhaustedFrom tree text run.steps run.behind
      × (run.left ≡ step_budget_after_first_match tree text run.steps run.behind)
  Stops room run (Refused Memory) = IsBudgetAtMost run.left run.steps
      × IsBudgetAtMost (step_budget_after_first_match tree text run.steps run.next) run.left
  Stops room run (Refused StepLimit) =
      (answers_within tree text run.steps run.next ≡ []) × (finishes_within tree text run.steps run.next ≡ false)
      × (run.left ≡ Some 0)

  -- Within `steps` steps, the matches from `start` on are those found, followed by those from
  -- `run.next` on within `run.steps` steps. They are found one after another, and take exactly the
  -- steps that they need. Each match has `number_of_ranges tree` ranges.
  pub record IsRunOfCall (steps : Option ℕ) (start room : ℕ) (run : Run) : Type 0 where
    pub answers : answers_within tree text steps start ≡ run.found ++ answers_within tree text run.steps run.next
    pub limit : finishes_within tree text steps start ≡ finishes_within tree text run.steps run.next
    pub turns : AreFoundInOrder tree text steps start run.found run.steps run.behind
    pub starts : IsBoundaryOrPastEnd text run.next
    pub fewer : IsBudgetAtMost run.left steps
    pub ranges : Each (λ m. length (spans_of m) ≡ number_of_ranges tree) run.found
    pub stops : Stops room run run.stop

  -- The results of the call and the buffer are those of some run. `left` is what remains of the
  -- step budget. The field `filled.left` is not constrained.
  pub record Fills (steps : Option ℕ) (start : ℕ) (before after : List Span) (filled : Filled) (left : Option ℕ) : Type
      0 where
    pub run : Run
    pub is : IsRunOfCall steps start (length before) run
    pub matches : filled.matches ≡ length run.found
    pub next : filled.next ≡ run.next
    pub stop : filled.stop ≡ run.stop
    pub left_is : left ≡ run.left
    pub written : after ≡ with_front_overwritten (flat_map spans_of run.found) before

-- ---- Searches with the pattern of a handle

-- The tree of the program for texts in this encoding.
abbrev pub tree_for_encoding : Regex → Encoding → Tree
tree_for_encoding re Utf8 = tree_for_byte_units re
tree_for_encoding re Utf16 = tree_for_16_bit_units re
tree_for_encoding re Ucs2 = tree_for_16_bit_units re

-- The text of a search, read in this encoding.
abbrev pub text_of_search_in_encoding : Regex → Search → Encoding → Text
text_of_search_in_encoding re s Utf8 = bytes_as_utf8_text re s.bytes.now
text_of_search_in_encoding re s Utf16 = units_as_utf16_text re s.units.now
text_of_search_in_encoding re s Ucs2 = units_as_ucs2_text re s.units.now

-- The offset at which the search continues does not split a character.
abbrev pub IsNextStartOnBoundary : Search → Encoding → Type 0
IsNextStartOnBoundary s Utf8 = can_start_utf8 s.bytes.now s.next
IsNextStartOnBoundary s Utf16 = can_start_utf16 s.units.now s.next
IsNextStartOnBoundary s Ucs2 = Unit {0}

-- The code that reports why a call stopped.
abbrev pub code_of_stop_reason : Stop → ℕ
code_of_stop_reason Full = done
code_of_stop_reason Over = no_match
code_of_stop_reason (Refused error) = code_of_refusal (refusal_of_search_error error)

-- Steps are counted in UTF-8 only.
abbrev pub CanStepsBeCounted : (steps : Option ℕ) → Encoding → Type 0
CanStepsBeCounted steps Utf8 = Unit {0}
CanStepsBeCounted steps Utf16 = steps ≡ None
CanStepsBeCounted steps Ucs2 = steps ≡ None

-- When an open search that has room for one match is refused.
abbrev pub RefusesSearch : Search → Encoding → (steps : Option ℕ) → Refusal → Type 0
RefusesSearch s e steps refusal.NotBoundary = ¬ IsNextStartOnBoundary s e
RefusesSearch s e steps refusal.NotCounted = (e ≢ Utf8) × IsSome steps
RefusesSearch s e steps refusal.Memory = Unit {0}
RefusesSearch s e steps _ = ⊥

-- The matches of a search in this encoding are written, or the call is refused and the buffer is
-- unchanged.
abbrev pub FillsInEncoding : Regex → Search → Encoding → (steps : Option ℕ) → (before after : List Span)
    → Result Filled Refusal
    → Type 0
FillsInEncoding re s e steps before after (Ok filled) =
    Fills (tree_for_encoding re e) (text_of_search_in_encoding re s e) steps s.next before after filled filled.left
    × CanStepsBeCounted steps e
FillsInEncoding re s e steps before after (Err r) = RefusesSearch s e steps r × (after ≡ before)

-- The matches of a tree in a text from `start` on are written, or the call is refused and the
-- buffer is unchanged.
abbrev pub FillsFrom : Tree → Text → (can_start : Type 0) → (steps : Option ℕ) → (start : ℕ)
    → (before after : List Span) → Result Filled Refusal → Type 0
FillsFrom tree text can_start steps start before after (Ok filled) =
    Fills tree text steps start before after filled filled.left
FillsFrom tree text can_start steps start before after (Err refusal.NotBoundary) = (¬ can_start) × (after ≡ before)
FillsFrom tree text can_start steps start before after (Err refusal.Memory) = after ≡ before
FillsFrom tree text can_start steps start before after (Err _) = ⊥

-- The outcome of a call: it ran, had less room than the `ranges` of one match, or was refused.
pub data CallOutcome : Type 0 where
  ran : Run → CallOutcome
  short : (ranges : ℕ) → CallOutcome
  refused : Refusal → CallOutcome

-- The outcome of a search with this pattern in this encoding.
abbrev pub IsOutcomeInEncoding : Regex → Search → Encoding → (steps : Option ℕ) → (room : ℕ) → CallOutcome → Type 0
IsOutcomeInEncoding re s e steps room (ran run) =
    IsRunOfCall (tree_for_encoding re e) (text_of_search_in_encoding re s e) steps s.next room run
    × CanStepsBeCounted steps e
IsOutcomeInEncoding re s e steps room (short ranges) = (ranges ≡ number_of_ranges (tree_for_encoding re e))
    × (room < ranges)
IsOutcomeInEncoding re s e steps room (refused r) = RefusesSearch s e steps r

-- The outcome of a search with this pattern. The call is refused if the search is not open.
abbrev pub IsOutcomeIfOpen : Regex → Search → Option Encoding → (steps : Option ℕ) → (room : ℕ) → CallOutcome → Type 0
IsOutcomeIfOpen re s None steps room went = went ≡ refused refusal.NotOpen
IsOutcomeIfOpen re s (Some e) steps room went = IsOutcomeInEncoding re s e steps room went

-- The outcome of a search with the handle's pattern. The call is refused if the handle is empty.
abbrev pub IsOutcomeOfHandle : (held : Option Regex) → Search → (steps : Option ℕ) → (room : ℕ) → CallOutcome → Type 0
IsOutcomeOfHandle None s steps room went = went ≡ refused refusal.Empty
IsOutcomeOfHandle (Some re) s steps room went = IsOutcomeIfOpen re s (encoding_of s.encoding) steps room went

-- The reply for an outcome.
abbrev pub call_outcome_reply : CallOutcome → Reply
call_outcome_reply (ran run) = record { code = code_of_stop_reason run.stop; count = length run.found }
call_outcome_reply (short ranges) = record { code = code_of_refusal refusal.ShortBuffer; count = ranges }
call_outcome_reply (refused r) = record { code = code_of_refusal r; count = 0 }

-- The offset at which the search continues after an outcome.
abbrev pub next_offset_after_outcome : CallOutcome → (next : ℕ) → ℕ
next_offset_after_outcome (ran run) next = run.next
next_offset_after_outcome (short ranges) next = next
next_offset_after_outcome (refused r) next = next

-- The step budget after an outcome.
abbrev pub step_budget_after_outcome : CallOutcome → (steps : Option ℕ) → Option ℕ
step_budget_after_outcome (ran run) steps = run.left
step_budget_after_outcome (short ranges) steps = steps
step_budget_after_outcome (refused r) steps = steps

-- The buffer after an outcome.
abbrev pub spans_after_call_outcome : CallOutcome → (before : List Span) → List Span
spans_after_call_outcome (ran run) before = with_front_overwritten (flat_map spans_of run.found) before
spans_after_call_outcome (short ranges) before = before
spans_after_call_outcome (refused r) before = before

-- Both searches have the same text and read it in the same encoding.
pub record HasSameText (s s' : Search) : Type 0 where
  pub bytes : s'.bytes ≡ s.bytes
  pub units : s'.units ≡ s.units
  pub encoding : s'.encoding ≡ s.encoding

-- The reply, the search, the step budget and the final buffer are those of some outcome.
pub record RepliesNext (held : Option Regex) (s s' : Search) (steps left : Option ℕ) (before after : List Span)
    (reply : Reply) : Type 0 where
  pub went : CallOutcome
  pub goes : IsOutcomeOfHandle held s steps (length before) went
  pub reply_is : reply ≡ call_outcome_reply went
  pub same_text : HasSameText s s'
  pub next : s'.next ≡ next_offset_after_outcome went s.next
  pub left_is : left ≡ step_budget_after_outcome went steps
  pub written : after ≡ spans_after_call_outcome went before
