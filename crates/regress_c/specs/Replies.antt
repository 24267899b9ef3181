-- The reply of a search, and the caller's buffer after it.
use Rattle.std.specs.Prelude.{ℕ, ◌-◌, ◌^◌, ◌++◌, List, Option, Some, None, Result, Ok, Err, drop, length, map, nat_le, if◌then◌else◌}
use Rattle.regex_meaning.specs.MatchGroupsByNumberAndName.{Answer}
use Rattle.regress_search.specs.MatchesAsSpecAnswers.{answer_of}
use Rattle.regress_search.specs.GroupIterators.{all_groups}
use Rattle.regress_search.specs.declared.exec.Match.{Match}
use Rattle.regress_c.specs.Codes.{code_of_refusal, done, no_match}
use Rattle.regress_c.specs.declared.refusal.Refusal.{Refusal}
use Rattle.regress_c.specs.declared.refusal.Refusal.TheVariants.{ShortBuffer}
use Rattle.regress_c.specs.declared.reply.Reply.{Reply}
use Rattle.regress_c.specs.declared.reply.Span.{Span}

-- The greatest `u64`.
abbrev pub max_u64 : ℕ
max_u64 = 2 ^ 64 - 1

-- The span of a range. If the group did not match, both ends are `max_u64`.
abbrev pub span_of : Option (ℕ × ℕ) → Span
span_of (Some r) = record { start = r.0; end = r.1 }
span_of None = record { start = max_u64; end = max_u64 }

-- The span of the whole match, followed by the spans of the groups by number.
abbrev pub spans_of : Answer → List Span
spans_of m = map span_of (all_groups m)

-- The list `old` after `new` is written to its front.
abbrev pub with_front_overwritten : {A : Type 0} → (new old : List A) → List A
with_front_overwritten new old = new ++ drop (length new) old

-- The reply of a search, given its result. The code is `done` only if there is room for all ranges
-- of the match.
abbrev pub reply_to : Result (Option Match) Refusal → (room : ℕ) → Reply
reply_to (Ok (Some m)) room = let count = length (spans_of (answer_of m)) in
    record { code = if nat_le count room then done else code_of_refusal ShortBuffer; count = count }
reply_to (Ok None) room = record { code = no_match; count = 0 }
reply_to (Err refusal) room = record { code = code_of_refusal refusal; count = 0 }

-- The buffer after a search, given its result. It is unchanged if there is no match, or no room for
-- its ranges.
abbrev pub buffer_after_search : Result (Option Match) Refusal → (before : List Span) → List Span
buffer_after_search (Ok (Some m)) before = let spans = spans_of (answer_of m) in
    if nat_le (length spans) (length before) then with_front_overwritten spans before else before
buffer_after_search (Ok None) before = before
buffer_after_search (Err refusal) before = before
