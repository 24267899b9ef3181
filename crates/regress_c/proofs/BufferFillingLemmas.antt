-- A call fills a buffer with one match after another until it must stop, and reports why.
use Rattle.std.proofs.Common.{◌≡◌, ℕ, ◌+◌, ◌-◌, ◌*◌, ◌<◌, inr, List, [], ◌∷◌, ◌++◌, append_assoc, length, take, drop, Option, Some, None, refl, sym, ap, ap₂, ◌∙◌, subst, arith}
use native.Mathlib.Nat.{zero-mul}
use Rattle.std.proofs.Math.Seq.{drop-drop, drop_at, take_at}
use Rattle.std.proofs.lemmas.Bool.{lt-leb}
use Rattle.std.proofs.lemmas.Grind.{flat_map-append}
use Rattle.std.proofs.lemmas.List.{append-nil, length-append}
use Rattle.std.specs.Prelude.{flat_map, if◌then◌else◌, Result, Err}
use Rattle.regex_meaning.specs.Laws.{Each}
use Rattle.regex_meaning.specs.MatchGroupsByNumberAndName.{Answer}
use Rattle.regex_meaning.specs.CodeUnitOffsets.{HasRisingPlaceOffsets, units, IsBoundaryOrPastEnd}
use Rattle.regex_meaning.specs.StepBudget.{IsBudgetAtMost, answers_within, finishes_within, need_from}
use Rattle.regex_meaning.specs.Text.{Text}
use Rattle.regex_meaning.specs.Tree.{Tree}
use Rattle.regex_meaning.proofs.EachElementLemmas.{Each-append}
use Rattle.regress_search.specs.MatchesAsSpecAnswers.{answer_of}
use Rattle.regress_search.specs.declared.exec.SearchError.{SearchError}
use Rattle.regress_search.specs.declared.exec.SearchError.TheVariants.{Memory, StepLimit}
use Rattle.regress_search.proofs.StepBudgetLemmas.{left-no_more, no_more-same}
use Rattle.regress_search.proofs.RemainingAnswerLemmas.{new-comes}
use Rattle.regress_match.specs.Resuming.{IsResultOfNextFrom, IsExhaustedFrom, AreFoundInOrder, FindsNext, step_budget_after_first_match}
use Rattle.regress_match.specs.declared.api.searches_resumed_at_offsets.MatchAndNext.{MatchAndNext}
use Rattle.regress_match.proofs.ResumingLemmas.{turn-more}
use Rattle.regress_c.specs.NextMatches.{Fills, Run, Stops, number_of_ranges}
use Rattle.regress_c.specs.Replies.{spans_of, with_front_overwritten}
use Rattle.regress_c.specs.declared.next_matches.Filled.{Filled}
use Rattle.regress_c.specs.declared.next_matches.Stop.TheVariants.{Full, Over, Refused}
use Rattle.regress_c.specs.declared.reply.Span.{Span}
use Rattle.regress_c.proofs.SpanBufferLemmas.{at-more, written-more}
use Rattle.regress_c.proofs.ReplyLemmas.{spans-count}

no_more-trans : (a b c : Option ℕ) → IsBudgetAtMost a b → IsBudgetAtMost b c → IsBudgetAtMost a c
no_more-trans None None None h k = tt
no_more-trans (Some a) (Some b) (Some c) h k = omega arith
no_more-trans None (Some b) c h k = absurd h
no_more-trans (Some a) None c h k = absurd h
no_more-trans None None (Some c) h k = absurd k
no_more-trans (Some a) (Some b) None h k = absurd k

-- The budget after a result is at most the budget before it.
no_more-after : (tree : Tree) (text : Text) (left left' : Option ℕ) (next : ℕ) → left' ≡ step_budget_after_first_match tree text left next → IsBudgetAtMost left' left
no_more-after tree text left left' next e = subst (λ l. IsBudgetAtMost l left) (sym e) (left-no_more left (need_from tree text next))

-- The matches written so far are in the buffer, and the list of matches goes on from here.
pub record Filling (tree : Tree) (text : Text) (steps : Option ℕ) (start : ℕ) (before now : List Span) (matches next at : ℕ) (left : Option ℕ) : Type 0 where
  pub found : List Answer
  pub answers : answers_within tree text steps start ≡ found ++ answers_within tree text left next
  pub limit : finishes_within tree text steps start ≡ finishes_within tree text left next
  pub turns : AreFoundInOrder tree text steps start found left next
  pub starts : IsBoundaryOrPastEnd text next
  pub fewer : IsBudgetAtMost left steps
  pub ranges : Each (λ m. length (spans_of m) ≡ number_of_ranges tree) found
  pub count : matches ≡ length found
  pub at_is : at ≡ length found * number_of_ranges tree
  pub flat : length (flat_map spans_of found) ≡ at
  pub written : now ≡ with_front_overwritten (flat_map spans_of found) before

refusal-less : (tree : Tree) (text : Text) (e : SearchError) (next : ℕ) (left left' : Option ℕ) → IsResultOfNextFrom tree text left next (Err e) left' → IsBudgetAtMost left' left
refusal-less tree text Memory next left left' g = g.0
refusal-less tree text StepLimit next None left' g = absurd (cc g.1)
refusal-less tree text StepLimit next (Some n) left' g = subst (λ l. IsBudgetAtMost l (Some n)) (sym g.2) (omega arith)

refusal-stops : (tree : Tree) (text : Text) (room : ℕ) (run : Run) (e : SearchError) → IsResultOfNextFrom tree text run.steps run.next (Err e) run.left → Stops tree text room run (Refused e)
refusal-stops tree text room run Memory g = g
refusal-stops tree text room run StepLimit g = g

-- A result for an equal tree and text is a result for this tree and text.
pub goes-same : (tree tree' : Tree) (text text' : Text) (budget : Option ℕ) (start : ℕ) (r : Result (Option MatchAndNext) SearchError) (left : Option ℕ)
    → tree' ≡ tree → text' ≡ text → IsResultOfNextFrom tree' text' budget start r left → IsResultOfNextFrom tree text budget start r left
goes-same tree tree' text text' budget start r left e f h =
    subst (λ t. IsResultOfNextFrom tree t budget start r left) f (subst (λ t. IsResultOfNextFrom t text' budget start r left) e h)

module _ {tree : Tree} {text : Text} {steps : Option ℕ} {start : ℕ} {before : List Span} where
  pub begun : IsBoundaryOrPastEnd text start → Filling tree text steps start before before 0 start 0 steps
  begun at = record {
    found = [];
    answers = refl;
    limit = refl;
    turns = (refl, refl);
    starts = at;
    fewer = no_more-same steps;
    ranges = tt;
    count = refl;
    at_is = sym (zero-mul (number_of_ranges tree));
    flat = refl;
    written = refl;
  }

  step_more : (now after : List Span) (matches next at ranges : ℕ) (left left' : Option ℕ) (step : MatchAndNext)
      → Filling tree text steps start before now matches next at left → FindsNext tree text left next (answer_of step.found) step.next left' → ranges ≡ number_of_ranges tree
      → after ≡ take at now ++ spans_of (answer_of step.found) ++ drop (at + ranges) now
      → Filling tree text steps start before after (matches + 1) step.next (at + ranges) left'
  step_more now after matches next at ranges left left' step f s r w =
      let m = answer_of step.found in
      let long : length (spans_of m) ≡ ranges = let c = spans-count m in let g = s.groups in omega (arith, c, g, r) in
      let more = written-more f.found m before now after at ranges long f.flat f.written w in
      record {
        found = f.found ++ m ∷ [];
        answers = f.answers ∙ ap (λ xs. f.found ++ xs) s.answers ∙ sym (append_assoc f.found (m ∷ []) (answers_within tree text left' step.next));
        limit = f.limit ∙ s.limit;
        turns = turn-more tree text steps start f.found m left left' next step.next f.turns s;
        starts = s.starts;
        fewer = no_more-trans left' left steps (no_more-after tree text left left' next s.steps) f.fewer;
        ranges = Each-append (λ m. length (spans_of m) ≡ number_of_ranges tree) f.found (m ∷ []) f.ranges (long ∙ r, tt);
        count = let c = f.count in let l = length-append f.found (m ∷ []) in omega (arith, c, l);
        at_is = let a = f.at_is in let l = length-append f.found (m ∷ []) in at-more (length f.found) (length (f.found ++ m ∷ [])) at ranges (number_of_ranges tree) a l r;
        flat = more.0;
        written = more.1;
      }

  -- One more match is written, and the search goes on behind it.
  pub one_more : (now after : List Span) (matches next at ranges next' : ℕ) (left left' : Option ℕ) (step : MatchAndNext)
      → Filling tree text steps start before now matches next at left → FindsNext tree text left next (answer_of step.found) step.next left' → ranges ≡ number_of_ranges tree
      → next' ≡ step.next → after ≡ take at now ++ spans_of (answer_of step.found) ++ drop (at + ranges) now
      → Filling tree text steps start before after (matches + 1) next' (at + ranges) left'
  one_more now after matches next at ranges next' left left' step f s r on w =
      subst (λ n. Filling tree text steps start before after (matches + 1) n (at + ranges) left') (sym on)
      (step_more now after matches next at ranges left left' step f s r w)

  -- If the buffer has no room for one more match, the call stops as `Full`.
  pub fills-full : (now : List Span) (filled : Filled) (at ranges : ℕ) (left : Option ℕ)
      → Filling tree text steps start before now filled.matches filled.next at left → filled.stop ≡ Full → length before - at < ranges → ranges ≡ number_of_ranges tree
      → Fills tree text steps start before now filled left
  fills-full now filled at ranges left f stop room r = record {
    run = record { found = f.found; behind = filled.next; next = filled.next; stop = Full; steps = left; left = left };
    is = record {
      answers = f.answers;
      limit = f.limit;
      turns = f.turns;
      starts = f.starts;
      fewer = f.fewer;
      ranges = f.ranges;
      stops = (let a = f.at_is in omega (arith, a, room, r), refl);
    };
    matches = f.count;
    next = refl;
    stop = stop;
    left_is = refl;
    written = f.written;
  }

  -- If no further match exists, the call stops as `Over`.
  pub fills-over : (now : List Span) (filled : Filled) (next at : ℕ) (left left' : Option ℕ) → HasRisingPlaceOffsets text → units text < filled.next
      → Filling tree text steps start before now filled.matches next at left → filled.stop ≡ Over → IsExhaustedFrom tree text left next × (left' ≡ step_budget_after_first_match tree text left next)
      → Fills tree text steps start before now filled left'
  fills-over now filled next at left left' is past f stop over =
      let gone = new-comes tree text is left filled.next None (ap (λ b. if b then Some filled.next else None) (sym (lt-leb filled.next (units text) past))) in
      record {
        run = record { found = f.found; behind = next; next = filled.next; stop = Over; steps = left; left = left' };
        is = record {
          answers = f.answers ∙ ap (λ xs. f.found ++ xs) (over.0.0 ∙ gone.0);
          limit = f.limit ∙ over.0.1 ∙ gone.1;
          turns = f.turns;
          starts = inr past;
          fewer = no_more-trans left' left steps (no_more-after tree text left left' next over.1) f.fewer;
          ranges = f.ranges;
          stops = (past, (sym gone.0, sym gone.1), over.0, over.1);
        };
        matches = f.count;
        next = refl;
        stop = stop;
        left_is = refl;
        written = f.written;
      }

  -- If the search for the next match fails, the call stops as `Refused`.
  pub fills-refused : (now : List Span) (filled : Filled) (at : ℕ) (left left' : Option ℕ) (e : SearchError)
      → Filling tree text steps start before now filled.matches filled.next at left → filled.stop ≡ Refused e → IsResultOfNextFrom tree text left filled.next (Err e) left'
      → Fills tree text steps start before now filled left'
  fills-refused now filled at left left' e f stop g =
      let run : Run = record { found = f.found; behind = filled.next; next = filled.next; stop = Refused e; steps = left; left = left' } in
      record {
        run = run;
        is = record {
          answers = f.answers;
          limit = f.limit;
          turns = f.turns;
          starts = f.starts;
          fewer = no_more-trans left' left steps (refusal-less tree text e filled.next left left' g) f.fewer;
          ranges = f.ranges;
          stops = refusal-stops tree text (length before) run e g;
        };
        matches = f.count;
        next = refl;
        stop = stop;
        left_is = refl;
        written = f.written;
      }
