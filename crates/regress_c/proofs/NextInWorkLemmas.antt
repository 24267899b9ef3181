-- A call within a work limit takes the work of its matches, and replies with the outcome of the search.
use Rattle.std.proofs.Common.{◌≡◌, ℕ, ◌+◌, ◌<◌, Bool, List, Option, Some, None, Result, Ok, Err, refl, sym, ap, ◌∙◌, subst, length, arith}
use Rattle.regex_meaning.specs.Text.{Text}
use Rattle.regex_meaning.specs.Tree.{Tree}
use Rattle.regress_search.specs.CostsOfSearches.{Failures, IfWorkIsCounted, LeavesWorkWithoutResult, TakesExactCost, WorkCosts}
use Rattle.regress_search.specs.declared.exec.SearchError.{SearchError}
use Rattle.regress_match.specs.Resuming.{offset_after_first_match}
use Rattle.regress_match.specs.declared.api.regex.Regex.{Regex}
use Rattle.regress_c.specs.Codes.{code_of_refusal}
use Rattle.regress_c.specs.NextInWork.{FillsInWork, IsOutcomeInWork, IsOutcomeInWorkIfOpen, IsOutcomeInWorkOfHandle, MatchesCost, OutcomeInWork}
use Rattle.regress_c.specs.NextInWork.{RepliesNextInWork, SearchFromCosts, StopLeavesWork, TakesWorkInEncoding, TakesWorkOfMatches}
use Rattle.regress_c.specs.NextInWork.{code_of_stop_in_work, no_matches, one_more, ran, refused, short}
use Rattle.regress_c.specs.NextMatches.{HasSameText, number_of_ranges, tree_for_encoding}
use Rattle.regress_c.specs.Opening.{encoding_of}
use Rattle.regress_c.specs.declared.next_in_work.FilledInWork.{FilledInWork}
use Rattle.regress_c.specs.declared.next_matches.Stop.{Stop}
use Rattle.regress_c.specs.declared.next_matches.Stop.TheVariants.{Full, Over, Refused}
use Rattle.regress_c.specs.declared.refusal.Refusal.{Refusal}
use Rattle.regress_c.specs.declared.refusal.Refusal.TheVariants.{Empty, NotBoundary, NotOpen, ShortBuffer, Memory}
use Rattle.regress_c.specs.declared.reply.Reply.{Reply}
use Rattle.regress_c.specs.declared.reply.Span.{Span}
use Rattle.regress_c.specs.declared.search.Encoding.{Encoding}
use Rattle.regress_c.specs.declared.search.Search.{Search}
use Rattle.regress_c.proofs.NextCallLemmas.{not-moved}

-- ---- Work

module _ (costs : WorkCosts) where
  -- What a search with an equal tree in an equal text costs, it costs with this tree in this text.
  pub costs-same : (b : Bool) (tree tree' : Tree) (text text' : Text) (now : Failures) (at : ℕ) (Spends : ((cost : ℕ) → (after : Option Failures) → Type 0) → Type 0)
      → tree' ≡ tree → text' ≡ text → IfWorkIsCounted b (Spends (SearchFromCosts costs tree' text' now at)) → IfWorkIsCounted b (Spends (SearchFromCosts costs tree text now at))
  costs-same b tree tree' text text' now at Spends e f h =
      subst (λ t. IfWorkIsCounted b (Spends (SearchFromCosts costs tree t now at))) f (subst (λ t. IfWorkIsCounted b (Spends (SearchFromCosts costs t text' now at))) e h)

  -- The matches written so far cost what is no longer left.
  pub record Spending (tree : Tree) (text : Text) (before : Failures) (start work matches at : ℕ) (now : Failures) (left : ℕ) : Type 0 where
    pub cost : ℕ
    pub matches_cost : MatchesCost costs tree text before start matches cost now at
    pub spent : work ≡ cost + left

  pub spends-nothing : (tree : Tree) (text : Text) (before : Failures) (start work : ℕ) → Spending tree text before start work 0 start before work
  spends-nothing tree text before start work = record { cost = 0; matches_cost = no_matches; spent = omega arith }

  module _ {tree : Tree} {text : Text} {before : Failures} {start work : ℕ} (matches at : ℕ) (now : Failures) (left : ℕ) where
    -- One more match is written.
    pub spends-more : (after : Failures) (left' next : ℕ) → next ≡ offset_after_first_match tree text at → Spending tree text before start work matches at now left
        → TakesExactCost (SearchFromCosts costs tree text now at) left left' after → Spending tree text before start work (matches + 1) next after left'
    spends-more after left' next on s (last, costs_last, taken) = record {
      cost = s.cost + last;
      matches_cost = subst (λ n. MatchesCost costs tree text before start (matches + 1) (s.cost + last) after n) (sym on)
          (one_more matches s.cost last at now after s.matches_cost costs_last);
      spent = let were = s.spent in omega (arith, were, taken);
    }

    -- No further match is written.
    pub spends-last : (stop : Stop) (out : Bool) (left' : ℕ) → Spending tree text before start work matches at now left
        → StopLeavesWork costs tree text now at left stop out left' → TakesWorkOfMatches costs tree text before start work matches stop out left'
    spends-last stop out left' s h = record { cost = s.cost; rest = left; now = now; at = at; matches = s.matches_cost; spent = s.spent; stops = h }

    pub spends-full : (stop : Stop) (out : Bool) → stop ≡ Full → Spending tree text before start work matches at now left
        → TakesWorkOfMatches costs tree text before start work matches stop out left
    spends-full stop out full s = spends-last stop out left s (subst (λ f. StopLeavesWork costs tree text now at left f out left) (sym full) refl)

    pub spends-over : (after : Failures) (out : Bool) (left' : ℕ) → Spending tree text before start work matches at now left
        → TakesExactCost (SearchFromCosts costs tree text now at) left left' after → TakesWorkOfMatches costs tree text before start work matches Over out left'
    spends-over after out left' s h = spends-last Over out left' s (after, h)

    pub spends-refused : (e : SearchError) (out : Bool) (left' : ℕ) → Spending tree text before start work matches at now left
        → LeavesWorkWithoutResult (SearchFromCosts costs tree text now at) left out left' → TakesWorkOfMatches costs tree text before start work matches (Refused e) out left'
    spends-refused e out left' s h = spends-last (Refused e) out left' s h

-- ---- Replies

pub not-held : (held : Option Regex) (s : Search) (work : ℕ) (before : List Span) (reply : Reply) → None ≡ held → reply ≡ record { code = code_of_refusal Empty; count = 0 }
    → RepliesNextInWork held s s work work before before reply
not-held held s work before reply none r = record {
  went = refused Empty;
  goes = subst (λ h. IsOutcomeInWorkOfHandle h s work work (length before) (refused Empty)) none (refl, refl);
  reply_is = r;
  same_text = not-moved s;
  next = refl;
  written = refl;
}

module _ (re : Regex) (s : Search) (work : ℕ) (before : List Span) where
  pub not-open : (reply : Reply) → encoding_of s.encoding ≡ None → reply ≡ record { code = code_of_refusal NotOpen; count = 0 }
      → RepliesNextInWork (Some re) s s work work before before reply
  not-open reply none r = record {
    went = refused NotOpen;
    goes = subst (λ e. IsOutcomeInWorkIfOpen re s e work work (length before) (refused NotOpen)) (sym none) (refl, refl);
    reply_is = r;
    same_text = not-moved s;
    next = refl;
    written = refl;
  }

  module _ (e : Encoding) (open' : encoding_of s.encoding ≡ Some e) where
    by-encoding : (left : ℕ) (went : OutcomeInWork) → IsOutcomeInWork re s e work left (length before) went → IsOutcomeInWorkIfOpen re s (encoding_of s.encoding) work left (length before) went
    by-encoding left went g = subst (λ o. IsOutcomeInWorkIfOpen re s o work left (length before) went) (sym open') g

    pub too-short : (ranges : ℕ) (reply : Reply) → ranges ≡ number_of_ranges (tree_for_encoding re e) → length before < ranges → reply ≡ record { code = code_of_refusal ShortBuffer; count = ranges }
        → RepliesNextInWork (Some re) s s work work before before reply
    too-short ranges reply is less r = record {
      went = short ranges;
      goes = by-encoding work (short ranges) (is, less, refl);
      reply_is = r;
      same_text = not-moved s;
      next = refl;
      written = refl;
    }

    refuses : (r : Refusal) (left : ℕ) (after : List Span) → FillsInWork re s e work left before after (Err r) → IsOutcomeInWork re s e work left (length before) (refused r) × (after ≡ before)
    refuses NotBoundary left after (splits, l, a) = ((splits, l), a)
    refuses Memory left after (l, a) = ((tt, l), a)
    refuses _ left after h = absurd h

    pub is-refused : (left : ℕ) (after : List Span) (r : Refusal) (reply : Reply) → FillsInWork re s e work left before after (Err r)
        → reply ≡ record { code = code_of_refusal r; count = 0 } → RepliesNextInWork (Some re) s s work left before after reply
    is-refused left after r reply h is =
        let goes = refuses r left after h in
        record {
          went = refused r;
          goes = by-encoding left (refused r) goes.0;
          reply_is = is;
          same_text = not-moved s;
          next = refl;
          written = goes.1;
        }

    pub is-filled : (s' : Search) (left : ℕ) (after : List Span) (f : FilledInWork) (code : ℕ) → HasSameText s s' → s'.next ≡ f.filled.next
        → FillsInWork re s e work left before after (Ok f) → code ≡ code_of_stop_in_work f.filled.stop f.out
        → RepliesNextInWork (Some re) s s' work left before after (record { code = code; count = f.filled.matches })
    is-filled s' left after f code same next (fills, takes) c =
        let takes_of_run =
        subst (λ n. TakesWorkInEncoding re s e work left n fills.run.stop f.out) fills.matches
        (subst (λ stop. TakesWorkInEncoding re s e work left f.filled.matches stop f.out) fills.stop takes) in
        record {
          went = ran fills.run f.out;
          goes = by-encoding left (ran fills.run f.out) (fills.is, takes_of_run);
          reply_is = λ i. record { code = (c ∙ ap (λ stop. code_of_stop_in_work stop f.out) fills.stop) i; count = fills.matches i };
          same_text = same;
          next = next ∙ fills.next;
          written = fills.written;
        }

-- ---- Encodings

-- If the encoding is the other one, the matches of a search in that one are written.
pub fills-in : (re : Regex) (s : Search) (e e' : Encoding) (work left : ℕ) (before after : List Span) (r : Result FilledInWork Refusal) → e ≡ e' → FillsInWork re s e' work left before after r
    → FillsInWork re s e work left before after r
fills-in re s e e' work left before after r is h = subst (λ e. FillsInWork re s e work left before after r) (sym is) h
