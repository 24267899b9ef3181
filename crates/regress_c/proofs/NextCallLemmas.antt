-- A call for further matches replies with the outcome of the search, or with why it is refused.
use Rattle.std.proofs.Common.{◌≡◌, ℕ, ◌<◌, List, Option, Some, None, Result, Ok, Err, refl, sym, ap, ◌∙◌, subst, length}
use Rattle.regress_match.specs.ProgramTreesAndAnswers.{units_as_utf16_text, tree_for_16_bit_units}
use Rattle.regress_match.specs.declared.api.regex.Regex.{Regex}
use Rattle.regress_c.specs.Codes.{code_of_refusal}
use Rattle.regress_c.specs.NextMatches.{FillsFrom, FillsInEncoding, IsOutcomeOfHandle, IsOutcomeIfOpen, IsOutcomeInEncoding, HasSameText, RefusesSearch, RepliesNext, CallOutcome, code_of_stop_reason}
use Rattle.regress_c.specs.NextMatches.{ran, number_of_ranges, refused, short, tree_for_encoding}
use Rattle.regress_c.specs.Opening.{encoding_of}
use Rattle.regress_c.specs.Searching.{can_start_utf16}
use Rattle.regress_c.specs.declared.next_matches.Filled.{Filled}
use Rattle.regress_c.specs.declared.refusal.Refusal.{Refusal}
use Rattle.regress_c.specs.declared.refusal.Refusal.TheVariants.{Empty, NotBoundary, ShortBuffer, Memory, NotOpen}
use Rattle.regress_c.specs.declared.reply.Reply.{Reply}
use Rattle.regress_c.specs.declared.reply.Span.{Span}
use Rattle.regress_c.specs.declared.search.Encoding.{Encoding}
use Rattle.regress_c.specs.declared.search.Encoding.TheVariants.{Utf16}
use Rattle.regress_c.specs.declared.search.Search.{Search}

in-utf16 : (re : Regex) (s : Search) (before after : List Span) (r : Result Filled Refusal)
    → FillsFrom (tree_for_16_bit_units re) (units_as_utf16_text re s.units.now) (can_start_utf16 s.units.now s.next) None s.next before after r → FillsInEncoding re s Utf16 None before after r
in-utf16 re s before after (Ok filled) h = (h, refl)
in-utf16 re s before after (Err NotBoundary) h = h
in-utf16 re s before after (Err Memory) h = (tt, h)
in-utf16 re s before after (Err _) h = absurd h

pub fills-utf16 : (re : Regex) (s : Search) (e : Encoding) (steps : Option ℕ) (before after : List Span) (r : Result Filled Refusal) → e ≡ Utf16 → steps ≡ None
    → FillsFrom (tree_for_16_bit_units re) (units_as_utf16_text re s.units.now) (can_start_utf16 s.units.now s.next) None s.next before after r → FillsInEncoding re s e steps before after r
fills-utf16 re s e steps before after r is none h =
    subst (λ e. FillsInEncoding re s e steps before after r) (sym is) (subst (λ n. FillsInEncoding re s Utf16 n before after r) (sym none) (in-utf16 re s before after r h))

pub not-moved : (s : Search) → HasSameText s s
not-moved s = record { bytes = refl; units = refl; encoding = refl }

pub not-held : (held : Option Regex) (s : Search) (steps left : Option ℕ) (before : List Span) (reply : Reply) → None ≡ held
    → reply ≡ record { code = code_of_refusal Empty; count = 0 } → left ≡ steps → RepliesNext held s s steps left before before reply
not-held held s steps left before reply none r l = record {
  went = refused Empty;
  goes = subst (λ h. IsOutcomeOfHandle h s steps (length before) (refused Empty)) none refl;
  reply_is = r;
  same_text = not-moved s;
  next = refl;
  left_is = l;
  written = refl;
}

module _ (re : Regex) (s : Search) (steps : Option ℕ) (before : List Span) where
  pub not-open : (left : Option ℕ) (reply : Reply) → encoding_of s.encoding ≡ None → reply ≡ record { code = code_of_refusal NotOpen; count = 0 } → left ≡ steps
      → RepliesNext (Some re) s s steps left before before reply
  not-open left reply none r l = record {
    went = refused NotOpen;
    goes = subst (λ e. IsOutcomeIfOpen re s e steps (length before) (refused NotOpen)) (sym none) refl;
    reply_is = r;
    same_text = not-moved s;
    next = refl;
    left_is = l;
    written = refl;
  }

  module _ (e : Encoding) (open' : encoding_of s.encoding ≡ Some e) where
    by-encoding : (went : CallOutcome) → IsOutcomeInEncoding re s e steps (length before) went → IsOutcomeIfOpen re s (encoding_of s.encoding) steps (length before) went
    by-encoding went g = subst (λ o. IsOutcomeIfOpen re s o steps (length before) went) (sym open') g

    pub too-short : (ranges : ℕ) (reply : Reply) → ranges ≡ number_of_ranges (tree_for_encoding re e) → length before < ranges → reply ≡ record { code = code_of_refusal ShortBuffer; count = ranges }
        → RepliesNext (Some re) s s steps steps before before reply
    too-short ranges reply is less r = record {
      went = short ranges;
      goes = by-encoding (short ranges) (is, less);
      reply_is = r;
      same_text = not-moved s;
      next = refl;
      left_is = refl;
      written = refl;
    }

    pub is-refused : (after : List Span) (left : Option ℕ) (r : Refusal) (reply : Reply) → RefusesSearch s e steps r × (after ≡ before)
        → reply ≡ record { code = code_of_refusal r; count = 0 } → left ≡ steps → RepliesNext (Some re) s s steps left before after reply
    is-refused after left r reply h is l = record {
      went = refused r;
      goes = by-encoding (refused r) h.0;
      reply_is = is;
      same_text = not-moved s;
      next = refl;
      left_is = l;
      written = h.1;
    }

    pub is-filled : (s' : Search) (after : List Span) (filled : Filled) (code : ℕ) → HasSameText s s' → s'.next ≡ filled.next
        → FillsInEncoding re s e steps before after (Ok filled) → code ≡ code_of_stop_reason filled.stop
        → RepliesNext (Some re) s s' steps filled.left before after (record { code = code; count = filled.matches })
    is-filled s' after filled code same next f c = record {
      went = ran f.0.run;
      goes = by-encoding (ran f.0.run) (f.0.is, f.1);
      reply_is = λ i. record { code = (c ∙ ap code_of_stop_reason f.0.stop) i; count = f.0.matches i };
      same_text = same;
      next = next ∙ f.0.next;
      left_is = f.0.left_is;
      written = f.0.written;
    }
