-- A call fills a buffer with the matches that an iterator yields within a work budget.
use Rattle.std.proofs.Common.{◌≡◌, ℕ, ◌+◌, ◌-◌, ◌*◌, ◌<◌, ◌≤◌, le_refl, true, List, [], ◌∷◌, ◌++◌, append_assoc, length, take, drop, refl, sym, ap, ◌∙◌, subst, arith}
use native.Mathlib.Nat.{zero-mul}
use Rattle.std.proofs.lemmas.List.{length-append}
use Rattle.std.specs.Prelude.{Option, Some, None, Ok, Err, IsUtf8, flat_map}
use Rattle.std.specs.Borrow.{Bor}
use Rattle.regex_meaning.specs.Laws.{Each, IsWellFormedAnswerFor}
use Rattle.regex_meaning.specs.MatchGroupsByNumberAndName.{Answer}
use Rattle.regex_meaning.proofs.EachElementLemmas.{Each-map, Each-left}
use Rattle.regex_meaning.proofs.MatchOrderLemmas.{answers-IsWellFormedAnswerFor}
use Rattle.regex_meaning.proofs.CodeUnitOffsetsLemmas.{utf8_text-IsText}
use Rattle.regex_meaning.proofs.BoolLemmas.{false-by-implication}
use Rattle.regress_search.specs.MatchesAsSpecAnswers.{answer_of}
use Rattle.regress_search.specs.MatchesWithinWork.{NextYieldsWithinWork, RemainingAnswersAndWork}
use Rattle.regress_search.specs.declared.exec.Match.{Match}
use Rattle.regress_search.specs.declared.exec.work_matches.WorkError.{WorkError}
use Rattle.regress_search.specs.declared.exec.work_matches.WorkError.TheVariants as worked
use Rattle.regress_match.specs.ProgramTreesAndAnswers.{bytes_as_utf8_text, tree_for_byte_units, utf8_answers}
use Rattle.regress_match.specs.WorkBounds.{BoundedView, IsHigherOfProgramWorkBounds, YieldsMatchesIfWorkSuffices}
use Rattle.regress_match.specs.declared.api.regex.Regex.{Regex}
use Rattle.regress_c.specs.AllMatchesInWork.{Ending, IsEndingWithinWork, IsEndingOfIterator, RefusesAllInWork, RepliesAllInWork, RepliesOutcome, WritesMatchesWithinWork, Written, full, over, failed}
use Rattle.regress_c.specs.AllMatchesInWork.{ran, refused, short}
use Rattle.regress_c.specs.Codes.{code_of_refusal, done, no_match, refusal_of_work_error}
use Rattle.regress_c.specs.Replies.{spans_of, with_front_overwritten}
use Rattle.regress_c.specs.Searching.{IsTextWithValidStart, can_start_utf8}
use Rattle.regress_c.specs.Texts.{range_count}
use Rattle.regress_c.specs.declared.refusal.Refusal.{Refusal}
use Rattle.regress_c.specs.declared.refusal.Refusal.TheVariants.{Empty, NotUtf8, NotBoundary, ShortBuffer}
use Rattle.regress_c.specs.declared.reply.Reply.{Reply}
use Rattle.regress_c.specs.declared.reply.Span.{Span}
use Rattle.regress_c.proofs.SpanBufferLemmas.{at-more, written-more}
use Rattle.regress_c.proofs.InWorkLemmas.{too-little}
use Rattle.regress_c.proofs.ReplyLemmas.{spans-count}

-- The matches written so far are in the buffer, and the iterator yields those after them.
pub record Writing (ranges : ℕ) (start : RemainingAnswersAndWork) (before : List Span) (view : RemainingAnswersAndWork) (now : List Span) (count at : ℕ) : Type 0 where
  pub found : List Answer
  pub answers : start.remaining.answers ≡ found ++ view.remaining.answers
  pub each : Each (λ m. length (spans_of m) ≡ ranges) view.remaining.answers
  pub fewer : view.left ≤ start.left
  pub enough : start.enough ≡ true → view.enough ≡ true
  pub count_is : count ≡ length found
  pub at_is : at ≡ length found * ranges
  pub flat : length (flat_map spans_of found) ≡ at
  pub written : now ≡ with_front_overwritten (flat_map spans_of found) before

module _ {ranges : ℕ} {start : RemainingAnswersAndWork} {before : List Span} where
  pub begun : Each (λ m. length (spans_of m) ≡ ranges) start.remaining.answers → Writing ranges start before start before 0 0
  begun each = record {
    found = [];
    answers = refl;
    each = each;
    fewer = le_refl start.left;
    enough = λ e. e;
    count_is = refl;
    at_is = sym (zero-mul ranges);
    flat = refl;
    written = refl;
  }

  -- A match that the iterator yields has `ranges` ranges.
  pub ranges-of : (view view' : RemainingAnswersAndWork) (now : List Span) (count at : ℕ) (m : Match) → Writing ranges start before view now count at
      → NextYieldsWithinWork view (Some (Ok m)) view' → ranges ≡ length (spans_of (answer_of m))
  ranges-of view view' now count at m f gives = sym (subst (Each (λ m. length (spans_of m) ≡ ranges)) gives.0.0 f.each).0

  pub one_more : (view view' : RemainingAnswersAndWork) (now after : List Span) (count at : ℕ) (m : Match) → Writing ranges start before view now count at
      → NextYieldsWithinWork view (Some (Ok m)) view' → after ≡ take at now ++ spans_of (answer_of m) ++ drop (at + ranges) now
      → Writing ranges start before view' after (count + 1) (at + ranges)
  one_more view view' now after count at m f gives w =
      let found = answer_of m in
      let each = subst (Each (λ m. length (spans_of m) ≡ ranges)) gives.0.0 f.each in
      let more = written-more f.found found before now after at ranges each.0 f.flat f.written w in
      record {
        found = f.found ++ found ∷ [];
        answers = f.answers ∙ ap (λ xs. f.found ++ xs) gives.0.0 ∙ sym (append_assoc f.found (found ∷ []) view'.remaining.answers);
        each = each.1;
        fewer = let less = gives.1 in let were = f.fewer in omega (arith, less, were);
        enough = λ e. gives.0.4 (f.enough e);
        count_is = let c = f.count_is in let l = length-append f.found (found ∷ []) in omega (arith, c, l);
        at_is = let a = f.at_is in let l = length-append f.found (found ∷ []) in at-more (length f.found) (length (f.found ++ found ∷ [])) at ranges ranges a l refl;
        flat = more.0;
        written = more.1;
      }

  module _ (view : RemainingAnswersAndWork) (now : List Span) (count at : ℕ) (f : Writing ranges start before view now count at) (reply : Reply) where
    -- If the buffer has no room for one more match, the reply is `done`.
    pub is-full : length before - at < ranges → reply ≡ record { code = done; count = count } → WritesMatchesWithinWork ranges start view before now reply
    is-full room r = (
      record { found = f.found; rest = view.remaining.answers; ending = full },
      record { answers = f.answers; fewer = f.fewer; ends = let a = f.at_is in omega (arith, a, room) },
      r ∙ ap (λ n. record { code = done; count = n }) f.count_is,
      f.written,
    )

    -- If the iterator yields no further match, the reply is `no_match`.
    pub is-over : (view' : RemainingAnswersAndWork) → NextYieldsWithinWork view None view' → reply ≡ record { code = no_match; count = count }
        → WritesMatchesWithinWork ranges start view' before now reply
    is-over view' gives r = (
      record { found = f.found; rest = view.remaining.answers; ending = over },
      record { answers = f.answers; fewer = let less = gives.1 in let were = f.fewer in omega (arith, less, were); ends = gives.0.0 },
      r ∙ ap (λ n. record { code = no_match; count = n }) f.count_is,
      f.written,
    )

    fails : (e : WorkError) (view' : RemainingAnswersAndWork) → NextYieldsWithinWork view (Some (Err e)) view'
        → IsEndingOfIterator ranges (length before) start view' (record { found = f.found; rest = view.remaining.answers; ending = failed e }) (failed e)
    fails worked.Memory view' gives = tt
    fails worked.WorkLimit view' gives = (false-by-implication start.enough view.enough f.enough gives.0.0.0, gives.0.0.1)

    -- If the search for the next match fails, the reply has the code of the error.
    pub is-failed : (e : WorkError) (view' : RemainingAnswersAndWork) → NextYieldsWithinWork view (Some (Err e)) view' → reply ≡ record { code = code_of_refusal (refusal_of_work_error e); count = count }
        → WritesMatchesWithinWork ranges start view' before now reply
    is-failed e view' gives r = (
      record { found = f.found; rest = view.remaining.answers; ending = failed e },
      record { answers = f.answers; fewer = let less = gives.1 in let were = f.fewer in omega (arith, less, were); ends = fails e view' gives },
      r ∙ ap (λ n. record { code = code_of_refusal (refusal_of_work_error e); count = n }) f.count_is,
      f.written,
    )

-- ---- Searches of a text

module _ (re : Regex) (text : List ℕ) (start : ℕ) where
  -- Each match in a text has one range for the whole and one for each group.
  pub ranges-each : Each (λ m. length (spans_of m) ≡ range_count re) (utf8_answers re text start)
  ranges-each =
      let tree = tree_for_byte_units re in
      Each-map (IsWellFormedAnswerFor tree.root (bytes_as_utf8_text re text)) (λ m. length (spans_of m) ≡ range_count re)
      (λ m is. let count = spans-count m in let groups = is.count in omega (arith, count, groups)) (utf8_answers re text start)
      (answers-IsWellFormedAnswerFor tree.root (bytes_as_utf8_text re text) (utf8_text-IsText text tree.flags.unicode) start)

  -- Each match that the iterator yields has as many ranges.
  pub ranges-come : (per_unit work : ℕ) (it : RemainingAnswersAndWork) → YieldsMatchesIfWorkSuffices (tree_for_byte_units re) (bytes_as_utf8_text re text) start per_unit work it
      → Each (λ m. length (spans_of m) ≡ range_count re) it.remaining.answers
  ranges-come per_unit work it yields = subst (Each (λ m. length (spans_of m) ≡ range_count re)) (sym yields.answers) ranges-each

  module _ (per_unit work left : ℕ) (it behind : RemainingAnswersAndWork) (before after : List Span) (reply : Reply)
      (is : IsUtf8 text) (can : can_start_utf8 text start) (fits : range_count re ≤ length before) (bound : IsHigherOfProgramWorkBounds re per_unit)
      (yields : YieldsMatchesIfWorkSuffices (tree_for_byte_units re) (bytes_as_utf8_text re text) start per_unit work it) (left_is : left ≡ behind.left) where
    ends : (w : Written) (e : Ending) → IsEndingOfIterator (range_count re) (length before) it behind w e → IsEndingWithinWork re text work left (length before) w e
    ends w full h = h
    ends w over h = h
    ends w (failed worked.Memory) h = tt
    ends w (failed worked.WorkLimit) h = (left_is ∙ h.1, (per_unit, bound, too-little re text start per_unit work it behind bound yields h.0))

    -- The matches written are those of the text.
    pub has-written : WritesMatchesWithinWork (range_count re) it behind before after reply → RepliesOutcome re text start work left before after reply
    has-written (w, written, r, b) =
        let all = sym yields.answers ∙ written.answers in (
          ran w,
          (
            is,
            can,
            record {
              answers = all;
              fits = fits;
              fewer = subst (λ l. l ≤ work) (sym left_is) (subst (λ l. behind.left ≤ l) yields.left written.fewer);
              ranges = Each-left (λ m. length (spans_of m) ≡ range_count re) w.found w.rest (subst (Each (λ m. length (spans_of m) ≡ range_count re)) all ranges-each);
              ends = ends w w.ending written.ends;
            },
          ),
          r,
          b,
        )

-- ---- Refusals

module _ (re : Regex) (bytes : List ℕ) (start : ℕ) where
  -- A text or a start that fails its check is refused.
  pub starts-refused : (r : Refusal) → IsTextWithValidStart bytes start (Err r) → RefusesAllInWork re bytes start r
  starts-refused NotUtf8 h = h
  starts-refused NotBoundary h = h
  starts-refused _ h = absurd h

  module _ (work left : ℕ) (before after : List Span) (reply : Reply) where
    pub is-refused : (r : Refusal) → RefusesAllInWork re bytes start r × (left ≡ work) × (after ≡ before) → reply ≡ record { code = code_of_refusal r; count = 0 }
        → RepliesOutcome re bytes start work left before after reply
    is-refused r h is = (refused r, (h.0, h.1), is, h.2)

    -- If the buffer has no room for one match, the reply has the code of `ShortBuffer`.
    pub is-short : (text : Bor (List ℕ)) → IsTextWithValidStart bytes start (Ok text) → length before < range_count re → left ≡ work → after ≡ before
        → reply ≡ record { code = code_of_refusal ShortBuffer; count = range_count re } → RepliesOutcome re bytes start work left before after reply
    is-short text starts room l a is = (short, (starts.1, starts.2, room, l), is, a)

-- If the handle holds no pattern, the reply has the code of `Empty`.
pub not-held : (held : Option Regex) (bytes : List ℕ) (start work : ℕ) (before : List Span) (reply : Reply) → None ≡ held
    → reply ≡ record { code = code_of_refusal Empty; count = 0 } → RepliesAllInWork held bytes start work work before before reply
not-held held bytes start work before reply none r =
    subst (λ h. RepliesAllInWork h bytes start work work before before reply) none (r, refl, refl)

-- ---- Bounded patterns

-- The text has these bytes, and the bound is that of the pattern.
module _ (re : Regex) (bytes : List ℕ) (start work : ℕ) (text : Bor (List ℕ)) (bounded : BoundedView) (it : RemainingAnswersAndWork) (ranges : ℕ)
    (starts : IsTextWithValidStart bytes start (Ok text)) (of_re : bounded.re ≡ re) (each : IsHigherOfProgramWorkBounds re bounded.per_unit)
    (yields : YieldsMatchesIfWorkSuffices (tree_for_byte_units bounded.re) (bytes_as_utf8_text bounded.re text.now) start bounded.per_unit work it) (ranges_is : ranges ≡ range_count re) where
  by_re : YieldsMatchesIfWorkSuffices (tree_for_byte_units re) (bytes_as_utf8_text re bytes) start bounded.per_unit work it
  by_re =
      subst (λ r. YieldsMatchesIfWorkSuffices (tree_for_byte_units r) (bytes_as_utf8_text r bytes) start bounded.per_unit work it) of_re
      (subst (λ t. YieldsMatchesIfWorkSuffices (tree_for_byte_units bounded.re) (bytes_as_utf8_text bounded.re t) start bounded.per_unit work it) starts.0 yields)

  pub each-ranges : Each (λ m. length (spans_of m) ≡ ranges) it.remaining.answers
  each-ranges = subst (λ n. Each (λ m. length (spans_of m) ≡ n) it.remaining.answers) (sym ranges_is) (ranges-come re bytes start bounded.per_unit work it by_re)

  pub writes : (left : ℕ) (behind : RemainingAnswersAndWork) (before after : List Span) (reply : Reply) → ranges ≤ length before → left ≡ behind.left
      → WritesMatchesWithinWork ranges it behind before after reply → RepliesOutcome re bytes start work left before after reply
  writes left behind before after reply room left_is w =
      has-written re bytes start bounded.per_unit work left it behind before after reply starts.1 starts.2 (subst (λ n. n ≤ length before) ranges_is room)
      each by_re left_is (subst (λ n. WritesMatchesWithinWork n it behind before after reply) ranges_is w)
