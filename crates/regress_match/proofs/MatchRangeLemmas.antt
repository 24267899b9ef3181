-- Matches lie in the text in order, and a loop over them keeps this as its invariant.
use Rattle.std.proofs.Common.{◌≡◌, ℕ, zero, suc, ◌+◌, ◌≤◌, List, [], ◌∷◌, max, sym, ◌∙◌, ap, subst, arith, IsCharBoundary}
use Rattle.std.proofs.lemmas.Str.{IsCharBoundary-start}
use Rattle.std.specs.Prelude.{Bool, true, false, nat_le, if◌then◌else◌, IsAscii, Result, Ok, Option, Some, None, IsUtf8, IfSome, map, option_map, slice_get, unwrap_or}
use Rattle.std.specs.Option.{option_or}
use Rattle.regex_meaning.specs.Tree.{Node}
use Rattle.regex_meaning.specs.Text.{utf8_text}
use Rattle.regex_meaning.specs.Laws.{Each, AreAscendingDisjointAnswersFrom, IsWellFormedAnswerFor, IsRangeOfWholeCharacters}
use Rattle.regex_meaning.specs.Outcomes.{group_range}
use Rattle.regex_meaning.specs.MatchGroupsByNumberAndName.{Answer, answers_from, first_appearances, first_range, ids_named, named_groups}
use Rattle.regex_meaning.specs.StepBudget.{items_within_steps}
use Rattle.regex_meaning.proofs.SameMatchesAcrossEncodings.{ascii-utf8}
use Rattle.regex_meaning.proofs.MatchOrderLemmas.{answers-IsWellFormedAnswerFor, answers-StandInOrder}
use Rattle.regex_meaning.proofs.CodeUnitOffsetsLemmas.{utf8_text-IsText}
use Rattle.regress_input.proofs.Utf8Slices.{char_boundary}
use Rattle.regress_search.specs.MatchesAsSpecAnswers.{answer_of}
use Rattle.regress_search.specs.RemainingAnswers.{RemainingView, NextYields}
use Rattle.regress_search.specs.declared.exec.Match.{Match}
use Rattle.regress_search.specs.declared.exec.SearchError.{SearchError}
use Rattle.regress_match.specs.Laws.{MatchesLieInTextInOrder}
use Rattle.regress_match.specs.ProgramTreesAndAnswers.{tree_for_byte_units, ascii_answers}
use Rattle.regress_match.specs.ExpansionsAndMatchRanges.{IsCharBoundaryRange, MatchFitsText, MatchesFitTextInOrderFrom}
use Rattle.regress_match.specs.declared.api.regex.Regex.{Regex}

-- ---- Matches in the text

module _ (bytes : List ℕ) (unicode : Bool) (is_utf8 : IsUtf8 bytes) where
  slice_of : (range : ℕ × ℕ) → IsRangeOfWholeCharacters (utf8_text bytes unicode) range → IsCharBoundaryRange bytes range
  slice_of range h = (h.0, char_boundary bytes unicode ∣ is_utf8 ∣₁ range.0 h.1, char_boundary bytes unicode ∣ is_utf8 ∣₁ range.1 h.2)

  slices_of : (groups : List (Option (ℕ × ℕ))) → Each (λ g. IfSome g (IsRangeOfWholeCharacters (utf8_text bytes unicode))) groups → Each (λ g. IfSome g (IsCharBoundaryRange bytes)) groups
  slices_of [] h = tt
  slices_of (None ∷ groups) h = (tt, slices_of groups h.1)
  slices_of (Some range ∷ groups) h = (slice_of range h.0, slices_of groups h.1)

  stand : (root : Node) (low from : ℕ) (ms : List Answer) → from ≤ low → AreAscendingDisjointAnswersFrom low ms → Each (IsWellFormedAnswerFor root (utf8_text bytes unicode)) ms → MatchesFitTextInOrderFrom bytes from ms
  stand root low from [] le h k = tt
  stand root low from (m ∷ ms) le h k =
      (omega (arith, h.0), record { whole = slice_of m.range k.0.whole; groups = slices_of m.captures k.0.groups }, stand root (max (m.range.0 + 1) m.range.1) m.range.1 ms (omega arith) h.2 k.1)

  answers-stand : (root : Node) (start : ℕ) → MatchesFitTextInOrderFrom bytes start (answers_from root (utf8_text bytes unicode) start)
  answers-stand root start =
      stand root start start _ (omega arith) (answers-StandInOrder root (utf8_text bytes unicode) (utf8_text-IsText bytes unicode) start)
      (answers-IsWellFormedAnswerFor root (utf8_text bytes unicode) (utf8_text-IsText bytes unicode) start)

-- The matches of a search lie in the text in order, from the start on.
pub matches-stand : MatchesLieInTextInOrder
matches-stand re text start is_utf8 = answers-stand text (tree_for_byte_units re).flags.unicode is_utf8 (tree_for_byte_units re).root start

-- The matches of an ASCII text lie in the text in order.
pub ascii-stand : (re : Regex) (text : List ℕ) (start : ℕ) → IsUtf8 text → IsAscii text → MatchesFitTextInOrderFrom text start (ascii_answers re text start)
ascii-stand re text start is_utf8 ascii =
    subst (MatchesFitTextInOrderFrom text start) (sym (ascii-utf8 (tree_for_byte_units re).root text (tree_for_byte_units re).flags.unicode ascii start)) (matches-stand re text start is_utf8)

-- The matches that the steps suffice for lie in the text in order.
pub within-stand : (text : List ℕ) (from steps : ℕ) (needs : List ℕ) (ms : List Answer) → MatchesFitTextInOrderFrom text from ms → MatchesFitTextInOrderFrom text from (items_within_steps steps needs ms)
within-stand text from steps [] ms h = tt
within-stand text from steps (n ∷ needs) [] h = tt
within-stand text from steps (n ∷ needs) (m ∷ ms) h = by (nat_le n steps) (within-stand text m.range.1 steps needs ms h.2)
  where
    by : (b : Bool) → MatchesFitTextInOrderFrom text m.range.1 (items_within_steps steps needs ms) → MatchesFitTextInOrderFrom text from (if b then m ∷ items_within_steps steps needs ms else [])
    by true rest = (h.0, h.1, rest)
    by false rest = tt

-- The first match lies in the text.
pub first-fits : (text : List ℕ) (start : ℕ) (ms : List Answer) (first : Option Match) → MatchesFitTextInOrderFrom text start ms → option_map answer_of first ≡ slice_get ms 0
    → IfSome first (λ m. MatchFitsText text (answer_of m))
first-fits text start ms None h e = tt
first-fits text start [] (Some m) h e = absurd (cc e)
first-fits text start (n ∷ ms) (Some m) h e = let same : n ≡ answer_of m = cc e in subst (MatchFitsText text) same h.1

-- ---- Groups by name

module _ (P : ℕ × ℕ → Type 0) where
  unwrapped : (o : Option (Option (ℕ × ℕ))) → IfSome o (λ g. IfSome g P) → IfSome (unwrap_or o None) P
  unwrapped None h = tt
  unwrapped (Some g) h = h

  either : (a b : Option (ℕ × ℕ)) → IfSome a P → IfSome b P → IfSome (option_or a b) P
  either None b h k = k
  either (Some x) b h k = h

  get-each : (groups : List (Option (ℕ × ℕ))) (id : ℕ) → Each (λ g. IfSome g P) groups → IfSome (slice_get groups id) (λ g. IfSome g P)
  get-each [] id h = tt
  get-each (g ∷ groups) zero h = h.0
  get-each (g ∷ groups) (suc id) h = get-each groups id h.1

  first_range-each : (m : Answer) (ids : List ℕ) → Each (λ g. IfSome g P) m.captures → IfSome (first_range m ids) P
  first_range-each m [] h = tt
  first_range-each m (id ∷ ids) h = either (group_range m.captures id) (first_range m ids) (unwrapped _ (get-each m.captures id h)) (first_range-each m ids h)

  named-each : (m : Answer) (names : List (List ℕ)) → Each (λ g. IfSome g P) m.captures
      → Each (λ (named : List ℕ × Option (ℕ × ℕ)). IfSome named.1 P) (map (λ name. (name, first_range m (ids_named m name))) names)
  named-each m [] h = tt
  named-each m (name ∷ names) h = (first_range-each m (ids_named m name) h, named-each m names h)

-- The range of each named group lies on character boundaries.
pub named-fit : (text : List ℕ) (m : Answer) → MatchFitsText text m → Each (λ (named : List ℕ × Option (ℕ × ℕ)). IfSome named.1 (IsCharBoundaryRange text)) (named_groups m)
named-fit text m fits = named-each (IsCharBoundaryRange text) m (first_appearances [] m.names) fits.groups

-- ---- A loop over matches

-- The remaining matches lie in the text from a boundary on, and
-- the number of steps is limited or not.
pub record IsReached (text : List ℕ) (limited : Bool) (from : ℕ) (left : RemainingView) : Type 0 where
  pub boundary : IsCharBoundary text from
  pub stand : MatchesFitTextInOrderFrom text from left.answers
  pub limit : left.limited ≡ limited

-- A turn takes the next match, which lies behind the reached offset, and leaves the
-- matches behind its end.
pub record TakesNext (text : List ℕ) (limited : Bool) (from : ℕ) (left rest : RemainingView) (m : Answer) : Type 0 where
  pub next : left.answers ≡ m ∷ rest.answers
  pub before : IsCharBoundaryRange text (from, m.range.0)
  pub fits : MatchFitsText text m
  pub reached : (to : ℕ) → to ≡ m.range.1 → IsReached text limited to rest

stand-lower : (text : List ℕ) (low from : ℕ) (ms : List Answer) → low ≤ from → MatchesFitTextInOrderFrom text from ms → MatchesFitTextInOrderFrom text low ms
stand-lower text low from [] le h = tt
stand-lower text low from (m ∷ ms) le h = (omega (arith, h.0), h.1, h.2)

-- The invariant holds at the left end before the first turn.
pub reached-none : (text : List ℕ) (start : ℕ) (all left : RemainingView) → IsUtf8 text → MatchesFitTextInOrderFrom text start all.answers → left ≡ all → IsReached text all.limited 0 left
reached-none text start all left is_utf8 h e = record {
  boundary = IsCharBoundary-start text is_utf8;
  stand = stand-lower text 0 start left.answers (omega arith) (subst (λ (it : RemainingView). MatchesFitTextInOrderFrom text start it.answers) (sym e) h);
  limit = ap (λ (it : RemainingView). it.limited) e;
}

-- The invariant holds if the steps are not limited.
pub reached-unlimited : (text : List ℕ) (all left : RemainingView) → IsUtf8 text → all.limited ≡ false → MatchesFitTextInOrderFrom text 0 all.answers → left ≡ all → IsReached text false 0 left
reached-unlimited text all left is_utf8 unlimited h e = subst (λ b. IsReached text b 0 left) unlimited (reached-none text 0 all left is_utf8 h e)

pub takes-next : (text : List ℕ) (limited : Bool) (from : ℕ) (left rest : RemainingView) (r : Result Match SearchError) (m : Match)
    → IsReached text limited from left → NextYields left (Some r) rest → r ≡ Ok m → TakesNext text limited from left rest (answer_of m)
takes-next text limited from left rest r m reached gives is =
    let h : NextYields left (Some (Ok m)) rest = subst (λ x. NextYields left (Some x) rest) is gives in
    let stands = subst (MatchesFitTextInOrderFrom text from) h.0 reached.stand in
    record {
      next = h.0;
      before = (stands.0, reached.boundary, stands.1.whole.1);
      fits = stands.1;
      reached = λ to e. subst (λ n. IsReached text limited n rest) (sym e) record { boundary = stands.1.whole.2; stand = stands.2; limit = sym h.1 ∙ reached.limit };
    }
