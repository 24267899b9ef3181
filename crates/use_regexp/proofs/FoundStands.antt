-- The position of a match that a search finds.
use Rattle.std.proofs.Common.{◌≡◌, ℕ, ◌≤◌, Bool, true, false, not, ◌&&◌, List, length, IsTrue, sym, ◌∙◌, ap, nat_le}
use Rattle.std.specs.Prelude.{Option, Some, None, Result, IfOk, IfSome, option_map, if◌then◌else◌, slice_get}
use Rattle.std.proofs.lemmas.Bool.{and_parts, cases_Bool, not-true}
use Rattle.std.proofs.lemmas.Result.{IfOk-weaker}
use Rattle.regex_meaning.specs.SearchAnswers.{answer_at, first_answer}
use Rattle.regex_meaning.specs.Laws.{IsRangeOfWholeCharacters, is_within_pair}
use Rattle.regex_meaning.specs.MatchGroupsByNumberAndName.{Answer}
use Rattle.regex_meaning.specs.CodeUnitOffsets.{IsBoundary, HasRisingPlaceOffsets, units}
use Rattle.regex_meaning.specs.Text.{Text, is_unit_boundary, ucs2_text, utf16_text}
use Rattle.regex_meaning.specs.CodeUnits.{AreU16Units}
use Rattle.regex_meaning.proofs.SearchAnswersLemmas.{first_answer-stands}
use Rattle.regex_meaning.proofs.CodeUnitOffsetsLemmas.{ucs2_text-IsText, utf16_text-IsText}
use Rattle.regex_meaning.proofs.UnitBoundaryLemmas.{unit_boundary-between, unit_boundary-place_at, units-utf16}
use Rattle.regex_meaning.proofs.CodeUnitLengthLemmas.{ucs2_text-units}
use Rattle.regress_search.specs.MatchesAsSpecAnswers.{answer_of}
use Rattle.regress_search.specs.declared.exec.Match.{Match}
use Rattle.regress_match.specs.ProgramTreesAndAnswers.{units_as_ucs2_text, units_as_utf16_text, ucs2_answer_beginning_at, ucs2_answers, tree_for_16_bit_units, utf16_answer_beginning_at, utf16_answers}
use Rattle.regress_match.specs.ExpansionsAndMatchRanges.{MatchRangesLieWithinUnits}
use Rattle.regress_match.specs.declared.api.regex.Regex.{Regex}
use Rattle.regress_match.proofs.FirstMatchLemmas.{at-first, first-fits_units, head-first}
use Rattle.use_regexp.specs.Exec.{IsRangeFromIndexOn, first_match, match_beginning_at_index, start_of_character_at}
use Rattle.use_regexp.specs.declared.pattern.Pattern.{Pattern}

-- What is known about a match that a search from a start on finds.
pub record Stands (us : List ℕ) (u : Bool) (start : ℕ) (m : Answer) : Type 0 where
  pub fits : MatchRangesLieWithinUnits us m
  pub behind : start ≤ m.range.0
  pub whole : IsTrue u → is_within_pair us m.range.1 ≡ false

module _ (re : Regex) (us : List ℕ) (small : AreU16Units us) where
  whole-end : (end : ℕ) → IsBoundary (units_as_utf16_text re us) end → is_within_pair us end ≡ false
  whole-end end at =
      let unicode = (tree_for_16_bit_units re).flags.unicode in
      not-true (is_within_pair us end)
      ((and_parts (nat_le end (length us)) (not (is_within_pair us end))
      (sym (unit_boundary-between us end small) ∙ unit_boundary-place_at us unicode end ∙ at)).1)

  -- The first answer from a start on, in a text of these units.
  first-in : (u : Bool) (text : Text) → HasRisingPlaceOffsets text → units text ≡ length us → ((end : ℕ) → IsBoundary text end → IsTrue u → is_within_pair us end ≡ false)
      → (start : ℕ) (m : Answer) → first_answer (tree_for_16_bit_units re).root text start ≡ Some m → Stands us u start m
  first-in u text is size whole start m e =
      let stands = first_answer-stands (tree_for_16_bit_units re).root text is start m e in
      record {
        fits = first-fits_units (tree_for_16_bit_units re).root text is us size start m e;
        behind = stands.0;
        whole = whole m.range.1 stands.1.2;
      }

  first-utf16 : (start : ℕ) (m : Answer) → first_answer (tree_for_16_bit_units re).root (units_as_utf16_text re us) start ≡ Some m → Stands us true start m
  first-utf16 start m e =
      let unicode = (tree_for_16_bit_units re).flags.unicode in
      first-in true (units_as_utf16_text re us) (utf16_text-IsText us unicode) (units-utf16 us unicode small) (λ end at _. whole-end end at) start m e

  first-ucs2 : (start : ℕ) (m : Answer) → first_answer (tree_for_16_bit_units re).root (units_as_ucs2_text re us) start ≡ Some m → Stands us false start m
  first-ucs2 start m e =
      let unicode = (tree_for_16_bit_units re).flags.unicode in
      first-in false (units_as_ucs2_text re us) (ucs2_text-IsText us unicode) (ucs2_text-units us unicode) (λ end at no. absurd (cc no)) start m e

  -- The first match from a start on.
  first-found : (u : Bool) (start : ℕ) (m : Answer)
      → slice_get (if u then utf16_answers re us start else ucs2_answers re us start) 0 ≡ Some m → Stands us u start m
  first-found true start m e =
      first-utf16 start m (sym (head-first (tree_for_16_bit_units re).root (units_as_utf16_text re us) (utf16_text-IsText us (tree_for_16_bit_units re).flags.unicode) start) ∙ e)
  first-found false start m e =
      first-ucs2 start m (sym (head-first (tree_for_16_bit_units re).root (units_as_ucs2_text re us) (ucs2_text-IsText us (tree_for_16_bit_units re).flags.unicode) start) ∙ e)

  -- The match that begins at a start.
  here-found : (u : Bool) (start : ℕ) (m : Answer)
      → (if u then utf16_answer_beginning_at re us start else ucs2_answer_beginning_at re us start) ≡ Some m → Stands us u start m
  here-found true start m e =
      first-utf16 start m (at-first (tree_for_16_bit_units re).root (units_as_utf16_text re us) (utf16_text-IsText us (tree_for_16_bit_units re).flags.unicode) start m e)
  here-found false start m e =
      first-ucs2 start m (at-first (tree_for_16_bit_units re).root (units_as_ucs2_text re us) (ucs2_text-IsText us (tree_for_16_bit_units re).flags.unicode) start m e)

module _ (p : Pattern) (us : List ℕ) (index : ℕ) where
  standing : (m : Answer) → Stands us p.flags.unicode (start_of_character_at p us index) m → IsRangeFromIndexOn p us index m
  standing m s = record { fits = s.fits; behind = s.behind; whole = s.whole }

  pub first-stands : AreU16Units us → (m : Answer) → first_match p us index ≡ Some m → IsRangeFromIndexOn p us index m
  unfolding first_match
  first-stands small m e = standing m (first-found p.re us small p.flags.unicode (start_of_character_at p us index) m e)

  pub here-stands : AreU16Units us → (m : Answer) → match_beginning_at_index p us index ≡ Some m → IsRangeFromIndexOn p us index m
  unfolding match_beginning_at_index
  here-stands small m e = standing m (here-found p.re us small p.flags.unicode (start_of_character_at p us index) m e)

-- The results of the engine's calls, by the flag `u`.
module _ (p : Pattern) (us : List ℕ) (index start : ℕ) (s : start ≡ start_of_character_at p us index) {E : Type 0} (r : Result (Option Match) E) where
  abbrev list_by : (u : Bool) → (from : ℕ) → List Answer
  list_by u from = if u then utf16_answers p.re us from else ucs2_answers p.re us from

  abbrev here_by : (u : Bool) → (at : ℕ) → Option Answer
  here_by u at = if u then utf16_answer_beginning_at p.re us at else ucs2_answer_beginning_at p.re us at

  pub first-ok : (u : Bool) (answers : List Answer) → p.flags.unicode ≡ u → answers ≡ list_by u start → IfOk r (λ m. option_map answer_of m ≡ slice_get answers 0)
      → IfOk r (λ m. option_map answer_of m ≡ first_match p us index)
  unfolding first_match
  first-ok u answers e a h =
      let same : answers ≡ list_by p.flags.unicode (start_of_character_at p us index) = a ∙ ap (list_by u) s ∙ ap (λ b. list_by b (start_of_character_at p us index)) (sym e) in
      IfOk-weaker r (λ m. option_map answer_of m ≡ slice_get answers 0) _ (λ m g. g ∙ ap (λ (ms : List Answer). slice_get ms 0) same) h

  pub here-ok : (u : Bool) → p.flags.unicode ≡ u → IfOk r (λ m. option_map answer_of m ≡ here_by u start) → IfOk r (λ m. option_map answer_of m ≡ match_beginning_at_index p us index)
  unfolding match_beginning_at_index
  here-ok u e h =
      let same : here_by u start ≡ here_by p.flags.unicode (start_of_character_at p us index) = ap (here_by u) s ∙ ap (λ b. here_by b (start_of_character_at p us index)) (sym e) in
      IfOk-weaker r (λ m. option_map answer_of m ≡ here_by u start) _ (λ m g. g ∙ same) h
