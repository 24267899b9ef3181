-- A match is the last one exactly if it begins at the end of the text.
use Rattle.std.proofs.Common.{◌≡◌, ℕ, ◌+◌, ◌<◌, ◌≤◌, Option, Some, None, Bool, true, false, refl, sym, ap, ◌∙◌, arith, inl, inr, eq-eqb, option_map, option_and_then}
use Rattle.std.proofs.lemmas.Bool.{cases_lt, le-ltb, ltb-false, ne_eqb}
use Rattle.std.specs.Prelude.{◌==◌, ◌⊎◌, if◌then◌else◌, nat_lt, is_none}
use Rattle.regex_meaning.specs.Tree.{Node}
use Rattle.regex_meaning.specs.Text.{Text, last_place}
use Rattle.regex_meaning.specs.CodeUnitOffsets.{HasRisingPlaceOffsets, offset, place_at, units}
use Rattle.regex_meaning.specs.FirstAndAllMatches.{Found, first_match, place_after_match}
use Rattle.regex_meaning.specs.MatchGroupsByNumberAndName.{Answer, answer}
use Rattle.regex_meaning.specs.SearchAnswers.{first_answer, next_start}
use Rattle.regex_meaning.proofs.FirstAndAllMatchesLemmas.{StandsFrom, stands-first}
use Rattle.regex_meaning.proofs.CodeUnitOffsetsLemmas.{offset-less}

module _ (root : Node) (text : Text) (is : HasRisingPlaceOffsets text) where
  goes-on-inside : (m : Found) → m.start < last_place text → is_none (place_after_match root text m) ≡ false
  goes-on-inside m inside = by (nat_lt m.start m.end) refl
    where
      last : (b : Bool) → nat_lt m.end (last_place text) ≡ b → nat_lt m.start m.end ≡ false
          → is_none (if nat_lt m.end (last_place text) then Some (m.end + 1) else None) ≡ false
      last true e f = ap (λ b. is_none (if b then Some (m.end + 1) else None)) e
      last false e f =
          let no = ltb-false m.end (last_place text) e in
          let none = ltb-false m.start m.end f in absurd (omega (arith, no, none, inside))

      by : (b : Bool) → nat_lt m.start m.end ≡ b → is_none (place_after_match root text m) ≡ false
      by true e = ap (λ b. is_none (if b then Some m.end else if nat_lt m.end (last_place text) then Some (m.end + 1) else None)) e
      by false e =
          ap (λ b. is_none (if b then Some m.end else if nat_lt m.end (last_place text) then Some (m.end + 1) else None)) e
          ∙ last (nat_lt m.end (last_place text)) refl e

  none-mapped : (o : Option ℕ) → is_none (option_map (offset text) o) ≡ is_none o
  none-mapped None = refl
  none-mapped (Some p) = refl

  ends-found : (p : ℕ) (a : Answer) (m : Option Found) → StandsFrom root text p m → option_map (answer root text) m ≡ Some a
      → is_none (option_map (offset text) (option_and_then (place_after_match root text) m)) ≡ (a.range.0 == units text)
  ends-found p a None h e = absurd (cc e)
  ends-found p a (Some m) h e =
      let same : answer root text m ≡ a = cc e in
      let from : offset text m.start ≡ a.range.0 = ap (λ (x : Answer). x.range.0) same in
      none-mapped (place_after_match root text m) ∙ by (cases_lt m.start (last_place text)) ∙ ap (λ n. n == units text) from
    where
      by : (m.start < last_place text) ⊎ (last_place text ≤ m.start) → is_none (place_after_match root text m) ≡ (offset text m.start == units text)
      by (inl inside) =
          let less = offset-less text m.start (last_place text) is inside (omega arith) in
          goes-on-inside m inside ∙ sym (ne_eqb (offset text m.start) (units text) (λ e. omega (arith, less, e)))
      by (inr past) =
          let start : m.start ≡ last_place text = omega (arith, past, h.1, h.2) in
          let none : is_none (place_after_match root text m) ≡ true =
          rw (le-ltb m.start m.end (omega (arith, past, h.2)), le-ltb m.end (last_place text) (omega (arith, past, h.1))) refl in
          none ∙ sym (eq-eqb (offset text m.start) (units text) (ap (offset text) start))

  ends-from : (a : Answer) (at : Option ℕ) → option_map (answer root text) (option_and_then (first_match root text) at) ≡ Some a
      → is_none (option_map (offset text) (option_and_then (place_after_match root text) (option_and_then (first_match root text) at))) ≡ (a.range.0 == units text)
  ends-from a None e = absurd (cc e)
  ends-from a (Some p) e = ends-found p a (first_match root text p) (stands-first root text p) e

  -- The list ends behind a match exactly if the match begins at the end of the text.
  pub ends-behind : (start : ℕ) (a : Answer) → first_answer root text start ≡ Some a → is_none (next_start root text start) ≡ (a.range.0 == units text)
  ends-behind start a e = ends-from a (place_at text start) e
