-- Matches that are found one after another.
use Rattle.std.proofs.Common.{◌≡◌, ℕ, ◌+◌, ◌-◌, ◌<◌, ◌≤◌, Bool, true, false, ◌||◌, List, [], ◌∷◌, ◌++◌, length, map, refl, sym, subst, ap, ◌∙◌, arith, append_assoc, append-nil}
use Rattle.std.specs.Prelude.{Option, Some, None, Result, IfOk, IfSome, option_map, if◌then◌else◌, slice_get}
use Rattle.std.specs.Bool.{MatchBool}
use Rattle.std.specs.Borrow.{Bor}
use Rattle.std.specs.Option.{option_copied, option_to_list}
use Rattle.std.proofs.lemmas.List.{map-append}
use Rattle.std.proofs.lemmas.Result.{IfOk-weaker}
use Rattle.regex_meaning.specs.MatchGroupsByNumberAndName.{Answer}
use Rattle.regex_meaning.specs.CodeUnits.{AreU16Units}
use Rattle.regress_search.specs.MatchesAsSpecAnswers.{answer_of}
use Rattle.regress_search.specs.declared.exec.Match.{Match}
use Rattle.use_regexp.specs.Exec.{IsRangeFromIndexOn, first_match, found, last_index_after_search, match_beginning_at_index, search_index}
use Rattle.use_regexp.specs.Loops.{AreSuccessiveSearchResults, AreMatchesOfCall, last_index_after_matches, index_after_match}
use Rattle.use_regexp.specs.Replace.{AreRangesInOrderFrom}
use Rattle.use_regexp.specs.Units.{character_start}
use Rattle.use_regexp.specs.declared.pattern.Pattern.{Pattern}
use Rattle.use_regexp.proofs.FoundStands.{first-stands, here-stands}
use Rattle.use_regexp.proofs.PairLemmas.{next-behind, next-rises, start-near}

-- With `g`, a search begins at `lastIndex`.
global-index : (p : Pattern) (last : ℕ) → p.flags.global ≡ true → search_index p last ≡ last
global-index p last e = ap (λ (b : Bool). if b || p.flags.sticky then last else 0) e

-- ---- A single search

module _ (p : Pattern) (us : List ℕ) (index last : ℕ) (same : index ≡ search_index p last) {E : Type 0} (r : Result (Option Match) E) where
  abbrev found_by : (sticky : Bool) → (index : ℕ) → Option Answer
  found_by sticky index = if sticky then match_beginning_at_index p us index else first_match p us index

  pub found-ok : (sticky : Bool) → p.flags.sticky ≡ sticky → IfOk r (λ m. option_map answer_of m ≡ found_by sticky index)
      → IfOk r (λ m. option_map answer_of m ≡ found p us last)
  found-ok sticky e h =
      let same_answer : found_by sticky index ≡ found p us last = ap (found_by sticky) same ∙ ap (λ b. found_by b (search_index p last)) (sym e) in
      IfOk-weaker r (λ m. option_map answer_of m ≡ found_by sticky index) _ (λ m g. g ∙ same_answer) h

-- The match behind a reference.
pub copied-answers : (r : Option (Bor Match)) (m : Option Match) → option_copied r ≡ m → option_map (λ x. answer_of x.now) r ≡ option_map answer_of m
copied-answers None m e = ap (option_map answer_of) e
copied-answers (Some x) m e = ap (option_map answer_of) e

module _ (p : Pattern) (us : List ℕ) where
  -- ---- The list

  -- The matches so far precede the matches from here on.
  abbrev pub GoesOn : (first last : ℕ) → (so_far : List Answer) → Type 0
  GoesOn first last so_far = (rest : List Answer) → AreSuccessiveSearchResults p us last rest → AreSuccessiveSearchResults p us first (so_far ++ rest)

  pub goes-none : (first : ℕ) (items : List Match) → items ≡ [] → GoesOn first first (map answer_of items)
  goes-none first items none rest h = subst (λ (ms : List Match). AreSuccessiveSearchResults p us first (map answer_of ms ++ rest)) (sym none) h

  pub goes-more : (first last next : ℕ) (items more : List Match) (f : Match) → GoesOn first last (map answer_of items)
      → found p us last ≡ Some (answer_of f) → next ≡ index_after_match p us (answer_of f) → more ≡ items ++ f ∷ [] → GoesOn first next (map answer_of more)
  goes-more first last next items more f on e n m rest h =
      let m' = answer_of f in
      let whole = on (m' ∷ rest) (e, subst (λ at. AreSuccessiveSearchResults p us at rest) n h) in
      subst (AreSuccessiveSearchResults p us first)
      (sym (ap (λ (ms : List Answer). ms ++ rest) (ap (map answer_of) m ∙ map-append answer_of items (f ∷ [])) ∙ append_assoc (map answer_of items) (m' ∷ []) rest)) whole

  pub goes-end : (first last : ℕ) (ms : List Answer) → GoesOn first last ms → found p us last ≡ None → AreSuccessiveSearchResults p us first ms
  goes-end first last ms on e = subst (AreSuccessiveSearchResults p us first) (append-nil ms) (on [] e)

  -- The next index is nearer to the end.
  pub turn-smaller : (last next : ℕ) (m : Answer) → p.flags.global ≡ true → IsRangeFromIndexOn p us (search_index p last) m → next ≡ index_after_match p us m
      → length us + 3 - next < length us + 3 - last
  turn-smaller last next m global s n =
      let behind : character_start p.flags.unicode us last ≤ m.range.0 = subst (λ i. character_start p.flags.unicode us i ≤ m.range.0) (global-index p last global) s.behind in
      let rises = next-rises p.flags.unicode us last m.range.0 m.range.1 behind s.fits.whole.0 s.whole in
      let near = start-near p.flags.unicode us last in
      omega (arith, rises, near, behind, s.fits.whole, n)

  -- ---- Positions of the matches

  module _ (small : AreU16Units us) where
    pub found-stands : (last : ℕ) (m : Answer) → found p us last ≡ Some m → IsRangeFromIndexOn p us (search_index p last) m
    found-stands last m e = by p.flags.sticky e
      where
        by : (b : Bool) → (if b then match_beginning_at_index p us (search_index p last) else first_match p us (search_index p last)) ≡ Some m → IsRangeFromIndexOn p us (search_index p last) m
        by true e = here-stands p us (search_index p last) small m e
        by false e = first-stands p us (search_index p last) small m e

    -- The result of a call.
    pub found-stands-ok : {E : Type 0} (last : ℕ) (r : Result (Option Match) E) → IfOk r (λ m. option_map answer_of m ≡ found p us last)
        → IfOk r (λ m. IfSome m (λ f. IsRangeFromIndexOn p us (search_index p last) (answer_of f)))
    found-stands-ok last r h = IfOk-weaker r _ _ of h
      where
        of : (m : Option Match) → option_map answer_of m ≡ found p us last → IfSome m (λ f. IsRangeFromIndexOn p us (search_index p last) (answer_of f))
        of None e = tt
        of (Some f) e = found-stands last (answer_of f) (sym e)

    stand-in-turn : p.flags.global ≡ true → (ms : List Answer) (last from : ℕ) → from ≤ character_start p.flags.unicode us last → from ≤ length us
        → AreSuccessiveSearchResults p us last ms → AreRangesInOrderFrom us from ms
    stand-in-turn global [] last from le inside h = inside
    stand-in-turn global (m ∷ ms) last from le inside h =
        let s = found-stands last m h.0 in
        let behind : character_start p.flags.unicode us last ≤ m.range.0 = subst (λ i. character_start p.flags.unicode us i ≤ m.range.0) (global-index p last global) s.behind in (
          omega (arith, le, behind),
          s.fits,
          stand-in-turn global ms (index_after_match p us m) m.range.1 (next-behind p.flags.unicode us m.range.0 m.range.1 s.whole) s.fits.whole.1 h.1,
        )

    -- The matches that are taken are in the text, in ascending order.
    pub taken-stand : (last : ℕ) (ms : List Answer) → AreMatchesOfCall p us 0 last ms → AreRangesInOrderFrom us 0 ms
    taken-stand last ms h = by p.flags.global refl h
      where
        one : (m : Option Answer) → found p us last ≡ m → AreRangesInOrderFrom us 0 (option_to_list m)
        one None e = omega arith
        one (Some m) e = let s = found-stands last m e in (omega arith, s.fits, s.fits.whole.1)

        by : (b : Bool) → p.flags.global ≡ b → MatchBool b (AreSuccessiveSearchResults p us 0 ms) (ms ≡ option_to_list (found p us last)) → AreRangesInOrderFrom us 0 ms
        by true e h = stand-in-turn e ms 0 0 (omega arith) (omega arith) h
        by false e h = subst (AreRangesInOrderFrom us 0) (sym h) (one (found p us last) refl)

  -- ---- By the flag

  abbrev taken_by : (first last : ℕ) → List Answer → Bool → Type 0
  taken_by first last ms b = MatchBool b (AreSuccessiveSearchResults p us first ms) (ms ≡ option_to_list (found p us last))

  pub taken-all : (first last : ℕ) (ms : List Answer) → p.flags.global ≡ true → AreSuccessiveSearchResults p us first ms → AreMatchesOfCall p us first last ms
  taken-all first last ms e h = subst (taken_by first last ms) (sym e) h

  pub taken-one : (first last : ℕ) (ms : List Answer) → p.flags.global ≡ false → ms ≡ option_to_list (found p us last) → AreMatchesOfCall p us first last ms
  taken-one first last ms e h = subst (taken_by first last ms) (sym e) h

  -- ---- `lastIndex` after the matches

  pub taken-last : (last : ℕ) (ms : List Answer) → AreMatchesOfCall p us 0 last ms
      → (if p.flags.global then 0 else last_index_after_search p last (slice_get ms 0)) ≡ last_index_after_matches p us last
  taken-last last ms h = by p.flags.global h
    where
      first : (m : Option Answer) → slice_get (option_to_list m) 0 ≡ m
      first None = refl
      first (Some m) = refl

      by : (b : Bool) → MatchBool b (AreSuccessiveSearchResults p us 0 ms) (ms ≡ option_to_list (found p us last))
          → (if b then 0 else last_index_after_search p last (slice_get ms 0)) ≡ (if b then 0 else last_index_after_search p last (found p us last))
      by true h = refl
      by false h = ap (last_index_after_search p last) (ap (λ ms. slice_get ms 0) h ∙ first (found p us last))
