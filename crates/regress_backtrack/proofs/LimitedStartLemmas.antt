-- If steps are counted, the search tries the starts that the start predicate accepts, and skips no match.
use Rattle.std.proofs.Common.{◌≡◌, ℕ, zero, suc, ◌+◌, ◌-◌, ◌<◌, ◌≤◌, List, [], ◌∷◌, Option, Some, None, Bool, true, false, refl, ap, sym, ◌∙◌, subst, arith, inl, inr, drop, slice_get}
use Rattle.std.proofs.lemmas.Bool.{cases_lt, le-leb}
use Rattle.std.specs.Prelude.{if◌then◌else◌, nat_eq, filter, option_map, option_and_then, unwrap_or, IfSome, IsTrue, encode_utf8_all}
use Rattle.std.specs.List.{list_all, starts_with}
use Rattle.regex_meaning.specs.NumberListHelpers.{contains, numbers_from}
use Rattle.regex_meaning.specs.Tree.{Tree}
use Rattle.regex_meaning.specs.Text.{Text, rightwards, last_place, is_scalar}
use Rattle.regex_meaning.specs.CodeUnitOffsets.{HasRisingPlaceOffsets, IsBoundary, offset, read, units}
use Rattle.regex_meaning.specs.StartPredicate.{StartPredicate, start_arbitrary, start_byte_set, start_byte_sequence, start_anchored, start_predicate, may_start, first_byte_is_one_of}
use Rattle.regex_meaning.specs.StartPredicate.{utf8_bytes_of_text_from_place}
use Rattle.regex_meaning.specs.OutcomesWithStepTicks.{tried_places}
use Rattle.regex_meaning.specs.CodeUnits.{Encoding, utf8, utf16, ucs2, is_character_in_encoding}
use Rattle.regex_meaning.specs.WellFormedTrees.{is_well_formed}
use Rattle.regex_meaning.proofs.CodeUnitOffsetsLemmas.{IsBoundary-place, offset-IsBoundary, place_at-offset}
use Rattle.regress_input.specs.CharAndByteReadsFromOffset.{end_if_matched, past_numbers_if_next, place, read_if_units_are_bytes, is_byte_encoding, IsEncodedInUtf8}
use Rattle.regress_machine.specs.TextsForBytePrograms.{HasUtf8CharactersAndOffsets}
use Rattle.regress_machine.proofs.AdjacentCharacterBytes.{bytes_near-side, offset-inside}
use Rattle.regress_program.specs.StartPredicates.{is_anchored_predicate}
use Rattle.regress_program.proofs.StartPredicatesLemmas.{anchored-predicate}
use Rattle.regress_search.specs.AttemptsAndStarts.{NextStartSkipsNoMatch, NoMatchAt, offset_of_first_place, first_filtered_start, next_filtered_start, filtered_start_after}
use Rattle.regress_search.proofs.SkippedStartLemmas.{skips-compose, untried}
use Rattle.regress_search.proofs.FirstMatchLemmas.{read-inside, read-end}
use Rattle.regress_search.proofs.StartPredicateLemmas.{ruled-out, anchored-behind, one-on}
use Rattle.regress_search.proofs.TextReadLemmas.{literal-read}
use Rattle.regress_machine.specs.Machine.{State, go_if, occurs_beside_offset}
use Rattle.regress_machine.proofs.FirstUnitsOfCharacters.{slice_get-drop}
use Rattle.regress_backtrack.proofs.CandidateStartLemmas.{next-one}
use Rattle.regress_backtrack.specs.LimitedStarts.{admits_start, IsFirstTriedStart, IsTriedStartAfterFailure}

-- ---- The text at a place

-- The byte at the prefix, if there is one, is in the set.
abbrev pub is_member : (members : List ℕ) → Option ℕ → Bool
is_member members None = false
is_member members (Some b) = contains members b

begins-first : (members bytes : List ℕ) → first_byte_is_one_of members bytes ≡ is_member members (slice_get bytes 0)
begins-first members [] = refl
begins-first members (b ∷ bytes) = refl

-- Threads that continue alike continue under the same condition.
same-go : (a b : Bool) (x y : State) → go_if a x ≡ go_if b y → a ≡ b
same-go true true x y e = refl
same-go false false x y e = refl
same-go true false x y e = cc
same-go false true x y e = cc

module _ (text : Text) (is : HasRisingPlaceOffsets text) (reads : HasUtf8CharactersAndOffsets text) where
  -- The place of a boundary has the boundary's offset and lies in the text.
  place-of : (at : ℕ) → IsBoundary text at → (offset text (place text at) ≡ at) × (place text at ≤ last_place text)
  place-of at on =
      let p = IsBoundary-place text at is on in
      let same : p.0 ≡ place text at = sym (ap (λ o. unwrap_or o 0) p.1) in
      (ap (offset text) (sym same) ∙ p.2, subst (λ q. q ≤ last_place text) same p.3)

  -- The bytes from a boundary on are the bytes of the text from its place.
  pub bytes-there : (at : ℕ) → IsBoundary text at → drop at (encode_utf8_all text.characters) ≡ utf8_bytes_of_text_from_place text (place text at)
  bytes-there at on =
      let p = place-of at on in
      ap (λ n. drop n (encode_utf8_all text.characters)) (sym p.0) ∙ bytes_near-side text reads rightwards (place text at) p.1

  pub begins-there : (members : List ℕ) (at : ℕ) → IsBoundary text at → is_member members (slice_get (encode_utf8_all text.characters) at) ≡ first_byte_is_one_of members (utf8_bytes_of_text_from_place text (place text at))
  begins-there members at on =
      ap (is_member members) (slice_get-drop at (encode_utf8_all text.characters) ∙ ap (λ (l : List ℕ). slice_get l 0) (bytes-there at on))
      ∙ sym (begins-first members (utf8_bytes_of_text_from_place text (place text at)))

  pub sequence-there : (bytes : List ℕ) (at : ℕ) (found : Bool) (to : ℕ) → IsBoundary text at → end_if_matched found to ≡ past_numbers_if_next (encode_utf8_all text.characters) bytes rightwards at
      → found ≡ starts_with nat_eq (utf8_bytes_of_text_from_place text (place text at)) bytes
  sequence-there bytes at found to on led =
      let p = place-of at on in
      let inside = offset-inside text reads (place text at) p.1 in
      let s : State = record { ip = 0; pos = at; groups = []; starts = []; loops = [] } in
      same-go found (occurs_beside_offset (encode_utf8_all text.characters) rightwards bytes at) _ _ (literal-read text bytes rightwards s found to (let e = p.0 in omega (arith, inside, e)) led)
      ∙ ap (λ (l : List ℕ). starts_with nat_eq l bytes) (bytes-there at on)

  -- The same holds for a byte that is read where code units are bytes.
  pub begins-read : (are_bytes : Bool) → IsTrue are_bytes → (members : List ℕ) (at : ℕ) → IsBoundary text at → (byte : Option ℕ)
      → byte ≡ read_if_units_are_bytes are_bytes (slice_get (encode_utf8_all text.characters) at) → is_member members byte ≡ first_byte_is_one_of members (utf8_bytes_of_text_from_place text (place text at))
  begins-read true sure members at on byte e = ap (is_member members) e ∙ begins-there members at on
  begins-read false sure members at on byte e = cc

  pub sequence-read : (are_bytes : Bool) → IsTrue are_bytes → (bytes : List ℕ) (at : ℕ) (found : Bool) (to : ℕ) → IsBoundary text at
      → end_if_matched found to ≡ read_if_units_are_bytes are_bytes (past_numbers_if_next (encode_utf8_all text.characters) bytes rightwards at) → found ≡ starts_with nat_eq (utf8_bytes_of_text_from_place text (place text at)) bytes
  sequence-read true sure bytes at found to on led = sequence-there bytes at found to on led
  sequence-read false sure bytes at found to on led = cc

-- A text whose code units are bytes has UTF-8 offsets.
pub reads-bytes : (e : Encoding) (are_bytes : Bool) (text : Text) → are_bytes ≡ is_byte_encoding e → IsTrue are_bytes → IsTrue (list_all (is_character_in_encoding e) text.characters)
    → (IsTrue are_bytes → IsEncodedInUtf8 text) → HasUtf8CharactersAndOffsets text
reads-bytes utf8 are_bytes text by sure characters spelled = record { scalars = characters; offsets = (spelled sure).offsets }
reads-bytes utf16 are_bytes text by sure characters spelled = cc
reads-bytes ucs2 are_bytes text by sure characters spelled = cc

-- The test of the byte read at a boundary is the test of the text's first byte there.
pub begins-here : (e : Encoding) {are_bytes : Bool} {text : Text} → are_bytes ≡ is_byte_encoding e → IsTrue are_bytes → IsTrue (list_all (is_character_in_encoding e) text.characters)
    → (IsTrue are_bytes → IsEncodedInUtf8 text) → HasRisingPlaceOffsets text → (members : List ℕ) (at : ℕ) → IsBoundary text at → (byte : Option ℕ)
    → byte ≡ read_if_units_are_bytes are_bytes (slice_get (encode_utf8_all text.characters) at) → is_member members byte ≡ first_byte_is_one_of members (utf8_bytes_of_text_from_place text (place text at))
begins-here e {are_bytes = are} {text = text} by sure characters spelled is =
    begins-read text is (reads-bytes e are text by sure characters spelled) are sure

-- ---- The loop over starts

pub and-then-mapped : {X Y : Type 0} (f : X → ℕ) (h : Y → ℕ) (k : ℕ → Option ℕ) (x : Option X) (y : Option Y) → option_map f x ≡ option_map h y
    → option_and_then (λ x. k (f x)) x ≡ option_and_then (λ y. k (h y)) y
and-then-mapped f h k None None e = refl
and-then-mapped f h k (Some x) (Some y) e = let same : f x ≡ h y = cc in ap k same
and-then-mapped f h k None (Some y) e = cc
and-then-mapped f h k (Some x) None e = cc

-- Fewer places are left after one is tried.
pub fewer : {P : Type 0} (offset : P → ℕ) (text : Text) (at : ℕ) (next : Option P) → at ≤ units text → IfSome next (λ p. at < offset p) → IfSome next (λ p. offset p ≤ units text)
    → untried text (option_map offset next) < untried text (Some at)
fewer offset text at None inside ahead within = omega (arith, inside)
fewer offset text at (Some p) inside ahead within = omega (arith, inside, ahead, within)

behind-anchored : (s : StartPredicate) (tree : Tree) (text : Text) (at : ℕ) → is_anchored_predicate s ≡ true → filtered_start_after s tree text at ≡ None
behind-anchored start_arbitrary tree text at e = cc
behind-anchored (start_byte_set members) tree text at e = cc
behind-anchored (start_byte_sequence bytes) tree text at e = cc
behind-anchored start_anchored tree text at e = refl

behind-open : (s : StartPredicate) (tree : Tree) (text : Text) (at : ℕ) → is_anchored_predicate s ≡ false
    → filtered_start_after s tree text at ≡ option_and_then (λ (r : ℕ × ℕ). first_filtered_start tree text r.1) (read text rightwards at)
behind-open start_arbitrary tree text at e = refl
behind-open (start_byte_set members) tree text at e = refl
behind-open (start_byte_sequence bytes) tree text at e = refl
behind-open start_anchored tree text at e = cc

-- ---- The first start to try

module _ (tree : Tree) (text : Text) (is : HasRisingPlaceOffsets text) where
  abbrev among : StartPredicate → (n p : ℕ) → List ℕ
  among s n p = filter (may_start s text) (numbers_from p n)

  -- The tried places are those that the predicate accepts.
  record GoesBy (s : StartPredicate) : Type 0 where
    is_the : start_predicate tree ≡ s
    places : (q : ℕ) → tried_places tree text s q ≡ filter (may_start s text) (numbers_from q (last_place text + 1 - q))

  first-from : (s : StartPredicate) → GoesBy s → (n p : ℕ) → p ≤ last_place text → p + n ≡ last_place text + 1 → first_filtered_start tree text (offset text p) ≡ offset_of_first_place text (among s n p)
  first-from s by n p inside whole =
      let m : last_place text + 1 - p ≡ n = omega (arith, whole) in
      ap (option_and_then (λ place. offset_of_first_place text (tried_places tree text (start_predicate tree) place))) (place_at-offset text p is inside)
      ∙ ap (λ (s : StartPredicate). offset_of_first_place text (tried_places tree text s p)) by.is_the
      ∙ ap (offset_of_first_place text) (by.places p)
      ∙ ap (λ m. offset_of_first_place text (among s m p)) m

  prefix : (s : StartPredicate) (n p : ℕ) (b : Bool) → may_start s text p ≡ b → among s (suc n) p ≡ (if b then p ∷ among s n (p + 1) else among s n (p + 1))
  prefix s n p b e = ap (λ b. if b then p ∷ among s n (p + 1) else among s n (p + 1)) e

  here-open : (s : StartPredicate) → GoesBy s → (p : ℕ) → p ≤ last_place text → may_start s text p ≡ true → first_filtered_start tree text (offset text p) ≡ Some (offset text p)
  here-open s by p inside e =
      first-from s by (suc (last_place text - p)) p inside (omega (arith, inside))
      ∙ ap (offset_of_first_place text) (prefix s (last_place text - p) p true e)

  on-open : (s : StartPredicate) → GoesBy s → (p : ℕ) → p ≤ last_place text → may_start s text p ≡ false
      → first_filtered_start tree text (offset text p) ≡ option_and_then (λ (r : ℕ × ℕ). first_filtered_start tree text r.1) (read text rightwards (offset text p))
  on-open s by p inside e = cases (last_place text - p) refl
    where
      cases : (n : ℕ) → last_place text - p ≡ n → first_filtered_start tree text (offset text p) ≡ option_and_then (λ (r : ℕ × ℕ). first_filtered_start tree text r.1) (read text rightwards (offset text p))
      cases zero left =
          first-from s by (suc zero) p inside (omega (arith, inside, left))
          ∙ ap (offset_of_first_place text) (prefix s zero p false e)
          ∙ ap (option_and_then (λ (r : ℕ × ℕ). first_filtered_start tree text r.1)) (sym (read-end tree text is p inside (omega (arith, left))))
      cases (suc n) left =
          first-from s by (suc (suc n)) p inside (omega (arith, inside, left))
          ∙ ap (offset_of_first_place text) (prefix s (suc n) p false e)
          ∙ sym (first-from s by (suc n) (p + 1) (omega (arith, left)) (omega (arith, inside, left)))
          ∙ ap (option_and_then (λ (r : ℕ × ℕ). first_filtered_start tree text r.1)) (sym (read-inside tree text is p (omega (arith, left))).1)

  first-anchored : start_predicate tree ≡ start_anchored → (p : ℕ) → p ≤ last_place text → first_filtered_start tree text (offset text p) ≡ Some (offset text p)
  first-anchored e p inside =
      ap (option_and_then (λ place. offset_of_first_place text (tried_places tree text (start_predicate tree) place))) (place_at-offset text p is inside)
      ∙ ap (λ (s : StartPredicate). offset_of_first_place text (tried_places tree text s p)) e
      ∙ ap (λ b. offset_of_first_place text (if b then p ∷ [] else [])) (le-leb p (last_place text) inside)

  -- A place that the predicate accepts is tried.
  here : (s : StartPredicate) → start_predicate tree ≡ s → (p : ℕ) → p ≤ last_place text → admits_start s text p ≡ true → first_filtered_start tree text (offset text p) ≡ Some (offset text p)
  here start_arbitrary e p inside h = here-open start_arbitrary (record { is_the = e; places = λ q. refl }) p inside h
  here (start_byte_set members) e p inside h = here-open (start_byte_set members) (record { is_the = e; places = λ q. refl }) p inside h
  here (start_byte_sequence bytes) e p inside h = here-open (start_byte_sequence bytes) (record { is_the = e; places = λ q. refl }) p inside h
  here start_anchored e p inside h = first-anchored e p inside

  -- A place that it rejects is skipped, and the search goes on at the next character.
  on : (s : StartPredicate) → start_predicate tree ≡ s → (p : ℕ) → p ≤ last_place text → admits_start s text p ≡ false
      → first_filtered_start tree text (offset text p) ≡ option_and_then (λ (r : ℕ × ℕ). first_filtered_start tree text r.1) (read text rightwards (offset text p))
  on start_arbitrary e p inside h = on-open start_arbitrary (record { is_the = e; places = λ q. refl }) p inside h
  on (start_byte_set members) e p inside h = on-open (start_byte_set members) (record { is_the = e; places = λ q. refl }) p inside h
  on (start_byte_sequence bytes) e p inside h = on-open (start_byte_sequence bytes) (record { is_the = e; places = λ q. refl }) p inside h
  on start_anchored e p inside h = cc

  -- The same holds at offsets.
  pub tried-here : (s : StartPredicate) → start_predicate tree ≡ s → (at : ℕ) → IsBoundary text at → admits_start s text (place text at) ≡ true → first_filtered_start tree text at ≡ Some at
  tried-here s e at b h =
      let p = IsBoundary-place text at is b in
      let same : place text at ≡ p.0 = ap (λ o. unwrap_or o 0) p.1 in
      subst (λ a. first_filtered_start tree text a ≡ Some a) p.2 (here s e p.0 p.3 (ap (admits_start s text) (sym same) ∙ h))

  pub tried-on : (s : StartPredicate) → start_predicate tree ≡ s → (at : ℕ) → IsBoundary text at → admits_start s text (place text at) ≡ false
      → first_filtered_start tree text at ≡ option_and_then (λ (r : ℕ × ℕ). first_filtered_start tree text r.1) (read text rightwards at)
  tried-on s e at b h =
      let p = IsBoundary-place text at is b in
      let same : place text at ≡ p.0 = ap (λ o. unwrap_or o 0) p.1 in
      subst (λ a. first_filtered_start tree text a ≡ option_and_then (λ (r : ℕ × ℕ). first_filtered_start tree text r.1) (read text rightwards a)) p.2 (on s e p.0 p.3 (ap (admits_start s text) (sym same) ∙ h))

  -- ---- No match begins at a place that is skipped

  module _ (well_formed : IsTrue (is_well_formed tree.root)) (scalars : IsTrue (list_all is_scalar text.characters)) where
    not-let : (s : StartPredicate) → start_predicate tree ≡ s → (p : ℕ) → admits_start s text p ≡ false → IsTrue (may_start (start_predicate tree) text p) → ⊥
    not-let start_arbitrary e p h may = let m : may_start start_arbitrary text p ≡ true = subst (λ s. may_start s text p ≡ true) e may in cc
    not-let (start_byte_set members) e p h may = let m : may_start (start_byte_set members) text p ≡ true = subst (λ s. may_start s text p ≡ true) e may in cc
    not-let (start_byte_sequence bytes) e p h may = let m : may_start (start_byte_sequence bytes) text p ≡ true = subst (λ s. may_start s text p ≡ true) e may in cc
    not-let start_anchored e p h may = cc

    vain-there : (p : ℕ) → p ≤ last_place text → admits_start (start_predicate tree) text p ≡ false → NoMatchAt tree text (offset text p)
    vain-there p inside h = ruled-out tree text is well_formed scalars (offset text p) p (place_at-offset text p is inside) inside (not-let (start_predicate tree) refl p h)

    let-through : (p : ℕ) → p ≤ last_place text → admits_start (start_predicate tree) text p ≡ true → NextStartSkipsNoMatch tree text (offset text p) (first_filtered_start tree text (offset text p))
    let-through p inside h = subst (NextStartSkipsNoMatch tree text (offset text p)) (sym (here (start_predicate tree) refl p inside h)) (
      offset-IsBoundary text p is inside,
      omega arith,
      λ x boundary le less. absurd (omega (arith, le, less)),
    )

    left-out-last : (p : ℕ) → p ≤ last_place text → last_place text ≤ p → admits_start (start_predicate tree) text p ≡ false
        → NextStartSkipsNoMatch tree text (offset text p) (first_filtered_start tree text (offset text p))
    left-out-last p inside past h =
        let end = read-end tree text is p inside past in
        let none : first_filtered_start tree text (offset text p) ≡ None = on (start_predicate tree) refl p inside h ∙ ap (option_and_then (λ (r : ℕ × ℕ). first_filtered_start tree text r.1)) end in
        let behind : NextStartSkipsNoMatch tree text (offset text p + 1) None =
        subst (λ o. NextStartSkipsNoMatch tree text (offset text p + 1) (option_map (λ (r : ℕ × ℕ). r.1) o)) end (one-on tree text is (offset text p) (offset-IsBoundary text p is inside)) in
        subst (NextStartSkipsNoMatch tree text (offset text p)) (sym none) (next-one tree text (offset text p) None (vain-there p inside h) behind)

    left-out : (p : ℕ) → p < last_place text → admits_start (start_predicate tree) text p ≡ false
        → NextStartSkipsNoMatch tree text (offset text (p + 1)) (first_filtered_start tree text (offset text (p + 1))) → NextStartSkipsNoMatch tree text (offset text p) (first_filtered_start tree text (offset text p))
    left-out p less h later =
        let inside : p ≤ last_place text = omega (arith, less) in
        let next = read-inside tree text is p less in
        let same : first_filtered_start tree text (offset text p) ≡ first_filtered_start tree text (offset text (p + 1)) =
        on (start_predicate tree) refl p inside h ∙ ap (option_and_then (λ (r : ℕ × ℕ). first_filtered_start tree text r.1)) next.1 in
        let step : NextStartSkipsNoMatch tree text (offset text p + 1) (Some (offset text (p + 1))) =
        subst (λ o. NextStartSkipsNoMatch tree text (offset text p + 1) (option_map (λ (r : ℕ × ℕ). r.1) o)) next.1 (one-on tree text is (offset text p) (offset-IsBoundary text p is inside)) in
        subst (NextStartSkipsNoMatch tree text (offset text p)) (sym same)
        (next-one tree text (offset text p) (first_filtered_start tree text (offset text (p + 1))) (vain-there p inside h)
        (skips-compose tree text (offset text p + 1) (offset text (p + 1)) (first_filtered_start tree text (offset text (p + 1))) step later))

    by-cases : {X : Type 0} (b : Bool) → (b ≡ true → X) → (b ≡ false → X) → X
    by-cases true f g = f refl
    by-cases false f g = g refl

    next-from : (n p : ℕ) → p + n ≡ last_place text → NextStartSkipsNoMatch tree text (offset text p) (first_filtered_start tree text (offset text p))
    next-from zero p whole = by-cases (admits_start (start_predicate tree) text p) (let-through p (omega (arith, whole))) (left-out-last p (omega (arith, whole)) (omega (arith, whole)))
    next-from (suc n) p whole =
        by-cases (admits_start (start_predicate tree) text p) (let-through p (omega (arith, whole)))
        (λ h. left-out p (omega (arith, whole)) h (next-from n (p + 1) (omega (arith, whole))))

    pub tried-is_next : (at : ℕ) → IsBoundary text at → NextStartSkipsNoMatch tree text at (first_filtered_start tree text at)
    tried-is_next at b =
        let p = IsBoundary-place text at is b in
        let inside = p.3 in
        subst (λ a. NextStartSkipsNoMatch tree text a (first_filtered_start tree text a)) p.2 (next-from (last_place text - p.0) p.0 (omega (arith, inside)))

    pub behind-is_next : (at : ℕ) → IsBoundary text at → NextStartSkipsNoMatch tree text (at + 1) (next_filtered_start tree text at)
    behind-is_next at b = by (start_predicate tree) refl
      where
        after : (r : Option (ℕ × ℕ)) → read text rightwards at ≡ r → NextStartSkipsNoMatch tree text (at + 1) (option_and_then (λ (r : ℕ × ℕ). first_filtered_start tree text r.1) r)
        after None q = subst (λ o. NextStartSkipsNoMatch tree text (at + 1) (option_map (λ (r : ℕ × ℕ). r.1) o)) q (one-on tree text is at b)
        after (Some r) q =
            let step : NextStartSkipsNoMatch tree text (at + 1) (Some r.1) = subst (λ o. NextStartSkipsNoMatch tree text (at + 1) (option_map (λ (r : ℕ × ℕ). r.1) o)) q (one-on tree text is at b) in
            skips-compose tree text (at + 1) r.1 (first_filtered_start tree text r.1) step (tried-is_next r.1 step.0)

        open-by : (s : StartPredicate) → start_predicate tree ≡ s → filtered_start_after s tree text at ≡ option_and_then (λ (r : ℕ × ℕ). first_filtered_start tree text r.1) (read text rightwards at)
            → NextStartSkipsNoMatch tree text (at + 1) (next_filtered_start tree text at)
        open-by s e q = subst (NextStartSkipsNoMatch tree text (at + 1)) (sym (ap (λ s. filtered_start_after s tree text at) e ∙ q)) (after (read text rightwards at) refl)

        by : (s : StartPredicate) → start_predicate tree ≡ s → NextStartSkipsNoMatch tree text (at + 1) (next_filtered_start tree text at)
        by start_arbitrary e = open-by start_arbitrary e refl
        by (start_byte_set members) e = open-by (start_byte_set members) e refl
        by (start_byte_sequence bytes) e = open-by (start_byte_sequence bytes) e refl
        by start_anchored e = subst (NextStartSkipsNoMatch tree text (at + 1)) (sym (ap (λ s. filtered_start_after s tree text at) e)) (anchored-behind tree text is (sym (anchored-predicate tree) ∙ ap is_anchored_predicate e) at)

module _ (s : StartPredicate) (text : Text) (is : HasRisingPlaceOffsets text) (scalars : IsTrue (list_all is_scalar text.characters)) where
  -- The first start that the predicate lets through is the first one tried.
  pub is-first : (from : ℕ) (next : Option ℕ) → IsBoundary text from → ((tree : Tree) → start_predicate tree ≡ s → next ≡ first_filtered_start tree text from) → IsFirstTriedStart s text from next
  is-first from next b e = λ tree p. record {
    counted = e tree p;
    skips = λ w. subst (NextStartSkipsNoMatch tree text from) (sym (e tree p)) (tried-is_next tree text is w scalars from b);
  }

  is-next : (at : ℕ) (next : Option ℕ) → IsBoundary text at → ((tree : Tree) → start_predicate tree ≡ s → next ≡ next_filtered_start tree text at) → IsTriedStartAfterFailure s text at next
  is-next at next b e = λ tree p. record {
    counted = e tree p;
    skips = λ w. subst (NextStartSkipsNoMatch tree text (at + 1)) (sym (e tree p)) (behind-is_next tree text is w scalars at b);
  }

  -- With an anchored predicate no place is tried after the first.
  pub next-anchored : (at : ℕ) → IsBoundary text at → is_anchored_predicate s ≡ true → IsTriedStartAfterFailure s text at None
  next-anchored at b e = is-next at None b (λ tree p. sym (ap (λ s. filtered_start_after s tree text at) p ∙ behind-anchored s tree text at e))

  -- No place is tried after the right end of the text.
  pub next-none : (at : ℕ) → IsBoundary text at → is_anchored_predicate s ≡ false → option_map (λ (r : ℕ × ℕ). r.1) (read text rightwards at) ≡ None → IsTriedStartAfterFailure s text at None
  next-none at b e end = is-next at None b (λ tree p.
      sym (ap (λ s. filtered_start_after s tree text at) p ∙ behind-open s tree text at e ∙ sym (and-then-mapped (λ (n : ℕ). n) (λ (r : ℕ × ℕ). r.1) (first_filtered_start tree text) None (read text rightwards at) (sym end))))

  -- Otherwise the next start is the first one from the next character onwards.
  pub next-open : (at to : ℕ) (next : Option ℕ) → IsBoundary text at → is_anchored_predicate s ≡ false → option_map (λ (r : ℕ × ℕ). r.1) (read text rightwards at) ≡ Some to → IsFirstTriedStart s text to next
      → IsTriedStartAfterFailure s text at next
  next-open at to next b e on first = is-next at next b (λ tree p.
      (first tree p).counted
      ∙ sym (ap (λ s. filtered_start_after s tree text at) p ∙ behind-open s tree text at e ∙ sym (and-then-mapped (λ (n : ℕ). n) (λ (r : ℕ × ℕ). r.1) (first_filtered_start tree text) (Some to) (read text rightwards at) (sym on))))
