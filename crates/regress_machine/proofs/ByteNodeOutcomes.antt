-- The code of a byte sequence or a byte set finds the outcomes of that node.
use Rattle.std.proofs.Common.{◌≡◌, ℕ, zero, suc, ◌+◌, ◌-◌, ◌<◌, ◌≤◌, List, [], ◌∷◌, ◌++◌, length, map, take, drop, Some, Bool, true, false, refl, ap, ap₂, ◌∙◌, sym, subst, arith, slice_get, reverse}
use Rattle.std.proofs.Common.{length-drop}
use Rattle.std.specs.Prelude.{if◌then◌else◌, ◌&&◌, nat_le, nat_lt, nat_eq, encode_utf8_all, chars}
use Rattle.std.specs.Str.{is_utf8}
use lib.Pointwise.{pointwise}
use lib.Utf8.{scalar, scalars}
use Rattle.std.proofs.lemmas.List.{reverse-append, length-reverse, take-append-drop, length-take-le, drop-drop}
use Rattle.std.proofs.Math.Seq.{drop-append_seam}
use Rattle.regex_meaning.specs.NumberListHelpers.{contains}
use Rattle.regex_meaning.specs.Laws.{IsAtOrAheadInDirection}
use Rattle.regex_meaning.specs.Tree.{byte_set, byte_sequence}
use Rattle.regex_meaning.specs.Text.{Text, Direction, rightwards, leftwards, last_place, next_character, moved, characters_ahead}
use Rattle.regex_meaning.specs.CodeUnitOffsets.{HasRisingPlaceOffsets, offset}
use Rattle.regex_meaning.specs.Outcomes.{Groups, Outcome, is_some_and, spelled, outcomes}
use Rattle.regex_meaning.specs.WellFormedTrees.{has_text_in_sequence, set_sizes_and_characters_fit_instructions}
use Rattle.regex_meaning.specs.OutcomesWithStepTicks.{TickOrOutcome, tick, pair, ticks, outcomes_replaced_by_lists, nearest_first, compared_chunks, compared_chunk_count, ticked}
use Rattle.regex_meaning.specs.CompilationRelation.{Program, Counters, counters_after_insn, HasInsnsBetween, IsCode, ByteSeq, reversed_if_in_lookbehind, chunks}
use Rattle.regex_meaning.proofs.FirstByteOfCharacter.{encode-1}
use Rattle.regress_machine.specs.Machine.{LoopData, State, running, go_if, occurs_beside_offset, offset_moved_in_direction, act}
use Rattle.regress_machine.specs.TextsForBytePrograms.{HasUtf8CharactersAndOffsets}
use Rattle.regress_machine.proofs.ThreadYieldLemmas.{Ending, Yields, yields_none, yields_same, yields_turn}
use Rattle.regress_machine.proofs.UnchangedGroupsAndLoops.{kept_itself}
use Rattle.regress_machine.proofs.NodeCodeOutcomes.{and_then-ticks, direction_at, over, state_at, Finds, Rising, act_at, inside_by, leaf_yields}
use Rattle.regress_machine.proofs.SingleCharacterOutcomes.{one_items, none_finds, byte_pair_finds, insns_rising}
use Rattle.regress_machine.proofs.NearestCharacterLemmas.{Beside, nothing_left, one_more, beside, length-nearest, halves-reversed}
use Rattle.regress_machine.proofs.SingleCharacterTests.{low_scalar, scalar_of, utf8_text_of}
use Rattle.regress_machine.proofs.CharLoopOutcomes.{reached_behind}
use Rattle.regress_machine.proofs.AdjacentCharacterLemmas.{stands, stands-length, in_reading_order, length-reading, beside-stands}
use Rattle.regress_machine.proofs.StringSetOutcomes.{items_if, items_if-pair, tried_more, same_number}
use Rattle.regress_machine.proofs.ByteSequenceChunks.{chunks_stand, chunks_stand-concat, total, in_code_order, chunks_read, chunks_read-cons, concat-chunks, total-chunks}
use Rattle.regress_machine.proofs.AdjacentCharacterBytes.{starts-stands, scalars_of, bytes-stand, side, nearest-side, scalars-side, bytes, bytes_near, bytes_near-side, offset-inside, offset-moved}
use Rattle.std.proofs.Math.Bool.{and-true}
use Rattle.std.proofs.lemmas.Bool.{and_from, ltb-true}
use Rattle.regex_meaning.proofs.BoolLemmas.{and-left, and-right}

-- ---- Lists

drop-reverse : (n : ℕ) (xs : List ℕ) → n ≤ length xs → drop n (reverse xs) ≡ reverse (take (length xs - n) xs)
drop-reverse n xs le =
    let k = length xs - n in
    let halves = halves-reversed n xs le in
    ap₂ drop halves.1 halves.0 ∙ drop-append_seam (reverse (drop k xs)) (reverse (take k xs))

take-less : (m n : ℕ) (xs : List ℕ) → m ≤ n → take m (take n xs) ≡ take m xs
take-less zero n xs le = refl
take-less (suc m) zero xs le = absurd (omega arith)
take-less (suc m) (suc n) [] le = refl
take-less (suc m) (suc n) (x ∷ xs) le = ap (λ (l : List ℕ). x ∷ l) (take-less m n xs (omega arith))

pub utf8_scalars : (bs : List ℕ) → is_utf8 bs ≡ true → scalars (chars bs) ≡ true
unfolding is_utf8
utf8_scalars bs u = and-left (scalars (chars bs)) (pointwise nat_eq (encode_utf8_all (chars bs)) bs) u

-- ---- Offsets

module _ (text : Text) where
  -- Behind bytes next to an offset, the nearest bytes are those that follow them.
  near-moved : (d : Direction) (bs : List ℕ) (at : ℕ) → at ≤ length (bytes text) → stands nat_eq (in_reading_order text d bs) (bytes_near text d at) ≡ true
      → (bytes_near text d (offset_moved_in_direction d (length bs) at) ≡ drop (length bs) (bytes_near text d at)) × (offset_moved_in_direction d (length bs) at ≤ length (bytes text))
  near-moved rightwards bs at inside h =
      let few = stands-length nat_eq bs (drop at (bytes text)) h in
      let left = length-drop at (bytes text) in
      (sym (drop-drop (length bs) at (bytes text)), omega (arith, few, left))
  near-moved leftwards bs at inside h =
      let few = stands-length nat_eq (reverse bs) (reverse (take at (bytes text))) h in
      let l = length-reverse bs in
      let m = length-reverse (take at (bytes text)) in
      let t = length-take-le at (bytes text) inside in
      let n = length bs in (
        ap reverse (sym (take-less (at - n) at (bytes text) (omega arith)))
            ∙ ap (λ i. reverse (take (i - n) (take at (bytes text)))) (sym t)
            ∙ sym (drop-reverse n (take at (bytes text)) (omega (arith, few, l, m, t))),
        omega arith,
      )

  offset_moved_in_direction-add : (d : Direction) (m n at : ℕ) → offset_moved_in_direction d n (offset_moved_in_direction d m at) ≡ offset_moved_in_direction d (m + n) at
  offset_moved_in_direction-add rightwards m n at = omega arith
  offset_moved_in_direction-add leftwards m n at = omega arith

  offset_moved_in_direction-zero : (d : Direction) (at : ℕ) → offset_moved_in_direction d 0 at ≡ at
  offset_moved_in_direction-zero rightwards at = omega arith
  offset_moved_in_direction-zero leftwards at = omega arith

  occurs_beside_offset-stands : (d : Direction) (bs : List ℕ) (at : ℕ) → occurs_beside_offset (bytes text) d bs at ≡ stands nat_eq (in_reading_order text d bs) (bytes_near text d at)
  occurs_beside_offset-stands rightwards bs at = starts-stands (drop at (bytes text)) bs
  occurs_beside_offset-stands leftwards bs at = starts-stands (reverse (take at (bytes text))) (reverse bs)

  compared_chunk_count-are : HasUtf8CharactersAndOffsets text → (d : Direction) (bs : List ℕ) (p : ℕ) → p ≤ last_place text
      → compared_chunk_count text bs d p ≡ compared_chunks (chunks_read d (in_code_order d (chunks bs))) (bytes_near text d (offset text p))
  compared_chunk_count-are reads rightwards bs p inside = ap (compared_chunks (chunks bs)) (sym (bytes_near-side text reads rightwards p inside))
  compared_chunk_count-are reads leftwards bs p inside = ap (compared_chunks (map reverse (reverse (chunks bs)))) (sym (bytes_near-side text reads leftwards p inside))

  -- The bytes of characters occur next to an offset exactly if the characters do.
  near-stands : HasUtf8CharactersAndOffsets text → (d : Direction) (xs : List ℕ) (p : ℕ) → p ≤ last_place text → scalars xs ≡ true
      → stands nat_eq (in_reading_order text d (encode_utf8_all xs)) (bytes_near text d (offset text p)) ≡ stands nat_eq (in_reading_order text d xs) (nearest_first text d p)
  near-stands reads d xs p inside spelt =
      ap (stands nat_eq (in_reading_order text d (encode_utf8_all xs))) (bytes_near-side text reads d p inside)
      ∙ bytes-stand text d xs (side text d p) spelt (scalars-side text d p (scalars_of text.characters reads.scalars))
      ∙ ap (stands nat_eq (in_reading_order text d xs)) (sym (nearest-side text d p))

  -- A single character occurs next to a place exactly if it is the next character.
  one_stands : (d : Direction) (b p : ℕ) → p ≤ last_place text
      → stands nat_eq (in_reading_order text d (b ∷ [])) (nearest_first text d p) ≡ is_some_and (next_character text d p) (contains (b ∷ []))
  one_stands d b p inside = ap (λ (l : List ℕ). stands nat_eq l (nearest_first text d p)) (one_read d) ∙ go (beside text d p inside)
    where
      one_read : (d : Direction) → in_reading_order text d (b ∷ []) ≡ b ∷ []
      one_read rightwards = refl
      one_read leftwards = refl

      go : Beside text d p → stands nat_eq (b ∷ []) (nearest_first text d p) ≡ is_some_and (next_character text d p) (contains (b ∷ []))
      go (nothing_left none nothing left) = ap (stands nat_eq (b ∷ [])) nothing ∙ sym (ap (λ o. is_some_and o (contains (b ∷ []))) none)
      go (one_more c is rest left within) =
          ap (stands nat_eq (b ∷ [])) rest ∙ and-true (nat_eq b c) ∙ same_number b c ∙ sym (ap (λ o. is_some_and o (contains (b ∷ []))) is)

module _ (program : Program) (text : Text) (is_text : HasRisingPlaceOffsets text) where
  module _ (d : Direction) (E : Ending) (g : Groups) (s : List ℕ) (ls : List LoopData) where
    -- ---- Chunks one after another

    -- This is the state at an offset, which may lie inside a character between two chunks.
    abbrev at_offset : (ip at : ℕ) → State
    at_offset ip at = record { ip = ip; pos = at; groups = over program text is_text g; starts = s; loops = ls }

    chunk_turn : (bs : List ℕ) (ip at : ℕ) → slice_get program.insns ip ≡ Some (ByteSeq bs)
        → act program text d (at_offset ip at) ≡ go_if (stands nat_eq (in_reading_order text d bs) (bytes_near text d at)) (at_offset (ip + 1) (offset_moved_in_direction d (length bs) at))
    chunk_turn bs ip at has =
        act_at program text is_text d (at_offset ip at) (ByteSeq bs) has
        ∙ ap (λ b. go_if b (at_offset (ip + 1) (offset_moved_in_direction d (length bs) at))) (occurs_beside_offset-stands text d bs at)

    abbrev ChunksYield : (ip end : ℕ) → List (List ℕ) → (at : ℕ) → List TickOrOutcome → Type 0
    ChunksYield ip end cs at items =
        (chunks_stand (chunks_read d cs) (bytes_near text d at) ≡ true → Yields program text d E (running (at_offset end (offset_moved_in_direction d (total cs) at)) ∷ []) items)
        → Yields program text d E (running (at_offset ip at) ∷ [])
        (ticks (compared_chunks (chunks_read d cs) (bytes_near text d at)) ++ items_if (chunks_stand (chunks_read d cs) (bytes_near text d at)) items)

    -- The items at a chunk follow from two cases: the chunk occurs at the offset, or it does not.
    by_chunk : (c : List ℕ) (cs : List (List ℕ)) (ip end at : ℕ) (items : List TickOrOutcome) → at ≤ length (bytes text) → slice_get program.insns ip ≡ Some (ByteSeq c)
        → ((q : ℕ) → q ≤ length (bytes text) → ChunksYield (ip + 1) end cs q items)
        → (chunks_stand (chunks_read d (c ∷ cs)) (bytes_near text d at) ≡ true → Yields program text d E (running (at_offset end (offset_moved_in_direction d (total (c ∷ cs)) at)) ∷ []) items)
        → (b : Bool) → stands nat_eq (in_reading_order text d c) (bytes_near text d at) ≡ b
        → Yields program text d E (running (at_offset ip at) ∷ [])
        (ticks (if b then compared_chunks (chunks_read d cs) (drop (length (in_reading_order text d c)) (bytes_near text d at)) + 1 else 1)
        ++ items_if (b && chunks_stand (chunks_read d cs) (drop (length (in_reading_order text d c)) (bytes_near text d at))) items)
    by_chunk c cs ip end at items inside has later behind true e =
        let r = in_reading_order text d c in
        let near = bytes_near text d at in
        let rest = chunks_read d cs in
        let q = offset_moved_in_direction d (length c) at in
        let on = near-moved text d c at inside e in
        let same : bytes_near text d q ≡ drop (length r) near = on.0 ∙ ap (λ n. drop n near) (sym (length-reading text d c)) in
        yields_same program text d E _ _ _
        (ap (λ (l : List ℕ). tick ∷ (ticks (compared_chunks rest l) ++ items_if (chunks_stand rest l) items)) same
        ∙ tried_more (compared_chunks rest (drop (length r) near)) (items_if (chunks_stand rest (drop (length r) near)) items))
        (yields_turn program text d E (at_offset ip at) (running (at_offset (ip + 1) q) ∷ []) (ticks (compared_chunks rest (bytes_near text d q)) ++ items_if (chunks_stand rest (bytes_near text d q)) items)
        (chunk_turn c ip at has ∙ ap (λ b. go_if b (at_offset (ip + 1) q)) e)
        (later q on.1
        (λ h. subst (λ (i : ℕ). Yields program text d E (running (at_offset end i) ∷ []) items) (sym (offset_moved_in_direction-add text d (length c) (total cs) at))
        (behind
        (ap (λ (l : List (List ℕ)). chunks_stand l near) (chunks_read-cons text d c cs)
        ∙ ap (λ b. b && chunks_stand rest (drop (length r) near)) e
        ∙ ap (chunks_stand rest) (sym same) ∙ h)))))
    by_chunk c cs ip end at items inside has later behind false e =
        yields_turn program text d E (at_offset ip at) [] []
        (chunk_turn c ip at has ∙ ap (λ b. go_if b (at_offset (ip + 1) (offset_moved_in_direction d (length c) at))) e) (yields_none program text d E)

    step_yields : (c : List ℕ) (cs : List (List ℕ)) (ip end at : ℕ) (items : List TickOrOutcome) → at ≤ length (bytes text) → slice_get program.insns ip ≡ Some (ByteSeq c)
        → ((q : ℕ) → q ≤ length (bytes text) → ChunksYield (ip + 1) end cs q items) → ChunksYield ip end (c ∷ cs) at items
    step_yields c cs ip end at items inside has later behind =
        let r = in_reading_order text d c in
        let near = bytes_near text d at in
        let rest = chunks_read d cs in
        yields_same program text d E _ _ _
        (ap (λ b. ticks (if b then compared_chunks rest (drop (length r) near) + 1 else 1) ++ items_if (stands nat_eq r near && chunks_stand rest (drop (length r) near)) items)
        (sym (starts-stands near r))
        ∙ ap (λ (l : List (List ℕ)). ticks (compared_chunks l near) ++ items_if (chunks_stand l near) items) (sym (chunks_read-cons text d c cs)))
        (by_chunk c cs ip end at items inside has later behind (stands nat_eq r near) refl)

    chunks_yield : (cs : List (List ℕ)) (m n : Counters) (at : ℕ) (items : List TickOrOutcome) → at ≤ length (bytes text) → HasInsnsBetween program (map ByteSeq cs) m n
        → ChunksYield m.insn n.insn cs at items
    chunks_yield [] m n at items inside has behind =
        yields_same program text d E _ _ _ (none_read d)
        (subst (λ (ip : ℕ). Yields program text d E (running (at_offset ip at) ∷ []) items) (sym (ap (λ (m : Counters). m.insn) has))
        (subst (λ (i : ℕ). Yields program text d E (running (at_offset n.insn i) ∷ []) items) (offset_moved_in_direction-zero text d at) (behind (all_stand d))))
      where
        all_stand : (d : Direction) → chunks_stand (chunks_read d []) (bytes_near text d at) ≡ true
        all_stand rightwards = refl
        all_stand leftwards = refl

        none_read : (d : Direction) → items ≡ ticks (compared_chunks (chunks_read d []) (bytes_near text d at)) ++ items_if (chunks_stand (chunks_read d []) (bytes_near text d at)) items
        none_read rightwards = refl
        none_read leftwards = refl
    chunks_yield (c ∷ cs) m n at items inside has behind =
        step_yields c cs m.insn n.insn at items inside has.0 (λ q within. chunks_yield cs (counters_after_insn m) n q items within has.1) behind

    -- ---- The code of a byte sequence

    sequence_yields : HasUtf8CharactersAndOffsets text → (bs : List ℕ) (m n : Counters) (p : ℕ) (k : Outcome → List TickOrOutcome) → is_utf8 bs ≡ true → p ≤ last_place text
        → HasInsnsBetween program (map ByteSeq (in_code_order d (chunks bs))) m n
        → ((q : ℕ) → IsAtOrAheadInDirection text d p q → q ≤ last_place text → Yields program text d E (running (state_at program text is_text n.insn q g s ls) ∷ []) (k (record { end = q; groups = g })))
        → Yields program text d E (running (state_at program text is_text m.insn p g s ls) ∷ [])
        (outcomes_replaced_by_lists (ticks (compared_chunk_count text bs d p) ++ map pair (spelled text nat_eq (chars bs) d p g)) k)
    sequence_yields reads bs m n p k u inside has behind =
        let xs = chars bs in
        let cs = in_code_order d (chunks bs) in
        let at = offset text p in
        let near = bytes_near text d at in
        let e = moved text d (length xs) p in
        let o : Outcome = record { end = e; groups = g } in
        let spelt = utf8_text_of bs u in
        let stand : chunks_stand (chunks_read d cs) near ≡ stands nat_eq (in_reading_order text d xs) (nearest_first text d p) =
        chunks_stand-concat (chunks_read d cs) near
        ∙ ap (λ (l : List ℕ). stands nat_eq l near) (concat-chunks text d bs)
        ∙ ap (λ (l : List ℕ). stands nat_eq (in_reading_order text d l) near) (sym spelt)
        ∙ near-stands text reads d xs p inside (utf8_scalars bs u) in
        yields_same program text d E _ _ _
        (ap (λ n. ticks n ++ items_if (chunks_stand (chunks_read d cs) near) (k o)) (sym (compared_chunk_count-are text reads d bs p inside))
        ∙ ap (λ b. ticks (compared_chunk_count text bs d p) ++ items_if b (k o)) (stand ∙ sym (beside-stands text nat_eq xs d p inside))
        ∙ ap (λ (l : List TickOrOutcome). ticks (compared_chunk_count text bs d p) ++ l) (sym (items_if-pair _ o k))
        ∙ sym (and_then-ticks (compared_chunk_count text bs d p) (map pair (spelled text nat_eq xs d p g)) k))
        (chunks_yield cs m n at (k o) (offset-inside text reads p inside) has
        (λ all.
        let h = sym stand ∙ all in
        let long = length-reading text d xs in
        let enough = stands-length nat_eq (in_reading_order text d xs) (nearest_first text d p) h in
        let left = length-nearest text d p inside in
        let few : length xs ≤ characters_ahead text d p = omega (arith, enough, left, long) in
        let onward = reached_behind program text is_text d (length xs) p g inside few in
        let within = inside_by program text is_text d p e inside onward in
        let offset_is : offset text e ≡ offset_moved_in_direction d (total cs) at =
        offset-moved text reads d xs p inside h within ∙ ap (λ (l : List ℕ). offset_moved_in_direction d (length l) at) spelt ∙ ap (λ i. offset_moved_in_direction d i at) (sym (total-chunks text d bs)) in
        subst (λ (i : ℕ). Yields program text d E (running (at_offset n.insn i) ∷ []) (k o)) offset_is (behind e onward within)))

    -- ---- The code of one byte

    byte_yields : HasUtf8CharactersAndOffsets text → (b : ℕ) (m n : Counters) (p : ℕ) (k : Outcome → List TickOrOutcome) → b < 128 → p ≤ last_place text → HasInsnsBetween program (ByteSeq (b ∷ []) ∷ []) m n
        → ((q : ℕ) → IsAtOrAheadInDirection text d p q → q ≤ last_place text → Yields program text d E (running (state_at program text is_text n.insn q g s ls) ∷ []) (k (record { end = q; groups = g })))
        → Yields program text d E (running (state_at program text is_text m.insn p g s ls) ∷ []) (outcomes_replaced_by_lists (one_items program text is_text (contains (b ∷ [])) d p g) k)
    byte_yields reads b m n p k low inside has behind =
        let at = offset text p in
        let e = moved text d 1 p in
        let o : Outcome = record { end = e; groups = g } in
        let passes = is_some_and (next_character text d p) (contains (b ∷ [])) in
        let is : encode_utf8_all (b ∷ []) ≡ b ∷ [] = ap (λ (l : List ℕ). l ++ []) (encode-1 b low) in
        let stand : stands nat_eq (in_reading_order text d (b ∷ [])) (nearest_first text d p) ≡ passes = one_stands text d b p inside in
        let turn : act program text d (at_offset m.insn at) ≡ go_if passes (at_offset (m.insn + 1) (offset_moved_in_direction d 1 at)) =
        chunk_turn (b ∷ []) m.insn at has.0
        ∙ ap (λ c. go_if c (at_offset (m.insn + 1) (offset_moved_in_direction d 1 at)))
        (ap (λ (l : List ℕ). stands nat_eq (in_reading_order text d l) (bytes_near text d at)) (sym is)
        ∙ near-stands text reads d (b ∷ []) p inside (and_from (scalar b) true (scalar_of b (low_scalar b low)) refl) ∙ stand) in
        leaf_yields program text is_text d E (at_offset m.insn at) (at_offset (m.insn + 1) (offset_moved_in_direction d 1 at)) passes o k turn
        (λ passed.
        let h = stand ∙ passed in
        let long = length-reading text d (b ∷ []) in
        let enough = stands-length nat_eq (in_reading_order text d (b ∷ [])) (nearest_first text d p) h in
        let left = length-nearest text d p inside in
        let few : 1 ≤ characters_ahead text d p = omega (arith, enough, left, long) in
        let onward = reached_behind program text is_text d 1 p g inside few in
        let within = inside_by program text is_text d p e inside onward in
        let offset_is : offset text e ≡ offset_moved_in_direction d 1 at =
        offset-moved text reads d (b ∷ []) p inside h within ∙ ap (λ (l : List ℕ). offset_moved_in_direction d (length l) at) is in
        let ip_is : n.insn ≡ m.insn + 1 = ap (λ (m : Counters). m.insn) (sym has.1) in
        subst (λ (i : ℕ). Yields program text d E (running (at_offset (m.insn + 1) i) ∷ []) (k o)) offset_is
        (subst (λ (i : ℕ). Yields program text d E (running (at_offset i (offset text e)) ∷ []) (k o)) ip_is (behind e onward within)))

  -- ---- The nodes

  code_in_order : (behind : Bool) (cs : List (List ℕ)) → in_code_order (direction_at behind) cs ≡ reversed_if_in_lookbehind behind cs
  code_in_order true cs = refl
  code_in_order false cs = refl

  in_direction_finds : (behind : Bool) (bs : List ℕ) → HasUtf8CharactersAndOffsets text → is_utf8 bs ≡ true → Finds program text is_text (direction_at behind) behind (byte_sequence bs)
  unfolding IsCode ticked outcomes
  in_direction_finds behind bs reads u E m n p g s ls k code enters on =
      let d = direction_at behind in
      sequence_yields d E g s ls reads bs m n p k u enters.inside
      (subst (λ (cs : List (List ℕ)). HasInsnsBetween program (map ByteSeq cs) m n) (sym (code_in_order behind (chunks bs))) code)
      (λ q onward within.
      on.at (record { end = q; groups = g }) s ls (record { onward = onward; inside = within; same_groups = refl; fit = enters.fit })
      (kept_itself [] m.loop n.loop s ls))

  -- The code of a byte sequence finds its outcomes in the direction that it was compiled for.
  pub byte_sequence_finds : (d : Direction) (behind : Bool) (bs : List ℕ) → d ≡ direction_at behind → HasUtf8CharactersAndOffsets text
      → has_text_in_sequence (byte_sequence bs) ≡ true → Finds program text is_text d behind (byte_sequence bs)
  byte_sequence_finds d behind bs same reads spelt =
      subst (λ (d : Direction). Finds program text is_text d behind (byte_sequence bs)) (sym same)
      (in_direction_finds behind bs reads (and-right (nat_lt 0 (length bs)) _ spelt))

  pub byte_set_finds : (d : Direction) (behind : Bool) (members : List ℕ) → HasUtf8CharactersAndOffsets text → set_sizes_and_characters_fit_instructions (byte_set members) ≡ true
      → Finds program text is_text d behind (byte_set members)
  unfolding IsCode ticked outcomes
  byte_set_finds d behind [] reads fits E m n p g s ls k code enters on = none_finds program text is_text d E m n p g s ls k code
  byte_set_finds d behind (b ∷ []) reads fits E m n p g s ls k code enters on =
      byte_yields d E g s ls reads b m n p k (ltb-true b 128 (and-left (nat_lt b 128) true (and-right (nat_le (length (b ∷ [])) 4) (nat_lt b 128 && true) fits))) enters.inside code
      (λ q onward within.
      on.at (record { end = q; groups = g }) s ls (record { onward = onward; inside = within; same_groups = refl; fit = enters.fit })
      (kept_itself [] m.loop n.loop s ls))
  byte_set_finds d behind (b ∷ c ∷ bytes) reads fits E m n p g s ls k code enters on =
      byte_pair_finds program text is_text d behind b c bytes E m n p g s ls k code enters on

  pub byte_sequence_rising : (behind : Bool) (bs : List ℕ) → Rising program text is_text behind (byte_sequence bs)
  unfolding IsCode
  byte_sequence_rising behind bs m n code = insns_rising program text is_text (map ByteSeq (reversed_if_in_lookbehind behind (chunks bs))) m n code
