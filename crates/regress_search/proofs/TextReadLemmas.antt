-- The functions that read a character, a group's characters or bytes agree with the machine.
use Rattle.std.proofs.Common.{◌≡◌, ℕ, zero, suc, ◌+◌, ◌-◌, ◌<◌, ◌≤◌, List, [], ◌∷◌, ◌++◌, length, take, drop, reverse, Option, Some, None, Bool, true, false, ◌&&◌, ◌||◌, refl, ap, ap₂, sym, ◌∙◌}
use Rattle.std.proofs.Common.{arith, slice_get, slice_range, unwrap_or, le-leb, length-drop, length-append, take-append-drop}
use Rattle.std.proofs.lemmas.List.{reverse-append, length-take-le, drop-take}
use Rattle.std.proofs.Math.Seq.{take-append_seam, drop-append_seam}
use Rattle.std.specs.Prelude.{if◌then◌else◌, nat_eq, nat_le, not, encode_utf8_all, option_map, option_and_then}
use Rattle.std.specs.List.{starts_with, list_all}
use lib.Pointwise.{pointwise}
use mathlib.Core.Bool.{beq}
use Rattle.regex_meaning.specs.Tree.{Sameness}
use Rattle.regex_meaning.specs.Text.{Text, Direction, rightwards, leftwards, moved, next_character, next_characters, characters_ahead, is_scalar}
use Rattle.regex_meaning.specs.CodeUnitOffsets.{HasRisingPlaceOffsets, IsBoundary, offset, place_at, read, read_at}
use Rattle.regex_meaning.specs.Outcomes.{is_same, is_some_and, exclusive_or}
use Rattle.regex_meaning.proofs.CodeUnitOffsetsLemmas.{IsBoundary-place, offset-place_at, place-le}
use Rattle.regress_input.specs.CharAndByteReadsFromOffset.{end_if_matched, past_if, past_numbers_if_next, past_spelled_if_next, characters_between, character, place}
use Rattle.regress_input.proofs.TextSlices.{take-slice, past_bytes-right, right-past_bytes, past_bytes-left, left-past_bytes}
use Rattle.regress_machine.specs.TextsForBytePrograms.{HasUtf8CharactersAndOffsets}
use Rattle.regress_machine.specs.Machine as machine
use Rattle.regress_machine.specs.Machine.{Next, running, goes, with_some, go, go_if, next_insn_at_place, state_at_next_ip, read_one, stay_if, occurs_beside_offset, offset_moved_in_direction}
use Rattle.regress_machine.specs.Machine.{read_bytes, backref_read, read_group}
use Rattle.regress_machine.proofs.NearestCharacterLemmas.{moved-zero}
use Rattle.regress_machine.proofs.AdjacentCharacterLemmas.{stands, stands-length}
use Rattle.regress_machine.proofs.AdjacentCharacterBytes.{starts-stands, stands-front, front-is, last-of}
use Rattle.regress_machine.proofs.InsnsNotStuck.{by-some, can-some, can-then}
use Rattle.regress_machine.specs.InsnEffects.{IsNotStuck}
use Rattle.regex_meaning.proofs.BoolLemmas.{same-truth, and-left, and-right}

-- ---- Places of a text

module _ (text : Text) (is : HasRisingPlaceOffsets text) where
  stay_where : (holds : ℕ → Bool) (s : machine.State) (p : ℕ) → place_at text s.pos ≡ Some p → go_if (holds p) (state_at_next_ip s) ≡ stay_if text holds s
  stay_where holds s p e =
      let here = offset-place_at text s.pos p is e in
      ap (λ at. go_if (holds p) (record s { ip = s.ip + 1; pos = at })) (sym here.0)
      ∙ sym (ap (λ o. with_some o (λ p. go_if (holds p) (next_insn_at_place text p s))) e)

  pub stays : (holds : ℕ → Bool) (b : Bool) (s : machine.State) → IsBoundary text s.pos
      → ((p : ℕ) → place_at text s.pos ≡ Some p → b ≡ holds p) → go_if b (state_at_next_ip s) ≡ stay_if text holds s
  stays holds b s on h =
      let p = IsBoundary-place text s.pos is on in
      ap (λ b. go_if b (state_at_next_ip s)) (h p.0 p.1) ∙ stay_where holds s p.0 p.1

  first-of : (o : Option ℕ) (x : ℕ) → option_map (λ (r : ℕ × ℕ). r.0) (option_map (λ (c : ℕ). (c, x)) o) ≡ o
  first-of None x = refl
  first-of (Some c) x = refl

  pub character-beside : (d : Direction) (at p : ℕ) → place_at text at ≡ Some p → character text d at ≡ next_character text d p
  character-beside d at p e =
      ap (λ o. option_map (λ (r : ℕ × ℕ). r.0) (option_and_then (read_at text d) o)) e ∙ first-of (next_character text d p) (offset text (moved text d 1 p))

  -- ---- One character

  led-go : (found b : Bool) (x y : ℕ) (s : machine.State) → end_if_matched found x ≡ (if b then Some y else None)
      → go_if found (record s { ip = s.ip + 1; pos = x }) ≡ go_if b (record s { ip = s.ip + 1; pos = y })
  led-go true true x y s e = let same : x ≡ y = cc in ap (λ at. goes (running (record s { ip = s.ip + 1; pos = at }) ∷ [])) same
  led-go true false x y s e = let some_none : Some x ≡ None = e in cc
  led-go false true x y s e = let none_some : None ≡ Some y = e in cc
  led-go false false x y s e = refl

  past-one : (test : ℕ → Bool) (o : Option ℕ) (to : ℕ)
      → option_and_then (λ (r : ℕ × ℕ). if test r.0 then Some r.1 else None) (option_map (λ (c : ℕ). (c, to)) o) ≡ (if is_some_and o test then Some to else None)
  past-one test None to = refl
  past-one test (Some c) to = refl

  pub past_if-place : (test : ℕ → Bool) (d : Direction) (at p : ℕ) → place_at text at ≡ Some p
      → past_if text test d at ≡ (if is_some_and (next_character text d p) test then Some (offset text (moved text d 1 p)) else None)
  past_if-place test d at p e =
      ap (λ o. option_and_then (λ (r : ℕ × ℕ). if test r.0 then Some r.1 else None) (option_and_then (read_at text d) o)) e
      ∙ past-one test (next_character text d p) (offset text (moved text d 1 p))

  pub reads-one : (o : Option (ℕ → Bool)) (d : Direction) (s : machine.State) (found : Bool) (to : ℕ)
      → IsNotStuck (with_some o (λ test. read_one text test d s)) → ((test : ℕ → Bool) → o ≡ Some test → end_if_matched found to ≡ past_if text test d s.pos)
      → go_if found (record s { ip = s.ip + 1; pos = to }) ≡ with_some o (λ test. read_one text test d s)
  reads-one o d s found to can led =
      by-some o (λ test. read_one text test d s) (go_if found (record s { ip = s.ip + 1; pos = to })) can (λ test e.
      let next : ℕ → Next = λ p. go_if (is_some_and (next_character text d p) test) (next_insn_at_place text (moved text d 1 p) s) in
      by-some (place_at text s.pos) next (go_if found (record s { ip = s.ip + 1; pos = to })) (can-then o (λ test. read_one text test d s) test e can) (λ p q.
      led-go found (is_some_and (next_character text d p) test) to (offset text (moved text d 1 p)) s (led test e ∙ past_if-place test d s.pos p q)))

  all-get : (xs : List ℕ) (i c : ℕ) → list_all is_scalar xs ≡ true → slice_get xs i ≡ Some c → is_scalar c ≡ true
  all-get [] i c h e = cc
  all-get (x ∷ xs) zero c h e = let same : x ≡ c = cc in ap is_scalar (sym same) ∙ and-left (is_scalar x) (list_all is_scalar xs) h
  all-get (x ∷ xs) (suc i) c h e = all-get xs i c (and-right (is_scalar x) (list_all is_scalar xs) h) e

  next-scalar : HasUtf8CharactersAndOffsets text → (d : Direction) (p c : ℕ) → next_character text d p ≡ Some c → is_scalar c ≡ true
  next-scalar reads rightwards p c e = all-get text.characters p c reads.scalars e
  next-scalar reads leftwards zero c e = cc
  next-scalar reads leftwards (suc p) c e = all-get text.characters p c reads.scalars e

  pub read-scalar : HasUtf8CharactersAndOffsets text → (d : Direction) (at c to : ℕ) → IsBoundary text at → Some (c, to) ≡ read text d at → is_scalar c ≡ true
  read-scalar reads d at c to on e =
      let p = IsBoundary-place text at is on in
      let beside : Some c ≡ next_character text d p.0 = ap (option_map (λ (r : ℕ × ℕ). r.0)) e ∙ character-beside d at p.0 p.1 in
      next-scalar reads d p.0 c (sym beside)

  -- ---- Characters of a group

  none-beside : (d : Direction) (p : ℕ) → next_characters text d 0 p ≡ []
  none-beside rightwards p = let e : p + 0 - p ≡ 0 = omega arith in ap (λ n. take n (drop p text.characters)) e
  none-beside leftwards p = let e : p - (p - 0) ≡ 0 = omega arith in ap (λ n. take n (drop (p - 0) text.characters)) e

  -- An empty sequence of characters stands at each boundary and ends there.
  pub nothing-again : (same : ℕ → ℕ → Bool) (cs : List ℕ) (d : Direction) (at : ℕ) → IsBoundary text at → cs ≡ [] → Some at ≡ past_spelled_if_next text same cs d at
  nothing-again same cs d at on none =
      let p = IsBoundary-place text at is on in
      let here : place text at ≡ p.0 = ap (λ o. unwrap_or o 0) p.1 in
      let there : offset text (moved text d 0 (place text at)) ≡ at = ap (offset text) (moved-zero text d (place text at) ∙ here) ∙ p.2 in
      sym (ap (λ cs. past_spelled_if_next text same cs d at) none
      ∙ ap (λ b. if b && pointwise same [] (next_characters text d 0 (place text at)) then Some (offset text (moved text d 0 (place text at))) else None) (le-leb 0 (characters_ahead text d (place text at)) (omega arith))
      ∙ ap (λ ds. if pointwise same [] ds then Some (offset text (moved text d 0 (place text at))) else None) (none-beside d (place text at))
      ∙ ap Some there)

  pub none-between : (from to : ℕ) → IsBoundary text from → IsBoundary text to → to < from → characters_between text from to ≡ []
  none-between from to at_from at_to less =
      let a = IsBoundary-place text from is at_from in
      let b = IsBoundary-place text to is at_to in
      let x : place text from ≡ a.0 = ap (λ o. unwrap_or o 0) a.1 in
      let y : place text to ≡ b.0 = ap (λ o. unwrap_or o 0) b.1 in
      let le = place-le text b.0 a.0 is b.3 a.3 (omega (arith, a.2, b.2, less)) in
      let e : place text to - place text from ≡ 0 = omega (arith, x, y, le) in
      ap (λ n. take n (drop (place text from) text.characters)) e

  pub nothing-read : (sameness : Sameness) (d : Direction) (s : machine.State) → IsNotStuck (read_group text sameness d None s) → go (state_at_next_ip s) ≡ read_group text sameness d None s
  nothing-read sameness d s can = stays (λ p. true) true s (can-some (place_at text s.pos) (λ p. go (next_insn_at_place text p s)) can) (λ p e. refl)

  pub group-read : (sameness : Sameness) (d : Direction) (from to : ℕ) (s : machine.State) (found : Bool) (at : ℕ) → IsNotStuck (read_group text sameness d (Some (from, to)) s)
      → end_if_matched found at ≡ past_spelled_if_next text (is_same text sameness) (characters_between text from to) d s.pos
      → go_if found (record s { ip = s.ip + 1; pos = at }) ≡ read_group text sameness d (Some (from, to)) s
  group-read sameness d from to s found at can led =
      let n = go_if found (record s { ip = s.ip + 1; pos = at }) in
      let third : ℕ → ℕ → ℕ → Next = λ p f t. backref_read text sameness d f t p s in
      let second : ℕ → ℕ → Next = λ p f. with_some (place_at text to) (third p f) in
      let first : ℕ → Next = λ p. with_some (place_at text from) (second p) in
      by-some (place_at text s.pos) first n can (λ p e.
      let can' = can-then (place_at text s.pos) first p e can in
      by-some (place_at text from) (second p) n can' (λ f q.
      let can'' = can-then (place_at text from) (second p) f q can' in
      by-some (place_at text to) (third p f) n can'' (λ t r.
      let cs = slice_range text.characters f t in
      let b = nat_le (length cs) (characters_ahead text d p) && pointwise (is_same text sameness) cs (next_characters text d (length cs) p) in
      let past : past_spelled_if_next text (is_same text sameness) (characters_between text from to) d s.pos ≡ (if b then Some (offset text (moved text d (length cs) p)) else None) =
      ap (λ o. past_spelled_if_next text (is_same text sameness) (slice_range text.characters (unwrap_or o 0) (place text to)) d s.pos) q
      ∙ ap (λ o. past_spelled_if_next text (is_same text sameness) (slice_range text.characters f (unwrap_or o 0)) d s.pos) r
      ∙ ap (λ o. if nat_le (length cs) (characters_ahead text d (unwrap_or o 0)) && pointwise (is_same text sameness) cs (next_characters text d (length cs) (unwrap_or o 0)) then Some (offset text (moved text d (length cs) (unwrap_or o 0))) else None) e in
      led-go found b at (offset text (moved text d (length cs) p)) s (led ∙ past))))

pub three-differ : (a b i : Bool) → not (beq (not (beq a b)) i) ≡ exclusive_or i (exclusive_or a b)
three-differ true true true = refl
three-differ true true false = refl
three-differ true false true = refl
three-differ true false false = refl
three-differ false true true = refl
three-differ false true false = refl
three-differ false false true = refl
three-differ false false false = refl

-- ---- Literal bytes

found-true : (found : Bool) (x y : ℕ) → end_if_matched found x ≡ Some y → found ≡ true
found-true true x y e = refl
found-true false x y e = cc

-- Bytes are found exactly where the text has them, and the offset behind them is the machine's.
literal-found : (all bytes : List ℕ) (d : Direction) (at : ℕ) (found : Bool) (to : ℕ) → at ≤ length all → end_if_matched found to ≡ past_numbers_if_next all bytes d at
    → (found ≡ occurs_beside_offset all d bytes at) × (found ≡ true → to ≡ offset_moved_in_direction d (length bytes) at)
literal-found all bytes rightwards at found to inside led = (
  same-truth found (starts_with nat_eq (drop at all) bytes)
      (λ f.
      let h = past_bytes-right all bytes at to (sym led ∙ ap (λ b. end_if_matched b to) f) in
      let n : at + length bytes - at ≡ length bytes = omega arith in
      let front : take (length bytes) (drop at all) ≡ bytes = ap (λ n. take n (drop at all)) (sym n) ∙ h.are in
      starts-stands (drop at all) bytes
      ∙ front-is bytes (drop at all) (drop (length bytes) (drop at all)) (sym (take-append-drop (length bytes) (drop at all)) ∙ ap (λ (l : List ℕ). l ++ drop (length bytes) (drop at all)) front))
      (λ b.
      let s : stands nat_eq bytes (drop at all) ≡ true = sym (starts-stands (drop at all) bytes) ∙ b in
      let rest = drop (length bytes) (drop at all) in
      let e : drop at all ≡ bytes ++ rest = stands-front bytes (drop at all) s in
      let n : at + length bytes - at ≡ length bytes = omega arith in
      let are : slice_range all at (at + length bytes) ≡ bytes = ap (λ n. take n (drop at all)) n ∙ ap (take (length bytes)) e ∙ take-append_seam bytes rest in
      let short = stands-length nat_eq bytes (drop at all) s in
      let left = length-drop at all in
      found-true found to (at + length bytes) (led ∙ right-past_bytes all bytes at (at + length bytes) (record { to_is = refl; fits = omega (arith, short, left, inside); are = are }))),
  λ f. (past_bytes-right all bytes at to (sym led ∙ ap (λ b. end_if_matched b to) f)).to_is,
)
literal-found all bytes leftwards at found to inside led = (
  same-truth found (starts_with nat_eq (reverse (take at all)) (reverse bytes))
      (λ f.
      let h = past_bytes-left all bytes at to (sym led ∙ ap (λ b. end_if_matched b to) f) in
      let e : take at all ≡ take (at - length bytes) all ++ bytes =
      take-slice all (at - length bytes) at (omega arith) ∙ ap (λ (l : List ℕ). take (at - length bytes) all ++ l) h.are in
      starts-stands (reverse (take at all)) (reverse bytes)
      ∙ front-is (reverse bytes) (reverse (take at all)) (reverse (take (at - length bytes) all)) (ap reverse e ∙ reverse-append (take (at - length bytes) all) bytes))
      (λ b.
      let s : stands nat_eq (reverse bytes) (reverse (take at all)) ≡ true = sym (starts-stands (reverse (take at all)) (reverse bytes)) ∙ b in
      let r = drop (length (reverse bytes)) (reverse (take at all)) in
      let e : take at all ≡ reverse r ++ bytes = last-of bytes (take at all) r (stands-front (reverse bytes) (reverse (take at all)) s) in
      let long : at ≡ length (reverse r) + length bytes = sym (length-take-le at all inside) ∙ ap length e ∙ length-append (reverse r) bytes in
      let n : at - (at - length bytes) ≡ length bytes = omega (arith, long) in
      let m : at - length bytes + length bytes ≡ at = omega (arith, long) in
      let k : at - length bytes ≡ length (reverse r) = omega (arith, long) in
      let are : slice_range all (at - length bytes) at ≡ bytes =
      ap (λ n. take n (drop (at - length bytes) all)) n
      ∙ sym (drop-take (at - length bytes) (length bytes) all)
      ∙ ap (λ m. drop (at - length bytes) (take m all)) m
      ∙ ap (drop (at - length bytes)) e
      ∙ ap (λ k. drop k (reverse r ++ bytes)) k
      ∙ drop-append_seam (reverse r) bytes in
      found-true found to (at - length bytes) (led ∙ left-past_bytes all bytes at (at - length bytes) (record { to_is = refl; fits = omega (arith, long); are = are }))),
  λ f. (past_bytes-left all bytes at to (sym led ∙ ap (λ b. end_if_matched b to) f)).to_is,
)

pub literal-read : (text : Text) (bytes : List ℕ) (d : Direction) (s : machine.State) (found : Bool) (to : ℕ) → s.pos ≤ length (encode_utf8_all text.characters)
    → end_if_matched found to ≡ past_numbers_if_next (encode_utf8_all text.characters) bytes d s.pos
    → go_if found (record s { ip = s.ip + 1; pos = to }) ≡ read_bytes text bytes d s
literal-read text bytes d s found to inside led =
    let l = literal-found (encode_utf8_all text.characters) bytes d s.pos found to inside led in
    by found refl l.1 ∙ ap (λ b. go_if b (record s { ip = s.ip + 1; pos = offset_moved_in_direction d (length bytes) s.pos })) l.0
  where
    by : (b : Bool) → found ≡ b → (found ≡ true → to ≡ offset_moved_in_direction d (length bytes) s.pos)
        → go_if found (record s { ip = s.ip + 1; pos = to }) ≡ go_if found (record s { ip = s.ip + 1; pos = offset_moved_in_direction d (length bytes) s.pos })
    by true e at = ap (λ p. go_if found (record s { ip = s.ip + 1; pos = p })) (at e)
    by false e at = ap (λ b. go_if b (record s { ip = s.ip + 1; pos = to })) e ∙ sym (ap (λ b. go_if b (record s { ip = s.ip + 1; pos = offset_moved_in_direction d (length bytes) s.pos })) e)
