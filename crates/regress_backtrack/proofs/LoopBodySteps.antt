-- A step at an instruction of a plain loop body is the same from any groups and in any iteration.
use Rattle.std.proofs.Common.{◌≡◌, ◌<◌, ◌≤◌, ℕ, zero, suc, ◌+◌, ◌-◌, List, [], ◌∷◌, map, length, min, Option, Some, None, Bool, true, false, ◌&&◌, refl, ap, ◌∙◌, sym, subst, arith, slice_get}
use Rattle.std.proofs.Common.{slice_set, take, drop, length-take, length-drop}
use Rattle.std.specs.Prelude.{◌⊎◌, IsSome, if◌then◌else◌, reverse, nat_eq, nat_lt, option_map, encode_utf8_all}
use Rattle.std.specs.List.{prefix_len}
use Rattle.std.proofs.lemmas.Bool.{cases_lt}
use Rattle.std.proofs.lemmas.List.{length-reverse}
use Rattle.std.proofs.lemmas.List.Sums.{prefix_len-le-length}
use mathlib.Core.Logic.{inl, inr}
use Rattle.std.proofs.lemmas.Option.{slice_get_past}
use Rattle.regex_meaning.specs.Laws.{Each}
use Rattle.regex_meaning.proofs.EachElementLemmas.{Each-map, Each-reverse}
use Rattle.regex_meaning.specs.NumberListHelpers.{numbers_from}
use Rattle.regex_meaning.specs.Text.{Text, Direction, rightwards, leftwards, next_character, moved, characters_ahead}
use Rattle.regex_meaning.specs.CodeUnitOffsets.{HasRisingPlaceOffsets, offset, units, place_at}
use Rattle.regex_meaning.specs.Outcomes.{is_some_and}
use Rattle.regex_meaning.specs.OutcomesWithStepTicks.{nearest_first}
use Rattle.regex_meaning.specs.CompilationRelation.{Program, Insn, Goal, JustFail, Char, CharSet, ByteSet, ByteSeq, AsciiBracket, Bracket, MatchAny, MatchAnyExceptLineTerminator, StartOfLine}
use Rattle.regex_meaning.specs.CompilationRelation.{EndOfLine, WordBoundary, WordBoundaryUnicodeICase, Alt, Jump, Lookahead, Lookbehind}
use Rattle.regex_meaning.specs.CompilationRelation.{EnterLoop, LoopAgain, ResetCaptureGroup, Loop1CharBody, BeginCaptureGroup, EndCaptureGroup, BackRef}
use Rattle.regex_meaning.proofs.CodeUnitOffsetsLemmas.{offset-place_at}
use Rattle.regress_machine.specs.Machine.{State, Thread, running, waiting, Next, goes, scans, ends, asks, stuck, with_some, only_if, go, go_if, test_of, next_insn_at_place}
use Rattle.regress_machine.specs.TextsForBytePrograms.{HasUtf8CharactersAndOffsets}
use Rattle.regress_machine.specs.Machine.{occurs_beside_offset, offset_moved_in_direction, read_bytes, read_one, stay_if, scan, first_running_and_others_waiting, act_on, act}
use Rattle.regress_machine.proofs.NearestCharacterLemmas.{length-nearest}
use Rattle.regress_machine.proofs.OffsetsInsideText.{offset-inside, units-bytes}
use Rattle.regress_machine.proofs.CharLoopRepetitions.{numbers_between}
use Rattle.regress_machine.proofs.AdjacentCharacterLemmas.{stands-length}
use Rattle.regress_machine.proofs.AdjacentCharacterBytes.{starts-stands}
use Rattle.regress_memo.specs.Liveness.{units_left_in_direction, IsNotAheadInDirection, ReadsAsBytes}
use Rattle.regress_memo.proofs.LivenessLemmas.{moves-on, moves-one}
use Rattle.regress_backtrack.specs.RepeatableLoopBodies.{LookaroundsEndBy, MayContinue, StaysInBody, AllStayInContents, LookaroundContentsStayInside}
use Rattle.regress_backtrack.proofs.GroupChangeLists.{Slots, Note, wiped, begun, closed, range_to, applied, AsMany, as-many}

-- ---- Places in a body

-- A spot is a thread in the body: an instruction, an offset and the changes of groups.
pub data Spot : Type 0 where
  runs : (ip pos : ℕ) (notes : List Note) → Spot
  waits : (ip pos : ℕ) (notes : List Note) → Spot

abbrev pub spot_ip : Spot → ℕ
spot_ip (runs ip pos notes) = ip
spot_ip (waits ip pos notes) = ip

abbrev pub spot_pos : Spot → ℕ
spot_pos (runs ip pos notes) = pos
spot_pos (waits ip pos notes) = pos

abbrev pub spot_notes : Spot → List Note
spot_notes (runs ip pos notes) = notes
spot_notes (waits ip pos notes) = notes

-- The slots of a state are its groups and their starts.
abbrev pub slots_of : State → Slots
slots_of s = record { groups = s.groups; starts = s.starts }

-- A thread in iteration `k`, which began with the groups `J`, has this state.
abbrev pub state_at : State → (id k : ℕ) → Slots → (ip pos : ℕ) → List Note → State
state_at x id k J ip pos notes = record x {
  ip = ip;
  pos = pos;
  groups = (applied notes J).groups;
  starts = (applied notes J).starts;
  loops = slice_set x.loops id (record { iters = k; entry = x.pos });
}

abbrev pub thread_at : State → (id k : ℕ) → Slots → Spot → Thread
thread_at x id k J (runs ip pos notes) = running (state_at x id k J ip pos notes)
thread_at x id k J (waits ip pos notes) = waiting (state_at x id k J ip pos notes)

-- ---- Offsets

-- The offset is equal or nearer to the end.
abbrev pub Onward : (text : Text) (d : Direction) (from to : ℕ) → Type 0
Onward text d from to = (from ≡ to) ⊎ (units_left_in_direction (units text) d to + 1 ≤ units_left_in_direction (units text) d from)

module _ (text : Text) (d : Direction) where
  pub onward-on : (a b c : ℕ) → Onward text d a b → Onward text d b c → Onward text d a c
  onward-on a b c (inl e) h = subst (λ a. Onward text d a c) (sym e) h
  onward-on a b c (inr l) (inl e) = subst (λ c. Onward text d a c) e (inr l)
  onward-on a b c (inr l) (inr m) = inr (omega (arith, l, m))

onward-by : (text : Text) (d : Direction) (a b : ℕ) → IsNotAheadInDirection d a b → b ≤ units text → Onward text d a b
onward-by text rightwards a b le inside = by (cases_lt a b)
  where
    by : (a < b) ⊎ (b ≤ a) → Onward text rightwards a b
    by (inl less) = inr (omega (arith, less, inside))
    by (inr ge) = inl (omega (arith, le, ge))
onward-by text leftwards a b le inside = by (cases_lt b a)
  where
    by : (b < a) ⊎ (a ≤ b) → Onward text leftwards a b
    by (inl less) = inr (omega (arith, less))
    by (inr ge) = inl (omega (arith, le, ge))

-- ---- Starts of groups

some-within : {X : Type 0} (xs : List X) (i : ℕ) → i < length xs → IsSome (slice_get xs i)
some-within [] i less = absurd (omega (arith, less))
some-within (x ∷ xs) zero less = refl
some-within (x ∷ xs) (suc i) less = some-within xs i (omega (arith, less))

closes-with : (d : Direction) (pos : ℕ) (o : Option ℕ) (F : Option (ℕ × ℕ) → State) → IsSome o → with_some o (λ start. go (F (Some (range_to d pos start)))) ≡ go (F (option_map (range_to d pos) o))
closes-with d pos None F some = cc
closes-with d pos (Some start) F some = refl

-- ---- One instruction of the body

module _ (changes : Bool) (program : Program) (text : Text) (is : HasRisingPlaceOffsets text) (reads : ReadsAsBytes program text) (x : State) (id : ℕ) where
  abbrev st : (k : ℕ) (J : Slots) (ip pos : ℕ) → List Note → State
  st k J ip pos notes = state_at x id k J ip pos notes

  abbrev at : (k : ℕ) (J : Slots) → Spot → Thread
  at k J = thread_at x id k J

  -- If groups cannot change, no group has changed.
  abbrev pub Quiet : List Note → Type 0
  Quiet notes = changes ≡ false → notes ≡ []

  -- The claim holds in any iteration, with as many groups.
  abbrev pub Always : ((k : ℕ) (J : Slots) → Type 0) → Type 0
  Always P = (k : ℕ) (J : Slots) → AsMany J (slots_of x) → P k J

  -- A thread at an instruction and an offset may continue at this spot of the body.
  abbrev pub Reached : (d : Direction) (stop ip pos : ℕ) → Spot → Type 0
  Reached d stop ip pos t = MayContinue program stop ip (spot_ip t) × Onward text d pos (spot_pos t) × Quiet (spot_notes t)

  -- A turn at an instruction of the body has one of these results.
  pub data Turned (d : Direction) (from stop ip pos : ℕ) (notes : List Note) : Type 0 where
    sticks : Always (λ k J. act program text d (st k J ip pos notes) ≡ stuck) → Turned d from stop ip pos notes
    ended : (LookaroundsEndBy program from ip → ⊥) → Always (λ k J. act program text d (st k J ip pos notes) ≡ ends (st k J ip pos notes)) → Turned d from stop ip pos notes
    moves : (T : List Spot) → Always (λ k J. act program text d (st k J ip pos notes) ≡ goes (map (at k J) T)) → Each (Reached d stop ip pos) T → Turned d from stop ip pos notes
    scanned : (n : ℕ) (T : List Spot) → Always (λ k J. act program text d (st k J ip pos notes) ≡ scans n (map (at k J) T)) → Each (Reached d stop ip pos) T → Turned d from stop ip pos notes
    asked : (inner : Direction) (negate : Bool) (to : ℕ) → Always (λ k J. act program text d (st k J ip pos notes) ≡ asks inner negate (st k J (ip + 1) pos notes) (st k J to pos notes))
        → (ip + 1 < to) × AllStayInContents changes program (ip + 1) to → MayContinue program stop ip to → Turned d from stop ip pos notes

  module _ (d : Direction) (from stop ip pos : ℕ) (notes : List Note) (quiet : Quiet notes) where
    abbrev Turn : Type 0
    Turn = Turned d from stop ip pos notes

    abbrev Acts : ((k : ℕ) (J : Slots) → Next) → Type 0
    Acts next = Always (λ k J. act program text d (st k J ip pos notes) ≡ next k J)

    read-turn : (o : Option (ℕ → Bool)) → Acts (λ k J. with_some o (λ test. read_one text test d (st k J ip pos notes))) → MayContinue program stop ip (ip + 1) → Turn
    read-turn None acts near = sticks acts
    read-turn (Some test) acts near = by_place (place_at text pos) refl
      where
        by_place : (o : Option ℕ) → place_at text pos ≡ o → Turn
        by_place None e = sticks (λ k J h. acts k J h ∙ ap (λ o. with_some o (λ p. go_if (is_some_and (next_character text d p) test) (next_insn_at_place text (moved text d 1 p) (st k J ip pos notes)))) e)
        by_place (Some p) e = by (is_some_and (next_character text d p) test) refl
          where
            turn : Acts (λ k J. go_if (is_some_and (next_character text d p) test) (next_insn_at_place text (moved text d 1 p) (st k J ip pos notes)))
            turn k J h = acts k J h ∙ ap (λ o. with_some o (λ p. go_if (is_some_and (next_character text d p) test) (next_insn_at_place text (moved text d 1 p) (st k J ip pos notes)))) e

            by : (b : Bool) → is_some_and (next_character text d p) test ≡ b → Turn
            by true h =
                moves (runs (ip + 1) (offset text (moved text d 1 p)) notes ∷ []) (λ k J a. turn k J a ∙ ap (λ b. go_if b (next_insn_at_place text (moved text d 1 p) (st k J ip pos notes))) h)
                ((near, onward-by text d pos (offset text (moved text d 1 p)) (moves-one text is d pos p test e h).passed (offset-inside text is (moved text d 1 p)), quiet), tt)
            by false h = moves [] (λ k J a. turn k J a ∙ ap (λ b. go_if b (next_insn_at_place text (moved text d 1 p) (st k J ip pos notes))) h) tt

    stay-turn : (holds : ℕ → Bool) → Acts (λ k J. stay_if text holds (st k J ip pos notes)) → MayContinue program stop ip (ip + 1) → Turn
    stay-turn holds acts near = by_place (place_at text pos) refl
      where
        by_place : (o : Option ℕ) → place_at text pos ≡ o → Turn
        by_place None e = sticks (λ k J h. acts k J h ∙ ap (λ o. with_some o (λ p. go_if (holds p) (next_insn_at_place text p (st k J ip pos notes)))) e)
        by_place (Some p) e = by (holds p) refl
          where
            turn : Acts (λ k J. go_if (holds p) (next_insn_at_place text p (st k J ip pos notes)))
            turn k J h = acts k J h ∙ ap (λ o. with_some o (λ p. go_if (holds p) (next_insn_at_place text p (st k J ip pos notes)))) e

            by : (b : Bool) → holds p ≡ b → Turn
            by true h =
                moves (runs (ip + 1) (offset text p) notes ∷ []) (λ k J a. turn k J a ∙ ap (λ b. go_if b (next_insn_at_place text p (st k J ip pos notes))) h)
                ((near, inl (sym (offset-place_at text pos p is e).0), quiet), tt)
            by false h = moves [] (λ k J a. turn k J a ∙ ap (λ b. go_if b (next_insn_at_place text p (st k J ip pos notes))) h) tt

    -- ---- Literal bytes

    bytes-onward : (d : Direction) (bytes : List ℕ) → HasUtf8CharactersAndOffsets text → occurs_beside_offset (encode_utf8_all text.characters) d bytes pos ≡ true → Onward text d pos (offset_moved_in_direction d (length bytes) pos)
    bytes-onward rightwards bytes utf8 h = by (cases_lt 0 (length bytes))
      where
        by : (0 < length bytes) ⊎ (length bytes ≤ 0) → Onward text rightwards pos (pos + length bytes)
        by (inl some) =
            let all = encode_utf8_all text.characters in
            let short = stands-length nat_eq bytes (drop pos all) (sym (starts-stands (drop pos all) bytes) ∙ h) in
            let ahead = length-drop pos all in
            let total = units-bytes text is utf8 in
            inr (omega (arith, some, short, ahead, total))
        by (inr none) = inl (omega (arith, none))
    bytes-onward leftwards bytes utf8 h = by (cases_lt 0 (length bytes))
      where
        by : (0 < length bytes) ⊎ (length bytes ≤ 0) → Onward text leftwards pos (pos - length bytes)
        by (inl some) =
            let all = encode_utf8_all text.characters in
            let short = stands-length nat_eq (reverse bytes) (reverse (take pos all)) (sym (starts-stands (reverse (take pos all)) (reverse bytes)) ∙ h) in
            let m = length-reverse bytes in
            let n = length-reverse (take pos all) in
            let behind = length-take pos all in
            inr (omega (arith, some, short, m, n, behind))
        by (inr none) = inl (omega (arith, none))

    byte-turn : (bytes : List ℕ) → slice_get program.insns ip ≡ Some (ByteSeq bytes) → Acts (λ k J. read_bytes text bytes d (st k J ip pos notes)) → MayContinue program stop ip (ip + 1) → Turn
    byte-turn bytes there acts near = by (occurs_beside_offset (encode_utf8_all text.characters) d bytes pos) refl
      where
        by : (b : Bool) → occurs_beside_offset (encode_utf8_all text.characters) d bytes pos ≡ b → Turn
        by true h =
            moves (runs (ip + 1) (offset_moved_in_direction d (length bytes) pos) notes ∷ []) (λ k J a. acts k J a ∙ ap (λ b. go_if b (st k J (ip + 1) (offset_moved_in_direction d (length bytes) pos) notes)) h)
            ((near, bytes-onward d bytes (reads ip (ByteSeq bytes) there refl) h, quiet), tt)
        by false h = moves [] (λ k J a. acts k J a ∙ ap (λ b. go_if b (st k J (ip + 1) (offset_moved_in_direction d (length bytes) pos) notes)) h) tt

    -- ---- A loop over one character

    abbrev spots : (p : ℕ) → List ℕ → List Spot
    spots p [] = []
    spots p (n ∷ ns) = runs (ip + 2) (offset text (moved text d n p)) notes ∷ map (λ n. waits (ip + 2) (offset text (moved text d n p)) notes) ns

    waits-mapped : (k : ℕ) (J : Slots) (p : ℕ) (ns : List ℕ)
        → map waiting (map (λ n. st k J (ip + 2) (offset text (moved text d n p)) notes) ns) ≡ map (at k J) (map (λ n. waits (ip + 2) (offset text (moved text d n p)) notes) ns)
    waits-mapped k J p [] = refl
    waits-mapped k J p (n ∷ ns) = ap (λ ts. waiting (st k J (ip + 2) (offset text (moved text d n p)) notes) ∷ ts) (waits-mapped k J p ns)

    spots-mapped : (k : ℕ) (J : Slots) (p : ℕ) (ns : List ℕ)
        → first_running_and_others_waiting (map (λ n. st k J (ip + 2) (offset text (moved text d n p)) notes) ns) ≡ map (at k J) (spots p ns)
    spots-mapped k J p [] = refl
    spots-mapped k J p (n ∷ ns) = ap (λ ts. running (st k J (ip + 2) (offset text (moved text d n p)) notes) ∷ ts) (waits-mapped k J p ns)

    waits-reached : (p : ℕ) → MayContinue program stop ip (ip + 2) → (ns : List ℕ) → Each (λ n. Onward text d pos (offset text (moved text d n p))) ns
        → Each (Reached d stop ip pos) (map (λ n. waits (ip + 2) (offset text (moved text d n p)) notes) ns)
    waits-reached p near [] h = tt
    waits-reached p near (n ∷ ns) h = ((near, h.0, quiet), waits-reached p near ns h.1)

    spots-reached : (p : ℕ) → MayContinue program stop ip (ip + 2) → (ns : List ℕ) → Each (λ n. Onward text d pos (offset text (moved text d n p))) ns → Each (Reached d stop ip pos) (spots p ns)
    spots-reached p near [] h = tt
    spots-reached p near (n ∷ ns) h = ((near, h.0, quiet), waits-reached p near ns h.1)

    module _ (least most : ℕ) (greedy : Bool) (near : MayContinue program stop ip (ip + 2)) where
      abbrev last : (ℕ → Bool) → ℕ → ℕ
      last test p = min most (prefix_len test (nearest_first text d p))

      abbrev counts : (ℕ → Bool) → ℕ → List ℕ
      counts test p = let ns = numbers_from least (last test p + 1 - least) in if greedy then reverse ns else ns

      few : (test : ℕ → Bool) (p : ℕ) → place_at text pos ≡ Some p → last test p ≤ characters_ahead text d p
      few test p e =
          let l = prefix_len-le-length test (nearest_first text d p) in
          let m = length-nearest text d p (offset-place_at text pos p is e).1 in
          omega (arith, l, m)

      reached : (test : ℕ → Bool) (p : ℕ) → place_at text pos ≡ Some p → (n : ℕ) → n ≤ characters_ahead text d p
          → Each (λ n. Onward text d pos (offset text (moved text d n p))) (numbers_from least (n + 1 - least))
      reached test p e last le =
          Each-map _ (λ n. Onward text d pos (offset text (moved text d n p)))
          (λ n h. let lo = h.0 in let hi = h.1 in
          onward-by text d pos (offset text (moved text d n p)) (moves-on text is d pos p n e (omega (arith, lo, hi, le))).passed (offset-inside text is (moved text d n p)))
          _ (numbers_between least (last + 1 - least))

      ordered : (g : Bool) (ns : List ℕ) (P : ℕ → Type 0) → Each P ns → Each P (if g then reverse ns else ns)
      ordered true ns P h = Each-reverse P ns h
      ordered false ns P h = h

      scan-turn : (o : Option (ℕ → Bool)) → Acts (λ k J. with_some o (λ test. with_some (place_at text pos) (λ p. scan text least most greedy test d p (st k J ip pos notes)))) → Turn
      scan-turn None acts = sticks acts
      scan-turn (Some test) acts = by_place (place_at text pos) refl
        where
          by_place : (o : Option ℕ) → place_at text pos ≡ o → Turn
          by_place None e = sticks (λ k J h. acts k J h ∙ ap (λ o. with_some o (λ p. scan text least most greedy test d p (st k J ip pos notes))) e)
          by_place (Some p) e =
              scanned (min most (prefix_len test (nearest_first text d p) + 1)) (spots p (counts test p))
              (λ k J h. acts k J h ∙ ap (λ o. with_some o (λ p. scan text least most greedy test d p (st k J ip pos notes))) e
              ∙ ap (scans (min most (prefix_len test (nearest_first text d p) + 1))) (spots-mapped k J p (counts test p)))
              (spots-reached p near (counts test p) (ordered greedy _ (λ n. Onward text d pos (offset text (moved text d n p))) (reached test p e (last test p) (few test p e))))

    -- ---- Groups

    here : Onward text d pos pos
    here = inl refl

    noted-quiet : changes ≡ true → (n : Note) → Quiet (n ∷ notes)
    noted-quiet may n not = let never : true ≡ false = sym may ∙ not in cc

    module _ (may : changes ≡ true) (near : MayContinue program stop ip (ip + 1)) (g : ℕ) where
      one-reached : (n : Note) → Each (Reached d stop ip pos) (runs (ip + 1) pos (n ∷ notes) ∷ [])
      one-reached n = ((near, here, noted-quiet may n), tt)

      reset-turn : (c : Bool) → nat_lt g (length x.groups) ≡ c
          → Acts (λ k J. only_if (nat_lt g (length (applied notes J).groups)) (go (st k J (ip + 1) pos (wiped g ∷ notes)))) → Turn
      reset-turn true e acts =
          moves (runs (ip + 1) pos (wiped g ∷ notes) ∷ []) (λ k J h. acts k J h ∙ ap (λ n. only_if (nat_lt g n) (go (st k J (ip + 1) pos (wiped g ∷ notes)))) (as-many notes J (slots_of x) h).groups
          ∙ ap (λ c. only_if c (go (st k J (ip + 1) pos (wiped g ∷ notes)))) e) (one-reached (wiped g))
      reset-turn false e acts =
          sticks (λ k J h. acts k J h ∙ ap (λ n. only_if (nat_lt g n) (go (st k J (ip + 1) pos (wiped g ∷ notes)))) (as-many notes J (slots_of x) h).groups
          ∙ ap (λ c. only_if c (go (st k J (ip + 1) pos (wiped g ∷ notes)))) e)

      begin-turn : (c : Bool) → (nat_lt g (length x.groups) && nat_lt g (length x.starts)) ≡ c
          → Acts (λ k J. only_if (nat_lt g (length (applied notes J).groups) && nat_lt g (length (applied notes J).starts)) (go (st k J (ip + 1) pos (begun g pos ∷ notes)))) → Turn
      begin-turn c e acts = by c e
        where
          turn : Acts (λ k J. only_if (nat_lt g (length x.groups) && nat_lt g (length x.starts)) (go (st k J (ip + 1) pos (begun g pos ∷ notes))))
          turn k J h =
              acts k J h ∙ ap (λ n. only_if (nat_lt g n && nat_lt g (length (applied notes J).starts)) (go (st k J (ip + 1) pos (begun g pos ∷ notes)))) (as-many notes J (slots_of x) h).groups
              ∙ ap (λ n. only_if (nat_lt g (length x.groups) && nat_lt g n) (go (st k J (ip + 1) pos (begun g pos ∷ notes)))) (as-many notes J (slots_of x) h).starts

          by : (c : Bool) → (nat_lt g (length x.groups) && nat_lt g (length x.starts)) ≡ c → Turn
          by true e = moves (runs (ip + 1) pos (begun g pos ∷ notes) ∷ []) (λ k J h. turn k J h ∙ ap (λ c. only_if c (go (st k J (ip + 1) pos (begun g pos ∷ notes)))) e) (one-reached (begun g pos))
          by false e = sticks (λ k J h. turn k J h ∙ ap (λ c. only_if c (go (st k J (ip + 1) pos (begun g pos ∷ notes)))) e)

      abbrev with_group : (k : ℕ) (J : Slots) → Option (ℕ × ℕ) → State
      with_group k J v = record (st k J (ip + 1) pos notes) { groups = slice_set (applied notes J).groups g v }

      abbrev closing : (k : ℕ) (J : Slots) → Next
      closing k J = with_some (slice_get (applied notes J).starts g) (λ start. go (with_group k J (Some (range_to d pos start))))

      close-turn : Acts (λ k J. only_if (nat_lt g (length (applied notes J).groups)) (closing k J)) → Turn
      close-turn acts = by (nat_lt g (length x.groups)) refl
        where
          turn : Acts (λ k J. only_if (nat_lt g (length x.groups)) (closing k J))
          turn k J h = acts k J h ∙ ap (λ n. only_if (nat_lt g n) (closing k J)) (as-many notes J (slots_of x) h).groups

          by_start : nat_lt g (length x.groups) ≡ true → (g < length x.starts) ⊎ (length x.starts ≤ g) → Turn
          by_start e (inl less) =
              moves (runs (ip + 1) pos (closed d g pos ∷ notes) ∷ []) (λ k J h. turn k J h ∙ ap (λ c. only_if c (closing k J)) e
              ∙ closes-with d pos (slice_get (applied notes J).starts g) (with_group k J)
              (some-within (applied notes J).starts g (let many = (as-many notes J (slots_of x) h).starts in omega (arith, less, many)))) (one-reached (closed d g pos))
          by_start e (inr le) =
              sticks (λ k J h. turn k J h ∙ ap (λ c. only_if c (closing k J)) e
              ∙ ap (λ o. with_some o (λ start. go (with_group k J (Some (range_to d pos start))))) (slice_get_past (applied notes J).starts g (let many = (as-many notes J (slots_of x) h).starts in omega (arith, le, many))))

          by : (c : Bool) → nat_lt g (length x.groups) ≡ c → Turn
          by true e = by_start e (cases_lt g (length x.starts))
          by false e = sticks (λ k J h. turn k J h ∙ ap (λ c. only_if c (closing k J)) e)

    -- ---- All instructions

    goes-to : (to : ℕ) → MayContinue program stop ip to → Reached d stop ip pos (runs to pos notes)
    goes-to to h = (h, here, quiet)

    insn-turn : (insn : Insn) → slice_get program.insns ip ≡ Some insn → StaysInBody changes program stop ip insn → LookaroundContentsStayInside changes program from ip insn → Acts (λ k J. act_on program text d (Some insn) (st k J ip pos notes)) → Turn
    insn-turn (Alt other) there h c acts = moves (runs (ip + 1) pos notes ∷ waits other pos notes ∷ []) acts (goes-to (ip + 1) h.0, (goes-to other h.1, tt))
    insn-turn (Jump to) there h c acts = moves (runs to pos notes ∷ []) acts (goes-to to h, tt)
    insn-turn (Loop1CharBody least most greedy) there h c acts = scan-turn least most greedy h (test_of program (slice_get program.insns (ip + 1))) acts
    insn-turn (Lookahead negate a b to) there h c acts = asked rightwards negate to acts c h
    insn-turn (Lookbehind negate a b to) there h c acts = asked leftwards negate to acts c h
    insn-turn JustFail there h c acts = moves [] acts tt
    insn-turn Goal there h c acts = ended c acts
    insn-turn (StartOfLine multiline) there h c acts = stay-turn _ acts h
    insn-turn (EndOfLine multiline) there h c acts = stay-turn _ acts h
    insn-turn (WordBoundary invert) there h c acts = stay-turn _ acts h
    insn-turn (WordBoundaryUnicodeICase invert) there h c acts = stay-turn _ acts h
    insn-turn (Char x) there h c acts = read-turn (test_of program (Some (Char x))) acts h
    insn-turn (CharSet members) there h c acts = read-turn (test_of program (Some (CharSet members))) acts h
    insn-turn (ByteSet members) there h c acts = read-turn (test_of program (Some (ByteSet members))) acts h
    insn-turn (AsciiBracket members) there h c acts = read-turn (test_of program (Some (AsciiBracket members))) acts h
    insn-turn (Bracket index) there h c acts = read-turn (test_of program (Some (Bracket index))) acts h
    insn-turn MatchAny there h c acts = read-turn (test_of program (Some MatchAny)) acts h
    insn-turn MatchAnyExceptLineTerminator there h c acts = read-turn (test_of program (Some MatchAnyExceptLineTerminator)) acts h
    insn-turn (ResetCaptureGroup g) there h c acts = reset-turn h.0 h.1 g (nat_lt g (length x.groups)) refl acts
    insn-turn (BeginCaptureGroup g) there h c acts = begin-turn h.0 h.1 g (nat_lt g (length x.groups) && nat_lt g (length x.starts)) refl acts
    insn-turn (EndCaptureGroup g) there h c acts = close-turn h.0 h.1 g acts
    insn-turn (ByteSeq bytes) there h c acts = byte-turn bytes there acts h
    insn-turn (EnterLoop f) there h c acts = absurd h
    insn-turn (LoopAgain begin) there h c acts = absurd h
    insn-turn (BackRef group same) there h c acts = absurd h

    pub turned-at : (o : Option Insn) → slice_get program.insns ip ≡ o → ((insn : Insn) → o ≡ Some insn → StaysInBody changes program stop ip insn × LookaroundContentsStayInside changes program from ip insn) → Turn
    turned-at None e each = sticks (λ k J h. ap (λ o. act_on program text d o (st k J ip pos notes)) e)
    turned-at (Some insn) e each = insn-turn insn e (each insn refl).0 (each insn refl).1 (λ k J h. ap (λ o. act_on program text d o (st k J ip pos notes)) e)
