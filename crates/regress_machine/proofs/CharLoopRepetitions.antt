-- The repetition of a node of one character has an outcome for each allowed number of accepted
-- characters.
use Rattle.std.proofs.Common.{◌≡◌, ℕ, zero, suc, ◌+◌, ◌-◌, ◌<◌, ◌≤◌, min, List, [], ◌∷◌, ◌++◌, map, filter, flat_map, Bool, true, false, not, ◌&&◌, refl, ap, ◌∙◌, sym, arith, append-nil, reverse}
use Rattle.std.proofs.Common.{cond}
use Rattle.std.specs.Prelude.{if◌then◌else◌, nat_le, nat_lt, ◌==◌}
use Rattle.std.specs.List.{prefix_len}
use Rattle.std.proofs.lemmas.List.{reverse-append}
use Rattle.std.proofs.lemmas.List.Sums.{prefix_len-le-length}
use Rattle.regex_meaning.specs.NumberListHelpers.{numbers_from}
use Rattle.regex_meaning.specs.Laws.{Each}
use Rattle.regex_meaning.specs.Text.{Text, Direction, last_place, next_character, moved, characters_ahead}
use Rattle.regex_meaning.specs.Outcomes.{Groups, Outcome, Repetition, bounded_repeat, repeat, passes_empty_check, preferred, is_some_and, one_character}
use Rattle.regex_meaning.specs.OutcomesWithStepTicks.{nearest_first}
use Rattle.std.proofs.lemmas.Bool.{leb-false, ltb-false, ltb-true, leb-true, ne_eqb}
use Rattle.regress_machine.proofs.NearestCharacterLemmas.{Beside, nothing_left, one_more, beside, moved-suc, moved-zero, length-nearest}

-- ---- Successive numbers

abbrev pub in_turns : Bool → List ℕ → List ℕ
in_turns greedy ns = if greedy then reverse ns else ns

numbers-suc : (lo n : ℕ) → numbers_from (suc lo) n ≡ map suc (numbers_from lo n)
numbers-suc lo zero = refl
numbers-suc lo (suc n) = let e : suc lo + 1 ≡ suc (lo + 1) = omega arith in rw e (ap (λ (l : List ℕ). suc lo ∷ l) (numbers-suc (lo + 1) n))

numbers_more : (lo lo' n n' : ℕ) → lo ≡ 0 → lo' ≡ 0 → n ≡ suc n' → numbers_from lo n ≡ 0 ∷ map suc (numbers_from lo' n')
numbers_more lo lo' n n' a b c = rw (a, b, c) (ap (λ (l : List ℕ). 0 ∷ l) (numbers-suc 0 n'))

numbers_later : (lo lo' n n' : ℕ) → lo ≡ suc lo' → n ≡ n' → numbers_from lo n ≡ map suc (numbers_from lo' n')
numbers_later lo lo' n n' a b = rw (a, b) (numbers-suc lo' n')

numbers_one : (lo n : ℕ) → lo ≡ 0 → n ≡ 1 → numbers_from lo n ≡ 0 ∷ []
numbers_one lo n a b = rw (a, b) refl

numbers_none : (lo n : ℕ) → n ≡ 0 → numbers_from lo n ≡ []
numbers_none lo n e = rw e refl

pub numbers_between : (lo n : ℕ) → Each (λ i. (lo ≤ i) × (i < lo + n)) (numbers_from lo n)
numbers_between lo zero = tt
numbers_between lo (suc n) = ((omega arith, omega arith), later (numbers_from (lo + 1) n) (numbers_between (lo + 1) n))
  where
    later : (is : List ℕ) → Each (λ i. (lo + 1 ≤ i) × (i < lo + 1 + n)) is → Each (λ i. (lo ≤ i) × (i < lo + suc n)) is
    later [] h = tt
    later (i ∷ is) h = ((omega (arith, h.0.0), omega (arith, h.0.1)), later is h.1)

module _ (text : Text) (d : Direction) where
  abbrev pub outcome_at : ℕ → Groups → ℕ → Outcome
  outcome_at p g n = record { end = moved text d n p; groups = g }

  abbrev pub run : ℕ → Groups → List ℕ → List Outcome
  run p g ns = map (outcome_at p g) ns

  run-suc : (p : ℕ) (g : Groups) (ns : List ℕ) → run (moved text d 1 p) g ns ≡ run p g (map suc ns)
  run-suc p g [] = refl
  run-suc p g (n ∷ ns) = rw (moved-suc text d n p) (ap (λ (l : List Outcome). outcome_at p g (suc n) ∷ l) (run-suc p g ns))

  run-append : (p : ℕ) (g : Groups) (ms ns : List ℕ) → run p g (ms ++ ns) ≡ run p g ms ++ run p g ns
  run-append p g [] ns = refl
  run-append p g (m ∷ ms) ns = ap (λ (l : List Outcome). outcome_at p g m ∷ l) (run-append p g ms ns)

  run-here : (p : ℕ) (g : Groups) → run p g (0 ∷ []) ≡ record { end = p; groups = g } ∷ []
  run-here p g = rw (moved-zero text d p) refl

  map-suc-append : (ms ns : List ℕ) → map suc (ms ++ ns) ≡ map suc ms ++ map suc ns
  map-suc-append [] ns = refl
  map-suc-append (m ∷ ms) ns = ap (λ (l : List ℕ). suc m ∷ l) (map-suc-append ms ns)

  reverse-suc : (ns : List ℕ) → map suc (reverse ns) ≡ reverse (map suc ns)
  reverse-suc [] = refl
  reverse-suc (n ∷ ns) =
      ap (map suc) (reverse-append (n ∷ []) ns) ∙ map-suc-append (reverse ns) (n ∷ [])
      ∙ ap (λ (l : List ℕ). l ++ (suc n ∷ [])) (reverse-suc ns) ∙ sym (reverse-append (suc n ∷ []) (map suc ns))

  in_turns-suc : (greedy : Bool) (ns : List ℕ) → map suc (in_turns greedy ns) ≡ in_turns greedy (map suc ns)
  in_turns-suc true ns = reverse-suc ns
  in_turns-suc false ns = refl

  -- The outcome here comes first, or, if the loop is greedy, behind those of more characters.
  with_first : (greedy : Bool) (p : ℕ) (g : Groups) (ns : List ℕ)
      → preferred greedy (run p g (in_turns greedy ns)) (record { end = p; groups = g } ∷ []) ≡ run p g (in_turns greedy (0 ∷ ns))
  with_first true p g ns =
      ap (λ (l : List Outcome). run p g (reverse ns) ++ l) (sym (run-here p g)) ∙ sym (run-append p g (reverse ns) (0 ∷ []))
      ∙ ap (run p g) (sym (reverse-append (0 ∷ []) ns))
  with_first false p g ns = ap (λ (l : List Outcome). l ++ run p g ns) (sym (run-here p g))

  alone : (greedy : Bool) (p : ℕ) (g : Groups) → preferred greedy [] (record { end = p; groups = g } ∷ []) ≡ run p g (in_turns greedy (0 ∷ []))
  alone true p g = sym (run-here p g)
  alone false p g = sym (run-here p g)

  only_again : (greedy : Bool) (os : List Outcome) → preferred greedy os [] ≡ os
  only_again true os = append-nil os
  only_again false os = refl

  no_counts : (greedy : Bool) (p : ℕ) (g : Groups) → run p g (in_turns greedy []) ≡ []
  no_counts true p g = refl
  no_counts false p g = refl

  module _ (accepted : ℕ → Bool) (r : Repetition Outcome) (body_is : (p : ℕ) (g : Groups) → p ≤ last_place text → r.body p g ≡ one_character text accepted d p g) where
    abbrev pub accepted_len : ℕ → ℕ
    accepted_len p = prefix_len accepted (nearest_first text d p)

    -- These are the counts allowed after `k` iterations if `len` more characters are accepted.
    abbrev counts_left : (k len : ℕ) → List ℕ
    counts_left k len = numbers_from (r.least - k) (min (r.most - k) len + 1 - (r.least - k))

    abbrev Runs : (turns k p : ℕ) → Groups → Type 0
    Runs turns k p g = bounded_repeat r (suc turns) k p g ≡ run p g (in_turns r.greedy (counts_left k (accepted_len p)))

    abbrev again : (turns k p : ℕ) → Groups → List Outcome
    again turns k p g = flat_map (λ o. bounded_repeat r turns (k + 1) o.end o.groups) (filter (passes_empty_check r k p) (r.body p g))

    abbrev here : (p : ℕ) → Groups → List Outcome
    here p g = record { end = p; groups = g } ∷ []

    nothing_again : (greedy b : Bool) (leave : List Outcome) → preferred greedy (if b then [] else []) leave ≡ preferred greedy [] leave
    nothing_again greedy true leave = refl
    nothing_again greedy false leave = refl

    -- If no character is accepted, leaving the loop gives the outcomes of the counts that are left.
    ends_here : (k p : ℕ) (g : Groups) (c : Bool) → nat_le r.least k ≡ c
        → preferred r.greedy [] (if c then here p g else []) ≡ run p g (in_turns r.greedy (counts_left k 0))
    ends_here k p g true e =
        let le = leb-true r.least k e in
        let one = numbers_one (r.least - k) (min (r.most - k) 0 + 1 - (r.least - k)) (omega arith) (omega arith) in
        alone r.greedy p g ∙ ap (λ ns. run p g (in_turns r.greedy ns)) (sym one)
    ends_here k p g false e =
        let more = leb-false r.least k e in
        let none = numbers_none (r.least - k) (min (r.most - k) 0 + 1 - (r.least - k)) (omega arith) in
        only_again r.greedy [] ∙ sym (no_counts r.greedy p g) ∙ ap (λ ns. run p g (in_turns r.greedy ns)) (sym none)

    -- If characters are accepted, going on or leaving gives the outcomes of the counts left.
    goes_again : (k p len : ℕ) (g : Groups) (b c : Bool) (again : List Outcome) → nat_lt k r.most ≡ b → nat_le r.least k ≡ c
        → again ≡ run p g (in_turns r.greedy (map suc (counts_left (k + 1) len)))
        → preferred r.greedy (if b then again else []) (if c then here p g else []) ≡ run p g (in_turns r.greedy (counts_left k (suc len)))
    goes_again k p len g true true again e f is =
        let less = ltb-true k r.most e in
        let le = leb-true r.least k f in
        let all = numbers_more (r.least - k) (r.least - (k + 1)) (min (r.most - k) (suc len) + 1 - (r.least - k)) (min (r.most - (k + 1)) len + 1 - (r.least - (k + 1)))
        (omega arith) (omega arith) (omega arith) in
        ap (λ os. preferred r.greedy os (here p g)) is ∙ with_first r.greedy p g (map suc (counts_left (k + 1) len))
        ∙ ap (λ ns. run p g (in_turns r.greedy ns)) (sym all)
    goes_again k p len g true false again e f is =
        let less = ltb-true k r.most e in
        let more = leb-false r.least k f in
        let all = numbers_later (r.least - k) (r.least - (k + 1)) (min (r.most - k) (suc len) + 1 - (r.least - k)) (min (r.most - (k + 1)) len + 1 - (r.least - (k + 1)))
        (omega arith) (omega arith) in
        only_again r.greedy again ∙ is ∙ ap (λ ns. run p g (in_turns r.greedy ns)) (sym all)
    goes_again k p len g false true again e f is =
        let no_more = ltb-false k r.most e in
        let le = leb-true r.least k f in
        let one = numbers_one (r.least - k) (min (r.most - k) (suc len) + 1 - (r.least - k)) (omega arith) (omega arith) in
        alone r.greedy p g ∙ ap (λ ns. run p g (in_turns r.greedy ns)) (sym one)
    goes_again k p len g false false again e f is =
        let no_more = ltb-false k r.most e in
        let more = leb-false r.least k f in
        let none = numbers_none (r.least - k) (min (r.most - k) (suc len) + 1 - (r.least - k)) (omega arith) in
        only_again r.greedy [] ∙ sym (no_counts r.greedy p g) ∙ ap (λ ns. run p g (in_turns r.greedy ns)) (sym none)

    -- This is the outcome of one iteration, which exists if the character is accepted.
    abbrev one_if : (p : ℕ) (g : Groups) → Bool → List Outcome
    one_if p g b = if b then record { end = moved text d 1 p; groups = g } ∷ [] else []

    not_again : (turns k p : ℕ) (g : Groups) → p ≤ last_place text → is_some_and (next_character text d p) accepted ≡ false → accepted_len p ≡ 0 → Runs turns k p g
    unfolding bounded_repeat
    not_again turns k p g inside fails len =
        let none : r.body p g ≡ [] = body_is p g inside ∙ ap (one_if p g) fails in
        ap (λ (os : List Outcome). preferred r.greedy (if nat_lt k r.most then flat_map (λ o. bounded_repeat r turns (k + 1) o.end o.groups) (filter (passes_empty_check r k p) os) else []) (if nat_le r.least k then here p g else [])) none
        ∙ nothing_again r.greedy (nat_lt k r.most) (if nat_le r.least k then here p g else [])
        ∙ ends_here k p g (nat_le r.least k) refl
        ∙ ap (λ n. run p g (in_turns r.greedy (counts_left k n))) (sym len)

    once_more : (turns k p len : ℕ) (g : Groups) → p ≤ last_place text → is_some_and (next_character text d p) accepted ≡ true → accepted_len p ≡ suc len → (moved text d 1 p == p) ≡ false
        → bounded_repeat r turns (k + 1) (moved text d 1 p) g ≡ run (moved text d 1 p) g (in_turns r.greedy (counts_left (k + 1) len)) → Runs turns k p g
    unfolding bounded_repeat
    once_more turns k p len g inside passes is moves later =
        let one : r.body p g ≡ record { end = moved text d 1 p; groups = g } ∷ [] = body_is p g inside ∙ ap (one_if p g) passes in
        let e = moved text d 1 p in
        let further = bounded_repeat r turns (k + 1) e g in
        let counted : filter (passes_empty_check r k p) (record { end = e; groups = g } ∷ []) ≡ record { end = e; groups = g } ∷ [] =
        ap (λ b. if not (b && nat_lt r.least (k + 1)) then record { end = e; groups = g } ∷ [] else []) moves in
        let all : again turns k p g ≡ run p g (in_turns r.greedy (map suc (counts_left (k + 1) len))) =
        ap (λ (os : List Outcome). flat_map (λ o. bounded_repeat r turns (k + 1) o.end o.groups) (filter (passes_empty_check r k p) os)) one
        ∙ ap (λ (os : List Outcome). flat_map (λ o. bounded_repeat r turns (k + 1) o.end o.groups) os) counted
        ∙ append-nil further ∙ later
        ∙ run-suc p g (in_turns r.greedy (counts_left (k + 1) len))
        ∙ ap (run p g) (in_turns-suc r.greedy (counts_left (k + 1) len)) in
        goes_again k p len g (nat_lt k r.most) (nat_le r.least k) (again turns k p g) refl refl all
        ∙ ap (λ n. run p g (in_turns r.greedy (counts_left k n))) (sym is)

    moves_on : (p : ℕ) → characters_ahead text d p ≡ suc (characters_ahead text d (moved text d 1 p)) → (moved text d 1 p == p) ≡ false
    moves_on p e = ne_eqb (moved text d 1 p) p (λ same. let f = ap (characters_ahead text d) same in omega arith)

    -- With more turns than accepted characters, iterations after `k` give the counts that are left.
    abbrev Later : (turns k : ℕ) → Groups → Type 0
    Later turns k g = (p len : ℕ) → p ≤ last_place text → accepted_len p ≡ len → suc len ≤ turns
        → bounded_repeat r turns (k + 1) p g ≡ run p g (in_turns r.greedy (counts_left (k + 1) len))

    by_character : (turns k p : ℕ) (g : Groups) → p ≤ last_place text → accepted_len p ≤ turns → Later turns k g → Runs turns k p g
    by_character turns k p g inside enough later = go (beside text d p inside)
      where
        go : Beside text d p → Runs turns k p g
        go (nothing_left none nothing left) = not_again turns k p g inside (ap (λ o. is_some_and o accepted) none) (ap (prefix_len accepted) nothing)
        go (one_more c is rest left within) = by (accepted c) refl
          where
            by : (b : Bool) → accepted c ≡ b → Runs turns k p g
            by true e =
                let len = accepted_len (moved text d 1 p) in
                let more : accepted_len p ≡ suc len =
                ap (prefix_len accepted) rest ∙ ap (λ b. cond b (1 + len) 0) e ∙ (let s : 1 + len ≡ suc len = omega arith in s) in
                once_more turns k p len g inside (ap (λ o. is_some_and o accepted) is ∙ e) more (moves_on p left) (later (moved text d 1 p) len within refl (omega arith))
            by false e =
                not_again turns k p g inside (ap (λ o. is_some_and o accepted) is ∙ e)
                (ap (prefix_len accepted) rest ∙ ap (λ b. cond b (1 + accepted_len (moved text d 1 p)) 0) e)

    -- With enough turns, the repetition has an outcome for each count that is left.
    rounds_run : (turns k p : ℕ) (g : Groups) → p ≤ last_place text → accepted_len p ≤ turns → Runs turns k p g
    rounds_run zero k p g inside enough = by_character zero k p g inside enough (λ q len within is few. absurd (omega arith))
    rounds_run (suc turns) k p g inside enough =
        by_character (suc turns) k p g inside enough
        (λ q len within is few. rounds_run turns (k + 1) q g within (omega arith) ∙ ap (λ n. run q g (in_turns r.greedy (counts_left (k + 1) n))) is)

    -- The repetition of the loop has an outcome for each allowed number of accepted characters.
    pub repeat_run : (p : ℕ) (g : Groups) → p ≤ last_place text
        → repeat text r d 0 p g ≡ run p g (in_turns r.greedy (numbers_from r.least (min r.most (accepted_len p) + 1 - r.least)))
    repeat_run p g inside =
        let few = prefix_len-le-length accepted (nearest_first text d p) in
        let all = length-nearest text d p inside in
        let turns = r.least - 0 + characters_ahead text d p in
        let more : turns + 1 ≡ suc turns = omega arith in
        let least : r.least - 0 ≡ r.least = omega arith in
        let most : r.most - 0 ≡ r.most = omega arith in
        ap (λ n. bounded_repeat r n 0 p g) more ∙ rounds_run turns 0 p g inside (omega arith)
        ∙ ap (λ n. run p g (in_turns r.greedy (numbers_from n (min (r.most - 0) (accepted_len p) + 1 - n)))) least
        ∙ ap (λ n. run p g (in_turns r.greedy (numbers_from r.least (min n (accepted_len p) + 1 - r.least)))) most
