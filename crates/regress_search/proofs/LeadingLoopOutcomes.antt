-- No match begins within a leading char loop if none begins at the loop's start.
use Rattle.std.proofs.Common.{◌≡◌, ℕ, zero, suc, ◌+◌, ◌-◌, ◌<◌, ◌≤◌, min, List, [], ◌∷◌, flat_map, drop, take, slice_range, Option, Some, None, unwrap_or, Bool, true, false, refl, ap, ◌∙◌, sym}
use Rattle.std.proofs.Common.{subst, arith, append-nil, cond, reverse, slice_get, length}
use Rattle.std.specs.Prelude.{if◌then◌else◌, nat_le, ◌&&◌, MatchBool, IsSome, ◌⊎◌}
use Rattle.std.specs.List.{prefix_len}
use Rattle.std.proofs.lemmas.Bool.{cases_lt, le-leb}
use Rattle.std.proofs.lemmas.List.Sums.{prefix_len-le-length}
use Rattle.std.proofs.lemmas.Option.{slice_get_within}
use mathlib.Core.Logic.{inl, inr}
use Rattle.std.proofs.lemmas.List.{drop-drop, reverse-reverse}
use lib.Pointwise.{pointwise}
use Rattle.regex_meaning.specs.NumberListHelpers.{numbers_from}
use Rattle.regex_meaning.specs.Laws.{Each}
use Rattle.regex_meaning.specs.Tree.{Quantifier, BracketContents, Lookaround, start_of_line, end_of_line, Node, empty, goal, char, char_set, byte_set, byte_sequence, cat, end_of_cat, alt, bracket}
use Rattle.regex_meaning.specs.Tree.{string_set, match_any, match_any_except_line_terminator}
use Rattle.regex_meaning.specs.Tree.{anchor, word_boundary, capture_group, back_ref, lookaround, loop, loop_1_char_body, Tree}
use Rattle.regex_meaning.specs.Text.{Text, rightwards, last_place, expand_code_point}
use Rattle.regex_meaning.specs.Outcomes.{Groups, Outcome, accepts, captured, with_groups_cleared, in_intervals, max_iterations, repetition, spelled, is_case_variant, outcomes}
use Rattle.regex_meaning.specs.StartPredicate.{bytes_that_pass}
use Rattle.regex_meaning.specs.WellFormedTrees.{is_one_character}
use Rattle.regex_meaning.specs.FirstAndAllMatches.{match_at, first_outcome, no_groups}
use Rattle.regex_meaning.specs.OutcomesWithStepTicks.{nearest_first}
use Rattle.regex_meaning.specs.CompilationRelation.{Program, Insn, Counters, counters_after_insn, counters_at_start, HasInsnAt, HasInsnsBetween, IsCode, IsStringCode, AreStringsCode}
use Rattle.regex_meaning.specs.CompilationRelation.{case_variants_insn, char_set_insn, lookaround_insn, is_uninverted_ascii_class}
use Rattle.regex_meaning.specs.CompilationRelation.{Loop1CharBody, Goal, JustFail, Char, ByteSet, ByteSeq, AsciiBracket, Bracket, MatchAny, MatchAnyExceptLineTerminator, StartOfLine, EndOfLine}
use Rattle.regex_meaning.specs.CompilationRelation.{WordBoundary, WordBoundaryUnicodeICase, Alt, EnterLoop}
use Rattle.regex_meaning.specs.CompilationRelation.{BeginCaptureGroup, EndCaptureGroup, BackRef, Lookahead, Lookbehind}
use Rattle.regex_meaning.proofs.EachElementLemmas.{Each-map, Each-reverse, Each-image}
use Rattle.regress_machine.specs.Machine.{test_of}
use Rattle.regress_machine.proofs.NearestCharacterLemmas.{length-nearest}
use Rattle.regress_machine.proofs.CharLoopRepetitions.{in_turns, numbers_between, outcome_at, run, repeat_run}
use Rattle.regress_machine.proofs.CharLoopOutcomes.{body_is_one, each_nearest, prefix_len-same}
use Rattle.regress_machine.proofs.SingleCharacterTests.{reads_one}
use Rattle.regress_machine.proofs.WellFormedNodeLemmas.{Ready, root_ready}
use Rattle.regress_machine.specs.SearchFindsFirstOutcomeAtPlace.{TreeProgramCanSearchText}
use Rattle.regress_search.proofs.GroupIndependentEnds.{each-apart, each-together, each-mapped, HasNoBackrefs, node-free}

-- ---- Lists of outcomes and of characters

each-number : (P : ℕ → Type 0) (lo n i : ℕ) → Each P (numbers_from lo n) → lo ≤ i → i < lo + n → P i
each-number P lo zero i h le less = absurd (omega (arith, le, less))
each-number P lo (suc n) i h le less = elim (cases_lt lo i) [
  | inl early ↦ each-number P (lo + 1) n i h.1 (omega (arith, early)) (omega (arith, less))
  | inr late ↦ subst P (let same : lo ≡ i = omega (arith, le, late) in same) h.0
]

each-in_turns : (P : ℕ → Type 0) (greedy : Bool) (ns : List ℕ) → Each P (in_turns greedy ns) → Each P ns
each-in_turns P true ns h = subst (Each P) (reverse-reverse ns) (Each-reverse P (reverse ns) h)
each-in_turns P false ns h = h

into-in_turns : (P : ℕ → Type 0) (greedy : Bool) (ns : List ℕ) → Each P ns → Each P (in_turns greedy ns)
into-in_turns P true ns h = Each-reverse P ns h
into-in_turns P false ns h = h

-- Behind `j` of the characters in a row that pass, `j` fewer pass.
prefix-left : (test : ℕ → Bool) (xs : List ℕ) (j : ℕ) → j ≤ prefix_len test xs → prefix_len test xs ≡ j + prefix_len test (drop j xs)
prefix-left test xs zero le = omega arith
prefix-left test [] (suc j) le = absurd (omega (arith, le))
prefix-left test (x ∷ xs) (suc j) le = by (prefix-left test xs j) (test x) refl le
  where
    by : (j ≤ prefix_len test xs → prefix_len test xs ≡ j + prefix_len test (drop j xs)) → (b : Bool) → test x ≡ b
        → suc j ≤ cond b (1 + prefix_len test xs) 0 → cond b (1 + prefix_len test xs) 0 ≡ suc j + prefix_len test (drop j xs)
    by rest true e le = let same = rest (omega (arith, le)) in omega (arith, same)
    by rest false e le = absurd (omega (arith, le))

-- ---- The first instruction of a program

abbrev is_run : Insn → Bool
is_run (Loop1CharBody least most greedy) = true
is_run _ = false

abbrev is_run_or_open : Insn → Bool
is_run_or_open (Loop1CharBody least most greedy) = true
is_run_or_open (BeginCaptureGroup id) = true
is_run_or_open _ = false

-- A fact of outcomes holds with all groups that are the same by a relation.
abbrev Blind : (Groups → Groups → Type 0) → (Outcome → Type 0) → Type 0
Blind Same P = (e : ℕ) (g h : Groups) → Same g h → P (record { end = e; groups = g }) → P (record { end = e; groups = h })

-- A node leads from groups that are the same to the same ends.
abbrev Alike : Text → (Groups → Groups → Type 0) → Node → Type 1
Alike text Same node =
    (p : ℕ) (g h : Groups) (P : Outcome → Type 0) → Same g h → Blind Same P → Each P (outcomes text node rightwards p g)
    → Each P (outcomes text node rightwards p h)

-- `test_in` is the test that was found, or one that rejects each character.
abbrev pub test_in : Option (ℕ → Bool) → ℕ → Bool
test_in found = unwrap_or found (λ c. false)

module _ (program : Program) (text : Text) (found : Option (ℕ → Bool)) (Same : Groups → Groups → Type 0)
    (alike : (node : Node) (m n : Counters) → IsCode program false node m n → Alike text Same node) where
  abbrev test : ℕ → Bool
  test = test_in found

  -- `row` is the number of consecutive characters from a place on that pass.
  abbrev pub row : ℕ → ℕ
  row p = prefix_len test (nearest_first text rightwards p)

  row-left : (p j : ℕ) → j ≤ row p → row p ≡ j + row (p + j)
  row-left p j le = prefix-left test (drop p text.characters) j le ∙ ap (λ xs. j + prefix_len test xs) (drop-drop j p text.characters)

  row-inside : (p : ℕ) → p ≤ last_place text → p + row p ≤ last_place text
  row-inside p inside =
      let few = prefix_len-le-length test (nearest_first text rightwards p) in
      let left = length-nearest text rightwards p inside in
      omega (arith, few, left, inside)

  -- A fact of the outcomes from a place holds of those from each place in its row.
  abbrev pub Among : Node → Type 1
  Among node =
      (p j : ℕ) (g h : Groups) (P : Outcome → Type 0) → Same g h → Blind Same P → p ≤ last_place text → j ≤ row p
      → Each P (outcomes text node rightwards p g) → Each P (outcomes text node rightwards (p + j) h)

  abbrev Stays : Node → Type 0
  Stays node = (p : ℕ) (g : Groups) → outcomes text node rightwards p g ≡ record { end = p; groups = g } ∷ []

  -- ---- A char loop

  module _ (q : Quantifier) (loopee : Node) (one : is_one_character loopee ≡ true) (same : Each (λ c. test c ≡ accepts loopee c) text.characters)
      (wide : last_place text ≤ max_iterations q) where
    abbrev counts_at : ℕ → List ℕ
    counts_at p = numbers_from q.min (min (max_iterations q) (row p) + 1 - q.min)

    run-is : (p : ℕ) (g : Groups) → p ≤ last_place text → outcomes text (loop_1_char_body q loopee) rightwards p g ≡ run text rightwards p g (in_turns q.greedy (counts_at p))
    unfolding outcomes
    run-is p g inside =
        repeat_run text rightwards (accepts loopee) (repetition q (outcomes text loopee rightwards)) (body_is_one text rightwards loopee one) p g inside
        ∙ ap (λ n. run text rightwards p g (in_turns q.greedy (numbers_from q.min (min (max_iterations q) n + 1 - q.min))))
        (sym (prefix_len-same test (accepts loopee) (nearest_first text rightwards p) (each_nearest (λ c. test c ≡ accepts loopee c) text rightwards p same)))

    run-among : Among (loop_1_char_body q loopee)
    run-among p j g h P alike blind inside le x = subst (Each P) (sym (run-is (p + j) h further)) all
      where
        within : p + row p ≤ last_place text
        within = row-inside p inside

        further : p + j ≤ last_place text
        further = omega (arith, within, le)

        left : row p ≡ j + row (p + j)
        left = row-left p j le

        there : (i : ℕ) → q.min ≤ i → i < q.min + (min (max_iterations q) (row p) + 1 - q.min) → P (outcome_at text rightwards p g i)
        there i least most =
            each-number (λ n. P (outcome_at text rightwards p g n)) q.min (min (max_iterations q) (row p) + 1 - q.min) i
            (each-in_turns (λ n. P (outcome_at text rightwards p g n)) q.greedy (counts_at p)
            (each-mapped P (outcome_at text rightwards p g) (in_turns q.greedy (counts_at p)) (subst (Each P) (run-is p g inside) x))) least most

        here : (i : ℕ) → (q.min ≤ i) × (i < q.min + (min (max_iterations q) (row (p + j)) + 1 - q.min)) → P (outcome_at text rightwards (p + j) h i)
        here i between =
            subst (λ (e : ℕ). P (record { end = e; groups = h })) (let z : p + (j + i) ≡ p + j + i = omega arith in z)
            (blind (p + (j + i)) g h alike (there (j + i) (omega (arith, between.0)) (omega (arith, between.0, between.1, left, within, wide))))

        all : Each P (run text rightwards (p + j) h (in_turns q.greedy (counts_at (p + j))))
        all =
            Each-image (λ n. P (outcome_at text rightwards (p + j) h n)) P (outcome_at text rightwards (p + j) h) (λ n k. k) (in_turns q.greedy (counts_at (p + j)))
            (into-in_turns (λ n. P (outcome_at text rightwards (p + j) h n)) q.greedy (counts_at (p + j))
            (Each-map (λ i. (q.min ≤ i) × (i < q.min + (min (max_iterations q) (row (p + j)) + 1 - q.min))) (λ n. P (outcome_at text rightwards (p + j) h n)) here
            (counts_at (p + j)) (numbers_between q.min (min (max_iterations q) (row (p + j)) + 1 - q.min))))

  -- ---- Nodes that begin with the char loop

  empty-stays : (icase : Bool) → Stays (string_set ([] ∷ []) icase)
  unfolding outcomes
  empty-stays icase p g =
      let none : slice_range text.characters p (p + 0) ≡ [] = let e : p + 0 - p ≡ 0 = omega arith in ap (λ n. take n (drop p text.characters)) e in
      let fits : nat_le 0 (last_place text - p) ≡ true = le-leb 0 (last_place text - p) (omega arith) in
      append-nil (spelled text (is_case_variant text icase) [] rightwards p g)
      ∙ ap (λ b. if b && pointwise (is_case_variant text icase) [] (slice_range text.characters p (p + 0)) then record { end = p + 0; groups = g } ∷ [] else []) fits
      ∙ ap (λ (l : List ℕ). if pointwise (is_case_variant text icase) [] l then record { end = p + 0; groups = g } ∷ [] else []) none
      ∙ ap (λ (e : ℕ). record { end = e; groups = g } ∷ []) (let z : p + 0 ≡ p = omega arith in z)

  both-stay : (first rest : Node) → Stays first → Stays rest → Stays (cat first rest)
  unfolding outcomes
  both-stay first rest a b p g =
      ap (λ (os : List Outcome). flat_map (λ o. outcomes text rest rightwards o.end o.groups) os) (a p g)
      ∙ append-nil (outcomes text rest rightwards p g) ∙ b p g

  first-among : (first rest : Node) → Among first → Alike text Same rest → Among (cat first rest)
  unfolding outcomes
  first-among first rest a after p j g h P same blind inside le x =
      let further : Outcome → List Outcome = λ o. outcomes text rest rightwards o.end o.groups in
      each-together P further (outcomes text first rightwards (p + j) h)
      (a p j g h (λ o. Each P (further o)) same (λ e g h s y. after e g h P s blind y) inside le
      (each-apart P further (outcomes text first rightwards p g) x))

  rest-among : (first rest : Node) → Stays first → Among rest → Among (cat first rest)
  unfolding outcomes
  rest-among first rest s a p j g h P same blind inside le x =
      let through : (p : ℕ) (g : Groups) → flat_map (λ o. outcomes text rest rightwards o.end o.groups) (outcomes text first rightwards p g) ≡ outcomes text rest rightwards p g =
      λ p g. ap (λ (os : List Outcome). flat_map (λ o. outcomes text rest rightwards o.end o.groups) os) (s p g) ∙ append-nil (outcomes text rest rightwards p g) in
      subst (Each P) (sym (through (p + j) h)) (a p j g h P same blind inside le (subst (Each P) (through p g) x))

  -- If all groups are the same and `Among` holds of the contents, it holds of the capture group.
  group-among : (id : ℕ) (name : List ℕ) (contents : Node) → ((g h : Groups) → Same g h) → Among contents → Among (capture_group id name contents)
  unfolding outcomes
  group-among id name contents any a p j g h P same blind inside le x =
      let held : (at : ℕ) (o : Outcome) → Groups = λ at o. (captured id at o).groups in
      Each-image (λ o. P (captured id (p + j) o)) P (captured id (p + j)) (λ o y. y) (outcomes text contents rightwards (p + j) (with_groups_cleared id 1 h))
      (Each-map (λ o. P (captured id p o)) (λ o. P (captured id (p + j) o)) (λ o y. blind o.end (held p o) (held (p + j) o) (any (held p o) (held (p + j) o)) y)
      (outcomes text contents rightwards (p + j) (with_groups_cleared id 1 h))
      (a p j (with_groups_cleared id 1 g) (with_groups_cleared id 1 h) (λ o. P (captured id p o)) (any (with_groups_cleared id 1 g) (with_groups_cleared id 1 h))
      (λ e g h s y. blind e (held p (record { end = e; groups = g })) (held p (record { end = e; groups = h }))
      (any (held p (record { end = e; groups = g })) (held p (record { end = e; groups = h }))) y) inside le
      (each-mapped P (captured id p) (outcomes text contents rightwards p (with_groups_cleared id 1 g)) x)))

  module _ (least most : ℕ) (greedy : Bool) (wide : last_place text ≤ most) where
    -- The code opens `opens` groups, and the char loop follows them.
    abbrev pub Begins : (opens : ℕ) → Counters → Type 0
    Begins zero m = HasInsnAt program m (Loop1CharBody least most greedy) × (test_of program (slice_get program.insns (counters_after_insn m).insn) ≡ found)
    Begins (suc opens) m = (id : ℕ) × HasInsnAt program m (BeginCaptureGroup id) × Begins opens (counters_after_insn m)

    -- Where the code begins so, no instruction stands other than a loop or a group's opening.
    other : (opens : ℕ) (m : Counters) (x : Insn) → is_run_or_open x ≡ false → HasInsnAt program m x → Begins opens m → ⊥
    other zero m x none here b =
        let same : Some x ≡ Some (Loop1CharBody least most greedy) = sym here ∙ b.0 in
        let e : x ≡ Loop1CharBody least most greedy = cc in
        let no : false ≡ true = sym none ∙ ap is_run_or_open e in cc
    other (suc opens) m x none here b =
        let same : Some x ≡ Some (BeginCaptureGroup b.0) = sym here ∙ b.1 in
        let e : x ≡ BeginCaptureGroup b.0 = cc in
        let no : false ≡ true = sym none ∙ ap is_run_or_open e in cc

    -- An instruction is not both the opening of a group and a char loop.
    not-both : (id least most : ℕ) (greedy : Bool) → Some (BeginCaptureGroup id) ≡ Some (Loop1CharBody least most greedy) → ⊥
    not-both id least most greedy same =
        let e : BeginCaptureGroup id ≡ Loop1CharBody least most greedy = cc in
        let no : false ≡ true = ap is_run e in cc

    pub data Leads (node : Node) (m n : Counters) : Type 1 where
      stays : m ≡ n → Stays node → Leads node m n
      leads : IsSome found → Among node → Leads node m n

    string-leads : (icase : Bool) (s : List ℕ) (opens : ℕ) (m n : Counters) → IsStringCode program icase false s m n → Begins opens m → Leads (string_set (s ∷ []) icase) m n
    string-leads icase [] opens m n code b = stays code (empty-stays icase)
    string-leads icase (c ∷ s) opens m n code b = absurd (other opens m (case_variants_insn spellings) (by spellings) code.0 b)
      where
        spellings : List ℕ
        spellings = expand_code_point c icase program.flags.unicode

        by : (l : List ℕ) → is_run_or_open (case_variants_insn l) ≡ false
        by [] = refl
        by (c ∷ []) = refl
        by (c ∷ d ∷ more) = refl

    strings-lead : (icase : Bool) (strings : List (List ℕ)) (opens : ℕ) (m n : Counters) → AreStringsCode program icase false strings m n → Begins opens m → Leads (string_set strings icase) m n
    strings-lead icase [] opens m n code b = absurd (other opens m JustFail refl code.0 b)
    strings-lead icase (s ∷ []) opens m n code b = string-leads icase s opens m n code b
    strings-lead icase (s ∷ t ∷ more) opens m n code b = absurd (other opens m (Alt (code.0.insn + 1)) refl code.1 b)

    bracket-not : (contents : BracketContents) (opens : ℕ) (m n : Counters) (ascii : Bool)
        → MatchBool ascii (HasInsnsBetween program (AsciiBracket (bytes_that_pass (in_intervals contents.intervals)) ∷ []) m n)
        (HasInsnsBetween program (Bracket m.bracket ∷ []) (record m { bracket = m.bracket + 1 }) n × (slice_get program.brackets m.bracket ≡ Some contents))
        → Begins opens m → ⊥
    bracket-not contents opens m n true code b = other opens m (AsciiBracket (bytes_that_pass (in_intervals contents.intervals))) refl code.0 b
    bracket-not contents opens m n false code b = other opens m (Bracket m.bracket) refl code.0.0 b

    look-not : (l : Lookaround) (continuation : ℕ) → is_run_or_open (lookaround_insn l continuation) ≡ false
    look-not l continuation = by l.backwards
      where
        by : (b : Bool) → is_run_or_open (if b then Lookbehind l.negate l.start_group l.end_group continuation else Lookahead l.negate l.start_group l.end_group continuation) ≡ false
        by true = refl
        by false = refl

    -- If a node's code begins with the loop, the node has no code and stays, or it leads.
    node-leads : (node : Node) → Ready text program.groups node → (opens : ℕ) → (0 < opens → (g h : Groups) → Same g h) → (m n : Counters) → IsCode program false node m n
        → Begins opens m → Leads node m n
    unfolding IsCode outcomes
    node-leads empty r opens any m n code b = stays code (λ p g. refl)
    node-leads goal r opens any m n code b = absurd (other opens m Goal refl code.0 b)
    node-leads (char c) r opens any m n code b = absurd (other opens m (Char c) refl code.0 b)
    node-leads (char_set []) r opens any m n code b = absurd (other opens m JustFail refl code.0 b)
    node-leads (char_set (c ∷ cs)) r opens any m n code b = absurd (other opens m (char_set_insn (c ∷ cs)) refl code.0 b)
    node-leads (byte_set []) r opens any m n code b = absurd (other opens m JustFail refl code.0 b)
    node-leads (byte_set (c ∷ [])) r opens any m n code b = absurd (other opens m (ByteSeq (c ∷ [])) refl code.0 b)
    node-leads (byte_set (c ∷ d ∷ cs)) r opens any m n code b = absurd (other opens m (ByteSet (c ∷ d ∷ cs)) refl code.0 b)
    node-leads (byte_sequence []) r opens any m n code b = cc
    node-leads (byte_sequence (c ∷ bytes)) r opens any m n code b = absurd (other opens m (ByteSeq (take 16 (c ∷ bytes))) refl code.0 b)
    node-leads end_of_cat r opens any m n code b = stays code (λ p g. refl)
    node-leads (cat first rest) r opens any m n code b =
        by (node-leads first r.0 opens any m code.0 code.1 b) (λ same. node-leads rest r.1 opens any code.0 n code.2 (subst (Begins opens) same b))
      where
        further : m ≡ code.0 → Stays first → Leads rest code.0 n → Leads (cat first rest) m n
        further same through (stays more stay) = stays (same ∙ more) (both-stay first rest through stay)
        further same through (leads some among) = leads some (rest-among first rest through among)

        by : Leads first m code.0 → (m ≡ code.0 → Leads rest code.0 n) → Leads (cat first rest) m n
        by (stays same through) more = further same through (more same)
        by (leads some among) more = leads some (first-among first rest among (alike rest code.0 n code.2))
    node-leads (alt left right) r opens any m n code b = absurd (other opens m (Alt (code.0.insn + 1)) refl code.1 b)
    node-leads (bracket contents) r opens any m n code b = absurd (bracket-not contents opens m n (is_uninverted_ascii_class contents) code b)
    node-leads (string_set strings icase) r opens any m n code b = strings-lead icase strings opens m n code b
    node-leads match_any r opens any m n code b = absurd (other opens m MatchAny refl code.0 b)
    node-leads match_any_except_line_terminator r opens any m n code b = absurd (other opens m MatchAnyExceptLineTerminator refl code.0 b)
    node-leads (anchor start_of_line multiline) r opens any m n code b = absurd (other opens m (StartOfLine multiline) refl code.0 b)
    node-leads (anchor end_of_line multiline) r opens any m n code b = absurd (other opens m (EndOfLine multiline) refl code.0 b)
    node-leads (word_boundary invert true) r opens any m n code b = absurd (other opens m (WordBoundaryUnicodeICase invert) refl code.0 b)
    node-leads (word_boundary invert false) r opens any m n code b = absurd (other opens m (WordBoundary invert) refl code.0 b)
    node-leads (capture_group id name contents) r zero any m n code b = absurd (not-both id least most greedy (sym code.1 ∙ b.0))
    node-leads (capture_group id name contents) r (suc opens) any m n code b =
        by (node-leads contents r.2 opens (λ some. any (omega arith)) (counters_after_insn m) code.0 code.2 b.2)
      where
        by : Leads contents (counters_after_insn m) code.0 → Leads (capture_group id name contents) m n
        by (stays same through) = absurd (other opens code.0 (EndCaptureGroup id) refl code.3.0 (subst (Begins opens) same b.2))
        by (leads some among) = leads some (group-among id name contents (any (omega arith)) among)
    node-leads (back_ref group icase) r opens any m n code b = absurd (other opens m (BackRef (group - 1) icase) refl code.0 b)
    node-leads (lookaround l contents) r opens any m n code b = absurd (other opens m (lookaround_insn l n.insn) (look-not l n.insn) code.1 b)
    node-leads (loop q first end loopee) r opens any m n code b =
        absurd (other opens m (EnterLoop (record { loop_id = m.loop; min_iters = q.min; max_iters = max_iterations q; greedy = q.greedy; exit = n.insn })) refl code.2.0 b)
    node-leads (loop_1_char_body q loopee) r (suc opens) any m n code b =
        absurd (not-both b.0 q.min (max_iterations q) q.greedy (sym b.1 ∙ code.0))
    node-leads (loop_1_char_body q loopee) r zero any m n code b =
        let reads = reads_one program text false loopee r.0 r.1 r.2 r.3 (counters_after_insn m) n code.1 in
        let runs : Some (Loop1CharBody q.min (max_iterations q) q.greedy) ≡ Some (Loop1CharBody least most greedy) = sym code.0 ∙ b.0 in
        let tests : Some reads.test ≡ found = sym reads.test_is ∙ b.1 in
        let bound : max_iterations q ≡ most = cc in
        let same : reads.test ≡ test = ap test_in tests in
        leads (subst (λ (o : Option (ℕ → Bool)). IsSome o) tests refl)
        (run-among q loopee r.0 (subst (λ (t : ℕ → Bool). Each (λ c. t c ≡ accepts loopee c) text.characters) same reads.same) (omega (arith, wide, bound)))

-- ---- Matches of a tree

no-outcome : (p : ℕ) (os : List Outcome) → first_outcome p os ≡ None → Each (λ o. ⊥) os
no-outcome p [] e = tt
no-outcome p (o ∷ os) e = cc

none-first : (p : ℕ) (os : List Outcome) → Each (λ o. ⊥) os → first_outcome p os ≡ None
none-first p [] h = refl
none-first p (o ∷ os) h = absurd h.0

-- No group is opened before the loop, or the program has no backreference.
abbrev pub GroupsMatter : Program → (opens : ℕ) → Type 0
GroupsMatter program opens = (opens ≡ 0) ⊎ HasNoBackrefs program

-- A test was found, and no match begins in the row of a place where none begins.
abbrev pub Along : Program → Tree → Text → (found : Option (ℕ → Bool)) → Type 0
Along program tree text found =
    IsSome found × ((p j : ℕ) → p ≤ last_place text → j ≤ prefix_len (test_in found) (nearest_first text rightwards p) → match_at tree.root text p ≡ None
    → match_at tree.root text (p + j) ≡ None)

module _ (program : Program) (tree : Tree) (text : Text) (can : TreeProgramCanSearchText program tree text) (least most : ℕ) (greedy : Bool)
    (wide : last_place text ≤ most) (opens : ℕ) (matter : GroupsMatter program opens) where
  module _ (found : Option (ℕ → Bool)) where
    ready : Ready text program.groups tree.root
    ready = subst (λ n. Ready text n tree.root) (sym can.code.groups) (root_ready text tree.root can.well_formed can.bytes)

    abbrev last : Counters
    last = record { insn = length program.insns; loop = program.loops; bracket = length program.brackets }

    module _ (Same : Groups → Groups → Type 0) (alike : (node : Node) (m n : Counters) → IsCode program false node m n → Alike text Same node)
        (each : (g : Groups) → Same g g) (any : 0 < opens → (g h : Groups) → Same g h)
        (begins : Begins program text found Same alike least most greedy wide opens counters_at_start) where
      by : Leads program text found Same alike least most greedy wide tree.root counters_at_start last → Along program tree text found
      by (stays same through) =
          absurd (nowhere opens counters_at_start (let z : length program.insns ≡ 0 = ap (λ (m : Counters). m.insn) (sym same) in omega (arith, z)) begins)
        where
          nowhere : (opens : ℕ) (m : Counters) → length program.insns ≤ m.insn → Begins program text found Same alike least most greedy wide opens m → ⊥
          nowhere zero m past b = let less = slice_get_within program.insns m.insn (Loop1CharBody least most greedy) b.0 in omega (arith, past, less)
          nowhere (suc opens) m past b = let less = slice_get_within program.insns m.insn (BeginCaptureGroup b.0) b.1 in omega (arith, past, less)
      by (leads some among) = (
        some,
        λ p j inside le none.
            none-first (p + j) (outcomes text tree.root rightwards (p + j) (no_groups tree.root))
            (among p j (no_groups tree.root) (no_groups tree.root) (λ o. ⊥) (each (no_groups tree.root)) (λ e g h s x. x) inside le
            (no-outcome p (outcomes text tree.root rightwards p (no_groups tree.root)) none)),
      )

      along : Along program tree text found
      along = by (node-leads program text found Same alike least most greedy wide tree.root ready opens any counters_at_start last can.code.code begins)

  -- If groups are opened before the loop, a failure extends along the loop.
  module _ (found : Option (ℕ → Bool)) (opened : (i : ℕ) → i < opens → (id : ℕ) × (slice_get program.insns i ≡ Some (BeginCaptureGroup id)))
      (run : slice_get program.insns opens ≡ Some (Loop1CharBody least most greedy)) (tested : test_of program (slice_get program.insns (opens + 1)) ≡ found) where
    begins : (Same : Groups → Groups → Type 0) (alike : (node : Node) (m n : Counters) → IsCode program false node m n → Alike text Same node)
        (left : ℕ) (m : Counters) → m.insn + left ≡ opens → Begins program text found Same alike least most greedy wide left m
    begins Same alike zero m is =
        let here : opens ≡ m.insn = omega (arith, is) in (
          subst (λ i. slice_get program.insns i ≡ Some (Loop1CharBody least most greedy)) here run,
          subst (λ i. test_of program (slice_get program.insns (i + 1)) ≡ found) here tested,
        )
    begins Same alike (suc left) m is =
        let o = opened m.insn (omega (arith, is)) in
        (o.0, o.1, begins Same alike left (counters_after_insn m) (omega (arith, is)))

    pub none-along : Along program tree text found
    none-along = by matter
      where
        by : GroupsMatter program opens → Along program tree text found
        by (inl zero_is) =
            let alike : (node : Node) (m n : Counters) → IsCode program false node m n → Alike text (λ g h. g ≡ h) node =
            λ node m n code p g h P same blind x. subst (λ g. Each P (outcomes text node rightwards p g)) same x in
            along found (λ g h. g ≡ h) alike (λ g. refl) (λ some. absurd (omega (arith, some, zero_is))) (begins (λ g h. g ≡ h) alike opens counters_at_start (omega arith))
        by (inr none) =
            let alike : (node : Node) (m n : Counters) → IsCode program false node m n → Alike text (λ g h. Unit {0}) node =
            λ node m n code p g h P same blind x. node-free program text none false node m n code rightwards p g h P (λ e g h y. blind e g h tt y) x in
            along found (λ g h. Unit {0}) alike (λ g. tt) (λ some g h. tt) (begins (λ g h. Unit {0}) alike opens counters_at_start (omega arith))
