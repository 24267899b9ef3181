-- The parser keeps its invariant as it reads, and a pattern that it refuses has no tree.
use Rattle.std.proofs.Common.{◌≡◌, ℕ, ◌+◌, ◌<◌, ◌≤◌, ◌⊎◌, inl, inr, Bool, true, false, List, [], ◌∷◌, ◌++◌, length, true≢false, ⊎_elim, nat_eq, refl, sym, ap, subst, ◌∙◌, arith, append_assoc}
use Rattle.std.proofs.Common.{append-nil, length-append, ◌↔◌, Some, None}
use Rattle.std.specs.Prelude.{codes, suc, slice_index_or, Option}
use Rattle.std.specs.Cmp.Lexicographic.{same_text}
use Rattle.std.proofs.lemmas.Cmp.{nat_list_eq_equiv}
use Rattle.std.proofs.lemmas.Bool.{false_from_ne_true}
use Rattle.std.proofs.lemmas.List.{get_or_append_left}
use Rattle.std.proofs.Math.Seq.{get_or-append_seam}
use lib.Pointwise.{pointwise}
use Rattle.regex_meaning.specs.Tree.{Node, Tree, Flags, Quantifier, goal, cat, end_of_cat, lookaround, loop, capture_group}
use Rattle.regex_meaning.specs.ReadingStatesAndDigits.{RemainingCodePoints, ParseState, PatternContext, number_of_opened_groups, state_with_text_left, begins_with_characters, group_number_of, arm}
use Rattle.regex_meaning.specs.EscapesNamesQuantifiers.{BeginsQuantifier, ValidQuantifier}
use Rattle.regex_meaning.specs.Grammar.{PatternDialect, Disjunction, Term, Assertion, Atom, assertion, repeated_assertion, atom, quantified, start, end, boundary, look, leaf, group, named_group}
use Rattle.regex_meaning.specs.Grammar.{plain_group, ParsesBy, pattern_is, AreDistinct, lookaround_opener, no_terms}
use Rattle.regex_meaning.specs.GroupOpeningScanWithoutParsing.{texts_after_parentheses, no_parenthesis}
use Rattle.regex_parser.specs.ParseStack.{PartialDisjunction, empty_disjunction, push_term, end_alternative, nest_alternatives, CompletesDisjunction, last_arm, OpenGroup, OpenGroupKind, captures}
use Rattle.regex_parser.specs.ParseStack.{plain, looks, IsTerm, once, repeated, ClosesGroup, looked, looked_repeatedly, captured, enclosed}
use Rattle.regex_parser.specs.ParserInvariants.{HasNoTreeIn, spec_pattern_context, parse_state, FindsGroups, CompletesTo, ParsesTo, AreOpenedNamesNumbered, IsParserInvariant}
use Rattle.regex_parser.specs.ScannedGroups.{ScansGroups, scans_nothing}
use Rattle.regex_meaning.proofs.EscapesAndNamesLemmas.{one_quantifier}
use Rattle.regex_meaning.proofs.DisjunctionReadingLemmas.{is_quantified, ends_here, places_differ, first, third, rest_of}
use Rattle.regex_meaning.proofs.GroupOpeningScanLemmas.{Ahead, Opens, past, past_group, past_named, past_plain, past_opener, groups-found}
use Rattle.regex_parser.proofs.ParseStackLemmas.{begin}
use Rattle.regex_parser.proofs.ParseStackStartAndEnd.{begin_all, bar_all, none_open}
use Rattle.regex_parser.proofs.GroupOpeningAndClosing.{leave, pushed_all, unpushed_all, enter}
use Rattle.regex_parser.proofs.LookaroundAndNameOpenings.{enter_named, enter_plain, enter_look}
use Rattle.regex_parser.proofs.SyntaxErrorLemmas.{unopened, no_term_here}
use Rattle.regex_parser.proofs.ScannedGroupsLemmas.{scanned-opened}
use Rattle.regex_parser.proofs.DialectRequirementLemmas.{IsReadable, FoundBehind, found-behind}

pub either : (a b : ℕ) → (a ≤ b) ⊎ (b < a)
either a b = grind arith

none-numbered : (names : List RemainingCodePoints) → AreOpenedNamesNumbered [] names
none-numbered names i d less = absurd (omega (arith, less))

-- No group opens between two texts with the same groups ahead.
pub no-groups : {S : PatternDialect} (opened : List RemainingCodePoints) {here there : RemainingCodePoints} → Ahead false here there → Opens S (parse_state here opened) (parse_state there opened)
no-groups opened e = record { texts = []; added = []; opened = sym (append-nil opened); found = e; are = no_parenthesis }

-- ---- Terms that parentheses make of their contents

one_term : {start : ℕ} {n m k : Node} {p q r : ParseState} → IsTerm start n p q m → IsTerm start n p r k → (q ≡ r) × (m ≡ k)
one_term (once h) (once g) = (refl, refl)
one_term (once h) (repeated {there = there} {quantifier = x} k) = absurd (h (is_quantified k))
one_term (repeated k) (once h) = absurd (h (is_quantified k))
one_term (repeated {there = a} {quantifier = x} k) (repeated {there = b} {quantifier = y} j) =
    let e = one_quantifier _ a b x y k j in rw (e.0, e.1) (refl, refl)

abbrev pub shape : OpenGroupKind → Node → ParseState → Node
shape (captures id name) c p = capture_group id name c
shape plain c p = c
shape (looks negate backwards from) c p = lookaround (record { negate = negate; backwards = backwards; start_group = from; end_group = number_of_opened_groups p }) c

-- `may_have_quantifier` tells whether a group of this kind may have a quantifier.
abbrev pub may_have_quantifier : PatternDialect → Flags → OpenGroupKind → Bool
may_have_quantifier S flags (captures id name) = true
may_have_quantifier S flags plain = true
may_have_quantifier S flags (looks negate backwards from) = S.may_repeat flags backwards

abbrev pub contents_of : PartialDisjunction → Node
contents_of l = nest_alternatives l.arms (arm l.in_lookbehind l.terms)

module _ {S : PatternDialect} {w : PatternContext} {o : OpenGroup} {c : Node} {p : ParseState} where
  to_term : {q : ParseState} {n : Node} → ClosesGroup S w o c p q n → IsTerm o.start (shape o.opened c p) p q n
  to_term (looked negate backwards from f alone) =
      subst (λ x. IsTerm o.start (shape x c p) p p (shape (looks negate backwards from) c p)) (sym f) (once alone)
  to_term (looked_repeatedly {there = there} {quantifier = k} negate backwards from f may h) =
      subst (λ x. IsTerm o.start (shape x c p) p (state_with_text_left there p) (loop k o.start (number_of_opened_groups p) (shape (looks negate backwards from) c p))) (sym f) (repeated h)
  to_term {q} {n} (captured f k) = subst (λ x. IsTerm o.start (shape x c p) p q n) (sym f) k
  to_term {q} {n} (enclosed f k) = subst (λ x. IsTerm o.start (shape x c p) p q n) (sym f) k

  closes-alone : {q : ParseState} {n : Node} → may_have_quantifier S w.flags o.opened ≡ false → ClosesGroup S w o c p q n → ¬ (BeginsQuantifier p.text)
  closes-alone e (looked negate backwards from f alone) = alone
  closes-alone e (looked_repeatedly negate backwards from f may h) = absurd (true≢false (sym may ∙ ap (may_have_quantifier S w.flags) (sym f) ∙ e))
  closes-alone e (captured f k) = absurd (true≢false (ap (may_have_quantifier S w.flags) (sym f) ∙ e))
  closes-alone e (enclosed f k) = absurd (true≢false (ap (may_have_quantifier S w.flags) (sym f) ∙ e))

  pub of_term : {q : ParseState} {n : Node} → may_have_quantifier S w.flags o.opened ≡ true → IsTerm o.start (shape o.opened c p) p q n → ClosesGroup S w o c p q n
  of_term e k = by o.opened refl e k
    where
      by : {q : ParseState} {n : Node} (x : OpenGroupKind) → o.opened ≡ x → may_have_quantifier S w.flags x ≡ true → IsTerm o.start (shape x c p) p q n → ClosesGroup S w o c p q n
      by (captures id name) f e k = captured f k
      by plain f e k = enclosed f k
      by (looks negate backwards from) f e (once h) = looked negate backwards from f h
      by (looks negate backwards from) f e (repeated h) = looked_repeatedly negate backwards from f e h

  pub of_alone : ¬ (BeginsQuantifier p.text) → ClosesGroup S w o c p p (shape o.opened c p)
  of_alone alone = by o.opened refl
    where
      by : (x : OpenGroupKind) → o.opened ≡ x → ClosesGroup S w o c p p (shape x c p)
      by (captures id name) f = captured f (once alone)
      by plain f = enclosed f (once alone)
      by (looks negate backwards from) f = looked negate backwards from f alone

one_closes : {S : PatternDialect} {w : PatternContext} {o : OpenGroup} {c n m : Node} {p q r : ParseState} → ClosesGroup S w o c p q n → ClosesGroup S w o c p r m → (q ≡ r) × (n ≡ m)
one_closes a b = one_term (to_term a) (to_term b)

-- ---- Names of groups

abbrev IsAt : (names : List RemainingCodePoints) → ℕ → RemainingCodePoints → Type 0
IsAt names j x = (x ≡ []) ⊎ (group_number_of x names ≡ Some (j + 1))

numbered-push : (opened names : List RemainingCodePoints) (name : RemainingCodePoints) → AreOpenedNamesNumbered opened names → (name ≡ []) ⊎ (group_number_of name names ≡ Some (length opened + 1))
    → AreOpenedNamesNumbered (opened ++ name ∷ []) names
numbered-push opened names name are is i d less = by (either i (length opened))
  where
    either : (a b : ℕ) → (a < b) ⊎ (b ≤ a)
    either a b = grind arith

    long : length (opened ++ name ∷ []) ≡ length opened + 1
    long = length-append opened (name ∷ [])

    by : (i < length opened) ⊎ (length opened ≤ i) → IsAt names i (slice_index_or (opened ++ name ∷ []) i d)
    by (inl k) = subst (IsAt names i) (sym (get_or_append_left opened (name ∷ []) d i k)) (are i d k)
    by (inr k) =
        let last : length opened ≡ i = omega (arith, k, less, long) in
        subst (λ j. IsAt names j (slice_index_or (opened ++ name ∷ []) j d)) last (subst (IsAt names (length opened)) (sym (get_or-append_seam opened name [] d)) is)

numbered-distinct : (names : List RemainingCodePoints) → AreOpenedNamesNumbered names names → AreDistinct names
numbered-distinct names are i j d less fits e = by (are i d (omega (arith, less, fits))) (are j d fits)
  where
    by : IsAt names i (slice_index_or names i d) → IsAt names j (slice_index_or names j d) → slice_index_or names i d ≡ []
    by (inl f) g = f
    by (inr f) (inl g) = e ∙ g
    by (inr f) (inr g) = let same : Some (i + 1) ≡ Some (j + 1) = sym f ∙ ap (λ x. group_number_of x names) e ∙ g in absurd (other same)
      where
        other : Some (i + 1) ≡ Some (j + 1) → ⊥
        other h = let k : i + 1 ≡ j + 1 = ap (λ o. elim o [ Some x ↦ x | None ↦ 0 ]) h in omega (arith, k, less)

self-same : (name : RemainingCodePoints) → pointwise nat_eq name name ≡ true
self-same name = nat_list_eq_equiv.refl name

first-number : (name : RemainingCodePoints) (xs ys : List RemainingCodePoints) → ((i : ℕ) (d : RemainingCodePoints) → i < length xs → slice_index_or xs i d ≡ name → ⊥)
    → group_number_of name (xs ++ name ∷ ys) ≡ Some (length xs + 1)
first-number name [] ys none = rw (self-same name) refl
first-number name (x ∷ xs) ys none =
    let differs : pointwise nat_eq name x ≡ false = false_from_ne_true _ (λ e. none 0 [] (omega arith) (sym (same_text name x (sym e)))) in
    let rest : group_number_of name (xs ++ name ∷ ys) ≡ Some (length xs + 1) = first-number name xs ys (λ i d less. none (suc i) d (omega (arith, less))) in
    rw (differs, rest) (ap Some (omega arith))

pub distinct-number : (names opened rest : List RemainingCodePoints) (name : RemainingCodePoints) → names ≡ opened ++ name ∷ rest → (name ≡ [] → ⊥) → AreDistinct names
    → group_number_of name names ≡ Some (length opened + 1)
distinct-number names opened rest name e some distinct =
    ap (group_number_of name) e ∙ first-number name opened rest no_other
  where
    long : length opened < length names
    long = let l : length names ≡ length opened + suc (length rest) = ap length e ∙ length-append opened (name ∷ rest) in omega (arith, l)

    no_other : (i : ℕ) (d : RemainingCodePoints) → i < length opened → slice_index_or opened i d ≡ name → ⊥
    no_other i d less f =
        let here : slice_index_or names i d ≡ name = ap (λ x. slice_index_or x i d) e ∙ get_or_append_left opened (name ∷ rest) d i less ∙ f in
        let there : slice_index_or names (length opened) d ≡ name = ap (λ x. slice_index_or x (length opened) d) e ∙ get_or-append_seam opened name rest d in
        some (sym here ∙ distinct i (length opened) d less long (here ∙ sym there))

-- ---- Steps

module _ {S : PatternDialect} (d : IsReadable S) {flags : Flags} {pattern : RemainingCodePoints} {names : List RemainingCodePoints} where
  makes-of : FindsGroups S pattern names → (t : Tree) → ParsesBy S flags pattern t → AreDistinct names × (n : Node) × ParsesTo S flags pattern names n
  makes-of scan t (pattern_is {n = n} groups e distinct) =
      let same : groups ≡ names = scanned-opened S d.one (groups-found S d.passed _ pattern groups n e) scan in
      let all : Disjunction S (spec_pattern_context flags names) false (parse_state pattern []) (parse_state [] names) n =
      subst (λ g. Disjunction S (spec_pattern_context flags g) false (parse_state pattern []) (parse_state [] g) n) same e in
      (subst AreDistinct same distinct, n, (begin S d.one (spec_pattern_context flags names) false (parse_state pattern []) _ n).0 all)

  -- If nothing completes what is read, the pattern has no tree.
  pub refused : {references groups : ℕ} {around : List OpenGroup} {level : PartialDisjunction} {here : RemainingCodePoints}
      → (s : IsParserInvariant S flags pattern names references groups around level here)
      → (references ≤ length names → AreDistinct names → (n : Node) → CompletesTo S flags names around level (parse_state here s.opened) n → ⊥)
      → HasNoTreeIn S flags pattern
  refused {references} s none t is = by (makes-of s.whole t is)
    where
      by : AreDistinct names × (n : Node) × ParsesTo S flags pattern names n → ⊥
      by h =
          ⊎_elim (λ less. none less h.0 h.1 ((s.same less h.1).0 h.2)) (λ more. s.none more h.1 h.2) (either references (length names))

  pub stands-begin : FindsGroups S pattern names → IsParserInvariant S flags pattern names 0 0 [] (empty_disjunction false) pattern
  stands-begin found =
      record {
        whole = found;
        opened = [];
        rest = names;
        count = refl;
        ahead = found;
        found = refl;
        numbered = none-numbered names;
        same = λ less n. (λ h. h, λ h. h);
        none = λ more n h. omega (arith, more);
      }

  module _ {old groups : ℕ} {around : List OpenGroup} {level : PartialDisjunction} {here : RemainingCodePoints} (s : IsParserInvariant S flags pattern names old groups around level here) where
    -- The groups found behind a place are those that remain after the groups that open before it.
    behind : (there : RemainingCodePoints) (opened : List RemainingCodePoints) → Opens S (parse_state here s.opened) (parse_state there opened)
        → (back : List RemainingCodePoints) × (names ≡ opened ++ back) × FindsGroups S there back
    behind there opened o =
        let k : FoundBehind S o.added (texts_after_parentheses false there) s.rest = found-behind d o.texts o.are (subst (λ x. ScansGroups S x s.rest) o.found s.ahead) in
        (k.back, s.found ∙ ap (λ x. s.opened ++ x) k.are ∙ sym (append_assoc s.opened o.added k.back) ∙ ap (λ x. x ++ k.back) (sym o.opened), k.behind)

    pub step : (new more : ℕ) (inner : List OpenGroup) (next : PartialDisjunction) (there : RemainingCodePoints) (opened : List RemainingCodePoints)
        → Opens S (parse_state here s.opened) (parse_state there opened)
        → length opened ≡ more
        → AreOpenedNamesNumbered opened names
        → old ≤ new
        → (new ≤ length names → (n : Node) → CompletesTo S flags names inner next (parse_state there opened) n ↔ CompletesTo S flags names around level (parse_state here s.opened) n)
        → (length names < new → (length names < old) ⊎ ((n : Node) → CompletesTo S flags names around level (parse_state here s.opened) n → ⊥))
        → IsParserInvariant S flags pattern names new more inner next there
    step new more inner next there opened o count numbered grows goes none =
        let k = behind there opened o in
        record {
          whole = s.whole;
          opened = opened;
          rest = k.0;
          count = count;
          ahead = k.2;
          found = k.1;
          numbered = numbered;
          same = λ less n. (λ h. (goes less n).1 ((s.same (omega (arith, less, grows)) n).0 h), λ h. (s.same (omega (arith, less, grows)) n).1 ((goes less n).0 h));
          none = λ past n h. ⊎_elim (λ k. s.none k n h) (λ k. by k n h) (none past);
        }
      where
        by : ((n : Node) → CompletesTo S flags names around level (parse_state here s.opened) n → ⊥) → (n : Node) → ParsesTo S flags pattern names n → ⊥
        by k n h =
            ⊎_elim (λ less. k n ((s.same less n).0 h)) (λ past. s.none past n h) (either old (length names))

    -- A step that keeps the opened groups, the references and what completes keeps the invariant.
    pub stays : (inner : List OpenGroup) (next : PartialDisjunction) (there : RemainingCodePoints) → Opens S (parse_state here s.opened) (parse_state there s.opened)
        → ((n : Node) → CompletesTo S flags names inner next (parse_state there s.opened) n ↔ CompletesTo S flags names around level (parse_state here s.opened) n)
        → IsParserInvariant S flags pattern names old groups inner next there
    stays inner next there o goes =
        step old groups inner next there s.opened o s.count s.numbered (omega arith) (λ less n. goes n) (λ past. inl past)

    -- A term without groups that is added to the level keeps the invariant.
    pub stands-term : (new : ℕ) (there : RemainingCodePoints) (t : Node)
        → Ahead false here there
        → old ≤ new
        → (new ≤ length names → Term S (spec_pattern_context flags names) level.in_lookbehind (parse_state here s.opened) (parse_state there s.opened) t)
        → (length names < new → (length names < old) ⊎ ((n : Node) → CompletesTo S flags names around level (parse_state here s.opened) n → ⊥))
        → IsParserInvariant S flags pattern names new groups around (push_term t level) there
    stands-term new there t ahead grows is none =
        step new groups around (push_term t level) there s.opened (no-groups s.opened ahead) s.count s.numbered grows
        (λ less n. (λ h. pushed_all S d.one (spec_pattern_context flags names) names around level n (is less) h, λ h. unpushed_all S d.one (spec_pattern_context flags names) names around level n (is less) h))
        none

    -- A pattern has no tree if no term begins at a place where no alternative ends.
    pub no-term : ends_here here ≡ false → ((q : ParseState) (m : Node) → Term S (spec_pattern_context flags names) level.in_lookbehind (parse_state here s.opened) q m → ⊥) → HasNoTreeIn S flags pattern
    no-term more none = refused s (λ l distinct n h. no_term_here S d.one (spec_pattern_context flags names) names around level n more none h)

  pub stands-bar : {references groups : ℕ} {around : List OpenGroup} {level : PartialDisjunction} {there : RemainingCodePoints}
      → IsParserInvariant S flags pattern names references groups around level (124 ∷ there) → IsParserInvariant S flags pattern names references groups around (end_alternative level) there
  stands-bar {around = around} {level = level} {there = there} s =
      stays s around (end_alternative level) there (no-groups s.opened (past false 124 there refl)) (λ n. bar_all S d.one (spec_pattern_context flags names) names around level n refl)

  -- ---- Closing parentheses

  pub stands-leave : {references groups : ℕ} {o : OpenGroup} {around : List OpenGroup} {level : PartialDisjunction} {here : RemainingCodePoints}
      → (s : IsParserInvariant S flags pattern names references groups (o ∷ around) level (41 ∷ here)) → (there : RemainingCodePoints) (t : Node)
      → Ahead false here there
      → ClosesGroup S (spec_pattern_context flags names) o (contents_of level) (parse_state here s.opened) (parse_state there s.opened) t
      → IsParserInvariant S flags pattern names references groups around (push_term t o.outer) there
  stands-leave {o = o} {around = around} {level = level} {here = here} s there t ahead closes =
      stays s around (push_term t o.outer) there (no-groups s.opened (past false 41 here refl ∙ ahead))
      (λ n. (λ h. (l n).1 (parse_state there s.opened, t, closes, h), λ h. from n ((l n).0 h)))
    where
      l : (n : Node) → CompletesTo S flags names (o ∷ around) level (parse_state (41 ∷ here) s.opened) n
          ↔ ((q : ParseState) × (m : Node) × ClosesGroup S (spec_pattern_context flags names) o (contents_of level) (parse_state here s.opened) q m × CompletesTo S flags names around (push_term m o.outer) q n)
      l n = leave S d.one (spec_pattern_context flags names) level {p = parse_state (41 ∷ here) s.opened} {r = parse_state here s.opened} refl names o around n

      from : (n : Node) → (q : ParseState) × (m : Node) × ClosesGroup S (spec_pattern_context flags names) o (contents_of level) (parse_state here s.opened) q m × CompletesTo S flags names around (push_term m o.outer) q n
          → CompletesTo S flags names around (push_term t o.outer) (parse_state there s.opened) n
      from n k =
          let e = one_closes k.2 closes in
          subst (λ x. CompletesTo S flags names around (push_term t o.outer) x n) e.0 (subst (λ m. CompletesTo S flags names around (push_term m o.outer) k.0 n) e.1 k.3)

  -- A pattern in which a parenthesis closes while none is open has no tree.
  pub none-opened : {references groups : ℕ} {level : PartialDisjunction} {here : RemainingCodePoints} → IsParserInvariant S flags pattern names references groups [] level (41 ∷ here) → HasNoTreeIn S flags pattern
  none-opened {level = level} {here = here} s =
      refused s (λ l distinct n h. unopened S d.one (spec_pattern_context flags names) names level n {p = parse_state (41 ∷ here) s.opened} {r = parse_state here s.opened} refl h)

  module _ {references groups : ℕ} {o : OpenGroup} {around : List OpenGroup} {level : PartialDisjunction} {here : RemainingCodePoints} (s : IsParserInvariant S flags pattern names references groups (o ∷ around) level (41 ∷ here)) where
    closing : (n : Node) → CompletesTo S flags names (o ∷ around) level (parse_state (41 ∷ here) s.opened) n
        → (q : ParseState) × (m : Node) × ClosesGroup S (spec_pattern_context flags names) o (contents_of level) (parse_state here s.opened) q m × CompletesTo S flags names around (push_term m o.outer) q n
    closing n h = (leave S d.one (spec_pattern_context flags names) level {p = parse_state (41 ∷ here) s.opened} {r = parse_state here s.opened} refl names o around n).0 h

    -- A pattern with an invalid quantifier behind a group has no tree.
    pub group-repeated : BeginsQuantifier here → ((end : RemainingCodePoints) (x : Quantifier) → ValidQuantifier here end x → ⊥) → HasNoTreeIn S flags pattern
    group-repeated is none = refused s (λ l distinct n h. let k = closing n h in wrong (to_term k.2))
      where
        wrong : {m k : Node} {q : ParseState} → IsTerm o.start m (parse_state here s.opened) q k → ⊥
        wrong (once h) = h is
        wrong (repeated {there = after} {quantifier = x} h) = none after x h

    -- A pattern with a quantifier behind a group that may have none has no tree.
    pub not-repeated : may_have_quantifier S flags o.opened ≡ false → BeginsQuantifier here → HasNoTreeIn S flags pattern
    not-repeated e is = refused s (λ l distinct n h. let k = closing n h in closes-alone e k.2 is)

  -- ---- Opening parentheses

  pub stands-group : {references groups : ℕ} {around : List OpenGroup} {level : PartialDisjunction} {here : RemainingCodePoints}
      → IsParserInvariant S flags pattern names references groups around level (40 ∷ here) → begins_with_characters "?" here ≡ false
      → IsParserInvariant S flags pattern names references (groups + 1) (record { outer = level; opened = captures groups []; start = groups } ∷ around) (empty_disjunction level.in_lookbehind) here
  stands-group {references} {groups} {around} {level} {here} s none =
      step s references (groups + 1) (record { outer = level; opened = captures groups []; start = groups } ∷ around) (empty_disjunction level.in_lookbehind) here (s.opened ++ [] ∷ [])
      (past_group S {p = parse_state (40 ∷ here) s.opened} {q = parse_state here s.opened} refl none)
      (length-append s.opened ([] ∷ []) ∙ ap (λ x. x + 1) s.count) (numbered-push s.opened names [] s.numbered (inl refl)) (omega arith)
      (λ less n.
      subst (λ g. CompletesTo S flags names (record { outer = level; opened = captures g []; start = g } ∷ around) (empty_disjunction level.in_lookbehind) (parse_state here (s.opened ++ [] ∷ [])) n
      ↔ CompletesTo S flags names around level (parse_state (40 ∷ here) s.opened) n) s.count
      (enter S d.one (spec_pattern_context flags names) names level around n {p = parse_state (40 ∷ here) s.opened} {q = parse_state here s.opened} refl none))
      (λ past. inl past)

  pub stands-named : {references groups : ℕ} {around : List OpenGroup} {level : PartialDisjunction} {here : RemainingCodePoints}
      → IsParserInvariant S flags pattern names references groups around level (40 ∷ 63 ∷ 60 ∷ here) → {there name : RemainingCodePoints} → S.group_name here there name
      → group_number_of name names ≡ Some (groups + 1)
      → IsParserInvariant S flags pattern names references (groups + 1) (record { outer = level; opened = captures groups name; start = groups } ∷ around) (empty_disjunction level.in_lookbehind) there
  stands-named {references} {groups} {around} {level} {here} s {there} {name} is number =
      step s references (groups + 1) (record { outer = level; opened = captures groups name; start = groups } ∷ around) (empty_disjunction level.in_lookbehind) there (s.opened ++ name ∷ [])
      (past_named S d.passed {p = parse_state (40 ∷ 63 ∷ 60 ∷ here) s.opened} {q = parse_state here s.opened} refl is)
      (length-append s.opened (name ∷ []) ∙ ap (λ x. x + 1) s.count) (numbered-push s.opened names name s.numbered (inr (rw s.count number))) (omega arith)
      (λ less n.
      subst (λ g. CompletesTo S flags names (record { outer = level; opened = captures g name; start = g } ∷ around) (empty_disjunction level.in_lookbehind) (parse_state there (s.opened ++ name ∷ [])) n
      ↔ CompletesTo S flags names around level (parse_state (40 ∷ 63 ∷ 60 ∷ here) s.opened) n) s.count
      (enter_named S d.one (spec_pattern_context flags names) names level around n {p = parse_state (40 ∷ 63 ∷ 60 ∷ here) s.opened} {q = parse_state here s.opened} refl is))
      (λ past. inl past)

  pub stands-plain : {references groups : ℕ} {around : List OpenGroup} {level : PartialDisjunction} {here : RemainingCodePoints}
      → IsParserInvariant S flags pattern names references groups around level (40 ∷ 63 ∷ 58 ∷ here)
      → IsParserInvariant S flags pattern names references groups (record { outer = level; opened = plain; start = groups } ∷ around) (empty_disjunction level.in_lookbehind) here
  stands-plain {references} {groups} {around} {level} {here} s =
      stays s (record { outer = level; opened = plain; start = groups } ∷ around) (empty_disjunction level.in_lookbehind) here
      (past_plain S {p = parse_state (40 ∷ 63 ∷ 58 ∷ here) s.opened} {q = parse_state here s.opened} refl)
      (λ n.
      subst (λ g. CompletesTo S flags names (record { outer = level; opened = plain; start = g } ∷ around) (empty_disjunction level.in_lookbehind) (parse_state here s.opened) n
      ↔ CompletesTo S flags names around level (parse_state (40 ∷ 63 ∷ 58 ∷ here) s.opened) n) s.count
      (enter_plain S d.one (spec_pattern_context flags names) names level around n {p = parse_state (40 ∷ 63 ∷ 58 ∷ here) s.opened} {q = parse_state here s.opened} refl))

  pub stands-look : {references groups : ℕ} {around : List OpenGroup} {level : PartialDisjunction} {here : RemainingCodePoints} (negate backwards : Bool)
      → IsParserInvariant S flags pattern names references groups around level (codes (lookaround_opener negate backwards) ++ here)
      → IsParserInvariant S flags pattern names references groups (record { outer = level; opened = looks negate backwards groups; start = groups } ∷ around) (empty_disjunction backwards) here
  stands-look {references} {groups} {around} {level} {here} negate backwards s =
      stays s (record { outer = level; opened = looks negate backwards groups; start = groups } ∷ around) (empty_disjunction backwards) here
      (past_opener S negate backwards {p = parse_state (codes (lookaround_opener negate backwards) ++ here) s.opened} {q = parse_state here s.opened} refl)
      (λ n.
      subst (λ g. CompletesTo S flags names (record { outer = level; opened = looks negate backwards g; start = g } ∷ around) (empty_disjunction backwards) (parse_state here s.opened) n
      ↔ CompletesTo S flags names around level (parse_state (codes (lookaround_opener negate backwards) ++ here) s.opened) n) s.count
      (enter_look S d.one (spec_pattern_context flags names) names level around n negate backwards {p = parse_state (codes (lookaround_opener negate backwards) ++ here) s.opened} {q = parse_state here s.opened} refl))

  -- A pattern in which none of `:`, `<`, `!` and `=` follows `(?` has no tree.
  pub no-opening : {references groups : ℕ} {around : List OpenGroup} {level : PartialDisjunction} {rest : RemainingCodePoints}
      → IsParserInvariant S flags pattern names references groups around level (40 ∷ 63 ∷ rest)
      → ((x : RemainingCodePoints) → rest ≡ 58 ∷ x → ⊥) → ((x : RemainingCodePoints) → rest ≡ 60 ∷ x → ⊥) → ((x : RemainingCodePoints) → rest ≡ 33 ∷ x → ⊥) → ((x : RemainingCodePoints) → rest ≡ 61 ∷ x → ⊥)
      → HasNoTreeIn S flags pattern
  no-opening {around = around} {level = level} {rest = rest} s colon less not_sign equals =
      refused s (λ l distinct n h. no_term_here S d.one (spec_pattern_context flags names) names around level n refl (λ q m. no_term) h)
    where
      behind : {x : RemainingCodePoints} → 40 ∷ 63 ∷ rest ≡ x → rest ≡ rest_of (rest_of x)
      behind e = ap (λ x. rest_of (rest_of x)) e

      no_atom : {w : PatternContext} {b : Bool} {q : ParseState} {m : Node} → Atom S w b (parse_state (40 ∷ 63 ∷ rest) s.opened) q m → ⊥
      no_atom {w} (leaf a) = true≢false (sym (d.one.leaf_apart w _ _ _ a))
      no_atom (group e f d g) = true≢false (subst (λ x. begins_with_characters "?" x ≡ false) (sym (ap (λ x. rest_of x.text) e)) f)
      no_atom (named_group {q = q} e d f g) = less q.text (behind (ap (λ x. x.text) e))
      no_atom (plain_group {q = q} e d g) = colon q.text (behind (ap (λ x. x.text) e))

      no_assertion : {w : PatternContext} {q : ParseState} {m : Node} → Assertion S w (parse_state (40 ∷ 63 ∷ rest) s.opened) q m → ⊥
      no_assertion (start e) = places_differ first refl e refl
      no_assertion (end e) = places_differ first refl e refl
      no_assertion (boundary true e) = places_differ first refl e refl
      no_assertion (boundary false e) = places_differ first refl e refl
      no_assertion (look {q = q} false false e d g) = equals q.text (behind (ap (λ x. x.text) e))
      no_assertion (look {q = q} true false e d g) = not_sign q.text (behind (ap (λ x. x.text) e))
      no_assertion (look {q = q} false true e d g) = less (61 ∷ q.text) (behind (ap (λ x. x.text) e))
      no_assertion (look {q = q} true true e d g) = less (33 ∷ q.text) (behind (ap (λ x. x.text) e))

      no_term : {w : PatternContext} {b : Bool} {q : ParseState} {m : Node} → Term S w b (parse_state (40 ∷ 63 ∷ rest) s.opened) q m → ⊥
      no_term (assertion a k) = no_assertion a
      no_term (repeated_assertion a may k) = no_assertion a
      no_term (atom a k) = no_atom a
      no_term (quantified a k) = no_atom a

  -- A pattern in which neither `!`, `=` nor the name of a group follows `(?<` has no tree.
  pub no-name : {references groups : ℕ} {around : List OpenGroup} {level : PartialDisjunction} {rest : RemainingCodePoints}
      → IsParserInvariant S flags pattern names references groups around level (40 ∷ 63 ∷ 60 ∷ rest)
      → ((x : RemainingCodePoints) → rest ≡ 33 ∷ x → ⊥) → ((x : RemainingCodePoints) → rest ≡ 61 ∷ x → ⊥) → (AreDistinct names → (there name : RemainingCodePoints) → S.group_name rest there name → ⊥)
      → HasNoTreeIn S flags pattern
  no-name {around = around} {level = level} {rest = rest} s not_sign equals name =
      refused s (λ l distinct n h. no_term_here S d.one (spec_pattern_context flags names) names around level n refl (λ q m. no_term (name distinct)) h)
    where
      behind : {x : RemainingCodePoints} → 40 ∷ 63 ∷ 60 ∷ rest ≡ x → rest ≡ rest_of (rest_of (rest_of x))
      behind e = ap (λ x. rest_of (rest_of (rest_of x))) e

      no_atom : ((there name : RemainingCodePoints) → S.group_name rest there name → ⊥) → {w : PatternContext} {b : Bool} {q : ParseState} {m : Node} → Atom S w b (parse_state (40 ∷ 63 ∷ 60 ∷ rest) s.opened) q m → ⊥
      no_atom none {w} (leaf a) = true≢false (sym (d.one.leaf_apart w _ _ _ a))
      no_atom none (group e f d g) = true≢false (subst (λ x. begins_with_characters "?" x ≡ false) (sym (ap (λ x. rest_of x.text) e)) f)
      no_atom none (named_group {q = q} {there = there} {name = n} e d f g) = none there n (subst (λ x. S.group_name x there n) (sym (behind (ap (λ x. x.text) e))) d)
      no_atom none (plain_group e d g) = places_differ third refl e refl

      no_assertion : {w : PatternContext} {q : ParseState} {m : Node} → Assertion S w (parse_state (40 ∷ 63 ∷ 60 ∷ rest) s.opened) q m → ⊥
      no_assertion (start e) = places_differ first refl e refl
      no_assertion (end e) = places_differ first refl e refl
      no_assertion (boundary true e) = places_differ first refl e refl
      no_assertion (boundary false e) = places_differ first refl e refl
      no_assertion (look false false e d g) = places_differ third refl e refl
      no_assertion (look true false e d g) = places_differ third refl e refl
      no_assertion (look {q = q} false true e d g) = equals q.text (behind (ap (λ x. x.text) e))
      no_assertion (look {q = q} true true e d g) = not_sign q.text (behind (ap (λ x. x.text) e))

      no_term : ((there name : RemainingCodePoints) → S.group_name rest there name → ⊥) → {w : PatternContext} {b : Bool} {q : ParseState} {m : Node} → Term S w b (parse_state (40 ∷ 63 ∷ 60 ∷ rest) s.opened) q m → ⊥
      no_term none (assertion a k) = no_assertion a
      no_term none (repeated_assertion a may k) = no_assertion a
      no_term none (atom a k) = no_atom none a
      no_term none (quantified a k) = no_atom none a

  -- A pattern in which a name behind `(?<` does not have the number of its group has no tree.
  pub wrong-name : {references groups : ℕ} {around : List OpenGroup} {level : PartialDisjunction} {rest : RemainingCodePoints}
      → IsParserInvariant S flags pattern names references groups around level (40 ∷ 63 ∷ 60 ∷ rest)
      → ((x : RemainingCodePoints) → rest ≡ 33 ∷ x → ⊥) → ((x : RemainingCodePoints) → rest ≡ 61 ∷ x → ⊥)
      → (numbers : RemainingCodePoints → Option ℕ) → ((here there name : RemainingCodePoints) → S.group_name here there name → numbers name ≡ group_number_of name names)
      → ((there name : RemainingCodePoints) → S.group_name rest there name → numbers name ≡ Some (groups + 1) → ⊥)
      → HasNoTreeIn S flags pattern
  wrong-name {groups = groups} {rest = rest} s not_sign equals numbers are none =
      no-name s not_sign equals (λ distinct there name is. none there name is (are rest there name is ∙ number distinct is ∙ ap (λ x. Some (x + 1)) s.count))
    where
      number : AreDistinct names → {there name : RemainingCodePoints} → S.group_name rest there name → group_number_of name names ≡ Some (length s.opened + 1)
      number distinct {there} {name} is =
          let k = behind s there (s.opened ++ name ∷ []) (past_named S d.passed {p = parse_state (40 ∷ 63 ∷ 60 ∷ rest) s.opened} {q = parse_state rest s.opened} refl is) in
          distinct-number names s.opened k.0 name (k.1 ∙ append_assoc s.opened (name ∷ []) k.0) (d.some_name rest there name is) distinct

  -- ---- The end of the pattern

  pub all-opened : {references groups : ℕ} {around : List OpenGroup} {level : PartialDisjunction} → (s : IsParserInvariant S flags pattern names references groups around level []) → names ≡ s.opened
  unfolding texts_after_parentheses
  all-opened s = s.found ∙ ap (λ x. s.opened ++ x) (nothing-ahead s.ahead) ∙ append-nil s.opened
    where
      nothing-ahead : {rest : List RemainingCodePoints} → ScansGroups S [] rest → rest ≡ []
      nothing-ahead scans_nothing = refl

  pub stands-end : {references groups : ℕ} {level : PartialDisjunction} → IsParserInvariant S flags pattern names references groups [] level [] → references ≤ groups
      → ParsesBy S flags pattern (record { root = cat (contents_of level) (cat goal end_of_cat); flags = flags })
  stands-end {references} {groups} {level} s within =
      let many : length names ≡ groups = ap length (all-opened s) ∙ s.count in
      let complete : CompletesDisjunction S (spec_pattern_context flags names) level (parse_state [] s.opened) (parse_state [] s.opened) (contents_of level) =
      subst (λ x. CompletesDisjunction S (spec_pattern_context flags names) level (parse_state [] s.opened) (parse_state [] s.opened) (nest_alternatives level.arms (arm level.in_lookbehind x))) (append-nil level.terms) (last_arm no_terms) in
      let ended : CompletesTo S flags names [] level (parse_state [] s.opened) (contents_of level) =
      subst (λ x. CompletesDisjunction S (spec_pattern_context flags names) level (parse_state [] s.opened) (parse_state [] x) (contents_of level)) (sym (all-opened s)) complete in
      let makes : ParsesTo S flags pattern names (contents_of level) = (s.same (omega (arith, many, within)) (contents_of level)).1 ended in
      begin_all S d.one flags pattern names (contents_of level) makes (numbered-distinct names (subst (λ x. AreOpenedNamesNumbered x names) (sym (all-opened s)) s.numbered))

  -- A pattern at whose end a parenthesis is open has no tree.
  pub still-open : {references groups : ℕ} {o : OpenGroup} {around : List OpenGroup} {level : PartialDisjunction} → IsParserInvariant S flags pattern names references groups (o ∷ around) level [] → HasNoTreeIn S flags pattern
  still-open {o = o} {around = around} {level = level} s =
      refused s (λ l distinct n h. none_open S d.one (spec_pattern_context flags names) names level {p = parse_state [] s.opened} refl o around n h)

  -- A pattern with a reference past all groups has no tree.
  pub past-groups : {references groups : ℕ} {around : List OpenGroup} {level : PartialDisjunction} → IsParserInvariant S flags pattern names references groups around level [] → groups < references → HasNoTreeIn S flags pattern
  past-groups {references} {groups} s past =
      let many : length names ≡ groups = ap length (all-opened s) ∙ s.count in
      refused s (λ l distinct n h. omega (arith, l, many, past))

  -- A pattern in which more groups have opened than the scan found has no tree.
  pub past-most : {references groups : ℕ} {around : List OpenGroup} {level : PartialDisjunction} {here : RemainingCodePoints} → IsParserInvariant S flags pattern names references groups around level here → length names < groups → HasNoTreeIn S flags pattern
  past-most {groups = groups} s many =
      let l : length names ≡ length s.opened + length s.rest = ap length s.found ∙ length-append s.opened s.rest in
      let c : length s.opened ≡ groups = s.count in
      absurd (omega (arith, l, c, many))
