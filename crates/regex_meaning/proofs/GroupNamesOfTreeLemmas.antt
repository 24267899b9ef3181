-- The group names of a pattern's tree are the names that the scan finds in the pattern.
use Rattle.std.proofs.Common.{◌≡◌, ℕ, zero, suc, ◌+◌, ◌<◌, Bool, true, false, ◌||◌, List, [], ◌∷◌, ◌++◌, length, map, get_or, reverse, true≢false, refl, sym, ap, ◌∙◌, arith, append_assoc, append-nil}
use Rattle.std.specs.Prelude.{if◌then◌else◌, nat_eq, ◌==◌}
use Rattle.std.specs.List.{list_all}
use Rattle.std.proofs.lemmas.Bool.{eqb-true, eq-eqb, ne_eqb, and_parts, and_from}
use Rattle.std.proofs.lemmas.List.{length-map, ext_get_or, map-append}
use Rattle.std.proofs.Math.Seq.{get_or-append_seam}
use Rattle.regex_meaning.specs.NumberListHelpers.{contains, numbers_from}
use Rattle.regex_meaning.specs.Tree.{Node, goal, cat, end_of_cat, alt, capture_group, lookaround, loop, loop_1_char_body, group_ids}
use Rattle.regex_meaning.specs.MatchGroupsByNumberAndName.{capturing_group_ids_and_names, group_name_of_id, group_names_by_id}
use Rattle.regex_meaning.specs.Laws.{Each}
use Rattle.regex_meaning.proofs.EachElementLemmas.{Each-append, Each-reverse}
use Rattle.regex_meaning.proofs.BoolLemmas.{same-truth}
use Rattle.regex_meaning.proofs.ListLemmas.{length-numbers_from}
use Rattle.regex_meaning.specs.ReadingStatesAndDigits.{RemainingCodePoints, ParseState, PatternContext, number_of_opened_groups, state_with_text_left, with_opened_group, arm, sequence_node}
use Rattle.regex_meaning.specs.Grammar.{PatternDialect, profile, Disjunction, Alternative, Term, Assertion, Atom, last_alternative, alternatives, no_terms, terms, assertion, repeated_assertion, atom}
use Rattle.regex_meaning.specs.Grammar.{quantified, start, end, boundary, look, leaf, group, named_group, plain_group, pattern_is}
use Rattle.regex_meaning.specs.GrammarLaws.{ScanFindsGroupNames}
use Rattle.regex_meaning.proofs.SubtreeInvariantsLemmas.{contains-counted, once-inside}
use Rattle.regex_meaning.proofs.GroupNameScanLemmas.{scan_finds_opened_group_names}
use Rattle.regex_meaning.proofs.PatternTreeLemmas.{AtomsAreSound, atoms-are-sound, part-disjunction}

abbrev Names : Type 0
Names = List RemainingCodePoints

-- ---- Groups that have opened stay

record Later (p q : ParseState) : Type 0 where
  pub added : Names
  pub opened : q.opened ≡ p.opened ++ added

stays : {p q : ParseState} → q.opened ≡ p.opened → Later p q
stays {p} e = record { added = []; opened = e ∙ sym (append-nil p.opened) }

then-later : {p q r : ParseState} → Later p q → Later q r → Later p r
then-later {p} a b = record { added = a.added ++ b.added; opened = b.opened ∙ ap (λ x. x ++ b.added) a.opened ∙ append_assoc p.opened a.added b.added }

opens : {p q : ParseState} (name : RemainingCodePoints) → q.opened ≡ p.opened ++ name ∷ [] → Later p q
opens name e = record { added = name ∷ []; opened = e }

back : {p q : ParseState} → p.opened ≡ q.opened → Later p q
back e = stays (sym e)

mutual
  later-disjunction : {S : PatternDialect} {w : PatternContext} {in_lookbehind : Bool} {p q : ParseState} {n : Node} → Disjunction S w in_lookbehind p q n → Later p q
  later-disjunction (last_alternative a) = later-alternative a
  later-disjunction (alternatives a bar d) = then-later (later-alternative a) (then-later (back (ap (λ x. x.opened) bar)) (later-disjunction d))

  later-alternative : {S : PatternDialect} {w : PatternContext} {in_lookbehind : Bool} {p q : ParseState} {ns : List Node} → Alternative S w in_lookbehind p q ns → Later p q
  later-alternative no_terms = stays refl
  later-alternative (terms t a) = then-later (later-term t) (later-alternative a)

  later-term : {S : PatternDialect} {w : PatternContext} {in_lookbehind : Bool} {p q : ParseState} {n : Node} → Term S w in_lookbehind p q n → Later p q
  later-term (assertion a k) = later-assertion a
  later-term (repeated_assertion a may k) = then-later (later-assertion a) (stays refl)
  later-term (atom a k) = later-atom a
  later-term (quantified a k) = then-later (later-atom a) (stays refl)

  later-assertion : {S : PatternDialect} {w : PatternContext} {p q : ParseState} {n : Node} → Assertion S w p q n → Later p q
  later-assertion (start e) = back (ap (λ x. x.opened) e)
  later-assertion (end e) = back (ap (λ x. x.opened) e)
  later-assertion (boundary invert e) = back (ap (λ x. x.opened) e)
  later-assertion (look negate backwards e d f) = then-later (back (ap (λ x. x.opened) e)) (then-later (later-disjunction d) (back (ap (λ x. x.opened) f)))

  later-atom : {S : PatternDialect} {w : PatternContext} {in_lookbehind : Bool} {p q : ParseState} {n : Node} → Atom S w in_lookbehind p q n → Later p q
  later-atom (leaf a) = stays refl
  later-atom (group e o d f) = then-later (opens [] (ap (λ x. x.opened ++ [] ∷ []) (sym e))) (then-later (later-disjunction d) (back (ap (λ x. x.opened) f)))
  later-atom (named_group {name = name} e g d f) = then-later (opens name (ap (λ x. x.opened ++ name ∷ []) (sym e))) (then-later (later-disjunction d) (back (ap (λ x. x.opened) f)))
  later-atom (plain_group e d f) = then-later (back (ap (λ x. x.opened) e)) (then-later (later-disjunction d) (back (ap (λ x. x.opened) f)))

-- ---- Each group's name is the one at its id

-- The names begin with those of the groups that have opened.
abbrev GoesOn : (names opened : Names) → Type 0
GoesOn names opened = (rest : Names) × (names ≡ opened ++ rest)

before : {names : Names} {p q : ParseState} → Later p q → GoesOn names q.opened → GoesOn names p.opened
before {p = p} l g = (l.added ++ g.0, g.1 ∙ ap (λ x. x ++ g.0) l.opened ∙ append_assoc p.opened l.added g.0)

record Stands (names : Names) (named : ℕ × RemainingCodePoints) : Type 0 where
  pub left : Names
  pub right : Names
  pub whole : names ≡ left ++ named.1 ∷ right
  pub id : named.0 ≡ length left

abbrev AreNamed : Names → Node → Type 0
AreNamed names n = Each (Stands names) (capturing_group_ids_and_names n)

abbrev pub ids_of : List (ℕ × RemainingCodePoints) → List ℕ
ids_of named = map (λ n. n.0) named

pub named_ids-ids : (n : Node) → ids_of (capturing_group_ids_and_names n) ≡ group_ids n
named_ids-ids (cat a b) = map-append (λ n. n.0) (capturing_group_ids_and_names a) (capturing_group_ids_and_names b) ∙ ap (λ xs. xs ++ ids_of (capturing_group_ids_and_names b)) (named_ids-ids a) ∙ ap (λ ys. group_ids a ++ ys) (named_ids-ids b)
named_ids-ids (alt a b) = map-append (λ n. n.0) (capturing_group_ids_and_names a) (capturing_group_ids_and_names b) ∙ ap (λ xs. xs ++ ids_of (capturing_group_ids_and_names b)) (named_ids-ids a) ∙ ap (λ ys. group_ids a ++ ys) (named_ids-ids b)
named_ids-ids (capture_group id name contents) = ap (λ xs. id ∷ xs) (named_ids-ids contents)
named_ids-ids (lookaround l contents) = named_ids-ids contents
named_ids-ids (loop q s e contents) = named_ids-ids contents
named_ids-ids (loop_1_char_body q contents) = named_ids-ids contents
named_ids-ids _ = refl

-- In a node without group ids, no group has a wrong name.
unnamed : (names : Names) (n : Node) → group_ids n ≡ [] → AreNamed names n
unnamed names n e = by (capturing_group_ids_and_names n) (named_ids-ids n ∙ e)
  where
    by : (named : List (ℕ × RemainingCodePoints)) → ids_of named ≡ [] → Each (Stands names) named
    by [] f = tt
    by (x ∷ named) f = absurd (let none : x.0 ∷ ids_of named ≡ [] = f in cc)

row-named : (names : Names) (ns : List Node) → Each (AreNamed names) ns → AreNamed names (sequence_node ns)
row-named names [] h = tt
row-named names (n ∷ ns) h = Each-append (Stands names) (capturing_group_ids_and_names n) (capturing_group_ids_and_names (sequence_node ns)) h.0 (row-named names ns h.1)

arm-named : (names : Names) (in_lookbehind : Bool) (ns : List Node) → Each (AreNamed names) ns → AreNamed names (arm in_lookbehind ns)
arm-named names true ns h = row-named names (reverse ns) (Each-reverse (AreNamed names) ns h)
arm-named names false ns h = row-named names ns h

-- A group that opens here has its name at its id.
opened-here : (names : Names) (q : ParseState) {r : ParseState} (id : ℕ) (name : RemainingCodePoints) → id ≡ length q.opened → Later (with_opened_group name q) r → GoesOn names r.opened → Stands names (id, name)
opened-here names q id name e l g = record {
  left = q.opened;
  right = l.added ++ g.0;
  whole = g.1 ∙ ap (λ x. x ++ g.0) l.opened ∙ append_assoc (q.opened ++ name ∷ []) l.added g.0 ∙ append_assoc q.opened (name ∷ []) (l.added ++ g.0);
  id = e;
}

same-groups : {names a b : Names} → a ≡ b → GoesOn names b → GoesOn names a
same-groups {names} e g = (g.0, g.1 ∙ ap (λ x. x ++ g.0) (sym e))

module _ (S : PatternDialect) (sound : AtomsAreSound S) where
  mutual
    named-disjunction : {names : Names} {w : PatternContext} {in_lookbehind : Bool} {p q : ParseState} {n : Node} → Disjunction S w in_lookbehind p q n → GoesOn names q.opened → AreNamed names n
    named-disjunction {names} (last_alternative {in_lookbehind = in_lookbehind} a) g = arm-named names in_lookbehind _ (named-alternative a g)
    named-disjunction {names} (alternatives {in_lookbehind = in_lookbehind} a bar d) g =
        Each-append (Stands names) _ _ (arm-named names in_lookbehind _ (named-alternative a (same-groups (ap (λ x. x.opened) bar) (before (later-disjunction d) g)))) (named-disjunction d g)

    named-alternative : {names : Names} {w : PatternContext} {in_lookbehind : Bool} {p q : ParseState} {ns : List Node} → Alternative S w in_lookbehind p q ns → GoesOn names q.opened → Each (AreNamed names) ns
    named-alternative no_terms g = tt
    named-alternative (terms t a) g = (named-term t (before (later-alternative a) g), named-alternative a g)

    named-term : {names : Names} {w : PatternContext} {in_lookbehind : Bool} {p q : ParseState} {n : Node} → Term S w in_lookbehind p q n → GoesOn names q.opened → AreNamed names n
    named-term (assertion a k) g = named-assertion a g
    named-term (repeated_assertion a may k) g = named-assertion a g
    named-term (atom a k) g = named-atom a g
    named-term (quantified a k) g = named-atom a g

    named-assertion : {names : Names} {w : PatternContext} {p q : ParseState} {n : Node} → Assertion S w p q n → GoesOn names q.opened → AreNamed names n
    named-assertion (start e) g = tt
    named-assertion (end e) g = tt
    named-assertion (boundary invert e) g = tt
    named-assertion (look negate backwards e d f) g = named-disjunction d (same-groups (ap (λ x. x.opened) f) g)

    named-atom : {names : Names} {w : PatternContext} {in_lookbehind : Bool} {p q : ParseState} {n : Node} → Atom S w in_lookbehind p q n → GoesOn names q.opened → AreNamed names n
    named-atom {names} {w} (leaf {p = p} {there = there} {n = n} a) g = unnamed names n (sound w p.text there n a).ids
    named-atom {names} (group {q = q} e o d f) g =
        let h = same-groups (ap (λ x. x.opened) f) g in (opened-here names q _ [] (ap number_of_opened_groups e) (later-disjunction d) h, named-disjunction d h)
    named-atom {names} (named_group {q = q} {there = there} {name = name} e i d f) g =
        let h = same-groups (ap (λ x. x.opened) f) g in (opened-here names (state_with_text_left there q) _ name (ap number_of_opened_groups e) (later-disjunction d) h, named-disjunction d h)
    named-atom (plain_group e d f) g = named-disjunction d (same-groups (ap (λ x. x.opened) f) g)

-- ---- The names by id

pub at-number : (f : ℕ → RemainingCodePoints) (first count k : ℕ) → k < count → get_or (map f (numbers_from first count)) k [] ≡ f (first + k)
at-number f first zero k h = absurd (omega (arith, h))
at-number f first (suc count) zero h = ap f (omega arith)
at-number f first (suc count) (suc k) h = at-number f (first + 1) count k (omega (arith, h)) ∙ ap f (omega arith)

-- The name that is listed for an id is the name that stands at the id.
name-is : (names : Names) (named : List (ℕ × RemainingCodePoints)) (id : ℕ) → Each (Stands names) named → contains (ids_of named) id ≡ true → group_name_of_id named id ≡ get_or names id []
name-is names [] id h k = absurd (true≢false (sym k))
name-is names (n ∷ named) id h k = by (n.0 == id) refl (name-is names named id h.1)
  where
    by : (b : Bool) → (n.0 == id) ≡ b → (contains (ids_of named) id ≡ true → group_name_of_id named id ≡ get_or names id []) → group_name_of_id (n ∷ named) id ≡ get_or names id []
    by true e others =
        let here : id ≡ length h.0.left = sym (eqb-true n.0 id e) ∙ h.0.id in
        rw e (sym (ap (λ x. get_or x id []) h.0.whole ∙ ap (λ i. get_or (h.0.left ++ n.1 ∷ h.0.right) i []) here ∙ get_or-append_seam h.0.left n.1 h.0.right []))
    by false e others =
        let other : nat_eq id n.0 ≡ false = ne_eqb id n.0 (λ f. true≢false (sym (eq-eqb n.0 id (sym f)) ∙ e)) in
        rw e (others (ap (λ b. b || contains (ids_of named) id) (sym other) ∙ k))

-- ---- Patterns without named groups

abbrev pub is_empty : RemainingCodePoints → Bool
is_empty name = length name == 0

empty-is : (name : RemainingCodePoints) → is_empty name ≡ true → name ≡ []
empty-is [] h = refl
empty-is (c ∷ cs) h = let e : suc (length cs) ≡ 0 = eqb-true _ 0 h in absurd (omega (arith, e))

no-name : (named : List (ℕ × RemainingCodePoints)) (id : ℕ) → list_all (λ p. is_empty p.1) named ≡ true → group_name_of_id named id ≡ []
no-name [] id h = refl
no-name (n ∷ named) id h = by (n.0 == id) (empty-is n.1 (and_parts (is_empty n.1) _ h).0) (no-name named id (and_parts (is_empty n.1) _ h).1)
  where
    by : (b : Bool) → n.1 ≡ [] → group_name_of_id named id ≡ [] → (if b then n.1 else group_name_of_id named id) ≡ []
    by true e f = e
    by false e f = f

all-empty : (names : Names) → ((id : ℕ) → id < length names → get_or names id [] ≡ []) → list_all is_empty names ≡ true
all-empty [] h = refl
all-empty (name ∷ names) h = and_from _ _ (ap is_empty (h 0 (omega arith))) (all-empty names (λ id k. h (suc id) (omega (arith, k))))

one-of : (left right : Names) (name : RemainingCodePoints) → list_all is_empty (left ++ name ∷ right) ≡ true → is_empty name ≡ true
one-of [] right name h = (and_parts (is_empty name) _ h).0
one-of (x ∷ left) right name h = one-of left right name (and_parts (is_empty x) _ h).1

none-named : (names : Names) (named : List (ℕ × RemainingCodePoints)) → Each (Stands names) named → list_all is_empty names ≡ true → list_all (λ p. is_empty p.1) named ≡ true
none-named names [] h k = refl
none-named names (n ∷ named) h k = and_from _ _ (one-of h.0.left h.0.right n.1 (ap (list_all is_empty) (sym h.0.whole) ∙ k)) (none-named names named h.1 k)

module _ (names : Names) (named : List (ℕ × RemainingCodePoints)) (are : Each (Stands names) named) (many : length named ≡ length names)
    (each : (id : ℕ) → id < length names → contains (ids_of named) id ≡ true)
  where
    by-id : (id : ℕ) → id < length names → group_name_of_id named id ≡ get_or names id []
    by-id id h = name-is names named id are (each id h)

    test : list_all (λ p. is_empty p.1) named ≡ list_all is_empty names
    test = same-truth _ _ (λ h. all-empty names (λ id k. sym (by-id id k) ∙ no-name named id h)) (λ h. none-named names named are h)

    in-place : map (group_name_of_id named) (numbers_from 0 (length named)) ≡ names
    in-place =
        let long : length (map (group_name_of_id named) (numbers_from 0 (length named))) ≡ length names =
        length-map (numbers_from 0 (length named)) (group_name_of_id named) ∙ length-numbers_from 0 (length named) ∙ many in
        ext_get_or [] _ _ long
        (λ id h. let below : id < length names = omega (arith, h, long) in at-number (group_name_of_id named) 0 (length named) id (omega (arith, below, many)) ∙ ap (group_name_of_id named) (omega arith) ∙ by-id id below)

    names-are : (if list_all (λ p. is_empty p.1) named then [] else map (group_name_of_id named) (numbers_from 0 (length named))) ≡ (if list_all is_empty names then [] else names)
    names-are = rw (test, in-place) refl

-- With sound atoms, the names by id are those of the opened groups, or none if all are empty.
pub names-by : (S : PatternDialect) (sound : AtomsAreSound S) (w : PatternContext) (pattern : RemainingCodePoints) (n : Node)
    → Disjunction S w false (record { text = pattern; opened = [] }) (record { text = []; opened = w.groups }) n
    → group_names_by_id (cat n (cat goal end_of_cat)) ≡ (if list_all is_empty w.groups then [] else w.groups)
names-by S sound w pattern n d =
    let p = part-disjunction S sound d in
    let root : capturing_group_ids_and_names (cat n (cat goal end_of_cat)) ≡ capturing_group_ids_and_names n = append-nil (capturing_group_ids_and_names n) in
    let many : length (capturing_group_ids_and_names n) ≡ length w.groups = sym (length-map (capturing_group_ids_and_names n) (λ p. p.0)) ∙ ap length (named_ids-ids n) ∙ omega (arith, p.count) in
    let inside : (id : ℕ) → id < length w.groups → contains (ids_of (capturing_group_ids_and_names n)) id ≡ true =
    λ id h. let once = p.ids id ∙ once-inside 0 (length w.groups) id (omega arith) h in
    ap (λ ids. contains ids id) (named_ids-ids n) ∙ contains-counted (group_ids n) id (omega (arith, once)) in
    ap (λ named. if list_all (λ p. is_empty p.1) named then [] else map (group_name_of_id named) (numbers_from 0 (length named))) root
    ∙ names-are w.groups (capturing_group_ids_and_names n) (named-disjunction S sound d ([], sym (append-nil w.groups))) many inside

pub scan_finds_group_names : ScanFindsGroupNames
scan_finds_group_names flags pattern t (pattern_is {n = n} groups d distinct) =
    let w : PatternContext = record { flags = flags; groups = groups } in
    names-by profile atoms-are-sound w pattern n d ∙ ap (λ names. if list_all is_empty names then [] else names) (scan_finds_opened_group_names w pattern groups n d)
