-- The tree of a pattern is well formed and has as many groups as the scan finds.
use Rattle.std.proofs.Common.{◌≡◌, ℕ, ◌+◌, ◌<◌, ◌≤◌, Bool, true, false, ◌&&◌, List, [], ◌∷◌, ◌++◌, length, count_by, refl, sym, ap, subst, ◌∙◌, arith, length-append, append-nil, reverse}
use Rattle.std.specs.Prelude.{if◌then◌else◌, nat_le, nat_lt, nat_eq, ◌==◌, IsTrue}
use Rattle.std.proofs.lemmas.Bool.{le-leb}
use Rattle.std.proofs.lemmas.List.{reverse-append}
use Rattle.regex_meaning.specs.Tree.{Node, Flags, Quantifier, group_ids, every_node_passes, goal, char, char_set, cat, end_of_cat, back_ref, match_any, Sameness, by_case}
use Rattle.regex_meaning.specs.Tree.{match_any_except_line_terminator, capture_group, lookaround}
use Rattle.regex_meaning.specs.Text.{expand_code_point, fold_code_point, code_points_with_fold, to_ascii_uppercase, to_ascii_lowercase}
use Rattle.regex_meaning.specs.WellFormedTrees.{is_min_at_most_max, number_of_goal_nodes, IsWellFormed}
use Rattle.regex_meaning.specs.ReadingStatesAndDigits.{RemainingCodePoints, ParseState, PatternContext, number_of_opened_groups, arm, sequence_node}
use Rattle.regex_meaning.specs.EscapesNamesQuantifiers.{ValidQuantifier, greedy, lazy}
use Rattle.regex_meaning.specs.Grammar.{character_node, SimpleAtom, pattern_character, extended_character, any_character, decimal_escape, named_reference, character_escape, character_class_escape}
use Rattle.regex_meaning.specs.Grammar.{character_class, Disjunction, Alternative, Term, Assertion, Atom, end, boundary, look}
use Rattle.regex_meaning.specs.Grammar.{PatternDialect, profile, last_alternative, alternatives, no_terms, terms, assertion, repeated_assertion, atom, quantified, start, leaf, group, named_group}
use Rattle.regex_meaning.specs.Grammar.{plain_group, pattern_is}
use Rattle.regex_meaning.specs.SubtreeInvariants.{is_well_formed_in_pattern, occurrences_of_id, one_if_id_within, IsSoundSubtreeWithGroupIds, IsWellFormedGrouplessSubtree}
use Rattle.regex_meaning.specs.GroupNameScan.{scanned_names_per_capturing_group}
use Rattle.regex_meaning.proofs.BoolLemmas.{and-left, and-right}
use Rattle.regex_meaning.proofs.GroupNameScanLemmas.{scan_finds_opened_group_names}
use Rattle.regex_meaning.specs.GrammarLaws.{ScanCountsPatternGroups, TreesAreWellFormed}
use Rattle.regex_meaning.specs.CompilationRelation.{tree_contains_byte_nodes}
use Rattle.regex_meaning.specs.TreesWithoutCharLoops.{has_no_char_loops}
use Rattle.regex_meaning.proofs.SubtreeInvariantsLemmas.{part-leaf, IsJoined, part-joined, joined-cat, joined-alt, part-group, part-lookaround, part-loop, count_by-append, whole, whole-reads_none}
use Rattle.regex_meaning.proofs.SubtreeInvariantsLemmas.{whole-plain}
use Rattle.regex_meaning.proofs.BackreferenceNumberLemmas.{number-positive, number_of-bounds}

-- ---- Atoms without groups

pub leaf-if : (greatest : ℕ) (b : Bool) (x y : Node) → IsWellFormedGrouplessSubtree greatest x → IsWellFormedGrouplessSubtree greatest y → IsWellFormedGrouplessSubtree greatest (if b then x else y)
leaf-if greatest true x y h k = h
leaf-if greatest false x y h k = k

-- A code point expands to at most four code points.
pub few_members : (c : ℕ) (icase unicode : Bool) → length (expand_code_point c icase unicode) ≤ 4
unfolding expand_code_point
few_members c false unicode = omega arith
few_members c true unicode = few_with_fold unicode (fold_code_point unicode c)
  where
    cases : (a b d : Bool) (x y z u v : ℕ) → length ((if a then x ∷ [] else y ∷ z ∷ []) ++ (if b then u ∷ [] else if d then v ∷ [] else [])) ≤ 4
    cases true true d x y z u v = omega arith
    cases true false true x y z u v = omega arith
    cases true false false x y z u v = omega arith
    cases false true d x y z u v = omega arith
    cases false false true x y z u v = omega arith
    cases false false false x y z u v = omega arith

    plain : (a : Bool) (x y z : ℕ) → length ((if a then x ∷ [] else y ∷ z ∷ []) ++ []) ≤ 4
    plain true x y z = omega arith
    plain false x y z = omega arith

    few_with_fold : (unicode : Bool) (folded : ℕ) → length (code_points_with_fold unicode folded) ≤ 4
    few_with_fold false folded = plain (to_ascii_uppercase folded == to_ascii_lowercase folded) folded (to_ascii_uppercase folded) (to_ascii_lowercase folded)
    few_with_fold true folded =
        cases (to_ascii_uppercase folded == to_ascii_lowercase folded) (folded == 115) (folded == 107) folded (to_ascii_uppercase folded) (to_ascii_lowercase folded) 0x017F 0x212A

module _ (greatest : ℕ) where
  leaf-character : (flags : Flags) (c : ℕ) → IsWellFormedGrouplessSubtree greatest (character_node flags c)
  leaf-character flags c =
      let members = expand_code_point c flags.icase flags.unicode in
      leaf-if greatest (nat_lt 1 (length members)) (char_set members) (char c)
      (record { goals = refl; ids = refl; sound = le-leb (length members) 4 (few_members c flags.icase flags.unicode) })
      (record { goals = refl; ids = refl; sound = refl })

  pub leaf-reference : (id : ℕ) (sameness : Sameness) → 0 < id → id ≤ greatest → IsWellFormedGrouplessSubtree greatest (back_ref id sameness)
  leaf-reference id sameness h k = record {
    goals = refl;
    ids = refl;
    sound = sound (nat_le 1 id) (nat_le id greatest) (le-leb 1 id (omega arith)) (le-leb id greatest k);
  }
    where
      sound : (a b : Bool) → a ≡ true → b ≡ true → (true && (a && b) && true && true && true && true) ≡ true
      sound true true h k = refl
      sound true false h k = k
      sound false b h k = grind arith

abbrev pub groups_in : PatternContext → ℕ
groups_in w = length w.groups

leaf-is : (w : PatternContext) {here there : RemainingCodePoints} {n : Node} → SimpleAtom w here there n → IsWellFormedGrouplessSubtree (groups_in w) n
leaf-is w (pattern_character {c = c} e f) = leaf-character (groups_in w) w.flags c
leaf-is w (extended_character {c = c} e f k l) = leaf-character (groups_in w) w.flags c
leaf-is w (any_character e) =
    leaf-if (groups_in w) w.flags.dot_all match_any match_any_except_line_terminator (record { goals = refl; ids = refl; sound = refl }) (record { goals = refl; ids = refl; sound = refl })
leaf-is w (decimal_escape {n = n} e f d l) = leaf-reference (groups_in w) n (by_case w.flags.icase) (number-positive f d) l
leaf-is w (named_reference {name = name} {n = n} e d f) =
    let h = number_of-bounds name w.groups n f in leaf-reference (groups_in w) n (by_case w.flags.icase) h.0 h.1
leaf-is w (character_escape {c = c} e d) = leaf-character (groups_in w) w.flags c
leaf-is w (character_class_escape e f s) = record { goals = refl; ids = refl; sound = refl }
leaf-is w (character_class e d) = record { goals = refl; ids = refl; sound = refl }

-- Each atom without groups of the dialect is a well-formed subtree without groups.
abbrev pub AtomsAreSound : (S : PatternDialect) → Type 0
AtomsAreSound S = (w : PatternContext) (here there : RemainingCodePoints) (n : Node) → S.simple_atom w here there n → IsWellFormedGrouplessSubtree (groups_in w) n

pub atoms-are-sound : AtomsAreSound profile
atoms-are-sound w here there n a = leaf-is w a

-- ---- Terms one after the other

snoc-goals : (xs : List Node) (y : Node) → number_of_goal_nodes (sequence_node (xs ++ y ∷ [])) ≡ number_of_goal_nodes y + number_of_goal_nodes (sequence_node xs)
snoc-goals [] y = omega arith
snoc-goals (x ∷ xs) y = omega (arith, snoc-goals xs y)

snoc-count : (xs : List Node) (y : Node) → length (group_ids (sequence_node (xs ++ y ∷ []))) ≡ length (group_ids y) + length (group_ids (sequence_node xs))
snoc-count [] y = length-append (group_ids y) []
snoc-count (x ∷ xs) y =
    length-append (group_ids x) (group_ids (sequence_node (xs ++ y ∷ [])))
    ∙ (let h = snoc-count xs y in let k = length-append (group_ids x) (group_ids (sequence_node xs)) in omega (arith, h, k))

snoc-ids : (id : ℕ) (xs : List Node) (y : Node) → occurrences_of_id id (sequence_node (xs ++ y ∷ [])) ≡ occurrences_of_id id y + occurrences_of_id id (sequence_node xs)
snoc-ids id [] y = count_by-append (nat_eq id) (group_ids y) []
snoc-ids id (x ∷ xs) y =
    count_by-append (nat_eq id) (group_ids x) (group_ids (sequence_node (xs ++ y ∷ [])))
    ∙ (let h = snoc-ids id xs y in let k = count_by-append (nat_eq id) (group_ids x) (group_ids (sequence_node xs)) in omega (arith, h, k))

snoc-sound : (greatest : ℕ) (xs : List Node) (y : Node) → IsTrue (every_node_passes (is_well_formed_in_pattern greatest) y) → IsTrue (every_node_passes (is_well_formed_in_pattern greatest) (sequence_node xs)) → IsTrue (every_node_passes (is_well_formed_in_pattern greatest) (sequence_node (xs ++ y ∷ [])))
snoc-sound greatest [] y h k = (joined-cat y end_of_cat).sound greatest h k
snoc-sound greatest (x ∷ xs) y h k =
    (joined-cat x (sequence_node (xs ++ y ∷ []))).sound greatest (and-right (is_well_formed_in_pattern greatest (cat x (sequence_node xs))) _ (and-left _ (every_node_passes (is_well_formed_in_pattern greatest) (sequence_node xs)) k)) (snoc-sound greatest xs y h (and-right _ (every_node_passes (is_well_formed_in_pattern greatest) (sequence_node xs)) k))

joined-snoc : (xs : List Node) (y : Node) → IsJoined (sequence_node (xs ++ y ∷ [])) y (sequence_node xs)
joined-snoc xs y = record { goals = snoc-goals xs y; count = snoc-count xs y; ids = λ id. snoc-ids id xs y; sound = λ greatest. snoc-sound greatest xs y }

arm-none : (in_lookbehind : Bool) (first greatest : ℕ) → IsSoundSubtreeWithGroupIds first first greatest (arm in_lookbehind [])
arm-none true first greatest = part-leaf first greatest end_of_cat (record { goals = refl; ids = refl; sound = refl })
arm-none false first greatest = part-leaf first greatest end_of_cat (record { goals = refl; ids = refl; sound = refl })

arm-more : (in_lookbehind : Bool) (first middle last greatest : ℕ) (n : Node) (ns : List Node) → IsSoundSubtreeWithGroupIds first middle greatest n → IsSoundSubtreeWithGroupIds middle last greatest (arm in_lookbehind ns)
    → IsSoundSubtreeWithGroupIds first last greatest (arm in_lookbehind (n ∷ ns))
arm-more false first middle last greatest n ns h k = part-joined first middle last greatest (cat n (sequence_node ns)) n (sequence_node ns) (joined-cat n (sequence_node ns)) h k
arm-more true first middle last greatest n ns h k =
    subst (λ x. IsSoundSubtreeWithGroupIds first last greatest (sequence_node x)) (sym (reverse-append (n ∷ []) ns))
    (part-joined first middle last greatest (sequence_node (reverse ns ++ n ∷ [])) n (sequence_node (reverse ns)) (joined-snoc (reverse ns) n) h k)

-- ---- Parts from one state to another

in-order : {here there : RemainingCodePoints} {q : Quantifier} → ValidQuantifier here there q → is_min_at_most_max q ≡ true
in-order (greedy h e o) = o
in-order (lazy h e o) = o

-- The part of a tree that is read between two states is sound and has the groups that open there.
abbrev pub Reads : PatternContext → ParseState → ParseState → Node → Type 0
Reads w p q n = IsSoundSubtreeWithGroupIds (number_of_opened_groups p) (number_of_opened_groups q) (groups_in w) n

between : (greatest : ℕ) {a b c d : ℕ} {n : Node} → a ≡ b → c ≡ d → IsSoundSubtreeWithGroupIds b c greatest n → IsSoundSubtreeWithGroupIds a d greatest n
between greatest {b = b} {d = d} {n = n} e f h = subst (λ x. IsSoundSubtreeWithGroupIds x d greatest n) (sym e) (subst (λ x. IsSoundSubtreeWithGroupIds b x greatest n) f h)

leaf-between : (greatest : ℕ) {a b : ℕ} {n : Node} → a ≡ b → IsWellFormedGrouplessSubtree greatest n → IsSoundSubtreeWithGroupIds a b greatest n
leaf-between greatest {a = a} {n = n} e h = between greatest refl e (part-leaf a greatest n h)

group-between : (greatest : ℕ) (before : List RemainingCodePoints) {a b c : ℕ} {n : Node} (name : RemainingCodePoints) → a ≡ length before → b ≡ c → IsSoundSubtreeWithGroupIds (length (before ++ name ∷ [])) b greatest n
    → IsSoundSubtreeWithGroupIds a c greatest (capture_group a name n)
group-between greatest before {a = a} {c = c} {n = n} name e f h =
    part-group a c greatest name n (between greatest (ap (λ x. x + 1) e ∙ sym (length-append before (name ∷ []))) f h)

module _ (S : PatternDialect) (sound : AtomsAreSound S) where
  mutual
    pub part-disjunction : {w : PatternContext} {in_lookbehind : Bool} {p q : ParseState} {n : Node} → Disjunction S w in_lookbehind p q n → Reads w p q n
    part-disjunction (last_alternative a) = part-alternative a
    part-disjunction {w} (alternatives {p = p} {q = q} {r = r} {t = t} a bar d) =
        part-joined (number_of_opened_groups p) (number_of_opened_groups q) (number_of_opened_groups t) (groups_in w) _ _ _ (joined-alt _ _) (part-alternative a) (between (groups_in w) (ap number_of_opened_groups bar) refl (part-disjunction d))

    part-alternative : {w : PatternContext} {in_lookbehind : Bool} {p q : ParseState} {ns : List Node} → Alternative S w in_lookbehind p q ns → Reads w p q (arm in_lookbehind ns)
    part-alternative {w} (no_terms {in_lookbehind = in_lookbehind} {p = p}) = arm-none in_lookbehind (number_of_opened_groups p) (groups_in w)
    part-alternative {w} (terms {in_lookbehind = in_lookbehind} {p = p} {q = q} {r = r} {n = n} {ns = ns} t a) =
        arm-more in_lookbehind (number_of_opened_groups p) (number_of_opened_groups q) (number_of_opened_groups r) (groups_in w) n ns (part-term t) (part-alternative a)

    part-term : {w : PatternContext} {in_lookbehind : Bool} {p q : ParseState} {n : Node} → Term S w in_lookbehind p q n → Reads w p q n
    part-term (assertion a k) = part-assertion a
    part-term {w} (repeated_assertion {p = p} {q = q} {l = l} {n = n} {quantifier = quantifier} a may k) =
        part-loop (number_of_opened_groups p) (number_of_opened_groups q) (groups_in w) quantifier (lookaround l n) (in-order k) (part-assertion a)
    part-term (atom a k) = part-atom a
    part-term {w} (quantified {p = p} {q = q} {n = n} {quantifier = quantifier} a k) =
        part-loop (number_of_opened_groups p) (number_of_opened_groups q) (groups_in w) quantifier n (in-order k) (part-atom a)

    part-assertion : {w : PatternContext} {p q : ParseState} {n : Node} → Assertion S w p q n → Reads w p q n
    part-assertion {w} (start e) = leaf-between (groups_in w) (ap number_of_opened_groups e) (record { goals = refl; ids = refl; sound = refl })
    part-assertion {w} (end e) = leaf-between (groups_in w) (ap number_of_opened_groups e) (record { goals = refl; ids = refl; sound = refl })
    part-assertion {w} (boundary invert e) = leaf-between (groups_in w) (ap number_of_opened_groups e) (record { goals = refl; ids = refl; sound = refl })
    part-assertion {w} (look {p = p} {t = t} {n = n} negate backwards e d f) =
        part-lookaround (number_of_opened_groups p) (number_of_opened_groups t) (groups_in w) negate backwards n (between (groups_in w) (ap number_of_opened_groups e) (ap number_of_opened_groups f) (part-disjunction d))

    part-atom : {w : PatternContext} {in_lookbehind : Bool} {p q : ParseState} {n : Node} → Atom S w in_lookbehind p q n → Reads w p q n
    part-atom {w} (leaf {p = p} {n = n} a) = part-leaf (number_of_opened_groups p) (groups_in w) n (sound w _ _ _ a)
    part-atom {w} (group {q = q} e o d f) = group-between (groups_in w) q.opened [] (ap number_of_opened_groups e) (ap number_of_opened_groups f) (part-disjunction d)
    part-atom {w} (named_group {q = q} {name = name} e g d f) = group-between (groups_in w) q.opened name (ap number_of_opened_groups e) (ap number_of_opened_groups f) (part-disjunction d)
    part-atom {w} (plain_group e d f) = between (groups_in w) (ap number_of_opened_groups e) (ap number_of_opened_groups f) (part-disjunction d)

-- ---- The whole pattern

pub ids-within : (id groups : ℕ) → one_if_id_within 0 groups id ≡ (if nat_lt id groups then 1 else 0)
ids-within id groups = rw (le-leb 0 id (omega arith)) refl

-- With sound atoms, the tree has as many groups as have opened, and each id below that once.
pub counted-by : (S : PatternDialect) (sound : AtomsAreSound S) (w : PatternContext) (pattern : RemainingCodePoints) (n : Node)
    → Disjunction S w false (record { text = pattern; opened = [] }) (record { text = []; opened = w.groups }) n
    → (length (group_ids (cat n (cat goal end_of_cat))) ≡ length w.groups)
    × ((id : ℕ) → count_by (nat_eq id) (group_ids (cat n (cat goal end_of_cat))) ≡ (if nat_lt id (length w.groups) then 1 else 0))
counted-by S sound w pattern n d =
    let p = part-disjunction S sound d in
    let ids : group_ids (cat n (cat goal end_of_cat)) ≡ group_ids n = append-nil (group_ids n) in
    (ap length ids ∙ omega (arith, p.count), λ id. ap (λ x. count_by (nat_eq id) x) ids ∙ p.ids id ∙ ids-within id (length w.groups))

pub scan_counts_pattern_groups : ScanCountsPatternGroups
scan_counts_pattern_groups flags pattern t (pattern_is {n = n} groups d distinct) =
    let w : PatternContext = record { flags = flags; groups = groups } in
    let c = counted-by profile atoms-are-sound w pattern n d in
    let found : length groups ≡ length (scanned_names_per_capturing_group false pattern) = ap length (scan_finds_opened_group_names w pattern groups n d) in
    (c.0 ∙ found, λ id. c.1 id ∙ ap (λ m. if nat_lt id m then 1 else 0) found)

-- With sound atoms, the tree is well formed and has no byte nodes and no char loops.
pub well-formed-by : (S : PatternDialect) (sound : AtomsAreSound S) (w : PatternContext) (pattern : RemainingCodePoints) (n : Node)
    → Disjunction S w false (record { text = pattern; opened = [] }) (record { text = []; opened = w.groups }) n
    → IsWellFormed (cat n (cat goal end_of_cat)) × (tree_contains_byte_nodes (cat n (cat goal end_of_cat)) ≡ false) × IsTrue (has_no_char_loops (cat n (cat goal end_of_cat)))
well-formed-by S sound w pattern n d =
    let p = part-disjunction S sound d in
    (whole (groups_in w) (groups_in w) n (omega arith) p, whole-reads_none (groups_in w) n p.sound, whole-plain (groups_in w) n p.sound)

pub trees_are_well_formed : TreesAreWellFormed
trees_are_well_formed flags pattern t (pattern_is {n = n} groups d distinct) =
    let h = well-formed-by profile atoms-are-sound (record { flags = flags; groups = groups }) pattern n d in (refl, h.0, h.1, h.2)
