-- Joining the abstract starts of the nodes of a tree yields its start predicate.
use Rattle.std.proofs.Common.{◌≡◌, ℕ, ◌+◌, ◌<◌, ◌≤◌, Bool, true, false, not, ◌&&◌, ◌||◌, List, [], ◌∷◌, ◌++◌, length, take, drop, get_or, refl, sym, ap, ◌∙◌, arith, append-nil, drop-cons, Result}
use Rattle.std.proofs.Common.{IfOk}
use Rattle.std.specs.Prelude.{if◌then◌else◌, nat_lt, ◌==◌}
use Rattle.std.proofs.lemmas.List.{drop_all}
use Rattle.std.proofs.lemmas.Result.{IfOk-weaker}
use Rattle.std.proofs.lemmas.Bool.{ne_eqb, or_parts, eqb-true}
use Rattle.regex_meaning.specs.Tree.{Node, byte_sequence, cat, alt, capture_group, loop, loop_1_char_body, Tree}
use Rattle.regex_meaning.specs.WellFormedTrees.{IsWellFormed}
use Rattle.regex_meaning.specs.StartPredicate.{AbstractStartPredicate, open_ended, arbitrary, sequence, one_of, first_not_open_ended, join, abstract_start_predicate, common_prefix_or_first_bytes}
use Rattle.regex_meaning.specs.StartPredicate.{start_predicate, start_arbitrary, start_byte_set, start_anchored, IsSoundStartPredicateOf}
use Rattle.regex_meaning.specs.StartPredicate.{common_prefix, union_of_byte_sets, first_byte_as_set, is_anchored, StartPredicate, resolved_start_predicate}
use Rattle.regex_meaning.proofs.StartPredicateSoundness.{predicate-sound}
use Rattle.regress_program.proofs.NodeKindLemmas.{leaf-bare}
use Rattle.regress_program.specs.declared.insn.start_predicate_type.StartPredicate as declared
use Rattle.regress_program.specs.InsnsAsSpec.{start_predicate_as_spec as predicate_of}
use Rattle.regress_program.specs.JoinedStarts.{set_bytes_from, join_starts, join_nonempty_starts, join_starts_of_alternatives}
use Rattle.regress_program.specs.LeafNodesAndOptimizableLoops.{is_leaf}
use Rattle.regress_program.specs.StartPredicates.{predicate_says_reads_nothing, predicate_is_byte_sequence, making_node_start_predicate_may_allocate, start_predicate_may_allocate}
use Rattle.regress_program.proofs.ByteSetLemmas.{union-both, union-assoc, union-again, union-same}

-- ---- Common prefixes

shared_front-none : (xs : List ℕ) → common_prefix xs [] ≡ []
shared_front-none [] = refl
shared_front-none (x ∷ xs) = refl

pub ends_left : (xs ys : List ℕ) (i : ℕ) → length xs ≤ i → common_prefix (drop i xs) (drop i ys) ≡ []
ends_left xs ys i h = ap (λ zs. common_prefix zs (drop i ys)) (drop_all i xs h)

pub ends_right : (xs ys : List ℕ) (i : ℕ) → length ys ≤ i → common_prefix (drop i xs) (drop i ys) ≡ []
ends_right xs ys i h = ap (common_prefix (drop i xs)) (drop_all i ys h) ∙ shared_front-none (drop i xs)

pub differ_here : (xs ys : List ℕ) (i : ℕ) → i < length xs → i < length ys → (get_or xs i 0 ≡ get_or ys i 0 → ⊥)
    → common_prefix (drop i xs) (drop i ys) ≡ []
differ_here xs ys i h k ne = rw (drop-cons xs i 0 h, drop-cons ys i 0 k, ne_eqb (get_or xs i 0) (get_or ys i 0) ne)

pub front_ends : (xs whole : List ℕ) (i : ℕ) (rest : List ℕ) → rest ≡ [] → take i xs ++ rest ≡ whole → take i xs ≡ whole
front_ends xs whole i rest none e = sym (append-nil (take i xs)) ∙ ap (λ zs. take i xs ++ zs) (sym none) ∙ e

no_front : (front bytes : List ℕ) → length front ≡ 0 → one_of bytes ≡ common_prefix_or_first_bytes front bytes
no_front [] bytes h = refl
no_front (x ∷ front) bytes h = absurd (omega arith)

-- If two sequences have no common prefix, their join is the set of their first bytes.
pub first_bytes_alone : (xs ys front one both : List ℕ) → front ≡ common_prefix xs ys → length front ≡ 0
    → one ≡ union_of_byte_sets [] (first_byte_as_set xs) → both ≡ union_of_byte_sets one (first_byte_as_set ys)
    → one_of both ≡ common_prefix_or_first_bytes (common_prefix xs ys) (union_of_byte_sets (first_byte_as_set xs) (first_byte_as_set ys))
first_bytes_alone xs ys front one both e none f g =
    no_front (common_prefix xs ys) both (sym (ap length e) ∙ none)
    ∙ ap (common_prefix_or_first_bytes (common_prefix xs ys)) (g ∙ ap (λ zs. union_of_byte_sets zs (first_byte_as_set ys)) f ∙ union-both (first_byte_as_set xs) (first_byte_as_set ys))

-- ---- Joins of three starts

front-assoc : (xs ys zs : List ℕ) → common_prefix (common_prefix xs ys) zs ≡ common_prefix xs (common_prefix ys zs)
front-assoc [] ys zs = refl
front-assoc (x ∷ xs) [] zs = refl
front-assoc (x ∷ xs) (y ∷ ys) [] = shared_front-none (common_prefix (x ∷ xs) (y ∷ ys))
front-assoc (x ∷ xs) (y ∷ ys) (z ∷ zs) = by (x == y) (y == z) refl refl (front-assoc xs ys zs)
  where
    by : (s t : Bool) → (x == y) ≡ s → (y == z) ≡ t → common_prefix (common_prefix xs ys) zs ≡ common_prefix xs (common_prefix ys zs)
        → common_prefix (if x == y then x ∷ common_prefix xs ys else []) (z ∷ zs) ≡ common_prefix (x ∷ xs) (if y == z then y ∷ common_prefix ys zs else [])
    by true true e f rest =
        let same : (x == z) ≡ true = ap (λ n. n == z) (eqb-true x y e) ∙ f in
        rw (e, f, same, e) (ap (λ r. x ∷ r) rest)
    by true false e f rest =
        let other : (x == z) ≡ false = ap (λ n. n == z) (eqb-true x y e) ∙ f in
        rw (e, f, other) refl
    by false true e f rest = rw (e, f, e) refl
    by false false e f rest = rw (e, f) refl

-- A common prefix that is not empty has the first byte of both sequences.
front-first : (xs ys : List ℕ) (b : ℕ) (bs : List ℕ) → b ∷ bs ≡ common_prefix xs ys → (first_byte_as_set xs ≡ b ∷ []) × (first_byte_as_set ys ≡ b ∷ [])
front-first [] ys b bs e = cc
front-first (x ∷ xs) [] b bs e = cc
front-first (x ∷ xs) (y ∷ ys) b bs e = by (x == y) refl e
  where
    by : (s : Bool) → (x == y) ≡ s → b ∷ bs ≡ (if s then x ∷ common_prefix xs ys else []) → (x ∷ [] ≡ b ∷ []) × (y ∷ [] ≡ b ∷ [])
    by true t f =
        let first : b ≡ x = cc in
        (ap (λ n. n ∷ []) (sym first), ap (λ n. n ∷ []) (sym (first ∙ eqb-true x y t)))
    by false t f = cc

join-arbitrary : (a : AbstractStartPredicate) → join a arbitrary ≡ arbitrary
join-arbitrary open_ended = refl
join-arbitrary arbitrary = refl
join-arbitrary (sequence xs) = refl
join-arbitrary (one_of xs) = refl

join-open : (a : AbstractStartPredicate) → join a open_ended ≡ arbitrary
join-open open_ended = refl
join-open arbitrary = refl
join-open (sequence xs) = refl
join-open (one_of xs) = refl

join-sequences : (xs ys zs front behind : List ℕ) → front ≡ common_prefix xs ys → behind ≡ common_prefix ys zs
    → join (common_prefix_or_first_bytes front (union_of_byte_sets (first_byte_as_set xs) (first_byte_as_set ys))) (sequence zs)
    ≡ join (sequence xs) (common_prefix_or_first_bytes behind (union_of_byte_sets (first_byte_as_set ys) (first_byte_as_set zs)))
join-sequences xs ys zs [] [] e f = ap one_of (union-assoc (first_byte_as_set xs) (first_byte_as_set ys) (first_byte_as_set zs))
join-sequences xs ys zs [] (g ∷ gs) e f =
    let firsts = front-first ys zs g gs f in
    let none : common_prefix xs (g ∷ gs) ≡ [] = ap (common_prefix xs) f ∙ sym (front-assoc xs ys zs) ∙ ap (λ r. common_prefix r zs) (sym e) in
    rw (none, firsts.0, firsts.1) (ap one_of (union-same (first_byte_as_set xs) (g ∷ [])))
join-sequences xs ys zs (b ∷ bs) [] e f =
    let firsts = front-first xs ys b bs e in
    let none : common_prefix (b ∷ bs) zs ≡ [] = ap (λ r. common_prefix r zs) e ∙ front-assoc xs ys zs ∙ ap (common_prefix xs) (sym f) ∙ shared_front-none xs in
    rw (none, firsts.0, firsts.1) (ap one_of (sym (union-again (b ∷ []) (first_byte_as_set zs))))
join-sequences xs ys zs (b ∷ bs) (g ∷ gs) e f =
    let firsts = front-first xs ys b bs e in
    let others = front-first ys zs g gs f in
    let same : common_prefix (b ∷ bs) zs ≡ common_prefix xs (g ∷ gs) = ap (λ r. common_prefix r zs) e ∙ front-assoc xs ys zs ∙ ap (common_prefix xs) (sym f) in
    rw (same, firsts.0, others.1) refl

join-sequence-one : (xs ys zs front : List ℕ) → front ≡ common_prefix xs ys
    → join (common_prefix_or_first_bytes front (union_of_byte_sets (first_byte_as_set xs) (first_byte_as_set ys))) (one_of zs) ≡ one_of (union_of_byte_sets (first_byte_as_set xs) (union_of_byte_sets (first_byte_as_set ys) zs))
join-sequence-one xs ys zs [] e = ap one_of (union-assoc (first_byte_as_set xs) (first_byte_as_set ys) zs)
join-sequence-one xs ys zs (b ∷ bs) e =
    let firsts = front-first xs ys b bs e in
    rw (firsts.0, firsts.1) (ap one_of (sym (union-again (b ∷ []) zs)))

join-one-sequence : (xs ys zs behind : List ℕ) → behind ≡ common_prefix ys zs
    → one_of (union_of_byte_sets (union_of_byte_sets xs (first_byte_as_set ys)) (first_byte_as_set zs)) ≡ join (one_of xs) (common_prefix_or_first_bytes behind (union_of_byte_sets (first_byte_as_set ys) (first_byte_as_set zs)))
join-one-sequence xs ys zs [] e = ap one_of (union-assoc xs (first_byte_as_set ys) (first_byte_as_set zs))
join-one-sequence xs ys zs (b ∷ bs) e =
    let firsts = front-first ys zs b bs e in
    rw (firsts.0, firsts.1) (ap one_of (union-same xs (b ∷ [])))

-- Joining is associative.
pub join-assoc : (a b c : AbstractStartPredicate) → join (join a b) c ≡ join a (join b c)
join-assoc open_ended b c = refl
join-assoc arbitrary b c = refl
join-assoc (sequence xs) open_ended c = refl
join-assoc (sequence xs) arbitrary c = refl
join-assoc (one_of xs) open_ended c = refl
join-assoc (one_of xs) arbitrary c = refl
join-assoc (sequence xs) (sequence ys) open_ended = join-open (join (sequence xs) (sequence ys))
join-assoc (sequence xs) (sequence ys) arbitrary = join-arbitrary (join (sequence xs) (sequence ys))
join-assoc (sequence xs) (sequence ys) (sequence zs) = join-sequences xs ys zs (common_prefix xs ys) (common_prefix ys zs) refl refl
join-assoc (sequence xs) (sequence ys) (one_of zs) = join-sequence-one xs ys zs (common_prefix xs ys) refl
join-assoc (sequence xs) (one_of ys) open_ended = refl
join-assoc (sequence xs) (one_of ys) arbitrary = refl
join-assoc (sequence xs) (one_of ys) (sequence zs) = ap one_of (union-assoc (first_byte_as_set xs) ys (first_byte_as_set zs))
join-assoc (sequence xs) (one_of ys) (one_of zs) = ap one_of (union-assoc (first_byte_as_set xs) ys zs)
join-assoc (one_of xs) (sequence ys) open_ended = refl
join-assoc (one_of xs) (sequence ys) arbitrary = refl
join-assoc (one_of xs) (sequence ys) (sequence zs) = join-one-sequence xs ys zs (common_prefix ys zs) refl
join-assoc (one_of xs) (sequence ys) (one_of zs) = ap one_of (union-assoc xs (first_byte_as_set ys) zs)
join-assoc (one_of xs) (one_of ys) open_ended = refl
join-assoc (one_of xs) (one_of ys) arbitrary = refl
join-assoc (one_of xs) (one_of ys) (sequence zs) = ap one_of (union-assoc xs ys (first_byte_as_set zs))
join-assoc (one_of xs) (one_of ys) (one_of zs) = ap one_of (union-assoc xs ys zs)

-- ---- The join of the starts so far

join-reads : (a b : AbstractStartPredicate) → predicate_says_reads_nothing (join a b) ≡ false
join-reads open_ended b = refl
join-reads arbitrary b = refl
join-reads (sequence xs) open_ended = refl
join-reads (sequence xs) arbitrary = refl
join-reads (sequence xs) (sequence ys) = of_front (common_prefix xs ys)
  where
    of_front : (front : List ℕ) → predicate_says_reads_nothing (common_prefix_or_first_bytes front (union_of_byte_sets (first_byte_as_set xs) (first_byte_as_set ys))) ≡ false
    of_front [] = refl
    of_front (x ∷ front) = refl
join-reads (sequence xs) (one_of ys) = refl
join-reads (one_of xs) open_ended = refl
join-reads (one_of xs) arbitrary = refl
join-reads (one_of xs) (sequence ys) = refl
join-reads (one_of xs) (one_of ys) = refl

joined_to-reads : (shared more : AbstractStartPredicate) → predicate_says_reads_nothing shared ≡ false → join_starts shared more ≡ join shared more
joined_to-reads open_ended more h = cc
joined_to-reads arbitrary more h = refl
joined_to-reads (sequence xs) more h = refl
joined_to-reads (one_of xs) more h = refl

joined_to-arbitrary : (shared : AbstractStartPredicate) → join_starts shared arbitrary ≡ arbitrary
joined_to-arbitrary open_ended = refl
joined_to-arbitrary arbitrary = refl
joined_to-arbitrary (sequence xs) = refl
joined_to-arbitrary (one_of xs) = refl

joined_to-join : (shared a b : AbstractStartPredicate) → predicate_says_reads_nothing a ≡ false → join_starts shared (join a b) ≡ join_starts (join_starts shared a) b
joined_to-join open_ended a b h = sym (joined_to-reads a b h)
joined_to-join arbitrary a b h = sym (join-assoc arbitrary a b)
joined_to-join (sequence xs) a b h = sym (joined_to-reads (join (sequence xs) a) b (join-reads (sequence xs) a) ∙ join-assoc (sequence xs) a b)
joined_to-join (one_of xs) a b h = sym (joined_to-reads (join (one_of xs) a) b (join-reads (one_of xs) a) ∙ join-assoc (one_of xs) a b)

after_arm-reads : (shared more : AbstractStartPredicate) → predicate_says_reads_nothing more ≡ false → join_starts_of_alternatives shared more ≡ join_starts shared more
after_arm-reads shared open_ended h = cc
after_arm-reads shared arbitrary h = refl
after_arm-reads shared (sequence xs) h = refl
after_arm-reads shared (one_of xs) h = refl

after-reads : (shared more : AbstractStartPredicate) → predicate_says_reads_nothing more ≡ false → join_nonempty_starts shared more ≡ join_starts shared more
after-reads shared open_ended h = cc
after-reads shared arbitrary h = refl
after-reads shared (sequence xs) h = refl
after-reads shared (one_of xs) h = refl

after_arm-anything : (more : AbstractStartPredicate) → join_starts_of_alternatives arbitrary more ≡ arbitrary
after_arm-anything open_ended = refl
after_arm-anything arbitrary = refl
after_arm-anything (sequence xs) = refl
after_arm-anything (one_of xs) = refl

-- Joining two alternatives one after the other is the same as joining both at once.
pub arms-joined : (shared a b : AbstractStartPredicate) → join_starts_of_alternatives shared (join a b) ≡ join_starts_of_alternatives (join_starts_of_alternatives shared a) b
arms-joined shared open_ended b = joined_to-arbitrary shared ∙ sym (after_arm-anything b)
arms-joined shared arbitrary b =
    joined_to-join shared arbitrary b refl ∙ ap (λ s. join_starts s b) (joined_to-arbitrary shared) ∙ sym (ap (λ s. join_starts_of_alternatives s b) (joined_to-arbitrary shared) ∙ after_arm-anything b)
arms-joined shared (sequence xs) open_ended = joined_to-arbitrary shared
arms-joined shared (sequence xs) arbitrary = joined_to-join shared (sequence xs) arbitrary refl
arms-joined shared (sequence xs) (sequence ys) =
    after_arm-reads shared (join (sequence xs) (sequence ys)) (join-reads (sequence xs) (sequence ys)) ∙ joined_to-join shared (sequence xs) (sequence ys) refl
arms-joined shared (sequence xs) (one_of ys) = joined_to-join shared (sequence xs) (one_of ys) refl
arms-joined shared (one_of xs) open_ended = joined_to-arbitrary shared
arms-joined shared (one_of xs) arbitrary = joined_to-join shared (one_of xs) arbitrary refl
arms-joined shared (one_of xs) (sequence ys) = joined_to-join shared (one_of xs) (sequence ys) refl
arms-joined shared (one_of xs) (one_of ys) = joined_to-join shared (one_of xs) (one_of ys) refl

pub arms-after : (shared : AbstractStartPredicate) (left right : Node) → join_starts_of_alternatives (join_starts_of_alternatives shared (abstract_start_predicate left)) (abstract_start_predicate right) ≡ join_nonempty_starts shared (abstract_start_predicate (alt left right))
unfolding abstract_start_predicate
arms-after shared left right =
    let both = join (abstract_start_predicate left) (abstract_start_predicate right) in
    let reads = join-reads (abstract_start_predicate left) (abstract_start_predicate right) in
    sym (arms-joined shared (abstract_start_predicate left) (abstract_start_predicate right)) ∙ after_arm-reads shared both reads ∙ sym (after-reads shared both reads)

-- Once the left alternative is joined, the right one is left to be joined.
pub arms-next : (before one all : AbstractStartPredicate) (left right : Node) → one ≡ join_starts_of_alternatives before (abstract_start_predicate left)
    → join_starts_of_alternatives before (abstract_start_predicate (alt left right)) ≡ all → join_starts_of_alternatives one (abstract_start_predicate right) ≡ all
unfolding abstract_start_predicate
arms-next before one all left right e h =
    ap (λ s. join_starts_of_alternatives s (abstract_start_predicate right)) e ∙ sym (arms-joined before (abstract_start_predicate left) (abstract_start_predicate right)) ∙ h

pub after-nothing : (more : AbstractStartPredicate) → join_nonempty_starts open_ended more ≡ more
after-nothing open_ended = refl
after-nothing arbitrary = refl
after-nothing (sequence xs) = refl
after-nothing (one_of xs) = refl

-- ---- Leaves

pub leaf-after : (n : Node) (shared after_it b : AbstractStartPredicate) → is_leaf n ≡ true → b ≡ abstract_start_predicate n → after_it ≡ join_starts shared b → after_it ≡ join_nonempty_starts shared (abstract_start_predicate n)
leaf-after n shared after_it b leaf e f = f ∙ ap (join_starts shared) e ∙ sym (after-reads shared (abstract_start_predicate n) (leaf-bare n leaf).reads)

-- ---- Starts that need no memory

then-no_sequence : (a b : AbstractStartPredicate) (first rest : Bool) → (first || predicate_says_reads_nothing a && rest) ≡ false
    → (first ≡ false → predicate_is_byte_sequence a ≡ false) → (rest ≡ false → predicate_is_byte_sequence b ≡ false) → predicate_is_byte_sequence (first_not_open_ended a b) ≡ false
then-no_sequence a b true rest e f g = cc
then-no_sequence open_ended b false rest e f g = g e
then-no_sequence arbitrary b false rest e f g = refl
then-no_sequence (sequence xs) b false rest e f g = f refl
then-no_sequence (one_of xs) b false rest e f g = refl

join-no_sequence : (a b : AbstractStartPredicate) → predicate_is_byte_sequence a ≡ false → predicate_is_byte_sequence b ≡ false → predicate_is_byte_sequence (join a b) ≡ false
join-no_sequence open_ended b h k = refl
join-no_sequence arbitrary b h k = refl
join-no_sequence (sequence xs) b h k = cc
join-no_sequence (one_of xs) open_ended h k = refl
join-no_sequence (one_of xs) arbitrary h k = refl
join-no_sequence (one_of xs) (sequence ys) h k = cc
join-no_sequence (one_of xs) (one_of ys) h k = refl

if-no_sequence : (test : Bool) (b : AbstractStartPredicate) (inside : Bool) → (test && inside) ≡ false → (inside ≡ false → predicate_is_byte_sequence b ≡ false)
    → predicate_is_byte_sequence (if test then b else arbitrary) ≡ false
if-no_sequence false b inside e f = refl
if-no_sequence true b inside e f = f e

-- If making the start of a node cannot allocate, its start is not a byte sequence.
pub no_sequence : (n : Node) → making_node_start_predicate_may_allocate n ≡ false → predicate_is_byte_sequence (abstract_start_predicate n) ≡ false
unfolding making_node_start_predicate_may_allocate abstract_start_predicate
no_sequence (byte_sequence bytes) h = cc
no_sequence (cat first rest) h = then-no_sequence (abstract_start_predicate first) (abstract_start_predicate rest) (making_node_start_predicate_may_allocate first) (making_node_start_predicate_may_allocate rest) h (no_sequence first) (no_sequence rest)
no_sequence (alt left right) h =
    let both = or_parts (making_node_start_predicate_may_allocate left) (making_node_start_predicate_may_allocate right) h in
    join-no_sequence (abstract_start_predicate left) (abstract_start_predicate right) (no_sequence left both.0) (no_sequence right both.1)
no_sequence (capture_group id name contents) h = no_sequence contents h
no_sequence (loop q start_group end_group loopee) h = if-no_sequence (nat_lt 0 q.min) (abstract_start_predicate loopee) (making_node_start_predicate_may_allocate loopee) h (no_sequence loopee)
no_sequence (loop_1_char_body q loopee) h = if-no_sequence (nat_lt 0 q.min) (abstract_start_predicate loopee) (making_node_start_predicate_may_allocate loopee) h (no_sequence loopee)
no_sequence _ h = refl

-- If making the start of an alternative cannot allocate, making that of its right arm cannot.
pub quiet-arms : (left right : Node) → making_node_start_predicate_may_allocate (alt left right) ≡ false → making_node_start_predicate_may_allocate right ≡ false
unfolding making_node_start_predicate_may_allocate
quiet-arms left right h = (or_parts (making_node_start_predicate_may_allocate left) (making_node_start_predicate_may_allocate right) h).1

-- If making the start of a node list cannot allocate, making that of its first node cannot.
pub quiet-first : (first rest : Node) → making_node_start_predicate_may_allocate (cat first rest) ≡ false → making_node_start_predicate_may_allocate first ≡ false
unfolding making_node_start_predicate_may_allocate
quiet-first first rest h = (or_parts (making_node_start_predicate_may_allocate first) (predicate_says_reads_nothing (abstract_start_predicate first) && making_node_start_predicate_may_allocate rest) h).0

pub quiet-rest : (first rest : Node) → abstract_start_predicate first ≡ open_ended → making_node_start_predicate_may_allocate (cat first rest) ≡ false → making_node_start_predicate_may_allocate rest ≡ false
unfolding making_node_start_predicate_may_allocate
quiet-rest first rest e h =
    let behind = (or_parts (making_node_start_predicate_may_allocate first) (predicate_says_reads_nothing (abstract_start_predicate first) && making_node_start_predicate_may_allocate rest) h).1 in
    sym (ap (λ b. predicate_says_reads_nothing b && making_node_start_predicate_may_allocate rest) e) ∙ behind

quiet-unless : (anchored grows : Bool) → anchored ≡ false → (not anchored && grows) ≡ false → grows ≡ false
quiet-unless false grows e h = h
quiet-unless true grows e h = cc

-- If making the start predicate cannot allocate, making the start of the root cannot.
pub quiet-root : (tree : Tree) → (not tree.flags.multiline && is_anchored tree.root) ≡ false → start_predicate_may_allocate tree ≡ false → making_node_start_predicate_may_allocate tree.root ≡ false
quiet-root tree = quiet-unless (not tree.flags.multiline && is_anchored tree.root) (making_node_start_predicate_may_allocate tree.root)

-- ---- Members of a set

pub predicate-none : (set : List ℕ) → set_bytes_from set 0 ≡ set → set_bytes_from set 0 ≡ [] → start_arbitrary ≡ resolved_start_predicate (one_of set)
predicate-none set all none = ap (λ s. resolved_start_predicate (one_of s)) (sym none ∙ all)

pub predicate-members : (set : List ℕ) (a : ℕ) (rest : List ℕ) → set_bytes_from set 0 ≡ set → set_bytes_from set 0 ≡ a ∷ rest
    → start_byte_set (a ∷ rest) ≡ resolved_start_predicate (one_of set)
predicate-members set a rest all e = ap (λ s. resolved_start_predicate (one_of s)) (sym e ∙ all)

pub predicate-bracket : (set : List ℕ) (a : ℕ) (rest : List ℕ) → set_bytes_from set 0 ≡ set → set_bytes_from set 0 ≡ a ∷ rest
    → start_byte_set set ≡ resolved_start_predicate (one_of set)
predicate-bracket set a rest all e = ap start_byte_set (sym all ∙ e) ∙ predicate-members set a rest all e

pub more_than_three : (set : List ℕ) (a b c d : ℕ) (rest : List ℕ) → set_bytes_from set 0 ≡ set → set_bytes_from set 0 ≡ a ∷ b ∷ c ∷ d ∷ rest → 3 < length set
more_than_three set a b c d rest all e =
    let four : length set ≡ length (a ∷ b ∷ c ∷ d ∷ rest) = ap length (sym all ∙ e) in
    omega (arith, four)

-- The members behind equal numbers are the same.
pub members_behind : (set rest : List ℕ) (a n : ℕ) → n ≡ a → set_bytes_from set (n + 1) ≡ rest → set_bytes_from set (a + 1) ≡ rest
members_behind set rest a n e h = ap (λ k. set_bytes_from set (k + 1)) (sym e) ∙ h

-- ---- Predicates

pub predicate-anchored : (tree : Tree) → (not tree.flags.multiline && is_anchored tree.root) ≡ true → start_anchored ≡ start_predicate tree
unfolding start_predicate
predicate-anchored tree h = rw h

pub predicate-elsewhere : (tree : Tree) → (not tree.flags.multiline && is_anchored tree.root) ≡ false → resolved_start_predicate (abstract_start_predicate tree.root) ≡ start_predicate tree
unfolding start_predicate
predicate-elsewhere tree h = rw h

pub sound-as : (tree : Tree) (p : StartPredicate) → p ≡ start_predicate tree → IsWellFormed tree.root → IsSoundStartPredicateOf p tree.root
sound-as tree p e w = rw e (predicate-sound tree w)

-- The start predicate of a tree that is not anchored comes from the start of its root.
pub predicate-begun : {E : Type 0} (r : Result declared.StartPredicate E) (b : AbstractStartPredicate) (tree : Tree) → (not tree.flags.multiline && is_anchored tree.root) ≡ false
    → b ≡ abstract_start_predicate tree.root → IfOk r (λ p. predicate_of p ≡ resolved_start_predicate b) → IfOk r (λ p. predicate_of p ≡ start_predicate tree)
predicate-begun r b tree h e =
    IfOk-weaker r (λ p. predicate_of p ≡ resolved_start_predicate b) (λ p. predicate_of p ≡ start_predicate tree) (λ p f. f ∙ ap resolved_start_predicate e ∙ predicate-elsewhere tree h)

pub all-sound : {E : Type 0} (r : Result declared.StartPredicate E) (tree : Tree) → IfOk r (λ p. predicate_of p ≡ start_predicate tree)
    → IsWellFormed tree.root → IfOk r (λ p. IsSoundStartPredicateOf (predicate_of p) tree.root)
all-sound r tree h w =
    IfOk-weaker r (λ p. predicate_of p ≡ start_predicate tree) (λ p. IsSoundStartPredicateOf (predicate_of p) tree.root) (λ p e. sound-as tree (predicate_of p) e w) h
