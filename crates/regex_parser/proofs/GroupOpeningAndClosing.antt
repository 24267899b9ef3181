-- Opening a capture group and closing any group keep how the rest completes the pattern.
use Rattle.std.proofs.Common.{◌≡◌, ℕ, Bool, true, false, List, [], ◌∷◌, ◌++◌, true≢false, nat_eq, refl, sym, ap, ap₂, subst, ◌∙◌, append-nil, ◌↔◌}
use Rattle.regex_meaning.specs.Tree.{Node, capture_group}
use Rattle.regex_meaning.specs.ReadingStatesAndDigits.{RemainingCodePoints, ParseState, PatternContext, number_of_opened_groups, ◌▸◌, with_opened_group, begins_with_characters, arm}
use Rattle.regex_meaning.specs.Grammar.{PatternDialect, Disjunction, Alternative, Term, Assertion, Atom, no_terms, terms, assertion, repeated_assertion, atom, quantified, start, end, boundary, look}
use Rattle.regex_meaning.specs.Grammar.{leaf, group, named_group, plain_group}
use Rattle.regex_parser.specs.ParseStack.{PartialDisjunction, empty_disjunction, push_term, nest_alternatives, CompletesDisjunction, last_arm, further_arms, OpenGroup, OpenGroupKind, captures, plain}
use Rattle.regex_parser.specs.ParseStack.{looks}
use Rattle.regex_parser.specs.ParseStack.{IsTerm, once, repeated, ClosesGroup, looked, looked_repeatedly, captured, enclosed, CompletesAllDisjunctions}
use Rattle.regex_meaning.proofs.DisjunctionReadingLemmas.{IsReadInOneWay, closes, closes_here, ends_here, close_ends, no_close, behind_word, unlike, first, rest_of, leaf_begins}
use Rattle.regex_parser.proofs.ParseStackLemmas.{begin, no_term, pushed, unpushed}

pub make_term : {S : PatternDialect} {w : PatternContext} {in_lookbehind : Bool} {p r s : ParseState} {n m : Node} → Atom S w in_lookbehind p r n → IsTerm (number_of_opened_groups p) n r s m → Term S w in_lookbehind p s m
make_term a (once k) = atom a k
make_term a (repeated k) = quantified a k

pub id_of : (d : ℕ) → OpenGroupKind → ℕ
id_of d (captures id name) = id
id_of d plain = d
id_of d (looks x y z) = d

pub name_of : (d : RemainingCodePoints) → OpenGroupKind → RemainingCodePoints
name_of d (captures id name) = name
name_of d plain = d
name_of d (looks x y z) = d

pub is_capture : OpenGroupKind → Bool
is_capture (captures id name) = true
is_capture plain = false
is_capture (looks x y z) = false

module _ (S : PatternDialect) (one : IsReadInOneWay S) where
  -- At a closing parenthesis the level is finished, and its node is added to the outer level.
  module _ (w : PatternContext) (l : PartialDisjunction) {p r : ParseState} (close : p ≡ ")" ▸ r) where
    abbrev pub done : Node
    done = nest_alternatives l.arms (arm l.in_lookbehind l.terms)

    nothing_more : {q : ParseState} {ns : List Node} → Alternative S w l.in_lookbehind p q ns → (p ≡ q) × (ns ≡ [])
    nothing_more no_terms = (refl, refl)
    nothing_more (terms t a) = absurd (no_term S one w t (rw close refl))

    pub is_done : {q : ParseState} {n : Node} → CompletesDisjunction S w l p q n → (p ≡ q) × (n ≡ done)
    is_done (last_arm a) = let h = nothing_more a in (h.0, ap (λ x. nest_alternatives l.arms (arm l.in_lookbehind x)) (ap (λ x. l.terms ++ x) h.1 ∙ append-nil l.terms))
    is_done (further_arms a bar d) = absurd (no_close ((nothing_more a).0 ∙ bar) (closes close))

    completed : CompletesDisjunction S w l p p done
    completed = subst (λ x. CompletesDisjunction S w l p p (nest_alternatives l.arms (arm l.in_lookbehind x))) (append-nil l.terms) (last_arm no_terms)

    pub leave : (gs : List RemainingCodePoints) (o : OpenGroup) (around : List OpenGroup) (t : Node)
        → CompletesAllDisjunctions S w gs (o ∷ around) l p t ↔ ((s : ParseState) × (n : Node) × ClosesGroup S w o done r s n × CompletesAllDisjunctions S w gs around (push_term n o.outer) s t)
    leave gs o around t = (to, λ h. (p, r, h.0, done, h.1, completed, close, h.2, h.3))
      where
        to : CompletesAllDisjunctions S w gs (o ∷ around) l p t → (s : ParseState) × (n : Node) × ClosesGroup S w o done r s n × CompletesAllDisjunctions S w gs around (push_term n o.outer) s t
        to h =
            let k = is_done h.5 in
            let here : r ≡ h.1 = behind_word ")" close (k.0 ∙ h.6) in
            (h.2, h.4, subst (λ x. ClosesGroup S w o x r h.2 h.4) k.1 (subst (λ x. ClosesGroup S w o h.3 x h.2 h.4) (sym here) h.7), h.8)

  -- If the text behind a term completes the level with that term, the text from the term does.
  pub pushed_all : (w : PatternContext) (gs : List RemainingCodePoints) (around : List OpenGroup) (l : PartialDisjunction) (t : Node) {p q : ParseState} {n : Node} → Term S w l.in_lookbehind p q n → CompletesAllDisjunctions S w gs around (push_term n l) q t → CompletesAllDisjunctions S w gs around l p t
  pushed_all w gs [] l t is h = pushed S one w l is h
  pushed_all w gs (o ∷ around) l t is h = (h.0, h.1, h.2, h.3, h.4, pushed S one w l is h.5, h.6, h.7, h.8)

  pub unpushed_all : (w : PatternContext) (gs : List RemainingCodePoints) (around : List OpenGroup) (l : PartialDisjunction) (t : Node) {p q : ParseState} {n : Node} → Term S w l.in_lookbehind p q n → CompletesAllDisjunctions S w gs around l p t → CompletesAllDisjunctions S w gs around (push_term n l) q t
  unpushed_all w gs [] l t is h = unpushed S one w l is refl h
  unpushed_all w gs (o ∷ around) l t is h = (h.0, h.1, h.2, h.3, h.4, unpushed S one w l is (closes h.6) h.5, h.6, h.7, h.8)

  -- Where no alternative ends, what completes the pattern begins with a term.
  module _ (w : PatternContext) {p : ParseState} (more : ends_here p.text ≡ false) where
    goes_on : {q : ParseState} → ends_here q.text ≡ true → p ≡ q → ⊥
    goes_on e f = true≢false (sym e ∙ ap (λ x. ends_here x.text) (sym f) ∙ more)

    some_term : {in_lookbehind : Bool} {q : ParseState} {ns : List Node} → Alternative S w in_lookbehind p q ns → ends_here q.text ≡ true → (s : ParseState) × (n : Node) × Term S w in_lookbehind p s n
    some_term no_terms e = absurd (goes_on e refl)
    some_term (terms {q = s} {n = n} t a) e = (s, n, t)

    term_of : (l : PartialDisjunction) {q : ParseState} {n : Node} → CompletesDisjunction S w l p q n → closes_here q.text ≡ true → (s : ParseState) × (m : Node) × Term S w l.in_lookbehind p s m
    term_of l {q} (last_arm a) e = some_term a (close_ends q.text e)
    term_of l (further_arms a bar d) e = some_term a (rw bar refl)

    pub next_term : (gs : List RemainingCodePoints) (around : List OpenGroup) (l : PartialDisjunction) (t : Node) → CompletesAllDisjunctions S w gs around l p t → (s : ParseState) × (m : Node) × Term S w l.in_lookbehind p s m
    next_term gs [] l t h = term_of l h refl
    next_term gs (o ∷ around) l t h = term_of l h.5 (closes h.6)

  -- Opening a group without a name keeps how the rest completes the pattern.
  module _ (w : PatternContext) (gs : List RemainingCodePoints) (l : PartialDisjunction) (around : List OpenGroup) (t : Node) {p q : ParseState} (e : p ≡ "(" ▸ q) (o : begins_with_characters "?" q.text ≡ false) where
    abbrev pub group_here : OpenGroup
    group_here = record { outer = l; opened = captures (number_of_opened_groups p) []; start = number_of_opened_groups p }

    closed : {r s : ParseState} {contents n : Node} → ClosesGroup S w group_here contents r s n → IsTerm (number_of_opened_groups p) (capture_group (number_of_opened_groups p) [] contents) r s n
    unfolding id_of name_of is_capture
    closed (looked x y z f none) = absurd (true≢false (ap is_capture f))
    closed (looked_repeatedly x y z f may k) = absurd (true≢false (ap is_capture f))
    closed (enclosed f k) = absurd (true≢false (ap is_capture f))
    closed {r} {s} {contents} {n} (captured {id = i} {name = x} f k) =
        let same : capture_group i x contents ≡ capture_group (number_of_opened_groups p) [] contents =
        ap₂ (λ a b. capture_group a b contents) (sym (ap (id_of 0) f)) (sym (ap (name_of []) f)) in
        subst (λ a. IsTerm (number_of_opened_groups p) a r s n) same k

    from : CompletesAllDisjunctions S w gs (group_here ∷ around) (empty_disjunction l.in_lookbehind) (with_opened_group [] q) t → CompletesAllDisjunctions S w gs around l p t
    from h =
        let d = (begin S one w l.in_lookbehind (with_opened_group [] q) h.0 h.3).1 h.5 in
        pushed_all w gs around l t (make_term (group e o d h.6) (closed h.7)) h.8

    abbrev Found : (s : ParseState) → Node → Type 0
    Found s m =
        (x y : ParseState) × (contents : Node) × Disjunction S w l.in_lookbehind (with_opened_group [] q) x contents × (x ≡ ")" ▸ y) × IsTerm (number_of_opened_groups p) (capture_group (number_of_opened_groups p) [] contents) y s m

    not_question : {rest : RemainingCodePoints} → p.text ≡ 40 ∷ 63 ∷ rest → ⊥
    not_question {rest} f = true≢false (subst (λ x. begins_with_characters "?" x ≡ false) (ap rest_of (sym (ap (λ x. x.text) e) ∙ f)) o)

    not_first : {c : ℕ} {rest : RemainingCodePoints} → p.text ≡ c ∷ rest → nat_eq 40 c ≡ false → ⊥
    not_first {c} f g = unlike 40 c g (ap first (sym (ap (λ x. x.text) e) ∙ f))

    in_atom : {s x : ParseState} {n m : Node} → Atom S w l.in_lookbehind p x n → IsTerm (number_of_opened_groups p) n x s m → Found s m
    in_atom (leaf a) k = absurd (true≢false (sym (one.leaf_apart w _ _ _ a) ∙ ap (λ x. leaf_begins x.text) e))
    in_atom (group {r = x} {t = y} {n = contents} f g d close) k =
        (x, y, contents, subst (λ a. Disjunction S w l.in_lookbehind (with_opened_group [] a) x contents) (behind_word "(" f e) d, close, k)
    in_atom (named_group f d g close) k = absurd (not_question (ap (λ x. x.text) f))
    in_atom (plain_group f d close) k = absurd (not_question (ap (λ x. x.text) f))

    no_assertion : {s : ParseState} {m : Node} → Assertion S w p s m → ⊥
    no_assertion (start f) = not_first (ap (λ x. x.text) f) refl
    no_assertion (end f) = not_first (ap (λ x. x.text) f) refl
    no_assertion (boundary true f) = not_first (ap (λ x. x.text) f) refl
    no_assertion (boundary false f) = not_first (ap (λ x. x.text) f) refl
    no_assertion (look true true f d g) = not_question (ap (λ x. x.text) f)
    no_assertion (look true false f d g) = not_question (ap (λ x. x.text) f)
    no_assertion (look false true f d g) = not_question (ap (λ x. x.text) f)
    no_assertion (look false false f d g) = not_question (ap (λ x. x.text) f)

    in_term : {s : ParseState} {m : Node} → Term S w l.in_lookbehind p s m → Found s m
    in_term (assertion a none) = absurd (no_assertion a)
    in_term (repeated_assertion a may k) = absurd (no_assertion a)
    in_term (atom a k) = in_atom a (once k)
    in_term (quantified a k) = in_atom a (repeated k)

    to : CompletesAllDisjunctions S w gs around l p t → CompletesAllDisjunctions S w gs (group_here ∷ around) (empty_disjunction l.in_lookbehind) (with_opened_group [] q) t
    to h =
        let u = next_term w (ap (λ x. ends_here x.text) e) gs around l t h in
        let f = in_term u.2 in
        (f.0, f.1, u.0, f.2, u.1, (begin S one w l.in_lookbehind (with_opened_group [] q) f.0 f.2).0 f.3, f.4, captured refl f.5, unpushed_all w gs around l t u.2 h)

    pub enter : CompletesAllDisjunctions S w gs (group_here ∷ around) (empty_disjunction l.in_lookbehind) (with_opened_group [] q) t ↔ CompletesAllDisjunctions S w gs around l p t
    enter = (from, to)
