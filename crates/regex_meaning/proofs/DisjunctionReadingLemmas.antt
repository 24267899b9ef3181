-- A disjunction has at most one tree in a dialect whose atoms and names have at most one reading.
use Rattle.std.proofs.Common.{◌≡◌, ℕ, Bool, true, false, ◌&&◌, List, [], ◌∷◌, ◌++◌, true≢false, inl, inr, ⊎_elim, ◌⊎◌, refl, sym, ap, ap₂, subst, nat_eq, ◌∙◌}
use Rattle.std.specs.Prelude.{codes, if◌then◌else◌, not}
use Rattle.std.proofs.lemmas.Bool.{or_right, or_cases, eq-eqb, eqb-true, false≢true}
use Rattle.std.proofs.lemmas.List.{append_cancel_left}
use Prim.Native.String.{String}
use Rattle.regex_meaning.specs.Tree.{Node, Quantifier, anchor, start_of_line, end_of_line, word_boundary, capture_group, lookaround, loop}
use Rattle.regex_meaning.specs.ReadingStatesAndDigits.{RemainingCodePoints, ParseState, PatternContext, number_of_opened_groups, ◌▸◌, state_with_text_left, with_opened_group, ◌∈◌}
use Rattle.regex_meaning.specs.ReadingStatesAndDigits.{begins_with_characters, arm}
use Rattle.regex_meaning.specs.EscapesNamesQuantifiers.{BeginsQuantifier, ValidQuantifier, greedy, lazy}
use Rattle.regex_meaning.specs.Grammar.{PatternDialect, Disjunction, Alternative, Term, Assertion, Atom, last_alternative, alternatives, no_terms, terms, assertion, repeated_assertion, atom}
use Rattle.regex_meaning.specs.Grammar.{quantified, start, end, boundary, look, lookaround_opener, leaf, group, named_group, plain_group}

-- Nothing is left, or a closing parenthesis is next.
abbrev pub closes_here : RemainingCodePoints → Bool
closes_here [] = true
closes_here (c ∷ cs) = c ∈ ")"

abbrev pub ends_here : RemainingCodePoints → Bool
ends_here [] = true
ends_here (c ∷ cs) = c ∈ "|)"

pub close_ends : (here : RemainingCodePoints) → closes_here here ≡ true → ends_here here ≡ true
close_ends [] e = refl
close_ends (c ∷ cs) e = or_right (nat_eq c 124) _ e

pub closes : {p q : ParseState} → p ≡ ")" ▸ q → closes_here p.text ≡ true
closes e = rw e refl

pub no_close : {p q : ParseState} → p ≡ "|" ▸ q → closes_here p.text ≡ true → ⊥
no_close {p} {q} e f = let h : closes_here (124 ∷ q.text) ≡ true = subst (λ x. closes_here x.text ≡ true) e f in true≢false (sym h)

pub behind_word : (word : String) {p q r : ParseState} → p ≡ word ▸ q → p ≡ word ▸ r → q ≡ r
behind_word word {p} {q} {r} e f =
    let both : word ▸ q ≡ word ▸ r = sym e ∙ f in
    let text : q.text ≡ r.text = append_cancel_left (codes word) _ _ (ap (λ x. x.text) both) in
    let opened : q.opened ≡ r.opened = ap (λ x. x.opened) both in
    ap₂ (λ t o. record { text = t; opened = o }) text opened

abbrev pub first : RemainingCodePoints → ℕ
first [] = 0
first (c ∷ cs) = c

abbrev pub rest_of : RemainingCodePoints → RemainingCodePoints
rest_of [] = []
rest_of (c ∷ cs) = cs

abbrev pub second : RemainingCodePoints → ℕ
second here = first (rest_of here)

abbrev pub third : RemainingCodePoints → ℕ
third here = first (rest_of (rest_of here))

abbrev pub fourth : RemainingCodePoints → ℕ
fourth here = first (rest_of (rest_of (rest_of here)))

pub unlike : (c d : ℕ) → nat_eq c d ≡ false → c ≡ d → ⊥
unlike c d e f = true≢false (sym (eq-eqb c d f) ∙ e)

pub places_differ : {p q r : ParseState} (char_at : RemainingCodePoints → ℕ) → p ≡ q → p ≡ r → nat_eq (char_at q.text) (char_at r.text) ≡ false → ⊥
places_differ {p} {q} {r} char_at e f g = unlike (char_at q.text) (char_at r.text) g (ap (λ x. char_at x.text) (sym e ∙ f))

-- An atom that is no atom without groups begins with a parenthesis.
no_group : {S : PatternDialect} {in_lookbehind : Bool} {p r : ParseState} {m : Node} (u : PatternContext) → Atom S u in_lookbehind p r m → ((there : RemainingCodePoints) (n : Node) → S.simple_atom u p.text there n → ⊥) → nat_eq (first p.text) 40 ≡ false → ⊥
no_group u (leaf {there = there} {n = n} a) never f = never there n a
no_group {p = p} u (group e o d g) never f = unlike (first p.text) 40 f (ap (λ x. first x.text) e)
no_group {p = p} u (named_group e o d g) never f = unlike (first p.text) 40 f (ap (λ x. first x.text) e)
no_group {p = p} u (plain_group e d g) never f = unlike (first p.text) 40 f (ap (λ x. first x.text) e)

-- ---- Assertions by the word that they begin with

pub data Word : Type 0 where
  of_start : Word
  of_end : Word
  of_boundary : (invert : Bool) → Word
  of_look : (negate backwards : Bool) → Word

abbrev pub word_at : RemainingCodePoints → Word
word_at here =
    if nat_eq (first here) 94 then of_start
    else if nat_eq (first here) 36 then of_end
    else if nat_eq (first here) 92 then of_boundary (nat_eq (second here) 66)
    else if nat_eq (third here) 60 then of_look (nat_eq (fourth here) 33) true
    else of_look (nat_eq (third here) 33) false

abbrev pub Meant : (S : PatternDialect) (w : PatternContext) (p s : ParseState) (n : Node) → Word → Type 0
Meant S w p s n of_start = (p ≡ "^" ▸ s) × (n ≡ anchor start_of_line w.flags.multiline)
Meant S w p s n of_end = (p ≡ "$" ▸ s) × (n ≡ anchor end_of_line w.flags.multiline)
Meant S w p s n (of_boundary invert) =
    (p ≡ (if invert then "\\B" else "\\b") ▸ s) × (n ≡ word_boundary invert (w.flags.icase && w.flags.unicode))
Meant S w p s n (of_look negate backwards) =
    (q r : ParseState) × (c : Node) × (p ≡ lookaround_opener negate backwards ▸ q) × Disjunction S w backwards q r c × (r ≡ ")" ▸ s)
    × (n ≡ lookaround (record { negate = negate; backwards = backwards; start_group = number_of_opened_groups p; end_group = number_of_opened_groups s }) c)

pub boundary_word : (invert : Bool) (q : ParseState) {p : ParseState} → p ≡ (if invert then "\\B" else "\\b") ▸ q → word_at p.text ≡ of_boundary invert
boundary_word false q e = ap (λ x. word_at x.text) e
boundary_word true q e = ap (λ x. word_at x.text) e

pub look_word : (negate backwards : Bool) (q : ParseState) {p : ParseState} → p ≡ lookaround_opener negate backwards ▸ q → word_at p.text ≡ of_look negate backwards
look_word false false q e = ap (λ x. word_at x.text) e
look_word true false q e = ap (λ x. word_at x.text) e
look_word false true q e = ap (λ x. word_at x.text) e
look_word true true q e = ap (λ x. word_at x.text) e

meant_here : (S : PatternDialect) (w : PatternContext) (p s : ParseState) (n : Node) (word : Word) → Assertion S w p s n → word_at p.text ≡ word → Meant S w p s n word
meant_here S w p s n word (start e) f = subst (Meant S w p s n) (sym (ap (λ x. word_at x.text) e) ∙ f) (e, refl)
meant_here S w p s n word (end e) f = subst (Meant S w p s n) (sym (ap (λ x. word_at x.text) e) ∙ f) (e, refl)
meant_here S w p s n word (boundary invert e) f = subst (Meant S w p s n) (sym (boundary_word invert _ e) ∙ f) (e, refl)
meant_here S w p s n word (look {q = q} {r = r} {n = c} negate backwards e d g) f =
    subst (Meant S w p s n) (sym (look_word negate backwards _ e) ∙ f) (q, r, c, e, d, g, refl)

-- An assertion that begins with a word is what the word means.
pub meant : {S : PatternDialect} {w : PatternContext} {p s : ParseState} {n : Node} (word : Word) → word_at p.text ≡ word → Assertion S w p s n → Meant S w p s n word
meant word f a = meant_here _ _ _ _ _ word a f

-- Two readings agree if they end in the same state with the same result.
abbrev pub Agree : {A : Type 0} → (q r : ParseState) (a b : A) → Type 0
Agree q r a b = (q ≡ r) × (a ≡ b)

abbrev pub QuantifiersAgree : Type 0
QuantifiersAgree = (here a b : RemainingCodePoints) (n m : Quantifier) → ValidQuantifier here a n → ValidQuantifier here b m → (a ≡ b) × (n ≡ m)

abbrev pub leaf_begins : RemainingCodePoints → Bool
leaf_begins [] = false
leaf_begins (c ∷ cs) = not (c ∈ "^$*+?()|")

-- The dialect reads atoms without groups, and names, in one way. No such atom begins with a sign of
-- the productions with groups or with a word boundary, and no name begins with the sign of a
-- lookbehind.
pub record IsReadInOneWay (S : PatternDialect) : Type 0 where
  pub one_leaf : (w : PatternContext) (here a b : RemainingCodePoints) (n m : Node) → S.simple_atom w here a n → S.simple_atom w here b m → (a ≡ b) × (n ≡ m)
  pub one_name : (here a b n m : RemainingCodePoints) → S.group_name here a n → S.group_name here b m → (a ≡ b) × (n ≡ m)
  pub no_sign : (c : ℕ) (there name rest : RemainingCodePoints) → c ∈ "=!" ≡ true → S.group_name (c ∷ rest) there name → ⊥
  pub leaf_apart : (w : PatternContext) (here there : RemainingCodePoints) (n : Node) → S.simple_atom w here there n → leaf_begins here ≡ true
  pub leaf_no_boundary : (w : PatternContext) (here there rest : RemainingCodePoints) (n : Node) (invert : Bool) → S.simple_atom w here there n
      → here ≡ codes (if invert then "\\B" else "\\b") ++ rest → ⊥

module _ {S : PatternDialect} {w : PatternContext} {p q : ParseState} where
  from_here : {in_lookbehind : Bool} {r : ParseState} {n : Node} → p ≡ q → Disjunction S w in_lookbehind q r n → Disjunction S w in_lookbehind p r n
  from_here {in_lookbehind} {r} {n} e d = subst (λ x. Disjunction S w in_lookbehind x r n) (sym e) d

  terms_from : {in_lookbehind : Bool} {r : ParseState} {ns : List Node} → p ≡ q → Alternative S w in_lookbehind q r ns → Alternative S w in_lookbehind p r ns
  terms_from {in_lookbehind} {r} {ns} e a = subst (λ x. Alternative S w in_lookbehind x r ns) (sym e) a

  from_inside : {in_lookbehind : Bool} {r : ParseState} {n : Node} → p ≡ q → Disjunction S w in_lookbehind (with_opened_group [] q) r n → Disjunction S w in_lookbehind (with_opened_group [] p) r n
  from_inside {in_lookbehind} {r} {n} e d = subst (λ x. Disjunction S w in_lookbehind (with_opened_group [] x) r n) (sym e) d

  from_named : {in_lookbehind : Bool} {r : ParseState} {n : Node} {a b x y : RemainingCodePoints} → p ≡ q → a ≡ b → x ≡ y → Disjunction S w in_lookbehind (with_opened_group y (state_with_text_left b q)) r n → Disjunction S w in_lookbehind (with_opened_group x (state_with_text_left a p)) r n
  from_named {in_lookbehind} {r} {n} {a} {b} {x} {y} e f g d =
      let h : with_opened_group x (state_with_text_left a p) ≡ with_opened_group y (state_with_text_left b q) = rw (e, f, g) refl in subst (λ z. Disjunction S w in_lookbehind z r n) (sym h) d

quantified_from : {p q : ParseState} {there : RemainingCodePoints} {n : Quantifier} → p ≡ q → ValidQuantifier q.text there n → ValidQuantifier p.text there n
quantified_from {there = there} {n = n} e k = subst (λ x. ValidQuantifier x.text there n) (sym e) k

pub name_from : (S : PatternDialect) {p q : ParseState} {there n : RemainingCodePoints} → p ≡ q → S.group_name q.text there n → S.group_name p.text there n
name_from S {there = there} {n = n} e k = subst (λ x. S.group_name x.text there n) (sym e) k

pub is_quantified : {here there : RemainingCodePoints} {q : Quantifier} → ValidQuantifier here there q → BeginsQuantifier here
is_quantified (greedy {there = there} h f o) = (there, _, _, h)
is_quantified (lazy {a = a} h f o) = (a, _, _, h)

module _ (S : PatternDialect) (one : IsReadInOneWay S) (one_quantifier : QuantifiersAgree) (w : PatternContext) where
  one_look : {p q q' r r' s s' : ParseState} {n n' : Node} (negate backwards : Bool) → p ≡ lookaround_opener negate backwards ▸ q → p ≡ lookaround_opener negate backwards ▸ q' → r ≡ ")" ▸ s → r' ≡ ")" ▸ s'
      → (q ≡ q' → Agree r r' n n')
      → Agree s s' (lookaround (record { negate = negate; backwards = backwards; start_group = number_of_opened_groups p; end_group = number_of_opened_groups s }) n)
      (lookaround (record { negate = negate; backwards = backwards; start_group = number_of_opened_groups p; end_group = number_of_opened_groups s' }) n')
  one_look negate backwards e e' f f' k =
      let h = k (behind_word (lookaround_opener negate backwards) e e') in
      let there = behind_word ")" f (h.0 ∙ f') in
      (there, rw (there, h.1) refl)

  no_anchor : {here there rest : RemainingCodePoints} {c : ℕ} {n : Node} → here ≡ c ∷ rest → S.simple_atom w here there n → leaf_begins (c ∷ rest) ≡ false → ⊥
  no_anchor e a f = true≢false (sym (subst (λ x. leaf_begins x ≡ true) e (one.leaf_apart w _ _ _ a)) ∙ f)

  pub no_leaf : {here there rest : RemainingCodePoints} {n : Node} → here ≡ 40 ∷ rest → S.simple_atom w here there n → ⊥
  no_leaf {rest = rest} e a = let h : leaf_begins (40 ∷ rest) ≡ true = subst (λ x. leaf_begins x ≡ true) e (one.leaf_apart w _ _ _ a) in true≢false (sym h)

  pub no_question : {q : RemainingCodePoints} {rest : RemainingCodePoints} → begins_with_characters "?" q ≡ false → 40 ∷ q ≡ 40 ∷ 63 ∷ rest → ⊥
  no_question {q} {rest} o e = let h : q ≡ 63 ∷ rest = cc in true≢false (subst (λ x. begins_with_characters "?" x ≡ false) h o)

  pub no_name : (negate : Bool) {q there name : RemainingCodePoints} (rest : RemainingCodePoints) → S.group_name q there name → 40 ∷ 63 ∷ 60 ∷ q ≡ codes (lookaround_opener negate true) ++ rest → ⊥
  no_name false {there = there} {name = name} rest g e = one.no_sign 61 there name rest refl (subst (λ x. S.group_name x there name) (ap (λ x. rest_of (rest_of (rest_of x))) e) g)
  no_name true {there = there} {name = name} rest g e = one.no_sign 33 there name rest refl (subst (λ x. S.group_name x there name) (ap (λ x. rest_of (rest_of (rest_of x))) e) g)

  pub assertion_or_atom : {in_lookbehind : Bool} {p q r : ParseState} {n m : Node} → Assertion S w p q n → Atom S w in_lookbehind p r m → ⊥
  assertion_or_atom (start e) a = no_group w a (λ there n l. no_anchor (ap (λ x. x.text) e) l refl) (subst (λ x. nat_eq (first x.text) 40 ≡ false) (sym e) refl)
  assertion_or_atom (end e) a = no_group w a (λ there n l. no_anchor (ap (λ x. x.text) e) l refl) (subst (λ x. nat_eq (first x.text) 40 ≡ false) (sym e) refl)
  assertion_or_atom (boundary false e) a = no_group w a (λ there n l. one.leaf_no_boundary w _ _ _ _ false l (ap (λ x. x.text) e)) (subst (λ x. nat_eq (first x.text) 40 ≡ false) (sym e) refl)
  assertion_or_atom (boundary true e) a = no_group w a (λ there n l. one.leaf_no_boundary w _ _ _ _ true l (ap (λ x. x.text) e)) (subst (λ x. nat_eq (first x.text) 40 ≡ false) (sym e) refl)
  assertion_or_atom (look false false e d f) (leaf a) = no_leaf (ap (λ x. x.text) e) a
  assertion_or_atom (look true false e d f) (leaf a) = no_leaf (ap (λ x. x.text) e) a
  assertion_or_atom (look false true e d f) (leaf a) = no_leaf (ap (λ x. x.text) e) a
  assertion_or_atom (look true true e d f) (leaf a) = no_leaf (ap (λ x. x.text) e) a
  assertion_or_atom (look false false e d f) (group e' o' d' f') = no_question o' (ap (λ x. x.text) (sym e' ∙ e))
  assertion_or_atom (look false false e d f) (plain_group e' d' f') = places_differ third e e' refl
  assertion_or_atom (look true false e d f) (group e' o' d' f') = no_question o' (ap (λ x. x.text) (sym e' ∙ e))
  assertion_or_atom (look true false e d f) (plain_group e' d' f') = places_differ third e e' refl
  assertion_or_atom (look false true e d f) (group e' o' d' f') = no_question o' (ap (λ x. x.text) (sym e' ∙ e))
  assertion_or_atom (look false true e d f) (plain_group e' d' f') = places_differ third e e' refl
  assertion_or_atom (look true true e d f) (group e' o' d' f') = no_question o' (ap (λ x. x.text) (sym e' ∙ e))
  assertion_or_atom (look true true e d f) (plain_group e' d' f') = places_differ third e e' refl
  assertion_or_atom (look false false e d f) (named_group e' o' d' f') = places_differ third e e' refl
  assertion_or_atom (look true false e d f) (named_group e' o' d' f') = places_differ third e e' refl
  assertion_or_atom (look false true e d f) (named_group e' o' d' f') = no_name false _ o' (ap (λ x. x.text) (sym e' ∙ e))
  assertion_or_atom (look true true e d f) (named_group e' o' d' f') = no_name true _ o' (ap (λ x. x.text) (sym e' ∙ e))

  not_ended : {here rest : RemainingCodePoints} {c : ℕ} → here ≡ c ∷ rest → c ∈ "|)" ≡ false → ends_here here ≡ true → ⊥
  not_ended e f g = true≢false (sym (subst (λ x. ends_here x ≡ true) e g) ∙ f)

  leaf_ended : (here : RemainingCodePoints) → leaf_begins here ≡ true → ends_here here ≡ true → ⊥
  leaf_ended [] e f = true≢false (sym e)
  leaf_ended (c ∷ cs) e f = at_end c (or_cases _ _ f) e
    where
      at_end : (c : ℕ) → (nat_eq c 124 ≡ true) ⊎ (c ∈ ")" ≡ true) → leaf_begins (c ∷ []) ≡ true → ⊥
      at_end c (inl f) e = false≢true (subst (λ d. leaf_begins (d ∷ []) ≡ true) (eqb-true c 124 f) e)
      at_end c (inr f) e = ⊎_elim (λ g. false≢true (subst (λ d. leaf_begins (d ∷ []) ≡ true) (eqb-true c 41 g) e)) (λ g. false≢true g) (or_cases (nat_eq c 41) false f)

  atom_begins : {in_lookbehind : Bool} {p q : ParseState} {n : Node} → Atom S w in_lookbehind p q n → ends_here p.text ≡ true → ⊥
  atom_begins {p = p} (leaf a) e = leaf_ended p.text (one.leaf_apart w _ _ _ a) e
  atom_begins (group f o d g) e = not_ended (ap (λ x. x.text) f) refl e
  atom_begins (named_group f o d g) e = not_ended (ap (λ x. x.text) f) refl e
  atom_begins (plain_group f d g) e = not_ended (ap (λ x. x.text) f) refl e

  assertion_begins : {p q : ParseState} {n : Node} → Assertion S w p q n → ends_here p.text ≡ true → ⊥
  assertion_begins (start f) e = not_ended (ap (λ x. x.text) f) refl e
  assertion_begins (end f) e = not_ended (ap (λ x. x.text) f) refl e
  assertion_begins (boundary false f) e = not_ended (ap (λ x. x.text) f) refl e
  assertion_begins (boundary true f) e = not_ended (ap (λ x. x.text) f) refl e
  assertion_begins (look false false f d g) e = not_ended (ap (λ x. x.text) f) refl e
  assertion_begins (look true false f d g) e = not_ended (ap (λ x. x.text) f) refl e
  assertion_begins (look false true f d g) e = not_ended (ap (λ x. x.text) f) refl e
  assertion_begins (look true true f d g) e = not_ended (ap (λ x. x.text) f) refl e

  pub term_begins : {in_lookbehind : Bool} {p q : ParseState} {n : Node} → Term S w in_lookbehind p q n → ends_here p.text ≡ true → ⊥
  term_begins (assertion a k) e = assertion_begins a e
  term_begins (repeated_assertion a may k) e = assertion_begins a e
  term_begins (atom a k) e = atom_begins a e
  term_begins (quantified a k) e = atom_begins a e

  -- Quantifiers after readings that agree give loops that agree.
  one_loop : (p : ParseState) {q r : ParseState} {n m : Node} {a b : RemainingCodePoints} {x y : Quantifier} → Agree q r n m → ValidQuantifier q.text a x → ValidQuantifier r.text b y
      → Agree (state_with_text_left a q) (state_with_text_left b r) (loop x (number_of_opened_groups p) (number_of_opened_groups q) n) (loop y (number_of_opened_groups p) (number_of_opened_groups r) m)
  one_loop p h k l = let g = one_quantifier _ _ _ _ _ k (quantified_from h.0 l) in (rw (h.0, g.0) refl, rw (h.0, h.1, g.1) refl)

  -- No quantifier is read at a state where none begins.
  only_one : {p q : ParseState} {there : RemainingCodePoints} {x : Quantifier} → p ≡ q → ¬ (BeginsQuantifier p.text) → ValidQuantifier q.text there x → ⊥
  only_one e none k = none (subst (λ x. BeginsQuantifier x.text) (sym e) (is_quantified k))

  mutual
    pub one_disjunction : {in_lookbehind : Bool} {p q r : ParseState} {n m : Node} → Disjunction S w in_lookbehind p q n → Disjunction S w in_lookbehind p r m → closes_here q.text ≡ true → closes_here r.text ≡ true → Agree q r n m
    one_disjunction {q = q} {r = r} (last_alternative a) (last_alternative b) e f =
        let h = one_alternative a b (close_ends q.text e) (close_ends r.text f) in (h.0, ap (arm _) h.1)
    one_disjunction {q = q} {r = r} (last_alternative a) (alternatives b bar d) e f =
        let h = one_alternative a b (close_ends q.text e) (rw bar refl) in absurd (no_close (h.0 ∙ bar) e)
    one_disjunction {q = q} {r = r} (alternatives a bar d) (last_alternative b) e f =
        let h = one_alternative a b (rw bar refl) (close_ends r.text f) in absurd (no_close (sym h.0 ∙ bar) f)
    one_disjunction {q = q} {r = r} (alternatives a bar d) (alternatives b bar' d') e f =
        let h = one_alternative a b (rw bar refl) (rw bar' refl) in
        let here = behind_word "|" bar (h.0 ∙ bar') in
        let k = one_disjunction d (from_here here d') e f in
        (k.0, rw (h.1, k.1) refl)

    one_alternative : {in_lookbehind : Bool} {p q r : ParseState} {ns ms : List Node} → Alternative S w in_lookbehind p q ns → Alternative S w in_lookbehind p r ms → ends_here q.text ≡ true → ends_here r.text ≡ true → Agree q r ns ms
    one_alternative no_terms no_terms e f = (refl, refl)
    one_alternative no_terms (terms t a) e f = absurd (term_begins t e)
    one_alternative (terms t a) no_terms e f = absurd (term_begins t f)
    one_alternative (terms t a) (terms u b) e f =
        let h = one_term t u in
        let k = one_alternative a (terms_from h.0 b) e f in
        (k.0, rw (h.1, k.1) refl)

    pub one_term : {in_lookbehind : Bool} {p q r : ParseState} {n m : Node} → Term S w in_lookbehind p q n → Term S w in_lookbehind p r m → Agree q r n m
    one_term (assertion a k) (assertion b l) = one_assertion a b
    one_term (assertion a k) (repeated_assertion b may l) = absurd (only_one (one_assertion a b).0 k l)
    one_term (repeated_assertion a may k) (assertion b l) = absurd (only_one (sym (one_assertion a b).0) l k)
    one_term {p = p} (repeated_assertion a may k) (repeated_assertion b may' l) = one_loop p (one_assertion a b) k l
    one_term (assertion a k) (atom b l) = absurd (assertion_or_atom a b)
    one_term (assertion a k) (quantified b l) = absurd (assertion_or_atom a b)
    one_term (repeated_assertion a may k) (atom b l) = absurd (assertion_or_atom a b)
    one_term (repeated_assertion a may k) (quantified b l) = absurd (assertion_or_atom a b)
    one_term (atom a k) (assertion b l) = absurd (assertion_or_atom b a)
    one_term (quantified a k) (assertion b l) = absurd (assertion_or_atom b a)
    one_term (atom a k) (repeated_assertion b may l) = absurd (assertion_or_atom b a)
    one_term (quantified a k) (repeated_assertion b may l) = absurd (assertion_or_atom b a)
    one_term (atom a k) (atom b l) = one_atom a b
    one_term (atom a k) (quantified b l) = absurd (only_one (one_atom a b).0 k l)
    one_term (quantified a k) (atom b l) = absurd (only_one (sym (one_atom a b).0) l k)
    one_term {p = p} (quantified a k) (quantified b l) = one_loop p (one_atom a b) k l

    pub one_assertion : {p q r : ParseState} {n m : Node} → Assertion S w p q n → Assertion S w p r m → Agree q r n m
    one_assertion (start e) b =
        let m = meant of_start (ap (λ x. word_at x.text) e) b in
        (behind_word "^" e m.0, sym m.1)
    one_assertion (end e) b =
        let m = meant of_end (ap (λ x. word_at x.text) e) b in
        (behind_word "$" e m.0, sym m.1)
    one_assertion (boundary invert e) b =
        let m = meant (of_boundary invert) (boundary_word invert _ e) b in
        (behind_word _ e m.0, sym m.1)
    one_assertion (look negate backwards e d f) b =
        let m = meant (of_look negate backwards) (look_word negate backwards _ e) b in
        let h = one_look negate backwards e m.3 f m.5 (λ g. one_disjunction d (from_here g m.4) (closes f) (closes m.5)) in
        (h.0, h.1 ∙ sym m.6)

    one_atom : {in_lookbehind : Bool} {p q r : ParseState} {n m : Node} → Atom S w in_lookbehind p q n → Atom S w in_lookbehind p r m → Agree q r n m
    one_atom {p = p} (leaf a) (leaf b) = let h = one.one_leaf w _ _ _ _ _ a b in (ap (λ t. state_with_text_left t p) h.0, h.1)
    one_atom (leaf a) (group e o d f) = absurd (no_leaf (ap (λ x. x.text) e) a)
    one_atom (leaf a) (named_group e o d f) = absurd (no_leaf (ap (λ x. x.text) e) a)
    one_atom (leaf a) (plain_group e d f) = absurd (no_leaf (ap (λ x. x.text) e) a)
    one_atom (group e o d f) (leaf a) = absurd (no_leaf (ap (λ x. x.text) e) a)
    one_atom (named_group e o d f) (leaf a) = absurd (no_leaf (ap (λ x. x.text) e) a)
    one_atom (plain_group e d f) (leaf a) = absurd (no_leaf (ap (λ x. x.text) e) a)
    one_atom (group e o d f) (group e' o' d' f') =
        let here = behind_word "(" e e' in
        let h = one_disjunction d (from_inside here d') (closes f) (closes f') in
        (behind_word ")" f (h.0 ∙ f'), rw h.1 refl)
    one_atom {p = p} (named_group e o d f) (named_group e' o' d' f') =
        let here = behind_word "(?<" e e' in
        let name = one.one_name _ _ _ _ _ o (name_from S here o') in
        let h = one_disjunction d (from_named here name.0 name.1 d') (closes f) (closes f') in
        (behind_word ")" f (h.0 ∙ f'), ap₂ (λ x y. capture_group (number_of_opened_groups p) x y) name.1 h.1)
    one_atom (plain_group e d f) (plain_group e' d' f') =
        let here = behind_word "(?:" e e' in
        let h = one_disjunction d (from_here here d') (closes f) (closes f') in
        (behind_word ")" f (h.0 ∙ f'), h.1)
    one_atom (group e o d f) (named_group e' o' d' f') = absurd (no_question o (ap (λ x. x.text) (sym e ∙ e')))
    one_atom (group e o d f) (plain_group e' d' f') = absurd (no_question o (ap (λ x. x.text) (sym e ∙ e')))
    one_atom (named_group e' o' d' f') (group e o d f) = absurd (no_question o (ap (λ x. x.text) (sym e ∙ e')))
    one_atom (plain_group e' d' f') (group e o d f) = absurd (no_question o (ap (λ x. x.text) (sym e ∙ e')))
    one_atom (named_group e o d f) (plain_group e' d' f') = absurd (places_differ third e e' refl)
    one_atom (plain_group e d f) (named_group e' o' d' f') = absurd (places_differ third e e' refl)
