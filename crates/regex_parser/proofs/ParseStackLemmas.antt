-- Adding a term or ending an arm keeps how the rest completes a disjunction.
use Rattle.std.proofs.Common.{◌≡◌, Bool, true, List, [], ◌∷◌, ◌++◌, refl, sym, ap, subst, ◌∙◌, append_assoc, append-nil, ◌↔◌}
use Rattle.regex_meaning.specs.Tree.{Node, alt}
use Rattle.regex_meaning.specs.ReadingStatesAndDigits.{ParseState, PatternContext, ◌▸◌, arm}
use Rattle.regex_meaning.specs.Grammar.{PatternDialect, Disjunction, Alternative, Term, last_alternative, alternatives, no_terms, terms}
use Rattle.regex_parser.specs.ParseStack.{PartialDisjunction, empty_disjunction, push_term, end_alternative, nest_alternatives, CompletesDisjunction, last_arm, further_arms}
use Rattle.regex_meaning.proofs.DisjunctionReadingLemmas.{Agree, IsReadInOneWay, closes_here, ends_here, no_close, close_ends, behind_word, one_term, term_begins}
use Rattle.regex_meaning.proofs.EscapesAndNamesLemmas.{one_quantifier}

join-push : (ns : List Node) (x y : Node) → nest_alternatives (ns ++ x ∷ []) y ≡ nest_alternatives ns (alt x y)
join-push [] x y = refl
join-push (n ∷ ns) x y = ap (λ z. alt n z) (join-push ns x y)

module _ (S : PatternDialect) (one : IsReadInOneWay S) where
  same_term : (w : PatternContext) {in_lookbehind : Bool} {p q r : ParseState} {n m : Node} → Term S w in_lookbehind p q n → Term S w in_lookbehind p r m → Agree q r n m
  same_term w t u = one_term S one one_quantifier w t u

  pub no_term : (w : PatternContext) {in_lookbehind : Bool} {p q : ParseState} {n : Node} → Term S w in_lookbehind p q n → ends_here p.text ≡ true → ⊥
  no_term w t e = term_begins S one one_quantifier w t e

  -- A disjunction is exactly what completes the empty disjunction.
  pub begin : (w : PatternContext) (in_lookbehind : Bool) (p q : ParseState) (n : Node) → Disjunction S w in_lookbehind p q n ↔ CompletesDisjunction S w (empty_disjunction in_lookbehind) p q n
  begin w in_lookbehind p q n = (to, from)
    where
      to : {q : ParseState} {n : Node} → Disjunction S w in_lookbehind p q n → CompletesDisjunction S w (empty_disjunction in_lookbehind) p q n
      to (last_alternative a) = last_arm a
      to (alternatives a bar d) = further_arms a bar d

      from : {q : ParseState} {n : Node} → CompletesDisjunction S w (empty_disjunction in_lookbehind) p q n → Disjunction S w in_lookbehind p q n
      from (last_arm a) = last_alternative a
      from (further_arms a bar d) = alternatives a bar d

  -- A term that is added to a level keeps what completes the level.
  module _ (w : PatternContext) (l : PartialDisjunction) {p q : ParseState} {t : Node} (is : Term S w l.in_lookbehind p q t) where
    more_terms : (ns : List Node) → l.terms ++ t ∷ [] ++ ns ≡ l.terms ++ t ∷ ns
    more_terms ns = append_assoc l.terms (t ∷ []) ns

    pub pushed : {r : ParseState} {n : Node} → CompletesDisjunction S w (push_term t l) q r n → CompletesDisjunction S w l p r n
    pushed {r} (last_arm {ns = ns} a) = subst (λ x. CompletesDisjunction S w l p r (nest_alternatives l.arms (arm l.in_lookbehind x))) (sym (more_terms ns)) (last_arm (terms is a))
    pushed {r} (further_arms {ns = ns} {right = right} a bar d) =
        subst (λ x. CompletesDisjunction S w l p r (nest_alternatives l.arms (alt (arm l.in_lookbehind x) right))) (sym (more_terms ns)) (further_arms (terms is a) bar d)

    behind_it : {r : ParseState} {ns : List Node} → Alternative S w l.in_lookbehind p r ns → ends_here r.text ≡ true → (ms : List Node) × (ns ≡ t ∷ ms) × Alternative S w l.in_lookbehind q r ms
    behind_it no_terms e = absurd (no_term w is e)
    behind_it {r} (terms {ns = ms} u a) e =
        let h = same_term w is u in
        (ms, ap (λ x. x ∷ ms) (sym h.1), subst (λ x. Alternative S w l.in_lookbehind x r ms) (sym h.0) a)

    pub unpushed : {r : ParseState} {n : Node} → closes_here r.text ≡ true → CompletesDisjunction S w l p r n → CompletesDisjunction S w (push_term t l) q r n
    unpushed {r} e (last_arm {ns = ns} a) =
        let h = behind_it a (close_ends r.text e) in
        subst (λ x. CompletesDisjunction S w (push_term t l) q r (nest_alternatives l.arms (arm l.in_lookbehind x))) (more_terms h.0 ∙ ap (λ x. l.terms ++ x) (sym h.1)) (last_arm h.2)
    unpushed {r} e (further_arms {ns = ns} {right = right} a bar d) =
        let h = behind_it a (rw bar refl) in
        subst (λ x. CompletesDisjunction S w (push_term t l) q r (nest_alternatives l.arms (alt (arm l.in_lookbehind x) right))) (more_terms h.0 ∙ ap (λ x. l.terms ++ x) (sym h.1)) (further_arms h.2 bar d)

  -- Ending an alternative at a bar keeps what completes the level.
  module _ (w : PatternContext) (l : PartialDisjunction) {p r : ParseState} (bar : p ≡ "|" ▸ r) where
    ended : (y : Node) → nest_alternatives (end_alternative l).arms y ≡ nest_alternatives l.arms (alt (arm l.in_lookbehind (l.terms ++ [])) y)
    ended y = join-push l.arms (arm l.in_lookbehind l.terms) y ∙ ap (λ x. nest_alternatives l.arms (alt (arm l.in_lookbehind x) y)) (sym (append-nil l.terms))

    pub barred : {q : ParseState} {n : Node} → CompletesDisjunction S w (end_alternative l) r q n → CompletesDisjunction S w l p q n
    barred {q} (last_arm {ns = ns} a) = subst (λ x. CompletesDisjunction S w l p q x) (sym (ended (arm l.in_lookbehind ns))) (further_arms no_terms bar (last_alternative a))
    barred {q} (further_arms {ns = ns} {right = right} a e d) =
        subst (λ x. CompletesDisjunction S w l p q x) (sym (ended (alt (arm l.in_lookbehind ns) right))) (further_arms no_terms bar (alternatives a e d))

    none_before : {q : ParseState} {ns : List Node} → Alternative S w l.in_lookbehind p q ns → (p ≡ q) × (ns ≡ [])
    none_before no_terms = (refl, refl)
    none_before (terms t a) = absurd (no_term w t (rw bar refl))

    go_on : {q : ParseState} {right : Node} → Disjunction S w l.in_lookbehind r q right → CompletesDisjunction S w (end_alternative l) r q (nest_alternatives (end_alternative l).arms right)
    go_on (last_alternative a) = last_arm a
    go_on (alternatives a e d) = further_arms a e d

    pub unbarred : {q : ParseState} {n : Node} → closes_here q.text ≡ true → CompletesDisjunction S w l p q n → CompletesDisjunction S w (end_alternative l) r q n
    unbarred e (last_arm a) = absurd (no_close (sym (none_before a).0 ∙ bar) e)
    unbarred {q} e (further_arms {ns = ns} {right = right} a f d) =
        let h = none_before a in
        let here : r ≡ _ = behind_word "|" bar (h.0 ∙ f) in
        let k = go_on (subst (λ x. Disjunction S w l.in_lookbehind x q right) (sym here) d) in
        subst (λ x. CompletesDisjunction S w (end_alternative l) r q x) (ended right ∙ ap (λ x. nest_alternatives l.arms (alt (arm l.in_lookbehind (l.terms ++ x)) right)) (sym h.1)) k
