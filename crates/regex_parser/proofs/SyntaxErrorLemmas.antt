-- Nothing completes a pattern at a position where the parser returns a syntax error.
use Rattle.std.proofs.Common.{◌≡◌, ℕ, Bool, true, false, not, List, [], ◌∷◌, true≢false, nat_eq, refl, sym, ap, subst, ◌∙◌}
use Rattle.regex_meaning.specs.Tree.{Node, Quantifier, lookaround}
use Rattle.regex_meaning.specs.ReadingStatesAndDigits.{RemainingCodePoints, ParseState, PatternContext, ◌▸◌, ◌∈◌}
use Rattle.regex_meaning.specs.EscapesNamesQuantifiers.{BeginsQuantifier, ValidQuantifier}
use Rattle.regex_meaning.specs.Grammar.{PatternDialect, Term, Assertion, assertion, repeated_assertion, atom, quantified, start, end, boundary, look, leaf, group, named_group, plain_group}
use Rattle.regex_parser.specs.ParseStack.{PartialDisjunction, OpenGroup, CompletesAllDisjunctions}
use Rattle.regex_meaning.proofs.DisjunctionReadingLemmas.{IsReadInOneWay, leaf_begins, ends_here, one_assertion, assertion_or_atom, first, unlike}
use Rattle.regex_meaning.proofs.EscapesAndNamesLemmas.{one_quantifier}
use Rattle.regex_parser.proofs.GroupOpeningAndClosing.{is_done, next_term}

is_lookaround : Node → Bool
is_lookaround (lookaround l n) = true
is_lookaround _ = false

module _ (S : PatternDialect) (one : IsReadInOneWay S) where
  -- Nothing completes the pattern at a closing parenthesis if none is open.
  pub unopened : (w : PatternContext) (gs : List RemainingCodePoints) (l : PartialDisjunction) (t : Node) {p r : ParseState} → p ≡ ")" ▸ r → CompletesAllDisjunctions S w gs [] l p t → ⊥
  unopened w gs l t {p} {r} close h =
      let k = is_done S one w l close h in
      let over : 41 ∷ r.text ≡ [] = sym (ap (λ x. x.text) close) ∙ ap (λ x. x.text) k.0 in cc

  -- Nothing completes the pattern at a place where no alternative ends and no term begins.
  pub no_term_here : (w : PatternContext) (gs : List RemainingCodePoints) (around : List OpenGroup) (l : PartialDisjunction) (t : Node) {p : ParseState} → ends_here p.text ≡ false
      → ((q : ParseState) (n : Node) → Term S w l.in_lookbehind p q n → ⊥) → CompletesAllDisjunctions S w gs around l p t → ⊥
  no_term_here w gs around l t more none h = let k = next_term S one w more gs around l t h in none k.0 k.1 k.2

  -- An assertion that does not begin with a parenthesis is no lookaround.
  no_lookaround : {w : PatternContext} {p q : ParseState} {n : Node} → nat_eq (first p.text) 40 ≡ false → Assertion S w p q n → is_lookaround n ≡ false
  unfolding is_lookaround
  no_lookaround o (start e) = refl
  no_lookaround o (end e) = refl
  no_lookaround o (boundary invert e) = refl
  no_lookaround {p = p} o (look false false e d g) = absurd (unlike (first p.text) 40 o (ap (λ x. first x.text) e))
  no_lookaround {p = p} o (look true false e d g) = absurd (unlike (first p.text) 40 o (ap (λ x. first x.text) e))
  no_lookaround {p = p} o (look false true e d g) = absurd (unlike (first p.text) 40 o (ap (λ x. first x.text) e))
  no_lookaround {p = p} o (look true true e d g) = absurd (unlike (first p.text) 40 o (ap (λ x. first x.text) e))

  -- No term begins with an assertion without a parenthesis that a quantifier follows.
  pub no_repeated : (w : PatternContext) {in_lookbehind : Bool} {p r q : ParseState} {n m : Node} → nat_eq (first p.text) 40 ≡ false → Assertion S w p r n → BeginsQuantifier r.text → Term S w in_lookbehind p q m → ⊥
  unfolding is_lookaround
  no_repeated w o a k (assertion b none) = none (subst (λ x. BeginsQuantifier x.text) (one_assertion S one one_quantifier w a b).0 k)
  no_repeated w o a k (repeated_assertion b may l) = true≢false (no_lookaround o b)
  no_repeated w o a k (atom b l) = assertion_or_atom S one one_quantifier w a b
  no_repeated w o a k (quantified b l) = assertion_or_atom S one one_quantifier w a b

  -- No term begins with a simple atom that an invalid quantifier follows.
  pub no_quantified : (w : PatternContext) {in_lookbehind : Bool} {p q : ParseState} {there : RemainingCodePoints} {n m : Node} → S.simple_atom w p.text there n → BeginsQuantifier there
      → ((end : RemainingCodePoints) (x : Quantifier) → ValidQuantifier there end x → ⊥) → Term S w in_lookbehind p q m → ⊥
  no_quantified w {p = p} {there = there} {n = n} a k none t = by t
    where
      starts : leaf_begins p.text ≡ true
      starts = one.leaf_apart w _ _ _ a

      differs : {rest : RemainingCodePoints} {c : ℕ} → p.text ≡ c ∷ rest → c ∈ "^$*+?()|" ≡ true → ⊥
      differs {rest} {c} f g = true≢false (sym starts ∙ ap leaf_begins f ∙ ap not g)

      same : {end : RemainingCodePoints} {m : Node} → S.simple_atom w p.text end m → there ≡ end
      same b = (one.one_leaf w _ _ _ _ _ a b).0

      no_assertion : {q : ParseState} {m : Node} → Assertion S w p q m → ⊥
      no_assertion (start f) = differs (ap (λ x. x.text) f) refl
      no_assertion (end f) = differs (ap (λ x. x.text) f) refl
      no_assertion (boundary true f) = one.leaf_no_boundary w _ _ _ _ true a (ap (λ x. x.text) f)
      no_assertion (boundary false f) = one.leaf_no_boundary w _ _ _ _ false a (ap (λ x. x.text) f)
      no_assertion (look false false f d g) = differs (ap (λ x. x.text) f) refl
      no_assertion (look true false f d g) = differs (ap (λ x. x.text) f) refl
      no_assertion (look false true f d g) = differs (ap (λ x. x.text) f) refl
      no_assertion (look true true f d g) = differs (ap (λ x. x.text) f) refl

      by : {in_lookbehind : Bool} {q : ParseState} {m : Node} → Term S w in_lookbehind p q m → ⊥
      by (assertion b h) = no_assertion b
      by (repeated_assertion b may h) = no_assertion b
      by (atom (leaf b) h) = h (subst BeginsQuantifier (same b) k)
      by (atom (group f g d close) h) = differs (ap (λ x. x.text) f) refl
      by (atom (named_group f g d close) h) = differs (ap (λ x. x.text) f) refl
      by (atom (plain_group f d close) h) = differs (ap (λ x. x.text) f) refl
      by (quantified {there = after} {quantifier = x} (leaf b) h) = none after x (subst (λ y. ValidQuantifier y after x) (sym (same b)) h)
      by (quantified (group f g d close) h) = differs (ap (λ x. x.text) f) refl
      by (quantified (named_group f g d close) h) = differs (ap (λ x. x.text) f) refl
      by (quantified (plain_group f d close) h) = differs (ap (λ x. x.text) f) refl
