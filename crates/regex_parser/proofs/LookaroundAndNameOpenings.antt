-- Opening a named group, a plain group or a lookaround keeps how the rest completes the pattern.
use Rattle.std.specs.Prelude.{IsTrue}
use Rattle.std.proofs.Common.{◌≡◌, ℕ, Bool, true, false, List, [], ◌∷◌, nat_eq, true≢false, refl, sym, ap, ap₂, subst, ◌∙◌, ◌↔◌}
use Rattle.regex_meaning.specs.Tree.{Node, lookaround, loop, capture_group}
use Rattle.regex_meaning.specs.ReadingStatesAndDigits.{RemainingCodePoints, ParseState, PatternContext, number_of_opened_groups, ◌▸◌, state_with_text_left, with_opened_group, ◌∈◌}
use Rattle.regex_meaning.specs.Grammar.{PatternDialect, Disjunction, Term, Assertion, Atom, lookaround_opener, assertion, repeated_assertion, atom, quantified, start, end, boundary, look, leaf}
use Rattle.regex_meaning.specs.Grammar.{group, named_group, plain_group}
use Rattle.regex_parser.specs.ParseStack.{PartialDisjunction, empty_disjunction, OpenGroup, OpenGroupKind, captures, plain, looks, IsTerm, once, repeated, ClosesGroup, looked, looked_repeatedly}
use Rattle.regex_parser.specs.ParseStack.{captured, enclosed, CompletesAllDisjunctions, lookaround_up_to}
use Rattle.regex_meaning.proofs.DisjunctionReadingLemmas.{IsReadInOneWay, ends_here, behind_word, places_differ, unlike, first, third, rest_of, leaf_begins, name_from, of_look, look_word, meant}
use Rattle.regex_meaning.proofs.EscapesAndNamesLemmas.{no_lazy}
use Rattle.regex_parser.proofs.ParseStackLemmas.{begin}
use Rattle.regex_parser.proofs.GroupOpeningAndClosing.{next_term, pushed_all, unpushed_all, make_term}

abbrev pub opens_here : PartialDisjunction → OpenGroupKind → ParseState → OpenGroup
opens_here l o p = record { outer = l; opened = o; start = number_of_opened_groups p }

is_plain : OpenGroupKind → Bool
is_plain plain = true
is_plain (captures id name) = false
is_plain (looks x y z) = false

id_of : OpenGroupKind → ℕ
id_of (captures id name) = id
id_of plain = 0
id_of (looks x y z) = 0

name_of : OpenGroupKind → RemainingCodePoints
name_of (captures id name) = name
name_of plain = []
name_of (looks x y z) = []

is_capture : OpenGroupKind → Bool
is_capture (captures id name) = true
is_capture plain = false
is_capture (looks x y z) = false

is_look : OpenGroupKind → Bool
is_look (looks x y z) = true
is_look plain = false
is_look (captures id name) = false

negates : OpenGroupKind → Bool
negates (looks x y z) = x
negates plain = false
negates (captures id name) = false

looks_backwards : OpenGroupKind → Bool
looks_backwards (looks x y z) = y
looks_backwards plain = false
looks_backwards (captures id name) = false

begins_at : OpenGroupKind → ℕ
begins_at (looks x y z) = z
begins_at plain = 0
begins_at (captures id name) = 0

-- `goes_backwards` tells whether a node is a lookaround that looks behind.
goes_backwards : Node → Bool
goes_backwards (lookaround l n) = l.backwards
goes_backwards _ = false

same-look : (negate backwards : Bool) (first : ℕ) (x y : Bool) (z : ℕ) (r : ParseState) → looks negate backwards first ≡ looks x y z
    → lookaround_up_to negate backwards first r ≡ lookaround_up_to x y z r
unfolding negates looks_backwards begins_at
same-look negate backwards n x y z r f = rw (ap negates f, ap looks_backwards f, ap begins_at f) refl

opener_goes_on : (negate backwards : Bool) (q : ParseState) {p : ParseState} → p ≡ lookaround_opener negate backwards ▸ q → ends_here p.text ≡ false
opener_goes_on false false q e = ap (λ x. ends_here x.text) e
opener_goes_on true false q e = ap (λ x. ends_here x.text) e
opener_goes_on false true q e = ap (λ x. ends_here x.text) e
opener_goes_on true true q e = ap (λ x. ends_here x.text) e

module _ (S : PatternDialect) (one : IsReadInOneWay S) where
  -- Opening a level keeps completion if its contents make a term and each term is made of them.
  module _ (w : PatternContext) (gs : List RemainingCodePoints) (l : PartialDisjunction) (around : List OpenGroup) (t : Node) {p inner : ParseState} (b : Bool) (o : OpenGroupKind) (more : ends_here p.text ≡ false)
      (make : (x r s : ParseState) (c n : Node) → Disjunction S w b inner x c → x ≡ ")" ▸ r → ClosesGroup S w (opens_here l o p) c r s n → Term S w l.in_lookbehind p s n)
      (found : (s : ParseState) (m : Node) → Term S w l.in_lookbehind p s m → (x y : ParseState) × (c : Node) × Disjunction S w b inner x c × (x ≡ ")" ▸ y) × ClosesGroup S w (opens_here l o p) c y s m)
    where
      from : CompletesAllDisjunctions S w gs (opens_here l o p ∷ around) (empty_disjunction b) inner t → CompletesAllDisjunctions S w gs around l p t
      from h = pushed_all S one w gs around l t (make h.0 h.1 h.2 h.3 h.4 ((begin S one w b inner h.0 h.3).1 h.5) h.6 h.7) h.8

      to : CompletesAllDisjunctions S w gs around l p t → CompletesAllDisjunctions S w gs (opens_here l o p ∷ around) (empty_disjunction b) inner t
      to h =
          let u = next_term S one w more gs around l t h in
          let f = found u.0 u.1 u.2 in
          (f.0, f.1, u.0, f.2, u.1, (begin S one w b inner f.0 f.2).0 f.3, f.4, f.5, unpushed_all S one w gs around l t u.2 h)

      pub enter_by : CompletesAllDisjunctions S w gs (opens_here l o p ∷ around) (empty_disjunction b) inner t ↔ CompletesAllDisjunctions S w gs around l p t
      enter_by = (from, to)

  -- `IsBehind p` states that the third character is `<`, and that `=` or `!` comes next.
  abbrev IsBehind : ParseState → Type 0
  IsBehind p = (third p.text ≡ 60) × (sign : ℕ) × (sign ∈ "=!" ≡ true) × (rest : RemainingCodePoints) × (rest_of (rest_of (rest_of p.text)) ≡ sign ∷ rest)

  looks_behind : {w : PatternContext} {p s : ParseState} {m : Node} → first p.text ≡ 40 → nat_eq (third p.text) 61 ≡ false → nat_eq (third p.text) 33 ≡ false → Assertion S w p s m → IsBehind p
  looks_behind f g h (start e) = absurd (unlike 94 40 refl (sym (ap (λ x. first x.text) e) ∙ f))
  looks_behind f g h (end e) = absurd (unlike 36 40 refl (sym (ap (λ x. first x.text) e) ∙ f))
  looks_behind f g h (boundary false e) = absurd (unlike 92 40 refl (sym (ap (λ x. first x.text) e) ∙ f))
  looks_behind f g h (boundary true e) = absurd (unlike 92 40 refl (sym (ap (λ x. first x.text) e) ∙ f))
  looks_behind {p = p} f g h (look false false e d k) = absurd (unlike (third p.text) 61 g (ap (λ x. third x.text) e))
  looks_behind {p = p} f g h (look true false e d k) = absurd (unlike (third p.text) 33 h (ap (λ x. third x.text) e))
  looks_behind f g h (look false true e d k) = (ap (λ x. third x.text) e, 61, refl, _, ap (λ x. rest_of (rest_of (rest_of x.text))) e)
  looks_behind f g h (look true true e d k) = (ap (λ x. third x.text) e, 33, refl, _, ap (λ x. rest_of (rest_of (rest_of x.text))) e)

  -- Opening a plain group with `(?:` keeps how the rest completes the pattern.
  module _ (w : PatternContext) (gs : List RemainingCodePoints) (l : PartialDisjunction) (around : List OpenGroup) (t : Node) {p q : ParseState} (e : p ≡ "(?:" ▸ q) where
    make : {x r s : ParseState} {c n : Node} → Disjunction S w l.in_lookbehind q x c → x ≡ ")" ▸ r → ClosesGroup S w (opens_here l plain p) c r s n → Term S w l.in_lookbehind p s n
    unfolding is_plain
    make d close (looked x y z f none) = absurd (true≢false (ap is_plain f))
    make d close (looked_repeatedly x y z f may k) = absurd (true≢false (ap is_plain f))
    make d close (captured f k) = absurd (true≢false (ap is_plain f))
    make d close (enclosed f k) = make_term (plain_group e d close) k

    abbrev Found : (s : ParseState) → Node → Type 0
    Found s m = (x y : ParseState) × (c : Node) × Disjunction S w l.in_lookbehind q x c × (x ≡ ")" ▸ y) × ClosesGroup S w (opens_here l plain p) c y s m

    in_atom : {s x : ParseState} {n m : Node} → Atom S w l.in_lookbehind p x n → IsTerm (number_of_opened_groups p) n x s m → Found s m
    in_atom (leaf a) k = absurd (true≢false (sym (one.leaf_apart w _ _ _ a) ∙ ap (λ x. leaf_begins x.text) e))
    in_atom (group f g d close) k = absurd (no_lazy g (ap (λ x. rest_of x.text) (sym f ∙ e)))
    in_atom (named_group f g d close) k = absurd (places_differ third e f refl)
    in_atom (plain_group {r = x} {t = y} {n = c} f d close) k = (x, y, c, subst (λ a. Disjunction S w l.in_lookbehind a x c) (behind_word "(?:" f e) d, close, enclosed refl k)

    no_look : {s : ParseState} {m : Node} → Assertion S w p s m → ⊥
    no_look a =
        let b = looks_behind (ap (λ x. first x.text) e) (subst (λ x. nat_eq (third x.text) 61 ≡ false) (sym e) refl) (subst (λ x. nat_eq (third x.text) 33 ≡ false) (sym e) refl) a in
        unlike 58 60 refl (sym (ap (λ x. third x.text) e) ∙ b.0)

    found : {s : ParseState} {m : Node} → Term S w l.in_lookbehind p s m → Found s m
    found (assertion a none) = absurd (no_look a)
    found (repeated_assertion a may k) = absurd (no_look a)
    found (atom a k) = in_atom a (once k)
    found (quantified a k) = in_atom a (repeated k)

    pub enter_plain : CompletesAllDisjunctions S w gs (opens_here l plain p ∷ around) (empty_disjunction l.in_lookbehind) q t ↔ CompletesAllDisjunctions S w gs around l p t
    enter_plain = enter_by w gs l around t l.in_lookbehind plain (ap (λ x. ends_here x.text) e) (λ x r s c n. make) (λ s m. found)

  -- Opening a named group with `(?<` keeps how the rest completes the pattern.
  module _ (w : PatternContext) (gs : List RemainingCodePoints) (l : PartialDisjunction) (around : List OpenGroup) (t : Node) {p q : ParseState} {after name : RemainingCodePoints} (e : p ≡ "(?<" ▸ q) (is : S.group_name q.text after name) where
    abbrev pub this : OpenGroupKind
    this = captures (number_of_opened_groups p) name

    make_named : {x r s : ParseState} {c n : Node} → Disjunction S w l.in_lookbehind (with_opened_group name (state_with_text_left after q)) x c → x ≡ ")" ▸ r → ClosesGroup S w (opens_here l this p) c r s n → Term S w l.in_lookbehind p s n
    unfolding is_capture id_of name_of
    make_named d close (looked x y z f none) = absurd (true≢false (ap is_capture f))
    make_named d close (looked_repeatedly x y z f may k) = absurd (true≢false (ap is_capture f))
    make_named d close (enclosed f k) = absurd (true≢false (ap is_capture f))
    make_named {r = r} {s = s} {c = c} {n = n} d close (captured {id = i} {name = x} f k) =
        let same : capture_group i x c ≡ capture_group (number_of_opened_groups p) name c = ap₂ (λ a b. capture_group a b c) (sym (ap id_of f)) (sym (ap name_of f)) in
        make_term (named_group e is d close) (subst (λ a. IsTerm (number_of_opened_groups p) a r s n) same k)

    abbrev Found_named : (s : ParseState) → Node → Type 0
    Found_named s m = (x y : ParseState) × (c : Node) × Disjunction S w l.in_lookbehind (with_opened_group name (state_with_text_left after q)) x c × (x ≡ ")" ▸ y) × ClosesGroup S w (opens_here l this p) c y s m

    in_named : {s x : ParseState} {n m : Node} → Atom S w l.in_lookbehind p x n → IsTerm (number_of_opened_groups p) n x s m → Found_named s m
    in_named (leaf a) k = absurd (true≢false (sym (one.leaf_apart w _ _ _ a) ∙ ap (λ x. leaf_begins x.text) e))
    in_named (group f g d close) k = absurd (no_lazy g (ap (λ x. rest_of x.text) (sym f ∙ e)))
    in_named (plain_group f d close) k = absurd (places_differ third e f refl)
    in_named {s} {m = m} (named_group {q = q'} {r = x} {t = y} {there = there} {name = other} {n = c} f g d close) k =
        let here : q ≡ q' = behind_word "(?<" e f in
        let same = one.one_name q.text after there name other is (name_from S here g) in
        let inside : with_opened_group other (state_with_text_left there q') ≡ with_opened_group name (state_with_text_left after q) = rw (here, same.0, same.1) refl in (
          x,
          y,
          c,
          subst (λ a. Disjunction S w l.in_lookbehind a x c) inside d,
          close,
          captured refl (subst (λ a. IsTerm (number_of_opened_groups p) (capture_group (number_of_opened_groups p) a c) y s m) (sym same.1) k),
        )

    no_look_named : {s : ParseState} {m : Node} → Assertion S w p s m → ⊥
    no_look_named a =
        let b = looks_behind (ap (λ x. first x.text) e) (subst (λ x. nat_eq (third x.text) 61 ≡ false) (sym e) refl) (subst (λ x. nat_eq (third x.text) 33 ≡ false) (sym e) refl) a in
        one.no_sign b.1 after name b.3 b.2 (subst (λ x. S.group_name x after name) (sym (ap (λ x. rest_of (rest_of (rest_of x.text))) e) ∙ b.4) is)

    found_named : {s : ParseState} {m : Node} → Term S w l.in_lookbehind p s m → Found_named s m
    found_named (assertion a none) = absurd (no_look_named a)
    found_named (repeated_assertion a may k) = absurd (no_look_named a)
    found_named (atom a k) = in_named a (once k)
    found_named (quantified a k) = in_named a (repeated k)

    pub enter_named : CompletesAllDisjunctions S w gs (opens_here l this p ∷ around) (empty_disjunction l.in_lookbehind) (with_opened_group name (state_with_text_left after q)) t ↔ CompletesAllDisjunctions S w gs around l p t
    enter_named = enter_by w gs l around t l.in_lookbehind this (ap (λ x. ends_here x.text) e) (λ x r s c n. make_named) (λ s m. found_named)

  no_other : (negate backwards : Bool) (q : ParseState) {p x : ParseState} {w : PatternContext} {in_lookbehind : Bool} {n : Node} → p ≡ lookaround_opener negate backwards ▸ q → Atom S w in_lookbehind p x n → ⊥
  no_other false false q {w = w} e (leaf a) = true≢false (sym (one.leaf_apart w _ _ _ a) ∙ ap (λ x. leaf_begins x.text) e)
  no_other false false q e (group f g d close) = no_lazy g (ap (λ x. rest_of x.text) (sym f ∙ e))
  no_other false false q e (plain_group f d close) = places_differ third e f refl
  no_other false false q e (named_group f g d close) = places_differ third e f refl
  no_other true false q {w = w} e (leaf a) = true≢false (sym (one.leaf_apart w _ _ _ a) ∙ ap (λ x. leaf_begins x.text) e)
  no_other true false q e (group f g d close) = no_lazy g (ap (λ x. rest_of x.text) (sym f ∙ e))
  no_other true false q e (plain_group f d close) = places_differ third e f refl
  no_other true false q e (named_group f g d close) = places_differ third e f refl
  no_other false true q {w = w} e (leaf a) = true≢false (sym (one.leaf_apart w _ _ _ a) ∙ ap (λ x. leaf_begins x.text) e)
  no_other false true q e (group f g d close) = no_lazy g (ap (λ x. rest_of x.text) (sym f ∙ e))
  no_other false true q e (plain_group f d close) = places_differ third e f refl
  no_other false true q e (named_group {there = there} {name = name} f g d close) = one.no_sign 61 there name _ refl (subst (λ x. S.group_name x there name) (ap (λ x. rest_of (rest_of (rest_of x.text))) (sym f ∙ e)) g)
  no_other true true q {w = w} e (leaf a) = true≢false (sym (one.leaf_apart w _ _ _ a) ∙ ap (λ x. leaf_begins x.text) e)
  no_other true true q e (group f g d close) = no_lazy g (ap (λ x. rest_of x.text) (sym f ∙ e))
  no_other true true q e (plain_group f d close) = places_differ third e f refl
  no_other true true q e (named_group {there = there} {name = name} f g d close) = one.no_sign 33 there name _ refl (subst (λ x. S.group_name x there name) (ap (λ x. rest_of (rest_of (rest_of x.text))) (sym f ∙ e)) g)

  abbrev pub LookFound : (w : PatternContext) (l : PartialDisjunction) (negate backwards : Bool) (p q s : ParseState) → Node → Type 0
  LookFound w l negate backwards p q s m =
      (x y : ParseState) × (c : Node) × Disjunction S w backwards q x c × (x ≡ ")" ▸ y) × ClosesGroup S w (opens_here l (looks negate backwards (number_of_opened_groups p)) p) c y s m

  -- An assertion at the opener of a lookaround is that lookaround, and its contents are found.
  in_look : (w : PatternContext) (l : PartialDisjunction) (negate backwards : Bool) {p q s r : ParseState} {m k : Node} → p ≡ lookaround_opener negate backwards ▸ q → Assertion S w p s m
      → ((c : Node) → m ≡ lookaround (lookaround_up_to negate backwards (number_of_opened_groups p) s) c → ClosesGroup S w (opens_here l (looks negate backwards (number_of_opened_groups p)) p) c s r k)
      → LookFound w l negate backwards p q r k
  in_look w l negate backwards {s = s} e a closes =
      let m = meant (of_look negate backwards) (look_word negate backwards _ e) a in (
        m.1,
        s,
        m.2,
        subst (λ x. Disjunction S w backwards x m.1 m.2) (behind_word (lookaround_opener negate backwards) m.3 e) m.4,
        m.5,
        closes m.2 m.6,
      )

  look_found : (w : PatternContext) (l : PartialDisjunction) (negate backwards : Bool) {p q s : ParseState} {m : Node} → p ≡ lookaround_opener negate backwards ▸ q → Term S w l.in_lookbehind p s m → LookFound w l negate backwards p q s m
  unfolding goes_backwards
  look_found w l negate backwards {p = p} {s = s} e (assertion a none) =
      in_look w l negate backwards e a
      (λ c same. subst (λ n. ClosesGroup S w (opens_here l (looks negate backwards (number_of_opened_groups p)) p) c s s n) (sym same) (looked negate backwards (number_of_opened_groups p) refl none))
  look_found w l negate backwards {p = p} {s = s} e (repeated_assertion {q = q} {there = there} {l = found} {quantifier = x} a may k) =
      in_look w l negate backwards e a
      (λ c same.
      subst (λ n. ClosesGroup S w (opens_here l (looks negate backwards (number_of_opened_groups p)) p) c q (state_with_text_left there q) (loop x (number_of_opened_groups p) (number_of_opened_groups q) n)) (sym same)
      (looked_repeatedly negate backwards (number_of_opened_groups p) refl (subst (λ b. IsTrue (S.may_repeat w.flags b)) (ap goes_backwards same) may) k))
  look_found w l negate backwards e (atom a k) = absurd (no_other negate backwards _ e a)
  look_found w l negate backwards e (quantified a k) = absurd (no_other negate backwards _ e a)

  module _ (w : PatternContext) (gs : List RemainingCodePoints) (l : PartialDisjunction) (around : List OpenGroup) (t : Node) (negate backwards : Bool) {p q : ParseState} (e : p ≡ lookaround_opener negate backwards ▸ q) where
    make_look : {x r s : ParseState} {c n : Node} → Disjunction S w backwards q x c → x ≡ ")" ▸ r → ClosesGroup S w (opens_here l (looks negate backwards (number_of_opened_groups p)) p) c r s n → Term S w l.in_lookbehind p s n
    unfolding is_look negates looks_backwards begins_at
    make_look d close (captured f k) = absurd (true≢false (ap is_look f))
    make_look d close (enclosed f k) = absurd (true≢false (ap is_look f))
    make_look {r = r} {c = c} d close (looked x y z f none) =
        subst (λ n. Term S w l.in_lookbehind p r n) (ap (λ u. lookaround u c) (same-look negate backwards (number_of_opened_groups p) x y z r f)) (assertion (look negate backwards e d close) none)
    make_look {r = r} {c = c} d close (looked_repeatedly {there = there} {quantifier = k} x y z f may h) =
        subst (λ n. Term S w l.in_lookbehind p (state_with_text_left there r) (loop k (number_of_opened_groups p) (number_of_opened_groups r) n)) (ap (λ u. lookaround u c) (same-look negate backwards (number_of_opened_groups p) x y z r f))
        (repeated_assertion (look negate backwards e d close) (subst (λ b. IsTrue (S.may_repeat w.flags b)) (sym (ap looks_backwards f)) may) h)

    pub enter_look : CompletesAllDisjunctions S w gs (opens_here l (looks negate backwards (number_of_opened_groups p)) p ∷ around) (empty_disjunction backwards) q t ↔ CompletesAllDisjunctions S w gs around l p t
    enter_look = enter_by w gs l around t backwards (looks negate backwards (number_of_opened_groups p)) (opener_goes_on negate backwards q e) (λ x r s c n. make_look) (λ s m. look_found w l negate backwards e)
