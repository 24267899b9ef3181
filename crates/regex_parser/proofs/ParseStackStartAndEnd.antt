-- The parse stack completes a pattern from its beginning, after a `|` and at its end.
use Rattle.std.proofs.Common.{◌≡◌, Bool, true, false, List, [], ◌∷◌, ◌++◌, true≢false, refl, sym, ap, ◌∙◌, append-nil, ◌↔◌}
use Rattle.regex_meaning.specs.Tree.{Node, Flags, goal, cat, end_of_cat}
use Rattle.regex_meaning.specs.ReadingStatesAndDigits.{RemainingCodePoints, ParseState, PatternContext, ◌▸◌, arm}
use Rattle.regex_meaning.specs.Grammar.{PatternDialect, Alternative, ParsesBy, pattern_is, AreDistinct, no_terms, terms}
use Rattle.regex_parser.specs.ParseStack.{PartialDisjunction, empty_disjunction, end_alternative, nest_alternatives, CompletesDisjunction, last_arm, further_arms, OpenGroup, CompletesAllDisjunctions}
use Rattle.regex_meaning.proofs.DisjunctionReadingLemmas.{IsReadInOneWay, closes, no_close}
use Rattle.regex_parser.proofs.ParseStackLemmas.{begin, no_term, barred, unbarred}

abbrev pub whole : Flags → List RemainingCodePoints → PatternContext
whole flags groups = record { flags = flags; groups = groups }

abbrev is_empty : RemainingCodePoints → Bool
is_empty [] = true
is_empty (c ∷ cs) = false

module _ (S : PatternDialect) (one : IsReadInOneWay S) where
  -- A node that completes the empty level is the tree of the pattern if the groups are distinct.
  pub begin_all : (flags : Flags) (pattern : RemainingCodePoints) (groups : List RemainingCodePoints) (n : Node)
      → CompletesAllDisjunctions S (whole flags groups) groups [] (empty_disjunction false) (record { text = pattern; opened = [] }) n → AreDistinct groups
      → ParsesBy S flags pattern (record { root = cat n (cat goal end_of_cat); flags = flags })
  begin_all flags pattern groups n h distinct = pattern_is groups ((begin S one (whole flags groups) false _ _ n).1 h) distinct

  -- What completes the ended alternative after a bar is exactly what completes the level before it.
  pub bar_all : (w : PatternContext) (gs : List RemainingCodePoints) (around : List OpenGroup) (l : PartialDisjunction) (t : Node) {p r : ParseState} → p ≡ "|" ▸ r → CompletesAllDisjunctions S w gs around (end_alternative l) r t ↔ CompletesAllDisjunctions S w gs around l p t
  bar_all w gs [] l t bar = (λ h. barred S one w l bar h, λ h. unbarred S one w l bar refl h)
  bar_all w gs (o ∷ around) l t bar =
      (λ h. (h.0, h.1, h.2, h.3, h.4, barred S one w l bar h.5, h.6, h.7, h.8), λ h. (h.0, h.1, h.2, h.3, h.4, unbarred S one w l bar (closes h.6) h.5, h.6, h.7, h.8))

  -- At the end of the text, the tree is the finished level, and no parenthesis may be open.
  module _ (w : PatternContext) (gs : List RemainingCodePoints) (l : PartialDisjunction) {p : ParseState} (over : p.text ≡ []) where
    nothing_more : {q : ParseState} {ns : List Node} → Alternative S w l.in_lookbehind p q ns → (p ≡ q) × (ns ≡ [])
    nothing_more no_terms = (refl, refl)
    nothing_more (terms t a) = absurd (no_term S one w t (rw over refl))

    pub end_all : (t : Node) → CompletesAllDisjunctions S w gs [] l p t → (p.opened ≡ gs) × (t ≡ nest_alternatives l.arms (arm l.in_lookbehind l.terms))
    end_all t (last_arm a) =
        let h = nothing_more a in
        (ap (λ x. x.opened) h.0, ap (λ x. nest_alternatives l.arms (arm l.in_lookbehind x)) (ap (λ x. l.terms ++ x) h.1 ∙ append-nil l.terms))
    end_all t (further_arms a bar d) = absurd (no_close ((nothing_more a).0 ∙ bar) (rw over refl))

    -- Nothing completes the pattern at the end of the text if a parenthesis is open.
    pub none_open : (o : OpenGroup) (around : List OpenGroup) (t : Node) → CompletesAllDisjunctions S w gs (o ∷ around) l p t → ⊥
    none_open o around t h = open_still h.5 h.6
      where
        open_still : {q r : ParseState} {n : Node} → CompletesDisjunction S w l p q n → q ≡ ")" ▸ r → ⊥
        open_still (last_arm a) e = true≢false (ap is_empty (sym over ∙ ap (λ x. x.text) ((nothing_more a).0 ∙ e)))
        open_still (further_arms a bar d) e = no_close ((nothing_more a).0 ∙ bar) (rw over refl)
