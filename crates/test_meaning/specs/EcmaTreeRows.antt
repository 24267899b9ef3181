-- Worked trees of patterns that only annex B (B.1.2, B.1.4) allows.
use Rattle.std.proofs.Common.{◌≡◌, ℕ, ◌≤◌, Bool, true, false, ◌||◌, nat_eq, List, [], ◌∷◌, true≢false, refl, sym, ap, subst, ◌∙◌, arith, None}
use Rattle.std.specs.Prelude.{codes}
use Rattle.std.specs.List.{list_any}
use Rattle.std.proofs.lemmas.Bool.{or_left, eq-eqb, eqb-true}
use Rattle.regex_meaning.specs.Tree.{Node, Tree, Intervals, goal, char, cat, end_of_cat, bracket, loop, lookaround}
use Rattle.regex_meaning.specs.Outcomes.{in_intervals}
use Rattle.regex_meaning.specs.Canonical.{AreCaseVariants}
use Rattle.regex_meaning.proofs.BoolLemmas.{same-truth}
use Rattle.regex_meaning.specs.ReadingStatesAndDigits.{RemainingCodePoints, PatternContext, Digits, digits_from}
use Rattle.regex_meaning.specs.EscapesNamesQuantifiers.{star, greedy}
use Rattle.regex_meaning.specs.CharacterClasses.{digit_class}
use Rattle.regex_meaning.specs.Grammar.{no_terms, terms, atom, repeated_assertion, look, leaf, last_alternative, pattern_is}
use Rattle.regex_meaning.specs.GrammarLaws.{no_flags}
use Rattle.regex_meaning.specs.EcmaEscapesAndNames.{non_identity_escape, legacy_octal_escape, one_digit}
use Rattle.regex_meaning.specs.EcmaClasses.{ClassMember, character, class, class_member_contains, CharacterClassEscape, by_letter, by_property, class_escape_set, IsSetOf, class_escape, verbatim}
use Rattle.regex_meaning.specs.EcmaClasses.{escaped, no_range, no_more, more, plain}
use Rattle.regex_meaning.specs.EcmaGrammarWithAnnexB.{GroupNumber, group_number, character_escape, pattern_character, atom_escape, character_class, ParsesEcmaScript}
use Rattle.regex_meaning.proofs.EscapesAndNamesLemmas.{firsts, is_some}
use Rattle.regex_meaning.proofs.QuantifierStartLemmas.{not_quantified}

abbrev tree_of : Node → Tree
tree_of n = record { root = cat (cat n end_of_cat) (cat goal end_of_cat); flags = no_flags }

abbrev no_groups : PatternContext
no_groups = record { flags = no_flags; groups = [] }

-- If case is not ignored, a character is its only case variant.
spelled_alone : (c : ℕ) → AreCaseVariants false false c (c ∷ [])
spelled_alone c = record {
  increasing = tt;
  same = λ d. same-truth _ _ (λ e. eq-eqb c d (sym (alone d e)))
      (λ e. or_left (nat_eq d c) false (eq-eqb d c (sym (eqb-true c d e))));
}
  where
    alone : (d : ℕ) → (nat_eq d c || false) ≡ true → d ≡ c
    alone d e = by (nat_eq d c) refl e
      where
        by : (b : Bool) → nat_eq d c ≡ b → (b || false) ≡ true → d ≡ c
        by true f e = eqb-true d c f
        by false f e = absurd (true≢false (sym e))

-- ---- `\18` without groups: an octal escape, and an `8`

too_great : {there : RemainingCodePoints} {n : ℕ} → Digits 10 (codes "18") there n → n ≤ 0 → ⊥
too_great (digits_from h) l = let k : 18 ≤ 0 = l in omega (arith, k)

no_number : {there : RemainingCodePoints} {n : ℕ} → GroupNumber no_groups (codes "18") there n → ⊥
no_number (group_number f d l) = too_great d l

no_class : {there : RemainingCodePoints} {s : ℕ → Bool} → CharacterClassEscape no_flags (codes "18") there s → ⊥
no_class (by_letter e f) =
    true≢false (sym (ap (λ c. is_some (class_escape_set no_flags c)) (firsts refl e) ∙ ap is_some f))
no_class (by_property i u e p) = true≢false (sym u)

octal : ParsesEcmaScript no_flags (codes "\\18") (record {
  root =
      cat (cat (char 1) (cat (char 56) end_of_cat)) (cat goal end_of_cat);
  flags = no_flags;
})
octal =
    pattern_is []
    (last_alternative (terms
    (atom
    (leaf (atom_escape {a = codes "18"} refl refl refl
    (character_escape (non_identity_escape (legacy_octal_escape refl (one_digit refl refl refl))) (λ x. no_number x.2)
    (λ x. no_class x.2) (spelled_alone 1))))
    (not_quantified _ refl))
    (terms (atom (leaf (pattern_character refl refl (spelled_alone 56))) (not_quantified _ refl)) no_terms)))
    (λ i j d before within. absurd (omega arith))

-- ---- `(?=a)*`: a lookahead with a quantifier

repeated : ParsesEcmaScript no_flags (codes "(?=a)*")
    (tree_of (loop (record { min = 0; max = None; greedy = true }) 0 0
    (lookaround (record {
      negate =
          false;
      backwards = false;
      start_group = 0;
      end_group = 0;
    }) (cat (char 97) end_of_cat))))
repeated =
    pattern_is []
    (last_alternative (terms
    (repeated_assertion
    (look false false refl (last_alternative (terms
    (atom (leaf (pattern_character refl refl (spelled_alone 97))) (not_quantified _ refl)) no_terms)) refl)
    refl (greedy (star refl) refl refl))
    no_terms))
    (λ i j d before within. absurd (omega arith))

-- ---- `[\d-x]`: a dash beside a class escape

abbrev digits_dash_x : Intervals
digits_dash_x = (45, 45) ∷ (48, 57) ∷ (120, 120) ∷ []

abbrev members : List ClassMember
members = class (in_intervals digit_class) ∷ character 45 ∷ character 120 ∷ []

same_test : (c : ℕ) → in_intervals digits_dash_x c ≡ list_any (λ m. class_member_contains m c) members
same_test c = grind arith

set : IsSetOf no_flags members digits_dash_x
set =
    record {
      apart = (omega arith, omega arith, (omega arith, omega arith, omega arith));
      same = λ c. (
        λ h. (c, sym (same_test c) ∙ h, refl),
        λ x. same_test c ∙ subst
            (λ d. list_any (λ m. class_member_contains m d) members ≡ true) x.2 x.1,
      );
    }

dash : ParsesEcmaScript no_flags (codes "[\\d-x]") (tree_of (bracket (record {
  invert =
      false;
  intervals = digits_dash_x;
})))
dash =
    pattern_is []
    (last_alternative (terms
    (atom
    (leaf (character_class {a = codes "\\d-x]"} refl
    (plain refl (more (no_range refl (escaped {a =
    codes "d-x]"} refl (class_escape (by_letter refl refl))) refl (verbatim refl refl) refl) (no_more refl)) set)))
    (not_quantified _ refl))
    no_terms))
    (λ i j d before within. absurd (omega arith))
