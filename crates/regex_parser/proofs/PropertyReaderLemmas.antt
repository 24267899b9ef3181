-- The reader of property expressions reads the properties that the grammar specifies.
use Rattle.std.proofs.Common.{◌≡◌, ℕ, true, false, [], ◌∷◌, ◌++◌, refl, sym, ap, ap₂, ◌∙◌, true≢false, Option, Some}
use Rattle.std.specs.List.{list_all}
use Rattle.std.proofs.lemmas.Bool.{and_parts}
use Rattle.regex_meaning.specs.ReadingStatesAndDigits.{RemainingCodePoints}
use Rattle.regex_meaning.specs.UnicodeProperties.{property_named, property_with_value, Property as SpecProperty}
use Rattle.regex_meaning.specs.EcmaEscapesAndNames.{PropertyExpression, with_value, alone}
use Rattle.regex_meaning.proofs.DisjunctionReadingLemmas.{first, rest_of, unlike}
use Rattle.regex_meaning.proofs.EscapesAndNamesLemmas.{behind}
use Rattle.regex_meaning.proofs.EcmaEscapesAndNamesLemmas.{lone-good, property-good, value-good}
use Rattle.regex_parser.specs.PropertyReaderContracts.{is_name_character, AreNameCharactersRead, IsPropertyNamed}

-- A character of names differs from a character that no name has.
sign-apart : {A : Type 0} (c d : ℕ) → is_name_character c ≡ true → is_name_character d ≡ false → c ≡ d → A
sign-apart c d e f g = absurd (true≢false (sym e ∙ ap is_name_character g ∙ f))

-- A name that is read as far as possible is every name in the same text that another sign ends.
longest : (n m a b : RemainingCodePoints) (d : ℕ) → list_all is_name_character n ≡ true → ((c : ℕ) (rest : RemainingCodePoints) → a ≡ c ∷ rest → is_name_character c ≡ false)
    → list_all is_name_character m ≡ true → is_name_character d ≡ false → n ++ a ≡ m ++ d ∷ b → (n ≡ m) × (a ≡ d ∷ b)
longest [] [] a b d g ends h x e = (refl, e)
longest [] (z ∷ m) a b d g ends h x e = absurd (true≢false (sym (and_parts (is_name_character z) _ h).0 ∙ ends z (m ++ d ∷ b) e))
longest (z ∷ n) [] a b d g ends h x e = sign-apart z d (and_parts (is_name_character z) _ g).0 x (ap first e)
longest (z ∷ n) (v ∷ m) a b d g ends h x e =
    let k = longest n m a b d (and_parts (is_name_character z) _ g).1 ends (and_parts (is_name_character v) _ h).1 x (ap rest_of e) in
    (ap₂ (λ s t. s ∷ t) (ap first e) k.0, k.1)

-- If a name, `=` and a value are read, the property that they name is named here.
pub named-with_value : {here a b there name value : RemainingCodePoints} (found : Option SpecProperty) → AreNameCharactersRead here name a → a ≡ 61 ∷ b → AreNameCharactersRead b value there
    → found ≡ property_with_value name value → IsPropertyNamed here found there
named-with_value {here} {a} {b} {there} {name} {value} found n e v f = record { on = on; back = back }
  where
    text : here ≡ name ++ 61 ∷ (value ++ there)
    text = n.is ∙ ap (λ x. name ++ x) (e ∙ ap (λ x. 61 ∷ x) v.is)

    on : (end : RemainingCodePoints) (p : SpecProperty) → found ≡ Some p → there ≡ 125 ∷ end → PropertyExpression (123 ∷ here) end p
    on end p g h = with_value name value (ap (λ x. 123 ∷ x) (text ∙ ap (λ x. name ++ 61 ∷ (value ++ x)) h)) (sym f ∙ g)

    back : (end : RemainingCodePoints) (p : SpecProperty) → PropertyExpression (123 ∷ here) end p → (found ≡ Some p) × (there ≡ 125 ∷ end)
    back end p (with_value m w g h) =
        let s = longest name m a (w ++ 125 ∷ end) 61 n.all n.ends (property-good m w h) refl (sym n.is ∙ behind refl g) in
        let t = longest value w there end 125 v.all v.ends (value-good m w h) refl (sym v.is ∙ ap rest_of (sym e ∙ s.1)) in
        (f ∙ ap₂ property_with_value s.0 t.0 ∙ h, t.1)
    back end p (alone m g h) =
        let s = longest name m a end 125 n.all n.ends (lone-good m h) refl (sym n.is ∙ behind refl g) in
        absurd (unlike 61 125 refl (ap first (sym e ∙ s.1)))

-- If a name is read that no `=` follows, the property that it names is named here.
pub named-alone : {here there name : RemainingCodePoints} (found : Option SpecProperty) → AreNameCharactersRead here name there → ((rest : RemainingCodePoints) → there ≡ 61 ∷ rest → ⊥)
    → found ≡ property_named name → IsPropertyNamed here found there
named-alone {here} {there} {name} found n no_sign f = record { on = on; back = back }
  where
    on : (end : RemainingCodePoints) (p : SpecProperty) → found ≡ Some p → there ≡ 125 ∷ end → PropertyExpression (123 ∷ here) end p
    on end p g h = alone name (ap (λ x. 123 ∷ x) (n.is ∙ ap (λ x. name ++ x) h)) (sym f ∙ g)

    back : (end : RemainingCodePoints) (p : SpecProperty) → PropertyExpression (123 ∷ here) end p → (found ≡ Some p) × (there ≡ 125 ∷ end)
    back end p (with_value m w g h) =
        let s = longest name m there (w ++ 125 ∷ end) 61 n.all n.ends (property-good m w h) refl (sym n.is ∙ behind refl g) in absurd (no_sign _ s.1)
    back end p (alone m g h) =
        let s = longest name m there end 125 n.all n.ends (lone-good m h) refl (sym n.is ∙ behind refl g) in (f ∙ ap property_named s.0 ∙ h, s.1)

-- A text that does not begin with `{` begins no property expression.
pub no-expression : {here : RemainingCodePoints} → ((rest : RemainingCodePoints) → here ≡ 123 ∷ rest → ⊥) → (end : RemainingCodePoints) (p : SpecProperty) → PropertyExpression here end p → ⊥
no-expression k end p (with_value m w g h) = k _ g
no-expression k end p (alone m g h) = k _ g
