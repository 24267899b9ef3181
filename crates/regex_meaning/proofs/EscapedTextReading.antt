-- An escaped text, read as a pattern, is the sequence of the characters of the text.
use Rattle.std.proofs.Common.{◌≡◌, ℕ, Bool, true, false, not, [], ◌∷◌, ◌++◌, map, true≢false, refl, sym, ap, ◌∙◌, arith}
use Rattle.std.specs.Prelude.{codes}
use Rattle.std.specs.Char.{is_ascii_alphanumeric}
use Rattle.std.proofs.lemmas.Bool.{false_from_ne_true, not-true}
use Rattle.regex_meaning.specs.NumberListHelpers.{contains}
use Rattle.regex_meaning.specs.FlagLettersAndEscaping.{syntax_characters, with_backslash_if_syntax, escape}
use Rattle.regex_meaning.specs.ReadingStatesAndDigits.{RemainingCodePoints, PatternContext, ◌∈◌}
use Rattle.regex_meaning.specs.EscapesNamesQuantifiers.{identity_escape, BeginsQuantifier}
use Rattle.regex_meaning.specs.Grammar.{character_node, SimpleAtom, pattern_character, character_escape, Alternative, no_terms, terms, atom, leaf, profile, last_alternative, pattern_is}
use Rattle.regex_meaning.specs.GrammarLaws.{EscapedTextParsesAsLiteral}
use Rattle.regex_meaning.proofs.EscapesAndNamesLemmas.{inside}
use Rattle.regex_meaning.proofs.QuantifierStartLemmas.{head, not_quantified}

-- A character that is no syntax character is in no list of syntax characters.
none-of : (word : RemainingCodePoints) (c : ℕ) → contains syntax_characters c ≡ false → ((d : ℕ) → contains word d ≡ true → contains syntax_characters d ≡ true) → contains word c ≡ false
none-of word c f h = false_from_ne_true (contains word c) (λ k. true≢false (sym (h c k) ∙ f))

escaped-more : (c : ℕ) (cs : RemainingCodePoints) → escape (c ∷ cs) ≡ with_backslash_if_syntax c ++ escape cs
unfolding escape
escaped-more c cs = refl

escaped-special : (c : ℕ) → contains syntax_characters c ≡ true → with_backslash_if_syntax c ≡ 92 ∷ c ∷ []
escaped-special c e = rw e refl

escaped-other : (c : ℕ) → contains syntax_characters c ≡ false → with_backslash_if_syntax c ≡ c ∷ []
escaped-other c e = rw e refl

module _ (c : ℕ) (cs : RemainingCodePoints) where
  behind-slash : contains syntax_characters c ≡ true → escape (c ∷ cs) ≡ 92 ∷ c ∷ escape cs
  behind-slash e = escaped-more c cs ∙ ap (λ x. x ++ escape cs) (escaped-special c e)

  itself : contains syntax_characters c ≡ false → escape (c ∷ cs) ≡ c ∷ escape cs
  itself e = escaped-more c cs ∙ ap (λ x. x ++ escape cs) (escaped-other c e)

  first-read : (w : PatternContext) → SimpleAtom w (escape (c ∷ cs)) (escape cs) (character_node w.flags c)
  first-read w = by (contains syntax_characters c) refl
    where
      by : (b : Bool) → contains syntax_characters c ≡ b → SimpleAtom w (escape (c ∷ cs)) (escape cs) (character_node w.flags c)
      by true e = character_escape (behind-slash e) (identity_escape refl (not-true _ (inside (λ d. not (is_ascii_alphanumeric d)) syntax_characters c refl e)))
      by false e = pattern_character (itself e) (none-of (codes "^$\\.*+?()[]{}|") c e (λ d k. inside (contains syntax_characters) (codes "^$\\.*+?()[]{}|") d refl k))

begins : (cs : RemainingCodePoints) → head (escape cs) ∈ "*+?{" ≡ false
unfolding escape
begins [] = refl
begins (c ∷ cs) = by (contains syntax_characters c) refl
  where
    by : (b : Bool) → contains syntax_characters c ≡ b → head (escape (c ∷ cs)) ∈ "*+?{" ≡ false
    by true e = ap (λ x. head x ∈ "*+?{") (behind-slash c cs e)
    by false e = ap (λ x. head x ∈ "*+?{") (itself c cs e) ∙ none-of (codes "*+?{") c e (λ d k. inside (contains syntax_characters) (codes "*+?{") d refl k)

none-follows : (cs : RemainingCodePoints) → ¬ (BeginsQuantifier (escape cs))
none-follows cs = not_quantified (escape cs) (begins cs)

all-read : (w : PatternContext) (text : RemainingCodePoints) → Alternative profile w false (record { text = escape text; opened = [] }) (record { text = []; opened = [] }) (map (character_node w.flags) text)
unfolding escape
all-read w [] = no_terms
all-read w (c ∷ cs) = terms (atom (leaf (first-read c cs w)) (none-follows cs)) (all-read w cs)

pub escaped_text_parses_as_literal : EscapedTextParsesAsLiteral
escaped_text_parses_as_literal flags text =
    pattern_is [] (last_alternative (all-read (record { flags = flags; groups = [] }) text)) (λ i j d before within. absurd (omega arith))
