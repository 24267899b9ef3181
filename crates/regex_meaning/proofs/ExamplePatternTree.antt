-- The pattern `a|ab` has its tree.
use Rattle.std.proofs.Common.{[], refl, arith}
use Rattle.regex_meaning.specs.Text.{expand_code_point}
use Rattle.regex_meaning.specs.ReadingStatesAndDigits.{PatternContext}
use Rattle.regex_meaning.specs.Grammar.{no_terms, terms, atom, leaf, last_alternative, alternatives, pattern_character, pattern_is}
use Rattle.regex_meaning.specs.GrammarLaws.{no_flags, ExampleIsParsed}
use Rattle.regex_meaning.proofs.QuantifierStartLemmas.{not_quantified}

whole : PatternContext
whole = record { flags = no_flags; groups = [] }

pub row : ExampleIsParsed
unfolding expand_code_point
row =
    pattern_is [] (alternatives
    (terms (atom (leaf (pattern_character refl refl)) (not_quantified _ refl)) no_terms)
    refl
    (last_alternative (terms (atom (leaf (pattern_character refl refl)) (not_quantified _ refl)) (terms (atom (leaf (pattern_character refl refl)) (not_quantified _ refl)) no_terms))))
    (λ i j d before within. absurd (omega arith))
