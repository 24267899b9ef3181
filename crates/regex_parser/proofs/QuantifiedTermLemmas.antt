-- Reading a term without groups and its quantifier keeps the invariant of the parser.
use Rattle.std.proofs.Common.{◌≡◌, ℕ, ◌<◌, ◌≤◌, ◌⊎◌, inl, inr, Bool, true, false, List, length, ⊎_elim, nat_eq, refl, sym, subst, ◌∙◌, arith}
use Rattle.regex_meaning.specs.Tree.{Node, Flags, Quantifier, loop}
use Rattle.regex_meaning.specs.ReadingStatesAndDigits.{RemainingCodePoints, ParseState, PatternContext}
use Rattle.regex_meaning.specs.EscapesNamesQuantifiers.{BeginsQuantifier, ValidQuantifier}
use Rattle.regex_meaning.specs.Grammar.{PatternDialect, Term, assertion, atom, quantified, leaf}
use Rattle.regex_parser.specs.ParseStack.{PartialDisjunction, push_term, OpenGroup, IsTerm, once, repeated}
use Rattle.regex_parser.specs.ParserInvariants.{HasNoTreeIn, spec_pattern_context, parse_state, CompletesTo, IsParserInvariant}
use Rattle.regex_parser.specs.GrouplessTermContracts.{NoTermIn, IsAtomOrIn}
use Rattle.regex_meaning.proofs.DisjunctionReadingLemmas.{ends_here, first}
use Rattle.regex_meaning.proofs.GroupOpeningScanLemmas.{Ahead, past_quantifier}
use Rattle.regex_parser.proofs.DialectRequirementLemmas.{IsReadable}
use Rattle.regex_parser.proofs.SyntaxErrorLemmas.{no_term_here, no_quantified, no_repeated}
use Rattle.regex_parser.proofs.ParserInvariantsLemmas.{refused, stands-term, either}

-- A simple atom with its quantifier, if it has one, is a term.
term_of : {S : PatternDialect} {w : PatternContext} {in_lookbehind : Bool} {here mid : RemainingCodePoints} {opened : List RemainingCodePoints} {start : ℕ} {t n : Node} {q : ParseState}
    → S.simple_atom w here mid t → start ≡ length opened → IsTerm start t (parse_state mid opened) q n → Term S w in_lookbehind (parse_state here opened) q n
term_of a e (once h) = atom (leaf a) h
term_of {S} {w} {in_lookbehind} {here} {mid} {opened} {t = t} a e (repeated {there = there} {quantifier = x} k) =
    subst (λ g. Term S w in_lookbehind (parse_state here opened) (parse_state there opened) (loop x g (length opened) t)) (sym e) (quantified (leaf a) k)

pub ahead_term : {start : ℕ} {t n : Node} {p q : ParseState} → IsTerm start t p q n → Ahead false p.text q.text
ahead_term (once h) = refl
ahead_term (repeated k) = past_quantifier false k

module _ {S : PatternDialect} (d : IsReadable S) {flags : Flags} {pattern : RemainingCodePoints} {names : List RemainingCodePoints} {old groups : ℕ} {around : List OpenGroup} {level : PartialDisjunction} {here : RemainingCodePoints} (s : IsParserInvariant S flags pattern names old groups around level here) (new : ℕ) (mid : RemainingCodePoints) (t : Node) (ahead : Ahead false here mid) (grows : old ≤ new) (more : ends_here here ≡ false) (none : length names < new → (length names < old) ⊎ NoTermIn S (spec_pattern_context flags names) here) where
  vain : length names < new → (length names < old) ⊎ ((n : Node) → CompletesTo S flags names around level (parse_state here s.opened) n → ⊥)
  vain past =
      ⊎_elim (λ k. inl k)
      (λ k. inr (λ n h. no_term_here S d.one (spec_pattern_context flags names) names around level n more (λ q m. k level.in_lookbehind s.opened q m) h)) (none past)

  -- If no term is here without a reference past all groups, the pattern has no tree.
  vain-refused : (new ≤ length names → (q : ParseState) (m : Node) → Term S (spec_pattern_context flags names) level.in_lookbehind (parse_state here s.opened) q m → ⊥) → HasNoTreeIn S flags pattern
  vain-refused lacks =
      refused d s (λ less distinct n h.
      ⊎_elim (λ within. no_term_here S d.one (spec_pattern_context flags names) names around level n more (lacks within) h)
      (λ past. ⊎_elim (λ e. omega (arith, e, less)) (λ e. e n h) (vain past)) (either new (length names)))

  pub stands-atom : (new ≤ length names → IsAtomOrIn S true (spec_pattern_context flags names) here mid t)
      → {there : RemainingCodePoints} {n : Node} → ((opened : List RemainingCodePoints) → length opened ≡ groups → IsTerm groups t (parse_state mid opened) (parse_state there opened) n)
      → IsParserInvariant S flags pattern names new groups around (push_term n level) there
  stands-atom is {there} {n} k =
      stands-term d s new there n (ahead ∙ ahead_term (k s.opened s.count)) grows (λ less. term_of (is less) (sym s.count) (k s.opened s.count)) vain

  pub atom-refused : (new ≤ length names → IsAtomOrIn S true (spec_pattern_context flags names) here mid t)
      → BeginsQuantifier mid → ((end : RemainingCodePoints) (x : Quantifier) → ValidQuantifier mid end x → ⊥) → HasNoTreeIn S flags pattern
  atom-refused is k lacks = vain-refused (λ within q m x. no_quantified S d.one (spec_pattern_context flags names) (is within) k lacks x)

  pub stands-assertion : (new ≤ length names → IsAtomOrIn S false (spec_pattern_context flags names) here mid t)
      → ¬ (BeginsQuantifier mid) → IsParserInvariant S flags pattern names new groups around (push_term t level) mid
  stands-assertion is alone = stands-term d s new mid t ahead grows (λ less. assertion (is less s.opened) alone) vain

  pub assertion-refused : nat_eq (first here) 40 ≡ false → (new ≤ length names → IsAtomOrIn S false (spec_pattern_context flags names) here mid t)
      → BeginsQuantifier mid → HasNoTreeIn S flags pattern
  assertion-refused other is k = vain-refused (λ within q m x. no_repeated S d.one (spec_pattern_context flags names) other (is within s.opened) k x)
