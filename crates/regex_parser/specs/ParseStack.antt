-- What a parser with a stack of open groups has read of a pattern, and how the rest of the pattern
-- can complete it. These definitions are not part of the grammar.
use Rattle.std.specs.Prelude.{◌≡◌, ℕ, Bool, List, [], ◌∷◌, ◌++◌, IsTrue}
use Rattle.regex_meaning.specs.Tree.{Node, Lookaround, Quantifier, alt, loop, lookaround, capture_group}
use Rattle.regex_meaning.specs.ReadingStatesAndDigits.{RemainingCodePoints, ParseState, PatternContext, number_of_opened_groups, ◌▸◌, state_with_text_left, arm}
use Rattle.regex_meaning.specs.EscapesNamesQuantifiers.{BeginsQuantifier, ValidQuantifier}
use Rattle.regex_meaning.specs.Grammar.{PatternDialect, Disjunction, Alternative}

-- A disjunction, as far as it has been read: the alternatives that have ended, and the terms of the
-- current one.
pub record PartialDisjunction : Type 0 where
  pub arms : List Node
  pub terms : List Node
  pub in_lookbehind : Bool

-- A disjunction of which nothing has been read.
abbrev pub empty_disjunction : (in_lookbehind : Bool) → PartialDisjunction
empty_disjunction in_lookbehind = record { arms = []; terms = []; in_lookbehind = in_lookbehind }

-- Adds a term to the current alternative.
abbrev pub push_term : Node → PartialDisjunction → PartialDisjunction
push_term n l = record l { terms = l.terms ++ n ∷ [] }

-- Ends the current alternative.
abbrev pub end_alternative : PartialDisjunction → PartialDisjunction
end_alternative l = record l { arms = l.arms ++ arm l.in_lookbehind l.terms ∷ []; terms = [] }

-- Nests alternatives to the right. The last one is given separately.
abbrev pub nest_alternatives : List Node → Node → Node
nest_alternatives [] last = last
nest_alternatives (n ∷ ns) last = alt n (nest_alternatives ns last)

-- Reading from p to q completes the partial disjunction, and the result is this node.
pub data CompletesDisjunction (s : PatternDialect) (w : PatternContext) (l : PartialDisjunction)
    (p : ParseState) : (q : ParseState) → Node → Type 0 where
  last_arm : {q : ParseState} {ns : List Node}
      → Alternative s w l.in_lookbehind p q ns
      → CompletesDisjunction s w l p q (nest_alternatives l.arms (arm l.in_lookbehind (l.terms ++ ns)))
  further_arms : {q r t : ParseState} {ns : List Node} {right : Node}
      → Alternative s w l.in_lookbehind p q ns → q ≡ "|" ▸ r → Disjunction s w l.in_lookbehind r t right
      → CompletesDisjunction s w l p t (nest_alternatives l.arms (alt (arm l.in_lookbehind (l.terms ++ ns)) right))

-- The kind of an open group. It decides which node is made of the contents.
pub data OpenGroupKind : Type 0 where
  captures : (id : ℕ) (name : RemainingCodePoints) → OpenGroupKind
  plain : OpenGroupKind
  looks : (negate backwards : Bool) (start_group : ℕ) → OpenGroupKind

-- An open group: the disjunction around it, its kind, and the number of groups that had opened
-- before it.
pub record OpenGroup : Type 0 where
  pub outer : PartialDisjunction
  pub opened : OpenGroupKind
  pub start : ℕ

-- An atom, with or without a quantifier.
pub data IsTerm (start : ℕ) (n : Node) (p : ParseState) : (q : ParseState) → Node → Type 0 where
  once : ¬ (BeginsQuantifier p.text) → IsTerm start n p p n
  repeated : {there : RemainingCodePoints} {quantifier : Quantifier}
      → ValidQuantifier p.text there quantifier
      → IsTerm start n p (state_with_text_left there p) (loop quantifier start (number_of_opened_groups p) n)

-- The lookaround of an open group that ends at this state.
abbrev pub lookaround_up_to : (negate backwards : Bool) (start_group : ℕ) → ParseState → Lookaround
lookaround_up_to negate backwards start p =
    record { negate = negate; backwards = backwards; start_group = start; end_group = number_of_opened_groups p }

-- The term that a group becomes after its `)`, with its quantifier if it has one.
pub data ClosesGroup (s : PatternDialect) (w : PatternContext) (o : OpenGroup) (contents : Node)
    (p : ParseState) : (q : ParseState) → Node → Type 0 where
  looked : (negate backwards : Bool) (start : ℕ)
      → o.opened ≡ looks negate backwards start → ¬ (BeginsQuantifier p.text)
      → ClosesGroup s w o contents p p (lookaround (lookaround_up_to negate backwards start p) contents)
  looked_repeatedly : {there : RemainingCodePoints} {quantifier : Quantifier} (negate backwards : Bool) (start : ℕ)
      → o.opened ≡ looks negate backwards start → IsTrue (s.may_repeat w.flags backwards)
      → ValidQuantifier p.text there quantifier
      → ClosesGroup s w o contents p (state_with_text_left there p)
      (loop quantifier o.start (number_of_opened_groups p)
      (lookaround (lookaround_up_to negate backwards start p) contents))
  captured : {id : ℕ} {name : RemainingCodePoints} {q : ParseState} {n : Node}
      → o.opened ≡ captures id name → IsTerm o.start (capture_group id name contents) p q n
      → ClosesGroup s w o contents p q n
  enclosed : {q : ParseState} {n : Node}
      → o.opened ≡ plain → IsTerm o.start contents p q n
      → ClosesGroup s w o contents p q n

-- Reading the rest of the pattern completes all disjunctions, the innermost first. At the end,
-- exactly these groups have opened.
abbrev pub CompletesAllDisjunctions : PatternDialect → PatternContext → (groups : List RemainingCodePoints)
    → List OpenGroup
    → PartialDisjunction → ParseState → Node → Type 0
CompletesAllDisjunctions s w groups [] l p t = CompletesDisjunction s w l p (record { text = []; opened = groups }) t
CompletesAllDisjunctions s w groups (o ∷ around) l p t =
    (q r end : ParseState) × (contents n : Node) × CompletesDisjunction s w l p q contents × (q ≡ ")" ▸ r)
    × ClosesGroup s w o contents r end n
    × CompletesAllDisjunctions s w groups around (push_term n o.outer) end t
