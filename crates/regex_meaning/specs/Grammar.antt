-- The grammar of patterns by the productions of ECMA-262, 9th edition, 21.2.1, and the tree of each
-- production. Each relation is a production, and each constructor is a right-hand side. Its
-- premises read the symbols in order, from the state before to the state after. Lookaheads and
-- early errors (21.2.1.1) are premises too. `w` is what is known of the whole pattern. The
-- productions with groups have a parameter, the dialect (`PatternDialect`), which says what differs
-- between this profile and other pattern languages.
use Rattle.std.specs.Prelude.{◌≡◌, ℕ, ◌≤◌, Bool, true, false, ◌&&◌, List, [], ◌∷◌, ◌++◌, AllPairs, nat_lt, length, codes, Some, if◌then◌else◌, IsTrue}
use Rattle.regex_meaning.specs.Tree.{Node, Tree, Flags, Quantifier, Lookaround, BracketContents, Intervals, goal, char, char_set, cat, end_of_cat, alt, bracket, match_any}
use Rattle.regex_meaning.specs.Tree.{match_any_except_line_terminator, anchor, start_of_line, end_of_line, word_boundary, capture_group}
use Rattle.regex_meaning.specs.Tree.{by_case, back_ref, lookaround, loop}
use Rattle.regex_meaning.specs.Text.{expand_code_point}
use Rattle.regex_meaning.specs.ReadingStatesAndDigits.{RemainingCodePoints, ParseState, PatternContext, number_of_opened_groups, ◌▸◌, state_with_text_left, with_opened_group, ◌∈◌}
use Rattle.regex_meaning.specs.ReadingStatesAndDigits.{begins_with_characters, Digits, group_number_of, arm}
use Rattle.regex_meaning.specs.EscapesNamesQuantifiers.{CharacterEscape, GroupName, BeginsQuantifier, ValidQuantifier}
use Prim.Native.String.{String}
use Rattle.regex_meaning.specs.CharacterClasses.{class, class_escape, CharacterClass, IsSetOf}

-- The node of one character. With `icase`, if several code points fold as it does, the node is
-- their set.
abbrev pub character_node : Flags → ℕ → Node
character_node flags c =
    let members = expand_code_point c flags.icase flags.unicode in
    if nat_lt 1 (length members) then char_set members else char c

-- The alternatives of Atom that contain no group
pub data SimpleAtom (w : PatternContext) (here : RemainingCodePoints) : (there : RemainingCodePoints) → Node
    → Type 0 where
  -- PatternCharacter: SourceCharacter but not SyntaxCharacter
  pattern_character : {c : ℕ} {there : RemainingCodePoints}
      → here ≡ c ∷ there → c ∈ "^$\\.*+?()[]{}|" ≡ false
      → SimpleAtom w here there (character_node w.flags c)
  -- ExtendedPatternCharacter (B.1.4), without `u`: a `{`, `}` or `]` that does not begin a
  -- quantifier
  extended_character : {c : ℕ} {there : RemainingCodePoints}
      → here ≡ c ∷ there → c ∈ "{}]" ≡ true → w.flags.unicode ≡ false → ¬ (BeginsQuantifier here)
      → SimpleAtom w here there (character_node w.flags c)
  -- `.`
  any_character : {there : RemainingCodePoints}
      → here ≡ codes "." ++ there
      → SimpleAtom w here there (if w.flags.dot_all then match_any else match_any_except_line_terminator)
  -- AtomEscape, DecimalEscape: a group must have this number (early error)
  decimal_escape : {a there : RemainingCodePoints} {n : ℕ}
      → here ≡ codes "\\" ++ a → begins_with_characters "0" a ≡ false → Digits 10 a there n → n ≤ length w.groups
      → SimpleAtom w here there (back_ref n (by_case w.flags.icase))
  -- AtomEscape, `k GroupName`: a group must have this name (early error)
  named_reference : {a there name : RemainingCodePoints} {n : ℕ}
      → here ≡ codes "\\k<" ++ a → GroupName a there name → group_number_of name w.groups ≡ Some n
      → SimpleAtom w here there (back_ref n (by_case w.flags.icase))
  -- AtomEscape, CharacterEscape
  character_escape : {a there : RemainingCodePoints} {c : ℕ}
      → here ≡ codes "\\" ++ a → CharacterEscape w.flags.unicode a there c
      → SimpleAtom w here there (character_node w.flags c)
  -- AtomEscape, CharacterClassEscape
  character_class_escape : {there : RemainingCodePoints} {letter : ℕ} {base set : Intervals} {invert : Bool}
      → here ≡ codes "\\" ++ letter ∷ there → class_escape letter ≡ Some (class base invert)
      → IsSetOf w.flags (class base false ∷ []) set
      → SimpleAtom w here there (bracket (record { invert = invert; intervals = set }))
  -- CharacterClass
  character_class : {a there : RemainingCodePoints} {contents : BracketContents}
      → here ≡ codes "[" ++ a → CharacterClass w.flags a there contents
      → SimpleAtom w here there (bracket contents)

-- The characters that open a lookaround.
abbrev pub lookaround_opener : (negate backwards : Bool) → String
lookaround_opener false false = "(?="
lookaround_opener true false = "(?!"
lookaround_opener false true = "(?<="
lookaround_opener true true = "(?<!"

-- What differs between pattern languages.
pub record PatternDialect : Type 1 where
  -- The alternatives of Atom that contain no group
  pub simple_atom : PatternContext → (here there : RemainingCodePoints) → Node → Type 0
  -- GroupName, after the `<`
  pub group_name : (here there name : RemainingCodePoints) → Type 0
  -- Whether a lookaround may have a quantifier (QuantifiableAssertion of B.1.4).
  pub may_repeat : Flags → (backwards : Bool) → Bool

mutual
  -- Disjunction, from one state to another. `in_lookbehind` says whether it is inside a lookbehind.
  pub data Disjunction (s : PatternDialect) (w : PatternContext) : (in_lookbehind : Bool) → ParseState → ParseState
      → Node → Type 0 where
    last_alternative : {in_lookbehind : Bool} {p q : ParseState} {terms : List Node}
        → Alternative s w in_lookbehind p q terms
        → Disjunction s w in_lookbehind p q (arm in_lookbehind terms)
    alternatives : {in_lookbehind : Bool} {p q r t : ParseState} {terms : List Node} {right : Node}
        → Alternative s w in_lookbehind p q terms → q ≡ "|" ▸ r → Disjunction s w in_lookbehind r t right
        → Disjunction s w in_lookbehind p t (alt (arm in_lookbehind terms) right)

  -- Alternative, and the nodes of its terms in the order of the text
  pub data Alternative (s : PatternDialect) (w : PatternContext) : (in_lookbehind : Bool) → ParseState → ParseState
      → List Node → Type 0 where
    no_terms : {in_lookbehind : Bool} {p : ParseState} → Alternative s w in_lookbehind p p []
    terms : {in_lookbehind : Bool} {p q r : ParseState} {n : Node} {ns : List Node}
        → Term s w in_lookbehind p q n → Alternative s w in_lookbehind q r ns
        → Alternative s w in_lookbehind p r (n ∷ ns)

  -- Term
  pub data Term (s : PatternDialect) (w : PatternContext) : (in_lookbehind : Bool) → ParseState → ParseState → Node
      → Type 0 where
    -- Assertion that is not followed by a quantifier. In the standard this holds because no Term
    -- begins with a quantifier.
    assertion : {in_lookbehind : Bool} {p q : ParseState} {n : Node}
        → Assertion s w p q n → ¬ (BeginsQuantifier q.text)
        → Term s w in_lookbehind p q n
    -- `QuantifiableAssertion Quantifier` (B.1.4): a lookaround, if the dialect allows it
    repeated_assertion : {in_lookbehind : Bool} {p q : ParseState} {there : RemainingCodePoints} {l : Lookaround}
        {n : Node} {quantifier : Quantifier}
        → Assertion s w p q (lookaround l n) → IsTrue (s.may_repeat w.flags l.backwards)
        → ValidQuantifier q.text there quantifier
        → Term s w in_lookbehind p (state_with_text_left there q)
        (loop quantifier (number_of_opened_groups p) (number_of_opened_groups q) (lookaround l n))
    -- Atom that is not followed by a quantifier
    atom : {in_lookbehind : Bool} {p q : ParseState} {n : Node}
        → Atom s w in_lookbehind p q n → ¬ (BeginsQuantifier q.text)
        → Term s w in_lookbehind p q n
    -- `Atom Quantifier`. The loop contains the range of the group ids that open inside it.
    quantified : {in_lookbehind : Bool} {p q : ParseState} {there : RemainingCodePoints} {n : Node}
        {quantifier : Quantifier}
        → Atom s w in_lookbehind p q n → ValidQuantifier q.text there quantifier
        → Term s w in_lookbehind p (state_with_text_left there q)
        (loop quantifier (number_of_opened_groups p) (number_of_opened_groups q) n)

  -- Assertion: `^`, `$`, `\b`, `\B`, and the lookarounds
  pub data Assertion (s : PatternDialect) (w : PatternContext) : ParseState → ParseState → Node → Type 0 where
    start : {p q : ParseState} → p ≡ "^" ▸ q → Assertion s w p q (anchor start_of_line w.flags.multiline)
    end : {p q : ParseState} → p ≡ "$" ▸ q → Assertion s w p q (anchor end_of_line w.flags.multiline)
    boundary : {p q : ParseState} (invert : Bool)
        → p ≡ (if invert then "\\B" else "\\b") ▸ q
        → Assertion s w p q (word_boundary invert (w.flags.icase && w.flags.unicode))
    look : {p q r t : ParseState} {n : Node} (negate backwards : Bool)
        → p ≡ lookaround_opener negate backwards ▸ q → Disjunction s w backwards q r n → r ≡ ")" ▸ t
        → Assertion s w p t
        (lookaround
        (record {
          negate = negate;
          backwards = backwards;
          start_group = number_of_opened_groups p;
          end_group = number_of_opened_groups t;
        }) n)

  -- Atom
  pub data Atom (s : PatternDialect) (w : PatternContext) : (in_lookbehind : Bool) → ParseState → ParseState → Node
      → Type 0 where
    -- An atom that contains no group.
    leaf : {in_lookbehind : Bool} {p : ParseState} {there : RemainingCodePoints} {n : Node}
        → s.simple_atom w p.text there n
        → Atom s w in_lookbehind p (state_with_text_left there p) n
    -- `( GroupSpecifier Disjunction )` without a name: the parenthesis is not followed by a `?`
    group : {in_lookbehind : Bool} {p q r t : ParseState} {n : Node}
        → p ≡ "(" ▸ q → begins_with_characters "?" q.text ≡ false
        → Disjunction s w in_lookbehind (with_opened_group [] q) r n → r ≡ ")" ▸ t
        → Atom s w in_lookbehind p t (capture_group (number_of_opened_groups p) [] n)
    -- `( GroupSpecifier Disjunction )` with a name
    named_group : {in_lookbehind : Bool} {p q r t : ParseState} {there name : RemainingCodePoints} {n : Node}
        → p ≡ "(?<" ▸ q → s.group_name q.text there name
        → Disjunction s w in_lookbehind (with_opened_group name (state_with_text_left there q)) r n
        → r ≡ ")" ▸ t
        → Atom s w in_lookbehind p t (capture_group (number_of_opened_groups p) name n)
    -- `(?: Disjunction )`
    plain_group : {in_lookbehind : Bool} {p q r t : ParseState} {n : Node}
        → p ≡ "(?:" ▸ q → Disjunction s w in_lookbehind q r n → r ≡ ")" ▸ t
        → Atom s w in_lookbehind p t n

-- No two groups have the same name (early error). An empty name means that the group has none.
abbrev pub AreDistinct : List RemainingCodePoints → Type 0
AreDistinct names = AllPairs (λ a b. a ≡ b → a ≡ []) names

-- Pattern, with the flags given. The groups of the whole pattern are those that have opened at its
-- end.
pub data ParsesBy (s : PatternDialect) (flags : Flags) (pattern : RemainingCodePoints) : Tree → Type 0 where
  pattern_is : {n : Node} (groups : List RemainingCodePoints)
      → Disjunction s (record { flags = flags; groups = groups }) false
      (record { text = pattern; opened = [] }) (record { text = []; opened = groups }) n
      → AreDistinct groups
      → ParsesBy s flags pattern (record { root = cat n (cat goal end_of_cat); flags = flags })

-- The dialect of this profile: a lookaround cannot have a quantifier.
abbrev pub profile : PatternDialect
profile =
    record {
      simple_atom = SimpleAtom;
      group_name = λ here there name. GroupName here there name;
      may_repeat = λ flags backwards. false;
    }

-- The tree of a pattern of this profile.
abbrev pub Parses : Flags → (pattern : RemainingCodePoints) → Tree → Type 0
Parses = ParsesBy profile
