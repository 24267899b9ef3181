-- The term reader reads the terms without groups that the profile's grammar specifies.
use Rattle.std.proofs.Common.{◌≡◌, ℕ, ◌<◌, ◌≤◌, ◌⊎◌, inl, inr, Bool, true, false, not, List, ◌∷◌, length, true≢false, ⊎_elim, nat_eq, nat_lt, refl, sym, ap, ap₂, subst, ◌∙◌, arith, Vec, Global}
use Rattle.std.specs.Prelude.{codes, ◌||◌, ◌&&◌, Result, Ok, Err, IfOk, IfErr, IsTrue}
use Rattle.std.specs.List.{list_all}
use Rattle.std.specs.Result.{IsErrAnd}
use Rattle.std.proofs.lemmas.Bool.{false_from_ne_true, lt-ltb, not-true}
use Rattle.regex_meaning.specs.Tree.{by_case, Node, BracketContents, back_ref, bracket}
use Rattle.regex_meaning.specs.NumberListHelpers.{contains}
use Rattle.regex_meaning.specs.Text.{expand_code_point}
use Rattle.regex_meaning.specs.ReadingStatesAndDigits.{RemainingCodePoints, ParseState, PatternContext, ◌∈◌}
use Rattle.regex_meaning.specs.EscapesNamesQuantifiers.{BeginsQuantifier}
use Rattle.regex_meaning.specs.CharacterClasses.{CharacterClass}
use Rattle.regex_meaning.specs.Grammar.{character_node, SimpleAtom, pattern_character, extended_character, any_character, decimal_escape, named_reference, character_escape, character_class_escape}
use Rattle.regex_meaning.specs.Grammar.{character_class, profile, Term, assertion, atom, quantified, Assertion, repeated_assertion}
use Rattle.regex_meaning.specs.Grammar.{start, end, boundary, look, Atom, leaf, group, named_group, plain_group}
use Rattle.regex_meaning.proofs.DisjunctionReadingLemmas.{first, rest_of}
use Rattle.regex_meaning.proofs.EscapesAndNamesLemmas.{inside, firsts, behind}
use Rattle.regex_meaning.specs.GroupOpeningScanWithoutParsing.{texts_after_parentheses}
use Rattle.regex_meaning.proofs.ClassAndAtomLemmas.{leaf_apart}
use Rattle.regex_meaning.proofs.GroupNameScanLemmas.{scanned}
use Rattle.regex_meaning.proofs.GroupOpeningScanLemmas.{past_escape}
use Rattle.regex_parser.proofs.DialectTermLemmas.{passed-term, in-profile}
use Rattle.regex_parser.specs.declared.parser_error.ParseStopReason.{ParseStopReason}
use Rattle.regex_parser.specs.CodePointReaderContracts.{is_syntax_error}
use Rattle.regex_pattern_front.specs.declared.flags.Flags.{Flags}
use Rattle.regex_pattern_front.specs.declared.ir.AnchorType.{AnchorType}
use Rattle.regex_pattern_front.specs.declared.ir.AnchorType.TheVariants.{StartOfLine, EndOfLine}
use Rattle.regex_pattern_front.specs.declared.ir.Node.{Node as TheNode}
use Rattle.regex_pattern_front.specs.declared.ir.Node.TheVariants.{Char, CharSet, Bracket, MatchAny, MatchAnyExceptLineTerminator, Anchor, WordBoundary, BackRef}
use Rattle.regex_parser.specs.declared.groupless_terms.GrouplessTerm.{GrouplessTerm as TheLeaf}
use Rattle.regex_pattern_front.specs.declared.types.BracketContents.{BracketContents as TheContents}
use Rattle.regex_pattern_front.specs.AstToSpecTree.{spec_node_of, spec_flags_of, class_as_spec}
use Rattle.regex_parser.specs.GrouplessTermContracts.{NoSimpleAtom, NoTerm, pattern_context, TextBetweenIsGrouplessTerm, IsAtomOr, IsTermReadOrNone, IsAtomReadIfPresent, IsGrouplessTermReadIfPresent}
use Rattle.regex_parser.specs.GrouplessTermContracts.{TextBetweenOpensNoGroup, is_brace_or_closing_bracket}
use Rattle.regex_parser.specs.GrouplessTermContracts.{IsAssertion, anchor_sign, boundary_letter, is_paren_or_bar, is_star_plus_or_question}
use Rattle.regex_parser.specs.ParserInvariants.{parse_state}

-- Texts are different if a test tells their first characters apart.
pub unlike-first : (test : ℕ → Bool) {c d : ℕ} {cs ds : RemainingCodePoints} → test c ≡ false → test d ≡ true → c ∷ cs ≡ d ∷ ds → ⊥
unlike-first test e f g = true≢false (sym f ∙ sym (ap test (ap first g)) ∙ e)

abbrev pub begins_otherwise : ℕ → Bool
begins_otherwise c = c ∈ "^$\\("

-- If no atom begins at a character other than `^`, `$`, `\` and `(`, no term begins there.
pub no_term-plain : (w : PatternContext) (c : ℕ) (rest : RemainingCodePoints) → c ∈ "^$\\(" ≡ false → NoSimpleAtom w (c ∷ rest) → NoTerm w (c ∷ rest)
no_term-plain w c rest e none behind opened q n t = by t
  where
    in_atom : {b : Bool} {q : ParseState} {n : Node} → Atom profile w b (parse_state (c ∷ rest) opened) q n → ⊥
    in_atom (leaf a) = none _ _ a
    in_atom (group f g d close) = unlike-first begins_otherwise e refl (ap (λ x. x.text) f)
    in_atom (named_group f g d close) = unlike-first begins_otherwise e refl (ap (λ x. x.text) f)
    in_atom (plain_group f d close) = unlike-first begins_otherwise e refl (ap (λ x. x.text) f)

    no_assertion : {q : ParseState} {n : Node} → Assertion profile w (parse_state (c ∷ rest) opened) q n → ⊥
    no_assertion (start f) = unlike-first begins_otherwise e refl (ap (λ x. x.text) f)
    no_assertion (end f) = unlike-first begins_otherwise e refl (ap (λ x. x.text) f)
    no_assertion (boundary true f) = unlike-first begins_otherwise e refl (ap (λ x. x.text) f)
    no_assertion (boundary false f) = unlike-first begins_otherwise e refl (ap (λ x. x.text) f)
    no_assertion (look false false f d g) = unlike-first begins_otherwise e refl (ap (λ x. x.text) f)
    no_assertion (look true false f d g) = unlike-first begins_otherwise e refl (ap (λ x. x.text) f)
    no_assertion (look false true f d g) = unlike-first begins_otherwise e refl (ap (λ x. x.text) f)
    no_assertion (look true true f d g) = unlike-first begins_otherwise e refl (ap (λ x. x.text) f)

    by : {b : Bool} {q : ParseState} {n : Node} → Term profile w b (parse_state (c ∷ rest) opened) q n → ⊥
    by (assertion a k) = no_assertion a
    by (repeated_assertion a may k) = no_assertion a
    by (atom a k) = in_atom a
    by (quantified a k) = in_atom a

abbrev pub is_slash : ℕ → Bool
is_slash c = c ∈ "\\"

-- If no atom begins at a backslash that neither `b` nor `B` follows, no term begins there.
pub no_term-escape : (w : PatternContext) (rest : RemainingCodePoints) → ((there : RemainingCodePoints) → rest ≡ 98 ∷ there → ⊥) → ((there : RemainingCodePoints) → rest ≡ 66 ∷ there → ⊥)
    → NoSimpleAtom w (92 ∷ rest) → NoTerm w (92 ∷ rest)
no_term-escape w rest no_b no_B none behind opened q n t = by t
  where
    wrong : {d : ℕ} {ds : RemainingCodePoints} → is_slash d ≡ false → 92 ∷ rest ≡ d ∷ ds → ⊥
    wrong e g = true≢false (ap is_slash (ap first g) ∙ e)

    in_atom : {b : Bool} {q : ParseState} {n : Node} → Atom profile w b (parse_state (92 ∷ rest) opened) q n → ⊥
    in_atom (leaf a) = none _ _ a
    in_atom (group f g d close) = wrong refl (ap (λ x. x.text) f)
    in_atom (named_group f g d close) = wrong refl (ap (λ x. x.text) f)
    in_atom (plain_group f d close) = wrong refl (ap (λ x. x.text) f)

    no_assertion : {q : ParseState} {n : Node} → Assertion profile w (parse_state (92 ∷ rest) opened) q n → ⊥
    no_assertion (start f) = wrong refl (ap (λ x. x.text) f)
    no_assertion (end f) = wrong refl (ap (λ x. x.text) f)
    no_assertion (boundary true f) = no_B _ (ap (λ x. rest_of x.text) f)
    no_assertion (boundary false f) = no_b _ (ap (λ x. rest_of x.text) f)
    no_assertion (look false false f d g) = wrong refl (ap (λ x. x.text) f)
    no_assertion (look true false f d g) = wrong refl (ap (λ x. x.text) f)
    no_assertion (look false true f d g) = wrong refl (ap (λ x. x.text) f)
    no_assertion (look true true f d g) = wrong refl (ap (λ x. x.text) f)

    by : {b : Bool} {q : ParseState} {n : Node} → Term profile w b (parse_state (92 ∷ rest) opened) q n → ⊥
    by (assertion a k) = no_assertion a
    by (repeated_assertion a may k) = no_assertion a
    by (atom a k) = in_atom a
    by (quantified a k) = in_atom a

-- ---- Characters at which no atom begins

pub no_leaf-sign : (w : PatternContext) (c : ℕ) (rest : RemainingCodePoints) → c ∈ "^$*+?()|" ≡ true → NoSimpleAtom w (c ∷ rest)
no_leaf-sign w c rest e _ n a = true≢false (sym (leaf_apart w _ _ _ a) ∙ ap not e)

abbrev is_bracket : ℕ → Bool
is_bracket d = d ∈ "{}]"

abbrev is_open : ℕ → Bool
is_open d = d ∈ "["

abbrev pub special : ℕ → Bool
special c = c ∈ "^$\\.*+?()[]{}|"

-- A brace or a `]` begins no simple atom with `u`, nor where a quantifier begins.
pub no_leaf-bracket : (w : PatternContext) (c : ℕ) (rest : RemainingCodePoints) → c ∈ "{}]" ≡ true → (w.flags.unicode ≡ true) ⊎ BeginsQuantifier (c ∷ rest) → NoSimpleAtom w (c ∷ rest)
no_leaf-bracket w c rest e why _ n a = by refl a why
  where
    wrong : {here ds : RemainingCodePoints} {d : ℕ} → here ≡ c ∷ rest → is_bracket d ≡ false → here ≡ d ∷ ds → ⊥
    wrong s f g = true≢false (sym e ∙ ap is_bracket (firsts s g) ∙ f)

    by : {here there : RemainingCodePoints} {n : Node} → here ≡ c ∷ rest → SimpleAtom w here there n → (w.flags.unicode ≡ true) ⊎ BeginsQuantifier (c ∷ rest) → ⊥
    by s (pattern_character {c = d} f g) why =
        true≢false (sym (inside special (codes "{}]") d refl (sym (ap is_bracket (firsts s f)) ∙ e)) ∙ g)
    by s (extended_character f g h k) (inl u) = true≢false (sym u ∙ h)
    by s (extended_character f g h k) (inr q) = k (subst BeginsQuantifier (sym s) q)
    by s (any_character f) why = wrong s refl f
    by s (decimal_escape f g d l) why = wrong s refl f
    by s (named_reference f d g) why = wrong s refl f
    by s (character_escape f d) why = wrong s refl f
    by s (character_class_escape f g d) why = wrong s refl f
    by s (character_class f d) why = wrong s refl f

pub no_leaf-class : (w : PatternContext) (rest : RemainingCodePoints) → ((there : RemainingCodePoints) (x : BracketContents) → CharacterClass w.flags rest there x → ⊥) → NoSimpleAtom w (91 ∷ rest)
no_leaf-class w rest none _ n a = by refl a
  where
    wrong : {here ds : RemainingCodePoints} {d : ℕ} → here ≡ 91 ∷ rest → is_open d ≡ false → here ≡ d ∷ ds → ⊥
    wrong s f g = true≢false (ap is_open (firsts s g) ∙ f)

    by : {here there : RemainingCodePoints} {n : Node} → here ≡ 91 ∷ rest → SimpleAtom w here there n → ⊥
    by s (pattern_character f g) = true≢false (ap special (firsts s f) ∙ g)
    by s (extended_character f g h k) = true≢false (sym g ∙ sym (ap (λ d. d ∈ "{}]") (firsts s f)))
    by s (any_character f) = wrong s refl f
    by s (decimal_escape f g d l) = wrong s refl f
    by s (named_reference f d g) = wrong s refl f
    by s (character_escape f d) = wrong s refl f
    by s (character_class_escape f g d) = wrong s refl f
    by {there = there} s (character_class {contents = x} f d) = none there x (subst (λ y. CharacterClass w.flags y there x) (behind f s) d)

-- ---- Terms that were read

pub leaf-of : (w : PatternContext) (here there : RemainingCodePoints) (l : TheLeaf) (m : Node) → l.is_atom ≡ true → spec_node_of l.node ≡ m → SimpleAtom w here there m → TextBetweenIsGrouplessTerm w here l there
leaf-of w here there l m e f d = subst (λ b. IsAtomOr b w here there (spec_node_of l.node)) (sym e) (subst (λ x. SimpleAtom w here there x) (sym f) d)

-- A term without groups that is read with no new reference meets the reader's contract.
pub read-leaf : (none : Type 0) (w : PatternContext) (here there : RemainingCodePoints) (l : TheLeaf) (references : ℕ) → TextBetweenIsGrouplessTerm w here l there
    → IsTermReadOrNone none w here (Ok l) references references there
read-leaf none w here there l references d = (λ h. d, λ h. inl h)

pub anchored : (flags : Flags) (groups : List RemainingCodePoints) (there : RemainingCodePoints) (t : AnchorType) → IsAssertion (pattern_context flags groups) (anchor_sign t ∷ there) there (spec_node_of (Anchor t flags.multiline))
unfolding spec_node_of
anchored flags groups there StartOfLine = λ opened. start refl
anchored flags groups there EndOfLine = λ opened. end refl

pub bounded : (flags : Flags) (groups : List RemainingCodePoints) (there : RemainingCodePoints) (invert unicode_icase : Bool) → unicode_icase ≡ (flags.icase && flags.unicode)
    → IsAssertion (pattern_context flags groups) (92 ∷ boundary_letter invert ∷ there) there (spec_node_of (WordBoundary invert unicode_icase))
unfolding spec_node_of
bounded flags groups there true unicode_icase e = λ opened. rw e (boundary true refl)
bounded flags groups there false unicode_icase e = λ opened. rw e (boundary false refl)

pub dot-all : (flags : Flags) (groups : List RemainingCodePoints) (there : RemainingCodePoints) (l : TheLeaf) → flags.dot_all ≡ true → l.is_atom ≡ true → l.node ≡ MatchAny
    → TextBetweenIsGrouplessTerm (pattern_context flags groups) (46 ∷ there) l there
unfolding spec_node_of
dot-all flags groups there l e f g = leaf-of _ _ _ l _ f (rw (g, e) refl) (any_character refl)

pub dot-other : (flags : Flags) (groups : List RemainingCodePoints) (there : RemainingCodePoints) (l : TheLeaf) → flags.dot_all ≡ false → l.is_atom ≡ true → l.node ≡ MatchAnyExceptLineTerminator
    → TextBetweenIsGrouplessTerm (pattern_context flags groups) (46 ∷ there) l there
unfolding spec_node_of
dot-other flags groups there l e f g = leaf-of _ _ _ l _ f (rw (g, e) refl) (any_character refl)

pub node-set : (flags : Flags) (c : ℕ) (members : Vec ℕ Global) (n : TheNode) → members.items ≡ expand_code_point c flags.icase flags.unicode → 1 < length members.items
    → n ≡ CharSet members → spec_node_of n ≡ character_node (spec_flags_of flags) c
unfolding spec_node_of
node-set flags c members n e f g = let many : nat_lt 1 (length members.items) ≡ true = lt-ltb 1 _ f in rw (g, sym e, many) refl

pub node-one : (flags : Flags) (c : ℕ) (members : Vec ℕ Global) (n : TheNode) → members.items ≡ expand_code_point c flags.icase flags.unicode → length members.items ≤ 1
    → n ≡ Char c → spec_node_of n ≡ character_node (spec_flags_of flags) c
unfolding spec_node_of
node-one flags c members n e f g = let one : nat_lt 1 (length members.items) ≡ false = grind arith in rw (g, sym e, one) refl

-- Without `icase`, the node of a character is that character.
pub node-plain : (flags : Flags) (c : ℕ) (n : TheNode) → flags.icase ≡ false → n ≡ Char c → spec_node_of n ≡ character_node (spec_flags_of flags) c
unfolding spec_node_of expand_code_point
node-plain flags c n e g = rw (g, e) refl

pub node-BackRef : (n : ℕ) (icase : Bool) → spec_node_of (BackRef n icase) ≡ back_ref n (by_case icase)
unfolding spec_node_of
node-BackRef n icase = refl

pub node-Bracket : (contents : TheContents) → spec_node_of (Bracket contents) ≡ bracket (class_as_spec contents)
unfolding spec_node_of
node-Bracket contents = refl

pub read-err : {P : ParseStopReason → Type 0} (none : Type 0) (w : PatternContext) (here there : RemainingCodePoints) (r : Result TheLeaf ParseStopReason) (e : ParseStopReason) (old new : ℕ) → IsErrAnd r P → ((x : ParseStopReason) → P x → x ≡ e)
    → (IsTrue (is_syntax_error e) → none) → IsTermReadOrNone none w here r old new there
read-err N w here there (Ok l) e old new h same none = absurd h
read-err N w here there (Err x) e old new h same none = λ r. none (sym (ap is_syntax_error (same x h)) ∙ r)

pub character-read : (none : Type 0) (w : PatternContext) (here there : RemainingCodePoints) (m : Node) (r : Result TheLeaf ParseStopReason) (references : ℕ) → IfOk r (λ l. l.is_atom ≡ true)
    → IfOk r (λ l. spec_node_of l.node ≡ m) → IfErr r (λ e. is_syntax_error e ≡ false) → SimpleAtom w here there m → IsTermReadOrNone none w here r references references there
character-read none w here there m (Ok l) references a n e d = read-leaf none w here there l references (leaf-of w here there l m a n d)
character-read none w here there m (Err x) references a n e d = λ r. absurd (true≢false (sym r ∙ e))

pub in-all : (r : Result TheLeaf ParseStopReason) {P : Type 0} → P → IfOk r (λ l. P)
in-all (Ok l) p = p
in-all (Err e) p = tt

-- ---- Terms that begin with a backslash

weaken : (none other : Type 0) (w : PatternContext) (here there : RemainingCodePoints) (r : Result TheLeaf ParseStopReason) (old new : ℕ) → (none → other) → IsTermReadOrNone none w here r old new there → IsTermReadOrNone other w here r old new there
weaken N O w here there (Ok l) old new f h = (h.0, λ k. ⊎_elim (λ x. inl x) (λ x. inr (f x)) (h.1 k))
weaken N O w here there (Err e) old new f h = λ r. f (h r)

pub escape-read : (w : PatternContext) (rest middle last there : RemainingCodePoints) (r : Result TheLeaf ParseStopReason) (old new : ℕ) → (middle ≡ rest) × ((a : RemainingCodePoints) → rest ≡ 98 ∷ a → ⊥)
    → (last ≡ middle) × ((a : RemainingCodePoints) → middle ≡ 66 ∷ a → ⊥) → IsAtomReadIfPresent w (92 ∷ last) r old new there → IsGrouplessTermReadIfPresent w (92 ∷ rest) r old new there
escape-read w rest middle last there r old new b c d =
    weaken (NoSimpleAtom w (92 ∷ rest)) (NoTerm w (92 ∷ rest)) w (92 ∷ rest) there r old new (no_term-escape w rest b.1 (λ a e. c.1 a (b.0 ∙ e))) (subst (λ x. IsAtomReadIfPresent w (92 ∷ x) r old new there) (c.0 ∙ b.0) d)

pub escape-passed : (c : ℕ) (rest there : RemainingCodePoints) → rest ≡ c ∷ there → TextBetweenOpensNoGroup (92 ∷ rest) there
escape-passed c rest there e = ap (λ x. texts_after_parentheses false (92 ∷ x)) e ∙ past_escape false c there

pub passed-of : (w : PatternContext) (c : ℕ) (rest there : RemainingCodePoints) (l : TheLeaf) → is_paren_or_bar c ≡ false → TextBetweenIsGrouplessTerm w (c ∷ rest) l there → TextBetweenOpensNoGroup (c ∷ rest) there
passed-of w c rest there l e h = passed-term profile scanned w c rest there l.is_atom _ e (in-profile w (c ∷ rest) there _ l.is_atom h)

-- ---- Characters that stand for themselves

abbrev any_part : ℕ → Bool
any_part d = (d ∈ "^$." || is_star_plus_or_question d) || ((is_brace_or_closing_bracket d || is_paren_or_bar d) || (nat_eq d 92 || nat_eq d 91))

pub none_of : (c : ℕ) → nat_eq c 92 ≡ false → nat_eq c 91 ≡ false → c ∈ "^$." ≡ false → is_star_plus_or_question c ≡ false → is_brace_or_closing_bracket c ≡ false → is_paren_or_bar c ≡ false → special c ≡ false
none_of c a b d e f g =
    false_from_ne_true (special c) (λ k. true≢false (sym (inside any_part (codes "^$\\.*+?()[]{}|") c refl k) ∙ ap₂ (λ x y. x || y) (ap₂ (λ x y. x || y) d e) (ap₂ (λ x y. x || y) (ap₂ (λ x y. x || y) f g) (ap₂ (λ x y. x || y) a b))))

pub alone : (flags : Flags) (groups : List RemainingCodePoints) (c : ℕ) (rest : RemainingCodePoints) → nat_eq c 92 ≡ false → nat_eq c 91 ≡ false → c ∈ "^$." ≡ false
    → (is_star_plus_or_question c ≡ false) × (is_brace_or_closing_bracket c ≡ true → (flags.unicode ≡ false) × ¬ (BeginsQuantifier (c ∷ rest))) → is_paren_or_bar c ≡ false
    → SimpleAtom (pattern_context flags groups) (c ∷ rest) rest (character_node (spec_flags_of flags) c)
alone flags groups c rest a b d e g = by (is_brace_or_closing_bracket c) refl
  where
    by : (x : Bool) → is_brace_or_closing_bracket c ≡ x → SimpleAtom (pattern_context flags groups) (c ∷ rest) rest (character_node (spec_flags_of flags) c)
    by true f = let u = e.1 f in extended_character refl f u.0 u.1
    by false f = pattern_character refl (none_of c a b d e.0 f g)

pub no_plain : (c : ℕ) (word : RemainingCodePoints) → list_all (λ d. not (d ∈ "^$\\(")) word ≡ true → contains word c ≡ true → c ∈ "^$\\(" ≡ false
no_plain c word h e = not-true (c ∈ "^$\\(") (inside (λ d. not (d ∈ "^$\\(")) word c h e)

pub alone-none : (w : PatternContext) (c : ℕ) (rest : RemainingCodePoints) → (is_star_plus_or_question c ≡ true) ⊎ ((is_brace_or_closing_bracket c ≡ true) × ((w.flags.unicode ≡ true) ⊎ BeginsQuantifier (c ∷ rest))) → NoTerm w (c ∷ rest)
alone-none w c rest (inl e) =
    no_term-plain w c rest (no_plain c (codes "*+?") refl e) (no_leaf-sign w c rest (inside (λ d. d ∈ "^$*+?()|") (codes "*+?") c refl e))
alone-none w c rest (inr e) = no_term-plain w c rest (no_plain c (codes "{}]") refl e.0) (no_leaf-bracket w c rest e.0 e.1)

pub bracket-none : (w : PatternContext) (c : ℕ) (rest : RemainingCodePoints) → c ≡ 91 → ((there : RemainingCodePoints) (x : BracketContents) → CharacterClass w.flags rest there x → ⊥) → NoTerm w (c ∷ rest)
bracket-none w c rest e none = subst (λ x. NoTerm w (x ∷ rest)) (sym e) (no_term-plain w 91 rest refl (no_leaf-class w rest none))

pub bracket-read : (flags : Flags) (groups : List RemainingCodePoints) (c : ℕ) (rest there : RemainingCodePoints) (l : TheLeaf) (b : BracketContents) → c ≡ 91 → CharacterClass (spec_flags_of flags) rest there b → l.is_atom ≡ true
    → spec_node_of l.node ≡ bracket b → TextBetweenIsGrouplessTerm (pattern_context flags groups) (c ∷ rest) l there
bracket-read flags groups c rest there l b e d f g = leaf-of _ _ _ l _ f g (character_class (ap (λ (x : ℕ). x ∷ rest) e) d)
