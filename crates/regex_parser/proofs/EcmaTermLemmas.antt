-- The ECMAScript term reader reads the terms without groups that the grammar specifies.
use Rattle.std.proofs.Common.{◌≡◌, ◌⊎◌, ℕ, ◌+◌, ◌-◌, ◌<◌, ◌≤◌, Bool, true, false, not, ◌&&◌, List, [], ◌∷◌, ◌++◌, length, true≢false, ⊎_elim, inl, inr, refl, sym, ap, ap₂, subst, ◌∙◌, arith, Option}
use Rattle.std.proofs.Common.{Some, None, nat_eq, codes, is_some, Global}
use Rattle.std.specs.Prelude.{IsTrue, Result, Ok, Err, IfOk, IfErr, if◌then◌else◌, String, Vec}
use Rattle.std.specs.BTreeMap.{BTreeMap, get_by_text}
use Rattle.std.specs.Result.{IsErrAnd}
use Rattle.std.specs.Char.{is_digit}
use Rattle.std.specs.Int.{is_in_range}
use Rattle.std.specs.List.{list_all}
use Rattle.std.proofs.lemmas.Bool.{eqb-true, eqb-false, eq-eqb, lt-ltb, le-ltb, cases_lt}
use Rattle.regex_meaning.specs.Tree.{Node, Flags as SpecFlags, BracketContents as SpecContents, bracket, back_ref, char, char_set, alike, by_canonical_case}
use Rattle.regex_meaning.specs.Text.{is_scalar}
use Rattle.regex_meaning.specs.Canonical.{AreCaseVariants}
use Rattle.regex_meaning.proofs.CaseVariantListLemmas.{few-case-variants}
use Rattle.regex_meaning.specs.ReadingStatesAndDigits.{RemainingCodePoints, ParseState, PatternContext, ◌∈◌, begins_with_characters, group_number_of}
use Rattle.regex_meaning.specs.EscapesNamesQuantifiers.{BeginsQuantifier}
use Rattle.regex_meaning.specs.Grammar.{Term, Assertion, Atom, assertion, repeated_assertion, atom, quantified, start, end as line_end, boundary, look, leaf, group, named_group, plain_group}
use Rattle.regex_meaning.specs.EcmaEscapesAndNames.{CharacterEscape, NonIdentityEscape, non_identity_escape, identity_escape, is_identity_escape, GroupName, GrammarParameters, PropertyExpression}
use Rattle.regex_meaning.specs.EcmaClasses.{IsSetOf, class, is_in_invertible_set, CharacterClassEscape, by_letter, by_property, grammar_parameters, CharacterClass}
use Rattle.regex_meaning.specs.UnicodeProperties.{has_property, Property}
use Rattle.regex_meaning.specs.EcmaGrammarWithAnnexB.{ecmascript, has_named_groups, grammar_parameters_of, group_number, BeginsGroupNumber, reference_node, AtomEscape, decimal_escape}
use Rattle.regex_meaning.specs.EcmaGrammarWithAnnexB.{character_class_escape, property_escape, character_escape, named_reference}
use Rattle.regex_meaning.specs.EcmaGrammarWithAnnexB.{SimpleAtom, pattern_character, extended_pattern_character, any_character, atom_escape, backslash, character_class}
use Rattle.regex_meaning.proofs.DisjunctionReadingLemmas.{first, rest_of, unlike}
use Rattle.regex_meaning.proofs.EscapesAndNamesLemmas.{behind, firsts, inside}
use Rattle.regex_meaning.proofs.BackreferenceNumberLemmas.{number-positive, number_of-bounds}
use Rattle.regex_meaning.proofs.EcmaClassAndAtomLemmas.{number-kind, letter-kind, property-kind, property-here, property-from, apart-kinds, kind, no-k, no-class, atom-tagged, atom_tag, atom_kind}
use Rattle.regex_meaning.proofs.EcmaClassAndAtomLemmas.{c-first}
use Rattle.regex_meaning.proofs.EcmaEscapesAndNamesLemmas.{proper-kind, one_name}
use Rattle.regex_meaning.proofs.FirstDigitOfNumber.{digit_begins}
use Rattle.regex_meaning.proofs.PatternTreeLemmas.{leaf-reference}
use Rattle.regex_pattern_front.specs.SubtreeListInvariants.{IsWellFormedGrouplessSubtree}
use Rattle.regex_meaning.specs.CharacterClasses as Profile
use Rattle.regex_pattern_front.specs.declared.types.BracketContents.{BracketContents as TheContents}
use Rattle.regex_pattern_front.specs.declared.flags.Flags.{Flags}
use Rattle.regex_pattern_front.specs.declared.ir.AnchorType.{AnchorType}
use Rattle.regex_pattern_front.specs.declared.ir.AnchorType.TheVariants.{StartOfLine, EndOfLine}
use Rattle.regex_pattern_front.specs.declared.ir.Node.TheVariants.{Anchor, WordBoundary, MatchAny, MatchAnyExceptLineTerminator, Char, CharSet, CanonicalBackRef}
use Rattle.regex_pattern_front.specs.declared.ir.Node.{Node as TheNode}
use Rattle.regex_parser.specs.declared.character_class_parser.CharacterClassType.{CharacterClassType}
use Rattle.regex_parser.specs.declared.groupless_terms.GrouplessTerm.{GrouplessTerm}
use Rattle.regex_parser.specs.declared.parser_error.ParseStopReason.{ParseStopReason}
use Rattle.regex_pattern_front.specs.AstToSpecTree.{spec_node_of, spec_flags_of, class_as_spec}
use Rattle.regex_parser.specs.ClassReaderContracts.{uninverted_digit_word_or_space_set, class_escape_of_letter}
use Rattle.regex_parser.specs.CodePointReaderContracts.{is_syntax_error, first_char_if_any, IsCodePointReadIfAny}
use Rattle.regex_parser.specs.EcmaClassContracts.{set_of_letter}
use Rattle.regex_parser.specs.GrouplessTermContracts.{pattern_context, anchor_sign, boundary_letter, IsNumberUnlessMissingOrZero, is_star_plus_or_question, is_brace_or_closing_bracket}
use Rattle.regex_parser.specs.GrouplessTermContracts.{is_paren_or_bar}
use Rattle.regex_parser.specs.ParserInvariants.{parse_state}
use Rattle.regex_parser.specs.EcmaTermContracts.{AreGroupsKnown, NoEcmaTerm, IsEcmaAtomOr, IsEcmaTermRead, IsEcmaCharacterNode, NoAtomEscape, IsAtomEscapeRead, is_nonzero_digit, IsClassEscapeRead}
use Rattle.regex_parser.specs.EcmaTermContracts.{NoGroupNumber, IsGroupNumberRead, IsEcmaNameWithNumber, IsEcmaNameNumberRead, IsEcmaReferenceRead}
use Rattle.regex_parser.proofs.EcmaClassLemmas.{letter-set, no-character, property-begin, control-parts}
use Rattle.regex_parser.proofs.EcmaEscapeLemmas.{digit-none}
use Rattle.regex_parser.proofs.NumberReaderLemmas.{no_sign, nonzero_digit_bounds}
use Rattle.regex_parser.proofs.GrouplessTermLemmas.{none_of, unlike-first, begins_otherwise, no_plain, is_slash}
use Rattle.regex_parser.specs.declared.ecmascript_escapes.GrammarParameters.{GrammarParameters as TheParameters}
use Rattle.regex_parser.specs.EcmaReaderContracts.{spec_parameters_of}

-- ---- Signs

pub anchored-ecma : (flags : Flags) (groups : List RemainingCodePoints) (there : RemainingCodePoints) (t : AnchorType)
    → IsEcmaAtomOr false (pattern_context flags groups) (anchor_sign t ∷ there) there (spec_node_of (Anchor t flags.multiline))
unfolding spec_node_of
anchored-ecma flags groups there StartOfLine = λ opened. start refl
anchored-ecma flags groups there EndOfLine = λ opened. line_end refl

pub bounded-ecma : (flags : Flags) (groups : List RemainingCodePoints) (there : RemainingCodePoints) (invert unicode_icase : Bool) → unicode_icase ≡ (flags.icase && flags.unicode)
    → IsEcmaAtomOr false (pattern_context flags groups) (92 ∷ boundary_letter invert ∷ there) there (spec_node_of (WordBoundary invert unicode_icase))
unfolding spec_node_of
bounded-ecma flags groups there true unicode_icase e = λ opened. rw e (boundary true refl)
bounded-ecma flags groups there false unicode_icase e = λ opened. rw e (boundary false refl)

pub atom-of : (w : PatternContext) (here there : RemainingCodePoints) (l : GrouplessTerm) (m : Node) → l.is_atom ≡ true → spec_node_of l.node ≡ m → SimpleAtom w here there m → IsEcmaAtomOr l.is_atom w here there (spec_node_of l.node)
atom-of w here there l m e f d = subst (λ b. IsEcmaAtomOr b w here there (spec_node_of l.node)) (sym e) (subst (λ x. SimpleAtom w here there x) (sym f) d)

pub dot-all-ecma : (flags : Flags) (groups : List RemainingCodePoints) (there : RemainingCodePoints) (l : GrouplessTerm) → flags.dot_all ≡ true → l.is_atom ≡ true → l.node ≡ MatchAny
    → IsEcmaAtomOr l.is_atom (pattern_context flags groups) (46 ∷ there) there (spec_node_of l.node)
unfolding spec_node_of
dot-all-ecma flags groups there l e f g = atom-of _ _ _ l _ f (rw (g, e) refl) (any_character refl)

pub dot-other-ecma : (flags : Flags) (groups : List RemainingCodePoints) (there : RemainingCodePoints) (l : GrouplessTerm) → flags.dot_all ≡ false → l.is_atom ≡ true → l.node ≡ MatchAnyExceptLineTerminator
    → IsEcmaAtomOr l.is_atom (pattern_context flags groups) (46 ∷ there) there (spec_node_of l.node)
unfolding spec_node_of
dot-other-ecma flags groups there l e f g = atom-of _ _ _ l _ f (rw (g, e) refl) (any_character refl)

-- ---- Characters

pub several-variants : (members : List ℕ) (flags : SpecFlags) (c : ℕ) → AreCaseVariants flags.icase flags.unicode c members → length members ≤ 4
several-variants members flags c s = few-case-variants flags.icase flags.unicode c members s

pub node-variants : (flags : Flags) (c : ℕ) (members : Vec ℕ Global) (n : TheNode) → AreCaseVariants flags.icase flags.unicode c members.items → 1 < length members.items → n ≡ CharSet members
    → IsEcmaCharacterNode (spec_flags_of flags) c (spec_node_of n)
unfolding spec_node_of
node-variants flags c members n s k e = (members.items, s, ap spec_node_of e ∙ sym (ap (λ b. if b then char_set members.items else char c) (lt-ltb 1 (length members.items) k)))

pub node-alone : (flags : Flags) (c : ℕ) (members : List ℕ) (n : TheNode) → AreCaseVariants flags.icase flags.unicode c members → length members ≤ 1 → n ≡ Char c
    → IsEcmaCharacterNode (spec_flags_of flags) c (spec_node_of n)
unfolding spec_node_of
node-alone flags c members n s k e = (members, s, ap spec_node_of e ∙ sym (ap (λ b. if b then char_set members else char c) (le-ltb 1 (length members) k)))

pub node-Char : (c : ℕ) → spec_node_of (Char c) ≡ char c
unfolding spec_node_of
node-Char c = refl

-- ---- Digits

digit-is : (c : ℕ) → is_in_range 49 57 c ≡ true → is_digit c 10 ≡ true
digit-is c e = grind arith

digit-scalar : (c : ℕ) → is_in_range 49 57 c ≡ true → is_scalar c ≡ true
digit-scalar c e = grind arith

digit-nonzero : (c : ℕ) → is_digit c 10 ≡ true → (c ≡ 48 → ⊥) → is_in_range 49 57 c ≡ true
digit-nonzero c e f = grind arith

digit-cases : (c : ℕ) → is_in_range 49 57 c ≡ true → ((n : ℕ) × (c ≡ 48 + n) × (n ≤ 7) × (0 < n)) ⊎ ((c ≡ 56) ⊎ (c ≡ 57))
digit-cases c e = let h = nonzero_digit_bounds c e in ⊎_elim (λ k. inr (by (nat_eq c 56) refl k)) (λ k. inl (c - 48, omega arith, omega arith, omega arith)) (cases_lt 55 c)
  where
    by : (b : Bool) → nat_eq c 56 ≡ b → 55 < c → (c ≡ 56) ⊎ (c ≡ 57)
    by true f k = inl (eqb-true c 56 f)
    by false f k = let h = nonzero_digit_bounds c e in let g = eqb-false c 56 f in inr (omega (arith, h, g))

-- With `u`, a digit from 1 to 9 begins no character escape.
no-digit : (g : GrammarParameters) → g.unicode ≡ true → (c : ℕ) (rest : RemainingCodePoints) → is_in_range 49 57 c ≡ true → (end : RemainingCodePoints) (d : ℕ) → CharacterEscape g (c ∷ rest) end d → ⊥
no-digit g u c rest h end d (non_identity_escape p) =
    ⊎_elim (λ x. digit-none x.0 x.2 u (λ z. absurd (omega (arith, x.3, z))) end d (subst (λ y. NonIdentityEscape g (y ∷ rest) end d) x.1 p))
    (⊎_elim (λ x. true≢false (sym (proper-kind (subst (λ y. NonIdentityEscape g (y ∷ rest) end d) x p) refl)))
    (λ x. true≢false (sym (proper-kind (subst (λ y. NonIdentityEscape g (y ∷ rest) end d) x p) refl)))) (digit-cases c h)
no-digit g u c rest h end d (identity_escape {c = x} e f k) =
    let in_signs : x ∈ "^$\\.*+?()[]{}|/" ≡ true = sym (ap (λ b. is_identity_escape (record { unicode = b; named_groups = g.named_groups }) x) u) ∙ f in
    true≢false (sym (inside (λ y. not (is_in_range 49 57 y)) (codes "^$\\.*+?()[]{}|/") x refl in_signs) ∙ ap not (ap (is_in_range 49 57) (sym (firsts refl e)) ∙ h))

-- If the peeked code point is a nonzero digit, the text begins with a digit from 1 to 9.
first-digit : (here : RemainingCodePoints) (o : Option ℕ) → o ≡ first_char_if_any here → is_nonzero_digit o ≡ true → (c : ℕ) × (cs : RemainingCodePoints) × (here ≡ c ∷ cs) × (is_in_range 49 57 c ≡ true)
first-digit [] o e f = absurd (true≢false (sym f ∙ ap is_nonzero_digit e))
first-digit (c ∷ cs) o e f = (c, cs, refl, by (is_scalar c) (sym (ap is_nonzero_digit e) ∙ f))
  where
    by : (b : Bool) → is_nonzero_digit (if b then Some c else None) ≡ true → is_in_range 49 57 c ≡ true
    by true g = g
    by false g = absurd (true≢false (sym g))

no-zero : (here : RemainingCodePoints) {c : ℕ} {cs : RemainingCodePoints} → here ≡ c ∷ cs → is_in_range 49 57 c ≡ true → begins_with_characters "0" here ≡ false
no-zero here {c} e h = no_sign "0" 48 refl here (λ rest f. true≢false (sym h ∙ ap (is_in_range 49 57) (firsts e f)))

-- If the peeked code point is no nonzero digit, no number of a group begins here.
pub no-begin : (w : PatternContext) (here : RemainingCodePoints) (o : Option ℕ) → o ≡ first_char_if_any here → is_nonzero_digit o ≡ false → ¬ (BeginsGroupNumber w here)
no-begin w here o e f (there, n, group_number z d l) = by here o e f z (digit_begins d)
  where
    by : (here : RemainingCodePoints) (o : Option ℕ) → o ≡ first_char_if_any here → is_nonzero_digit o ≡ false → begins_with_characters "0" here ≡ false → is_digit (first here) 10 ≡ true → ⊥
    by [] o e f z d = true≢false (sym d)
    by (c ∷ cs) o e f z d =
        let h : is_in_range 49 57 c ≡ true = digit-nonzero c d (λ k. true≢false (sym (ap (λ x. begins_with_characters "0" (x ∷ cs)) k) ∙ z)) in
        true≢false (sym h ∙ sym (ap is_nonzero_digit (e ∙ ap (λ b. if b then Some c else None) (digit-scalar c h))) ∙ f)

-- ---- Escapes that make no atom

no-number_escape : (w : PatternContext) (here : RemainingCodePoints) {c : ℕ} {cs : RemainingCodePoints} → w.flags.unicode ≡ true → here ≡ c ∷ cs → is_in_range 49 57 c ≡ true
    → NoGroupNumber (length w.groups) here → NoAtomEscape w here
no-number_escape w here {c} {cs} u e h none = by
  where
    is : kind (first here) ≡ 48
    is = ap (λ x. kind (first x)) e ∙ ap (λ b. if b then 48 else if c ∈ "dDwWsS" then 1 else if c ∈ "pP" then 112 else c) (digit-is c h)

    by : (end : RemainingCodePoints) (n : Node) → AtomEscape w here end n → ⊥
    by end n (decimal_escape (group_number f d l)) = none _ _ d (number-positive f d) l
    by end n (character_class_escape {letter = l} f g s) = apart-kinds here is (ap (λ x. kind (first x)) f ∙ letter-kind w.flags l g) refl
    by end n (property_escape i v f p s) = apart-kinds here is (ap (λ x. kind (first x)) (property-here i f) ∙ property-kind i) refl
    by end n (character_escape {c = d} p k l s) = no-digit (grammar_parameters_of w) u c cs h end d (subst (λ x. CharacterEscape (grammar_parameters_of w) x end d) e p)
    by end n (named_reference m f d g) = apart-kinds here is (ap (λ x. kind (first x)) f) refl

no-name_escape : (w : PatternContext) (here : RemainingCodePoints) {rest : RemainingCodePoints} → has_named_groups w ≡ true → here ≡ 107 ∷ rest
    → ((a end name : RemainingCodePoints) (n : ℕ) → rest ≡ 60 ∷ a → GroupName a end name → group_number_of name w.groups ≡ Some n → ⊥) → NoAtomEscape w here
no-name_escape w here m e none = by
  where
    is : kind (first here) ≡ 107
    is = ap (λ x. kind (first x)) e

    by : (end : RemainingCodePoints) (n : Node) → AtomEscape w here end n → ⊥
    by end n (decimal_escape g) = apart-kinds here is (number-kind g) refl
    by end n (character_class_escape {letter = l} f g s) = apart-kinds here is (ap (λ x. kind (first x)) f ∙ letter-kind w.flags l g) refl
    by end n (property_escape i v f p s) = apart-kinds here is (ap (λ x. kind (first x)) (property-here i f) ∙ property-kind i) refl
    by end n (character_escape p k l s) = no-k w m e p
    by end n (named_reference {a = a} {name = name} {n = x} m' f d g) = none a end name x (behind e f) d g

no-property_atom : (w : PatternContext) (here : RemainingCodePoints) {a : RemainingCodePoints} (invert : Bool) → (w.flags.unicode ≡ true) × (here ≡ (if invert then 80 else 112) ∷ a)
    → ((end : RemainingCodePoints) (p : Property) → PropertyExpression a end p → ⊥) → NoAtomEscape w here
no-property_atom w here {a} invert h none = by
  where
    letter-is : (b : Bool) → kind (if b then 80 else 112) ≡ 112
    letter-is true = refl
    letter-is false = refl

    is : kind (first here) ≡ 112
    is = ap (λ x. kind (first x)) h.1 ∙ letter-is invert

    same-rest : (b : Bool) (i : Bool) {there : RemainingCodePoints} → here ≡ (if b then 80 else 112) ∷ a → here ≡ codes (if i then "P" else "p") ++ there → a ≡ there
    same-rest true true e g = behind e g
    same-rest true false e g = behind e g
    same-rest false true e g = behind e g
    same-rest false false e g = behind e g

    by : (end : RemainingCodePoints) (n : Node) → AtomEscape w here end n → ⊥
    by end n (decimal_escape g) = apart-kinds here is (number-kind g) refl
    by end n (character_class_escape {letter = l} f g s) = apart-kinds here is (ap (λ x. kind (first x)) f ∙ letter-kind w.flags l g) refl
    by end n (property_escape {p = p} i v f d s) = none end p (property-from (same-rest invert i h.1 f) d)
    by end n (character_escape p k l s) = no-character w.flags (has_named_groups w) invert h.0 h.1 _ _ p
    by end n (named_reference m f d g) = apart-kinds here is (ap (λ x. kind (first x)) f) refl

pub no-character_atom : (w : PatternContext) (here : RemainingCodePoints) → ¬ (BeginsGroupNumber w here) → (has_named_groups w ≡ true → (rest : RemainingCodePoints) → here ≡ 107 ∷ rest → ⊥)
    → ((end : RemainingCodePoints) (s : ℕ → Bool) → CharacterClassEscape w.flags here end s → ⊥) → ((end : RemainingCodePoints) (c : ℕ) → CharacterEscape (grammar_parameters_of w) here end c → ⊥) → NoAtomEscape w here
no-character_atom w here number name classes none end n (decimal_escape g) = number (_, _, g)
no-character_atom w here number name classes none end n (character_class_escape f g s) = classes _ _ (by_letter f g)
no-character_atom w here number name classes none end n (property_escape i v f d s) = classes _ _ (by_property i v f d)
no-character_atom w here number name classes none end n (character_escape p k l s) = none _ _ p
no-character_atom w here number name classes none end n (named_reference m f d g) = name m _ f

-- ---- References

pub number-reference : {R : Type 0} (flags : Flags) (count : ℕ) (named : Bool) (numbers : BTreeMap (String R) ℕ) (groups : List RemainingCodePoints) (here there : RemainingCodePoints) (o : Option ℕ)
    (r : Result (Option ℕ) ParseStopReason) → AreGroupsKnown flags count named numbers groups → o ≡ first_char_if_any here → is_nonzero_digit o ≡ true → IsGroupNumberRead count flags.unicode here r there
    → IsEcmaReferenceRead (pattern_context flags groups) here r there
number-reference flags count named numbers groups here there o (Ok (Some n)) k e f h =
    let d = first-digit here o e f in decimal_escape (group_number (no-zero here d.2 d.3) h.0 (subst (λ m. n ≤ m) k.counted h.2))
number-reference flags count named numbers groups here there o (Ok None) k e f h =
    let d = first-digit here o e f in
    (h.1, none, λ m rest g. unlike-letter (sym (firsts d.2 g)) d.3)
  where
    unlike-letter : {c : ℕ} → 107 ≡ c → is_in_range 49 57 c ≡ true → ⊥
    unlike-letter g x = true≢false (sym x ∙ sym (ap (is_in_range 49 57) g))

    none : ¬ (BeginsGroupNumber (pattern_context flags groups) here)
    none (end, n, group_number z d l) = h.2 end n d (number-positive z d) (subst (λ m. n ≤ m) (sym k.counted) l)
number-reference flags count named numbers groups here there o (Err x) k e f h =
    let d = first-digit here o e f in
    λ r. no-number_escape (pattern_context flags groups) here h.0 d.2 d.3 (λ end n x pos l. h.1 end n x pos (subst (λ m. n ≤ m) (sym k.counted) l))

pub ecma-named : (numbers : List ℕ → Option ℕ) (here middle there name : List ℕ) (number : Option ℕ) (r : Result ℕ ParseStopReason) → here ≡ 60 ∷ middle → GroupName middle there name → number ≡ numbers name
    → IsNumberUnlessMissingOrZero number r → IsEcmaNameNumberRead numbers here r there
ecma-named numbers here middle there name number (Ok n) e g f h = ((middle, name, e, g, sym f ∙ h.0), h.1)
ecma-named numbers here middle there name number (Err x) e g f h = λ r end n (a, other, e', g', f') pos.
    h n (f ∙ ap numbers (one_name middle there end name other g (subst (λ y. GroupName y end other) (behind e' e) g')).1 ∙ f') pos

pub no-name_reference : {R : Type 0} (flags : Flags) (count : ℕ) (named : Bool) (numbers : BTreeMap (String R) ℕ) (groups : List RemainingCodePoints) (here rest : RemainingCodePoints) → AreGroupsKnown flags count named numbers groups
    → named ≡ true → here ≡ 107 ∷ rest → ((end : RemainingCodePoints) (n : ℕ) → IsEcmaNameWithNumber (λ x. get_by_text numbers x) rest end n → 0 < n → ⊥) → NoAtomEscape (pattern_context flags groups) here
no-name_reference flags count named numbers groups here rest k m e none =
    no-name_escape (pattern_context flags groups) here (sym k.names ∙ m) e
    (λ a end name n f g h. none end n (a, name, f, g, k.numbered a end name g ∙ h) (number_of-bounds name groups n h).0)

pub name-reference : {R : Type 0} (flags : Flags) (count : ℕ) (named : Bool) (numbers : BTreeMap (String R) ℕ) (groups : List RemainingCodePoints) (here rest there : RemainingCodePoints) (n : ℕ) → AreGroupsKnown flags count named numbers groups
    → named ≡ true → here ≡ 107 ∷ rest → IsEcmaNameWithNumber (λ x. get_by_text numbers x) rest there n → AtomEscape (pattern_context flags groups) here there (reference_node (pattern_context flags groups) n)
name-reference flags count named numbers groups here rest there n k m e (a, name, f, g, h) =
    named_reference (sym k.names ∙ m) (e ∙ ap (λ x. 107 ∷ x) f) g (sym (k.numbered a there name g) ∙ h)

pub no-names : {R : Type 0} {flags : Flags} {count : ℕ} {named : Bool} {numbers : BTreeMap (String R) ℕ} {groups : List RemainingCodePoints} → AreGroupsKnown flags count named numbers groups → named ≡ false
    → has_named_groups (pattern_context flags groups) ≡ true → ⊥
no-names k m h = true≢false (sym h ∙ sym k.names ∙ m)

pub err-reference : {P : ParseStopReason → Type 0} (w : PatternContext) (here there : RemainingCodePoints) (r : Result (Option ℕ) ParseStopReason) (e : ParseStopReason) → IsErrAnd r P → ((x : ParseStopReason) → P x → x ≡ e)
    → (IsTrue (is_syntax_error e) → NoAtomEscape w here) → IsEcmaReferenceRead w here r there
err-reference w here there (Ok o) e h same none = absurd h
err-reference w here there (Err x) e h same none = λ r. none (sym (ap is_syntax_error (same x h)) ∙ r)

pub canonical-leaf : (greatest id : ℕ) (unicode : Bool) → 0 < id → id ≤ greatest → IsWellFormedGrouplessSubtree greatest (spec_node_of (CanonicalBackRef id unicode))
unfolding spec_node_of
canonical-leaf greatest id unicode h k = leaf-reference greatest id (alike unicode) h k

pub canonical-node : (now old : Flags) (id : ℕ) (n : TheNode) → now ≡ old → now.icase ≡ true → n ≡ CanonicalBackRef id now.unicode → spec_node_of n ≡ back_ref id (by_canonical_case old.icase old.unicode)
unfolding spec_node_of
canonical-node now old id n same icase e =
    subst (λ f. spec_node_of n ≡ back_ref id (by_canonical_case f.icase f.unicode)) same (ap spec_node_of e ∙ sym (ap (λ b. back_ref id (by_canonical_case b now.unicode)) icase))

-- ---- Class escapes

pub letter-atom : (flags : Flags) (groups : List RemainingCodePoints) (here there : RemainingCodePoints) (o r : Option ℕ) (base : CharacterClassType) (invert : Bool) (b : TheContents) → o ≡ first_char_if_any here
    → class_escape_of_letter o ≡ Some (Profile.class (uninverted_digit_word_or_space_set base) invert) → IsCodePointReadIfAny here r there → b.invert ≡ invert → IsSetOf (spec_flags_of flags) (class (set_of_letter (spec_flags_of flags) base) ∷ []) b.cps
    → AtomEscape (pattern_context flags groups) here there (bracket (class_as_spec b))
letter-atom flags groups here there o None base invert b e f n i s = absurd (none (ap class_escape_of_letter (sym (e ∙ ap first_char_if_any n.0)) ∙ f))
  where
    none : {A : Type 0} {x : A} → None ≡ Some x → ⊥
    none e = cc
letter-atom flags groups here there o (Some c) base invert b e f n i s =
    character_class_escape n (letter-set (spec_flags_of flags) base invert c (by (is_scalar c) (sym (ap class_escape_of_letter (e ∙ ap first_char_if_any n)) ∙ f)) ∙ ap (λ x. Some (set_of_letter (spec_flags_of flags) base, x)) (sym i)) s
  where
    by : (b : Bool) → class_escape_of_letter (if b then Some c else None) ≡ Some (Profile.class (uninverted_digit_word_or_space_set base) invert) → Profile.class_escape c ≡ Some (Profile.class (uninverted_digit_word_or_space_set base) invert)
    by true g = g
    by false g = absurd cc

pub property-atom : (flags : Flags) (groups : List RemainingCodePoints) {here a there : RemainingCodePoints} {p : Property} (invert : Bool) (b : TheContents) → (flags.unicode ≡ true) × (here ≡ (if invert then 80 else 112) ∷ a)
    → PropertyExpression a there p → b.invert ≡ false → IsSetOf (spec_flags_of flags) (class (is_in_invertible_set (has_property p, invert)) ∷ []) b.cps
    → AtomEscape (pattern_context flags groups) here there (bracket (class_as_spec b))
property-atom flags groups {here} {there = there} invert b h d i s =
    subst (λ x. AtomEscape (pattern_context flags groups) here there (bracket (record { invert = x; intervals = b.cps }))) (sym i) (property_escape invert h.0 (property-begin invert h.1) d s)

pub no-property-read : (flags : Flags) (here : RemainingCodePoints) {a : RemainingCodePoints} (invert : Bool) → (flags.unicode ≡ true) × (here ≡ (if invert then 80 else 112) ∷ a)
    → ((end : RemainingCodePoints) (p : Property) → PropertyExpression a end p → ⊥) → (groups : List RemainingCodePoints) → NoAtomEscape (pattern_context flags groups) here
no-property-read flags here invert h none groups = no-property_atom (pattern_context flags groups) here invert h none

pub err-class : {P : ParseStopReason → Type 0} (flags : Flags) (here there : RemainingCodePoints) (r : Result (Option TheContents) ParseStopReason) (e : ParseStopReason) → IsErrAnd r P → ((x : ParseStopReason) → P x → x ≡ e)
    → (IsTrue (is_syntax_error e) → (groups : List RemainingCodePoints) → NoAtomEscape (pattern_context flags groups) here) → IsClassEscapeRead flags here r there
err-class flags here there (Ok o) e h same none = absurd h
err-class flags here there (Err x) e h same none = λ r. none (sym (ap is_syntax_error (same x h)) ∙ r)

-- ---- Atoms that begin with a backslash

pub err-escape : {P : ParseStopReason → Type 0} (w : PatternContext) (here there : RemainingCodePoints) (r : Result GrouplessTerm ParseStopReason) (e : ParseStopReason) → IsErrAnd r P → ((x : ParseStopReason) → P x → x ≡ e)
    → (IsTrue (is_syntax_error e) → NoAtomEscape w here) → IsAtomEscapeRead w here r there
err-escape w here there (Ok o) e h same none = absurd h
err-escape w here there (Err x) e h same none = λ r. none (sym (ap is_syntax_error (same x h)) ∙ r)

pub escape-of : (w : PatternContext) (here there : RemainingCodePoints) (l : GrouplessTerm) (m : Node) → l.is_atom ≡ true → spec_node_of l.node ≡ m → AtomEscape w here there m → (l.is_atom ≡ true) × AtomEscape w here there (spec_node_of l.node)
escape-of w here there l m e f d = (e, subst (λ x. AtomEscape w here there x) (sym f) d)

pub character-atom : (w : PatternContext) (here there : RemainingCodePoints) (c : ℕ) (n : Node) → IsEcmaCharacterNode w.flags c n → CharacterEscape (grammar_parameters_of w) here there c → ¬ (BeginsGroupNumber w here)
    → ((end : RemainingCodePoints) (s : ℕ → Bool) → CharacterClassEscape w.flags here end s → ⊥) → AtomEscape w here there n
character-atom w here there c n (members, s, e) d number classes = subst (λ x. AtomEscape w here there x) (sym e) (character_escape d number (λ k. classes k.0 k.1 k.2) s)

pub character-escaped : (w : PatternContext) (here there : RemainingCodePoints) (c : ℕ) (r : Result GrouplessTerm ParseStopReason) → IfOk r (λ l. l.is_atom ≡ true) → IfOk r (λ l. IsEcmaCharacterNode w.flags c (spec_node_of l.node))
    → IfErr r (λ e. is_syntax_error e ≡ false) → CharacterEscape (grammar_parameters_of w) here there c → ¬ (BeginsGroupNumber w here)
    → ((end : RemainingCodePoints) (s : ℕ → Bool) → CharacterClassEscape w.flags here end s → ⊥) → IsAtomEscapeRead w here r there
character-escaped w here there c (Ok l) a n m d number classes = (a, character-atom w here there c (spec_node_of l.node) n d number classes)
character-escaped w here there c (Err e) a n m d number classes = λ r. absurd (true≢false (sym r ∙ m))

pub parameters-same : (flags : Flags) (groups : List RemainingCodePoints) (p : TheParameters) (named : Bool) → p.unicode ≡ flags.unicode → p.named_groups ≡ named → named ≡ has_named_groups (pattern_context flags groups)
    → spec_parameters_of p ≡ grammar_parameters_of (pattern_context flags groups)
parameters-same flags groups p named e f g = ap₂ (λ (u : Bool) (n : Bool). grammar_parameters (record (spec_flags_of flags) { unicode = u }) n) e (f ∙ g)

-- Neither a reference nor a class escape begins here, and the reader has not moved from here.
pub record NothingBefore (flags : Flags) (groups : List RemainingCodePoints) (here last : RemainingCodePoints) : Type 0 where
  pub same : last ≡ here
  pub number : ¬ (BeginsGroupNumber (pattern_context flags groups) here)
  pub name : has_named_groups (pattern_context flags groups) ≡ true → (rest : RemainingCodePoints) → here ≡ 107 ∷ rest → ⊥
  pub classes : (there : RemainingCodePoints) (s : ℕ → Bool) → CharacterClassEscape (spec_flags_of flags) here there s → ⊥

pub nothing-before : (flags : Flags) (groups : List RemainingCodePoints) (here middle last : RemainingCodePoints) (reference : Option ℕ) (contents : Option TheContents) → reference ≡ None → contents ≡ None
    → IsEcmaReferenceRead (pattern_context flags groups) here (Ok reference) middle → IsClassEscapeRead flags middle (Ok contents) last → NothingBefore flags groups here last
nothing-before flags groups here middle last None None e f h k = record {
  same = k.0 ∙ h.0;
  number = h.1;
  name = h.2;
  classes = λ there s d. k.1 groups there s (subst (λ x. CharacterClassEscape (spec_flags_of flags) x there s) (sym h.0) d);
}
nothing-before flags groups here middle last None (Some b) e f h k = absurd (true≢false (ap is_some f))
nothing-before flags groups here middle last (Some n) contents e f h k = absurd (true≢false (ap is_some e))

pub atom-none : {flags : Flags} {groups : List RemainingCodePoints} {here last : RemainingCodePoints} {p : GrammarParameters} → NothingBefore flags groups here last → p ≡ grammar_parameters_of (pattern_context flags groups)
    → ((there : RemainingCodePoints) (c : ℕ) → CharacterEscape p last there c → ⊥) → NoAtomEscape (pattern_context flags groups) here
atom-none {flags} {groups} {here} {last} {p} b e none =
    no-character_atom (pattern_context flags groups) here b.number b.name b.classes
    (λ there c d. none there c (subst (λ x. CharacterEscape p x there c) (sym b.same) (subst (λ x. CharacterEscape x here there c) (sym e) d)))

pub atom-character : {flags : Flags} {groups : List RemainingCodePoints} {here last : RemainingCodePoints} {p : GrammarParameters} (there : RemainingCodePoints) (c : ℕ) (r : Result GrouplessTerm ParseStopReason)
    → NothingBefore flags groups here last → p ≡ grammar_parameters_of (pattern_context flags groups) → CharacterEscape p last there c → IfOk r (λ l. l.is_atom ≡ true)
    → IfOk r (λ l. IsEcmaCharacterNode (spec_flags_of flags) c (spec_node_of l.node)) → IfErr r (λ e. is_syntax_error e ≡ false) → IsAtomEscapeRead (pattern_context flags groups) here r there
atom-character {flags} {groups} {here} {last} {p} there c r b e d a n m =
    character-escaped (pattern_context flags groups) here there c r a n m (subst (λ x. CharacterEscape x here there c) e (subst (λ x. CharacterEscape p x there c) b.same d)) b.number b.classes

-- ---- Terms

-- `NoEcmaAtom w here` states that no atom without groups is read at `here`.
abbrev NoEcmaAtom : PatternContext → (here : RemainingCodePoints) → Type 0
NoEcmaAtom w here = (there : RemainingCodePoints) (n : Node) → SimpleAtom w here there n → ⊥

-- If no atom begins at a character other than `^`, `$`, `\` and `(`, no term begins there.
no-term-plain : (w : PatternContext) (c : ℕ) (rest : RemainingCodePoints) → c ∈ "^$\\(" ≡ false → NoEcmaAtom w (c ∷ rest) → NoEcmaTerm w (c ∷ rest)
no-term-plain w c rest e none behind opened q n t = by t
  where
    in_atom : {b : Bool} {q : ParseState} {n : Node} → Atom ecmascript w b (parse_state (c ∷ rest) opened) q n → ⊥
    in_atom (leaf a) = none _ _ a
    in_atom (group f g d close) = unlike-first begins_otherwise e refl (ap (λ x. x.text) f)
    in_atom (named_group f g d close) = unlike-first begins_otherwise e refl (ap (λ x. x.text) f)
    in_atom (plain_group f d close) = unlike-first begins_otherwise e refl (ap (λ x. x.text) f)

    no_assertion : {q : ParseState} {n : Node} → Assertion ecmascript w (parse_state (c ∷ rest) opened) q n → ⊥
    no_assertion (start f) = unlike-first begins_otherwise e refl (ap (λ x. x.text) f)
    no_assertion (line_end f) = unlike-first begins_otherwise e refl (ap (λ x. x.text) f)
    no_assertion (boundary true f) = unlike-first begins_otherwise e refl (ap (λ x. x.text) f)
    no_assertion (boundary false f) = unlike-first begins_otherwise e refl (ap (λ x. x.text) f)
    no_assertion (look false false f d g) = unlike-first begins_otherwise e refl (ap (λ x. x.text) f)
    no_assertion (look true false f d g) = unlike-first begins_otherwise e refl (ap (λ x. x.text) f)
    no_assertion (look false true f d g) = unlike-first begins_otherwise e refl (ap (λ x. x.text) f)
    no_assertion (look true true f d g) = unlike-first begins_otherwise e refl (ap (λ x. x.text) f)

    by : {b : Bool} {q : ParseState} {n : Node} → Term ecmascript w b (parse_state (c ∷ rest) opened) q n → ⊥
    by (assertion a k) = no_assertion a
    by (repeated_assertion a may k) = no_assertion a
    by (atom a k) = in_atom a
    by (quantified a k) = in_atom a

-- If no atom begins at a backslash that neither `b` nor `B` follows, no term begins there.
no-term-escape : (w : PatternContext) (rest : RemainingCodePoints) → ((there : RemainingCodePoints) → rest ≡ 98 ∷ there → ⊥) → ((there : RemainingCodePoints) → rest ≡ 66 ∷ there → ⊥)
    → NoEcmaAtom w (92 ∷ rest) → NoEcmaTerm w (92 ∷ rest)
no-term-escape w rest no_b no_B none behind opened q n t = by t
  where
    wrong : {d : ℕ} {ds : RemainingCodePoints} → is_slash d ≡ false → 92 ∷ rest ≡ d ∷ ds → ⊥
    wrong e g = true≢false (ap is_slash (ap first g) ∙ e)

    in_atom : {b : Bool} {q : ParseState} {n : Node} → Atom ecmascript w b (parse_state (92 ∷ rest) opened) q n → ⊥
    in_atom (leaf a) = none _ _ a
    in_atom (group f g d close) = wrong refl (ap (λ x. x.text) f)
    in_atom (named_group f g d close) = wrong refl (ap (λ x. x.text) f)
    in_atom (plain_group f d close) = wrong refl (ap (λ x. x.text) f)

    no_assertion : {q : ParseState} {n : Node} → Assertion ecmascript w (parse_state (92 ∷ rest) opened) q n → ⊥
    no_assertion (start f) = wrong refl (ap (λ x. x.text) f)
    no_assertion (line_end f) = wrong refl (ap (λ x. x.text) f)
    no_assertion (boundary true f) = no_B _ (ap (λ x. rest_of x.text) f)
    no_assertion (boundary false f) = no_b _ (ap (λ x. rest_of x.text) f)
    no_assertion (look false false f d g) = wrong refl (ap (λ x. x.text) f)
    no_assertion (look true false f d g) = wrong refl (ap (λ x. x.text) f)
    no_assertion (look false true f d g) = wrong refl (ap (λ x. x.text) f)
    no_assertion (look true true f d g) = wrong refl (ap (λ x. x.text) f)

    by : {b : Bool} {q : ParseState} {n : Node} → Term ecmascript w b (parse_state (92 ∷ rest) opened) q n → ⊥
    by (assertion a k) = no_assertion a
    by (repeated_assertion a may k) = no_assertion a
    by (atom a k) = in_atom a
    by (quantified a k) = in_atom a

-- ---- Characters at which no atom begins

-- The kind of the first character of an atom is the tag of the atom.
tag-at : {w : PatternContext} {c : ℕ} {rest there : RemainingCodePoints} {n : Node} (x : SimpleAtom w (c ∷ rest) there n) → atom_kind c ≡ atom_tag x
tag-at x = let (d, r, e, k) = atom-tagged x in ap atom_kind (firsts refl e) ∙ k

no-slash_atom : (w : PatternContext) (rest : RemainingCodePoints) → (not w.flags.unicode && begins_with_characters "c" rest) ≡ false → NoAtomEscape w rest → NoEcmaAtom w (92 ∷ rest)
no-slash_atom w rest no_c none there n (atom_escape e f g d) = none there n (subst (λ x. AtomEscape w x there n) (behind e refl) d)
no-slash_atom w rest no_c none there n (backslash u e f k) =
    true≢false (sym (ap₂ (λ a b. not a && b) u (ap (λ x. begins_with_characters "c" x) (behind refl e) ∙ f)) ∙ no_c)
no-slash_atom w rest no_c none there n x = absurd (unlike 92 (atom_tag x) refl (tag-at x))

no-class_atom : (w : PatternContext) (rest : RemainingCodePoints) → ((there : RemainingCodePoints) (x : SpecContents) → CharacterClass w.flags (has_named_groups w) rest there x → ⊥) → NoEcmaAtom w (91 ∷ rest)
no-class_atom w rest none there n (character_class {contents = x} e d) = none there x (subst (λ y. CharacterClass w.flags (has_named_groups w) y there x) (behind e refl) d)
no-class_atom w rest none there n x = absurd (unlike 91 (atom_tag x) refl (tag-at x))

not-here : (test : ℕ → Bool) (c d : ℕ) → not (nat_eq (atom_kind c) d) ≡ true → atom_kind c ≡ d → ⊥
not-here test c d e f = true≢false (sym e ∙ ap not (eq-eqb _ _ f))

no-sign_atom : (w : PatternContext) (c : ℕ) (rest : RemainingCodePoints) → c ∈ "*+?" ≡ true → NoEcmaAtom w (c ∷ rest)
no-sign_atom w c rest e there n x = true≢false (sym (inside (λ d. not (nat_eq (atom_kind d) (atom_tag x))) (codes "*+?") c (by x) e) ∙ ap not (eq-eqb _ _ (tag-at x)))
  where
    by : {there : RemainingCodePoints} {n : Node} (x : SimpleAtom w (c ∷ rest) there n) → list_all (λ d. not (nat_eq (atom_kind d) (atom_tag x))) (codes "*+?") ≡ true
    by (pattern_character f g s) = refl
    by (extended_pattern_character f g u k) = refl
    by (any_character f) = refl
    by (atom_escape f g h d) = refl
    by (backslash u f g k) = refl
    by (character_class f d) = refl

no-bracket_atom : (w : PatternContext) (c : ℕ) (rest : RemainingCodePoints) → c ∈ "{}]" ≡ true → (w.flags.unicode ≡ true) ⊎ BeginsQuantifier (c ∷ rest) → NoEcmaAtom w (c ∷ rest)
no-bracket_atom w c rest e (inl u) there n (extended_pattern_character f g v k) = true≢false (sym u ∙ v)
no-bracket_atom w c rest e (inr q) there n (extended_pattern_character f g v k) = k q
no-bracket_atom w c rest e why there n x = true≢false (sym (inside (λ d. not (nat_eq (atom_kind d) (atom_tag x))) (codes "{}]") c refl e) ∙ ap not (eq-eqb _ _ (tag-at x)))

pub alone-none-ecma : (w : PatternContext) (c : ℕ) (rest : RemainingCodePoints) → (is_star_plus_or_question c ≡ true) ⊎ ((is_brace_or_closing_bracket c ≡ true) × ((w.flags.unicode ≡ true) ⊎ BeginsQuantifier (c ∷ rest))) → NoEcmaTerm w (c ∷ rest)
alone-none-ecma w c rest (inl e) = no-term-plain w c rest (no_plain c (codes "*+?") refl e) (no-sign_atom w c rest e)
alone-none-ecma w c rest (inr e) = no-term-plain w c rest (no_plain c (codes "{}]") refl e.0) (no-bracket_atom w c rest e.0 e.1)

-- ---- Terms that begin with a backslash

pub boundary-read : (w : PatternContext) (c : ℕ) (here there : RemainingCodePoints) (l : GrouplessTerm) → here ≡ c ∷ there → IsEcmaAtomOr l.is_atom w (92 ∷ c ∷ there) there (spec_node_of l.node)
    → IsEcmaAtomOr l.is_atom w (92 ∷ here) there (spec_node_of l.node)
boundary-read w c here there l e h = subst (λ x. IsEcmaAtomOr l.is_atom w (92 ∷ x) there (spec_node_of l.node)) (sym e) h

pub escape-read : (w : PatternContext) (rest middle last there : RemainingCodePoints) (r : Result GrouplessTerm ParseStopReason) → (middle ≡ rest) × ((a : RemainingCodePoints) → rest ≡ 98 ∷ a → ⊥)
    → (last ≡ middle) × ((a : RemainingCodePoints) → middle ≡ 66 ∷ a → ⊥) → (not w.flags.unicode && begins_with_characters "c" last) ≡ false → IsAtomEscapeRead w last r there → IsEcmaTermRead w (92 ∷ rest) r there
escape-read w rest middle last there r b d no_c h =
    by r (subst (λ x. IsAtomEscapeRead w x r there) (d.0 ∙ b.0) h)
  where
    no_b : (a : RemainingCodePoints) → rest ≡ 98 ∷ a → ⊥
    no_b = b.1

    no_B : (a : RemainingCodePoints) → rest ≡ 66 ∷ a → ⊥
    no_B a e = d.1 a (b.0 ∙ e)

    control : (not w.flags.unicode && begins_with_characters "c" rest) ≡ false
    control = subst (λ x. (not w.flags.unicode && begins_with_characters "c" x) ≡ false) (d.0 ∙ b.0) no_c

    by : (r : Result GrouplessTerm ParseStopReason) → IsAtomEscapeRead w rest r there → IsEcmaTermRead w (92 ∷ rest) r there
    by (Ok l) h = atom-of w (92 ∷ rest) there l (spec_node_of l.node) h.0 refl (atom_escape refl (no_sign "b" 98 refl rest no_b) (no_sign "B" 66 refl rest no_B) h.1)
    by (Err e) h = λ s. no-term-escape w rest no_b no_B (no-slash_atom w rest control (h s))

c-begins : (here : RemainingCodePoints) → begins_with_characters "c" here ≡ true → here ≡ 99 ∷ rest_of here
c-begins [] e = absurd (true≢false (sym e))
c-begins (c ∷ cs) e = ap (λ x. x ∷ cs) (c-first (c ∷ cs) e)

pub control-read : (w : PatternContext) (rest middle last there : RemainingCodePoints) (c : ℕ) (r : Result GrouplessTerm ParseStopReason) → (middle ≡ rest) × ((a : RemainingCodePoints) → rest ≡ 98 ∷ a → ⊥)
    → (last ≡ middle) × ((a : RemainingCodePoints) → middle ≡ 66 ∷ a → ⊥) → (not w.flags.unicode && begins_with_characters "c" last) ≡ true → CharacterEscape (grammar_parameters_of w) last there c
    → IfOk r (λ l. l.is_atom ≡ true) → IfOk r (λ l. IsEcmaCharacterNode w.flags c (spec_node_of l.node)) → IfErr r (λ e. is_syntax_error e ≡ false) → IsEcmaTermRead w (92 ∷ rest) r there
control-read w rest middle last there c (Err e) b d is p a n m = λ s. absurd (true≢false (sym s ∙ m))
control-read w rest middle last there c (Ok l) b d is p a n m =
    let is_c = (control-parts w.flags.unicode _ (subst (λ x. (not w.flags.unicode && begins_with_characters "c" x) ≡ true) (d.0 ∙ b.0) is)).1 in
    atom-of w (92 ∷ rest) there l (spec_node_of l.node) a refl
    (atom_escape refl (no_sign "b" 98 refl rest b.1) (no_sign "B" 66 refl rest (λ a e. d.1 a (b.0 ∙ e)))
    (character-atom w rest there c (spec_node_of l.node) n (subst (λ x. CharacterEscape (grammar_parameters_of w) x there c) (d.0 ∙ b.0) p)
    (λ k. apart-kinds rest (number-kind k.2) (ap kind (c-first rest is_c)) refl) (λ end s k. no-class 99 refl (c-begins rest is_c) k)))

pub slash-read : (w : PatternContext) (rest middle last : RemainingCodePoints) (l : GrouplessTerm) → middle ≡ rest → last ≡ middle → (not w.flags.unicode && begins_with_characters "c" last) ≡ true
    → ((end : RemainingCodePoints) (c : ℕ) → CharacterEscape (grammar_parameters_of w) last end c → ⊥) → l.is_atom ≡ true → l.node ≡ Char 92 → IsEcmaAtomOr l.is_atom w (92 ∷ rest) last (spec_node_of l.node)
slash-read w rest middle last l b d is none a n =
    let h = control-parts w.flags.unicode _ is in
    atom-of w (92 ∷ rest) last l (char 92) a (ap spec_node_of n ∙ node-Char 92) (backslash h.0 (ap (λ x. 92 ∷ x) (sym (d ∙ b))) h.1 (λ k. none k.0 k.1 k.2))

-- ---- Other terms

pub class-term : (w : PatternContext) (c : ℕ) (named : Bool) (rest there : RemainingCodePoints) (l : GrouplessTerm) (b : SpecContents) → c ≡ 91 → named ≡ has_named_groups w → CharacterClass w.flags named rest there b → l.is_atom ≡ true
    → spec_node_of l.node ≡ bracket b → IsEcmaAtomOr l.is_atom w (c ∷ rest) there (spec_node_of l.node)
class-term w c named rest there l b e k d f g =
    atom-of _ _ _ l _ f g (character_class (ap (λ (x : ℕ). x ∷ rest) e) (subst (λ x. CharacterClass w.flags x rest there b) k d))

pub class-none : (w : PatternContext) (c : ℕ) (named : Bool) (rest : RemainingCodePoints) → c ≡ 91 → named ≡ has_named_groups w → ((there : RemainingCodePoints) (x : SpecContents) → CharacterClass w.flags named rest there x → ⊥) → NoEcmaTerm w (c ∷ rest)
class-none w c named rest e k none =
    subst (λ x. NoEcmaTerm w (x ∷ rest)) (sym e) (no-term-plain w 91 rest refl (no-class_atom w rest (λ there x d. none there x (subst (λ y. CharacterClass w.flags y rest there x) (sym k) d))))

pub err-term : {P : ParseStopReason → Type 0} (w : PatternContext) (here there : RemainingCodePoints) (r : Result GrouplessTerm ParseStopReason) (e : ParseStopReason) → IsErrAnd r P → ((x : ParseStopReason) → P x → x ≡ e)
    → (IsTrue (is_syntax_error e) → NoEcmaTerm w here) → IsEcmaTermRead w here r there
err-term w here there (Ok o) e h same none = absurd h
err-term w here there (Err x) e h same none = λ r. none (sym (ap is_syntax_error (same x h)) ∙ r)

pub brace-term : (w : PatternContext) (c : ℕ) (rest : RemainingCodePoints) (l : GrouplessTerm) → is_brace_or_closing_bracket c ≡ true → (w.flags.unicode ≡ false) × ¬ (BeginsQuantifier (c ∷ rest)) → l.is_atom ≡ true → l.node ≡ Char c
    → IsEcmaAtomOr l.is_atom w (c ∷ rest) rest (spec_node_of l.node)
brace-term w c rest l e u a n = atom-of w (c ∷ rest) rest l (char c) a (ap spec_node_of n ∙ node-Char c) (extended_pattern_character refl e u.0 u.1)

pub character-term : (w : PatternContext) (c : ℕ) (rest : RemainingCodePoints) (r : Result GrouplessTerm ParseStopReason) → nat_eq c 92 ≡ false → nat_eq c 91 ≡ false → c ∈ "^$." ≡ false → is_star_plus_or_question c ≡ false
    → is_brace_or_closing_bracket c ≡ false → is_paren_or_bar c ≡ false → IfOk r (λ l. l.is_atom ≡ true) → IfOk r (λ l. IsEcmaCharacterNode w.flags c (spec_node_of l.node)) → IfErr r (λ e. is_syntax_error e ≡ false)
    → IsEcmaTermRead w (c ∷ rest) r rest
character-term w c rest (Ok l) x y z u v p a (members, s, e) m = atom-of w (c ∷ rest) rest l _ a e (pattern_character refl (none_of c x y z u v p) s)
character-term w c rest (Err e) x y z u v p a n m = λ s. absurd (true≢false (sym s ∙ m))
