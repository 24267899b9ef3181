-- The term readers of both dialects satisfy the contract that the parser uses.
use Rattle.std.proofs.Common.{◌≡◌, ℕ, ◌<◌, ◌≤◌, Bool, true, false, List, [], ◌∷◌, ◌++◌, length, true≢false, inl, refl, sym, ap, ◌∙◌, arith, max, nat_lt}
use Rattle.std.specs.Prelude.{Result, Ok, Err, IfOk, String, if◌then◌else◌}
use Rattle.std.specs.BTreeMap.{BTreeMap}
use Rattle.regex_meaning.specs.Tree.{Node, back_ref, char, char_set}
use Rattle.regex_meaning.specs.ReadingStatesAndDigits.{RemainingCodePoints, ParseState, PatternContext}
use Rattle.regex_meaning.specs.EscapesNamesQuantifiers.{group_name}
use Rattle.regex_meaning.specs.Grammar.{PatternDialect, profile, Assertion, start, end, boundary, look}
use Rattle.regex_meaning.specs.GroupOpeningScanWithoutParsing.{texts_after_parentheses}
use Rattle.regex_meaning.specs.EcmaGrammarWithAnnexB.{ecmascript, AtomEscape, reference_node, group_number, decimal_escape, character_class_escape, property_escape, character_escape, named_reference}
use Rattle.regex_meaning.proofs.DisjunctionReadingLemmas.{first}
use Rattle.regex_meaning.proofs.BackreferenceNumberLemmas.{number_of-bounds}
use Rattle.regex_meaning.proofs.GroupOpeningScanLemmas.{IsScanned, past, past_escape}
use Rattle.regex_meaning.proofs.EcmaGroupScanLemmas.{ecmascript-scanned}
use Rattle.regex_pattern_front.specs.declared.flags.Flags.{Flags}
use Rattle.regex_parser.specs.declared.groupless_terms.GrouplessTerm.{GrouplessTerm}
use Rattle.regex_parser.specs.declared.parser_error.ParseStopReason.{ParseStopReason}
use Rattle.regex_parser.specs.SyntaxDialects.{AreGroupsKnownIn}
use Rattle.regex_parser.specs.EcmaTermContracts.{AreGroupsKnown, IsEcmaAtomOr, IsEcmaTermRead}
use Rattle.regex_parser.specs.GrouplessTermContracts.{IsAtomOr, IsAtomOrIn, IsTermReadIn, IsGrouplessTermReadIfPresent, NamesAreNumberedWithinGroupLimit, TextBetweenOpensNoGroup, is_paren_or_bar}
use Rattle.regex_parser.specs.ParserInvariants.{parse_state}

-- A term without groups that begins with neither a parenthesis nor a bar opens no group.
pub passed-term : (S : PatternDialect) → IsScanned S → (w : PatternContext) (c : ℕ) (rest there : RemainingCodePoints) (is_atom : Bool) (n : Node) → is_paren_or_bar c ≡ false → IsAtomOrIn S is_atom w (c ∷ rest) there n
    → TextBetweenOpensNoGroup (c ∷ rest) there
passed-term S scan w c rest there is_atom n e h = by is_atom h
  where
    opens : {ds : RemainingCodePoints} → c ∷ rest ≡ 40 ∷ ds → ⊥
    opens f = let g : is_paren_or_bar c ≡ true = ap (λ x. is_paren_or_bar (first x)) f in true≢false (sym g ∙ e)

    in_assertion : {q : ParseState} {n : Node} → Assertion S w (parse_state (c ∷ rest) []) q n → TextBetweenOpensNoGroup (c ∷ rest) q.text
    in_assertion {q} (start f) = ap (λ x. texts_after_parentheses false x.text) f ∙ past false 94 q.text refl
    in_assertion {q} (end f) = ap (λ x. texts_after_parentheses false x.text) f ∙ past false 36 q.text refl
    in_assertion {q} (boundary true f) = ap (λ x. texts_after_parentheses false x.text) f ∙ past_escape false 66 q.text
    in_assertion {q} (boundary false f) = ap (λ x. texts_after_parentheses false x.text) f ∙ past_escape false 98 q.text
    in_assertion (look false false f d g) = absurd (opens (ap (λ x. x.text) f))
    in_assertion (look true false f d g) = absurd (opens (ap (λ x. x.text) f))
    in_assertion (look false true f d g) = absurd (opens (ap (λ x. x.text) f))
    in_assertion (look true true f d g) = absurd (opens (ap (λ x. x.text) f))

    by : (b : Bool) → IsAtomOrIn S b w (c ∷ rest) there n → TextBetweenOpensNoGroup (c ∷ rest) there
    by true d = scan.past_leaf w (c ∷ rest) there n d
    by false d = in_assertion (d [])

-- ---- The profile

pub profile-known : {R : Type 0} (flags : Flags) (count : ℕ) (named : Bool) (numbers : BTreeMap (String R) ℕ) (groups : List RemainingCodePoints) → AreGroupsKnownIn profile flags count named numbers groups
    → NamesAreNumberedWithinGroupLimit numbers groups
profile-known flags count named numbers groups k = (λ name is. k.numbered (name ++ 62 ∷ []) [] name (group_name refl is), k.few)

pub in-profile : (w : PatternContext) (here there : RemainingCodePoints) (n : Node) (is_atom : Bool) → IsAtomOr is_atom w here there n → IsAtomOrIn profile is_atom w here there n
in-profile w here there n true d = d
in-profile w here there n false d = d

pub profile-term : (w : PatternContext) (here there : RemainingCodePoints) (r : Result GrouplessTerm ParseStopReason) (old new : ℕ) → IfOk r (λ l. TextBetweenOpensNoGroup here there)
    → IsGrouplessTermReadIfPresent w here r old new there → IsTermReadIn profile w here r old new there
profile-term w here there (Ok l) old new p t = (p, λ less. in-profile w here there _ l.is_atom (t.0 less), t.1)
profile-term w here there (Err e) old new p t = t

-- ---- The whole language

pub ecmascript-known : {R : Type 0} (flags : Flags) (count : ℕ) (named : Bool) (numbers : BTreeMap (String R) ℕ) (groups : List RemainingCodePoints) → AreGroupsKnownIn ecmascript flags count named numbers groups
    → AreGroupsKnown flags count named numbers groups
ecmascript-known flags count named numbers groups k = record { counted = k.counted; names = k.names; numbered = λ here there name g. k.numbered here there name g }

in-ecmascript : (w : PatternContext) (here there : RemainingCodePoints) (n : Node) (is_atom : Bool) → IsEcmaAtomOr is_atom w here there n → IsAtomOrIn ecmascript is_atom w here there n
in-ecmascript w here there n true d = d
in-ecmascript w here there n false d = d

earlier : (groups old new : ℕ) → new ≤ max old groups → groups < new → groups < old
earlier groups old new h k = omega (arith, h, k)

pub ecmascript-term : (w : PatternContext) (c : ℕ) (rest there : RemainingCodePoints) (r : Result GrouplessTerm ParseStopReason) (old new : ℕ) → is_paren_or_bar c ≡ false → new ≤ max old (length w.groups)
    → IsEcmaTermRead w (c ∷ rest) r there → IsTermReadIn ecmascript w (c ∷ rest) r old new there
ecmascript-term w c rest there (Ok l) old new e bound t =
    let d = in-ecmascript w (c ∷ rest) there _ l.is_atom t in
    (passed-term ecmascript ecmascript-scanned w c rest there l.is_atom _ e d, λ less. d, λ past. inl (earlier (length w.groups) old new bound past))
ecmascript-term w c rest there (Err x) old new e bound t = t

-- `group-of` gives the group that a reference names, and 0 for any other node.
group-of : Node → ℕ
group-of (back_ref n c) = n
group-of _ = 0

no-reference : (b : Bool) (members : List ℕ) (c : ℕ) → group-of (if b then char_set members else char c) ≡ 0
unfolding group-of
no-reference true members c = refl
no-reference false members c = refl

within : (w : PatternContext) {here there : RemainingCodePoints} {n : Node} → AtomEscape w here there n → group-of n ≤ length w.groups
unfolding group-of
within w (decimal_escape (group_number f d l)) = l
within w (character_class_escape e f s) = omega arith
within w (property_escape i u e p s) = omega arith
within w (character_escape {c = c} {members = members} d k l s) = let z = no-reference (nat_lt 1 (length members)) members c in omega (arith, z)
within w (named_reference {name = name} {n = n} h e d f) = (number_of-bounds name w.groups n f).1

-- The number of a reference that is read is at most the number of groups.
pub reference-within : (w : PatternContext) (here there : RemainingCodePoints) (n : ℕ) → AtomEscape w here there (reference_node w n) → n ≤ length w.groups
unfolding group-of
reference-within w here there n a = within w a
