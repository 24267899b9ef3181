-- The scan for groups passes over each atom and name of the ECMAScript grammar.
use Rattle.std.proofs.Common.{◌≡◌, ℕ, Bool, true, false, not, List, [], ◌∷◌, ◌++◌, true≢false, refl, sym, ap, ◌∙◌}
use Rattle.std.specs.Prelude.{codes}
use Rattle.std.specs.List.{list_all}
use Rattle.std.specs.Char.{is_ascii_alphabetic}
use Rattle.std.proofs.lemmas.Bool.{false_from_ne_true}
use Rattle.regex_meaning.specs.NumberListHelpers.{contains}
use Rattle.regex_meaning.specs.Tree.{Node, Flags, BracketContents}
use Rattle.regex_meaning.specs.ReadingStatesAndDigits.{RemainingCodePoints, PatternContext, ◌∈◌, begins_with_characters}
use Rattle.regex_meaning.specs.EscapesNamesQuantifiers.{is_high_surrogate, is_low_surrogate}
use Rattle.regex_meaning.specs.UnicodeProperties.{Property}
use Rattle.regex_meaning.specs.EcmaEscapesAndNames.{GrammarParameters, is_octal_digit, LegacyOctalEscape, one_digit, two_digits, two_high_digits, three_digits, control_escape, control_letter, null}
use Rattle.regex_meaning.specs.EcmaEscapesAndNames.{hex_escape, unicode_escape, legacy_octal_escape, CharacterEscape, GroupName, group_name}
use Rattle.regex_meaning.specs.EcmaEscapesAndNames.{non_identity_escape, identity_escape, PropertyExpression, with_value, alone, NameCharacter, verbatim, escaped, surrogates, NameRest, name_end}
use Rattle.regex_meaning.specs.EcmaEscapesAndNames.{name_part}
use Rattle.regex_meaning.specs.EcmaClasses.{ClassMember, CharacterClassEscape, by_letter, by_property, is_class_control_letter, SimpleClassEscape, backspace, dash, class_control_letter, ClassEscape}
use Rattle.regex_meaning.specs.EcmaClasses.{simple_escape, class_escape, character_escape as escaped_character}
use Rattle.regex_meaning.specs.EcmaClasses.{ClassAtom, verbatim as verbatim_in_class, escaped as escaped_in_class, backslash as backslash_in_class, ClassMembers, alone as one_atom, from_to, no_range}
use Rattle.regex_meaning.specs.EcmaClasses.{ClassRanges, no_more, more, CharacterClass, plain, inverted}
use Rattle.regex_meaning.specs.EcmaGrammarWithAnnexB.{group_number, AtomEscape, decimal_escape, character_class_escape, property_escape, character_escape, named_reference, SimpleAtom}
use Rattle.regex_meaning.specs.EcmaGrammarWithAnnexB.{pattern_character, extended_pattern_character, any_character, atom_escape, backslash, character_class, ecmascript}
use Rattle.regex_meaning.specs.GroupOpeningScanWithoutParsing.{texts_after_parentheses}
use Rattle.regex_meaning.proofs.EscapesAndNamesLemmas.{inside}
use Rattle.regex_meaning.proofs.GroupOpeningScanLemmas.{Ahead, nothing, signs, past, past_there, past_open, past_close, past_all, all_of, says_nothing, past_hex, past_in, past_slash, past_unicode}
use Rattle.regex_meaning.proofs.GroupOpeningScanLemmas.{past_extended, past_number, IsScanned}
use Rattle.regex_meaning.proofs.EcmaEscapesAndNamesLemmas.{is_name_character, is_good, lone-good, property-good, value-good, TestsNames, start-tests, part-tests, no-sign}
use Rattle.regex_meaning.proofs.EcmaClassAndAtomLemmas.{property_letter, property-here, c-first}

-- The scan passes over a first character that passes a test which no sign passes.
past-test : (b : Bool) (test : ℕ → Bool) → list_all (λ d. not (test d)) signs ≡ true → {here there : RemainingCodePoints} {c : ℕ} → here ≡ c ∷ there → test c ≡ true → Ahead b here there
past-test b test h {c = c} e f = past_in b e (says_nothing test c h f)

-- ---- Escapes with their backslash

past-octal : (b : Bool) {here a there : RemainingCodePoints} {n : ℕ} → here ≡ 92 ∷ a → LegacyOctalEscape a there n → Ahead b here there
past-octal b h (one_digit {d = d} e x k) = past_slash b {c = d} (h ∙ ap (λ x. 92 ∷ x) e)
past-octal b h (two_digits {d = d} {e = c} {there = there} e x y k) = past_slash b {c = d} (h ∙ ap (λ x. 92 ∷ x) e) ∙ past-test b is_octal_digit refl refl y
past-octal b h (two_high_digits {d = d} {there = there} e x y) = past_slash b {c = d} (h ∙ ap (λ x. 92 ∷ x) e) ∙ past-test b is_octal_digit refl refl y
past-octal b h (three_digits {d = d} e x y z) = past_slash b {c = d} (h ∙ ap (λ x. 92 ∷ x) e) ∙ past-test b is_octal_digit refl refl y ∙ past-test b is_octal_digit refl refl z

past-character : (b : Bool) {g : GrammarParameters} {here a there : RemainingCodePoints} {n : ℕ} → here ≡ 92 ∷ a → CharacterEscape g a there n → Ahead b here there
past-character b h (non_identity_escape (control_escape {letter = l} e f)) = past_slash b {c = l} (h ∙ ap (λ x. 92 ∷ x) e)
past-character b h (non_identity_escape (control_letter e f)) = past_slash b {c = 99} (h ∙ ap (λ x. 92 ∷ x) e) ∙ past-test b is_ascii_alphabetic refl refl f
past-character b h (non_identity_escape (null e k)) = past_slash b {c = 48} (h ∙ ap (λ x. 92 ∷ x) e)
past-character b h (non_identity_escape (hex_escape e k)) = past_slash b {c = 120} (h ∙ ap (λ x. 92 ∷ x) e) ∙ past_hex b k
past-character b h (non_identity_escape (unicode_escape e k)) = past_slash b {c = 117} (h ∙ ap (λ x. 92 ∷ x) e) ∙ past_unicode b k
past-character b h (non_identity_escape (legacy_octal_escape u o)) = past-octal b h o
past-character b h (identity_escape {c = c} e f k) = past_slash b {c = c} (h ∙ ap (λ x. 92 ∷ x) e)

past-good : (b : Bool) (name t : RemainingCodePoints) → is_good name ≡ true → Ahead b (name ++ t) t
past-good b name t g = past_all b name t (all_of _ _ (λ c k. says_nothing is_name_character c refl k) name g)

-- The scan passes over the expression behind the letter of a property escape.
past-property : (b : Bool) {here there : RemainingCodePoints} {p : Property} → PropertyExpression here there p → Ahead b here there
past-property b (with_value {there = there} property value e f) =
    past_in b e refl ∙ past-good b property _ (property-good property value f) ∙ past b 61 _ refl ∙ past-good b value _ (value-good property value f) ∙ past b 125 there refl
past-property b (alone {there = there} name e f) = past_in b e refl ∙ past-good b name _ (lone-good name f) ∙ past b 125 there refl

past-class-escape : (b : Bool) {flags : Flags} {here a there : RemainingCodePoints} {s : ℕ → Bool} → here ≡ 92 ∷ a → CharacterClassEscape flags a there s → Ahead b here there
past-class-escape b h (by_letter {letter = l} e f) = past_slash b {c = l} (h ∙ ap (λ x. 92 ∷ x) e)
past-class-escape b h (by_property i u e p) = past_slash b {c = property_letter i} (h ∙ ap (λ x. 92 ∷ x) (property-here i e)) ∙ past-property b p

-- The scan passes over a backslash before a `c` as over a character.
past-backslash : (b : Bool) {here a : RemainingCodePoints} → here ≡ 92 ∷ a → begins_with_characters "c" a ≡ true → Ahead b here a
past-backslash b {a = []} h e = absurd (true≢false (sym e))
past-backslash b {a = c ∷ rest} h e = past_slash b {c = c} h ∙ sym (past b c rest (ap nothing (c-first (c ∷ rest) e)))

-- ---- Names

past-name-character : (b : Bool) {test : ℕ → Bool} → TestsNames test → {here there : RemainingCodePoints} {c : ℕ} → NameCharacter test here there c → Ahead b here there
past-name-character b {test} t (verbatim {c = c} e f) =
    past_in b e (ap not (false_from_ne_true (contains signs c) (λ k. true≢false (sym f ∙ no-sign t c (inside (λ d. d ∈ "\\[](=!>") signs c refl k)))))
past-name-character b t (escaped e u f) = past_slash b {c = 117} e ∙ past_unicode b u
past-name-character b t (surrogates e l r f) = past-test b is_high_surrogate refl e l ∙ past-test b is_low_surrogate refl refl r

past-rest : (b : Bool) {here there n : RemainingCodePoints} → NameRest here there n → Ahead b here there
past-rest b (name_end e) = past_in b e refl
past-rest b (name_part c r) = past-name-character b part-tests c ∙ past-rest b r

past-name : (b : Bool) {here there n : RemainingCodePoints} → GroupName here there n → Ahead b here there
past-name b (group_name c r) = past-name-character b start-tests c ∙ past-rest b r

-- ---- Classes

past-simple : {flags : Flags} {here a there : RemainingCodePoints} {c : ℕ} → here ≡ 92 ∷ a → SimpleClassEscape flags a there c → Ahead true here there
past-simple h (backspace e) = past_slash true {c = 98} (h ∙ ap (λ x. 92 ∷ x) e)
past-simple h (dash u e) = past_slash true {c = 45} (h ∙ ap (λ x. 92 ∷ x) e)
past-simple h (class_control_letter u e k) = past_slash true {c = 99} (h ∙ ap (λ x. 92 ∷ x) e) ∙ past-test true is_class_control_letter refl refl k

past-escape : {flags : Flags} {named : Bool} {here a there : RemainingCodePoints} {m : ClassMember} → here ≡ 92 ∷ a → ClassEscape flags named a there m → Ahead true here there
past-escape h (simple_escape s) = past-simple h s
past-escape h (class_escape s) = past-class-escape true h s
past-escape h (escaped_character d k l) = past-character true h d

past-atom : {flags : Flags} {named : Bool} {here there : RemainingCodePoints} {m : ClassMember} → ClassAtom flags named here there m → Ahead true here there
past-atom (verbatim_in_class {c = c} {there = there} e f) = ap (texts_after_parentheses true) e ∙ past_there c there (ap not f)
past-atom (escaped_in_class e d) = past-escape e d
past-atom (backslash_in_class u e f k) = past-backslash true e f

past-member : {flags : Flags} {named : Bool} {here there : RemainingCodePoints} {ms : List ClassMember} → ClassMembers flags named here there ms → Ahead true here there
past-member (one_atom a k) = past-atom a
past-member (from_to a e d le) = past-atom a ∙ past_in true e refl ∙ past-atom d
past-member (no_range u a e d f) = past-atom a ∙ past_in true e refl ∙ past-atom d

past-ranges : {flags : Flags} {named : Bool} {here there : RemainingCodePoints} {ms : List ClassMember} → ClassRanges flags named here there ms → texts_after_parentheses true here ≡ texts_after_parentheses false there
past-ranges (no_more {there = there} e) = ap (texts_after_parentheses true) e ∙ past_close true there
past-ranges (more m r) = past-member m ∙ past-ranges r

past-class : {flags : Flags} {named : Bool} {here there : RemainingCodePoints} {x : BracketContents} → CharacterClass flags named here there x → texts_after_parentheses true here ≡ texts_after_parentheses false there
past-class (plain n r s) = past-ranges r
past-class (inverted e r s) = past_in true e refl ∙ past-ranges r

-- ---- Atoms

past-atom-escape : {w : PatternContext} {here a there : RemainingCodePoints} {n : Node} → here ≡ 92 ∷ a → AtomEscape w a there n → Ahead false here there
past-atom-escape h (decimal_escape (group_number f d l)) = past_number h d
past-atom-escape h (character_class_escape {letter = l} e f s) = past_slash false {c = l} (h ∙ ap (λ x. 92 ∷ x) e)
past-atom-escape {w} h (property_escape i u e p s) = past-class-escape false {flags = w.flags} h (by_property i u e p)
past-atom-escape h (character_escape d k l s) = past-character false h d
past-atom-escape h (named_reference n e d f) = past_slash false {c = 107} (h ∙ ap (λ x. 92 ∷ x) e) ∙ past false 60 _ refl ∙ past-name false d

past-leaf : (w : PatternContext) (here there : RemainingCodePoints) (n : Node) → SimpleAtom w here there n → Ahead false here there
past-leaf w here there n (pattern_character {c = c} e f s) = past_in false e (ap not (false_from_ne_true (contains signs c) (λ k. true≢false (sym (inside (contains (codes "^$\\.*+?()[]{}|")) signs c refl k) ∙ f))))
past-leaf w here there n (extended_pattern_character {c = c} e f k l) = ap (texts_after_parentheses false) e ∙ past_extended c there f
past-leaf w here there n (any_character e) = past_in false e refl
past-leaf w here there n (atom_escape e f g d) = past-atom-escape e d
past-leaf w here there n (backslash u e f k) = past-backslash false e f
past-leaf w here there n (character_class {a = a} e d) = ap (texts_after_parentheses false) e ∙ past_open a ∙ past-class d

-- The scan passes over the atoms without groups and the names of all of ECMAScript.
pub ecmascript-scanned : IsScanned ecmascript
ecmascript-scanned = record { past_leaf = past-leaf; past_name = λ here there name g. past-name false g }
