-- The scan for group names finds the names of the groups that open in a pattern.
use Rattle.std.proofs.Common.{◌≡◌, ℕ, Bool, true, false, not, ◌&&◌, List, [], ◌∷◌, ◌++◌, length, drop, true≢false, nat_eq, refl, sym, ap, ap₂, ◌∙◌}
use Rattle.std.specs.Prelude.{codes, if◌then◌else◌, take_while, flat_map}
use Rattle.std.specs.List.{list_all}
use Rattle.std.proofs.lemmas.Bool.{and_parts, eqb-true, false_from_ne_true}
use Rattle.std.proofs.Math.Seq.{drop-append_seam}
use Rattle.std.proofs.lemmas.List.Concat.{flat_map-append}
use Rattle.regex_meaning.specs.NumberListHelpers.{contains}
use Rattle.regex_meaning.specs.Tree.{Node, Flags, Quantifier, BracketContents}
use Rattle.regex_meaning.specs.ReadingStatesAndDigits.{RemainingCodePoints, ParseState, PatternContext, ◌▸◌, state_with_text_left, with_opened_group, ◌∈◌, begins_with_characters}
use Rattle.regex_meaning.specs.EscapesNamesQuantifiers.{CharacterEscape, control_escape, null, hex_escape, unicode_escape, identity_escape, GroupName, group_name, is_ascii_identifier_start}
use Rattle.regex_meaning.specs.EscapesNamesQuantifiers.{is_ascii_identifier_part, is_name, ValidQuantifier}
use Rattle.regex_meaning.specs.CharacterClasses.{ClassMember, ClassAtom, verbatim, of_class, backspace, escaped, ClassMembers, alone, from_to, no_range, ClassRanges, no_more, more, CharacterClass}
use Rattle.regex_meaning.specs.CharacterClasses.{plain, inverted}
use Rattle.regex_meaning.specs.Grammar.{profile, lookaround_opener, SimpleAtom, pattern_character, extended_character, any_character, decimal_escape, named_reference, character_escape}
use Rattle.regex_meaning.specs.Grammar.{character_class_escape, character_class}
use Rattle.regex_meaning.specs.GroupNameScan.{group_name_at, name_of_opened_group, scanned_names_per_capturing_group}
use Rattle.regex_meaning.specs.GroupOpeningScanWithoutParsing.{texts_after_parentheses, OpensGroups, no_parenthesis, opens_plain_group, opens_lookaround, opens_group, opens_named_group}
use Rattle.regex_meaning.specs.GrammarLaws.{ScanFindsOpenedGroupNames}
use Rattle.regex_meaning.proofs.DisjunctionReadingLemmas.{rest_of}
use Rattle.regex_meaning.proofs.EscapesAndNamesLemmas.{inside, name_letters}
use Rattle.regex_meaning.proofs.GroupOpeningScanLemmas.{Ahead as SameAhead, nothing, signs, past as pass, past_there, past_open, past_close, past_all, all_of, says_nothing, take_split, while_more}
use Rattle.regex_meaning.proofs.GroupOpeningScanLemmas.{past_hex, past_in, past_slash, past_unicode}
use Rattle.regex_meaning.proofs.GroupOpeningScanLemmas.{past_quantifier as pass_quantifier, past_extended, past_number, IsScanned, Opens as OpensBy, past_opener as pass_opener}
use Rattle.regex_meaning.proofs.GroupOpeningScanLemmas.{past_plain as pass_plain, past_group as pass_group, past_named as pass_named, groups-found}

-- The scan passes over a character escape together with its backslash.
past_character : (b : Bool) {unicode : Bool} {here a there : RemainingCodePoints} {n : ℕ} → here ≡ 92 ∷ a → CharacterEscape unicode a there n → SameAhead b here there
past_character b h (control_escape {letter = l} e f) = past_slash b {c = l} (h ∙ ap (λ x. 92 ∷ x) e)
past_character b h (null e k) = past_slash b {c = 48} (h ∙ ap (λ x. 92 ∷ x) e)
past_character b h (hex_escape e k) = past_slash b {c = 120} (h ∙ ap (λ x. 92 ∷ x) e) ∙ past_hex b k
past_character b h (unicode_escape e k) = past_slash b {c = 117} (h ∙ ap (λ x. 92 ∷ x) e) ∙ past_unicode b k
past_character b h (identity_escape {c = c} e f) = past_slash b {c = c} (h ∙ ap (λ x. 92 ∷ x) e)

past_name : (b : Bool) {here there n : RemainingCodePoints} → GroupName here there n → SameAhead b here there
past_name b (group_name {there = there} {name = n} e f) =
    ap (texts_after_parentheses b) e ∙ past_all b n (62 ∷ there) (all_of _ _ (λ c k. says_nothing is_ascii_identifier_part c refl k) n (name_letters n f)) ∙ pass b 62 there refl

-- The scan passes over each member of a class.
past_class_atom : {flags : Flags} {here there : RemainingCodePoints} {m : ClassMember} → ClassAtom flags here there m → SameAhead true here there
past_class_atom (verbatim {c = c} {there = there} e f) = ap (texts_after_parentheses true) e ∙ past_there c there (ap not f)
past_class_atom (of_class {letter = l} e f) = past_slash true {c = l} e
past_class_atom (backspace e) = past_slash true {c = 98} e
past_class_atom (escaped e d) = past_character true e d

past_member : {flags : Flags} {here there : RemainingCodePoints} {ms : List ClassMember} → ClassMembers flags here there ms → SameAhead true here there
past_member (alone a k) = past_class_atom a
past_member (from_to a e d le) = past_class_atom a ∙ past_in true e refl ∙ past_class_atom d
past_member (no_range a e d f) = past_class_atom a ∙ past_in true e refl ∙ past_class_atom d

past_ranges : {flags : Flags} {here there : RemainingCodePoints} {ms : List ClassMember} → ClassRanges flags here there ms → texts_after_parentheses true here ≡ texts_after_parentheses false there
past_ranges (no_more {there = there} e) = ap (texts_after_parentheses true) e ∙ past_close true there
past_ranges (more m r) = past_member m ∙ past_ranges r

past_class : {flags : Flags} {here there : RemainingCodePoints} {x : BracketContents} → CharacterClass flags here there x → texts_after_parentheses true here ≡ texts_after_parentheses false there
past_class (plain n o r s) = past_ranges r
past_class (inverted e o r s) = past_in true e refl ∙ past_ranges r

pass_leaf : (w : PatternContext) {here there : RemainingCodePoints} {n : Node} → SimpleAtom w here there n → SameAhead false here there
pass_leaf w (pattern_character {c = c} e f) = past_in false e (ap not (false_from_ne_true (contains signs c) (λ k. true≢false (sym (inside (contains (codes "^$\\.*+?()[]{}|")) signs c refl k) ∙ f))))
pass_leaf w (extended_character {c = c} {there = there} e f k l) = ap (texts_after_parentheses false) e ∙ past_extended c there f
pass_leaf w (any_character e) = past_in false e refl
pass_leaf w (decimal_escape e f d l) = past_number e d
pass_leaf w (named_reference e d f) = past_slash false {c = 107} e ∙ pass false 60 _ refl ∙ past_name false d
pass_leaf w (character_escape e d) = past_character false e d
pass_leaf w (character_class_escape {letter = l} e f s) = past_slash false {c = l} e
pass_leaf w (character_class {a = a} e d) = ap (texts_after_parentheses false) e ∙ past_open a ∙ past_class d

-- The scan passes over the atoms without groups and the names of the profile's dialect.
pub scanned : IsScanned profile
scanned =
    record {
      past_leaf = λ w here there n a. pass_leaf w a;
      past_name = λ here there name g. past_name false g;
    }

-- ---- Names

up_to : (n t : RemainingCodePoints) → list_all is_ascii_identifier_part n ≡ true → take_while is_ascii_identifier_part (n ++ 62 ∷ t) ≡ n
up_to [] t e = refl
up_to (c ∷ n) t e = while_more is_ascii_identifier_part c (n ++ 62 ∷ t) (and_parts (is_ascii_identifier_part c) _ e).0 ∙ ap (λ x. c ∷ x) (up_to n t (and_parts (is_ascii_identifier_part c) _ e).1)

-- A group name is found where it stands.
pub name-found : (here there name : RemainingCodePoints) → GroupName here there name → group_name_at here ≡ name
name-found here there name (group_name e f) =
    let up : take_while is_ascii_identifier_part here ≡ name = ap (take_while is_ascii_identifier_part) e ∙ up_to name there (name_letters name f) in
    let behind : drop (length name) here ≡ 62 ∷ there = ap (drop (length name)) e ∙ drop-append_seam name (62 ∷ there) in
    rw (up, behind, f) refl

ends_name : (here : RemainingCodePoints) → begins_with_characters ">" here ≡ true → (there : RemainingCodePoints) × (here ≡ 62 ∷ there)
ends_name [] e = absurd (true≢false (sym e))
ends_name (c ∷ there) e = by (nat_eq 62 c) refl
  where
    by : (b : Bool) → nat_eq 62 c ≡ b → (rest : RemainingCodePoints) × (c ∷ there ≡ 62 ∷ rest)
    by true f = (there, ap (λ (x : ℕ). x ∷ there) (sym (eqb-true 62 c f)))
    by false f = absurd (true≢false (sym e ∙ rw f refl))

-- If no group name stands at a place, the name found there is empty.
pub none-found : (here : RemainingCodePoints) → ((there name : RemainingCodePoints) → GroupName here there name → ⊥) → group_name_at here ≡ []
none-found here none = by (is_name name && begins_with_characters ">" behind) refl
  where
    name : RemainingCodePoints
    name = take_while is_ascii_identifier_part here

    behind : RemainingCodePoints
    behind = drop (length name) here

    by : (b : Bool) → (is_name name && begins_with_characters ">" behind) ≡ b → (if is_name name && begins_with_characters ">" behind then name else []) ≡ []
    by true e =
        let is = and_parts (is_name name) _ e in
        let end = ends_name behind is.1 in
        absurd (none end.0 name (group_name ((take_split is_ascii_identifier_part here).0 ∙ ap (λ x. name ++ x) end.1) is.0))
    by false e = rw e refl

named : (n t : RemainingCodePoints) → is_name n ≡ true → name_of_opened_group (63 ∷ 60 ∷ n ++ 62 ∷ t) ≡ n ∷ []
named [] t e = absurd (true≢false (sym e))
named (c ∷ n) t e =
    let begin = (and_parts (is_ascii_identifier_start c) _ e).0 in
    let x : nat_eq 61 c ≡ false = other 61 c begin refl in
    let y : nat_eq 33 c ≡ false = other 33 c begin refl in
    rw (x, y) (ap (λ z. z ∷ []) (name-found (c ∷ n ++ 62 ∷ t) t (c ∷ n) (group_name refl e)))
  where
    other : (d c : ℕ) → is_ascii_identifier_start c ≡ true → is_ascii_identifier_start d ≡ false → nat_eq d c ≡ false
    other d c f g = false_from_ne_true (nat_eq d c) (λ h. true≢false (sym f ∙ sym (ap is_ascii_identifier_start (eqb-true d c h)) ∙ g))

name_is : (here there name : RemainingCodePoints) → GroupName here there name → name_of_opened_group (63 ∷ 60 ∷ here) ≡ name ∷ []
name_is here there name (group_name e f) = ap (λ x. name_of_opened_group (63 ∷ 60 ∷ x)) e ∙ named name there f

abbrev at_texts : (texts : List RemainingCodePoints) → List RemainingCodePoints
at_texts = flat_map name_of_opened_group

choose-names : (t : RemainingCodePoints) (x y z w : Bool) {n m o k : List RemainingCodePoints} (a b c d : List RemainingCodePoints) → n ≡ at_texts a → m ≡ at_texts b → o ≡ at_texts c → k ≡ at_texts d
    → (if x then n else if y then m else if z then o else if w then name_of_opened_group t ++ k else k) ≡ at_texts (if x then a else if y then b else if z then c else if w then t ∷ d else d)
choose-names t true y z w a b c d e f g h = e
choose-names t false true z w a b c d e f g h = f
choose-names t false false true w a b c d e f g h = g
choose-names t false false false true a b c d e f g h = ap (λ x. name_of_opened_group t ++ x) h
choose-names t false false false false a b c d e f g h = h

-- The scanned names are the names at the scanned parentheses.
pub names-at : (b : Bool) (t : RemainingCodePoints) → scanned_names_per_capturing_group b t ≡ flat_map name_of_opened_group (texts_after_parentheses b t)
unfolding scanned_names_per_capturing_group texts_after_parentheses
names-at b [] = refl
names-at b (c ∷ []) = by (c ∈ "(" && not b)
  where
    by : (x : Bool) → (if x then [] ∷ [] else []) ≡ flat_map name_of_opened_group (if x then [] ∷ [] else [])
    by true = refl
    by false = refl
names-at b (c ∷ d ∷ t) = choose-names (d ∷ t) (c ∈ "\\") (c ∈ "[") (c ∈ "]") (c ∈ "(" && not b) (texts_after_parentheses b t) (texts_after_parentheses true (d ∷ t)) (texts_after_parentheses false (d ∷ t)) (texts_after_parentheses b (d ∷ t)) (names-at b t) (names-at true (d ∷ t)) (names-at false (d ∷ t)) (names-at b (d ∷ t))

-- The same names are ahead at both places of a text.
abbrev pub Ahead : Bool → RemainingCodePoints → RemainingCodePoints → Type 0
Ahead b here there = scanned_names_per_capturing_group b here ≡ scanned_names_per_capturing_group b there

names-ahead : (b : Bool) (here there : RemainingCodePoints) → SameAhead b here there → Ahead b here there
names-ahead b here there e = names-at b here ∙ ap (flat_map name_of_opened_group) e ∙ sym (names-at b there)

pub past : (b : Bool) (c : ℕ) (t : RemainingCodePoints) → nothing c ≡ true → Ahead b (c ∷ t) t
past b c t e = names-ahead b (c ∷ t) t (pass b c t e)

pub past_quantifier : (b : Bool) {here there : RemainingCodePoints} {q : Quantifier} → ValidQuantifier here there q → Ahead b here there
past_quantifier b {here} {there} k = names-ahead b here there (pass_quantifier b k)

pub past_leaf : (w : PatternContext) {here there : RemainingCodePoints} {n : Node} → SimpleAtom w here there n → Ahead false here there
past_leaf w {here} {there} a = names-ahead false here there (pass_leaf w a)

-- The names of the groups that open between two states are found by the scan between them.
pub record Opens (p q : ParseState) : Type 0 where
  pub added : List RemainingCodePoints
  pub opened : q.opened ≡ p.opened ++ added
  pub found : scanned_names_per_capturing_group false p.text ≡ added ++ scanned_names_per_capturing_group false q.text

no-names-look : (negate backwards : Bool) {text : RemainingCodePoints} (here : RemainingCodePoints) → 40 ∷ text ≡ codes (lookaround_opener negate backwards) ++ here → name_of_opened_group text ≡ []
no-names-look false false here e = ap (λ x. name_of_opened_group (rest_of x)) e
no-names-look true false here e = ap (λ x. name_of_opened_group (rest_of x)) e
no-names-look false true here e = ap (λ x. name_of_opened_group (rest_of x)) e
no-names-look true true here e = ap (λ x. name_of_opened_group (rest_of x)) e

pub unnamed : (text : RemainingCodePoints) → begins_with_characters "?" text ≡ false → name_of_opened_group text ≡ [] ∷ []
unnamed [] e = refl
unnamed (c ∷ t) e = by (nat_eq 63 c) refl
  where
    by : (x : Bool) → nat_eq 63 c ≡ x → name_of_opened_group (c ∷ t) ≡ [] ∷ []
    by true f = absurd (true≢false (sym (rw f refl) ∙ e))
    by false f = rw f refl

-- In the profile's dialect, the names at the parentheses are the names of the groups that open.
names-are : {texts names : List RemainingCodePoints} → OpensGroups profile texts names → flat_map name_of_opened_group texts ≡ names
names-are no_parenthesis = refl
names-are (opens_plain_group {texts = texts} here e g) = ap (λ x. name_of_opened_group x ++ flat_map name_of_opened_group texts) e ∙ names-are g
names-are (opens_lookaround {texts = texts} negate backwards here e g) = ap (λ x. x ++ flat_map name_of_opened_group texts) (no-names-look negate backwards here e) ∙ names-are g
names-are (opens_group {text = text} {texts = texts} e g) = ap₂ (λ x y. x ++ y) (unnamed text e) (names-are g)
names-are (opens_named_group {name = name} here there e i g) =
    ap₂ (λ x y. x ++ y) (ap name_of_opened_group e ∙ name_is here there name i) (names-are g)

opens-names : {p q : ParseState} → OpensBy profile p q → Opens p q
opens-names {p} {q} o =
    record {
      added = o.added;
      opened = o.opened;
      found = names-at false p.text ∙ ap (flat_map name_of_opened_group) o.found
          ∙ flat_map-append name_of_opened_group o.texts (texts_after_parentheses false q.text)
          ∙ ap₂ (λ x y. x ++ y) (names-are o.are) (sym (names-at false q.text));
    }

pub past_opener : (negate backwards : Bool) {p q : ParseState} → p ≡ lookaround_opener negate backwards ▸ q → Opens p q
past_opener negate backwards e = opens-names (pass_opener profile negate backwards e)

pub past_plain : {p q : ParseState} → p ≡ "(?:" ▸ q → Opens p q
past_plain e = opens-names (pass_plain profile e)

pub past_group : {p q : ParseState} → p ≡ "(" ▸ q → begins_with_characters "?" q.text ≡ false → Opens p (with_opened_group [] q)
past_group e o = opens-names (pass_group profile e o)

pub past_named : {p q : ParseState} {there name : RemainingCodePoints} → p ≡ "(?<" ▸ q → GroupName q.text there name → Opens p (with_opened_group name (state_with_text_left there q))
past_named e g = opens-names (pass_named profile scanned e g)

pub scan_finds_opened_group_names : ScanFindsOpenedGroupNames
scan_finds_opened_group_names w pattern groups n d = sym (names-at false pattern ∙ names-are (groups-found profile scanned w pattern groups n d))
