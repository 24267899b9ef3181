-- The scan for parentheses finds exactly those that open the groups of a pattern.
use Rattle.std.proofs.Common.{◌≡◌, ℕ, Bool, true, false, not, ◌&&◌, List, [], ◌∷◌, ◌++◌, length, drop, true≢false, ⊎_elim, nat_eq, refl, sym, ap, ap₂, subst, ◌∙◌, arith, append_assoc, append-nil}
use Rattle.std.proofs.Common.{one-add}
use Rattle.std.specs.Prelude.{codes, ◌||◌, if◌then◌else◌, take_while}
use Rattle.std.specs.List.{list_all}
use Rattle.std.specs.Char.{is_digit}
use Rattle.std.proofs.lemmas.Bool.{or_cases, and_parts, eqb-true, false_from_ne_true}
use Rattle.regex_meaning.specs.NumberListHelpers.{contains}
use Rattle.regex_meaning.specs.Tree.{Node, Quantifier}
use Rattle.regex_meaning.specs.ReadingStatesAndDigits.{RemainingCodePoints, ParseState, PatternContext, ◌▸◌, state_with_text_left, with_opened_group, ◌∈◌, begins_with_characters, Digits, digits_from}
use Rattle.regex_meaning.specs.ReadingStatesAndDigits.{leading_digits}
use Rattle.regex_meaning.specs.EscapesNamesQuantifiers.{FixedHexDigits, hex, SurrogatePair, pair, UnicodeEscape, surrogates, four_digits, code_point, QuantifierPrefix, star, plus, question, exactly}
use Rattle.regex_meaning.specs.EscapesNamesQuantifiers.{at_least, between, ValidQuantifier, greedy, lazy}
use Prim.Native.String.{String}
use Rattle.regex_meaning.specs.Grammar.{PatternDialect, lookaround_opener, Disjunction, Alternative, Term, Assertion, Atom, last_alternative, alternatives, no_terms, terms, assertion}
use Rattle.regex_meaning.specs.Grammar.{repeated_assertion, atom, quantified, start, end, boundary, look, leaf, group, named_group, plain_group}
use Rattle.regex_meaning.specs.GroupOpeningScanWithoutParsing.{texts_after_parentheses, OpensGroups, no_parenthesis, opens_plain_group, opens_lookaround, opens_group, opens_named_group}
use Rattle.regex_meaning.proofs.DisjunctionReadingLemmas.{IsReadInOneWay, unlike, second, rest_of, third}
use Rattle.regex_meaning.proofs.EscapesAndNamesLemmas.{inside}
use Rattle.regex_meaning.proofs.FirstDigitOfNumber.{digit_begins}

-- The same parentheses are ahead at both places of a text.
abbrev pub Ahead : Bool → RemainingCodePoints → RemainingCodePoints → Type 0
Ahead b here there = texts_after_parentheses b here ≡ texts_after_parentheses b there

abbrev pub nothing : ℕ → Bool
nothing c = not (c ∈ "\\[](")

pub no : (c d : ℕ) → nat_eq c d ≡ true → (test : ℕ → Bool) → test c ≡ true → test d ≡ false → ⊥
no c d e test f g = true≢false (sym f ∙ ap test (eqb-true c d e) ∙ g)

pub is_no : (c d : ℕ) (test : ℕ → Bool) → test c ≡ true → test d ≡ false → nat_eq c d ≡ false
is_no c d test f g = false_from_ne_true (nat_eq c d) (λ e. no c d e test f g)

-- The scan passes over a character other than `\`, `[`, `]` and `(`.
pub past : (b : Bool) (c : ℕ) (t : RemainingCodePoints) → nothing c ≡ true → Ahead b (c ∷ t) t
unfolding texts_after_parentheses
past b c [] e = rw (is_no c 40 nothing e refl) refl
past b c (d ∷ t) e = rw (is_no c 92 nothing e refl, is_no c 91 nothing e refl, is_no c 93 nothing e refl, is_no c 40 nothing e refl) refl

-- In a class, only the closing bracket and the backslash matter to the scan.
abbrev pub nothing_there : ℕ → Bool
nothing_there c = not (c ∈ "\\]")

pub past_there : (c : ℕ) (t : RemainingCodePoints) → nothing_there c ≡ true → Ahead true (c ∷ t) t
unfolding texts_after_parentheses
past_there c [] e = by (c ∈ "(")
  where
    by : (x : Bool) → (if x && not true then [] ∷ [] else []) ≡ texts_after_parentheses true []
    by true = refl
    by false = refl
past_there c (d ∷ t) e = rw (is_no c 92 nothing_there e refl, is_no c 93 nothing_there e refl) (by (nat_eq c 91) (nat_eq c 40))
  where
    by : (x y : Bool) → (if x || false then texts_after_parentheses true (d ∷ t) else if (y || false) && not true then (d ∷ t) ∷ texts_after_parentheses true (d ∷ t) else texts_after_parentheses true (d ∷ t)) ≡ texts_after_parentheses true (d ∷ t)
    by true y = refl
    by false true = refl
    by false false = refl

pub past_escape : (b : Bool) (d : ℕ) (t : RemainingCodePoints) → Ahead b (92 ∷ d ∷ t) t
unfolding texts_after_parentheses
past_escape b d t = refl

pub past_open : (t : RemainingCodePoints) → texts_after_parentheses false (91 ∷ t) ≡ texts_after_parentheses true t
unfolding texts_after_parentheses
past_open [] = refl
past_open (d ∷ t) = refl

pub past_close : (b : Bool) (t : RemainingCodePoints) → texts_after_parentheses b (93 ∷ t) ≡ texts_after_parentheses false t
unfolding texts_after_parentheses
past_close b [] = refl
past_close b (d ∷ t) = refl

pub past_all : (b : Bool) (ds t : RemainingCodePoints) → list_all nothing ds ≡ true → Ahead b (ds ++ t) t
past_all b [] t e = refl
past_all b (d ∷ ds) t e = past b d (ds ++ t) (and_parts (nothing d) _ e).0 ∙ past_all b ds t (and_parts (nothing d) _ e).1

pub all_of : (p q : ℕ → Bool) → ((c : ℕ) → p c ≡ true → q c ≡ true) → (ds : RemainingCodePoints) → list_all p ds ≡ true → list_all q ds ≡ true
all_of p q h [] e = refl
all_of p q h (d ∷ ds) e = rw (h d (and_parts (p d) _ e).0) (all_of p q h ds (and_parts (p d) _ e).1)

abbrev pub signs : RemainingCodePoints
signs = codes "\\[]("

pub says_nothing : (test : ℕ → Bool) (c : ℕ) → list_all (λ d. not (test d)) signs ≡ true → test c ≡ true → nothing c ≡ true
says_nothing test c h e =
    ap not (false_from_ne_true (contains signs c) (λ k. true≢false (sym (inside (λ d. not (test d)) signs c h k) ∙ ap not e)))

-- A character that passes is taken together with what is taken after it.
pub while_more : (p : ℕ → Bool) (c : ℕ) (cs : RemainingCodePoints) → p c ≡ true → take_while p (c ∷ cs) ≡ c ∷ take_while p cs
while_more p c cs e = rw (e, one-add) refl

pub while_none : (p : ℕ → Bool) (c : ℕ) (cs : RemainingCodePoints) → p c ≡ false → take_while p (c ∷ cs) ≡ []
while_none p c cs e = rw e refl

abbrev pub Split : (ℕ → Bool) → RemainingCodePoints → Type 0
Split p here = (here ≡ take_while p here ++ drop (length (take_while p here)) here) × (list_all p (take_while p here) ≡ true)

pub take_split : (p : ℕ → Bool) (here : RemainingCodePoints) → Split p here
take_split p [] = (refl, refl)
take_split p (c ∷ cs) = by (take_split p cs) (p c) refl
  where
    by : Split p cs → (x : Bool) → p c ≡ x → Split p (c ∷ cs)
    by h false e = rw (while_none p c cs e) (refl, refl)
    by h true e = rw (while_more p c cs e) (ap (λ x. c ∷ x) h.0, rw e h.1)

pub past_digits_of : (b : Bool) (base : ℕ) → list_all (λ d. not (is_digit d base)) signs ≡ true → {here there : RemainingCodePoints} {n : ℕ} → Digits base here there n → Ahead b here there
past_digits_of b base h {here} (digits_from k) =
    let s = take_split (λ c. is_digit c base) here in
    ap (texts_after_parentheses b) s.0 ∙ past_all b (leading_digits base here) _ (all_of _ _ (λ c e. says_nothing (λ d. is_digit d base) c h e) (leading_digits base here) s.1)

pub past_hex : (b : Bool) {count : ℕ} {here there : RemainingCodePoints} {n : ℕ} → FixedHexDigits count here there n → Ahead b here there
past_hex b (hex {there = there} ds e l t) = ap (texts_after_parentheses b) e ∙ past_all b ds there (all_of _ _ (λ c f. says_nothing (λ d. is_digit d 16) c refl f) ds t)

pub past_in : (b : Bool) {here there : RemainingCodePoints} {c : ℕ} → here ≡ c ∷ there → nothing c ≡ true → Ahead b here there
past_in b {there = there} {c = c} e f = ap (texts_after_parentheses b) e ∙ past b c there f

pub past_slash : (b : Bool) {here there : RemainingCodePoints} {c : ℕ} → here ≡ 92 ∷ c ∷ there → Ahead b here there
unfolding texts_after_parentheses
past_slash b e = ap (texts_after_parentheses b) e

pub past_pair : (b : Bool) {here there : RemainingCodePoints} {n : ℕ} → SurrogatePair here there n → Ahead b here there
past_pair b (pair h l e k t) = past_hex b h ∙ past_slash b e ∙ past_hex b k

pub past_unicode : (b : Bool) {unicode : Bool} {here there : RemainingCodePoints} {n : ℕ} → UnicodeEscape unicode here there n → Ahead b here there
past_unicode b (surrogates u p) = past_pair b p
past_unicode b (four_digits h k) = past_hex b h
past_unicode b (code_point u e d f l) = past_in b e refl ∙ past_digits_of b 16 refl d ∙ past_in b f refl

pub past_prefix : (b : Bool) {here there : RemainingCodePoints} {n : ℕ} {m : _} → QuantifierPrefix here there n m → Ahead b here there
past_prefix b (star e) = past_in b e refl
past_prefix b (plus e) = past_in b e refl
past_prefix b (question e) = past_in b e refl
past_prefix b (exactly e d f) = past_in b e refl ∙ past_digits_of b 10 refl d ∙ past_in b f refl
past_prefix b (at_least e d f) = past_in b e refl ∙ past_digits_of b 10 refl d ∙ past_in b f refl ∙ past b 125 _ refl
past_prefix b (between e d f g i) = past_in b e refl ∙ past_digits_of b 10 refl d ∙ past_in b f refl ∙ past_digits_of b 10 refl g ∙ past_in b i refl

pub past_quantifier : (b : Bool) {here there : RemainingCodePoints} {q : Quantifier} → ValidQuantifier here there q → Ahead b here there
past_quantifier b (greedy h e o) = past_prefix b h
past_quantifier b (lazy h e o) = past_prefix b h ∙ past_in b e refl

pub past_extended : (c : ℕ) (t : RemainingCodePoints) → c ∈ "{}]" ≡ true → Ahead false (c ∷ t) t
past_extended c t e = ⊎_elim (λ f. is 123 f (past false 123 t refl)) (λ e. ⊎_elim (λ f. is 125 f (past false 125 t refl)) (λ e. ⊎_elim (λ f. is 93 f (past_close false t)) (λ g. absurd (true≢false (sym g))) (or_cases (nat_eq c 93) false e)) (or_cases (nat_eq c 125) _ e)) (or_cases (nat_eq c 123) _ e)
  where
    is : (d : ℕ) → nat_eq c d ≡ true → Ahead false (d ∷ t) t → Ahead false (c ∷ t) t
    is d f h = subst (λ x. Ahead false (x ∷ t) t) (sym (eqb-true c d f)) h

-- The scan passes over a backslash and the number behind it.
pub past_number : {here a there : RemainingCodePoints} {n : ℕ} → here ≡ 92 ∷ a → Digits 10 a there n → Ahead false here there
past_number {a = []} e (digits_from k) = absurd (omega arith)
past_number {here} {a = c ∷ cs} {there} e d = past_slash false {c = c} e ∙ sym (past false c cs (says_nothing (λ x. is_digit x 10) c refl (digit_begins d))) ∙ past_digits_of false 10 refl d

-- ---- Groups

-- The scan of a text passes over the atoms without groups and the names of the dialect.
pub record IsScanned (S : PatternDialect) : Type 0 where
  pub past_leaf : (w : PatternContext) (here there : RemainingCodePoints) (n : Node) → S.simple_atom w here there n → Ahead false here there
  pub past_name : (here there name : RemainingCodePoints) → S.group_name here there name → Ahead false here there

module _ (S : PatternDialect) where
  pub groups-append : {xs ys a b : List RemainingCodePoints} → OpensGroups S xs a → OpensGroups S ys b → OpensGroups S (xs ++ ys) (a ++ b)
  groups-append no_parenthesis h = h
  groups-append (opens_plain_group here e g) h = opens_plain_group here e (groups-append g h)
  groups-append (opens_lookaround negate backwards here e g) h = opens_lookaround negate backwards here e (groups-append g h)
  groups-append (opens_group e g) h = opens_group e (groups-append g h)
  groups-append (opens_named_group here there e f g) h = opens_named_group here there e f (groups-append g h)

  -- The groups that open between two states open at the parentheses that the scan finds there.
  pub record Opens (p q : ParseState) : Type 0 where
    pub texts : List RemainingCodePoints
    pub added : List RemainingCodePoints
    pub opened : q.opened ≡ p.opened ++ added
    pub found : texts_after_parentheses false p.text ≡ texts ++ texts_after_parentheses false q.text
    pub are : OpensGroups S texts added

  stay : {p q : ParseState} → q.opened ≡ p.opened → Ahead false p.text q.text → Opens p q
  stay {p} e f = record { texts = []; added = []; opened = e ∙ sym (append-nil p.opened); found = f; are = no_parenthesis }

  both : {p q r : ParseState} → Opens p q → Opens q r → Opens p r
  both {p} {q} {r} a b =
      record {
        texts = a.texts ++ b.texts;
        added = a.added ++ b.added;
        opened = b.opened ∙ ap (λ x. x ++ b.added) a.opened ∙ append_assoc p.opened a.added b.added;
        found = a.found ∙ ap (λ x. a.texts ++ x) b.found ∙ sym (append_assoc a.texts b.texts (texts_after_parentheses false r.text));
        are = groups-append a.are b.are;
      }

  past_word : (word : String) → list_all nothing (codes word) ≡ true → {p q : ParseState} → p ≡ word ▸ q → Opens p q
  past_word word h {p} {q} e =
      stay (sym (ap (λ x. x.opened) e)) (ap (λ x. texts_after_parentheses false x.text) e ∙ past_all false (codes word) q.text h)

  -- The scan finds the text behind a parenthesis and goes on there.
  past_paren : (t : RemainingCodePoints) → texts_after_parentheses false (40 ∷ t) ≡ t ∷ texts_after_parentheses false t
  unfolding texts_after_parentheses
  past_paren [] = refl
  past_paren (c ∷ t) = refl

  -- A parenthesis that opens no group adds no group.
  past_no_group : (word : RemainingCodePoints) → list_all nothing word ≡ true → {p q : ParseState} → p ≡ record q { text = 40 ∷ word ++ q.text } → OpensGroups S ((word ++ q.text) ∷ []) [] → Opens p q
  past_no_group word h {p} {q} e are =
      record {
        texts = (word ++ q.text) ∷ [];
        added = [];
        opened = sym (ap (λ x. x.opened) e) ∙ sym (append-nil p.opened);
        found = ap (λ x. texts_after_parentheses false x.text) e ∙ past_paren (word ++ q.text) ∙ ap (λ x. (word ++ q.text) ∷ x) (past_all false word q.text h);
        are = are;
      }

  pub past_opener : (negate backwards : Bool) {p q : ParseState} → p ≡ lookaround_opener negate backwards ▸ q → Opens p q
  past_opener false false e = past_no_group (63 ∷ 61 ∷ []) refl e (opens_lookaround false false _ refl no_parenthesis)
  past_opener true false e = past_no_group (63 ∷ 33 ∷ []) refl e (opens_lookaround true false _ refl no_parenthesis)
  past_opener false true e = past_no_group (63 ∷ 60 ∷ 61 ∷ []) refl e (opens_lookaround false true _ refl no_parenthesis)
  past_opener true true e = past_no_group (63 ∷ 60 ∷ 33 ∷ []) refl e (opens_lookaround true true _ refl no_parenthesis)

  pub past_plain : {p q : ParseState} → p ≡ "(?:" ▸ q → Opens p q
  past_plain e = past_no_group (63 ∷ 58 ∷ []) refl e (opens_plain_group _ refl no_parenthesis)

  pub past_group : {p q : ParseState} → p ≡ "(" ▸ q → begins_with_characters "?" q.text ≡ false → Opens p (with_opened_group [] q)
  past_group {p} {q} e o =
      record {
        texts = q.text ∷ [];
        added = [] ∷ [];
        opened = ap (λ x. x ++ [] ∷ []) (sym (ap (λ x. x.opened) e));
        found = ap (λ x. texts_after_parentheses false x.text) e ∙ past_paren q.text;
        are = opens_group o no_parenthesis;
      }

  module _ (scan : IsScanned S) where
    pub past_named : {p q : ParseState} {there name : RemainingCodePoints} → p ≡ "(?<" ▸ q → S.group_name q.text there name → Opens p (with_opened_group name (state_with_text_left there q))
    past_named {p} {q} {there} {name} e g =
        record {
          texts = (63 ∷ 60 ∷ q.text) ∷ [];
          added = name ∷ [];
          opened = ap (λ x. x ++ name ∷ []) (sym (ap (λ x. x.opened) e));
          found = ap (λ x. texts_after_parentheses false x.text) e ∙ past_paren (63 ∷ 60 ∷ q.text)
              ∙ ap (λ x. (63 ∷ 60 ∷ q.text) ∷ x) (past_all false (63 ∷ 60 ∷ []) q.text refl ∙ scan.past_name q.text there name g);
          are = opens_named_group q.text there refl g no_parenthesis;
        }

    mutual
      opens_disjunction : {w : PatternContext} {in_lookbehind : Bool} {p q : ParseState} {n : Node} → Disjunction S w in_lookbehind p q n → Opens p q
      opens_disjunction (last_alternative a) = opens_alternative a
      opens_disjunction (alternatives a bar d) = both (opens_alternative a) (both (past_word "|" refl bar) (opens_disjunction d))

      opens_alternative : {w : PatternContext} {in_lookbehind : Bool} {p q : ParseState} {ns : List Node} → Alternative S w in_lookbehind p q ns → Opens p q
      opens_alternative no_terms = stay refl refl
      opens_alternative (terms t a) = both (opens_term t) (opens_alternative a)

      opens_term : {w : PatternContext} {in_lookbehind : Bool} {p q : ParseState} {n : Node} → Term S w in_lookbehind p q n → Opens p q
      opens_term (assertion a k) = opens_assertion a
      opens_term (repeated_assertion a may k) = both (opens_assertion a) (stay refl (past_quantifier false k))
      opens_term (atom a k) = opens_atom a
      opens_term (quantified a k) = both (opens_atom a) (stay refl (past_quantifier false k))

      opens_assertion : {w : PatternContext} {p q : ParseState} {n : Node} → Assertion S w p q n → Opens p q
      opens_assertion (start e) = past_word "^" refl e
      opens_assertion (end e) = past_word "$" refl e
      opens_assertion (boundary true e) = stay (sym (ap (λ x. x.opened) e)) (past_slash false {c = 66} (ap (λ x. x.text) e))
      opens_assertion (boundary false e) = stay (sym (ap (λ x. x.opened) e)) (past_slash false {c = 98} (ap (λ x. x.text) e))
      opens_assertion (look negate backwards e d f) = both (past_opener negate backwards e) (both (opens_disjunction d) (past_word ")" refl f))

      opens_atom : {w : PatternContext} {in_lookbehind : Bool} {p q : ParseState} {n : Node} → Atom S w in_lookbehind p q n → Opens p q
      opens_atom {w} (leaf a) = stay refl (scan.past_leaf w _ _ _ a)
      opens_atom (group e o d f) = both (past_group e o) (both (opens_disjunction d) (past_word ")" refl f))
      opens_atom (named_group e o d f) = both (past_named e o) (both (opens_disjunction d) (past_word ")" refl f))
      opens_atom (plain_group e d f) = both (past_plain e) (both (opens_disjunction d) (past_word ")" refl f))

    -- The parentheses that the scan finds in a pattern open its groups.
    pub groups-found : (w : PatternContext) (pattern : RemainingCodePoints) (groups : List RemainingCodePoints) (n : Node)
        → Disjunction S w false (record { text = pattern; opened = [] }) (record { text = []; opened = groups }) n
        → OpensGroups S (texts_after_parentheses false pattern) groups
    unfolding texts_after_parentheses
    groups-found w pattern groups n d =
        let h = opens_disjunction d in
        subst (λ x. OpensGroups S x groups) (sym (h.found ∙ append-nil h.texts)) (subst (OpensGroups S h.texts) (sym h.opened) h.are)

  -- ---- One list of groups

  module _ (one : IsReadInOneWay S) where
    no-question : {text here : RemainingCodePoints} → begins_with_characters "?" text ≡ false → text ≡ 63 ∷ here → ⊥
    no-question o e = true≢false (subst (λ x. begins_with_characters "?" x ≡ false) e o)

    look-question : (negate backwards : Bool) {text : RemainingCodePoints} (here : RemainingCodePoints) → 40 ∷ text ≡ codes (lookaround_opener negate backwards) ++ here → (rest : RemainingCodePoints) × (text ≡ 63 ∷ rest)
    look-question false false here e = (_, ap rest_of e)
    look-question true false here e = (_, ap rest_of e)
    look-question false true here e = (_, ap rest_of e)
    look-question true true here e = (_, ap rest_of e)

    name-look : (negate backwards : Bool) (here : RemainingCodePoints) {text start there name : RemainingCodePoints} → text ≡ 63 ∷ 60 ∷ start → S.group_name start there name → 40 ∷ text ≡ codes (lookaround_opener negate backwards) ++ here → ⊥
    name-look false false here e g f = unlike _ _ refl (ap third (ap (λ x. 40 ∷ x) (sym e) ∙ f))
    name-look true false here e g f = unlike _ _ refl (ap third (ap (λ x. 40 ∷ x) (sym e) ∙ f))
    name-look false true here {there = there} {name = name} e g f =
        one.no_sign 61 there name here refl (subst (λ x. S.group_name x there name) (ap (λ x. rest_of (rest_of (rest_of x))) (ap (λ x. 40 ∷ x) (sym e) ∙ f)) g)
    name-look true true here {there = there} {name = name} e g f =
        one.no_sign 33 there name here refl (subst (λ x. S.group_name x there name) (ap (λ x. rest_of (rest_of (rest_of x))) (ap (λ x. 40 ∷ x) (sym e) ∙ f)) g)

    pub one-groups : {texts a b : List RemainingCodePoints} → OpensGroups S texts a → OpensGroups S texts b → a ≡ b
    one-groups no_parenthesis no_parenthesis = refl
    one-groups (opens_plain_group x e g) (opens_plain_group y f h) = one-groups g h
    one-groups (opens_plain_group x e g) (opens_lookaround n b y f h) = one-groups g h
    one-groups (opens_lookaround n b y f h) (opens_plain_group x e g) = one-groups h g
    one-groups (opens_lookaround n b y f h) (opens_lookaround n' b' x e g) = one-groups h g
    one-groups (opens_plain_group x e g) (opens_group o h) = absurd (no-question o e)
    one-groups (opens_group o h) (opens_plain_group x e g) = absurd (no-question o e)
    one-groups (opens_plain_group x e g) (opens_named_group y z f i h) = absurd (unlike _ _ refl (ap second (sym e ∙ f)))
    one-groups (opens_named_group y z f i h) (opens_plain_group x e g) = absurd (unlike _ _ refl (ap second (sym e ∙ f)))
    one-groups (opens_lookaround n b x e g) (opens_group o h) = let r = look-question n b x e in absurd (no-question o r.1)
    one-groups (opens_group o h) (opens_lookaround n b x e g) = let r = look-question n b x e in absurd (no-question o r.1)
    one-groups (opens_lookaround n b x e g) (opens_named_group y z f i h) = absurd (name-look n b x f i e)
    one-groups (opens_named_group y z f i h) (opens_lookaround n b x e g) = absurd (name-look n b x f i e)
    one-groups (opens_group o g) (opens_group p h) = ap (λ x. [] ∷ x) (one-groups g h)
    one-groups (opens_group o g) (opens_named_group x y e i h) = absurd (no-question o e)
    one-groups (opens_named_group x y e i h) (opens_group o g) = absurd (no-question o e)
    one-groups (opens_named_group x y e i g) (opens_named_group {name = name} x' there f j h) =
        ap₂ (λ x y. x ∷ y) (one.one_name _ _ _ _ _ i (subst (λ x. S.group_name x there name) (ap (λ x. rest_of (rest_of x)) (sym f ∙ e)) j)).1 (one-groups g h)
