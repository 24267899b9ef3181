-- Each function of the parser satisfies its contract in terms of the grammar.
use Rattle.std.proofs.Common.{◌≡◌, ℕ, ◌+◌, ◌<◌, ◌≤◌, ◌⊎◌, Bool, true, false, List, [], ◌∷◌, ◌++◌, length, true≢false, refl, sym, ap, subst, ◌∙◌, arith, Some, None, Ok, Err, nat_eq}
use Rattle.std.specs.Prelude.{Option, Result, String, IsTrue, IfOk, IfErr, IfSome, ◌||◌, ◌-◌, ◌^◌, min, nat_lt, string_bytes}
use Rattle.std.specs.Option.{option_eq}
use Rattle.std.specs.Result.{IsErrAnd, result_err}
use Rattle.std.proofs.lemmas.Bool.{eqb-true, eq-eqb}
use Rattle.regex_meaning.specs.Tree as tree
use Rattle.regex_meaning.specs.ReadingStatesAndDigits.{RemainingCodePoints, ParseState, number_of_opened_groups, begins_with_characters, group_number_of}
use Rattle.regex_meaning.specs.EscapesNamesQuantifiers.{BeginsQuantifier, ValidQuantifier}
use Rattle.regex_meaning.specs.Grammar.{PatternDialect}
use Rattle.regex_parser.specs.ParseStack.{IsTerm, once, repeated, push_term, empty_disjunction}
use Rattle.regex_parser.specs.ParseStack as grammar
use Rattle.regex_parser.specs.ParserInvariants.{HasNoTreeIn, AreWithinGroupLimit, FindsGroups, spec_pattern_context, parse_state, IsParserInvariant}
use Rattle.regex_parser.specs.SyntaxDialects.{spec_syntax_of, AreGroupsKnownIn}
use Rattle.std.specs.BTreeMap.{BTreeMap, btree_map_len}
use Rattle.regex_meaning.proofs.DisjunctionReadingLemmas.{ends_here, first}
use Rattle.regex_meaning.proofs.GroupOpeningScanLemmas.{Ahead}
use Rattle.regex_parser.proofs.DialectRequirementLemmas.{IsReadable, readable}
use Rattle.regex_parser.proofs.ParserInvariantsLemmas.{stands-group, stands-named, stands-plain, stands-look, stands-leave, shape, may_have_quantifier, of_term, of_alone, contents_of, wrong-name}
use Rattle.regex_parser.proofs.ParserInvariantsLemmas.{group-repeated, not-repeated, stands-begin, still-open, no-opening}
use Rattle.regex_parser.proofs.QuantifiedTermLemmas.{ahead_term, stands-atom, atom-refused, stands-assertion, assertion-refused}
use Rattle.regex_parser.specs.declared.parser_error.ParseStopReason.{ParseStopReason}
use Rattle.regex_parser.specs.declared.group_openings_and_names.GroupKind.{GroupKind}
use Rattle.regex_parser.specs.declared.group_openings_and_names.GroupKind.TheVariants.{Capture, Named, Plain, Look}
use Rattle.regex_parser.specs.declared.groupless_terms.GrouplessTermReader.{GrouplessTermReader}
use Rattle.regex_pattern_front.specs.declared.ir.Node.{Node}
use Rattle.regex_pattern_front.specs.declared.ir.Quantifier.{Quantifier}
use Rattle.regex_parser.specs.declared.open_groups.OpenGroup.{OpenGroup}
use Rattle.regex_parser.specs.declared.parse.Parser.{Parser}
use Rattle.regex_parser.specs.declared.syntax.Syntax.{Syntax}
use Rattle.regex_pattern_front.specs.declared.flags.Flags.{Flags}
use Rattle.regex_parser.specs.GroupReaderContracts.{AreGroupsCollected, IsOpeningRead, DoesNotBeginWith, is_reversed_in, takes_quantifier}
use Rattle.regex_parser.specs.GrouplessTermContracts.{IsAtomOrIn, NoTermIn, IsReaderOfSame}
use Rattle.regex_parser.specs.GroupIdInvariant.{OpenDisjunctionsHaveAllGroups, captures_opened_by_group_kind}
use Rattle.regex_parser.specs.PartialDisjunctionModel.{disjunction_of}
use Rattle.regex_parser.specs.ParserContracts.{IsTermWithOptionalQuantifierRead, IsOptionalGroupNameRead, is_named_group, grammar_open_groups_from, open_group_of, group_kind_of, KnowsGroups}
use Rattle.regex_parser.specs.ParserContracts.{HasNoTreeFor, group_node_around, HasReadPatternUpTo, AdvancesOrHasNoTree, IsParseResult}
use Rattle.regex_parser.specs.CodePointReaderContracts.{IsOptionalQuantifierRead, is_syntax_error}
use Rattle.regex_pattern_front.specs.AstToSpecTree.{spec_node_of, group_name_bytes, spec_quantifier_of, spec_flags_of}

pub stands-once : (is_atom : Bool) (here there : RemainingCodePoints) (start end : ℕ) (n : Node) (found : Option Quantifier) → is_atom ≡ true → found ≡ None
    → IsOptionalQuantifierRead here found there → IsTermWithOptionalQuantifierRead is_atom here start end (spec_node_of n) (Ok n) there
stands-once true here there start end n None e f h = λ opened count. rw h.0 (once h.1)
stands-once true here there start end n (Some q) e f h = cc
stands-once false here there start end n found e f h = absurd (true≢false (sym e))

pub stands-alone : (is_atom : Bool) (here : RemainingCodePoints) (start end : ℕ) (n : Node) → is_atom ≡ false → ¬ (BeginsQuantifier here) → IsTermWithOptionalQuantifierRead is_atom here start end (spec_node_of n) (Ok n) here
stands-alone false here start end n e none = (refl, refl, none)
stands-alone true here start end n e none = absurd (true≢false e)

pub is-loop : (is_atom : Bool) (here there : RemainingCodePoints) (start end : ℕ) (term : tree.Node) (m : Node) (found : Option Quantifier) (q : Quantifier) → is_atom ≡ true → found ≡ Some q
    → IsOptionalQuantifierRead here found there → spec_node_of m ≡ tree.loop (spec_quantifier_of q) start end term → IsTermWithOptionalQuantifierRead is_atom here start end term (Ok m) there
is-loop false here there start end term m found q e f h is = absurd (true≢false (sym e))
is-loop true here there start end term m found q e f h is =
    λ opened count.
    let k : ValidQuantifier here there (spec_quantifier_of q) = subst (λ x. IsOptionalQuantifierRead here x there) f h in
    subst (λ x. IsTerm start term (parse_state here opened) (parse_state there opened) x) (sym (is ∙ ap (λ g. tree.loop (spec_quantifier_of q) start g term) (sym count))) (repeated k)

-- The last open parenthesis is the innermost open group.
pub around-push : (inner : List grammar.OpenGroup) (os : List OpenGroup) (o : OpenGroup) → grammar_open_groups_from inner (os ++ o ∷ []) ≡ open_group_of o ∷ grammar_open_groups_from inner os
around-push inner [] o = refl
around-push inner (p ∷ os) o = around-push (open_group_of p ∷ inner) os o

-- The list of open groups is not empty if a parenthesis is open.
pub around-some : (inner : List grammar.OpenGroup) (os : List OpenGroup) → 0 < length inner + length os → grammar_open_groups_from inner os ≡ [] → ⊥
around-some [] [] h e = omega (arith, h)
around-some (i ∷ is) [] h e = cc
around-some inner (o ∷ os) h e = around-some (open_group_of o ∷ inner) os (omega arith) e

-- The invariant holds with the last open parenthesis as the innermost group.
pub at-last : {S : PatternDialect} {flags : tree.Flags} {pattern : RemainingCodePoints} {names : List RemainingCodePoints} {references groups : ℕ} {level : grammar.PartialDisjunction} {here : RemainingCodePoints} (all os : List OpenGroup) (o : OpenGroup) → all ≡ os ++ o ∷ []
    → IsParserInvariant S flags pattern names references groups (grammar_open_groups_from [] all) level here → IsParserInvariant S flags pattern names references groups (open_group_of o ∷ grammar_open_groups_from [] os) level here
at-last {S} {flags} {pattern} {names} {references} {groups} {level} {here} all os o e s =
    subst (λ x. IsParserInvariant S flags pattern names references groups x level here) (ap (λ x. grammar_open_groups_from [] x) e ∙ around-push [] os o) s

-- ---- Parsers that read on

pub same-then : (a b c : GrouplessTermReader) → IsReaderOfSame b a → IsReaderOfSame c b → IsReaderOfSame c a
same-then a b c e f = (f.0 ∙ e.0, f.1 ∙ e.1, f.2 ∙ e.2, f.3 ∙ e.3)

pub known-same : {names : List RemainingCodePoints} (new old : GrouplessTermReader) → IsReaderOfSame new old → KnowsGroups old names → KnowsGroups new names
known-same new old e k = rw (e.0, e.1, e.2, e.3) k

pub no-tree-same : {pattern : RemainingCodePoints} {s t : Syntax} {f g : Flags} → t ≡ s → g ≡ f → HasNoTreeIn (spec_syntax_of t) (spec_flags_of g) pattern → HasNoTreeIn (spec_syntax_of s) (spec_flags_of f) pattern
no-tree-same {pattern} {s} {t} {f} {g} e k h =
    subst (λ x. HasNoTreeIn (spec_syntax_of x) (spec_flags_of f) pattern) e (subst (λ x. HasNoTreeIn (spec_syntax_of t) (spec_flags_of x) pattern) k h)

-- A parser that keeps the invariant and the reader's knowledge has read the pattern up to `there`.
pub reads-on : (old new : Parser) {pattern : RemainingCodePoints} {names : List RemainingCodePoints} {here there : RemainingCodePoints} → IsReaderOfSame new.leaves old.leaves → HasReadPatternUpTo pattern names here old → new.groups ≤ 65535
    → IsParserInvariant (spec_syntax_of old.leaves.syntax) (spec_flags_of old.leaves.flags) pattern names new.leaves.references new.groups (grammar_open_groups_from [] new.around.items) (disjunction_of new.level) there
    → HasReadPatternUpTo pattern names there new
reads-on old new {pattern} {names} {here} {there} e h few s = record {
  known = known-same new.leaves old.leaves e h.known;
  few = few;
  stands = subst (λ x. IsParserInvariant (spec_syntax_of x) (spec_flags_of new.leaves.flags) pattern names new.leaves.references new.groups (grammar_open_groups_from [] new.around.items) (disjunction_of new.level) there) (sym e.2)
      (subst (λ x. IsParserInvariant (spec_syntax_of old.leaves.syntax) (spec_flags_of x) pattern names new.leaves.references new.groups (grammar_open_groups_from [] new.around.items) (disjunction_of new.level) there) (sym e.0) s);
}

-- ---- Errors that are handed on

pub err-reads : {P : ParseStopReason → Type 0} {A : Type 0} (here : RemainingCodePoints) (old new : Parser) (r : Result A ParseStopReason) (e : ParseStopReason) → IsErrAnd r P → ((x : ParseStopReason) → P x → x ≡ e)
    → (IsTrue (is_syntax_error e) → (pattern : RemainingCodePoints) (names : List RemainingCodePoints) → HasReadPatternUpTo pattern names here old → HasNoTreeFor old.leaves pattern)
    → AdvancesOrHasNoTree here old r new
err-reads here old new (Ok a) e h same none = absurd h
err-reads here old new (Err x) e h same none = λ r. none (sym (ap is_syntax_error (same x h)) ∙ r)

pub err-parsed : {P : ParseStopReason → Type 0} (S : PatternDialect) {A : Type 0} (of : A → tree.Tree) (flags : tree.Flags) (pattern : RemainingCodePoints) (r : Result A ParseStopReason) (e : ParseStopReason) → IsErrAnd r P
    → ((x : ParseStopReason) → P x → x ≡ e) → (IsTrue (is_syntax_error e) → HasNoTreeIn S flags pattern) → IsParseResult S of flags pattern r
err-parsed S of flags pattern (Ok a) e h same none = absurd h
err-parsed S of flags pattern (Err x) e h same none = λ r. none (sym (ap is_syntax_error (same x h)) ∙ r)

-- ---- The whole pattern

-- The new parser reads the same pattern, has all groups, and has read on from `here`.
pub record GoesOn (here : RemainingCodePoints) (old new : Parser) : Type 0 where
  pub reading : OpenDisjunctionsHaveAllGroups new
  pub same : IsReaderOfSame new.leaves old.leaves
  pub text : (pattern : RemainingCodePoints) (names : List RemainingCodePoints) → HasReadPatternUpTo pattern names here old → HasReadPatternUpTo pattern names new.leaves.reader.rest.now new

-- The groups that the scan collected are the groups that the parser has to know.
pub groups-known-in : {R : Type 0} {S : PatternDialect} → IsReadable S → (flags : Flags) (count : ℕ) (named : Bool) (numbers : BTreeMap (String R) ℕ) (names : List RemainingCodePoints) → AreGroupsCollected count numbers names
    → AreWithinGroupLimit names → named ≡ (flags.unicode || nat_lt 0 (btree_map_len numbers)) → AreGroupsKnownIn S flags count named numbers names
groups-known-in d flags count named numbers names h few e =
    let counted : count ≡ min (length names) (2 ^ 32 - 1) = h.counted in
    record {
      few = few;
      counted = omega (arith, counted, few);
      names = e ∙ ap (λ b. flags.unicode || b) h.named;
      numbered = λ here there name g. h.numbered few name (positive name (d.some_name here there name g));
    }
  where
    positive : (name : RemainingCodePoints) → (name ≡ [] → ⊥) → 0 < length name
    positive [] none = absurd (none refl)
    positive (c ∷ cs) none = omega arith

-- A parser that knows the groups and has read nothing has read the pattern up to its start.
pub begun : (pattern : RemainingCodePoints) (names : List RemainingCodePoints) (p : Parser) → FindsGroups (spec_syntax_of p.leaves.syntax) pattern names → KnowsGroups p.leaves names → p.leaves.references ≡ 0 → p.groups ≡ 0 → p.around.items ≡ []
    → disjunction_of p.level ≡ empty_disjunction false → HasReadPatternUpTo pattern names pattern p
begun pattern names p found known references groups around level = record {
  known = known;
  few = omega (arith, groups);
  stands = rw (references, groups, around, level) (stands-begin (readable p.leaves.syntax) found);
}

-- A parser that has read on to an empty rest has read the whole pattern.
pub read-whole : (pattern : RemainingCodePoints) (names : List RemainingCodePoints) (old new : Parser) → HasReadPatternUpTo pattern names pattern old
    → ((whole : RemainingCodePoints) (all : List RemainingCodePoints) → HasReadPatternUpTo whole all pattern old → HasReadPatternUpTo whole all new.leaves.reader.rest.now new) → new.leaves.reader.rest.now ≡ []
    → HasReadPatternUpTo pattern names [] new
read-whole pattern names old new h text e = subst (λ x. HasReadPatternUpTo pattern names x new) e (text pattern names h)

-- A pattern at whose end a parenthesis is open has no tree.
pub ends-open : {S : PatternDialect} (d : IsReadable S) {flags : tree.Flags} {pattern : RemainingCodePoints} {names : List RemainingCodePoints} {references groups : ℕ} {level : grammar.PartialDisjunction} (os : List OpenGroup) → 0 < length os
    → IsParserInvariant S flags pattern names references groups (grammar_open_groups_from [] os) level [] → HasNoTreeIn S flags pattern
ends-open {S} d {flags} {pattern} {names} {references} {groups} {level} os some s = by (grammar_open_groups_from [] os) refl
  where
    by : (x : List grammar.OpenGroup) → grammar_open_groups_from [] os ≡ x → HasNoTreeIn S flags pattern
    by [] e = absurd (around-some [] os (omega (arith, some)) e)
    by (o ∷ around) e = still-open d (subst (λ x. IsParserInvariant S flags pattern names references groups x level []) e s)

-- If `result_err` gives an error, `N` holds, and if it gives none, some value satisfies `P`.
pub told : {A B D : Type 0} (of : A → B) (P : B → Type 0) (N : Type 0) (r : Result A D) (o : Option D) → o ≡ result_err r → IfOk r (λ a. P (of a)) → IfErr r (λ d. N)
    → IfSome o (λ d. N) × (o ≡ None → (b : B) × P b)
told {A} {B} {D} of P N r o e h g = subst (λ x. IfSome x (λ d. N) × (x ≡ None → (b : B) × P b)) (sym e) (by r h g)
  where
    by : (r : Result A D) → IfOk r (λ a. P (of a)) → IfErr r (λ d. N) → IfSome (result_err r) (λ d. N) × (result_err r ≡ None → (b : B) × P b)
    by (Ok a) h g = (g, λ f. (of a, h))
    by (Err d) h g = (g, λ f. cc)

-- ---- Terms without groups

pub not-ended : (a b d : Bool) → (a || (b || (d || false))) ≡ false → (d || (b || false)) ≡ false
not-ended true b d e = absurd (true≢false e)
not-ended false true d e = absurd (true≢false e)
not-ended false false true e = absurd (true≢false e)
not-ended false false false e = refl

pub no-parenthesis : (a b d : Bool) → (a || (b || (d || false))) ≡ false → a ≡ false
no-parenthesis true b d e = absurd (true≢false e)
no-parenthesis false b d e = refl

module _ {S : PatternDialect} (d : IsReadable S) {flags : tree.Flags} {pattern : RemainingCodePoints} {names : List RemainingCodePoints} {old groups : ℕ} {around : List grammar.OpenGroup} {level : grammar.PartialDisjunction} {here : RemainingCodePoints} (s : IsParserInvariant S flags pattern names old groups around level here) (new : ℕ) (mid : RemainingCodePoints) (t : tree.Node) (grows : old ≤ new) (more : ends_here here ≡ false) where
  pub term-refused : (is_atom : Bool) → nat_eq (first here) 40 ≡ false
      → Ahead false here mid × (new ≤ length names → IsAtomOrIn S is_atom (spec_pattern_context flags names) here mid t)
      × (length names < new → (length names < old) ⊎ NoTermIn S (spec_pattern_context flags names) here)
      → (e : ParseStopReason) (start end : ℕ) (there : RemainingCodePoints) → IsTrue (is_syntax_error e) → IsTermWithOptionalQuantifierRead is_atom mid start end t (Err e) there → HasNoTreeIn S flags pattern
  term-refused true other leaf e start end there r k =
      atom-refused d s new mid t leaf.0 grows more leaf.2 leaf.1 (k r).0 (k r).1
  term-refused false other leaf e start end there r k = assertion-refused d s new mid t leaf.0 grows more leaf.2 other leaf.1 k

  pub term-repeated : (is_atom : Bool)
      → Ahead false here mid × (new ≤ length names → IsAtomOrIn S is_atom (spec_pattern_context flags names) here mid t)
      × (length names < new → (length names < old) ⊎ NoTermIn S (spec_pattern_context flags names) here)
      → (n : Node) (there : RemainingCodePoints) → IsTermWithOptionalQuantifierRead is_atom mid groups groups t (Ok n) there → IsParserInvariant S flags pattern names new groups around (push_term (spec_node_of n) level) there
  term-repeated true leaf n there k = stands-atom d s new mid t leaf.0 grows more leaf.2 leaf.1 k
  term-repeated false leaf n there k =
      rw (k.0, k.1) (stands-assertion d s new mid t leaf.0 grows more leaf.2 leaf.1 k.2)

-- ---- Parentheses

eq-some : (o : Option ℕ) (n : ℕ) → option_eq nat_eq o (Some n) ≡ true → o ≡ Some n
eq-some None n e = absurd (true≢false (sym e))
eq-some (Some m) n e = ap Some (eqb-true m n e)

-- A name whose number is that of the opened group is read as the name of the group.
pub name-found : {R : Type 0} {S : PatternDialect} (d : IsReadable S) (numbers : RemainingCodePoints → Option ℕ) (groups n : ℕ) (opening : GroupKind) (here there : RemainingCodePoints) (name : String R) (o : Option ℕ) → opening ≡ Named
    → S.group_name here there (string_bytes name) → o ≡ numbers (string_bytes name) → n ≡ groups → option_eq nat_eq o (Some (n + 1)) ≡ true
    → IsOptionalGroupNameRead S numbers groups (is_named_group opening) here (Ok (Some name)) there
name-found d numbers groups n opening here there name o f is e g h = rw f (is, sym e ∙ eq-some o (n + 1) h ∙ ap (λ x. Some (x + 1)) g)

-- A name whose number is not that of the opened group is refused.
pub name-other : {R : Type 0} {S : PatternDialect} (d : IsReadable S) (numbers : RemainingCodePoints → Option ℕ) (groups n : ℕ) (opening : GroupKind) (here there : RemainingCodePoints) (name : String R) (o : Option ℕ) (x : ParseStopReason) → opening ≡ Named
    → S.group_name here there (string_bytes name) → o ≡ numbers (string_bytes name) → n ≡ groups → option_eq nat_eq o (Some (n + 1)) ≡ false
    → IsOptionalGroupNameRead {R = R} S numbers groups (is_named_group opening) here (Err x) there
name-other d numbers groups n opening here there name o x f is e g h =
    rw f (λ refused rest other k number.
    let same : o ≡ Some (n + 1) = e ∙ ap numbers (d.one.one_name _ _ _ _ _ is k).1 ∙ number ∙ ap (λ y. Some (y + 1)) (sym g) in
    true≢false (sym (ap (λ y. option_eq nat_eq y (Some (n + 1))) same ∙ eq-eqb (n + 1) (n + 1) refl) ∙ h))

none-begins : (here : RemainingCodePoints) → DoesNotBeginWith 63 here → begins_with_characters "?" here ≡ false
none-begins [] h = refl
none-begins (c ∷ cs) h = by (nat_eq 63 c) refl
  where
    by : (b : Bool) → nat_eq 63 c ≡ b → begins_with_characters "?" (c ∷ cs) ≡ false
    by true e = absurd (h cs (ap (λ (x : ℕ). x ∷ cs) (sym (eqb-true 63 c e))))
    by false e = rw e refl

module _ {S : PatternDialect} (d : IsReadable S) {flags : tree.Flags} {pattern : RemainingCodePoints} {names : List RemainingCodePoints} {references groups : ℕ} {around : List grammar.OpenGroup} {level : grammar.PartialDisjunction} {here : RemainingCodePoints} (s : IsParserInvariant S flags pattern names references groups around level (40 ∷ here)) (mid : RemainingCodePoints) where
  pub name-refused : (R : Type 0) (opening : GroupKind) → IsOpeningRead here (Ok opening) mid → (numbers : RemainingCodePoints → Option ℕ)
      → ((here there x : RemainingCodePoints) → S.group_name here there x → numbers x ≡ group_number_of x names)
      → (e : ParseStopReason) (there : RemainingCodePoints) → IsTrue (is_syntax_error e) → IsOptionalGroupNameRead {R = R} S numbers groups (is_named_group opening) mid (Err e) there → HasNoTreeIn S flags pattern
  name-refused R Named o numbers are e there r k =
      wrong-name d (subst (λ x. IsParserInvariant S flags pattern names references groups around level (40 ∷ x)) o.0 s) o.1 o.2 numbers are (k r)
  name-refused R Capture o numbers are e there r k = absurd (k r)
  name-refused R Plain o numbers are e there r k = absurd (k r)
  name-refused R (Look negate backwards) o numbers are e there r k = absurd (k r)

  pub opening-refused : (rest : RemainingCodePoints) × (here ≡ 63 ∷ rest) × DoesNotBeginWith 58 rest × DoesNotBeginWith 60 rest × DoesNotBeginWith 33 rest × DoesNotBeginWith 61 rest → HasNoTreeIn S flags pattern
  opening-refused k =
      no-opening d (subst (λ x. IsParserInvariant S flags pattern names references groups around level (40 ∷ x)) k.1 s) k.2 k.3 k.4 k.5

  pub entered : {R : Type 0} (opening : GroupKind) → IsOpeningRead here (Ok opening) mid → (numbers : RemainingCodePoints → Option ℕ)
      → ((here there x : RemainingCodePoints) → S.group_name here there x → numbers x ≡ group_number_of x names)
      → (name : Option (String R)) (there : RemainingCodePoints) → IsOptionalGroupNameRead {R = R} S numbers groups (is_named_group opening) mid (Ok name) there
      → IsParserInvariant S flags pattern names references (groups + captures_opened_by_group_kind opening)
      (record { outer = level; opened = group_kind_of opening (group_name_bytes name) groups; start = groups } ∷ around)
      (empty_disjunction (is_reversed_in opening level.in_lookbehind)) there
  entered Capture o numbers are name there k = rw (k.0, k.1, o.0) (stands-group d s (none-begins here o.1))
  entered Named o numbers are name there k =
      stands-named d (subst (λ x. IsParserInvariant S flags pattern names references groups around level (40 ∷ x)) o.0 s) k.0 (sym (are mid there (group_name_bytes name) k.0) ∙ k.1)
  entered Plain o numbers are name there k =
      rw k.0 (subst (λ g. IsParserInvariant S flags pattern names references g (record { outer = level; opened = grammar.plain; start = groups } ∷ around) (empty_disjunction level.in_lookbehind) mid) (omega arith)
      (stands-plain d (subst (λ x. IsParserInvariant S flags pattern names references groups around level (40 ∷ x)) o s)))
  entered (Look negate backwards) o numbers are name there k =
      rw k.0 (subst (λ g. IsParserInvariant S flags pattern names references g (record { outer = level; opened = grammar.looks negate backwards groups; start = groups } ∷ around) (empty_disjunction backwards) mid) (omega arith)
      (stands-look d negate backwards (subst (λ x. IsParserInvariant S flags pattern names references groups around level x) o s)))

shape-is : (opening : GroupKind) (name : RemainingCodePoints) (start end : ℕ) (c : tree.Node) (p : ParseState) → number_of_opened_groups p ≡ end
    → shape (group_kind_of opening name start) c p ≡ group_node_around opening name start end c
shape-is Capture name start end c p e = refl
shape-is Named name start end c p e = refl
shape-is Plain name start end c p e = refl
shape-is (Look negate backwards) name start end c p e = rw e refl

may-be : (S : PatternDialect) (flags : tree.Flags) (opening : GroupKind) (name : RemainingCodePoints) (start : ℕ) → may_have_quantifier S flags (group_kind_of opening name start) ≡ takes_quantifier S flags opening
may-be S flags Capture name start = refl
may-be S flags Named name start = refl
may-be S flags Plain name start = refl
may-be S flags (Look negate backwards) name start = refl

module _ {S : PatternDialect} (d : IsReadable S) {flags : tree.Flags} {pattern : RemainingCodePoints} {names : List RemainingCodePoints} {references groups : ℕ} {around : List grammar.OpenGroup} {level outer : grammar.PartialDisjunction} {here : RemainingCodePoints} (opening : GroupKind) (name : RemainingCodePoints) (start : ℕ) (s : IsParserInvariant S flags pattern names references groups (record { outer = outer; opened = group_kind_of opening name start; start = start } ∷ around) level (41 ∷ here)) where
  pub leave-refused : (is_atom : Bool) → is_atom ≡ takes_quantifier S flags opening → (t : tree.Node) (e : ParseStopReason) (from end : ℕ) (there : RemainingCodePoints) → IsTrue (is_syntax_error e)
      → IsTermWithOptionalQuantifierRead is_atom here from end t (Err e) there → HasNoTreeIn S flags pattern
  leave-refused true f t e from end there r k = group-repeated d s (k r).0 (k r).1
  leave-refused false f t e from end there r k = not-repeated d s (may-be S flags opening name start ∙ sym f) k

  pub left : (is_atom : Bool) → is_atom ≡ takes_quantifier S flags opening → (n : Node) (there : RemainingCodePoints)
      → IsTermWithOptionalQuantifierRead is_atom here start groups (group_node_around opening name start groups (contents_of level)) (Ok n) there
      → IsParserInvariant S flags pattern names references groups around (push_term (spec_node_of n) outer) there
  left true f n there k =
      stands-leave d s there (spec_node_of n) (ahead_term (k s.opened s.count))
      (of_term (may-be S flags opening name start ∙ sym f)
      (subst (λ x. IsTerm start x (parse_state here s.opened) (parse_state there s.opened) (spec_node_of n)) (sym (shape-is opening name start groups (contents_of level) (parse_state here s.opened) s.count)) (k s.opened s.count)))
  left false f n there k =
      rw (k.0, k.1 ∙ sym (shape-is opening name start groups (contents_of level) (parse_state here s.opened) s.count))
      (stands-leave d s here (shape (group_kind_of opening name start) (contents_of level) (parse_state here s.opened)) refl (of_alone k.2))
