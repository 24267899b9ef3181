-- A tree has as many groups as the scan of its pattern counts, in both languages.
use Rattle.std.proofs.Common.{◌≡◌, ℕ, suc, Bool, true, false, not, ◌&&◌, List, [], ◌∷◌, ◌++◌, length, true≢false, nat_eq, refl, sym, ap, ◌∙◌, eqb-true}
use Rattle.std.specs.Prelude.{codes, if◌then◌else◌, flat_map}
use Rattle.std.proofs.lemmas.Bool.{false_from_ne_true}
use Rattle.regex_meaning.specs.Tree.{Flags, Tree, group_ids}
use Rattle.regex_meaning.specs.ReadingStatesAndDigits.{RemainingCodePoints, ◌∈◌, begins_with_characters}
use Rattle.regex_meaning.specs.Grammar.{PatternDialect, ParsesBy, pattern_is, lookaround_opener}
use Rattle.regex_meaning.specs.EcmaGrammarWithAnnexB.{ecmascript}
use Rattle.regex_meaning.specs.GroupNameScan.{name_of_opened_group, scanned_names_per_capturing_group}
use Rattle.regex_meaning.specs.GroupOpeningScanWithoutParsing.{texts_after_parentheses, OpensGroups, no_parenthesis, opens_plain_group, opens_lookaround, opens_group, opens_named_group}
use Rattle.regex_meaning.proofs.DisjunctionReadingLemmas.{IsReadInOneWay, rest_of}
use Rattle.regex_meaning.proofs.EcmaClassAndAtomLemmas.{ecmascript-reads}
use Rattle.regex_meaning.proofs.EcmaGrammarLemmas.{groups-are-found, groups-are-named}
use Rattle.regex_meaning.proofs.PatternTreeLemmas.{scan_counts_pattern_groups}
use Rattle.regex_parser.specs.SyntaxDialects.{spec_syntax_of}
use Rattle.regex_parser.specs.ParserInvariants.{group_names_found_by_scan}
use Rattle.regex_parser.specs.declared.syntax.Syntax.{Syntax}
use Rattle.regex_parser.specs.declared.syntax.Syntax.TheVariants.{Profile, EcmaScript2018}

-- ---- The scan finds the groups at their parentheses

abbrev names_at : List RemainingCodePoints → List RemainingCodePoints
names_at = flat_map name_of_opened_group

chosen : (x : Bool) {n m : List RemainingCodePoints} (a b : List RemainingCodePoints) → n ≡ names_at a → m ≡ names_at b → (if x then n else m) ≡ names_at (if x then a else b)
chosen true a b e f = e
chosen false a b e f = f

scanned-at : (b : Bool) (t : RemainingCodePoints) → scanned_names_per_capturing_group b t ≡ names_at (texts_after_parentheses b t)
unfolding scanned_names_per_capturing_group texts_after_parentheses
scanned-at b [] = refl
scanned-at b (c ∷ []) = chosen (c ∈ "(" && not b) ([] ∷ []) [] refl refl
scanned-at b (c ∷ d ∷ t) =
    chosen (c ∈ "\\") (texts_after_parentheses b t) _ (scanned-at b t)
    (chosen (c ∈ "[") (texts_after_parentheses true (d ∷ t)) _ (scanned-at true (d ∷ t))
    (chosen (c ∈ "]") (texts_after_parentheses false (d ∷ t)) _ (scanned-at false (d ∷ t))
    (chosen (c ∈ "(" && not b) ((d ∷ t) ∷ texts_after_parentheses b (d ∷ t)) (texts_after_parentheses b (d ∷ t))
    (ap (λ x. name_of_opened_group (d ∷ t) ++ x) (scanned-at b (d ∷ t))) (scanned-at b (d ∷ t)))))

-- ---- The scan counts the groups in any dialect that is read in one way

module _ (S : PatternDialect) (one : IsReadInOneWay S) where
  none-at-look : (negate backwards : Bool) {text : RemainingCodePoints} (here : RemainingCodePoints) → 40 ∷ text ≡ codes (lookaround_opener negate backwards) ++ here → name_of_opened_group text ≡ []
  none-at-look false false here e = ap (λ x. name_of_opened_group (rest_of x)) e
  none-at-look true false here e = ap (λ x. name_of_opened_group (rest_of x)) e
  none-at-look false true here e = ap (λ x. name_of_opened_group (rest_of x)) e
  none-at-look true true here e = ap (λ x. name_of_opened_group (rest_of x)) e

  one-without-name : (text : RemainingCodePoints) → begins_with_characters "?" text ≡ false → length (name_of_opened_group text) ≡ 1
  one-without-name [] e = refl
  one-without-name (c ∷ t) e = by (nat_eq 63 c) refl
    where
      by : (x : Bool) → nat_eq 63 c ≡ x → length (name_of_opened_group (c ∷ t)) ≡ 1
      by true f = absurd (true≢false (sym (rw f refl) ∙ e))
      by false f = rw f refl

  one-with-name : (here there name : RemainingCodePoints) → S.group_name here there name → length (name_of_opened_group (63 ∷ 60 ∷ here)) ≡ 1
  one-with-name [] there name g = refl
  one-with-name (c ∷ rest) there name g = rw (unlike 61 refl, unlike 33 refl) refl
    where
      unlike : (d : ℕ) → d ∈ "=!" ≡ true → nat_eq d c ≡ false
      unlike d h = false_from_ne_true (nat_eq d c) (λ e. one.no_sign c there name rest (sym (ap (λ x. x ∈ "=!") (eqb-true d c e)) ∙ h) g)

  longer : (xs ys : List RemainingCodePoints) → length xs ≡ 1 → length (xs ++ ys) ≡ suc (length ys)
  longer (x ∷ []) ys e = refl
  longer [] ys e = absurd (cc e)
  longer (x ∷ y ∷ xs) ys e = absurd (cc e)

  as-many : {texts names : List RemainingCodePoints} → OpensGroups S texts names → length (names_at texts) ≡ length names
  as-many no_parenthesis = refl
  as-many (opens_plain_group {texts = texts} here e g) = ap (λ x. length (name_of_opened_group x ++ names_at texts)) e ∙ as-many g
  as-many (opens_lookaround {texts = texts} negate backwards here e g) = ap (λ x. length (x ++ names_at texts)) (none-at-look negate backwards here e) ∙ as-many g
  as-many (opens_group {text = text} {texts = texts} e g) = longer (name_of_opened_group text) (names_at texts) (one-without-name text e) ∙ ap suc (as-many g)
  as-many (opens_named_group {text = text} {name = name} {texts = texts} here there e i g) =
      longer (name_of_opened_group text) (names_at texts) (ap (λ x. length (name_of_opened_group x)) e ∙ one-with-name here there name i) ∙ ap suc (as-many g)

-- ---- The groups of a tree

ecmascript-counts : (flags : Flags) (pattern : List ℕ) (tree : Tree) → ParsesBy ecmascript flags pattern tree → length (group_ids tree.root) ≡ length (group_names_found_by_scan pattern)
ecmascript-counts flags pattern tree (pattern_is {n = n} groups d distinct) =
    let opens = groups-are-found (record { flags = flags; groups = groups }) pattern groups n d in
    (groups-are-named flags pattern _ groups (pattern_is groups d distinct) opens).0
    ∙ sym (as-many ecmascript ecmascript-reads opens) ∙ ap length (sym (scanned-at false pattern))

pub scan-counts-groups : (syntax : Syntax) (flags : Flags) (pattern : List ℕ) (tree : Tree)
    → ParsesBy (spec_syntax_of syntax) flags pattern tree → length (group_ids tree.root) ≡ length (group_names_found_by_scan pattern)
scan-counts-groups Profile flags pattern tree parsed = (scan_counts_pattern_groups flags pattern tree parsed).0
scan-counts-groups EcmaScript2018 flags pattern tree parsed = ecmascript-counts flags pattern tree parsed
