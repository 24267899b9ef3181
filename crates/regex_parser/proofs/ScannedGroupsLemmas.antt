-- The groups that the scan finds are those that open in the pattern, in both dialects.
use Rattle.std.proofs.Common.{◌≡◌, ◌⊎◌, inl, inr, ℕ, ◌<◌, min, ◌^◌, ◌-◌, Bool, true, false, ◌||◌, List, [], ◌∷◌, ◌++◌, map, length, codes, true≢false, nat_eq, refl, sym, ap, ap₂, subst, ◌∙◌}
use Rattle.std.proofs.Common.{eqb-true, arith}
use Rattle.std.specs.Prelude.{if◌then◌else◌, String}
use Rattle.std.specs.List.{flat_map}
use Rattle.std.specs.BTreeMap.{BTreeMap}
use Rattle.std.proofs.lemmas.List.{map-id, length-map, map-append}
use Rattle.regex_meaning.specs.ReadingStatesAndDigits.{RemainingCodePoints, begins_with_characters, ◌∈◌}
use Rattle.regex_meaning.specs.EscapesNamesQuantifiers.{is_name}
use Rattle.regex_meaning.specs.Grammar.{PatternDialect, profile, lookaround_opener}
use Rattle.regex_meaning.specs.GroupNameScan.{group_name_at, name_of_opened_group, scanned_names_per_capturing_group}
use Rattle.regex_meaning.specs.GroupOpeningScanWithoutParsing.{texts_after_parentheses, OpensGroups, no_parenthesis, opens_plain_group, opens_lookaround, opens_group, opens_named_group}
use Rattle.regex_parser.specs.ScannedGroups.{ScansGroups, NoGroupName, scans_nothing, scans_group, scans_named_group, scans_wrong_name, scans_other}
use Rattle.regex_parser.specs.GroupReaderContracts.{DoesNotBeginWith, AreCountedAndNumbered, IsPatternScanned, count_of_groups}
use Rattle.regex_meaning.proofs.DisjunctionReadingLemmas.{IsReadInOneWay, second, rest_of, unlike}
use Rattle.regex_meaning.proofs.GroupNameScanLemmas.{name-found, none-found, names-at, unnamed}
use Rattle.regex_meaning.proofs.ClassAndAtomLemmas.{reads}
use Rattle.regex_meaning.proofs.EcmaClassAndAtomLemmas.{ecmascript-reads}
use Rattle.regex_parser.specs.declared.syntax.Syntax.{Syntax}
use Rattle.regex_parser.specs.declared.syntax.Syntax.TheVariants.{Profile, EcmaScript2018}
use Rattle.regex_parser.specs.SyntaxDialects.{spec_syntax_of}
use Rattle.regex_parser.proofs.GroupScanLemmas.{not-begun}

no-question : {A : Type 0} {text here : RemainingCodePoints} → begins_with_characters "?" text ≡ false → text ≡ 63 ∷ here → A
no-question o e = absurd (true≢false (subst (λ x. begins_with_characters "?" x ≡ false) e o))

-- Texts with different second characters are not equal.
no-second : {A : Type 0} {text here there : RemainingCodePoints} (c d : ℕ) → nat_eq c d ≡ false → text ≡ 63 ∷ c ∷ here → text ≡ 63 ∷ d ∷ there → A
no-second c d n e f = absurd (unlike c d n (ap second (sym e ∙ f)))

behind-two : {text here there : RemainingCodePoints} {c d : ℕ} → text ≡ 63 ∷ c ∷ here → text ≡ 63 ∷ d ∷ there → here ≡ there
behind-two e f = ap (λ x. rest_of (rest_of x)) (sym e ∙ f)

begins-equals : (here : RemainingCodePoints) → begins_with_characters "<=" (60 ∷ here) ≡ true → (rest : RemainingCodePoints) × (here ≡ 61 ∷ rest)
begins-equals [] e = absurd (true≢false (sym e))
begins-equals (c ∷ cs) e = by (nat_eq 61 c) refl
  where
    by : (b : Bool) → nat_eq 61 c ≡ b → (rest : RemainingCodePoints) × (c ∷ cs ≡ 61 ∷ rest)
    by true f = (cs, ap (λ x. x ∷ cs) (sym (eqb-true 61 c f)))
    by false f = absurd (true≢false (sym e ∙ rw f refl))

begins-not : (here : RemainingCodePoints) → begins_with_characters "<!" (60 ∷ here) ≡ true → (rest : RemainingCodePoints) × (here ≡ 33 ∷ rest)
begins-not [] e = absurd (true≢false (sym e))
begins-not (c ∷ cs) e = by (nat_eq 33 c) refl
  where
    by : (b : Bool) → nat_eq 33 c ≡ b → (rest : RemainingCodePoints) × (c ∷ cs ≡ 33 ∷ rest)
    by true f = (cs, ap (λ x. x ∷ cs) (sym (eqb-true 33 c f)))
    by false f = absurd (true≢false (sym e ∙ rw f refl))

-- A question mark follows the parenthesis that opens a lookaround.
look-question : (negate backwards : Bool) {text : RemainingCodePoints} (here : RemainingCodePoints) → 40 ∷ text ≡ codes (lookaround_opener negate backwards) ++ here → (rest : RemainingCodePoints) × (text ≡ 63 ∷ rest)
look-question false false here e = (_, ap rest_of e)
look-question true false here e = (_, ap rest_of e)
look-question false true here e = (_, ap rest_of e)
look-question true true here e = (_, ap rest_of e)

module _ (S : PatternDialect) (one : IsReadInOneWay S) where
  no-sign-name : {here there name rest : RemainingCodePoints} → S.group_name here there name → (here ≡ 61 ∷ rest) ⊎ (here ≡ 33 ∷ rest) → ⊥
  no-sign-name {there = there} {name = name} {rest = rest} g (inl e) = one.no_sign 61 there name rest refl (subst (λ x. S.group_name x there name) e g)
  no-sign-name {there = there} {name = name} {rest = rest} g (inr e) = one.no_sign 33 there name rest refl (subst (λ x. S.group_name x there name) e g)

  -- A lookaround opens no group with a name.
  no-look-name : (negate backwards : Bool) {text there after name : RemainingCodePoints} (here : RemainingCodePoints) → 40 ∷ text ≡ codes (lookaround_opener negate backwards) ++ here → text ≡ 63 ∷ 60 ∷ there → S.group_name there after name → ⊥
  no-look-name false false here e f g = no-second 61 60 refl (ap rest_of e) f
  no-look-name true false here e f g = no-second 33 60 refl (ap rest_of e) f
  no-look-name false true here e f g = no-sign-name g (inl (sym (behind-two (ap rest_of e) f)))
  no-look-name true true here e f g = no-sign-name g (inr (sym (behind-two (ap rest_of e) f)))

  no-look-wrong : (negate backwards : Bool) {text there : RemainingCodePoints} (here : RemainingCodePoints) → 40 ∷ text ≡ codes (lookaround_opener negate backwards) ++ here → text ≡ 63 ∷ 60 ∷ there
      → begins_with_characters "=" there ≡ false → begins_with_characters "!" there ≡ false → ⊥
  no-look-wrong false false here e f g h = no-second 61 60 refl (ap rest_of e) f
  no-look-wrong true false here e f g h = no-second 33 60 refl (ap rest_of e) f
  no-look-wrong false true here e f g h = true≢false (subst (λ x. begins_with_characters "=" x ≡ false) (sym (behind-two (ap rest_of e) f)) g)
  no-look-wrong true true here e f g h = true≢false (subst (λ x. begins_with_characters "!" x ≡ false) (sym (behind-two (ap rest_of e) f)) h)

  no-other-name : {text here there after name : RemainingCodePoints} → text ≡ 63 ∷ 60 ∷ here → S.group_name here after name → text ≡ 63 ∷ there
      → (begins_with_characters "<" there ≡ false) ⊎ ((begins_with_characters "<=" there ≡ true) ⊎ (begins_with_characters "<!" there ≡ true)) → ⊥
  no-other-name {here = here} e g f w = by (subst (λ x. (begins_with_characters "<" x ≡ false) ⊎ ((begins_with_characters "<=" x ≡ true) ⊎ (begins_with_characters "<!" x ≡ true))) (ap rest_of (sym f ∙ e)) w)
    where
      by : (begins_with_characters "<" (60 ∷ here) ≡ false) ⊎ ((begins_with_characters "<=" (60 ∷ here) ≡ true) ⊎ (begins_with_characters "<!" (60 ∷ here) ≡ true)) → ⊥
      by (inl k) = true≢false k
      by (inr (inl k)) = let h = begins-equals here k in no-sign-name g (inl h.1)
      by (inr (inr k)) = let h = begins-not here k in no-sign-name g (inr h.1)

  -- The groups that open in texts are those that the scan finds in them.
  pub scanned-opened : {texts a b : List RemainingCodePoints} → OpensGroups S texts a → ScansGroups S texts b → a ≡ b
  scanned-opened no_parenthesis scans_nothing = refl
  scanned-opened (opens_plain_group here e g) (scans_group o h) = no-question o e
  scanned-opened (opens_plain_group here e g) (scans_named_group here' there e' n h) = no-second 58 60 refl e e'
  scanned-opened (opens_plain_group here e g) (scans_wrong_name here' e' n x y h) = no-second 58 60 refl e e'
  scanned-opened (opens_plain_group here e g) (scans_other here' e' w h) = scanned-opened g h
  scanned-opened (opens_lookaround negate backwards here e g) (scans_group o h) = no-question o (look-question negate backwards here e).1
  scanned-opened (opens_lookaround negate backwards here e g) (scans_named_group here' there e' n h) = absurd (no-look-name negate backwards here e e' n)
  scanned-opened (opens_lookaround negate backwards here e g) (scans_wrong_name here' e' n x y h) = absurd (no-look-wrong negate backwards here e e' x y)
  scanned-opened (opens_lookaround negate backwards here e g) (scans_other here' e' w h) = scanned-opened g h
  scanned-opened (opens_group o g) (scans_group o' h) = ap (λ x. [] ∷ x) (scanned-opened g h)
  scanned-opened (opens_group o g) (scans_named_group here' there e' n h) = no-question o e'
  scanned-opened (opens_group o g) (scans_wrong_name here' e' n x y h) = no-question o e'
  scanned-opened (opens_group o g) (scans_other here' e' w h) = no-question o e'
  scanned-opened (opens_named_group here there e n g) (scans_group o h) = no-question o e
  scanned-opened (opens_named_group {name = a} here there e n g) (scans_named_group {name = b} here' there' e' n' h) =
      ap₂ (λ x y. x ∷ y) (one.one_name here there there' a b n (subst (λ x. S.group_name x there' b) (sym (behind-two e e')) n')).1 (scanned-opened g h)
  scanned-opened (opens_named_group {name = a} here there e n g) (scans_wrong_name here' e' none x y h) =
      absurd (none there a (subst (λ x. S.group_name x there a) (behind-two e e') n))
  scanned-opened (opens_named_group here there e n g) (scans_other here' e' w h) = absurd (no-other-name e n e' w)

-- ---- The names by the scan of the profile

named-at : (here : RemainingCodePoints) → begins_with_characters "=" here ≡ false → begins_with_characters "!" here ≡ false → name_of_opened_group (63 ∷ 60 ∷ here) ≡ group_name_at here ∷ []
named-at here e f = rw (e, f) refl

other-at : (here : RemainingCodePoints) → (begins_with_characters "<" here ≡ false) ⊎ ((begins_with_characters "<=" here ≡ true) ⊎ (begins_with_characters "<!" here ≡ true)) → name_of_opened_group (63 ∷ here) ≡ []
other-at here (inl e) = by (begins_with_characters "<=" here || begins_with_characters "<!" here) (begins_with_characters "<" here) e
  where
    by : (b c : Bool) → c ≡ false → (if b then [] else if c then group_name_at (rest_of here) ∷ [] else []) ≡ []
    by true c e = refl
    by false c e = rw e refl
other-at here (inr (inl e)) = rw e refl
other-at here (inr (inr e)) = by (begins_with_characters "<=" here) (begins_with_characters "<!" here) e
  where
    by : (b c : Bool) → c ≡ true → (if b || c then [] else if begins_with_characters "<" here then group_name_at (rest_of here) ∷ [] else []) ≡ []
    by true c e = refl
    by false c e = rw e refl

module _ (S : PatternDialect) (one : IsReadInOneWay S) {A : Type 0} (of : RemainingCodePoints → A)
    (named : (here there name : RemainingCodePoints) → S.group_name here there name → of name ≡ of (group_name_at here))
    (wrong : (here : RemainingCodePoints) → NoGroupName S here → of [] ≡ of (group_name_at here))
  where
    no-sign-here : (c : ℕ) (here : RemainingCodePoints) {there name : RemainingCodePoints} → c ∈ "=!" ≡ true → S.group_name here there name → DoesNotBeginWith c here
    no-sign-here c here {there} {name} e g = λ rest f. one.no_sign c there name rest e (subst (λ x. S.group_name x there name) f g)

    joined : (text : RemainingCodePoints) (texts names : List RemainingCodePoints) (at own : List RemainingCodePoints) → name_of_opened_group text ≡ at → map of own ≡ map of at
        → map of names ≡ map of (flat_map name_of_opened_group texts) → map of (own ++ names) ≡ map of (name_of_opened_group text ++ flat_map name_of_opened_group texts)
    joined text texts names at own e f g =
        map-append of own names ∙ ap₂ (λ x y. x ++ y) f g ∙ sym (map-append of at (flat_map name_of_opened_group texts))
        ∙ ap (λ x. map of (x ++ flat_map name_of_opened_group texts)) (sym e)

    -- The names that both scans find are the same as far as `of` tells names apart.
    scanned-as : {texts names : List RemainingCodePoints} → ScansGroups S texts names → map of names ≡ map of (flat_map name_of_opened_group texts)
    scanned-as scans_nothing = refl
    scanned-as (scans_group {text = text} {texts = texts} {names = names} o h) = joined text texts names ([] ∷ []) ([] ∷ []) (unnamed text o) refl (scanned-as h)
    scanned-as (scans_named_group {text = text} {name = name} {texts = texts} {names = names} here there e g h) =
        joined text texts names (group_name_at here ∷ []) (name ∷ [])
        (ap name_of_opened_group e ∙ named-at here (not-begun 61 here (no-sign-here 61 here refl g)) (not-begun 33 here (no-sign-here 33 here refl g)))
        (ap (λ x. x ∷ []) (named here there name g)) (scanned-as h)
    scanned-as (scans_wrong_name {text = text} {texts = texts} {names = names} here e none x y h) =
        joined text texts names (group_name_at here ∷ []) ([] ∷ []) (ap name_of_opened_group e ∙ named-at here x y) (ap (λ x. x ∷ []) (wrong here none)) (scanned-as h)
    scanned-as (scans_other {text = text} {texts = texts} {names = names} here e w h) = joined text texts names [] [] (ap name_of_opened_group e ∙ other-at here w) refl (scanned-as h)

-- Both scans find the same number of groups.
pub names-counted : (S : PatternDialect) → IsReadInOneWay S → (pattern : RemainingCodePoints) (names : List RemainingCodePoints) → ScansGroups S (texts_after_parentheses false pattern) names → length names ≡ length (scanned_names_per_capturing_group false pattern)
names-counted S one pattern names h =
    let at = flat_map name_of_opened_group (texts_after_parentheses false pattern) in
    let alike : map same names ≡ map same at = scanned-as S one same (λ here there name g. refl) (λ here none. refl) h in
    sym (length-map names same) ∙ ap length alike ∙ length-map at same ∙ ap length (sym (names-at false pattern))
  where
    same : RemainingCodePoints → ℕ
    same name = 0

-- In the profile, both scans find the same names.
names-in-profile : (pattern : RemainingCodePoints) (names : List RemainingCodePoints) → ScansGroups profile (texts_after_parentheses false pattern) names → names ≡ scanned_names_per_capturing_group false pattern
names-in-profile pattern names h =
    sym (map-id names)
    ∙ scanned-as profile reads (λ x. x) (λ here there name g. sym (name-found here there name g)) (λ here none. sym (none-found here none)) h
    ∙ map-id (flat_map name_of_opened_group (texts_after_parentheses false pattern)) ∙ sym (names-at false pattern)

read-in-one-way : (syntax : Syntax) → IsReadInOneWay (spec_syntax_of syntax)
read-in-one-way Profile = reads
read-in-one-way EcmaScript2018 = ecmascript-reads

pub pattern-counted : {R : Type 0} (syntax : Syntax) (pattern : RemainingCodePoints) (count : ℕ) (numbers : BTreeMap (String R) ℕ) → IsPatternScanned (spec_syntax_of syntax) pattern count numbers
    → count ≡ count_of_groups (scanned_names_per_capturing_group false pattern)
pattern-counted syntax pattern count numbers (names, h, k) =
    k.counted ∙ ap (λ n. min n (2 ^ 32 - 1)) (names-counted (spec_syntax_of syntax) (read-in-one-way syntax) pattern names h)

pub pattern-in-profile : {R : Type 0} (syntax : Syntax) (pattern : RemainingCodePoints) (count : ℕ) (numbers : BTreeMap (String R) ℕ) → syntax ≡ Profile → IsPatternScanned (spec_syntax_of syntax) pattern count numbers
    → AreCountedAndNumbered count numbers (scanned_names_per_capturing_group false pattern)
pattern-in-profile syntax pattern count numbers e (names, h, k) =
    subst (λ x. AreCountedAndNumbered count numbers x) (names-in-profile pattern names (subst (λ x. ScansGroups (spec_syntax_of x) (texts_after_parentheses false pattern) names) e h))
    (k.counted, λ few name is. k.numbered few name (positive name is))
  where
    positive : (name : RemainingCodePoints) → is_name name ≡ true → 0 < length name
    positive [] is = absurd (true≢false (sym is))
    positive (c ∷ cs) is = omega arith
