-- The scan for groups collects the groups and names that the specified scan finds.
use Rattle.std.proofs.Common.{◌≡◌, ◌≢◌, ℕ, suc, ◌+◌, ◌-◌, ◌^◌, ◌<◌, inl, inr, min, Bool, true, false, not, ◌&&◌, ◌||◌, List, [], ◌∷◌, ◌++◌, length, true≢false, nat_eq, nat_lt, refl, sym, ap, ap₂}
use Rattle.std.proofs.Common.{subst, ◌∙◌, arith, append_assoc, append-nil, Some, None}
use Rattle.std.specs.Prelude.{if◌then◌else◌, codes, Option, Result, Ok, Err, OnOk, option_map, is_some, String, string_bytes}
use Rattle.std.specs.List.{starts_with}
use Rattle.std.specs.Map.{lookup}
use Rattle.std.proofs.lemmas.Bool.{ne_eqb, eqb-true, false_from_ne_true, lt-ltb}
use Rattle.std.proofs.lemmas.List.{length-append}
use Rattle.std.proofs.lemmas.List.Folds.{list_any-append}
use Rattle.std.proofs.lemmas.Str.{length-le-encodes}
use lib.Pointwise.{pointwise}
use Rattle.std.specs.Cmp.Lexicographic.{same_text, other_text, slice_cmp}
use Rattle.std.specs.BTreeMap.{BTreeMap, get_by_text, btree_map_len, is_at, UpdatesBy}
use Rattle.std.specs.Str.{bytes_eq}
use Rattle.std.specs.String.{string_cmp}
use Rattle.std.specs.Ordering.{nat_cmp}
use Rattle.std.proofs.lemmas.Map.Text.{btree_map_updates_text}
use Rattle.regex_meaning.specs.ReadingStatesAndDigits.{RemainingCodePoints, group_number_of}
use Rattle.regex_meaning.specs.EscapesNamesQuantifiers as Profile
use Rattle.regex_meaning.specs.EcmaEscapesAndNames.{group_name}
use Rattle.regex_meaning.specs.Grammar.{PatternDialect, lookaround_opener}
use Rattle.regex_meaning.specs.GroupOpeningScanWithoutParsing.{texts_after_parentheses, in_class_after}
use Rattle.regex_meaning.proofs.DisjunctionReadingLemmas.{rest_of}
use Rattle.regex_parser.specs.declared.syntax.Syntax.{Syntax}
use Rattle.regex_parser.specs.declared.syntax.Syntax.TheVariants.{Profile as InProfile, EcmaScript2018}
use Rattle.regex_parser.specs.declared.group_openings_and_names.GroupAndNameScanState.{GroupAndNameScanState}
use Rattle.regex_parser.specs.CodePointReaderContracts.{IsEaten, IsUnescapedRead}
use Rattle.regex_parser.specs.GroupReaderContracts.{IsLookaroundPolaritySignRead, DoesNotBeginWith, text_after_open_parenthesis, group_numbers_adding_absent_name, AreGroupsCollected}
use Rattle.regex_parser.specs.GroupReaderContracts.{OpensScannedGroups, CollectsGroups, RecordsFurtherGroupsInScan, GroupNameScanProcessesCodePoint, IsPatternScanned}
use Rattle.regex_parser.specs.ScannedGroups.{ScansGroups, NoGroupName, scans_nothing, scans_group, scans_named_group, scans_wrong_name, scans_other}
use Rattle.regex_parser.specs.SyntaxDialects.{spec_syntax_of}

-- ---- One code point

texts-step : (k : Bool) (c : ℕ) (rest : RemainingCodePoints) → c ≢ 92 → texts_after_parentheses k (c ∷ rest) ≡ text_after_open_parenthesis k c rest ++ texts_after_parentheses (in_class_after k c) rest
unfolding texts_after_parentheses
texts-step k c [] ne = by (nat_eq c 40) (nat_eq c 91) (nat_eq c 93) k
  where
    by : (p o e k : Bool) → (if (p || false) && not k then [] ∷ [] else [])
        ≡ (if p && not k then [] ∷ [] else []) ++ texts_after_parentheses (if o then true else if e then false else k) []
    by true o e true = refl
    by true o e false = refl
    by false o e k = refl
texts-step k c (d ∷ rest) ne = rw (ne_eqb c 92 ne) (by (nat_eq c 40) (nat_eq c 91) (nat_eq c 93) k refl refl refl)
  where
    by : (p o e k : Bool) → nat_eq c 40 ≡ p → nat_eq c 91 ≡ o → nat_eq c 93 ≡ e
        → (if o || false then texts_after_parentheses true (d ∷ rest) else if e || false then texts_after_parentheses false (d ∷ rest)
        else if (p || false) && not k then (d ∷ rest) ∷ texts_after_parentheses k (d ∷ rest) else texts_after_parentheses k (d ∷ rest))
        ≡ (if p && not k then (d ∷ rest) ∷ [] else []) ++ texts_after_parentheses (if o then true else if e then false else k) (d ∷ rest)
    by true true e k f g h = absurd (no f g)
      where
        no : nat_eq c 40 ≡ true → nat_eq c 91 ≡ true → ⊥
        no f g = let x : c ≡ 40 = eqb-true c 40 f in let y : c ≡ 91 = eqb-true c 91 g in omega arith
    by true false true k f g h = absurd (no f h)
      where
        no : nat_eq c 40 ≡ true → nat_eq c 93 ≡ true → ⊥
        no f g = let x : c ≡ 40 = eqb-true c 40 f in let y : c ≡ 93 = eqb-true c 93 g in omega arith
    by true false false true f g h = refl
    by true false false false f g h = refl
    by false true e k f g h = refl
    by false false true k f g h = refl
    by false false false true f g h = refl
    by false false false false f g h = refl

texts-escape : (k : Bool) (d : ℕ) (rest : RemainingCodePoints) → texts_after_parentheses k (92 ∷ d ∷ rest) ≡ texts_after_parentheses k rest
unfolding texts_after_parentheses
texts-escape k d rest = refl

texts-slash : (k : Bool) → texts_after_parentheses k (92 ∷ []) ≡ []
unfolding texts_after_parentheses
texts-slash k = refl

texts-none : (k : Bool) → texts_after_parentheses k [] ≡ []
unfolding texts_after_parentheses
texts-none k = refl

-- After a code point, the texts ahead are the one that it opens, if any, and those of the rest.
texts-read : (k : Bool) (c : ℕ) (here there : RemainingCodePoints) → IsUnescapedRead here (Some c) there
    → texts_after_parentheses k here ≡ text_after_open_parenthesis k c there ++ texts_after_parentheses (in_class_after k c) there
texts-read k c here there (inl u) =
    ap (texts_after_parentheses k) u.1.0 ∙ texts-slash k ∙ sym (rw (u.0, u.1.1) (texts-none k))
texts-read k c here there (inr (inl u)) = ap (texts_after_parentheses k) u.2 ∙ texts-escape k u.1 there ∙ sym (rw u.0 refl)
texts-read k c here there (inr (inr u)) = ap (texts_after_parentheses k) u.1 ∙ texts-step k c there u.0

-- ---- Groups that a parenthesis opens

first_is_not : (c : ℕ) (here : RemainingCodePoints) (d : ℕ) → DoesNotBeginWith d (c ∷ here) → nat_eq d c ≡ false
first_is_not c here d h = false_from_ne_true (nat_eq d c) (λ e. h here (ap (λ (x : ℕ). x ∷ here) (sym (eqb-true d c e))))

pub not-begun : (d : ℕ) (here : RemainingCodePoints) → DoesNotBeginWith d here → starts_with nat_eq here (d ∷ []) ≡ false
not-begun d [] h = refl
not-begun d (c ∷ here) h = rw (first_is_not c here d h) refl

module _ (S : PatternDialect) where
  pub opens-no_text : OpensScannedGroups S [] []
  opens-no_text = λ later more h. h

  pub opens-capture : (here : RemainingCodePoints) → DoesNotBeginWith 63 here → OpensScannedGroups S (here ∷ []) ([] ∷ [])
  opens-capture here n = λ later more h. scans_group (not-begun 63 here n) h

  pub opens-named : (here there name : RemainingCodePoints) → S.group_name here there name → OpensScannedGroups S ((63 ∷ 60 ∷ here) ∷ []) (name ∷ [])
  opens-named here there name g = λ later more h. scans_named_group here there refl g h

  pub opens-wrong : (here : RemainingCodePoints) → NoGroupName S here → DoesNotBeginWith 33 here → DoesNotBeginWith 61 here → OpensScannedGroups S ((63 ∷ 60 ∷ here) ∷ []) ([] ∷ [])
  opens-wrong here none n m = λ later more h. scans_wrong_name here refl none (not-begun 61 here m) (not-begun 33 here n) h

  pub opens-plain : (here rest : RemainingCodePoints) → here ≡ 63 ∷ 58 ∷ rest → OpensScannedGroups S (here ∷ []) []
  opens-plain here rest e = λ later more h. scans_other (58 ∷ rest) e (inl refl) h

  pub opens-look : (negate backwards : Bool) (here rest : RemainingCodePoints) → 40 ∷ here ≡ codes (lookaround_opener negate backwards) ++ rest → OpensScannedGroups S (here ∷ []) []
  opens-look false false here rest e = λ later more h. scans_other (61 ∷ rest) (ap rest_of e) (inl refl) h
  opens-look true false here rest e = λ later more h. scans_other (33 ∷ rest) (ap rest_of e) (inl refl) h
  opens-look false true here rest e = λ later more h. scans_other (60 ∷ 61 ∷ rest) (ap rest_of e) (inr (inl refl)) h
  opens-look true true here rest e = λ later more h. scans_other (60 ∷ 33 ∷ rest) (ap rest_of e) (inr (inr refl)) h

  pub opens-none : (here rest : RemainingCodePoints) → here ≡ 63 ∷ rest → DoesNotBeginWith 60 rest → OpensScannedGroups S (here ∷ []) []
  opens-none here rest e n = λ later more h. scans_other rest e (inl (not-begun 60 rest n)) h

-- ---- Numbers of names

pub number-append : (name : RemainingCodePoints) (names : List RemainingCodePoints) (other : RemainingCodePoints)
    → group_number_of name (names ++ other ∷ []) ≡ (elim (group_number_of name names) [ Some n ↦ Some n | None ↦ if pointwise nat_eq name other then Some (length names + 1) else None ])
number-append name [] other = by (pointwise nat_eq name other)
  where
    by : (b : Bool) → (if b then Some 1 else option_map suc None) ≡ (if b then Some (0 + 1) else None)
    by true = refl
    by false = refl
number-append name (x ∷ names) other = by (pointwise nat_eq name x) (group_number_of name names) (number-append name names other)
  where
    by : (b : Bool) (o : Option ℕ) → group_number_of name (names ++ other ∷ []) ≡ (elim o [ Some n ↦ Some n | None ↦ if pointwise nat_eq name other then Some (length names + 1) else None ])
        → (if b then Some 1 else option_map suc (group_number_of name (names ++ other ∷ [])))
        ≡ (elim (if b then Some 1 else option_map suc o) [ Some n ↦ Some n | None ↦ if pointwise nat_eq name other then Some (suc (length names) + 1) else None ])
    by true o e = refl
    by false (Some n) e = ap (option_map suc) e
    by false None e = ap (option_map suc) e ∙ last (pointwise nat_eq name other)
      where
        last : (b : Bool) → option_map suc (if b then Some (length names + 1) else None) ≡ (if b then Some (suc (length names) + 1) else None)
        last true = ap Some (omega arith)
        last false = refl

-- ---- The whole text

pub record ScanSoFar (syntax : Syntax) (pattern : RemainingCodePoints) (scan : GroupAndNameScanState) (rest : RemainingCodePoints) : Type 0 where
  pub same : scan.syntax ≡ syntax
  pub names : List RemainingCodePoints
  pub found : (more : List RemainingCodePoints) → ScansGroups (spec_syntax_of syntax) (texts_after_parentheses scan.in_class rest) more
      → ScansGroups (spec_syntax_of syntax) (texts_after_parentheses false pattern) (names ++ more)
  pub collected : AreGroupsCollected scan.groups scan.numbers names

pub scan-start : (syntax : Syntax) (pattern : RemainingCodePoints) (scan : GroupAndNameScanState) → scan.syntax ≡ syntax → scan.in_class ≡ false → scan.groups ≡ 0 → scan.numbers.entries ≡ []
    → ScanSoFar syntax pattern scan pattern
scan-start syntax pattern scan e f g h = record {
  same = e;
  names = [];
  found = λ more k. subst (λ x. ScansGroups (spec_syntax_of syntax) (texts_after_parentheses x pattern) more) f k;
  collected = record {
    counted = g;
    named = ap (λ x. nat_lt 0 (length x)) h;
    numbered = λ few name is. ap (lookup (is_at (λ k. slice_cmp nat_cmp name (string_bytes k)))) h;
  };
}

pub scan-next : (syntax : Syntax) (pattern here there : RemainingCodePoints) (old new : GroupAndNameScanState) (c : ℕ) → ScanSoFar syntax pattern old here → IsUnescapedRead here (Some c) there
    → GroupNameScanProcessesCodePoint (spec_syntax_of old.syntax) old new c there → ScanSoFar syntax pattern new there
scan-next syntax pattern here there old new c s u m =
    let S = spec_syntax_of syntax in
    let more = m.2.0 in
    let opens : OpensScannedGroups S (text_after_open_parenthesis old.in_class c there) more = subst (λ x. OpensScannedGroups (spec_syntax_of x) (text_after_open_parenthesis old.in_class c there) more) s.same m.2.1 in
    record {
      same = m.0 ∙ s.same;
      names = s.names ++ more;
      found = λ later h.
          subst (λ x. ScansGroups S (texts_after_parentheses false pattern) x) (sym (append_assoc s.names more later))
          (s.found (more ++ later) (subst (λ x. ScansGroups S x (more ++ later)) (sym (texts-read old.in_class c here there u))
          (opens (texts_after_parentheses (in_class_after old.in_class c) there) later (subst (λ k. ScansGroups S (texts_after_parentheses k there) later) m.1 h))));
      collected = m.2.2 s.names s.collected;
    }

pub scan-end : (syntax : Syntax) (pattern here : RemainingCodePoints) (scan : GroupAndNameScanState) → ScanSoFar syntax pattern scan here → here ≡ []
    → IsPatternScanned (spec_syntax_of syntax) pattern scan.groups scan.numbers
scan-end syntax pattern here scan s e = (
  s.names,
  subst (λ x. ScansGroups (spec_syntax_of syntax) (texts_after_parentheses false pattern) x) (append-nil s.names)
      (s.found [] (subst (λ x. ScansGroups (spec_syntax_of syntax) x []) (sym (ap (texts_after_parentheses scan.in_class) e ∙ texts-none scan.in_class)) scans_nothing)),
  s.collected,
)

-- The signs that the scan reads behind a parenthesis spell the opener of the lookaround.
pub look-is : {here a b : RemainingCodePoints} (d there : RemainingCodePoints) (negate backwards : Bool) → here ≡ 63 ∷ a → b ≡ a → IsEaten 60 b backwards d → IsLookaroundPolaritySignRead d (Some negate) there
    → 40 ∷ here ≡ codes (lookaround_opener negate backwards) ++ there
look-is d there false false e f g h = ap (λ x. 40 ∷ x) (e ∙ ap (λ x. 63 ∷ x) (sym f ∙ sym g.0 ∙ h))
look-is d there true false e f g h = ap (λ x. 40 ∷ x) (e ∙ ap (λ x. 63 ∷ x) (sym f ∙ sym g.0 ∙ h))
look-is d there false true e f g h = ap (λ x. 40 ∷ x) (e ∙ ap (λ x. 63 ∷ x) (sym f ∙ g ∙ ap (λ x. 60 ∷ x) h))
look-is d there true true e f g h = ap (λ x. 40 ∷ x) (e ∙ ap (λ x. 63 ∷ x) (sym f ∙ g ∙ ap (λ x. 60 ∷ x) h))

-- ---- Groups that one step collects

module _ (S : PatternDialect) (old new : GroupAndNameScanState) where
  -- A step that keeps the numbers and the count collects the groups of texts that open none.
  pub collects-none : (texts : List RemainingCodePoints) → OpensScannedGroups S texts [] → new.numbers ≡ old.numbers → new.groups ≡ old.groups → CollectsGroups S old new texts
  collects-none texts o e f = (
    [],
    o,
    λ names h. subst (λ x. AreGroupsCollected new.groups new.numbers x) (sym (append-nil names)) (record {
      counted = f ∙ h.counted;
      named = ap (λ m. nat_lt 0 (btree_map_len m)) e ∙ h.named;
      numbered = λ few name is. ap (λ m. get_by_text m name) e ∙ h.numbered few name is;
    }),
  )

  pub records-none : (texts : List RemainingCodePoints) → OpensScannedGroups S texts [] → new.numbers ≡ old.numbers → new.groups ≡ old.groups → new.in_class ≡ old.in_class → new.syntax ≡ old.syntax
      → RecordsFurtherGroupsInScan S old new texts
  records-none texts o e f g h = (h, g, collects-none texts o e f)

  -- A step that updates only `in_class` processes a code point that opens no group.
  pub processes-none : (c : ℕ) (rest : RemainingCodePoints) → (nat_eq c 40 && not old.in_class) ≡ false → new.in_class ≡ in_class_after old.in_class c → new.numbers ≡ old.numbers → new.groups ≡ old.groups
      → new.syntax ≡ old.syntax → GroupNameScanProcessesCodePoint S old new c rest
  processes-none c rest o k e f g =
      let none : text_after_open_parenthesis old.in_class c rest ≡ [] = rw o refl in
      (g, k, collects-none (text_after_open_parenthesis old.in_class c rest) (subst (λ x. OpensScannedGroups S x []) (sym none) (opens-no_text S)) e f)

  -- A step that records the groups of the rest processes a parenthesis that opens a group.
  pub processes-opened : (c : ℕ) (rest : RemainingCodePoints) → c ≢ 91 → c ≢ 93 → (nat_eq c 40 && not old.in_class) ≡ true → RecordsFurtherGroupsInScan S old new (rest ∷ [])
      → GroupNameScanProcessesCodePoint S old new c rest
  processes-opened c rest other_open other_close opens h =
      (h.0, h.1 ∙ sym same, subst (λ x. CollectsGroups S old new x) (sym opened) h.2)
    where
      same : in_class_after old.in_class c ≡ old.in_class
      same = rw (ne_eqb c 91 other_open, ne_eqb c 93 other_close) refl

      opened : text_after_open_parenthesis old.in_class c rest ≡ rest ∷ []
      opened = rw opens refl

abbrev choice : ℕ → Option ℕ → Option ℕ → Bool → Option ℕ
choice group x o b = if is_some x then o else if b then Some group else o

abbrev last : ℕ → Option ℕ → Bool → Option ℕ
last before o p = elim o [ Some n ↦ Some n | None ↦ if p then Some (before + 1) else None ]

-- The step counts one group more, and gives its name a number unless the name has one.
module _ (old new : GroupAndNameScanState) (name : RemainingCodePoints) (groups : new.groups ≡ min (old.groups + 1) (2 ^ 32 - 1))
    (named : nat_lt 0 (btree_map_len new.numbers) ≡ (nat_lt 0 (btree_map_len old.numbers) || nat_lt 0 (length name)))
    (numbers : (other : RemainingCodePoints) → 0 < length other → get_by_text new.numbers other
    ≡ (if is_some (get_by_text old.numbers name) then get_by_text old.numbers other else if pointwise nat_eq name other then Some new.groups else get_by_text old.numbers other))
  where
    pub collects-one : (names : List RemainingCodePoints) → AreGroupsCollected old.groups old.numbers names → AreGroupsCollected new.groups new.numbers (names ++ name ∷ [])
    collects-one names h =
        let before : old.groups ≡ min (length names) (2 ^ 32 - 1) = h.counted in
        record {
          counted = omega (arith, before, groups, long names);
          named = named ∙ ap₂ (λ x y. x || y) h.named (or-false (nat_lt 0 (length name))) ∙ sym (list_any-append (λ x. nat_lt 0 (length x)) names (name ∷ []));
          numbered = λ few other is. numbers other is ∙ by names (h.numbered (omega (arith, few, long names))) (omega (arith, before, groups, few, long names)) other is;
        }
      where
        or-false : (b : Bool) → b ≡ (b || false)
        or-false true = refl
        or-false false = refl

        long : (names : List RemainingCodePoints) → length (names ++ name ∷ []) ≡ length names + 1
        long names = simp length-append

        by : (names : List RemainingCodePoints) → ((other : RemainingCodePoints) → 0 < length other → get_by_text old.numbers other ≡ group_number_of other names) → new.groups ≡ length names + 1
            → (other : RemainingCodePoints) → 0 < length other
            → (if is_some (get_by_text old.numbers name) then get_by_text old.numbers other else if pointwise nat_eq name other then Some new.groups else get_by_text old.numbers other)
            ≡ group_number_of other (names ++ name ∷ [])
        by names are now other is = go (pointwise nat_eq name other) refl
          where
            found : (o : Option ℕ) (p : Bool) → p ≡ true → choice new.groups o o true ≡ last (length names) o p
            found (Some n) p e = refl
            found None p e = ap Some now ∙ sym (rw e refl)

            kept : (x o : Option ℕ) (p : Bool) → p ≡ false → choice new.groups x o false ≡ last (length names) o p
            kept (Some m) (Some n) p e = refl
            kept None (Some n) p e = refl
            kept (Some m) None p e = sym (rw e refl)
            kept None None p e = sym (rw e refl)

            go : (b : Bool) → pointwise nat_eq name other ≡ b → choice new.groups (get_by_text old.numbers name) (get_by_text old.numbers other) (pointwise nat_eq name other) ≡ group_number_of other (names ++ name ∷ [])
            go true f =
                let same : name ≡ other = same_text name other (sym f) in
                let here : get_by_text old.numbers name ≡ group_number_of other names = ap (λ x. get_by_text old.numbers x) same ∙ are other is in
                let self : pointwise nat_eq other name ≡ true = ap₂ (λ x y. pointwise nat_eq x y) (sym same) same ∙ f in
                ap₂ (λ x y. choice new.groups x y (pointwise nat_eq name other)) here (are other is) ∙ ap (λ b. choice new.groups (group_number_of other names) (group_number_of other names) b) f
                ∙ found (group_number_of other names) (pointwise nat_eq other name) self ∙ sym (number-append other names name)
            go false f =
                let differs : pointwise nat_eq other name ≡ false = false_from_ne_true (pointwise nat_eq other name) (λ g. other_text name other (sym f) (sym (same_text other name (sym g)))) in
                ap₂ (λ x b. choice new.groups (get_by_text old.numbers name) x b) (are other is) f
                ∙ kept (get_by_text old.numbers name) (group_number_of other names) (pointwise nat_eq other name) differs ∙ sym (number-append other names name)

collects-nameless : (old new : GroupAndNameScanState) → new.groups ≡ min (old.groups + 1) (2 ^ 32 - 1) → new.numbers ≡ old.numbers
    → (names : List RemainingCodePoints) → AreGroupsCollected old.groups old.numbers names → AreGroupsCollected new.groups new.numbers (names ++ [] ∷ [])
collects-nameless old new e g =
    collects-one old new [] e (ap (λ m. nat_lt 0 (btree_map_len m)) g ∙ or-false (nat_lt 0 (btree_map_len old.numbers)))
    (λ other is. ap (λ m. get_by_text m other) g ∙ by (is_some (get_by_text old.numbers [])) (get_by_text old.numbers other) other is)
  where
    or-false : (b : Bool) → b ≡ (b || false)
    or-false true = refl
    or-false false = refl

    by : (b : Bool) (o : Option ℕ) (other : RemainingCodePoints) → 0 < length other → o ≡ (if b then o else if pointwise nat_eq [] other then Some new.groups else o)
    by b o [] is = absurd (omega (arith, is))
    by true o (c ∷ cs) is = refl
    by false o (c ∷ cs) is = refl

-- A step that counts one group more and keeps the numbers records a group without a name.
pub records-nameless : (S : PatternDialect) (old new : GroupAndNameScanState) (texts : List RemainingCodePoints) → OpensScannedGroups S texts ([] ∷ []) → new.groups ≡ min (old.groups + 1) (2 ^ 32 - 1)
    → new.in_class ≡ old.in_class → new.numbers ≡ old.numbers → new.syntax ≡ old.syntax → RecordsFurtherGroupsInScan S old new texts
records-nameless S old new texts o e f g h = (h, f, ([] ∷ [], o, collects-nameless old new e g))

-- A step that counts one group more and adds its name if absent records a group with a name.
pub records-named : (S : PatternDialect) (old new : GroupAndNameScanState) (here there name : RemainingCodePoints) (group : ℕ) → S.group_name here there name → 0 < length name → group ≡ min (old.groups + 1) (2 ^ 32 - 1)
    → (new.groups ≡ group) × (new.in_class ≡ old.in_class) × (new.syntax ≡ old.syntax) → 0 < btree_map_len new.numbers
    → ((other : RemainingCodePoints) → get_by_text new.numbers other ≡ group_numbers_adding_absent_name name group (λ x. get_by_text old.numbers x) other)
    → RecordsFurtherGroupsInScan S old new ((63 ∷ 60 ∷ here) ∷ [])
records-named S old new here there name group g positive e same some numbers =
    let named = lt-ltb 0 (btree_map_len new.numbers) some ∙ or-true (nat_lt 0 (btree_map_len old.numbers)) (nat_lt 0 (length name)) (lt-ltb 0 (length name) positive) in
    let one = collects-one old new name (same.0 ∙ e) named (λ other is. numbers other ∙ ap (λ n. group_numbers_adding_absent_name name n (λ x. get_by_text old.numbers x) other) (sym same.0)) in
    (same.2, same.1, (name ∷ [], opens-named S here there name g, one))
  where
    or-true : (a b : Bool) → b ≡ true → true ≡ (a || b)
    or-true true b e = refl
    or-true false b e = sym e

-- The name of a group is not empty.
pub name-positive : (syntax : Syntax) (here there name : RemainingCodePoints) → (spec_syntax_of syntax).group_name here there name → 0 < length name
name-positive InProfile here there [] (Profile.group_name e is) = absurd (true≢false (sym is))
name-positive InProfile here there (c ∷ cs) g = omega arith
name-positive EcmaScript2018 here there name (group_name {characters = characters} {c = c} n r) = let h = length-le-encodes (c ∷ characters) in omega (arith, h)

-- A list of entries in which a look-up finds a value is not empty.
pub entries-positive : {K X : Type 0} (test : K → Bool) (es : List (K × X)) → is_some (lookup test es) ≡ true → 0 < length es
entries-positive test [] e = absurd (true≢false (sym e))
entries-positive test (x ∷ es) e = omega arith

-- A map with an absent name inserted has the numbers of the old map and that of the name.
pub number-inserted : {R : Type 0} (old new : BTreeMap (String R) ℕ) (name : RemainingCodePoints) (group : ℕ) → is_some (get_by_text old name) ≡ false
    → UpdatesBy string_cmp (λ k. slice_cmp nat_cmp name (string_bytes k)) old new (Some group)
    → (other : RemainingCodePoints) → get_by_text new other ≡ group_numbers_adding_absent_name name group (λ x. get_by_text old x) other
number-inserted old new name group none h other =
    btree_map_updates_text name old new (Some group) h other ∙ sym (ap (λ b. if b then get_by_text old other else if bytes_eq name other then Some group else get_by_text old other) none)

pub on-all : {A E : Type 0} (P Q R : Type 0) {T : Type 0} (r : Result A E) → OnOk r P → OnOk r Q → OnOk r R → (P → Q → R → T) → OnOk r T
on-all P Q R (Ok a) h k l f = f h k l
on-all P Q R (Err e) h k l f = tt
