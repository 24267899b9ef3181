-- The tables have exactly the specified property names, each with its set in the database.
use Rattle.std.proofs.Common.{◌≡◌, ℕ, ◌+◌, ◌*◌, Bool, true, false, not, ◌&&◌, ◌||◌, List, [], ◌∷◌, refl, sym, ap, ap₂, subst, ◌∙◌, true≢false, nat_eq, codes, map, filter, Option, Some, None}
use Rattle.std.proofs.Common.{option_map, is_some, eq-eqb}
use Rattle.std.specs.Prelude.{if◌then◌else◌, bytes_eq}
use Rattle.std.specs.List.{list_any}
use Rattle.std.proofs.lemmas.Bool.{and_parts, not-true}
use lib.Pointwise.{bytes_decides}
use Prim.Native.String.{String}
use Rattle.ucd_sets.specs.Loose.{normalize, loosely}
use Rattle.ucd_sets.specs.Loose as loose
use Rattle.ucd_sets.specs.Names.{binary_names, category_names, script_names, property_names}
use Rattle.ucd_sets.specs.Lookup.{by_name, by_value, value_of, property_named}
use Rattle.ucd_sets.specs.declared.set.Set.TheVariants as set
use Rattle.ucd_sets.specs.declared.property.BinaryProperty.{BinaryProperty}
use Rattle.regex_meaning.specs.UnicodeProperties.{is_word, value_named, binary_property_names, in_database, changes_when_nfkc_casefolded, general_category_named, binary_property_named}
use Rattle.regex_meaning.specs.UnicodeProperties.{property_with_value, Property as SpecProperty}
use Rattle.regex_parser.specs.PropertyReaderContracts.{words_of, listed_value}
use Rattle.regex_parser.specs.declared.unicode_properties.TheConstants.{CATEGORY_NAMES, BINARY_NAMES, SCRIPT_NAMES}
use Rattle.regex_parser.proofs.PropertyNameLemmas.{is_name}

-- ---- Rows whose names stay apart in the form in which the database compares them

-- `number-from` reads a text as the digits in base 256 that follow the number `n`.
abbrev number-from : ℕ → List ℕ → ℕ
number-from n [] = n
number-from n (c ∷ cs) = number-from (256 * n + c) cs

abbrev loose-number : List ℕ → ℕ
loose-number name = number-from 1 (normalize name)

abbrev differs-from : ℕ → List ℕ → Bool
differs-from n [] = true
differs-from n (m ∷ ms) = not (nat_eq n m) && differs-from n ms

abbrev all-differ : List ℕ → Bool
all-differ [] = true
all-differ (n ∷ ns) = differs-from n ns && all-differ ns

abbrev numbers : {V : Type 0} → List (String × V) → List ℕ
numbers rows = map (λ row. loose-number (codes row.0)) rows

no-value : {V : Type 0} {Q : Type 0} {v : V} → None ≡ Some v → Q
no-value e = absurd (true≢false (sym (ap is_some e)))

-- A value that is the word of a row is the text of the name of the row.
same-word : {V : Type 0} (row : String × V) (value : List ℕ) → is_word row.0 value ≡ true → codes row.0 ≡ value
same-word row value e = (bytes_decides (codes row.0) value).0 e

other-number : {V : Type 0} (rows : List (String × V)) (value : List ℕ) (v : V) (n : ℕ) → value_named rows value ≡ Some v → differs-from n (numbers rows) ≡ true
    → nat_eq n (loose-number value) ≡ false
other-number [] value v n e d = no-value e
other-number (row ∷ rows) value v n e d = go (is_word row.0 value) refl (λ k. other-number rows value v n k parts.1)
  where
    parts : (not (nat_eq n (loose-number (codes row.0))) ≡ true) × (differs-from n (numbers rows) ≡ true)
    parts = and_parts (not (nat_eq n (loose-number (codes row.0)))) _ d

    go : (b : Bool) → is_word row.0 value ≡ b → (value_named rows value ≡ Some v → nat_eq n (loose-number value) ≡ false) → nat_eq n (loose-number value) ≡ false
    go true g k = subst (λ x. nat_eq n (loose-number x) ≡ false) (same-word row value g) (not-true _ parts.0)
    go false g k = k (sym (ap (λ b. if b then Some row.1 else value_named rows value) g) ∙ e)

-- The database finds the values that the rows find, if the numbers of the rows differ.
loose-finds : {V : Type 0} (rows : List (String × V)) (value : List ℕ) (v : V) → all-differ (numbers rows) ≡ true → value_named rows value ≡ Some v
    → loose.value_named (loosely rows) (normalize value) ≡ Some v
unfolding loose.value_named
loose-finds [] value v d e = no-value e
loose-finds {V} (row ∷ rows) value v d e = go (is_word row.0 value) refl (λ k. loose-finds rows value v parts.1 k)
  where
    parts : (differs-from (loose-number (codes row.0)) (numbers rows) ≡ true) × (all-differ (numbers rows) ≡ true)
    parts = and_parts (differs-from (loose-number (codes row.0)) (numbers rows)) _ d

    choose : Bool → Option V
    choose b = if b then Some row.1 else loose.value_named (loosely rows) (normalize value)

    apart : (b : Bool) → bytes_eq (normalize (codes row.0)) (normalize value) ≡ b → value_named rows value ≡ Some v → b ≡ false
    apart false f k = refl
    apart true f k =
        absurd (true≢false (sym (eq-eqb _ _ (ap (number-from 1) ((bytes_decides (normalize (codes row.0)) (normalize value)).0 f)))
        ∙ other-number rows value v (loose-number (codes row.0)) k parts.0))

    go : (b : Bool) → is_word row.0 value ≡ b → (value_named rows value ≡ Some v → loose.value_named (loosely rows) (normalize value) ≡ Some v)
        → choose (bytes_eq (normalize (codes row.0)) (normalize value)) ≡ Some v
    go true g k =
        ap choose ((bytes_decides (normalize (codes row.0)) (normalize value)).1 (ap normalize (same-word row value g)))
        ∙ sym (ap (λ b. if b then Some row.1 else value_named rows value) g) ∙ e
    go false g k =
        let h : value_named rows value ≡ Some v = sym (ap (λ b. if b then Some row.1 else value_named rows value) g) ∙ e in
        ap choose (apart (bytes_eq (normalize (codes row.0)) (normalize value)) refl h) ∙ k h

-- ---- Lists of words that belong to rows

-- `kept out rows` gives the rows whose names `out` does not leave out.
abbrev kept : {V : Type 0} → (out : List ℕ → Bool) → List (String × V) → List (String × V)
kept out rows = filter (λ row. not (out (codes row.0))) rows

abbrev names-of : {V : Type 0} → List (String × V) → List (List ℕ)
names-of rows = map (λ row. codes row.0) rows

named-if : {V : Type 0} (rows : List (String × V)) (value : List ℕ) → list_any (is_name value) (names-of rows) ≡ is_some (value_named rows value)
named-if [] value = refl
named-if {V} (row ∷ rows) value = step (is_word row.0 value) _ (value_named rows value) (named-if rows value)
  where
    step : (b x : Bool) (o : Option V) → x ≡ is_some o → (b || x) ≡ is_some (if b then Some row.1 else o)
    step true x o e = refl
    step false x o e = e

kept-named : {V : Type 0} (out : List ℕ → Bool) (rows : List (String × V)) (value : List ℕ) → value_named (kept out rows) value ≡ (if out value then None else value_named rows value)
kept-named {V} out [] value = go (out value)
  where
    go : (b : Bool) → ◌≡◌ {A = Option V} None (if b then None else None)
    go true = refl
    go false = refl
kept-named {V} out (row ∷ rows) value = go (out (codes row.0)) refl (is_word row.0 value) refl (kept-named out rows value)
  where
    left : Bool → Option V
    left o = value_named (if not o then row ∷ kept out rows else kept out rows) value

    right : Bool → Bool → Option V
    right o b = if o then None else (if b then Some row.1 else value_named rows value)

    go : (o : Bool) → out (codes row.0) ≡ o → (b : Bool) → is_word row.0 value ≡ b → value_named (kept out rows) value ≡ (if out value then None else value_named rows value)
        → left (out (codes row.0)) ≡ right (out value) (is_word row.0 value)
    go true f true g k =
        let s : out value ≡ true = ap out (sym (same-word row value g)) ∙ f in
        ap left f ∙ k ∙ ap (λ o. if o then None else value_named rows value) s ∙ sym (ap (λ o. right o (is_word row.0 value)) s)
    go true f false g k = ap left f ∙ k ∙ sym (ap (λ b. right (out value) b) g)
    go false f true g k =
        let s : out value ≡ false = ap out (sym (same-word row value g)) ∙ f in
        ap left f ∙ ap (λ b. if b then Some row.1 else value_named (kept out rows) value) g ∙ sym (ap₂ right s g)
    go false f false g k =
        ap left f ∙ ap (λ b. if b then Some row.1 else value_named (kept out rows) value) g ∙ k ∙ sym (ap (λ b. right (out value) b) g)

-- A list of the kept words finds what the rows have, except for what is left out.
listed-is : {V W : Type 0} (f : V → W) (rows : List (String × V)) (by : List ℕ → Option W) (out : List ℕ → Bool) (words : List (List ℕ)) (value : List ℕ)
    → ((v : V) → value_named rows value ≡ Some v → by (normalize value) ≡ Some (f v)) → words ≡ names-of (kept out rows)
    → (if list_any (is_name value) words then by (normalize value) else None) ≡ (if out value then None else option_map f (value_named rows value))
listed-is {V} {W} f rows by out words value found e = go (out value) refl (value_named rows value) refl
  where
    is : list_any (is_name value) words ≡ is_some (if out value then None else value_named rows value)
    is = ap (list_any (is_name value)) e ∙ named-if (kept out rows) value ∙ ap is_some (kept-named out rows value)

    left : Bool → Option W
    left b = if b then by (normalize value) else None

    right : Bool → Option V → Option W
    right b o = if b then None else option_map f o

    none : (b : Bool) (o : Option V) → out value ≡ b → value_named rows value ≡ o → is_some (if b then None else o) ≡ false → left (list_any (is_name value) words) ≡ None
    none b o g h k = ap left (is ∙ ap₂ (λ b o. is_some (if b then None else o)) g h ∙ k)

    go : (b : Bool) → out value ≡ b → (o : Option V) → value_named rows value ≡ o → left (list_any (is_name value) words) ≡ right (out value) (value_named rows value)
    go true g o h = none true o g h refl ∙ sym (ap (λ b. right b (value_named rows value)) g)
    go false g None h = none false None g h refl ∙ sym (ap₂ right g h)
    go false g (Some v) h = ap left (is ∙ ap₂ (λ b o. is_some (if b then None else o)) g h) ∙ found v h ∙ sym (ap₂ right g h)

-- ---- The three tables

-- `is_no_category` accepts the names in the database that are no values of General_Category.
abbrev is_no_category : List ℕ → Bool
is_no_category name = is_word "Any" name || is_word "ASCII" name || is_word "Assigned" name

category-words : words_of CATEGORY_NAMES.now ≡ names-of (kept is_no_category category_names)
unfolding category_names
category-words = refl

categories-differ : all-differ (numbers category_names) ≡ true
unfolding normalize category_names
categories-differ = refl

category-found : (n : List ℕ) (s : _) → loose.value_named (loosely category_names) n ≡ Some s → option_map in_database (by_value (codes "gc") n) ≡ Some (in_database s)
unfolding by_value property_named value_of loose.value_named property_names normalize
category-found n s e = ap (option_map in_database) e

pub category-listed : (name : List ℕ) → listed_value (words_of CATEGORY_NAMES.now) (codes "gc") name ≡ general_category_named name
category-listed name =
    listed-is in_database category_names (λ n. option_map in_database (by_value (codes "gc") n)) is_no_category (words_of CATEGORY_NAMES.now) name
    (λ v h. category-found (normalize name) v (loose-finds category_names name v categories-differ h)) category-words

script-words : words_of SCRIPT_NAMES.now ≡ names-of (kept (λ w. false) script_names)
unfolding script_names
script-words = refl

scripts-differ : all-differ (numbers script_names) ≡ true
unfolding normalize script_names
scripts-differ = refl

script-found : (n : List ℕ) (s : _) → loose.value_named (loosely script_names) n ≡ Some s → option_map in_database (by_value (codes "sc") n) ≡ Some (in_database (set.Script s))
unfolding by_value property_named value_of loose.value_named property_names normalize
script-found n s e = ap (λ o. option_map in_database (option_map set.Script o)) e

extension-found : (n : List ℕ) (s : _) → loose.value_named (loosely script_names) n ≡ Some s → option_map in_database (by_value (codes "scx") n) ≡ Some (in_database (set.ScriptExtension s))
unfolding by_value property_named value_of loose.value_named property_names normalize
extension-found n s e = ap (λ o. option_map in_database (option_map set.ScriptExtension o)) e

pub script-listed : (name : List ℕ) → listed_value (words_of SCRIPT_NAMES.now) (codes "sc") name ≡ option_map (λ s. in_database (set.Script s)) (value_named script_names name)
script-listed name =
    listed-is (λ s. in_database (set.Script s)) script_names (λ n. option_map in_database (by_value (codes "sc") n)) (λ w. false) (words_of SCRIPT_NAMES.now) name
    (λ v h. script-found (normalize name) v (loose-finds script_names name v scripts-differ h)) script-words

pub extension-listed : (name : List ℕ) → listed_value (words_of SCRIPT_NAMES.now) (codes "scx") name ≡ option_map (λ s. in_database (set.ScriptExtension s)) (value_named script_names name)
extension-listed name =
    listed-is (λ s. in_database (set.ScriptExtension s)) script_names (λ n. option_map in_database (by_value (codes "scx") n)) (λ w. false) (words_of SCRIPT_NAMES.now) name
    (λ v h. extension-found (normalize name) v (loose-finds script_names name v scripts-differ h)) script-words

-- `all-found` lists what the database finds for the names of the rows.
abbrev all-found : List (String × BinaryProperty) → List (Option BinaryProperty)
all-found [] = []
all-found (row ∷ rows) = loose.value_named (loosely binary_names) (normalize (codes row.0)) ∷ all-found rows

abbrev all-values : List (String × BinaryProperty) → List (Option BinaryProperty)
all-values [] = []
all-values (row ∷ rows) = Some row.1 ∷ all-values rows

binary-words : words_of BINARY_NAMES.now ≡ names-of (kept (λ w. false) binary_property_names)
unfolding binary_property_names
binary-words = refl

binaries-agree : all-found binary_property_names ≡ all-values binary_property_names
unfolding normalize loose.value_named binary_names binary_property_names
binaries-agree = refl

heads : {A : Type 0} (x y : A) (xs ys : List A) → x ∷ xs ≡ y ∷ ys → x ≡ y
heads x y xs ys e = cc

tails : {A : Type 0} (x y : A) (xs ys : List A) → x ∷ xs ≡ y ∷ ys → xs ≡ ys
tails x y xs ys e = cc

binary-finds : (rows : List (String × BinaryProperty)) (value : List ℕ) (v : BinaryProperty) → all-found rows ≡ all-values rows → value_named rows value ≡ Some v
    → loose.value_named (loosely binary_names) (normalize value) ≡ Some v
binary-finds [] value v a e = no-value e
binary-finds (row ∷ rows) value v a e = go (is_word row.0 value) refl (λ k. binary-finds rows value v (tails _ _ _ _ a) k)
  where
    go : (b : Bool) → is_word row.0 value ≡ b → (value_named rows value ≡ Some v → loose.value_named (loosely binary_names) (normalize value) ≡ Some v)
        → loose.value_named (loosely binary_names) (normalize value) ≡ Some v
    go true g k =
        subst (λ x. loose.value_named (loosely binary_names) (normalize x) ≡ Some v) (same-word row value g)
        (heads _ _ _ _ a ∙ sym (ap (λ b. if b then Some row.1 else value_named rows value) g) ∙ e)
    go false g k = k (sym (ap (λ b. if b then Some row.1 else value_named rows value) g) ∙ e)

binary-found : (n : List ℕ) (p : BinaryProperty) → loose.value_named (loosely binary_names) n ≡ Some p → option_map in_database (by_name n) ≡ Some (in_database (set.Binary p))
unfolding by_name
binary-found n p e = rw e refl

pub binary-listed : (name : List ℕ)
    → (if list_any (is_name name) (words_of BINARY_NAMES.now) then option_map in_database (by_name (normalize name)) else None) ≡ option_map (λ p. in_database (set.Binary p)) (value_named binary_property_names name)
binary-listed name =
    listed-is (λ p. in_database (set.Binary p)) binary_property_names (λ n. option_map in_database (by_name n)) (λ w. false) (words_of BINARY_NAMES.now) name
    (λ v h. binary-found (normalize name) v (binary-finds binary_property_names name v binaries-agree h)) binary-words

-- ---- Properties in the order of their definitions

if-true : {A : Type 0} (b : Bool) (x y : A) → b ≡ true → (if b then x else y) ≡ x
if-true true x y e = refl
if-true false x y e = absurd (true≢false (sym e))

if-false : {A : Type 0} (b : Bool) (x y : A) → b ≡ false → (if b then x else y) ≡ y
if-false true x y e = absurd (true≢false e)
if-false false x y e = refl

abbrev either : String → String → List ℕ → Bool
either word other name = is_word word name || is_word other name

abbrev script-value : List ℕ → Option SpecProperty
script-value value = option_map (λ s. in_database (set.Script s)) (value_named script_names value)

abbrev extension-value : List ℕ → Option SpecProperty
extension-value value = option_map (λ s. in_database (set.ScriptExtension s)) (value_named script_names value)

abbrev choose-value : (b c d : Bool) → (value : List ℕ) → Option SpecProperty
choose-value b c d value = if b then general_category_named value else if c then script-value value else if d then extension-value value else None

pub with-category : (property value : List ℕ) → either "General_Category" "gc" property ≡ true → general_category_named value ≡ property_with_value property value
with-category property value e =
    sym (ap (λ b. choose-value b (either "Script" "sc" property) (either "Script_Extensions" "scx" property) value) e)

pub with-script : (property value : List ℕ) → either "General_Category" "gc" property ≡ false → either "Script" "sc" property ≡ true
    → listed_value (words_of SCRIPT_NAMES.now) (codes "sc") value ≡ property_with_value property value
with-script property value e f =
    script-listed value ∙ sym (ap₂ (λ b c. choose-value b c (either "Script_Extensions" "scx" property) value) e f)

pub with-extension : (property value : List ℕ) → either "General_Category" "gc" property ≡ false → either "Script" "sc" property ≡ false → either "Script_Extensions" "scx" property ≡ true
    → listed_value (words_of SCRIPT_NAMES.now) (codes "scx") value ≡ property_with_value property value
with-extension property value e f g =
    extension-listed value ∙ sym (ap (λ d. choose-value false false d value) g) ∙ sym (ap₂ (λ b c. choose-value b c (either "Script_Extensions" "scx" property) value) e f)

pub with-none : (property value : List ℕ) → either "General_Category" "gc" property ≡ false → either "Script" "sc" property ≡ false → either "Script_Extensions" "scx" property ≡ false
    → None ≡ property_with_value property value
with-none property value e f g =
    sym (ap (λ d. choose-value false false d value) g) ∙ sym (ap₂ (λ b c. choose-value b c (either "Script_Extensions" "scx" property) value) e f)

abbrev choose-binary : (a b c d : Bool) → (name : List ℕ) → Option SpecProperty
choose-binary a b c d name =
    if a then Some (in_database set.Ascii) else if b then Some (in_database set.Any) else if c then Some (in_database set.Assigned) else if d then Some changes_when_nfkc_casefolded
    else option_map (λ p. in_database (set.Binary p)) (value_named binary_property_names name)

pub binary-ascii : (name : List ℕ) → is_word "ASCII" name ≡ true → Some (in_database set.Ascii) ≡ binary_property_named name
binary-ascii name e = sym (ap (λ a. choose-binary a (is_word "Any" name) (is_word "Assigned" name) (either "Changes_When_NFKC_Casefolded" "CWKCF" name) name) e)

pub binary-any : (name : List ℕ) → is_word "ASCII" name ≡ false → is_word "Any" name ≡ true → Some (in_database set.Any) ≡ binary_property_named name
binary-any name e f = sym (ap₂ (λ a b. choose-binary a b (is_word "Assigned" name) (either "Changes_When_NFKC_Casefolded" "CWKCF" name) name) e f)

pub binary-assigned : (name : List ℕ) → is_word "ASCII" name ≡ false → is_word "Any" name ≡ false → is_word "Assigned" name ≡ true → Some (in_database set.Assigned) ≡ binary_property_named name
binary-assigned name e f g =
    sym (ap (λ c. choose-binary false false c (either "Changes_When_NFKC_Casefolded" "CWKCF" name) name) g)
    ∙ sym (ap₂ (λ a b. choose-binary a b (is_word "Assigned" name) (either "Changes_When_NFKC_Casefolded" "CWKCF" name) name) e f)

pub binary-casefolded : (name : List ℕ) → is_word "ASCII" name ≡ false → is_word "Any" name ≡ false → is_word "Assigned" name ≡ false → either "Changes_When_NFKC_Casefolded" "CWKCF" name ≡ true
    → Some changes_when_nfkc_casefolded ≡ binary_property_named name
binary-casefolded name e f g h =
    sym (ap₂ (λ c d. choose-binary false false c d name) g h)
    ∙ sym (ap₂ (λ a b. choose-binary a b (is_word "Assigned" name) (either "Changes_When_NFKC_Casefolded" "CWKCF" name) name) e f)

pub binary-rest : (name : List ℕ) → is_word "ASCII" name ≡ false → is_word "Any" name ≡ false → is_word "Assigned" name ≡ false → either "Changes_When_NFKC_Casefolded" "CWKCF" name ≡ false
    → (if list_any (is_name name) (words_of BINARY_NAMES.now) then option_map in_database (by_name (normalize name)) else None) ≡ binary_property_named name
binary-rest name e f g h =
    binary-listed name ∙ sym (ap₂ (λ c d. choose-binary false false c d name) g h)
    ∙ sym (ap₂ (λ a b. choose-binary a b (is_word "Assigned" name) (either "Changes_When_NFKC_Casefolded" "CWKCF" name) name) e f)
