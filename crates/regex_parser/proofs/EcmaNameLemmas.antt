-- The ECMAScript reader of group names reads the names that the grammar specifies.
use Rattle.std.proofs.Common.{◌≡◌, ◌⊎◌, ℕ, ◌+◌, ◌-◌, ◌*◌, ◌<◌, inl, inr, Bool, true, false, ◌&&◌, ◌||◌, List, [], ◌∷◌, ◌++◌, true≢false, refl, sym, ap, ap₂, subst, ◌∙◌, arith, Some, append_assoc}
use Rattle.std.proofs.Common.{append-nil}
use Rattle.std.specs.Prelude.{encode_utf8_all, encode_utf8, nat_le, nat_lt, nat_eq, Result, Ok, Err, IsErr}
use Rattle.std.specs.List.{list_all}
use Rattle.std.specs.Char.{OutOfScalarRange}
use Rattle.std.proofs.lemmas.Bool.{and_parts, or_cases, false_from_ne_true, leb-true, ltb-true, eqb-true}
use Rattle.std.proofs.lemmas.Str.{encodes-append}
use Rattle.ucd_table.specs.Rows.{in_ranges, Range}
use Rattle.ucd_derived.specs.Binary.{is_id_start, is_id_continue}
use Rattle.ucd_derived.specs.IdStartRanges.{id_start_ranges}
use Rattle.ucd_derived.specs.IdContinueRanges.{id_continue_ranges}
use Rattle.regex_meaning.specs.ReadingStatesAndDigits.{RemainingCodePoints}
use Rattle.regex_meaning.specs.EscapesNamesQuantifiers.{UnicodeEscape, is_high_surrogate, is_low_surrogate}
use Rattle.regex_meaning.specs.EcmaEscapesAndNames.{verbatim, escaped, surrogates, NameRest, name_end, name_part, GroupName, group_name}
use Rattle.regex_meaning.proofs.EscapesAndNamesLemmas.{behind, firsts, apart, one_unicode}
use Rattle.regex_meaning.proofs.EcmaEscapesAndNamesLemmas.{TestsNames, start-tests, part-tests, no-sign, one_name_character}
use Rattle.regex_parser.specs.CodePointReaderContracts.{IsReadOrSyntaxError}
use Rattle.regex_parser.specs.declared.parser_error.ParseStopReason.{ParseStopReason}
use Rattle.regex_parser.specs.EcmaReaderContracts.{is_allowed_as_name_character, NameCharacterAt, NoNameCharacter, IsNameCodePointRead}

pub tests : (is_first : Bool) → TestsNames (is_allowed_as_name_character is_first)
tests true = start-tests
tests false = part-tests

-- ---- Numbers that are no characters, which pass no test

abbrev range_apart : Range → Bool
range_apart r = nat_lt r.1 0xD800 || (nat_lt 0xDFFF r.0 && nat_lt r.1 0x11_0000)

none-outside : (rs : List Range) (c : ℕ) → list_all range_apart rs ≡ true → OutOfScalarRange c → in_ranges rs c ≡ false
unfolding in_ranges
none-outside [] c h out = refl
none-outside (r ∷ rs) c h out =
    let p = and_parts (range_apart r) _ h in
    ap₂ (λ x y. x || y) (false_from_ne_true (nat_le r.0 c && nat_le c r.1) (λ f. beside out f (or_cases (nat_lt r.1 0xD800) _ p.0))) (none-outside rs c p.1 out)
  where
    beside : OutOfScalarRange c → (nat_le r.0 c && nat_le c r.1) ≡ true → (nat_lt r.1 0xD800 ≡ true) ⊎ ((nat_lt 0xDFFF r.0 && nat_lt r.1 0x11_0000) ≡ true) → ⊥
    beside (inl o) f (inl x) =
        let q = and_parts (nat_le r.0 c) (nat_le c r.1) f in
        let a = ltb-true r.1 0xD800 x in let b = leb-true c r.1 q.1 in omega (arith, a, b, o.0)
    beside (inl o) f (inr x) =
        let q = and_parts (nat_le r.0 c) (nat_le c r.1) f in
        let y = and_parts (nat_lt 0xDFFF r.0) (nat_lt r.1 0x11_0000) x in
        let a = ltb-true 0xDFFF r.0 y.0 in let b = leb-true r.0 c q.0 in omega (arith, a, b, o.1)
    beside (inr o) f (inl x) =
        let q = and_parts (nat_le r.0 c) (nat_le c r.1) f in
        let a = ltb-true r.1 0xD800 x in let b = leb-true c r.1 q.1 in omega (arith, a, b, o)
    beside (inr o) f (inr x) =
        let q = and_parts (nat_le r.0 c) (nat_le c r.1) f in
        let y = and_parts (nat_lt 0xDFFF r.0) (nat_lt r.1 0x11_0000) x in
        let a = ltb-true r.1 0x11_0000 y.1 in let b = leb-true c r.1 q.1 in omega (arith, a, b, o)

-- A number outside the scalar values differs from every number below U+D800.
unequal : (c k : ℕ) → OutOfScalarRange c → k < 0xD800 → nat_eq c k ≡ false
unequal c k (inl o) l = false_from_ne_true (nat_eq c k) (λ e. let f = eqb-true c k e in omega (arith, f, l, o.0))
unequal c k (inr o) l = false_from_ne_true (nat_eq c k) (λ e. let f = eqb-true c k e in omega (arith, f, l, o))

pub no-character : (is_first : Bool) (c : ℕ) → OutOfScalarRange c → is_allowed_as_name_character is_first c ≡ false
unfolding is_id_start id_start_ranges is_id_continue id_continue_ranges
no-character true c out = rw (none-outside id_start_ranges c refl out, unequal c 95 out (omega arith), unequal c 36 out (omega arith)) refl
no-character false c out = rw (none-outside id_continue_ranges c refl out, unequal c 36 out (omega arith), unequal c 0x200C out (omega arith), unequal c 0x200D out (omega arith)) refl

-- ---- Characters of names that begin with a code point

pub nil-not-cons : {c : ℕ} {rest : RemainingCodePoints} → [] ≡ c ∷ rest → ⊥
nil-not-cons e = cc

pub nothing-named : (is_first : Bool) {here : RemainingCodePoints} → here ≡ [] → NoNameCharacter is_first here
nothing-named is_first e end c (verbatim f p) = cc
nothing-named is_first e end c (escaped f u p) = cc
nothing-named is_first e end c (surrogates f l r p) = cc

backslash-inverse : (is_first : Bool) {here rest end : RemainingCodePoints} {c : ℕ} → here ≡ 92 ∷ rest → NameCharacterAt is_first here end c
    → (a : RemainingCodePoints) × (rest ≡ 117 ∷ a) × UnicodeEscape true a end c × (is_allowed_as_name_character is_first c ≡ true)
backslash-inverse is_first h (verbatim e f) = absurd (apart (is_allowed_as_name_character is_first) f (no-sign (tests is_first) 92 refl) (firsts e h))
backslash-inverse is_first h (escaped {a = a} e u f) = (a, behind h e, u, f)
backslash-inverse is_first h (surrogates e l r f) = absurd (apart is_high_surrogate l refl (firsts e h))

pub backslash-none : (is_first : Bool) {here : RemainingCodePoints} → ((rest : RemainingCodePoints) → here ≡ 117 ∷ rest → ⊥) → NoNameCharacter is_first (92 ∷ here)
backslash-none is_first none end c x = let (a, e, u, f) = backslash-inverse is_first refl x in none a e

pub escape-none : (is_first : Bool) {here a : RemainingCodePoints} → here ≡ 117 ∷ a → ((end : RemainingCodePoints) (c : ℕ) → UnicodeEscape true a end c → ⊥) → NoNameCharacter is_first (92 ∷ here)
escape-none is_first h none end c x =
    let (a, e, u, f) = backslash-inverse is_first refl x in none end c (subst (λ y. UnicodeEscape true y end c) (sym (behind h e)) u)

pub escape-read : (is_first : Bool) {here a there : RemainingCodePoints} (c : ℕ) → here ≡ 117 ∷ a → UnicodeEscape true a there c → IsNameCodePointRead is_first (92 ∷ here) (Some c) there
escape-read is_first {here} {a} {there} c h u = (λ p. escaped (ap (λ x. 92 ∷ x) h) u p, λ p end d x. other p (backslash-inverse is_first refl x))
  where
    other : {end : RemainingCodePoints} {d : ℕ} → is_allowed_as_name_character is_first c ≡ false
        → (b : RemainingCodePoints) × (here ≡ 117 ∷ b) × UnicodeEscape true b end d × (is_allowed_as_name_character is_first d ≡ true) → ⊥
    other p (b, e, v, f) = apart (is_allowed_as_name_character is_first) f p (sym (one_unicode (behind h e) u v).1)

lead-inverse : (is_first : Bool) {here rest end : RemainingCodePoints} {lead c : ℕ} → here ≡ lead ∷ rest → is_high_surrogate lead ≡ true → NameCharacterAt is_first here end c
    → (trail : ℕ) × (rest ≡ trail ∷ end) × (is_low_surrogate trail ≡ true) × (is_allowed_as_name_character is_first c ≡ true) × (c ≡ 0x1_0000 + (lead - 0xD800) * 0x400 + (trail - 0xDC00))
lead-inverse is_first {lead = lead} h s (verbatim e f) = absurd (apart (is_allowed_as_name_character is_first) f ((tests is_first).no_lead lead s) (firsts e h))
lead-inverse is_first h s (escaped e u f) = absurd (apart is_high_surrogate s refl (firsts h e))
lead-inverse is_first h s (surrogates {lead = l} {trail = t} e k r f) = (t, behind h e, r, f, ap (λ x. 0x1_0000 + (x - 0xD800) * 0x400 + (t - 0xDC00)) (firsts e h))

pub pair-none : (is_first : Bool) {here : RemainingCodePoints} {lead : ℕ} → is_high_surrogate lead ≡ true
    → ((trail : ℕ) (rest : RemainingCodePoints) → here ≡ trail ∷ rest → is_low_surrogate trail ≡ true → ⊥) → NoNameCharacter is_first (lead ∷ here)
pair-none is_first s none end c x = let (t, e, r, f, v) = lead-inverse is_first refl s x in none t end e r

pub pair-read : (is_first : Bool) {here there : RemainingCodePoints} {lead trail : ℕ} → is_high_surrogate lead ≡ true → here ≡ trail ∷ there → is_low_surrogate trail ≡ true
    → IsNameCodePointRead is_first (lead ∷ here) (Some (0x1_0000 + (lead - 0xD800) * 0x400 + (trail - 0xDC00))) there
pair-read is_first {here} {there} {lead} {trail} s h r = (λ p. surrogates (ap (λ x. lead ∷ x) h) s r p, λ p end d x. other p (lead-inverse is_first refl s x))
  where
    other : {end : RemainingCodePoints} {d : ℕ} → is_allowed_as_name_character is_first (0x1_0000 + (lead - 0xD800) * 0x400 + (trail - 0xDC00)) ≡ false
        → (t : ℕ) × (here ≡ t ∷ end) × (is_low_surrogate t ≡ true) × (is_allowed_as_name_character is_first d ≡ true) × (d ≡ 0x1_0000 + (lead - 0xD800) * 0x400 + (t - 0xDC00)) → ⊥
    other p (t, e, k, f, v) =
        apart (is_allowed_as_name_character is_first) f p (v ∙ ap (λ x. 0x1_0000 + (lead - 0xD800) * 0x400 + (x - 0xDC00)) (firsts e h))

-- A code point that is neither a backslash nor a high surrogate is read as itself.
pub itself-read : (is_first : Bool) {here there : RemainingCodePoints} {c : ℕ} → here ≡ c ∷ there → (c ≡ 92 → ⊥) → is_high_surrogate c ≡ false → IsNameCodePointRead is_first here (Some c) there
itself-read is_first {here} {there} {c} h no_backslash no_lead = (λ p. verbatim h p, λ p end d x. other p x)
  where
    other : {end : RemainingCodePoints} {d : ℕ} → is_allowed_as_name_character is_first c ≡ false → NameCharacterAt is_first here end d → ⊥
    other p (verbatim e f) = apart (is_allowed_as_name_character is_first) f p (firsts e h)
    other p (escaped e u f) = no_backslash (firsts h e)
    other p (surrogates e l r f) = apart is_high_surrogate l no_lead (firsts e h)

-- ---- The name so far

-- The characters of `name` and a rest there make a name here, and a name here needs a rest there.
pub record NameSoFar (here : RemainingCodePoints) (name : List ℕ) (there : RemainingCodePoints) : Type 0 where
  pub characters : List ℕ
  pub bytes : name ≡ encode_utf8_all characters
  pub makes : (end : RemainingCodePoints) (more : List ℕ) → NameRest there end more → GroupName here end (encode_utf8_all (characters ++ more))
  pub needs : (end : RemainingCodePoints) (other : List ℕ) → GroupName here end other → (more : List ℕ) × NameRest there end more

rest-from : {here there a : RemainingCodePoints} {n : List ℕ} → here ≡ there → NameRest there a n → NameRest here a n
rest-from {a = a} {n = n} e r = subst (λ x. NameRest x a n) (sym e) r

pub name-begins : {here there : RemainingCodePoints} {c : ℕ} {name : List ℕ} → NameCharacterAt true here there c → name ≡ encode_utf8 c → NameSoFar here name there
name-begins {here} {there} {c} {name} x e = record {
  characters = c ∷ [];
  bytes = e ∙ sym (append-nil (encode_utf8 c));
  makes = λ end more r. group_name x r;
  needs = λ end other g. by end other g;
}
  where
    by : (end : RemainingCodePoints) (other : List ℕ) → GroupName here end other → (more : List ℕ) × NameRest there end more
    by end other (group_name {characters = more} y r) = (more, rest-from (one_name_character start-tests x y).0 r)

pub name-goes-on : {here middle there : RemainingCodePoints} {c : ℕ} {name new : List ℕ} → NameSoFar here name middle → ((rest : RemainingCodePoints) → middle ≡ 62 ∷ rest → ⊥)
    → NameCharacterAt false middle there c → new ≡ name ++ encode_utf8 c → NameSoFar here new there
name-goes-on {here} {middle} {there} {c} {name} {new} s no_end x e = record {
  characters = s.characters ++ c ∷ [];
  bytes = e ∙ ap₂ (λ a b. a ++ b) s.bytes (sym (append-nil (encode_utf8 c))) ∙ sym (encodes-append s.characters (c ∷ []));
  makes = λ end more r. subst (λ y. GroupName here end (encode_utf8_all y)) (sym (append_assoc s.characters (c ∷ []) more)) (s.makes end (c ∷ more) (name_part x r));
  needs = λ end other g. let (more, r) = s.needs end other g in by end more r;
}
  where
    by : (end : RemainingCodePoints) (more : List ℕ) → NameRest middle end more → (rest : List ℕ) × NameRest there end rest
    by end more (name_end f) = absurd (no_end end f)
    by end more (name_part {characters = rest} y r) = (rest, rest-from (one_name_character part-tests x y).0 r)

pub name-ends : {here middle there : RemainingCodePoints} {name : List ℕ} → NameSoFar here name middle → middle ≡ 62 ∷ there → GroupName here there name
name-ends {here} {middle} {there} {name} s e =
    subst (λ y. GroupName here there y) (ap encode_utf8_all (append-nil s.characters) ∙ sym s.bytes) (s.makes there [] (name_end e))

pub name-stops : {here middle : RemainingCodePoints} {name : List ℕ} → NameSoFar here name middle → ((rest : RemainingCodePoints) → middle ≡ 62 ∷ rest → ⊥) → NoNameCharacter false middle
    → (end : RemainingCodePoints) (other : List ℕ) → GroupName here end other → ⊥
name-stops {middle = middle} s no_end none end other g = let (more, r) = s.needs end other g in by more r
  where
    by : (more : List ℕ) → NameRest middle end more → ⊥
    by more (name_end f) = no_end end f
    by more (name_part y r) = none _ _ y

pub no-name : {here : RemainingCodePoints} → NoNameCharacter true here → (end : RemainingCodePoints) (other : List ℕ) → GroupName here end other → ⊥
no-name none end other (group_name x r) = none _ _ x

-- A result that is an error satisfies the contract of a reader if nothing can be read.
pub err-read : {A B : Type 0} (of : A → B) (reads : RemainingCodePoints → B → Type 0) (there : RemainingCodePoints) (r : Result A ParseStopReason) → IsErr r
    → ((end : RemainingCodePoints) (b : B) → reads end b → ⊥) → IsReadOrSyntaxError of reads r there
err-read of reads there (Ok a) e none = absurd (true≢false (sym e))
err-read of reads there (Err e) f none = λ r. none
