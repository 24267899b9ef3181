-- The reader reads backreferences and other escapes of atoms as the profile's grammar specifies.
use Rattle.std.proofs.Common.{◌≡◌, ℕ, zero, suc, ◌-◌, ◌<◌, ◌≤◌, ◌^◌, max, ◌⊎◌, inl, inr, Bool, true, false, not, List, [], ◌∷◌, ◌++◌, length, true≢false, ⊎_elim, nat_eq, nat_lt, refl, sym, ap, subst}
use Rattle.std.proofs.Common.{◌∙◌, arith, Some, None}
use Rattle.std.specs.Prelude.{codes, Option, ◌||◌, ◌==◌, Result, Ok, Err, IsTrue, option_map, String}
use Rattle.std.specs.Result.{IsErrAnd}
use Rattle.std.specs.BTreeMap.{BTreeMap, get_by_text}
use Rattle.std.specs.Char.{is_digit, is_ascii_alphanumeric}
use Rattle.std.specs.Int.{is_in_range}
use Rattle.std.proofs.lemmas.Bool.{or_right, or_cases, eqb-true, not-true, ltb-true}
use Rattle.std.proofs.lemmas.Cmp.{nat_list_eq_equiv}
use Rattle.std.proofs.lemmas.Str.Parse.{digit_from_value}
use Rattle.regex_meaning.specs.Tree.{by_case, Node, back_ref, bracket}
use Rattle.regex_meaning.specs.Text.{is_scalar}
use Rattle.regex_meaning.specs.ReadingStatesAndDigits.{RemainingCodePoints, PatternContext, ◌∈◌, begins_with_characters, Digits, digits_from, group_number_of}
use Rattle.regex_meaning.specs.EscapesNamesQuantifiers.{CharacterEscape, GroupName, group_name}
use Rattle.regex_meaning.specs.CharacterClasses.{ClassMember, class, class_escape, IsSetOf}
use Rattle.regex_meaning.specs.Grammar.{SimpleAtom, pattern_character, extended_character, any_character, decimal_escape, named_reference, character_escape, character_class_escape, character_class}
use Rattle.regex_meaning.specs.GrammarLaws.{no_flags}
use Rattle.regex_meaning.proofs.DisjunctionReadingLemmas.{first}
use Rattle.regex_meaning.proofs.EscapesAndNamesLemmas.{inside, firsts, behind, one_digits, one_name, Some_inj, is_control_letter, control_letter}
use Rattle.regex_meaning.proofs.ClassAndAtomLemmas.{escape_begins, may_escape, class_letter, digit_begins}
use Rattle.regex_meaning.proofs.GroupNameScanLemmas.{scanned}
use Rattle.regex_meaning.proofs.BackreferenceNumberLemmas.{number-positive, number_of-bounds}
use Rattle.regex_parser.specs.declared.character_class_parser.DigitWordOrSpaceEscape.{DigitWordOrSpaceEscape}
use Rattle.regex_pattern_front.specs.declared.flags.Flags.{Flags}
use Rattle.regex_parser.specs.declared.groupless_terms.GrouplessTerm.{GrouplessTerm as TheLeaf}
use Rattle.regex_pattern_front.specs.declared.types.BracketContents.{BracketContents as TheContents}
use Rattle.regex_parser.specs.ClassReaderContracts.{uninverted_digit_word_or_space_set, class_member_of_character_class_escape, class_escape_of_letter}
use Rattle.regex_parser.specs.CodePointReaderContracts.{first_char_if_any, IsCodePointReadIfAny, is_syntax_error, IsNumberRead}
use Rattle.regex_parser.specs.declared.parser_error.ParseStopReason.{ParseStopReason}
use Rattle.regex_pattern_front.specs.AstToSpecTree.{spec_node_of, spec_flags_of, class_as_spec}
use Rattle.regex_parser.specs.GrouplessTermContracts.{NoSimpleAtom, pattern_context, NamesAreNumberedWithinGroupLimit, IsTermReadOrNone, TextBetweenOpensNoGroup, begins_backreference, IsReference}
use Rattle.regex_parser.specs.GrouplessTermContracts.{IsReferencedGroupNumberRead}
use Rattle.regex_parser.specs.GrouplessTermContracts.{IsNameWithNumber, IsReferencedNameNumberRead, IsNumberUnlessMissingOrZero, IsDecimalReadIfItFitsU32}
use Rattle.regex_parser.proofs.GrouplessTermLemmas.{leaf-of, special}
use Rattle.regex_parser.proofs.NumberReaderLemmas.{nonzero_digit_bounds, no-number}

-- ---- Code points that the reader has peeked at

pub first_char_if_any-is : (d : ℕ) (ds : RemainingCodePoints) (c : ℕ) → Some c ≡ first_char_if_any (d ∷ ds) → c ≡ d
first_char_if_any-is d ds c e = by (is_scalar d) refl
  where
    by : (b : Bool) → is_scalar d ≡ b → c ≡ d
    by true f = let g : Some c ≡ Some d = e ∙ rw f refl in Some_inj g
    by false f = let g : Some c ≡ None = e ∙ rw f refl in absurd cc

pub first_char_if_any-next : (rest there : RemainingCodePoints) (c : ℕ) (r : Option ℕ) → Some c ≡ first_char_if_any rest → IsCodePointReadIfAny rest r there → rest ≡ c ∷ there
first_char_if_any-next [] there c r e n = absurd cc
first_char_if_any-next (d ∷ ds) there c None e n = let f : d ∷ ds ≡ [] = n.0 in absurd cc
first_char_if_any-next (d ∷ ds) there c (Some x) e n =
    let f : c ≡ d = first_char_if_any-is d ds c e in
    let g : d ∷ ds ≡ x ∷ there = n in
    g ∙ ap (λ (y : ℕ). y ∷ there) (sym (ap first g) ∙ sym f)

pub class-escaped : (flags : Flags) (groups : List RemainingCodePoints) (rest there : RemainingCodePoints) (letter r : Option ℕ) (e : DigitWordOrSpaceEscape) (b : TheContents) → letter ≡ first_char_if_any rest → IsCodePointReadIfAny rest r there
    → option_map class_member_of_character_class_escape (Some e) ≡ class_escape_of_letter letter → IsSetOf (spec_flags_of flags) (class (uninverted_digit_word_or_space_set e.base) false ∷ []) b.cps → b.invert ≡ e.invert
    → SimpleAtom (pattern_context flags groups) (92 ∷ rest) there (bracket (class_as_spec b))
class-escaped flags groups rest there None r e b p n m s i = absurd cc
class-escaped flags groups rest there (Some c) r e b p n m s i =
    let f : rest ≡ c ∷ there = first_char_if_any-next rest there c r p n in
    let is : class_escape c ≡ Some (class (uninverted_digit_word_or_space_set e.base) b.invert) = sym m ∙ ap (λ x. Some (class (uninverted_digit_word_or_space_set e.base) x)) (sym i) in
    character_class_escape (ap (λ (x : RemainingCodePoints). 92 ∷ x) f) is s

-- ---- Backslashes at which no atom begins

abbrev slash : ℕ → Bool
slash d = d ∈ "\\"

pub no_leaf-slash : (w : PatternContext) (rest : RemainingCodePoints)
    → ((there : RemainingCodePoints) (n : ℕ) → begins_with_characters "0" rest ≡ false → Digits 10 rest there n → n ≤ length w.groups → ⊥)
    → ((a there name : RemainingCodePoints) (n : ℕ) → rest ≡ codes "k<" ++ a → GroupName a there name → group_number_of name w.groups ≡ Some n → ⊥)
    → ((there : RemainingCodePoints) (c : ℕ) → CharacterEscape w.flags.unicode rest there c → ⊥)
    → ((letter : ℕ) (there : RemainingCodePoints) (m : ClassMember) → rest ≡ letter ∷ there → class_escape letter ≡ Some m → ⊥)
    → NoSimpleAtom w (92 ∷ rest)
no_leaf-slash w rest no_number no_name no_character no_class _ n a = by refl a
  where
    by : {here there : RemainingCodePoints} {n : Node} → here ≡ 92 ∷ rest → SimpleAtom w here there n → ⊥
    by s (pattern_character f g) = true≢false (ap special (firsts s f) ∙ g)
    by s (extended_character f g h k) = true≢false (sym g ∙ sym (ap (λ d. d ∈ "{}]") (firsts s f)))
    by s (any_character f) = true≢false (ap slash (firsts s f))
    by {there = there} s (decimal_escape {n = n} f g d l) =
        no_number there n (subst (λ x. begins_with_characters "0" x ≡ false) (behind f s) g) (subst (λ x. Digits 10 x there n) (behind f s) d) l
    by {there = there} s (named_reference {a = a} {name = name} {n = n} f d g) = no_name a there name n (behind s f) d g
    by {there = there} s (character_escape {c = c} f d) = no_character there c (subst (λ x. CharacterEscape w.flags.unicode x there c) (behind f s) d)
    by {there = there} s (character_class_escape {letter = x} f g d) = no_class x there _ (behind s f) g
    by s (character_class f d) = true≢false (ap slash (firsts s f))

-- ---- Characters that begin a reference

abbrev pub is_reference : ℕ → Bool
is_reference c = c == 107 || is_in_range 49 57 c

pub first-reference : (rest : RemainingCodePoints) (letter : Option ℕ) → letter ≡ first_char_if_any rest → begins_backreference letter ≡ true → is_reference (first rest) ≡ true
first-reference rest None e f = absurd (true≢false (sym f))
first-reference [] (Some c) e f = absurd cc
first-reference (d ∷ ds) (Some c) e f = subst (λ x. is_reference x ≡ true) (first_char_if_any-is d ds c e) f

alphanumeric : (c : ℕ) → is_in_range 49 57 c ≡ true → is_ascii_alphanumeric c ≡ true
alphanumeric c e = let h = nonzero_digit_bounds c e in grind arith

no_escape : (c : ℕ) → is_reference c ≡ true → may_escape c ≡ true → ⊥
no_escape c e f = ⊎_elim letter digit (or_cases (c == 107) _ e)
  where
    letter : (c == 107) ≡ true → ⊥
    letter h = true≢false (sym f ∙ ap may_escape (eqb-true c 107 h))

    digit : is_in_range 49 57 c ≡ true → ⊥
    digit h = ⊎_elim (λ x. true≢false (sym h ∙ not-true _ (control_letter (λ d. not (is_in_range 49 57 d)) c refl x)))
        (λ x. ⊎_elim (λ y. true≢false (sym h ∙ not-true _ (inside (λ d. not (is_in_range 49 57 d)) (codes "0xu") c refl y)))
        (λ y. true≢false (sym (alphanumeric c h) ∙ not-true _ y)) (or_cases (c ∈ "0xu") _ x)) (or_cases (is_control_letter c) _ f)

pub no_leaf-reference : (w : PatternContext) (rest : RemainingCodePoints) → is_reference (first rest) ≡ true
    → ((there : RemainingCodePoints) (n : ℕ) → Digits 10 rest there n → n ≤ length w.groups → ⊥)
    → ((a there name : RemainingCodePoints) (n : ℕ) → rest ≡ codes "k<" ++ a → GroupName a there name → group_number_of name w.groups ≡ Some n → ⊥)
    → NoSimpleAtom w (92 ∷ rest)
no_leaf-reference w rest e no_number no_name =
    no_leaf-slash w rest (λ there n z d l. no_number there n d l) no_name (λ there c d. no_escape (first rest) e (escape_begins d))
    (λ letter there m f g. true≢false (sym (class_letter (λ d. not (is_reference d)) letter refl g) ∙ ap not (sym (ap (λ x. is_reference (first x)) f) ∙ e)))

-- ---- Numbers

pub no_zero : (rest : RemainingCodePoints) → is_reference (first rest) ≡ true → begins_with_characters "0" rest ≡ false
no_zero [] e = refl
no_zero (c ∷ cs) e = by (nat_eq 48 c) refl
  where
    by : (b : Bool) → nat_eq 48 c ≡ b → begins_with_characters "0" (c ∷ cs) ≡ false
    by true f = absurd (true≢false (sym e ∙ ap is_reference (sym (eqb-true 48 c f))))
    by false f = rw f refl

pub digits-positive : (rest there : RemainingCodePoints) (n : ℕ) → is_reference (first rest) ≡ true → Digits 10 rest there n → 0 < n
digits-positive rest there n e d = number-positive (no_zero rest e) d

-- ---- Names

module _ {R : Type 0} (numbers : BTreeMap (String R) ℕ) (groups : List RemainingCodePoints) (known : NamesAreNumberedWithinGroupLimit numbers groups) where
  pub named : {a there name : RemainingCodePoints} {n : ℕ} → GroupName a there name → get_by_text numbers name ≡ Some n → group_number_of name groups ≡ Some n
  named (group_name e f) g = sym (known.0 _ f) ∙ g

  unnamed : {a there name : RemainingCodePoints} {n : ℕ} → GroupName a there name → group_number_of name groups ≡ Some n → get_by_text numbers name ≡ Some n
  unnamed (group_name e f) g = known.0 _ f ∙ g

  -- A backslash before a letter that begins a reference begins no atom if no reference is there.
  pub reference-none : (flags : Flags) (rest : RemainingCodePoints) (letter : Option ℕ) → letter ≡ first_char_if_any rest → begins_backreference letter ≡ true
      → ((there : RemainingCodePoints) (n : ℕ) → IsReference (λ x. get_by_text numbers x) rest there n → 0 < n → n < 2 ^ 32 → ⊥)
      → NoSimpleAtom (pattern_context flags groups) (92 ∷ rest)
  reference-none flags rest letter p b none =
      let e = first-reference rest letter p b in
      no_leaf-reference (pattern_context flags groups) rest e
      (λ there n d l. none there n (inl d) (digits-positive rest there n e d) (omega (arith, known.1, l)))
      (λ a there name n f g h. let k = number_of-bounds name groups n h in
      none there n (inr (a, name, f, g, unnamed g h)) k.0 (omega (arith, known.1, k.1)))

  made : (flags : Flags) (rest there : RemainingCodePoints) (n : ℕ) → is_reference (first rest) ≡ true → IsReference (λ x. get_by_text numbers x) rest there n → n ≤ length groups
      → SimpleAtom (pattern_context flags groups) (92 ∷ rest) there (back_ref n (by_case flags.icase))
  made flags rest there n e (inl d) l = decimal_escape refl (no_zero rest e) d l
  made flags rest there n e (inr x) l = named_reference (ap (λ (y : RemainingCodePoints). 92 ∷ y) x.2) x.3 (named x.3 x.4)

  past_groups : (flags : Flags) (rest there : RemainingCodePoints) (n : ℕ) → is_reference (first rest) ≡ true → IsReference (λ x. get_by_text numbers x) rest there n → length groups < n
      → NoSimpleAtom (pattern_context flags groups) (92 ∷ rest)
  past_groups flags rest there n e (inl d) l =
      no_leaf-reference (pattern_context flags groups) rest e (λ end m d' k. let same : n ≡ m = (one_digits d d').1 in omega (arith, same, k, l))
      (λ a end name m f g h. true≢false (sym (digit_begins d) ∙ ap (λ x. is_digit (first x) 10) f))
  past_groups flags rest there n e (inr x) l = let k = number_of-bounds _ groups n (named x.3 x.4) in absurd (omega (arith, k.1, l))

  pub reference-read : (flags : Flags) (rest there : RemainingCodePoints) (letter : Option ℕ) (l : TheLeaf) (old n new : ℕ) → letter ≡ first_char_if_any rest → begins_backreference letter ≡ true
      → IsReference (λ x. get_by_text numbers x) rest there n → l.is_atom ≡ true → spec_node_of l.node ≡ back_ref n (by_case flags.icase) → new ≡ max old n
      → IsTermReadOrNone (NoSimpleAtom (pattern_context flags groups) (92 ∷ rest)) (pattern_context flags groups) (92 ∷ rest) (Ok l) old new there
  reference-read flags rest there letter l old n new p b r a m k =
      let e = first-reference rest letter p b in (
        λ h. leaf-of (pattern_context flags groups) (92 ∷ rest) there l (back_ref n (by_case flags.icase)) a m (made flags rest there n e r (omega (arith, k, h))),
        λ h. by e h (nat_lt (length groups) old) refl,
      )
    where
      by : is_reference (first rest) ≡ true → length groups < new → (t : Bool) → nat_lt (length groups) old ≡ t → (length groups < old) ⊎ NoSimpleAtom (pattern_context flags groups) (92 ∷ rest)
      by e h true t = inl (ltb-true _ _ t)
      by e h false t = inr (past_groups flags rest there n e r (let low : old ≤ length groups = grind arith in omega (arith, k, h, low)))

-- ---- References, which open no group

many : ℕ → List RemainingCodePoints
many zero = []
many (suc n) = [] ∷ many n

so_many : (n : ℕ) → length (many n) ≡ n
unfolding many
so_many zero = refl
so_many (suc n) = let h = so_many n in omega (arith, h)

pub reference-passed : (numbers : RemainingCodePoints → Option ℕ) (rest there : RemainingCodePoints) (n : ℕ) (letter : Option ℕ) → letter ≡ first_char_if_any rest → begins_backreference letter ≡ true → IsReference numbers rest there n → TextBetweenOpensNoGroup (92 ∷ rest) there
reference-passed numbers rest there n letter p b (inl d) =
    scanned.past_leaf (record { flags = no_flags; groups = many n }) _ _ _ (decimal_escape refl (no_zero rest (first-reference rest letter p b)) d (omega (arith, so_many n)))
reference-passed numbers rest there n letter p b (inr x) =
    scanned.past_leaf (record { flags = no_flags; groups = x.1 ∷ [] }) _ _ _ (named_reference {n = 1} (ap (λ (y : RemainingCodePoints). 92 ∷ y) x.2) x.3 (rw (nat_list_eq_equiv.refl x.1) refl))

-- ---- Escapes that are neither a class nor a reference

pub unescaped-none : (w : PatternContext) (rest : RemainingCodePoints) (letter : Option ℕ) → letter ≡ first_char_if_any rest
    → ((x : ℕ) (there : RemainingCodePoints) (m : ClassMember) → rest ≡ x ∷ there → class_escape x ≡ Some m → ⊥) → begins_backreference letter ≡ false
    → ((there : RemainingCodePoints) (c : ℕ) → CharacterEscape w.flags.unicode rest there c → ⊥) → NoSimpleAtom w (92 ∷ rest)
unescaped-none w rest letter p no_class b no_character =
    no_leaf-slash w rest (λ there n z d l. by_number rest letter p b z d) (λ a there name n f d g. by_name rest letter p b f) no_character no_class
  where
    here : (d : ℕ) (ds : RemainingCodePoints) (letter : Option ℕ) → is_scalar d ≡ true → letter ≡ first_char_if_any (d ∷ ds) → begins_backreference letter ≡ false → is_reference d ≡ false
    here d ds letter s p b = let e : first_char_if_any (d ∷ ds) ≡ Some d = rw s refl in sym (ap begins_backreference (p ∙ e)) ∙ b

    by_name : (rest : RemainingCodePoints) (letter : Option ℕ) → letter ≡ first_char_if_any rest → begins_backreference letter ≡ false → {a : RemainingCodePoints} → rest ≡ 107 ∷ 60 ∷ a → ⊥
    by_name rest letter p b {a} f = true≢false (here 107 (60 ∷ a) letter refl (p ∙ ap first_char_if_any f) b)

    by_number : (rest : RemainingCodePoints) (letter : Option ℕ) → letter ≡ first_char_if_any rest → begins_backreference letter ≡ false → begins_with_characters "0" rest ≡ false → {there : RemainingCodePoints} {n : ℕ} → Digits 10 rest there n → ⊥
    by_number [] letter p b z (digits_from k) = omega arith
    by_number (c ∷ cs) letter p b z d = digit (digit_begins d)
      where
        scalar : (c : ℕ) → c ≤ 57 → is_scalar c ≡ true
        scalar c h = grind arith

        within : (c : ℕ) → 49 ≤ c → c ≤ 57 → is_in_range 49 57 c ≡ true
        within c h k = grind arith

        digit : is_digit c 10 ≡ true → ⊥
        digit e =
            let r = digit_from_value c (ltb-true _ _ e) in
            let low : 48 ≤ c = omega (arith, r.0) in
            let high : c ≤ 57 = omega (arith, r.1) in
            let not_zero : (48 ≡ c → ⊥) = (λ f. let g : begins_with_characters "0" (48 ∷ cs) ≡ false = subst (λ x. begins_with_characters "0" (x ∷ cs) ≡ false) (sym f) z in true≢false g) in
            let above : 49 ≤ c = next c low not_zero in
            true≢false (sym (or_right (c == 107) _ (within c above high)) ∙ here c cs letter (scalar c high) p b)
          where
            next : (c : ℕ) → 48 ≤ c → (48 ≡ c → ⊥) → 49 ≤ c
            next c h k = omega arith

-- ---- The number of a reference

pub decimal-none : (here there : RemainingCodePoints) → IsNumberRead 10 (2 ^ 64 - 1) here None there → IsDecimalReadIfItFitsU32 here None there
decimal-none here there h = λ end n d l. no-number d h.1

pub decimal-big : (here there : RemainingCodePoints) (v : ℕ) → IsNumberRead 10 (2 ^ 64 - 1) here (Some v) there → 2 ^ 32 ≤ v → IsDecimalReadIfItFitsU32 here None there
decimal-big here there v h k = λ end n d l. let same : h.0 ≡ n = (one_digits h.1 d).1 in omega (arith, h.2, same, k, l)

pub decimal-fits : (here there : RemainingCodePoints) (v : ℕ) → IsNumberRead 10 (2 ^ 64 - 1) here (Some v) there → v < 2 ^ 32 → Digits 10 here there v
decimal-fits here there v h k = let same : h.0 ≡ v = omega (arith, h.2, k) in subst (λ x. Digits 10 here there x) same h.1

pub by-decimal : (numbers : RemainingCodePoints → Option ℕ) (here middle there : RemainingCodePoints) (o : Option ℕ) (r : Result ℕ ParseStopReason) → (middle ≡ here) × ((a : RemainingCodePoints) → here ≡ 107 ∷ a → ⊥) → IsDecimalReadIfItFitsU32 middle o there
    → IsNumberUnlessMissingOrZero o r → IsReferencedGroupNumberRead numbers here r there
by-decimal numbers here middle there o (Ok n) e d k =
    inl (subst (λ x. Digits 10 x there n) e.0 (subst (λ x. IsDecimalReadIfItFitsU32 middle x there) k.0 d))
by-decimal numbers here middle there None (Err x) e d k = λ refused end n reference some small. ⊎_elim
    (λ f. d end n (subst (λ x. Digits 10 x end n) (sym e.0) f) small) (λ f. e.1 _ f.2) reference
by-decimal numbers here middle there (Some m) (Err x) e d k = λ refused end n reference some small. ⊎_elim
    (λ f. k n (ap (λ (y : ℕ). Some y) (one_digits d (subst (λ x. Digits 10 x end n) (sym e.0) f)).1) some) (λ f. e.1 _ f.2) reference

pub by-name : (numbers : RemainingCodePoints → Option ℕ) (here middle there : RemainingCodePoints) (r : Result ℕ ParseStopReason) → here ≡ 107 ∷ middle → IsReferencedNameNumberRead numbers middle r there → IsReferencedGroupNumberRead numbers here r there
by-name numbers here middle there (Ok n) e h = inr (h.0, h.1, e ∙ ap (λ (x : RemainingCodePoints). 107 ∷ x) h.2, h.3, h.4)
by-name numbers here middle there (Err x) e h = λ refused end n reference some small. ⊎_elim
    (λ d. true≢false (sym (digit_begins d) ∙ ap (λ y. is_digit (first y) 10) e)) (λ f. h refused end n (f.0, f.1, behind e f.2, f.3, f.4) some) reference

pub named-none : (numbers : RemainingCodePoints → Option ℕ) (here : RemainingCodePoints) → ((a : RemainingCodePoints) → here ≡ 60 ∷ a → ⊥) → (end : RemainingCodePoints) (n : ℕ) → IsNameWithNumber numbers here end n → ⊥
named-none numbers here none end n f = none _ f.2

pub named-read : (numbers : RemainingCodePoints → Option ℕ) (here middle there name : RemainingCodePoints) (o : Option ℕ) (r : Result ℕ ParseStopReason) → here ≡ 60 ∷ middle → GroupName middle there name → o ≡ numbers name
    → IsNumberUnlessMissingOrZero o r → IsReferencedNameNumberRead numbers here r there
named-read numbers here middle there name o (Ok n) e g f k = (middle, name, e, g, sym f ∙ k.0)
named-read numbers here middle there name o (Err x) e g f k = λ refused end n h some.
    let other : GroupName middle end h.1 = subst (λ y. GroupName y end h.1) (behind h.2 e) h.3 in
    k n (f ∙ ap numbers (one_name _ _ _ _ _ g other).1 ∙ h.4) some

pub named-err : {P : ParseStopReason → Type 0} (numbers : RemainingCodePoints → Option ℕ) (here middle there : RemainingCodePoints) (r : Result ℕ ParseStopReason) (e : ParseStopReason) → IsErrAnd r P → ((x : ParseStopReason) → P x → x ≡ e) → here ≡ 60 ∷ middle
    → (IsTrue (is_syntax_error e) → (end name : RemainingCodePoints) → GroupName middle end name → ⊥) → IsReferencedNameNumberRead numbers here r there
named-err numbers here middle there (Ok n) e h same f none = absurd h
named-err numbers here middle there (Err x) e h same f none = λ refused end n k some.
    none (sym (ap is_syntax_error (same x h)) ∙ refused) end k.1 (subst (λ y. GroupName y end k.1) (behind k.2 f) k.3)
