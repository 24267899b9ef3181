-- The expansion of a template, part by part, and the ranges of the groups of a match.
use Rattle.std.proofs.Common.{◌≡◌, ℕ, zero, suc, ◌+◌, ◌-◌, Bool, true, false, List, [], ◌∷◌, ◌++◌, length, drop, refl, sym, ap, ◌∙◌, arith, append_assoc}
use Rattle.std.specs.Prelude.{Option, Some, None, IfSome, if◌then◌else◌, option_map, slice_get, unwrap_or}
use Rattle.std.specs.List.{list_all}
use Rattle.std.specs.Option.{option_or}
use Rattle.regex_meaning.specs.Laws.{Each}
use Rattle.regex_meaning.specs.MatchGroupsByNumberAndName.{Answer, first_range, group, ids_named, named_group}
use Rattle.regex_meaning.specs.Outcomes.{group_range}
use Rattle.regress_match.specs.ExpansionsAndMatchRanges.{MatchRangesLieWithinUnits, IsRangeWithinUnits}
use Rattle.regex_meaning.specs.Replace.{text_of}
use Rattle.use_regexp.specs.Template.{IsWritten, ExpansionAndRest, is_ascii, has_group_of_number, named_text, numbered, said, said_in, expansion_and_rest, two_digit_number_or_zero}

module _ (text : List ℕ) (m : Answer) where
  -- The expansion of an empty template is empty.
  pub said-none : (count : ℕ) (rest : List ℕ) → length rest ≡ 0 → said_in text m count rest ≡ []
  said-none zero rest none = refl
  said-none (suc count) [] none = refl
  said-none (suc count) (c ∷ rest) none = absurd (omega arith)

  pub said-out : (count : ℕ) (rest : List ℕ) → count ≡ 0 → said_in text m count rest ≡ []
  said-out count rest none = ap (λ n. said_in text m n rest) none

  -- The expansion of the first part precedes the expansion of the rest.
  pub said-more : (before after whole rest behind left : List ℕ) (first count next : ℕ) → before ++ said_in text m count rest ≡ whole
      → rest ≡ first ∷ behind → count ≡ suc next → IsWritten before after left (said text m first behind) → after ++ said_in text m next left ≡ whole
  said-more before after whole rest behind left first count next h r c w =
      let s = said text m first behind in
      rw (w.0, w.1)
      (append_assoc before s.units (said_in text m next s.rest)
      ∙ ap (λ n. before ++ said_in text m n (first ∷ behind)) (sym c) ∙ ap (λ t. before ++ said_in text m count t) (sym r) ∙ h)

  -- ---- Parts of a template

  -- The output is extended by the expansion of a part.
  written : (before after left units rest : List ℕ) (s : ExpansionAndRest) → s ≡ expansion_and_rest units rest → after ≡ before ++ units → left ≡ rest → IsWritten before after left s
  written before after left units rest s e a l = (a ∙ ap (λ (s : ExpansionAndRest). before ++ s.units) (sym e), l ∙ ap (λ (s : ExpansionAndRest). s.rest) (sym e))

  pub two-written : (before after left rest : List ℕ) (digit one two : ℕ) → one ≡ digit - 48 → two ≡ two_digit_number_or_zero one rest → has_group_of_number m two ≡ true
      → after ≡ before ++ text_of text m (group m two) → left ≡ drop 1 rest → IsWritten before after left (numbered text m digit rest)
  two-written before after left rest digit one two o t g a l =
      let at : two_digit_number_or_zero (digit - 48) rest ≡ two = ap (λ n. two_digit_number_or_zero n rest) (sym o) ∙ sym t in
      written before after left (text_of text m (group m two)) (drop 1 rest) _ (rw (at, g) refl) a l

  pub one-written : (before after left rest : List ℕ) (digit one two : ℕ) → one ≡ digit - 48 → two ≡ two_digit_number_or_zero one rest → has_group_of_number m two ≡ false
      → has_group_of_number m one ≡ true → after ≡ before ++ text_of text m (group m one) → left ≡ rest → IsWritten before after left (numbered text m digit rest)
  one-written before after left rest digit one two o t n g a l =
      let at : two_digit_number_or_zero (digit - 48) rest ≡ two = ap (λ n. two_digit_number_or_zero n rest) (sym o) ∙ sym t in
      let is : has_group_of_number m (digit - 48) ≡ true = ap (has_group_of_number m) (sym o) ∙ g in
      written before after left (text_of text m (group m (digit - 48))) rest _ (rw (at, n, is) refl) (a ∙ ap (λ k. before ++ text_of text m (group m k)) o) l

  -- An ASCII name identifies a group by its bytes.
  pub named-text-is : (name bytes : List ℕ) → Some bytes ≡ (if list_all is_ascii name then Some name else None) → text_of text m (named_group m bytes) ≡ named_text text m name
  named-text-is name bytes e = by (list_all is_ascii name) e
    where
      by : (b : Bool) → Some bytes ≡ (if b then Some name else None) → text_of text m (named_group m bytes) ≡ (if b then text_of text m (named_group m name) else [])
      by true e = let same : bytes ≡ name = cc in ap (λ n. text_of text m (named_group m n)) same
      by false e = cc

-- ---- Groups

module _ (us : List ℕ) where
  unwrapped : (o : Option (Option (ℕ × ℕ))) → IfSome o (λ g. IfSome g (IsRangeWithinUnits us)) → IfSome (unwrap_or o None) (IsRangeWithinUnits us)
  unwrapped None h = tt
  unwrapped (Some g) h = h

  either : (a b : Option (ℕ × ℕ)) → IfSome a (IsRangeWithinUnits us) → IfSome b (IsRangeWithinUnits us) → IfSome (option_or a b) (IsRangeWithinUnits us)
  either None b h k = k
  either (Some x) b h k = h

  get-within : (groups : List (Option (ℕ × ℕ))) (id : ℕ) → Each (λ g. IfSome g (IsRangeWithinUnits us)) groups → IfSome (slice_get groups id) (λ g. IfSome g (IsRangeWithinUnits us))
  get-within [] id h = tt
  get-within (g ∷ groups) zero h = h.0
  get-within (g ∷ groups) (suc id) h = get-within groups id h.1

  range-within : (m : Answer) (id : ℕ) → MatchRangesLieWithinUnits us m → IfSome (group_range m.captures id) (IsRangeWithinUnits us)
  range-within m id fits = unwrapped (slice_get m.captures id) (get-within m.captures id fits.groups)

  -- The range of a group by number is in the text.
  pub group-within : (m : Answer) (number : ℕ) → MatchRangesLieWithinUnits us m → IfSome (group m number) (IsRangeWithinUnits us)
  group-within m zero fits = fits.whole
  group-within m (suc id) fits = range-within m id fits

  first-within : (m : Answer) (ids : List ℕ) → MatchRangesLieWithinUnits us m → IfSome (first_range m ids) (IsRangeWithinUnits us)
  first-within m [] fits = tt
  first-within m (id ∷ ids) fits = either (group_range m.captures id) (first_range m ids) (range-within m id fits) (first-within m ids fits)

  -- The range of a group by name is in the text.
  pub named-within : (m : Answer) (name : List ℕ) → MatchRangesLieWithinUnits us m → IfSome (named_group m name) (IsRangeWithinUnits us)
  named-within m [] fits = tt
  named-within m (c ∷ name) fits = first-within m (ids_named m (c ∷ name)) fits
