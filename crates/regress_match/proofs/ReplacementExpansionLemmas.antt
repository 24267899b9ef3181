-- Reading a replacement part by part writes its expansion for a match.
use Rattle.std.proofs.Common.{◌≡◌, ℕ, zero, suc, ◌+◌, ◌*◌, ◌≤◌, ◌<◌, Bool, true, false, ◌&&◌, List, [], ◌∷◌, ◌++◌, length, map, drop, take, refl, sym, ap, ◌∙◌, arith, append_assoc, nat_le, not, cond}
use Rattle.std.proofs.Common.{◌-◌, ◌||◌, IsUtf8, IsCharBoundary, length-drop, append-nil, lit<}
use Rattle.std.specs.Prelude.{if◌then◌else◌, ◌==◌, Option, Some, None, IfSome, slice_get, Result, Ok, Err, is_ok, IfOk}
use Rattle.std.specs.List.{before_first, after_first, position_or_len, list_any}
use Rattle.std.specs.Option.{option_or}
use Rattle.std.specs.Char.{encode_utf8, is_ascii_digit, digit_value}
use Rattle.std.proofs.lemmas.Bool.{eqb-true}
use Rattle.std.proofs.lemmas.Str.{IsCharBoundary-after_ascii, encode_ascii}
use Rattle.regex_meaning.specs.Laws.{Each}
use Rattle.regex_meaning.specs.Outcomes.{group_range}
use Rattle.regex_meaning.specs.MatchGroupsByNumberAndName.{Answer, group, named_group, first_range, ids_named}
use Rattle.regex_meaning.specs.Replace.{ReplacementPart, literal, group_part, named_part, ParsedPart, parsed_part_from_single_replacement_part, parse_digits_of_group_number, parse_braced_name}
use Rattle.regex_meaning.specs.Replace.{parse_after_dollar, parse_replacement, text_of, text_of_part, text_of_parts, expansion, max_capture_groups}
use Rattle.regress_match.specs.ExpansionsAndMatchRanges.{IsCharBoundaryRange, MatchFitsText}

-- ---- The rest of a replacement

-- If both rests are short enough, so is either of them.
either-rest : (c : Bool) (x y : ParsedPart) (n : ℕ) → length x.rest ≤ n → length y.rest ≤ n → length (if c then x else y).rest ≤ n
either-rest true x y n h k = h
either-rest false x y n h k = k

numbered-rest : (value : ℕ) (bytes : List ℕ) → length (parse_digits_of_group_number value bytes).rest ≤ length bytes
numbered-rest value [] = omega arith
numbered-rest value (b ∷ bytes) =
    let more : length (parse_digits_of_group_number (value * 10 + digit_value b) bytes).rest ≤ length bytes = numbered-rest (value * 10 + digit_value b) bytes in
    either-rest (is_ascii_digit b && nat_le value max_capture_groups) (parse_digits_of_group_number (value * 10 + digit_value b) bytes) (parsed_part_from_single_replacement_part (group_part value) (b ∷ bytes)) (length (b ∷ bytes))
    (omega (arith, more)) (omega arith)

drop-rest : (k : ℕ) (bytes : List ℕ) → length (drop k bytes) ≤ length bytes
drop-rest zero bytes = omega arith
drop-rest (suc k) [] = omega arith
drop-rest (suc k) (b ∷ bytes) = let h = drop-rest k bytes in omega (arith, h)

braced-rest : (bytes : List ℕ) → length (parse_braced_name bytes).rest ≤ length bytes
braced-rest bytes =
    either-rest (list_any (λ b. b == 125) bytes) (parsed_part_from_single_replacement_part (named_part (before_first (λ b. b == 125) bytes)) (after_first (λ b. b == 125) bytes))
    (record { parts = literal 36 ∷ literal 123 ∷ map literal bytes; rest = [] }) (length bytes)
    (drop-rest (position_or_len (λ b. b == 125) bytes + 1) bytes) (omega arith)

dollar-rest : (bytes : List ℕ) → length (parse_after_dollar bytes).rest ≤ length bytes
dollar-rest [] = omega arith
dollar-rest (b ∷ bytes) =
    let whole = length (b ∷ bytes) in
    let named : length (parse_braced_name bytes).rest ≤ length bytes = braced-rest bytes in
    let alone = parsed_part_from_single_replacement_part (literal 36) (b ∷ bytes) in
    let name_or_alone = if b == 123 then parse_braced_name bytes else alone in
    let digits_or = if is_ascii_digit b then parse_digits_of_group_number 0 (b ∷ bytes) else name_or_alone in
    either-rest (b == 36) (parsed_part_from_single_replacement_part (literal 36) bytes) digits_or whole (omega arith)
    (either-rest (is_ascii_digit b) (parse_digits_of_group_number 0 (b ∷ bytes)) name_or_alone whole (numbered-rest 0 (b ∷ bytes))
    (either-rest (b == 123) (parse_braced_name bytes) alone whole (omega (arith, named)) (omega arith)))

-- The parser returns this part for the head of a replacement.
abbrev begun : ℕ → List ℕ → ParsedPart
begun b bytes = if b == 36 then parse_after_dollar bytes else parsed_part_from_single_replacement_part (literal b) bytes

begun-rest : (b : ℕ) (bytes : List ℕ) → length (begun b bytes).rest ≤ length bytes
begun-rest b bytes = either-rest (b == 36) (parse_after_dollar bytes) (parsed_part_from_single_replacement_part (literal b) bytes) (length bytes) (dollar-rest bytes) (omega arith)

-- Parsing gives the same parts for all sufficient numbers of steps.
enough : (n k : ℕ) (bytes : List ℕ) → length bytes ≤ n → length bytes ≤ k → parse_replacement n bytes ≡ parse_replacement k bytes
enough zero zero bytes h l = refl
enough zero (suc k) [] h l = refl
enough zero (suc k) (b ∷ bytes) h l = absurd (omega (arith, h))
enough (suc n) zero [] h l = refl
enough (suc n) zero (b ∷ bytes) h l = absurd (omega (arith, l))
enough (suc n) (suc k) [] h l = refl
enough (suc n) (suc k) (b ∷ bytes) h l =
    let short = begun-rest b bytes in
    ap (λ ps. (begun b bytes).parts ++ ps) (enough n k (begun b bytes).rest (omega (arith, h, short)) (omega (arith, l, short)))

-- ---- The written text

abbrev pub is_dollar : ℕ → Bool
is_dollar b = b == 36

module _ (text : List ℕ) (m : Answer) where
  parts-append : (ps qs : List ReplacementPart) → text_of_parts text m (ps ++ qs) ≡ text_of_parts text m ps ++ text_of_parts text m qs
  parts-append [] qs = refl
  parts-append (p ∷ ps) qs = ap (λ t. text_of_part text m p ++ t) (parts-append ps qs) ∙ sym (append_assoc (text_of_part text m p) (text_of_parts text m ps) (text_of_parts text m qs))

  expansion-step : (b : ℕ) (bytes : List ℕ) → expansion text m (b ∷ bytes) ≡ text_of_parts text m (begun b bytes).parts ++ expansion text m (begun b bytes).rest
  unfolding expansion
  expansion-step b bytes =
      parts-append (begun b bytes).parts (parse_replacement (length bytes) (begun b bytes).rest)
      ∙ ap (λ ps. text_of_parts text m (begun b bytes).parts ++ text_of_parts text m ps)
      (enough (length bytes) (length (begun b bytes).rest) (begun b bytes).rest (begun-rest b bytes) (omega arith))

  expansion-literal : (b : ℕ) (bytes : List ℕ) → (b == 36) ≡ false → expansion text m (b ∷ bytes) ≡ b ∷ expansion text m bytes
  expansion-literal b bytes e =
      expansion-step b bytes
      ∙ ap (λ (x : ParsedPart). text_of_parts text m x.parts ++ expansion text m x.rest) (ap (λ c. if c then parse_after_dollar bytes else parsed_part_from_single_replacement_part (literal b) bytes) e)

  pub expansion-dollar : (bytes : List ℕ) → expansion text m (36 ∷ bytes) ≡ text_of_parts text m (parse_after_dollar bytes).parts ++ expansion text m (parse_after_dollar bytes).rest
  expansion-dollar bytes = expansion-step 36 bytes

  -- The expansion of a replacement without `$` is the replacement itself.
  pub expansion-plain : (bytes : List ℕ) → position_or_len is_dollar bytes ≡ length bytes → expansion text m bytes ≡ bytes
  unfolding expansion
  expansion-plain [] h = refl
  expansion-plain (b ∷ bytes) h = by (expansion-plain bytes) (b == 36) refl h
    where
      by : (position_or_len is_dollar bytes ≡ length bytes → expansion text m bytes ≡ bytes) → (c : Bool) → (b == 36) ≡ c
          → cond (not c) (1 + position_or_len is_dollar bytes) 0 ≡ suc (length bytes) → expansion text m (b ∷ bytes) ≡ b ∷ bytes
      by f true e k = absurd (omega (arith, k))
      by f false e k = expansion-literal b bytes e ∙ ap (λ t. b ∷ t) (f (omega (arith, k)))

  one-on : (b n : ℕ) (bytes : List ℕ) → take (1 + n) (b ∷ bytes) ++ expansion text m (36 ∷ drop (1 + n + 1) (b ∷ bytes))
      ≡ b ∷ (take n bytes ++ expansion text m (36 ∷ drop (n + 1) bytes))
  one-on b n bytes =
      let taken : 1 + n ≡ suc n = omega arith in
      let dropped : 1 + n + 1 ≡ suc (n + 1) = omega arith in
      rw (dropped, taken) refl

  -- The text before the first `$` is written as it is.
  until-dollar : (bytes : List ℕ) → position_or_len is_dollar bytes < length bytes
      → expansion text m bytes ≡ before_first is_dollar bytes ++ expansion text m (36 ∷ after_first is_dollar bytes)
  until-dollar [] h = absurd (omega (arith, h))
  until-dollar (b ∷ bytes) h = by (until-dollar bytes) (b == 36) refl h
    where
      by : (position_or_len is_dollar bytes < length bytes → expansion text m bytes ≡ before_first is_dollar bytes ++ expansion text m (36 ∷ after_first is_dollar bytes))
          → (c : Bool) → (b == 36) ≡ c → cond (not c) (1 + position_or_len is_dollar bytes) 0 < suc (length bytes)
          → expansion text m (b ∷ bytes) ≡ take (cond (not c) (1 + position_or_len is_dollar bytes) 0) (b ∷ bytes)
          ++ expansion text m (36 ∷ drop (cond (not c) (1 + position_or_len is_dollar bytes) 0 + 1) (b ∷ bytes))
      by f true e k = ap (λ x. expansion text m (x ∷ bytes)) (eqb-true b 36 e)
      by f false e k = expansion-literal b bytes e ∙ ap (λ t. b ∷ t) (f (omega (arith, k))) ∙ sym (one-on b (position_or_len is_dollar bytes) bytes)

  -- After a part is written, the text and the expansion of the rest still give the whole.
  pub expansion-more : (bytes before behind left : List ℕ) (parts : List ReplacementPart) (out written next whole : List ℕ)
      → position_or_len is_dollar bytes < length bytes → before ≡ before_first is_dollar bytes → behind ≡ after_first is_dollar bytes
      → record { parts = parts; rest = left } ≡ parse_after_dollar behind → written ≡ out ++ before → next ≡ written ++ text_of_parts text m parts
      → out ++ expansion text m bytes ≡ whole → next ++ expansion text m left ≡ whole
  expansion-more bytes before behind left parts out written next whole inside b a read w n e =
      rw (n, w)
      (append_assoc (out ++ before) (text_of_parts text m parts) (expansion text m left)
      ∙ append_assoc out before _
      ∙ ap (λ t. out ++ (before ++ t)) (ap (λ (x : ParsedPart). text_of_parts text m x.parts ++ expansion text m x.rest) read ∙ sym (expansion-dollar behind))
      ∙ ap (λ t. out ++ t) (ap (λ t. t ++ expansion text m (36 ∷ behind)) b ∙ ap (λ t. before_first is_dollar bytes ++ expansion text m (36 ∷ t)) a ∙ sym (until-dollar bytes inside))
      ∙ e)

  -- If the rest has no `$`, the rest is appended as it is.
  pub expansion-end : {T E : Type 0} (r : Result T E) (new out rest whole : List ℕ) → new ≡ (if is_ok r then out ++ rest else out)
      → out ++ expansion text m rest ≡ whole → position_or_len is_dollar rest ≡ length rest → IfOk r (λ _. new ≡ whole)
  expansion-end (Ok x) new out rest whole n e none = n ∙ ap (λ t. out ++ t) (sym (expansion-plain rest none)) ∙ e
  expansion-end (Err x) new out rest whole n e none = tt

  literals : (bytes : List ℕ) → text_of_parts text m (map literal bytes) ≡ bytes
  literals [] = refl
  literals (b ∷ bytes) = ap (λ t. b ∷ t) (literals bytes)

  -- A `$` and literal text are written.
  pub dollar-written : {T E : Type 0} (r : Result T E) (new mid old behind : List ℕ) (parts : List ReplacementPart) → mid ≡ old ++ encode_utf8 36
      → new ≡ (if is_ok r then mid ++ behind else mid) → parts ≡ literal 36 ∷ map literal behind → IfOk r (λ _. new ≡ old ++ text_of_parts text m parts)
  dollar-written (Ok x) new mid old behind parts h n p =
      n ∙ ap (λ t. t ++ behind) (h ∙ ap (λ t. old ++ t) (encode_ascii 36 (lit< tt))) ∙ append_assoc old (36 ∷ []) behind
      ∙ ap (λ t. old ++ 36 ∷ t) (sym (literals behind)) ∙ ap (λ ps. old ++ text_of_parts text m ps) (sym p)
  dollar-written (Err x) new mid old behind parts h n p = tt

  -- The text of a group is written.
  pub part-written : {T E : Type 0} (r : Result T E) (new old : List ℕ) (range : Option (ℕ × ℕ)) (part : ReplacementPart) (parts : List ReplacementPart)
      → IfOk r (λ _. (o : Answer) → new ≡ old ++ text_of text o range) → text_of text m range ≡ text_of_part text m part → parts ≡ part ∷ []
      → IfOk r (λ _. new ≡ old ++ text_of_parts text m parts)
  part-written (Ok x) new old range part parts h e p =
      h m ∙ ap (λ t. old ++ t) (e ∙ sym (append-nil (text_of_part text m part))) ∙ ap (λ ps. old ++ text_of_parts text m ps) (sym p)
  part-written (Err x) new old range part parts h e p = tt

  -- ---- The ranges of groups

  in-groups : (groups : List (Option (ℕ × ℕ))) → Each (λ g. IfSome g (IsCharBoundaryRange text)) groups → (id : ℕ) → IfSome (group_range groups id) (IsCharBoundaryRange text)
  in-groups [] h id = tt
  in-groups (g ∷ groups) h zero = h.0
  in-groups (g ∷ groups) h (suc id) = in-groups groups h.1 id

  pub group-fits : MatchFitsText text m → (number : ℕ) → IfSome (group m number) (IsCharBoundaryRange text)
  group-fits h zero = h.whole
  group-fits h (suc id) = in-groups m.captures h.groups id

  first-fits : MatchFitsText text m → (ids : List ℕ) → IfSome (first_range m ids) (IsCharBoundaryRange text)
  first-fits h [] = tt
  first-fits h (id ∷ ids) = by (group_range m.captures id) (in-groups m.captures h.groups id) (first-fits h ids)
    where
      by : (g : Option (ℕ × ℕ)) → IfSome g (IsCharBoundaryRange text) → IfSome (first_range m ids) (IsCharBoundaryRange text) → IfSome (option_or g (first_range m ids)) (IsCharBoundaryRange text)
      by None k l = l
      by (Some r) k l = k

  pub named-fits : MatchFitsText text m → (name : List ℕ) → IfSome (named_group m name) (IsCharBoundaryRange text)
  named-fits h [] = tt
  named-fits h (c ∷ name) = first-fits h (ids_named m (c ∷ name))

-- ---- The text behind a `$`

-- The offset behind an ASCII byte at the start is a boundary.
pub behind-first : (bytes shown : List ℕ) (first : ℕ) → shown ≡ bytes → IsUtf8 bytes → Some first ≡ slice_get shown 0 → first < 128 → IsCharBoundary bytes 1
behind-first [] shown first e u h l = absurd (cc (h ∙ ap (λ bs. slice_get bs 0) e))
behind-first (b ∷ bytes) shown first e u h l =
    let same : first ≡ b = (let k = h ∙ ap (λ bs. slice_get bs 0) e in cc k) in
    IsCharBoundary-after_ascii (b ∷ bytes) 0 u (omega arith) (omega (arith, same, l))

any-first : (p : ℕ → Bool) (xs : List ℕ) → position_or_len p xs < length xs → list_any p xs ≡ true
any-first p [] h = absurd (omega (arith, h))
any-first p (x ∷ xs) h = by (any-first p xs) (p x) h
  where
    by : (position_or_len p xs < length xs → list_any p xs ≡ true) → (c : Bool) → cond (not c) (1 + position_or_len p xs) 0 < suc (length xs) → (c || list_any p xs) ≡ true
    by f true k = refl
    by f false k = f (omega (arith, k))

any-none : (p : ℕ → Bool) (xs : List ℕ) → position_or_len p xs ≡ length xs → list_any p xs ≡ false
any-none p [] h = refl
any-none p (x ∷ xs) h = by (any-none p xs) (p x) h
  where
    by : (position_or_len p xs ≡ length xs → list_any p xs ≡ false) → (c : Bool) → cond (not c) (1 + position_or_len p xs) 0 ≡ suc (length xs) → (c || list_any p xs) ≡ false
    by f true k = absurd (omega (arith, k))
    by f false k = f (omega (arith, k))

abbrev pub is_brace : ℕ → Bool
is_brace b = b == 125

first-is : (bytes : List ℕ) (first : ℕ) → slice_get bytes 0 ≡ Some first → bytes ≡ first ∷ drop 1 bytes
first-is [] first h = absurd (cc h)
first-is (b ∷ bytes) first h = ap (λ x. x ∷ bytes) (cc h)

pub name-read : (bytes rest name left : List ℕ) → slice_get bytes 0 ≡ Some 123 → rest ≡ drop 1 bytes → position_or_len is_brace rest < length rest
    → name ≡ before_first is_brace rest → left ≡ after_first is_brace rest → parsed_part_from_single_replacement_part (named_part name) left ≡ parse_after_dollar bytes
name-read bytes rest name left h r inside n l =
    rw (first-is bytes 123 h, ← r, n, l) (ap (λ c. if c then parsed_part_from_single_replacement_part (named_part (before_first is_brace rest)) (after_first is_brace rest) else record { parts = literal 36 ∷ literal 123 ∷ map literal rest; rest = [] }) (sym (any-first is_brace rest inside)))

pub name-unclosed : (bytes rest : List ℕ) → slice_get bytes 0 ≡ Some 123 → rest ≡ drop 1 bytes → position_or_len is_brace rest ≡ length rest
    → record { parts = literal 36 ∷ map literal bytes; rest = [] } ≡ parse_after_dollar bytes
name-unclosed bytes rest h r none =
    rw (first-is bytes 123 h, ← r) (ap (λ c. if c then parsed_part_from_single_replacement_part (named_part (before_first is_brace rest)) (after_first is_brace rest) else record { parts = literal 36 ∷ literal 123 ∷ map literal rest; rest = [] }) (sym (any-none is_brace rest none)))

-- The rest after a part is shorter than the rest before it.
pub left-less : (rest behind left : List ℕ) (parts : List ReplacementPart) → position_or_len is_dollar rest < length rest → behind ≡ after_first is_dollar rest
    → record { parts = parts; rest = left } ≡ parse_after_dollar behind → length left < length rest
left-less rest behind left parts inside b e =
    let less : length left ≤ length behind = rw (ap (λ (x : ParsedPart). x.rest) e) (dollar-rest behind) in
    let dropped : length (drop (position_or_len is_dollar rest + 1) rest) ≡ length rest - (position_or_len is_dollar rest + 1) = length-drop (position_or_len is_dollar rest + 1) rest in
    omega (arith, less, ap length b, dropped, inside)
