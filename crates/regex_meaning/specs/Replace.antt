-- The text with its matches replaced (a rule of this crate).
use Rattle.std.specs.Prelude.{ℕ, zero, suc, ◌+◌, ◌*◌, Bool, ◌&&◌, List, [], ◌∷◌, ◌++◌, length, drop, Option, Some, None, if◌then◌else◌, nat_le, ◌==◌, map, slice_range}
use Rattle.std.specs.List.{before_first, after_first, list_any}
use Rattle.std.specs.Char.{is_ascii_digit, digit_value}
use Rattle.regex_meaning.specs.MatchGroupsByNumberAndName.{Answer, group, named_group}

-- A part of a replacement: a byte, or the text of a group by number or by name.
pub data ReplacementPart : Type 0 where
  literal : (byte : ℕ) → ReplacementPart
  group_part : (number : ℕ) → ReplacementPart
  named_part : (name : List ℕ) → ReplacementPart

-- The greatest number of groups.
abbrev pub max_capture_groups : ℕ
max_capture_groups = 65535

-- The parts at the beginning of a replacement that have been read, and the bytes that are left.
pub record ParsedPart : Type 0 where
  pub parts : List ReplacementPart
  pub rest : List ℕ

-- A single part and the bytes that are left.
abbrev pub parsed_part_from_single_replacement_part : ReplacementPart → List ℕ → ParsedPart
parsed_part_from_single_replacement_part part rest = record { parts = part ∷ []; rest = rest }

-- Reads the remaining digits of a group number after `$`. `value` is the number that the digits
-- before give. Reading stops once it exceeds `max_capture_groups`.
abbrev pub parse_digits_of_group_number : (value : ℕ) → List ℕ → ParsedPart
parse_digits_of_group_number value [] = parsed_part_from_single_replacement_part (group_part value) []
parse_digits_of_group_number value (b ∷ bytes) =
    let more = parse_digits_of_group_number (value * 10 + digit_value b) bytes in
    let stop = parsed_part_from_single_replacement_part (group_part value) (b ∷ bytes) in
    if is_ascii_digit b && nat_le value max_capture_groups then more else stop

-- Reads what follows `${`: a name up to `}`. If no `}` follows, all bytes are literal.
abbrev pub parse_braced_name : List ℕ → ParsedPart
parse_braced_name bytes =
    let name = parsed_part_from_single_replacement_part (named_part (before_first is_brace bytes))
    (after_first is_brace bytes) in
    let unclosed : ParsedPart = record { parts = literal 36 ∷ literal 123 ∷ map literal bytes; rest = [] } in
    if list_any is_brace bytes then name else unclosed
  where
    is_brace : ℕ → Bool
    is_brace b = b == 125

-- Reads what follows `$`. `$$` is one `$`, digits and `{name}` refer to groups, and any other `$`
-- is literal.
abbrev pub parse_after_dollar : List ℕ → ParsedPart
parse_after_dollar [] = parsed_part_from_single_replacement_part (literal 36) []
parse_after_dollar (b ∷ bytes) =
    if b == 36 then parsed_part_from_single_replacement_part (literal 36) bytes
    else if is_ascii_digit b then parse_digits_of_group_number 0 (b ∷ bytes)
    else if b == 123 then parse_braced_name bytes
    else parsed_part_from_single_replacement_part (literal 36) (b ∷ bytes)

-- The parts of a replacement of at most `left` bytes.
abbrev pub parse_replacement : (left : ℕ) → List ℕ → List ReplacementPart
parse_replacement zero bytes = []
parse_replacement (suc left) [] = []
parse_replacement (suc left) (b ∷ bytes) =
    let begun = if b == 36 then parse_after_dollar bytes
    else parsed_part_from_single_replacement_part (literal b) bytes in
    begun.parts ++ parse_replacement left begun.rest

module _ (text : List ℕ) (m : Answer) where
  -- The bytes of a range. Empty if there is none.
  abbrev pub text_of : Option (ℕ × ℕ) → List ℕ
  text_of None = []
  text_of (Some range) = slice_range text range.0 range.1

  -- The bytes that one part stands for.
  abbrev pub text_of_part : ReplacementPart → List ℕ
  text_of_part (literal b) = b ∷ []
  text_of_part (group_part number) = text_of (group m number)
  text_of_part (named_part name) = text_of (named_group m name)

  -- The bytes that the parts stand for, in order.
  abbrev pub text_of_parts : List ReplacementPart → List ℕ
  text_of_parts [] = []
  text_of_parts (part ∷ parts) = text_of_part part ++ text_of_parts parts

  -- The bytes that replace the match.
  unfoldable pub expansion : (replacement : List ℕ) → List ℕ
  expansion replacement = text_of_parts (parse_replacement (length replacement) replacement)

-- The text from an offset on, with each match's range replaced by its expansion.
unfoldable pub replaced : (text : List ℕ) → (from : ℕ) → List (Answer × List ℕ) → List ℕ
replaced text from [] = drop from text
replaced text from (p ∷ pieces) =
    slice_range text from p.0.range.0 ++ (p.1 ++ replaced text p.0.range.1 pieces)
