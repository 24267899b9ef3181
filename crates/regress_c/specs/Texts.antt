-- Texts that are written into the caller's buffer.
use Rattle.std.specs.Prelude.{◌≡◌, ◌≤◌, ◌+◌, ◌-◌, ℕ, List, [], Option, Some, None, Result, Ok, Err, IsUtf8, get_or, length, string_bytes, take, nat_le, if◌then◌else◌}
use Rattle.std.specs.List.{sum_by}
use Rattle.regex_meaning.specs.FlagLettersAndEscaping.{escape}
use Rattle.regex_meaning.specs.MatchGroupsByNumberAndName.{Answer, group_names_by_id}
use Rattle.regex_meaning.specs.Replace.{replaced}
use Rattle.regex_meaning.specs.Tree.{group_ids}
use Rattle.regex_parser.specs.declared.syntax.Syntax as pattern
use Rattle.regress_match.specs.ProgramTreesAndAnswers.{tree_for_byte_units, utf8_answers}
use Rattle.regress_match.specs.ExpansionsAndMatchRanges.{matches_with_expansions}
use Rattle.regress_match.specs.declared.api.regex.Regex.{Regex}
use Rattle.regress_c.specs.Codes.{code_of_refusal, done}
use Rattle.regress_c.specs.Compiling.{GivenPattern, HasValidTextAndFlags}
use Rattle.regress_c.specs.Reading.{AreFlags}
use Rattle.regress_c.specs.Replies.{with_front_overwritten}
use Rattle.regress_c.specs.declared.text_replies.CauseAndOffset.{CauseAndOffset}
use Rattle.regress_c.specs.declared.text_replies.ReplacedMatches.{ReplacedMatches}
use Rattle.regress_c.specs.declared.text_replies.ReplacedMatches.TheVariants.{First, All}
use Rattle.regress_c.specs.declared.refusal.Refusal.{Refusal}
use Rattle.regress_c.specs.declared.refusal.Refusal.TheVariants.{Empty, NotUtf8, ShortBuffer, Memory, Syntax, UnknownFlag, UnknownSyntax, NoGroup}
use Rattle.regress_c.specs.declared.reply.Reply.{Reply}

-- ---- A text, and a buffer for it

-- The reply for a text. The code is `code` only if there is room for the text. The count is always
-- the length of the text.
abbrev pub text_reply : (code : ℕ) → (text : List ℕ) → (room : ℕ) → Reply
text_reply code text room = record {
  code = if nat_le (length text) room then code
      else code_of_refusal ShortBuffer;
  count = length text;
}

-- The buffer after a text. It is unchanged if there is no room for the text.
abbrev pub buffer_after_text : (text before : List ℕ) → List ℕ
buffer_after_text text before = if nat_le (length text) (length before) then with_front_overwritten text before
    else before

-- The reply for a produced text or a refusal.
abbrev pub reply_for_produced_text : Result (List ℕ) Refusal → (room : ℕ) → Reply
reply_for_produced_text (Ok text) room = text_reply done text room
reply_for_produced_text (Err refusal) room = record { code = code_of_refusal refusal; count = 0 }

-- The buffer after a produced text or a refusal.
abbrev pub buffer_after_produced_text : Result (List ℕ) Refusal → (before : List ℕ) → List ℕ
buffer_after_produced_text (Ok text) before = buffer_after_text text before
buffer_after_produced_text (Err refusal) before = before

-- The reply and the final buffer are those of some produced text or refusal.
abbrev pub RepliesText : (Result (List ℕ) Refusal → Type 0) → (before after : List ℕ) → Reply → Type 0
RepliesText Makes before after reply = (made : Result (List ℕ) Refusal)
    × Makes made × (reply ≡ reply_for_produced_text made (length before))
    × (after ≡ buffer_after_produced_text made before)

-- ---- Produced texts

-- The matches that are replaced.
abbrev pub replaced_matches_of : ReplacedMatches → List Answer → List Answer
replaced_matches_of First ms = take 1 ms
replaced_matches_of All ms = ms

-- The result is the text with the first match or all matches replaced, or a refusal.
abbrev pub IsReplaceResult : Regex → (text replacement : List ℕ) → ReplacedMatches → Result (List ℕ) Refusal → Type 0
IsReplaceResult re text replacement which (Ok made) =
    (IsUtf8 text × IsUtf8 replacement) × (made ≡ replaced text 0
    (matches_with_expansions text replacement (replaced_matches_of which (utf8_answers re text 0))))
IsReplaceResult re text replacement which (Err NotUtf8) = ¬ (IsUtf8 text × IsUtf8 replacement)
IsReplaceResult re text replacement which (Err Memory) = IsUtf8 text × IsUtf8 replacement
IsReplaceResult re text replacement which (Err _) = ⊥

-- The result for the handle's pattern. The call is refused if the handle is empty.
abbrev pub IsReplaceResultOfHandle : (held : Option Regex) → (text replacement : List ℕ) → ReplacedMatches
    → Result (List ℕ) Refusal
    → Type 0
IsReplaceResultOfHandle None text replacement which made = made ≡ Err Empty
IsReplaceResultOfHandle (Some re) text replacement which made = IsReplaceResult re text replacement which made

-- The result is the text with its syntax characters escaped, or a refusal.
abbrev pub IsEscapeResult : (text : List ℕ) → Result (List ℕ) Refusal → Type 0
IsEscapeResult text (Ok made) = IsUtf8 text × (made ≡ escape text)
IsEscapeResult text (Err NotUtf8) = ¬ IsUtf8 text
IsEscapeResult text (Err Memory) = IsUtf8 text
IsEscapeResult text (Err _) = ⊥

-- ---- Properties of a pattern

-- The number of ranges of a match: one for the whole, and one for each group.
abbrev pub range_count : Regex → ℕ
range_count re = length (group_ids (tree_for_byte_units re).root) + 1

-- The reply with the number of ranges. The call is refused if the handle is empty.
abbrev pub range_count_reply_of_handle : (held : Option Regex) → Reply
range_count_reply_of_handle None = record { code = code_of_refusal Empty; count = 0 }
range_count_reply_of_handle (Some re) = record { code = done; count = range_count re }

-- The result is the name of a group (empty if it has no name), or `NoGroup` if there is no such
-- group.
abbrev pub IsGroupNameResult : Regex → (number : ℕ) → Result (List ℕ) Refusal → Type 0
IsGroupNameResult re number (Ok name) = (1 ≤ number) × (number ≤ length (group_ids (tree_for_byte_units re).root))
    × (name ≡ get_or (group_names_by_id (tree_for_byte_units re).root) (number - 1) [])
IsGroupNameResult re number (Err NoGroup) = ¬ ((1 ≤ number)
    × (number ≤ length (group_ids (tree_for_byte_units re).root)))
IsGroupNameResult re number (Err _) = ⊥

-- The result for the handle's pattern. The call is refused if the handle is empty.
abbrev pub IsGroupNameResultOfHandle : (held : Option Regex) → (number : ℕ) → Result (List ℕ) Refusal → Type 0
IsGroupNameResultOfHandle None number made = made ≡ Err Empty
IsGroupNameResultOfHandle (Some re) number made = IsGroupNameResult re number made

-- ---- Diagnoses

-- `at` is the offset in units of a code point of the pattern, or of its end.
abbrev pub IsOffsetInPattern : (width : ℕ → ℕ) → (characters : List ℕ) → (at : ℕ) → Type 0
IsOffsetInPattern width characters at = (n : ℕ) × (n ≤ length characters) × (at ≡ sum_by width (take n characters))

-- The result is a diagnosis with an offset in the pattern, no diagnosis, or a refusal. Which
-- diagnosis is given, its wording, and whether there is one are not specified.
abbrev pub IsDiagnosisResult : GivenPattern → (width : ℕ → ℕ) → Result (Option CauseAndOffset) Refusal → Type 0
IsDiagnosisResult given width (Ok (Some told)) = HasValidTextAndFlags given
    × IsOffsetInPattern width given.characters told.at
IsDiagnosisResult given width (Ok None) = HasValidTextAndFlags given
IsDiagnosisResult given width (Err UnknownFlag) = ¬ AreFlags given.flags
IsDiagnosisResult given width (Err NotUtf8) = ¬ given.is_text
IsDiagnosisResult given width (Err Memory) = HasValidTextAndFlags given
IsDiagnosisResult given width (Err _) = ⊥

-- The reply for a diagnosis, for no diagnosis, or for a refusal.
abbrev pub diagnosis_reply : Result (Option CauseAndOffset) Refusal → (room : ℕ) → Reply
diagnosis_reply (Ok (Some told)) room = text_reply (code_of_refusal Syntax) (string_bytes told.cause) room
diagnosis_reply (Ok None) room = record { code = done; count = 0 }
diagnosis_reply (Err refusal) room = record { code = code_of_refusal refusal; count = 0 }

-- The buffer after a diagnosis, after no diagnosis, or after a refusal.
abbrev pub buffer_after_diagnosis : Result (Option CauseAndOffset) Refusal → (before : List ℕ) → List ℕ
buffer_after_diagnosis (Ok (Some told)) before = buffer_after_text (string_bytes told.cause) before
buffer_after_diagnosis (Ok None) before = before
buffer_after_diagnosis (Err refusal) before = before

-- The caller's variable for the offset, after a diagnosis, after no diagnosis, or after a refusal.
abbrev pub offset_after_diagnosis : Result (Option CauseAndOffset) Refusal → (at : ℕ) → ℕ
offset_after_diagnosis (Ok (Some told)) at = told.at
offset_after_diagnosis (Ok None) at = at
offset_after_diagnosis (Err refusal) at = at

-- The reply, the caller's final offset and the final buffer are those of some result.
abbrev pub RepliesDiagnosis : GivenPattern → (width : ℕ → ℕ) → (at : ℕ) → (before : List ℕ) → (at' : ℕ)
    → (after : List ℕ) → Reply → Type 0
RepliesDiagnosis given width at before at' after reply = (told : Result (Option CauseAndOffset) Refusal)
    × IsDiagnosisResult given width told × (reply ≡ diagnosis_reply told (length before))
    × (at' ≡ offset_after_diagnosis told at)
    × (after ≡ buffer_after_diagnosis told before)

-- `RepliesDiagnosis` for a pattern of the given language. If there is no language, the call is
-- refused and nothing is written.
abbrev pub RepliesDiagnosisWithSyntax : Option pattern.Syntax → (pattern.Syntax → GivenPattern) → (width : ℕ → ℕ)
    → (at : ℕ) → (before : List ℕ) → (at' : ℕ) → (after : List ℕ) → Reply → Type 0
RepliesDiagnosisWithSyntax None given width at before at' after reply =
    (reply ≡ record { code = code_of_refusal UnknownSyntax; count = 0 }) × (at' ≡ at) × (after ≡ before)
RepliesDiagnosisWithSyntax (Some syntax) given width at before at' after reply =
    RepliesDiagnosis (given syntax) width at before at' after reply
