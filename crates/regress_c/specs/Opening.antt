-- Opening a search.
use Rattle.std.specs.Prelude.{◌≡◌, ℕ, List, Option, Some, None, Result, Ok, Err, IsUtf8, ◌==◌, if◌then◌else◌}
use Rattle.regress_c.specs.Codes.{code_of_result}
use Rattle.regress_c.specs.Searching.{can_start_utf8, can_start_utf16}
use Rattle.regress_c.specs.declared.refusal.Refusal.{Refusal}
use Rattle.regress_c.specs.declared.refusal.Refusal.TheVariants.{NotUtf8, NotBoundary}
use Rattle.regress_c.specs.declared.search.Encoding.{Encoding}
use Rattle.regress_c.specs.declared.search.Encoding.TheVariants.{Utf8, Utf16, Ucs2}
use Rattle.regress_c.specs.declared.search.Search.{Search}

-- How a search with this number reads its text. `None` if the search is not open.
abbrev pub encoding_of : ℕ → Option Encoding
encoding_of n = if n == 1 then Some Utf8 else if n == 2 then Some Utf16 else if n == 3 then Some Ucs2 else None

-- The search is open on this UTF-8 text, and starts at this offset.
abbrev pub SearchesUtf8 : (bytes : List ℕ) → (start : ℕ) → Search → Type 0
SearchesUtf8 bytes start s = (s.encoding ≡ 1) × (s.bytes.now ≡ bytes) × (s.next ≡ start)

-- The search is open on this UTF-16 text, and starts at this offset.
abbrev pub SearchesUtf16 : (units : List ℕ) → (start : ℕ) → Search → Type 0
SearchesUtf16 units start s = (s.encoding ≡ 2) × (s.units.now ≡ units) × (s.next ≡ start)

-- The search is open on this UCS-2 text, and starts at this offset.
abbrev pub SearchesUcs2 : (units : List ℕ) → (start : ℕ) → Search → Type 0
SearchesUcs2 units start s = (s.encoding ≡ 3) × (s.units.now ≡ units) × (s.next ≡ start)

-- The result of opening a search in these bytes.
abbrev pub OpensUtf8 : (bytes : List ℕ) → (start : ℕ) → Result Search Refusal → Type 0
OpensUtf8 bytes start (Ok s) = IsUtf8 bytes × can_start_utf8 bytes start × SearchesUtf8 bytes start s
OpensUtf8 bytes start (Err NotUtf8) = ¬ IsUtf8 bytes
OpensUtf8 bytes start (Err NotBoundary) = IsUtf8 bytes × ¬ can_start_utf8 bytes start
OpensUtf8 bytes start (Err _) = ⊥

-- The result of opening a search in these code units as UTF-16.
abbrev pub OpensUtf16 : (units : List ℕ) → (start : ℕ) → Result Search Refusal → Type 0
OpensUtf16 units start (Ok s) = can_start_utf16 units start × SearchesUtf16 units start s
OpensUtf16 units start (Err NotBoundary) = ¬ can_start_utf16 units start
OpensUtf16 units start (Err _) = ⊥

-- The result of opening a search in these code units as UCS-2.
abbrev pub OpensUcs2 : (units : List ℕ) → (start : ℕ) → Result Search Refusal → Type 0
OpensUcs2 units start (Ok s) = SearchesUcs2 units start s
OpensUcs2 units start (Err _) = ⊥

-- The caller's search after a result.
abbrev pub search_after_opening : (before : Search) → Result Search Refusal → Search
search_after_opening before (Ok s) = s
search_after_opening before (Err refusal) = before

-- The code and the caller's final search are those of some result.
abbrev pub RepliesOpened : (Result Search Refusal → Type 0) → (before after : Search) → (code : ℕ) → Type 0
RepliesOpened Opens before after code = (opened : Result Search Refusal)
    × Opens opened × (code ≡ code_of_result opened) × (after ≡ search_after_opening before opened)
