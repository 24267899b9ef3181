-- What contracts say about new executors and about ASCII texts.
use Rattle.std.specs.Borrow.{Bor}
use Rattle.std.specs.Prelude.{◌≡◌, ℕ, Bool, List, None, IsAscii}
use Rattle.regex_meaning.specs.Text.{Text, ascii_text}
use Rattle.regex_meaning.specs.Tree.{Tree}
use Rattle.regress_search.specs.declared.exec.search_state.SearchState.{Ghosts}

-- A new executor searches for the tree in the text, has no step limit, and reads the text as the
-- flag `unicode` of the tree says.
abbrev pub IsNewExecutor : {E : Type 0} → Ghosts E → Tree → (text_of : (unicode : Bool) → Text) → E → Type 0
IsNewExecutor ghosts tree text_of e =
    (ghosts.tree e ≡ tree) × (ghosts.text e ≡ text_of tree.flags.unicode) × (ghosts.budget e ≡ None)

-- The executor can search each ASCII text.
abbrev pub CanSearchAllAsciiTexts : (can_search : Bor (List ℕ) → Type 0) → Type 0
CanSearchAllAsciiTexts can_search = (text : Bor (List ℕ)) → IsAscii text.now → can_search text

-- The executor reads each byte of the text as a character.
abbrev pub ReadsBytesAsAscii : (text_of : Bor (List ℕ) → (unicode : Bool) → Text) → Type 0
ReadsBytesAsAscii text_of = text_of ≡ (λ text. ascii_text text.now)
