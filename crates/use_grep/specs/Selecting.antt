-- Which lines are selected, and what is shown of them.
use Rattle.std.specs.Prelude.{◌≡◌, ℕ, ◌+◌, List, [], ◌∷◌, ◌++◌, Bool, true, false, ◌||◌, IsUtf8, eqb, chars, codes, filter, is_some, map, not, slice_get, slice_range, if◌then◌else◌}
use Rattle.std.specs.List.{slice_split}
use Rattle.regex_meaning.specs.Tree.{Tree, Flags}
use Rattle.regex_meaning.specs.Text.{utf8_text}
use Rattle.regex_meaning.specs.FlagLettersAndEscaping.{flags_from_letters}
use Rattle.regex_meaning.specs.MatchGroupsByNumberAndName.{Answer, answers_from}
use Rattle.regex_meaning.specs.Replace.{replaced}
use Rattle.regex_meaning.specs.EcmaGrammarWithAnnexB.{ParsesEcmaScript}
use Rattle.regress_match.specs.ProgramTreesAndAnswers.{utf8_answers}
use Rattle.regress_match.specs.declared.api.regex.Regex.{Regex}
use Rattle.use_grep.specs.Local.{is_local}
use Rattle.use_grep.specs.declared.select.Line.{Line}
use Rattle.use_grep.specs.declared.select.Part.{Part}

-- The lines of a text. A line break ends a line.
abbrev pub lines_of : (text : List ℕ) → List (List ℕ)
lines_of text = slice_split (λ b. eqb b 10) text

-- The lines of a text in which a NUL byte ends a line.
abbrev pub nul_terminated_lines : (text : List ℕ) → List (List ℕ)
nul_terminated_lines text = slice_split (λ b. eqb b 0) text

-- The lines with their numbers. The first line has the number `first`.
abbrev pub numbered : (first : ℕ) → List (List ℕ) → List (ℕ × List ℕ)
numbered first [] = []
numbered first (line ∷ lines) = (first, line) ∷ numbered (first + 1) lines

-- The pattern has a match in this line.
abbrev pub has_match : Regex → (line : List ℕ) → Bool
has_match re line = is_some (slice_get (utf8_answers re line 0) 0)

-- Whether the line is selected: if it has a match or, with `invert`, if it has none.
abbrev pub is_selected : Regex → (invert : Bool) → (line : List ℕ) → Bool
is_selected re invert line = if invert then not (has_match re line) else has_match re line

-- A line that was found, as its number and its text.
abbrev pub shown : Line → ℕ × List ℕ
shown line = (line.number, line.text.now)

-- A part of a line, as its start and its text.
abbrev pub start_and_text_of_part : Part → ℕ × List ℕ
start_and_text_of_part part = (part.start, part.text.now)

-- The part of the line that each match covers.
abbrev pub matched_parts : (line : List ℕ) → List Answer → List (ℕ × List ℕ)
matched_parts line matches = map (λ m. (m.range.0, slice_range line m.range.0 m.range.1)) matches

-- A part between the texts that begin and end its colour. Empty if the part is empty.
abbrev pub painted : (start end part : List ℕ) → List ℕ
painted start end [] = []
painted start end part = start ++ (part ++ end)

-- The part of a line that a match covers, painted.
abbrev pub painted_part : (line start end : List ℕ) → Answer → List ℕ
painted_part line start end m = painted start end (slice_range line m.range.0 m.range.1)

-- A line from an offset on, with these matches painted.
abbrev pub colored_from : (line start end : List ℕ) → (from : ℕ) → List Answer → List ℕ
colored_from line start end from matches = replaced line from (map (λ m. (m, painted_part line start end m)) matches)

-- A line with its matches painted.
abbrev pub colored : Regex → (line start end : List ℕ) → List ℕ
colored re line start end = colored_from line start end 0 (utf8_answers re line 0)

-- The flags with which the pattern is read.
abbrev pub tree_flags : (ignore_case : Bool) → Flags
tree_flags ignore_case = if ignore_case then flags_from_letters (codes "i") else flags_from_letters []

-- The grammar has a tree for the pattern, and a line has a match exactly if such a tree finds one
-- in it.
pub record HasMatchesOfGrammar (flags : Flags) (pattern : List ℕ) (re : Regex) : Type 0 where
  pub tree : Tree
  pub parsed : ParsesEcmaScript flags (chars pattern) tree
  pub found : (tree : Tree) → ParsesEcmaScript flags (chars pattern) tree → (line : List ℕ)
      → has_match re line ≡ is_some (slice_get (answers_from tree.root (utf8_text line flags.unicode) 0) 0)

-- The grammar has a local tree for the pattern: its matches depend only on the characters that they
-- read.
abbrev pub IsLocal : (flags : Flags) → (pattern : List ℕ) → Type 0
IsLocal flags pattern = (tree : Tree) × ParsesEcmaScript flags (chars pattern) tree × (is_local tree.root ≡ true)

-- If a text has no match, none of its lines has one.
abbrev pub LinesOfTextWithoutMatchHaveNone : Regex → Type 0
LinesOfTextWithoutMatchHaveNone re =
    (text : List ℕ) → IsUtf8 text → has_match re text ≡ false → filter (has_match re) (lines_of text) ≡ []

-- The pattern that matches only whole lines or, without `whole_lines`, only where no word character
-- is next to the match.
abbrev pub framed : (whole_lines : Bool) → (pattern : List ℕ) → List ℕ
framed whole_lines pattern =
    if whole_lines then codes "^(?:" ++ (pattern ++ codes ")$")
    else codes "(?<!\\w)(?:" ++ (pattern ++ codes ")(?!\\w)")

-- The pattern that is searched for: the given one, or with `-w` or `-x` the framed one.
abbrev pub searched : (words whole_lines : Bool) → (pattern : List ℕ) → List ℕ
searched words whole_lines pattern = if words || whole_lines then framed whole_lines pattern else pattern
