-- Laws of the public API. The main theorem is `SearchesReturnMatchesOfPattern`.
use Rattle.std.specs.Prelude.{◌≡◌, ℕ, List, IsUtf8, codes, take}
use Rattle.regex_meaning.specs.Tree.{Tree, Flags}
use Rattle.regex_meaning.specs.Text.{Text, utf8_text, ascii_text, utf16_text, ucs2_text}
use Rattle.regex_meaning.specs.MatchGroupsByNumberAndName.{answers_from}
use Rattle.regex_meaning.specs.SearchAnswers.{answer_at}
use Rattle.regex_meaning.specs.Replace.{replaced}
use Rattle.regex_meaning.specs.Grammar.{PatternDialect, ParsesBy, profile}
use Rattle.regress_search.specs.RemainingAnswers.{RemainingView}
use Rattle.regress_match.specs.ProgramTreesAndAnswers.{IsCompiledWithSyntax, utf8_answers, ascii_answers, utf16_answers, ucs2_answers, tree_for_byte_units, tree_for_16_bit_units, bytes_as_utf8_text}
use Rattle.regress_match.specs.ProgramTreesAndAnswers.{bytes_as_ascii_text, units_as_utf16_text, units_as_ucs2_text}
use Rattle.regress_match.specs.ProgramTreesAndAnswers.{utf8_answer_beginning_at, ascii_answer_beginning_at, utf16_answer_beginning_at, ucs2_answer_beginning_at}
use Rattle.regress_match.specs.SearchResults.{YieldsMatches, NextCallsYield, NextResult, ResultsAreMatchesInOrder}
use Rattle.regress_match.specs.ExpansionsAndMatchRanges.{MatchesFitTextInOrderFrom, matches_with_expansions}
use Rattle.regress_match.specs.declared.api.regex.Regex.{Regex}

-- Replacing the first match, or all matches, by `$0` does not change the text.
abbrev pub ReplacingByMatchKeepsText : Type 0
ReplacingByMatchKeepsText = (re : Regex) (text : List ℕ)
    → let answers = utf8_answers re text 0 in
    (replaced text 0 (matches_with_expansions text (codes "$0") (take 1 answers)) ≡ text)
    × (replaced text 0 (matches_with_expansions text (codes "$0") answers) ≡ text)

-- The matches of a compiled pattern in a text, in each encoding, are those of the tree that the
-- grammar of this syntax gives to the pattern.
abbrev pub SearchesFollowGrammar : PatternDialect → Type 0
SearchesFollowGrammar s = (flags : Flags) (pattern : List ℕ) (re : Regex) (tree : Tree)
    → IsCompiledWithSyntax s flags pattern re → ParsesBy s flags pattern tree → (text : List ℕ) (start : ℕ)
    → (utf8_answers re text start ≡ answers_from tree.root (utf8_text text flags.unicode) start)
    × (ascii_answers re text start ≡ answers_from tree.root (ascii_text text flags.unicode) start)
    × (utf16_answers re text start ≡ answers_from tree.root (utf16_text text flags.unicode) start)
    × (ucs2_answers re text start ≡ answers_from tree.root (ucs2_text text flags.unicode) start)

-- `SearchesFollowGrammar` for patterns of the profile.
abbrev pub SearchesFollowThePattern : Type 0
SearchesFollowThePattern = SearchesFollowGrammar profile

-- The match of a compiled pattern that begins at an offset of a text, in each encoding, is that of
-- the tree that the grammar of this syntax gives to the pattern.
abbrev pub MatchesAtOffsetsFollowGrammar : PatternDialect → Type 0
MatchesAtOffsetsFollowGrammar s = (flags : Flags) (pattern : List ℕ) (re : Regex) (tree : Tree)
    → IsCompiledWithSyntax s flags pattern re → ParsesBy s flags pattern tree → (text : List ℕ) (at : ℕ)
    → (utf8_answer_beginning_at re text at ≡ answer_at tree.root (utf8_text text flags.unicode) at)
    × (ascii_answer_beginning_at re text at ≡ answer_at tree.root (ascii_text text flags.unicode) at)
    × (utf16_answer_beginning_at re text at ≡ answer_at tree.root (utf16_text text flags.unicode) at)
    × (ucs2_answer_beginning_at re text at ≡ answer_at tree.root (ucs2_text text flags.unicode) at)

-- A search of `text` with the tree `searched` is an iterator `it` (`YieldsMatches`). The results of
-- any number of calls of its `next` are the matches of `tree` in `text_read`.
abbrev pub ReturnsMatchesOf : (searched : Tree) (text : Text) → (tree : Tree) (text_read : Text) → (start : ℕ) → Type 0
ReturnsMatchesOf searched text tree text_read start = (it behind : RemainingView) (results : List NextResult)
    → YieldsMatches searched text start it → NextCallsYield it results behind
    → ResultsAreMatchesInOrder (answers_from tree.root text_read start) results

-- The main theorem. A pattern of this syntax is compiled to `re`, and the grammar gives it `tree`.
-- A search with a tree of `re` is an iterator with `YieldsMatches` (the clause `answers` of
-- `find_iter` and `find_from`). Then the results of `next` are the matches of `tree`, in each encoding.
abbrev pub SearchesReturnMatchesOfPattern : PatternDialect → Type 0
SearchesReturnMatchesOfPattern s = (flags : Flags) (pattern : List ℕ) (re : Regex) (tree : Tree)
    → IsCompiledWithSyntax s flags pattern re → ParsesBy s flags pattern tree → (text : List ℕ) (start : ℕ)
    → let unicode = flags.unicode in let bytes = tree_for_byte_units re in let units = tree_for_16_bit_units re in
    ReturnsMatchesOf bytes (bytes_as_utf8_text re text) tree (utf8_text text unicode) start
    × ReturnsMatchesOf bytes (bytes_as_ascii_text re text) tree (ascii_text text unicode) start
    × ReturnsMatchesOf units (units_as_utf16_text re text) tree (utf16_text text unicode) start
    × ReturnsMatchesOf units (units_as_ucs2_text re text) tree (ucs2_text text unicode) start

-- The matches from a start on are in the text, in ascending order and without overlap. The ranges
-- of each match and of its groups begin and end at character boundaries.
abbrev pub MatchesLieInTextInOrder : Type 0
MatchesLieInTextInOrder = (re : Regex) (text : List ℕ) (start : ℕ) → IsUtf8 text
    → MatchesFitTextInOrderFrom text start (utf8_answers re text start)
