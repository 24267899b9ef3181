-- The trees of the programs of a `Regex`, and the matches that it finds.
use Rattle.std.specs.Prelude.{◌≡◌, ℕ, Bool, List, Option, Some, IsTrue}
use Rattle.regex_meaning.specs.Tree.{Tree, Flags}
use Rattle.regex_meaning.specs.Text.{Text, utf8_text, ascii_text, utf16_text, ucs2_text}
use Rattle.regex_meaning.specs.CodeUnitOffsets.{units}
use Rattle.regex_meaning.specs.CompilationRelation.{IsByteProgramOfTree, Is16BitProgramOfTree}
use Rattle.regex_meaning.specs.MatchGroupsByNumberAndName.{Answer, answers_from}
use Rattle.regex_meaning.specs.SearchAnswers.{answer_at}
use Rattle.regex_meaning.specs.StepBudget.{answers_within, finishes_within}
use Rattle.regex_meaning.specs.WellFormedTrees.{is_well_formed}
use Rattle.regex_meaning.specs.Grammar.{PatternDialect, ParsesBy, profile}
use Rattle.regex_pattern_front.specs.AstToSpecTree.{tree_of}
use Rattle.regex_pattern_front.specs.OptimizedTrees.{has_no_char_loops}
use Rattle.regress_program.specs.CompilationOfTreesAsFunction.{compiled}
use Rattle.regress_program.specs.OptimizedTreeUnlessNoOpt.{optimized_tree_unless_no_opt}
use Rattle.regress_match.specs.declared.api.regex.Regex.{Regex}

-- The tree of the program that searches texts of bytes.
abbrev pub tree_for_byte_units : Regex → Tree
tree_for_byte_units re = tree_of re.byte_program

-- The tree of the program that searches texts of 16-bit code units.
abbrev pub tree_for_16_bit_units : Regex → Tree
tree_for_16_bit_units re = tree_of re.unit_program

-- The pattern of this syntax with these flags parses to `tree_for_16_bit_units`, which is
-- well-formed and has no char loops. The program for 16-bit code units is the code of this tree.
-- The program for bytes is the code of the optimized tree, or of the same tree with `no_opt`
-- (`optimized_tree_unless_no_opt`).
pub record IsCompiledWithSyntax (s : PatternDialect) (wanted : Flags) (pattern : List ℕ) (re : Regex) : Type 0 where
  pub parsed : ParsesBy s wanted pattern (tree_for_16_bit_units re)
  pub flags : (tree_for_16_bit_units re).flags ≡ wanted
  pub well_formed : IsTrue (is_well_formed (tree_for_16_bit_units re).root)
  pub plain : IsTrue (has_no_char_loops (tree_for_16_bit_units re).root)
  pub units : Is16BitProgramOfTree (compiled (tree_for_16_bit_units re)) (tree_for_16_bit_units re)
  pub optimized : tree_for_byte_units re ≡ optimized_tree_unless_no_opt (tree_for_16_bit_units re)
  pub bytes : IsByteProgramOfTree (compiled (tree_for_byte_units re)) (tree_for_byte_units re)

-- `IsCompiledWithSyntax` for a pattern of the profile.
abbrev pub IsCompiledWith : (wanted : Flags) → (pattern : List ℕ) → Regex → Type 0
IsCompiledWith = IsCompiledWithSyntax profile

-- These bytes as a text in UTF-8, read as the pattern's flag `unicode` says.
abbrev pub bytes_as_utf8_text : Regex → (bytes : List ℕ) → Text
bytes_as_utf8_text re bytes = utf8_text bytes (tree_for_byte_units re).flags.unicode

-- These bytes as a text in ASCII, read as the pattern's flag `unicode` says.
abbrev pub bytes_as_ascii_text : Regex → (bytes : List ℕ) → Text
bytes_as_ascii_text re bytes = ascii_text bytes (tree_for_byte_units re).flags.unicode

-- These code units as a text in UTF-16, read as the pattern's flag `unicode` says.
abbrev pub units_as_utf16_text : Regex → (units : List ℕ) → Text
units_as_utf16_text re units = utf16_text units (tree_for_16_bit_units re).flags.unicode

-- These code units as a text in UCS-2, read as the pattern's flag `unicode` says.
abbrev pub units_as_ucs2_text : Regex → (units : List ℕ) → Text
units_as_ucs2_text re units = ucs2_text units (tree_for_16_bit_units re).flags.unicode

-- The list of matches in a UTF-8 text from an offset on.
abbrev pub utf8_answers : Regex → (bytes : List ℕ) → (start : ℕ) → List Answer
utf8_answers re bytes start =
    answers_from (tree_for_byte_units re).root (bytes_as_utf8_text re bytes) start

-- The first matches of that list, as many as `steps` steps suffice for.
abbrev pub utf8_answers_within_steps : (steps : ℕ) → Regex → (bytes : List ℕ) → (start : ℕ) → List Answer
utf8_answers_within_steps steps re bytes start =
    answers_within (tree_for_byte_units re) (bytes_as_utf8_text re bytes) (Some steps) start

-- Whether `steps` steps suffice for the whole list and for finding its end.
abbrev pub utf8_steps_suffice : (steps : ℕ) → Regex → (bytes : List ℕ) → (start : ℕ) → Bool
utf8_steps_suffice steps re bytes start =
    finishes_within (tree_for_byte_units re) (bytes_as_utf8_text re bytes) (Some steps) start

-- The list of matches in an ASCII text from an offset on.
abbrev pub ascii_answers : Regex → (bytes : List ℕ) → (start : ℕ) → List Answer
ascii_answers re bytes start =
    answers_from (tree_for_byte_units re).root (bytes_as_ascii_text re bytes) start

-- The list of matches in a UTF-16 text from an offset on.
abbrev pub utf16_answers : Regex → (units : List ℕ) → (start : ℕ) → List Answer
utf16_answers re units start =
    answers_from (tree_for_16_bit_units re).root (units_as_utf16_text re units) start

-- The list of matches in a UCS-2 text from an offset on.
abbrev pub ucs2_answers : Regex → (units : List ℕ) → (start : ℕ) → List Answer
ucs2_answers re units start =
    answers_from (tree_for_16_bit_units re).root (units_as_ucs2_text re units) start

-- The match of highest priority that begins at an offset of a UTF-8 text, if there is one.
abbrev pub utf8_answer_beginning_at : Regex → (bytes : List ℕ) → (at : ℕ) → Option Answer
utf8_answer_beginning_at re bytes at = answer_at (tree_for_byte_units re).root (bytes_as_utf8_text re bytes) at

-- The match of highest priority that begins at an offset of an ASCII text, if there is one.
abbrev pub ascii_answer_beginning_at : Regex → (bytes : List ℕ) → (at : ℕ) → Option Answer
ascii_answer_beginning_at re bytes at = answer_at (tree_for_byte_units re).root (bytes_as_ascii_text re bytes) at

-- The match of highest priority that begins at an offset of a UTF-16 text, if there is one.
abbrev pub utf16_answer_beginning_at : Regex → (units : List ℕ) → (at : ℕ) → Option Answer
utf16_answer_beginning_at re units at = answer_at (tree_for_16_bit_units re).root (units_as_utf16_text re units) at

-- The match of highest priority that begins at an offset of a UCS-2 text, if there is one.
abbrev pub ucs2_answer_beginning_at : Regex → (units : List ℕ) → (at : ℕ) → Option Answer
ucs2_answer_beginning_at re units at = answer_at (tree_for_16_bit_units re).root (units_as_ucs2_text re units) at
