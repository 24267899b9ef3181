-- Work bounds of programs: how much work suffices for all matches of a text together.
use Rattle.std.specs.Arc.{arc_value}
use Rattle.std.specs.List.{fold, sum_by}
use Rattle.std.specs.Prelude.{◌≡◌, ◌≤◌, ℕ, ◌+◌, ◌*◌, ◌/◌, ◌==◌, Bool, true, false, if◌then◌else◌, max, nat_le, Option, None}
use Rattle.regex_meaning.specs.MatchGroupsByNumberAndName.{answers_from}
use Rattle.regex_meaning.specs.CompilationRelation.{Program, Insn, Loop1CharBody}
use Rattle.regex_meaning.specs.Text.{Text}
use Rattle.regex_meaning.specs.Tree.{Tree}
use Rattle.regex_meaning.specs.CodeUnitOffsets.{units}
use Rattle.regress_program.specs.CompilationOfTreesAsFunction.{compiled}
use Rattle.regress_search.specs.MatchesWithinWork.{RemainingAnswersAndWork}
use Rattle.regress_search.specs.CostsOfSearches.{Failures}
use Rattle.regress_search.specs.declared.exec.search_state.SearchState.{Ghosts}
use Rattle.regress_memo.specs.declared.analysis_result.MemoAnalysis.{MemoAnalysis}
use Rattle.regress_memo.specs.WorkBound.{IsWorkBounded, work_per_position}
use Rattle.regress_memo.specs.AnalysisChecks.{unlimited}
use Rattle.regress_memo.specs.CheckedAnalysis.{IsAnalysisOf}
use Rattle.regress_bounded.specs.CostsOfAttempts.{NoFailuresAreKnown}
use Rattle.regress_bounded.specs.declared.work_bound.WorkBound.{WorkBound}

-- The work of the first stage of a search per position (see `CostsOfStages`).
abbrev pub first_stage_work_per_position : ℕ
first_stage_work_per_position = 16

-- The work per position that is enough for the second stage: 1 to pass the position, the work of all
-- searches together, and the work of one more search.
abbrev pub second_stage_work_per_position : MemoAnalysis → ℕ
second_stage_work_per_position t = 1 + (work_per_position t + work_per_position t / 3)

-- The bound per position: the work of both stages.
abbrev pub work_per_unit : MemoAnalysis → ℕ
work_per_unit t = first_stage_work_per_position + second_stage_work_per_position t

-- The size of an instruction. That of a char loop is 1 plus its maximum, or 1 plus its minimum if
-- it has no maximum. That of other instructions is 1.
abbrev pub work_size_of_insn : Insn → ℕ
work_size_of_insn (Loop1CharBody least most greedy) = 1 + (if most == unlimited then least else most)
work_size_of_insn _ = 1

-- The size of a program.
abbrev pub program_size : Program → ℕ
program_size program = sum_by work_size_of_insn program.insns

-- The largest number of codes at an instruction.
abbrev pub most_memo_codes_per_insn : MemoAnalysis → ℕ
most_memo_codes_per_insn t = fold (λ most x. max most x.codes) 0 t.lines.items

-- The memo analysis bounds the searches with the program.
pub record AnalysisBoundsProgram (program : Program) (t : MemoAnalysis) : Type 0 where
  pub memo_analysis : IsAnalysisOf program t
  pub bounded : IsWorkBounded t program

-- The bound belongs to the tree's program. Per unit, it is at most a constant times the size of the
-- program times its largest number of codes.
pub record IsWorkBoundOfTree (tree : Tree) (bound : WorkBound) : Type 0 where
  pub has : AnalysisBoundsProgram (compiled tree) (arc_value bound.memo_analysis)
  pub per_unit : bound.per_unit ≡ work_per_unit (arc_value bound.memo_analysis)
  pub few : bound.per_unit ≤ 64 * (program_size (compiled tree) * most_memo_codes_per_insn
      (arc_value bound.memo_analysis))

-- `IsWorkBoundOfTree` as a proposition.
abbrev pub TreeHasWorkBound : Tree → WorkBound → Type 0
TreeHasWorkBound tree bound = ∥ IsWorkBoundOfTree tree bound ∥₁

-- Whether this much work suffices for all matches of a text.
abbrev pub is_work_enough_for_text : (per_unit : ℕ) → Text → (work : ℕ) → Bool
is_work_enough_for_text per_unit text work = nat_le (per_unit * (units text + 1)) work

-- What contracts see of an executor before its first attempt: its tree and text, no step limit, the
-- work left, whether that suffices, and no known failures.
pub record ExecutorIsAtStart (tree : Tree) (text : Text) (per_unit work : ℕ)
    (its_tree : Tree) (its_text : Text) (budget : Option ℕ) (enough : Bool) (ahead left : ℕ)
    (failures : Failures) : Type 0 where
  pub of_tree : its_tree ≡ tree
  pub of_text : its_text ≡ text
  pub unlimited : budget ≡ None
  pub is_work_enough_for_places : enough ≡ is_work_enough_for_text per_unit text work
  pub first : ahead ≡ 0
  pub has_left : left ≡ work
  pub fresh : NoFailuresAreKnown failures

-- `ExecutorIsAtStart` for an executor with the bound of a tree's program, stated by its ghost
-- state. The flag `unicode` of the tree selects the text.
abbrev pub HasMadeNoAttempt : {E : Type 0} (e : Ghosts E) (tree : Tree) (text_of : Bool → Text) (bound : WorkBound)
    (work : ℕ) → E → Type 0
HasMadeNoAttempt e tree text_of bound work x =
    ExecutorIsAtStart tree (text_of tree.flags.unicode) bound.per_unit work
    (e.tree x) (e.text x) (e.budget x) (e.enough x) (e.ahead x) (e.left x) (e.failures x)

-- The work that suffices for a text: `per_unit` times the number of its units plus one.
abbrev pub enough_work_for_text : (per_unit : ℕ) → Text → ℕ
enough_work_for_text per_unit text = per_unit * (units text + 1)

-- An iterator yields the tree's list of matches in the text from `start` on, and no step limit ends
-- this list. The work left is `work`. It suffices for all matches if it is at least
-- `enough_work_for_text`.
pub record YieldsMatchesIfWorkSuffices (tree : Tree) (text : Text) (start per_unit work : ℕ)
    (it : RemainingAnswersAndWork) : Type 0 where
  pub answers : it.remaining.answers ≡ answers_from tree.root text start
  pub unlimited : it.remaining.limited ≡ false
  pub text_end : it.remaining.text_end ≡ units text
  pub left : it.left ≡ work
  pub enough : enough_work_for_text per_unit text ≤ work → it.enough ≡ true
