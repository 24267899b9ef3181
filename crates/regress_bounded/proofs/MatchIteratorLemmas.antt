-- An iterator over an executor that has made no attempt yields all matches from its start.
use Rattle.std.proofs.Common.{◌≡◌, ◌+◌, ◌*◌, ℕ, Bool, true, false, refl, ap, ◌∙◌, nat_le, not, if◌then◌else◌}
use Rattle.std.specs.Prelude.{Option, Some, None}
use Rattle.std.proofs.Math.Dec.{leb-zero}
use Rattle.std.proofs.lemmas.Bool.{le-leb}
use Rattle.regex_meaning.specs.CodeUnitOffsets.{units}
use Rattle.regex_meaning.specs.StepBudget.{answers_within, finishes_within}
use Rattle.regex_meaning.specs.Text.{Text}
use Rattle.regex_meaning.specs.Tree.{Tree}
use Rattle.regress_search.specs.MatchesWithinWork.{RemainingAnswersAndWork, is_work_enough}
use Rattle.regress_search.specs.CostsOfSearches.{Failures}
use Rattle.regress_bounded.specs.CostsOfAttempts.{BeginsSearchesForTreeInText}
use Rattle.regress_bounded.specs.WorkBoundForAllMatches.{ExecutorIsAtStart, YieldsMatchesIfWorkSuffices}

-- An executor that has made no attempt has enough work for all of them, from any start.
fresh-enough : (enough : Bool) (ahead : ℕ) (test : Bool) (start : ℕ)
    → enough ≡ true → ahead ≡ 0 → is_work_enough enough ahead (if test then Some start else None) ≡ true
fresh-enough enough ahead true start e z = rw (e, z) (leb-zero start)
fresh-enough enough ahead false start e z = e

-- The iterator still yields all matches from its start.
abbrev pub HasBegun : (tree : Tree) (text : Text) (budget : Option ℕ) (enough : Bool) (ahead left start : ℕ) (it : RemainingAnswersAndWork) → Type 0
HasBegun tree text budget enough ahead left start it =
    (it.remaining.answers ≡ answers_within tree text budget start) × (it.remaining.limited ≡ not (finishes_within tree text budget start)) × (it.remaining.text_end ≡ units text)
    × (it.left ≡ left) × (it.enough ≡ is_work_enough enough ahead (if nat_le start (units text) then Some start else None))

pub begun-Yields : {tree its_tree : Tree} {text its_text : Text} {per_unit work : ℕ} {budget : Option ℕ} {enough : Bool} {ahead left start : ℕ} {failures : Failures} {it : RemainingAnswersAndWork}
    → ExecutorIsAtStart tree text per_unit work its_tree its_text budget enough ahead left failures
    → HasBegun its_tree its_text budget enough ahead left start it → YieldsMatchesIfWorkSuffices tree text start per_unit work it
begun-Yields {tree} {its_tree} {text} {its_text} {per_unit} {work} {budget} {enough} {ahead} {left} {start} {failures} {it} s b = record {
  answers = b.0 ∙ rw (s.of_tree, s.of_text, s.unlimited) refl;
  unlimited = b.1 ∙ rw (s.of_tree, s.of_text, s.unlimited) refl;
  text_end = b.2 ∙ ap units s.of_text;
  left = b.3 ∙ s.has_left;
  enough = λ e. b.4
      ∙ fresh-enough enough ahead (nat_le start (units its_text)) start (s.is_work_enough_for_places ∙ le-leb (per_unit * (units text + 1)) work e) s.first;
}

-- The cost of the first call depends on the tree, the text, the failures and the position.
pub begun-costs : {tree its_tree now_tree : Tree} {text its_text now_text : Text} {per_unit work : ℕ} {budget : Option ℕ} {enough : Bool} {ahead left start : ℕ} {failures now_failures : Failures} {position : Option ℕ}
    → ExecutorIsAtStart tree text per_unit work its_tree its_text budget enough ahead left failures → now_tree ≡ its_tree → now_text ≡ its_text → now_failures ≡ failures
    → position ≡ (if nat_le start (units its_text) then Some start else None) → BeginsSearchesForTreeInText tree text start now_tree now_text now_failures position
begun-costs {start = start} s t x f at =
    record {
      of_tree = t ∙ s.of_tree;
      of_text = x ∙ s.of_text;
      fresh = λ ip at code. ap (λ (g : Failures). g ip at code) f ∙ s.fresh ip at code;
      position = at ∙ ap (λ (x : Text). if nat_le start (units x) then Some start else None) s.of_text;
    }
