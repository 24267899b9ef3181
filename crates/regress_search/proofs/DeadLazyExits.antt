-- The exits of a lazy char loop are dead at each boundary where its follow set excludes the next
-- unit.
use Rattle.std.proofs.Common.{◌≡◌, ℕ, ◌+◌, ◌-◌, ◌<◌, Bool, false, true, Some, ap₂, sym, subst, arith}
use Rattle.regex_meaning.specs.CodeUnitOffsets.{HasRisingPlaceOffsets, IsBoundary}
use Rattle.regress_program.specs.InsnsAsSpec.{insn_as_spec_insn}
use Rattle.regress_program.specs.TableKeysOfUnits.{unit_table_of_set}
use Rattle.regress_program.specs.declared.char_class_tables.Class.{Class}
use Rattle.regress_program.specs.declared.first_set_type.FirstSet.{FirstSet}
use Rattle.regress_machine.specs.Machine.{test_of}
use Rattle.regress_search.specs.declared.lazy_char_loops.LazyCharLoopExit.{LazyCharLoopExit}
use Rattle.regress_search.specs.LazyCharLoopExits.{AreDeadExits, IsFirstLiveExit, place_after_match}
use Rattle.regress_search.specs.CharLoopExits.{ClassFitsText}
use Rattle.regress_search.specs.ReadsAtOffset.{IsPastNextCharIfAccepted}
use Rattle.regress_search.specs.TreePlanAndText.{SearchInput, program_of}
use Rattle.regress_search.specs.StartSearch.{table_allows_unit_or_end_at}
use Rattle.regress_search.proofs.RemainingLazyExits.{OneOn, one-accepted}
use Rattle.regress_search.proofs.FollowSetLemmas.{left-all, left-more}
use Rattle.regress_search.proofs.CharLoopReach.{some-of}

module _ (w : SearchInput) (class : Class) (set : FirstSet) (from : LazyCharLoopExit) where
  pub barred-none : IsBoundary w.text from.at → AreDeadExits w class set from 0
  barred-none on =
      let at : from.at ≡ from.at + 0 = omega arith in
      let left : from.left ≡ from.left - 0 = omega arith in
      let same : from ≡ place_after_match from 0 = ap₂ (λ at left. record { at = at; left = left }) at left in
      record {
        boundary = subst (IsBoundary w.text) at on;
        preferred =
            subst (λ to. IsFirstLiveExit w class from (Some to) (Some set)) same
            (λ test tested forward counts ip looks_ahead. left-all w forward counts ip _);
      }

  -- If the set bars the next exit and a character of one unit stands there, it is dead too.
  module _ (is : HasRisingPlaceOffsets w.text) (readable : ClassFitsText w class) (count to : ℕ) (so_far : AreDeadExits w class set from count) (more : count < from.left)
      (there : to ≡ from.at + (count + 1)) (barred : table_allows_unit_or_end_at w (unit_table_of_set set) (from.at + count) ≡ false)
      (passed : IsPastNextCharIfAccepted w true (insn_as_spec_insn class.insn) (from.at + count) (Some to)) where
    one : (test : ℕ → Bool) → test_of (program_of w) (Some (insn_as_spec_insn class.insn)) ≡ Some test
        → OneOn w.text is test (from.at + count) (from.left - count) (from.left - (count + 1)) to
    one test tested =
        one-accepted w.text is test (from.at + count) (from.left - count) (from.left - (count + 1)) to (omega (arith, more))
        so_far.boundary (sym (passed test tested))

    pub barred-more : AreDeadExits w class set from (count + 1)
    barred-more =
        let t = some-of (test_of (program_of w) (Some (insn_as_spec_insn class.insn))) readable.tests in
        record {
          boundary = subst (IsBoundary w.text) there (one t.0 t.1).boundary;
          preferred =
              subst (λ at. IsFirstLiveExit w class from (Some (record { at = at; left = from.left - (count + 1) })) (Some set)) there
              (λ test tested forward counts ip looks_ahead.
              left-more w forward counts ip _ (from.at + count) _ _ (so_far.preferred test tested forward counts ip looks_ahead) (one test tested).are
              (looks_ahead (from.at + count) so_far.boundary barred));
        }
