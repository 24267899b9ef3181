-- The exits of a lazy char loop before units with other keys, one after another.
use Rattle.std.proofs.Common.{◌≡◌, ℕ, ◌+◌, ◌-◌, ◌<◌, Bool, true, Some, [], ◌∷◌, ◌++◌, refl, ap, ap₂, sym, ◌∙◌, subst, arith, append_assoc, length-append}
use Rattle.regex_meaning.specs.CodeUnitOffsets.{HasRisingPlaceOffsets, IsBoundary}
use Rattle.regex_meaning.proofs.EachElementLemmas.{Each-append}
use Rattle.regress_program.specs.InsnsAsSpec.{insn_as_spec_insn}
use Rattle.regress_program.specs.declared.char_class_tables.Class.{Class}
use Rattle.regress_machine.specs.Machine.{test_of}
use Rattle.regress_search.specs.declared.lazy_char_loops.LazyCharLoopExit.{LazyCharLoopExit}
use Rattle.regress_search.specs.LazyCharLoopExits.{AreExitsBeforeOtherKeys, IsBeforeOtherKey, lazy_loop_exits_from, place_after_match}
use Rattle.regress_search.specs.CharLoopExits.{ClassFitsText}
use Rattle.regress_search.specs.ReadsAtOffset.{IsPastNextCharIfAccepted, unit_key_in_search}
use Rattle.regress_search.specs.TreePlanAndText.{SearchInput, program_of}
use Rattle.regress_search.proofs.RemainingLazyExits.{OneOn, one-accepted}
use Rattle.regress_search.proofs.CharLoopReach.{some-of}

module _ (w : SearchInput) (class : Class) (key : ℕ) (from : LazyCharLoopExit) where
  pub others-none : IsBoundary w.text from.at → AreExitsBeforeOtherKeys w class key from 0
  others-none on =
      let at : from.at ≡ from.at + 0 = omega arith in
      let left : from.left ≡ from.left - 0 = omega arith in
      let same : from ≡ place_after_match from 0 = ap₂ (λ at left. record { at = at; left = left }) at left in
      record {
        boundary = subst (IsBoundary w.text) at on;
        fewer = omega arith;
        passed = λ test tested. record { out = []; are = ap (lazy_loop_exits_from w test) same; many = refl; others = tt };
      }

  -- If another key is next and a character of one unit stands there, the next exit is passed too.
  module _ (is : HasRisingPlaceOffsets w.text) (readable : ClassFitsText w class) (count to : ℕ) (so_far : AreExitsBeforeOtherKeys w class key from count) (more : count < from.left)
      (there : to ≡ from.at + (count + 1)) (found : ℕ) (found_there : unit_key_in_search w (from.at + count) ≡ Some found) (other : found ≡ key → ⊥)
      (led : IsPastNextCharIfAccepted w true (insn_as_spec_insn class.insn) (from.at + count) (Some to)) where
    one : (test : ℕ → Bool) → test_of (program_of w) (Some (insn_as_spec_insn class.insn)) ≡ Some test
        → OneOn w.text is test (from.at + count) (from.left - count) (from.left - (count + 1)) to
    one test tested =
        one-accepted w.text is test (from.at + count) (from.left - count) (from.left - (count + 1)) to (omega (arith, more))
        so_far.boundary (sym (led test tested))

    here : IsBeforeOtherKey w key (from.at + count)
    here = record { boundary = so_far.boundary; found = found; there = found_there; other = other }

    pub others-more : AreExitsBeforeOtherKeys w class key from (count + 1)
    others-more =
        let t = some-of (test_of (program_of w) (Some (insn_as_spec_insn class.insn))) readable.tests in
        record {
          boundary = subst (IsBoundary w.text) there (one t.0 t.1).boundary;
          fewer = omega (arith, more);
          passed = λ test tested.
              let p = so_far.passed test tested in
              let last = (from.at + count) ∷ [] in
              let left = lazy_loop_exits_from w test (place_after_match from (count + 1)) in
              record {
                out = p.out ++ last;
                are =
                    p.are
                    ∙ ap (λ ats. p.out ++ ats) ((one test tested).are
                    ∙ ap (λ at. (from.at + count) ∷ lazy_loop_exits_from w test (record { at = at; left = from.left - (count + 1) })) there)
                    ∙ sym (append_assoc p.out last left);
                many = length-append p.out last ∙ ap (λ n. n + 1) p.many;
                others = Each-append (IsBeforeOtherKey w key) p.out last p.others (here, tt);
              };
        }
