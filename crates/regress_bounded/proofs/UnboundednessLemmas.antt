-- The tests of a program's instructions tell whether its tree has a backreference or a complex lookaround.
use Rattle.std.proofs.Common.{◌≡◌, ◌≤◌, ◌<◌, ℕ, zero, suc, ◌+◌, List, Bool, true, false, refl, sym, subst, ap, ◌∙◌, ◌||◌, map, length, arith}
use mathlib.Core.Logic.{inl, inr}
use Rattle.std.proofs.lemmas.Bool.{cases_lt}
use Rattle.std.specs.List.{list_any}
use Rattle.std.specs.Prelude.{Result, Ok, Err, IfErr, IsErrAnd}
use Rattle.regex_meaning.specs.NumberListHelpers.{numbers_from}
use Rattle.regex_meaning.specs.Tree.{Tree, fold_nodes}
use Rattle.regex_pattern_front.proofs.IntervalLemmas.{list_any-map}
use Rattle.regress_program.specs.CompilationOfTreesAsFunction.{compiled}
use Rattle.regress_program.specs.InsnsAsSpec.{insn_as_spec_insn}
use Rattle.regress_program.specs.declared.instructions.Insn.{Insn}
use Rattle.regress_bounded.proofs.LookaroundsAndBackrefsInCode.{has-code}
use Rattle.regress_bounded.specs.Unboundedness.{HasOnlySimpleLookarounds, IsReasonForUnboundedness, has_complex_lookaround, is_complex_lookaround}
use Rattle.regress_bounded.specs.Unboundedness.{is_lookaround_or_backref_insn, is_lookaround_or_backref_node}
use Rattle.regress_bounded.specs.declared.work_bound.Unbounded.{Unbounded}
use Rattle.regress_bounded.specs.declared.work_bound.Unbounded.TheVariants.{Memory}

-- A test of the code's instructions tells whether the tree has such a node.
pub tree-has : (looks : Bool) (insns : List Insn) (tree : Tree) (found : Bool) → map insn_as_spec_insn insns ≡ (compiled tree).insns
    → found ≡ list_any (λ x. is_lookaround_or_backref_insn looks (insn_as_spec_insn x)) insns → fold_nodes ◌||◌ (is_lookaround_or_backref_node looks) tree.root ≡ found
unfolding compiled
tree-has looks insns tree found code is =
    sym (has-code looks tree.flags.unicode false tree.root 0 0 0) ∙ ap (list_any (is_lookaround_or_backref_insn looks)) (sym code) ∙ list_any-map (is_lookaround_or_backref_insn looks) insn_as_spec_insn insns ∙ sym is

-- A test of the code tells whether the tree's program has a complex lookaround.
pub tree-is-complex : (insns : List Insn) (tree : Tree) (found : Bool) → map insn_as_spec_insn insns ≡ (compiled tree).insns
    → (let code = map insn_as_spec_insn insns in found ≡ list_any (is_complex_lookaround code) (numbers_from 0 (length code))) → has_complex_lookaround tree ≡ found
tree-is-complex insns tree found code is = ap (λ code. list_any (is_complex_lookaround code) (numbers_from 0 (length code))) (sym code) ∙ sym is

-- A tree whose code has neither a backreference nor a complex lookaround has only simple lookarounds.
pub plain-by : (insns : List Insn) (tree : Tree) (back complex : Bool) → map insn_as_spec_insn insns ≡ (compiled tree).insns
    → back ≡ list_any (λ x. is_lookaround_or_backref_insn false (insn_as_spec_insn x)) insns → back ≡ false
    → (let code = map insn_as_spec_insn insns in complex ≡ list_any (is_complex_lookaround code) (numbers_from 0 (length code))) → complex ≡ false → HasOnlySimpleLookarounds tree
plain-by insns tree back complex code backs no_back complexes no_complex = record {
  no_backreference = tree-has false insns tree back code backs ∙ no_back;
  no_complex_lookaround = tree-is-complex insns tree complex code complexes ∙ no_complex;
}

-- ---- Tests of each instruction

-- If no number passes a test, none of the first ones does.
pub none-passes : (test : ℕ → Bool) (first count : ℕ) → ((k : ℕ) → first ≤ k → k < first + count → test k ≡ false) → list_any test (numbers_from first count) ≡ false
none-passes test first zero none = refl
none-passes test first (suc count) none =
    ap (λ b. b || list_any test (numbers_from (first + 1) count)) (none first (omega arith) (omega arith))
    ∙ none-passes test (first + 1) count (λ k from to. none k (omega (arith, from)) (omega (arith, to)))

-- If the next number fails the test too, one more number fails it.
pub more-fails : (test : ℕ → Bool) (first next : ℕ) → ((k : ℕ) → first ≤ k → k < next → test k ≡ false) → test next ≡ false → (k : ℕ) → first ≤ k → k < next + 1 → test k ≡ false
more-fails test first next none fails k from to = elim (cases_lt k next) [
  | inl less ↦ none k from less
  | inr le ↦ let same : k ≡ next = omega (arith, le, to) in ap test same ∙ fails
]

or-yes : (b : Bool) → (b || true) ≡ true
or-yes true = refl
or-yes false = refl

-- If one number passes, the test of all of them does.
pub one-passes : (test : ℕ → Bool) (first count k : ℕ) → first ≤ k → k < first + count → test k ≡ true → list_any test (numbers_from first count) ≡ true
one-passes test first zero k from to is = absurd (omega (arith, from, to))
one-passes test first (suc count) k from to is = elim (cases_lt first k) [
  | inl less ↦
      ap (λ b. test first || b) (one-passes test (first + 1) count k (omega (arith, less)) (omega (arith, to)) is) ∙ or-yes (test first)
  | inr le ↦
      let same : k ≡ first = omega (arith, le, from) in
      ap (λ b. b || list_any test (numbers_from (first + 1) count)) (sym (ap test same) ∙ is)
]

-- If the tree has only simple lookarounds, the error `Memory` states a true reason.
pub memory-refused : {X : Type 0} (tree : Tree) (r : Result X Unbounded) → IsErrAnd r (λ e. e ≡ Memory) → HasOnlySimpleLookarounds tree → IfErr r (IsReasonForUnboundedness tree)
memory-refused tree (Ok x) h plain = tt
memory-refused tree (Err e) h plain = subst (IsReasonForUnboundedness tree) (sym h) plain
