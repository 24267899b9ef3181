-- The reasons why a tree's program has no known work bound.
use Rattle.std.specs.Prelude.{◌≡◌, ◌+◌, ◌-◌, ◌||◌, ◌==◌, ℕ, Bool, true, false, not, List, length, Option, Some, None, slice_get}
use Rattle.std.specs.List.{list_any}
use Rattle.regex_meaning.specs.NumberListHelpers.{numbers_from}
use Rattle.regex_meaning.specs.CompilationRelation.{Insn, BackRef, EnterLoop, Jump, Lookahead, Lookbehind, Loop1CharBody}
use Rattle.regex_meaning.specs.Tree.{Node, Tree, back_ref, fold_nodes, lookaround}
use Rattle.regress_memo.specs.AnalysisChecks.{unlimited}
use Rattle.regress_memo.specs.SkippedLookarounds.{LookaroundInsn, lookaround_at}
use Rattle.regress_memo.specs.Successors.{is_goal_insn}
use Rattle.regress_program.specs.CompilationOfTreesAsFunction.{compiled}
use Rattle.regress_bounded.specs.declared.work_bound.Unbounded.{Unbounded}
use Rattle.regress_bounded.specs.declared.work_bound.Unbounded.TheVariants.{Memory, Lookaround, Backreference, Count, BoundTooLarge}

-- Whether the node is a lookaround (if `looks`) or a backreference (otherwise).
abbrev pub is_lookaround_or_backref_node : (looks : Bool) → Node → Bool
is_lookaround_or_backref_node looks (lookaround l contents) = looks
is_lookaround_or_backref_node looks (back_ref group same) = not looks
is_lookaround_or_backref_node looks _ = false

-- Whether the instruction is a lookaround (if `looks`) or a backreference (otherwise).
abbrev pub is_lookaround_or_backref_insn : (looks : Bool) → Insn → Bool
is_lookaround_or_backref_insn looks (Lookahead negate start_group end_group continuation) = looks
is_lookaround_or_backref_insn looks (Lookbehind negate start_group end_group continuation) = looks
is_lookaround_or_backref_insn looks (BackRef group same) = not looks
is_lookaround_or_backref_insn looks _ = false

-- Whether the instruction is a goal. `false` if there is no instruction.
abbrev pub is_goal_at : Option Insn → Bool
is_goal_at (Some x) = is_goal_insn x
is_goal_at None = false

-- Whether an instruction of the code repeats or joins. A loop repeats, unless it is a loop over one
-- character that has a maximum. A jump joins, unless its target is a goal. Such a jump ends an
-- alternative that other contents follow.
abbrev pub repeats_or_joins : (code : List Insn) → Option Insn → Bool
repeats_or_joins code (Some (EnterLoop f)) = true
repeats_or_joins code (Some (Loop1CharBody least most greedy)) = most == unlimited
repeats_or_joins code (Some (Jump target)) = not (is_goal_at (slice_get code target))
repeats_or_joins code _ = false

-- Whether an instruction between a lookaround at `ip` and the one after it repeats or joins. `false`
-- if there is no lookaround.
abbrev pub has_complex_contents : (code : List Insn) → (ip : ℕ) → Option LookaroundInsn → Bool
has_complex_contents code ip None = false
has_complex_contents code ip (Some l) = list_any (λ inner. repeats_or_joins code (slice_get code inner))
    (numbers_from (ip + 1) (l.continuation - (ip + 1)))

-- Whether the instruction is a lookaround with such contents.
abbrev pub is_complex_lookaround : (code : List Insn) → (ip : ℕ) → Bool
is_complex_lookaround code ip = has_complex_contents code ip (lookaround_at (slice_get code ip))

-- Whether the tree's program has a lookaround with such contents.
abbrev pub has_complex_lookaround : Tree → Bool
has_complex_lookaround tree = let code = (compiled tree).insns in
    list_any (is_complex_lookaround code) (numbers_from 0 (length code))

-- Whether the tree has a backreference.
abbrev pub has_backreference : Tree → Bool
has_backreference tree = fold_nodes ◌||◌ (is_lookaround_or_backref_node false) tree.root

-- The tree has no backreference, and no lookaround whose contents repeat or join.
pub record HasOnlySimpleLookarounds (tree : Tree) : Type 0 where
  pub no_backreference : has_backreference tree ≡ false
  pub no_complex_lookaround : has_complex_lookaround tree ≡ false

-- The tree has a lookaround whose contents repeat or join, and no backreference.
pub record HasComplexLookaroundButNoBackreference (tree : Tree) : Type 0 where
  pub no_backreference : has_backreference tree ≡ false
  pub complex_lookaround : has_complex_lookaround tree ≡ true

-- What each reason says about the tree. `Backreference`: it has a backreference. `Lookaround`: it
-- has a lookaround whose contents repeat or join, but no backreference. The other reasons occur
-- only if it has neither.
abbrev pub IsReasonForUnboundedness : Tree → Unbounded → Type 0
IsReasonForUnboundedness tree Backreference = has_backreference tree ≡ true
IsReasonForUnboundedness tree Lookaround = HasComplexLookaroundButNoBackreference tree
IsReasonForUnboundedness tree Memory = HasOnlySimpleLookarounds tree
IsReasonForUnboundedness tree Count = HasOnlySimpleLookarounds tree
IsReasonForUnboundedness tree BoundTooLarge = HasOnlySimpleLookarounds tree
