-- The instruction at a state that is not stuck exists, and so does the body of a char loop there.
use Rattle.std.proofs.Common.{◌≡◌, ℕ, Bool, ◌+◌, ◌<◌, ◌^◌, Some, List, length, map, slice_get, get_or, arith}
use Rattle.std.specs.Prelude.{is_some, IsTrue}
use Rattle.regex_meaning.specs.Text.{Text, Direction}
use Rattle.regex_pattern_front.specs.AstToSpecTree.{tree_of}
use Rattle.regex_pattern_front.specs.declared.ir.Regex.{Regex}
use Rattle.regress_program.specs.InsnsAsSpec.{insn_as_spec_insn}
use Rattle.regress_program.specs.declared.instructions.Insn.{Insn}
use Rattle.regress_program.specs.CompilationOfTreesAsFunction.{compiled}
use Rattle.regress_machine.specs.Machine.{State, Next, act, test_of, with_some}
use Rattle.regress_machine.specs.InsnEffects.{IsNotStuck}
use Rattle.regress_machine.proofs.InsnFetchLemmas.{act-some, test-some, fetched-some, fetched-below}

module _ (re : Regex) (insns : List Insn) (code : map insn_as_spec_insn insns ≡ (compiled (tree_of re)).insns) where
  -- If an instruction exists at an address, the compiled instruction there specifies it.
  insn-at : (ip : ℕ) (insn : Insn) → insn ≡ get_or insns ip insn → IsTrue (is_some (slice_get (compiled (tree_of re)).insns ip))
      → slice_get (compiled (tree_of re)).insns ip ≡ Some (insn_as_spec_insn insn)
  insn-at ip insn is there = fetched-some insn_as_spec_insn insns (compiled (tree_of re)).insns ip insn is code there

  fits : (ip : ℕ) → IsTrue (is_some (slice_get (compiled (tree_of re)).insns ip)) → length insns < 2 ^ 64 → ip + 1 < 2 ^ 64
  fits ip there short = let below = fetched-below insn_as_spec_insn insns (compiled (tree_of re)).insns ip code there in omega (arith, below, short)

  -- If the state is not stuck, an instruction exists at its address.
  module _ (text : Text) (d : Direction) (s : State) (can : IsNotStuck (act (compiled (tree_of re)) text d s)) where
    abbrev there : IsTrue (is_some (slice_get (compiled (tree_of re)).insns s.ip))
    there = act-some (compiled (tree_of re)) text d (slice_get (compiled (tree_of re)).insns s.ip) s can

    pub insn-here : (insn : Insn) → insn ≡ get_or insns s.ip insn → slice_get (compiled (tree_of re)).insns s.ip ≡ Some (insn_as_spec_insn insn)
    insn-here insn is = insn-at s.ip insn is there

    pub fits-here : length insns < 2 ^ 64 → s.ip + 1 < 2 ^ 64
    fits-here short = fits s.ip there short

  -- If a loop over one character is not stuck, the instruction of its body exists.
  module _ (ip : ℕ) (f : (ℕ → Bool) → Next) (can : IsNotStuck (with_some (test_of (compiled (tree_of re)) (slice_get (compiled (tree_of re)).insns ip)) f)) where
    abbrev body-there : IsTrue (is_some (slice_get (compiled (tree_of re)).insns ip))
    body-there = test-some (compiled (tree_of re)) (slice_get (compiled (tree_of re)).insns ip) f can

    pub insn-behind : (insn : Insn) → insn ≡ get_or insns ip insn → slice_get (compiled (tree_of re)).insns ip ≡ Some (insn_as_spec_insn insn)
    insn-behind insn is = insn-at ip insn is body-there

    pub fits-behind : length insns < 2 ^ 64 → ip + 1 < 2 ^ 64
    fits-behind short = fits ip body-there short
