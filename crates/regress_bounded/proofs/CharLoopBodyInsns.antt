-- The instruction after an unbounded char loop tests its characters and lies within the program.
use Rattle.std.proofs.Common.{◌≡◌, ℕ, Bool, ◌+◌, ◌<◌, ◌^◌, Some, List, [], length, map, slice_get, get_or, sym, ap, subst, arith}
use Rattle.std.specs.Prelude.{is_some, IsSome, IsTrue}
use Rattle.regex_meaning.specs.CompilationRelation.{Program}
use Rattle.regex_pattern_front.specs.AstToSpecTree.{tree_of}
use Rattle.regex_pattern_front.specs.declared.ir.Regex.{Regex}
use Rattle.regress_program.specs.InsnsAsSpec.{insn_as_spec_insn}
use Rattle.regress_program.specs.declared.instructions.Insn.{Insn}
use Rattle.regress_program.specs.CompilationOfTreesAsFunction.{compiled}
use Rattle.regress_program.specs.SearchableTexts.{IsByteText}
use Rattle.regress_machine.specs.TextsForBytePrograms.{tree_contains_byte_nodes}
use Rattle.regex_meaning.specs.Text.{Text}
use Rattle.regress_machine.specs.Machine.{Next, goes, with_some, test_of}
use Rattle.regress_machine.specs.InsnEffects.{IsNotStuck}
use Rattle.regress_machine.proofs.InsnFetchLemmas.{test-some, fetched-some, fetched-below}
use Rattle.regress_search.specs.OffsetsAfterMatchedInsns.{ByteInsnHasByteText}
use Rattle.regress_search.proofs.LiteralBytesInCode.{literal-reads}
use Rattle.regress_search.proofs.CharLoopReach.{some-of}

pub body-tested : (program : Program) (ip : ℕ) (test : ℕ → Bool) → test_of program (slice_get program.insns (ip + 1)) ≡ Some test → IsSome (test_of program (slice_get program.insns (ip + 1)))
body-tested program ip test e = ap is_some e

module _ (re : Regex) (insns : List Insn) (code : map insn_as_spec_insn insns ≡ (compiled (tree_of re)).insns) (ip : ℕ)
    (tested : IsSome (test_of (compiled (tree_of re)) (slice_get (compiled (tree_of re)).insns (ip + 1)))) where
  body-there : IsTrue (is_some (slice_get (compiled (tree_of re)).insns (ip + 1)))
  body-there =
      let t = some-of (test_of (compiled (tree_of re)) (slice_get (compiled (tree_of re)).insns (ip + 1))) tested in
      let f : (ℕ → Bool) → Next = λ t. goes [] in
      test-some (compiled (tree_of re)) (slice_get (compiled (tree_of re)).insns (ip + 1)) f (subst (λ o. IsNotStuck (with_some o f)) (sym t.1) tt)

  pub body-insn : (insn : Insn) → insn ≡ get_or insns (ip + 1) insn → slice_get (compiled (tree_of re)).insns (ip + 1) ≡ Some (insn_as_spec_insn insn)
  body-insn insn is = fetched-some insn_as_spec_insn insns (compiled (tree_of re)).insns (ip + 1) insn is code body-there

  pub body-below : ip + 1 < length insns
  body-below = fetched-below insn_as_spec_insn insns (compiled (tree_of re)).insns (ip + 1) code body-there

  pub body-fits : length insns < 2 ^ 64 → ip + 2 < 2 ^ 64
  body-fits short = let below = body-below in omega (arith, below, short)

-- The text of a body that matches byte sequences consists of bytes.
pub body-spelled : (re : Regex) {text : Text} {are_bytes : Bool} → (IsTrue (tree_contains_byte_nodes (tree_of re).root) → IsByteText text are_bytes) → (ip : ℕ) (body : Insn)
    → slice_get (compiled (tree_of re)).insns (ip + 1) ≡ Some (insn_as_spec_insn body) → ByteInsnHasByteText body text are_bytes
body-spelled re bytes ip body is = λ literal. bytes (literal-reads (tree_of re) (ip + 1) (insn_as_spec_insn body) is literal)
