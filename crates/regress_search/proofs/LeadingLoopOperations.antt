-- The char loop that a plan names as leading begins each match, so a failure extends to its end.
use Rattle.std.proofs.Common.{◌≡◌, ℕ, ◌+◌, ◌-◌, ◌<◌, ◌≤◌, Bool, true, false, Option, Some, None, List, length, refl, ap, sym, ◌∙◌, subst, arith, slice_get, unwrap_or, le_refl}
use Rattle.std.specs.Prelude.{IsSome, IsTrue, option_and_then, if◌then◌else◌}
use Rattle.std.specs.Option.{option_map_or}
use Rattle.std.proofs.lemmas.Bool.{cases_lt}
use mathlib.Core.Logic.{inl, inr}
use Rattle.std.specs.List.{prefix_len}
use Rattle.std.proofs.lemmas.Option.{slice_get_within}
use Rattle.regex_meaning.specs.Text.{rightwards, last_place}
use Rattle.regex_meaning.specs.CodeUnitOffsets.{IsBoundary, offset, place_at, units}
use Rattle.regex_meaning.specs.FirstAndAllMatches.{match_at}
use Rattle.regex_meaning.specs.CompilationRelation.{Program, Insn, Loop1CharBody, BeginCaptureGroup, BackRef, WordBoundary, WordBoundaryUnicodeICase, Lookahead, Lookbehind}
use Rattle.regex_meaning.specs.OutcomesWithStepTicks.{nearest_first}
use Rattle.regex_meaning.proofs.CodeUnitOffsetsLemmas.{IsBoundary-place, offset-place_at, place-le, place-less}
use Rattle.regress_input.specs.CharAndByteReadsFromOffset.{place}
use Rattle.regress_machine.specs.SearchFindsFirstOutcomeAtPlace.{TreeProgramCanSearchText}
use Rattle.regress_machine.specs.Machine.{test_of}
use Rattle.regress_machine.specs.InsnEffects.{is_byte_sequence_insn}
use Rattle.regress_machine.specs.FirstSetTables.{HasUnitsForTables}
use Rattle.regress_machine.proofs.GroupAndAssertionOutcomes.{slice_get_some}
use Rattle.regress_program.specs.SearchableTexts.{IsByteText}
use Rattle.regress_program.specs.InsnsAsSpec.{insn_as_spec_insn}
use Rattle.regress_program.specs.TableKeysOfUnits.{is_16_bit_encoding}
use Rattle.regress_program.specs.Plans.{IsPlanOf, IsOpOf, IsClassRightForProgram, HasClass, op_as_char_loop, reads_class_char}
use Rattle.regress_program.specs.declared.char_class_tables.Class.{Class}
use Rattle.regress_program.specs.declared.ops.CharLoopBounds.{CharLoopBounds}
use Rattle.regress_program.specs.declared.ops.Op.{Op}
use Rattle.regress_program.specs.declared.ops.Op.TheVariants as variant
use Rattle.regress_program.specs.declared.ops.LookaroundAndNextOp as look
use Rattle.regress_program.specs.declared.plan.Plan.{Plan}
use Rattle.regress_program.specs.declared.ops.CharLoop.{CharLoop}
use Rattle.regress_program.proofs.AppendedEntryLemmas.{runs-of}
use Rattle.regress_search.specs.DeadThreads.{MatchFailureExtendsUntil}
use Rattle.regress_search.specs.CharLoopExits.{ClassFitsText, IsClassTest, HasScannedClassCharsTo, accepted_chars_len}
use Rattle.regress_search.specs.TreePlanAndText.{SearchInput, program_of, insn_at}
use Rattle.regress_program.specs.LeadingCharLoops.{opens_group, is_backreference_op, OnlyOpensGroups}
use Rattle.regress_search.proofs.GroupIndependentEnds.{HasNoBackrefs}
use Rattle.regress_search.proofs.LeadingLoopOutcomes.{GroupsMatter, Along, test_in, none-along}
use Rattle.regress_search.proofs.CharLoopReach.{some-of}
use Rattle.regress_search.proofs.CharLoopExitLemmas.{advanced-boundary}
use Rattle.regress_search.proofs.StopByteScanLemmas.{places-few}

-- ---- Operations and backreferences

abbrev pub is_backref_insn : Insn → Bool
is_backref_insn (BackRef group same) = true
is_backref_insn _ = false

module _ (program : Program) (plan : Plan) (ip : ℕ) where
  class-refers-not : (insn : Insn) → reads_class_char insn ≡ true → is_backref_insn insn ≡ false
  class-refers-not (BackRef group same) is = cc
  class-refers-not _ is = refl

  edge-refers-not : (invert icase : Bool) → is_backref_insn (if icase then WordBoundaryUnicodeICase invert else WordBoundary invert) ≡ false
  edge-refers-not invert true = refl
  edge-refers-not invert false = refl

  look-refers-not : (l : look.LookaroundAndNextOp) (first end : ℕ) (forward : Bool)
      → is_backref_insn (if forward then Lookahead l.negate first end l.past else Lookbehind l.negate first end l.past) ≡ false
  look-refers-not l first end true = refl
  look-refers-not l first end false = refl

  -- An operation is a backreference exactly if its instruction is one.
  pub op-refers : (op : Op) (insn : Insn) → IsOpOf program plan op ip insn → is_backref_insn insn ≡ is_backreference_op op
  op-refers variant.Goal insn is = ap is_backref_insn is
  op-refers variant.Fail insn is = ap is_backref_insn is
  op-refers (variant.UnitChar c) insn is = ap is_backref_insn is
  op-refers (variant.Char c) insn is = ap is_backref_insn is
  op-refers (variant.Bytes number) insn is = ap is_backref_insn is.insn_is
  op-refers (variant.One number) insn is = class-refers-not insn is.1
  op-refers (variant.LineStart multiline) insn is = ap is_backref_insn is
  op-refers (variant.LineEnd multiline) insn is = ap is_backref_insn is
  op-refers (variant.WordEdge edge) insn is = ap is_backref_insn is ∙ edge-refers-not edge.invert edge.unicode_icase
  op-refers (variant.Goto target) insn is = ap is_backref_insn is
  op-refers (variant.Either secondary) insn is = ap is_backref_insn is
  op-refers (variant.Enter number) insn is = ap is_backref_insn is.insn_is
  op-refers (variant.LoopEnd number) insn is = ap is_backref_insn is.insn_is
  op-refers (variant.LazyCharLoop r) insn is = ap is_backref_insn is.insn_is
  op-refers (variant.GreedyCharLoop r) insn is = ap is_backref_insn is.insn_is
  op-refers (variant.PossessiveCharLoop r) insn is = ap is_backref_insn is.insn_is
  op-refers (variant.OpenGroup slot) insn is = ap is_backref_insn is
  op-refers (variant.CloseGroup slot) insn is = ap is_backref_insn is
  op-refers (variant.ResetGroup slot) insn is = ap is_backref_insn is
  op-refers (variant.MatchBackref again) insn is = ap is_backref_insn is
  op-refers (variant.Look l) insn is = ap is_backref_insn is.insn_is ∙ look-refers-not l is.start_group is.end_group l.forward

module _ (w : SearchInput) (plan : IsPlanOf (is_16_bit_encoding w.encoding) (program_of w) w.plan) where
  -- Each operation of the plan has an instruction.
  pub insn-of-op : (ip : ℕ) (op : Op) → slice_get w.plan.ops.items ip ≡ Some op → (insn : Insn) × (insn_at w ip ≡ Some insn) × IsOpOf (program_of w) w.plan op ip insn
  insn-of-op ip op is =
      let some = slice_get_some (program_of w).insns ip (let less = slice_get_within w.plan.ops.items ip op is in omega (arith, less, plan.as_many)) in
      (some.0, some.1, plan.each ip op some.0 is some.1)

module _ (w : SearchInput) (has : HasUnitsForTables w.encoding w.text) (plan : IsPlanOf (is_16_bit_encoding w.encoding) (program_of w) w.plan)
    (opens : ℕ) (only : OnlyOpensGroups w.plan opens) (r : CharLoop) (there : option_and_then op_as_char_loop (slice_get w.plan.ops.items opens) ≡ Some r) where
  -- Each instruction has its operation.
  op-of : (ip : ℕ) (insn : Insn) → insn_at w ip ≡ Some insn → (op : Op) × (slice_get w.plan.ops.items ip ≡ Some op) × IsOpOf (program_of w) w.plan op ip insn
  op-of ip insn is =
      let some = slice_get_some w.plan.ops.items ip (let less = slice_get_within (program_of w).insns ip insn is in omega (arith, less, plan.as_many)) in
      (some.0, some.1, plan.each ip some.0 insn some.1 is)

  opened : (i : ℕ) → i < opens → (id : ℕ) × (insn_at w i ≡ Some (BeginCaptureGroup id))
  opened i less = by (slice_get w.plan.ops.items i) refl (only.opened i less)
    where
      by-op : (op : Op) → opens_group op ≡ true → (insn : Insn) → insn_at w i ≡ Some insn → IsOpOf (program_of w) w.plan op i insn
          → (id : ℕ) × (insn_at w i ≡ Some (BeginCaptureGroup id))
      by-op (variant.OpenGroup slot) opens insn is of = (slot, is ∙ ap Some of)
      by-op _ opens insn is of = cc

      by : (o : Option Op) → slice_get w.plan.ops.items i ≡ o → option_map_or opens_group o false ≡ true → (id : ℕ) × (insn_at w i ≡ Some (BeginCaptureGroup id))
      by None at opens = cc
      by (Some op) at opens = let insn = insn-of-op w plan i op at in by-op op opens insn.0 insn.1 insn.2

  matter : GroupsMatter (program_of w) opens
  matter = elim (cases_lt 0 opens) [
    | inl some ↦ inr (none some)
    | inr none ↦ inl (omega (arith, none))
  ]
    where
      none : 0 < opens → HasNoBackrefs (program_of w)
      none some ip group same is =
          let op = op-of ip (BackRef group same) is in
          let no : false ≡ is_backreference_op op.0 = sym (only.unasked some ip) ∙ ap (λ o. option_map_or is_backreference_op o false) op.1 in
          let yes : true ≡ is_backreference_op op.0 = op-refers (program_of w) w.plan ip op.0 (BackRef group same) op.2 in
          let both : false ≡ true = no ∙ sym yes in cc

  -- The instruction at `opens` is a char loop with the bounds and the class of `r`.
  pub record Leads : Type 0 where
    pub greedy : Bool
    pub bounds : CharLoopBounds
    pub are_there : slice_get w.plan.bounds.items r.bounds ≡ Some bounds
    pub run : insn_at w opens ≡ Some (Loop1CharBody bounds.min bounds.max greedy)
    pub body : (read : Insn) → insn_at w (opens + 1) ≡ Some read → HasClass (program_of w) w.plan r.class read

  l : Leads
  l = by (slice_get w.plan.ops.items opens) refl there
    where
      by : (o : Option Op) → slice_get w.plan.ops.items opens ≡ o → option_and_then op_as_char_loop o ≡ Some r → Leads
      by None at is = cc
      by (Some op) at is =
          let insn = insn-of-op w plan opens op at in
          let of = runs-of (program_of w) w.plan op r opens insn.0 is insn.2 in
          record {
            greedy = of.0;
            bounds = of.1.bounds;
            are_there = of.1.are_there;
            run = insn.1 ∙ ap Some of.1.insn_is;
            body = of.1.body;
          }

  pub leads-bounded : r.bounds < length w.plan.bounds.items
  leads-bounded = slice_get_within w.plan.bounds.items r.bounds l.bounds l.are_there

  -- If the loop's maximum is at least the length of the text, failures extend along the loop.
  module _ (can : TreeProgramCanSearchText (program_of w) w.tree w.text)
      (bounds : CharLoopBounds) (bounds_are : slice_get w.plan.bounds.items r.bounds ≡ Some bounds) (wide : units w.text ≤ bounds.max) where
    same_max : l.bounds.max ≡ bounds.max
    same_max = let e : Some l.bounds ≡ Some bounds = sym l.are_there ∙ bounds_are in let f : l.bounds ≡ bounds = cc in ap (λ (b : CharLoopBounds). b.max) f

    all : last_place w.text ≤ units w.text
    all = places-few w.text has.is_text (last_place w.text) (le_refl (last_place w.text))

    abbrev found : Option (ℕ → Bool)
    found = test_of (program_of w) (insn_at w (opens + 1))

    along : Along (program_of w) w.tree w.text found
    along = none-along (program_of w) w.tree w.text can l.bounds.min l.bounds.max l.greedy (omega (arith, all, wide, same_max)) opens matter found opened l.run refl

    class-of : (read : Insn) × (insn_at w (opens + 1) ≡ Some read) × HasClass (program_of w) w.plan r.class read
    class-of = by (insn_at w (opens + 1)) refl along.0
      where
        by : (o : Option Insn) → insn_at w (opens + 1) ≡ o → IsSome (test_of (program_of w) o) → (read : Insn) × (insn_at w (opens + 1) ≡ Some read) × HasClass (program_of w) w.plan r.class read
        by None at is = cc
        by (Some read) at is = (read, at, l.body read at)

    module _ (class : Class) (class_is : slice_get w.plan.classes.items r.class ≡ Some class) where
      body-is : insn_at w (opens + 1) ≡ Some (insn_as_spec_insn class.insn)
      body-is =
          let e : Some class-of.2.class ≡ Some class = sym class-of.2.is_there ∙ class_is in
          let same : class-of.2.class ≡ class = cc in
          class-of.1 ∙ ap Some class-of.2.is_class ∙ ap (λ (k : Class). Some (insn_as_spec_insn k.insn)) same

      tests-one : IsSome (test_of (program_of w) (Some (insn_as_spec_insn class.insn)))
      tests-one = subst (λ (o : Option Insn). IsSome (test_of (program_of w) o)) body-is along.0

      pub leads-readable : {are_bytes : Bool} → IsClassRightForProgram (is_16_bit_encoding w.encoding) (program_of w) class
          → ((ip : ℕ) (insn : Insn) → insn_at w ip ≡ Some insn → IsTrue (is_byte_sequence_insn insn) → IsByteText w.text are_bytes) → ClassFitsText w class
      leads-readable is_class literals = record {
        is_class = is_class;
        tests = tests-one;
        bytes = λ literal. (literals (opens + 1) (insn_as_spec_insn class.insn) body-is literal).reads;
      }

      -- If the loop has advanced from a boundary, its end is a boundary, and failures extend to it.
      module _ (from : ℕ) (on : IsBoundary w.text from) (far : ℕ) (advanced : HasScannedClassCharsTo w true class from (units w.text) far) where
        tested : (test : ℕ → Bool) × IsClassTest w class test
        tested = some-of (test_of (program_of w) (Some (insn_as_spec_insn class.insn))) tests-one

        abbrev count : ℕ
        count = accepted_chars_len w.text tested.0 rightwards (units w.text) (place w.text from)

        pub leads-boundary : IsBoundary w.text far
        leads-boundary =
            advanced-boundary w.text has.is_text tested.0 rightwards (units w.text) (place w.text from) count far (advanced tested.0 tested.1)

        -- If no match begins where the loop does, none begins within the loop.
        pub leads-vain : MatchFailureExtendsUntil w from far
        leads-vain none at here le less q q_is =
            subst (λ q. match_at w.tree.root w.text q ≡ None) (let z : p.0 + (q - p.0) ≡ q = omega (arith, after) in z)
            (along.1 p.0 (q - p.0) p.3 (subst (λ n. q - p.0 ≤ n) (sym same_test) (omega (arith, after, before, few, same_row, first_is))) (none p.0 p.1))
          where
            p : (p : ℕ) × (place_at w.text from ≡ Some p) × (offset w.text p ≡ from) × (p ≤ last_place w.text)
            p = IsBoundary-place w.text from has.is_text on

            q_there : (offset w.text q ≡ at) × (q ≤ last_place w.text)
            q_there = offset-place_at w.text at q has.is_text q_is

            first_is : place w.text from ≡ p.0
            first_is = ap (λ o. unwrap_or o 0) p.1

            same_row : prefix_len tested.0 (nearest_first w.text rightwards (place w.text from)) ≡ prefix_len tested.0 (nearest_first w.text rightwards p.0)
            same_row = ap (λ i. prefix_len tested.0 (nearest_first w.text rightwards i)) first_is

            -- The test that was found accepts as many characters as that of the class.
            same_test : prefix_len (test_in found) (nearest_first w.text rightwards p.0) ≡ prefix_len tested.0 (nearest_first w.text rightwards p.0)
            same_test =
                ap (λ o. prefix_len (test_in o) (nearest_first w.text rightwards p.0)) (ap (test_of (program_of w)) body-is ∙ tested.1)

            after : p.0 ≤ q
            after = place-le w.text p.0 q has.is_text p.3 q_there.1 (omega (arith, le, p.2, q_there.0))

            before : q < place w.text from + count
            before =
                let a = advanced tested.0 tested.1 in
                place-less w.text q (place w.text from + count) has.is_text q_there.1 a.within (omega (arith, less, q_there.0, a.there))

            few : count ≤ prefix_len tested.0 (nearest_first w.text rightwards (place w.text from))
            few = omega arith
