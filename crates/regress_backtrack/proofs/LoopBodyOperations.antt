-- The checks of the operations of a loop body hold for the instructions of these operations.
use Rattle.std.proofs.Common.{◌≡◌, ◌≤◌, ◌<◌, ℕ, zero, suc, ◌+◌, List, [], ◌∷◌, length, Option, Some, None, Bool, true, false, sym, subst, ◌∙◌, ap, refl, arith, slice_get}
use Rattle.std.specs.Prelude.{if◌then◌else◌}
use Rattle.std.proofs.lemmas.Option.{slice_get_within}
use Rattle.regex_meaning.specs.CompilationRelation as layout
use Rattle.regex_meaning.specs.CompilationRelation.{Program, Insn, CharSet, ByteSet, AsciiBracket, Bracket, MatchAny, MatchAnyExceptLineTerminator, WordBoundary, WordBoundaryUnicodeICase, Lookahead}
use Rattle.regex_meaning.specs.CompilationRelation.{Lookbehind, BackRef}
use Rattle.regress_program.specs.LeadingCharLoops.{is_backreference_op}
use Rattle.regress_program.specs.declared.ops.Op.{Op}
use Rattle.regress_program.specs.declared.ops.Op.TheVariants.{Goal, Fail, UnitChar, Char, Bytes, One, LineStart, LineEnd, WordEdge, Goto, Either, Enter, LoopEnd, PossessiveCharLoop, GreedyCharLoop}
use Rattle.regress_program.specs.declared.ops.Op.TheVariants.{LazyCharLoop, OpenGroup, CloseGroup, ResetGroup, MatchBackref, Look}
use Rattle.regress_program.specs.declared.plan.Plan.{Plan}
use Rattle.regress_program.specs.Plans.{reads_class_char, IsOpOf, IsPlanOf}
use Rattle.regress_search.proofs.LeadingLoopOperations.{is_backref_insn, op-refers}
use Rattle.regress_backtrack.specs.RepeatableLoopBodies.{LookaroundInsnContinuesBy, MayContinue, StaysInBody, LookaroundContentsStayInside, IsNoBackreference}
use Rattle.regress_backtrack.specs.SurplusRequiredIterations.{following_of, following_group_change, MayContinueAt, lookaround_end, ContinuesAfter, contents_of_op, AreLookaroundContentsClosed}

-- ---- Classes, edges of words and lookarounds

class-apart : (P : Insn → Type 0) → ((members : List ℕ) → P (CharSet members)) → ((members : List ℕ) → P (ByteSet members)) → ((members : List ℕ) → P (AsciiBracket members)) → ((index : ℕ) → P (Bracket index))
    → P MatchAny → P MatchAnyExceptLineTerminator → (insn : Insn) → reads_class_char insn ≡ true → P insn
class-apart P a b c e f g (CharSet members) h = a members
class-apart P a b c e f g (ByteSet members) h = b members
class-apart P a b c e f g (AsciiBracket members) h = c members
class-apart P a b c e f g (Bracket index) h = e index
class-apart P a b c e f g MatchAny h = f
class-apart P a b c e f g MatchAnyExceptLineTerminator h = g
class-apart P a b c e f g _ h = cc

edge-apart : (P : Insn → Type 0) → ((invert : Bool) → P (WordBoundary invert)) → ((invert : Bool) → P (WordBoundaryUnicodeICase invert)) → (icase invert : Bool)
    → P (if icase then WordBoundaryUnicodeICase invert else WordBoundary invert)
edge-apart P a b true invert = b invert
edge-apart P a b false invert = a invert

look-apart : (P : Insn → Type 0) → (forward negate : Bool) (first last past : ℕ) → P (Lookahead negate first last past) → P (Lookbehind negate first last past)
    → P (if forward then Lookahead negate first last past else Lookbehind negate first last past)
look-apart P true negate first last past a b = a
look-apart P false negate first last past a b = b

module _ (program : Program) (plan : Plan) where
  -- ---- Where a thread may continue

  module _ (changes : Bool) (stop ip : ℕ) where
    abbrev Stays : Insn → Type 0
    Stays insn = StaysInBody changes program stop ip insn

    group-stays : (insn : Insn) → ((changes ≡ true) × MayContinue program stop ip (ip + 1) → Stays insn) → (b : Bool) → changes ≡ b → MayContinueAt program stop ip (following_group_change b) → Stays insn
    group-stays insn stays true is h = stays (is, h)
    group-stays insn stays false is h = absurd h

    pub op-stays : (op : Op) (insn : Insn) → MayContinueAt program stop ip (following_of changes op) → IsOpOf program plan op ip insn → StaysInBody changes program stop ip insn
    op-stays Goal insn h is = subst Stays (sym is) tt
    op-stays Fail insn h is = subst Stays (sym is) tt
    op-stays (Goto to) insn h is = subst Stays (sym is) h
    op-stays (Either other) insn h is = subst Stays (sym is) h
    op-stays (UnitChar c) insn h is = subst Stays (sym is) h
    op-stays (Char c) insn h is = subst Stays (sym is) h
    op-stays (Bytes number) insn h is = subst Stays (sym is.insn_is) h
    op-stays (One number) insn h is = class-apart Stays (λ m. h) (λ m. h) (λ m. h) (λ i. h) h h insn is.1
    op-stays (LineStart multiline) insn h is = subst Stays (sym is) h
    op-stays (LineEnd multiline) insn h is = subst Stays (sym is) h
    op-stays (WordEdge edge) insn h is = subst Stays (sym is) (edge-apart Stays (λ i. h) (λ i. h) edge.unicode_icase edge.invert)
    op-stays (PossessiveCharLoop r) insn h is = subst Stays (sym is.insn_is) h
    op-stays (GreedyCharLoop r) insn h is = subst Stays (sym is.insn_is) h
    op-stays (LazyCharLoop r) insn h is = subst Stays (sym is.insn_is) h
    op-stays (OpenGroup slot) insn h is = subst Stays (sym is) (group-stays (layout.BeginCaptureGroup slot) (λ s. s) changes refl h)
    op-stays (CloseGroup slot) insn h is = subst Stays (sym is) (group-stays (layout.EndCaptureGroup slot) (λ s. s) changes refl h)
    op-stays (ResetGroup slot) insn h is = subst Stays (sym is) (group-stays (layout.ResetCaptureGroup slot) (λ s. s) changes refl h)
    op-stays (Look l) insn h is = subst Stays (sym is.insn_is) (look-apart Stays l.forward l.negate is.start_group is.end_group l.past h h)
    op-stays (Enter number) insn h is = absurd h
    op-stays (LoopEnd number) insn h is = absurd h
    op-stays (MatchBackref again) insn h is = absurd h

  -- ---- Lookarounds

  module _ (ip to : ℕ) where
    abbrev Ends : Insn → Type 0
    Ends insn = LookaroundInsnContinuesBy to insn

    pub op-ends-by : (op : Op) (insn : Insn) → lookaround_end op ≤ to → IsOpOf program plan op ip insn → LookaroundInsnContinuesBy to insn
    op-ends-by Goal insn h is = subst Ends (sym is) tt
    op-ends-by Fail insn h is = subst Ends (sym is) tt
    op-ends-by (UnitChar c) insn h is = subst Ends (sym is) tt
    op-ends-by (Char c) insn h is = subst Ends (sym is) tt
    op-ends-by (Bytes number) insn h is = subst Ends (sym is.insn_is) tt
    op-ends-by (LineStart multiline) insn h is = subst Ends (sym is) tt
    op-ends-by (LineEnd multiline) insn h is = subst Ends (sym is) tt
    op-ends-by (Goto to) insn h is = subst Ends (sym is) tt
    op-ends-by (Either other) insn h is = subst Ends (sym is) tt
    op-ends-by (Enter number) insn h is = subst Ends (sym is.insn_is) tt
    op-ends-by (LoopEnd number) insn h is = subst Ends (sym is.insn_is) tt
    op-ends-by (PossessiveCharLoop r) insn h is = subst Ends (sym is.insn_is) tt
    op-ends-by (GreedyCharLoop r) insn h is = subst Ends (sym is.insn_is) tt
    op-ends-by (LazyCharLoop r) insn h is = subst Ends (sym is.insn_is) tt
    op-ends-by (OpenGroup slot) insn h is = subst Ends (sym is) tt
    op-ends-by (CloseGroup slot) insn h is = subst Ends (sym is) tt
    op-ends-by (ResetGroup slot) insn h is = subst Ends (sym is) tt
    op-ends-by (One number) insn h is = class-apart Ends (λ m. tt) (λ m. tt) (λ m. tt) (λ i. tt) tt tt insn is.1
    op-ends-by (WordEdge edge) insn h is = subst Ends (sym is) (edge-apart Ends (λ i. tt) (λ i. tt) edge.unicode_icase edge.invert)
    op-ends-by (MatchBackref again) insn h is = subst Ends (sym is) tt
    op-ends-by (Look l) insn h is = subst Ends (sym is.insn_is) (look-apart Ends l.forward l.negate is.start_group is.end_group l.past h h)

    look-continues : (l : ℕ) (forward negate : Bool) (first last past : ℕ) → to < past → slice_get program.insns l ≡ Some (if forward then Lookahead negate first last past else Lookbehind negate first last past) → ContinuesAfter program l to
    look-continues l true negate first last past less e = record { insn = Lookahead negate first last past; is_there = e; after = λ le. omega (arith, le, less) }
    look-continues l false negate first last past less e = record { insn = Lookbehind negate first last past; is_there = e; after = λ le. omega (arith, le, less) }

  pub op-continues-after : (l to : ℕ) (op : Op) (insn : Insn) → to < lookaround_end op → slice_get program.insns l ≡ Some insn → IsOpOf program plan op l insn → ContinuesAfter program l to
  op-continues-after l to (Look k) insn less e is = look-continues l to l k.forward k.negate is.start_group is.end_group k.past less (e ∙ ap Some is.insn_is)
  op-continues-after l to _ insn less e is = absurd (omega (arith, less))

  module _ (changes : Bool) (from ip : ℕ) where
    abbrev Closed : Insn → Type 0
    Closed insn = LookaroundContentsStayInside changes program from ip insn

    pub op-closes : (op : Op) (insn : Insn) → AreLookaroundContentsClosed changes program from ip (contents_of_op op) → IsOpOf program plan op ip insn → LookaroundContentsStayInside changes program from ip insn
    op-closes Goal insn h is = subst Closed (sym is) h
    op-closes Fail insn h is = subst Closed (sym is) tt
    op-closes (UnitChar c) insn h is = subst Closed (sym is) tt
    op-closes (Char c) insn h is = subst Closed (sym is) tt
    op-closes (Bytes number) insn h is = subst Closed (sym is.insn_is) tt
    op-closes (LineStart multiline) insn h is = subst Closed (sym is) tt
    op-closes (LineEnd multiline) insn h is = subst Closed (sym is) tt
    op-closes (Goto to) insn h is = subst Closed (sym is) tt
    op-closes (Either other) insn h is = subst Closed (sym is) tt
    op-closes (Enter number) insn h is = subst Closed (sym is.insn_is) tt
    op-closes (LoopEnd number) insn h is = subst Closed (sym is.insn_is) tt
    op-closes (PossessiveCharLoop r) insn h is = subst Closed (sym is.insn_is) tt
    op-closes (GreedyCharLoop r) insn h is = subst Closed (sym is.insn_is) tt
    op-closes (LazyCharLoop r) insn h is = subst Closed (sym is.insn_is) tt
    op-closes (OpenGroup slot) insn h is = subst Closed (sym is) tt
    op-closes (CloseGroup slot) insn h is = subst Closed (sym is) tt
    op-closes (ResetGroup slot) insn h is = subst Closed (sym is) tt
    op-closes (One number) insn h is = class-apart Closed (λ m. tt) (λ m. tt) (λ m. tt) (λ i. tt) tt tt insn is.1
    op-closes (WordEdge edge) insn h is = subst Closed (sym is) (edge-apart Closed (λ i. tt) (λ i. tt) edge.unicode_icase edge.invert)
    op-closes (MatchBackref again) insn h is = subst Closed (sym is) tt
    op-closes (Look l) insn h is = subst Closed (sym is.insn_is) (look-apart Closed l.forward l.negate is.start_group is.end_group l.past h h)

  -- ---- Backreferences

  none-refers : (insn : Insn) → is_backref_insn insn ≡ false → IsNoBackreference insn
  none-refers (BackRef group same) h = cc
  none-refers _ h = tt

  pub op-is-no-backreference : (ip : ℕ) (op : Op) (insn : Insn) → is_backreference_op op ≡ false → IsOpOf program plan op ip insn → IsNoBackreference insn
  op-is-no-backreference ip op insn h is = none-refers insn (op-refers program plan ip op insn is ∙ h)

-- Each instruction has an operation.
module _ (wide : Bool) (program : Program) (plan : Plan) (is_plan : IsPlanOf wide program plan) where
  none-past : {X : Type 0} (xs : List X) (i : ℕ) → slice_get xs i ≡ None → length xs ≤ i
  none-past [] i e = omega arith
  none-past (x ∷ xs) zero e = cc
  none-past (x ∷ xs) (suc i) e = let le = none-past xs i e in omega (arith, le)

  pub record InsnOf (ip : ℕ) (op : Op) : Type 0 where
    pub insn : Insn
    pub is_there : slice_get program.insns ip ≡ Some insn
    pub is : IsOpOf program plan op ip insn

  pub insn-of : (ip : ℕ) (op : Op) → slice_get plan.ops.items ip ≡ Some op → InsnOf ip op
  insn-of ip op e = by (slice_get program.insns ip) refl
    where
      by : (o : Option Insn) → slice_get program.insns ip ≡ o → InsnOf ip op
      by None q =
          let inside = slice_get_within plan.ops.items ip op e in
          let past = none-past program.insns ip q in
          let many = is_plan.as_many in
          absurd (omega (arith, inside, past, many))
      by (Some insn) q = record { insn = insn; is_there = q; is = is_plan.each ip op insn e q }
