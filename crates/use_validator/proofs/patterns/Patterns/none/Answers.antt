use Rattle.std.proofs.Common.{subst, sym}
use Rattle.use_validator.specs.Patterns.{AreProgramsOf}
use Rattle.use_validator.proofs.patterns.Patterns.none.Goals as goal

pub invariant_of-result : goal.invariant_of-result
invariant_of-result c = record { compiled_from_their_texts = ∣ subst AreProgramsOf (sym c.new-compiled.ensures.empty) tt ∣₁ }
