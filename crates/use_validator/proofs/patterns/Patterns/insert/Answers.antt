use Rattle.use_validator.proofs.Kept.{kept-after}
use Rattle.use_validator.proofs.patterns.Patterns.insert.Goals as goal

pub invariant_of-self : goal.invariant_of-self
invariant_of-self c =
    let self = c.args.self.now in
    record {
      compiled_from_their_texts =
          kept-after c.args.pattern c.args.re c.requires c.insert.result self.compiled.entries _ self.compiled_from_their_texts c.insert.ensures.entries c.insert.ensures.err;
    }
