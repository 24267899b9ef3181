use Rattle.use_validator.proofs.Kept.{kept-found}
use Rattle.use_validator.proofs.patterns.Patterns.get.Goals as goal

pub returns : goal.returns
returns c = kept-found c.args.pattern.now c.args.self.now.compiled.entries c.get.result c.args.self.now.compiled_from_their_texts c.get.ensures.value
