use Rattle.std.proofs.Common.{chars, subst}
use Rattle.std.specs.Prelude.{IfOk}
use Rattle.regex_meaning.specs.EcmaGrammarWithAnnexB.{ecmascript}
use Rattle.regress_match.specs.ProgramTreesAndAnswers.{IsCompiledWithSyntax}
use Rattle.use_validator.proofs.patterns.read.Goals as goal

pub returns : goal.returns
returns c =
    subst (λ f. IfOk c.with_syntax.result (IsCompiledWithSyntax ecmascript f (chars c.args.pattern.now))) c.flags.ensures c.with_syntax.ensures.compiled
