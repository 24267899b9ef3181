use Rattle.std.proofs.Common.{refl, subst, ◌∙◌, Err}
use Rattle.std.specs.Result.{result_map_both}
use Rattle.regress_c.specs.Compiling.{IsCompileResultForHandle, RepliesCompileResult, given_with_syntax}
use Rattle.regress_c.specs.declared.refusal.Refusal.TheVariants.{Full}
use Rattle.regress_c.proofs.compiling.compile.Goals as goal

pub returns-in-Some : goal.returns-in-Some
returns-in-Some g c =
    let held = c.in-Some.ensures.taken in
    let asked = given_with_syntax c.args.syntax (g.S.Source.is_text c.args.source.now) (g.S.Source.characters c.args.source.now) c.args.flags.now in
    (Err Full, subst (λ h. IsCompileResultForHandle h asked c.args.bounds (Err Full)) held refl, c.code.ensures, c.put.ensures ∙ held)

pub returns-in-None : goal.returns-in-None
returns-in-None g c =
    let asked = given_with_syntax c.args.syntax (g.S.Source.is_text c.args.source.now) (g.S.Source.characters c.args.source.now) c.args.flags.now in
    subst (λ h. RepliesCompileResult h asked c.args.bounds c.fill.new.pattern.held c.fill.result) c.in-None.ensures.taken
    (result_map_both (λ b. b.value) (λ e. e) c.compiled.result, c.compiled.ensures, c.fill.ensures.code, c.fill.ensures.held)
