use Rattle.std.proofs.Common.{◌≤◌, length, sym, ap, subst, ◌∙◌, arith}
use Rattle.regex_parser.specs.SyntaxDialects.{spec_syntax_of}
use Rattle.regex_parser.specs.ParenthesisDepth.{greatest_parenthesis_depth_in}
use Rattle.regress_match.specs.PublicFlagsAsSpecFlags.{spec_flags_of}
use Rattle.regress_match.specs.CompileErrors.{IsPatternRefusedWithSyntax}
use Rattle.regress_c.specs.Compiling.{given_with_syntax}
use Rattle.regress_c.proofs.CompilingLemmas.{error-refuses}
use Rattle.regress_c.proofs.compiling.compiled.Goals as goal

pub returns : goal.returns
returns g c =
    let characters = g.S.Source.characters c.args.source.now in
    let asked = given_with_syntax c.args.syntax (g.S.Source.is_text c.args.source.now) characters c.args.flags.now in
    let read = c.in_ok-code_points.ensures in
    let short : length characters ≤ c.args.bounds.length =
    let len = c.len.ensures ∙ sym c.deref.ensures.len ∙ ap length (c.deref.ensures.value ∙ read.1) in let test = c.if-len-bounds.false in omega (arith, len, test) in
    let shallow : greatest_parenthesis_depth_in characters ≤ c.args.bounds.nesting =
    let deep = c.nesting.ensures ∙ ap greatest_parenthesis_depth_in (c.deref.ensures.value ∙ read.1) in let test = c.if-nesting-bounds.false in omega (arith, deep, test) in
    error-refuses asked c.args.bounds (record { letters = c.in_ok-flags.ensures.0; text = read.0 }) (record { length_is = short; nesting_is = shallow })
    c.in-Err.error c.of_error.result
    (subst (λ f. IsPatternRefusedWithSyntax (spec_syntax_of c.args.syntax) f characters c.in-Err.error) c.in_ok-flags.ensures.1
    (subst (λ cs. IsPatternRefusedWithSyntax (spec_syntax_of c.args.syntax) (spec_flags_of c.in_ok-flags.flags) cs c.in-Err.error) (c.deref-2.ensures.value ∙ read.1) c.in-Err.ensures.refused))
    c.of_error.ensures
