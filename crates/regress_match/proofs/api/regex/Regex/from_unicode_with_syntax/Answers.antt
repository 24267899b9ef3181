use Rattle.std.proofs.Common.{◌∙◌, ap, sym, subst, IsTrue}
use Rattle.regex_meaning.specs.CompilationRelation.{IsByteProgramOfTree, Is16BitProgramOfTree}
use Rattle.regex_meaning.specs.Tree.{Tree}
use Rattle.regex_meaning.specs.WellFormedTrees.{IsWellFormed}
use Rattle.regex_pattern_front.specs.OptimizedTrees.{has_no_char_loops}
use Rattle.regex_pattern_front.specs.AstToSpecTree.{tree_of, spec_flags_of}
use Rattle.regress_program.specs.CompilationOfTreesAsFunction.{compiled}
use Rattle.regress_program.specs.OptimizedTreeUnlessNoOpt.{optimized_tree_unless_no_opt}
use Rattle.regress_program.specs.CompileRefusals.{Is16BitUnitCompileErrorCause, IsCompileErrorCause}
use Rattle.regex_parser.specs.ParseErrors.{IsParseErrorIn}
use Rattle.regex_meaning.specs.Grammar.{ParsesBy}
use Rattle.regex_parser.specs.SyntaxDialects.{spec_syntax_of}
use Rattle.regress_match.specs.CompileErrors.{error_of_emit, error_of_parse}
use Rattle.regress_match.proofs.CompileErrorLemmas.{parse-refuses, emit-refuses, err-refused, reads-not}
use Rattle.regress_match.proofs.api.regex.Regex.from_unicode_with_syntax.Goals as goal

pub returns-clause-compiled : goal.returns-clause-compiled
returns-clause-compiled c =
    let parsed = c.in_ok-parsed.ensures in
    let both = c.in_ok-byte_program.ensures in
    record {
      parsed = subst (ParsesBy _ _ _) (sym (ap tree_of both.units)) (subst (λ f. ParsesBy (spec_syntax_of c.args.syntax) f c.args.pattern.now (tree_of c.in_ok-parsed.parsed)) c.for_front.ensures parsed.tree);
      flags = ap (λ t. (tree_of t).flags) both.units ∙ ap spec_flags_of parsed.flags ∙ c.for_front.ensures;
      well_formed = subst (λ t. IsWellFormed (tree_of t).root) (sym both.units) parsed.well_formed;
      plain = subst (λ t. IsTrue (has_no_char_loops (tree_of t).root)) (sym both.units) parsed.plain;
      units = subst (λ t. Is16BitProgramOfTree (compiled (tree_of t)) (tree_of t)) (sym both.units) both.unit_code;
      optimized = both.bytes ∙ ap (λ t. optimized_tree_unless_no_opt (tree_of t)) (sym both.units);
      bytes = subst (λ (t : Tree). IsByteProgramOfTree (compiled t) t) (sym both.bytes) both.byte_code;
    }

pub returns-in_err-parsed-clause-refused : goal.returns-in_err-parsed-clause-refused
returns-in_err-parsed-clause-refused c =
    let e = c.in_err-parsed.field-0.0 in
    err-refused c.from_residual.result (error_of_parse e) _ _ (λ x h. h) c.from_residual.ensures.1
    (parse-refuses c.args.syntax _ _ e (subst (λ f. IsParseErrorIn (spec_syntax_of c.args.syntax) f c.args.pattern.now e) c.for_front.ensures c.in_err-parsed.ensures.refused))

pub returns-in_err-byte_program-clause-refused : goal.returns-in_err-byte_program-clause-refused
returns-in_err-byte_program-clause-refused c =
    let tree = tree_of c.in_ok-parsed.parsed in
    let parsed = c.in_ok-parsed.ensures in
    let e = c.in_err-byte_program.field-0.0 in
    let refused = c.in_err-byte_program.ensures.refused in
    err-refused c.from_residual-in_err-byte_program.result (error_of_emit e) _ _ (λ x h. h) c.from_residual-in_err-byte_program.ensures.1
    (emit-refuses c.args.syntax _ _ tree (subst (λ f. ParsesBy (spec_syntax_of c.args.syntax) f c.args.pattern.now tree) c.for_front.ensures parsed.tree) e
    (λ is. subst (λ x. Is16BitUnitCompileErrorCause x tree) is refused parsed.well_formed)
    (λ is. reads-not tree.root parsed.characters (subst (λ x. Is16BitUnitCompileErrorCause x tree) is refused).1)
    (subst (λ b. IsCompileErrorCause b e tree) parsed.characters refused))
