use Rattle.std.proofs.Common.{◌≡◌, ◌∙◌, chars}
use Rattle.regex_meaning.specs.Grammar.{ParsesBy}
use Rattle.regex_meaning.specs.MatchGroupsByNumberAndName.{answers_from}
use Rattle.regex_meaning.specs.Text.{utf8_text}
use Rattle.regex_meaning.specs.Tree.{Tree}
use Rattle.regex_parser.specs.SyntaxDialects.{spec_syntax_of}
use Rattle.regex_parser.specs.declared.syntax.Syntax.{Syntax}
use Rattle.regex_parser.specs.declared.syntax.Syntax.TheVariants.{Profile, EcmaScript2018}
use Rattle.regress_match.specs.ProgramTreesAndAnswers.{IsCompiledWithSyntax, tree_for_16_bit_units, utf8_answers}
use Rattle.regress_match.specs.PublicFlagsAsSpecFlags.{spec_flags_of}
use Rattle.use_modules.proofs.all_matches.all_matches.Goals as goal

pub returns-in-Ok-clause-matches : goal.returns-in-Ok-clause-matches
returns-in-Ok-clause-matches c =
    let re = c.in_ok-re.re in
    let tree = tree_for_16_bit_units re in
    let is = c.in_ok-re.ensures.compiled in
    (tree, is.parsed, c.in-Ok.ensures ∙ answers c.args.syntax tree is is.parsed)
  where
    answers : (s : Syntax) (tree : Tree)
        → IsCompiledWithSyntax (spec_syntax_of s) (spec_flags_of c.args.flags) (chars c.args.pattern.now) c.in_ok-re.re
        → ParsesBy (spec_syntax_of s) (spec_flags_of c.args.flags) (chars c.args.pattern.now) tree
        → utf8_answers c.in_ok-re.re c.args.text.now 0 ≡ answers_from tree.root (utf8_text c.args.text.now (spec_flags_of c.args.flags).unicode) 0
    answers Profile tree is parsed = (c.searches_follow_the_pattern.ensures _ _ c.in_ok-re.re tree is parsed c.args.text.now 0).0
    answers EcmaScript2018 tree is parsed = (c.searches_follow_the_ecmascript_pattern.ensures _ _ c.in_ok-re.re tree is parsed c.args.text.now 0).0
