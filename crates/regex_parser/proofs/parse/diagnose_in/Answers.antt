use Rattle.regex_meaning.specs.Grammar.{ParsesBy}
use Rattle.regex_parser.specs.ParserContracts.{IsTextRefusedIn}
use Rattle.regex_parser.specs.SyntaxDialects.{spec_syntax_of}
use Rattle.regex_pattern_front.specs.AstToSpecTree.{spec_flags_of, tree_of}
use Rattle.regex_parser.proofs.ParserContractsLemmas.{told}
use Rattle.regex_parser.proofs.parse.diagnose_in.Goals as goal

pub returns-clause-by_grammar : goal.returns-clause-by_grammar
returns-clause-by_grammar c =
    let s = spec_syntax_of c.args.syntax in
    let flags = spec_flags_of c.args.flags in
    told tree_of (λ t. ParsesBy s flags c.args.pattern.now t) (IsTextRefusedIn s flags c.args.pattern.now) c.in_ok-parse_or_diagnose_in.field-0 c.err.result c.err.ensures.value
    c.in_ok-parse_or_diagnose_in.ensures.tree.0 c.in_ok-parse_or_diagnose_in.ensures.tree.1
