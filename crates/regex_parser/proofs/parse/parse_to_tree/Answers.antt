use Rattle.std.proofs.Common.{refl, subst}
use Rattle.regex_meaning.specs.Grammar.{ParsesBy}
use Rattle.regex_parser.specs.SyntaxDialects.{spec_syntax_of}
use Rattle.regex_parser.specs.ParserContracts.{tree_of_root_and_flags}
use Rattle.regex_pattern_front.specs.AstToSpecTree.{spec_flags_of}
use Rattle.regex_parser.proofs.DialectRequirementLemmas.{readable}
use Rattle.regex_parser.proofs.ParserContractsLemmas.{err-parsed, begun, groups-known-in, no-tree-same, read-whole}
use Rattle.regex_parser.proofs.parse.parse_to_tree.Goals as goal

pub returns-in_err-read_all-clause-tree : goal.returns-in_err-read_all-clause-tree
returns-in_err-read_all-clause-tree c = λ names found are few.
    let known = groups-known-in (readable c.args.syntax) c.args.flags c.args.found.count c.has_named_groups.result c.args.found.numbers names are few c.has_named_groups.ensures in
    err-parsed (spec_syntax_of c.args.syntax) _ (spec_flags_of c.args.flags) c.args.pattern.now c.from_residual.result _ c.from_residual.ensures.1 (λ x h. h)
    (λ r. c.in_err-read_all.ensures.text r c.args.pattern.now names
    (begun c.args.pattern.now names _ found known refl refl c.new-2.ensures.items c.new.ensures.level))

pub returns-in_err-node-clause-tree : goal.returns-in_err-node-clause-tree
returns-in_err-node-clause-tree c = λ names found are few.
    let known = groups-known-in (readable c.args.syntax) c.args.flags c.args.found.count c.has_named_groups.result c.args.found.numbers names are few c.has_named_groups.ensures in
    err-parsed (spec_syntax_of c.args.syntax) _ (spec_flags_of c.args.flags) c.args.pattern.now c.from_residual-in_err-node.result _ c.from_residual-in_err-node.ensures.1 (λ x h. h)
    (λ r. no-tree-same c.in_ok-read_all.ensures.same.2 c.in_ok-read_all.ensures.same.0
    (c.in_err-node.ensures.tree c.args.pattern.now names
    (read-whole c.args.pattern.now names _ c.read_all.new.self (begun c.args.pattern.now names _ found known refl refl c.new-2.ensures.items c.new.ensures.level)
    c.in_ok-read_all.ensures.text c.in_ok-read_all.ensures.end) r))

pub returns-clause-tree : goal.returns-clause-tree
returns-clause-tree c = λ names found are few.
    let known = groups-known-in (readable c.args.syntax) c.args.flags c.args.found.count c.has_named_groups.result c.args.found.numbers names are few c.has_named_groups.ensures in
    let node = c.in_ok-node.node in
    subst (λ x. ParsesBy (spec_syntax_of x) (spec_flags_of c.args.flags) c.args.pattern.now (tree_of_root_and_flags (spec_flags_of c.args.flags) node)) c.in_ok-read_all.ensures.same.2
    (subst (λ x. ParsesBy (spec_syntax_of c.read_all.new.self.leaves.syntax) (spec_flags_of x) c.args.pattern.now (tree_of_root_and_flags (spec_flags_of x) node)) c.in_ok-read_all.ensures.same.0
    (c.in_ok-node.ensures.tree c.args.pattern.now names
    (read-whole c.args.pattern.now names _ c.read_all.new.self (begun c.args.pattern.now names _ found known refl refl c.new-2.ensures.items c.new.ensures.level)
    c.in_ok-read_all.ensures.text c.in_ok-read_all.ensures.end)))
