use Rattle.regress_match.proofs.FlagLemmas.{flags-none}
use Rattle.use_highlighter.proofs.tokens.flags.Goals as goal

pub returns : goal.returns
returns c =
    let d = c.default.ensures in
    let f = c.default.result in
    flags-none f.icase f.multiline f.dot_all f.no_opt f.unicode f.unicode_sets d.0 d.1.0 d.1.1.0 d.1.1.1.0 d.1.1.1.1.0 d.1.1.1.1.1
