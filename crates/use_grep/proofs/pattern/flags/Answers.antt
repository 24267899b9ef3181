use Rattle.use_grep.proofs.Searched.{flags-of_case}
use Rattle.use_grep.proofs.pattern.flags.Goals as goal

pub returns : goal.returns
returns c =
    let d = c.default.ensures in
    let f = c.default.result in
    flags-of_case c.args.options.now.ignore_case f.multiline f.dot_all f.no_opt f.unicode f.unicode_sets d.1.0 d.1.1.0 d.1.1.1.0 d.1.1.1.1.0 d.1.1.1.1.1
