use Rattle.std.proofs.Common.{◌+◌, ◌∙◌, ap, map, sym}
use Rattle.use_grep.specs.Selecting.{has_match, lines_of, shown}
use Rattle.use_grep.proofs.Lines.{none-numbered}
use Rattle.use_grep.proofs.select.matching_lines_of_text.Goals as goal

pub returns-then-not-branch-clause-selected : goal.returns-then-not-branch-clause-selected
returns-then-not-branch-clause-selected c =
    let query = c.args.query.now in
    let text = c.args.text.now in
    let none = query.none_in_lines c.if-query.true text c.utf8.text (sym c.in_ok-is_selected.ensures.selected ∙ c.if-not-branch.true) in
    ap (map shown) c.new.ensures.items ∙ sym (none-numbered (has_match query.re) (c.args.before + 1) (lines_of text) none)
