use Rattle.std.proofs.Common.{◌≡◌, ◌+◌, filter, map, take}
use Rattle.use_grep.specs.Selecting.{is_selected, numbered, shown}
use Rattle.use_grep.proofs.select.selected.Given as goal

abbrev pub invariant-loop-line : goal.invariant-loop-line
invariant-loop-line l =
    (l.number ≡ l.before + l.line-index)
    × (map shown l.found.items ≡ filter (λ x. is_selected l.re l.invert x.1) (numbered (l.before + 1) (map (λ x. x.now) (take l.line-index l.lines))))
