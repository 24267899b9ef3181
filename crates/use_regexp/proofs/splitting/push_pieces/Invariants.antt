use Rattle.std.proofs.Common.{◌≡◌, ◌++◌, map, take}
use Rattle.std.specs.Prelude.{option_map}
use Rattle.regress_search.specs.MatchesAsSpecAnswers.{range_as_pair}
use Rattle.use_regexp.proofs.splitting.push_pieces.Given as goal

abbrev pub invariant-loop-group : goal.invariant-loop-group
invariant-loop-group l =
    map (option_map range_as_pair) l.pieces.items
    ≡ map (option_map range_as_pair) l.initial.pieces.items ++ map (option_map range_as_pair) (take l.group-index l.found.captures.items)
