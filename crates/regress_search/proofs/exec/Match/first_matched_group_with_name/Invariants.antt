use Rattle.std.proofs.Common.{◌≡◌, drop, map, string_bytes, bytes_eq}
use Rattle.regex_meaning.specs.MatchGroupsByNumberAndName.{first_range, ids_named, ids_where}
use Rattle.regress_search.specs.MatchesAsSpecAnswers.{answer_of}
use Rattle.regress_search.proofs.exec.Match.first_matched_group_with_name.Given as goal

-- the range is the first among the groups from here on
abbrev pub invariant-loop-id : goal.invariant-loop-id
invariant-loop-id l =
    first_range (answer_of l.self) (ids_named (answer_of l.self) l.name)
    ≡ first_range (answer_of l.self) (ids_where (bytes_eq l.name) l.id (drop l.id (map string_bytes l.names)))
