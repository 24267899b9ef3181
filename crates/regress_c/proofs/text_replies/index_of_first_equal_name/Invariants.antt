use Rattle.std.proofs.Common.{◌≡◌, drop, map, string_bytes, bytes_eq, slice_get}
use Rattle.regex_meaning.specs.MatchGroupsByNumberAndName.{ids_where}
use Rattle.regress_c.specs.GroupNumbers.{index_of_first_name}
use Rattle.regress_c.proofs.text_replies.index_of_first_equal_name.Given as goal

-- the first name that is equal is the first from here on
abbrev pub invariant-loop-index : goal.invariant-loop-index
invariant-loop-index l =
    index_of_first_name l.name (map string_bytes l.names) ≡ slice_get (ids_where (bytes_eq l.name) l.index (drop l.index (map string_bytes l.names))) 0
