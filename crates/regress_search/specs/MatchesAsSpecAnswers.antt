-- The specification's answer that a `Match` represents.
use Rattle.std.specs.Prelude.{ℕ, List, map, option_map}
use Rattle.std.specs.declared.ops.Range.{Range}
use Rattle.regex_meaning.specs.MatchGroupsByNumberAndName.{Answer}
use Rattle.regex_meaning.specs.Outcomes.{Groups}
use Rattle.regress_search.specs.declared.exec.Match.{Match}

-- A declared range as a pair of its start and end.
abbrev pub range_as_pair : Range ℕ → ℕ × ℕ
range_as_pair r = (r.start, r.end)

-- The answer that a match represents: its range, and its groups and names by id.
abbrev pub answer_of : Match → Answer
answer_of m = record {
  range = range_as_pair m.range;
  captures = map (option_map range_as_pair) m.captures.items;
  names = m.names;
}

-- The answer with this range, groups and names.
abbrev pub answer_from_parts : (start end : ℕ) → Groups → (names : List (List ℕ)) → Answer
answer_from_parts start end groups names = record { range = (start, end); captures = groups; names = names }
